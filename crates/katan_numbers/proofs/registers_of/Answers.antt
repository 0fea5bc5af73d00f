use Rattle.std.proofs.Common.{ℕ, ◌^◌, ◌<◌, sym, ap₂, lt_of_lt_of_le, mod-eq_of_lt, pow_pos, pow_mono, rules}
use native.Mathlib.Nat.{div-eq_of_lt}
use Rattle.katan.proofs.Bits.{one_shifted}
use Rattle.katan_numbers.proofs.registers_of.Goals as goal

pub nonzero_rem-result : goal.nonzero_rem-result
nonzero_rem-result c =
    let len2 = c.args.row.len2 in
    rw (one_shifted len2 c.if-row-lt-WORD_BITS.true) (pow_pos len2)

pub returns-then-row-lt-WORD_BITS : goal.returns-then-row-lt-WORD_BITS
returns-then-row-lt-WORD_BITS c = rw (one_shifted c.args.row.len2 c.if-row-lt-WORD_BITS.true)

-- a word has no bits above L2
pub returns-else-row-lt-WORD_BITS : goal.returns-else-row-lt-WORD_BITS
returns-else-row-lt-WORD_BITS c =
    let a = c.args in
    let small : a.x < 2 ^ a.row.len2 = lt_of_lt_of_le {m = 2 ^ 64} (search rules) (pow_mono {i = 64} {j = a.row.len2} c.if-row-lt-WORD_BITS.false) in
    ap₂ (λ (x y : ℕ). record { l1 = x; l2 = y }) (sym (div-eq_of_lt small)) (sym (mod-eq_of_lt small))
