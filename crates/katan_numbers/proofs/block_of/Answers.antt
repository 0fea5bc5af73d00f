use Rattle.std.proofs.Common.{◌≡◌, ℕ, ◌+◌, ◌-◌, ◌*◌, ◌%◌, ◌^◌, sym, ap, ◌∙◌, mod-eq_of_lt, mul_assoc, add_comm, arith, pow-add, rules}
use native.Mathlib.Nat.{add-mul-mod_self_right}
use Rattle.katan_numbers.proofs.block_of.Goals as goal

-- L1 above a whole word is cut off
pub returns-else-row-lt-WORD_BITS : goal.returns-else-row-lt-WORD_BITS
returns-else-row-lt-WORD_BITS c =
    let a = c.args in
    let m = a.row.len2 - 64 in
    let e : a.row.len2 ≡ m + 64 = omega (arith, c.if-row-lt-WORD_BITS.false) in
    let above : a.s.l1 * 2 ^ a.row.len2 ≡ a.s.l1 * 2 ^ m * 2 ^ 64 = ap (λ (n : ℕ). a.s.l1 * 2 ^ n) e ∙ ap (a.s.l1 *◌) (pow-add 2 m 64) ∙ sym (mul_assoc a.s.l1 (2 ^ m) (2 ^ 64)) in
    sym (ap (λ (x : ℕ). (x + a.s.l2) % 2 ^ 64) above ∙ ap (λ (x : ℕ). x % 2 ^ 64) (add_comm _ a.s.l2) ∙ add-mul-mod_self_right a.s.l2 (a.s.l1 * 2 ^ m) (2 ^ 64) ∙ mod-eq_of_lt (search rules))
