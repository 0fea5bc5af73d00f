-- Runs of sheets: what a run shows, every filling has, and a run that knows more shows too.
-- Assumes nothing.
use mathlib.Core.Path.{◌≡◌, refl, sym, ap, ◌∙◌}
use mathlib.Core.Bool.{false}
use mathlib.Core.List.{List}
use Prim.Native.Nat.{ℕ, ◌<◌}
use native.Mathlib.Omega.{arith}
use lib.ListN.{get_or}
use Rattle.katan.specs.Bit.{bit, tabulate}
use Rattle.katan.specs.Key.{key_length}
use Rattle.katan.specs.Machine.{registers_at}
use Rattle.katan.specs.Variant.{width_of}
use Rattle.katan.proofs.Bits.{bit_lt}
use Rattle.katan.proofs.Positions.{at_in}
use Rattle.katan_sheet.specs.Three.{Three, is0, is1, unknown, xor_three, and_three, known}
use Rattle.katan_sheet.specs.Cells.{bits_at}
use Rattle.katan_sheet.specs.Sheet.{given, one_of, zero_of, bits_given, smudged_at, contradicts}
use Rattle.katan_sheet.specs.Claim.{Fills, Keeps}
use Rattle.katan_sheet.specs.declared.Known.{Known}
use Rattle.katan_sheet.proofs.Related.{Lists, at_related, tabulate_related, bits_related}
use Rattle.katan_sheet.proofs.Agrees.{BitLaws, of_numbers, of_three, Agrees, same_agrees, given_agrees, one_agrees, zero_agrees, xor_agrees, and_agrees}
use Rattle.katan_sheet.proofs.Sheets.{one_given, zero-given, bit_ones, bit_zeros, not_both}
use Rattle.katan_sheet.proofs.Plain.{plain}

-- the bits of a sheet's run
abbrev pub shown : (v : ℕ) (key block : Known ℕ) (p : ℕ) → List Three
shown v key block p = bits_at xor_three and_three known v (bits_given key_length key) (bits_given (width_of v) block) p

-- ---- beside a run over other bits, with which key and block agree

module _ {B : Type 0} {x a : B → B → B} {bit_of : ℕ → B} (laws : BitLaws x a bit_of) (v p : ℕ) (key block : Known ℕ) {key' block' : List B}
    (hk : Lists (Agrees bit_of) (bits_given key_length key) key') (hb : Lists (Agrees bit_of) (bits_given (width_of v) block) block') (i : ℕ) (q : i < width_of v) where
  agrees : Agrees bit_of (get_or (shown v key block p) i is0) (get_or (bits_at x a bit_of v key' block' p) i (bit_of 0))
  agrees = at_related (bits_related (Agrees bit_of) xor_three and_three known x a bit_of (xor_agrees laws) (and_agrees laws) (same_agrees bit_of) v p hk hb) refl i

  ones_agree : bit (smudged_at v key block p).ones i ≡ 1 → get_or (bits_at x a bit_of v key' block' p) i (bit_of 0) ≡ bit_of 1
  unfolding smudged_at
  ones_agree e = one_agrees bit_of (get_or (shown v key block p) i is0) (get_or (bits_at x a bit_of v key' block' p) i (bit_of 0)) agrees (sym (bit_ones (width_of v) (shown v key block p) i q) ∙ e)

  zeros_agree : bit (smudged_at v key block p).zeros i ≡ 1 → get_or (bits_at x a bit_of v key' block' p) i (bit_of 0) ≡ bit_of 0
  unfolding smudged_at
  zeros_agree e = zero_agrees bit_of (get_or (shown v key block p) i is0) (get_or (bits_at x a bit_of v key' block' p) i (bit_of 0)) agrees (sym (bit_zeros (width_of v) (shown v key block p) i q) ∙ e)

-- ---- beside the registers

filling : (n : ℕ) (k : Known ℕ) (x : ℕ) → Fills n k x → Lists (Agrees (λ b. b)) (bits_given n k) (tabulate (bit x) 0 n)
filling n k x f =
    tabulate_related _ (bit x) 0 n
    (λ i q. given_agrees (λ b. b) (bit k.ones i) (bit k.zeros i) (bit x i) (bit_lt k.ones i) (bit_lt k.zeros i) (f.has_ones i (omega arith)) (f.has_zeros i (omega arith)))

-- THEOREM: the registers of a filling fill the result
pub filled : (v p : ℕ) (key block : Known ℕ) (k x : ℕ) → Fills key_length key k → Fills (width_of v) block x → Fills (width_of v) (smudged_at v key block p) (registers_at v k 0 x p)
filled v p key block k x f g =
    let hk = filling key_length key k f in
    let hb = filling (width_of v) block x g in
    record {
      in_width = at_in v k 0 x p g.in_width;
      has_ones = λ i q e. sym (plain v k x p g.in_width i q) ∙ ones_agree of_numbers v p key block hk hb i q e;
      has_zeros = λ i q e. sym (plain v k x p g.in_width i q) ∙ zeros_agree of_numbers v p key block hk hb i q e;
    }

-- ---- beside a run that knows more

itself : (u : Three) → Agrees known u u
itself is0 = refl
itself is1 = refl
itself unknown = tt

keeping : (n : ℕ) (k l : Known ℕ) → contradicts l ≡ false → Keeps n k l → Lists (Agrees known) (bits_given n k) (bits_given n l)
keeping n k l c h =
    tabulate_related _ _ 0 n
    (λ i q.
    let o = bit l.ones i in
    let z = bit l.zeros i in
    given_agrees known (bit k.ones i) (bit k.zeros i) (given o z) (bit_lt k.ones i) (bit_lt k.zeros i)
    (λ e. one_agrees known (given o z) (given o z) (itself (given o z)) (one_given o z (bit_lt l.ones i) ∙ h.ones_kept i (omega arith) e))
    (λ e. zero_agrees known (given o z) (given o z) (itself (given o z)) (zero-given o z (bit_lt l.ones i) (bit_lt l.zeros i) (not_both l c i) ∙ h.zeros_kept i (omega arith) e)))

-- THEOREM: its result keeps what is shown
pub kept : (v p : ℕ) (key block key' block' : Known ℕ) → contradicts key' ≡ false → contradicts block' ≡ false
    → Keeps key_length key key' → Keeps (width_of v) block block' → Keeps (width_of v) (smudged_at v key block p) (smudged_at v key' block' p)
unfolding smudged_at
kept v p key block key' block' ck cb f g =
    let hk = keeping key_length key key' ck f in
    let hb = keeping (width_of v) block block' cb g in
    record {
      ones_kept = λ i q e. bit_ones (width_of v) (shown v key' block' p) i q ∙ ap one_of (ones_agree of_three v p key block hk hb i q e);
      zeros_kept = λ i q e. bit_zeros (width_of v) (shown v key' block' p) i q ∙ ap zero_of (zeros_agree of_three v p key block hk hb i q e);
    }
