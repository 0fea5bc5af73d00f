-- One turn of the pass over the lanes: check 1, the number and the bit of one lane more.
-- Assumes nothing.
use Rattle.std.specs.Prelude.{Option, None, Result, Ok, Err}
use mathlib.Core.Path.{◌≡◌, refl, sym, ap, ap₂, subst, ◌∙◌}
use mathlib.Core.Bool.{Bool, true, false, ◌||◌}
use mathlib.Core.List.{List, [], ◌∷◌, map}
use Prim.Native.Nat.{ℕ, ◌+◌, ◌*◌, ◌%◌, ◌^◌, ◌<◌}
use native.Mathlib.Nat.{add_comm, lt_of_lt_of_le}
use native.Mathlib.Numerals.{add-one}
use native.Mathlib.Omega.{arith}
use lib.Dec.{lit<}
use lib.ListN.{length, get_or, drop}
use lib.Pow.{pow_mono, shl_exact}
use Rattle.katan.specs.Bit.{bit, pick, from_bits}
use Rattle.katan.specs.Checks.{variant_check}
use Rattle.katan.specs.Sizes.{lane_count}
use Rattle.katan.proofs.Booleans.{neither}
use Rattle.katan.proofs.Bits.{bit_lt, from_bits_lt}
use Rattle.bench.specs.declared.Loaded.{Loaded}
use Rattle.bench.specs.Checks.{LaneView, empty_lane, loaded_lane, lane_fault, any_lane_fault, bench_check}
use Rattle.bench.specs.Bench.{lane_view}
use Rattle.bench.proofs.Loops.{faults_on, slot_at}
use Rattle.bench_screen.specs.Screen.{bit_shown, lane_bit}

-- ---- a lane at its place, with its bit

pub at_place : (f : ℕ → LaneView → ℕ) (m : ℕ) (ss : List (Option Loaded)) (i : ℕ) {b x : ℕ} → b ≡ bit m i → x ≡ f b (lane_view (get_or ss i None))
    → x ≡ f (bit m i) (get_or (map lane_view ss) i empty_lane)
at_place f m ss i e g = g ∙ ap₂ f e (sym (slot_at ss i))

-- ---- a value, or a refusal

module _ {A E : Type 0} (a : A) (e : E) where
  pub if_ok : (b : Bool) {r : Result A E} {x : A} → r ≡ pick b (Err e) (Ok a) → r ≡ Ok x → (b ≡ false) × (x ≡ a)
  if_ok true p q = let z = sym p ∙ q in (cc, cc)
  if_ok false p q = let z = sym p ∙ q in (refl, cc)

  pub if_err : (b : Bool) {r : Result A E} {d : E} → r ≡ pick b (Err e) (Ok a) → r ≡ Err d → (b ≡ true) × (d ≡ e)
  if_err true p q = let z = sym p ∙ q in (refl, cc)
  if_err false p q = let z = sym p ∙ q in (cc, cc)

-- ---- check 1, which looks at the variant with each lane

fault_more : (unknown lane rest : Bool) → (unknown || (lane || false)) ≡ true → (unknown || (lane || rest)) ≡ true
fault_more true lane rest e = refl
fault_more false true rest e = refl
fault_more false false rest e = absurd cc

module _ (v : ℕ) (ss : List (Option Loaded)) (i : ℕ) (h : i < length ss) where
  pub fault_here : (bench_check v (lane_view (get_or ss i None) ∷ [])).fault ≡ true → any_lane_fault v (map lane_view (drop i ss)) ≡ any_lane_fault v (map lane_view ss)
      → (bench_check v (map lane_view ss)).fault ≡ true
  unfolding any_lane_fault
  fault_here e f =
      let lane = lane_fault v (lane_view (get_or ss i None)) in
      let rest = any_lane_fault v (map lane_view (drop (i + 1) ss)) in
      ap (λ (x : Bool). (variant_check v).fault || x) (sym (sym (faults_on v ss i h) ∙ f)) ∙ fault_more (variant_check v).fault lane rest e

  pub sound_here : (bench_check v (lane_view (get_or ss i None) ∷ [])).fault ≡ false
      → ((variant_check v).fault ≡ false) × (any_lane_fault v (map lane_view (drop (i + 1) ss)) ≡ any_lane_fault v (map lane_view (drop i ss)))
  unfolding any_lane_fault
  sound_here e =
      let lane = lane_fault v (lane_view (get_or ss i None)) in
      let n = neither (variant_check v).fault (lane || false) e in
      let l = neither lane false n.1 in
      (n.0, sym (rw (faults_on v ss i h, l.0)))

-- ---- the mask

bit_shown_lt : (b : ℕ) (x : LaneView) → b < 2 → bit_shown b x < 2
unfolding bit_shown
bit_shown_lt b empty_lane h = lit< tt
bit_shown_lt b (loaded_lane r) h = h

module _ (m : ℕ) (lanes : List LaneView) where
  pub lane_bit_lt : (i : ℕ) → lane_bit m lanes i < 2
  lane_bit_lt i = bit_shown_lt (bit m i) (get_or lanes i empty_lane) (bit_lt m i)

  -- a lane's bit above those of the lanes before
  module _ (i : ℕ) (h : i < lane_count) (b s : ℕ) (e : b ≡ lane_bit m lanes i) (f : s ≡ from_bits (lane_bit m lanes) i) where
    pub mask_turn : s + (b * 2 ^ i) % 2 ^ 64 ≡ from_bits (lane_bit m lanes) (i + 1)
    unfolding from_bits
    mask_turn =
        let lt : b < 2 = subst (λ (x : ℕ). x < 2) (sym e) (lane_bit_lt i) in
        rw add-one (add_comm s _ ∙ ap (λ (x : ℕ). x + s) (shl_exact {a = b} 1 i 64 lt (omega arith)) ∙ ap₂ (λ (x y : ℕ). x * 2 ^ i + y) e f)

    pub mask_fits : s + (b * 2 ^ i) % 2 ^ 64 < 2 ^ 64
    mask_fits =
        subst (λ (x : ℕ). x < 2 ^ 64) (sym mask_turn)
        (lt_of_lt_of_le (from_bits_lt (lane_bit m lanes) (i + 1) (λ j q. lane_bit_lt j)) (pow_mono {i = i + 1} {j = 64} (omega arith)))
