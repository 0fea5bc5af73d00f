-- Records that meet what `EitherOrder` asks, of every two kinds and lanes.
-- Assumes nothing.
use mathlib.Core.Path.{◌≡◌, refl, sym, ap, ◌∙◌}
use mathlib.Core.Bool.{Bool, true, false, ◌&&◌, and-false}
use mathlib.Core.List.{List, [], ◌∷◌}
use Prim.Native.Nat.{ℕ, suc, ◌+◌, ◌*◌, ◌^◌, ◌<◌, ◌≤◌}
use native.Mathlib.Omega.{arith}
use lib.Dec.{ltb, eqb}
use lib.ListN.{length}
use lib.Pow.{pow_pos, pow-lt}
use borrow.Author.Tests.{eq-eqb, ltb-true, ltb-false, ne_eqb, eqb-true, eqb-false}
use Rattle.katan.specs.Bit.{bit}
use Rattle.katan.specs.Checks.{Outcome, value, refused}
use Rattle.katan.specs.Sizes.{lane_count}
use Rattle.katan.specs.Variant.{width_of}
use Rattle.katan.proofs.Bits.{bit_below, bit_past, bit-zero}
use Rattle.bench_record.specs.declared.Record.{Record}
use Rattle.bench_record.specs.Fields.{Kind, load, forward, back, clear, other, kind_byte, kind_of, kind, names_as, names, decode}
use Rattle.bench.specs.Calls.{Call, arrival, reading, state_after}
use Rattle.bench.specs.Checks.{Turn, counts, repeats, decision}
use Rattle.bench.specs.Model.{Model, fresh_model, model_view, after_counted, arrival_as, model_transition}
use Rattle.bench.specs.Claim.{counted_records}
use Rattle.bench.specs.Laws.{SoundRecord}
use Rattle.bench.specs.Exchange.{Apart, record_on, on_lane, KindAndLane, SomeReady}
use Rattle.bench.proofs.Written.{load_back, move_back, lane_mask, own_bit, load_sound, forward_sound, back_sound, clear_sound}

-- ---- a record on one lane

module _ (a : ℕ) (lane : a < lane_count) where
  its_fields : (k : Kind) → (k ≡ other → ⊥) → decode (on_lane k a) ≡ record_on k a
  its_fields load known = load_back 0 (omega arith) a 0 0 0 (omega arith) (omega arith)
  its_fields forward known = move_back 0 (omega arith) (kind_byte forward) (2 ^ a) 1 (lane_mask a lane)
  its_fields back known = move_back 0 (omega arith) (kind_byte back) (2 ^ a) 1 (lane_mask a lane)
  its_fields clear known = move_back 0 (omega arith) (kind_byte clear) (2 ^ a) 0 (lane_mask a lane)
  its_fields other known = absurd (known refl)

  is_sound : (v : ℕ) (k : Kind) → (k ≡ other → ⊥) → SoundRecord v (on_lane k a)
  is_sound v load known = load_sound 0 (omega arith) v a 0 0 0 lane (omega arith) (omega arith) (pow_pos (width_of v))
  is_sound v forward known = forward_sound 0 (omega arith) v (2 ^ a) (lane_mask a lane) (pow_pos a) 1 (omega arith) (omega arith)
  is_sound v back known = back_sound 0 (omega arith) v (2 ^ a) (lane_mask a lane) (pow_pos a) 1 (omega arith) (omega arith)
  is_sound v clear known = clear_sound 0 (omega arith) v (2 ^ a) (lane_mask a lane) (pow_pos a)
  is_sound v other known = absurd (known refl)

  its_kind : (k : Kind) → (k ≡ other → ⊥) → kind (decode (on_lane k a)) ≡ k
  unfolding kind_of
  its_kind k known = ap kind (its_fields k known) ∙ go k known
    where
      go : (k : Kind) → (k ≡ other → ⊥) → kind (record_on k a) ≡ k
      go load known = refl
      go forward known = refl
      go back known = refl
      go clear known = refl
      go other known = absurd (known refl)

  names_it : (k : Kind) → (k ≡ other → ⊥) → names (decode (on_lane k a)) a ≡ true
  unfolding kind_of names_as
  names_it k known = ap (λ (r : Record). names r a) (its_fields k known) ∙ go k known
    where
      go : (k : Kind) → (k ≡ other → ⊥) → names (record_on k a) a ≡ true
      go load known = eq-eqb a a refl
      go forward known = own_bit a
      go back known = own_bit a
      go clear known = own_bit a
      go other known = absurd (known refl)

  on-lane : (k : Kind) → (k ≡ other → ⊥) → KindAndLane k a
  on-lane k known = record { its_kind = its_kind k known; names_it = names_it k known }

  -- no other lane is named
  no_bit : (i : ℕ) → (i ≡ a → ⊥) → bit (2 ^ a) i ≡ 0
  no_bit i not_a = go (ltb i a) refl
    where
      go : (b : Bool) → ltb i a ≡ b → bit (2 ^ a) i ≡ 0
      go true e = let one : 2 ^ a ≡ 1 * 2 ^ a + 0 = omega arith in ap (λ (x : ℕ). bit x i) one ∙ bit_below a 1 {l = 0} (pow_pos a) i (ltb-true i a e) ∙ bit-zero i
      go false e = let le = ltb-false i a e in bit_past (suc a) (2 ^ a) i (pow-lt {i = a} {j = suc a} (omega arith)) (omega arith)

  not_named : (k : Kind) → (k ≡ other → ⊥) → (i : ℕ) → (i ≡ a → ⊥) → names (decode (on_lane k a)) i ≡ false
  unfolding kind_of names_as
  not_named k known i not_a = ap (λ (r : Record). names r i) (its_fields k known) ∙ go k
    where
      go : (k : Kind) → names (record_on k a) i ≡ false
      go load = ne_eqb i a not_a
      go forward = ap (λ (x : ℕ). eqb x 1) (no_bit i not_a)
      go back = ap (λ (x : ℕ). eqb x 1) (no_bit i not_a)
      go clear = ap (λ (x : ℕ). eqb x 1) (no_bit i not_a)
      go other = refl

-- ---- two of them, on lanes that differ

apart : (j k : Kind) → (j ≡ other → ⊥) → (k ≡ other → ⊥) → (a b : ℕ) → a < lane_count → b < lane_count → (a ≡ b → ⊥) → Apart (on_lane j a) (on_lane k b)
apart j k known-j known-k a b lane-a lane-b differ i lt = go (eqb i a) refl
  where
    go : (c : Bool) → eqb i a ≡ c → (names (decode (on_lane j a)) i && names (decode (on_lane k b)) i) ≡ false
    go true e = let same = eqb-true i a e in rw (not_named b lane-b k known-k i (λ q. differ (sym same ∙ q))) (and-false (names (decode (on_lane j a)) i))
    go false e = rw (not_named a lane-a j known-j i (eqb-false i a e))

-- ---- no more records count than there are calls

module _ (v : ℕ) where
  one_call : (m : Model) (s : List ℕ) (o : Outcome Turn) → length (arrival_as o m s).0.counted ≤ suc (length m.counted)
  unfolding arrival_as after_counted
  one_call m s (value counts) = omega arith
  one_call m s (value repeats) = omega arith
  one_call m s (refused k) = omega arith

  all_calls : (calls : List Call) (m : Model) → length (state_after (model_transition v) m calls).counted ≤ length m.counted + length calls
  unfolding state_after model_transition
  all_calls [] m = omega arith
  all_calls (arrival s ∷ calls) m =
      let d = decision (model_view v m) s in
      omega (arith, all_calls calls (arrival_as d m s).0, one_call m s d)
  all_calls (reading i ∷ calls) m = omega (arith, all_calls calls m)

  counted_at_most : (calls : List Call) → length (counted_records v calls) ≤ length calls
  unfolding fresh_model
  counted_at_most calls = omega (arith, all_calls calls fresh_model)

-- THEOREM: records that meet what `EitherOrder` asks, of every two kinds and lanes
pub some_ready : SomeReady
some_ready v least most calls few j k known-j known-k a b lane-a lane-b differ = (
  on-lane a lane-a j known-j,
  on-lane b lane-b k known-k,
  record { sound_s = is_sound a lane-a v j known-j; sound_t = is_sound b lane-b v k known-k; two_left = omega (arith, counted_at_most v calls) },
  apart j k known-j known-k a b lane-a lane-b differ,
)
