-- THEOREMS: a bench or a link written down is read back as it was. It takes as many bytes as there were.
-- Assumes nothing.
use mathlib.Core.Path.{◌≡◌, refl, sym, ap, ap₂, ◌∙◌}
use mathlib.Core.List.{List, [], ◌∷◌, ◌++◌, append_assoc}
use Prim.Native.Nat.{ℕ, suc, ◌*◌, ◌^◌, ◌<◌}
use native.Mathlib.Omega.{arith}
use lib.ListN.{length, take, drop, length-append, length-drop, length-set}
use lib.Seq.{length-take-le, take_all, take_at, drop_at, drop-drop}
use Rattle.katan.specs.Bit.{number_in}
use Rattle.katan.specs.Key.{key_number, key_of}
use Rattle.katan.specs.Sizes.{word_bytes, key_bytes}
use Rattle.bench_record.specs.Fields.{record_length, part}
use Rattle.bench_record.specs.Codec.{record_in}
use Rattle.bench_record.proofs.Parts.{whole_record}
use Rattle.bench.specs.declared.Loaded.{Loaded}
use Rattle.std.proofs.Common.{Option, Some, None}
use Rattle.bench.specs.declared.Bench.{Bench}
use Rattle.bench.specs.declared.Link.{Link}
use Rattle.katan.proofs.KeyNumbers.{key_is}
use Rattle.katan.specs.Bit.{bytes_of}
use Rattle.driver_layout.specs.Layout.{number_bytes, key_start, registers_start, lane_length, lanes_start, bench_length, last_start, total_start, record_start, link_length, loaded_in, lane_in, slots_in, bench_in, link_in, loaded_bytes, lane_bytes, slot_bytes, bench_bytes, link_bytes}
use Rattle.driver_layout.specs.ReadBack.{LaneFits, SlotsFit, BenchFits, LinkFits, BenchReadBack, LinkReadBack}
use Rattle.katan.proofs.Numbers.{length-bytes, number-bytes}
use Rattle.driver_layout.proofs.Turns.{bench_with}

-- a number before other bytes
number_first : (n x : ℕ) (rest : List ℕ) → x < 2 ^ (8 * n) → number_in (take n (bytes_of n x ++ rest)) ≡ x
number_first n x rest h = ap number_in (take_at (bytes_of n x) rest n (length-bytes n x)) ∙ number-bytes n x h

number_last : (n x : ℕ) → x < 2 ^ (8 * n) → number_in (take n (bytes_of n x)) ≡ x
number_last n x h = ap number_in (take_all n (bytes_of n x) (omega (arith, length-bytes n x))) ∙ number-bytes n x h

-- ---- a lane

length_lane : (l : Option Loaded) (old : List ℕ) → length old ≡ lane_length → length (lane_bytes l old) ≡ lane_length
unfolding lane_bytes loaded_bytes
length_lane None old e = length-set old 0 0 ∙ e
length_lane (Some h) old e = simp (length-append, length-bytes)

loaded_back : (h : Loaded) → LaneFits (Some h) → loaded_in (loaded_bytes h) ≡ h
unfolding loaded_in loaded_bytes
loaded_back h f =
    let k = key_number h.key in
    let low : k < 2 ^ (8 * key_bytes) = omega arith in
    let key : key_of (part (loaded_bytes h) key_start key_bytes) ≡ h.key = ap key_of (number_first key_bytes k (bytes_of word_bytes h.registers) low) ∙ sym (key_is h.key k f.0 refl) in
    let registers : part (loaded_bytes h) registers_start word_bytes ≡ h.registers
    = ap (λ (s : List ℕ). number_in (take word_bytes s)) (drop_at (bytes_of key_bytes k) (bytes_of word_bytes h.registers) key_bytes (length-bytes key_bytes k)) ∙ number_last word_bytes h.registers f.2 in
    rw (key, registers)

loaded-lane : (h : Loaded) → loaded_in (loaded_bytes h) ≡ h → lane_in (loaded_bytes h) ≡ Some h
unfolding lane_in loaded_bytes
loaded-lane h e = ap Some e

lane_back : (l : Option Loaded) (old : List ℕ) → length old ≡ lane_length → LaneFits l → lane_in (lane_bytes l old) ≡ l
unfolding lane_in lane_bytes
lane_back None [] e f = absurd (omega arith)
lane_back None (x ∷ old) e f = refl
lane_back (Some h) old e f = loaded-lane h (loaded_back h f)

-- ---- the lanes

-- the bytes of the first lane, and of those after it
module _ (n : ℕ) (old : List ℕ) (e : length old ≡ lane_length * suc n) where
  of_first : length (take lane_length old) ≡ lane_length
  of_first = length-take-le lane_length old (omega arith)

  of_others : length (drop lane_length old) ≡ lane_length * n
  of_others = omega (arith, length-drop lane_length old)

slots_back : (ss : List (Option Loaded)) (old : List ℕ) → length old ≡ lane_length * length ss → SlotsFit ss → slots_in (length ss) (slot_bytes ss old) ≡ ss
unfolding slots_in slot_bytes
slots_back [] old e f = refl
slots_back (s ∷ ss) old e f =
    let n = of_first (length ss) old e in
    let x = lane_bytes s (take lane_length old) in
    let rest = slot_bytes ss (drop lane_length old) in
    let m = length_lane s (take lane_length old) n in
    rw (take_at x rest lane_length m, drop_at x rest lane_length m, lane_back s (take lane_length old) n f.0, slots_back ss (drop lane_length old) (of_others (length ss) old e) f.1)

length_slots : (ss : List (Option Loaded)) (old : List ℕ) → length old ≡ lane_length * length ss → length (slot_bytes ss old) ≡ lane_length * length ss
unfolding slot_bytes
length_slots [] old e = refl
length_slots (s ∷ ss) old e =
    let first = length_lane s (take lane_length old) (of_first (length ss) old e) in
    let others = length_slots ss (drop lane_length old) (of_others (length ss) old e) in
    simp length-append (omega arith)

module _ (b : Bench) (old : List ℕ) (f : BenchFits b) (e : length old ≡ bench_length) where
  all_bytes : length (drop lanes_start old) ≡ lane_length * length b.slots
  all_bytes = omega (arith, length-drop lanes_start old, f.all_lanes)

  -- a bench written down is as long as it was
  pub length-bench : length (bench_bytes b old) ≡ bench_length
  unfolding bench_bytes
  length-bench = omega (arith, length_slots b.slots (drop lanes_start old) all_bytes, f.all_lanes)

pub bench_read_back : BenchReadBack
unfolding bench_in bench_bytes
bench_read_back b old f e =
    ap (λ (ss : List (Option Loaded)). bench_with b.variant ss)
    (ap (λ (n : ℕ). slots_in n (slot_bytes b.slots (drop lanes_start old))) (sym f.all_lanes) ∙ slots_back b.slots (drop lanes_start old) (all_bytes b old f e) f.lanes_fit)

-- ---- the link

abbrev link_with : (last total : ℕ) → List ℕ → Link
link_with x y s = record { last = x; total = y; bytes = s }

pub length-link : (l : Link) → LinkFits l → length (link_bytes l) ≡ link_length
unfolding link_bytes
length-link l f = simp (length-append, length-bytes) (omega (arith, f.whole_record))

pub link_read_back : LinkReadBack
unfolding link_in link_bytes
link_read_back l f =
    let a = bytes_of number_bytes l.last in
    let b = bytes_of number_bytes l.total in
    let c = l.bytes in
    let g : link_bytes l ≡ a ++ (b ++ c) = append_assoc a b c in
    let d : drop number_bytes (a ++ (b ++ c)) ≡ b ++ c = drop_at a (b ++ c) number_bytes (length-bytes number_bytes l.last) in
    let last : part (link_bytes l) last_start number_bytes ≡ l.last = ap (λ (s : List ℕ). part s last_start number_bytes) g ∙ number_first number_bytes l.last (b ++ c) f.last_fits in
    let total : part (link_bytes l) total_start number_bytes ≡ l.total = ap (λ (s : List ℕ). part s total_start number_bytes) g ∙ ap (λ (s : List ℕ). number_in (take number_bytes s)) d ∙ number_first number_bytes l.total c f.total_fits in
    let whole : take record_length (drop record_start (link_bytes l)) ≡ c
    = ap (take record_length) (ap (drop record_start) g ∙ sym (drop-drop number_bytes number_bytes (a ++ (b ++ c))) ∙ ap (drop number_bytes) d ∙ drop_at b c number_bytes (length-bytes number_bytes l.total)) ∙ take_all record_length c (omega (arith, f.whole_record)) in
    let kept = record_in (take record_length (drop record_start (link_bytes l))) in
    ap₂ (λ (x y : ℕ). link_with x y kept) last total ∙ ap (link_with l.last l.total) (ap record_in whole ∙ whole_record c f.whole_record)
