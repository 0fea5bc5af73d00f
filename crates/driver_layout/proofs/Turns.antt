-- One turn of each loop, and a part of a list written anew.
-- Assumes nothing.
use Rattle.std.proofs.Common.{◌≡◌, refl, sym, ap, ◌∙◌, List, [], ◌∷◌, ◌++◌, append_assoc, append-nil, ℕ, suc, ◌+◌, ◌-◌, ◌<◌, ◌≤◌, add-one, arith, length, get_or, take, drop, set, Option, None}
use lib.ListN.{drop_of_length-le}
use lib.Seq.{drop-cons, drop-drop, take_all, take-suc-set, length-take-le, take-append-add, drop-append-add, take_at, drop_at}
use Rattle.bench.specs.declared.Loaded.{Loaded}
use Rattle.bench.specs.declared.Bench.{Bench}
use Rattle.driver_layout.specs.Layout.{lane_length, lane_in, slots_in, lane_bytes, slot_bytes}

-- the elements from a on, k of them, are written anew
module _ (a k : ℕ) (xs ys : List ℕ) (h : a ≤ length xs) (l : length ys ≡ k) where
  pub new_front : take (a + k) (take a xs ++ (ys ++ drop k (drop a xs))) ≡ take a xs ++ ys
  new_front =
      let n = length-take-le a xs h in
      let rest = drop k (drop a xs) in
      ap (λ (m : ℕ). take (m + k) (take a xs ++ (ys ++ rest))) (sym n)
      ∙ take-append-add (take a xs) (ys ++ rest) k
      ∙ ap (λ (zs : List ℕ). take a xs ++ zs) (take_at ys rest k l)

  pub same_rest : drop (a + k) (take a xs ++ (ys ++ drop k (drop a xs))) ≡ drop k (drop a xs)
  same_rest =
      let n = length-take-le a xs h in
      let rest = drop k (drop a xs) in
      ap (λ (m : ℕ). drop (m + k) (take a xs ++ (ys ++ rest))) (sym n)
      ∙ drop-append-add (take a xs) (ys ++ rest) k
      ∙ drop_at ys rest k l

-- the lanes read, one after the other; n of them in all
abbrev pub bench_with : ℕ → List (Option Loaded) → Bench
bench_with v ss = record { variant = v; slots = ss }

pub slots_on : (n i a : ℕ) (ss : List (Option Loaded)) (s : List ℕ) (y : Option Loaded) → i < length ss → i < n → y ≡ lane_in (take lane_length (drop a s))
    → take (i + 1) (set ss i y) ++ slots_in (n - (i + 1)) (drop (a + lane_length) s) ≡ take i ss ++ slots_in (n - i) (drop a s)
unfolding slots_in
slots_on n i a ss s y h q e =
    let d : n - i ≡ suc (n - (i + 1)) = omega arith in
    rw (d, ← drop-drop lane_length a s) (simp (add-one, take-suc-set ss i y h, append_assoc) (simp e))

pub slots_end : (n i : ℕ) (ss whole : List (Option Loaded)) (s : List ℕ) → length ss ≤ i → n ≤ i → take i ss ++ slots_in (n - i) s ≡ whole → ss ≡ whole
unfolding slots_in
slots_end n i ss whole s h q e =
    let z : n - i ≡ 0 = omega arith in
    simp (z, take_all i ss h, append-nil) at e

-- the lanes written, one after the other
module _ (i a : ℕ) (ss : List (Option Loaded)) (xs ys : List ℕ) (h : i < length ss) (q : a + lane_length ≤ length xs) (l : length ys ≡ lane_length) where
  lane_on : ys ≡ lane_bytes (get_or ss i None) (take lane_length (drop a xs))
      → let now = take a xs ++ (ys ++ drop lane_length (drop a xs)) in
      take (a + lane_length) now ++ slot_bytes (drop (i + 1) ss) (drop (a + lane_length) now) ≡ take a xs ++ slot_bytes (drop i ss) (drop a xs)
  unfolding slot_bytes
  lane_on e =
      let r : a ≤ length xs = omega arith in
      simp (new_front a lane_length xs ys r l, same_rest a lane_length xs ys r l, append_assoc, add-one, drop-cons ss i None h) (simp e)

  pub lanes_on : (k : ℕ) → k ≡ lane_length → ys ≡ lane_bytes (get_or ss i None) (take k (drop a xs))
      → let now = take a xs ++ (ys ++ drop k (drop a xs)) in
      take (a + lane_length) now ++ slot_bytes (drop (i + 1) ss) (drop (a + lane_length) now) ≡ take a xs ++ slot_bytes (drop i ss) (drop a xs)
  lanes_on k f e = rw f (lane_on (e ∙ ap (λ (m : ℕ). lane_bytes (get_or ss i None) (take m (drop a xs))) f))

pub lanes_end : (i a : ℕ) (ss : List (Option Loaded)) (xs whole : List ℕ) → length ss ≤ i → length xs ≤ a → take a xs ++ slot_bytes (drop i ss) (drop a xs) ≡ whole → xs ≡ whole
unfolding slot_bytes
lanes_end i a ss xs whole h q e = simp (drop_of_length-le ss h, take_all a xs q, append-nil) at e

pub bench_start : (v : ℕ) (ss : List (Option Loaded)) (old : List ℕ) → 1 ≤ length old → take 1 (set old 0 v) ++ slot_bytes ss (drop 1 (set old 0 v)) ≡ v ∷ slot_bytes ss (drop 1 old)
bench_start v ss [] h = absurd (omega arith)
bench_start v ss (x ∷ old) h = refl
