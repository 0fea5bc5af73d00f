-- The first call of a list of bytes, and one turn of a loop over its calls.
-- Assumes nothing.
use mathlib.Core.Path.{◌≡◌, refl, sym, ap, ◌∙◌}
use mathlib.Core.Bool.{Bool, true, false, ◌&&◌, ◌||◌}
use mathlib.Core.List.{List, [], ◌∷◌}
use Prim.Native.Nat.{ℕ, zero, suc, ◌+◌, ◌-◌, ◌*◌, ◌<◌, ◌≤◌}
use native.Mathlib.Omega.{arith}
use lib.Dec.{eqb, leb}
use lib.ListN.{length, get_or, drop}
use borrow.Author.Tests.{leb-true, eqb-true, eqb-false, le-leb, lt-leb, eq-eqb, ne_eqb}
use Rattle.katan.proofs.Booleans.{and_false, both}
use Rattle.bench_replay.specs.Encoding.{head_length, is_arrival, is_read, call_number, call_size, is_call, starts_after, starts, all, answer_length, fits}

-- ---- the first call

module _ (s : List ℕ) where
  pub size_arrival : get_or s 0 0 ≡ 1 → call_size s ≡ head_length + call_number s
  unfolding call_size
  size_arrival e = rw (eq-eqb (get_or s 0 0) 1 e)

  pub size_other : (get_or s 0 0 ≡ 1 → ⊥) → call_size s ≡ head_length
  unfolding call_size
  size_other n = rw (ne_eqb (get_or s 0 0) 1 n)

  pub head_within : head_length ≤ call_size s
  unfolding call_size
  head_within = omega arith

  pub too_short : length s < call_size s → is_call s ≡ false
  unfolding is_call
  too_short h = ap (λ (b : Bool). (is_arrival s || is_read s) && b) (lt-leb (call_size s) (length s) h) ∙ and_false (is_arrival s || is_read s)

  pub other_kind : (get_or s 0 0 ≡ 1 → ⊥) → (get_or s 0 0 ≡ 2 → ⊥) → is_call s ≡ false
  unfolding is_call
  other_kind a b = rw (ne_eqb (get_or s 0 0) 1 a, ne_eqb (get_or s 0 0) 2 b)

  pub whole_arrival : get_or s 0 0 ≡ 1 → call_size s ≤ length s → is_call s ≡ true
  unfolding is_call
  whole_arrival e h = rw (eq-eqb (get_or s 0 0) 1 e, le-leb (call_size s) (length s) h)

  pub whole_read : get_or s 0 0 ≡ 2 → call_size s ≤ length s → is_call s ≡ true
  unfolding is_call
  whole_read e h =
      let n : get_or s 0 0 ≡ 1 → ⊥ = λ d. omega (arith, d, e) in
      rw (ne_eqb (get_or s 0 0) 1 n, eq-eqb (get_or s 0 0) 2 e, le-leb (call_size s) (length s) h)

  pub call_within : is_call s ≡ true → call_size s ≤ length s
  unfolding is_call
  call_within e = leb-true (call_size s) (length s) (both (is_arrival s || is_read s) (leb (call_size s) (length s)) e).1

-- ---- the calls after the first

starts_drop : (n : ℕ) (s : List ℕ) → starts_after n s ≡ starts_after 0 (drop n s)
unfolding starts_after
starts_drop zero s = refl
starts_drop (suc n) [] = refl
starts_drop (suc n) (x ∷ s) = starts_drop n s

drop_size : (n m x : ℕ) (s : List ℕ) → m ≡ suc n → drop n s ≡ drop m (x ∷ s)
drop_size n m x s e = rw e

pub starts_on : (s : List ℕ) → 0 < length s → starts s ≡ s ∷ starts (drop (call_size s) s)
unfolding starts_after
starts_on [] h = absurd (omega arith)
starts_on (x ∷ s) h =
    let n = call_size (x ∷ s) in
    let e : n ≡ suc (n - 1) = omega (arith, head_within (x ∷ s)) in
    ap (λ (l : List (List ℕ)). (x ∷ s) ∷ l) (starts_drop (n - 1) s ∙ ap (starts_after 0) (drop_size (n - 1) n x s e))

-- ---- room for the answers

same_test : (a b c d : ℕ) (t : Bool) → eqb a b ≡ t → (a ≡ b → c ≡ d) → (c ≡ d → a ≡ b) → eqb c d ≡ t
same_test a b c d true e f g = eq-eqb c d (f (eqb-true a b e))
same_test a b c d false e f g = ne_eqb c d (λ h. eqb-false a b e (g h))

module _ (s : List ℕ) (room : ℕ) (h : 0 < length s) where
  -- with the calls after the first
  fits_next : fits s room ≡ ((is_call s && all is_call (starts (drop (call_size s) s))) && eqb room (answer_length * suc (length (starts (drop (call_size s) s)))))
  unfolding fits
  fits_next = rw (starts_on s h)

  pub fits_broken : is_call s ≡ false → fits s room ≡ false
  fits_broken e = rw (fits_next, e)

  pub fits_short : room < answer_length → fits s room ≡ false
  fits_short lt =
      let n = length (starts (drop (call_size s) s)) in
      let ne : room ≡ answer_length * suc n → ⊥ = λ d. omega (arith, d, lt) in
      rw (fits_next, ne_eqb room (answer_length * suc n) ne) (and_false (is_call s && all is_call (starts (drop (call_size s) s))))

  pub fits_on : is_call s ≡ true → answer_length ≤ room → fits (drop (call_size s) s) (room - answer_length) ≡ fits s room
  unfolding fits
  fits_on e le =
      let n = length (starts (drop (call_size s) s)) in
      let t = same_test room (answer_length * suc n) (room - answer_length) (answer_length * n) (eqb room (answer_length * suc n)) refl (λ d. omega (arith, d, le)) (λ d. omega (arith, d, le)) in
      ap (λ (b : Bool). all is_call (starts (drop (call_size s) s)) && b) t
      ∙ sym (fits_next ∙ ap (λ (b : Bool). (b && all is_call (starts (drop (call_size s) s))) && eqb room (answer_length * suc n)) e)

  -- where the list fits, its first call is whole, and there is room for its answer
  pub fits_whole : fits s room ≡ true → is_call s ≡ true
  fits_whole e =
      let rest = all is_call (starts (drop (call_size s) s)) in
      (both (is_call s) rest (both (is_call s && rest) _ (sym fits_next ∙ e)).0).0

  pub fits_room : fits s room ≡ true → answer_length ≤ room
  fits_room e =
      let rest = starts (drop (call_size s) s) in
      let q = eqb-true room (answer_length * suc (length rest)) (both (is_call s && all is_call rest) _ (sym fits_next ∙ e)).1 in
      omega (arith, q)

-- at the end
pub fits_end : (s : List ℕ) (room : ℕ) → length s ≤ 0 → fits s room ≡ eqb room 0
unfolding fits starts_after
fits_end [] room h = refl
fits_end (x ∷ s) room h = absurd (omega arith)

pub end_room : (s : List ℕ) (room : ℕ) → length s ≤ 0 → fits s room ≡ true → room ≡ 0
end_room s room h e = eqb-true room 0 (sym (fits_end s room h) ∙ e)

-- where no whole call comes first, a list that fits has ended
pub no_more : (s : List ℕ) (room : ℕ) → is_call s ≡ false → fits s room ≡ true → length s ≤ 0
no_more [] room n e = omega arith
no_more (x ∷ s) room n e = let z = sym (fits_whole (x ∷ s) room (omega arith) e) ∙ n in cc
