-- Runs of digits: what is found is what is written, and what is written is found.
-- Assumes nothing.
use Prim.Native.Nat.{ℕ, zero, suc, ◌+◌, ◌*◌, ◌-◌, ◌/◌, ◌%◌, ◌^◌, ◌≤◌, ◌<◌, min}
use mathlib.Core.Path.{◌≡◌, refl, ap, ◌∙◌, subst}
use Rattle.std.specs.Prelude.{Some, None}
use mathlib.Core.Bool.{Bool, true, false}
use mathlib.Core.List.{List, [], ◌∷◌, ◌++◌}
use native.Mathlib.Nat.{pow-suc, div-add-mod', mod-lt, mul-add-div_right, mul-add-mod_self_right, div-eq_of_lt, mod-eq_of_lt, add-zero, le_of_suc-le-suc, not-suc-le-zero, lt_irrefl, lt_of_lt_of_le, mul-le-mul_left, pow-le-pow_right}
use native.Mathlib.Numerals.{add-one}
use lib.Seq.{drop-cons}
use Rattle.std.proofs.lemmas.List.{get_or-take, length-take}
use native.Mathlib.Omega.{arith}
use lib.Dec.{ltb, leb}
use lib.ListN.{length, take, drop, get_or, drop_of_length-le}
use borrow.Author.Tests.{lt-ltb, le-ltb, le-leb, lt-leb, ltb-true, ltb-false, leb-true, leb-false}
use Rattle.script_form.specs.Digits.{digit, fixed}
use Rattle.script_form.proofs.Lengths.{div_none, div_step}
use Rattle.katan.specs.Bit.{pick}
use Rattle.script_form.specs.scanner.Scan.{value_of, digit_in, run_in}
use Rattle.script_form.specs.declared.digits.Run.{Run}

-- a digit's value, and back
pub value_digit : (d : ℕ) → d < 16 → value_of (digit d) ≡ d
unfolding value_of digit
value_digit d h = go (ltb d 10) refl
  where
    go : (t : Bool) → ltb d 10 ≡ t → value_of (digit d) ≡ d
    go true e =
        let f : d < 10 = ltb-true _ _ e in
        simp (e, le-ltb (48 + d) 48 (omega arith), le-leb (48 + d) 57 (omega arith)) (omega arith)
    go false e =
        let f : 10 ≤ d = ltb-false _ _ e in
        simp (e, le-ltb (87 + d) 48 (omega arith), lt-leb (87 + d) 57 (omega arith), le-ltb (87 + d) 97 (omega arith), le-leb (87 + d) 102 (omega arith)) (omega arith)

digit_value : (x : ℕ) → value_of x < 16 → digit (value_of x) ≡ x
unfolding value_of digit
digit_value x h = go (ltb x 48) (leb x 57) (ltb x 97) (leb x 102) refl refl refl refl
  where
    go : (p q r s : Bool) → ltb x 48 ≡ p → leb x 57 ≡ q → ltb x 97 ≡ r → leb x 102 ≡ s → digit (value_of x) ≡ x
    go true q r s d e f g = absurd (lt_irrefl 16 (simp d at h))
    go false true r s d e f g =
        let l : 48 ≤ x = ltb-false _ _ d in
        let m : x ≤ 57 = leb-true _ _ e in
        simp (d, e, lt-ltb (x - 48) 10 (omega arith)) (omega arith)
    go false false true s d e f g = absurd (lt_irrefl 16 (simp (d, e, f) at h))
    go false false false true d e f g =
        let l : 97 ≤ x = ltb-false _ _ f in
        let m : x ≤ 102 = leb-true _ _ g in
        simp (d, e, f, g, le-ltb (x - 87) 10 (omega arith)) (omega arith)
    go false false false false d e f g = absurd (lt_irrefl 16 (simp (d, e, f, g) at h))

-- one digit further
digit_step : (b k n : ℕ) → n / b ^ suc k * b + n / b ^ k % b ≡ n / b ^ k
digit_step b k n = rw (div_step b k n) (div-add-mod' (n / b ^ k) b)

run_go : (b k v n x : ℕ) (s : List ℕ) → value_of x < b → run_in b (suc k) v n (x ∷ s) ≡ run_in b k (v * b + value_of x) (n + 1) s
unfolding run_in
run_go b k v n x s h = simp (lt-ltb _ _ h)

run_stop : (b k v n x : ℕ) (s : List ℕ) → b ≤ value_of x → run_in b (suc k) v n (x ∷ s) ≡ record { value = v; count = n }
unfolding run_in
run_stop b k v n x s h = simp (le-ltb _ _ h)

no_digit : (b x : ℕ) → digit_in b x ≡ None → b ≤ value_of x
no_digit b x e = go (ltb (value_of x) b) refl e
  where
    go : (t : Bool) → ltb (value_of x) b ≡ t → pick t (Some (value_of x)) None ≡ None → b ≤ value_of x
    go true f g = cc
    go false f g = ltb-false _ _ f

record Digit (b x d : ℕ) : Type 0 where
  below : value_of x < b
  is : value_of x ≡ d

a_digit : (b x d : ℕ) → digit_in b x ≡ Some d → Digit b x d
a_digit b x d e = go (ltb (value_of x) b) refl e
  where
    go : (t : Bool) → ltb (value_of x) b ≡ t → pick t (Some (value_of x)) None ≡ Some d → Digit b x d
    go true f g = record { below = ltb-true _ _ f; is = cc }
    go false f g = cc

pub digit_below : (b x d : ℕ) → digit_in b x ≡ Some d → d < b
digit_below b x d e = let k = a_digit b x d e in subst (◌< b) k.is k.below

run_end : (b k v n : ℕ) → run_in b k v n [] ≡ record { value = v; count = n }
unfolding run_in
run_end b zero v n = refl
run_end b (suc k) v n = refl

run_done : (b v n : ℕ) (s : List ℕ) → run_in b 0 v n s ≡ record { value = v; count = n }
unfolding run_in
run_done b v n s = refl

-- the same, as the loop of the code meets it: n of the first m bytes of a text have been read
module _ (text : List ℕ) (b most v n m : ℕ) where
  pub loop_end : m ≡ min (length text) most → length (take m text) ≤ n → run_in b (most - n) v n (drop n text) ≡ record { value = v; count = n }
  loop_end e h = go (leb most n) refl
    where
      go : (t : Bool) → leb most n ≡ t → run_in b (most - n) v n (drop n text) ≡ record { value = v; count = n }
      go true f = let z : most - n ≡ 0 = omega (arith, leb-true most n f) in rw z (run_done b v n _)
      go false f =
          let k : n < most = leb-false most n f in
          let past : length text ≤ n = omega (arith, length-take m text) in
          rw (drop_of_length-le text past) (run_end b (most - n) v n)

  module _ (e : m ≡ min (length text) most) (h : n < length (take m text)) where
    loop_front : run_in b (most - n) v n (drop n text) ≡ run_in b (suc (most - (n + 1))) v n (get_or (take m text) n 0 ∷ drop (n + 1) text)
    loop_front =
        let inside : n < length text = omega (arith, length-take m text) in
        let few : n < m = omega (arith, length-take m text) in
        let f : most - n ≡ suc (most - (n + 1)) = omega arith in
        rw (f, drop-cons text n 0 inside, get_or-take m text n 0 few, add-one n) refl

    pub loop_stop : digit_in b (get_or (take m text) n 0) ≡ None → run_in b (most - n) v n (drop n text) ≡ record { value = v; count = n }
    loop_stop g = loop_front ∙ run_stop b _ v n _ _ (no_digit b _ g)

    pub loop_go : (d : ℕ) → digit_in b (get_or (take m text) n 0) ≡ Some d → run_in b (most - n) v n (drop n text) ≡ run_in b (most - (n + 1)) (v * b + d) (n + 1) (drop (n + 1) text)
    loop_go d g = let k = a_digit b _ d g in loop_front ∙ run_go b _ v n _ _ k.below ∙ ap (λ (x : ℕ). run_in b (most - (n + 1)) (v * b + x) (n + 1) (drop (n + 1) text)) k.is

-- the value of n digits below 16 stays below 16 ^ n
pub value_below : (b v d n : ℕ) → b ≤ 16 → d < b → v < 16 ^ n → v * b + d < 16 ^ (n + 1)
value_below b v d n le h g =
    let p : v * b ≤ v * 16 = mul-le-mul_left v le in
    rw (add-one, pow-suc 16 n) (omega arith)

pub value_fits : (v n : ℕ) → n ≤ 16 → v < 16 ^ n → v < 2 ^ 64
value_fits v n le h = lt_of_lt_of_le h (pow-le-pow_right {n = 16} (omega arith) le)

pub run_eq : {v w n m : ℕ} → v ≡ w → n ≡ m → ◌≡◌ {A = Run} (record { value = v; count = n }) (record { value = w; count = m })
run_eq p q = λ i. record { value = p i; count = q i }

-- no digit stands in front
abbrev pub Halts : ℕ → List ℕ → Type 0
Halts b [] = Unit {0}
Halts b (x ∷ s) = b ≤ value_of x

module _ (b : ℕ) (pos : 0 < b) (le16 : b ≤ 16) where
  -- what a run of digits says of the bytes that it was read from
  pub record Ran (k v n : ℕ) (s : List ℕ) (r : Run) : Type 0 where
    pub more : ℕ
    pub counted : r.count ≡ n + more
    pub most : more ≤ k
    pub text : s ≡ fixed b more r.value ++ drop more s
    pub high : r.value / b ^ more ≡ v

  ran_none : (k v n : ℕ) (s : List ℕ) → Ran k v n s (record { value = v; count = n })
  unfolding fixed
  ran_none k v n s = record { more = 0; counted = omega arith; most = omega arith; text = refl; high = div_none b v }

  ran_more : (k v n x : ℕ) (s : List ℕ) (r : Run) → value_of x < b → Ran k (v * b + value_of x) (n + 1) s r → Ran (suc k) v n (x ∷ s) r
  unfolding fixed
  ran_more k v n x s r h q =
      let low : r.value / b ^ q.more % b ≡ value_of x = ap (◌% b) q.high ∙ mul-add-mod_self_right v b (value_of x) ∙ mod-eq_of_lt h in
      record {
        more = suc q.more;
        counted = omega (arith, q.counted);
        most = omega (arith, q.most);
        text = rw (low, digit_value x (lt_of_lt_of_le h le16)) (ap (x ∷◌) q.text);
        high = div_step b q.more r.value ∙ ap (◌/ b) q.high ∙ mul-add-div_right pos v (value_of x) ∙ rw (div-eq_of_lt h) (add-zero v);
      }

  pub run_sound : (k v n : ℕ) (s : List ℕ) → Ran k v n s (run_in b k v n s)
  unfolding run_in
  run_sound zero v n s = ran_none zero v n s
  run_sound (suc k) v n [] = ran_none (suc k) v n []
  run_sound (suc k) v n (x ∷ s) = go (ltb (value_of x) b) refl (run_sound k (v * b + value_of x) (n + 1) s)
    where
      go : (t : Bool) → ltb (value_of x) b ≡ t → Ran k (v * b + value_of x) (n + 1) s (run_in b k (v * b + value_of x) (n + 1) s) → Ran (suc k) v n (x ∷ s) (pick t (run_in b k (v * b + value_of x) (n + 1) s) (record { value = v; count = n }))
      go true e q = ran_more k v n x s _ (ltb-true _ _ e) q
      go false e q = ran_none (suc k) v n (x ∷ s)

  pub run_complete : (k j n w : ℕ) (rest : List ℕ) → j ≤ k → (j < k → Halts b rest) → run_in b k (w / b ^ j) n (fixed b j w ++ rest) ≡ record { value = w; count = n + j }
  unfolding run_in fixed
  run_complete zero zero n w rest h stop = run_eq (div_none b w) (omega arith)
  run_complete (suc k) zero n w [] h stop = run_eq (div_none b w) (omega arith)
  run_complete (suc k) zero n w (x ∷ s) h stop = rw (le-ltb _ _ (stop (omega arith))) (run_eq (div_none b w) (omega arith))
  run_complete zero (suc j) n w rest h stop = absurd (not-suc-le-zero h)
  run_complete (suc k) (suc j) n w rest h stop =
      let low : w / b ^ j % b < b = mod-lt (w / b ^ j) pos in
      let e : value_of (digit (w / b ^ j % b)) ≡ w / b ^ j % b = value_digit (w / b ^ j % b) (lt_of_lt_of_le low le16) in
      rw (e, lt-ltb _ _ low, digit_step b j w) (run_complete k j (n + 1) w rest (le_of_suc-le-suc h) (λ q. stop (omega arith)) ∙ run_eq refl (omega arith))
