-- Decimals, hexadecimal digits and letters: each is found exactly where it is written.
-- Assumes nothing.
use Prim.Native.Nat.{ℕ, zero, suc, ◌+◌, ◌*◌, ◌-◌, ◌/◌, ◌%◌, ◌^◌, ◌≤◌, ◌<◌}
use mathlib.Core.Path.{◌≡◌, refl, sym, ap, ◌∙◌, subst}
use mathlib.Core.Bool.{Bool, true, false}
use mathlib.Core.List.{List, [], ◌∷◌, ◌++◌, append_assoc}
use Rattle.std.specs.Prelude.{Some, None}
use native.Mathlib.Nat.{pow-suc, div-eq_of_lt, mod-eq_of_lt, div-lt_iff_lt-mul, one-le-pow, lt_of_lt_of_le, le_trans, mod-lt, lt_irrefl, le-div_iff_mul-le, one-mul, zero-add, add-zero, suc-add, suc-mul, mul_comm, mul_assoc, mul-le-mul_right, mul-add-div_right, mul-add-mod_self_right, div-div-eq-div-mul, div-add-mod'}
use native.Mathlib.Omega.{arith}
use lib.Dec.{ltb, leb, eqb, lit<, lit≤}
use lib.ListN.{length, drop, get_or, length-append, length-drop}
use lib.Seq.{drop-drop, drop_at}
use lib.Pow.{pow-add}
use borrow.Author.Tests.{lt-ltb, le-ltb, ltb-false, leb-true, leb-false, eqb-true, eqb-false, eq-eqb, ne_eqb}
use Rattle.script_form.specs.Digits.{digit, fixed, place, decimal, hex}
use Rattle.script_form.proofs.Lengths.{length-fixed, ten, place_is}
use Rattle.katan.specs.Bit.{pick}
use Rattle.script_form.specs.Form.{first}
use Rattle.script_form.specs.scanner.Scan.{value_of, run_in, decimal_of, decimal_in, word_of, words_of, digits_in, letter_in}
use Rattle.script_form.specs.declared.digits.Run.{Run}
use Rattle.script_form.specs.declared.pieces.Step.{Step}
use Rattle.script_form.specs.declared.pieces.Step.TheVariants.{Letter, Field, Words}
use Rattle.script_form.proofs.Runs.{value_digit, run_eq, run_sound, run_complete, Halts, Ran}

pub pow_pos : (b k : ℕ) → 0 < b → 0 < b ^ k
pow_pos b k h = one-le-pow k b h

below : (b k w : ℕ) → 0 < b → w / b ^ k ≡ 0 → w < b ^ k
below b k w h e = rw one-mul at ((div-lt_iff_lt-mul {k = b ^ k} {x = w} {y = 1} (pow_pos b k h)).0 (omega arith))

place_low : (m n : ℕ) → 0 < place m n → 10 ^ place m n ≤ n
unfolding place
place_low zero n h = absurd (lt_irrefl 0 h)
place_low (suc m) n h = go (leb (10 ^ suc m) n) refl (place_low m n) h
  where
    go : (t : Bool) → leb (10 ^ suc m) n ≡ t → (0 < place m n → 10 ^ place m n ≤ n) → 0 < pick t (suc m) (place m n) → 10 ^ pick t (suc m) (place m n) ≤ n
    go true e ih h = leb-true _ _ e
    go false e ih h = ih h

place_high : (m n : ℕ) → n < 10 ^ suc m → n < 10 ^ suc (place m n)
unfolding place
place_high zero n h = h
place_high (suc m) n h = go (leb (10 ^ suc m) n) refl (place_high m n)
  where
    go : (t : Bool) → leb (10 ^ suc m) n ≡ t → (n < 10 ^ suc m → n < 10 ^ suc (place m n)) → n < 10 ^ suc (pick t (suc m) (place m n))
    go true e ih = h
    go false e ih = ih (leb-false _ _ e)

-- j digits that do not begin with a spare zero are the decimal
canon : (x : ℕ) (t : List ℕ) (w j : ℕ) (more : List ℕ) → x ∷ t ≡ fixed 10 j w ++ more → 0 < j → j ≤ 10 → w / 10 ^ j ≡ 0 → (1 < j → x ≡ 48 → ⊥) → decimal w ≡ fixed 10 j w
unfolding fixed decimal digit
canon x t w zero more e some most high lead = absurd (lt_irrefl 0 some)
canon x t w (suc i) more e some most high lead = ap (λ (k : ℕ). fixed 10 (suc k) w) (place_is 19 i w (omega arith) low (below 10 (suc i) w (omega arith) high))
  where
    low : 0 < i → 10 ^ i ≤ w
    low h = go (leb (10 ^ i) w) refl
      where
        go : (u : Bool) → leb (10 ^ i) w ≡ u → 10 ^ i ≤ w
        go true f = leb-true _ _ f
        go false f = absurd (lead (omega arith) (ap first e ∙ rw (div-eq_of_lt (leb-false _ _ f)) refl))

record Decided (max x : ℕ) (r : Run) (v u : ℕ) : Type 0 where
  value : r.value ≡ v
  count : r.count ≡ u
  some : 0 < u
  small : v ≤ max
  lead : 1 < u → x ≡ 48 → ⊥

field_value : {v u w n : ℕ} → Some (Field v u) ≡ Some (Field w n) → v ≡ w
field_value e = cc

field_count : {v u w n : ℕ} → Some (Field v u) ≡ Some (Field w n) → u ≡ n
field_count e = cc

decided_field : (max x : ℕ) (r : Run) (v u : ℕ) → decimal_of max x r ≡ Some (Field v u) → Decided max x r v u
decided_field max x r v u = go (eqb r.count 0) (ltb max r.value) (eqb r.count 1) (eqb x 48) refl refl refl refl
  where
    go : (a b c d : Bool) → eqb r.count 0 ≡ a → ltb max r.value ≡ b → eqb r.count 1 ≡ c → eqb x 48 ≡ d
        → pick a None (pick b None (pick c (Some (Field r.value r.count)) (pick d None (Some (Field r.value r.count))))) ≡ Some (Field v u) → Decided max x r v u
    go true b c d p q s t e = cc
    go false true c d p q s t e = cc
    go false false true d p q s t e =
        let one : r.count ≡ 1 = eqb-true _ _ s in
        let i : r.count ≡ u = field_count e in
        let j : r.value ≡ v = field_value e in
        record { value = j; count = i; some = omega arith; small = omega (arith, ltb-false max r.value q); lead = λ h f. omega arith }
    go false false false true p q s t e = cc
    go false false false false p q s t e =
        let z : r.count ≡ 0 → ⊥ = eqb-false _ _ p in
        let i : r.count ≡ u = field_count e in
        let j : r.value ≡ v = field_value e in
        record { value = j; count = i; some = omega arith; small = omega (arith, ltb-false max r.value q); lead = λ h f. eqb-false _ _ t f }

-- what a field says of the bytes that it was read from
pub record Found (text : ℕ → List ℕ) (s : List ℕ) (v u : ℕ) : Type 0 where
  pub front : s ≡ text v ++ drop u s
  pub inside : u ≤ length s

fits_in : (s t m : List ℕ) (u : ℕ) → s ≡ t ++ m → length t ≡ u → u ≤ length s
fits_in s t m u e f = omega (arith, simp length-append at (ap length e))

module _ (b k : ℕ) (pos : 0 < b) (le16 : b ≤ 16) (s : List ℕ) (r : Run) (v u : ℕ) (q : Ran b pos le16 k 0 0 s r) (e : r.value ≡ v) (f : r.count ≡ u) where
  ran_count : q.more ≡ u
  ran_count = omega (arith, q.counted)

  ran_text : s ≡ fixed b u v ++ drop u s
  ran_text = rw (← ran_count, ← e) q.text

  ran_high : v / b ^ u ≡ 0
  ran_high = rw (← ran_count, ← e) q.high

  ran_inside : u ≤ length s
  ran_inside = fits_in s (fixed b u v) (drop u s) u ran_text (length-fixed b u v)

pub run_within : (k : ℕ) (s : List ℕ) → (run_in 16 k 0 0 s).count ≤ length s
run_within k s = ran_inside 16 k (lit< tt) (lit≤ tt) s (run_in 16 k 0 0 s) _ _ (run_sound 16 (lit< tt) (lit≤ tt) k 0 0 s) refl refl

decimal_found : (max x : ℕ) (t : List ℕ) (r : Run) (v u : ℕ) → Decided max x r v u → Ran 10 (lit< tt) (lit≤ tt) 10 0 0 (x ∷ t) r → (v ≤ max) × Found decimal (x ∷ t) v u
decimal_found max x t r v u d q =
    let n : q.more ≡ u = ran_count 10 10 (lit< tt) (lit≤ tt) (x ∷ t) r v u q d.value d.count in
    let w : x ∷ t ≡ fixed 10 u v ++ drop u (x ∷ t) = ran_text 10 10 (lit< tt) (lit≤ tt) (x ∷ t) r v u q d.value d.count in
    let h : v / 10 ^ u ≡ 0 = ran_high 10 10 (lit< tt) (lit≤ tt) (x ∷ t) r v u q d.value d.count in (
      d.small,
      record {
        front = rw (canon x t v u (drop u (x ∷ t)) w d.some (omega (arith, q.most)) h d.lead) w;
        inside = ran_inside 10 10 (lit< tt) (lit≤ tt) (x ∷ t) r v u q d.value d.count;
      },
    )

pub decimal_sound : (max : ℕ) (s : List ℕ) (v u : ℕ) → decimal_in max s ≡ Some (Field v u) → (v ≤ max) × Found decimal s v u
unfolding decimal_in
decimal_sound max [] v u e = cc
decimal_sound max (x ∷ t) v u e = decimal_found max x t (run_in 10 10 0 0 (x ∷ t)) v u (decided_field max x (run_in 10 10 0 0 (x ∷ t)) v u e) (run_sound 10 (lit< tt) (lit≤ tt) 10 0 0 (x ∷ t))

-- ---- hexadecimal digits in one word

word_found : (k : ℕ) (s : List ℕ) (r : Run) (v u : ℕ) → word_of k r ≡ Some (Field v u) → Ran 16 (lit< tt) (lit≤ tt) k 0 0 s r → (v < 16 ^ k) × Found (hex k) s v u
word_found k s r v u e q = go (eqb r.count k) refl e
  where
    go : (t : Bool) → eqb r.count k ≡ t → pick t (Some (Field r.value r.count)) None ≡ Some (Field v u) → (v < 16 ^ k) × Found (hex k) s v u
    go true f e =
        let i : k ≡ u = omega (arith, eqb-true r.count k f, field_count e) in (
          rw i (below 16 u v (lit< tt) (ran_high 16 k (lit< tt) (lit≤ tt) s r v u q (field_value e) (field_count e))),
          record {
            front = rw i (ran_text 16 k (lit< tt) (lit≤ tt) s r v u q (field_value e) (field_count e));
            inside = ran_inside 16 k (lit< tt) (lit≤ tt) s r v u q (field_value e) (field_count e);
          },
        )
    go false f e = cc

word_complete : (k v : ℕ) (s : List ℕ) → v < 16 ^ k → run_in 16 k 0 0 (hex k v ++ s) ≡ record { value = v; count = k }
word_complete k v s h =
    rw (div-eq_of_lt h) at (run_complete 16 (lit< tt) (lit≤ tt) k k 0 v s (omega arith) (λ x. absurd (lt_irrefl k x))) ∙ run_eq refl (omega arith)

-- ---- and in two

-- the digits of a number in two parts
fixed_join : (b j k n : ℕ) → fixed b (j + k) n ≡ fixed b j (n / b ^ k) ++ fixed b k n
unfolding fixed
fixed_join b zero k n = ap (λ (i : ℕ). fixed b i n) (zero-add k)
fixed_join b (suc j) k n =
    let e : n / b ^ (j + k) ≡ n / b ^ k / b ^ j = ap (n /◌) (pow-add b j k ∙ mul_comm (b ^ j) (b ^ k)) ∙ sym (div-div-eq-div-mul n (b ^ k) (b ^ j)) in
    ap (λ (i : ℕ). fixed b i n) (suc-add j k) ∙ (λ i. digit (e i % b) ∷ fixed_join b j k n i)

-- the lowest digits do not see what stands above them
low_digit : (b h l i j : ℕ) → 0 < b → (h * b ^ (suc j + i) + l) / b ^ i % b ≡ l / b ^ i % b
low_digit b h l i j pos =
    let e : h * b ^ (suc j + i) ≡ h * b ^ suc j * b ^ i = ap (h *◌) (pow-add b (suc j) i) ∙ sym (mul_assoc h (b ^ suc j) (b ^ i)) in
    let f : h * b ^ suc j ≡ h * b ^ j * b = ap (h *◌) (pow-suc b j) ∙ sym (mul_assoc h (b ^ j) b) in
    ap (λ (x : ℕ). (x + l) / b ^ i % b) e ∙ ap (◌% b) (mul-add-div_right (pow_pos b i pos) (h * b ^ suc j) l) ∙ ap (λ (x : ℕ). (x + l / b ^ i) % b) f ∙ mul-add-mod_self_right (h * b ^ j) b (l / b ^ i)

fixed_low_from : (b h l k i : ℕ) → 0 < b → i ≤ k → fixed b i (h * b ^ k + l) ≡ fixed b i l
unfolding fixed
fixed_low_from b h l k zero pos le = refl
fixed_low_from b h l k (suc i) pos le =
    let e : suc (k - suc i) + i ≡ k = omega arith in
    let f : (h * b ^ k + l) / b ^ i % b ≡ l / b ^ i % b = subst (λ (x : ℕ). (h * b ^ x + l) / b ^ i % b ≡ l / b ^ i % b) e (low_digit b h l i (k - suc i) pos) in
    λ j. digit (f j) ∷ fixed_low_from b h l k i pos (omega arith) j

fixed_low : (b h l k : ℕ) → 0 < b → fixed b k (h * b ^ k + l) ≡ fixed b k l
fixed_low b h l k pos = fixed_low_from b h l k k pos (omega arith)

hex_join : (k h l : ℕ) → l < 16 ^ 16 → hex (k + 16) (h * 16 ^ 16 + l) ≡ hex k h ++ hex 16 l
hex_join k h l less =
    let e : (h * 16 ^ 16 + l) / 16 ^ 16 ≡ h = mul-add-div_right {m = 16 ^ 16} (pow_pos 16 16 (lit< tt)) h l ∙ rw (div-eq_of_lt less) (add-zero h) in
    fixed_join 16 k 16 (h * 16 ^ 16 + l) ∙ (λ i. fixed 16 k (e i) ++ fixed_low 16 h l 16 (lit< tt) i)

words_below : (k h l : ℕ) → h < 16 ^ k → l < 16 ^ 16 → h * 16 ^ 16 + l < 16 ^ (k + 16)
words_below k h l a b =
    let c : suc h * 16 ^ 16 ≤ 16 ^ k * 16 ^ 16 = mul-le-mul_right (16 ^ 16) a in
    rw (pow-add 16 k 16) (omega (arith, suc-mul h (16 ^ 16)))

-- what two words say of the bytes that they were read from
pub record Halves (k : ℕ) (s : List ℕ) (h l u : ℕ) : Type 0 where
  pub low : l < 16 ^ 16
  pub small : h * 16 ^ 16 + l < 16 ^ k
  pub found : Found (hex k) s (h * 16 ^ 16 + l) u

words_found : (k : ℕ) (s : List ℕ) (r q : Run) (h l u : ℕ) → words_of k r q ≡ Some (Words h l u) → Ran 16 (lit< tt) (lit≤ tt) k 0 0 s r → Ran 16 (lit< tt) (lit≤ tt) 16 0 0 (drop k s) q → Halves (k + 16) s h l u
words_found k s r q h l u e x y = go (eqb r.count k) (eqb q.count 16) refl refl e
  where
    go : (a b : Bool) → eqb r.count k ≡ a → eqb q.count 16 ≡ b → pick a (pick b (Some (Words r.value q.value (k + 16))) None) None ≡ Some (Words h l u) → Halves (k + 16) s h l u
    go true true f g e =
        let eh : r.value ≡ h = cc in
        let el : q.value ≡ l = cc in
        let eu : k + 16 ≡ u = cc in
        let rc : r.count ≡ k = eqb-true r.count k f in
        let qc : q.count ≡ 16 = eqb-true q.count 16 g in
        let lowest : l < 16 ^ 16 = below 16 16 l (lit< tt) (ran_high 16 16 (lit< tt) (lit≤ tt) (drop k s) q l 16 y el qc) in
        let highest : h < 16 ^ k = below 16 k h (lit< tt) (ran_high 16 k (lit< tt) (lit≤ tt) s r h k x eh rc) in
        let front : s ≡ hex k h ++ drop k s = ran_text 16 k (lit< tt) (lit≤ tt) s r h k x eh rc in
        let back : drop k s ≡ hex 16 l ++ drop 16 (drop k s) = ran_text 16 16 (lit< tt) (lit≤ tt) (drop k s) q l 16 y el qc in
        let more : 16 ≤ length (drop k s) = ran_inside 16 16 (lit< tt) (lit≤ tt) (drop k s) q l 16 y el qc in
        record {
          low = lowest;
          small = words_below k h l highest lowest;
          found = record {
            front = subst (λ (z : ℕ). s ≡ hex (k + 16) (h * 16 ^ 16 + l) ++ drop z s) eu
                (front ∙ ap (hex k h ++◌) (back ∙ ap (hex 16 l ++◌) (drop-drop 16 k s)) ∙ sym (append_assoc (hex k h) (hex 16 l) (drop (k + 16) s)) ∙ ap (◌++ drop (k + 16) s) (sym (hex_join k h l lowest)));
            inside = omega (arith, length-drop k s);
          };
        }
    go true false f g e = cc
    go false b f g e = cc

-- ---- either

word_words : (t : Bool) (v n h l u : ℕ) → pick t (Some (Field v n)) None ≡ Some (Words h l u) → ⊥
word_words true v n h l u e = cc
word_words false v n h l u e = cc

words_field : (a b : Bool) (h l n v u : ℕ) → pick a (pick b (Some (Words h l n)) None) None ≡ Some (Field v u) → ⊥
words_field true true h l n v u e = cc
words_field true false h l n v u e = cc
words_field false b h l n v u e = cc

pub digits_sound : (k : ℕ) (s : List ℕ) (v u : ℕ) → digits_in k s ≡ Some (Field v u) → (leb k 16 ≡ true) × (v < 16 ^ k) × Found (hex k) s v u
unfolding digits_in
digits_sound k s v u e = go (leb k 16) e
  where
    go : (t : Bool) → pick t (word_of k (run_in 16 k 0 0 s)) (words_of (k - 16) (run_in 16 (k - 16) 0 0 s) (run_in 16 16 0 0 (drop (k - 16) s))) ≡ Some (Field v u) → (t ≡ true) × (v < 16 ^ k) × Found (hex k) s v u
    go true e = let g = word_found k s (run_in 16 k 0 0 s) v u e (run_sound 16 (lit< tt) (lit≤ tt) k 0 0 s) in (refl, g.0, g.1)
    go false e =
        let r = run_in 16 (k - 16) 0 0 s in
        let q = run_in 16 16 0 0 (drop (k - 16) s) in
        absurd (words_field (eqb r.count (k - 16)) (eqb q.count 16) r.value q.value (k - 16 + 16) v u e)

pub words_sound : (k : ℕ) (s : List ℕ) (h l u : ℕ) → digits_in k s ≡ Some (Words h l u) → (leb k 16 ≡ false) × Halves k s h l u
unfolding digits_in
words_sound k s h l u e = go (leb k 16) refl e
  where
    go : (t : Bool) → leb k 16 ≡ t → pick t (word_of k (run_in 16 k 0 0 s)) (words_of (k - 16) (run_in 16 (k - 16) 0 0 s) (run_in 16 16 0 0 (drop (k - 16) s))) ≡ Some (Words h l u) → (t ≡ false) × Halves k s h l u
    go true f e = let r = run_in 16 k 0 0 s in absurd (word_words (eqb r.count k) r.value r.count h l u e)
    go false f e =
        let n : k - 16 + 16 ≡ k = omega (arith, leb-false k 16 f) in (
          refl,
          subst (λ (z : ℕ). Halves z s h l u) n (words_found (k - 16) s (run_in 16 (k - 16) 0 0 s) (run_in 16 16 0 0 (drop (k - 16) s)) h l u e (run_sound 16 (lit< tt) (lit≤ tt) (k - 16) 0 0 s) (run_sound 16 (lit< tt) (lit≤ tt) 16 0 0 (drop (k - 16) s))),
        )

-- the step that a number of k digits is
abbrev pub step_of : ℕ → ℕ → Step
step_of k v = pick (leb k 16) (Field v k) (Words (v / 16 ^ 16) (v % 16 ^ 16) k)

pub digits_complete : (k v : ℕ) (s : List ℕ) → v < 16 ^ k → digits_in k (hex k v ++ s) ≡ Some (step_of k v)
unfolding digits_in
digits_complete k v s less = go (leb k 16) refl
  where
    go : (t : Bool) → leb k 16 ≡ t → pick t (word_of k (run_in 16 k 0 0 (hex k v ++ s))) (words_of (k - 16) (run_in 16 (k - 16) 0 0 (hex k v ++ s)) (run_in 16 16 0 0 (drop (k - 16) (hex k v ++ s)))) ≡ Some (pick t (Field v k) (Words (v / 16 ^ 16) (v % 16 ^ 16) k))
    go true f = ap (word_of k) (word_complete k v s less) ∙ rw (eq-eqb k k refl)
    go false f =
        let n : k - 16 + 16 ≡ k = omega (arith, leb-false k 16 f) in
        let low : v % 16 ^ 16 < 16 ^ 16 = mod-lt v (pow_pos 16 16 (lit< tt)) in
        let high : v / 16 ^ 16 < 16 ^ (k - 16) = (div-lt_iff_lt-mul {k = 16 ^ 16} {x = v} {y = 16 ^ (k - 16)} (pow_pos 16 16 (lit< tt))).1 (rw (← pow-add 16 (k - 16) 16, n) less) in
        let text : hex k v ++ s ≡ hex (k - 16) (v / 16 ^ 16) ++ (hex 16 (v % 16 ^ 16) ++ s) =
        sym (λ i. hex (n i) (div-add-mod' v (16 ^ 16) i) ++ s) ∙ ap (◌++ s) (hex_join (k - 16) (v / 16 ^ 16) (v % 16 ^ 16) low) ∙ append_assoc (hex (k - 16) (v / 16 ^ 16)) (hex 16 (v % 16 ^ 16)) s in
        let rest : drop (k - 16) (hex k v ++ s) ≡ hex 16 (v % 16 ^ 16) ++ s = ap (drop (k - 16)) text ∙ drop_at (hex (k - 16) (v / 16 ^ 16)) (hex 16 (v % 16 ^ 16) ++ s) (k - 16) (length-fixed 16 (k - 16) (v / 16 ^ 16)) in
        (λ i. words_of (k - 16) (run_in 16 (k - 16) 0 0 (text i)) (run_in 16 16 0 0 (rest i)))
        ∙ (λ i. words_of (k - 16) (word_complete (k - 16) (v / 16 ^ 16) (hex 16 (v % 16 ^ 16) ++ s) high i) (word_complete 16 (v % 16 ^ 16) s low i))
        ∙ rw (eq-eqb (k - 16) (k - 16) refl) (ap (λ (i : ℕ). Some (Words (v / 16 ^ 16) (v % 16 ^ 16) i)) n)

-- a decimal's leading digit is no zero, unless it is the only one
lead_one : (k v : ℕ) → 10 ^ k ≤ v → v < 10 ^ suc k → digit (v / 10 ^ k % 10) ≡ 48 → ⊥
unfolding digit
lead_one k v low high e =
    let a : 1 ≤ v / 10 ^ k = (le-div_iff_mul-le {k = 10 ^ k} {x = 1} {y = v} (pow_pos 10 k (lit< tt))).1 (omega arith) in
    let b : v / 10 ^ k < 10 = (div-lt_iff_lt-mul {k = 10 ^ k} {x = v} {y = 10} (pow_pos 10 k (lit< tt))).1 (omega (arith, pow-suc 10 k)) in
    omega (arith, simp (mod-eq_of_lt b, lt-ltb (v / 10 ^ k) 10 b) at e)

decide : (max x v k : ℕ) → v ≤ max → (0 < k → x ≡ 48 → ⊥) → decimal_of max x (record { value = v; count = 0 + suc k }) ≡ Some (Field v (suc k))
decide max x v zero h lead = rw (le-ltb max v h) refl
decide max x v (suc k) h lead =
    rw (ne_eqb (0 + suc (suc k)) 0 (omega arith), le-ltb max v h, ne_eqb (0 + suc (suc k)) 1 (omega arith), ne_eqb x 48 (lead (omega arith))) (ap (λ (i : ℕ). Some (Field v i)) (omega arith))

few : (v : ℕ) → v < 10 ^ 10 → suc (place 19 v) ≤ 10
few v h = go (leb 10 (place 19 v)) refl
  where
    go : (t : Bool) → leb 10 (place 19 v) ≡ t → suc (place 19 v) ≤ 10
    go true e =
        let p : 10 ≤ place 19 v = leb-true 10 (place 19 v) e in
        absurd (lt_irrefl v (lt_of_lt_of_le h (le_trans (ten 10 (place 19 v) p) (place_low 19 v (omega arith)))))
    go false e = leb-false 10 (place 19 v) e

pub length-decimal : (v : ℕ) → v < 10 ^ 10 → length (decimal v) ≤ 10
unfolding decimal
length-decimal v h = rw (length-fixed 10 (suc (place 19 v)) v) (few v h)

pub decimal_complete : (max v : ℕ) (s : List ℕ) → v ≤ max → max < 10 ^ 10 → Halts 10 s → decimal_in max (decimal v ++ s) ≡ Some (Field v (length (decimal v)))
unfolding decimal_in decimal fixed
decimal_complete max v s h top stop =
    let high : v < 10 ^ suc (place 19 v) = place_high 19 v (omega arith) in
    let m : run_in 10 10 0 0 (fixed 10 (suc (place 19 v)) v ++ s) ≡ record { value = v; count = 0 + suc (place 19 v) } =
    rw (div-eq_of_lt high) at (run_complete 10 (lit< tt) (lit≤ tt) 10 (suc (place 19 v)) 0 v s (few v (omega arith)) (λ x. stop)) in
    ap (decimal_of max (digit (v / 10 ^ place 19 v % 10))) m ∙ decide max _ v (place 19 v) h (λ p. lead_one (place 19 v) v (place_low 19 v p) high) ∙ ap (λ (i : ℕ). Some (Field v i)) (sym (length-fixed 10 (suc (place 19 v)) v))

pub letter_sound : (p : ℕ) (s : List ℕ) → letter_in p s ≡ Some Letter → (s ≡ p ∷ drop 1 s) × (1 ≤ length s)
unfolding letter_in
letter_sound p [] e = cc
letter_sound p (x ∷ s) e = go (eqb x p) refl e
  where
    go : (t : Bool) → eqb x p ≡ t → pick t (Some Letter) None ≡ Some Letter → (x ∷ s ≡ p ∷ s) × (1 ≤ suc (length s))
    go true f e = (ap (◌∷ s) (eqb-true _ _ f), omega arith)
    go false f e = cc

pub letter_complete : (p : ℕ) (s : List ℕ) → letter_in p (p ∷ s) ≡ Some Letter
unfolding letter_in
letter_complete p s = rw (eq-eqb p p refl)

-- a decimal starts with a digit
pub value_of_decimal : (v : ℕ) (s : List ℕ) → value_of (get_or (decimal v ++ s) 0 0) < 10
unfolding decimal fixed
value_of_decimal v s =
    let low : v / 10 ^ place 19 v % 10 < 10 = mod-lt (v / 10 ^ place 19 v) (lit< tt) in
    rw (value_digit (v / 10 ^ place 19 v % 10) (lt_of_lt_of_le low (lit≤ tt))) low
