-- Clocks whose inputs stand in words are the clocks with these inputs, and rounds.
-- Assumes nothing.
use mathlib.Core.Path.{◌≡◌, refl, sym, ap, ap₂, ◌∙◌}
use Prim.Native.Nat.{ℕ, zero, suc, ◌+◌, ◌-◌, ◌*◌, ◌/◌, ◌%◌, ◌^◌, ◌<◌, ◌≤◌}
use native.Mathlib.Nat.{zero-add, add-zero, add_comm, suc-add, zero-mul, suc-mul, mul-one, mul-add, add-mul, mul_assoc, mul_right_comm, mod-lt, pow-suc}
use native.Mathlib.Numerals.{one-add}
use native.Mathlib.Omega.{arith}
use lib.Dec.{lit<}
use lib.Pow.{pow_pos}
use Rattle.katan.specs.Clock.{clock, unclock, clocks, unclocks, round, unround, run, unrun}
use Rattle.katan.specs.inner.Within.{Sound, Bits}
use Rattle.katan.specs.declared.Row.{Row}
use Rattle.katan.specs.declared.Registers.{Registers}
use Rattle.katan.specs.declared.RoundInput.{RoundInput}
use Rattle.katan_clocks.specs.Clocks.{lowest, earlier, clocks_by, unclocks_by}
use Rattle.katan_clocks.specs.inner.Words.{at_once, undone_at_once, in_each, beside, words_of, in_turn, undone_in_turn}
use Rattle.katan_clocks.proofs.AtOnce.{forth, back}

-- x above k places that all have the bit b
abbrev over : (k x b : ℕ) → ℕ
over k x b = x * 2 ^ k + b * (2 ^ k - 1)

over_none : (x b : ℕ) → over 0 x b ≡ x
over_none x b = omega arith

-- one such place more, below
over_more : (k x b : ℕ) → over (suc k) x b ≡ over k x b * 2 + b
over_more k x b =
    let p = 2 ^ k in
    let up : x * 2 ^ suc k ≡ x * p * 2 = ap (x *◌) (pow-suc 2 k) ∙ sym (mul_assoc x p 2) in
    let ones : 2 ^ suc k - 1 ≡ (p - 1) * 2 + 1 = omega (arith, pow-suc 2 k, pow_pos k) in
    let each : b * (2 ^ suc k - 1) ≡ b * (p - 1) * 2 + b = ap (b *◌) ones ∙ mul-add b ((p - 1) * 2) 1 ∙ ap₂ ◌+◌ (sym (mul_assoc b (p - 1) 2)) (mul-one b) in
    omega (arith, up, each)

over_half : (k x b : ℕ) → b < 2 → over (suc k) x b / 2 ≡ over k x b
over_half k x b h = omega (arith, over_more k x b)

over_odd : (k x b : ℕ) → b < 2 → over (suc k) x b % 2 ≡ b
over_odd k x b h = omega (arith, over_more k x b)

abbrev pub inputs : (i a b : ℕ) → RoundInput
inputs i a b = record { ir = i; ka = a; kb = b }

-- inputs are equal when IR, ka and kb are
pub same_input : {i i' a a' b b' : ℕ} → i ≡ i' → a ≡ a' → b ≡ b' → inputs i a b ≡ inputs i' a' b'
same_input p q r = cc (p, q, r)

-- the words of a round of k clocks after those of w
abbrev then : (k : ℕ) (w u : RoundInput) → RoundInput
then k w u = inputs (over k w.ir u.ir) (over k w.ka u.ka) (over k w.kb u.kb)

then_none : (w u : RoundInput) → then 0 w u ≡ w
then_none w u = same_input (over_none w.ir u.ir) (over_none w.ka u.ka) (over_none w.kb u.kb)

module _ (u : RoundInput) (b : Bits u) where
  then_lowest : (k : ℕ) (w : RoundInput) → lowest (then (suc k) w u) ≡ u
  then_lowest k w = same_input (over_odd k w.ir u.ir b.ir_bit) (over_odd k w.ka u.ka b.ka_bit) (over_odd k w.kb u.kb b.kb_bit)

  then_earlier : (k : ℕ) (w : RoundInput) → earlier (then (suc k) w u) ≡ then k w u
  then_earlier k w = same_input (over_half k w.ir u.ir b.ir_bit) (over_half k w.ka u.ka b.ka_bit) (over_half k w.kb u.kb b.kb_bit)

  module _ (v : Row) where
    -- the clocks by w, and then k clocks with u
    clocks_then : (k c : ℕ) (w : RoundInput) (s : Registers) → clocks_by v (k + c) (then k w u) s ≡ clocks v u k (clocks_by v c w s)
    unfolding clocks_by
    clocks_then zero c w s = ap₂ (λ (n : ℕ) (x : RoundInput). clocks_by v n x s) (zero-add c) (then_none w u)
    clocks_then (suc k) c w s =
        ap (λ (n : ℕ). clocks_by v n (then (suc k) w u) s) (suc-add k c)
        ∙ ap₂ (λ (x y : RoundInput). clock v x (clocks_by v (k + c) y s)) (then_lowest k w) (then_earlier k w)
        ∙ ap (clock v u) (clocks_then k c w s)

    -- and so undone, these first
    unclocks_then : (k c : ℕ) (w : RoundInput) (s : Registers) → unclocks_by v (k + c) (then k w u) s ≡ unclocks_by v c w (unclocks v u k s)
    unfolding unclocks_by
    unclocks_then zero c w s = ap₂ (λ (n : ℕ) (x : RoundInput). unclocks_by v n x s) (zero-add c) (then_none w u)
    unclocks_then (suc k) c w s =
        ap (λ (n : ℕ). unclocks_by v n (then (suc k) w u) s) (suc-add k c)
        ∙ ap₂ (λ (x y : RoundInput). unclocks_by v (k + c) y (unclock v x s)) (then_lowest k w) (then_earlier k w)
        ∙ unclocks_then k c w (unclock v u s)

-- ---- many rounds

-- one number more beside the others, each of its m bits the number's
beside_more : (m : ℕ) (f : ℕ → ℕ) (n : ℕ) → beside m f (suc n) * (2 ^ m - 1) ≡ over m (beside m f n * (2 ^ m - 1)) (f n)
beside_more m f n =
    add-mul (beside m f n * 2 ^ m) (f n) (2 ^ m - 1) ∙ ap (◌+ f n * (2 ^ m - 1)) (mul_right_comm (beside m f n) (2 ^ m) (2 ^ m - 1))

words_more : (m : ℕ) (f : ℕ → RoundInput) (n : ℕ) → words_of m f (suc n) ≡ then m (words_of m f n) (f n)
words_more m f n = same_input (beside_more m (λ j. (f j).ir) n) (beside_more m (λ j. (f j).ka) n) (beside_more m (λ j. (f j).kb) n)

clocks_more : (m n : ℕ) → suc n * m ≡ m + n * m
clocks_more m n = suc-mul n m ∙ add_comm (n * m) m

module _ (v : Row) (u : ℕ → RoundInput) (b : (r : ℕ) → Bits (u r)) (p : ℕ) where
  -- LAW: clocks by the words of n rounds are the n rounds
  pub rounds_by_words : (n : ℕ) (s : Registers) → clocks_by v (n * v.clocks) (words_of v.clocks (λ j. u (p + j)) n) s ≡ run v u p n s
  unfolding clocks_by
  rounds_by_words zero s = ap (λ (n : ℕ). clocks_by v n (words_of v.clocks (λ j. u (p + j)) 0) s) (zero-mul v.clocks)
  rounds_by_words (suc n) s =
      ap₂ (λ (c : ℕ) (w : RoundInput). clocks_by v c w s) (clocks_more v.clocks n) (words_more v.clocks (λ j. u (p + j)) n)
      ∙ clocks_then (u (p + n)) (b (p + n)) v v.clocks (n * v.clocks) (words_of v.clocks (λ j. u (p + j)) n) s
      ∙ ap (round v (u (p + n))) (rounds_by_words n s)

  -- LAW: and so undone
  pub unrounds_by_words : (n : ℕ) (s : Registers) → unclocks_by v (n * v.clocks) (words_of v.clocks (λ j. u (p + j)) n) s ≡ unrun v u p n s
  unfolding unclocks_by
  unrounds_by_words zero s = ap (λ (n : ℕ). unclocks_by v n (words_of v.clocks (λ j. u (p + j)) 0) s) (zero-mul v.clocks)
  unrounds_by_words (suc n) s =
      ap₂ (λ (c : ℕ) (w : RoundInput). unclocks_by v c w s) (clocks_more v.clocks n) (words_more v.clocks (λ j. u (p + j)) n)
      ∙ unclocks_then (u (p + n)) (b (p + n)) v v.clocks (n * v.clocks) (words_of v.clocks (λ j. u (p + j)) n) s
      ∙ unrounds_by_words n (unround v (u (p + n)) s)

-- ---- any inputs, one for each clock

module _ (v : Row) (u : ℕ → RoundInput) (b : (j : ℕ) → Bits (u j)) where
  clocks_by_words : (c : ℕ) (s : Registers) → clocks_by v c (words_of 1 u c) s ≡ in_turn v u c s
  unfolding clocks_by
  clocks_by_words zero s = refl
  clocks_by_words (suc c) s =
      ap₂ (λ (n : ℕ) (w : RoundInput). clocks_by v n w s) (sym (one-add c)) (words_more 1 u c)
      ∙ clocks_then (u c) (b c) v 1 c (words_of 1 u c) s
      ∙ ap (clock v (u c)) (clocks_by_words c s)

  unclocks_by_words : (c : ℕ) (s : Registers) → unclocks_by v c (words_of 1 u c) s ≡ undone_in_turn v u c s
  unfolding unclocks_by
  unclocks_by_words zero s = refl
  unclocks_by_words (suc c) s =
      ap₂ (λ (n : ℕ) (w : RoundInput). unclocks_by v n w s) (sym (one-add c)) (words_more 1 u c)
      ∙ unclocks_then (u c) (b c) v 1 c (words_of 1 u c) s
      ∙ unclocks_by_words c (unclock v (u c) s)

  module _ (t : Sound v) (c : ℕ) (s : Registers) where
    -- LAW: c clocks with inputs u(0) .. u(c - 1) are the formula over words, each input in its place, the first highest
    pub several : 1 ≤ c → c ≤ v.x5 + 1 → at_once v c (words_of 1 u c) s ≡ in_turn v u c s
    several some few = forth v t c some few (words_of 1 u c) s ∙ clocks_by_words c s

    -- LAW: and so undone
    pub several_undone : c + v.x3 ≤ v.x1 → c + v.y3 ≤ v.y1 → undone_at_once v c (words_of 1 u c) s ≡ undone_in_turn v u c s
    several_undone near1 near2 = back v t c near1 near2 (words_of 1 u c) s ∙ unclocks_by_words c s

-- ---- one round: no words above its own

module _ (v : Row) (u : RoundInput) (s : Registers) where
  lowest_bits : Bits (lowest u)
  lowest_bits = record { ir_bit = mod-lt u.ir (lit< tt); ka_bit = mod-lt u.ka (lit< tt); kb_bit = mod-lt u.kb (lit< tt) }

  alone : (c : ℕ) → in_each c u ≡ then c (inputs 0 0 0) (lowest u)
  alone c =
      let e : (x : ℕ) → x ≡ 0 * 2 ^ c + x = λ x. omega (arith, zero-mul (2 ^ c)) in
      same_input (e _) (e _) (e _)

  -- LAW: clocks by one round's input in each are the round
  pub one_by_words : clocks_by v v.clocks (in_each v.clocks u) s ≡ round v (lowest u) s
  unfolding clocks_by
  one_by_words =
      ap₂ (λ (c : ℕ) (w : RoundInput). clocks_by v c w s) (sym (add-zero v.clocks)) (alone v.clocks)
      ∙ clocks_then (lowest u) lowest_bits v v.clocks 0 (inputs 0 0 0) s

  -- LAW: and so undone
  pub un_one_by_words : unclocks_by v v.clocks (in_each v.clocks u) s ≡ unround v (lowest u) s
  unfolding unclocks_by
  un_one_by_words =
      ap₂ (λ (c : ℕ) (w : RoundInput). unclocks_by v c w s) (sym (add-zero v.clocks)) (alone v.clocks)
      ∙ unclocks_then (lowest u) lowest_bits v v.clocks 0 (inputs 0 0 0) s
