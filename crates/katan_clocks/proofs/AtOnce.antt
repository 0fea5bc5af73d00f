-- Several clocks as one formula over words, forth and back.
-- Assumes nothing.
use mathlib.Core.Path.{◌≡◌, sym, ap, ap₂, ◌∙◌}
use Prim.Native.Nat.{ℕ, zero, suc, ◌+◌, ◌-◌, ◌*◌, ◌/◌, ◌%◌, ◌^◌, ◌<◌, ◌≤◌}
use native.Mathlib.Nat.{mod-lt, mod-one, div-one, sub-zero, div-add-mod', mul_right_comm, pow-suc, zero-mul, zero-add, add-mul, mul_assoc, add_comm, suc-add, mul-add-div_right, mul-add-mod_self_right}
use native.Mathlib.Numerals.{add-one, one-add}
use native.Mathlib.Omega.{arith}
use lib.Bits.{xor_shr, xor_mod, and_shr, and_mod}
use lib.Pow.{pow_pos, pow-add, shr-shr, mod-pow-add}
use Rattle.katan.specs.Bit.{bit, xor, and}
use Rattle.katan.specs.Clock.{fa, fb, fa_rest, fb_rest, shift_in, shift_out, clock, unclock}
use Rattle.katan.specs.inner.Within.{Sound}
use Rattle.katan.specs.declared.Row.{Row}
use Rattle.katan.specs.declared.Registers.{Registers}
use Rattle.katan.specs.declared.RoundInput.{RoundInput}
use Rattle.katan.proofs.Bits.{fa_rest_map, fa_map, fb_rest_map, fb_map, bit-mod, bit_above, bit_lowest, bit-shr}
use Rattle.katan_clocks.specs.Clocks.{lowest, earlier, clocks_by, unclocks_by}
use Rattle.katan_clocks.specs.inner.Words.{tap, enter, at_once, restore, undone_at_once, without}

abbrev pair : ℕ → ℕ → Registers
pair x y = record { l1 = x; l2 = y }

-- ---- formulas over words

-- a map of words that goes by bits: it keeps xor and and
record Through (h : ℕ → ℕ) : Type 0 where
  xors : (a b : ℕ) → h (xor a b) ≡ xor (h a) (h b)
  ands : (a b : ℕ) → h (and a b) ≡ and (h a) (h b)

down : (k : ℕ) → Through (λ x. x / 2 ^ k)
down k = record { xors = λ a b. xor_shr a b k; ands = λ a b. and_shr a b k }

cut : (k : ℕ) → Through (λ x. x % 2 ^ k)
cut k = record { xors = λ a b. xor_mod a b k; ands = λ a b. and_mod a b k }

-- a map on all three words
abbrev each : (ℕ → ℕ) → RoundInput → RoundInput
each h w = record { ir = h w.ir; ka = h w.ka; kb = h w.kb }

-- a formula goes by bits, and sees of its register only the places from least to below most
record Formula (least most : ℕ) (f : (ℕ → ℕ) → RoundInput → ℕ) : Type 0 where
  maps : (h : ℕ → ℕ) → Through h → (l : ℕ → ℕ) (w : RoundInput) → h (f l w) ≡ f (λ i. h (l i)) (each h w)
  sees : (l m : ℕ → ℕ) → ((i : ℕ) → least ≤ i → i < most → l i ≡ m i) → (w : RoundInput) → f l w ≡ f m w

module _ (v : Row) where
  abbrev form_a : (ℕ → ℕ) → RoundInput → ℕ
  form_a l w = fa xor and v l w.ir w.ka

  abbrev form_b : (ℕ → ℕ) → RoundInput → ℕ
  form_b l w = fb xor and v l w.kb

  abbrev rest_a : (ℕ → ℕ) → RoundInput → ℕ
  rest_a l w = fa_rest xor and v l w.ir w.ka

  abbrev rest_b : (ℕ → ℕ) → RoundInput → ℕ
  rest_b l w = fb_rest xor and v l w.kb

  module _ (t : Sound v) where
    a_rest_formula : Formula v.x5 (v.x3 + 1) rest_a
    a_rest_formula =
        record {
          maps = λ h g l w. fa_rest_map xor and xor and h g.xors g.ands v l w.ir w.ka;
          sees = λ l m e w. cc (e v.x2 t.x2_low (omega (arith, t.x2_next)), e v.x3 t.x3_low (omega arith), e v.x4 t.x4_low (omega (arith, t.x4_next)), e v.x5 (omega arith) (omega (arith, t.x3_low)));
        }

    b_rest_formula : Formula v.x5 (v.y3 + 1) rest_b
    b_rest_formula =
        record {
          maps = λ h g l w. fb_rest_map xor and xor and h g.xors g.ands v l w.kb;
          sees = λ l m e w.
              let at : (i : ℕ) → v.y6 ≤ i → i ≤ v.y3 → l i ≡ m i = λ i p q. e i (omega (arith, t.lows)) (omega arith) in
              cc (at v.y2 t.y2_low t.y2_next, at v.y3 t.y3_low (omega arith), at v.y4 t.y4_low t.y4_next, at v.y5 t.y5_low t.y5_next, at v.y6 (omega arith) t.y3_low);
        }

    -- the whole formula sees the register's highest place too
    a_formula : Formula v.x5 v.len1 form_a
    a_formula =
        record {
          maps = λ h g l w. fa_map xor and xor and h g.xors g.ands v l w.ir w.ka;
          sees = λ l m e w.
              ap₂ xor (e v.x1 (omega (arith, t.x5_in)) (omega (arith, t.top1)))
              (a_rest_formula.sees l m (λ i p q. e i p (omega (arith, t.x3_in, t.top1))) w);
        }

    b_formula : Formula v.x5 v.len2 form_b
    b_formula =
        record {
          maps = λ h g l w. fb_map xor and xor and h g.xors g.ands v l w.kb;
          sees = λ l m e w.
              ap₂ xor (e v.y1 (omega (arith, t.y6_in, t.lows)) (omega (arith, t.top2)))
              (b_rest_formula.sees l m (λ i p q. e i p (omega (arith, t.y3_in, t.top2))) w);
        }

-- the lowest bit of a number and the c after it
low_parts : (x c : ℕ) → x % 2 ^ suc c ≡ x / 2 % 2 ^ c * 2 + x % 2
low_parts x c = rw (← add-one c) (mod-pow-add x c 1)

-- ---- forth

-- a shift in sees only the register's own bits
own_bits : (n l b : ℕ) → shift_in n (l % 2 ^ n) b ≡ shift_in n l b
own_bits n l b =
    let whole : l * 2 + b ≡ l / 2 ^ n * 2 * 2 ^ n + (l % 2 ^ n * 2 + b) = omega (arith, div-add-mod' l (2 ^ n), mul_right_comm (l / 2 ^ n) 2 (2 ^ n)) in
    sym (ap (λ (y : ℕ). y % 2 ^ n) whole ∙ mul-add-mod_self_right (l / 2 ^ n * 2) (2 ^ n) _)

-- c + 1 bits enter: the first c, and then the lowest
enter_one_more : (n c l x : ℕ) → enter n (suc c) l x ≡ shift_in n (enter n c l (x / 2)) (x % 2)
enter_one_more n c l x =
    let e : l * 2 ^ suc c ≡ l * 2 ^ c * 2 = ap (l *◌) (pow-suc 2 c) ∙ sym (mul_assoc l (2 ^ c) 2) in
    ap (λ (y : ℕ). y % 2 ^ n) (omega (arith, e, low_parts x c)) ∙ sym (own_bits n (l * 2 ^ c + x / 2 % 2 ^ c) (x % 2))

-- after c clocks the places from c on have what was c places lower
moved_up : (n c l b i : ℕ) → c ≤ i → i < n → bit (enter n c l b) i ≡ bit l (i - c)
moved_up n c l b i p q =
    let e : i ≡ c + (i - c) = omega arith in
    bit-mod n (l * 2 ^ c + b % 2 ^ c) i q ∙ ap (bit (l * 2 ^ c + b % 2 ^ c)) e ∙ bit_above c l (mod-lt b (pow_pos c)) (i - c)

module _ {least n : ℕ} {f : (ℕ → ℕ) → RoundInput → ℕ} (t : Formula least n f) (c : ℕ) (few : c ≤ least) (l : ℕ) (w : RoundInput) where
  -- what the formula gives to all clocks but the last
  to_earlier : f (tap (suc c) l) w / 2 ≡ f (tap c l) (earlier w)
  to_earlier =
      t.maps (λ x. x / 2) (down 1) (tap (suc c) l) w
      ∙ t.sees _ _ (λ i p q. let e : i + 1 - suc c + 1 ≡ i + 1 - c = omega arith in shr-shr l (i + 1 - suc c) 1 ∙ ap (λ (j : ℕ). l / 2 ^ j) e) (earlier w)

  -- and to the last, from the register at that clock
  to_last : (b : ℕ) → f (tap (suc c) l) w % 2 ≡ f (bit (enter n c l b)) (lowest w)
  to_last b =
      t.maps (λ x. x % 2) (cut 1) (tap (suc c) l) w
      ∙ t.sees _ _ (λ i p q. let e : i + 1 - suc c ≡ i - c = omega arith in ap (bit l) e ∙ sym (moved_up n c l b i (omega arith) q)) (lowest w)

  -- one more clock, for a register of k bits that the formula enters
  last-clock : (k r b : ℕ) → enter k (suc c) r (f (tap (suc c) l) w) ≡ shift_in k (enter k c r (f (tap c l) (earlier w))) (f (bit (enter n c l b)) (lowest w))
  last-clock k r b = enter_one_more k c r (f (tap (suc c) l) w) ∙ ap₂ (λ (x y : ℕ). shift_in k (enter k c r x) y) to_earlier (to_last b)

-- no clocks leave a register's own bits, and a clock sees no others
no_clocks : {least n : ℕ} {f : (ℕ → ℕ) → RoundInput → ℕ} → Formula least n f → (l k r b d : ℕ) (u : RoundInput) → shift_in k (enter k 0 r b) (f (bit (enter n 0 l d)) u) ≡ shift_in k r (f (bit l) u)
no_clocks {n = n} {f = f} t l k r b d u =
    let same : r * 2 ^ 0 + b % 2 ^ 0 ≡ r = omega (arith, mod-one b) in
    ap₂ (shift_in k) (ap (λ (x : ℕ). x % 2 ^ k) same) (t.sees (bit (enter n 0 l d)) (bit l) (λ i p q. moved_up n 0 l d i (omega arith) q ∙ ap (bit l) (sub-zero i)) u) ∙ own_bits k r (f (bit l) u)

module _ (v : Row) (t : Sound v) where
  one_more : (c : ℕ) → c ≤ v.x5 → (w : RoundInput) (s : Registers) → at_once v (suc c) w s ≡ clock v (lowest w) (at_once v c (earlier w) s)
  unfolding at_once
  one_more c few w s =
      ap₂ pair (last-clock (b_formula v t) c few s.l2 w v.len1 s.l1 _) (last-clock (a_formula v t) c few s.l1 w v.len2 s.l2 _)

  first_clock : (u w : RoundInput) (s : Registers) → clock v u (at_once v 0 w s) ≡ clock v u s
  unfolding at_once
  first_clock u w s =
      ap₂ pair (no_clocks (b_formula v t) s.l2 v.len1 s.l1 _ _ u) (no_clocks (a_formula v t) s.l1 v.len2 s.l2 _ _ u)

-- LAW: up to as many clocks as the lowest tap and one, one formula over words
pub forth : (v : Row) → Sound v → (c : ℕ) → 1 ≤ c → c ≤ v.x5 + 1 → (w : RoundInput) (s : Registers) → at_once v c w s ≡ clocks_by v c w s
unfolding clocks_by
forth v t zero p q w s = absurd (omega arith)
forth v t (suc zero) p q w s = one_more v t 0 (omega arith) w s ∙ first_clock v t (lowest w) (earlier w) s
forth v t (suc (suc c)) p q w s =
    one_more v t (suc c) (omega arith) w s ∙ ap (clock v (lowest w)) (forth v t (suc c) (omega arith) (omega arith) (earlier w) s)

-- ---- back

-- a number t that stands at place m: above any c places that m has below it
raised : (t m c : ℕ) → c ≤ m → t * 2 ^ m ≡ t * 2 ^ (m - c) * 2 ^ c
raised t m c h =
    let e : m ≡ m - c + c = omega arith in
    ap (λ (k : ℕ). t * 2 ^ k) e ∙ ap (t *◌) (pow-add 2 (m - c) c) ∙ sym (mul_assoc t (2 ^ (m - c)) (2 ^ c))

raised_down : (t m c x : ℕ) → c ≤ m → (t * 2 ^ m + x) / 2 ^ c ≡ t * 2 ^ (m - c) + x / 2 ^ c
raised_down t m c x h = ap (λ (y : ℕ). (y + x) / 2 ^ c) (raised t m c h) ∙ mul-add-div_right (pow_pos c) (t * 2 ^ (m - c)) x

raised_low : (t m c x : ℕ) → c ≤ m → (t * 2 ^ m + x) % 2 ^ c ≡ x % 2 ^ c
raised_low t m c x h = ap (λ (y : ℕ). (y + x) % 2 ^ c) (raised t m c h) ∙ mul-add-mod_self_right (t * 2 ^ (m - c)) (2 ^ c) x

-- the c places from j on do not see it
not_seen : (t m j c x : ℕ) → j + c ≤ m → (t * 2 ^ m + x) / 2 ^ j % 2 ^ c ≡ x / 2 ^ j % 2 ^ c
not_seen t m j c x h = ap (λ (y : ℕ). y % 2 ^ c) (raised_down t m j x (omega arith)) ∙ raised_low t (m - j) c (x / 2 ^ j) (omega arith)

-- c + 1 bits return: the lowest, and then the others
restore_one_more : (n m c l x : ℕ) → m + 1 ≡ n → c ≤ m → restore n (suc c) l x ≡ restore n c (shift_out m l (x % 2)) (x / 2)
restore_one_more n m c l x e h =
    let d = 2 ^ (m - c) in
    let a = x / 2 % 2 ^ c in
    let small : n - suc c ≡ m - c = omega arith in
    let large : n - c ≡ suc (m - c) = omega arith in
    let left : x % 2 ^ suc c * 2 ^ (n - suc c) ≡ (a * 2 + x % 2) * d = ap₂ (λ (y k : ℕ). y * 2 ^ k) (low_parts x c) small in
    let right : a * 2 ^ (n - c) ≡ a * d * 2 = ap (λ (k : ℕ). a * 2 ^ k) large ∙ ap (a *◌) (pow-suc 2 (m - c)) ∙ sym (mul_assoc a d 2) in
    let rest : l / 2 / 2 ^ c ≡ l / 2 ^ suc c = shr-shr l 1 c ∙ ap (λ (k : ℕ). l / 2 ^ k) (one-add c) in
    omega (arith, left, right, rest, add-mul (a * 2) (x % 2) d, mul_right_comm a 2 d, raised_down (x % 2) m c (l / 2) h)

-- none return
restore_none : (n l x : ℕ) → restore n 0 l x ≡ l
restore_none n l x =
    ap₂ (λ (y z : ℕ). y * 2 ^ (n - 0) + z) (mod-one x) (div-one l) ∙ ap (◌+ l) (zero-mul (2 ^ (n - 0))) ∙ zero-add l

-- what the clocks to undo found at place i stands above it now
abbrev above : (l i : ℕ) → ℕ
above l i = l / 2 ^ (i + 1)

-- m the highest place of the register: what returns there, the c clocks before do not see
module _ {least most : ℕ} {f : (ℕ → ℕ) → RoundInput → ℕ} (t : Formula least most f) (m c : ℕ) (few : c + most ≤ m) (l : ℕ) (w : RoundInput) where
  -- what the formula gives to the last clock
  at_last : f (above l) w % 2 ≡ f (bit (l / 2)) (lowest w)
  at_last =
      t.maps (λ x. x % 2) (cut 1) (above l) w
      ∙ t.sees _ _ (λ i p q. ap (bit l) (add_comm i 1) ∙ sym (bit-shr l 1 i)) (lowest w)

  -- and to those before it, whatever bit h returned
  at_earlier : (h : ℕ) → f (above l) w / 2 % 2 ^ c ≡ f (above (shift_out m l h)) (earlier w) % 2 ^ c
  at_earlier h =
      ap (λ (x : ℕ). x % 2 ^ c) (t.maps (λ x. x / 2) (down 1) (above l) w)
      ∙ t.maps (λ x. x % 2 ^ c) (cut c) (λ i. above l i / 2) (earlier w)
      ∙ t.sees _ (λ i. above (shift_out m l h) i % 2 ^ c) (λ i p q. ap (λ (x : ℕ). x % 2 ^ c) (crossed i) ∙ sym (not_seen h m (i + 1) c (l / 2) (omega arith))) (each (λ x. x % 2 ^ c) (earlier w))
      ∙ sym (t.maps (λ x. x % 2 ^ c) (cut c) (above (shift_out m l h)) (earlier w))
    where
      crossed : (i : ℕ) → l / 2 ^ (i + 1) / 2 ≡ l / 2 / 2 ^ (i + 1)
      crossed i = shr-shr l (i + 1) 1 ∙ ap (λ (k : ℕ). l / 2 ^ k) (add_comm (i + 1) 1) ∙ sym (shr-shr l 1 (i + 1))

  -- one clock undone, then the others; k the register that the formula entered, m' its highest place
  last_undone : (n k m' g : ℕ) → m + 1 ≡ n → c ≤ m'
      → restore n (suc c) l (xor k (f (above l) w))
      ≡ restore n c (shift_out m l (xor (bit k 0) (f (bit (l / 2)) (lowest w))))
      (xor (shift_out m' k g) (f (above (shift_out m l (xor (bit k 0) (f (bit (l / 2)) (lowest w))))) (earlier w)))
  last_undone n k m' g e q =
      let x = f (above l) w in
      let h = xor (bit k 0) (f (bit (l / 2)) (lowest w)) in
      let bottom : xor k x % 2 ≡ h = xor_mod k x 1 ∙ ap₂ xor (sym (bit_lowest k)) at_last in
      let others : xor k x / 2 % 2 ^ c ≡ xor (shift_out m' k g) (f (above (shift_out m l h)) (earlier w)) % 2 ^ c
      = ap (λ (y : ℕ). y % 2 ^ c) (xor_shr k x 1)
      ∙ xor_mod (k / 2) (x / 2) c
      ∙ ap₂ xor (sym (raised_low g m' c (k / 2) q)) (at_earlier h)
      ∙ sym (xor_mod (shift_out m' k g) _ c) in
      restore_one_more n m c l (xor k x) e (omega arith) ∙ ap₂ (λ (y z : ℕ). z * 2 ^ (n - c) + shift_out m l y / 2 ^ c) bottom others

-- LAW: up to as many clocks as lie between the highest tap and the next, one formula over words
pub back : (v : Row) → Sound v → (c : ℕ) → c + v.x3 ≤ v.x1 → c + v.y3 ≤ v.y1 → (w : RoundInput) (s : Registers) → undone_at_once v c w s ≡ unclocks_by v c w s
unfolding undone_at_once unclocks_by
back v t zero p q w s = ap₂ pair (restore_none v.len1 s.l1 _) (restore_none v.len2 s.l2 _)
back v t (suc c) p q w s =
    ap₂ pair
    (last_undone (a_rest_formula v t) v.x1 c (omega arith) s.l1 w v.len1 s.l2 v.y1 _ t.top1 (omega arith))
    (last_undone (b_rest_formula v t) v.y1 c (omega arith) s.l2 w v.len2 s.l1 v.x1 _ t.top2 (omega arith))
    ∙ back v t c (omega arith) (omega arith) (earlier w) (unclock v (lowest w) s)

each_same : (g h : ℕ → ℕ) → ((x : ℕ) → g x ≡ h x) → (w : RoundInput) → each g w ≡ each h w
each_same g h e w = cc (e w.ir, e w.ka, e w.kb)

-- LAW: a + b clocks undone are the last a undone, and then b
pub undone_in_two : (v : Row) (a b : ℕ) (w : RoundInput) (s : Registers) → unclocks_by v (a + b) w s ≡ unclocks_by v b (without a w) (unclocks_by v a w s)
unfolding unclocks_by
undone_in_two v zero b w s =
    ap₂ (λ (n : ℕ) (x : RoundInput). unclocks_by v n x s) (zero-add b) (sym (each_same (λ x. x / 2 ^ 0) (λ x. x) div-one w))
undone_in_two v (suc a) b w s =
    let e : (x : ℕ) → x / 2 / 2 ^ a ≡ x / 2 ^ suc a = λ x. shr-shr x 1 a ∙ ap (λ (k : ℕ). x / 2 ^ k) (one-add a) in
    ap (λ (n : ℕ). unclocks_by v n w s) (suc-add a b)
    ∙ undone_in_two v a b (earlier w) (unclock v (lowest w) s)
    ∙ ap (λ (x : RoundInput). unclocks_by v b x (unclocks_by v (suc a) w s)) (each_same _ _ e w)
