-- What stands at the places of two words: sums, products, the formulas and a clock keep it.
-- Assumes nothing.
use mathlib.Core.Path.{◌≡◌, refl, sym, ap, ap₂, subst, ◌∙◌}
use mathlib.Core.List.{List, ◌∷◌}
use Prim.Native.Nat.{ℕ, zero, suc, ◌+◌, ◌%◌, ◌<◌}
use native.Mathlib.Nat.{mod-lt, add-zero}
use native.Mathlib.Omega.{arith}
use lib.Pow.{pow_pos}
use lib.ListN.{get_or}
use lib.Seq.{get_or-take}
use Rattle.katan.specs.Bit.{bit, xor, and, or}
use Rattle.katan.specs.Clock.{fa, fb, shift_in}
use Rattle.katan.specs.inner.Within.{Sound}
use Rattle.katan.specs.declared.Row.{Row}
use Rattle.katan.proofs.Bits.{bit_lt, bit_lowest, bit_xor, bit_and, bit_or, bit-shr}
use Rattle.katan.proofs.Shows.{pushed}
use Rattle.katan_sheet.specs.Three.{Three, is0, is1, unknown, xor_three, and_three, known}
use Rattle.katan_sheet.specs.Cells.{Cells, shifted, clock_cells, clocks_cells}
use Rattle.katan_sheet.specs.Sheet.{one_of, zero_of}
use Rattle.katan_smudged.specs.inner.Words.{term, plus, settled, times, from, fa_words, fb_words, enter, entered_words, clock_words, clocks_words, Fit, RegistersFit, Reads, Holds, HoldsCells}
use Rattle.katan_sheet.specs.declared.Known.{Known}
use Rattle.katan_smudged.specs.declared.words.Sum.{Sum}
use Rattle.katan_smudged.specs.declared.words.KnownRegisters.{KnownRegisters}
use Rattle.katan_smudged.specs.declared.words.KnownInput.{KnownInput}

-- ---- registers stay within their lengths

enter_fits : (w : ℕ) (l b : Known ℕ) → Fit w (enter w l b)
unfolding enter
enter_fits w l b = record { ones_fit = mod-lt _ (pow_pos w); zeros_fit = mod-lt _ (pow_pos w) }

pub clock_fits : (v : Row) (u : KnownInput) (s : KnownRegisters) → RegistersFit v (clock_words v u s)
unfolding entered_words
clock_fits v u s = record { l1_fits = enter_fits v.len1 s.l1 _; l2_fits = enter_fits v.len2 s.l2 _ }

pub clocks_fit : (v : Row) (u : KnownInput) (c : ℕ) (s : KnownRegisters) → RegistersFit v s → RegistersFit v (clocks_words v u c s)
clocks_fit v u zero s f = f
clocks_fit v u (suc c) s f = clock_fits v u (clocks_words v u c s)

-- ---- single bits: the three values as two bits

-- whether it is known
abbrev known_of : Three → ℕ
known_of t = or (one_of t) (zero_of t)

term_value : (t : Three) → and (known_of t) (one_of t) ≡ one_of t
term_value is0 = refl
term_value is1 = refl
term_value unknown = refl

settled_zero : (t : Three) → xor (known_of t) (one_of t) ≡ zero_of t
settled_zero is0 = refl
settled_zero is1 = refl
settled_zero unknown = refl

plus_known : (t u : Three) → and (known_of t) (known_of u) ≡ known_of (xor_three t u)
plus_known is0 is0 = refl
plus_known is0 is1 = refl
plus_known is0 unknown = refl
plus_known is1 is0 = refl
plus_known is1 is1 = refl
plus_known is1 unknown = refl
plus_known unknown is0 = refl
plus_known unknown is1 = refl
plus_known unknown unknown = refl

times_one : (t u : Three) → and (one_of t) (one_of u) ≡ one_of (and_three t u)
times_one is0 u = refl
times_one is1 is0 = refl
times_one is1 is1 = refl
times_one is1 unknown = refl
times_one unknown is0 = refl
times_one unknown is1 = refl
times_one unknown unknown = refl

times_zero : (t u : Three) → or (zero_of t) (zero_of u) ≡ zero_of (and_three t u)
times_zero is0 is0 = refl
times_zero is0 is1 = refl
times_zero is0 unknown = refl
times_zero is1 u = refl
times_zero unknown is0 = refl
times_zero unknown is1 = refl
times_zero unknown unknown = refl

-- a bit, where it counts
counts : {x : ℕ} (b : ℕ) → b < 2 → and 1 b ≡ x → b ≡ x
counts zero h e = e
counts (suc zero) h e = e
counts (suc (suc b)) h e = absurd (omega arith)

-- the values of two terms, where both are known
plus_value : (t u : Three) (x y : ℕ) → x < 2 → y < 2 → and (known_of t) x ≡ one_of t → and (known_of u) y ≡ one_of u → and (and (known_of t) (known_of u)) (xor x y) ≡ one_of (xor_three t u)
plus_value is0 is0 x y p q e f = rw (counts x p e, counts y q f)
plus_value is0 is1 x y p q e f = rw (counts x p e, counts y q f)
plus_value is0 unknown x y p q e f = refl
plus_value is1 is0 x y p q e f = rw (counts x p e, counts y q f)
plus_value is1 is1 x y p q e f = rw (counts x p e, counts y q f)
plus_value is1 unknown x y p q e f = refl
plus_value unknown is0 x y p q e f = refl
plus_value unknown is1 x y p q e f = refl
plus_value unknown unknown x y p q e f = refl

-- ---- at one place of two words

pub record Sums (s : Sum) (i : ℕ) (t : Three) : Type 0 where
  pub known_there : bit s.known i ≡ known_of t
  pub value_there : and (bit s.known i) (bit s.value i) ≡ one_of t

module _ {i : ℕ} where
  pub term_sums : {a : Known ℕ} {t : Three} → Reads a i t → Sums (term a) i t
  unfolding term
  term_sums {a} {t} h =
      let k = bit_or a.ones a.zeros i ∙ ap₂ or h.one_there h.zero_there in
      record { known_there = k; value_there = ap₂ and k h.one_there ∙ term_value t }

  pub plus_sums : {a b : Sum} {t u : Three} → Sums a i t → Sums b i u → Sums (plus a b) i (xor_three t u)
  unfolding plus
  plus_sums {a} {b} {t} {u} h g =
      let k = bit_and a.known b.known i ∙ ap₂ and h.known_there g.known_there in
      record {
        known_there = k ∙ plus_known t u;
        value_there =
            ap₂ and k (bit_xor a.value b.value i)
            ∙ plus_value t u (bit a.value i) (bit b.value i) (bit_lt a.value i) (bit_lt b.value i)
            (ap (λ (x : ℕ). and x (bit a.value i)) (sym h.known_there) ∙ h.value_there)
            (ap (λ (x : ℕ). and x (bit b.value i)) (sym g.known_there) ∙ g.value_there);
      }

  pub settled_reads : {s : Sum} {t : Three} → Sums s i t → Reads (settled s) i t
  unfolding settled
  settled_reads {s} {t} h =
      let o = bit_and s.known s.value i ∙ h.value_there in
      record { one_there = o; zero_there = bit_xor s.known _ i ∙ ap₂ xor h.known_there o ∙ settled_zero t }

  pub times_reads : {a b : Known ℕ} {t u : Three} → Reads a i t → Reads b i u → Reads (times a b) i (and_three t u)
  unfolding times
  times_reads {a} {b} {t} {u} h g =
      record {
        one_there = bit_and a.ones b.ones i ∙ ap₂ and h.one_there g.one_there ∙ times_one t u;
        zero_there = bit_or a.zeros b.zeros i ∙ ap₂ or h.zero_there g.zero_there ∙ times_zero t u;
      }

  pub from_reads : (l : Known ℕ) (j : ℕ) {t : Three} → Reads l (j + i) t → Reads (from l j) i t
  unfolding from
  from_reads l j h =
      record { one_there = bit-shr l.ones j i ∙ h.one_there; zero_there = bit-shr l.zeros j i ∙ h.zero_there }

-- ---- the formulas: the bits of taps stand lowest

module _ (v : Row) (s : Sound v) (l : Known ℕ) (f : ℕ → Three) where
  tap : (w j : ℕ) → Holds w l f → j < w → Reads (from l j) 0 (f j)
  tap w j h q = from_reads l j (subst (λ (m : ℕ). Reads l m (f j)) (sym (add-zero j)) (h.reads j q))

  fa_reads : Holds v.len1 l f → {ir ka : Known ℕ} {t u : Three} → Reads ir 0 t → Reads ka 0 u → Reads (fa_words v l ir ka) 0 (fa xor_three and_three v f t u)
  unfolding fa_words
  fa_reads h p q =
      let x : (j : ℕ) → j < v.len1 → Reads (from l j) 0 (f j) = λ j r. tap v.len1 j h r in
      settled_reads
      (plus_sums (term_sums (x v.x1 (omega (arith, s))))
      (plus_sums
      (plus_sums
      (plus_sums (term_sums (x v.x2 (omega (arith, s)))) (term_sums (times_reads (x v.x3 (omega (arith, s))) (x v.x4 (omega (arith, s))))))
      (term_sums (times_reads (x v.x5 (omega (arith, s))) p)))
      (term_sums q)))

  fb_reads : Holds v.len2 l f → {kb : Known ℕ} {u : Three} → Reads kb 0 u → Reads (fb_words v l kb) 0 (fb xor_three and_three v f u)
  unfolding fb_words
  fb_reads h q =
      let y : (j : ℕ) → j < v.len2 → Reads (from l j) 0 (f j) = λ j r. tap v.len2 j h r in
      settled_reads
      (plus_sums (term_sums (y v.y1 (omega (arith, s))))
      (plus_sums
      (plus_sums
      (plus_sums (term_sums (y v.y2 (omega (arith, s)))) (term_sums (times_reads (y v.y3 (omega (arith, s))) (y v.y4 (omega (arith, s))))))
      (term_sums (times_reads (y v.y5 (omega (arith, s))) (y v.y6 (omega (arith, s))))))
      (term_sums q)))

-- ---- a clock

-- a register of m + 1 bits, whose length is w: one of its two words, which has the bits that h tells
module _ (h : Three → ℕ) (m w : ℕ) (e : m + 1 ≡ w) (xs : List Three) (t : Three) where
  there : (i : ℕ) → i < w → get_or (shifted w xs t) i is0 ≡ get_or (t ∷ xs) i is0
  there i q = get_or-take w (t ∷ xs) i is0 q

  entered : (l b : ℕ) → ((i : ℕ) → i < w → bit l i ≡ h (get_or xs i is0)) → bit b 0 ≡ h t → (i : ℕ) → i < w → bit (shift_in w l (b % 2)) i ≡ h (get_or (shifted w xs t) i is0)
  entered l b held low i q =
      sym
      (pushed m w l (b % 2) (λ j. h (get_or xs j is0)) (λ j. h (get_or (shifted w xs t) j is0)) e (omega arith)
      (λ j r. sym (held j r))
      (ap h (there 0 (omega arith)) ∙ sym low ∙ bit_lowest b)
      (λ j r. ap h (there (suc j) (omega arith)))
      i q)

enter_holds : (m w : ℕ) → m + 1 ≡ w → (xs : List Three) (t : Three) (l b : Known ℕ) → Holds w l (λ i. get_or xs i is0) → Reads b 0 t → Holds w (enter w l b) (λ i. get_or (shifted w xs t) i is0)
unfolding enter
enter_holds m w e xs t l b h r =
    record {
      fit = enter_fits w l b;
      reads = λ i q.
          record {
            one_there = entered one_of m w e xs t l.ones b.ones (λ j p. (h.reads j p).one_there) r.one_there i q;
            zero_there = entered zero_of m w e xs t l.zeros b.zeros (λ j p. (h.reads j p).zero_there) r.zero_there i q;
          };
    }

module _ (v : Row) (s : Sound v) (u : KnownInput) (ir ka kb : Three) (p : Reads u.ir 0 ir) (q : Reads u.ka 0 ka) (r : Reads u.kb 0 kb) where
  clock_holds : (l : KnownRegisters) (c : Cells Three) → HoldsCells v l c → HoldsCells v (clock_words v u l) (clock_cells xor_three and_three known v ir ka kb c)
  unfolding entered_words
  clock_holds l c h =
      record {
        in_l1 = enter_holds v.x1 v.len1 s.top1 c.l1 _ l.l1 _ h.in_l1 (fb_reads v s l.l2 _ h.in_l2 r);
        in_l2 = enter_holds v.y1 v.len2 s.top2 c.l2 _ l.l2 _ h.in_l2 (fa_reads v s l.l1 _ h.in_l1 p q);
      }

  pub clocks_hold : (n : ℕ) (l : KnownRegisters) (c : Cells Three) → HoldsCells v l c → HoldsCells v (clocks_words v u n l) (clocks_cells xor_three and_three known v ir ka kb n c)
  clocks_hold zero l c h = h
  clocks_hold (suc n) l c h = clock_holds _ _ (clocks_hold n l c h)
