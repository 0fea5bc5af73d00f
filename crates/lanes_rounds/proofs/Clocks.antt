-- Clocks in the buffers, made forward and backward.
-- Assumes nothing.
use mathlib.Core.Path.{◌≡◌, refl, sym, ap, ap₂, subst, ◌∙◌}
use mathlib.Core.List.{List}
use Prim.Native.Nat.{ℕ, ◌+◌, ◌-◌, ◌<◌, ◌≤◌}
use native.Mathlib.Nat.{add-sub_cancel}
use native.Mathlib.Omega.{arith}
use lib.ListN.{length, get_or, set}
use lib.Seq.{get_or-set_same, get_or-set_other}
use Rattle.katan.specs.Bit.{xor, and}
use Rattle.katan.specs.Clock.{fa, fb, fa_rest, fb_rest}
use Rattle.katan.specs.inner.Within.{Sound}
use Rattle.katan.specs.declared.Row.{Row}
use Rattle.katan.specs.declared.RoundInput.{RoundInput}
use Rattle.katan.proofs.Bits.{xor_undone}
use Rattle.katan.proofs.Undo.{fa_rest_same, fb_rest_same, fa_same, fb_same}
use Rattle.lanes_rounds.specs.inner.Buffers.{tapped, Clocked}

-- an xor of equal words at an equal place
pub xor_at : (l : List ℕ) {i j x y z w : ℕ} → i ≡ j → x ≡ y → z ≡ w → set l i (xor x z) ≡ set l j (xor y w)
xor_at l p q r = ap₂ (set l) p (ap₂ xor q r)

-- a register's newest word, and the place after it
pub after1 : {v : Row} → Sound v → (t : ℕ) → t + v.x1 + 1 ≡ t + v.len1
after1 s t = omega (arith, s.top1)

pub after2 : {v : Row} → Sound v → (t : ℕ) → t + v.y1 + 1 ≡ t + v.len2
after2 s t = omega (arith, s.top2)

-- what the code stores at clock t, with the row v of the width w
module _ (w v : Row) (e : v ≡ w) (s : Sound w) (t : ℕ) (a b : List ℕ) (u : RoundInput) where
  pub stored_fb : {x : ℕ} → x ≡ fb_rest xor and w (tapped b (t + v.y1)) u.kb → set a (t + v.x1 + 1) (xor (get_or b t 0) x) ≡ set a (t + w.len1) (fb xor and w (tapped b (t + w.y1)) u.kb)
  stored_fb {x} =
      subst (λ (y : Row). x ≡ fb_rest xor and w (tapped b (t + y.y1)) u.kb → set a (t + y.x1 + 1) (xor (get_or b t 0) x) ≡ set a (t + w.len1) (fb xor and w (tapped b (t + w.y1)) u.kb)) (sym e)
      (λ p. xor_at a (after1 s t) (ap (λ (n : ℕ). get_or b n 0) (sym (add-sub_cancel t w.y1))) p)

  pub stored_fa : {x : ℕ} → x ≡ fa_rest xor and w (tapped a (t + v.x1)) u.ir u.ka → set b (t + v.y1 + 1) (xor (get_or a t 0) x) ≡ set b (t + w.len2) (fa xor and w (tapped a (t + w.x1)) u.ir u.ka)
  stored_fa {x} =
      subst (λ (y : Row). x ≡ fa_rest xor and w (tapped a (t + y.x1)) u.ir u.ka → set b (t + y.y1 + 1) (xor (get_or a t 0) x) ≡ set b (t + w.len2) (fa xor and w (tapped a (t + w.x1)) u.ir u.ka)) (sym e)
      (λ p. xor_at b (after2 s t) (ap (λ (n : ℕ). get_or a n 0) (sym (add-sub_cancel t w.x1))) p)

  pub restored1 : {x : ℕ} → x ≡ fa_rest xor and w (tapped a (t + v.x1)) u.ir u.ka → set a t (xor (get_or b (t + v.y1 + 1) 0) x) ≡ set a t (xor (get_or b (t + w.len2) 0) (fa_rest xor and w (tapped a (t + w.x1)) u.ir u.ka))
  restored1 {x} =
      subst (λ (y : Row). x ≡ fa_rest xor and w (tapped a (t + y.x1)) u.ir u.ka → set a t (xor (get_or b (t + y.y1 + 1) 0) x) ≡ set a t (xor (get_or b (t + w.len2) 0) (fa_rest xor and w (tapped a (t + w.x1)) u.ir u.ka))) (sym e)
      (λ p. xor_at a refl (ap (λ (n : ℕ). get_or b n 0) (after2 s t)) p)

  pub restored2 : {x : ℕ} → x ≡ fb_rest xor and w (tapped b (t + v.y1)) u.kb → set b t (xor (get_or a (t + v.x1 + 1) 0) x) ≡ set b t (xor (get_or a (t + w.len1) 0) (fb_rest xor and w (tapped b (t + w.y1)) u.kb))
  restored2 {x} =
      subst (λ (y : Row). x ≡ fb_rest xor and w (tapped b (t + y.y1)) u.kb → set b t (xor (get_or a (t + y.x1 + 1) 0) x) ≡ set b t (xor (get_or a (t + w.len1) 0) (fb_rest xor and w (tapped b (t + w.y1)) u.kb))) (sym e)
      (λ p. xor_at b refl (ap (λ (n : ℕ). get_or a n 0) (after1 s t)) p)

-- n clocks from clock first on are made with one input
abbrev pub Clocks : Row → RoundInput → (first n : ℕ) → List ℕ → List ℕ → Type 0
Clocks v u first n a b = (c : ℕ) → c < n → Clocked v u (first + c) a b

module _ (v : Row) (s : Sound v) where
  module _ (u : RoundInput) (t : ℕ) (a b : List ℕ) where
    -- what is stored elsewhere leaves a clock made
    pub still : (a' b' : List ℕ) → ((i : ℕ) → t ≤ i → i ≤ t + v.len1 → get_or a' i 0 ≡ get_or a i 0) → ((i : ℕ) → t ≤ i → i ≤ t + v.len2 → get_or b' i 0 ≡ get_or b i 0)
        → Clocked v u t a b → Clocked v u t a' b'
    still a' b' f g c =
        record {
          into1 = f (t + v.len1) (omega arith) (omega arith) ∙ c.into1
              ∙ sym (fb_same xor and v s (tapped b' (t + v.y1)) (tapped b (t + v.y1)) u.kb (λ i q. g (t + v.y1 - i) (omega (arith, s.top2)) (omega (arith, s.top2))));
          into2 = g (t + v.len2) (omega arith) (omega arith) ∙ c.into2
              ∙ sym (fa_same xor and v s (tapped a' (t + v.x1)) (tapped a (t + v.x1)) u.ir u.ka (λ i q. f (t + v.x1 - i) (omega (arith, s.top1)) (omega (arith, s.top1))));
        }

    module _ (ha : t + v.len1 < length a) (hb : t + v.len2 < length b) where
      -- forward: the formulas' values enter the registers
      pub made : Clocked v u t (set a (t + v.len1) (fb xor and v (tapped b (t + v.y1)) u.kb)) (set b (t + v.len2) (fa xor and v (tapped a (t + v.x1)) u.ir u.ka))
      made =
          let wa = fb xor and v (tapped b (t + v.y1)) u.kb in
          let wb = fa xor and v (tapped a (t + v.x1)) u.ir u.ka in
          record {
            into1 = get_or-set_same a (t + v.len1) wa 0 ha
                ∙ sym (fb_same xor and v s (tapped (set b (t + v.len2) wb) (t + v.y1)) (tapped b (t + v.y1)) u.kb (λ i q. get_or-set_other b (t + v.len2) (t + v.y1 - i) wb 0 (λ e. omega (arith, s.top2))));
            into2 = get_or-set_same b (t + v.len2) wb 0 hb
                ∙ sym (fa_same xor and v s (tapped (set a (t + v.len1) wa) (t + v.x1)) (tapped a (t + v.x1)) u.ir u.ka (λ i q. get_or-set_other a (t + v.len1) (t + v.x1 - i) wa 0 (λ e. omega (arith, s.top1))));
          }

      -- backward: what had left the registers is found from what entered them
      pub unmade : Clocked v u t (set a t (xor (get_or b (t + v.len2) 0) (fa_rest xor and v (tapped a (t + v.x1)) u.ir u.ka)))
          (set b t (xor (get_or a (t + v.len1) 0) (fb_rest xor and v (tapped b (t + v.y1)) u.kb)))
      unmade =
          let ra = fa_rest xor and v (tapped a (t + v.x1)) u.ir u.ka in
          let rb = fb_rest xor and v (tapped b (t + v.y1)) u.kb in
          let wa = xor (get_or b (t + v.len2) 0) ra in
          let wb = xor (get_or a (t + v.len1) 0) rb in
          let la : tapped (set a t wa) (t + v.x1) v.x1 ≡ wa
          = ap (λ (n : ℕ). get_or (set a t wa) n 0) (add-sub_cancel t v.x1) ∙ get_or-set_same a t wa 0 (omega arith) in
          let lb : tapped (set b t wb) (t + v.y1) v.y1 ≡ wb
          = ap (λ (n : ℕ). get_or (set b t wb) n 0) (add-sub_cancel t v.y1) ∙ get_or-set_same b t wb 0 (omega arith) in
          record {
            into1 = get_or-set_other a t (t + v.len1) wa 0 (λ e. omega (arith, s.top1))
                ∙ sym (xor_undone (get_or a (t + v.len1) 0) rb)
                ∙ sym (ap₂ xor lb (fb_rest_same xor and v s _ _ u.kb (λ i q. get_or-set_other b t (t + v.y1 - i) wb 0 (λ e. omega arith))));
            into2 = get_or-set_other b t (t + v.len2) wb 0 (λ e. omega (arith, s.top2))
                ∙ sym (xor_undone (get_or b (t + v.len2) 0) ra)
                ∙ sym (ap₂ xor la (fa_rest_same xor and v s _ _ u.ir u.ka (λ i q. get_or-set_other a t (t + v.x1 - i) wa 0 (λ e. omega arith))));
          }
