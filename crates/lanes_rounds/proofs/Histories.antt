-- Rounds in the buffers, made forward and backward.
-- Assumes nothing.
use mathlib.Core.Path.{◌≡◌, refl, sym, ap, subst, ◌∙◌}
use mathlib.Core.Bool.{Bool, true, false}
use mathlib.Core.Logic.{⊎_elim}
use mathlib.Core.List.{List}
use Prim.Native.Nat.{ℕ, ◌+◌, ◌*◌, ◌<◌, ◌≤◌}
use native.Mathlib.Nat.{eq-or-lt_of_le, mul-le-mul_left}
use native.Mathlib.Omega.{arith}
use borrow.Author.Tests.{ltb-true, ltb-false}
use lib.Dec.{ltb}
use lib.ListN.{length, get_or, set, length-set}
use lib.Seq.{get_or-set_other}
use Rattle.katan.specs.Bit.{xor, and}
use Rattle.katan.specs.Counter.{rounds}
use Rattle.katan.specs.Clock.{fa, fb, fa_rest, fb_rest}
use Rattle.katan.specs.inner.Within.{Sound}
use Rattle.katan.specs.declared.Row.{Row}
use Rattle.katan.specs.declared.RoundInput.{RoundInput}
use Rattle.lanes_rounds.specs.inner.Buffers.{tapped, Room, word_input, Clocked, History, KeptBelow, KeptFrom, Placed, Told, Forward, Backward}
use Rattle.katan.proofs.Undo.{sound}
use Rattle.katan_variants.specs.Widths.{IsRow}
use Rattle.lanes_rounds.proofs.Clocks.{Clocks, still, made, unmade}

room_set : {v : Row} {a b : List ℕ} → Room v a b → (i x k y : ℕ) → Room v (set a i x) (set b k y)
room_set {v} {a} {b} r i x k y =
    record { room1 = rw (length-set a i x) r.room1; room2 = rw (length-set b k y) r.room2 }

-- a position lies within all clocks
pub few : (n r : ℕ) → r ≤ rounds → n * r ≤ n * rounds
few n r h = mul-le-mul_left n h

-- the same at an equal clock
pub placed_at : (v : Row) (t u : ℕ) (words a b : List ℕ) → t ≡ u → Placed v t words a b → Placed v u words a b
placed_at v t u words a b e p = subst (λ (n : ℕ). Placed v n words a b) e p

pub kept_from_at : {a b a' b' : List ℕ} (t u : ℕ) → t ≡ u → KeptFrom t a b a' b' → KeptFrom u a b a' b'
kept_from_at {a} {b} {a'} {b'} t u e k = subst (λ (n : ℕ). KeptFrom n a b a' b') e k

-- ---- the clocks of a round

-- the first i clocks of a round are made
pub record Begun (v : Row) (u : RoundInput) (first i : ℕ) (a₀ b₀ a b : List ℕ) : Type 0 where
  pub room : Room v a b
  pub clocks : Clocks v u first i a b
  pub kept : KeptBelow v first a₀ b₀ a b

-- the clocks of a round from t on are made, up to clock first + n
pub record Left (v : Row) (u : RoundInput) (first n t : ℕ) (a₀ b₀ a b : List ℕ) : Type 0 where
  pub room : Room v a b
  pub clocks : (c : ℕ) → t ≤ first + c → c < n → Clocked v u (first + c) a b
  pub kept : KeptFrom (first + n) a₀ b₀ a b

module _ (v : Row) (s : Sound v) (u : RoundInput) (first : ℕ) (a₀ b₀ a b a' b' : List ℕ) where
  pub begun_more : (i : ℕ) → first + i < v.clocks * rounds → Begun v u first i a₀ b₀ a b
      → a' ≡ set a (first + i + v.len1) (fb xor and v (tapped b (first + i + v.y1)) u.kb)
      → b' ≡ set b (first + i + v.len2) (fa xor and v (tapped a (first + i + v.x1)) u.ir u.ka)
      → Begun v u first (i + 1) a₀ b₀ a' b'
  begun_more i h g ea eb =
      let t = first + i in
      let wa = fb xor and v (tapped b (t + v.y1)) u.kb in
      let wb = fa xor and v (tapped a (t + v.x1)) u.ir u.ka in
      let ra = g.room.room1 in
      let rb = g.room.room2 in
      let ha : t + v.len1 < length a = omega arith in
      let hb : t + v.len2 < length b = omega arith in
      rw (ea, eb)
      (record {
        room = room_set g.room (t + v.len1) wa (t + v.len2) wb;
        clocks = λ c q.
            let q' : c ≤ i = omega arith in
            ⊎_elim
            (λ e. subst (λ (y : ℕ). Clocked v u (first + y) (set a (t + v.len1) wa) (set b (t + v.len2) wb)) (sym e) (made v s u t a b ha hb))
            (λ l. still v s u (first + c) a b (set a (t + v.len1) wa) (set b (t + v.len2) wb)
            (λ k m n. get_or-set_other a (t + v.len1) k wa 0 (λ e. omega arith))
            (λ k m n. get_or-set_other b (t + v.len2) k wb 0 (λ e. omega arith))
            (g.clocks c l))
            (eq-or-lt_of_le q');
        kept = record {
          below1 = λ k q. get_or-set_other a (t + v.len1) k wa 0 (λ e. omega arith) ∙ g.kept.below1 k q;
          below2 = λ k q. get_or-set_other b (t + v.len2) k wb 0 (λ e. omega arith) ∙ g.kept.below2 k q;
          long1 = length-set a (t + v.len1) wa ∙ g.kept.long1;
          long2 = length-set b (t + v.len2) wb ∙ g.kept.long2;
        };
      })

  pub left_more : (n t' t : ℕ) → t' ≡ t + 1 → first ≤ t → t < first + n → first + n ≤ v.clocks * rounds → Left v u first n t' a₀ b₀ a b
      → a' ≡ set a t (xor (get_or b (t + v.len2) 0) (fa_rest xor and v (tapped a (t + v.x1)) u.ir u.ka))
      → b' ≡ set b t (xor (get_or a (t + v.len1) 0) (fb_rest xor and v (tapped b (t + v.y1)) u.kb))
      → Left v u first n t a₀ b₀ a' b'
  left_more n t' t d l h r g ea eb =
      let wa = xor (get_or b (t + v.len2) 0) (fa_rest xor and v (tapped a (t + v.x1)) u.ir u.ka) in
      let wb = xor (get_or a (t + v.len1) 0) (fb_rest xor and v (tapped b (t + v.y1)) u.kb) in
      let ra = g.room.room1 in
      let rb = g.room.room2 in
      let ha : t + v.len1 < length a = omega arith in
      let hb : t + v.len2 < length b = omega arith in
      rw (ea, eb)
      (record {
        room = room_set g.room t wa t wb;
        clocks = λ c q p.
            ⊎_elim
            (λ e. subst (λ (y : ℕ). Clocked v u y (set a t wa) (set b t wb)) e (unmade v s u t a b ha hb))
            (λ m. still v s u (first + c) a b (set a t wa) (set b t wb)
            (λ k x y. get_or-set_other a t k wa 0 (λ e. omega arith))
            (λ k x y. get_or-set_other b t k wb 0 (λ e. omega arith))
            (g.clocks c (omega arith) p))
            (eq-or-lt_of_le q);
        kept = record {
          from1 = λ k q. get_or-set_other a t k wa 0 (λ e. omega arith) ∙ g.kept.from1 k q;
          from2 = λ k q. get_or-set_other b t k wb 0 (λ e. omega arith) ∙ g.kept.from2 k q;
          long1 = length-set a t wa ∙ g.kept.long1;
          long2 = length-set b t wb ∙ g.kept.long2;
        };
      })

-- ---- rounds

-- an earlier position's clocks lie before a later one's
before : {A : Type 0} (r q : ℕ) → (r < q → A) → (q ≤ r → A) → A
before {A = A} r q f g = by_test (ltb r q) refl
  where
    by_test : (b : Bool) → ltb r q ≡ b → A
    by_test true e = f (ltb-true r q e)
    by_test false e = g (ltb-false r q e)

-- round r is made, from clock f on
module _ (v : Row) (irs keys a b : List ℕ) (r f n : ℕ) (ef : f ≡ v.clocks * r) (en : n ≡ v.clocks)
    (u : RoundInput) (eu : u ≡ word_input irs keys r) (made-now : Clocks v u f n a b) where
  pub history_one : History v irs keys r (r + 1) a b
  history_one q c z l m =
      let e : r ≡ q = omega arith in
      subst (λ (y : ℕ). Clocked v (word_input irs keys y) (v.clocks * y + c) a b) e
      (subst (λ (w : RoundInput). Clocked v w (v.clocks * r + c) a b) eu
      (subst (λ (y : ℕ). Clocked v u (y + c) a b) ef (made-now c (omega arith))))

-- rounds up to position q, and rounds from there on
module _ {v : Row} (s : Sound v) {irs keys : List ℕ} {p q t : ℕ} (h : p ≤ q) (k : q ≤ t) {a b a' b' a'' b'' : List ℕ} where
  pub forward_then : Forward v irs keys p q a b a' b' → Forward v irs keys q t a' b' a'' b'' → Forward v irs keys p t a b a'' b''
  forward_then f g =
      let d = mul-le-mul_left v.clocks h in
      record {
        room = g.room;
        made = λ r c z l m.
            before r q
            (λ o.
            let e = mul-le-mul_left v.clocks o in
            still v s (word_input irs keys r) (v.clocks * r + c) a' b' a'' b''
            (λ i x y. g.kept.below1 i (omega arith)) (λ i x y. g.kept.below2 i (omega arith)) (f.made r c z o m))
            (λ o. g.made r c o l m);
        kept = record {
          below1 = λ i x. g.kept.below1 i (omega arith) ∙ f.kept.below1 i x;
          below2 = λ i x. g.kept.below2 i (omega arith) ∙ f.kept.below2 i x;
          long1 = g.kept.long1 ∙ f.kept.long1;
          long2 = g.kept.long2 ∙ f.kept.long2;
        };
      }

  pub backward_then : Backward v irs keys q t a b a' b' → Backward v irs keys p q a' b' a'' b'' → Backward v irs keys p t a b a'' b''
  backward_then f g =
      let d = mul-le-mul_left v.clocks k in
      record {
        room = g.room;
        made = λ r c z l m.
            before r q
            (λ o. g.made r c z o m)
            (λ o.
            let e = mul-le-mul_left v.clocks o in
            still v s (word_input irs keys r) (v.clocks * r + c) a' b' a'' b''
            (λ i x y. g.kept.from1 i (omega arith)) (λ i x y. g.kept.from2 i (omega arith)) (f.made r c o l m));
        kept = record {
          from1 = λ i x. g.kept.from1 i (omega arith) ∙ f.kept.from1 i x;
          from2 = λ i x. g.kept.from2 i (omega arith) ∙ f.kept.from2 i x;
          long1 = g.kept.long1 ∙ f.kept.long1;
          long2 = g.kept.long2 ∙ f.kept.long2;
        };
      }

-- the same between equal positions
pub backward_as : {v : Row} {irs keys a b a' b' : List ℕ} (p q t u : ℕ) → p ≡ t → q ≡ u → Backward v irs keys p q a b a' b' → Backward v irs keys t u a b a' b'
backward_as {v} {irs} {keys} {a} {b} {a'} {b'} p q t u d e h =
    subst (λ (x : ℕ). Backward v irs keys x u a b a' b') d (subst (λ (y : ℕ). Backward v irs keys p y a b a' b') e h)

-- ---- what is known of a row of the table

sound_row : {v : Row} → IsRow v → Sound v
sound_row k =
    ⊎_elim (λ f. subst Sound (sym f) (sound 1)) (λ m. ⊎_elim (λ f. subst Sound (sym f) (sound 2)) (λ f. subst Sound (sym f) (sound 3)) m) k

pub told : (w v : Row) → v ≡ w → IsRow w → Told w v
told w v e k =
    record {
      same = e;
      sound = subst Sound (sym e) (sound_row k);
      n_is = ap (λ (x : Row). x.n) e;
      len1_is = ap (λ (x : Row). x.len1) e;
      len2_is = ap (λ (x : Row). x.len2) e;
      x1_is = ap (λ (x : Row). x.x1) e;
      y1_is = ap (λ (x : Row). x.y1) e;
      clocks_is = ap (λ (x : Row). x.clocks) e;
    }

pub told_sound : {w v : Row} → Told w v → Sound w
told_sound t = subst Sound t.same t.sound
