-- Two runs of the rounds over two kinds of bits: what holds between their inputs bit by bit holds between their blocks.
-- Assumes nothing.
use mathlib.Core.Bool.{Bool, true, false}
use mathlib.Core.List.{List, [], ◌∷◌, ◌++◌}
use Prim.Native.Nat.{ℕ, zero, suc, ◌+◌, ◌-◌, ◌*◌, ◌<◌}
use native.Mathlib.Omega.{arith}
use lib.ListN.{get_or, take, drop}
use Rattle.katan.specs.Bit.{pick, tabulate}
use Rattle.katan.specs.Counter.{counter, rounds}
use Rattle.katan.specs.Key.{key_length, k_list, round_keys}
use Rattle.katan.specs.Variant.{is_katan, row_of}
use Rattle.katan.specs.declared.Row.{Row}
use Rattle.katan.proofs.Bits.{bit_lt}
use Rattle.katan_sheet.specs.Cells.{Cells, clock_cells, clocks_cells, run_cells, bits_at}

-- ---- lists of one length, related place by place

pub data Lists {A B : Type 0} (R : A → B → Type 0) : List A → List B → Type 0 where
  none : Lists R [] []
  more : {x : A} {y : B} {xs : List A} {ys : List B} → R x y → Lists R xs ys → Lists R (x ∷ xs) (y ∷ ys)

module _ {A B : Type 0} {R : A → B → Type 0} where
  pub at_related : {xs : List A} {ys : List B} {a : A} {b : B} → Lists R xs ys → R a b → (i : ℕ) → R (get_or xs i a) (get_or ys i b)
  at_related none r i = r
  at_related (more x h) r zero = x
  at_related (more x h) r (suc i) = at_related h r i

  take_related : (n : ℕ) {xs : List A} {ys : List B} → Lists R xs ys → Lists R (take n xs) (take n ys)
  take_related zero h = none
  take_related (suc n) none = none
  take_related (suc n) (more x h) = more x (take_related n h)

  drop_related : (n : ℕ) {xs : List A} {ys : List B} → Lists R xs ys → Lists R (drop n xs) (drop n ys)
  drop_related zero h = h
  drop_related (suc n) none = none
  drop_related (suc n) (more x h) = drop_related n h

  append_related : {xs us : List A} {ys vs : List B} → Lists R xs ys → Lists R us vs → Lists R (xs ++ us) (ys ++ vs)
  append_related none k = k
  append_related (more x h) k = more x (append_related h k)

  pub tabulate_related : (f : ℕ → A) (g : ℕ → B) (i n : ℕ) → ((j : ℕ) → j < i + n → R (f j) (g j)) → Lists R (tabulate f i n) (tabulate g i n)
  tabulate_related f g i zero h = none
  tabulate_related f g i (suc n) h = more (h i (omega arith)) (tabulate_related f g (suc i) n (λ j q. h j (omega arith)))

  pick_related : {xs us : List A} {ys vs : List B} (c : Bool) → Lists R xs ys → Lists R us vs → Lists R (pick c xs us) (pick c ys vs)
  pick_related true h k = h
  pick_related false h k = k

-- ---- the rounds: xor and and keep R, and a bit that both kinds are given is related to itself

module _ {A B : Type 0} (R : A → B → Type 0) (x₁ a₁ : A → A → A) (f₁ : ℕ → A) (x₂ a₂ : B → B → B) (f₂ : ℕ → B)
    (kept-xor : (a c : A) (b d : B) → R a b → R c d → R (x₁ a c) (x₂ b d)) (kept_and : (a c : A) (b d : B) → R a b → R c d → R (a₁ a c) (a₂ b d))
    (same : (b : ℕ) → b < 2 → R (f₁ b) (f₂ b)) where
  hx : {a c : A} {b d : B} → R a b → R c d → R (x₁ a c) (x₂ b d)
  hx {a} {c} {b} {d} p q = kept-xor a c b d p q

  ha : {a c : A} {b d : B} → R a b → R c d → R (a₁ a c) (a₂ b d)
  ha {a} {c} {b} {d} p q = kept_and a c b d p q

  -- bits of related lists, past their ends too
  bits : {xs : List A} {ys : List B} → Lists R xs ys → (i : ℕ) → R (get_or xs i (f₁ 0)) (get_or ys i (f₂ 0))
  bits h i = at_related h (same 0 (omega arith)) i

  k_related : {key : List A} {key' : List B} (m : ℕ) → Lists R key key' → Lists R (k_list x₁ (f₁ 0) key m) (k_list x₂ (f₂ 0) key' m)
  k_related zero h = h
  k_related (suc m) h =
      let i = m + key_length in
      let ks = k_related m h in
      let k = bits ks in
      append_related ks (more (hx (hx (hx (k (i - 80)) (k (i - 61))) (k (i - 50))) (k (i - 13))) none)

  keys_related : {key : List A} {key' : List B} (v : ℕ) → Lists R key key' → Lists R (round_keys x₁ (f₁ 0) v key) (round_keys x₂ (f₂ 0) v key')
  keys_related v h = pick_related (is_katan v) (k_related (2 * rounds - key_length) h) h

  abbrev Both : Cells A → Cells B → Type 0
  Both s t = Lists R s.l1 t.l1 × Lists R s.l2 t.l2

  module _ (v : Row) {ir ka kb : A} {ir' ka' kb' : B} (hi : R ir ir') (hka : R ka ka') (hkb : R kb kb') where
    clock_related : (s : Cells A) (t : Cells B) → Both s t → Both (clock_cells x₁ a₁ f₁ v ir ka kb s) (clock_cells x₂ a₂ f₂ v ir' ka' kb' t)
    clock_related s t h =
        let p = bits h.0 in
        let q = bits h.1 in
        let fb-related = hx (q v.y1) (hx (hx (hx (q v.y2) (ha (q v.y3) (q v.y4))) (ha (q v.y5) (q v.y6))) hkb) in
        let fa-related = hx (p v.x1) (hx (hx (hx (p v.x2) (ha (p v.x3) (p v.x4))) (ha (p v.x5) hi)) hka) in
        (take_related v.len1 (more fb-related h.0), take_related v.len2 (more fa-related h.1))

    clocks_related : (c : ℕ) (s : Cells A) (t : Cells B) → Both s t → Both (clocks_cells x₁ a₁ f₁ v ir ka kb c s) (clocks_cells x₂ a₂ f₂ v ir' ka' kb' c t)
    clocks_related zero s t h = h
    clocks_related (suc c) s t h = clock_related _ _ (clocks_related c s t h)

  run_related : {ks : List A} {ks' : List B} (v : ℕ) → Lists R ks ks' → (p : ℕ) (s : Cells A) (t : Cells B) → Both s t
      → Both (run_cells x₁ a₁ f₁ v ks p s) (run_cells x₂ a₂ f₂ v ks' p t)
  run_related v k zero s t h = h
  run_related v k (suc p) s t h =
      clocks_related (row_of v) (same _ (bit_lt (counter p) 7)) (bits k _) (bits k _) (row_of v).clocks _ _ (run_related v k p s t h)

  -- THEOREM: related keys and blocks give related blocks
  pub bits_related : {key block : List A} {key' block' : List B} (v p : ℕ) → Lists R key key' → Lists R block block'
      → Lists R (bits_at x₁ a₁ f₁ v key block p) (bits_at x₂ a₂ f₂ v key' block' p)
  unfolding bits_at
  bits_related v p k b =
      let n = (row_of v).len2 in
      let r = run_related v (keys_related v k) p _ _ (drop_related n b, take_related n b) in
      append_related r.1 r.0
