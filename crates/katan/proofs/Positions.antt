-- The registers at a position: within the width, there and back, one way whatever lies between; the one state.
-- Assumes nothing.
use mathlib.Core.Path.{◌≡◌, refl, sym, ap, ap₂, ◌∙◌}
use mathlib.Core.Bool.{Bool, true, false}
use Prim.Native.Nat.{ℕ, ◌+◌, ◌-◌, ◌%◌, ◌^◌, ◌<◌, ◌≤◌}
use native.Mathlib.Nat.{mul-le-mul_right, mod-lt, mod-eq_of_lt, lt_of_lt_of_le, div-add-mod', zero-add, sub_self, le_refl}
use native.Mathlib.Omega.{arith}
use borrow.Author.Tests.{leb-true, leb-false, le-leb, lt-leb}
use lib.Dec.{leb}
use lib.Pow.{pow_pos, pow-add, pow_mono, high, low, shr_lt}
use Rattle.katan.specs.Counter.{rounds}
use Rattle.katan.specs.Clock.{run, unrun, block, registers, input_of}
use Rattle.katan.specs.Variant.{row_of, width_of}
use Rattle.katan.specs.Machine.{forward, back, registers_at, encryption, decryption, OneState}
use Rattle.katan.specs.inner.Within.{Sound, RegistersFit}
use Rattle.katan.specs.declared.Row.{Row}
use Rattle.katan.specs.declared.Registers.{Registers}
use Rattle.katan.proofs.Keys.{input_bits}
use Rattle.katan.proofs.Undo.{sound, run_fits, unrun_fits, run-unrun, unrun-run, run_add, unrun_add}

-- ---- a block and its registers

module _ (v : Row) (t : Sound v) where
  pub registers_fit : (x : ℕ) → x < 2 ^ v.n → RegistersFit v (registers v x)
  registers_fit x h = record { l1_fits = shr_lt v.len1 v.len2 (rw t.both h); l2_fits = mod-lt x (pow_pos v.len2) }

  pub block_fits : (s : Registers) → RegistersFit v s → block v s < 2 ^ v.n
  block_fits s f = rw (← t.both) (omega (arith, mul-le-mul_right (2 ^ v.len2) f.l1_fits, pow-add 2 v.len1 v.len2, f.l2_fits))

  -- a word has room for it
  pub block_in_word : (s : Registers) → RegistersFit v s → block v s % 2 ^ 64 ≡ block v s
  block_in_word s f = mod-eq_of_lt (lt_of_lt_of_le (block_fits s f) (pow_mono {i = v.n} {j = 64} t.n_fits))

  block-registers : (x : ℕ) → block v (registers v x) ≡ x
  block-registers x = div-add-mod' x (2 ^ v.len2)

  pair : ℕ → ℕ → Registers
  pair x y = record { l1 = x; l2 = y }

  registers-block : (s : Registers) → RegistersFit v s → registers v (block v s) ≡ s
  unfolding pair
  registers-block s f = ap₂ pair (high s.l1 v.len2 f.l2_fits) (low s.l1 v.len2 f.l2_fits)

-- ---- runs on blocks

module _ (v key : ℕ) where
  module _ (p c x : ℕ) (h : x < 2 ^ width_of v) where
    start : RegistersFit (row_of v) (registers (row_of v) x)
    start = registers_fit (row_of v) (sound v) x h

    there : RegistersFit (row_of v) (run (row_of v) (input_of v key) p c (registers (row_of v) x))
    there = run_fits (row_of v) (sound v) (input_of v key) (input_bits v key) p c (registers (row_of v) x) start

    home : RegistersFit (row_of v) (unrun (row_of v) (input_of v key) p c (registers (row_of v) x))
    home = unrun_fits (row_of v) (sound v) (input_of v key) (input_bits v key) p c (registers (row_of v) x) start

    pub forward-in : forward v key p c x < 2 ^ width_of v
    forward-in = block_fits (row_of v) (sound v) (run (row_of v) (input_of v key) p c (registers (row_of v) x)) there

    pub back_in : back v key p c x < 2 ^ width_of v
    back_in = block_fits (row_of v) (sound v) (unrun (row_of v) (input_of v key) p c (registers (row_of v) x)) home

    -- THEOREM: a run of rounds is undone
    pub undone : back v key p c (forward v key p c x) ≡ x
    undone =
        ap (λ (s : Registers). block (row_of v) (unrun (row_of v) (input_of v key) p c s)) (registers-block (row_of v) (sound v) _ there)
        ∙ ap (block (row_of v)) (unrun-run (row_of v) (sound v) (input_of v key) (input_bits v key) p c (registers (row_of v) x) start)
        ∙ block-registers (row_of v) (sound v) x

    -- and undoes what undid it
    pub redone : forward v key p c (back v key p c x) ≡ x
    redone =
        ap (λ (s : Registers). block (row_of v) (run (row_of v) (input_of v key) p c s)) (registers-block (row_of v) (sound v) _ home)
        ∙ ap (block (row_of v)) (run-unrun (row_of v) (sound v) (input_of v key) (input_bits v key) p c (registers (row_of v) x) start)
        ∙ block-registers (row_of v) (sound v) x

    further : (d : ℕ) → forward v key p (c + d) x ≡ forward v key (p + c) d (forward v key p c x)
    further d =
        ap (block (row_of v)) (run_add (row_of v) (input_of v key) p c d (registers (row_of v) x))
        ∙ ap (λ (s : Registers). block (row_of v) (run (row_of v) (input_of v key) (p + c) d s)) (sym (registers-block (row_of v) (sound v) _ there))

  earlier : (p c d x : ℕ) → x < 2 ^ width_of v → back v key p (c + d) x ≡ back v key p c (back v key (p + c) d x)
  earlier p c d x h =
      ap (block (row_of v)) (unrun_add (row_of v) (input_of v key) p c d (registers (row_of v) x))
      ∙ ap (λ (s : Registers). block (row_of v) (unrun (row_of v) (input_of v key) p c s)) (sym (registers-block (row_of v) (sound v) _ (home (p + c) d x h)))

  -- ---- the registers at a position

  pub at_later : (q x p : ℕ) → q ≤ p → registers_at v key q x p ≡ forward v key q (p - q) x
  unfolding registers_at
  at_later q x p h = rw (le-leb q p h)

  pub at_earlier : (q x p : ℕ) → p < q → registers_at v key q x p ≡ back v key p (q - p) x
  unfolding registers_at
  at_earlier q x p h = rw (lt-leb q p h)

  -- every way leads over position 0
  over_zero : (q x p : ℕ) → x < 2 ^ width_of v → (b : Bool) → leb q p ≡ b → registers_at v key q x p ≡ forward v key 0 p (back v key 0 q x)
  over_zero q x p h true e =
      let le : q ≤ p = leb-true q p e in
      let s : q + (p - q) ≡ p = omega arith in
      at_later q x p le
      ∙ ap (forward v key q (p - q)) (sym (redone 0 q x h))
      ∙ ap (λ (y : ℕ). forward v key y (p - q) (forward v key 0 q (back v key 0 q x))) (sym (zero-add q))
      ∙ sym (further 0 q (back v key 0 q x) (back_in 0 q x h) (p - q))
      ∙ ap (λ (y : ℕ). forward v key 0 y (back v key 0 q x)) s
  over_zero q x p h false e =
      let lt : p < q = leb-false q p e in
      let s : p + (q - p) ≡ q = omega arith in
      at_earlier q x p lt
      ∙ sym (redone 0 p (back v key p (q - p) x) (back_in p (q - p) x h))
      ∙ ap (forward v key 0 p)
      (ap (λ (y : ℕ). back v key 0 p (back v key y (q - p) x)) (sym (zero-add p))
      ∙ sym (earlier 0 p (q - p) x h)
      ∙ ap (λ (y : ℕ). back v key 0 y x) s)

  by_zero : (q x p : ℕ) → x < 2 ^ width_of v → registers_at v key q x p ≡ forward v key 0 p (back v key 0 q x)
  by_zero q x p h = over_zero q x p h (leb q p) refl

  -- THEOREM: they are below 2^n
  pub at_in : (q x p : ℕ) → x < 2 ^ width_of v → registers_at v key q x p < 2 ^ width_of v
  at_in q x p h = rw (by_zero q x p h) (forward-in 0 p (back v key 0 q x) (back_in 0 q x h))

  -- THEOREM: at the load position they are the block
  pub at_load : (q x : ℕ) → registers_at v key q x q ≡ x
  at_load q x =
      at_later q x q (le_refl q) ∙ ap (λ (c : ℕ). forward v key q c x) (sub_self q) ∙ block-registers (row_of v) (sound v) x

  -- THEOREM: it does not matter where the block was on its way
  pub at_join : (q x p r : ℕ) → x < 2 ^ width_of v → registers_at v key p (registers_at v key q x p) r ≡ registers_at v key q x r
  at_join q x p r h =
      by_zero p (registers_at v key q x p) r (at_in q x p h)
      ∙ ap (λ (y : ℕ). forward v key 0 r (back v key 0 p y)) (by_zero q x p h)
      ∙ ap (forward v key 0 r) (undone 0 p (back v key 0 q x) (back_in 0 q x h))
      ∙ sym (by_zero q x r h)

  -- THEOREM: for p < q, the one state that rounds p to q - 1 carry to the block
  pub one_state : (q x p : ℕ) → x < 2 ^ width_of v → p < q → OneState v key p q x (registers_at v key q x p)
  one_state q x p h lt =
      record {
        is_state = at_in q x p h;
        carried = ap (forward v key p (q - p)) (at_earlier q x p lt) ∙ redone p (q - p) x h;
        only = λ w i e. sym (undone p (q - p) w i) ∙ ap (back v key p (q - p)) e ∙ sym (at_earlier q x p lt);
      }

  -- THEOREM: decryption undoes encryption
  pub decryption-encryption : (x : ℕ) → x < 2 ^ width_of v → decryption v key (encryption v key x) ≡ x
  unfolding encryption decryption
  decryption-encryption x h = at_join 0 x rounds 0 h ∙ at_load 0 x

  -- THEOREM: and is undone by it
  pub encryption-decryption : (x : ℕ) → x < 2 ^ width_of v → encryption v key (decryption v key x) ≡ x
  unfolding encryption decryption
  encryption-decryption x h = at_join rounds x 0 rounds h ∙ at_load rounds x
