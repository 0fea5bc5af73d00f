-- Where a bit stands after each stage. Stage p makes the lowest bit of the row's number bit p of the column's, and that one the
-- highest bit of the row's; after six stages the two numbers have changed places.
-- Assumes nothing.
use mathlib.Core.Path.{◌≡◌, refl, sym, ap, ap₂, ◌∙◌}
use mathlib.Core.List.{List}
use Prim.Native.Nat.{ℕ, zero, suc, ◌+◌, ◌-◌, ◌*◌, ◌/◌, ◌%◌, ◌^◌, ◌<◌, ◌≤◌}
use native.Mathlib.Nat.{add_comm, add-mul, mul_assoc, mul_comm, one-mul, mod-lt, add-mul-div_right, add-mul-mod_self_right, div-add-mod', zero-lt-suc, div-mul-le_self, div-lt_iff_lt-mul, mul-le-mul_right, lt_of_lt_of_le}
use native.Mathlib.Omega.{arith}
use lib.Dec.{lit<}
use lib.ListN.{length, get_or}
use lib.Pow.{high, pow_pos, pow-add, shr-shr, mod-pow-add}
use Rattle.katan.specs.Bit.{bit}
use Rattle.katan.proofs.Bits.{bit_lt}
use Rattle.lanes_transpose.specs.Matrix.{transposed}
use Rattle.lanes_transpose.specs.inner.Stage.{Swapped}
use Rattle.lanes_transpose.proofs.Laws.{transposed_only}
use Rattle.lanes_transpose.proofs.Pair.{Mask, low_keeps, low_takes, high_keeps, high_takes}

-- equal numbers, the same place
same : (m : List ℕ) {r s c d : ℕ} → r ≡ s → c ≡ d → bit (get_or m r 0) c ≡ bit (get_or m s 0) d
same m p q = ap₂ (λ (r c : ℕ). bit (get_or m r 0) c) p q

-- ---- one stage

pub set_le : (c p : ℕ) → bit c p ≡ 1 → 2 ^ p ≤ c
set_le c p e = omega (arith, one-mul (2 ^ p), mul-le-mul_right {m = 1} {n = c / 2 ^ p} (2 ^ p) (omega arith), div-mul-le_self c (2 ^ p))

module _ (p mask : ℕ) (m : Mask p (2 ^ p) mask) (x y : List ℕ) (s : Swapped 32 (2 ^ p) mask x y) (i c : ℕ) (h : i < 32) (k : c < 64) where
  -- e is the lowest bit of the row's number, f bit p of the column's
  moved : (e f : ℕ) → e < 2 → bit c p ≡ f → c - f * 2 ^ p + e * 2 ^ p < 64
      → bit (get_or y (i + f * 32) 0) (c - f * 2 ^ p + e * 2 ^ p) ≡ bit (get_or x (2 * i + e) 0) c
  moved zero zero b q l =
      same y (omega arith) (omega arith) ∙ ap (λ (z : ℕ). bit z c) (s.lows i h) ∙ low_keeps p (2 ^ p) mask m _ _ c k q ∙ same x (omega arith) refl
  moved (suc zero) zero b q l =
      same y (omega arith) (omega arith) ∙ ap (λ (z : ℕ). bit z (2 ^ p + c)) (s.lows i h) ∙ low_takes p (2 ^ p) mask m _ _ c (omega arith) q
  moved zero (suc zero) b q l =
      let d = c - 2 ^ p in
      let t : 2 ^ p ≤ c = set_le c p q in
      let u : 2 ^ p + d ≡ c = omega arith in
      same y (omega arith) (omega arith)
      ∙ ap (λ (z : ℕ). bit z d) (s.highs i h)
      ∙ high_takes p (2 ^ p) mask m _ _ d (omega arith) (ap (λ (z : ℕ). bit z p) u ∙ q)
      ∙ same x (omega arith) u
  moved (suc zero) (suc zero) b q l =
      let t : 2 ^ p ≤ c = set_le c p q in
      same y (omega arith) (omega arith) ∙ ap (λ (z : ℕ). bit z c) (s.highs i h) ∙ high_keeps p (2 ^ p) mask m _ _ c k q
  moved zero (suc (suc f)) b q l = absurd (omega (arith, bit_lt c p))
  moved (suc zero) (suc (suc f)) b q l = absurd (omega (arith, bit_lt c p))
  moved (suc (suc e)) f b q l = absurd (omega arith)

-- ---- p stages: bit c of row r has come to bit `col p r c` of row `row p n r c`, where n * 2 ^ p is 64

abbrev row : (p n r c : ℕ) → ℕ
row p n r c = r / 2 ^ p + c % 2 ^ p * n

abbrev col : (p r c : ℕ) → ℕ
col p r c = c / 2 ^ p * 2 ^ p + r % 2 ^ p

pub record Placed (p n : ℕ) (x y : List ℕ) : Type 0 where
  pub whole : n * 2 ^ p ≡ 64
  pub at : (r c : ℕ) → r < 64 → c < 64 → bit (get_or y (row p n r c) 0) (col p r c) ≡ bit (get_or x r 0) c

pub placed_first : (x : List ℕ) → Placed 0 64 x x
placed_first x = record { whole = refl; at = λ r c h k. same x (omega arith) (omega arith) }

packed_lt : (a b m n : ℕ) → a < m → b < n → b * m + a < n * m
packed_lt a b m n h k = lt_of_lt_of_le {m = (b + 1) * m} (omega (arith, add-mul b 1 m, one-mul m)) (mul-le-mul_right m (omega arith))

module _ (p n r c : ℕ) (e : n * 2 ^ p ≡ 64) (h : r < 64) (k : c < 64) where
  row_lt : row p n r c < 64
  row_lt =
      omega (arith, e, mul_comm (2 ^ p) n, packed_lt (r / 2 ^ p) (c % 2 ^ p) n (2 ^ p) ((div-lt_iff_lt-mul (pow_pos p)).1 (omega arith)) (mod-lt c (pow_pos p)))

  col_lt : col p r c < 64
  col_lt = omega (arith, e, packed_lt (r % 2 ^ p) (c / 2 ^ p) (2 ^ p) n (mod-lt r (pow_pos p)) ((div-lt_iff_lt-mul (pow_pos p)).1 (omega arith)))

-- ---- one stage more

gather : (a b j l n : ℕ) → (a + l * n) + b * (j * n) ≡ a + (b * j + l) * n
gather a b j l n = omega (arith, add-mul (b * j) l n, mul_assoc b j n)

trade : (h q b j s t : ℕ) → h ≡ q * 2 + b → (h * j + s) - b * j + t * j ≡ q * (2 * j) + (t * j + s)
trade h q b j s t e = omega (arith, ap (λ (y : ℕ). y * j) e, add-mul (q * 2) b j, mul_assoc q 2 j)

half : (x p : ℕ) → x / 2 ^ p / 2 ≡ x / 2 ^ (1 + p)
half x p = shr-shr x p 1 ∙ ap (λ (z : ℕ). x / 2 ^ z) (add_comm p 1)

module _ (p n r c : ℕ) where
  top : col p r c / 2 ^ p ≡ c / 2 ^ p
  top = high (c / 2 ^ p) p (mod-lt r (pow_pos p))

  twice : row p (n * 2) r c ≡ r / 2 ^ p + c % 2 ^ p * n * 2
  twice = ap (λ (z : ℕ). r / 2 ^ p + z) (sym (mul_assoc (c % 2 ^ p) n 2))

  row_step : row p (n * 2) r c / 2 + bit (col p r c) p * (2 ^ p * n) ≡ row (1 + p) n r c
  row_step =
      ap₂ (λ (x y : ℕ). x + y % 2 * (2 ^ p * n)) (ap (λ (z : ℕ). z / 2) twice ∙ add-mul-div_right (r / 2 ^ p) (c % 2 ^ p * n) (zero-lt-suc 1)) top
      ∙ gather (r / 2 ^ p / 2) (c / 2 ^ p % 2) (2 ^ p) (c % 2 ^ p) n
      ∙ ap₂ (λ (x y : ℕ). x + y * n) (half r p) (sym (mod-pow-add c 1 p))

  col_step : col p r c - bit (col p r c) p * 2 ^ p + row p (n * 2) r c % 2 * 2 ^ p ≡ col (1 + p) r c
  col_step =
      ap₂ (λ (x y : ℕ). col p r c - x % 2 * 2 ^ p + y * 2 ^ p) top (ap (λ (z : ℕ). z % 2) twice ∙ add-mul-mod_self_right (r / 2 ^ p) (c % 2 ^ p * n) 2)
      ∙ trade (c / 2 ^ p) (c / 2 ^ p / 2) (c / 2 ^ p % 2) (2 ^ p) (r % 2 ^ p) (r / 2 ^ p % 2) (sym (div-add-mod' (c / 2 ^ p) 2))
      ∙ ap₂ (λ (x y : ℕ). x * y + (r / 2 ^ p % 2 * 2 ^ p + r % 2 ^ p)) (half c p) (sym (pow-add 2 1 p))
      ∙ ap (λ (z : ℕ). c / 2 ^ (1 + p) * 2 ^ (1 + p) + z) (sym (mod-pow-add r 1 p))

pub placed_next : (p n : ℕ) {mask : ℕ} {x y z : List ℕ} → Placed p (n * 2) x y → Swapped 32 (2 ^ p) mask y z → Mask p (2 ^ p) mask → Placed (1 + p) n x z
placed_next p n {mask} {x} {y} {z} f s m =
    let e : n * 2 ^ (1 + p) ≡ 64 = ap (λ (z : ℕ). n * z) (pow-add 2 1 p) ∙ sym (mul_assoc n 2 (2 ^ p)) ∙ f.whole in
    let w : 32 ≡ 2 ^ p * n = omega (arith, e, mul_comm n (2 ^ (1 + p)), ap (λ (z : ℕ). z * n) (pow-add 2 1 p), mul_assoc 2 (2 ^ p) n) in
    record {
      whole = e;
      at = λ r c h k.
          let R = row p (n * 2) r c in
          let C = col p r c in
          same z (sym (ap (λ (v : ℕ). R / 2 + bit C p * v) w ∙ row_step p n r c)) (sym (col_step p n r c))
          ∙ moved p mask m y z s (R / 2) C (omega (arith, row_lt p (n * 2) r c f.whole h k)) (col_lt p (n * 2) r c f.whole h k)
          (R % 2) (bit C p) (mod-lt R (lit< tt)) refl (rw (col_step p n r c) (col_lt (1 + p) n r c e h k))
          ∙ same y (omega arith) refl
          ∙ f.at r c h k;
    }

pub placed_last : {x y : List ℕ} → Placed 6 1 x y → length x ≡ 64 → length y ≡ 64 → ((j : ℕ) → j < 64 → get_or y j 0 < 2 ^ 64) → y ≡ transposed x
placed_last {x} {y} f lx ly small = transposed_only x y lx ly small (λ i j h k. same y (omega arith) (omega arith) ∙ f.at i j h k)
