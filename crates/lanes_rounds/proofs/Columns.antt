-- Each lane of the buffers is a block's registers, and a history carries them from clock to clock.
-- Assumes nothing.
use mathlib.Core.Path.{◌≡◌, sym, ap, ap₂, subst, ◌∙◌}
use mathlib.Core.List.{List}
use Prim.Native.Nat.{ℕ, zero, suc, ◌+◌, ◌-◌, ◌*◌, ◌^◌, ◌<◌, ◌≤◌}
use native.Mathlib.Nat.{add-zero, zero-add, mul-zero, mod-lt}
use native.Mathlib.Omega.{arith}
use lib.Dec.{eqb, eqb→eq}
use lib.ListN.{get_or}
use lib.Pow.{pow_pos}
use Rattle.katan.specs.Bit.{bit, xor, and}
use Rattle.katan.specs.Counter.{counter, ir_of, rounds}
use Rattle.katan.specs.Clock.{clock, clocks, run, registers}
use Rattle.katan.specs.Sizes.{word_bits}
use Rattle.katan.specs.inner.Within.{Sound, Bits, RegistersFit, Entries}
use Rattle.katan.specs.declared.Row.{Row}
use Rattle.katan.specs.declared.Registers.{Registers}
use Rattle.katan.specs.declared.RoundInput.{RoundInput}
use Rattle.katan.proofs.Bits.{bit_lt, bit-zero, bit-mod, bit_xor, bit_and, fa_map, fb_map, bit-shr, bits_equal}
use Rattle.katan.proofs.Tables.{each}
use Rattle.katan.proofs.Undo.{run_fits, run_same}
use Rattle.katan.proofs.Shows.{Shows, clock_shows}
use Rattle.katan.proofs.Positions.{registers_fit}
use Rattle.lanes_transpose.specs.Matrix.{column}
use Rattle.lanes_transpose.proofs.Laws.{column_bit}
use Rattle.lanes_rounds.specs.Words.{lane_block, lane_input}
use Rattle.lanes_rounds.specs.inner.Buffers.{tapped, spread, word_input, Clocked, History, Placed}
use Rattle.lanes_rounds.proofs.Clocks.{Clocks}

-- the bits of a round's words for lane j
abbrev lane_bits : ℕ → RoundInput → RoundInput
lane_bits j u = record { ir = bit u.ir j; ka = bit u.ka j; kb = bit u.kb j }

-- lane j's registers s stand in the buffers at clock t
abbrev Stands : Row → (j : ℕ) (a b : List ℕ) (t : ℕ) → Registers → Type 0
Stands v j a b t s = Shows v (λ i. bit (tapped a (t + v.x1) i) j) (λ i. bit (tapped b (t + v.y1) i) j) s

-- ---- a clock: bit j keeps xor and and, so the words' formulas are lane j's

-- a buffer at clock t + 1, whose newest word stands at t + w, for a register of m + 1 bits
module _ (j t m w : ℕ) (e : m + 1 ≡ w) (l : List ℕ) where
  newest : bit (tapped l (t + 1 + m) 0) j ≡ bit (get_or l (t + w) 0) j
  newest = let d : t + 1 + m - 0 ≡ t + w = omega arith in ap (λ (n : ℕ). bit (get_or l n 0) j) d

  moved_up : (i : ℕ) → bit (tapped l (t + 1 + m) (suc i)) j ≡ bit (tapped l (t + m) i) j
  moved_up i = let d : t + 1 + m - suc i ≡ t + m - i = omega arith in ap (λ (n : ℕ). bit (get_or l n 0) j) d

module _ (v : Row) (s : Sound v) (j t : ℕ) (a b : List ℕ) (u : RoundInput) (g : Registers) (c : Clocked v u t a b) (h : Stands v j a b t g) where
  clock_stands : Stands v j a b (t + 1) (clock v (lane_bits j u) g)
  clock_stands =
      clock_shows v s (lane_bits j u) (record { ir_bit = bit_lt u.ir j; ka_bit = bit_lt u.ka j; kb_bit = bit_lt u.kb j }) g _ _ _ _ h
      (newest j t v.x1 v.len1 s.top1 a ∙ ap (λ (y : ℕ). bit y j) c.into1
      ∙ fb_map xor and xor and (λ x. bit x j) (λ p q. bit_xor p q j) (λ p q. bit_and p q j) v (tapped b (t + v.y1)) u.kb)
      (newest j t v.y1 v.len2 s.top2 b ∙ ap (λ (y : ℕ). bit y j) c.into2
      ∙ fa_map xor and xor and (λ x. bit x j) (λ p q. bit_xor p q j) (λ p q. bit_and p q j) v (tapped a (t + v.x1)) u.ir u.ka)
      (λ i q. moved_up j t v.x1 v.len1 s.top1 a i)
      (λ i q. moved_up j t v.y1 v.len2 s.top2 b i)

module _ (v : Row) (s : Sound v) (j : ℕ) (a b : List ℕ) where
  clocks_stand : (u : RoundInput) (t n : ℕ) (g : Registers) → Clocks v u t n a b → Stands v j a b t g
      → (c : ℕ) → c ≤ n → Stands v j a b (t + c) (clocks v (lane_bits j u) c g)
  clocks_stand u t n g k h zero q = rw add-zero h
  clocks_stand u t n g k h (suc c) q =
      let e : t + c + 1 ≡ t + suc c = omega arith in
      subst (λ (y : ℕ). Stands v j a b y (clocks v (lane_bits j u) (suc c) g)) e
      (clock_stands v s j (t + c) a b u (clocks v (lane_bits j u) c g) (k c q) (clocks_stand u t n g k h c (omega arith)))

  run_stands : (irs keys : List ℕ) (n : ℕ) (g : Registers) → History v irs keys 0 n a b → Stands v j a b 0 g
      → (m : ℕ) → m ≤ n → Stands v j a b (v.clocks * m) (run v (λ r. lane_bits j (word_input irs keys r)) 0 m g)
  run_stands irs keys n g k h zero q = rw mul-zero h
  run_stands irs keys n g k h (suc m) q =
      let u = word_input irs keys m in
      let e : v.clocks * m + v.clocks ≡ v.clocks * suc m = omega arith in
      rw zero-add
      (subst (λ (y : ℕ). Stands v j a b y (clocks v (lane_bits j u) v.clocks (run v (λ r. lane_bits j (word_input irs keys r)) 0 m g))) e
      (clocks_stand u (v.clocks * m) v.clocks (run v (λ r. lane_bits j (word_input irs keys r)) 0 m g)
      (λ c l. k m c (omega arith) q l) (run_stands irs keys n g k h m (omega arith)) v.clocks (omega arith)))

  -- ---- words as registers

  placed_stands : (t : ℕ) (words : List ℕ) (x : ℕ) → Placed v t words a b → ((i : ℕ) → i < v.n → bit (get_or words i 0) j ≡ bit x i) → Stands v j a b t (registers v x)
  placed_stands t words x p l =
      record {
        shows1 = λ i q.
            ap (λ (y : ℕ). bit y j) (p.placed1 i q) ∙ l (v.len2 + i) (omega (arith, s.both)) ∙ sym (bit-shr x v.len2 i);
        shows2 = λ i q.
            ap (λ (y : ℕ). bit y j) (p.placed2 i q) ∙ l i (omega (arith, s.both)) ∙ sym (bit-mod v.len2 x i q);
      }

  abbrev pair : ℕ → ℕ → Registers
  pair x y = record { l1 = x; l2 = y }

  -- no two pairs of registers stand at one clock
  one_pair : (t : ℕ) (g h : Registers) → RegistersFit v g → RegistersFit v h → Stands v j a b t g → Stands v j a b t h → g ≡ h
  one_pair t g h fg fh p q =
      ap₂ pair
      (bits_equal v.len1 g.l1 h.l1 fg.l1_fits fh.l1_fits (λ i l. sym (p.shows1 i l) ∙ q.shows1 i l))
      (bits_equal v.len2 g.l2 h.l2 fg.l2_fits fh.l2_fits (λ i l. sym (p.shows2 i l) ∙ q.shows2 i l))

-- ---- the inputs of lane j

-- a spread bit is the same in all lanes
spread_bit : (b j : ℕ) → b < 2 → j < word_bits → bit (spread b) j ≡ b
spread_bit zero j p q = bit-zero j
spread_bit (suc zero) j p q = eqb→eq (bit (spread 1) j) 1 (each (λ i. eqb (bit (spread 1) i) 1) word_bits tt j q)
spread_bit (suc (suc b)) j p q = absurd (omega arith)

pub lane-bits : (keys : List ℕ) (j r : ℕ) → Bits (lane_input keys j r)
lane-bits keys j r = record { ir_bit = bit_lt (counter r) 7; ka_bit = bit_lt (get_or keys (2 * r) 0) j; kb_bit = bit_lt (get_or keys (2 * r + 1) 0) j }

module _ (v : Row) (irs keys : List ℕ) (j : ℕ) (q : j < word_bits) (i : Entries (λ r. spread (ir_of (counter r))) rounds irs) where
  abbrev input : (keys : List ℕ) (j r : ℕ) → ℕ → RoundInput
  input keys j r x = record { ir = x; ka = bit (get_or keys (2 * r) 0) j; kb = bit (get_or keys (2 * r + 1) 0) j }

  lane-input : (r : ℕ) → r < rounds → lane_bits j (word_input irs keys r) ≡ lane_input keys j r
  lane-input r l = ap (input keys j r) (ap (λ (x : ℕ). bit x j) (i r l) ∙ spread_bit (ir_of (counter r)) j (bit_lt (counter r) 7) q)

  lane_run : (g : Registers) (c : ℕ) → c ≤ rounds → run v (λ r. lane_bits j (word_input irs keys r)) 0 c g ≡ run v (lane_input keys j) 0 c g
  lane_run g c p = run_same v (λ r. lane_bits j (word_input irs keys r)) (lane_input keys j) 0 c g (λ r l. lane-input (0 + r) (omega arith))

-- ---- lane j's block in words

module _ (v : Row) (words : List ℕ) (j : ℕ) where
  pub block-bit : (i : ℕ) → i < v.n → bit (get_or words i 0) j ≡ bit (lane_block v words j) i
  block-bit i q = sym (bit-mod v.n (column words j) i q ∙ column_bit words i j)

  pub block_lt : lane_block v words j < 2 ^ v.n
  block_lt = mod-lt (column words j) (pow_pos v.n)

-- THEOREM: with a history between them, all rounds carry each lane's registers from clock 0 to the last clock
pub history_carries : (v : Row) → Sound v → (irs keys a b from to : List ℕ) → Entries (λ r. spread (ir_of (counter r))) rounds irs → (m : ℕ) → m ≡ rounds
    → History v irs keys 0 m a b → Placed v 0 from a b → Placed v (v.clocks * m) to a b
    → (j : ℕ) → j < word_bits → registers v (lane_block v to j) ≡ run v (lane_input keys j) 0 m (registers v (lane_block v from j))
history_carries v s irs keys a b from to i m e h p q j l =
    let g = registers v (lane_block v from j) in
    let t = registers v (lane_block v to j) in
    let r = lane_run v irs keys j l i g m (omega arith) in
    one_pair v s j a b (v.clocks * m) t (run v (lane_input keys j) 0 m g) (registers_fit v s (lane_block v to j) (block_lt v to j))
    (run_fits v s (lane_input keys j) (lane-bits keys j) 0 m g (registers_fit v s (lane_block v from j) (block_lt v from j)))
    (placed_stands v s j a b (v.clocks * m) to (lane_block v to j) q (block-bit v to j))
    (subst (Stands v j a b (v.clocks * m)) r
    (run_stands v s j a b irs keys m g h (placed_stands v s j a b 0 from (lane_block v from j) p (block-bit v from j)) m (omega arith)))
