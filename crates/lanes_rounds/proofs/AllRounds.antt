-- What the rounds leave in the words is what they make of each lane's block.
-- Assumes nothing.
use mathlib.Core.Path.{◌≡◌, refl, sym, ap, subst, ◌∙◌}
use mathlib.Core.Bool.{Bool, true, false}
use mathlib.Core.List.{List}
use Prim.Native.Nat.{ℕ, ◌+◌, ◌-◌, ◌*◌, ◌%◌, ◌^◌, ◌<◌, ◌≤◌}
use native.Mathlib.Nat.{lt_of_lt_of_le, div-eq_of_lt, div-add-mod', mul-zero}
use native.Mathlib.Omega.{arith}
use borrow.Author.Tests.{leb-true, leb-false, ne_eqb}
use lib.Dec.{eqb, leb}
use lib.ListN.{length, get_or}
use lib.Pow.{pow_mono}
use Rattle.katan.specs.Bit.{bit, pick, tabulate}
use Rattle.katan.specs.Clock.{run, unrun, block, registers}
use Rattle.katan.specs.Counter.{counter, ir_of, rounds}
use Rattle.katan.specs.Sizes.{word_bits}
use Rattle.katan.specs.Variant.{row32, row48, row64}
use Rattle.katan.specs.inner.Within.{Sound, Entries}
use Rattle.katan.specs.declared.Row.{Row}
use Rattle.katan.proofs.Bits.{bit-zero}
use Rattle.katan.proofs.Positions.{registers_fit}
use Rattle.katan.proofs.Tables.{entry, length-tabulate}
use Rattle.katan.proofs.Undo.{sound, unrun-run}
use Rattle.lanes_transpose.specs.Matrix.{transposed}
use Rattle.lanes_transpose.proofs.Laws.{transposed_only}
use Rattle.lanes_rounds.specs.Words.{width_row, lane_block, lane_input, all_rounds_run, all_rounds_undone}
use Rattle.lanes_rounds.specs.inner.Buffers.{spread, KeptBelow, KeptFrom, Placed, Forward, Backward}
use Rattle.lanes_rounds.proofs.Histories.{placed_at}
use Rattle.lanes_rounds.proofs.Columns.{lane-bits, block-bit, block_lt, history_carries}

-- a number that is neither 32 nor 48 stands for 64
pub other_width : (n : ℕ) → (n ≡ 32 → ⊥) → (n ≡ 48 → ⊥) → width_row n ≡ row64
other_width n p q = rw (ne_eqb n 32 p, ne_eqb n 48 q)

pub width_sound : (n : ℕ) → Sound (width_row n)
width_sound n = by_tests (eqb n 32) (eqb n 48)
  where
    by_tests : (b c : Bool) → Sound (pick b row32 (pick c row48 row64))
    by_tests true c = sound 1
    by_tests false true = sound 2
    by_tests false false = sound 3

-- ---- the registers that a run starts from are still placed after it

module _ (v : Row) (s : Sound v) (t : ℕ) (words a₀ b₀ a b : List ℕ) (p : Placed v t words a₀ b₀) where
  placed_below : KeptBelow v t a₀ b₀ a b → Placed v t words a b
  placed_below k =
      record {
        placed2 = λ i q. k.below2 (t + v.y1 - i) (omega (arith, s.top2)) ∙ p.placed2 i q;
        placed1 = λ i q. k.below1 (t + v.x1 - i) (omega (arith, s.top1)) ∙ p.placed1 i q;
      }

  placed_from : KeptFrom t a₀ b₀ a b → Placed v t words a b
  placed_from k =
      record {
        placed2 = λ i q. k.from2 (t + v.y1 - i) (omega (arith, s.top2)) ∙ p.placed2 i q;
        placed1 = λ i q. k.from1 (t + v.x1 - i) (omega (arith, s.top1)) ∙ p.placed1 i q;
      }

-- ---- words whose lanes are known

-- as many words as a word has bits, all 0 from word n on, with f j as lane j's block
module _ (v : Row) (s : Sound v) (f : ℕ → ℕ) (r : List ℕ) (len : length r ≡ word_bits) (small : (i : ℕ) → get_or r i 0 < 2 ^ word_bits)
    (clear : (i : ℕ) → v.n ≤ i → get_or r i 0 ≡ 0) (same : (j : ℕ) → j < word_bits → lane_block v r j ≡ f j) where
  lane-bit : (i j : ℕ) (b : Bool) → leb v.n i ≡ b → bit (get_or r i 0) j ≡ bit (lane_block v r j) i
  lane-bit i j false e = block-bit v r j i (leb-false v.n i e)
  lane-bit i j true e =
      let h = leb-true v.n i e in
      ap (λ (x : ℕ). bit x j) (clear i h) ∙ bit-zero j
      ∙ sym (ap (λ (x : ℕ). x % 2) (div-eq_of_lt (lt_of_lt_of_le (block_lt v r j) (pow_mono {i = v.n} {j = i} h))))

  lanes_known : r ≡ transposed (tabulate f 0 word_bits)
  lanes_known =
      transposed_only (tabulate f 0 word_bits) r (length-tabulate f 0 word_bits) len (λ i h. small i)
      (λ j i h k. lane-bit i j (leb v.n i) refl ∙ ap (λ (x : ℕ). bit x i) (same j h ∙ sym (entry f word_bits j 0 h)))

-- ---- all rounds

-- the row v of width n, the words before the rounds in the buffers a₀ and b₀, and the words r taken out of a and b after them
module _ (n : ℕ) (v : Row) (e : v ≡ width_row n) (s : Sound v) (irs keys words r a₀ b₀ a b : List ℕ)
    (i : Entries (λ k. spread (ir_of (counter k))) rounds irs) (len : length r ≡ word_bits) (small : (k : ℕ) → get_or r k 0 < 2 ^ word_bits)
    (clear : (k : ℕ) → v.n ≤ k → get_or r k 0 ≡ 0) where
  -- the registers at position 0 stand at clock 0
  at_zero : (xs c d : List ℕ) → Placed v (v.clocks * 0) xs c d → Placed v 0 xs c d
  at_zero xs c d = placed_at v (v.clocks * 0) 0 xs c d (mul-zero v.clocks)

  -- what the rounds make of a lane, if that is its block in r, in the words of the spec
  as_words : (f : Row → ℕ → ℕ) → ((j : ℕ) → j < word_bits → lane_block v r j ≡ f v j) → r ≡ transposed (tabulate (f (width_row n)) 0 word_bits)
  as_words f same =
      subst (λ (x : Row). r ≡ transposed (tabulate (f x) 0 word_bits)) e (lanes_known v s (f v) r len small clear same)

  -- THEOREM: forward
  pub all_run : Placed v (v.clocks * 0) words a₀ b₀ → Forward v irs keys 0 rounds a₀ b₀ a b → Placed v (v.clocks * rounds) r a b → r ≡ all_rounds_run n keys words
  unfolding all_rounds_run
  all_run p g q =
      as_words (λ x j. block x (run x (lane_input keys j) 0 rounds (registers x (lane_block x words j))))
      (λ j l.
      sym (div-add-mod' (lane_block v r j) (2 ^ v.len2))
      ∙ ap (block v)
      (history_carries v s irs keys a b words r i rounds refl g.made (at_zero words a b (placed_below v s (v.clocks * 0) words a₀ b₀ a b p g.kept)) q j l))

  -- THEOREM: backward
  pub all_undone : Placed v (v.clocks * rounds) words a₀ b₀ → Backward v irs keys 0 rounds a₀ b₀ a b → Placed v (v.clocks * 0) r a b → r ≡ all_rounds_undone n keys words
  unfolding all_rounds_undone
  all_undone p g q =
      as_words (λ x j. block x (unrun x (lane_input keys j) 0 rounds (registers x (lane_block x words j))))
      (λ j l.
      let u = lane_input keys j in
      let x = lane_block v r j in
      sym (div-add-mod' x (2 ^ v.len2))
      ∙ ap (block v)
      (sym (unrun-run v s u (lane-bits keys j) 0 rounds (registers v x) (registers_fit v s x (block_lt v r j)))
      ∙ ap (unrun v u 0 rounds)
      (sym (history_carries v s irs keys a b r words i rounds refl g.made (at_zero r a b q) (placed_from v s (v.clocks * rounds) words a₀ b₀ a b p g.kept) j l))))
