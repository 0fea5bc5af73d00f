-- Results, block by block: row j of the result is what the rounds make of block j.
-- Assumes nothing.
use mathlib.Core.Path.{◌≡◌, refl, sym, ap, subst, ◌∙◌}
use mathlib.Core.List.{List}
use Prim.Native.Nat.{ℕ, zero, suc, ◌+◌, ◌-◌, ◌/◌, ◌%◌, ◌^◌, ◌<◌, ◌≤◌}
use native.Mathlib.Nat.{mod-lt, mod-eq_of_lt, lt_of_lt_of_le}
use native.Mathlib.Omega.{arith}
use lib.ListN.{length, get_or, take}
use lib.Seq.{get_or-take, length-take-le}
use lib.Pow.{pow_pos, pow_mono, low, mod-mod-pow}
use Rattle.katan.specs.Bit.{tabulate}
use Rattle.katan.specs.Counter.{rounds}
use Rattle.katan.specs.Key.{key_length}
use Rattle.katan.specs.Variant.{row32, rows, row_of, width_of}
use Rattle.katan.specs.Clock.{run, unrun, block, registers, input_of}
use Rattle.katan.specs.Machine.{encryption, decryption}
use Rattle.katan.specs.inner.Within.{RegistersFit, Entries}
use Rattle.katan.specs.declared.Row.{Row}
use Rattle.katan.specs.declared.Registers.{Registers}
use Rattle.katan.specs.Sizes.{word_bits}
use Rattle.katan.proofs.Fill.{full}
use Rattle.katan.proofs.Tables.{entry, length-tabulate}
use Rattle.katan.proofs.Undo.{sound, run_fits, unrun_fits, run_same, unrun_same}
use Rattle.katan.proofs.Positions.{registers_fit, block_fits, at_later, at_earlier}
use Rattle.lanes_transpose.specs.Matrix.{column, transposed}
use Rattle.lanes_transpose.proofs.Laws.{transposed_row, transposed_twice}
use Rattle.lanes_keys.proofs.Lanes.{lane-input}
use Rattle.lanes_keys.specs.RoundWords.{round_words}
use Rattle.lanes_rounds.proofs.Columns.{lane-bits}
use Rattle.lanes_rounds.specs.Words.{width_row, lane_block, lane_input, all_rounds_run, all_rounds_undone}
use Rattle.lanes.specs.declared.Direction.{Direction}
use Rattle.lanes.specs.declared.Direction.TheVariants.{Encrypt, Decrypt}
use Rattle.lanes.specs.Many.{block_key, one_block, results}
use Rattle.lanes.specs.inner.Words.{high_place, with_high, KeyLanes, all_rounds}

-- ---- rows and lanes

-- the lanes of transposed rows are the rows
row_column : (m : List ℕ) → length m ≡ word_bits → ((i : ℕ) → i < word_bits → get_or m i 0 < 2 ^ word_bits) → (j : ℕ) → j < word_bits → column (transposed m) j ≡ get_or m j 0
row_column m l small j q = sym (transposed_row (transposed m) j q) ∙ ap (λ (x : List ℕ). get_or x j 0) (transposed_twice m l small)

module _ (v : Row) (m words : List ℕ) (e : words ≡ transposed m) (l : length m ≡ word_bits) (small : (i : ℕ) → i < word_bits → get_or m i 0 < 2 ^ word_bits) (j : ℕ) (q : j < word_bits) (x : ℕ) (h : x < 2 ^ v.n) where
  lane : lane_block v words j ≡ get_or m j 0 % 2 ^ v.n
  lane = ap (λ (w : List ℕ). column w j % 2 ^ v.n) e ∙ ap (λ (y : ℕ). y % 2 ^ v.n) (row_column m l small j q)

  -- a row that is a block
  pub lane_plain : get_or m j 0 ≡ x → lane_block v words j ≡ x
  lane_plain f = lane ∙ ap (λ (y : ℕ). y % 2 ^ v.n) f ∙ mod-eq_of_lt h

  -- a row that has high key bits too
  pub lane_below : (key : ℕ) → v.n ≤ high_place → get_or m j 0 ≡ with_high key x → lane_block v words j ≡ x
  lane_below key p f =
      let d : high_place - v.n + v.n ≡ high_place = omega arith in
      lane ∙ ap (λ (y : ℕ). y % 2 ^ v.n) f
      ∙ sym (mod-mod-pow (with_high key x) (high_place - v.n) v.n)
      ∙ ap (λ (k : ℕ). with_high key x % 2 ^ k % 2 ^ v.n) d
      ∙ ap (λ (y : ℕ). y % 2 ^ v.n) (low (key / 2 ^ word_bits) high_place (lt_of_lt_of_le h (pow_mono {i = v.n} {j = high_place} p)))
      ∙ mod-eq_of_lt h

-- ---- the result of a lane

row_width : (i : ℕ) → width_row (get_or rows i row32).n ≡ get_or rows i row32
row_width zero = refl
row_width (suc zero) = refl
row_width (suc (suc zero)) = refl
row_width (suc (suc (suc zero))) = refl
row_width (suc (suc (suc (suc zero)))) = refl
row_width (suc (suc (suc (suc (suc zero))))) = refl
row_width (suc (suc (suc (suc (suc (suc i)))))) = refl

-- entry j of a list that is transposed twice
twice_entry : (f : ℕ → ℕ) → ((i : ℕ) → f i < 2 ^ word_bits) → (j : ℕ) → j < word_bits → get_or (transposed (transposed (tabulate f 0 word_bits))) j 0 ≡ f j
twice_entry f small j q =
    ap (λ (m : List ℕ). get_or m j 0)
    (transposed_twice (tabulate f 0 word_bits) (length-tabulate f 0 word_bits) (λ i l. subst (λ (y : ℕ). y < 2 ^ word_bits) (sym (entry f word_bits i 0 l)) (small i)))
    ∙ entry f word_bits j 0 q

module _ (v n : ℕ) (e : n ≡ width_of v) (keys words : List ℕ) where
  row : width_row n ≡ row_of v
  row = ap width_row e ∙ row_width (v - 1)

  abbrev start : ℕ → Registers
  start j = registers (row_of v) (lane_block (row_of v) words j)

  start_fits : (j : ℕ) → RegistersFit (row_of v) (start j)
  start_fits j = registers_fit (row_of v) (sound v) (lane_block (row_of v) words j) (mod-lt (column words j) (pow_pos (row_of v).n))

  block_small : (s : Registers) → RegistersFit (row_of v) s → block (row_of v) s < 2 ^ word_bits
  block_small s f = lt_of_lt_of_le (block_fits (row_of v) (sound v) s f) (pow_mono {i = (row_of v).n} {j = word_bits} (sound v).n_fits)

  module _ (key j : ℕ) (q : j < word_bits) (same : (r : ℕ) → r < rounds → lane_input keys j r ≡ input_of v key r) where
    forth : get_or (transposed (all_rounds_run n keys words)) j 0 ≡ encryption v key (lane_block (row_of v) words j)
    unfolding all_rounds_run encryption
    forth =
        ap (λ (w : Row). get_or (transposed (transposed (tabulate (λ i. block w (run w (lane_input keys i) 0 rounds (registers w (lane_block w words i)))) 0 word_bits))) j 0) row
        ∙ twice_entry (λ i. block (row_of v) (run (row_of v) (lane_input keys i) 0 rounds (start i)))
        (λ i. block_small _ (run_fits (row_of v) (sound v) (lane_input keys i) (lane-bits keys i) 0 rounds (start i) (start_fits i))) j q
        ∙ ap (block (row_of v)) (run_same (row_of v) (lane_input keys j) (input_of v key) 0 rounds (start j) (λ i l. same (0 + i) (omega arith)))
        ∙ sym (at_later v key 0 (lane_block (row_of v) words j) rounds (omega arith))

    back : get_or (transposed (all_rounds_undone n keys words)) j 0 ≡ decryption v key (lane_block (row_of v) words j)
    unfolding all_rounds_undone decryption
    back =
        ap (λ (w : Row). get_or (transposed (transposed (tabulate (λ i. block w (unrun w (lane_input keys i) 0 rounds (registers w (lane_block w words i)))) 0 word_bits))) j 0) row
        ∙ twice_entry (λ i. block (row_of v) (unrun (row_of v) (lane_input keys i) 0 rounds (start i)))
        (λ i. block_small _ (unrun_fits (row_of v) (sound v) (lane_input keys i) (lane-bits keys i) 0 rounds (start i) (start_fits i))) j q
        ∙ ap (block (row_of v)) (unrun_same (row_of v) (lane_input keys j) (input_of v key) 0 rounds (start j) (λ i l. same (0 + i) (omega arith)))
        ∙ sym (at_earlier v key rounds (lane_block (row_of v) words j) 0 (omega arith))

    either : (d : Direction) → get_or (transposed (all_rounds d n keys words)) j 0 ≡ one_block d v key (lane_block (row_of v) words j)
    either Encrypt = forth
    either Decrypt = back

-- THEOREM: with the key words of all lanes, row j of the result is block j's
pub block_rows : (d : Direction) (v n : ℕ) → n ≡ width_of v → (key : ℕ → ℕ) (count : ℕ) → count ≤ word_bits → (key_words keys words out rows : List ℕ) → length key_words ≡ key_length
    → KeyLanes key count key_words → keys ≡ round_words v key_words → out ≡ all_rounds d n keys words → rows ≡ transposed out
    → Entries (λ j. one_block d v (key j) (lane_block (row_of v) words j)) count rows
block_rows d v n e key count few key_words keys words out rows l h k o r j q =
    ap (λ (m : List ℕ). get_or m j 0) (r ∙ ap transposed o)
    ∙ either v n e keys words (key j) j (omega arith)
    (λ i p. ap (λ (m : List ℕ). lane_input m j i) k ∙ lane-input j (key j) key_words l (h j q) v i p) d

-- the first n rows as a list
first_rows : (f : ℕ → ℕ) (n : ℕ) (rows : List ℕ) → n ≤ length rows → Entries f n rows → take n rows ≡ tabulate f 0 n
first_rows f n rows h e =
    let l = length-take-le n rows h in
    full f n (take n rows) l (λ i q. get_or-take n rows i 0 q ∙ e i q)

pub first_results : (d : Direction) (v : ℕ) (keys blocks rows : List ℕ) → length blocks ≤ length rows
    → Entries (λ i. one_block d v (block_key keys i) (get_or blocks i 0)) (length blocks) rows → take (length blocks) rows ≡ results d v keys blocks
unfolding results
first_results d v keys blocks rows h f = first_rows (λ i. one_block d v (block_key keys i) (get_or blocks i 0)) (length blocks) rows h f
