-- From a sheet's numbers to the words that rounds work on, and back.
-- Assumes nothing.
use mathlib.Core.Path.{◌≡◌, sym, ap, subst, ◌∙◌}
use mathlib.Core.Bool.{Bool, true, false}
use Prim.Native.Nat.{ℕ, ◌+◌, ◌*◌, ◌%◌, ◌^◌, ◌<◌}
use native.Mathlib.Nat.{zero-add}
use lib.ListN.{length, get_or}
use Rattle.katan.specs.Bit.{bit, pick}
use Rattle.katan.specs.Clock.{block}
use Rattle.katan.specs.Key.{key_length, k_at, round_keys}
use Rattle.katan.specs.Variant.{row_of, width_of, is_katan}
use Rattle.katan.specs.inner.Within.{Sound, RegistersFit as NumbersFit}
use Rattle.katan.specs.declared.Row.{Row}
use Rattle.katan.specs.declared.Registers.{Registers}
use Rattle.katan.proofs.Bits.{bit_lt}
use Rattle.katan.proofs.Keys.{k_low}
use Rattle.katan.proofs.Positions.{registers_fit, block_fits, block_in_word}
use Rattle.katan.proofs.Shows.{Shows}
use Rattle.katan.proofs.Tables.{entry, length-tabulate}
use Rattle.katan.proofs.Undo.{sound}
use Rattle.katan_sheet.specs.Three.{Three, is0, xor_three, and_three, known}
use Rattle.katan_sheet.specs.Cells.{Cells, cells, block_of, bits_at}
use Rattle.katan_sheet.specs.Sheet.{given, bits_given, one_of, zero_of, sheet_of, smudged_at, contradicts}
use Rattle.katan_smudged.specs.inner.Words.{registers_words, block_words, Fit, RegistersFit, Reads, Holds, HoldsCells, source_at, run_three}
use Rattle.katan_sheet.specs.declared.Known.{Known}
use Rattle.katan_smudged.specs.declared.words.KnownRegisters.{KnownRegisters}
use Rattle.katan_sheet.proofs.Lengths.{Sized, length_run}
use Rattle.katan_sheet.proofs.Blocks.{start_has, block_has}
use Rattle.katan_sheet.proofs.Sheets.{one_given, zero-given, sheet_is, not_both}

-- ---- a sheet's numbers hold its bits

pub length-given : (n : ℕ) (k : Known ℕ) → length (bits_given n k) ≡ n
length-given n k = length-tabulate (λ i. given (bit k.ones i) (bit k.zeros i)) 0 n

given_reads : (k : Known ℕ) → contradicts k ≡ false → (i : ℕ) → Reads k i (given (bit k.ones i) (bit k.zeros i))
given_reads k c i =
    record {
      one_there = sym (one_given _ _ (bit_lt k.ones i));
      zero_there = sym (zero-given _ _ (bit_lt k.ones i) (bit_lt k.zeros i) (not_both k c i));
    }

-- the key, at position 0: k(i) is key bit i for i below 80
pub key_holds : (v : ℕ) (key : Known ℕ) → Fit key_length key → contradicts key ≡ false → Holds key_length key (source_at v (bits_given key_length key) 0)
key_holds v key f c =
    record {
      fit = f;
      reads = λ i q. subst (λ (t : Three). Reads key i t) (sym (source_is i q (is_katan v))) (given_reads key c i);
    }
  where
    bit_is : (i : ℕ) → i < key_length → get_or (bits_given key_length key) i is0 ≡ given (bit key.ones i) (bit key.zeros i)
    bit_is i q = entry (λ j. given (bit key.ones j) (bit key.zeros j)) key_length i is0 q

    source_is : (i : ℕ) → i < key_length → (b : Bool) → pick b (k_at xor_three is0 (bits_given key_length key) (2 * 0 + i)) (get_or (bits_given key_length key) i is0) ≡ given (bit key.ones i) (bit key.zeros i)
    source_is i q true =
        ap (k_at xor_three is0 (bits_given key_length key)) (zero-add i)
        ∙ k_low xor_three is0 (bits_given key_length key) (length-given key_length key) i q
        ∙ bit_is i q
    source_is i q false = bit_is i q

module _ (v : Row) (t : Sound v) (k : Known ℕ) (f : Fit v.n k) where
  pub loaded_fits : RegistersFit v (registers_words v k)
  loaded_fits =
      let o = registers_fit v t k.ones f.ones_fit in
      let z = registers_fit v t k.zeros f.zeros_fit in
      record { l1_fits = record { ones_fit = o.l1_fits; zeros_fit = z.l1_fits }; l2_fits = record { ones_fit = o.l2_fits; zeros_fit = z.l2_fits } }

  -- the block in its registers
  pub loaded_holds : contradicts k ≡ false → HoldsCells v (registers_words v k) (cells v (bits_given v.n k))
  loaded_holds c =
      let g : ℕ → Three = λ i. given (bit k.ones i) (bit k.zeros i) in
      let o = start_has one_of is0 v t g k.ones (λ i. sym (given_reads k c i).one_there) in
      let z = start_has zero_of is0 v t g k.zeros (λ i. sym (given_reads k c i).zero_there) in
      record {
        in_l1 = record { fit = loaded_fits.l1_fits; reads = λ i q. record { one_there = sym (o.shows1 i q); zero_there = sym (z.shows1 i q) } };
        in_l2 = record { fit = loaded_fits.l2_fits; reads = λ i q. record { one_there = sym (o.shows2 i q); zero_there = sym (z.shows2 i q) } };
      }

-- ---- and back

module _ (v : Row) (t : Sound v) (s : KnownRegisters) (c : Cells Three) (size : Sized v c) (h : HoldsCells v s c) where
  abbrev ones : Registers
  ones = record { l1 = s.l1.ones; l2 = s.l2.ones }

  abbrev zeros : Registers
  zeros = record { l1 = s.l1.zeros; l2 = s.l2.zeros }

  -- one of the two words
  module _ (g : Three → ℕ) (r : Registers) (f : NumbersFit v r) (e : Shows v (λ i. g (get_or c.l1 i is0)) (λ i. g (get_or c.l2 i is0)) r) where
    word_fits : block v r % 2 ^ 64 < 2 ^ v.n
    word_fits = rw (block_in_word v t r f) (block_fits v t r f)

    word-bits : (i : ℕ) → i < v.n → g (get_or (block_of c) i is0) ≡ bit (block v r % 2 ^ 64) i
    word-bits i q = block_has g is0 v t c r size f e i q ∙ ap (λ (x : ℕ). bit x i) (sym (block_in_word v t r f))

  -- the block of registers that hold a block's bits
  pub shown_is : block_words v s ≡ sheet_of v.n (block_of c)
  shown_is =
      let fo : NumbersFit v ones = record { l1_fits = h.in_l1.fit.ones_fit; l2_fits = h.in_l2.fit.ones_fit } in
      let fz : NumbersFit v zeros = record { l1_fits = h.in_l1.fit.zeros_fit; l2_fits = h.in_l2.fit.zeros_fit } in
      let eo : Shows v (λ i. one_of (get_or c.l1 i is0)) (λ i. one_of (get_or c.l2 i is0)) ones
      = record { shows1 = λ i q. sym (h.in_l1.reads i q).one_there; shows2 = λ i q. sym (h.in_l2.reads i q).one_there } in
      let ez : Shows v (λ i. zero_of (get_or c.l1 i is0)) (λ i. zero_of (get_or c.l2 i is0)) zeros
      = record { shows1 = λ i q. sym (h.in_l1.reads i q).zero_there; shows2 = λ i q. sym (h.in_l2.reads i q).zero_there } in
      sym (sheet_is v.n (block_of c) (block_words v s) (word_fits one_of ones fo eo) (word_fits zero_of zeros fz ez) (word-bits one_of ones fo eo) (word-bits zero_of zeros fz ez))

-- LAW: registers that hold what p rounds make of a sheet give its result
pub result_is : (v : ℕ) (key block : Known ℕ) (p : ℕ) (s : KnownRegisters)
    → HoldsCells (row_of v) s (run_three v (bits_given key_length key) p (cells (row_of v) (bits_given (width_of v) block))) → block_words (row_of v) s ≡ smudged_at v key block p
unfolding smudged_at bits_at
result_is v key block p s h =
    shown_is (row_of v) (sound v) s _
    (length_run xor_three and_three known v (round_keys xor_three is0 v (bits_given key_length key)) p (bits_given (width_of v) block) (length-given (width_of v) block))
    h
