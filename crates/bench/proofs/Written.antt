-- A record of each kind, written down: it is read back as it was, and is sound.
-- Assumes nothing.
use mathlib.Core.Path.{◌≡◌, sym, ap, subst}
use mathlib.Core.Bool.{true, false, ◌||◌}
use mathlib.Core.List.{◌∷◌}
use Prim.Native.Nat.{ℕ, ◌%◌, ◌^◌, ◌<◌, ◌≤◌}
use native.Mathlib.Nat.{div_self}
use native.Mathlib.Omega.{arith}
use lib.Dec.{leb, ltb, eqb}
use lib.ListN.{length}
use lib.Pow.{pow_pos, pow_mono, pow-lt}
use borrow.Author.Tests.{le-ltb, lt-leb, eq-eqb, ne_eqb}
use Rattle.katan.specs.Bit.{bit}
use Rattle.katan.specs.Counter.{rounds}
use Rattle.katan.specs.Key.{key_length, key_of}
use Rattle.katan.specs.Variant.{width_of}
use Rattle.katan.specs.Checks.{value, size_check}
use Rattle.katan.specs.Sizes.{lane_count}
use Rattle.katan.proofs.Checked.{NoFault, no_fault_found}
use Rattle.katan.proofs.Undo.{sound}
use Rattle.bench_record.specs.declared.Record.{Record}
use Rattle.bench_record.specs.Fields.{forward, back, clear, kind_byte, kind_of, record_length, decode}
use Rattle.bench_record.specs.Codec.{encode, load_record, move_record}
use Rattle.bench_record.specs.Checks.{unknown, unused, wrong_count, none_named, field_checks}
use Rattle.bench_record.proofs.Codec.{every_record}
use Rattle.bench.specs.Laws.{SoundRecord}

-- a block fits a word, and so does the mask of one lane
pub in_word : (v x : ℕ) → x < 2 ^ width_of v → x < 2 ^ 64
in_word v x small = omega (arith, pow_mono {i = width_of v} {j = 64} (sound v).n_fits)

pub lane_mask : (i : ℕ) → i < lane_count → 2 ^ i < 2 ^ 64
lane_mask i lane = pow-lt {i = i} {j = 64} lane

-- which names that lane
pub own_bit : (i : ℕ) → eqb (bit (2 ^ i) i) 1 ≡ true
own_bit i = eq-eqb (bit (2 ^ i) i) 1 (ap (λ (y : ℕ). y % 2) (div_self (pow_pos i)))

module _ (n : ℕ) (number : n < 2 ^ 32) where
  -- ---- read back

  pub load_back : (i q key x : ℕ) → key < 2 ^ key_length → x < 2 ^ 64 → decode (encode (load_record n i q (key_of key) x)) ≡ load_record n i q (key_of key) x
  load_back i q key x fits block =
      (every_record (load_record n i q (key_of key) x)).1
      (record { number = number; mask = omega arith; low = omega arith; high = omega arith; block = block; rest = omega arith })

  pub move_back : (k m c : ℕ) → m < 2 ^ 64 → decode (encode (move_record k n m c)) ≡ move_record k n m c
  move_back k m c mask =
      (every_record (move_record k n m c)).1
      (record { number = number; mask = mask; low = omega arith; high = omega arith; block = omega arith; rest = omega arith })

  -- ---- and sound

  module _ (v : ℕ) where
    -- if its fields are
    written_sound : (r : Record) → decode (encode r) ≡ r → NoFault (field_checks v r) → SoundRecord v (encode r)
    written_sound r e free =
        no_fault_found (size_check record_length (encode r) ∷ field_checks v (decode (encode r))) (value tt)
        (rw (eq-eqb (length (encode r)) record_length (every_record r).0), subst (λ (t : Record). NoFault (field_checks v t)) (sym e) free)

    pub load_sound : (i q key x : ℕ) → i < lane_count → q ≤ rounds → key < 2 ^ key_length → x < 2 ^ width_of v → SoundRecord v (encode (load_record n i q (key_of key) x))
    unfolding kind_of unknown unused wrong_count none_named
    load_sound i q key x lane from fits small =
        written_sound (load_record n i q (key_of key) x) (load_back i q key x fits (in_word v x small))
        (search (lt-leb lane_count i lane, le-ltb rounds q from, lt-leb (2 ^ width_of v) x small))

    no_block : leb (2 ^ width_of v) 0 ≡ false
    no_block = lt-leb (2 ^ width_of v) 0 (pow_pos (width_of v))

    -- a move or a clear of some lanes
    module _ (m : ℕ) (mask : m < 2 ^ 64) (some : 0 < m) where
      names_some : eqb m 0 ≡ false
      names_some = ne_eqb m 0 (λ e. omega arith)

      pub clear_sound : SoundRecord v (encode (move_record (kind_byte clear) n m 0))
      unfolding kind_of unknown unused wrong_count none_named
      clear_sound = written_sound (move_record (kind_byte clear) n m 0) (move_back (kind_byte clear) m 0 mask) (search (no_block, names_some))

      module _ (c : ℕ) (least : 1 ≤ c) (most : c ≤ rounds) where
        count_in : (eqb c 0 || ltb rounds c) ≡ false
        count_in = rw (ne_eqb c 0 (λ e. omega arith), le-ltb rounds c most)

        pub forward_sound : SoundRecord v (encode (move_record (kind_byte forward) n m c))
        unfolding kind_of unknown unused wrong_count none_named
        forward_sound = written_sound (move_record (kind_byte forward) n m c) (move_back (kind_byte forward) m c mask) (search (count_in, no_block, names_some))

        pub back_sound : SoundRecord v (encode (move_record (kind_byte back) n m c))
        unfolding kind_of unknown unused wrong_count none_named
        back_sound = written_sound (move_record (kind_byte back) n m c) (move_back (kind_byte back) m c mask) (search (count_in, no_block, names_some))
