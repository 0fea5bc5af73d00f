-- A record with another number: no field but the number changes, so it is as sound, names the same lanes and steps them alike.
-- Assumes nothing.
use mathlib.Core.Path.{◌≡◌, refl, sym, ap, ap₂, ◌∙◌}
use mathlib.Core.List.{List, [], ◌∷◌, ◌++◌, append_assoc}
use mathlib.Core.Logic.{◌⊎◌, inl, inr}
use Prim.Native.Nat.{ℕ, suc, ◌+◌, ◌-◌, ◌^◌, ◌<◌, ◌≤◌}
use native.Mathlib.Omega.{arith}
use lib.ListN.{length, get_or, take, drop, replicate, length-append, length-drop, get_or-append}
use lib.Dec.{eqb}
use borrow.Author.Tests.{eqb-true, not-false}
use lib.Seq.{length-take-le, drop_at, drop-drop, take_at, get_or-take, get_or-drop}
use Rattle.katan.specs.Bit.{number_in, bytes_of}
use Rattle.katan.specs.Checks.{value, Check, checked, size_check}
use Rattle.katan.specs.Sizes.{key_bytes}
use Rattle.katan.specs.Key.{key_of}
use Rattle.katan.proofs.Checked.{all_passed}
use Rattle.katan.proofs.Numbers.{length-bytes, number-bytes}
use Rattle.bench_record.specs.declared.Record.{Record}
use Rattle.bench_record.specs.Fields.{Kind, load, forward, back, clear, other, record_length, part, decode, kind, names_as}
use Rattle.bench_record.specs.Codec.{encode, load_record}
use Rattle.bench_record.specs.Checks.{unused, field_checks}
use Rattle.bench.specs.Machine.{Machine, empty, loaded, moved_as, step_all, total_of}
use Rattle.bench.specs.Laws.{SoundRecord}
use Rattle.bench.specs.Exchange.{numbered, Numbering}
use Rattle.bench.proofs.Records.{same_as}

-- ---- the bytes

-- a load of lane 63 at 254 with a key of ones, and its bytes with number 4 · 2^24 + 3 · 2^16 + 2 · 2^8 + 1, computed
sample : numbered 67305985 (encode (load_record 0 63 254 (key_of (2 ^ 80 - 1)) 0))
    ≡ (1 ∷ 63 ∷ 254 ∷ 0 ∷ 1 ∷ 2 ∷ 3 ∷ 4 ∷ []) ++ replicate 8 0 ++ replicate 10 255 ++ replicate 14 0
unfolding numbered bytes_of encode
sample = refl

module _ (n : ℕ) (s : List ℕ) (size : 8 ≤ length s) where
  four : length (take 4 s) ≡ 4
  four = length-take-le 4 s (omega arith)

  eight : length (take 4 s ++ bytes_of 4 n) ≡ 8
  eight = length-append (take 4 s) (bytes_of 4 n) ∙ ap₂ ◌+◌ four (length-bytes 4 n)

  after : drop 8 (numbered n s) ≡ drop 8 s
  unfolding numbered
  after = drop_at (take 4 s ++ bytes_of 4 n) (drop 8 s) 8 eight

  byte_before : (i : ℕ) → i < 4 → get_or (numbered n s) i 0 ≡ get_or s i 0
  unfolding numbered
  byte_before i lt = get_or-append (take 4 s ++ bytes_of 4 n) (drop 8 s) 0 i (omega (arith, eight)) ∙ get_or-append (take 4 s) (bytes_of 4 n) 0 i (rw four lt) ∙ get_or-take 4 s i 0 lt

  byte_after : (i : ℕ) → 8 ≤ i → get_or (numbered n s) i 0 ≡ get_or s i 0
  byte_after i le =
      let e : 8 + (i - 8) ≡ i = omega arith in
      ap (λ (j : ℕ). get_or (numbered n s) j 0) (sym e) ∙ sym (get_or-drop 8 (numbered n s) (i - 8) 0)
      ∙ ap (λ (l : List ℕ). get_or l (i - 8) 0) after
      ∙ get_or-drop 8 s (i - 8) 0 ∙ ap (λ (j : ℕ). get_or s j 0) e

  other_byte : (i : ℕ) → (i < 4) ⊎ (8 ≤ i) → get_or (numbered n s) i 0 ≡ get_or s i 0
  other_byte i (inl lt) = byte_before i lt
  other_byte i (inr le) = byte_after i le

  whole_length : length (numbered n s) ≡ length s
  unfolding numbered
  whole_length =
      length-append (take 4 s ++ bytes_of 4 n) (drop 8 s) ∙ ap₂ ◌+◌ eight (length-drop 8 s) ∙ omega arith

  -- ---- the fields

  -- the part from byte 8 + a on
  part_after : (a k : ℕ) → part (numbered n s) (8 + a) k ≡ part s (8 + a) k
  part_after a k =
      ap (λ (l : List ℕ). number_in (take k l)) (sym (drop-drop a 8 (numbered n s)) ∙ ap (drop a) after ∙ drop-drop a 8 s)

  number_is : n < 2 ^ 32 → part (numbered n s) 4 4 ≡ n
  unfolding numbered
  number_is lt =
      ap (λ (l : List ℕ). number_in (take 4 l)) (ap (drop 4) (append_assoc (take 4 s) (bytes_of 4 n) (drop 8 s)) ∙ drop_at (take 4 s) (bytes_of 4 n ++ drop 8 s) 4 four)
      ∙ ap number_in (take_at (bytes_of 4 n) (drop 8 s) 4 (length-bytes 4 n)) ∙ number-bytes 4 n lt

-- THEOREM: numbering a record writes bytes 4 to 7 and nothing else
pub numbering : Numbering
numbering n s size = record { same_length = whole_length n s size; same_bytes = other_byte n s size; its_number = number_is n s size }

-- the fields of r with number n
abbrev with_number : ℕ → Record → Record
with_number n r =
    record { kind = r.kind; lane = r.lane; count = r.count; gap = r.gap; number = n; mask = r.mask; key = r.key; block = r.block; rest = r.rest }

fields_with : (n : ℕ) (s : List ℕ) → 8 ≤ length s → n < 2 ^ 32 → decode (numbered n s) ≡ with_number n (decode s)
fields_with n s size lt =
    rw (
      byte_before n s size 0 (omega arith),
      byte_before n s size 1 (omega arith),
      byte_before n s size 2 (omega arith),
      byte_before n s size 3 (omega arith),
      number_is n s size lt,
      part_after n s size 0 8,
      part_after n s size 8 key_bytes,
      part_after n s size 18 8,
      part_after n s size 26 6,
    )

-- ---- and what no number changes

module _ (n : ℕ) (r : Record) where
  same_unused : (k : Kind) → unused k (with_number n r) ≡ unused k r
  unfolding unused
  same_unused load = refl
  same_unused forward = refl
  same_unused back = refl
  same_unused clear = refl
  same_unused other = refl

  same_checks : (v : ℕ) → field_checks v (with_number n r) ≡ field_checks v r
  same_checks v = rw (same_unused (kind r))

  same_names : (k : Kind) (i : ℕ) → names_as k (with_number n r) i ≡ names_as k r i
  unfolding names_as
  same_names load i = refl
  same_names forward i = refl
  same_names back i = refl
  same_names clear i = refl
  same_names other i = refl

  same_moved : (k : Kind) (m : Machine) → moved_as k (with_number n r) m ≡ moved_as k r m
  unfolding moved_as
  same_moved load m = refl
  same_moved forward empty = refl
  same_moved forward (loaded key block q p) = refl
  same_moved back empty = refl
  same_moved back (loaded key block q p) = refl
  same_moved clear m = refl
  same_moved other m = refl

  same_steps : (ms : List Machine) (i : ℕ) → step_all (with_number n r) i ms ≡ step_all r i ms
  unfolding step_all
  same_steps [] i = refl
  same_steps (m ∷ ms) i = rw (same_names (kind r) i, same_as (kind r) (with_number n r) r m refl refl refl, same_steps ms (suc i))

  same_total : (ms : List Machine) (i : ℕ) → total_of (with_number n r) i ms ≡ total_of r i ms
  unfolding total_of
  same_total [] i = refl
  same_total (m ∷ ms) i = rw (same_names (kind r) i, same_moved (kind r) m, same_total ms (suc i))

-- ---- a numbered record

module _ (n : ℕ) (s : List ℕ) (v : ℕ) (sound : SoundRecord v s) (lt : n < 2 ^ 32) where
  whole : 8 ≤ length s
  whole =
      let free = (all_passed tt (size_check record_length s ∷ field_checks v (decode s)) (value tt) sound).0 in
      omega (arith, eqb-true (length s) record_length (not-false (eqb (length s) record_length) free.0))

  fields : decode (numbered n s) ≡ with_number n (decode s)
  fields = fields_with n s whole lt

  pub its_number : (decode (numbered n s)).number ≡ n
  its_number = (numbering n s whole).its_number lt

  pub numbered_sound : SoundRecord v (numbered n s)
  numbered_sound =
      let size : size_check record_length (numbered n s) ≡ size_check record_length s = rw (numbering n s whole).same_length in
      ap₂ (λ (c : Check) (cs : List Check). checked (c ∷ cs) (value tt)) size (ap (field_checks v) fields ∙ same_checks n (decode s) v) ∙ sound

  pub numbered_steps : (ms : List Machine) → step_all (decode (numbered n s)) 0 ms ≡ step_all (decode s) 0 ms
  numbered_steps ms = rw fields (same_steps n (decode s) ms 0)

  pub numbered_total : (ms : List Machine) → total_of (decode (numbered n s)) 0 ms ≡ total_of (decode s) 0 ms
  numbered_total ms = rw fields (same_total n (decode s) ms 0)
