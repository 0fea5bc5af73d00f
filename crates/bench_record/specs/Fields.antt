-- Records and turns (document 01): the fields of a record, and the lanes that it names. A byte past the end counts as 0.
-- Assumes nothing.
use Rattle.std.specs.Prelude.{ℕ, ◌≡◌, ◌⊎◌, List, [], ◌∷◌, Bool, true, false, ◌&&◌, eqb, get_or, take, drop}
use Rattle.katan.specs.Bit.{bit, pick, number_in}
use Rattle.katan.specs.Key.{key_of}
use Rattle.katan.specs.Sizes.{key_bytes}
use Rattle.bench_record.specs.declared.Record.{Record}

abbrev pub record_length : ℕ
record_length = 40

-- the number in n bytes from byte a on
abbrev pub part : List ℕ → ℕ → ℕ → ℕ
part s a n = number_in (take n (drop a s))

-- byte 0 kind, 1 lane, 2 load position or move count, 3 zero; 4–7 number, 8–15 mask, 16–25 key, 26–33 block, 34–39 zero
abbrev pub decode : List ℕ → Record
decode s =
    record {
      kind = get_or s 0 0;
      lane = get_or s 1 0;
      count = get_or s 2 0;
      gap = get_or s 3 0;
      number = part s 4 4;
      mask = part s 8 8;
      key = key_of (part s 16 key_bytes);
      block = part s 26 8;
      rest = part s 34 6;
    }

pub data Kind : Type 0 where
  load forward back clear other : Kind

-- the byte of each of the four kinds; 0 stands for any other
abbrev pub kind_byte : Kind → ℕ
kind_byte load = 1
kind_byte forward = 2
kind_byte back = 3
kind_byte clear = 4
kind_byte other = 0

unfoldable pub kind_of : ℕ → Kind
kind_of b = pick (eqb b (kind_byte load)) load (pick (eqb b (kind_byte forward)) forward (pick (eqb b (kind_byte back)) back (pick (eqb b (kind_byte clear)) clear other)))

abbrev pub kind : Record → Kind
kind r = kind_of r.kind

-- a load names the lane in its lane field, other kinds the lanes of their mask, bit i naming lane i
unfoldable pub names_as : Kind → Record → ℕ → Bool
names_as load r i = eqb i r.lane
names_as forward r i = eqb (bit r.mask i) 1
names_as back r i = eqb (bit r.mask i) 1
names_as clear r i = eqb (bit r.mask i) 1
names_as other r i = false

abbrev pub names : Record → ℕ → Bool
names r i = names_as (kind r) r i

-- two records say the same of lane i if neither names it, or both do with equal kind, count or position, key and block
abbrev pub SaySame : ℕ → Record → Record → Type 0
SaySame i r q =
    ((names r i ≡ false) × (names q i ≡ false))
    ⊎ ((names r i ≡ true) × (names q i ≡ true) × (kind r ≡ kind q) × (r.count ≡ q.count) × (r.key ≡ q.key) × (r.block ≡ q.block))

-- lists compared so have equally many records
abbrev pub AllSaySame : ℕ → List (List ℕ) → List (List ℕ) → Type 0
AllSaySame i [] [] = Unit {0}
AllSaySame i [] (t ∷ ts) = ⊥
AllSaySame i (s ∷ ss) [] = ⊥
AllSaySame i (s ∷ ss) (t ∷ ts) = SaySame i (decode s) (decode t) × AllSaySame i ss ts

-- whether two records have the same bytes
unfoldable pub same_bytes : List ℕ → List ℕ → Bool
same_bytes [] [] = true
same_bytes [] (y ∷ ys) = false
same_bytes (x ∷ xs) [] = false
same_bytes (x ∷ xs) (y ∷ ys) = eqb x y && same_bytes xs ys
