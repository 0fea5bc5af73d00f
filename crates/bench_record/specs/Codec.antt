-- A record's bytes: those that say its fields, and the theorem that a record that is written down is read back as it was; the record of each kind.
-- Assumes nothing.
use Rattle.std.specs.Prelude.{ℕ, ◌^◌, ◌<◌, ◌≡◌, List, [], ◌∷◌, ◌++◌, length, get_or}
use Rattle.katan.specs.Bit.{tabulate, bytes_of}
use Rattle.katan.specs.Key.{key_number, key_of}
use Rattle.katan.specs.Sizes.{key_bytes}
use Rattle.katan.specs.declared.Key.{Key}
use Rattle.bench_record.specs.declared.Record.{Record}
use Rattle.bench_record.specs.Fields.{load, kind_byte, record_length, decode}

-- the bytes of the record that a list starts with
unfoldable pub record_in : List ℕ → List ℕ
record_in s = tabulate (λ i. get_or s i 0) 0 record_length

-- the bytes that say a record's fields, in document 01's order
unfoldable pub encode : Record → List ℕ
encode r =
    (r.kind ∷ r.lane ∷ r.count ∷ r.gap ∷ [])
    ++ bytes_of 4 r.number ++ bytes_of 8 r.mask ++ bytes_of key_bytes (key_number r.key) ++ bytes_of 8 r.block ++ bytes_of 6 r.rest

-- each number fits the bytes of its field
pub record RecordFits (r : Record) : Type 0 where
  pub number : r.number < 2 ^ 32
  pub mask : r.mask < 2 ^ 64
  pub low : r.key.low < 2 ^ 64
  pub high : r.key.high < 2 ^ 16
  pub block : r.block < 2 ^ 64
  pub rest : r.rest < 2 ^ 48

abbrev pub EveryRecord : Type 0
EveryRecord = (r : Record) → (length (encode r) ≡ record_length) × (RecordFits r → decode (encode r) ≡ r)

-- the record of a load, unused fields zero
abbrev pub load_record : (number lane position : ℕ) → Key → (block : ℕ) → Record
load_record n i p key x = record { kind = kind_byte load; lane = i; count = p; gap = 0; number = n; mask = 0; key = key; block = x; rest = 0 }

-- of a move or a clear
abbrev pub move_record : (kind number mask count : ℕ) → Record
move_record k n m c = record { kind = k; lane = 0; count = c; gap = 0; number = n; mask = m; key = key_of 0; block = 0; rest = 0 }
