-- The bench and the link as a driver holds them: their layout in bytes. Numbers are low byte first. A byte past the end counts as 0.
-- Assumes nothing.
use Rattle.std.specs.Prelude.{ℕ, zero, suc, ◌+◌, ◌*◌, List, [], ◌∷◌, ◌++◌, Option, Some, None, eqb, length, get_or, set, take, drop, replicate}
use Rattle.katan.specs.Bit.{pick, bytes_of}
use Rattle.katan.specs.Key.{key_number, key_of}
use Rattle.katan.specs.Sizes.{lane_count, word_bytes, key_bytes}
use Rattle.bench_record.specs.Fields.{record_length, part}
use Rattle.bench_record.specs.Codec.{record_in}
use Rattle.bench.specs.declared.Loaded.{Loaded}
use Rattle.bench.specs.declared.Bench.{Bench}
use Rattle.bench.specs.declared.Link.{Link}

-- the bytes of a link's number and total
abbrev pub number_bytes : ℕ
number_bytes = 4

-- a lane: byte 0 its state, byte 1 its position, bytes 2 to 11 its key, bytes 12 to 19 its registers
abbrev pub state_place : ℕ
state_place = 0

abbrev pub position_place : ℕ
position_place = 1

abbrev pub key_start : ℕ
key_start = 2

abbrev pub registers_start : ℕ
registers_start = key_start + key_bytes

abbrev pub lane_length : ℕ
lane_length = registers_start + word_bytes

-- a bench: byte 0 its variant, then its lanes
abbrev pub variant_place : ℕ
variant_place = 0

abbrev pub lanes_start : ℕ
lanes_start = 1

abbrev pub bench_length : ℕ
bench_length = lanes_start + lane_length * lane_count

-- a link: bytes 0 to 3 last, bytes 4 to 7 the total, then the record
abbrev pub last_start : ℕ
last_start = 0

abbrev pub total_start : ℕ
total_start = last_start + number_bytes

abbrev pub record_start : ℕ
record_start = total_start + number_bytes

abbrev pub link_length : ℕ
link_length = record_start + record_length

-- a lane's state
abbrev pub empty_state : ℕ
empty_state = 0

abbrev pub loaded_state : ℕ
loaded_state = 1

-- the position of a lane whose state is neither: over 254, so that check 1 finds a fault
abbrev pub damaged_position : ℕ
damaged_position = 255

-- ---- what the bytes say

abbrev pub position_in : List ℕ → ℕ
position_in s = pick (eqb (get_or s state_place 0) loaded_state) (get_or s position_place 0) damaged_position

unfoldable pub loaded_in : List ℕ → Loaded
loaded_in s = record { key = key_of (part s key_start key_bytes); position = record { 0 = position_in s }; registers = part s registers_start word_bytes }

unfoldable pub lane_in : List ℕ → Option Loaded
lane_in s = pick (eqb (get_or s state_place 0) empty_state) None (Some (loaded_in s))

-- the first n lanes
unfoldable pub slots_in : ℕ → List ℕ → List (Option Loaded)
slots_in zero s = []
slots_in (suc n) s = lane_in (take lane_length s) ∷ slots_in n (drop lane_length s)

unfoldable pub bench_in : List ℕ → Bench
bench_in s = record { variant = get_or s variant_place 0; slots = slots_in lane_count (drop lanes_start s) }

unfoldable pub link_in : List ℕ → Link
link_in s = record { last = part s last_start number_bytes; total = part s total_start number_bytes; bytes = record_in (take record_length (drop record_start s)) }

-- memory of another length than n is read as so many zeros
abbrev pub read_as : ℕ → List ℕ → List ℕ
read_as n s = pick (eqb (length s) n) s (replicate n 0)

-- ---- the bytes that say it

unfoldable pub loaded_bytes : Loaded → List ℕ
loaded_bytes h = loaded_state ∷ h.position.0 ∷ bytes_of key_bytes (key_number h.key) ++ bytes_of word_bytes h.registers

-- over the bytes that were there: an empty lane's are kept, but for its state
unfoldable pub lane_bytes : Option Loaded → List ℕ → List ℕ
lane_bytes None old = set old state_place empty_state
lane_bytes (Some h) old = loaded_bytes h

unfoldable pub slot_bytes : List (Option Loaded) → List ℕ → List ℕ
slot_bytes [] old = []
slot_bytes (l ∷ ls) old = lane_bytes l (take lane_length old) ++ slot_bytes ls (drop lane_length old)

unfoldable pub bench_bytes : Bench → List ℕ → List ℕ
bench_bytes b old = b.variant ∷ slot_bytes b.slots (drop lanes_start old)

unfoldable pub link_bytes : Link → List ℕ
link_bytes l = bytes_of number_bytes l.last ++ bytes_of number_bytes l.total ++ l.bytes
