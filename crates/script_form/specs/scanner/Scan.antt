-- What reading a form finds, byte by byte, from an offset of a line on. A reader need not believe this file: Reads in script_command/specs says what the
-- answer to every line must be, and script_command's proofs/Exact proves it, by the laws in proofs/Scans: a form is found exactly where the line is the form
-- filled with the values found.
-- Assumes nothing.
use Rattle.std.specs.Prelude.{ℕ, zero, suc, ◌+◌, ◌*◌, ◌-◌, List, [], ◌∷◌, Option, Some, None, Result, Ok, Err, ltb, leb, eqb, length, drop, get_or, set, replicate}
use Rattle.std.specs.Option.{option_map, ok_or}
use Rattle.katan.specs.Bit.{pick}
use Rattle.script_form.specs.Form.{Piece, letter, number, digits, piece_of}
use Rattle.script_form.specs.declared.digits.Run.{Run}
use Rattle.script_form.specs.declared.pieces.Step.{Step}
use Rattle.script_form.specs.declared.pieces.Step.TheVariants.{Letter, Field, Words}
use Rattle.script_form.specs.declared.Values.{Values}
use Rattle.script_form.specs.declared.Fields.{Fields}

-- the value of a digit, 16 for any other byte
unfoldable pub value_of : ℕ → ℕ
value_of x = pick (ltb x 48) 16 (pick (leb x 57) (x - 48) (pick (ltb x 97) 16 (pick (leb x 102) (x - 87) 16)))

-- at most k digits in base b from the front of s, after n digits of value v
unfoldable pub run_in : ℕ → ℕ → ℕ → ℕ → List ℕ → Run
run_in b zero v n s = record { value = v; count = n }
run_in b (suc k) v n [] = record { value = v; count = n }
run_in b (suc k) v n (x ∷ s) = pick (ltb (value_of x) b) (run_in b k (v * b + value_of x) (n + 1) s) (record { value = v; count = n })

-- the digit that a byte is in base b, if it is one
abbrev pub digit_in : ℕ → ℕ → Option ℕ
digit_in b x = pick (ltb (value_of x) b) (Some (value_of x)) None

-- a decimal up to max whose first byte is x: no leading zero
abbrev pub decimal_of : ℕ → ℕ → Run → Option Step
decimal_of max x r =
    pick (eqb r.count 0) None
    (pick (ltb max r.value) None
    (pick (eqb r.count 1) (Some (Field r.value r.count))
    (pick (eqb x 48) None (Some (Field r.value r.count)))))

unfoldable pub decimal_in : ℕ → List ℕ → Option Step
decimal_in max [] = None
decimal_in max (x ∷ s) = decimal_of max x (run_in 10 10 0 0 (x ∷ s))

-- a run of k digits
abbrev pub exactly : ℕ → Run → Option ℕ
exactly k r = pick (eqb r.count k) (Some r.value) None

-- k digits in one word
abbrev pub word_of : ℕ → Run → Option Step
word_of k r = pick (eqb r.count k) (Some (Field r.value r.count)) None

-- k digits and 16 more, in two words
abbrev pub words_of : ℕ → Run → Run → Option Step
words_of k high low = pick (eqb high.count k) (pick (eqb low.count 16) (Some (Words high.value low.value (k + 16))) None) None

-- k hexadecimal digits
unfoldable pub digits_in : ℕ → List ℕ → Option Step
digits_in k s = pick (leb k 16) (word_of k (run_in 16 k 0 0 s)) (words_of (k - 16) (run_in 16 (k - 16) 0 0 s) (run_in 16 16 0 0 (drop (k - 16) s)))

-- the byte p
unfoldable pub letter_in : ℕ → List ℕ → Option Step
letter_in p [] = None
letter_in p (x ∷ s) = pick (eqb x p) (Some Letter) None

abbrev pub piece_in : Piece → ℕ → List ℕ → Option Step
piece_in letter p s = letter_in p s
piece_in (number max) p s = decimal_in max s
piece_in (digits count) p s = digits_in count s

-- how many words the values of a form have at most
abbrev pub word_room : ℕ
word_room = 8

-- one word more
unfoldable pub push : Values → ℕ → Values
push x v = pick (ltb x.count word_room) (record { words = set x.words x.count v; count = x.count + 1 }) x

-- the word at a place
abbrev pub word_at : Values → ℕ → ℕ
word_at x i = get_or x.words i 0

abbrev pub begin : ℕ → Fields
begin offset = record { values = record { words = replicate word_room 0; count = 0 }; offset = offset }

abbrev pub after : Fields → Step → Fields
after f Letter = record { values = f.values; offset = f.offset + 1 }
after f (Field v n) = record { values = push f.values v; offset = f.offset + n }
after f (Words high low n) = record { values = push (push f.values high) low; offset = f.offset + n }

-- one byte of a form further, where a block has d digits; where it is not met, what had been found
unfoldable pub advance : ℕ → List ℕ → ℕ → Fields → Result Fields Fields
advance d line p f = ok_or (option_map (after f) (piece_in (piece_of d p) p (drop f.offset line))) f

-- on from what has been found, unless a byte was not met
abbrev pub and_then : (Fields → Result Fields Fields) → Result Fields Fields → Result Fields Fields
and_then next (Ok f) = next f
and_then next (Err f) = Err f

-- a form; at the first byte of it that is not met, what had been found before that
unfoldable pub scan : ℕ → List ℕ → Fields → List ℕ → Result Fields Fields
scan d line f [] = Ok f
scan d line f (p ∷ ps) = and_then (λ (g : Fields). scan d line g ps) (advance d line p f)

-- a form that ends where the line does
abbrev pub ended : List ℕ → Fields → Result Fields Fields
ended line f = pick (leb (length line) f.offset) (Ok f) (Err f)

unfoldable pub whole : ℕ → List ℕ → ℕ → List ℕ → Result Fields Fields
whole d line offset form = and_then (ended line) (scan d line (begin offset) form)
