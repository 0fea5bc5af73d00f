-- A list of calls that is written down is read back as it was.
-- Assumes nothing.
use mathlib.Core.Path.{◌≡◌, refl, sym, ap, ap₂, ◌∙◌}
use mathlib.Core.Bool.{true}
use mathlib.Core.List.{List, [], ◌∷◌, ◌++◌}
use Prim.Native.Nat.{ℕ, ◌-◌, ◌*◌, ◌^◌, ◌<◌, ◌≤◌}
use native.Mathlib.Omega.{arith}
use lib.ListN.{length, get_or, take, drop, length-append}
use lib.Seq.{take-append_seam, drop-append_seam}
use Rattle.katan.specs.Bit.{number_in}
use Rattle.bench.specs.Calls.{Call, arrival, reading}
use Rattle.katan.specs.Bit.{bytes_of}
use Rattle.katan.proofs.Numbers.{number-bytes}
use Rattle.bench_replay.specs.Encoding.{call_number, call_size, is_call, first_call, calls_in, answer_length, fits}
use Rattle.bench_replay.specs.Written.{head_number, call_bytes, list_bytes, EveryListWritten}
use Rattle.bench_replay.proofs.Parsing.{size_arrival, size_other, whole_arrival, whole_read, fits_on, fits_end}
use Rattle.bench_replay.proofs.Running.{calls_on, no_calls, first_arrival, first_reading}

-- 4 bytes hold a number below 2^32
four_bytes : (n : ℕ) → n < 2 ^ 32 → number_in (bytes_of 4 n) ≡ n
four_bytes n h = number-bytes 4 n h

-- a call that comes first
record First (c : Call) (s : List ℕ) : Type 0 where
  nonempty : 0 < length s
  size : call_size s ≡ length (call_bytes c)
  whole : is_call s ≡ true
  call : first_call s ≡ c

first : (c : Call) (rest : List ℕ) → head_number c < 2 ^ 32 → First c (call_bytes c ++ rest)
unfolding bytes_of
first (arrival r) rest h =
    let s = call_bytes (arrival r) ++ rest in
    let n : call_number s ≡ length r = four_bytes (length r) h in
    let z : call_size s ≡ length (call_bytes (arrival r)) = omega (arith, size_arrival s refl, n) in
    record {
      nonempty = omega arith;
      size = z;
      whole = whole_arrival s refl (rw (z, length-append (call_bytes (arrival r)) rest) (omega arith));
      call = first_arrival s refl ∙ ap (λ (m : ℕ). arrival (take m (r ++ rest))) n ∙ ap arrival (take-append_seam r rest);
    }
first (reading i) rest h =
    let s = call_bytes (reading i) ++ rest in
    let no : get_or s 0 0 ≡ 1 → ⊥ = λ d. omega (arith, d) in
    let z : call_size s ≡ 5 = size_other s no in
    record { nonempty = omega arith; size = z; whole = whole_read s refl (rw z (omega arith)); call = first_reading s no ∙ ap reading (four_bytes i h) }

rest_of : (c : Call) (rest : List ℕ) → First c (call_bytes c ++ rest) → drop (call_size (call_bytes c ++ rest)) (call_bytes c ++ rest) ≡ rest
rest_of c rest f = rw f.size (drop-append_seam (call_bytes c) rest)

-- THEOREM: every list of calls whose numbers fit can be written down, and is read back as it was
pub every_list_written : EveryListWritten
unfolding list_bytes
every_list_written [] h = (no_calls [] (omega arith), fits_end [] 0 (omega arith))
every_list_written (c ∷ calls) h =
    let rest = list_bytes calls in
    let s = call_bytes c ++ rest in
    let f = first c rest h.0 in
    let r = rest_of c rest f in
    let e = every_list_written calls h.1 in
    let room = answer_length * length (c ∷ calls) in
    let le : answer_length ≤ room = omega arith in
    let left : room - answer_length ≡ answer_length * length calls = omega arith in (
      calls_on s f.nonempty ∙ ap₂ ◌∷◌ f.call (ap calls_in r ∙ e.0),
      sym (fits_on s room f.nonempty f.whole le) ∙ ap₂ fits r left ∙ e.1,
    )
