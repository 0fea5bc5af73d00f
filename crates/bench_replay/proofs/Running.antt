-- One turn of the loop that runs a list of calls.
-- Assumes nothing.
use Rattle.std.specs.Prelude.{Result}
use mathlib.Core.Path.{◌≡◌, refl, sym, ap, ap₂, ◌∙◌}
use mathlib.Core.List.{List, [], ◌∷◌, ◌++◌, map, append-nil, append_assoc}
use Prim.Native.Nat.{ℕ, ◌+◌, ◌<◌, ◌≤◌}
use native.Mathlib.Omega.{arith}
use lib.ListN.{length, get_or, take, drop}
use lib.Seq.{take_all}
use borrow.Author.Tests.{eq-eqb, ne_eqb}
use Rattle.bench.specs.declared.Bench.{Bench}
use Rattle.bench.specs.declared.Link.{Link}
use Rattle.bench.specs.declared.ArrivalResult.{ArrivalResult}
use Rattle.bench.specs.declared.Reading.{Reading}
use Rattle.katan.specs.declared.Refusal.{Refusal}
use Rattle.bench.specs.Calls.{Call, arrival, reading, Answer, state_after, answers_to}
use Rattle.bench.specs.Bench.{reply_answer, reading_answer, effect_of, arrive_of, read_of, bench_transition}
use Rattle.bench_replay.specs.Encoding.{head_length, call_number, call_size, first_call, starts_after, calls_in, answer_length, answer_bytes, answers_bytes}
use Rattle.bench_replay.specs.inner.Steps.{state_of, overwritten}
use Rattle.bench_replay.proofs.Parsing.{starts_on}
use Rattle.bench_replay.proofs.Writing.{take_over}

pub calls_on : (s : List ℕ) → 0 < length s → calls_in s ≡ first_call s ∷ calls_in (drop (call_size s) s)
unfolding calls_in
calls_on s h = ap (map first_call) (starts_on s h)

pub no_calls : (s : List ℕ) → length s ≤ 0 → calls_in s ≡ []
unfolding calls_in starts_after
no_calls [] h = refl
no_calls (x ∷ s) h = absurd (omega arith)

module _ {S : Type 0} (t : S → Call → S × Answer) (x : S) (s : List ℕ) where
  pub state_on : 0 < length s → state_after t (t x (first_call s)).0 (calls_in (drop (call_size s) s)) ≡ state_after t x (calls_in s)
  unfolding state_after
  state_on h = sym (ap (state_after t x) (calls_on s h))

  pub output_on : 0 < length s → answer_bytes (t x (first_call s)).1 ++ answers_bytes (answers_to t (t x (first_call s)).0 (calls_in (drop (call_size s) s))) ≡ answers_bytes (answers_to t x (calls_in s))
  unfolding answers_to answers_bytes
  output_on h = sym (ap (λ (cs : List Call). answers_bytes (answers_to t x cs)) (calls_on s h))

  pub state_end : length s ≤ 0 → state_after t x (calls_in s) ≡ x
  unfolding state_after
  state_end h = ap (state_after t x) (no_calls s h)

  pub output_end : length s ≤ 0 → answers_bytes (answers_to t x (calls_in s)) ≡ []
  unfolding answers_to answers_bytes
  output_end h = ap (λ (cs : List Call). answers_bytes (answers_to t x cs)) (no_calls s h)

-- ---- the first call

module _ (s : List ℕ) where
  pub first_arrival : get_or s 0 0 ≡ 1 → first_call s ≡ arrival (take (call_number s) (drop head_length s))
  unfolding first_call
  first_arrival e = rw (eq-eqb (get_or s 0 0) 1 e)

  pub first_reading : (get_or s 0 0 ≡ 1 → ⊥) → first_call s ≡ reading (call_number s)
  unfolding first_call
  first_reading n = rw (ne_eqb (get_or s 0 0) 1 n)

module _ (b : Bench) (l : Link) where
  pub arrival_step : (sent : List ℕ) (a : ArrivalResult) {c : Call} → c ≡ arrival sent → effect_of a ≡ arrive_of b l sent
      → (state_of a.bench a.link ≡ (bench_transition (state_of b l) c).0) × (reply_answer a.reply ≡ (bench_transition (state_of b l) c).1)
  unfolding bench_transition
  arrival_step sent a f e = rw (f, ← e) (refl, refl)

  pub reading_step : (i : ℕ) (r : Result Reading Refusal) {c : Call} → c ≡ reading i → reading_answer r ≡ read_of b i
      → (state_of b l ≡ (bench_transition (state_of b l) c).0) × (reading_answer r ≡ (bench_transition (state_of b l) c).1)
  unfolding bench_transition
  reading_step i r f e = rw f (refl, e)

-- ---- one turn: the first call is run, and its answer written

module _ {S : Type 0} (t : S → Call → S × Answer) (x next : S) (s rest : List ℕ) (h : 0 < length s) (r : rest ≡ drop (call_size s) s) (n : next ≡ (t x (first_call s)).0) where
  pub state_turn : state_after t next (calls_in rest) ≡ state_after t x (calls_in s)
  state_turn = ap₂ (λ (y : S) (u : List ℕ). state_after t y (calls_in u)) n r ∙ state_on t x s h

  pub output_turn : (out written bytes : List ℕ) (to : ℕ) → bytes ≡ answer_bytes (t x (first_call s)).1 → length bytes ≡ answer_length → to ≤ length out → written ≡ overwritten out to bytes
      → take (to + answer_length) written ++ answers_bytes (answers_to t next (calls_in rest)) ≡ take to out ++ answers_bytes (answers_to t x (calls_in s))
  output_turn out written bytes to b l le w =
      let e : to + length bytes ≡ to + answer_length = ap (λ (m : ℕ). to + m) l in
      let after : S → List ℕ → List ℕ = λ (y : S) (u : List ℕ). answers_bytes (answers_to t y (calls_in u)) in
      ap₂ ◌++◌ (ap (take (to + answer_length)) w ∙ take_over out to bytes (to + answer_length) e le ∙ ap (λ (a : List ℕ). take to out ++ a) b) (ap₂ after n r)
      ∙ append_assoc (take to out) (answer_bytes (t x (first_call s)).1) (after (t x (first_call s)).0 (drop (call_size s) s))
      ∙ ap (λ (a : List ℕ). take to out ++ a) (output_on t x s h)

-- after the last call
pub output_last : {S : Type 0} (t : S → Call → S × Answer) (x : S) (s out : List ℕ) (to : ℕ) {whole : List ℕ} → length s ≤ 0 → length out ≤ to
    → take to out ++ answers_bytes (answers_to t x (calls_in s)) ≡ whole → out ≡ whole
output_last t x s out to h le e =
    sym (append-nil out) ∙ ap₂ ◌++◌ (sym (take_all to out le)) (sym (output_end t x s h)) ∙ e
