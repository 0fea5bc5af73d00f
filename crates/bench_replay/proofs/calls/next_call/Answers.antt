use mathlib.Core.Path.{◌≡◌, sym, ap, ap₂, ◌∙◌}
use mathlib.Core.List.{List}
use Prim.Native.Nat.{ℕ, ◌<◌, ◌≤◌}
use native.Mathlib.Omega.{arith}
use lib.ListN.{length, get_or, drop}
use lib.Seq.{drop-drop}
use borrow.Author.Rules.{rules}
use Rattle.bench.specs.Calls.{arrival, reading}
use Rattle.bench_replay.specs.Encoding.{head_length, call_number, call_size}
use Rattle.bench_replay.proofs.Parsing.{size_arrival, size_other, head_within, too_short, other_kind, whole_arrival, whole_read}
use Rattle.bench_replay.proofs.Running.{first_arrival, first_reading}
use Rattle.bench_replay.proofs.calls.next_call.Goals as goal

pub returns-in_err-rest : goal.returns-in_err-rest
returns-in_err-rest c =
    let s = c.args.bytes.now in
    let h : length s < call_size s = omega (arith, head_within s, c.in_err-rest.ensures.cases) in
    rw c.from_residual.ensures (too_short s h)

pub returns-in_err-sent-in-1 : goal.returns-in_err-sent-in-1
returns-in_err-sent-in-1 c =
    let s = c.args.bytes.now in
    let n = c.number_of-number.ensures in
    let h : length s < call_size s = omega (arith, size_arrival s c.in-1.is, n, c.in_ok-rest.ensures.cases.4, c.in_err-sent-in-1.ensures.cases) in
    rw c.from_residual-in_err-sent-in-1.ensures (too_short s h)

pub returns-in_ok-sent-in-1 : goal.returns-in_ok-sent-in-1
returns-in_ok-sent-in-1 c =
    let s = c.args.bytes.now in
    let n = c.number_of-number.ensures in
    let rest = c.in_ok-rest.ensures.cases in
    let split = c.in_ok-sent-in-1.ensures.cases in
    let size = size_arrival s c.in-1.is in
    let within : call_size s ≤ length s = omega (arith, size, n, rest.4, split.0) in
    record {
      whole = whole_arrival s c.in-1.is within;
      call = ap arrival (cc) ∙ sym (first_arrival s c.in-1.is);
      after = split.2 ∙ ap₂ (λ (m : ℕ) (r : List ℕ). drop m r) n rest.2 ∙ drop-drop (call_number s) head_length s ∙ ap (λ (m : ℕ). drop m s) (sym size);
    }

pub returns-in-2 : goal.returns-in-2
returns-in-2 c =
    let s = c.args.bytes.now in
    let rest = c.in_ok-rest.ensures.cases in
    let other : get_or s 0 0 ≡ 1 → ⊥ = λ d. omega (arith, d, c.in-2.is) in
    let size = size_other s other in
    let within : call_size s ≤ length s = omega (arith, size, rest.4) in
    record {
      whole = whole_read s c.in-2.is within;
      call = ap reading c.number_of-number.ensures ∙ sym (first_reading s other);
      after = rest.2 ∙ ap (λ (m : ℕ). drop m s) (sym size);
    }

pub returns-in_default : goal.returns-in_default
returns-in_default c = search (rules, other_kind)
