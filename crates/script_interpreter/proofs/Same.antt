-- The bench of the code answers every line as document 01's machines do.
-- Assumes nothing.
use Prim.Native.Nat.{ℕ, ◌≤◌}
use mathlib.Core.Path.{◌≡◌, refl, sym, ap, ap₂, ◌∙◌}
use mathlib.Core.Bool.{Bool, true, false}
use Rattle.std.specs.Prelude.{Option, Some, None}
use mathlib.Core.List.{List, [], ◌∷◌, ◌++◌}
use native.Mathlib.Omega.{arith}
use Rattle.katan.specs.Bit.{pick}
use Rattle.katan.specs.Checks.{Outcome, value, refused, checked, variant_check}
use Rattle.katan.proofs.Variants.{is_variant}
use Rattle.bench.specs.Calls.{Call, arrival, reading, Answer, state_after, answers_to}
use Rattle.bench.specs.Checks.{Turn, counts, repeats, decision}
use Rattle.bench.specs.Model.{Model, fresh_model, model_transition}
use Rattle.bench.specs.Bench.{State, fresh_state, bench_transition, arrive_of, effect_as, counted_effect, bench_view}
use Rattle.bench.proofs.Calls.{state_more, answers_more}
use Rattle.bench.proofs.Lists.{every_list}
use Rattle.script_answers.specs.Printed.{answer_line}
use Rattle.script_command.specs.declared.Command.{Command}
use Rattle.script_command.specs.declared.Command.TheVariants.{Bench as BenchLine, Read, Load, Forward, Back, Clear}
use Rattle.script_command.specs.Answer.{command_answer}
use Rattle.script_command.specs.Reads.{Open, Stands}
use Rattle.script_interpreter.specs.Interpreter.{opens_as, calls, obeys, takes_as, on_line, script_output}
use Rattle.script_interpreter.specs.Session.{no_bench, open_bench, variant_in, variant_of, state_of, session_transition, session_line, Machines, none, running, fresh, machines_variant, machines_transition}
use Rattle.script_interpreter.specs.declared.OpenBench.{OpenBench}
use Rattle.script_interpreter.specs.declared.Session.{Session}
use Rattle.script_interpreter.proofs.Taken.{may_stand}

-- ---- the last of two lists of answers

same_last : (l : List Answer) (a b : Answer) → l ++ (a ∷ []) ≡ l ++ (b ∷ []) → a ≡ b
same_last [] a b e = cc
same_last (c ∷ l) a b e = same_last l a b (cc)

-- ---- a call leaves the variant

kept_variant : (x : State) (c : Call) → (bench_transition x c).0.bench.variant ≡ x.bench.variant
unfolding bench_transition arrive_of effect_as counted_effect
kept_variant x (arrival s) = go (decision (bench_view x.bench x.link) s)
  where
    go : (o : Outcome Turn) → (effect_as o x.bench x.link s).bench.variant ≡ x.bench.variant
    go (value counts) = refl
    go (value repeats) = refl
    go (refused k) = refl
kept_variant x (reading i) = refl

-- ---- an open bench and machines that have had the same calls

record Called (o : OpenBench) (v : ℕ) (m : Model) : Type 0 where
  variant : o.bench.variant ≡ v
  least : 1 ≤ v
  most : v ≤ 6
  had : List Call
  state : state_of o ≡ state_after bench_transition (fresh_state v) had
  model : m ≡ state_after (model_transition v) fresh_model had

abbrev Same : Option OpenBench → Machines → Type 0
Same None none = Unit {0}
Same None (running v m) = ⊥
Same (Some o) none = ⊥
Same (Some o) (running v m) = Called o v m

same_variant : (o : Option OpenBench) (y : Machines) → Same o y → variant_in o ≡ machines_variant y
same_variant None none s = refl
same_variant None (running v m) s = absurd s
same_variant (Some o) none s = absurd s
same_variant (Some o) (running v m) s = s.variant

record SameLine (a : Session × List ℕ) (b : Machines × List ℕ) : Type 0 where
  text : a.1 ≡ b.1
  next : Same a.0.bench b.0

module _ (o : OpenBench) (v : ℕ) (m : Model) (s : Called o v m) (c : Call) where
  same_answer : (bench_transition (state_of o) c).1 ≡ (model_transition v m c).1
  unfolding state_after answers_to
  same_answer =
      let cs = s.had in
      let a = answers_to bench_transition (fresh_state v) cs in
      let now = (every_list v s.least s.most cs).same_answers in
      let then = (every_list v s.least s.most (cs ++ (c ∷ []))).same_answers in
      rw (s.state, s.model)
      (same_last a (bench_transition (state_after bench_transition (fresh_state v) cs) c).1 (model_transition v (state_after (model_transition v) fresh_model cs) c).1
      (sym (answers_more bench_transition (fresh_state v) cs (c ∷ []))
      ∙ then
      ∙ answers_more (model_transition v) fresh_model cs (c ∷ [])
      ∙ ap (λ (l : List Answer). l ++ ((model_transition v (state_after (model_transition v) fresh_model cs) c).1 ∷ [])) (sym now)))

  abbrev after : OpenBench
  after = let t = (bench_transition (state_of o) c).0 in record { bench = t.bench; link = t.link }

  same_next : Called after v (model_transition v m c).0
  unfolding state_after
  same_next =
      record {
        variant = kept_variant (state_of o) c ∙ s.variant;
        least = s.least;
        most = s.most;
        had = s.had ++ (c ∷ []);
        state = ap (λ (t : State). (bench_transition t c).0) s.state ∙ sym (state_more bench_transition (fresh_state v) s.had (c ∷ []));
        model = ap (λ (t : Model). (model_transition v t c).0) s.model ∙ sym (state_more (model_transition v) fresh_model s.had (c ∷ []));
      }

  same_call : (lane : ℕ) → SameLine (calls variant_of open_bench session_transition (record { bench = Some o }) lane c) (calls machines_variant fresh machines_transition (running v m) lane c)
  same_call lane = record { text = ap₂ (λ (w : ℕ) (a : Answer). answer_line w lane a) s.variant same_answer; next = same_next }

-- ---- a line

abbrev machines_line : Machines → List ℕ → Machines × List ℕ
machines_line = on_line machines_variant fresh machines_transition

opens_variant : (v : ℕ) (u : Unit {0}) → checked (variant_check v ∷ []) (value tt) ≡ value u → (1 ≤ v) × (v ≤ 6)
opens_variant v u e = is_variant v (go (variant_check v).fault e)
  where
    go : (b : Bool) → pick b (refused 1) (value tt) ≡ value u → b ≡ false
    go true e = let z : ◌≡◌ {A = ℕ} 0 1 = cc in absurd (omega arith)
    go false e = refl

module _ (x : Session) (y : Machines) (s : Same x.bench y) where
  same_opening : (v : ℕ) (o : Outcome (Unit {0})) → checked (variant_check v ∷ []) (value tt) ≡ o
      → SameLine (opens_as variant_of open_bench session_transition x v o) (opens_as machines_variant fresh machines_transition y v o)
  unfolding fresh_state state_after
  same_opening v (value u) e =
      let w = opens_variant v u e in
      record { text = refl; next = record { variant = refl; least = w.0; most = w.1; had = []; state = refl; model = refl } }
  same_opening v (refused k) e = record { text = refl; next = s }

  same_called : (lane : ℕ) (c : Call) → Open (machines_variant y)
      → SameLine (calls variant_of open_bench session_transition x lane c) (calls machines_variant fresh machines_transition y lane c)
  same_called lane c o = go x.bench y s o
    where
      go : (q : Option OpenBench) (z : Machines) → Same q z → Open (machines_variant z)
          → SameLine (calls variant_of open_bench session_transition (record { bench = q }) lane c) (calls machines_variant fresh machines_transition z lane c)
      go None none t p = absurd (omega (arith, p.0))
      go None (running v m) t p = absurd t
      go (Some q) none t p = absurd t
      go (Some q) (running v m) t p = same_call q v m t c lane

  same_command : (c : Command) → Stands (machines_variant y) c → SameLine (obeys variant_of open_bench session_transition x c) (obeys machines_variant fresh machines_transition y c)
  unfolding obeys
  same_command (BenchLine v) o = same_opening v (checked (variant_check v ∷ []) (value tt)) refl
  same_command (Read lane) o = same_called lane (reading lane) o
  same_command (Load number lane position key block) o = same_called 0 _ o
  same_command (Forward number mask count) o = same_called 0 _ o
  same_command (Back number mask count) o = same_called 0 _ o
  same_command (Clear number mask) o = same_called 0 _ o

  same_answered : (line : List ℕ) (o : Outcome Command) → command_answer (machines_variant y) line ≡ o → SameLine (takes_as variant_of open_bench session_transition x o) (takes_as machines_variant fresh machines_transition y o)
  unfolding takes_as
  same_answered line (value c) e = same_command c (may_stand (machines_variant y) line c e)
  same_answered line (refused k) e = record { text = refl; next = s }

  same_line : (line : List ℕ) → SameLine (session_line x line) (machines_line y line)
  unfolding on_line
  same_line line = rw (same_variant x.bench y s) (same_answered line (command_answer (machines_variant y) line) refl)

-- ---- every line

same_lines : (lines : List (List ℕ)) (x : Session) (y : Machines) → Same x.bench y
    → script_output variant_of open_bench session_transition x lines ≡ script_output machines_variant fresh machines_transition y lines
unfolding script_output
same_lines [] x y s = refl
same_lines (line ∷ lines) x y s =
    let r = same_line x y s line in
    ap₂ ◌++◌ r.text (same_lines lines (session_line x line).0 (machines_line y line).0 r.next)

-- from no bench on
pub same_output : (lines : List (List ℕ)) → script_output variant_of open_bench session_transition no_bench lines ≡ script_output machines_variant fresh machines_transition none lines
same_output lines = same_lines lines no_bench none tt
