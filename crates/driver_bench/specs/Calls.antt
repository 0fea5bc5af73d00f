-- What the calls of a driver that open a bench, and that send it a record or try one, answer, and what they leave in the memory lent to them. The
-- checks go by rising number, those of a record as an arrival makes them; a bench of another length is refused by 2 before anything is looked for in it.
-- Assumes nothing.
use Rattle.std.specs.Prelude.{ℕ, List, [], ◌∷◌, ◌++◌, ◌&&◌, eqb, length}
use Rattle.katan.specs.Bit.{pick}
use Rattle.katan.specs.Checks.{Outcome, value, refused, Check, checked, size_check, variant_check}
use Rattle.katan.specs.Lent.{lent_after}
use Rattle.bench.specs.declared.Reply.{Reply}
use Rattle.bench.specs.declared.Reply.TheVariants.{Done, Again}
use Rattle.bench.specs.Calls.{done, again, at, Answer}
use Rattle.bench.specs.Bench.{fresh_bench, fresh_link, held_check, Effect, arrive_of}
use Rattle.driver_layout.specs.Layout.{bench_length, link_length, bench_in, link_in, bench_bytes, link_bytes}
use Rattle.driver_reads.specs.Calls.{response_words}

-- ---- opening a bench

module _ (v : ℕ) (bench link : List ℕ) where
  abbrev pub open_call : Outcome (Unit {0})
  open_call = checked (variant_check v ∷ size_check bench_length bench ∷ size_check link_length link ∷ []) (value tt)

  abbrev pub opened_bench : List ℕ
  opened_bench = lent_after (λ x. bench_bytes (fresh_bench v) bench) open_call bench

  abbrev pub opened_link : List ℕ
  opened_link = lent_after (λ x. link_bytes fresh_link) open_call link

-- ---- an arrival

-- the words lent for the answer to an arrival or a preview
abbrev pub arrival_words : ℕ
arrival_words = 3

-- a reply in these words
abbrev pub reply_words : Reply → List ℕ
reply_words (Done n t) = response_words (done n t)
reply_words (Again n t) = response_words (again n t)

-- only an arrival that is 'done' has counted, and alters bench and link
abbrev pub if_counted : Answer → List ℕ → List ℕ → List ℕ
if_counted (value (done n t)) new old = new
if_counted (value (again n t)) new old = old
if_counted (value (at r)) new old = old
if_counted (refused k) new old = old

module _ (bench link sent answer : List ℕ) where
  abbrev pub arrive_effect : Effect
  arrive_effect = arrive_of (bench_in bench) (link_in link) sent

  abbrev pub arrive_checks : List Check
  arrive_checks = size_check bench_length bench ∷ held_check (bench_in bench) ∷ size_check link_length link ∷ size_check arrival_words answer ∷ []

  unfoldable pub arrive_call : Answer
  arrive_call = checked arrive_checks arrive_effect.answer

  abbrev pub arrived_bench : List ℕ
  arrived_bench = if_counted arrive_call (bench_bytes arrive_effect.bench bench) bench

  abbrev pub arrived_link : List ℕ
  arrived_link = if_counted arrive_call (link_bytes arrive_effect.link) link

  abbrev pub arrived_answer : List ℕ
  arrived_answer = lent_after response_words arrive_call answer

-- ---- a preview

module _ (bench link sent answer room : List ℕ) where
  -- the checks of an arrival, and then 2 of the room
  unfoldable pub preview_call : Answer
  preview_call = checked (arrive_checks bench link sent answer ++ size_check bench_length room ∷ []) (arrive_effect bench link sent answer).answer

  abbrev pub previewed_answer : List ℕ
  previewed_answer = lent_after response_words preview_call answer

  -- The room becomes what an arrival would leave in a copy of the bench's memory, whatever the status. Where bench or room has another length there is no
  -- bench to show or no room for it, and the room stays.
  abbrev pub previewed_room : List ℕ
  previewed_room = pick (eqb (length bench) bench_length && eqb (length room) bench_length) (arrived_bench bench link sent answer) room
