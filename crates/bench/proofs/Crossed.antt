-- Where the order matters, computed: two records with a common lane, and the later of two records sent again.
-- Assumes nothing.
use mathlib.Core.Path.{◌≡◌, refl, sym, ap, ◌∙◌}
use mathlib.Core.Bool.{true≢false}
use mathlib.Core.List.Memᴰ
use mathlib.Core.List.{[], ◌∷◌}
use Prim.Native.Nat.{ℕ, ◌^◌}
use native.Mathlib.Omega.{arith}
use lib.ListN.{get_or}
use Rattle.katan.specs.Bit.{bytes_of}
use Rattle.katan.specs.Clock.{input_of}
use Rattle.katan.specs.Machine.{registers_at}
use Rattle.katan.specs.Checks.{value, refused}
use Rattle.bench_record.specs.Fields.{same_bytes, kind_of, names_as}
use Rattle.bench_record.specs.Codec.{encode}
use Rattle.bench_record.specs.Checks.{unknown, unused, wrong_count, none_named}
use Rattle.bench.specs.declared.Bench.{Bench}
use Rattle.bench.specs.Machine.{loaded, step_as, moved_as, step_all, total_of}
use Rattle.bench.specs.Calls.{again, state_after, answers_to}
use Rattle.bench.specs.Checks.{LaneView, empty_lane, loaded_lane, lane_fault, any_lane_fault, arrival_checks, decision}
use Rattle.bench.specs.Model.{fresh_model, machine_view, model_view, after_counted, arrival_as, model_transition}
use Rattle.std.specs.Prelude.{None}
use Rattle.bench.specs.Bench.{lane_view}
use Rattle.bench.specs.Claim.{bench_after, model_after, model_answers, machine_after}
use Rattle.bench.specs.Exchange.{numbered, Apart, NotSent, last_after, in_turn, NeitherSent, SameTotals, five_loaded, five_forward, five_back, CommonLane, six_load, six_again, LaterRecord}
use Rattle.bench.proofs.Lists.{same_more, every_list}
use Rattle.bench.proofs.Written.{forward_sound, back_sound}

record Computed : Type 0 where
  one_counted : last_after 4 five_loaded ≡ 1
  -- to 5, and then to the start; to the start, and then to 3
  forward_first : machine_after 4 (in_turn 4 five_loaded five_forward five_back) 5 ≡ loaded 0 0 2 0
  back_first : machine_after 4 (in_turn 4 five_loaded five_back five_forward) 5 ≡ loaded 0 0 2 3
  -- the totals 3 and 0 of two records that are apart
  apart_totals : SameTotals 4 five_loaded (model_answers 4) five_forward six_load
  own_order : answers_to (model_transition 4) (model_after 4 (in_turn 4 five_loaded five_forward six_load)) six_again ≡ value (again 3 0) ∷ []
  other_order : answers_to (model_transition 4) (model_after 4 (in_turn 4 five_loaded six_load five_forward)) six_again ≡ refused 10 ∷ []
  left_out : NeitherSent 4 five_loaded five_forward six_load six_again → ⊥

computed : Computed
unfolding input_of registers_at kind_of names_as bytes_of encode numbered unknown unused wrong_count none_named step_as moved_as step_all total_of state_after answers_to lane_fault any_lane_fault same_bytes arrival_checks decision fresh_model machine_view model_view after_counted arrival_as model_transition
computed =
    record {
      one_counted = refl;
      forward_first = refl;
      back_first = refl;
      apart_totals = record { first_order = refl; second_order = refl };
      own_order = refl;
      other_order = refl;
      left_out = λ none. let not-sent : NotSent (numbered 3 six_load) six_again = none.1 in not-sent (Memᴰ.head refl);
    }

-- both name lane 5
not_apart : Apart five_forward five_back → ⊥
unfolding kind_of names_as bytes_of encode
not_apart h = true≢false (h 5 (omega arith))

abbrev position_of : LaneView → ℕ
position_of empty_lane = 0
position_of (loaded_lane r) = r.position.0

lanes_differ : (bench_after 4 (in_turn 4 five_loaded five_forward five_back)).bench ≡ (bench_after 4 (in_turn 4 five_loaded five_back five_forward)).bench → ⊥
unfolding machine_view
lanes_differ e =
    let one = (every_list 4 (omega arith) (omega arith) (in_turn 4 five_loaded five_forward five_back)).same_lanes 5 (omega arith) ∙ ap (machine_view 4) computed.forward_first in
    let two = (every_list 4 (omega arith) (omega arith) (in_turn 4 five_loaded five_back five_forward)).same_lanes 5 (omega arith) ∙ ap (machine_view 4) computed.back_first in
    let z : ◌≡◌ {A = ℕ} 0 3 = ap position_of (sym one ∙ ap (λ (b : Bench). lane_view (get_or b.slots 5 None)) e ∙ two) in
    absurd (omega arith)

-- THEOREM: two records with a common lane that do not commute
pub common_lane : CommonLane
common_lane =
    record {
      ready =
          record {
            sound_s = forward_sound 0 (omega arith) 4 (2 ^ 5) (omega arith) (omega arith) 3 (omega arith) (omega arith);
            sound_t = back_sound 0 (omega arith) 4 (2 ^ 5) (omega arith) (omega arith) 5 (omega arith) (omega arith);
            two_left = omega (arith, computed.one_counted);
          };
      not_apart = not_apart;
      differ = lanes_differ;
    }

-- THEOREM: the later of two records that are apart, sent again, tells the orders apart
pub later_record : LaterRecord
later_record =
    record {
      own_order = same_more 4 (in_turn 4 five_loaded five_forward six_load) six_again ∙ computed.own_order;
      other_order = same_more 4 (in_turn 4 five_loaded six_load five_forward) six_again ∙ computed.other_order;
      left_out = computed.left_out;
    }
