-- Turns: what checks 9 and 10 answer, what all checks decide part by part, and what is known of a record that counts or is a repeat.
-- Assumes nothing.
use mathlib.Core.Path.{◌≡◌, refl, sym, ap, ◌∙◌}
use mathlib.Core.Bool.{Bool, true, false, not, ◌&&◌}
use mathlib.Core.Logic.{inl, inr}
use mathlib.Core.List.{List, [], ◌∷◌, ◌++◌}
use Prim.Native.Nat.{ℕ, ◌+◌, ◌^◌, ◌<◌}
use native.Mathlib.Omega.{arith}
use lib.Dec.{eqb}
use lib.ListN.{length}
use borrow.Author.Tests.{leb-false, eqb-true, eqb-false, eq-eqb, ne_eqb, not-false}
use Rattle.katan.specs.Bit.{pick}
use Rattle.katan.specs.Variant.{width_of}
use Rattle.katan.specs.Checks.{Outcome, value, refused, Check, checked, size_check}
use Rattle.katan.specs.Sizes.{lane_count}
use Rattle.bench_record.specs.Fields.{same_bytes, record_length, decode, kind}
use Rattle.bench_record.specs.Checks.{nonzero, wrong_count, field_checks}
use Rattle.bench_record.proofs.Same.{same_equal, same_self}
use Rattle.bench_record.proofs.Parts.{number_below}
use Rattle.bench.specs.Checks.{LaneView, View, bench_check, turn_check, repeat_check, turn_checks, arrival_checks, Turn, counts, repeats, turn_of, decision}
use Rattle.bench.specs.Claim.{OnlyRepeats}
use Rattle.bench.specs.TurnFirst.{OutOfTurn, OtherBytes, InTurn}
use Rattle.katan.proofs.Checked.{NoFault, no_fault_found, all_passed, checked_append}

-- a record that is not the latest one is not taken for it
pub not_latest : (latest s : List ℕ) → (s ≡ latest → ⊥) → same_bytes latest s ≡ false
not_latest latest s differs = go (same_bytes latest s) refl
  where
    go : (b : Bool) → same_bytes latest s ≡ b → b ≡ false
    go true e = absurd (differs (sym (same_equal latest s e)))
    go false e = refl

-- ---- checks 9 and 10 find no fault in the next record, and in a repeat

module _ (last : ℕ) (latest s : List ℕ) where
  pub next_passes : (decode s).number ≡ last + 1 → NoFault (turn_checks last latest s)
  next_passes e =
      let turn : (turn_check last s).fault ≡ false = rw (eq-eqb (decode s).number (last + 1) e) in
      let repeat : (repeat_check last latest s).fault ≡ false = rw (ne_eqb (decode s).number last (λ f. omega arith)) in
      search

  pub turn_of_next : (decode s).number ≡ last + 1 → turn_of last s ≡ counts
  turn_of_next e = rw (eq-eqb (decode s).number (last + 1) e)

  module _ (later : (decode s).number ≡ last + 1 → ⊥) where
    pub repeat_passes : (last ≡ 0 → ⊥) → (decode s).number ≡ last → same_bytes latest s ≡ true → NoFault (turn_checks last latest s)
    repeat_passes some e f =
        let is_last = eq-eqb (decode s).number last e in
        let turn : (turn_check last s).fault ≡ false = rw (ne_eqb (decode s).number (last + 1) later, ne_eqb last 0 some, is_last) in
        let repeat : (repeat_check last latest s).fault ≡ false = rw (is_last, f) in
        search

    pub turn_of_other : turn_of last s ≡ repeats
    turn_of_other = rw (ne_eqb (decode s).number (last + 1) later)

-- ---- what they answer, whatever comes after them

neither_number : {A : Type 0} (b : Bool) (x : Outcome A) → pick (not (b && false)) (refused 9) x ≡ refused 9
neither_number true x = refl
neither_number false x = refl

module _ {A : Type 0} (last : ℕ) (latest s : List ℕ) (x : Outcome A) where
  abbrev after_turn : Outcome A
  after_turn = checked (turn_checks last latest s) x

  module _ (later : (decode s).number ≡ last + 1 → ⊥) where
    pub none_last : last ≡ 0 → after_turn ≡ refused 9
    none_last e = rw (ne_eqb (decode s).number (last + 1) later, eq-eqb last 0 e)

    pub other_number : ((decode s).number ≡ last → ⊥) → after_turn ≡ refused 9
    other_number h = rw (ne_eqb (decode s).number (last + 1) later, ne_eqb (decode s).number last h) (neither_number (nonzero last) _)

    pub other_bytes : (last ≡ 0 → ⊥) → (decode s).number ≡ last → same_bytes latest s ≡ false → after_turn ≡ refused 10
    other_bytes some e f = rw (ne_eqb (decode s).number (last + 1) later, eq-eqb (decode s).number last e, ne_eqb last 0 some, f)

-- and whose turn it is, where they find no fault
module _ (last : ℕ) (latest s : List ℕ) where
  abbrev pub turn_outcome : Outcome Turn
  turn_outcome = checked (turn_checks last latest s) (value (turn_of last s))

  pub turn_counts : (decode s).number ≡ last + 1 → turn_outcome ≡ value counts
  turn_counts e = no_fault_found (turn_checks last latest s) (value (turn_of last s)) (next_passes last latest s e) ∙ ap value (turn_of_next last latest s e)

  pub turn_repeats : ((decode s).number ≡ last + 1 → ⊥) → (last ≡ 0 → ⊥) → (decode s).number ≡ last → same_bytes latest s ≡ true → turn_outcome ≡ value repeats
  turn_repeats later some e f =
      no_fault_found (turn_checks last latest s) (value (turn_of last s)) (repeat_passes last latest s later some e f)
      ∙ ap value (turn_of_other last latest s later)

-- ---- a record in its turn, out of turn, or with other bytes than the latest

module _ (w : View) (s : List ℕ) where
  abbrev pub turns_of : List Check
  turns_of = turn_checks w.last w.latest s

  pub data Standing : Type 0 where
    stands : InTurn w s → Standing
    out : OutOfTurn w s → Standing
    other : OtherBytes w s → Standing

  pub standing : Standing
  standing = go (eqb (decode s).number (w.last + 1)) (eqb w.last 0) (eqb (decode s).number w.last) (same_bytes w.latest s) refl refl refl refl
    where
      go : (a b c d : Bool) → eqb (decode s).number (w.last + 1) ≡ a → eqb w.last 0 ≡ b → eqb (decode s).number w.last ≡ c → same_bytes w.latest s ≡ d → Standing
      go true b c d next fresh last bytes = stands (inl (eqb-true (decode s).number (w.last + 1) next))
      go false true c d next fresh last bytes =
          let zero = eqb-true w.last 0 fresh in
          out (eqb-false (decode s).number (w.last + 1) next, λ some e. omega arith)
      go false false false d next fresh last bytes =
          out (eqb-false (decode s).number (w.last + 1) next, λ some. eqb-false (decode s).number w.last last)
      go false false true true next fresh last bytes =
          let h = eqb-false w.last 0 fresh in
          stands (inr (omega arith, eqb-true (decode s).number w.last last, sym (same_equal w.latest s bytes)))
      go false false true false next fresh last bytes =
          let h = eqb-false w.last 0 fresh in
          other (omega arith, eqb-true (decode s).number w.last last, λ e. cc (same_self s))

  pub passes : InTurn w s → NoFault turns_of
  passes (inl next) = next_passes w.last w.latest s next
  passes (inr r) =
      let some = r.0 in
      let last = r.1 in
      repeat_passes w.last w.latest s (λ e. omega arith) (λ e. omega arith) last (ap (λ (l : List ℕ). same_bytes l s) (sym r.2) ∙ same_self s)

  module _ {A : Type 0} (x : Outcome A) where
    pub find_none : InTurn w s → checked turns_of x ≡ x
    find_none i = no_fault_found turns_of x (passes i)

    pub find_9 : OutOfTurn w s → checked turns_of x ≡ refused 9
    find_9 o = go (eqb w.last 0) refl
      where
        go : (b : Bool) → eqb w.last 0 ≡ b → checked turns_of x ≡ refused 9
        go true e = none_last w.last w.latest s x o.0 (eqb-true w.last 0 e)
        go false e = let h = eqb-false w.last 0 e in other_number w.last w.latest s x o.0 (o.1 (omega arith))

    pub find_10 : OtherBytes w s → checked turns_of x ≡ refused 10
    find_10 o =
        let some = o.0 in
        let last = o.1 in
        other_bytes w.last w.latest s x (λ e. omega arith) (λ e. omega arith) last (not_latest w.latest s o.2)

  -- checks 9 and 10 find no fault only in a record in its turn
  in-turn : NoFault turns_of → InTurn w s
  in-turn z = go standing
    where
      not_found : (k : ℕ) → checked turns_of (value (tt {0})) ≡ refused k → ⊥
      not_found k e = cc (no_fault_found turns_of (value (tt {0})) z)

      go : Standing → InTurn w s
      go (stands i) = i
      go (out o) = absurd (not_found 9 (find_9 (value (tt {0})) o))
      go (other o) = absurd (not_found 10 (find_10 (value (tt {0})) o))

-- ---- the checks in parts: 1 and 2, 9 and 10, 3 to 8

module _ (w : View) (s : List ℕ) where
  -- 1 of the bench, and 2 of the record
  abbrev pub memory_checks : List Check
  memory_checks = bench_check w.variant w.lanes ∷ size_check record_length s ∷ []

  pub decision_parts : decision w s
      ≡ checked memory_checks (checked (turns_of w s) (checked (field_checks w.variant (decode s)) (value (turn_of w.last s))))
  unfolding decision arrival_checks
  decision_parts = checked_append (memory_checks ++ turns_of w s) (field_checks w.variant (decode s)) (value (turn_of w.last s))

  pub decided_1 : (bench_check w.variant w.lanes).fault ≡ true → decision w s ≡ refused 1
  decided_1 e = decision_parts ∙ rw e

-- ---- a record that meets none of 1 to 10

pub record Accepted (w : View) (s : List ℕ) : Type 0 where
  pub sound : NoFault (size_check record_length s ∷ field_checks w.variant (decode s))
  pub size : length s ≡ record_length
  pub lane_in : (decode s).lane < lane_count
  pub count_in : wrong_count (kind (decode s)) (decode s).count ≡ false
  pub block_in : (decode s).block < 2 ^ width_of w.variant
  pub turn : InTurn w s

module _ (w : View) (s : List ℕ) where
  -- wherever a check stands in the list
  pub accepted : NoFault (arrival_checks w s) → Accepted w s
  unfolding arrival_checks
  accepted z =
      record {
        sound = search;
        size = eqb-true (length s) record_length (not-false (eqb (length s) record_length) search);
        lane_in = leb-false lane_count (decode s).lane search;
        count_in = search;
        block_in = leb-false (2 ^ width_of w.variant) (decode s).block search;
        turn = in-turn w s search;
      }

  -- it counts if numbered last + 1
  pub counts_next : decision w s ≡ value counts → Accepted w s × ((decode s).number ≡ w.last + 1)
  unfolding decision
  counts_next e =
      let a = all_passed counts (arrival_checks w s) (value (turn_of w.last s)) e in
      (accepted a.0, go (eqb (decode s).number (w.last + 1)) refl a.1)
    where
      go : (b : Bool) → eqb (decode s).number (w.last + 1) ≡ b → value (pick b counts repeats) ≡ value counts → (decode s).number ≡ w.last + 1
      go true p q = eqb-true (decode s).number (w.last + 1) p
      go false p q = cc

  -- and is otherwise a repeat, of the latest and of a nonzero number
  pub record IsRepeat : Type 0 where
    pub is_last : (decode s).number ≡ w.last
    pub some : 0 < w.last
    pub is_latest : s ≡ w.latest

  pub repeats_last : decision w s ≡ value repeats → IsRepeat
  unfolding decision
  repeats_last e =
      let a = all_passed repeats (arrival_checks w s) (value (turn_of w.last s)) e in
      go (eqb (decode s).number (w.last + 1)) refl a.1 (accepted a.0).turn
    where
      go : (b : Bool) → eqb (decode s).number (w.last + 1) ≡ b → value (pick b counts repeats) ≡ value repeats → InTurn w s → IsRepeat
      go true p q t = cc
      go false p q (inl t) = absurd (eqb-false (decode s).number (w.last + 1) p t)
      go false p q (inr t) = record { is_last = t.1; some = t.0; is_latest = t.2 }

-- while none has counted, what stands for the latest is not looked at
module _ (v : ℕ) (lanes : List LaneView) (xs ys s : List ℕ) where
  abbrev first_decision : List ℕ → Outcome Turn
  first_decision latest = decision (record { variant = v; lanes = lanes; last = 0; latest = latest }) s

  pub no_latest : first_decision xs ≡ first_decision ys
  unfolding decision arrival_checks
  no_latest = go (eqb (decode s).number 0) refl
    where
      go : (b : Bool) → eqb (decode s).number 0 ≡ b → first_decision xs ≡ first_decision ys
      go true e = let n : (decode s).number ≡ 0 = eqb-true (decode s).number 0 e in rw n
      go false e = rw e

-- THEOREM: at last = 4,294,967,295 only a repeat is in turn
pub only_repeats : OnlyRepeats
only_repeats w s bytes last counts e = absurd (omega (arith, (counts_next w s e).1, number_below s bytes))
only_repeats w s bytes last repeats e = (refl, (repeats_last w s e).is_latest)
