-- THEOREMS: which calls are accepted, and what each of them gives.
-- Assumes nothing.
use mathlib.Core.Path.{◌≡◌, refl, sym, ap, ap₂, ◌∙◌}
use mathlib.Core.Bool.{false}
use mathlib.Core.List.{List, [], ◌∷◌, ◌++◌}
use Prim.Native.Nat.{ℕ, zero, suc, ◌+◌, ◌*◌, ◌/◌, ◌^◌, ◌<◌, ◌≤◌}
use native.Mathlib.Nat.{le_of_lt, mul-div_cancel}
use native.Mathlib.Omega.{arith}
use borrow.Author.Tests.{ltb-false, le-ltb, lt-leb, eq-eqb}
use lib.ListN.{length, take, drop, length-drop, take-append-drop}
use lib.Seq.{length-take-le}
use Rattle.katan.specs.Bit.{number_in}
use Rattle.katan.specs.Checks.{Outcome, value, size_check, variant_check, key_check, block_check}
use Rattle.katan.specs.Machine.{encryption}
use Rattle.katan.specs.Variant.{width_of}
use Rattle.katan.proofs.Checked.{NoFault, all_passed, no_fault_found}
use Rattle.katan.proofs.Variants.{variant_sound}
use Rattle.katan_cipher.specs.Answers.{encrypt_answer}
use Rattle.lanes.proofs.Faults.{none_of}
use Rattle.lanes_keystream.specs.Stream.{block_bytes, block_count, longest_message, streamed, end_check, stream_checks, stream_of}
use Rattle.lanes_keystream.specs.Claim.{answer_bytes, combined, one_singly, one_at_a_time, Accepted, SoundAccepted, EachBlockSingly, SecondPassRestores, StartsAlike}
use Rattle.lanes_keystream.proofs.Faults.{answered, finishes}
use Rattle.lanes_keystream.proofs.Counter.{some_bytes, starts_within, fewer_blocks, covered, streamed_length, streamed_twice, streamed_take, streamed_first, streamed_rest}

-- ---- calls in which no check finds a fault

module _ (v : ℕ) (key : List ℕ) (start : ℕ) (message out : List ℕ) where
  abbrev Done : Type 0
  Done = Accepted v key start message out × (stream_of v key start message out ≡ streamed v (number_in key) start message)

  done : NoFault (stream_checks v key start message out) → Done
  done z =
      let p = answered v key start message out z in
      (sym p.0, sym p.1)

module _ (v : ℕ) (key : List ℕ) (start : ℕ) (message out : List ℕ) (a : Accepted v key start message out) where
  -- in the order of the checks: 1, 2 of the key, 2 of the output, 14, 7
  passed : NoFault (stream_checks v key start message out)
  passed = (all_passed tt (stream_checks v key start message out) (value tt) a).0

  output : stream_of v key start message out ≡ streamed v (number_in key) start message
  output = (done v key start message out passed).1

  -- what check 14 says
  before_end : (start + block_count v (length message) ≤ 2 ^ width_of v) × (length message ≤ longest_message)
  before_end =
      let z = none_of _ _ passed.1.1.1.0 in
      (ltb-false _ _ z.0, ltb-false _ _ (none_of _ _ z.1).0)

  -- a message that is no longer is accepted too
  no_longer : (less lent : List ℕ) → length less ≤ length message → length lent ≡ length less → Done v key start less lent
  no_longer less lent h e =
      let b = fewer_blocks v (length less) (length message) h in
      let sizes : (size_check (length less) lent).fault ≡ false = rw (eq-eqb (length lent) (length less) e) in
      let few : start + block_count v (length less) ≤ 2 ^ width_of v = omega (arith, before_end) in
      let short : length less ≤ longest_message = omega (arith, before_end) in
      let end : (end_check v start less).fault ≡ false = rw (le-ltb _ _ few, le-ltb _ _ short) in
      done v key start less lent (passed.0, (passed.1.0, (sizes, (end, passed.1.1.1.1))))

-- ---- one block at a time

module _ (v : ℕ) (key : List ℕ) (known : (variant_check v).fault ≡ false) (whole : (key_check key).fault ≡ false) where
  answer : (x : ℕ) → x < 2 ^ width_of v → encrypt_answer v key x ≡ value (encryption v (number_in key) x)
  answer x h =
      no_fault_found (variant_check v ∷ key_check key ∷ block_check v x ∷ []) (value (encryption v (number_in key) x)) (known, (whole, (lt-leb _ _ h, tt)))

  first_singly : (x : ℕ) (message : List ℕ) → x < 2 ^ width_of v → take (block_bytes v) (streamed v (number_in key) x message) ≡ one_singly v key x message
  first_singly x message h =
      streamed_first v (number_in key) x message ∙ ap (λ (o : Outcome ℕ). combined message (answer_bytes v o)) (sym (answer x h))

  singly : (count x : ℕ) (message : List ℕ) → x + count ≤ 2 ^ width_of v → length message ≤ count * block_bytes v → streamed v (number_in key) x message ≡ one_at_a_time v key x count message
  unfolding streamed one_at_a_time
  singly zero x [] p q = refl
  singly zero x (y ∷ ys) p q = absurd (omega arith)
  singly (suc count) x message p q =
      sym (take-append-drop (block_bytes v) (streamed v (number_in key) x message))
      ∙ ap₂ ◌++◌
      (first_singly x message (omega arith))
      (streamed_rest v (number_in key) x message ∙ singly count (suc x) (drop (block_bytes v) message) (omega arith) (omega (arith, length-drop (block_bytes v) message)))

-- where each byte's block is below 2^n, the blocks end there
blocks_below : (v start m : ℕ) → start ≤ 2 ^ width_of v → ((j : ℕ) → j < m → start + j / block_bytes v < 2 ^ width_of v) → start + block_count v m ≤ 2 ^ width_of v
blocks_below v start m s b = go (block_count v m) refl
  where
    go : (count : ℕ) → block_count v m ≡ count → start + count ≤ 2 ^ width_of v
    go zero e = omega (arith, s)
    go (suc last) e =
        let h = b (last * block_bytes v) (starts_within v m last (omega (arith, e))) in
        omega (arith, h, mul-div_cancel last (some_bytes v))

-- ---- the theorems

-- THEOREM: a sound call is accepted
pub sound_accepted : SoundAccepted
sound_accepted v key start message out low high k o l s b =
    let within = le-ltb (2 ^ width_of v) (start + block_count v (length message)) (blocks_below v start (length message) (le_of_lt s) b) in
    sym (finishes v key start message out (variant_sound v low high) k o l within (lt-leb (2 ^ width_of v) start s) _ refl).0

-- THEOREM: the output is what one-at-a-time encryption makes
pub each_block_singly : EachBlockSingly
each_block_singly v key start message out a =
    let z = passed v key start message out a in
    output v key start message out a
    ∙ singly v key z.0 z.1.0 (block_count v (length message)) start message (before_end v key start message out a).0 (covered v (length message))

-- THEOREM: a second pass restores the message
pub second_pass_restores : SecondPassRestores
second_pass_restores v key start message out again a e =
    let l = streamed_length v (number_in key) start message in
    let d = no_longer v key start message out a (streamed v (number_in key) start message) again (omega arith) (e ∙ sym l) in
    rw (output v key start message out a) (d.0, d.1 ∙ streamed_twice v (number_in key) start message)

-- THEOREM: the output of the first m bytes is how that of the whole message starts
pub starts_alike : StartsAlike
starts_alike v key start message out m less a h e =
    let l = length-take-le m message h in
    let d = no_longer v key start message out a (take m message) less (omega arith) (e ∙ sym l) in
    (d.0, d.1 ∙ sym (streamed_take v (number_in key) start message m h) ∙ ap (take m) (sym (output v key start message out a)))
