-- The checks of a call, and what they say of its answer and its output.
-- Assumes nothing.
use mathlib.Core.Path.{◌≡◌, sym, ap}
use mathlib.Core.Bool.{false}
use mathlib.Core.List.{List}
use Prim.Native.Nat.{ℕ, ◌+◌, ◌^◌, ◌≤◌}
use borrow.Author.Tests.{eq-eqb, le-ltb}
use lib.Dec.{ltb}
use lib.ListN.{length}
use Rattle.katan.specs.Bit.{number_in}
use Rattle.katan.specs.Sizes.{key_bytes}
use Rattle.katan.specs.Variant.{width_of}
use Rattle.katan.specs.Checks.{Outcome, value, size_check, variant_check, key_check, block_check}
use Rattle.katan.specs.Lent.{lent_after}
use Rattle.katan.proofs.Checked.{NoFault, no_fault_found}
use Rattle.lanes_keystream.specs.Stream.{block_count, longest_message, streamed, end_check, stream_checks, stream_answer, stream_of}

module _ (v : ℕ) (key : List ℕ) (start : ℕ) (message out : List ℕ) where
  -- what a call promises: its answer, and its output afterwards
  abbrev pub Promised : Outcome (Unit {0}) → List ℕ → Type 0
  Promised o new = (o ≡ stream_answer v key start message out) × (new ≡ stream_of v key start message out)

  pub answered : NoFault (stream_checks v key start message out) → Promised (value tt) (streamed v (number_in key) start message)
  answered z =
      let cs = stream_checks v key start message out in
      let ys = streamed v (number_in key) start message in
      (sym (no_fault_found cs (value tt) z), sym (ap (λ (o : Outcome (List ℕ)). lent_after (λ (xs : List ℕ). xs) o out) (no_fault_found cs (value ys) z)))

  -- a call with no fault
  pub finishes : (variant_check v).fault ≡ false → length key ≡ key_bytes → length out ≡ length message → length message ≤ longest_message
      → ltb (2 ^ width_of v) (start + block_count v (length message)) ≡ false → (block_check v start).fault ≡ false
      → (new : List ℕ) → new ≡ streamed v (number_in key) start message → Promised (value tt) new
  finishes known whole same short within f new e =
      let key_passes : (key_check key).fault ≡ false = rw (eq-eqb (length key) key_bytes whole) in
      let size_passes : (size_check (length message) out).fault ≡ false = rw (eq-eqb (length out) (length message) same) in
      let end_passes : (end_check v start message).fault ≡ false = rw (within, le-ltb longest_message (length message) short) in
      rw e (answered (known, (key_passes, (size_passes, (end_passes, (f, tt))))))
