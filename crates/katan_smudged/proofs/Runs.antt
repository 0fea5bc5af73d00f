-- A round on the row of a variant, and runs of rounds: what the words hold.
-- Assumes nothing.
use mathlib.Core.Path.{◌≡◌, sym, subst}
use mathlib.Core.List.{List}
use Prim.Native.Nat.{ℕ, suc, ◌<◌}
use lib.ListN.{length}
use Rattle.katan.specs.Counter.{rounds}
use Rattle.katan.specs.Key.{key_length}
use Rattle.katan.specs.Variant.{row_of}
use Rattle.katan.specs.declared.Row.{Row}
use Rattle.katan.proofs.Undo.{sound}
use Rattle.katan_sheet.specs.Three.{Three}
use Rattle.katan_sheet.specs.Cells.{Cells}
use Rattle.katan_smudged.specs.inner.Words.{clocks_words, Tables, input_words, source_bits, Follows, Holds, HoldsCells, source_at, run_three}
use Rattle.katan_smudged.specs.declared.words.KnownInput.{KnownInput}
use Rattle.katan_smudged.specs.declared.words.KnownRegisters.{KnownRegisters}
use Rattle.katan_smudged.specs.declared.rounds.Running.{Running}
use Rattle.katan_smudged.proofs.Places.{clocks_hold}
use Rattle.katan_smudged.proofs.Sources.{ir_reads, ka_reads, kb_reads}

-- what a round leaves
abbrev pub After : Row → (v : ℕ) → KnownInput → Running → Running → Type 0
After row v u h t = (t.registers ≡ clocks_words row u row.clocks h.registers) × Follows v h.source t.source

-- what h holds, p rounds on from registers that hold c
pub record Reached (v : ℕ) (key : List Three) (p : ℕ) (c : Cells Three) (h : Running) : Type 0 where
  pub registers_hold : HoldsCells (row_of v) h.registers (run_three v key p c)
  pub source_holds : Holds key_length (source_bits h.source) (source_at v key p)

module _ (v : ℕ) (counters numbers : List ℕ) (ts : Tables counters numbers) (key : List Three) (l : length key ≡ key_length) where
  -- LAW: a round on
  pub round_on : (p : ℕ) → p < rounds → (c : Cells Three) (h t : Running) → Reached v key p c h → After (row_of v) v (input_words v counters numbers p h.source) h t → Reached v key (suc p) c t
  round_on p q c h t r e =
      let w = h.source in
      let s = r.source_holds in
      record {
        registers_hold =
            subst (λ (x : KnownRegisters). HoldsCells (row_of v) x (run_three v key (suc p) c)) (sym e.0)
            (clocks_hold (row_of v) (sound v) (input_words v counters numbers p w) _ _ _
            (ir_reads v counters numbers ts key l p q w s)
            (ka_reads v counters numbers ts key l p q w s)
            (kb_reads v counters numbers ts key l p q w s)
            (row_of v).clocks h.registers (run_three v key p c) r.registers_hold);
        source_holds = e.1 key p l s;
      }
