-- What the private functions say of runs. No promise of a public function cites it.
-- Assumes nothing.
use Rattle.std.specs.Prelude.{◌≡◌, ℕ, ◌+◌}
use Rattle.katan.specs.Clock.{run, unrun, input_of}
use Rattle.katan.specs.Variant.{row_of}
use Rattle.katan_keys.specs.Window.{window_number, source_at}
use Rattle.katan_registers.specs.declared.rounds.Running.{Running}

-- where h has the source of p, t is h moved on by rounds p to p + m - 1, the source with the registers
abbrev pub Moves : (v key p m : ℕ) → Running → Running → Type 0
Moves v key p m h t =
    window_number h.source ≡ source_at v key p
    → (t.registers ≡ run (row_of v) (input_of v key) p m h.registers) × (window_number t.source ≡ source_at v key (p + m))

-- where h has the source of p + m, t is h moved back by the same rounds
abbrev pub MovesBack : (v key p m : ℕ) → Running → Running → Type 0
MovesBack v key p m h t =
    window_number h.source ≡ source_at v key (p + m)
    → (t.registers ≡ unrun (row_of v) (input_of v key) p m h.registers) × (window_number t.source ≡ source_at v key p)
