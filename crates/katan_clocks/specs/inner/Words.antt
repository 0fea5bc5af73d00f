-- The law's formulas, several clocks as one over words, and what private functions say: the words of several rounds. No promise of a
-- public function cites it.
-- Assumes nothing.
use Rattle.std.specs.Prelude.{ℕ, zero, suc, ◌+◌, ◌-◌, ◌*◌, ◌/◌, ◌%◌, ◌^◌}
use Rattle.katan.specs.Bit.{xor, and}
use Rattle.katan.specs.Clock.{fa, fb, fa_rest, fb_rest, clock, unclock}
use Rattle.katan.specs.declared.Row.{Row}
use Rattle.katan.specs.declared.Registers.{Registers}
use Rattle.katan.specs.declared.RoundInput.{RoundInput}

-- what c clocks find at place i of a register, the first clock's highest
abbrev pub tap : (c l i : ℕ) → ℕ
tap c l i = l / 2 ^ (i + 1 - c)

-- a register of w bits shifts left by c, and the lowest c bits of b enter it
abbrev pub enter : (w c l b : ℕ) → ℕ
enter w c l b = (l * 2 ^ c + b % 2 ^ c) % 2 ^ w

-- c clocks: both formulas take the old registers
unfoldable pub at_once : Row → ℕ → RoundInput → Registers → Registers
at_once v c w s =
    record {
      l1 = enter v.len1 c s.l1 (fb xor and v (tap c s.l2) w.kb);
      l2 = enter v.len2 c s.l2 (fa xor and v (tap c s.l1) w.ir w.ka);
    }

-- the way back: a register of w bits shifts right by c, and the lowest c bits of t stand at its highest places
abbrev pub restore : (w c l t : ℕ) → ℕ
restore w c l t = t % 2 ^ c * 2 ^ (w - c) + l / 2 ^ c

-- c clocks undone: the clocks found at place i what stands above it now
unfoldable pub undone_at_once : Row → ℕ → RoundInput → Registers → Registers
undone_at_once v c w s =
    record {
      l1 = restore v.len1 c s.l1 (xor s.l2 (fa_rest xor and v (λ i. s.l1 / 2 ^ (i + 1)) w.ir w.ka));
      l2 = restore v.len2 c s.l2 (xor s.l1 (fb_rest xor and v (λ i. s.l2 / 2 ^ (i + 1)) w.kb));
    }

-- the words without their lowest c places
abbrev pub without : ℕ → RoundInput → RoundInput
without c w = record { ir = w.ir / 2 ^ c; ka = w.ka / 2 ^ c; kb = w.kb / 2 ^ c }

-- one round's input, in each of its c clocks
abbrev pub in_each : ℕ → RoundInput → RoundInput
in_each c u = record { ir = u.ir % 2 * (2 ^ c - 1); ka = u.ka % 2 * (2 ^ c - 1); kb = u.kb % 2 * (2 ^ c - 1) }

-- n numbers of c bits one beside the other, the first highest
abbrev pub beside : ℕ → (ℕ → ℕ) → ℕ → ℕ
beside c f zero = 0
beside c f (suc n) = beside c f n * 2 ^ c + f n

-- the words of n rounds of c clocks: each bit of a round stands in each of its clocks
abbrev pub words_of : ℕ → (ℕ → RoundInput) → ℕ → RoundInput
words_of c u n =
    record {
      ir = beside c (λ j. (u j).ir) n * (2 ^ c - 1);
      ka = beside c (λ j. (u j).ka) n * (2 ^ c - 1);
      kb = beside c (λ j. (u j).kb) n * (2 ^ c - 1);
    }

-- c clocks with the inputs u(0) .. u(c - 1), and the same undone
abbrev pub in_turn : Row → (ℕ → RoundInput) → ℕ → Registers → Registers
in_turn v u zero s = s
in_turn v u (suc c) s = clock v (u c) (in_turn v u c s)

abbrev pub undone_in_turn : Row → (ℕ → RoundInput) → ℕ → Registers → Registers
undone_in_turn v u zero s = s
undone_in_turn v u (suc c) s = undone_in_turn v u c (unclock v (u c) s)
