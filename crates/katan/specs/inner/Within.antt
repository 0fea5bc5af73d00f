-- What the proofs ask of rows, inputs, registers and tables. No promise of a public function cites it.
-- Assumes nothing.
use Rattle.std.specs.Prelude.{ℕ, ◌+◌, ◌^◌, ◌<◌, ◌≤◌, ◌≡◌, List, get_or}
use Rattle.katan.specs.declared.Row.{Row}
use Rattle.katan.specs.declared.Registers.{Registers}
use Rattle.katan.specs.declared.RoundInput.{RoundInput}

-- what holds of every row of the table
pub record Sound (v : Row) : Type 0 where
  pub top1 : v.x1 + 1 ≡ v.len1
  pub top2 : v.y1 + 1 ≡ v.len2
  pub both : v.len1 + v.len2 ≡ v.n
  pub len1_fits : v.len1 < 64
  pub len2_fits : v.len2 < 64
  pub n_fits : v.n ≤ 64
  pub few : v.clocks ≤ 3
  pub some : 1 ≤ v.clocks
  pub x2_in : v.x2 < v.x1
  pub x3_in : v.x3 < v.x1
  pub x4_in : v.x4 < v.x1
  pub x5_in : v.x5 < v.x1
  pub y2_in : v.y2 < v.y1
  pub y3_in : v.y3 < v.y1
  pub y4_in : v.y4 < v.y1
  pub y5_in : v.y5 < v.y1
  pub y6_in : v.y6 < v.y1
  -- x5 and y6 are the lowest taps, at the same place
  pub x2_low : v.x5 ≤ v.x2
  pub x3_low : v.x5 ≤ v.x3
  pub x4_low : v.x5 ≤ v.x4
  pub y2_low : v.y6 ≤ v.y2
  pub y3_low : v.y6 ≤ v.y3
  pub y4_low : v.y6 ≤ v.y4
  pub y5_low : v.y6 ≤ v.y5
  pub lows : v.y6 ≡ v.x5
  -- x3 and y3 are the next after the highest, a round's clocks or more below it
  pub x2_next : v.x2 ≤ v.x3
  pub x4_next : v.x4 ≤ v.x3
  pub y2_next : v.y2 ≤ v.y3
  pub y4_next : v.y4 ≤ v.y3
  pub y5_next : v.y5 ≤ v.y3
  pub gap1 : v.clocks + v.x3 ≤ v.x1
  pub gap2 : v.clocks + v.y3 ≤ v.y1

pub record Bits (u : RoundInput) : Type 0 where
  pub ir_bit : u.ir < 2
  pub ka_bit : u.ka < 2
  pub kb_bit : u.kb < 2

pub record RegistersFit (v : Row) (s : Registers) : Type 0 where
  pub l1_fits : s.l1 < 2 ^ v.len1
  pub l2_fits : s.l2 < 2 ^ v.len2

-- the first n entries of a list go by a rule
abbrev pub Entries : (ℕ → ℕ) → ℕ → List ℕ → Type 0
Entries f n xs = (i : ℕ) → i < n → get_or xs i 0 ≡ f i
