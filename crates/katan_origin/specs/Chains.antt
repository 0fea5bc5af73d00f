-- Where a register bit came from (document 02, (vii)): the two chains, followed back to the block.
-- Assumes nothing.
use Rattle.std.specs.Prelude.{ℕ, zero, suc, ◌+◌, ◌-◌, ◌/◌, Bool, true, false, ltb}
use Rattle.katan.specs.Bit.{bit, xor, and}
use Rattle.katan.specs.Clock.{fa, fb, registers, input_of}
use Rattle.katan.specs.Variant.{row_of}
use Rattle.katan.specs.declared.RoundInput.{RoundInput}
use Rattle.katan_origin.specs.declared.chains.Traced.{Traced}

-- ---- a bit with the count of block bits looked up for it: one more kind of bits for the formulas of fa and fb

-- the counts of both are added, whatever the bits are: x5 is followed also where IR is 0
abbrev pub xor_traced : Traced → Traced → Traced
xor_traced a b = record { bit = xor a.bit b.bit; count = a.count + b.count }

abbrev pub and_traced : Traced → Traced → Traced
and_traced a b = record { bit = and a.bit b.bit; count = a.count + b.count }

-- IR and key bits: no block bit
abbrev pub given : ℕ → Traced
given b = record { bit = b; count = 0 }

-- bit i of the block's register l, looked up: one
abbrev pub block_bit : (l i : ℕ) → Traced
block_bit l i = record { bit = bit l i; count = 1 }

-- ---- the bit at place i of a register at clock t, with l the register of the block

-- true, where i < t: the bit that entered at clock t - 1 - i; false: bit i - t of l
abbrev pub came_from : Bool → (entered : ℕ → Traced) → (l t i : ℕ) → Traced
came_from true entered l t i = entered (t - 1 - i)
came_from false entered l t i = block_bit l (i - t)

abbrev pub place_at : (entered : ℕ → Traced) → (l t i : ℕ) → Traced
place_at entered l t i = came_from (ltb i t) entered l t i

-- ---- fa and fb of clock t

-- IR, ka and kb of the round that clock t is in
abbrev pub clock_input : (v key t : ℕ) → RoundInput
clock_input v key t = input_of v key (t / (row_of v).clocks)

-- x is the block, at position 0
module _ (v key x : ℕ) where
  -- fa of clock t by the bits that entered L1 before it, and fb by those that entered L2
  abbrev pub fa_from : (into1 : ℕ → Traced) → (t : ℕ) → Traced
  fa_from into1 t =
      let u = clock_input v key t in
      fa xor_traced and_traced (row_of v) (place_at into1 (registers (row_of v) x).l1 t) (given u.ir) (given u.ka)

  abbrev pub fb_from : (into2 : ℕ → Traced) → (t : ℕ) → Traced
  fb_from into2 t =
      let u = clock_input v key t in
      fb xor_traced and_traced (row_of v) (place_at into2 (registers (row_of v) x).l2 t) (given u.kb)

  -- what enters L1 is fb, and what enters L2 is fa. n bounds how often this is followed: any n over t gives the same
  unfoldable mutual
    pub fa_within : (n t : ℕ) → Traced
    fa_within zero t = given 0
    fa_within (suc n) t = fa_from (λ s. fb_within n s) t

    pub fb_within : (n t : ℕ) → Traced
    fb_within zero t = given 0
    fb_within (suc n) t = fb_from (λ s. fa_within n s) t

  abbrev pub fa_at : (t : ℕ) → Traced
  fa_at t = fa_within (suc t) t

  abbrev pub fb_at : (t : ℕ) → Traced
  fb_at t = fb_within (suc t) t
