-- Clock and round (document 01).
-- Assumes nothing.
use Rattle.std.specs.Prelude.{ℕ, zero, suc, ◌+◌, ◌*◌, ◌/◌, ◌%◌, ◌^◌, List}
use Rattle.katan.specs.Bit.{bit, xor, and}
use Rattle.katan.specs.Counter.{counter, ir_of}
use Rattle.katan.specs.Key.{round_keys, key_bits, ka_of, kb_of}
use Rattle.katan.specs.declared.Row.{Row}
use Rattle.katan.specs.declared.Registers.{Registers}
use Rattle.katan.specs.declared.RoundInput.{RoundInput}

-- the two formulas, over any bits with an xor and an and; l i is bit i of the register
module _ {B : Type 0} (◌⊕◌ ◌⊙◌ : B → B → B) (v : Row) where
  infixl 60 ◌⊕◌
  infixl 70 ◌⊙◌
  -- all of fa but L1[x1], the bit that leaves L1
  abbrev pub fa_rest : (ℕ → B) → B → B → B
  fa_rest l ir ka = l v.x2 ⊕ l v.x3 ⊙ l v.x4 ⊕ l v.x5 ⊙ ir ⊕ ka

  abbrev pub fa : (ℕ → B) → B → B → B
  fa l ir ka = l v.x1 ⊕ fa_rest l ir ka

  -- all of fb but L2[y1], the bit that leaves L2
  abbrev pub fb_rest : (ℕ → B) → B → B
  fb_rest l kb = l v.y2 ⊕ l v.y3 ⊙ l v.y4 ⊕ l v.y5 ⊙ l v.y6 ⊕ kb

  abbrev pub fb : (ℕ → B) → B → B
  fb l kb = l v.y1 ⊕ fb_rest l kb

-- a register of w bits shifts left, and b enters it
abbrev pub shift_in : ℕ → ℕ → ℕ → ℕ
shift_in w l b = (l * 2 + b) % 2 ^ w

-- both formulas take the old registers; fb enters L1, fa enters L2
abbrev pub clock : Row → RoundInput → Registers → Registers
clock v u s =
    record {
      l1 = shift_in v.len1 s.l1 (fb xor and v (bit s.l2) u.kb);
      l2 = shift_in v.len2 s.l2 (fa xor and v (bit s.l1) u.ir u.ka);
    }

-- the way back: the register shifts right, and the bit t that had left stands at its highest place m again
abbrev pub shift_out : ℕ → ℕ → ℕ → ℕ
shift_out m l t = t * 2 ^ m + l / 2

abbrev pub unclock : Row → RoundInput → Registers → Registers
unclock v u s =
    record {
      l1 = shift_out v.x1 s.l1 (xor (bit s.l2 0) (fa_rest xor and v (bit (s.l1 / 2)) u.ir u.ka));
      l2 = shift_out v.y1 s.l2 (xor (bit s.l1 0) (fb_rest xor and v (bit (s.l2 / 2)) u.kb));
    }

-- c clocks with one input
abbrev pub clocks : Row → RoundInput → ℕ → Registers → Registers
clocks v u zero s = s
clocks v u (suc c) s = clock v u (clocks v u c s)

abbrev pub unclocks : Row → RoundInput → ℕ → Registers → Registers
unclocks v u zero s = s
unclocks v u (suc c) s = unclocks v u c (unclock v u s)

-- all clocks of a round share IR, ka and kb
abbrev pub round : Row → RoundInput → Registers → Registers
round v u s = clocks v u v.clocks s

abbrev pub unround : Row → RoundInput → Registers → Registers
unround v u s = unclocks v u v.clocks s

-- the rounds p to p + c - 1, with u r the input of round r
abbrev pub run : Row → (ℕ → RoundInput) → ℕ → ℕ → Registers → Registers
run v u p zero s = s
run v u p (suc c) s = round v (u (p + c)) (run v u p c s)

-- the same rounds undone, the last first
abbrev pub unrun : Row → (ℕ → RoundInput) → ℕ → ℕ → Registers → Registers
unrun v u p zero s = s
unrun v u p (suc c) s = unrun v u p c (unround v (u (p + c)) s)

-- IR, ka and kb of round r, with t its T and ks its variant's round keys
abbrev pub input_at : ℕ → List ℕ → ℕ → ℕ → RoundInput
input_at v ks t r = record { ir = ir_of t; ka = ka_of 0 v ks t r; kb = kb_of 0 v ks t r }

unfoldable pub input_of : ℕ → ℕ → ℕ → RoundInput
input_of v key r = input_at v (round_keys xor 0 v (key_bits key)) (counter r) r

-- block bit 0 is L2 bit 0; L1 bit 0 follows L2's highest bit
abbrev pub block : Row → Registers → ℕ
block v s = s.l1 * 2 ^ v.len2 + s.l2

abbrev pub registers : Row → ℕ → Registers
registers v x = record { l1 = x / 2 ^ v.len2; l2 = x % 2 ^ v.len2 }
