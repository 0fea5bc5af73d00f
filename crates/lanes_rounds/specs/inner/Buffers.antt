-- The registers of all lanes in two buffers, a for L1 and b for L2. Nothing is shifted: a buffer holds the words that entered its register, in
-- order, so bit i of the register stands i places before its newest word. At clock t the highest bit stands at t. No promise of a public function cites it.
-- Assumes nothing.
use Rattle.std.specs.Prelude.{ℕ, ◌+◌, ◌-◌, ◌*◌, ◌^◌, ◌<◌, ◌≤◌, ◌≡◌, List, get_or, length}
use Rattle.std.proofs.Common.{refl, arith}
use Rattle.katan.specs.Bit.{xor, and}
use Rattle.katan.specs.Counter.{counter, ir_of, rounds}
use Rattle.katan.specs.Clock.{fa, fb}
use Rattle.katan.specs.Sizes.{word_bits}
use Rattle.katan.specs.inner.Within.{Sound, Entries}
use Rattle.katan.specs.declared.Row.{Row}
use Rattle.katan.specs.declared.RoundInput.{RoundInput}

-- bit i of the register whose newest word stands at p
abbrev pub tapped : List ℕ → ℕ → ℕ → ℕ
tapped l p i = get_or l (p - i) 0

-- v is the row w of a width: what the code reads of it, and what holds of it
pub record Told (w v : Row) : Type 0 where
  pub same : v ≡ w
  pub sound : Sound v
  pub n_is : v.n ≡ w.n
  pub len1_is : v.len1 ≡ w.len1
  pub len2_is : v.len2 ≡ w.len2
  pub x1_is : v.x1 ≡ w.x1
  pub y1_is : v.y1 ≡ w.y1
  pub clocks_is : v.clocks ≡ w.clocks

-- the buffers have room for all clocks
pub record Room (v : Row) (a b : List ℕ) : Type 0 where
  pub room1 : v.clocks * rounds + v.len1 ≤ length a
  pub room2 : v.clocks * rounds + v.len2 ≤ length b

-- all lanes the same: the word whose bits are the bit b
abbrev pub spread : ℕ → ℕ
spread b = b * (2 ^ word_bits - 1)

-- what a round takes of the words of all rounds
abbrev pub word_input : (irs keys : List ℕ) → ℕ → RoundInput
word_input irs keys r = record { ir = get_or irs r 0; ka = get_or keys (2 * r) 0; kb = get_or keys (2 * r + 1) 0 }

-- clock t is made with the input u: fb entered L1, and fa entered L2
pub record Clocked (v : Row) (u : RoundInput) (t : ℕ) (a b : List ℕ) : Type 0 where
  pub into1 : get_or a (t + v.len1) 0 ≡ fb xor and v (tapped b (t + v.y1)) u.kb
  pub into2 : get_or b (t + v.len2) 0 ≡ fa xor and v (tapped a (t + v.x1)) u.ir u.ka

-- all clocks of the rounds p to q - 1 are made
abbrev pub History : Row → (irs keys : List ℕ) → (p q : ℕ) → List ℕ → List ℕ → Type 0
History v irs keys p q a b = (r c : ℕ) → p ≤ r → r < q → c < v.clocks → Clocked v (word_input irs keys r) (v.clocks * r + c) a b

-- the registers of clock t, what went before, and the lengths are kept
pub record KeptBelow (v : Row) (t : ℕ) (a b a' b' : List ℕ) : Type 0 where
  pub below1 : (i : ℕ) → i < t + v.len1 → get_or a' i 0 ≡ get_or a i 0
  pub below2 : (i : ℕ) → i < t + v.len2 → get_or b' i 0 ≡ get_or b i 0
  pub long1 : length a' ≡ length a
  pub long2 : length b' ≡ length b

-- the registers of clock t, what comes after, and the lengths are kept
pub record KeptFrom (t : ℕ) (a b a' b' : List ℕ) : Type 0 where
  pub from1 : (i : ℕ) → t ≤ i → get_or a' i 0 ≡ get_or a i 0
  pub from2 : (i : ℕ) → t ≤ i → get_or b' i 0 ≡ get_or b i 0
  pub long1 : length a' ≡ length a
  pub long2 : length b' ≡ length b

-- the words of the blocks' bits stand in the buffers as the registers of clock t
pub record Placed (v : Row) (t : ℕ) (words a b : List ℕ) : Type 0 where
  pub placed2 : (i : ℕ) → i < v.len2 → get_or b (t + v.y1 - i) 0 ≡ get_or words i 0
  pub placed1 : (i : ℕ) → i < v.len1 → get_or a (t + v.x1 - i) 0 ≡ get_or words (v.len2 + i) 0

-- a and b became a' and b': the rounds p to q - 1 are made, and the registers at position p and what went before are kept
pub record Forward (v : Row) (irs keys : List ℕ) (p q : ℕ) (a b a' b' : List ℕ) : Type 0 where
  pub room : Room v a' b'
  pub made : History v irs keys p q a' b'
  pub kept : KeptBelow v (v.clocks * p) a b a' b'

-- the same rounds are made, backward: the registers at position q and what comes after are kept
pub record Backward (v : Row) (irs keys : List ℕ) (p q : ℕ) (a b a' b' : List ℕ) : Type 0 where
  pub room : Room v a' b'
  pub made : History v irs keys p q a' b'
  pub kept : KeptFrom (v.clocks * q) a b a' b'

-- all rounds are made, by a way that leads from one position to another: the words were placed as the registers at the one, and the result's
-- words stand as those at the other
pub record Carried (made : Row → (irs keys : List ℕ) → (done : ℕ) → (a b a' b' : List ℕ) → Type 0) (from to : ℕ) (v : Row) (keys words result : List ℕ) : Type 0 where
  pub irs : List ℕ
  pub a₀ : List ℕ
  pub b₀ : List ℕ
  pub a : List ℕ
  pub b : List ℕ
  pub rule : Entries (λ i. spread (ir_of (counter i))) rounds irs
  pub placed : Placed v (v.clocks * from) words a₀ b₀
  pub all : made v irs keys rounds a₀ b₀ a b
  pub stands : Placed v (v.clocks * to) result a b
  pub clear : (i : ℕ) → v.n ≤ i → get_or result i 0 ≡ 0

-- ---- where a run begins

-- what is not touched is kept
pub untouched_below : (v : Row) (t : ℕ) (a b : List ℕ) → KeptBelow v t a b a b
untouched_below v t a b = record { below1 = λ i q. refl; below2 = λ i q. refl; long1 = refl; long2 = refl }

pub untouched_from : (t : ℕ) (a b : List ℕ) → KeptFrom t a b a b
untouched_from t a b = record { from1 = λ i q. refl; from2 = λ i q. refl; long1 = refl; long2 = refl }

-- no round is made yet
module _ (v : Row) (irs keys a b : List ℕ) (p : ℕ) (m : Room v a b) where
  pub forward_none : Forward v irs keys p p a b a b
  forward_none = record { room = m; made = λ q c z l. absurd (omega arith); kept = untouched_below v (v.clocks * p) a b }

  pub backward_none : Backward v irs keys p p a b a b
  backward_none = record { room = m; made = λ q c z l. absurd (omega arith); kept = untouched_from (v.clocks * p) a b }
