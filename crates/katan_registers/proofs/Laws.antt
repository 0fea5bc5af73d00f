-- Registers stay within their lengths; the rounds' inputs from the tables and from the source, one by one and in words; the moves
-- that they make.
-- Assumes nothing.
use mathlib.Core.Path.{◌≡◌, refl, sym, ap, ap₂, subst, ◌∙◌}
use mathlib.Core.Bool.{Bool, true, false}
use mathlib.Core.List.{List}
use Prim.Native.Nat.{ℕ, zero, suc, ◌+◌, ◌-◌, ◌*◌, ◌/◌, ◌%◌, ◌^◌, ◌<◌, ◌≤◌}
use native.Mathlib.Nat.{mod-eq_of_lt, lt_of_lt_of_le, add-zero, add_assoc, suc-mul, add-mul, one-mul, div-add-mod', mul-le-mul_left, mul-le-mul_right}
use native.Mathlib.Omega.{arith}
use borrow.Author.Tests.{leb-true, leb-false}
use lib.ListN.{get_or}
use lib.Pow.{pow_mono, pow-add, shl_exact}
use Rattle.katan.specs.Bit.{bit, pick, tabulate}
use Rattle.katan.specs.Counter.{counter, ir_of, rounds}
use Rattle.katan.specs.Variant.{row_of, is_katan, last_katan}
use Rattle.katan.specs.Stride.{stride_of, stride_clocks}
use Rattle.katan.specs.Key.{key_length, key_bits, key_bit_number, k}
use Rattle.katan.specs.Clock.{round, unround, run, unrun, registers, input_of}
use Rattle.katan.specs.inner.Within.{Sound, Bits, RegistersFit}
use Rattle.katan.specs.declared.Row.{Row}
use Rattle.katan.specs.declared.Registers.{Registers}
use Rattle.katan.specs.declared.RoundInput.{RoundInput}
use Rattle.katan.proofs.Bits.{one_shifted}
use Rattle.katan.proofs.Variants.{strides}
use Rattle.katan.proofs.Tables.{entry, number_below, ir_later}
use Rattle.katan.proofs.Keys.{ktantan_input, input_bits}
use Rattle.katan.proofs.Undo.{run_fits, unrun_fits, run_add, unrun_add}
use Rattle.katan.proofs.Positions.{registers_fit}
use Rattle.katan_keys.specs.Window.{window_number, longest_step, window_at, ahead, behind, source_at, next_source, previous_source}
use Rattle.katan_keys.proofs.Running.{running_window}
use Rattle.katan_variants.specs.Widths.{IsRow}
use Rattle.katan_clocks.proofs.Steps.{by_row}
use Rattle.katan_clocks.specs.Clocks.{lowest, clocks_by, unclocks_by}
use Rattle.katan_clocks.specs.inner.Words.{beside, words_of}
use Rattle.katan_clocks.proofs.Rounds.{inputs, same_input, rounds_by_words, unrounds_by_words}
use Rattle.katan_registers.specs.declared.rounds.Running.{Running}
use Rattle.katan_registers.specs.inner.Tables.{KeyBits, table_input, rounds_input}
use Rattle.katan_registers.specs.inner.Moves.{Moves, MovesBack}

-- ---- registers stay within their lengths

module _ (v : Row) (t : Sound v) where
  pub loaded_fits : (x : ℕ) → x < 2 ^ v.n → (s : Registers) → s ≡ registers v x → RegistersFit v s
  loaded_fits x h s e = rw e (registers_fit v t x h)

  module _ (key p c : ℕ) (s : Registers) (f : RegistersFit v s) (r : Registers) (n : ℕ) where
    pub ran_fits : r ≡ run v (input_of n key) p c s → RegistersFit v r
    ran_fits e = rw e (run_fits v t (input_of n key) (input_bits n key) p c s f)

    pub unran_fits : r ≡ unrun v (input_of n key) p c s → RegistersFit v r
    unran_fits e = rw e (unrun_fits v t (input_of n key) (input_bits n key) p c s f)

-- ---- the tables and the source of a position give each round its input

-- it is bits
lowest_bits : (u : RoundInput) → Bits u → lowest u ≡ u
lowest_bits u b = same_input (mod-eq_of_lt b.ir_bit) (mod-eq_of_lt b.ka_bit) (mod-eq_of_lt b.kb_bit)

-- words go by the inputs of their rounds
module _ (c : ℕ) (f g : ℕ → RoundInput) where
  beside_same : (x : RoundInput → ℕ) (n : ℕ) → ((j : ℕ) → j < n → f j ≡ g j) → beside c (λ j. x (f j)) n ≡ beside c (λ j. x (g j)) n
  beside_same x zero h = refl
  beside_same x (suc n) h = ap₂ (λ (a b : ℕ). a * 2 ^ c + b) (beside_same x n (λ j q. h j (omega arith))) (ap x (h n (omega arith)))

  words_same : (n : ℕ) → ((j : ℕ) → j < n → f j ≡ g j) → words_of c f n ≡ words_of c g n
  words_same n h =
      let all : (x : RoundInput → ℕ) → beside c (λ j. x (f j)) n * (2 ^ c - 1) ≡ beside c (λ j. x (g j)) n * (2 ^ c - 1)
      = λ x. ap (λ (y : ℕ). y * (2 ^ c - 1)) (beside_same x n h) in
      same_input (all (λ u. u.ir)) (all (λ u. u.ka)) (all (λ u. u.kb))

-- each entry of the second table numbers a bit of the key
pub named : (numbers : List ℕ) → numbers ≡ tabulate key_bit_number 0 (2 * rounds) → (i : ℕ) → i < 2 * rounds → get_or numbers i 0 < key_length
named numbers ns i h = rw (ns, entry key_bit_number (2 * rounds) i 0 h) (number_below i h)

module _ (counters numbers : List ℕ) (cs : counters ≡ tabulate counter 0 rounds) (ns : numbers ≡ tabulate key_bit_number 0 (2 * rounds)) where
  module _ (v key : ℕ) where
    pub table-input : (r w : ℕ) → r < rounds → w ≡ source_at v key r → table_input v counters numbers r w ≡ input_of v key r
    table-input r w q h =
        ap (λ (x : ℕ). table_input v counters numbers r x) h
        ∙ ap₂ (λ (x y : List ℕ). table_input v x y r (source_at v key r)) cs ns
        ∙ by_kind (is_katan v) refl
      where
        t : ir_of (get_or (tabulate counter 0 rounds) r 0) ≡ ir_of (counter r)
        t = ap ir_of (entry counter rounds r 0 q)

        numbered : (i : ℕ) → i < 2 * rounds → get_or (tabulate key_bit_number 0 (2 * rounds)) i 0 ≡ key_bit_number i
        numbered i l = entry key_bit_number (2 * rounds) i 0 l

        by_kind : (b : Bool) → is_katan v ≡ b → table_input v (tabulate counter 0 rounds) (tabulate key_bit_number 0 (2 * rounds)) r (source_at v key r) ≡ input_of v key r
        by_kind true s =
            rw s (ap (λ (x : ℕ). inputs x (bit (window_at key r) 0) (bit (window_at key r) 1)) t ∙ sym (running_window.taken v key r (leb-true v last_katan s) q))
        by_kind false s =
            rw s (ap₂ (λ (x y : ℕ). inputs x (bit key y) (bit key (get_or (tabulate key_bit_number 0 (2 * rounds)) (2 * r + 1) 0))) t (numbered (2 * r) (omega arith))
            ∙ ap (λ (y : ℕ). inputs (ir_of (counter r)) (bit key (key_bit_number (2 * r))) (bit key y)) (numbered (2 * r + 1) (omega arith))
            ∙ sym (ktantan_input v key r (leb-false v last_katan s) q))

    -- what one round takes is its input, with a source that is its position's
    one_input : (r w : ℕ) (u : RoundInput) → r < rounds → w ≡ source_at v key r → u ≡ table_input v counters numbers r w → lowest u ≡ input_of v key r
    one_input r w u q h e = let i = e ∙ table-input r w q h in ap lowest i ∙ lowest_bits (input_of v key r) (input_bits v key r)

    -- the key bits of the rounds after r: those of a KATAN stand in the window of r
    module _ (bits : List ℕ) (picks : KeyBits v key bits) (r w : ℕ) (h : w ≡ source_at v key r) where
      later_input : (j : ℕ) → j ≤ 3 → r + j < rounds → rounds_input v counters numbers bits r w j ≡ input_of v key (r + j)
      later_input j few q = by_kind (is_katan v) refl
        where
          ir : bit (get_or counters r 0) (7 - j) ≡ ir_of (counter (r + j))
          ir = rw (cs, entry counter rounds r 0 (omega arith)) (ir_later r j (omega arith))

          by_kind : (b : Bool) → is_katan v ≡ b → rounds_input v counters numbers bits r w j ≡ input_of v key (r + j)
          by_kind true s =
              let at : w ≡ window_at key r = simp s at h in
              let from : (i : ℕ) → i < 2 → bit w (i + 2 * j) ≡ bit (window_at key (r + j)) i
              = λ i l.
              ap (λ (x : ℕ). bit x (i + 2 * j)) at
              ∙ running_window.its_bits key r (i + 2 * j) (omega arith)
              ∙ ap (k key) (omega arith)
              ∙ sym (running_window.its_bits key (r + j) i (omega arith)) in
              rw s (same_input ir (from 0 (omega arith)) (from 1 (omega arith)) ∙ sym (running_window.taken v key (r + j) (leb-true v last_katan s) q))
          by_kind false s =
              let from : (i : ℕ) → i < 2 → get_or bits (get_or numbers (2 * r + i + 2 * j) 0) 0 ≡ bit key (key_bit_number (2 * (r + j) + i))
              = λ i l.
              let place : 2 * r + i + 2 * j ≡ 2 * (r + j) + i = omega arith in
              let inside : 2 * (r + j) + i < 2 * rounds = omega arith in
              ap₂ (λ (xs ys : List ℕ). get_or xs (get_or ys (2 * r + i + 2 * j) 0) 0) (picks s) ns
              ∙ ap (λ (x : ℕ). get_or (key_bits key) (get_or (tabulate key_bit_number 0 (2 * rounds)) x 0) 0) place
              ∙ ap (λ (x : ℕ). get_or (key_bits key) x 0) (entry key_bit_number (2 * rounds) (2 * (r + j) + i) 0 inside)
              ∙ entry (bit key) key_length (key_bit_number (2 * (r + j) + i)) 0 (number_below (2 * (r + j) + i) inside) in
              let even : 2 * (r + j) + 0 ≡ 2 * (r + j) = omega arith in
              rw s (same_input ir (from 0 (omega arith) ∙ ap (λ (x : ℕ). bit key (key_bit_number x)) even) (from 1 (omega arith))
              ∙ sym (ktantan_input v key (r + j) (leb-false v last_katan s) q))

      module _ (n : ℕ) (few : n ≤ 4) (q : r + n ≤ rounds) (s : Registers) where
        words : words_of (row_of v).clocks (rounds_input v counters numbers bits r w) n ≡ words_of (row_of v).clocks (λ j. input_of v key (r + j)) n
        words = words_same (row_of v).clocks _ _ n (λ j l. later_input j (omega arith) (omega arith))

        -- clocks with the words of n rounds are these rounds
        pub moved : clocks_by (row_of v) (n * (row_of v).clocks) (words_of (row_of v).clocks (rounds_input v counters numbers bits r w) n) s ≡ run (row_of v) (input_of v key) r n s
        moved = ap (λ (x : RoundInput). clocks_by (row_of v) (n * (row_of v).clocks) x s) words ∙ rounds_by_words (row_of v) (input_of v key) (input_bits v key) r n s

        pub moved_back : unclocks_by (row_of v) (n * (row_of v).clocks) (words_of (row_of v).clocks (rounds_input v counters numbers bits r w) n) s ≡ unrun (row_of v) (input_of v key) r n s
        moved_back = ap (λ (x : RoundInput). unclocks_by (row_of v) (n * (row_of v).clocks) x s) words ∙ unrounds_by_words (row_of v) (input_of v key) (input_bits v key) r n s

-- ---- a word of some rounds' bits, as the code has it

-- a stride has four rounds or fewer, and a round three clocks or fewer
pub stride_few : (v : Row) → IsRow v → stride_of v ≤ 4
stride_few = by_row (λ v. stride_of v ≤ 4) (omega arith) (omega arith) (omega arith)

pub clocks_few : (v : Row) → IsRow v → (r : Row) → r ≡ v → r.clocks ≤ 3
clocks_few v k r e = subst (λ (x : Row). x.clocks ≤ 3) (sym e) (by_row (λ x. x.clocks ≤ 3) (omega arith) (omega arith) (omega arith) v k)

-- numbers of a byte, c of 3 or less: nothing leaves the word
module _ (c a j x : ℕ) (few : c ≤ 3) (h : a < 2 ^ (8 + 4 * j)) (q : x < 2 ^ 8) where
  most : a * 2 ^ c ≤ a * 8
  most = mul-le-mul_left a (pow_mono {i = c} {j = 3} few)

  pub grows : a * 2 ^ c + x < 2 ^ (8 + 4 * (j + 1))
  grows =
      let place : 8 + 4 * (j + 1) ≡ 8 + 4 * j + 4 = omega arith in
      let up : 2 ^ (8 + 4 * (j + 1)) ≡ 2 ^ (8 + 4 * j) * 16 = ap (λ (n : ℕ). 2 ^ n) place ∙ pow-add 2 (8 + 4 * j) 4 in
      let low : 2 ^ 8 ≤ 2 ^ (8 + 4 * j) = pow_mono {i = 8} {j = 8 + 4 * j} (omega arith) in
      omega (arith, most, up, low)

  -- with j of 3 or less
  module _ (near : j ≤ 3) where
    small : a < 2 ^ 20
    small = lt_of_lt_of_le h (pow_mono {i = 8 + 4 * j} {j = 20} (omega arith))

    pub shifted : (a * 2 ^ c) % 2 ^ 64 ≡ a * 2 ^ c
    shifted = shl_exact {a = a} 20 c 64 small (omega arith)

    pub next_fits : (a * 2 ^ c) % 2 ^ 64 + x < 2 ^ 64
    next_fits = omega (arith, shifted, most, small)

-- and each in c places
module _ (c a : ℕ) (few : c ≤ 3) (h : a < 2 ^ 24) where
  pub filled : a * ((1 * 2 ^ c) % 2 ^ 64 - 1) ≡ a * (2 ^ c - 1)
  filled = ap (λ (b : ℕ). a * (b - 1)) (one_shifted c (omega arith))

  pub filled_fits : a * ((1 * 2 ^ c) % 2 ^ 64 - 1) < 2 ^ 64
  filled_fits =
      let eight : 2 ^ c ≤ 8 = pow_mono {i = c} {j = 3} few in
      let seven : 2 ^ c - 1 ≤ 7 = omega (arith, eight) in
      rw filled (omega (arith, mul-le-mul_left a seven))

-- ---- moves

-- the source moves along
module _ (v key p c w : ℕ) (few : c ≤ longest_step) where
  source_next : w ≡ source_at v key p → next_source v c w ≡ source_at v key (p + c)
  source_next e = ap (next_source v c) e ∙ by_kind (is_katan v)
    where
      by_kind : (b : Bool) → pick b (ahead c (pick b (window_at key p) key)) (pick b (window_at key p) key) ≡ pick b (window_at key (p + c)) key
      by_kind true = running_window.forth key p c few
      by_kind false = refl

  source_previous : w ≡ source_at v key (p + c) → previous_source v c w ≡ source_at v key p
  source_previous e = ap (previous_source v c) e ∙ by_kind (is_katan v)
    where
      by_kind : (b : Bool) → pick b (behind c (pick b (window_at key (p + c)) key)) (pick b (window_at key (p + c)) key) ≡ pick b (window_at key p) key
      by_kind true = running_window.back key p c few
      by_kind false = refl

module _ (v key p : ℕ) where
  pub moves_more : (a b : ℕ) (h t u : Running) → Moves v key p a h t → Moves v key (p + a) b t u → Moves v key p (a + b) h u
  moves_more a b h t u f g e =
      let x = f e in
      let y = g x.1 in (
        y.0 ∙ ap (run (row_of v) (input_of v key) (p + a) b) x.0 ∙ sym (run_add (row_of v) (input_of v key) p a b h.registers),
        y.1 ∙ ap (source_at v key) (add_assoc p a b),
      )

  pub back_more : (a b : ℕ) (h t u : Running) → MovesBack v key (p + a) b h t → MovesBack v key p a t u → MovesBack v key p (a + b) h u
  back_more a b h t u f g e =
      let x = f (e ∙ ap (source_at v key) (sym (add_assoc p a b))) in
      let y = g x.1 in
      (y.0 ∙ ap (unrun (row_of v) (input_of v key) p a) x.0 ∙ sym (unrun_add (row_of v) (input_of v key) p a b h.registers), y.1)

-- i strides of c rounds and one more
module _ (v key r c : ℕ) (h t u : Running) where
  pub stride_more : (i : ℕ) → Moves v key r (i * c) h t → Moves v key (r + i * c) c t u → Moves v key r ((i + 1) * c) h u
  stride_more i f g =
      let e : i * c + c ≡ (i + 1) * c = omega (arith, add-mul i 1 c) in
      subst (λ (m : ℕ). Moves v key r m h u) e (moves_more v key r (i * c) c h t u f g)

  -- those of n after the first i + 1 undone, and one more
  pub stride_less : (i n : ℕ) → i < n → MovesBack v key (r + (i + 1) * c) ((n - (i + 1)) * c) h t → MovesBack v key (r + i * c) c t u → MovesBack v key (r + i * c) ((n - i) * c) h u
  stride_less i n q f g =
      let place : r + (i + 1) * c ≡ r + i * c + c = omega (arith, add-mul i 1 c) in
      let rest : n - i ≡ 1 + (n - (i + 1)) = omega arith in
      let all : c + (n - (i + 1)) * c ≡ (n - i) * c = sym (ap (λ (x : ℕ). x * c) rest ∙ add-mul 1 (n - (i + 1)) c ∙ ap (◌+ (n - (i + 1)) * c) (one-mul c)) in
      subst (λ (m : ℕ). MovesBack v key (r + i * c) m h u) all
      (back_more v key (r + i * c) c ((n - (i + 1)) * c) h t u (subst (λ (p : ℕ). MovesBack v key p ((n - (i + 1)) * c) h t) place f) g)

-- strides of s rounds, and single rounds for the rest
module _ (v key s n : ℕ) (h t u : Running) where
  pub in_parts : (p : ℕ) → Moves v key p (n / s * s) h t → Moves v key (p + n - n % s) (n % s) t u → Moves v key p n h u
  in_parts p f g =
      let all : n / s * s + n % s ≡ n = div-add-mod' n s in
      let place : p + n - n % s ≡ p + n / s * s = omega (arith, all) in
      subst (λ (m : ℕ). Moves v key p m h u) all (moves_more v key p (n / s * s) (n % s) h t u f (subst (λ (x : ℕ). Moves v key x (n % s) t u) place g))

  pub in_parts_back : (p : ℕ) → MovesBack v key (p + n % s) (n / s * s) h t → MovesBack v key p (n % s) t u → MovesBack v key p n h u
  in_parts_back p f g =
      let all : n % s + n / s * s ≡ n = omega (arith, div-add-mod' n s) in
      subst (λ (m : ℕ). MovesBack v key p m h u) all (back_more v key p (n % s) (n / s * s) h t u f g)

-- so many strides lie within n
pub within : (i n c : ℕ) → i < n → i * c + c ≤ n * c
within i n c h = subst (λ (x : ℕ). x ≤ n * c) (suc-mul i c) (mul-le-mul_right c h)

-- what the code makes of a round, and of the rounds that are worked at once, moves the registers and the source by them
module _ (v : ℕ) (counters numbers : List ℕ) (cs : counters ≡ tabulate counter 0 rounds) (ns : numbers ≡ tabulate key_bit_number 0 (2 * rounds)) (r : ℕ) (h t : Running) where
  module _ (q : r < rounds) (u : RoundInput) (key : ℕ) where
    pub round_moves : u ≡ table_input v counters numbers r (window_number h.source) → t.registers ≡ round (row_of v) (lowest u) h.registers
        → window_number t.source ≡ next_source v 1 (window_number h.source) → Moves v key r 1 h t
    round_moves i f g e =
        let takes : lowest u ≡ input_of v key (r + 0) = one_input counters numbers cs ns v key r _ u q e i ∙ ap (input_of v key) (sym (add-zero r)) in
        (f ∙ ap (λ (x : RoundInput). round (row_of v) x h.registers) takes, g ∙ source_next v key r 1 _ (omega arith) e)

    pub round_moves_back : u ≡ table_input v counters numbers r (window_number t.source) → t.registers ≡ unround (row_of v) (lowest u) h.registers
        → window_number t.source ≡ previous_source v 1 (window_number h.source) → MovesBack v key r 1 h t
    round_moves_back i f g e =
        let here : window_number t.source ≡ source_at v key r = g ∙ source_previous v key r 1 _ (omega arith) e in
        let takes : lowest u ≡ input_of v key (r + 0) = one_input counters numbers cs ns v key r _ u q here i ∙ ap (input_of v key) (sym (add-zero r)) in
        (f ∙ ap (λ (x : RoundInput). unround (row_of v) x h.registers) takes, here)

  module _ (bits : List ℕ) (q : r + stride_of (row_of v) ≤ rounds) (row : Row) (is : row ≡ row_of v) (w : RoundInput) (key : ℕ) (picks : KeyBits v key bits) where
    few : stride_of (row_of v) ≤ 4
    few = (strides v).1

    pub stride_moves : w ≡ words_of row.clocks (rounds_input v counters numbers bits r (window_number h.source)) (stride_of row) → t.registers ≡ clocks_by row (stride_clocks row) w h.registers
        → window_number t.source ≡ next_source v (stride_of (row_of v)) (window_number h.source) → Moves v key r (stride_of (row_of v)) h t
    stride_moves i f g e = (
      f
          ∙ ap (λ (x : RoundInput). clocks_by row (stride_clocks row) x h.registers) i
          ∙ ap (λ (x : Row). clocks_by x (stride_clocks x) (words_of x.clocks (rounds_input v counters numbers bits r (window_number h.source)) (stride_of x)) h.registers) is
          ∙ moved counters numbers cs ns v key bits picks r _ e (stride_of (row_of v)) few q h.registers,
      g ∙ source_next v key r _ _ (omega (arith, few)) e,
    )

    pub stride_moves_back : w ≡ words_of row.clocks (rounds_input v counters numbers bits r (window_number t.source)) (stride_of row) → t.registers ≡ unclocks_by row (stride_clocks row) w h.registers
        → window_number t.source ≡ previous_source v (stride_of (row_of v)) (window_number h.source) → MovesBack v key r (stride_of (row_of v)) h t
    stride_moves_back i f g e =
        let here : window_number t.source ≡ source_at v key r = g ∙ source_previous v key r _ _ (omega (arith, few)) e in (
          f
              ∙ ap (λ (x : RoundInput). unclocks_by row (stride_clocks row) x h.registers) i
              ∙ ap (λ (x : Row). unclocks_by x (stride_clocks x) (words_of x.clocks (rounds_input v counters numbers bits r (window_number t.source)) (stride_of x)) h.registers) is
              ∙ moved_back counters numbers cs ns v key bits picks r _ here (stride_of (row_of v)) few q h.registers,
          here,
        )
