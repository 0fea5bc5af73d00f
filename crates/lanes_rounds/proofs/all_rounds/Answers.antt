use mathlib.Core.Path.{subst}
use Prim.Native.Nat.{ℕ, ◌*◌}
use Rattle.lanes_rounds.specs.inner.Buffers.{Placed}
use Rattle.lanes_rounds.proofs.all_rounds.Goals as goal

pub returns : goal.returns
returns g c =
    let w = g.W.Width.row in
    let start = c.place in
    let end = c.run in
    let r = c.words_at in
    record {
      irs = c.ir_words-irs.result;
      a₀ = start.new.a;
      b₀ = start.new.b;
      a = end.new.a;
      b = end.new.b;
      rule = c.ir_words-irs.ensures;
      placed = subst (λ (n : ℕ). Placed w (w.clocks * n) c.args.words.now start.new.a start.new.b) c.FROM.ensures start.ensures.placed;
      all = end.ensures;
      stands = subst (λ (n : ℕ). Placed w (w.clocks * n) r.result end.new.a end.new.b) c.TO.ensures r.ensures.placed;
      clear = r.ensures.by_index;
    }
