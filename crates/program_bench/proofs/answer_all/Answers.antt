use Prim.Native.Nat.{ℕ, ◌≤◌}
use mathlib.Core.Path.{◌≡◌, ap, ◌∙◌, subst⁻¹}
use lib.ListN.{length}
use borrow.Author.Rules.{rules}
use Rattle.script.specs.Pieces.{Taken, on_piece, all_taken, answered_as, written_to, output_length}
use Rattle.script.specs.declared.Answered.{Answered}
use Rattle.script.proofs.Taken.{every_piece, every_piece_read}
use Rattle.program_bench.proofs.answer_all.Goals as goal

pub returns : goal.returns
returns c =
    let out = c.args.out.now in
    let t = c.answer in
    let room : length out ≡ output_length = search rules in
    let taken = on_piece (length out) c.args.script c.args.piece.now in
    let all : taken ≡ all_taken c.args.script c.args.piece.now =
    ap (λ (n : ℕ). on_piece n c.args.script c.args.piece.now) room ∙ every_piece_read c.args.script c.args.piece.now c.requires
    in (
      t.ensures.0 ∙ ap answered_as all,
      t.ensures.1 ∙ ap (λ (u : Taken). written_to out u.output) all,
      subst⁻¹ (λ (r : Answered). r.count ≤ length out) t.ensures.0 (every_piece (length out) c.args.script c.args.piece.now).has_space,
    )
