use Prim.Native.Nat.{ℕ, ◌+◌, ◌-◌, ◌≤◌}
use mathlib.Core.Path.{◌≡◌, sym, ap, ◌∙◌}
use mathlib.Core.List.{List, ◌++◌}
use native.Mathlib.Omega.{arith}
use lib.ListN.{length, take, drop}
use lib.Seq.{paste, take_all}
use borrow.Author.Rules.{rules}
use borrow.Rule.Slice.PartMut.{put_mid}
use Rattle.std.proofs.lemmas.List.{length-take}
use Rattle.std.proofs.lemmas.Slice.{put_mid-paste}
use Rattle.script.specs.Pieces.{pending_room}
use Rattle.script.proofs.Begun.{pending, kept_paste}
use Rattle.script.proofs.splitting.keep.Goals as goal

pub returns : goal.returns
returns c =
    let a = c.args in
    let n = c.min-start.result in
    let j = c.min-count.result in
    let size : length a.pending.bytes ≡ pending_room = search rules in
    let few : j ≤ length a.part.now = omega (arith, c.min-count.ensures) in
    let long : length (take j a.part.now) ≡ j = omega (arith, length-take j a.part.now) in
    let same : take j (take j a.part.now) ≡ take j a.part.now = take_all j (take j a.part.now) (omega arith) in
    let pasted : put_mid n (n + j - n) a.pending.bytes c.copy_from_slice.new.self ≡ paste a.pending.bytes n (take j a.part.now) j =
    put_mid-paste n (n + j - n) a.pending.bytes c.copy_from_slice.new.self (take j a.part.now) j c.copy_from_slice.ensures.after (omega arith) (sym long) in
    ap (λ (b : List ℕ). pending b (a.pending.length + j)) (pasted ∙ ap (λ (l : List ℕ). (take n a.pending.bytes ++ l) ++ drop (n + j) a.pending.bytes) same)
    ∙ sym (kept_paste a.pending a.part.now n j size c.min-start.ensures c.min-count.ensures)
