use mathlib.Core.Path.{◌≡◌, sym, ap, ◌∙◌}
use mathlib.Core.Bool.{true}
use Prim.Native.Nat.{ℕ, ◌/◌, ◌%◌, ◌^◌, ◌<◌}
use native.Mathlib.Omega.{arith}
use Rattle.katan.specs.Key.{key_length, key_number}
use Rattle.katan.specs.Variant.{is_katan}
use Rattle.katan.proofs.Bits.{joined_lt}
use Rattle.katan_keys.specs.Window.{window_number, ahead, times}
use Rattle.katan_keys.proofs.Running.{way}
use borrow.Author.Rules.{rules}
use Rattle.katan_keys.proofs.source_at.Goals as goal

pub returns-then-is_katan : goal.returns-then-is_katan
returns-then-is_katan c =
    let a = c.args in
    let key = key_number a.key in
    let p = c.from-p.result in
    let kind : is_katan a.variant ≡ true = sym c.is_katan.ensures ∙ c.if-is_katan.true in
    let fits : key < 2 ^ key_length = joined_lt 64 a.key.high (search rules) 16 (search rules) in
    let singly = c.after.ensures ∙ ap (λ (n : ℕ). times (p % 6) (ahead n) (window_number c.after-near.result)) c.round.ensures in
    rw kind (way (p / 6) (p % 6) key _ _ _ fits c.key_words-first.ensures c.after-near.ensures singly (omega arith) a.at.0 (omega (arith, c.from-p.ensures)))
