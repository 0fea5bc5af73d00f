use mathlib.Core.Path.{◌≡◌, sym, ◌∙◌}
use mathlib.Core.Bool.{true, false}
use borrow.Author.Rules.{rules}
use Rattle.katan.specs.Variant.{is_katan}
use Rattle.lanes_keys.proofs.KeyWords.{from_entries}
use Rattle.lanes_keys.proofs.round_words.Goals as goal

pub returns-then-is_katan : goal.returns-then-is_katan
returns-then-is_katan c =
    let a = c.args in
    let kind : is_katan a.variant ≡ true = sym c.is_katan.ensures ∙ c.if-is_katan.true in
    from_entries a.variant a.key c.katan_words.result (search rules) (λ i q. rw kind (c.katan_words.ensures i q))

pub returns-else-is_katan : goal.returns-else-is_katan
returns-else-is_katan c =
    let a = c.args in
    let kind : is_katan a.variant ≡ false = sym c.is_katan.ensures ∙ c.if-is_katan.false in
    from_entries a.variant a.key c.ktantan_words.result (search rules) (λ i q. rw kind (c.ktantan_words.ensures i q))
