use mathlib.Core.Path.{◌≡◌, sym, ap₂, ◌∙◌}
use mathlib.Core.Bool.{true}
use borrow.Author.Rules.{rules}
use Rattle.katan.specs.Variant.{is_katan}
use Rattle.katan_sheet.proofs.Sheets.{sheet}
use Rattle.katan_smudged.specs.inner.Words.{following}
use Rattle.katan_smudged.proofs.Sources.{source_follows, katan_next}
use Rattle.katan_smudged.proofs.rounds.next_source.Goals as goal

pub returns-then-is_katan : goal.returns-then-is_katan
returns-then-is_katan c =
    let w = c.args.w in
    let v = c.args.variant in
    let kind : is_katan v ≡ true = sym c.is_katan.ensures ∙ c.if-is_katan.true in
    let low : c.each.result ≡ sheet w.ones.low w.zeros.low = search rules in
    let high : c.each-then-is_katan.result ≡ sheet w.ones.high w.zeros.high = search rules in
    source_follows w (search rules) (search rules) v _ (katan_next v w _ _ kind (c.following-e.ensures ∙ ap₂ following low high) c.slide.ensures c.slide-then-is_katan.ensures)
