use mathlib.Core.Path.{refl}
use borrow.Author.Tests.{le-leb, lt-leb}
use Rattle.katan_variants.proofs.bad_variant.Goals as goal

pub returns-then-variant-ge1 : goal.returns-then-variant-ge1
returns-then-variant-ge1 c = rw (le-leb 1 c.args.variant c.if-variant-ge1.true) refl

pub returns-else-variant-ge1 : goal.returns-else-variant-ge1
returns-else-variant-ge1 c = rw (lt-leb 1 c.args.variant c.if-variant-ge1.false) refl
