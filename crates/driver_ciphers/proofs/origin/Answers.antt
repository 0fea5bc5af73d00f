use Rattle.std.proofs.Common.{arith, ◌∙◌}
use Rattle.driver_ciphers.specs.Calls.{lent_checks, origin_words, clock_words}
use Rattle.driver_ciphers.proofs.Words.{answered}
use Rattle.driver_ciphers.proofs.origin.Goals as goal

pub returns : goal.returns
returns c =
    let a = c.args in
    let both = answered clock_words a.out.now (lent_checks a.variant origin_words a.out.now) c.origin-found.result c.map.result c.map.ensures.cases c.origin-found.ensures c.put_words.ensures.value c.put_words.ensures.out_after in
    record { value = (omega arith) ∙ c.status.ensures ∙ both.0; out_after = both.1 }
