use Rattle.std.proofs.Common.{◌≡◌, ℕ, ◌+◌, ◌*◌, ◌^◌, take, drop, sym, ◌∙◌, ap₂, arith, rules}
use Rattle.katan.specs.Bit.{number_in}
use Rattle.katan.proofs.KeyNumbers.{key_is}
use Rattle.katan.proofs.Bytes.{number_from, number_split}
use Rattle.katan_numbers.proofs.key_of.Goals as goal

pub returns : goal.returns
returns c =
    let xs = c.args.bytes.now in
    let high : c.wide_at.result + 256 * c.wide_at-2.result ≡ number_in (take 2 (drop 8 xs)) = omega (arith, number_from 1 8 xs, number_from 0 9 xs) in
    key_is _ _ (search rules) (ap₂ (λ (h l : ℕ). h * 2 ^ 64 + l) high c.word_of.ensures ∙ sym (number_split 8 2 xs))
