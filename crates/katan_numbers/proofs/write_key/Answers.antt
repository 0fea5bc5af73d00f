use Rattle.std.proofs.Common.{ℕ, ◌-◌, List, ◌++◌, length, sym, ap, ◌∙◌, ap₂, rules}
use Rattle.katan.specs.Bit.{bytes_of}
use Rattle.katan.specs.Sizes.{word_bytes, key_bytes}
use Rattle.katan.proofs.Numbers.{length-bytes, two_numbers}
use Rattle.katan_numbers.proofs.Written.{in_bytes, two_parts}
use Rattle.katan_numbers.proofs.write_key.Goals as goal

pub returns : goal.returns
returns c =
    let key = c.args.key in
    let high_bytes = key_bytes - word_bytes in
    let low = in_bytes word_bytes key.low c.put_number.ensures (search rules) in
    let high = in_bytes high_bytes c.from.result c.put_number-2.ensures (search rules) ∙ ap (bytes_of high_bytes) c.from.ensures in
    two_parts word_bytes high_bytes c.args.out.now c.put_number.new.out c.put_number-2.new.out c.requires (ap (λ (s : List ℕ). length s) low ∙ length-bytes word_bytes key.low)
    ∙ ap₂ (λ (s t : List ℕ). s ++ t) low high
    ∙ sym (two_numbers word_bytes high_bytes key.low key.high (search rules))
