use Rattle.std.proofs.Common.{ap₂, ◌∙◌, ◌++◌, List, ℕ, rules}
use Rattle.katan.specs.Key.{key_number}
use Rattle.katan.specs.Sizes.{key_bytes, word_bytes}
use Rattle.katan.specs.Bit.{bytes_of}
use Rattle.katan.proofs.Copies.{it_fits}
use Rattle.katan.proofs.Words.{two_words}
use Rattle.katan_numbers.proofs.Written.{in_bytes}
use Rattle.driver_layout.specs.Layout.{loaded_state, loaded_bytes}
use Rattle.driver_layout.proofs.put_loaded.Goals as goal

pub returns : goal.returns
unfolding loaded_bytes
returns c =
    let h = c.args.h in
    let head = two_words loaded_state h.position.0 c.split_at_mut-head.result.0.now (search rules) in
    let key = c.put_key.ensures ∙ it_fits key_bytes (bytes_of key_bytes (key_number h.key)) c.split_at_mut-key.result.0.now (search rules) in
    ap₂ (λ (s t : List ℕ). s ++ t) head (ap₂ (λ (s t : List ℕ). s ++ t) key (in_bytes word_bytes h.registers c.put_number.ensures (search rules)))
