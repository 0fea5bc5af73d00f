use Rattle.std.proofs.Common.{ap₂, List, ◌++◌, ℕ, append_assoc, rules}
use Rattle.driver_layout.specs.Layout.{number_bytes, link_bytes}
use Rattle.katan_numbers.proofs.Written.{in_bytes}
use Rattle.driver_layout.proofs.write_link.Goals as goal

pub returns : goal.returns
unfolding link_bytes
returns c =
    let link = c.args.link in
    let last = in_bytes number_bytes link.last (rw c.from.ensures at c.put_number.ensures) (search rules) in
    let total = in_bytes number_bytes link.total (rw c.from-2.ensures at c.put_number-2.ensures) (search rules) in
    rw append_assoc (ap₂ (λ (s t : List ℕ). s ++ t) last (ap₂ (λ (s t : List ℕ). s ++ t) total c.copy_from_slice.ensures.after))
