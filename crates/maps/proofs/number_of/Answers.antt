-- `maps::number_of` meets its contract: a tag is its own lowest bit, and nothing else is, but the empty map, whose lowest number is 32. Assumes nothing.
use Rattle.std.proofs.Common.{ℕ, sym, ap, ◌∙◌}
use Rattle.maps.proofs.Tags.{number-isolated, number-none}
use Rattle.maps.proofs.number_of.Goals as goal

pub returns-then-lowest_bit-tag : goal.returns-then-lowest_bit-tag
returns-then-lowest_bit-tag c =
    ap (λ (x : ℕ). record { 0 = x }) (c.lowest_of.ensures ∙ number-isolated _ (sym c.lowest_bit.ensures ∙ c.if-lowest_bit-tag.true))

pub returns : goal.returns
returns c = ap (λ (x : ℕ). record { 0 = x }) (number-none _ (λ e. c.if-lowest_bit-tag.false (c.lowest_bit.ensures ∙ e)))
