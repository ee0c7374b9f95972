-- How many digits a slot's number has. Assumes nothing.
use Rattle.std.proofs.Common.{ℕ, ◌≤◌, ◌<◌, length, length-append, arith}
use Rattle.text.specs.Decimals.{digits}
use Rattle.text.proofs.Decimals.{length-small, length_more}

pub three_digits : (n : ℕ) → n < 1000 → length (digits n) ≤ 3
three_digits n h = grind (arith, length-small, length_more)

-- for searches
pub ruleset slot_digits = (three_digits, length-append)
