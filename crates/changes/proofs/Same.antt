-- Two waits are the same by `same_wait` exactly if they are equal, and so two owners by `same_owner`. Assumes nothing.
use Rattle.std.proofs.Common.{◌≡◌, ◌↔◌, refl, Bool, true, false, eqb, Option, rules}
use Rattle.maps.specs.declared.Number.{Number}
use Rattle.record.specs.declared.Wait.{Wait}
use Rattle.changes.specs.Values.{bit, same_wait, same_owner}

pub bit-back : (l : Bool) → eqb (bit l) 1 ≡ l
bit-back true = refl
bit-back false = refl

pub same-wait : (a b : Wait) → (same_wait a b ≡ true) ↔ (a ≡ b)
same-wait a b = search rules

pub same-owner : (a b : Option Number) → (same_owner a b ≡ true) ↔ (a ≡ b)
same-owner a b = search rules
