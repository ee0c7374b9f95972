-- `text::numbers::scan` meets its contract: what the digits from place `b-index` on make of the number so far stays the same. Assumes nothing.
use Rattle.std.proofs.Common.{◌≡◌, ◌≤◌, drop}
use Rattle.text.specs.Decimals.{reaches}
use Rattle.text.proofs.numbers.scan.Given as goal

abbrev pub invariant-loop-b : goal.invariant-loop-b
invariant-loop-b l = (l.v ≤ l.most) × (reaches l.most l.v (drop l.b-index l.s) ≡ reaches l.most 0 l.s)
