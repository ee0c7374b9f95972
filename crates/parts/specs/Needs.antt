-- What finish asks for a wait, over the parts: that the channel's part lies in the n words that are lent. The kernel's calls have it by soundness.
use Rattle.std.specs.Prelude.{ℕ}
use Rattle.ring.specs.Ring.{Lent}
use Rattle.record.specs.declared.Wait.{Wait}
use Rattle.record.specs.declared.Wait.TheVariants.{Push, Pop}
use Rattle.parts.specs.declared.Parts.{Parts}

abbrev pub Usable : Parts → ℕ → Wait → Type 0
Usable x n (Push i item e) = Lent x.channel n
Usable x n (Pop i e l) = Lent x.channel n
Usable x n w = Unit
