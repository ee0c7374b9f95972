-- What an accepted call asks of its parts and of the part of the room that it is lent, of n words: that the process that it names has a slot, that its
-- channel lies in that part, that the depth may move.
use Rattle.std.specs.Prelude.{ℕ, ◌<◌, ◌≤◌}
use Rattle.ring.specs.Ring.{Lent as Holds}
use Rattle.rules.specs.declared.Call.{Call}
use Rattle.rules.specs.declared.Call.TheVariants.{Enter, Exit, Switch, Reading, Process, Finish, Interrupt}
use Rattle.rules.specs.declared.Reading.{Reading as ReadingT}
use Rattle.rules.specs.declared.Reading.TheVariants.{FreePlaces}
use Rattle.rules.specs.declared.Request.{Request}
use Rattle.rules.specs.declared.Request.TheVariants.{Push, Pop, Wake, Force}
use Rattle.rules.specs.declared.Interrupt.{Interrupt as InterruptT}
use Rattle.rules.specs.declared.Interrupt.TheVariants.{Write, Read}
use Rattle.rules.specs.Calls.{numbered}
use Rattle.parts.specs.declared.Parts.{Parts}
use Rattle.parts.specs.Needs.{Usable}

abbrev pub Readable : Parts → ReadingT → Type 0
Readable x (FreePlaces i) = x.channel.count ≤ x.channel.capacity
Readable x r = Unit

abbrev pub Asked : Parts → ℕ → Request → Type 0
Asked x n (Push i item e) = Holds x.channel n
Asked x n (Pop i e t) = Holds x.channel n
Asked x n (Wake p) = (numbered p).0 < 32
Asked x n (Force p) = (numbered p).0 < 32
Asked x n r = Unit

abbrev pub Lent : Parts → ℕ → InterruptT → Type 0
Lent x n (Write i) = Holds x.channel n
Lent x n (Read i) = Holds x.channel n
Lent x n i = Unit

abbrev pub Needed : Parts → ℕ → Call → Type 0
Needed x n Enter = x.depth ≤ 8
Needed x n Exit = 0 < x.depth
Needed x n Switch = Unit
Needed x n (Reading r) = Readable x r
Needed x n (Process r) = Asked x n r
Needed x n Finish = Usable x n x.row.wait
Needed x n (Interrupt i) = Lent x n i
