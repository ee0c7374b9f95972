-- What a call answers, in the document's words: Done, Waiting, TimedOut, Busy, a value, or a refusal by its number (01, Calls and their steps; Refusal
-- numbers).
use Rattle.std.specs.Prelude.{ℕ, List, ◌++◌, codes}
use Rattle.std.specs.Fmt.{decimal}
use Rattle.rules.specs.declared.Answer.{Answer}
use Rattle.rules.specs.declared.Answer.TheVariants as answer
use Rattle.rules.specs.declared.Refusal.{Refusal}
use Rattle.rules.specs.declared.Refusal.TheVariants.{NotSound, RoomLength, InInterrupt, OutsideInterrupt, SwitchPending, IdleRuns, WaitOpen, NothingOpen, Missing, OwnedAlready, NotOwner, TooDeep, NonePending, OutsideLimits, Unreadable}

pub data Said : Type 0 where
  done : Said
  waiting : Said
  timed_out : Said
  busy : Said
  value : ℕ → Said
  refused : ℕ → Said

-- the document's number of each refusal
abbrev pub number : Refusal → ℕ
number NotSound = 1
number RoomLength = 2
number InInterrupt = 3
number OutsideInterrupt = 4
number SwitchPending = 5
number IdleRuns = 6
number WaitOpen = 7
number NothingOpen = 8
number Missing = 9
number OwnedAlready = 10
number NotOwner = 11
number TooDeep = 12
number NonePending = 13
number OutsideLimits = 14
number Unreadable = 15

abbrev pub said : Answer → Said
said answer.Done = done
said answer.Waiting = waiting
said answer.TimedOut = timed_out
said answer.Busy = busy
said (answer.Value v) = value v
said (answer.Refused r) = refused (number r)

-- how an answer prints
abbrev pub printed : Said → List ℕ
printed done = codes "done"
printed waiting = codes "waiting"
printed timed_out = codes "timedout"
printed busy = codes "busy"
printed (value v) = codes "value " ++ decimal v
printed (refused n) = codes "refused " ++ decimal n
