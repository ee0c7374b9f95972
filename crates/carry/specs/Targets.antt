-- What an accepted call works on, and which of two blocks a call is lent.
use Rattle.std.specs.Prelude.{ℕ, Bool, true, false, cond, List}
use Rattle.record.specs.declared.Kernel.{Kernel}
use Rattle.record.specs.declared.Wait.{Wait}
use Rattle.record.specs.Record.{wait_of}
use Rattle.rules.specs.declared.Call.{Call}
use Rattle.rules.specs.declared.Call.TheVariants.{Interrupt}
use Rattle.rules.specs.declared.Interrupt.TheVariants.{Write}
use Rattle.rules.specs.declared.Named.{Named}
use Rattle.rules.specs.Calls.{is_finish, named_by}
use Rattle.parts.specs.declared.Spot.{Spot}
use Rattle.parts.specs.Spots.{named_by_wait, slots}

-- finish names what the caller's open wait names
abbrev pub target : Wait → Call → Named
target w c = cond (is_finish c) (named_by_wait w) (named_by c)

abbrev pub worked_on : Kernel → Call → Spot
worked_on k c = slots k.running.0 (target (wait_of k k.running.0) c)

-- a write from interrupt is lent the first, every other call the second
abbrev pub is_write : Call → Bool
is_write (Interrupt (Write i)) = true
is_write c = false

abbrev pub lent : Call → List ℕ → List ℕ → List ℕ
lent c from to = cond (is_write c) from to
