-- The tick, which is no matter of one slot: after an accepted tick the counters of all user processes fall.
use Rattle.std.specs.Prelude.{Bool, true, false, cond}
use Rattle.record.specs.declared.Kernel.{Kernel}
use Rattle.rules.specs.declared.Call.{Call}
use Rattle.rules.specs.declared.Call.TheVariants.{Interrupt}
use Rattle.rules.specs.declared.Interrupt.TheVariants.{Tick}
use Rattle.rules.specs.Effects.{ticked}

abbrev pub is_tick : Call → Bool
is_tick (Interrupt Tick) = true
is_tick c = false

-- after a call that is a tick
abbrev pub after_tick : Bool → Kernel → Kernel
after_tick b k = cond b (ticked k) k
