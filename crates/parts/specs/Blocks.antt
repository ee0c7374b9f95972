-- The blocks that calls are made of, over the parts: the rules of `Rattle.rules.specs.Blocks`, word for word. The row is the caller's.
use Rattle.std.specs.Prelude.{ℕ, cond, eqb}
use Rattle.std.specs.Int.Bits.{bit_or}
use Rattle.maps.specs.declared.Number.{Number}
use Rattle.maps.specs.declared.Wake.{Wake}
use Rattle.maps.specs.Maps.{minus, lowest, wake_all, wake_one}
use Rattle.record.specs.declared.Wait.{Wait}
use Rattle.record.specs.Record.{no_process}
use Rattle.record.specs.Places.{Place, place_of}
use Rattle.parts.specs.declared.Parts.{Parts}
use Rattle.parts.specs.Update.{with_running, with_next, with_ready, with_row, map_at, with_map}

abbrev pub caller_tag : Parts → ℕ
caller_tag x = x.caller.0

abbrev pub lowest_ready : Parts → Number
lowest_ready x = record { 0 = lowest x.ready }

abbrev pub choose : Parts → Parts
choose x = with_next (with_running x (cond (eqb x.setup.mode 0) (lowest_ready x) x.running)) (lowest_ready x)

abbrev pub stopped : Parts → Parts
stopped x = with_ready x (minus x.ready (caller_tag x))

abbrev pub entered : Parts → Place → Parts
entered x a = with_map x a (bit_or (map_at x a) (caller_tag x))

abbrev pub left : Parts → Place → Parts
left x a = with_map x a (minus (map_at x a) (caller_tag x))

abbrev pub opened : Parts → Wait → ℕ → Parts
opened x w t = entered (with_row (stopped x) (record { counter = t; wait = w })) (place_of w)

abbrev pub closed : Parts → Parts
closed x = with_row x no_process

abbrev pub again : Parts → Wait → Parts
again x w = entered (stopped x) (place_of w)

-- wake all, and wake one, on a map
abbrev pub waking_all : Parts → ℕ → Wake
waking_all x map = wake_all map x.ready

abbrev pub waking_one : Parts → ℕ → Wake
waking_one x map = wake_one map x.ready
