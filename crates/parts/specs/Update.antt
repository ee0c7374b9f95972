-- The parts with one field anew, each update once.
use Rattle.std.specs.Prelude.{ℕ}
use Rattle.maps.specs.declared.Number.{Number}
use Rattle.ring.specs.declared.Channel.{Channel}
use Rattle.record.specs.declared.Process.{Process}
use Rattle.record.specs.declared.Flag.{Flag}
use Rattle.record.specs.declared.Mutex.{Mutex}
use Rattle.record.specs.Places.{Place, nowhere, at_flag, at_mutex, at_readers, at_writers}
use Rattle.rules.specs.Update.{with_readers, with_writers}
use Rattle.parts.specs.declared.Parts.{Parts}

abbrev pub with_depth : Parts → ℕ → Parts
with_depth x d = record x { depth = d }

abbrev pub with_running : Parts → Number → Parts
with_running x p = record x { running = p }

abbrev pub with_next : Parts → Number → Parts
with_next x p = record x { next = p }

abbrev pub with_ready : Parts → ℕ → Parts
with_ready x m = record x { ready = m }

abbrev pub with_row : Parts → Process → Parts
with_row x p = record x { row = p }

-- ---- the services
pub record Services : Type 0 where
  pub flag : Flag
  pub mutex : Mutex
  pub channel : Channel

abbrev pub services : Parts → Services
services x = record { flag = x.flag; mutex = x.mutex; channel = x.channel }

abbrev pub with_services : Parts → Services → Parts
with_services x v = record x { flag = v.flag; mutex = v.mutex; channel = v.channel }

abbrev pub with_flag : Parts → Flag → Parts
with_flag x f = with_services x (record { flag = f; mutex = x.mutex; channel = x.channel })

abbrev pub with_mutex : Parts → Mutex → Parts
with_mutex x m = with_services x (record { flag = x.flag; mutex = m; channel = x.channel })

abbrev pub with_channel : Parts → Channel → Parts
with_channel x c = with_services x (record { flag = x.flag; mutex = x.mutex; channel = c })

-- ---- the map at a place: of the kind that the place is of
abbrev pub map_in : Services → Place → ℕ
map_in v nowhere = 0
map_in v (at_flag i) = v.flag.waiters
map_in v (at_mutex i) = v.mutex.waiters
map_in v (at_readers i) = v.channel.readers
map_in v (at_writers i) = v.channel.writers

abbrev pub map_at : Parts → Place → ℕ
map_at x a = map_in (services x) a

abbrev pub put_map : Services → Place → ℕ → Services
put_map v nowhere m = v
put_map v (at_flag i) m = record { flag = record { on = v.flag.on; waiters = m }; mutex = v.mutex; channel = v.channel }
put_map v (at_mutex i) m = record { flag = v.flag; mutex = record { owner = v.mutex.owner; waiters = m }; channel = v.channel }
put_map v (at_readers i) m = record { flag = v.flag; mutex = v.mutex; channel = with_readers v.channel m }
put_map v (at_writers i) m = record { flag = v.flag; mutex = v.mutex; channel = with_writers v.channel m }

abbrev pub with_map : Parts → Place → ℕ → Parts
with_map x a m = with_services x (put_map (services x) a m)
