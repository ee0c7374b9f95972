-- The parts of the record: its slots, what an empty slot holds, and what its type says of it.
use Rattle.std.specs.Prelude.{ℕ, ◌-◌, Bool, false, ◌&&◌, List, eqb, get_or, length, None}
use Rattle.ring.specs.declared.Channel.{Channel}
use Rattle.record.specs.declared.Kernel.{Kernel}
use Rattle.record.specs.declared.Process.{Process}
use Rattle.record.specs.declared.Flag.{Flag}
use Rattle.record.specs.declared.Mutex.{Mutex}
use Rattle.record.specs.declared.Wait.{Wait}
use Rattle.record.specs.declared.Wait.TheVariants.{Nothing}

-- ---- what an empty slot holds
abbrev pub no_process : Process
no_process = record { counter = 0; wait = Nothing }

abbrev pub no_flag : Flag
no_flag = record { on = false; waiters = 0 }

abbrev pub no_mutex : Mutex
no_mutex = record { owner = None; waiters = 0 }

abbrev pub no_channel : Channel
no_channel = record { capacity = 0; first = 0; count = 0; readers = 0; writers = 0 }

-- ---- the slots
abbrev pub process_at : Kernel → ℕ → Process
process_at k p = get_or k.process p no_process

abbrev pub flag_at : Kernel → ℕ → Flag
flag_at k i = get_or k.flag i no_flag

abbrev pub mutex_at : Kernel → ℕ → Mutex
mutex_at k i = get_or k.mutex i no_mutex

abbrev pub channel_at : Kernel → ℕ → Channel
channel_at k i = get_or k.channel i no_channel

-- the open wait of process p
abbrev pub wait_of : Kernel → ℕ → Wait
wait_of k p = (process_at k p).wait

-- n, and the idle process n − 1 (3.3.5). The others are user processes
abbrev pub count : Kernel → ℕ
count k = k.setup.processes

abbrev pub idle : Kernel → ℕ
idle k = count k - 1

-- ---- what the record's type says of every record that a program holds: an array has its length
abbrev pub lengths : Kernel → Bool
lengths k = eqb (length k.process) 32 && eqb (length k.flag) 8 && eqb (length k.mutex) 8 && eqb (length k.channel) 4

-- ---- the service tables
pub record Services : Type 0 where
  pub flag : List Flag
  pub mutex : List Mutex
  pub channel : List Channel

abbrev pub services : Kernel → Services
services k = record { flag = k.flag; mutex = k.mutex; channel = k.channel }
