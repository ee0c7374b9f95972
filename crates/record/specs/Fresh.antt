-- Setup (01, A fresh record; refusal 14).
use Rattle.std.specs.Prelude.{ℕ, Bool, cond, ◌&&◌, ◌||◌, List, [], ◌∷◌, ltb, leb, get_or, replicate, ⊤, Result, Ok, Err}
use Rattle.ring.specs.declared.Channel.{Channel}
use Rattle.maps.specs.Maps.{everyone}
use Rattle.record.specs.declared.Kernel.{Kernel}
use Rattle.record.specs.declared.Setup.{Setup}
use Rattle.record.specs.declared.fresh.Fresh.{Fresh}
use Rattle.record.specs.declared.fresh.OutsideLimits.{OutsideLimits}
use Rattle.record.specs.Limits.{counts_fit, capacity_fits}
use Rattle.record.specs.Record.{no_process, no_flag, no_mutex, no_channel}

-- the document's number of the answer: 14, setup outside the limits; 0 where there is no refusal
abbrev pub refusal_number : Result ⊤ OutsideLimits → ℕ
refusal_number (Ok done) = 0
refusal_number (Err e) = 14

-- the record of all zeros: direct mode, no waits, owners nobody
abbrev pub zeros : Kernel
zeros = record {
  setup = record { mode = 0; processes = 0; flags = 0; mutexes = 0; channels = 0 };
  depth = 0;
  running = record { 0 = 0 };
  next = record { 0 = 0 };
  ready = 0;
  ticks = 0;
  process = replicate 32 no_process;
  flag = replicate 8 no_flag;
  mutex = replicate 8 no_mutex;
  channel = replicate 4 no_channel;
}

-- channel i of a setup with n channels: empty with first 0; zeros where there is no such channel
abbrev pub start_channel : ℕ → ℕ → ℕ → Channel
start_channel n i capacity = cond (ltb i n) (record { capacity = capacity; first = 0; count = 0; readers = 0; writers = 0 }) no_channel

-- all ready, running 0, next 0, nothing open, flags off, mutexes free, channels empty with first 0, ticks 0, depth 0
abbrev pub fresh : Setup → List ℕ → Kernel
fresh s capacities = record {
  setup = s;
  depth = 0;
  running = record { 0 = 0 };
  next = record { 0 = 0 };
  ready = everyone s.processes;
  ticks = 0;
  process = replicate 32 no_process;
  flag = replicate 8 no_flag;
  mutex = replicate 8 no_mutex;
  channel =
      start_channel s.channels 0 (get_or capacities 0 0) ∷ start_channel s.channels 1 (get_or capacities 1 0)
      ∷ start_channel s.channels 2 (get_or capacities 2 0) ∷ start_channel s.channels 3 (get_or capacities 3 0) ∷ [];
}

-- the counts are within their limits, and so is the capacity of every channel that there is
abbrev pub capacity_allowed : ℕ → ℕ → ℕ → Bool
capacity_allowed n i capacity = leb n i || capacity_fits capacity

unfoldable pub setup_fits : Setup → List ℕ → Bool
setup_fits s capacities =
    counts_fit s && capacity_allowed s.channels 0 (get_or capacities 0 0) && capacity_allowed s.channels 1 (get_or capacities 1 0)
    && capacity_allowed s.channels 2 (get_or capacities 2 0) && capacity_allowed s.channels 3 (get_or capacities 3 0)

-- setup is refused by number 14 exactly if it is outside the limits
abbrev pub setup_refusal : Setup → List ℕ → ℕ
setup_refusal s capacities = cond (setup_fits s capacities) 0 14

-- the fresh record within the limits; outside them refusal 14 and the record of all zeros
abbrev pub begun : Setup → List ℕ → Fresh
begun s capacities = cond (setup_fits s capacities) (record { answer = Ok tt; kernel = fresh s capacities }) (record { answer = Err (record {}); kernel = zeros })
