-- A direct kernel and a deferred one, side by side: what is asked of both, and what it means that they are in step.
use Rattle.std.specs.Prelude.{ℕ, ◌<◌, ◌≡◌, Bool, true, false, List, [], ◌∷◌}
use Rattle.maps.specs.Maps.{has}
use Rattle.record.specs.declared.Kernel.{Kernel}
use Rattle.record.specs.declared.Setup.{Setup}
use Rattle.record.specs.Fresh.{fresh}
use Rattle.rules.specs.declared.Call.{Call}
use Rattle.rules.specs.declared.Call.TheVariants.{Enter, Exit, Switch, Reading, Process, Finish, Interrupt}
use Rattle.rules.specs.declared.Reading.TheVariants as reading
use Rattle.rules.specs.Answers.{Said, done, waiting, timed_out, busy, value, refused}
use Rattle.rules.specs.Calls.{is_process, is_switch}
use Rattle.rules.specs.Step.{Given, Event, State}

-- ---- set up alike: the same counts and capacities, one direct, one deferred; equal rooms
abbrev pub with_mode : Setup → ℕ → Setup
with_mode s m = record { mode = m; processes = s.processes; flags = s.flags; mutexes = s.mutexes; channels = s.channels }

abbrev pub direct : Setup → Setup
direct s = with_mode s 0

abbrev pub deferred : Setup → Setup
deferred s = with_mode s 1

abbrev pub starting : Setup → List ℕ → List ℕ → State
starting s capacities room = record { kernel = fresh s capacities; room = room }

-- ---- given the same calls, none a switch; the deferred one with a switch offered just before each process call and anywhere else besides. Newest first
abbrev pub switching : List ℕ → Given
switching block = record { call = Switch; block = block }

pub data Offered : List Given → List Given → Type 0 where
  nothing : Offered [] []
  switch : {ds fs : List Given} (block : List ℕ) → Offered ds fs → Offered ds (switching block ∷ fs)
  other : {ds fs : List Given} (g : Given) → is_process g.call ≡ false → is_switch g.call ≡ false → Offered ds fs → Offered (g ∷ ds) (g ∷ fs)
  process : {ds fs : List Given} (g : Given) (block : List ℕ) → is_process g.call ≡ true → Offered ds fs → Offered (g ∷ ds) (g ∷ switching block ∷ fs)

-- ---- the records: the direct kernel's is the deferred one's in direct mode with next running, so the two are the same save mode and running, and the
-- process that the deferred one would run next is the one that the direct one runs
abbrev pub as_direct : Kernel → Kernel
as_direct k = record { setup = direct k.setup; depth = k.depth; running = k.next; next = k.next; ready = k.ready; ticks = k.ticks; process = k.process; flag = k.flag; mutex = k.mutex; channel = k.channel }

-- p is the lowest-numbered process in map m
pub record LowestIn (m p : ℕ) : Type 0 where
  pub inside : has m p ≡ true
  pub below : (q : ℕ) → q < p → has m q ≡ false

pub record InStep (d f : State) : Type 0 where
  pub mode : f.kernel.setup.mode ≡ 1
  pub records : d.kernel ≡ as_direct f.kernel
  pub rooms : d.room ≡ f.room
  pub lowest : f.kernel.depth ≡ 0 → LowestIn d.kernel.ready d.kernel.running.0

-- ---- what is seen of the calls: the same blocks, the same answers save the reading of the running process; and an accepted process call is made by the
-- same process
abbrev pub reads_running : Call → Bool
reads_running Enter = false
reads_running Exit = false
reads_running Switch = false
reads_running (Reading reading.Running) = true
reads_running (Reading reading.Next) = false
reads_running (Reading reading.Ready) = false
reads_running (Reading reading.Ticks) = false
reads_running (Reading (reading.FlagState i)) = false
reads_running (Reading (reading.Owner i)) = false
reads_running (Reading (reading.ItemCount i)) = false
reads_running (Reading (reading.FreePlaces i)) = false
reads_running (Process r) = false
reads_running Finish = false
reads_running (Interrupt i) = false

abbrev pub is_refused : Said → Bool
is_refused done = false
is_refused waiting = false
is_refused timed_out = false
is_refused busy = false
is_refused (value v) = false
is_refused (refused n) = true

pub record SameEvent (d f : Event) : Type 0 where
  pub given : d.given ≡ f.given
  pub answers : reads_running d.given.call ≡ false → d.answer ≡ f.answer
  pub blocks : d.block ≡ f.block
  pub callers : is_process d.given.call ≡ true → is_refused d.answer ≡ false → d.caller ≡ f.caller

-- call by call, the switches of the deferred one left out
pub data SameSeen : List Event → List Event → Type 0 where
  nothing : SameSeen [] []
  switch : {ds fs : List Event} (f : Event) → is_switch f.given.call ≡ true → SameSeen ds fs → SameSeen ds (f ∷ fs)
  call : {ds fs : List Event} (d f : Event) → SameEvent d f → SameSeen ds fs → SameSeen (d ∷ ds) (f ∷ fs)
