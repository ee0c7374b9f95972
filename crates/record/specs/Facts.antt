-- Soundness as facts, for proofs: the seven rules over the parts that they look at, so that a change of another part leaves a fact by computation.
-- `sound k ≡ true` and `Sound k` say the same (proofs/Iff).
use Rattle.std.specs.Prelude.{ℕ, ◌-◌, ◌^◌, ◌<◌, ◌≤◌, ◌≡◌, Bool, true, false, not, ◌&&◌, ◌||◌, List, eqb, get_or, length}
use Rattle.maps.specs.Maps.{has, lowest}
use Rattle.ring.specs.Ring.{Fits}
use Rattle.record.specs.declared.Kernel.{Kernel}
use Rattle.record.specs.declared.Setup.{Setup}
use Rattle.record.specs.declared.Process.{Process}
use Rattle.record.specs.Words.{implies, exactly}
use Rattle.record.specs.Record.{Services, services, no_process, no_mutex, no_channel, count}
use Rattle.record.specs.Places.{Place, is_open, sleeps, limited, place_of, real_in, map_in}
use Rattle.record.specs.Sound.{user_owner}

-- rule 1 without the channels
pub record Limits (s : Setup) (depth running next : ℕ) : Type 0 where
  pub mode : s.mode ≤ 1
  pub two : 2 ≤ s.processes
  pub most : s.processes ≤ 32
  pub flags : s.flags ≤ 8
  pub mutexes : s.mutexes ≤ 8
  pub channels : s.channels ≤ 4
  pub depth-most : depth ≤ 8
  pub running-below : running < s.processes
  pub next-below : next < s.processes

-- of the service tables: their lengths, rule 6, and rule 1 of the channels
pub record Tables (s : Setup) (v : Services) : Type 0 where
  pub flag-long : length v.flag ≡ 8
  pub mutex-long : length v.mutex ≡ 8
  pub channel-long : length v.channel ≡ 4
  pub owners : (i : ℕ) → i < s.mutexes → user_owner s.processes (get_or v.mutex i no_mutex).owner ≡ true
  pub fits : (i : ℕ) → i < s.channels → Fits (get_or v.channel i no_channel)

-- rules 3 to 5 of one process but for which maps it is in, as a table of truth values: it has an open wait (o), sleeps (s), is limited (l), names an
-- existing service (e), is ready (r), has counter 0 (z), is in its map (h)
abbrev pub allowed : Bool → Bool → Bool → Bool → Bool → Bool → Bool → Bool
allowed o s l e r z h =
    implies (not o) (r && z) && implies o (s || e)
    && implies (not r) (o && (s || h) && exactly (not z) l)
    && implies (r && (not l || s || h)) z

-- rules 3 to 5 of one process, by: the places that are real, whether it is ready, its row of the table, and which maps it is in
pub record Fine (real : Place → Bool) (ready : Bool) (x : Process) (inside : Place → Bool) : Type 0 where
  pub only : (a : Place) → real a ≡ true → inside a ≡ true → place_of x.wait ≡ a
  pub status :
      allowed (is_open x.wait) (sleeps x.wait) (limited x.wait) (real (place_of x.wait)) ready (eqb x.counter 0) (inside (place_of x.wait))
      ≡ true

-- rules 2 to 5
pub record Waits (n : ℕ) (real : Place → Bool) (ready : ℕ) (process : List Process) (maps : Place → ℕ) : Type 0 where
  pub long : length process ≡ 32
  pub ready-within : ready < 2 ^ n
  pub within : (a : Place) → real a ≡ true → maps a < 2 ^ n
  pub idle-ready : has ready (n - 1) ≡ true
  pub idle-closed : is_open (get_or process (n - 1) no_process).wait ≡ false
  pub each : (p : ℕ) → p < n → Fine real (has ready p) (get_or process p no_process) (λ a. has (maps a) p)

-- all but rule 7
pub record Core (k : Kernel) : Type 0 where
  pub limits : Limits k.setup k.depth k.running.0 k.next.0
  pub tables : Tables k.setup (services k)
  pub waits : Waits (count k) (real_in k.setup) k.ready k.process (map_in (services k))

pub record Sound (k : Kernel) : Type 0 where
  pub core : Core k
  pub next-ready : has k.ready k.next.0 ≡ true
  pub next-lowest : k.depth ≡ 0 → k.next.0 ≡ lowest k.ready
  pub direct : k.setup.mode ≡ 0 → k.running.0 ≡ k.next.0
