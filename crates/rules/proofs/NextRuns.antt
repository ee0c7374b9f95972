-- A kernel with its next process running, in its own mode (as after a switch) or in direct mode: it is sound if the kernel is, and the verdicts on a call
-- are compared. Assumes nothing.
use Rattle.std.proofs.Common.{◌≡◌, ℕ, ◌≤◌, Bool, true, false, cond, not, ◌&&◌, eqb, Ok, Err, refl, subst, true≢false, zero-le}
use Rattle.record.specs.declared.Kernel.{Kernel}
use Rattle.record.specs.declared.Setup.{Setup}
use Rattle.record.specs.Record.{count, services}
use Rattle.record.specs.Places.{Place, nowhere, real_in, map_in}
use Rattle.record.specs.Sound.{sound}
use Rattle.record.specs.Facts.{Waits}
use Rattle.record.proofs.Iff.{sound-to, sound-from}
use Rattle.room.specs.Room.{room_length}
use Rattle.rules.specs.declared.Call.{Call}
use Rattle.rules.specs.declared.Call.TheVariants.{Enter, Exit, Switch, Reading, Process, Finish, Interrupt}
use Rattle.rules.specs.declared.Named.{Named}
use Rattle.rules.specs.declared.Named.TheVariants as named
use Rattle.rules.specs.declared.Refusal.TheVariants.{RoomLength, InInterrupt, NonePending}
use Rattle.rules.specs.Update.{with_running}
use Rattle.rules.specs.Calls.{is_process, is_switch, named_by_reading, named_by_interrupt, missing, needs_room}
use Rattle.rules.specs.Refusals.{verdict}
use Rattle.rules.specs.Deferred.{direct, with_mode, as_direct}

-- after a switch
abbrev pub settled : Kernel → Kernel
settled k = with_running k k.next

-- the kernel in mode m with next running
abbrev next_runs : ℕ → Kernel → Kernel
next_runs m k = record {
  setup = with_mode k.setup m;
  depth = k.depth;
  running = k.next;
  next = k.next;
  ready = k.ready;
  ticks = k.ticks;
  process = k.process;
  flag = k.flag;
  mutex = k.mutex;
  channel = k.channel;
}

-- a place is real whatever the mode
real-mode : (s : Setup) (m : ℕ) (a : Place) → real_in s a ≡ real_in (with_mode s m) a
real-mode s m nowhere = refl
real-mode s m a = refl

module _ (k : Kernel) (s : sound k ≡ true) where
  next-runs-sound : (m : ℕ) → m ≤ 1 → sound (next_runs m k) ≡ true
  next-runs-sound m h =
      let f = sound-to k s in
      let l = f.core.limits in
      sound-from (next_runs m k) (record {
        core = record {
          limits = record {
            mode = h;
            two = l.two;
            most = l.most;
            flags = l.flags;
            mutexes = l.mutexes;
            channels = l.channels;
            depth-most = l.depth-most;
            running-below = l.next-below;
            next-below = l.next-below;
          };
          tables = record {
            flag-long = f.core.tables.flag-long;
            mutex-long = f.core.tables.mutex-long;
            channel-long = f.core.tables.channel-long;
            owners = f.core.tables.owners;
            fits = f.core.tables.fits;
          };
          waits =
              subst (λ (real : Place → Bool). Waits (count k) real k.ready k.process (map_in (services k)))
              (λ i a. real-mode k.setup m a i) f.core.waits;
        };
        next-ready = f.next-ready;
        next-lowest = f.next-lowest;
        direct = λ e. refl;
      })

  pub direct-sound : sound (as_direct k) ≡ true
  direct-sound = next-runs-sound 0 zero-le

  settled-sound : sound (settled k) ≡ true
  settled-sound = next-runs-sound k.setup.mode (sound-to k s).core.limits.mode

-- ---- verdicts
-- what is missing is missing whatever the mode
missing-direct : (s : Setup) (n : Named) → missing (direct s) n ≡ missing s n
missing-direct s named.Nothing = refl
missing-direct s n = refl

module _ (k : Kernel) (n : ℕ) (s : sound k ≡ true) where
  -- with next running, on any call
  pub verdict-settled : (c : Call) → verdict (as_direct k) n c ≡ verdict (settled k) n c
  unfolding verdict
  verdict-settled c = simp (direct-sound k s, settled-sound k s, missing-direct)

  -- on a call that is neither a process call nor a switch
  pub verdict-other : (c : Call) → is_process c ≡ false → is_switch c ≡ false → verdict (as_direct k) n c ≡ verdict k n c
  unfolding verdict
  verdict-other Enter p q = rw s (rw (direct-sound k s) refl)
  verdict-other Exit p q = rw s (rw (direct-sound k s) refl)
  verdict-other Switch p q = absurd (true≢false q)
  verdict-other (Reading r) p q = rw s (rw (direct-sound k s) (rw (missing-direct k.setup (named_by_reading r)) refl))
  verdict-other (Process r) p q = absurd (true≢false p)
  verdict-other Finish p q = absurd (true≢false p)
  verdict-other (Interrupt i) p q = rw s (rw (direct-sound k s) (rw (missing-direct k.setup (named_by_interrupt i)) refl))

  -- on a process call inside an interrupt
  pub verdict-inside : (c : Call) → is_process c ≡ true → eqb k.depth 0 ≡ false
      → verdict k n c ≡ cond (needs_room c && not (eqb n (room_length k))) (Err RoomLength) (Err InInterrupt)
  unfolding verdict
  verdict-inside c p e = rw s (rw p (rw e refl))

  -- on a switch
  pub verdict-switch :
      verdict k n Switch ≡ cond (not (eqb k.depth 0)) (Err InInterrupt) (cond (eqb k.running.0 k.next.0) (Err NonePending) (Ok tt))
  unfolding verdict
  verdict-switch = rw s refl
