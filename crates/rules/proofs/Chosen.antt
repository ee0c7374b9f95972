-- Rule 7, the rest being kept: choose restores it; inside an interrupt it stays, since nobody stops being ready. Assumes nothing.
use Rattle.std.proofs.Common.{◌≡◌, ℕ, ◌<◌, ◌≤◌, true, cond, eqb, List, refl, arith, eq-eqb}
use Rattle.std.proofs.lemmas.Bool.{cond_both}
use Rattle.maps.specs.declared.Number.{Number}
use Rattle.maps.specs.Maps.{has, lowest}
use Rattle.maps.proofs.Lowest.{lowest-member, lowest-below}
use Rattle.record.specs.declared.Kernel.{Kernel}
use Rattle.record.specs.declared.Process.{Process}
use Rattle.record.specs.Record.{Services, count, idle}
use Rattle.record.specs.Places.{map_in, real_in}
use Rattle.record.specs.Facts.{Limits, Tables, Waits, Core, Sound}
use Rattle.rules.specs.Update.{with_depth, with_running}
use Rattle.rules.specs.Blocks.{choose, lowest_ready}

module _ {k : Kernel} (c : Core k) where
  -- other depth, running and next
  moved : {depth running next : ℕ} → depth ≤ 8 → running < count k → next < count k → Limits k.setup depth running next
  moved d r n = record {
    mode = c.limits.mode;
    two = c.limits.two;
    most = c.limits.most;
    flags = c.limits.flags;
    mutexes = c.limits.mutexes;
    channels = c.limits.channels;
    depth-most = d;
    running-below = r;
    next-below = n;
  }

  pub at-depth : (d : ℕ) → d ≤ 8 → Core (with_depth k d)
  at-depth d h = record { limits = moved h c.limits.running-below c.limits.next-below; tables = c.tables; waits = c.waits }

  -- idle is ready, so there is a lowest-numbered ready process
  chosen-below : lowest k.ready < count k
  chosen-below = lowest-below (count k) k.ready (idle k) c.limits.most c.waits.ready-within c.waits.idle-ready

  running-below : (cond (eqb k.setup.mode 0) (lowest_ready k) k.running).0 < count k
  running-below = cond_both (eqb k.setup.mode 0) _ _ (λ (p : Number). p.0 < count k) (λ e. chosen-below) (λ e. c.limits.running-below)

  pub chosen : Sound (choose k)
  unfolding choose
  chosen = record {
    core = record { limits = moved c.limits.depth-most running-below chosen-below; tables = c.tables; waits = c.waits };
    next-ready = lowest-member (count k) k.ready (idle k) c.limits.most c.waits.ready-within c.waits.idle-ready;
    next-lowest = λ e. refl;
    direct = λ e. rw (eq-eqb k.setup.mode 0 e);
  }

-- ---- the record with other ready map, ticks, processes and services
abbrev pub built : Kernel → ℕ → ℕ → List Process → Services → Kernel
built k ready ticks process v = record {
  setup = k.setup;
  depth = k.depth;
  running = k.running;
  next = k.next;
  ready = ready;
  ticks = ticks;
  process = process;
  flag = v.flag;
  mutex = v.mutex;
  channel = v.channel;
}

pub rebuilt : {k : Kernel} → Core k → (v : Services) {ready ticks : ℕ} {process : List Process} → Tables k.setup v
    → Waits (count k) (real_in k.setup) ready process (map_in v) → Core (built k ready ticks process v)
rebuilt c v t w = record { limits = c.limits; tables = t; waits = w }

-- inside an interrupt next need not be the lowest
pub inside : {k : Kernel} → Core k → 0 < k.depth → has k.ready k.next.0 ≡ true → (k.setup.mode ≡ 0 → k.running.0 ≡ k.next.0) → Sound k
inside c d r f = record { core = c; next-ready = r; next-lowest = λ e. absurd (omega arith); direct = f }

module _ {k : Kernel} (s : Sound k) where
  pub deep : (d : ℕ) → d ≤ 8 → 0 < d → Sound (with_depth k d)
  deep d h l = inside (at-depth s.core d h) l s.next-ready s.direct

  pub switched : Sound (with_running k k.next)
  switched = record {
    core = record {
      limits = moved s.core s.core.limits.depth-most s.core.limits.next-below s.core.limits.next-below;
      tables = s.core.tables;
      waits = s.core.waits;
    };
    next-ready = s.next-ready;
    next-lowest = s.next-lowest;
    direct = λ e. refl;
  }
