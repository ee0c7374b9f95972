-- The blocks of the calls on the whole record: each keeps all rules but the seventh. Assumes nothing.
use Rattle.std.proofs.Common.{◌≡◌, ℕ, ◌<◌, true, false, not, ◌&&◌, eqb, sym, refl, ap, ◌∙◌, subst, true≢false, le_refl, arith, ltb-true, lt-ltb}
use Rattle.maps.specs.Maps.{has}
use Rattle.maps.proofs.Members.{has-zero}
use Rattle.ring.specs.declared.Channel.{Channel}
use Rattle.ring.specs.declared.End.{End}
use Rattle.ring.specs.Ring.{Fits, gained, taken}
use Rattle.record.specs.declared.Kernel.{Kernel}
use Rattle.record.specs.declared.Wait.{Wait}
use Rattle.record.specs.Record.{Services, services, process_at, channel_at, idle, wait_of}
use Rattle.record.specs.Places.{Place, nowhere, at_flag, at_mutex, at_readers, at_writers, is_open, sleeps, limited, place_of, map_at, real}
use Rattle.record.specs.Facts.{Core}
use Rattle.record.proofs.Place.{sleeps-nowhere}
use Rattle.rules.specs.Update.{with_readers, with_writers}
use Rattle.rules.specs.Blocks.{caller, is_limited, opened, closed, again, left, waking_all, waking_one}
use Rattle.rules.specs.Effects.{has_room, cleared, signalled, locked, unlocked, readers_woken, writers_woken, pushed, popped, flushed, forced, ticked}
use Rattle.rules.specs.Finish.{still_in}
use Rattle.rules.proofs.Accepted.{Caller}
use Rattle.rules.proofs.Put.{Change, flag-change, mutex-change, readers-change, writers-change, refitted, map-change}
use Rattle.rules.proofs.Changed as change
use Rattle.rules.proofs.Woken as wake
use Rattle.rules.proofs.Counted.{counted-waits}
use Rattle.rules.proofs.Chosen.{built, rebuilt}
use Rattle.rules.proofs.Fitting.{gained-writers, taken-readers, gained-fits, taken-fits, emptied-fits}

limited-is : (t : ℕ) → is_limited t ≡ not (eqb t 0)
limited-is t = grind arith

module _ {k : Kernel} (c : Core k) where
  -- ---- a service changes, and the map at its place stays, or is woken
  module _ (a : Place) {v : Services} where
    same : Change k a (map_at k a) v → Core (built k k.ready k.ticks k.process v)
    same d = rebuilt c v d.tables (change.repeated c.waits a d.put)

    woken-all : Change k a (waking_all k a).map v → Core (built k (waking_all k a).ready k.ticks k.process v)
    woken-all d = rebuilt c v d.tables (wake.woken-all c.waits a refl d.there d.put)

    woken-one : Change k a (waking_one k a).map v → Core (built k (waking_one k a).ready k.ticks k.process v)
    woken-one d = rebuilt c v d.tables (wake.woken-one c.waits a refl d.there c.limits.most d.put)

  -- flags
  pub cleared-core : (i : ℕ) → i < k.setup.flags → Core (cleared k i)
  unfolding cleared
  cleared-core i h = same (at_flag i) (flag-change c i _ h)

  pub signalled-core : (i : ℕ) → i < k.setup.flags → Core (signalled k i)
  unfolding signalled
  signalled-core i h = woken-all (at_flag i) (flag-change c i _ h)

  -- mutexes
  pub locked-core : (i : ℕ) → i < k.setup.mutexes → k.running.0 < idle k → Core (locked k i)
  unfolding locked
  locked-core i h u = same (at_mutex i) (mutex-change c i _ h (lt-ltb k.running.0 (idle k) u))

  pub unlocked-core : (i : ℕ) → i < k.setup.mutexes → Core (unlocked k i)
  unfolding unlocked
  unlocked-core i h = woken-one (at_mutex i) (mutex-change c i _ h refl)

  -- channels
  module _ (i : ℕ) (h : i < k.setup.channels) where
    pub fits-at : Fits (channel_at k i)
    fits-at = c.tables.fits i h

    pub readers-core : (x : Channel) → Fits x → x.writers ≡ (channel_at k i).writers → Core (readers_woken k i x)
    readers-core x f e = woken-all (at_readers i) (readers-change c i (with_readers x (waking_all k (at_readers i)).map) h (refitted f) e)

    pub writers-core : (x : Channel) → Fits x → x.readers ≡ (channel_at k i).readers → Core (writers_woken k i x)
    writers-core x f e = woken-all (at_writers i) (writers-change c i (with_writers x (waking_all k (at_writers i)).map) h (refitted f) e)

    pub pushed-core : (e : End) → has_room (channel_at k i) ≡ true → Core (pushed k i e)
    unfolding pushed
    pushed-core e q =
        let x = channel_at k i in
        readers-core (gained e x) (gained-fits x fits-at e (ltb-true x.count x.capacity q)) (gained-writers x e)

    pub popped-core : (e : End) → Core (popped k i e)
    unfolding popped
    popped-core e = let x = channel_at k i in writers-core (taken e x) (taken-fits x fits-at e) (taken-readers x e)

    pub flushed-core : Core (flushed k i)
    unfolding flushed
    flushed-core = same (at_readers i) (readers-change c i _ h (emptied-fits (channel_at k i) fits-at) refl)

  -- ---- counters
  pub forced-core : (p : ℕ) → p < idle k → Core (forced k p)
  unfolding forced
  forced-core p h = rebuilt c (services k) c.tables (change.forced c.waits p h c.limits.most)

  pub ticked-core : Core (ticked k)
  ticked-core = rebuilt c (services k) c.tables (counted-waits c.limits.most (idle k) _ (le_refl (idle k)) c.waits)

  -- ---- the caller opens a wait, or ends its own
  module _ (r : Caller k) where
    module _ (was : is_open (wait_of k (caller k)) ≡ false) (w : Wait) (t : ℕ) (now : is_open w ≡ true) (limit : limited w ≡ is_limited t) where
      pub slept-core : place_of w ≡ nowhere → sleeps w ≡ true → Core (opened k w t)
      unfolding opened
      slept-core e s =
          rw e (rebuilt c (services k) c.tables
          (change.opened-asleep c.waits (caller k) r.user c.limits.most w t was refl now (limit ∙ limited-is t) s))

      pub opened-core : real k (place_of w) ≡ true → Core (opened k w t)
      unfolding opened
      opened-core e =
          let d = map-change c (place_of w) _ e in
          rebuilt c _ d.tables
          (change.opened-at c.waits (caller k) r.user c.limits.most w t was refl now (limit ∙ limited-is t) e d.put)

    module _ (w : Wait) (own : wait_of k (caller k) ≡ w) where
      pub names : is_open w ≡ true → sleeps w ≡ false → real k (place_of w) ≡ true
      names o s = rw (sym own) (change.names c.waits (caller k) r.user (ap is_open own ∙ o) (ap sleeps own ∙ s))

      -- who is in a map does not sleep
      pub still-awake : still_in k w ≡ true → sleeps w ≡ false
      still-awake i = sleeps-nowhere w (λ z. true≢false (sym i ∙ ap (λ (a : Place). has (map_at k a) (caller k)) z ∙ has-zero (caller k)))

      pub closed-core : still_in k w ≡ false → Core (closed k)
      unfolding closed
      closed-core q =
          rebuilt c (services k) c.tables
          (change.closed-out c.waits (caller k) r.user c.limits.most r.awake
          (ap (λ (x : Wait). has (map_at k (place_of x)) (caller k)) own ∙ q))

      pub left-core : real k (place_of w) ≡ true → Core (left (closed k) (place_of w))
      unfolding closed
      left-core e =
          subst (λ (x : Wait). real k (place_of x) ≡ true → Core (left (closed k) (place_of x))) own
          (λ e. let d = map-change c (place_of (wait_of k (caller k))) _ e in
          rebuilt c _ d.tables (change.closed-left c.waits (caller k) r.user c.limits.most r.awake e d.put)) e

      pub again-core : is_open w ≡ true → real k (place_of w) ≡ true → limited w && eqb (process_at k (caller k)).counter 0 ≡ false → Core (again k w)
      unfolding again
      again-core =
          subst
          (λ (x : Wait). is_open x ≡ true → real k (place_of x) ≡ true → limited x && eqb (process_at k (caller k)).counter 0 ≡ false → Core (again k x))
          own
          (λ o e l. let d = map-change c (place_of (wait_of k (caller k))) _ e in
          rebuilt c _ d.tables (change.back_in c.waits (caller k) r.user c.limits.most r.awake o e l d.put))
