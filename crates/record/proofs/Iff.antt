-- The test `sound` and the facts `Sound` say the same. Assumes nothing.
use Rattle.std.proofs.Common.{ℕ, ◌^◌, ◌≡◌, refl, sym, ap, ◌∙◌, ◌↔◌, Bool, true, false, not, ◌&&◌, ◌||◌, ltb-true, lt-ltb, arith}
use Rattle.std.proofs.Math.Bool.{and-eq-true_iff, false≢true}
use Rattle.maps.specs.Maps.{has}
use Rattle.maps.proofs.Truth.{both}
use Rattle.ring.specs.declared.Channel.{Channel}
use Rattle.ring.specs.Ring.{Fits}
use Rattle.record.specs.declared.Kernel.{Kernel}
use Rattle.record.specs.Words.{implies, all_below}
use Rattle.record.specs.Limits.{channel_fits}
use Rattle.record.specs.Record.{process_at, mutex_at, channel_at, wait_of, count, idle, lengths}
use Rattle.record.specs.Places.{Place, is_open, sleeps, limited, place_of, real_in, real, map_at, same_place}
use Rattle.record.specs.Sound.{is_ready, rests, in_its_map, in_no_map, in_no_map_but, within, rule1, rule2, rule3, rule4, rule5, rule6, rule7, user_owner, sound}
use Rattle.record.specs.Facts.{Fine, Sound}
use Rattle.record.proofs.Logic.{facts, all-iff, imp-iff}
use Rattle.record.proofs.Place.{same-eq, same_self, places-to, places-from, closed-out}
use Rattle.record.proofs.Status as status

-- ---- a channel within its limits
pub channel-to : (c : Channel) → channel_fits c ≡ true → Fits c
channel-to c h = let s = simp facts at h in record { some = s.0.0.0; most = s.0.0.1; first = s.0.1; count = s.1 }

pub channel-from : (c : Channel) → Fits c → channel_fits c ≡ true
channel-from c f = simp facts (((f.some, f.most), f.first), f.count)

module _ (k : Kernel) (p : ℕ) where
  abbrev pub FineAt : Type 0
  FineAt = Fine (real_in k.setup) (is_ready k p) (process_at k p) (λ a. has (map_at k a) p)

  -- ---- rules 3 to 5 of one process
  pub fine-to : rule3 k p ≡ true → rule4 k p ≡ true → rule5 k p ≡ true → FineAt
  fine-to h3 h4 h5 = record {
    only = λ a r i. go a r i (is_open (wait_of k p)) refl;
    status =
        status.to-allowed (is_open (wait_of k p)) (sleeps (wait_of k p)) (limited (wait_of k p)) (real k (place_of (wait_of k p))) (is_ready k p) (rests k p) (in_its_map k p)
        (in_no_map k p) (in_no_map_but k (place_of (wait_of k p)) p) h3 h4 h5;
  }
    where
      go : (a : Place) → real k a ≡ true → has (map_at k a) p ≡ true → (o : Bool) → is_open (wait_of k p) ≡ o → place_of (wait_of k p) ≡ a
      go a r i true e =
          let parts = (and-eq-true_iff (implies (not (is_open (wait_of k p))) (is_ready k p && rests k p && in_no_map k p)) _).0 h3 in
          let u = ((and-eq-true_iff (sleeps (wait_of k p) || real k (place_of (wait_of k p))) _).0 ((imp-iff (is_open (wait_of k p)) _).0 parts.1 e)).1 in
          same-eq (place_of (wait_of k p)) a ((imp-iff (has (map_at k a) p) _).0 (places-to k.setup (λ a. implies (has (map_at k a) p) (same_place (place_of (wait_of k p)) a)) u a r) i)
      go a r i false e =
          let parts = (and-eq-true_iff (implies (not (is_open (wait_of k p))) (is_ready k p && rests k p && in_no_map k p)) _).0 h3 in
          let m = ((and-eq-true_iff (is_ready k p && rests k p) _).0 ((imp-iff (not (is_open (wait_of k p))) _).0 parts.0 (ap not e))).1 in
          absurd (false≢true (ap not (sym i) ∙ places-to k.setup (λ a. not (has (map_at k a) p)) m a r))

  module _ (f : FineAt) where
    closed-in-none : is_open (wait_of k p) ≡ false → in_no_map k p ≡ true
    closed-in-none e = places-from k.setup (λ a. not (has (map_at k a) p)) (λ a r. out a r (has (map_at k a) p) refl)
      where
        out : (a : Place) → real k a ≡ true → (t : Bool) → has (map_at k a) p ≡ t → not t ≡ true
        out a r true i = absurd (closed-out k.setup (wait_of k p) a e r (f.only a r i))
        out a r false i = refl

    in-none-but : in_no_map_but k (place_of (wait_of k p)) p ≡ true
    in-none-but =
        places-from k.setup (λ a. implies (has (map_at k a) p) (same_place (place_of (wait_of k p)) a))
        (λ a r. (imp-iff (has (map_at k a) p) (same_place (place_of (wait_of k p)) a)).1
        (λ i. ap (same_place (place_of (wait_of k p))) (sym (f.only a r i)) ∙ same_self (place_of (wait_of k p))))

    pub fine-three : rule3 k p ≡ true
    fine-three =
        status.to-three (is_open (wait_of k p)) (sleeps (wait_of k p)) (limited (wait_of k p)) (real k (place_of (wait_of k p))) (is_ready k p) (rests k p) (in_its_map k p)
        (in_no_map k p) (in_no_map_but k (place_of (wait_of k p)) p) f.status
        ((imp-iff (not (is_open (wait_of k p))) (in_no_map k p)).1 (λ e. closed-in-none (simp facts at e)))
        ((imp-iff (is_open (wait_of k p)) _).1 (λ e. in-none-but))

    pub fine-four : rule4 k p ≡ true
    fine-four =
        status.to-four (is_open (wait_of k p)) (sleeps (wait_of k p)) (limited (wait_of k p)) (real k (place_of (wait_of k p))) (is_ready k p) (rests k p) (in_its_map k p) f.status

    pub fine-five : rule5 k p ≡ true
    fine-five =
        status.to-five (is_open (wait_of k p)) (sleeps (wait_of k p)) (limited (wait_of k p)) (real k (place_of (wait_of k p))) (is_ready k p) (rests k p) (in_its_map k p) f.status

    pub closed-rests : is_open (wait_of k p) ≡ false → rests k p ≡ true
    closed-rests e =
        status.closed-rests (sleeps (wait_of k p)) (limited (wait_of k p)) (real k (place_of (wait_of k p))) (is_ready k p) (rests k p) (in_its_map k p) (rw e at f.status)

module _ (k : Kernel) where
  pub sound-to : sound k ≡ true → Sound k
  unfolding sound
  sound-to h =
      let a = (and-eq-true_iff (lengths k && rule1 k && rule2 k && all_below (count k) (rule3 k) && all_below (count k) (rule4 k) && all_below (count k) (rule5 k) && rule6 k) (rule7 k)).0 h in
      let b = (and-eq-true_iff (lengths k && rule1 k && rule2 k && all_below (count k) (rule3 k) && all_below (count k) (rule4 k) && all_below (count k) (rule5 k)) (rule6 k)).0 a.0 in
      let r5 = (and-eq-true_iff (lengths k && rule1 k && rule2 k && all_below (count k) (rule3 k) && all_below (count k) (rule4 k)) (all_below (count k) (rule5 k))).0 b.0 in
      let r4 = (and-eq-true_iff (lengths k && rule1 k && rule2 k && all_below (count k) (rule3 k)) (all_below (count k) (rule4 k))).0 r5.0 in
      let r3 = (and-eq-true_iff (lengths k && rule1 k && rule2 k) (all_below (count k) (rule3 k))).0 r4.0 in
      let e = (and-eq-true_iff (lengths k && rule1 k) (rule2 k)).0 r3.0 in
      let g = (and-eq-true_iff (lengths k) (rule1 k)).0 e.0 in
      let t = simp facts at g.0 in
      let m = simp facts at g.1 in
      let n = simp facts at e.1 in
      let q = simp facts at a.1 in
      record {
        core = record {
          limits = record {
            mode = m.0.0.0.0.0.0.0.0.0;
            two = m.0.0.0.0.0.0.0.0.1;
            most = m.0.0.0.0.0.0.0.1;
            flags = m.0.0.0.0.0.0.1;
            mutexes = m.0.0.0.0.0.1;
            channels = m.0.0.0.0.1;
            depth-most = m.0.0.0.1;
            running-below = m.0.0.1;
            next-below = m.0.1;
          };
          tables = record {
            flag-long = t.0.0.1;
            mutex-long = t.0.1;
            channel-long = t.1;
            owners = (all-iff k.setup.mutexes (λ i. user_owner (count k) (mutex_at k i).owner)).0 b.1;
            fits = λ i h. channel-to (channel_at k i) ((all-iff k.setup.channels (λ i. channel_fits (channel_at k i))).0 m.1 i h);
          };
          waits = record {
            long = t.0.0.0;
            ready-within = n.0.0.0.0.0;
            within = λ a r. ltb-true (map_at k a) (2 ^ count k) (places-to k.setup (λ a. within (count k) (map_at k a)) n.0.0.0.0.1 a r);
            idle-ready = n.0.0.0.1;
            idle-closed = n.0.0.1;
            each = λ p h. fine-to k p ((all-iff (count k) (rule3 k)).0 r3.1 p h) ((all-iff (count k) (rule4 k)).0 r4.1 p h) ((all-iff (count k) (rule5 k)).0 r5.1 p h);
          };
        };
        next-ready = q.0.0;
        next-lowest = q.0.1;
        direct = q.1;
      }

  module _ (s : Sound k) where
    lengths-from : lengths k ≡ true
    lengths-from = simp facts (((s.core.waits.long, s.core.tables.flag-long), s.core.tables.mutex-long), s.core.tables.channel-long)

    one_from : rule1 k ≡ true
    one_from =
        let l = s.core.limits in
        simp facts (
          ((((((((l.mode, l.two), l.most), l.flags), l.mutexes), l.channels), l.depth-most), l.running-below), l.next-below),
          (all-iff k.setup.channels (λ i. channel_fits (channel_at k i))).1 (λ i h. channel-from (channel_at k i) (s.core.tables.fits i h)),
        )

    two_from : rule2 k ≡ true
    two_from =
        let w = s.core.waits in
        let f = w.each (idle k) (omega (arith, s.core.limits.two)) in
        simp facts (
          (
            (
              (
                (
                  w.ready-within,
                  places-from k.setup (λ a. within (count k) (map_at k a)) (λ a r. lt-ltb _ _ (w.within a r)),
                ),
                w.idle-ready,
              ),
              w.idle-closed,
            ),
            simp facts at (closed-rests k (idle k) f w.idle-closed),
          ),
          closed-in-none k (idle k) f w.idle-closed,
        )

    pub sound-from : sound k ≡ true
    unfolding sound
    sound-from =
        let each = s.core.waits.each in
        both _ (rule7 k) (both _ (rule6 k) (both _ (all_below (count k) (rule5 k)) (both _ (all_below (count k) (rule4 k)) (both _ (all_below (count k) (rule3 k))
        (both _ (rule2 k) (both (lengths k) (rule1 k) lengths-from one_from) two_from)
        ((all-iff (count k) (rule3 k)).1 (λ p h. fine-three k p (each p h))))
        ((all-iff (count k) (rule4 k)).1 (λ p h. fine-four k p (each p h))))
        ((all-iff (count k) (rule5 k)).1 (λ p h. fine-five k p (each p h))))
        ((all-iff k.setup.mutexes (λ i. user_owner (count k) (mutex_at k i).owner)).1 s.core.tables.owners))
        (simp facts ((s.next-ready, s.next-lowest), s.direct))

  pub sound-iff : (sound k ≡ true) ↔ Sound k
  sound-iff = (sound-to, sound-from)
