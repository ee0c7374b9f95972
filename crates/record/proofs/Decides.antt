-- What `is_sound` computes decides soundness: `checked` passes exactly for the records of which the facts `Sound` hold.
-- Assumes the lengths of the tables, which the record's type gives.
use Rattle.std.proofs.Common.{ℕ, ◌<◌, ◌≡◌, refl, sym, ap, ◌∙◌, Bool, true, false, not, ◌&&◌, true≢false, ltb, ltb-true, lt-ltb, eqb-true, eq-eqb, arith}
use Rattle.std.proofs.Math.Bool.{and-eq-true_iff, false≢true}
use Rattle.std.proofs.lemmas.Bool.{not-false}
use Rattle.maps.specs.Maps.{has}
use Rattle.maps.proofs.Truth.{both}
use Rattle.maps.proofs.Members.{has-zero, has-map-of}
use Rattle.maps.proofs.Bounds.{member-lt, members-within, empty-none, none-empty}
use Rattle.record.specs.declared.Kernel.{Kernel}
use Rattle.record.specs.declared.Wait.{Wait}
use Rattle.record.specs.declared.Wait.TheVariants.{Nothing, Sleep, Flag, Mutex, Push, Pop}
use Rattle.record.specs.Words.{implies, all_below}
use Rattle.record.specs.Limits.{channel_fits}
use Rattle.record.specs.Record.{services, wait_of, count, idle, lengths, mutex_at, channel_at}
use Rattle.record.specs.Places.{Place, nowhere, is_open, sleeps, limited, place_of, real, map_at, everywhere}
use Rattle.record.specs.Sound.{is_ready, rests, in_its_map, in_no_map, user_owner, sound}
use Rattle.record.specs.Facts.{Limits, Sound, allowed}
use Rattle.record.specs.Check.{Small, numbers_fit, slot_of, tally_of, checked}
use Rattle.record.proofs.Logic.{facts, imp-iff, all-iff, same_test}
use Rattle.record.proofs.Place.{places-to, places-from, closed-nowhere}
use Rattle.record.proofs.Status as status
use Rattle.record.proofs.Iff.{FineAt, channel-to, channel-from, sound-to, sound-from}
use Rattle.record.proofs.Slots.{slot_same}
use Rattle.record.proofs.Gathered.{word_at, seen, waiting, any_seen, stray-seen, fine-seen, has_word}
use Rattle.record.proofs.Masks.{keeps_at, none-broken, keeps-allowed}

sleeps-nowhere : (w : Wait) → sleeps w ≡ true → place_of w ≡ nowhere
sleeps-nowhere Nothing e = refl
sleeps-nowhere (Sleep l) e = refl
sleeps-nowhere (Flag i l) e = absurd (false≢true e)
sleeps-nowhere (Mutex i l) e = absurd (false≢true e)
sleeps-nowhere (Push i x d) e = absurd (false≢true e)
sleeps-nowhere (Pop i d l) e = absurd (false≢true e)

module _ (k : Kernel) where
  -- everybody in a service map is one of the n, and its wait is there
  abbrev Placed : Type 0
  Placed = (a : Place) → real k a ≡ true → (p : ℕ) → has (map_at k a) p ≡ true → (p < count k) × (place_of (wait_of k p) ≡ a)

  abbrev stray : ℕ
  stray = (seen k.setup k.process (services k)).stray

  abbrev any : ℕ
  any = (seen k.setup k.process (services k)).any

  abbrev word : Place → ℕ
  word a = word_at (waiting k.setup k.process (services k)) a

  -- ---- no stray
  placed-to : Small k.setup → stray ≡ 0 → Placed
  placed-to m e a r p i =
      let none : not (everywhere k.setup (λ a. implies (has (map_at k a) p) (has (word a) p))) ≡ false = sym (stray-seen k.setup k.process (services k) p) ∙ empty-none stray e p in
      let all = places-to k.setup (λ a. implies (has (map_at k a) p) (has (word a) p)) (not-false _ none) a r in
      let b = (and-eq-true_iff (ltb p (count k)) _).0 (sym (has_word k.setup k.process (services k) m a p r) ∙ (imp-iff (has (map_at k a) p) (has (word a) p)).0 all i) in
      (ltb-true p (count k) b.0, slot_same k.setup (place_of (wait_of k p)) a m r (eqb-true _ _ b.1))

  placed-from : Small k.setup → Placed → stray ≡ 0
  placed-from m f =
      none-empty stray
      (λ p. stray-seen k.setup k.process (services k) p
      ∙ ap not
      (places-from k.setup (λ a. implies (has (map_at k a) p) (has (word a) p))
      (λ a r. (imp-iff (has (map_at k a) p) (has (word a) p)).1
      (λ i. has_word k.setup k.process (services k) m a p r
      ∙ both (ltb p (count k)) _ (lt-ltb p (count k) (f a r p i).0) (eq-eqb _ _ (ap (slot_of k.setup) (f a r p i).1))))))

  -- ---- then 'in a service map' is 'in its map'
  module _ (f : Placed) (p : ℕ) where
    out-of-all : in_its_map k p ≡ false → in_no_map k p ≡ true
    out-of-all e = places-from k.setup (λ a. not (has (map_at k a) p)) (λ a r. go a r (has (map_at k a) p) refl)
      where
        go : (a : Place) → real k a ≡ true → (t : Bool) → has (map_at k a) p ≡ t → not t ≡ true
        go a r true i = absurd (true≢false (sym (ap (λ (b : Place). has (map_at k b) p) (f a r p i).1 ∙ i) ∙ e))
        go a r false i = refl

    any-in : implies (has any p) (in_its_map k p) ≡ true
    any-in = go (in_its_map k p) refl
      where
        go : (t : Bool) → in_its_map k p ≡ t → implies (has any p) t ≡ true
        go true e = (imp-iff (has any p) true).1 (λ h. refl)
        go false e = ap (λ (b : Bool). implies b false) (any_seen k.setup k.process (services k) p ∙ ap not (out-of-all e))

    in-any : implies (in_its_map k p && real k (place_of (wait_of k p))) (has any p) ≡ true
    in-any =
        (imp-iff (in_its_map k p && real k (place_of (wait_of k p))) (has any p)).1
        (λ h. let b = (and-eq-true_iff (in_its_map k p) _).0 h in any_seen k.setup k.process (services k) p ∙ go b.0 b.1 (in_no_map k p) refl)
      where
        go : in_its_map k p ≡ true → real k (place_of (wait_of k p)) ≡ true → (t : Bool) → in_no_map k p ≡ t → not t ≡ true
        go i r true e = absurd (false≢true (ap not (sym i) ∙ places-to k.setup (λ a. not (has (map_at k a) p)) e (place_of (wait_of k p)) r))
        go i r false e = refl

    nowhere-out : place_of (wait_of k p) ≡ nowhere → in_its_map k p ≡ false
    nowhere-out e = ap (λ (a : Place). has (map_at k a) p) e ∙ has-zero p

    in-open : implies (in_its_map k p) (is_open (wait_of k p)) ≡ true
    in-open = (imp-iff (in_its_map k p) (is_open (wait_of k p))).1 (λ i. go i (is_open (wait_of k p)) refl)
      where
        go : in_its_map k p ≡ true → (t : Bool) → is_open (wait_of k p) ≡ t → t ≡ true
        go i true e = refl
        go i false e = absurd (true≢false (sym i ∙ nowhere-out (closed-nowhere (wait_of k p) e)))

    in-wakeful : implies (in_its_map k p) (not (sleeps (wait_of k p))) ≡ true
    in-wakeful = (imp-iff (in_its_map k p) (not (sleeps (wait_of k p)))).1 (λ i. go i (sleeps (wait_of k p)) refl)
      where
        go : in_its_map k p ≡ true → (t : Bool) → sleeps (wait_of k p) ≡ t → not t ≡ true
        go i true e = absurd (true≢false (sym i ∙ nowhere-out (sleeps-nowhere (wait_of k p) e)))
        go i false e = refl

    keeps-is : keeps_at k.setup k.process any k.ready p
        ≡ allowed (is_open (wait_of k p)) (sleeps (wait_of k p)) (limited (wait_of k p)) (real k (place_of (wait_of k p))) (is_ready k p) (rests k p) (in_its_map k p)
    keeps-is =
        keeps-allowed (is_open (wait_of k p)) (sleeps (wait_of k p)) (limited (wait_of k p)) (real k (place_of (wait_of k p))) (is_ready k p) (rests k p) (has any p) (in_its_map k p)
        any-in in-any in-open in-wakeful

  -- ---- the limits
  pub limits-to : numbers_fit k.setup k.depth k.running.0 k.next.0 ≡ true → Limits k.setup k.depth k.running.0 k.next.0
  limits-to h =
      let m = simp facts at h in
      record {
        mode = m.0.0.0.0.0.0.0.0;
        two = m.0.0.0.0.0.0.0.1;
        most = m.0.0.0.0.0.0.1;
        flags = m.0.0.0.0.0.1;
        mutexes = m.0.0.0.0.1;
        channels = m.0.0.0.1;
        depth-most = m.0.0.1;
        running-below = m.0.1;
        next-below = m.1;
      }

  pub small : Limits k.setup k.depth k.running.0 k.next.0 → Small k.setup
  small l = record { two = l.two; most = l.most; flags = l.flags; mutexes = l.mutexes; channels = l.channels }

  pub numbers-small : numbers_fit k.setup k.depth k.running.0 k.next.0 ≡ true → Small k.setup
  numbers-small h = small (limits-to h)

  has-open : has (tally_of k.setup k.process (count k)).waits (idle k) ≡ ltb (idle k) (count k) && is_open (wait_of k (idle k))
  has-open = has-map-of (count k) (λ p. is_open (wait_of k p)) (idle k)

  -- ---- there
  checked-to : lengths k ≡ true → checked k ≡ true → Sound k
  unfolding checked
  checked-to len h =
      let a = (and-eq-true_iff (numbers_fit k.setup k.depth k.running.0 k.next.0) _).0 h in
      let b = simp facts at a.1 in
      let t = simp facts at len in
      let l = limits-to a.0 in
      let o = (and-eq-true_iff (all_below k.setup.mutexes (λ i. user_owner (count k) (mutex_at k i).owner)) _).0 (sym (fine-seen k.setup k.process (services k)) ∙ b.0.0.0.0.0) in
      let f = placed-to (small l) b.0.0.0.0.1 in
      let keep = (all-iff (count k) (keeps_at k.setup k.process any k.ready)).0 (sym (none-broken k.setup k.process any k.ready) ∙ eq-eqb _ _ b.0.0.1) in
      let below : idle k < count k = omega (arith, l.two) in
      let closed : is_open (wait_of k (idle k)) ≡ false = sym (ap (λ (x : Bool). x && is_open (wait_of k (idle k))) (lt-ltb (idle k) (count k) below)) ∙ sym has-open ∙ b.0.1 in
      let each : (p : ℕ) → p < count k → FineAt k p = λ p h. record { only = λ a r i. (f a r p i).1; status = sym (keeps-is f p) ∙ keep p h } in
      record {
        core = record {
          limits = l;
          tables = record {
            flag-long = t.0.0.1;
            mutex-long = t.0.1;
            channel-long = t.1;
            owners = (all-iff k.setup.mutexes (λ i. user_owner (count k) (mutex_at k i).owner)).0 o.0;
            fits = λ i h. channel-to (channel_at k i) ((all-iff k.setup.channels (λ i. channel_fits (channel_at k i))).0 o.1 i h);
          };
          waits = record {
            long = t.0.0.0;
            ready-within = b.0.0.0.1;
            within = λ a r. members-within (count k) (map_at k a) (λ p i. (f a r p i).0);
            idle-ready =
                status.closed-ready (sleeps (wait_of k (idle k))) (limited (wait_of k (idle k))) (real k (place_of (wait_of k (idle k)))) (is_ready k (idle k)) (rests k (idle k)) (in_its_map k (idle k))
                (rw closed at (each (idle k) below).status);
            idle-closed = closed;
            each = each;
          };
        };
        next-ready = b.1.0.0;
        next-lowest = b.1.0.1;
        direct = b.1.1;
      }

  -- ---- and back
  checked-from : Sound k → checked k ≡ true
  unfolding checked
  checked-from s =
      let l = s.core.limits in
      let w = s.core.waits in
      let f : Placed = λ a r p i. (member-lt (count k) (map_at k a) p (w.within a r) i, (w.each p (member-lt (count k) (map_at k a) p (w.within a r) i)).only a r i) in
      let below : idle k < count k = omega (arith, l.two) in
      both (numbers_fit k.setup k.depth k.running.0 k.next.0) _
      (simp facts ((((((((l.mode, l.two), l.most), l.flags), l.mutexes), l.channels), l.depth-most), l.running-below), l.next-below))
      (both _ _ (both _ _ (both _ _ (both _ _ (both _ _
      (fine-seen k.setup k.process (services k)
      ∙ both _ _ ((all-iff k.setup.mutexes (λ i. user_owner (count k) (mutex_at k i).owner)).1 s.core.tables.owners)
      ((all-iff k.setup.channels (λ i. channel_fits (channel_at k i))).1 (λ i h. channel-from (channel_at k i) (s.core.tables.fits i h))))
      (eq-eqb _ _ (placed-from (small l) f)))
      (lt-ltb _ _ w.ready-within))
      (none-broken k.setup k.process any k.ready
      ∙ (all-iff (count k) (keeps_at k.setup k.process any k.ready)).1 (λ p h. keeps-is f p ∙ (w.each p h).status)))
      (ap not (has-open ∙ ap (λ (x : Bool). ltb (idle k) (count k) && x) w.idle-closed ∙ ap (λ (x : Bool). x && false) (lt-ltb (idle k) (count k) below))))
      (simp facts ((s.next-ready, s.next-lowest), s.direct)))

  pub decides : lengths k ≡ true → checked k ≡ sound k
  decides len = same_test (checked k) (sound k) (λ e. sound-from k (checked-to len e)) (λ e. checked-from (sound-to k e))
