-- One slot of a service table set anew: which maps change, and what is left of the tables' limits. Assumes nothing.
use Rattle.std.proofs.Common.{◌≡◌, ℕ, ◌<◌, Bool, true, false, cond, eqb, List, length, get_or, set, sym, refl, ap, ◌∙◌, subst, arith, length-set, get_or-set_other, get_or-set_same, ltb-true, lt-ltb, eqb-true}
use Rattle.std.proofs.Math.Bool.{false≢true}
use Rattle.std.proofs.lemmas.Bool.{eqb-false}
use Rattle.std.proofs.lemmas.Grind.{get_or-set_at}
use Rattle.ring.specs.declared.Channel.{Channel}
use Rattle.ring.specs.Ring.{Fits}
use Rattle.record.specs.declared.Kernel.{Kernel}
use Rattle.record.specs.declared.Setup.{Setup}
use Rattle.record.specs.declared.Flag.{Flag}
use Rattle.record.specs.declared.Mutex.{Mutex}
use Rattle.record.specs.Record.{Services, services, no_flag, no_mutex, no_channel, flag_at, mutex_at, channel_at, count}
use Rattle.record.specs.Places.{Place, nowhere, at_flag, at_mutex, at_readers, at_writers, same_place, map_in, map_at, real}
use Rattle.record.specs.Sound.{user_owner}
use Rattle.record.specs.Facts.{Tables, Core}
use Rattle.record.proofs.Place.{same-eq, same_self}
use Rattle.rules.specs.Update.{put_map, with_readers, with_writers}

-- by whether b is a
pub by_place : (P : Bool → Type 0) (b a : Place) → (b ≡ a → P true) → (same_place b a ≡ false → P false) → P (same_place b a)
by_place P b a f g = go (same_place b a) refl
  where
    go : (t : Bool) → same_place b a ≡ t → P t
    go true e = f (same-eq b a e)
    go false e = g e

-- ---- one map is put
pub record Put (maps maps' : Place → ℕ) (b : Place) (m : ℕ) : Type 0 where
  pub puts : (a : Place) → maps' a ≡ cond (same_place b a) m (maps a)

pub put-at : {maps maps' : Place → ℕ} {b : Place} {m : ℕ} → Put maps maps' b m → maps' b ≡ m
put-at {maps} {maps'} {b} {m} put = put.puts b ∙ ap (λ (t : Bool). cond t m (maps b)) (same_self b)

-- ---- one slot is set
set-cond : {A : Type 0} (g : A → ℕ) (l : List A) (i j : ℕ) (x d : A) → i < length l → g (get_or (set l i x) j d) ≡ cond (eqb i j) (g x) (g (get_or l j d))
set-cond g l i j x d h = grind (arith, get_or-set_at, get_or-set_other)

set-kept : {A : Type 0} (g : A → ℕ) (l : List A) (i j : ℕ) (x d : A) → i < length l → g x ≡ g (get_or l i d) → g (get_or (set l i x) j d) ≡ g (get_or l j d)
set-kept g l i j x d h e = grind (arith, get_or-set_at, get_or-set_other)

each_set : {A : Type 0} (P : A → Type 0) (n : ℕ) (l : List A) (d : A) → ((j : ℕ) → j < n → P (get_or l j d))
    → (i : ℕ) (x : A) → i < length l → P x → (j : ℕ) → j < n → P (get_or (set l i x) j d)
each_set P n l d o i x h e j g = go (eqb i j) refl
  where
    go : (t : Bool) → eqb i j ≡ t → P (get_or (set l i x) j d)
    go true q = subst (λ (m : ℕ). P (get_or (set l i x) m d)) (eqb-true i j q) (subst P (sym (get_or-set_same l i x d h)) e)
    go false q = subst P (sym (get_or-set_other l i j x d (λ z. eqb-false i j q (sym z)))) (o j g)

-- the tables with one slot set
abbrev pub flag_set : Services → ℕ → Flag → Services
flag_set v i x = record { flag = set v.flag i x; mutex = v.mutex; channel = v.channel }

abbrev pub mutex_set : Services → ℕ → Mutex → Services
mutex_set v i x = record { flag = v.flag; mutex = set v.mutex i x; channel = v.channel }

abbrev pub channel_set : Services → ℕ → Channel → Services
channel_set v i x = record { flag = v.flag; mutex = v.mutex; channel = set v.channel i x }

-- ---- the maps then
module _ (v : Services) (i : ℕ) where
  put-flag : (x : Flag) → i < length v.flag → Put (map_in v) (map_in (flag_set v i x)) (at_flag i) x.waiters
  put-flag x h = record { puts = go }
    where
      go : (a : Place) → map_in (flag_set v i x) a ≡ cond (same_place (at_flag i) a) x.waiters (map_in v a)
      go (at_flag j) = set-cond (λ y. y.waiters) v.flag i j x no_flag h
      go a = refl

  put-mutex : (x : Mutex) → i < length v.mutex → Put (map_in v) (map_in (mutex_set v i x)) (at_mutex i) x.waiters
  put-mutex x h = record { puts = go }
    where
      go : (a : Place) → map_in (mutex_set v i x) a ≡ cond (same_place (at_mutex i) a) x.waiters (map_in v a)
      go (at_mutex j) = set-cond (λ y. y.waiters) v.mutex i j x no_mutex h
      go a = refl

  put-readers : (x : Channel) → i < length v.channel → x.writers ≡ (get_or v.channel i no_channel).writers
      → Put (map_in v) (map_in (channel_set v i x)) (at_readers i) x.readers
  put-readers x h e = record { puts = go }
    where
      go : (a : Place) → map_in (channel_set v i x) a ≡ cond (same_place (at_readers i) a) x.readers (map_in v a)
      go (at_readers j) = set-cond (λ y. y.readers) v.channel i j x no_channel h
      go (at_writers j) = set-kept (λ y. y.writers) v.channel i j x no_channel h e
      go a = refl

  put-writers : (x : Channel) → i < length v.channel → x.readers ≡ (get_or v.channel i no_channel).readers
      → Put (map_in v) (map_in (channel_set v i x)) (at_writers i) x.writers
  put-writers x h e = record { puts = go }
    where
      go : (a : Place) → map_in (channel_set v i x) a ≡ cond (same_place (at_writers i) a) x.writers (map_in v a)
      go (at_readers j) = set-kept (λ y. y.readers) v.channel i j x no_channel h e
      go (at_writers j) = set-cond (λ y. y.writers) v.channel i j x no_channel h
      go a = refl

-- ---- the tables' limits then
module _ {s : Setup} {v : Services} (t : Tables s v) (i : ℕ) where
  flag-tables : (x : Flag) → Tables s (flag_set v i x)
  flag-tables x = record {
    flag-long = length-set v.flag i x ∙ t.flag-long;
    mutex-long = t.mutex-long;
    channel-long = t.channel-long;
    owners = t.owners;
    fits = t.fits;
  }

  mutex-tables : (x : Mutex) → i < length v.mutex → user_owner s.processes x.owner ≡ true → Tables s (mutex_set v i x)
  mutex-tables x h o = record {
    flag-long = t.flag-long;
    mutex-long = length-set v.mutex i x ∙ t.mutex-long;
    channel-long = t.channel-long;
    owners = each_set (λ y. user_owner s.processes y.owner ≡ true) s.mutexes v.mutex no_mutex t.owners i x h o;
    fits = t.fits;
  }

  channel-tables : (x : Channel) → i < length v.channel → Fits x → Tables s (channel_set v i x)
  channel-tables x h o = record {
    flag-long = t.flag-long;
    mutex-long = t.mutex-long;
    channel-long = length-set v.channel i x ∙ t.channel-long;
    owners = t.owners;
    fits = each_set Fits s.channels v.channel no_channel t.fits i x h o;
  }

-- ---- the map at one place of the record k becomes m; the tables after it are v
pub record Change (k : Kernel) (a : Place) (m : ℕ) (v : Services) : Type 0 where
  pub there : real k a ≡ true
  pub tables : Tables k.setup v
  pub put : Put (map_at k) (map_in v) a m

module _ {k : Kernel} (c : Core k) (i : ℕ) where
  pub flag-change : (x : Flag) → i < k.setup.flags → Change k (at_flag i) x.waiters (flag_set (services k) i x)
  flag-change x h = record {
    there = lt-ltb i k.setup.flags h;
    tables = flag-tables c.tables i x;
    put = put-flag (services k) i x (omega (arith, c.tables.flag-long, c.limits.flags));
  }

  pub mutex-change : (x : Mutex) → i < k.setup.mutexes → user_owner (count k) x.owner ≡ true
      → Change k (at_mutex i) x.waiters (mutex_set (services k) i x)
  mutex-change x h o =
      let l : i < length k.mutex = omega (arith, c.tables.mutex-long, c.limits.mutexes) in
      record { there = lt-ltb i k.setup.mutexes h; tables = mutex-tables c.tables i x l o; put = put-mutex (services k) i x l }

  channel-in : i < k.setup.channels → i < length k.channel
  channel-in h = omega (arith, c.tables.channel-long, c.limits.channels)

  pub readers-change : (x : Channel) → i < k.setup.channels → Fits x → x.writers ≡ (channel_at k i).writers
      → Change k (at_readers i) x.readers (channel_set (services k) i x)
  readers-change x h o e = record {
    there = lt-ltb i k.setup.channels h;
    tables = channel-tables c.tables i x (channel-in h) o;
    put = put-readers (services k) i x (channel-in h) e;
  }

  pub writers-change : (x : Channel) → i < k.setup.channels → Fits x → x.readers ≡ (channel_at k i).readers
      → Change k (at_writers i) x.writers (channel_set (services k) i x)
  writers-change x h o e = record {
    there = lt-ltb i k.setup.channels h;
    tables = channel-tables c.tables i x (channel-in h) o;
    put = put-writers (services k) i x (channel-in h) e;
  }

-- other maps, the same limits
pub refitted : {x : Channel} {m n : ℕ} → Fits x
    → Fits (record { capacity = x.capacity; first = x.first; count = x.count; readers = m; writers = n })
refitted f = record { some = f.some; most = f.most; first = f.first; count = f.count }

-- only the map at a real place is put anew
pub map-change : {k : Kernel} → Core k → (a : Place) (m : ℕ) → real k a ≡ true → Change k a m (put_map (services k) a m)
map-change {k} c nowhere m e = absurd (false≢true e)
map-change {k} c (at_flag i) m e = flag-change c i (record { on = (flag_at k i).on; waiters = m }) (ltb-true i k.setup.flags e)
map-change {k} c (at_mutex i) m e =
    let h = ltb-true i k.setup.mutexes e in
    mutex-change c i (record { owner = (mutex_at k i).owner; waiters = m }) h (c.tables.owners i h)
map-change {k} c (at_readers i) m e =
    let h = ltb-true i k.setup.channels e in
    readers-change c i (with_readers (channel_at k i) m) h (refitted (c.tables.fits i h)) refl
map-change {k} c (at_writers i) m e =
    let h = ltb-true i k.setup.channels e in
    writers-change c i (with_writers (channel_at k i) m) h (refitted (c.tables.fits i h)) refl
