-- A fresh record within the limits is sound, for every setup; the record of all zeros is not. Assumes nothing.
use Rattle.std.proofs.Common.{ℕ, zero, suc, ◌-◌, ◌<◌, ◌≤◌, ◌≡◌, refl, sym, ap, subst, ◌∙◌, Bool, true, false, cond, List, ltb, get_or, replicate, pow_pos, lt-ltb, arith}
use Rattle.std.proofs.Math.Bool.{and-eq-true_iff, false≢true}
use Rattle.std.proofs.Math.ListN.{length-replicate}
use Rattle.std.proofs.lemmas.Bool.{lt-leb}
use Rattle.maps.specs.Maps.{has, everyone}
use Rattle.maps.proofs.Members.{has-zero, has-everyone}
use Rattle.maps.proofs.Bounds.{everyone-lt}
use Rattle.maps.proofs.Lowest.{lowest-least}
use Rattle.ring.specs.Ring.{Fits}
use Rattle.record.specs.declared.Setup.{Setup}
use Rattle.record.specs.declared.Process.{Process}
use Rattle.record.specs.Record.{services, no_process, no_flag, no_mutex, no_channel}
use Rattle.record.specs.Places.{Place, nowhere, at_flag, at_mutex, at_readers, at_writers, map_in, real_in, is_open}
use Rattle.record.specs.Sound.{user_owner, sound}
use Rattle.record.specs.Facts.{Limits, Fine, Sound}
use Rattle.record.specs.Fresh.{zeros, start_channel, fresh, capacity_allowed, setup_fits}
use Rattle.record.proofs.Logic.{facts}
use Rattle.record.proofs.Iff.{sound-from}

-- every slot of a fresh table is empty
pub slot-empty : {A : Type 0} (n i : ℕ) (x : A) → get_or (replicate n x) i x ≡ x
slot-empty zero i x = refl
slot-empty (suc n) zero x = refl
slot-empty (suc n) (suc i) x = slot-empty n i x

module _ (n i capacity : ℕ) where
  start_fits : i < n → capacity_allowed n i capacity ≡ true → Fits (start_channel n i capacity)
  start_fits h a =
      let f = simp facts at (rw (lt-leb n i h) at a) in
      rw (lt-ltb i n h) (record { some = f.0; most = f.1; first = f.0; count = omega arith })

  start-readers : (start_channel n i capacity).readers ≡ 0
  start-readers = go (ltb i n)
    where
      go : (b : Bool) → (cond b (record { capacity = capacity; first = 0; count = 0; readers = 0; writers = 0 }) no_channel).readers ≡ 0
      go true = refl
      go false = refl

  start-writers : (start_channel n i capacity).writers ≡ 0
  start-writers = go (ltb i n)
    where
      go : (b : Bool) → (cond b (record { capacity = capacity; first = 0; count = 0; readers = 0; writers = 0 }) no_channel).writers ≡ 0
      go true = refl
      go false = refl

module _ (s : Setup) (caps : List ℕ) where
  -- nobody waits anywhere
  empty : (a : Place) → map_in (services (fresh s caps)) a ≡ 0
  empty nowhere = refl
  empty (at_flag i) = ap (λ x. x.waiters) (slot-empty 8 i no_flag)
  empty (at_mutex i) = ap (λ x. x.waiters) (slot-empty 8 i no_mutex)
  empty (at_readers zero) = start-readers s.channels 0 (get_or caps 0 0)
  empty (at_readers (suc zero)) = start-readers s.channels 1 (get_or caps 1 0)
  empty (at_readers (suc (suc zero))) = start-readers s.channels 2 (get_or caps 2 0)
  empty (at_readers (suc (suc (suc zero)))) = start-readers s.channels 3 (get_or caps 3 0)
  empty (at_readers (suc (suc (suc (suc i))))) = refl
  empty (at_writers zero) = start-writers s.channels 0 (get_or caps 0 0)
  empty (at_writers (suc zero)) = start-writers s.channels 1 (get_or caps 1 0)
  empty (at_writers (suc (suc zero))) = start-writers s.channels 2 (get_or caps 2 0)
  empty (at_writers (suc (suc (suc zero)))) = start-writers s.channels 3 (get_or caps 3 0)
  empty (at_writers (suc (suc (suc (suc i))))) = refl

  module _ (h : setup_fits s caps ≡ true) where
    limits : Limits s 0 0 0
    unfolding setup_fits
    limits =
        let m = simp facts at h in
        record {
          mode = m.0.0.0.0.0.0.0.0.0;
          two = m.0.0.0.0.0.0.0.0.1;
          most = m.0.0.0.0.0.0.0.1;
          flags = m.0.0.0.0.0.0.1;
          mutexes = m.0.0.0.0.0.1;
          channels = m.0.0.0.0.1;
          depth-most = omega arith;
          running-below = omega (arith, m);
          next-below = omega (arith, m);
        }

    channel-fits : (i : ℕ) → i < s.channels → Fits (get_or (fresh s caps).channel i no_channel)
    unfolding setup_fits
    channel-fits zero l = start_fits s.channels 0 (get_or caps 0 0) l (simp and-eq-true_iff at h).0.0.0.1
    channel-fits (suc zero) l = start_fits s.channels 1 (get_or caps 1 0) l (simp and-eq-true_iff at h).0.0.1
    channel-fits (suc (suc zero)) l = start_fits s.channels 2 (get_or caps 2 0) l (simp and-eq-true_iff at h).0.1
    channel-fits (suc (suc (suc zero))) l = start_fits s.channels 3 (get_or caps 3 0) l (simp and-eq-true_iff at h).1
    channel-fits (suc (suc (suc (suc i)))) l = absurd (omega (arith, limits.channels))

    everyone-ready : (p : ℕ) → p < s.processes → has (everyone s.processes) p ≡ true
    everyone-ready p l = has-everyone s.processes p ∙ lt-ltb p s.processes l

    fine : (p : ℕ) → p < s.processes → Fine (real_in s) (has (everyone s.processes) p) (get_or (replicate 32 no_process) p no_process) (λ a. has (map_in (services (fresh s caps)) a) p)
    fine p l =
        subst (λ (x : Process). Fine (real_in s) (has (everyone s.processes) p) x (λ a. has (map_in (services (fresh s caps)) a) p)) (sym (slot-empty 32 p no_process))
        (record {
          only = λ a r i. absurd (false≢true (sym (ap (λ (m : ℕ). has m p) (empty a) ∙ has-zero p) ∙ i));
          status = rw (everyone-ready p l);
        })

    started : Sound (fresh s caps)
    started = record {
      core = record {
        limits = limits;
        tables = record {
          flag-long = length-replicate 8 no_flag;
          mutex-long = length-replicate 8 no_mutex;
          channel-long = refl;
          owners = λ i l. ap (λ x. user_owner s.processes x.owner) (slot-empty 8 i no_mutex);
          fits = channel-fits;
        };
        waits = record {
          long = length-replicate 32 no_process;
          ready-within = everyone-lt s.processes;
          within = λ a r. rw (empty a) (pow_pos s.processes);
          idle-ready = everyone-ready (s.processes - 1) (omega (arith, limits.two));
          idle-closed = ap (λ x. is_open x.wait) (slot-empty 32 (s.processes - 1) no_process);
          each = fine;
        };
      };
      next-ready = everyone-ready 0 (omega (arith, limits.two));
      next-lowest = λ e. omega (arith, lowest-least (everyone s.processes) 0 (everyone-ready 0 (omega (arith, limits.two))));
      direct = λ e. refl;
    }

    pub fresh-sound : sound (fresh s caps) ≡ true
    fresh-sound = sound-from (fresh s caps) started

    pub setup-processes : s.processes ≤ 32
    setup-processes = limits.most

pub zeros-not-sound : sound zeros ≡ false
unfolding sound
zeros-not-sound = refl
