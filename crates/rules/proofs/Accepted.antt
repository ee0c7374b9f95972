-- What acceptance gives: a sound record, a room of the right length where it is needed, the depth and the caller that the call asks for, and that
-- what is named exists. Assumes nothing.
use Rattle.std.proofs.Common.{◌≡◌, ℕ, ◌<◌, Bool, true, false, cond, not, ◌&&◌, ◌||◌, eqb, Ok, Err, ap, ◌∙◌, arith, eqb-true, leb-false}
use Rattle.std.proofs.lemmas.Bool.{eqb-false, not-false}
use Rattle.maps.specs.declared.Number.{Number}
use Rattle.maps.specs.Maps.{has}
use Rattle.record.specs.declared.Kernel.{Kernel}
use Rattle.record.specs.Record.{wait_of, idle}
use Rattle.record.specs.Places.{is_open}
use Rattle.record.specs.Sound.{sound}
use Rattle.record.specs.Facts.{Sound}
use Rattle.record.proofs.Iff.{sound-to}
use Rattle.room.specs.Room.{room_length}
use Rattle.rules.specs.declared.Call.{Call}
use Rattle.rules.specs.declared.Named.TheVariants as named
use Rattle.rules.specs.declared.Refusal.{Refusal}
use Rattle.rules.specs.Calls.{is_process, is_interrupt, is_finish, is_enter, is_exit, needs_room, named_by, missing}
use Rattle.rules.specs.Refusals.{Verdict, verdict, seen, not_sound, wrong_room, in_interrupt, outside_interrupt, switch_pending, idle_runs, wait_open, nothing_open, names_missing, owned_already, not_owner, too_deep}

let_by : (b : Bool) (r : Refusal) (v : Verdict) → cond b (Err r) v ≡ Ok tt → (b ≡ false) × (v ≡ Ok tt)
let_by b r v e = grind arith

pub record Passed (k : Kernel) (n : ℕ) (c : Call) : Type 0 where
  pub facts : Sound k
  pub fits : needs_room c ≡ true → n ≡ room_length k
  pub inside : (is_interrupt c || is_exit c) && eqb k.depth 0 ≡ false
  pub settled : is_process c && not (eqb k.running.0 k.next.0) ≡ false
  pub busy : is_process c && eqb k.running.0 (idle k) ≡ false
  pub free : is_process c && not (is_finish c) && is_open (wait_of k k.running.0) ≡ false
  pub waits : is_finish c && not (is_open (wait_of k k.running.0)) ≡ false
  pub exists : missing k.setup (named_by c) ≡ false
  pub shallow : is_enter c && eqb k.depth 8 ≡ false

fits-to : (a b : Bool) → a && not b ≡ false → a ≡ true → b ≡ true
fits-to a b e h = grind arith

pub passed : (k : Kernel) (n : ℕ) (c : Call) → verdict k n c ≡ Ok tt → Passed k n c
unfolding verdict
passed k n c e =
    let s = seen k n c in
    let e1 = let_by (not_sound s) _ _ e in
    let e2 = let_by (wrong_room s c) _ _ e1.1 in
    let e3 = let_by (in_interrupt s c) _ _ e2.1 in
    let e4 = let_by (outside_interrupt s c) _ _ e3.1 in
    let e5 = let_by (switch_pending s c) _ _ e4.1 in
    let e6 = let_by (idle_runs s c) _ _ e5.1 in
    let e7 = let_by (wait_open s c) _ _ e6.1 in
    let e8 = let_by (nothing_open s c) _ _ e7.1 in
    let e9 = let_by (names_missing s c) _ _ e8.1 in
    let e10 = let_by (owned_already s c) _ _ e9.1 in
    let e11 = let_by (not_owner s c) _ _ e10.1 in
    let e12 = let_by (too_deep s c) _ _ e11.1 in
    record {
      facts = sound-to k (not-false (sound k) e1.0);
      fits = λ h. eqb-true n (room_length k) (fits-to (needs_room c) (eqb n (room_length k)) e2.0 h);
      inside = e4.0;
      settled = e5.0;
      busy = e6.0;
      free = e7.0;
      waits = e8.0;
      exists = e9.0;
      shallow = e12.0;
    }

-- a process call is made by a user process that is ready
pub record Caller (k : Kernel) : Type 0 where
  pub user : k.running.0 < idle k
  pub awake : has k.ready k.running.0 ≡ true

module _ (k : Kernel) (n : ℕ) (c : Call) (a : verdict k n c ≡ Ok tt) where
  pub sound-of : Sound k
  sound-of = (passed k n c a).facts

  -- ---- who calls, and when
  pub depth-above : is_interrupt c || is_exit c ≡ true → 0 < k.depth
  depth-above h = let e = eqb-false k.depth 0 (rw h at (passed k n c a).inside) in omega arith

  pub caller-of : is_process c ≡ true → Caller k
  caller-of h =
      let p = passed k n c a in
      let same : k.running.0 ≡ k.next.0 = eqb-true _ _ (not-false _ (rw h at p.settled)) in
      let other = eqb-false k.running.0 (idle k) (rw h at p.busy) in
      record { user = omega (arith, p.facts.core.limits.running-below, other); awake = ap (has k.ready) same ∙ p.facts.next-ready }

  -- ---- what is named exists
  pub flag-below : (i : ℕ) → named_by c ≡ named.Flag i → i < k.setup.flags
  flag-below i e = leb-false k.setup.flags i (rw e at (passed k n c a).exists)

  pub mutex-below : (i : ℕ) → named_by c ≡ named.Mutex i → i < k.setup.mutexes
  mutex-below i e = leb-false k.setup.mutexes i (rw e at (passed k n c a).exists)

  pub channel-below : (i : ℕ) → named_by c ≡ named.Channel i → i < k.setup.channels
  channel-below i e = leb-false k.setup.channels i (rw e at (passed k n c a).exists)

  pub process-below : (p : Number) → named_by c ≡ named.Process p → p.0 < idle k
  process-below p e = leb-false (idle k) p.0 (rw e at (passed k n c a).exists)
