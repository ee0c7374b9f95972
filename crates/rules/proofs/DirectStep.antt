-- One step of a kernel and of the direct kernel that goes with it: a call that is neither a process call nor a switch gives the same, and a process call
-- gives the same once a switch was offered. Assumes nothing.
use Rattle.std.proofs.Common.{◌≡◌, ℕ, Bool, true, false, cond, not, ◌&&◌, eqb, List, length, Ok, Err, sym, refl, ap, ◌∙◌, true≢false, eqb-true}
use Rattle.std.proofs.lemmas.Bool.{cond_both}
use Rattle.record.specs.declared.Kernel.{Kernel}
use Rattle.record.specs.Sound.{sound}
use Rattle.room.specs.Room.{room_length}
use Rattle.rules.specs.declared.Call.{Call}
use Rattle.rules.specs.declared.Call.TheVariants.{Switch}
use Rattle.rules.specs.declared.Refusal.{Refusal}
use Rattle.rules.specs.declared.Refusal.TheVariants.{RoomLength, InInterrupt, NonePending}
use Rattle.rules.specs.Answers.{Said, number}
use Rattle.rules.specs.Update.{with_running}
use Rattle.rules.specs.Calls.{is_process, is_switch, needs_room}
use Rattle.rules.specs.Refusals.{Verdict, verdict}
use Rattle.rules.specs.Step.{effect, settle, step}
use Rattle.rules.specs.Deferred.{as_direct, reads_running, is_refused}
use Rattle.rules.proofs.Cond.{branches, either}
use Rattle.rules.proofs.NextRuns.{settled, direct-sound, verdict-settled, verdict-other, verdict-inside, verdict-switch}
use Rattle.rules.proofs.AsDirect.{shown, refused-shown, effect-process, effect-other}

-- ---- a verdict carried out
module _ (k : Kernel) (room block : List ℕ) (c : Call) where
  refusal-shown : (r : Refusal) → settle (as_direct k) room block c (Err r) ≡ shown c (settle k room block c (Err r))
  refusal-shown r =
      ap (λ (a : Said). record { answer = a; kernel = as_direct k; room = room; block = block }) (refused-shown (reads_running c) k.next.0 (number r))

  settle-shown : (v : Verdict) → effect (as_direct k) room block c ≡ shown c (effect k room block c)
      → settle (as_direct k) room block c v ≡ shown c (settle k room block c v)
  settle-shown (Ok _) e = e
  settle-shown (Err r) e = refusal-shown r

module _ (k : Kernel) (room block : List ℕ) (s : sound k ≡ true) (c : Call) where
  pub step_other : is_process c ≡ false → is_switch c ≡ false → step (as_direct k) room block c ≡ shown c (step k room block c)
  unfolding step
  step_other p q =
      ap (settle (as_direct k) room block c) (verdict-other k (length room) s c p q)
      ∙ settle-shown k room block c (verdict k (length room) c) (effect-other k room block c p q)

  module _ (p : is_process c ≡ true) where
    step-settled : step (as_direct k) room block c ≡ shown c (step (settled k) room block c)
    unfolding step
    step-settled =
        ap (settle (as_direct k) room block c) (verdict-settled k (length room) s c)
        ∙ settle-shown (settled k) room block c (verdict (settled k) (length room) c) (effect-process k room block c p)

    module _ (e : eqb k.depth 0 ≡ false) where
      -- inside an interrupt the room's length or the depth refuses it
      refused-inside : is_refused (step k room block c).answer ≡ true
      unfolding step
      refused-inside =
          ap (λ (v : Verdict). is_refused (settle k room block c v).answer) (verdict-inside k (length room) s c p e)
          ∙ either (λ (v : Verdict). is_refused (settle k room block c v).answer) (needs_room c && not (eqb (length room) (room_length k))) refl refl

      step-inside : step (as_direct k) room block c ≡ shown c (step k room block c)
      unfolding step
      step-inside =
          ap (settle (as_direct k) room block c) (verdict-inside (as_direct k) (length room) (direct-sound k s) c p e)
          ∙ branches (settle (as_direct k) room block c) (λ v. shown c (settle k room block c v)) (needs_room c && not (eqb (length room) (room_length k)))
          (refusal-shown k room block c RoomLength) (refusal-shown k room block c InInterrupt)
          ∙ ap (λ (v : Verdict). shown c (settle k room block c v)) (sym (verdict-inside k (length room) s c p e))

-- ---- a switch that is offered
running-next : (k : Kernel) → k.running.0 ≡ k.next.0 → k ≡ settled k
running-next k e = λ i. with_running k (record { 0 = e i })

module _ (k : Kernel) (room block : List ℕ) where
  -- whatever is asked of the direct kernel's record and the room, it changes nothing
  pub switch-keeps : {A : Type 0} (f : Kernel → List ℕ → A)
      → f (as_direct (step k room block Switch).kernel) (step k room block Switch).room ≡ f (as_direct k) room
  unfolding step
  switch-keeps f = go (verdict k (length room) Switch)
    where
      go : (v : Verdict) → f (as_direct (settle k room block Switch v).kernel) (settle k room block Switch v).room ≡ f (as_direct k) room
      go (Ok _) = refl
      go (Err r) = refl

  -- outside interrupts next runs then, whether it was pending or not; inside it is refused
  switched : sound k ≡ true → (step k room block Switch).kernel ≡ cond (eqb k.depth 0) (settled k) k
  unfolding step
  switched s =
      ap (λ (v : Verdict). (settle k room block Switch v).kernel) (verdict-switch k (length room) s)
      ∙ go (eqb k.depth 0) (eqb k.running.0 k.next.0) (λ q. running-next k (eqb-true _ _ q))
    where
      go : (b d : Bool) → (d ≡ true → k ≡ settled k)
          → (settle k room block Switch (cond (not b) (Err InInterrupt) (cond d (Err NonePending) (Ok tt)))).kernel ≡ cond b (settled k) k
      go true true h = h refl
      go true false h = refl
      go false d h = refl

-- a process call after a switch is offered
pub step-process : (k : Kernel) (room block other : List ℕ) → sound k ≡ true → (c : Call) → is_process c ≡ true
    → step (as_direct k) room block c ≡ shown c (step (step k room other Switch).kernel room block c)
step-process k room block other s c p =
    cond_both (eqb k.depth 0) _ _ (λ (h : Kernel). step (as_direct k) room block c ≡ shown c (step h room block c))
    (λ e. step-settled k room block s c p) (step-inside k room block s c p)
    ∙ ap (λ (h : Kernel). shown c (step h room block c)) (sym (switched k room other s))

-- and whoever makes it, if it is accepted, is the same
pub same-caller : (k : Kernel) (room block other : List ℕ) → sound k ≡ true → (c : Call) → is_process c ≡ true
    → is_refused (step (as_direct k) room block c).answer ≡ false → k.next ≡ (step k room other Switch).kernel.running
same-caller k room block other s c p a =
    cond_both (eqb k.depth 0) _ _ (λ (h : Kernel). k.next ≡ h.running) (λ e. refl)
    (λ e. absurd (true≢false (sym (refused-inside (as_direct k) room block (direct-sound k s) c p e) ∙ a)))
    ∙ ap (λ (h : Kernel). h.running) (sym (switched k room other s))
