-- A direct and a deferred kernel from fresh records, given the same calls with switches offered to the deferred one: they are in step after every list of
-- calls, and what is seen of the calls is the same. Assumes nothing.
use Rattle.std.proofs.Common.{◌≡◌, ℕ, ◌<◌, true, false, List, [], ◌∷◌, sym, refl, ap, ◌∙◌, subst, true≢false}
use Rattle.maps.proofs.Lowest.{lowest-none}
use Rattle.record.specs.declared.Kernel.{Kernel}
use Rattle.record.specs.declared.Setup.{Setup}
use Rattle.record.specs.Sound.{sound}
use Rattle.record.proofs.Iff.{sound-to}
use Rattle.record.proofs.Started.{fresh-sound}
use Rattle.rules.specs.Calls.{is_process, is_switch}
use Rattle.rules.specs.Step.{Result, Given, Event, State, step_on, step, after, history}
use Rattle.rules.specs.Deferred.{deferred, starting, switching, Offered, nothing, switch, other, process, as_direct, LowestIn, InStep, is_refused, SameEvent, SameSeen, call}
use Rattle.rules.specs.Demands.{DirectAndDeferredInStep}
use Rattle.rules.proofs.Kept.{kept}
use Rattle.rules.proofs.SetupKept.{setup-after}
use Rattle.rules.proofs.AsDirect.{shown}
use Rattle.rules.proofs.DirectStep.{step_other, step-process, same-caller, switch-keeps}

-- ---- the state of the direct kernel that goes with a state
abbrev direct_of : State → State
direct_of s = record { kernel = as_direct s.kernel; room = s.room }

abbrev state_of : Result → State
state_of r = record { kernel = r.kernel; room = r.room }

-- outside interrupts it runs the lowest-numbered ready process
next-lowest : (k : Kernel) → sound k ≡ true → k.depth ≡ 0 → LowestIn k.ready k.next.0
next-lowest k s e =
    let f = sound-to k s in
    record { inside = f.next-ready; below = λ q l. lowest-none 32 k.ready q (subst (λ (p : ℕ). q < p) (f.next-lowest e) l) }

-- ---- one call, of the direct kernel in state d and the deferred one in state f
abbrev event_of : State → Given → Event
event_of s g = record { caller = s.kernel.running; given = g; answer = (step_on s g).answer; block = (step_on s g).block }

-- a switch that is offered changes only who runs
switch-same : (f : State) (block : List ℕ) → direct_of f ≡ direct_of (state_of (step_on f (switching block)))
switch-same f block = sym (switch-keeps f.kernel f.room block (λ k room. record { kernel = k; room = room }))

same-event : (d f : State) (g : Given) → step_on d g ≡ shown g.call (step_on f g)
    → (is_process g.call ≡ true → is_refused (step_on d g).answer ≡ false → d.kernel.running ≡ f.kernel.running)
    → SameEvent (event_of d g) (event_of f g)
same-event d f g e c = record {
  given = refl;
  answers = λ q. ap (λ (x : Result). x.answer) e ∙ rw q refl;
  blocks = ap (λ (x : Result). x.block) e;
  callers = c;
}

module _ (d f : State) (e : d ≡ direct_of f) (s : sound f.kernel ≡ true) (g : Given) where
  other-same : is_process g.call ≡ false → is_switch g.call ≡ false → step_on d g ≡ shown g.call (step_on f g)
  other-same p q = ap (λ (x : State). step_on x g) e ∙ step_other f.kernel f.room g.block s g.call p q

  -- a process call, after a switch was offered
  module _ (block : List ℕ) (p : is_process g.call ≡ true) where
    process-same : step_on d g ≡ shown g.call (step_on (state_of (step_on f (switching block))) g)
    process-same =
        ap (λ (x : State). step_on x g) e
        ∙ step-process f.kernel f.room g.block block s g.call p
        ∙ ap (λ (r : List ℕ). shown g.call (step (step_on f (switching block)).kernel r g.block g.call))
        (sym (switch-keeps f.kernel f.room block (λ k room. room)))

    callers-same : is_refused (step_on d g).answer ≡ false → d.kernel.running ≡ (step_on f (switching block)).kernel.running
    callers-same a =
        ap (λ (x : State). x.kernel.running) e
        ∙ same-caller f.kernel f.room g.block block s g.call p (ap (λ (x : State). is_refused (step_on x g).answer) (sym e) ∙ a)

-- ---- lists of calls
sound-after : (s : State) → sound s.kernel ≡ true → (gs : List Given) → sound (after s gs).kernel ≡ true
unfolding after
sound-after s h [] = h
sound-after s h (g ∷ gs) = kept (after s gs).kernel (after s gs).room g.block g.call (sound-after s h gs)

-- from a sound record on
module _ (s : State) (h : sound s.kernel ≡ true) where
  same_after : {ds fs : List Given} → Offered ds fs → after (direct_of s) ds ≡ direct_of (after s fs)
  unfolding after
  same_after nothing = refl
  same_after (switch {ds = ds} {fs = fs} block o) = same_after o ∙ switch-same (after s fs) block
  same_after (other {ds = ds} {fs = fs} g p q o) =
      ap state_of (other-same (after (direct_of s) ds) (after s fs) (same_after o) (sound-after s h fs) g p q)
  same_after (process {ds = ds} {fs = fs} g block p o) =
      ap state_of (process-same (after (direct_of s) ds) (after s fs) (same_after o) (sound-after s h fs) g block p)

  same_seen : {ds fs : List Given} → Offered ds fs → SameSeen (history (direct_of s) ds) (history s fs)
  unfolding after history
  same_seen nothing = nothing
  same_seen (switch {ds = ds} {fs = fs} block o) = switch (event_of (after s fs) (switching block)) refl (same_seen o)
  same_seen (other {ds = ds} {fs = fs} g p q o) =
      let d = after (direct_of s) ds in
      let f = after s fs in
      call (event_of d g) (event_of f g)
      (same-event d f g (other-same d f (same_after o) (sound-after s h fs) g p q) (λ c a. absurd (true≢false (sym c ∙ p)))) (same_seen o)
  same_seen (process {ds = ds} {fs = fs} g block p o) =
      let d = after (direct_of s) ds in
      let f = after s fs in
      let offered = after s (switching block ∷ fs) in
      call (event_of d g) (event_of offered g)
      (same-event d offered g (process-same d f (same_after o) (sound-after s h fs) g block p)
      (λ c. callers-same d f (same_after o) (sound-after s h fs) g block p))
      (switch (event_of f (switching block)) refl (same_seen o))

  in-step-after : s.kernel.setup.mode ≡ 1 → {ds fs : List Given} → Offered ds fs → InStep (after (direct_of s) ds) (after s fs)
  in-step-after m {fs = fs} o =
      let e = same_after o in
      record {
        mode = ap (λ (x : Setup). x.mode) (setup-after s fs) ∙ m;
        records = ap (λ (x : State). x.kernel) e;
        rooms = ap (λ (x : State). x.room) e;
        lowest =
            λ z. subst (λ (x : State). LowestIn x.kernel.ready x.kernel.running.0) (sym e)
            (next-lowest (after s fs).kernel (sound-after s h fs) z);
      }

-- from fresh records: that of the direct kernel is the one that goes with that of the deferred one
pub in_step : DirectAndDeferredInStep
in_step s capacities room h ds fs o =
    let start = starting (deferred s) capacities room in
    let t = fresh-sound (deferred s) capacities h in
    (in-step-after start t refl o, same_seen start t o)
