-- Each public contract admits one outcome: two that satisfy it are equal. Assumes nothing.
use Rattle.std.proofs.Common.{◌≡◌, ℕ, ◌-◌, List, [], ◌∷◌, get_or, sym, refl, ap, ◌∙◌}
use Rattle.record.specs.declared.Kernel.{Kernel}
use Rattle.rules.specs.declared.Call.{Call}
use Rattle.rules.specs.declared.Answer.{Answer}
use Rattle.rules.specs.declared.Answer.TheVariants as answer
use Rattle.rules.specs.declared.Refusal.{Refusal}
use Rattle.rules.specs.declared.Refusal.TheVariants.{NotSound, RoomLength, InInterrupt, OutsideInterrupt, SwitchPending, IdleRuns, WaitOpen, NothingOpen, Missing, OwnedAlready, NotOwner, TooDeep, NonePending, OutsideLimits, Unreadable}
use Rattle.rules.specs.declared.Outcome.{Outcome}
use Rattle.rules.specs.Answers.{Said, done, waiting, timed_out, busy, value, refused, number, said}
use Rattle.rules.specs.Step.{Result}
use Rattle.rules.specs.Promise.{Alone, WithRoom, WithBoth}

-- ---- the document's words tell the answer
refusals : List Refusal
refusals =
    NotSound ∷ RoomLength ∷ InInterrupt ∷ OutsideInterrupt ∷ SwitchPending ∷ IdleRuns ∷ WaitOpen ∷ NothingOpen ∷ Missing ∷ OwnedAlready ∷ NotOwner
    ∷ TooDeep ∷ NonePending ∷ OutsideLimits ∷ Unreadable ∷ []

refusal_of : ℕ → Refusal
refusal_of n = get_or refusals (n - 1) NotSound

refusal-told : (r : Refusal) → refusal_of (number r) ≡ r
unfolding refusal_of refusals
refusal-told NotSound = refl
refusal-told r = refl

answer_of : Said → Answer
answer_of done = answer.Done
answer_of waiting = answer.Waiting
answer_of timed_out = answer.TimedOut
answer_of busy = answer.Busy
answer_of (value v) = answer.Value v
answer_of (refused n) = answer.Refused (refusal_of n)

answer-told : (a : Answer) → answer_of (said a) ≡ a
unfolding answer_of
answer-told (answer.Refused r) = ap answer.Refused (refusal-told r)
answer-told a = refl

-- ---- and so the outcome
outcome_of : Result → Outcome
outcome_of r = record { answer = answer_of r.answer; kernel = r.kernel }

abbrev saying : Kernel → Answer → Outcome
saying k a = record { answer = a; kernel = k }

abbrev result_of : Outcome → List ℕ → List ℕ → Result
result_of o room block = record { answer = said o.answer; kernel = o.kernel; room = room; block = block }

outcome-told : (o : Outcome) (room block : List ℕ) → outcome_of (result_of o room block) ≡ o
unfolding outcome_of
outcome-told o room block = ap (saying o.kernel) (answer-told o.answer)

same_outcome : (r s : Outcome) (a b d e : List ℕ) → result_of r a d ≡ result_of s b e → r ≡ s
same_outcome r s a b d e q = sym (outcome-told r a d) ∙ ap outcome_of q ∙ outcome-told s b e

-- ---- the contracts
pub alone-once : (k : Kernel) (c : Call) (r s : Outcome) → Alone k c r → Alone k c s → r ≡ s
alone-once k c r s f g = same_outcome r s [] [] [] [] (sym (f [] []) ∙ g [] [])

pub room-once : (k : Kernel) (c : Call) (room : List ℕ) (r s : Outcome) (a b : List ℕ)
    → WithRoom k c room r a → WithRoom k c room s b → (r ≡ s) × (a ≡ b)
room-once k c room r s a b f g = (same_outcome r s a b [] [] (sym (f []) ∙ g []), ap (λ (x : Result). x.room) (sym (f []) ∙ g []))

pub both-once : (k : Kernel) (c : Call) (room block : List ℕ) (r s : Outcome) (a b d e : List ℕ)
    → WithBoth k c room block r a d → WithBoth k c room block s b e → (r ≡ s) × (a ≡ b) × (d ≡ e)
both-once k c room block r s a b d e f g =
    (same_outcome r s a b d e (sym f ∙ g), ap (λ (x : Result). x.room) (sym f ∙ g), ap (λ (x : Result). x.block) (sym f ∙ g))
