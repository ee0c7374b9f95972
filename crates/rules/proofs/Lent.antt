-- A call that needs no room does the same whatever the room and the block; one that is no block call does the same whatever the block. Assumes nothing.
use Rattle.std.proofs.Common.{◌≡◌, ℕ, false, List, length, Ok, Err, refl, ap, ◌∙◌, true≢false}
use Rattle.record.specs.declared.Kernel.{Kernel}
use Rattle.rules.specs.declared.Call.{Call}
use Rattle.rules.specs.declared.Call.TheVariants.{Process, Finish, Interrupt}
use Rattle.rules.specs.declared.Request.TheVariants as request
use Rattle.rules.specs.declared.Interrupt.TheVariants as interrupt
use Rattle.rules.specs.Calls.{is_interrupt, needs_room}
use Rattle.rules.specs.Refusals.{Verdict, verdict}
use Rattle.rules.specs.Step.{Result, settle, step}

-- ---- the room
verdict-alone : (k : Kernel) (c : Call) (m n : ℕ) → needs_room c ≡ false → verdict k m c ≡ verdict k n c
unfolding verdict
verdict-alone k c m n e = rw e

-- the outcome with another room and block
abbrev pub moved : Result → List ℕ → List ℕ → Result
moved r room block = record { answer = r.answer; kernel = r.kernel; room = room; block = block }

settle-alone : (k : Kernel) (c : Call) (v : Verdict) (room block room' block' : List ℕ) → needs_room c ≡ false
    → settle k room block c v ≡ moved (settle k room' block' c v) room block
settle-alone k c (Err r) room block room' block' e = refl
settle-alone k (Process (request.Push i x d)) (Ok _) room block room' block' e = absurd (true≢false e)
settle-alone k (Process (request.Pop i d t)) (Ok _) room block room' block' e = absurd (true≢false e)
settle-alone k (Process (request.Flush i)) (Ok _) room block room' block' e = absurd (true≢false e)
settle-alone k Finish (Ok _) room block room' block' e = absurd (true≢false e)
settle-alone k (Interrupt (interrupt.Write i)) (Ok _) room block room' block' e = absurd (true≢false e)
settle-alone k (Interrupt (interrupt.Read i)) (Ok _) room block room' block' e = absurd (true≢false e)
settle-alone k c (Ok _) room block room' block' e = refl

pub step-alone : (k : Kernel) (c : Call) (room block room' block' : List ℕ) → needs_room c ≡ false → step k room block c ≡ moved (step k room' block' c) room block
unfolding step
step-alone k c room block room' block' e =
    ap (settle k room block c) (verdict-alone k c (length room) (length room') e) ∙ settle-alone k c (verdict k (length room') c) room block room' block' e

-- ---- the block: only interrupt calls are lent one
settle-room : (k : Kernel) (c : Call) (v : Verdict) (room block block' : List ℕ) → is_interrupt c ≡ false
    → settle k room block c v ≡ moved (settle k room block' c v) (settle k room block' c v).room block
settle-room k c (Err r) room block block' e = refl
settle-room k (Interrupt i) (Ok _) room block block' e = absurd (true≢false e)
settle-room k c (Ok _) room block block' e = refl

pub step_room : (k : Kernel) (c : Call) (room block block' : List ℕ) → is_interrupt c ≡ false
    → step k room block c ≡ moved (step k room block' c) (step k room block' c).room block
unfolding step
step_room k c room block block' e = settle-room k c (verdict k (length room) c) room block block' e
