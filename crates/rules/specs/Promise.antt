-- What each public function of the kernel promises: that what it gives back is what `step` gives, its answer in the document's words.
use Rattle.std.specs.Prelude.{ℕ, ◌≡◌, List}
use Rattle.record.specs.declared.Kernel.{Kernel}
use Rattle.rules.specs.declared.Call.{Call}
use Rattle.rules.specs.declared.Outcome.{Outcome}
use Rattle.rules.specs.Answers.{said}
use Rattle.rules.specs.Step.{step}

-- of a call that is lent neither room nor block: whatever the room and the block
abbrev pub Alone : Kernel → Call → Outcome → Type 0
Alone k c r = (room block : List ℕ) → step k room block c ≡ record { answer = said r.answer; kernel = r.kernel; room = room; block = block }

-- of a call that is lent the room only: whatever the block
abbrev pub WithRoom : Kernel → Call → List ℕ → Outcome → List ℕ → Type 0
WithRoom k c room r room' = (block : List ℕ) → step k room block c ≡ record { answer = said r.answer; kernel = r.kernel; room = room'; block = block }

-- of a call that is lent both
abbrev pub WithBoth : Kernel → Call → List ℕ → List ℕ → Outcome → List ℕ → List ℕ → Type 0
WithBoth k c room block r room' block' = step k room block c ≡ record { answer = said r.answer; kernel = r.kernel; room = room'; block = block' }
