-- What is promised, in the user's order. Each statement is a type; proofs/Demands has a proof of each under its name. None assumes anything that is not
-- proved, and all speak of `step`, which is what the code does: each public function's contract is one of specs/Promise.
use Rattle.std.specs.Prelude.{ℕ, ◌<◌, ◌≡◌, ◌↔◌, Bool, true, false, ◌&&◌, ◌||◌, List, [], ◌∷◌, eqb, length}
use Rattle.record.specs.declared.Kernel.{Kernel}
use Rattle.record.specs.declared.Setup.{Setup}
use Rattle.record.specs.Record.{lengths}
use Rattle.record.specs.Sound.{sound}
use Rattle.record.specs.Fresh.{fresh, setup_fits}
use Rattle.rules.specs.declared.Call.{Call}
use Rattle.rules.specs.declared.Outcome.{Outcome}
use Rattle.rules.specs.Answers.{refused, number}
use Rattle.rules.specs.Refusals.{Row, table, seen}
use Rattle.rules.specs.Step.{Given, step, after, history}
use Rattle.rules.specs.Promise.{Alone, WithRoom, WithBoth}
use Rattle.rules.specs.Deferred.{direct, deferred, starting, Offered, InStep, SameSeen, is_refused}
use Rattle.rules.specs.Sheet.{rows, none, first_fault}

-- ---- 1. What can't be done gets a numbered refusal, given exactly when document 01 says, and the record, the room and the block stay unchanged
abbrev pub RefusalsChangeNothing : Type 0
RefusalsChangeNothing =
    (k : Kernel) (room block : List ℕ) (c : Call) (n : ℕ)
    → (step k room block c).answer ≡ refused n → step k room block c ≡ record { answer = refused n; kernel = k; room = room; block = block }

-- the condition of refusal n holds
unfoldable pub applies : ℕ → List Row → Bool
applies n [] = false
applies n (r ∷ rs) = (eqb (number r.answer) n && r.holds) || applies n rs

-- and that of no lower one
pub record LowestThatApplies (n : ℕ) (rows : List Row) : Type 0 where
  pub it : applies n rows ≡ true
  pub no_lower : (m : ℕ) → m < n → applies m rows ≡ false

abbrev pub RefusedExactly : Type 0
RefusedExactly =
    (k : Kernel) (room block : List ℕ) (c : Call) (n : ℕ)
    → ((step k room block c).answer ≡ refused n) ↔ LowestThatApplies n (table (seen k (length room) c) c)

-- a call of which no condition holds is not refused
abbrev pub AcceptedExactly : Type 0
AcceptedExactly =
    (k : Kernel) (room block : List ℕ) (c : Call)
    → (is_refused (step k room block c).answer ≡ false) ↔ ((n : ℕ) → applies n (table (seen k (length room) c) c) ≡ false)

-- ---- 2. For every call the answer, the next record, the room and the block are those of the rules: a contract admits one outcome
abbrev pub OneOutcomeAlone : Type 0
OneOutcomeAlone = (k : Kernel) (c : Call) (r s : Outcome) → Alone k c r → Alone k c s → r ≡ s

abbrev pub OneOutcomeWithRoom : Type 0
OneOutcomeWithRoom =
    (k : Kernel) (c : Call) (room : List ℕ) (r s : Outcome) (a b : List ℕ)
    → WithRoom k c room r a → WithRoom k c room s b → (r ≡ s) × (a ≡ b)

abbrev pub OneOutcomeWithBoth : Type 0
OneOutcomeWithBoth =
    (k : Kernel) (c : Call) (room block : List ℕ) (r s : Outcome) (a b d e : List ℕ)
    → WithBoth k c room block r a d → WithBoth k c room block s b e → (r ≡ s) × (a ≡ b) × (d ≡ e)

-- ---- 3. Soundness is kept
abbrev pub FreshIsSound : Type 0
FreshIsSound = (s : Setup) (capacities : List ℕ) → setup_fits s capacities ≡ true → sound (fresh s capacities) ≡ true

-- by every call, accepted or refused, with any room and any block
abbrev pub SoundnessKept : Type 0
SoundnessKept = (k : Kernel) (room block : List ℕ) (c : Call) → sound k ≡ true → sound (step k room block c).kernel ≡ true

-- of a record as a value of its type, that its arrays have their lengths is all that is used, and it is part of soundness; a record that is not sound
-- keeps it too
abbrev pub LengthsKept : Type 0
LengthsKept = (k : Kernel) (room block : List ℕ) (c : Call) → lengths k ≡ true → lengths (step k room block c).kernel ≡ true

-- ---- 4. Direct and deferred kernels, set up alike within the limits and given the same calls, are in step after every call, and what is seen of the
-- calls is the same
abbrev pub DirectAndDeferredInStep : Type 0
DirectAndDeferredInStep =
    (s : Setup) (capacities room : List ℕ) → setup_fits (deferred s) capacities ≡ true → (ds fs : List Given) → Offered ds fs
    → InStep (after (starting (direct s) capacities room) ds) (after (starting (deferred s) capacities room) fs)
    × SameSeen (history (starting (direct s) capacities room) ds) (history (starting (deferred s) capacities room) fs)

-- ---- 5. The bench sheet's starred cases
abbrev pub BenchSheetHolds : Type 0
BenchSheetHolds = first_fault rows ≡ none
