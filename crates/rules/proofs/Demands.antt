-- The demands of specs/Demands, each proved under its name. Assumes nothing.
use Rattle.record.proofs.Started.{fresh-sound}
use Rattle.rules.specs.Demands.{RefusalsChangeNothing, RefusedExactly, AcceptedExactly, OneOutcomeAlone, OneOutcomeWithRoom, OneOutcomeWithBoth, FreshIsSound, SoundnessKept, LengthsKept, DirectAndDeferredInStep, BenchSheetHolds}
use Rattle.rules.proofs.Refused as refused
use Rattle.rules.proofs.OneOutcome as one
use Rattle.rules.proofs.Kept as kept
use Rattle.rules.proofs.InStep as lists
use Rattle.rules.proofs.Sheet as sheet

-- ---- 1
pub refusals-change-nothing : RefusalsChangeNothing
refusals-change-nothing = refused.refusals-change-nothing

pub refused-exactly : RefusedExactly
refused-exactly = refused.refused-exactly

pub accepted-exactly : AcceptedExactly
accepted-exactly = refused.accepted-exactly

-- ---- 2
pub one-outcome-alone : OneOutcomeAlone
one-outcome-alone = one.alone-once

pub one-outcome-with-room : OneOutcomeWithRoom
one-outcome-with-room = one.room-once

pub one-outcome-with-both : OneOutcomeWithBoth
one-outcome-with-both = one.both-once

-- ---- 3
pub fresh-is-sound : FreshIsSound
fresh-is-sound = fresh-sound

pub soundness-kept : SoundnessKept
soundness-kept = kept.kept

pub lengths-kept : LengthsKept
lengths-kept = kept.lengths-kept

-- ---- 4
pub direct-and-deferred-in-step : DirectAndDeferredInStep
direct-and-deferred-in-step = lists.in_step

-- ---- 5
pub bench-sheet-holds : BenchSheetHolds
bench-sheet-holds = sheet.sheet-holds
