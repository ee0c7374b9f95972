-- The bench sheet's starred cases hold, by computing them. Where one fails, `first_fault rows ≡ at n i` computes instead: line i of case n is the
-- first that fails. Assumes nothing.
use Rattle.std.proofs.Common.{◌≡◌, refl}
use Rattle.std.specs.Int.Count.{count_trailing_zeros}
use Rattle.maps.specs.Maps.{has}
use Rattle.ring.specs.Ring.{put_words}
use Rattle.record.specs.Words.{all_below}
use Rattle.record.specs.Places.{everywhere}
use Rattle.record.specs.Sound.{sound}
use Rattle.room.specs.Room.{offset}
use Rattle.rules.specs.Blocks.{choose, opened, closed}
use Rattle.rules.specs.Refusals.{verdict}
use Rattle.rules.specs.Effects.{signalled, locked, pushed, popped, counted, written}
use Rattle.rules.specs.Step.{step}
use Rattle.rules.specs.Sheet.{rows, none, fault_in, first_fault}

pub sheet-holds : first_fault rows ≡ none
unfolding first_fault fault_in step verdict sound all_below everywhere has count_trailing_zeros offset choose opened closed signalled locked pushed popped
    counted written put_words
sheet-holds = refl
