-- `Channel::read_block`: the words before `word` are read, and `at` is the place of the next.
use Rattle.std.proofs.Common.{◌≡◌, ◌<◌}
use Rattle.ring.specs.Ring.{place, read_words}
use Rattle.ring.proofs.Channel.read_block.Given as goal

abbrev pub invariant-loop-word : goal.invariant-loop-word
invariant-loop-word l = (l.at ≡ place l.self l.word-index) × (l.at < l.self.capacity) × (l.word-items ≡ read_words l.part 0 l.self l.initial.word-items l.word-index)
