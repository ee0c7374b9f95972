-- `Channel::write_block`: the words before `word` are put, and `at` is the place of the next.
use Rattle.std.proofs.Common.{◌≡◌, ◌+◌, ◌<◌}
use Rattle.ring.specs.Ring.{place, put_words}
use Rattle.ring.proofs.Channel.write_block.Given as goal

abbrev pub invariant-loop-word : goal.invariant-loop-word
invariant-loop-word l = (l.at ≡ place l.self (l.self.count + l.word-index)) × (l.at < l.self.capacity) × (l.part ≡ put_words l.initial.part 0 l.self l.block l.word-index)
