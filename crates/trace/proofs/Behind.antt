-- A line is its word and the line without it. Assumes nothing.
use Rattle.std.proofs.Common.{◌≡◌, ℕ, List, [], ◌++◌, append_assoc}
use Rattle.rules.specs.Answers.{Said}
use Rattle.trace.specs.Lines.{line}

pub behind_word : (word : List ℕ) (answer : Said) (running ready : ℕ) → word ++ line [] answer running ready ≡ line word answer running ready
behind_word word answer running ready = simp append_assoc
