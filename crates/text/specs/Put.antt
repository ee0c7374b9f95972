-- Text put into a lent slice from a place on, and the place past it.
use Rattle.std.specs.Prelude.{ℕ, ◌+◌, ◌≡◌, List, length}
use Rattle.std.proofs.lemmas.List.Edits.{sets}

-- every byte from place `at` on is the text's, in order; every other byte is as it was
pub record Put (old : List ℕ) (at : ℕ) (text : List ℕ) (past : ℕ) (new : List ℕ) : Type 0 where
  pub bytes : new ≡ sets old at text
  pub place : past ≡ at + length text
