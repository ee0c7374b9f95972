-- The parts of a text between marks: with commas they are a record's fields (crate text), with dots the parts of a wait.
use Rattle.std.specs.Prelude.{ℕ, cond, List, [], ◌∷◌, eqb, get_or}
use Rattle.text.specs.Records.{led}

-- always one more than there are marks
unfoldable pub parted : ℕ → List ℕ → List (List ℕ)
parted mark [] = [] ∷ []
parted mark (a ∷ rest) = cond (eqb a mark) ([] ∷ parted mark rest) (led a (parted mark rest))

-- part n, and nothing where there is no such part
abbrev pub part_at : ℕ → List ℕ → ℕ → List ℕ
part_at mark s n = get_or (parted mark s) n []
