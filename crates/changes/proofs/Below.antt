-- Texts put slot by slot. Assumes nothing.
use Rattle.std.proofs.Common.{◌≡◌, ℕ, ◌+◌, ◌<◌, List, ◌∷◌, ◌++◌, length, get_or, drop, length-drop, add-one, append_assoc, ap, sym, ◌∙◌, arith}
use Rattle.std.proofs.lemmas.List.{drop_more}
use Rattle.changes.specs.Changes.{below}

-- what is put of one slot more stands after what was put of those before it
pub below_next :
    (f : ℕ → List ℕ) (n : ℕ) (old so_far new : List ℕ) →
    so_far ≡ old ++ below n f → new ≡ so_far ++ f n → new ≡ old ++ below (n + 1) f
unfolding below
below_next f n old so_far new p q = rw add-one (q ∙ ap (λ s. s ++ f n) p ∙ append_assoc old (below n f) (f n))

-- the first of what is left of a list after i of its items, and what is left after it
pub rest_next :
    {T : Type 0} (xs rest : List T) (i : ℕ) (x none : T) → drop i xs ≡ x ∷ rest →
    (i < length xs) × (x ≡ get_or xs i none) × (rest ≡ drop (i + 1) xs)
rest_next xs rest i x none e =
    let within : i < length xs = omega (arith, length-drop i xs, ap length e) in
    let more : x ∷ rest ≡ get_or xs i none ∷ drop (i + 1) xs = sym e ∙ drop_more xs i none within in
    (within, cc, cc)
