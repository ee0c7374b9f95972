-- The parts of a text are what `split` cuts it into, and a record's fields are its parts between commas. Assumes nothing.
use Rattle.std.proofs.Common.{◌≡◌, refl, ap, ◌∙◌, ℕ, suc, zero, ◌+◌, eqb, length, get_or, List, [], ◌∷◌, Bor, Option, None, Some, arith, slice_get}
use Rattle.std.specs.List.{slice_split, onto_first, count_by}
use Rattle.std.specs.Option.{option_map, unwrap_or}
use Rattle.std.proofs.lemmas.List.Splits.{length-slice_split}
use Rattle.text.specs.Records.{led, fields}
use Rattle.asked.specs.Parts.{parted}

pub parted_split : (mark : ℕ) (s : List ℕ) → parted mark s ≡ slice_split (λ b. eqb b mark) s
unfolding parted
parted_split mark [] = refl
parted_split mark (a ∷ s) = rw (parted_split mark s, led_onto a (slice_split (λ b. eqb b mark) s))
  where
    led_onto : (a : ℕ) (l : List (List ℕ)) → led a l ≡ onto_first a l
    led_onto a [] = refl
    led_onto a (t ∷ l) = refl

pub parted_count : (mark : ℕ) (s : List ℕ) → length (parted mark s) ≡ count_by (λ b. eqb b mark) s + 1
parted_count mark s = ap length (parted_split mark s) ∙ length-slice_split (λ b. eqb b mark) s

pub parted_fields : (s : List ℕ) → parted 44 s ≡ fields s
unfolding parted fields
parted_fields [] = refl
parted_fields (a ∷ s) = rw (parted_fields s)

-- a part that is asked for by its number, and nothing where there is none
pub part_or :
    (r : Option (Bor (List ℕ))) (d : Bor (List ℕ)) (l : List (List ℕ)) (n : ℕ) →
    d.now ≡ [] → option_map (λ x. x.now) r ≡ slice_get l n → (unwrap_or r d).now ≡ get_or l n []
part_or None d [] n e h = e
part_or (Some x) d [] n e h = absurd (grind arith)
part_or r d (p ∷ l) zero e h = by r h
  where
    by : (r : Option (Bor (List ℕ))) → option_map (λ x. x.now) r ≡ Some p → (unwrap_or r d).now ≡ p
    by None h = absurd (grind arith)
    by (Some x) h = grind arith
part_or r d (p ∷ l) (suc n) e h = part_or r d l n e h
