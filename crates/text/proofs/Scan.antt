-- What the scanner finds in one byte; and it does not matter where the input is cut: two chunks one after the other are one. Assumes nothing.
use Rattle.std.proofs.Common.{◌≡◌, refl, ap, ℕ, Bool, true, false, cond, Some, None, List, [], ◌∷◌, ◌++◌}
use Rattle.std.specs.Option.{option_to_list}
use Rattle.text.specs.declared.scanner.Scanner.{Scanner}
use Rattle.text.specs.Scan.{nothing, ends, without_cr, grown, fed, ended, Found, found, after}

-- one byte: what feeding it gives
pub found-one : (b : ℕ) (s : Scanner) → found (b ∷ []) s ≡ record { records = option_to_list (ended s b); scan = fed s b }
unfolding found
found-one b s = by (ends s b)
  where
    by :
        (t : Bool) →
        cond t (after (without_cr s) (found [] nothing)) (found [] (grown s b))
        ≡ record { records = option_to_list (cond t (Some (without_cr s)) None); scan = cond t nothing (grown s b) }
    by true = refl
    by false = refl

abbrev pub joined : Found → Found → Found
joined f g = record { records = f.records ++ g.records; scan = g.scan }

pub found-append :
    (xs ys : List ℕ) (s : Scanner) →
    found (xs ++ ys) s ≡ joined (found xs s) (found ys (found xs s).scan)
unfolding found
found-append [] ys s = refl
found-append (b ∷ xs) ys s = by (ends s b) (found-append xs ys nothing) (found-append xs ys (grown s b))
  where
    A : Found
    A = after (without_cr s) (found xs nothing)

    B : Found
    B = found xs (grown s b)

    by :
        (t : Bool) →
        found (xs ++ ys) nothing ≡ joined (found xs nothing) (found ys (found xs nothing).scan) →
        found (xs ++ ys) (grown s b) ≡ joined B (found ys B.scan) →
        cond t (after (without_cr s) (found (xs ++ ys) nothing)) (found (xs ++ ys) (grown s b))
        ≡ joined (cond t A B) (found ys (cond t A B).scan)
    by true e f = ap (after (without_cr s)) e
    by false e f = f
