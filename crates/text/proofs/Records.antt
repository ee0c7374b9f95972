-- A record's fields, one after the other: the first is what stands before the first comma, the others are the fields of what stands after it. Assumes nothing.
use Rattle.std.proofs.Common.{◌≡◌, refl, ℕ, suc, ◌+◌, ◌≤◌, ◌<◌, Bool, true, false, cond, not, List, [], ◌∷◌, length, take, drop, one-add, arith}
use Rattle.std.proofs.lemmas.List.Sums.{prefix_len-le-length}
use Rattle.text.specs.Records.{is_comma, led, fields, before}

pub before-fits : (s : List ℕ) → before s ≤ length s
before-fits s = prefix_len-le-length _ s

-- no comma: the record is one field
pub fields-one : (s : List ℕ) → before s ≡ length s → fields s ≡ s ∷ []
unfolding fields
fields-one [] e = refl
fields-one (a ∷ s) e = by (is_comma a) e (fields-one s)
  where
    by :
        (t : Bool) → cond (not t) (1 + before s) 0 ≡ suc (length s) → (before s ≡ length s → fields s ≡ s ∷ []) →
        cond t ([] ∷ fields s) (led a (fields s)) ≡ (a ∷ s) ∷ []
    by true e h = absurd (omega arith)
    by false e h = rw (h (omega arith))

-- a comma: what stands before it, and the fields of what stands after it
pub fields-more : (s : List ℕ) → before s < length s → fields s ≡ take (before s) s ∷ fields (drop (suc (before s)) s)
unfolding fields
fields-more [] h = absurd (omega arith)
fields-more (a ∷ s) h = by (is_comma a) h (fields-more s)
  where
    by :
        (t : Bool) → cond (not t) (1 + before s) 0 < suc (length s) →
        (before s < length s → fields s ≡ take (before s) s ∷ fields (drop (suc (before s)) s)) →
        cond t ([] ∷ fields s) (led a (fields s))
        ≡ take (cond (not t) (1 + before s) 0) (a ∷ s) ∷ fields (drop (suc (cond (not t) (1 + before s) 0)) (a ∷ s))
    by true h f = refl
    by false h f = rw (f (omega arith), one-add)
