-- What reading a number says of the text. Assumes nothing.
use Rattle.std.proofs.Common.{◌≡◌, refl, ℕ, ◌≤◌, leb, Bool, true, false, cond, ◌&&◌, List, None, Some, arith, leb-true}
use Rattle.text.specs.Decimals.{is_plain, is_number, value_of, read}
use Rattle.std.specs.Bool.{then_some}
use Rattle.std.proofs.lemmas.Bool.{false≢true}
use Rattle.record.specs.Words.{all_below}
use Rattle.asked.specs.Fields.{field, is_word, number, are_words}

-- a number of at most `most`, read
pub read_number : (most : ℕ) (s : List ℕ) → most ≤ 4294967295 → read most s ≡ then_some (is_number most s) (number s)
unfolding number
read_number most s h = by (is_plain s) (value_of s)
  where
    by : (t : Bool) (v : ℕ) → cond (t && leb v most) (Some v) None ≡ then_some (t && leb v most) (cond (t && leb v 4294967295) v 0)
    by true v = within v
      where
        within : (v : ℕ) → cond (leb v most) (Some v) None ≡ then_some (leb v most) (cond (leb v 4294967295) v 0)
        within v = grind arith
    by false v = refl

-- and it is at most that, as it is read
pub number_fits : (most : ℕ) (s : List ℕ) → is_number most s ≡ true → number s ≤ most
unfolding number
number_fits most s e = by (is_plain s) e
  where
    by : (t : Bool) → (t && leb (value_of s) most) ≡ true → cond (t && leb (value_of s) 4294967295) (value_of s) 0 ≤ most
    by true e = at (leb (value_of s) 4294967295) (leb-true _ _ e)
      where
        at : (t : Bool) → value_of s ≤ most → cond t (value_of s) 0 ≤ most
        at true h = h
        at false h = omega arith
    by false e = absurd (false≢true e)

-- nine fields that are numbers are five and then four
pub nine_are : (s : List ℕ) → are_words s 1 9 ≡ (are_words s 1 5 && are_words s 6 4)
unfolding all_below
nine_are s = by (are_words s 1 5) (is_word (field s 6)) (is_word (field s 7)) (is_word (field s 8)) (is_word (field s 9))
  where
    by : (five a b c d : Bool) → ((((five && a) && b) && c) && d) ≡ (five && ((((true && a) && b) && c) && d))
    by true a b c d = refl
    by false a b c d = refl
