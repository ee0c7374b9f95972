-- Words compared: as lists, and read as text. Assumes nothing.
use Rattle.std.proofs.Common.{◌≡◌, refl, sym, ◌∙◌, ℕ, suc, zero, Bool, true, false, List, [], ◌∷◌, Bor, arith, Result, Ok, Err}
use Rattle.std.specs.Result.{MatchResult, result_unwrap_or}
use Rattle.std.specs.Str.{IsUtf8, IsAscii}
use Rattle.std.proofs.lemmas.Slice.Eq.{bytes_eq-Decides}
use Rattle.std.proofs.lemmas.Str.{IsUtf8-from_ascii}
use Rattle.std.proofs.Math.Path.{subst}
use Rattle.text.specs.Ascii.{same}
use Rattle.asked.specs.Table.{is_ascii, is_ascii_word, SameWords}

pub same_not : (s t : List ℕ) → (s ≡ t → ⊥) → same s t ≡ false
same_not s t h = by (same s t) (bytes_eq-Decides s t).0
  where
    by : (x : Bool) → (x ≡ true → s ≡ t) → x ≡ false
    by true f = absurd (h (f refl))
    by false f = refl

-- ---- ASCII is text
below : (word : List ℕ) → is_ascii word ≡ true → IsAscii word
unfolding is_ascii
below [] e i = grind arith
below (b ∷ rest) e zero = grind arith
below (b ∷ rest) e (suc i) = below rest (grind arith) i

-- bytes that are no text are no word of ASCII, and no text is none either
no_text : (s : List ℕ) → ¬ IsUtf8 s → SameWords [] s
no_text s h [] e = absurd (grind arith)
no_text s h (b ∷ rest) e =
    sym (same_not s (b ∷ rest) (λ p. h (subst IsUtf8 (sym p) (IsUtf8-from_ascii (b ∷ rest) (below (b ∷ rest) (grind arith))))))

module _ {E : Type 0} (s : List ℕ) (d : Bor (List ℕ)) (empty : d.now ≡ []) (X : E → Type 0) where
  pub text_or_none :
      (r : Result (Bor (List ℕ)) E) → MatchResult r (λ t. (t.now ≡ s) × IsUtf8 s) (λ e. ¬ IsUtf8 s × X e) → SameWords (result_unwrap_or r d).now s
  text_or_none (Ok t) h word e = rw (h.0)
  text_or_none (Err x) h word e = rw empty (no_text s h.0 word e)

-- bytes that are read as a word of ASCII are that word
pub word_is : (text bytes word : List ℕ) → SameWords text bytes → text ≡ word → is_ascii_word word ≡ true → bytes ≡ word
word_is text bytes word h e a = (bytes_eq-Decides bytes word).0 (sym (h word a) ∙ (bytes_eq-Decides text word).1 e)
