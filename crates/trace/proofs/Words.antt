-- The table, by which fields are empty: then only the rows that use just the others can fit. Assumes nothing.
use Rattle.std.proofs.Common.{ℕ, ◌≡◌, refl, ◌∙◌, arith, Bool, true, false, cond, ◌&&◌, List, [], ◌∷◌, eqb, leb, length, Option, Some, None}
use Rattle.text.specs.Ascii.{ascii, same}
use Rattle.text.specs.Decimals.{is_number, value_of}
use Rattle.text.proofs.Decimals.{number-less, number-some}
use Rattle.std.proofs.Math.Bool.{and-false, and_comm, and_assoc}
use Rattle.trace.specs.declared.Command.{Command}
use Rattle.trace.specs.Words.{Row, fits, words, named}
use Rattle.trace.specs.Groups.{chosen, with_none, with_a, with_both}

-- ---- the fields looked at before the word
turned : List Row → List ℕ → List ℕ → List ℕ → Option Command
turned [] word a b = None
turned (r ∷ rows) word a b =
    cond (fits r.a a && (fits r.b b && same word (ascii r.word))) (Some (r.command (value_of a) (value_of b))) (turned rows word a b)

turn : (x y z : Bool) → (x && y && z) ≡ (y && (z && x))
turn x y z = and_assoc x y z ∙ and_comm x (y && z) ∙ and_assoc y z x

named-turned : (rows : List Row) (word a b : List ℕ) → named rows word a b ≡ turned rows word a b
unfolding named turned
named-turned [] word a b = refl
named-turned (r ∷ rows) word a b = rw (turn (same word (ascii r.word)) (fits r.a a) (fits r.b b), named-turned rows word a b)

-- ---- by the fields
module _ (word a b : List ℕ) where
  -- both empty
  pub named_none : eqb (length a) 0 ≡ true → eqb (length b) 0 ≡ true → named words word a b ≡ with_none word
  unfolding turned chosen
  named_none e f = named-turned words word a b ∙ rw (e, f)

  -- a empty, b not
  pub named-only-b : eqb (length a) 0 ≡ true → eqb (length b) 0 ≡ false → named words word a b ≡ None
  unfolding turned
  named-only-b e f = named-turned words word a b ∙ rw (e, f)

  -- a is neither empty nor a number
  pub named-bad : eqb (length a) 0 ≡ false → is_number 4294967295 a ≡ false → named words word a b ≡ None
  unfolding turned
  named-bad e f = named-turned words word a b ∙ rw (f, number-less 4294967295 a 65535 (omega arith) f, e)

  -- a is a number
  module _ (n : is_number 4294967295 a ≡ true) where
    -- b is empty
    pub named-a : eqb (length b) 0 ≡ true → named words word a b ≡ with_a word (value_of a)
    unfolding turned chosen
    named-a e =
        let f = number-some 4294967295 a n in
        named-turned words word a b ∙ rw (e, f.1, f.2, f.0)

    -- b is a number
    pub named-both : is_number 4294967295 b ≡ true → named words word a b ≡ with_both word (value_of a) (value_of b)
    unfolding turned chosen
    named-both m =
        let f = number-some 4294967295 a n in
        let g = number-some 4294967295 b m in
        named-turned words word a b ∙ rw (f.1, f.2, f.0, g.1, g.2, g.0, and-false (leb (value_of a) 65535))

    -- b is neither
    pub named-bad-b : eqb (length b) 0 ≡ false → is_number 4294967295 b ≡ false → named words word a b ≡ None
    unfolding turned
    named-bad-b e m =
        let f = number-some 4294967295 a n in
        named-turned words word a b
        ∙ rw (m, number-less 4294967295 b 65535 (omega arith) m, number-less 4294967295 b 64 (omega arith) m, e, f.1, f.2, f.0, and-false (leb (value_of a) 65535))

-- where a part of it fits no row, or the fields are read as numbers
pub ruleset by_fields = (named_none, named-only-b, named-bad, named-a, named-both, named-bad-b)
