-- A word, byte by byte. Assumes nothing.
use Rattle.std.proofs.Common.{ℕ, suc, ◌+◌, ◌<◌, ◌≡◌, refl, sym, ap, ◌∙◌, arith, Bool, true, false, cond, ◌&&◌, List, [], ◌∷◌, ◌++◌, length, get_or, drop, eqb, leb, Option, Some, None, drop-cons, drop_of_length-le, true≢false, eq-eqb, eqb-true}
use Rattle.std.proofs.lemmas.Bool.Decides.{nat_tests}
use Rattle.std.proofs.lemmas.Slice.Eq.{bytes_eq-Decides}
use borrow.Author.Tests.{lt-leb}
use Rattle.text.specs.Ascii.{ascii, same}
use Rattle.std.proofs.Math.Bool.{and-false, and_comm, and_assoc}
use Rattle.trace.specs.declared.Command.{Command}
use Rattle.trace.specs.Words.{Row}
use Rattle.trace.specs.Groups.{within, chosen, part, with_none, with_a, with_both}

-- the bytes of t stand in w, from place i on
abbrev pub reads : List ℕ → ℕ → List ℕ → Bool
reads w i [] = true
reads w i (c ∷ t) = eqb (get_or w i 0) c && reads w (suc i) t

dropped : (w : List ℕ) (i : ℕ) → length w ≡ i + 0 → drop i w ≡ []
dropped w i e = search (arith, drop_of_length-le)

on : (w t : List ℕ) (i : ℕ) → length w ≡ i + length t → same (drop i w) t ≡ reads w i t
on w [] i e = rw (dropped w i e)
on w (c ∷ t) i e =
    rw (drop-cons w i 0 (omega arith)) (ap (λ (x : Bool). eqb (get_or w i 0) c && x) (on w t (suc i) (omega arith)))

same-reads : (w t : List ℕ) → same w t ≡ (eqb (length w) (length t) && reads w 0 t)
same-reads w t = by (eqb (length w) (length t)) refl (same w t) refl
  where
    by : (b : Bool) → eqb (length w) (length t) ≡ b → (c : Bool) → same w t ≡ c → same w t ≡ (b && reads w 0 t)
    by true e c f = on w t 0 (omega (arith, eqb-true (length w) (length t) e))
    by false e true f = absurd (true≢false (sym (eq-eqb _ _ (ap length ((bytes_eq-Decides w t).0 f))) ∙ e))
    by false e false f = f

-- the rows in order, each word by its length and then its bytes
abbrev pub sought : List Row → List ℕ → ℕ → ℕ → Option Command
sought [] word a b = None
sought (r ∷ rows) word a b =
    cond (eqb (length word) (length (ascii r.word)) && (reads word 0 (ascii r.word) && (within r.a a && within r.b b))) (Some (r.command a b)) (sought rows word a b)

pub chosen_sought : (rows : List Row) (word : List ℕ) (a b : ℕ) → chosen rows word a b ≡ sought rows word a b
unfolding chosen
chosen_sought [] word a b = refl
chosen_sought (r ∷ rows) word a b =
    let w : Bool = within r.a a && within r.b b in
    let x : Bool = eqb (length word) (length (ascii r.word)) in
    let e : (within r.a a && (within r.b b && same word (ascii r.word))) ≡ (x && (reads word 0 (ascii r.word) && w)) =
    sym (and_assoc (within r.a a) (within r.b b) (same word (ascii r.word))) ∙ ap (λ (t : Bool). w && t) (same-reads word (ascii r.word)) ∙ and_comm w (x && reads word 0 (ascii r.word)) ∙ and_assoc x (reads word 0 (ascii r.word)) w in
    rw (e, chosen_sought rows word a b)

pub none_sought : (word : List ℕ) → with_none word ≡ sought (part 0 7) word 0 0
none_sought word = chosen_sought (part 0 7) word 0 0

pub time_sought : (word : List ℕ) (a : ℕ) → chosen (part 7 4) word a 0 ≡ sought (part 7 4) word a 0
time_sought word a = chosen_sought (part 7 4) word a 0

pub mutex_sought : (word : List ℕ) (a : ℕ) → chosen (part 11 6) word a 0 ≡ sought (part 11 6) word a 0
mutex_sought word a = chosen_sought (part 11 6) word a 0

pub limit_sought : (word : List ℕ) (a b : ℕ) → chosen (part 17 4) word a b ≡ sought (part 17 4) word a b
limit_sought word a b = chosen_sought (part 17 4) word a b

-- b is no limit
pub limit_past : (word : List ℕ) (a b : ℕ) → 65535 < b → chosen (part 17 4) word a b ≡ None
unfolding chosen
limit_past word a b h = rw (lt-leb b 65535 h, and-false (leb a 4294967295))

pub item_sought : (word : List ℕ) (a b : ℕ) → chosen (part 21 4) word a b ≡ sought (part 21 4) word a b
item_sought word a b = chosen_sought (part 21 4) word a b

pub ruleset words_read = (nat_tests, none_sought, time_sought, mutex_sought, limit_sought, limit_past, item_sought)

-- ---- some rows and then others
abbrev or : Option Command → Option Command → Option Command
or None d = d
or (Some c) d = Some c

chosen-append : (rows more : List Row) (word : List ℕ) (a b : ℕ) → chosen (rows ++ more) word a b ≡ or (chosen rows word a b) (chosen more word a b)
unfolding chosen
chosen-append [] more word a b = refl
chosen-append (r ∷ rows) more word a b = by (within r.a a && (within r.b b && same word (ascii r.word))) (chosen-append rows more word a b)
  where
    by :
        (t : Bool) → chosen (rows ++ more) word a b ≡ or (chosen rows word a b) (chosen more word a b) →
        cond t (Some (r.command a b)) (chosen (rows ++ more) word a b) ≡ or (cond t (Some (r.command a b)) (chosen rows word a b)) (chosen more word a b)
    by true e = refl
    by false e = e

pub a_or : (word : List ℕ) (a : ℕ) → with_a word a ≡ or (chosen (part 7 4) word a 0) (chosen (part 11 6) word a 0)
a_or word a = chosen-append (part 7 4) (part 11 6) word a 0

pub both_or : (word : List ℕ) (a b : ℕ) → with_both word a b ≡ or (chosen (part 17 4) word a b) (chosen (part 21 4) word a b)
both_or word a b = chosen-append (part 17 4) (part 21 4) word a b

pub ruleset words_joined = (nat_tests, a_or, both_or)
