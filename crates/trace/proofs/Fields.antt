-- A record's fields are what `split` gives, one after another. Assumes nothing.
use Rattle.std.proofs.Common.{ℕ, ◌≡◌, refl, sym, subst, Bool, List, [], ◌∷◌, eqb, Bor, Option, None, Some}
use Rattle.std.specs.List.{slice_split, onto_first}
use Rattle.text.specs.Records.{led, fields}
use Rattle.std.specs.Iterator.{AlwaysYields}
use Rattle.std.specs.Slice.Iter.{split_steps}
use Rattle.std.specs.declared.slice.Split.{Split}
use Rattle.std.proofs.lemmas.Iterator.{YieldsList}
use denote.Param.Members.{Mut}
use Rattle.trace.specs.Words.{of_fields}

-- cut at the commas
pub fields-split : (s : List ℕ) → fields s ≡ slice_split (λ b. eqb b 44) s
unfolding fields
fields-split [] = refl
fields-split (a ∷ s) = rw (fields-split s, led-onto a (slice_split (λ b. eqb b 44) s))
  where
    led-onto : (a : ℕ) (l : List (List ℕ)) → led a l ≡ onto_first a l
    led-onto a [] = refl
    led-onto a (t ∷ l) = refl

-- what `next` gives four times in a row
module _ {F : Type 0} (g : Mut F (Bor ℕ × Unit {0}) Bool) where
  abbrev pub S : Type 0
  S = Split ℕ F

  abbrev pub steps : S → Option (Bor (List ℕ)) → S → Type 0
  steps s r t = split_steps g s r t

  abbrev pub Yields : S → List (List ℕ) → Type 0
  Yields s l = AlwaysYields steps (λ (x : Bor (List ℕ)). x.now) s l

  ends-second : (l : List (List ℕ)) (s t u : S) (x : Bor (List ℕ)) → Yields s l → steps s (Some x) t → steps t None u → of_fields l ≡ None
  ends-second [] s t u x g p q = refl
  ends-second (y ∷ []) s t u x g p q = refl
  ends-second (y ∷ z ∷ l) s t u x g p q = absurd ((g.1 x t p).1.0 u q)

  ends-third : (l : List (List ℕ)) (s t u w : S) (x y : Bor (List ℕ)) → Yields s l → steps s (Some x) t → steps t (Some y) u → steps u None w → of_fields l ≡ None
  ends-third [] s t u w x y g p q r = refl
  ends-third (a ∷ []) s t u w x y g p q r = refl
  ends-third (a ∷ b ∷ []) s t u w x y g p q r = refl
  ends-third (a ∷ b ∷ d ∷ l) s t u w x y g p q r = absurd (((g.1 x t p).1.1 y u q).1.0 w r)

  goes-on : (l : List (List ℕ)) (s t u w e : S) (x y z o : Bor (List ℕ)) → Yields s l → steps s (Some x) t → steps t (Some y) u → steps u (Some z) w → steps w (Some o) e → of_fields l ≡ None
  goes-on [] s t u w e x y z o g p q r k = refl
  goes-on (a ∷ []) s t u w e x y z o g p q r k = refl
  goes-on (a ∷ b ∷ []) s t u w e x y z o g p q r k = refl
  goes-on (a ∷ b ∷ d ∷ []) s t u w e x y z o g p q r k = absurd ((((g.1 x t p).1.1 y u q).1.1 z w r).1 o e k)
  goes-on (a ∷ b ∷ d ∷ f ∷ l) s t u w e x y z o g p q r k = refl

  three : (l : List (List ℕ)) (s t u w e : S) (x y z : Bor (List ℕ)) → Yields s l → steps s (Some x) t → steps t (Some y) u → steps u (Some z) w → steps w None e → l ≡ x.now ∷ y.now ∷ z.now ∷ []
  three [] s t u w e x y z g p q r k = absurd (g x t p)
  three (a ∷ []) s t u w e x y z g p q r k = absurd ((g.1 x t p).1 y u q)
  three (a ∷ b ∷ []) s t u w e x y z g p q r k = absurd (((g.1 x t p).1.1 y u q).1 z w r)
  three (a ∷ b ∷ d ∷ f ∷ l) s t u w e x y z g p q r k = absurd ((((g.1 x t p).1.1 y u q).1.1 z w r).1.0 e k)
  three (a ∷ b ∷ d ∷ []) s t u w e x y z g p q r k =
      let h = g.1 x t p in
      let i = h.1.1 y u q in
      let j = i.1.1 z w r in
      λ n. sym h.0 n ∷ sym i.0 n ∷ sym j.0 n ∷ []

  abbrev pub Gives : S → List (List ℕ) → Type 0
  Gives s l = YieldsList (split_steps g) (λ (x : Bor (List ℕ)). x.now) s l

  into : (s t : S) (r o : Option (Bor (List ℕ))) → r ≡ o → steps s r t → steps s o t
  into s t r o e p = subst (λ n. steps s n t) e p

  module _ (l : List (List ℕ)) (s t u w e : S) (r0 r1 r2 r3 : Option (Bor (List ℕ))) (p : steps s r0 t) (q : steps t r1 u) (r : steps u r2 w) (k : steps w r3 e) where
    pub second-none : (x : Bor (List ℕ)) → r0 ≡ Some x → r1 ≡ None → Gives s l → of_fields l ≡ None
    second-none x a b y = ends-second l s t u x y.runs (into s t r0 _ a p) (into t u r1 _ b q)

    pub third-none : (x y : Bor (List ℕ)) → r0 ≡ Some x → r1 ≡ Some y → r2 ≡ None → Gives s l → of_fields l ≡ None
    third-none x x' a b d y = ends-third l s t u w x x' y.runs (into s t r0 _ a p) (into t u r1 _ b q) (into u w r2 _ d r)

    pub fourth-some : (x y z o : Bor (List ℕ)) → r0 ≡ Some x → r1 ≡ Some y → r2 ≡ Some z → r3 ≡ Some o → Gives s l → of_fields l ≡ None
    fourth-some x x' z o a b d f y = goes-on l s t u w e x x' z o y.runs (into s t r0 _ a p) (into t u r1 _ b q) (into u w r2 _ d r) (into w e r3 _ f k)

    pub fourth-none : (x y z : Bor (List ℕ)) → r0 ≡ Some x → r1 ≡ Some y → r2 ≡ Some z → r3 ≡ None → Gives s l → l ≡ x.now ∷ y.now ∷ z.now ∷ []
    fourth-none x x' z a b d f y = three l s t u w e x x' z y.runs (into s t r0 _ a p) (into t u r1 _ b q) (into u w r2 _ d r) (into w e r3 _ f k)
