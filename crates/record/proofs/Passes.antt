-- The passes over the services, from what the closures give of each item: an item of the first n is one of the table, and the words of those who wait there
-- are the part of all words that starts at the kind's first slot. Assumes nothing.
use Rattle.std.proofs.Common.{ℕ, zero, suc, ◌+◌, ◌<◌, ◌≤◌, ◌≡◌, Bool, List, length, get_or, take, drop, refl, ap, ◌∙◌, arith, length-take, length-take-le, get_or-take, get_or-drop, zero-add, Bor}
use Rattle.std.proofs.lemmas.List.{get_or_default}
use Rattle.std.specs.Fn.{Shared}
use Rattle.record.specs.declared.soundness.Seen.{Seen}
use Rattle.record.specs.Check.{Gives, over}

-- a closure that gives v of each item gives, of item i of the first n, v of item i of the table
pub gives : {F A R : Type 0} (g : Shared F (Bor A × Unit {0}) R) (k : F) (xs : List A) (n : ℕ) (d : A) (v : A → R)
    → ((x : Bor A) (r : R) → g.post k (x, tt) r → r ≡ v x.now) → Gives g k (take n xs) (λ i. v (get_or xs i d))
gives g k xs n d v f = λ i x r l e a.
    let low : i < n = omega (arith, length-take n xs) in
    let inside : i < length xs = omega (arith, length-take n xs) in
    f a.shown r a.says.met ∙ ap v (a.shows ∙ e ∙ get_or-take n xs i x low ∙ get_or_default xs i x d inside)

over_same : (f g g' : ℕ → ℕ) (h : ℕ → Bool) (m : Seen) (n : ℕ) → ((i : ℕ) → i < n → g i ≡ g' i) → over f g h m n ≡ over f g' h m n
unfolding over
over_same f g g' h m zero e = refl
over_same f g g' h m (suc n) e = rw (over_same f g g' h m n (λ i l. e i (omega arith)), e n (omega arith))

-- a pass over the first n of a table, with the words from slot b on
pub pass : {A : Type 0} (xs : List A) (w : List ℕ) (b k : ℕ) (f : ℕ → ℕ) (h : ℕ → Bool) (m : Seen) (n : ℕ) → n ≤ length xs → n ≤ k
    → over f (λ i. get_or (take k (drop b w)) i 0) h m (length (take n xs)) ≡ over f (λ i. get_or w (b + i) 0) h m n
pass xs w b k f h m n l q =
    ap (over f (λ i. get_or (take k (drop b w)) i 0) h m) (length-take-le n xs l)
    ∙ over_same f (λ i. get_or (take k (drop b w)) i 0) (λ i. get_or w (b + i) 0) h m n (λ i p. get_or-take k (drop b w) i 0 (omega arith) ∙ get_or-drop b w i 0)

pub pass_first : {A : Type 0} (xs : List A) (w : List ℕ) (k : ℕ) (f : ℕ → ℕ) (h : ℕ → Bool) (m : Seen) (n : ℕ) → n ≤ length xs → n ≤ k
    → over f (λ i. get_or (take k w) i 0) h m (length (take n xs)) ≡ over f (λ i. get_or w i 0) h m n
pass_first xs w k f h m n l q =
    pass xs w 0 k f h m n l q ∙ over_same f (λ i. get_or w (0 + i) 0) (λ i. get_or w i 0) h m n (λ i p. ap (λ j. get_or w j 0) (zero-add i))
