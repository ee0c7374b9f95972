-- What each operation does to the list of a channel's items, wherever its part starts and however it wraps. Assumes nothing.
use Rattle.std.proofs.Common.{ℕ, zero, suc, ◌+◌, ◌-◌, ◌<◌, ◌≤◌, ◌≡◌, ◌⊎◌, List, [], ◌∷◌, ◌++◌, length, get_or, set, take, refl, sym, ap, ◌∙◌, ⊎_elim, arith, add-one, add-zero, add-suc, append_assoc, append-nil, get_or-set_same, get_or-set_other, take-suc}
use Rattle.ring.specs.declared.Channel.{Channel}
use Rattle.ring.specs.declared.End.TheVariants.{Front, Back}
use Rattle.ring.specs.Ring.{Fits, place, put_place, take_place, moved, gained, taken, grown, lifted, put_words, items, items_of}
use Rattle.ring.proofs.Places.{apart, place-lt, place_none, place-lifted, put-front-place, put-front-next, take-back-place, put-place-lt}
use Rattle.ring.proofs.Blocks.{length-put_words}

-- ---- what leaves the items alone

-- a store at a place that is none of the first n
pub items_kept : (r : List ℕ) (b : ℕ) (c : Channel) (n at v : ℕ) → ((j : ℕ) → j < n → b + place c j ≡ at → ⊥) → items (set r at v) b c n ≡ items r b c n
unfolding items
items_kept r b c zero at v h = refl
items_kept r b c (suc n) at v h = rw (items_kept r b c n at v (λ j q. h j (omega arith)), get_or-set_other r at (b + place c n) v 0 (h n (omega arith)))

-- a store outside the channel's part
pub items-other : (r : List ℕ) (b : ℕ) (c : Channel) (at v : ℕ) → 0 < c.capacity → (at < b) ⊎ (b + c.capacity ≤ at) → items_of (set r at v) b c ≡ items_of r b c
items-other r b c at v some out =
    items_kept r b c c.count at v (λ j q e. ⊎_elim (λ (h : at < b). omega arith) (λ (h : b + c.capacity ≤ at). omega (arith, place-lt c j some)) out)

-- only first and capacity matter to the first n
items-moved : (r : List ℕ) (b : ℕ) (c : Channel) (m n : ℕ) → items r b (moved c c.first m) n ≡ items r b c n
unfolding items
items-moved r b c m zero = refl
items-moved r b c m (suc n) = ap (◌++ (get_or r (b + place c n) 0 ∷ [])) (items-moved r b c m n)

-- ---- a run of items in two

pub items-split : (r : List ℕ) (b : ℕ) (c : Channel) (n m : ℕ) → items r b c (n + m) ≡ items r b c n ++ items r b (lifted c n) m
unfolding items
items-split r b c n zero = rw (add-zero, append-nil)
items-split r b c n (suc m) = rw (add-suc, items, items-split r b c n m, place-lifted c n m) (append_assoc (items r b c n) (items r b (lifted c n) m) (get_or r (b + place c (n + m)) 0 ∷ []))

-- the first split off
items-cons : (r : List ℕ) (b : ℕ) (c : Channel) (n : ℕ) → c.first < c.capacity → items r b c (suc n) ≡ get_or r (b + c.first) 0 ∷ items r b (lifted c 1) n
unfolding items
items-cons r b c zero h = rw (place_none c h)
items-cons r b c (suc n) h =
    let e : place (lifted c 1) n ≡ place c (suc n) = place-lifted c 1 n ∙ ap (place c) (omega arith) in
    ap (◌++ (get_or r (b + place c (suc n)) 0 ∷ [])) (items-cons r b c n h) ∙ ap (λ (p : ℕ). get_or r (b + c.first) 0 ∷ (items r b (lifted c 1) n ++ (get_or r (b + p) 0 ∷ []))) (sym e)

-- ---- takes: the first item less, the last item less, the first n less

pub items-take-front : (r : List ℕ) (b : ℕ) (c : Channel) → Fits c → 0 < c.count → items_of r b c ≡ get_or r (b + take_place Front c) 0 ∷ items_of r b (taken Front c)
items-take-front r b c f h =
    let e : c.count ≡ suc (c.count - 1) = omega arith in
    ap (items r b c) e ∙ items-cons r b c (c.count - 1) f.first

pub items-take-back : (r : List ℕ) (b : ℕ) (c : Channel) → 0 < c.count → items_of r b c ≡ items_of r b (taken Back c) ++ (get_or r (b + take_place Back c) 0 ∷ [])
unfolding items
items-take-back r b c h =
    let e : c.count ≡ suc (c.count - 1) = omega arith in
    ap (items r b c) e
    ∙ ap (◌++ (get_or r (b + place c (c.count - 1)) 0 ∷ [])) (sym (items-moved r b c (c.count - 1) (c.count - 1)))
    ∙ ap (λ (p : ℕ). items_of r b (taken Back c) ++ (get_or r (b + p) 0 ∷ [])) (sym (take-back-place c h))

pub items-read : (r : List ℕ) (b : ℕ) (c : Channel) (n : ℕ) → n ≤ c.count → items_of r b c ≡ items r b c n ++ items_of r b (lifted c n)
items-read r b c n h =
    let e : c.count ≡ n + (c.count - n) = omega arith in
    ap (items r b c) e ∙ items-split r b c n (c.count - n)

-- ---- puts: one item more at the end, one before the first, the first n words of a block more at the end
module _ (r : List ℕ) (b : ℕ) (c : Channel) (f : Fits c) (holds : b + c.capacity ≤ length r) where
  pub items-put-back : (v : ℕ) → c.count < c.capacity → items_of (set r (b + put_place Back c) v) b (gained Back c) ≡ items_of r b c ++ (v ∷ [])
  unfolding items
  items-put-back v h =
      let at = b + put_place Back c in
      let inside : at < length r = omega (arith, put-place-lt Back c f.some) in
      rw (add-one, items, items-moved (set r at v) b c (suc c.count) c.count, items_kept r b c c.count at v (λ j q e. apart c.first j c.count c.capacity f.first q h (omega arith)), get_or-set_same r at v 0 inside)

  pub items-put-front : (v : ℕ) → c.count < c.capacity → items_of (set r (b + put_place Front c) v) b (gained Front c) ≡ v ∷ items_of r b c
  items-put-front v h =
      let at = b + put_place Front c in
      let inside : at < length r = omega (arith, put-place-lt Front c f.some) in
      let last = put-front-place c f.some in
      ap (items (set r at v) b (gained Front c)) (add-one c.count)
      ∙ items-cons (set r at v) b (gained Front c) c.count (put-place-lt Front c f.some)
      ∙ rw (put-front-next c f, get_or-set_same r at v 0 inside, items-moved (set r at v) b c (c.count + 1 - 1) c.count, items_kept r b c c.count at v (λ j q d. apart c.first j (c.capacity - 1) c.capacity f.first (omega arith) (omega arith) (omega arith)))

  words : (ws : List ℕ) (n : ℕ) → n ≤ length ws → c.count + n ≤ c.capacity → items (put_words r b c ws n) b c (c.count + n) ≡ items_of r b c ++ take n ws
  unfolding put_words items
  words ws zero p q = rw (add-zero, append-nil)
  words ws (suc n) p q =
      let at = b + place c (c.count + n) in
      let done = put_words r b c ws n in
      let inside : at < length done = omega (arith, place-lt c (c.count + n) f.some, length-put_words r b c ws n) in
      rw (add-suc, items, items_kept done b c (c.count + n) at (get_or ws n 0) (λ j s e. apart c.first j (c.count + n) c.capacity f.first s (omega arith) (omega arith)), get_or-set_same done at (get_or ws n 0) 0 inside, words ws n (omega arith) (omega arith), take-suc ws n 0 (omega arith))
      (append_assoc (items_of r b c) (take n ws) (get_or ws n 0 ∷ []))

  pub items-put-words : (ws : List ℕ) (n : ℕ) → n ≤ length ws → c.count + n ≤ c.capacity → items_of (put_words r b c ws n) b (grown c n) ≡ items_of r b c ++ take n ws
  items-put-words ws n p q = items-moved (put_words r b c ws n) b c (c.count + n) (c.count + n) ∙ words ws n p q
