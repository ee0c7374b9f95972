-- What a leaf did to the part of the room that it was lent, said of the whole room: `lent xs a` is the part from a on, `back xs a ys` the whole
-- when ys came back in its place. Assumes nothing.
use Rattle.std.proofs.Common.{ℕ, zero, suc, ◌+◌, ◌-◌, ◌<◌, ◌≤◌, min, ◌≡◌, List, [], ◌∷◌, ◌++◌, length, get_or, set, take, drop, refl, sym, ap, ◌∙◌, arith, zero-add, suc-add, length-take, length-drop, length-take-le, get_or-take, get_or-drop}
use Rattle.std.proofs.Math.Nat.{min-eq_left}
use Rattle.std.proofs.Math.Seq.{set-append_left}
use borrow.Rule.Slice.PartMut.{mid_of, post_of, put_mid, put_same, set_mid_at}
use Rattle.ring.specs.declared.Channel.{Channel}
use Rattle.ring.specs.declared.End.{End}
use Rattle.ring.specs.Ring.{Lent, place, put_place, take_place, put_words, items, read_words}
use Rattle.ring.proofs.Places.{place-lt, put-place-lt, take-place-lt}
use Rattle.ring.proofs.Blocks.{length-put_words}
use Rattle.room.specs.Room.{channel_in, offset, There, Starts}

abbrev pub lent : List ℕ → ℕ → List ℕ
lent xs a = mid_of a (length xs - a) xs

abbrev pub back : List ℕ → ℕ → List ℕ → List ℕ
back xs a ys = put_mid a (length xs - a) xs ys

-- ---- lists
set-append-add : (p q : List ℕ) (j v : ℕ) → set (p ++ q) (length p + j) v ≡ p ++ set q j v
set-append-add [] q j v = rw zero-add
set-append-add (x ∷ p) q j v = rw suc-add (ap (x ∷◌) (set-append-add p q j v))

-- a store at j of what comes back is a store at a + j of the whole
set-mid : (a k : ℕ) (xs ys : List ℕ) (j v : ℕ) → a ≤ length xs → j < length ys → put_mid a k xs (set ys j v) ≡ set (put_mid a k xs ys) (a + j) v
set-mid a k xs ys j v h g =
    ap (take a xs ++◌) (sym (set-append_left ys (post_of a k xs) j v g)) ∙ sym (set-append-add (take a xs) (ys ++ post_of a k xs) j v)
    ∙ ap (λ (n : ℕ). set (put_mid a k xs ys) (n + j) v) (length-take-le a xs h)

get_or-mid : (a k : ℕ) (xs : List ℕ) (j : ℕ) → j < k → get_or (mid_of a k xs) j 0 ≡ get_or xs (a + j) 0
get_or-mid a k xs j h = rw (get_or-take, get_or-drop)

-- a part that comes back as it was
pub kept : (xs : List ℕ) (a : ℕ) → back xs a (lent xs a) ≡ xs
kept xs a = put_same a (length xs - a) xs

-- ---- a channel's part
-- it starts where `start_of` says
pub starts : {cs : List Channel} {ch n a : ℕ} → There cs ch n → a ≡ min (offset cs ch) n → Starts cs ch n a
starts {cs} {ch} {n} {a} t e =
    let h : a ≡ offset cs ch = e ∙ min-eq_left (omega (arith, t.holds)) in
    record { here = h; below = omega (arith, h, t.holds, t.fits.some); room = omega (arith, h, t.holds); fits = t.fits }

module _ (xs : List ℕ) {cs : List Channel} {ch : ℕ} {a : ℕ} (start : Starts cs ch (length xs) a) where
  -- the channel and its part
  abbrev c : Channel
  c = channel_in cs ch

  pub lent-long : length (lent xs a) ≡ length xs - a
  lent-long = simp (length-take, length-drop) (omega arith)

  -- it holds the channel's words
  pub lent-holds : Lent c (length (lent xs a))
  lent-holds = record { fits = start.fits; holds = omega (arith, lent-long, start.room) }

  -- one word put in the part is put in the whole, at the end where an item is put too
  pub put-mid : (ys : List ℕ) (j v : ℕ) → j < (channel_in cs ch).capacity → ys ≡ set (lent xs a) j v → back xs a ys ≡ set xs (offset cs ch + j) v
  put-mid ys j v h e =
      ap (back xs a) e ∙ set_mid_at a (length xs - a) j xs v (omega (arith, lent-long, start.room))
      ∙ ap (λ (n : ℕ). set xs (n + j) v) start.here

  pub put-end-mid : (e : End) (v : ℕ) → back xs a (set (lent xs a) (put_place e c) v) ≡ set xs (offset cs ch + put_place e c) v
  put-end-mid e v = put-mid _ (put_place e c) v (put-place-lt e c start.fits.some) refl

  -- a word of the part is a word of the whole, the item that is taken too
  pub word-mid : (j : ℕ) → j < (channel_in cs ch).capacity → get_or (lent xs a) j 0 ≡ get_or xs (offset cs ch + j) 0
  word-mid j h = get_or-mid a (length xs - a) xs j (omega (arith, start.room)) ∙ ap (λ (m : ℕ). get_or xs (m + j) 0) start.here

  pub take-mid : (e : End) → get_or (lent xs a) (take_place e c) 0 ≡ get_or xs (offset cs ch + take_place e c) 0
  take-mid e = word-mid (take_place e c) (take-place-lt e c start.fits.first)

  -- words put in the part are put in the whole
  words-mid : (ws : List ℕ) (n : ℕ) → back xs a (put_words (lent xs a) 0 c ws n) ≡ put_words xs a c ws n
  unfolding put_words
  words-mid ws zero = kept xs a
  words-mid ws (suc n) =
      let at = place c (c.count + n) in
      let done = put_words (lent xs a) 0 c ws n in
      let inside : at < length done = omega (arith, lent-long, start.room, place-lt c (c.count + n) start.fits.some, length-put_words (lent xs a) 0 c ws n) in
      rw zero-add
      (set-mid a (length xs - a) xs done at (get_or ws n 0) (omega (arith, start.below)) inside
      ∙ ap (λ (l : List ℕ). set l (a + at) (get_or ws n 0)) (words-mid ws n))

  pub put_words-mid : (ws : List ℕ) (n : ℕ) → back xs a (put_words (lent xs a) 0 c ws n) ≡ put_words xs (offset cs ch) c ws n
  put_words-mid ws n = words-mid ws n ∙ ap (λ (m : ℕ). put_words xs m c ws n) start.here

  -- the items of the part are those of the whole
  items-mid : (n : ℕ) → items (lent xs a) 0 c n ≡ items xs a c n
  unfolding items
  items-mid zero = refl
  items-mid (suc n) = rw (zero-add, items-mid n, get_or-mid a (length xs - a) xs (place c n) (omega (arith, start.room, place-lt c n start.fits.some)))

  pub read_words-mid : (ws : List ℕ) (n : ℕ) → read_words (lent xs a) 0 c ws n ≡ read_words xs (offset cs ch) c ws n
  unfolding read_words
  read_words-mid ws n = ap (◌++ drop n ws) (items-mid n ∙ ap (λ (m : ℕ). items xs m c n) start.here)
