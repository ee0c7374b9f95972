-- Blocks word by word: what one more word does to `put_words` and `read_words`, and their lengths. Assumes nothing.
use Rattle.std.proofs.Common.{ℕ, zero, suc, ◌+◌, ◌<◌, ◌≤◌, ◌≡◌, List, ◌++◌, length, get_or, set, take, drop, refl, sym, arith, add-one, zero-add, append-nil, length-set, length-take, length-drop, drop-cons, drop_of_length-le, length-append}
use Rattle.std.proofs.Math.Seq.{append_snoc, set_at, get_or-take}
use Rattle.ring.specs.declared.Channel.{Channel}
use Rattle.ring.specs.Ring.{place, items, put_words, read_words}

pub length-put_words : (r : List ℕ) (b : ℕ) (c : Channel) (ws : List ℕ) (n : ℕ) → length (put_words r b c ws n) ≡ length r
unfolding put_words
length-put_words r b c ws zero = refl
length-put_words r b c ws (suc n) = simp length-set (length-put_words r b c ws n)

pub length-items : (r : List ℕ) (b : ℕ) (c : Channel) (n : ℕ) → length (items r b c n) ≡ n
unfolding items
length-items r b c zero = refl
length-items r b c (suc n) = simp length-append (omega (arith, length-items r b c n))

pub length-read_words : (r : List ℕ) (b : ℕ) (c : Channel) (d : List ℕ) (n : ℕ) → n ≤ length d → length (read_words r b c d n) ≡ length d
unfolding read_words
length-read_words r b c d n h = simp (length-append, length-drop, length-items) (omega arith)

-- no word yet, and one word more, at the part itself
pub put-none : (r : List ℕ) (b : ℕ) (c : Channel) (ws : List ℕ) → r ≡ put_words r b c ws 0
unfolding put_words
put-none r b c ws = refl

pub put_word : (r : List ℕ) (c : Channel) (ws : List ℕ) (n : ℕ) → set (put_words r 0 c ws n) (place c (c.count + n)) (get_or ws n 0) ≡ put_words r 0 c ws (n + 1)
unfolding put_words
put_word r c ws n = rw (add-one, put_words, zero-add)

-- the same of a block that is cut off after m words
pub put_word-cut : (r : List ℕ) (c : Channel) (ws : List ℕ) (m n : ℕ) → n < length (take m ws) → set (put_words r 0 c ws n) (place c (c.count + n)) (get_or (take m ws) n 0) ≡ put_words r 0 c ws (n + 1)
put_word-cut r c ws m n h =
    let below : n < m = omega (arith, length-take m ws) in
    rw (get_or-take m ws n 0 below) (put_word r c ws n)

pub read_none : (r : List ℕ) (b : ℕ) (c : Channel) (d : List ℕ) → d ≡ read_words r b c d 0
unfolding items read_words
read_none r b c d = refl

pub read_word : (r : List ℕ) (c : Channel) (d : List ℕ) (n : ℕ) → n < length d → set (read_words r 0 c d n) n (get_or r (place c n) 0) ≡ read_words r 0 c d (n + 1)
unfolding items read_words
read_word r c d n h =
    rw (add-one, items, zero-add, drop-cons d n 0 h, set_at (items r 0 c n) (get_or d n 0) (drop (suc n) d) (get_or r (place c n) 0) n (length-items r 0 c n))
    (sym (append_snoc (items r 0 c n) (get_or r (place c n) 0) (drop (suc n) d)))

-- the first n words of a block read, and the rest of it as it was
pub read_rest : (r : List ℕ) (c : Channel) (d : List ℕ) (n : ℕ) → read_words r 0 c (take n d) n ++ drop n d ≡ read_words r 0 c d n
unfolding read_words
read_rest r c d n =
    let none = drop_of_length-le (take n d) {i = n} (rw length-take (omega arith)) in
    rw (none, append-nil)
