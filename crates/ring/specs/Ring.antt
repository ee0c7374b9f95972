-- One channel in the room (01, Room; manual 6.6). A channel's part starts at a place `base` of the room: 0 in the part itself, and its offset in
-- the whole room.
use Rattle.std.specs.Prelude.{ℕ, zero, suc, ◌+◌, ◌-◌, ◌%◌, ◌<◌, ◌≤◌, min, List, [], ◌∷◌, ◌++◌, get_or, set, drop}
use Rattle.ring.specs.declared.Channel.{Channel}
use Rattle.ring.specs.declared.End.{End}
use Rattle.ring.specs.declared.End.TheVariants.{Front, Back}

-- ---- limits (01, sound, rule 1): 1 to 64 items, first below the capacity, count at most the capacity
pub record Fits (c : Channel) : Type 0 where
  pub some : 1 ≤ c.capacity
  pub most : c.capacity ≤ 64
  pub first : c.first < c.capacity
  pub count : c.count ≤ c.capacity

-- and a part of n words that holds it
pub record Lent (c : Channel) (n : ℕ) : Type 0 where
  pub fits : Fits c
  pub holds : c.capacity ≤ n

-- ---- places

-- the place that lies j places after the first
abbrev pub place : Channel → ℕ → ℕ
place c j = (c.first + j) % c.capacity

-- put at back writes place (first + count) mod capacity; put at front writes (first + capacity − 1) mod capacity
abbrev pub put_place : End → Channel → ℕ
put_place Front c = (c.first + c.capacity - 1) % c.capacity
put_place Back c = (c.first + c.count) % c.capacity

-- take from front reads the first; take from back reads (first + count − 1) mod capacity. Taken words stay in the room
abbrev pub take_place : End → Channel → ℕ
take_place Front c = c.first
take_place Back c = (c.first + c.count - 1) % c.capacity

-- ---- the channel then

-- first and count anew, all else kept
abbrev pub moved : Channel → ℕ → ℕ → Channel
moved c f n = record { capacity = c.capacity; first = f; count = n; readers = c.readers; writers = c.writers }

-- an item put: at the front, first becomes the place written
abbrev pub gained : End → Channel → Channel
gained Front c = moved c (put_place Front c) (c.count + 1)
gained Back c = moved c c.first (c.count + 1)

-- an item taken: from the front, first becomes (first + 1) mod capacity
abbrev pub taken : End → Channel → Channel
taken Front c = moved c ((c.first + 1) % c.capacity) (c.count - 1)
taken Back c = moved c c.first (c.count - 1)

-- n words put at the back, and n words taken from the front
abbrev pub grown : Channel → ℕ → Channel
grown c n = moved c c.first (c.count + n)

abbrev pub lifted : Channel → ℕ → Channel
lifted c n = moved c (place c n) (c.count - n)

-- ---- items

-- the first n items
unfoldable pub items : List ℕ → ℕ → Channel → ℕ → List ℕ
items room base c zero = []
items room base c (suc n) = items room base c n ++ (get_or room (base + place c n) 0 ∷ [])

-- the items that the channel holds, first to last
abbrev pub items_of : List ℕ → ℕ → Channel → List ℕ
items_of room base c = items room base c c.count

-- ---- blocks (6.6.1.6, 6.6.1.8)

-- how many words of a block of m find room, and how many are there to read into one
abbrev pub fitting : Channel → ℕ → ℕ
fitting c m = min (c.capacity - c.count) m

abbrev pub readable : Channel → ℕ → ℕ
readable c m = min c.count m

-- the room with the first n words of the block put at the back, one after the other
unfoldable pub put_words : List ℕ → ℕ → Channel → List ℕ → ℕ → List ℕ
put_words room base c block zero = room
put_words room base c block (suc n) = set (put_words room base c block n) (base + place c (c.count + n)) (get_or block n 0)

-- the block with the first n items read into it; the rest of it is untouched
unfoldable pub read_words : List ℕ → ℕ → Channel → List ℕ → ℕ → List ℕ
read_words room base c block n = items room base c n ++ drop n block
