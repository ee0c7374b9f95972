-- Offsets: they add up, the parts of two channels do not meet, and a channel anew of the same capacity moves none of them. Assumes nothing.
use Rattle.std.proofs.Common.{ℕ, zero, suc, ◌+◌, ◌-◌, ◌<◌, ◌≤◌, ◌≡◌, List, length, get_or, set, take, length-take, get_or-take, refl, sym, ap, ◌∙◌, arith, add-one, add-zero, add-suc}
use Rattle.std.proofs.Math.ListN.{get_or-map}
use Rattle.std.proofs.Math.Seq.{map-set_same}
use Rattle.ring.specs.declared.Channel.{Channel}
use Rattle.ring.specs.Ring.{Fits}
use Rattle.record.specs.Record.{no_channel}
use Rattle.room.specs.Room.{channel_in, offset, There}

pub offset-none : (cs : List Channel) → 0 ≡ offset cs 0
unfolding offset
offset-none cs = refl

pub offset-more : (cs : List Channel) (n : ℕ) → offset cs (n + 1) ≡ offset cs n + (channel_in cs n).capacity
unfolding offset
offset-more cs n = rw (add-one, offset)

-- the next capacity, where the channels are cut off after m
pub offset-taken : (cs : List Channel) (m n : ℕ) → n < length (take m cs) → offset cs n + (get_or (take m cs) n no_channel).capacity ≡ offset cs (n + 1)
offset-taken cs m n h =
    let below : n < m = omega (arith, length-take m cs) in
    rw (get_or-take m cs n no_channel below) (sym (offset-more cs n))

pub offset-mono : (cs : List Channel) (m d : ℕ) → offset cs m ≤ offset cs (m + d)
offset-mono cs m zero = rw add-zero (omega arith)
offset-mono cs m (suc d) = rw (add-suc, ← add-one, offset-more) (omega (arith, offset-mono cs m d))

-- the part of a channel ends where the next starts, or before
pub parts-apart : (cs : List Channel) (i j : ℕ) → i < j → offset cs i + (channel_in cs i).capacity ≤ offset cs j
parts-apart cs i j h =
    let e : i + 1 + (j - (i + 1)) ≡ j = omega arith in
    omega (arith, offset-more cs i, offset-mono cs (i + 1) (j - (i + 1)), ap (offset cs) e)

-- a channel's part lies in a room as long as the capacities say
pub there : (cs : List Channel) (ch channels n : ℕ) → ch < channels → channels ≤ 4 → Fits (channel_in cs ch) → n ≡ offset cs channels → There cs ch n
there cs ch channels n h few f e = record { four = omega arith; fits = f; holds = omega (arith, parts-apart cs ch channels h) }

-- ---- a channel anew, of the same capacity
capacity-kept : (cs : List Channel) (i n : ℕ) (d : Channel) → d.capacity ≡ (channel_in cs i).capacity → (channel_in (set cs i d) n).capacity ≡ (channel_in cs n).capacity
capacity-kept cs i n d e =
    sym (get_or-map (λ (c : Channel). c.capacity) (set cs i d) n no_channel)
    ∙ ap (λ (l : List ℕ). get_or l n 0) (map-set_same (λ (c : Channel). c.capacity) cs i d no_channel e)
    ∙ get_or-map (λ (c : Channel). c.capacity) cs n no_channel

pub offset-kept : (cs : List Channel) (i n : ℕ) (d : Channel) → d.capacity ≡ (channel_in cs i).capacity → offset (set cs i d) n ≡ offset cs n
unfolding offset
offset-kept cs i zero d e = refl
offset-kept cs i (suc n) d e = rw (offset-kept cs i n d e, capacity-kept cs i n d e)
