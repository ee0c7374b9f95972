-- The items of all channels: what a put, a take, a write and a read do to their own channel's, and that every other channel's stay. Assumes nothing.
use Rattle.std.proofs.Common.{ℕ, zero, suc, ◌+◌, ◌<◌, ◌≤◌, ◌≡◌, ◌≢◌, ◌⊎◌, List, [], ◌∷◌, ◌++◌, length, get_or, set, take, refl, sym, ap, ◌∙◌, inl, inr, arith, get_or-set_same, get_or-set_other}
use Rattle.std.proofs.Math.Decide.{dec_lt}
use Rattle.ring.specs.declared.Channel.{Channel}
use Rattle.ring.specs.declared.End.TheVariants.{Front, Back}
use Rattle.ring.specs.Ring.{Fits, place, put_place, gained, take_place, taken, grown, lifted, put_words, items, items_of}
use Rattle.ring.proofs.Places.{place-lt}
use Rattle.ring.proofs.Items.{items-other, items-put-back, items-put-front, items-put-words, items-take-front, items-take-back, items-read}
use Rattle.record.specs.Record.{no_channel}
use Rattle.room.specs.Room.{channel_in, offset, channel_items, There}
use Rattle.room.proofs.Offsets.{offset-kept, parts-apart}

-- ---- a channel anew, of the same capacity
module _ (cs : List Channel) (ch : ℕ) (d : Channel) (same : d.capacity ≡ (channel_in cs ch).capacity) where
  own : (room : List ℕ) → ch < length cs → channel_items (set cs ch d) room ch ≡ items_of room (offset cs ch) d
  own room h = rw (get_or-set_same cs ch d no_channel h, offset-kept cs ch ch d same)

  -- another channel's items, where the room is as it was
  pub other-kept : (room : List ℕ) (i : ℕ) → i ≢ ch → channel_items (set cs ch d) room i ≡ channel_items cs room i
  other-kept room i h = rw (get_or-set_other cs ch i d no_channel h, offset-kept cs ch i d same)

-- ---- stores in the part of one channel, seen from another's
lt_of_ne : {i j : ℕ} → (i ≡ j → ⊥) → (j < i → ⊥) → i < j
lt_of_ne p q = omega arith

module _ (cs : List Channel) (ch i : ℕ) (differ : i ≢ ch) (fits : Fits (channel_in cs i)) where
  outside : (j : ℕ) → j < (channel_in cs ch).capacity → (offset cs ch + j < offset cs i) ⊎ (offset cs i + (channel_in cs i).capacity ≤ offset cs ch + j)
  outside j h = go (dec_lt ch i)
    where
      go : Dec (ch < i) → (offset cs ch + j < offset cs i) ⊎ (offset cs i + (channel_in cs i).capacity ≤ offset cs ch + j)
      go (yes p) = inl (omega (arith, parts-apart cs ch i p))
      go (no p) = let less : i < ch = lt_of_ne (λ e. differ e) p in inr (omega (arith, parts-apart cs i ch less))

  pub other-put : (room : List ℕ) (j v : ℕ) → j < (channel_in cs ch).capacity → channel_items cs (set room (offset cs ch + j) v) i ≡ channel_items cs room i
  other-put room j v h = items-other room (offset cs i) (channel_in cs i) (offset cs ch + j) v fits.some (outside j h)

  pub other-words : (room ws : List ℕ) (n : ℕ) → 0 < (channel_in cs ch).capacity → channel_items cs (put_words room (offset cs ch) (channel_in cs ch) ws n) i ≡ channel_items cs room i
  unfolding put_words
  other-words room ws zero h = refl
  other-words room ws (suc n) h =
      other-put (put_words room (offset cs ch) (channel_in cs ch) ws n) (place (channel_in cs ch) ((channel_in cs ch).count + n)) (get_or ws n 0) (place-lt (channel_in cs ch) ((channel_in cs ch).count + n) h)
      ∙ other-words room ws n h

-- ---- the channel's own items
module _ (cs : List Channel) (ch : ℕ) (room : List ℕ) (h : ch < length cs) (t : There cs ch (length room)) where
  pub own-put-back : (v : ℕ) → (channel_in cs ch).count < (channel_in cs ch).capacity
      → channel_items (set cs ch (gained Back (channel_in cs ch))) (set room (offset cs ch + put_place Back (channel_in cs ch)) v) ch ≡ channel_items cs room ch ++ (v ∷ [])
  own-put-back v free = own cs ch (gained Back (channel_in cs ch)) refl _ h ∙ items-put-back room (offset cs ch) (channel_in cs ch) t.fits t.holds v free

  pub own-put-front : (v : ℕ) → (channel_in cs ch).count < (channel_in cs ch).capacity
      → channel_items (set cs ch (gained Front (channel_in cs ch))) (set room (offset cs ch + put_place Front (channel_in cs ch)) v) ch ≡ v ∷ channel_items cs room ch
  own-put-front v free = own cs ch (gained Front (channel_in cs ch)) refl _ h ∙ items-put-front room (offset cs ch) (channel_in cs ch) t.fits t.holds v free

  pub own-take-front : 0 < (channel_in cs ch).count
      → channel_items cs room ch ≡ get_or room (offset cs ch + take_place Front (channel_in cs ch)) 0 ∷ channel_items (set cs ch (taken Front (channel_in cs ch))) room ch
  own-take-front some =
      items-take-front room (offset cs ch) (channel_in cs ch) t.fits some
      ∙ ap (λ (l : List ℕ). get_or room (offset cs ch + take_place Front (channel_in cs ch)) 0 ∷ l) (sym (own cs ch (taken Front (channel_in cs ch)) refl room h))

  pub own-take-back : 0 < (channel_in cs ch).count
      → channel_items cs room ch ≡ channel_items (set cs ch (taken Back (channel_in cs ch))) room ch ++ (get_or room (offset cs ch + take_place Back (channel_in cs ch)) 0 ∷ [])
  own-take-back some =
      items-take-back room (offset cs ch) (channel_in cs ch) some
      ∙ ap (λ (l : List ℕ). l ++ (get_or room (offset cs ch + take_place Back (channel_in cs ch)) 0 ∷ [])) (sym (own cs ch (taken Back (channel_in cs ch)) refl room h))

  pub own-write : (ws : List ℕ) (n : ℕ) → n ≤ length ws → (channel_in cs ch).count + n ≤ (channel_in cs ch).capacity
      → channel_items (set cs ch (grown (channel_in cs ch) n)) (put_words room (offset cs ch) (channel_in cs ch) ws n) ch ≡ channel_items cs room ch ++ take n ws
  own-write ws n p q = own cs ch (grown (channel_in cs ch) n) refl _ h ∙ items-put-words room (offset cs ch) (channel_in cs ch) t.fits t.holds ws n p q

  pub own_read : (n : ℕ) → n ≤ (channel_in cs ch).count
      → channel_items cs room ch ≡ items room (offset cs ch) (channel_in cs ch) n ++ channel_items (set cs ch (lifted (channel_in cs ch) n)) room ch
  own_read n p =
      items-read room (offset cs ch) (channel_in cs ch) n p
      ∙ ap (λ (l : List ℕ). items room (offset cs ch) (channel_in cs ch) n ++ l) (sym (own cs ch (lifted (channel_in cs ch) n) refl room h))
