-- What the two passes of the check gather: for each slot the map of those who wait there; who is in any map; who stands in a map that isn't its
-- wait's; and whether the tests passed. Assumes nothing.
use Rattle.std.proofs.Common.{ℕ, zero, suc, ◌+◌, ◌^◌, ◌<◌, ◌≡◌, refl, sym, ap, ◌∙◌, Bool, true, false, not, ◌&&◌, ◌||◌, cond, List, bit_or, ltb, eqb, get_or, set, length, length-set, get_or-set_same, get_or-set_other, eqb-true, zero-add, arith}
use Rattle.std.proofs.Math.Bool.{beq, and_assoc, and-true, false≢true}
use Rattle.std.proofs.Math.ListN.{length-replicate}
use Rattle.std.proofs.lemmas.Bool.{eqb-false}
use Rattle.std.specs.Int.Bits.{or_zero_r}
use Rattle.maps.specs.Maps.{has, minus, map_of}
use Rattle.maps.proofs.Truth.{taut, equal}
use Rattle.maps.proofs.Members.{has-or, has-minus, has-zero, has-map-of}
use Rattle.record.specs.declared.Setup.{Setup}
use Rattle.record.specs.declared.Process.{Process}
use Rattle.record.specs.declared.soundness.Seen.{Seen}
use Rattle.record.specs.Words.{implies, all_below}
use Rattle.record.specs.Limits.{channel_fits}
use Rattle.record.specs.Record.{Services, no_mutex, no_channel}
use Rattle.record.specs.Places.{Place, nowhere, at_flag, at_mutex, at_readers, at_writers, place_of, real_in, map_in, everywhere}
use Rattle.record.specs.Sound.{user_owner}
use Rattle.record.specs.Check.{Small, slot_of, row_at, waiting_of, over, all_seen}
use Rattle.record.proofs.Started.{slot-empty}
use Rattle.record.proofs.Slots.{slot_lt}

-- ---- who waits where
abbrev pub slot_at : Setup → List Process → ℕ → ℕ
slot_at s process p = slot_of s (place_of (row_at process p).wait)

module _ (s : Setup) (process : List Process) (m : Small s) where
  length-waiting : (n : ℕ) → length (waiting_of s process n) ≡ 25
  unfolding waiting_of
  length-waiting zero = length-replicate {A = ℕ} 25 0
  length-waiting (suc n) = simp length-set (length-waiting n)

  -- one process more, at slot i of a list of words
  at_slot : (l : List ℕ) (i j t : ℕ) → i < length l → get_or (set l i (bit_or (get_or l i 0) t)) j 0 ≡ bit_or (get_or l j 0) (cond (eqb i j) t 0)
  at_slot l i j t h = go (eqb i j) refl
    where
      go : (b : Bool) → eqb i j ≡ b → get_or (set l i (bit_or (get_or l i 0) t)) j 0 ≡ bit_or (get_or l j 0) (cond b t 0)
      go true e =
          ap (λ (x : ℕ). get_or (set l i (bit_or (get_or l i 0) t)) x 0) (sym (eqb-true i j e)) ∙ get_or-set_same l i (bit_or (get_or l i 0) t) 0 h
          ∙ ap (λ (x : ℕ). bit_or (get_or l x 0) t) (eqb-true i j e)
      go false e = get_or-set_other l i j (bit_or (get_or l i 0) t) 0 (λ q. eqb-false i j e (sym q)) ∙ sym (or_zero_r (get_or l j 0))

  waiting-at : (n j : ℕ) → get_or (waiting_of s process n) j 0 ≡ map_of n (λ p. eqb (slot_at s process p) j)
  unfolding waiting_of map_of
  waiting-at zero j = slot-empty 25 j 0
  waiting-at (suc n) j =
      at_slot (waiting_of s process n) (slot_at s process n) j (2 ^ n) (omega (arith, length-waiting n, slot_lt s (place_of (row_at process n).wait) m))
      ∙ ap (λ (x : ℕ). bit_or x (cond (eqb (slot_at s process n) j) (2 ^ n) 0)) (waiting-at n j)

  pub has-waiting : (n j p : ℕ) → has (get_or (waiting_of s process n) j 0) p ≡ ltb p n && eqb (slot_at s process p) j
  has-waiting n j p = ap (λ (x : ℕ). has x p) (waiting-at n j) ∙ has-map-of n (λ p. eqb (slot_at s process p) j) p

-- ---- a run of n maps f, with the words g of those who wait there, and n tests h
module _ (f g : ℕ → ℕ) (h : ℕ → Bool) (m : Seen) where
  any-over : (n p : ℕ) → has (over f g h m n).any p ≡ has m.any p || not (all_below n (λ i. not (has (f i) p)))
  unfolding over all_below
  any-over zero p = equal _ _ (taut 1 (λ a. beq a (a || not true)) refl (has m.any p))
  any-over (suc n) p =
      has-or (over f g h m n).any (f n) p ∙ ap (λ (b : Bool). b || has (f n) p) (any-over n p)
      ∙ equal _ _ (taut 3 (λ a x y. beq (a || not x || y) (a || not (x && not y))) refl (has m.any p) (all_below n (λ i. not (has (f i) p))) (has (f n) p))

  stray-over : (n p : ℕ) → has (over f g h m n).stray p ≡ has m.stray p || not (all_below n (λ i. implies (has (f i) p) (has (g i) p)))
  unfolding over all_below
  stray-over zero p = equal _ _ (taut 1 (λ a. beq a (a || not true)) refl (has m.stray p))
  stray-over (suc n) p =
      has-or (over f g h m n).stray (minus (f n) (g n)) p ∙ ap (λ (b : Bool). b || has (minus (f n) (g n)) p) (stray-over n p)
      ∙ ap (λ (b : Bool). has m.stray p || not (all_below n (λ i. implies (has (f i) p) (has (g i) p))) || b) (has-minus (f n) (g n) p)
      ∙ equal _ _
      (taut 4 (λ a x y z. beq (a || not x || (y && not z)) (a || not (x && implies y z))) refl
      (has m.stray p) (all_below n (λ i. implies (has (f i) p) (has (g i) p))) (has (f n) p) (has (g n) p))

  fine-over : (n : ℕ) → (over f g h m n).fine ≡ m.fine && all_below n h
  unfolding over all_below
  fine-over zero = sym (and-true m.fine)
  fine-over (suc n) = ap (λ (b : Bool). b && h n) (fine-over n) ∙ and_assoc m.fine (all_below n h) (h n)

all_true : (n : ℕ) → all_below n (λ i. true) ≡ true
unfolding all_below
all_true zero = refl
all_true (suc n) = ap (λ (b : Bool). b && true) (all_true n)

-- ---- all the services
-- the word of those who wait at a place
abbrev pub word_at : List ℕ → Place → ℕ
word_at w nowhere = 0
word_at w (at_flag i) = get_or w i 0
word_at w (at_mutex i) = get_or w (8 + i) 0
word_at w (at_readers i) = get_or w (16 + i) 0
word_at w (at_writers i) = get_or w (20 + i) 0

module _ (s : Setup) (process : List Process) (v : Services) where
  abbrev pub seen : Seen
  seen = all_seen s process v.flag v.mutex v.channel

  abbrev pub waiting : List ℕ
  waiting = waiting_of s process s.processes

  -- in any map: not in none
  pub any_seen : (p : ℕ) → has seen.any p ≡ not (everywhere s (λ a. not (has (map_in v a) p)))
  unfolding all_seen everywhere
  any_seen p =
      simp (any-over, has-zero)
      (equal _ _
      (taut 4 (λ a b c d. beq (not a || not b || not c || not d) (not (a && b && c && d))) refl
      (all_below s.flags (λ i. not (has (map_in v (at_flag i)) p))) (all_below s.mutexes (λ i. not (has (map_in v (at_mutex i)) p)))
      (all_below s.channels (λ i. not (has (map_in v (at_readers i)) p))) (all_below s.channels (λ i. not (has (map_in v (at_writers i)) p)))))

  -- a stray: in a map whose word it isn't in
  pub stray-seen : (p : ℕ) → has seen.stray p ≡ not (everywhere s (λ a. implies (has (map_in v a) p) (has (word_at waiting a) p)))
  unfolding all_seen everywhere
  stray-seen p =
      simp (stray-over, has-zero)
      (equal _ _
      (taut 4 (λ a b c d. beq (not a || not b || not c || not d) (not (a && b && c && d))) refl
      (all_below s.flags (λ i. implies (has (map_in v (at_flag i)) p) (has (word_at waiting (at_flag i)) p)))
      (all_below s.mutexes (λ i. implies (has (map_in v (at_mutex i)) p) (has (word_at waiting (at_mutex i)) p)))
      (all_below s.channels (λ i. implies (has (map_in v (at_readers i)) p) (has (word_at waiting (at_readers i)) p)))
      (all_below s.channels (λ i. implies (has (map_in v (at_writers i)) p) (has (word_at waiting (at_writers i)) p)))))

  pub fine-seen : seen.fine ≡ all_below s.mutexes (λ i. user_owner s.processes (get_or v.mutex i no_mutex).owner) && all_below s.channels (λ i. channel_fits (get_or v.channel i no_channel))
  unfolding all_seen
  fine-seen = simp (fine-over, all_true, and-true)

  -- the word at a real place
  pub has_word : (m : Small s) (a : Place) (p : ℕ) → real_in s a ≡ true → has (word_at waiting a) p ≡ ltb p s.processes && eqb (slot_at s process p) (slot_of s a)
  has_word m nowhere p r = absurd (false≢true r)
  has_word m (at_flag i) p r = rw r (ap (λ (x : ℕ). has (get_or waiting x 0) p) (sym (zero-add i)) ∙ has-waiting s process m s.processes (0 + i) p)
  has_word m (at_mutex i) p r = rw r (has-waiting s process m s.processes (8 + i) p)
  has_word m (at_readers i) p r = rw r (has-waiting s process m s.processes (16 + i) p)
  has_word m (at_writers i) p r = rw r (has-waiting s process m s.processes (20 + i) p)
