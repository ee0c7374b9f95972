-- Waking: some of those in the map at a place that aren't ready become ready and leave that map. What is left of rules 2 to 5; and that wake all and
-- wake one are such. Assumes nothing.
use Rattle.std.proofs.Common.{◌≡◌, ℕ, ◌^◌, ◌<◌, ◌≤◌, Bool, true, false, cond, not, ◌&&◌, eqb, List, get_or, bit_or, sym, refl, ap, ◌∙◌, true≢false, lt_of_lt_of_le, pow_mono}
use Rattle.std.proofs.Math.Bool.{or-true, or-false, and-true, and-false}
use Rattle.std.specs.Int.Bits.{or_lt}
use Rattle.std.proofs.lemmas.Bool.{not-true}
use Rattle.maps.specs.Maps.{has, minus, lowest, lowest_bit, unready}
use Rattle.maps.proofs.Truth.{and_l, and_r}
use Rattle.maps.proofs.Members.{has-or, has-minus}
use Rattle.maps.proofs.Bounds.{minus-lt}
use Rattle.maps.proofs.Isolate.{has-lowest-bit}
use Rattle.maps.proofs.Waking.{wake-one-woken-lt}
use Rattle.record.specs.declared.Process.{Process}
use Rattle.record.specs.declared.Wait.{Wait}
use Rattle.record.specs.Record.{no_process}
use Rattle.record.specs.Places.{Place, nowhere, same_place, is_open, sleeps, limited, place_of}
use Rattle.record.specs.Facts.{Fine, Waits}
use Rattle.record.proofs.Place.{same_self, sleeps-nowhere}
use Rattle.rules.proofs.Allowed as status
use Rattle.rules.proofs.Put.{Put, by_place}
use Rattle.rules.proofs.Changed.{fine-same, put-within}

-- who can be woken
all-unready : (m r q : ℕ) → has (unready m r) q ≡ true → (has m q ≡ true) × (has r q ≡ false)
all-unready m r q h =
    let g = rw has-minus at h in
    (and_l (has m q) (not (has r q)) g, not-true (has r q) (and_r (has m q) (not (has r q)) g))

one-unready : (m r q : ℕ) → m < 2 ^ 32 → has (lowest_bit (unready m r)) q ≡ true → (has m q ≡ true) × (has r q ≡ false)
one-unready m r q l h =
    all-unready m r q (and_l (has (unready m r) q) (eqb (lowest (unready m r)) q) (rw (has-lowest-bit (unready m r) q (minus-lt 32 m r l)) at h))

module _ {n : ℕ} {real : Place → Bool} {ready : ℕ} {process : List Process} {maps : Place → ℕ} (s : Waits n real ready process maps)
    (b : Place) (off : real nowhere ≡ false) (e : real b ≡ true) where
  -- those of the map w do
  woken : (w : ℕ) → w < 2 ^ n → ((q : ℕ) → has w q ≡ true → (has (maps b) q ≡ true) × (has ready q ≡ false))
      → {maps' : Place → ℕ} → Put maps maps' b (minus (maps b) w) → Waits n real (bit_or ready w) process maps'
  woken w small sub {maps'} put = record {
    long = s.long;
    ready-within = or_lt n _ _ s.ready-within small;
    within = put-within s put (minus-lt n _ _ (s.within b e));
    idle-ready = simp (has-or, s.idle-ready);
    idle-closed = s.idle-closed;
    each = λ q h. go q h (has w q) refl;
  }
    where
      inside : (q : ℕ) (t : Bool) → has w q ≡ t → (a : Place) → has (maps' a) q ≡ has (maps a) q && not (same_place b a && t)
      inside q t g a =
          ap (λ (x : ℕ). has x q) (put.puts a)
          ∙ by_place (λ c. has (cond c (minus (maps b) w) (maps a)) q ≡ has (maps a) q && not (c && t)) b a
          (λ f. simp (has-minus, g, f)) (λ f. sym (and-true (has (maps a) q)))

      go : (q : ℕ) → q < n → (t : Bool) → has w q ≡ t → Fine real (has (bit_or ready w) q) (get_or process q no_process) (λ a. has (maps' a) q)
      go q h true g =
          let f = s.each q h in
          let at_b : place_of (get_or process q no_process).wait ≡ b = f.only b e (sub q g).0 in
          fine-same {r = true} (simp (has-or, g, or-true)) refl (inside q true g) (record {
            only = λ a r i. f.only a r (and_l (has (maps a) q) (not (same_place b a && true)) i);
            status =
                let w' : Wait = (get_or process q no_process).wait in
                let in' : has (maps (place_of w')) q ≡ true = ap (λ (x : Place). has (maps x) q) at_b ∙ (sub q g).0 in
                let same : same_place b (place_of w') ≡ true = ap (same_place b) at_b ∙ same_self b in
                let up : sleeps w' ≡ false = sleeps-nowhere w' (λ z. true≢false (sym e ∙ ap real (sym at_b ∙ z) ∙ off)) in
                rw (in', same, up)
                (status.woken (is_open w') (limited w') (real (place_of w')) (eqb (get_or process q no_process).counter 0)
                (rw ((sub q g).1, in', up) at f.status));
          })
      go q h false g = fine-same (simp (has-or, g, or-false)) refl (λ a. inside q false g a ∙ simp (and-false, and-true)) (s.each q h)

  pub woken-all : {maps' : Place → ℕ} → Put maps maps' b (minus (maps b) (unready (maps b) ready))
      → Waits n real (bit_or ready (unready (maps b) ready)) process maps'
  woken-all = woken (unready (maps b) ready) (minus-lt n (maps b) ready (s.within b e)) (all-unready (maps b) ready)

  pub woken-one : n ≤ 32 → {maps' : Place → ℕ} → Put maps maps' b (minus (maps b) (lowest_bit (unready (maps b) ready)))
      → Waits n real (bit_or ready (lowest_bit (unready (maps b) ready))) process maps'
  woken-one small =
      woken (lowest_bit (unready (maps b) ready)) (wake-one-woken-lt n (maps b) ready small (s.within b e))
      (λ q. one-unready (maps b) ready q (lt_of_lt_of_le (s.within b e) (pow_mono small)))
