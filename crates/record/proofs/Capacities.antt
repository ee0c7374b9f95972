-- Setup's test of the capacities: all of the first n fit exactly if each of the four is allowed; and the four channels that it stores. Assumes nothing.
use Rattle.std.proofs.Common.{◌≡◌, ℕ, zero, suc, ◌<◌, ◌≤◌, Bool, true, false, ◌&&◌, leb, List, length, get_or, take, All, IsTrue, ◌↔◌, refl, sym, ap, ◌∙◌, arith, get_or-take, length-take, leb-false, ◌+◌, [], ◌∷◌, set, get_or-set_same, get_or-set_other}
use Rattle.std.proofs.lemmas.Bool.{lt-leb}
use Rattle.std.proofs.Math.Decide.{dec_lt}
use Rattle.std.proofs.Math.Bool.{and-eq-true_iff}
use Rattle.std.proofs.lemmas.List.{get_or_default}
use Rattle.ring.specs.declared.Channel.{Channel}
use Rattle.record.specs.Record.{no_channel}
use Rattle.record.specs.Limits.{capacity_fits}
use Rattle.record.specs.Fresh.{capacity_allowed}
use Rattle.record.proofs.Logic.{same_test}

module _ (n : ℕ) (caps : List ℕ) (four : length caps ≡ 4) (few : n ≤ 4) where
  abbrev allowed : ℕ → Bool
  allowed i = capacity_allowed n i (get_or caps i 0)

  each : All (λ c. IsTrue (capacity_fits c)) (take n caps) → (i : ℕ) → allowed i ≡ true
  each f i = go (leb n i) refl
    where
      go : (b : Bool) → leb n i ≡ b → allowed i ≡ true
      go true e = rw e
      go false e =
          let below : i < n = leb-false n i e in
          rw e (ap capacity_fits (sym (get_or-take n caps i 0 below)) ∙ f i 0 (omega (arith, length-take n caps, four)))

  fits : (i : ℕ) → i < n → allowed i ≡ true → capacity_fits (get_or caps i 0) ≡ true
  fits i h a = rw (lt-leb n i h) at a

  all : allowed 0 && allowed 1 && allowed 2 && allowed 3 ≡ true → (i : ℕ) → i < n → capacity_fits (get_or caps i 0) ≡ true
  all e i h = go i h
    where
      go : (i : ℕ) → i < n → capacity_fits (get_or caps i 0) ≡ true
      go zero h = fits 0 h (simp and-eq-true_iff at e).0.0.0
      go (suc zero) h = fits 1 h (simp and-eq-true_iff at e).0.0.1
      go (suc (suc zero)) h = fits 2 h (simp and-eq-true_iff at e).0.1
      go (suc (suc (suc zero))) h = fits 3 h (simp and-eq-true_iff at e).1
      go (suc (suc (suc (suc i)))) h = absurd (omega arith)

  pub all-allowed : (r : Bool) → IsTrue r ↔ All (λ c. IsTrue (capacity_fits c)) (take n caps) → r ≡ (allowed 0 && allowed 1 && allowed 2 && allowed 3)
  all-allowed r h =
      same_test r _ (λ e. let f = each (h.0 e) in simp and-eq-true_iff (((f 0, f 1), f 2), f 3))
      (λ e. h.1 (λ k d l.
      let below : k < n = omega (arith, length-take n caps) in
      ap capacity_fits (get_or-take n caps k d below ∙ get_or_default caps k d 0 (omega arith)) ∙ all e k below))

-- ---- the four channels of a fresh record
-- one more stored, of those that f gives
pub stored : (f : ℕ → Channel) (xs : List Channel) (i : ℕ) → i < length xs → ((j : ℕ) → j < i → get_or xs j no_channel ≡ f j)
    → (j : ℕ) → j < i + 1 → get_or (set xs i (f i)) j no_channel ≡ f j
stored f xs i l h j q = go (dec_lt j i)
  where
    go : Dec (j < i) → get_or (set xs i (f i)) j no_channel ≡ f j
    go (yes p) = get_or-set_other xs i j (f i) no_channel (omega arith) ∙ h j p
    go (no p) =
        let here : j ≡ i = omega arith in
        rw here (get_or-set_same xs i (f i) no_channel l)

pub four_of : (f : ℕ → Channel) (xs : List Channel) → length xs ≡ 4 → ((j : ℕ) → j < 4 → get_or xs j no_channel ≡ f j) → xs ≡ f 0 ∷ f 1 ∷ f 2 ∷ f 3 ∷ []
four_of f [] h e = absurd (omega arith)
four_of f (a ∷ []) h e = absurd (omega arith)
four_of f (a ∷ b ∷ []) h e = absurd (omega arith)
four_of f (a ∷ b ∷ c ∷ []) h e = absurd (omega arith)
four_of f (a ∷ b ∷ c ∷ d ∷ []) h e = rw (e 0 (omega arith), e 1 (omega arith), e 2 (omega arith), e 3 (omega arith))
four_of f (a ∷ b ∷ c ∷ d ∷ x ∷ xs) h e = absurd (omega arith)
