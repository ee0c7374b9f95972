-- Who is in a map: membership of and, or, minus, of a tag and of everyone; two maps with the same members are equal.
-- Each operation works digit by digit, and one law covers them all. Assumes nothing.
use Rattle.std.proofs.Common.{◌≡◌, ℕ, zero, suc, ◌+◌, ◌-◌, ◌*◌, ◌/◌, ◌%◌, ◌^◌, ◌<◌, min, max, Bool, true, false, cond, not, ◌&&◌, ◌||◌, eqb, ltb, sym, refl, ap, ◌∙◌, true≢false, suc-le-suc, zero-le, arith, pow_pos, pow_mono, ltb-false, ltb-true, le-ltb, lt-ltb, eq-eqb, eqb-true}
use Rattle.std.proofs.Math.Bool.{false≢true, and-true, and-false, or-true, or-false, beq}
use Rattle.std.proofs.Math.Nat.{zero-min, min-zero, suc-min-suc, zero-max, max-zero, suc-max-suc}
use Rattle.std.proofs.Math.Dec.{eqb-zero-suc, eqb-suc-zero, eqb-suc-suc, leb-zero, leb-suc-zero, leb-suc-suc}
use Rattle.std.proofs.Math.Arith.{digits_div, digits_mod}
use Rattle.std.specs.Int.Bits.{bitwise_step, bit_and, bit_or, and_step, or_step}
use Rattle.std.proofs.lemmas.Bool.{eqb-false}
use Rattle.maps.proofs.Truth.{taut, equal}
use Rattle.maps.specs.Maps.{some, has, unless, minus, everyone, map_of}

-- ---- one law for all operations that work digit by digit
module _ (op f : ℕ → ℕ → ℕ) (g : Bool → Bool → Bool)
    (step : (a b : ℕ) → op a b ≡ op (a / 2) (b / 2) * 2 + f (a % 2) (b % 2))
    (small : (x y : ℕ) → x < 2 → y < 2 → f x y < 2)
    (digit : (x y : ℕ) → some (f x y) ≡ g (some x) (some y)) where
  has-op : (p a b : ℕ) → has (op a b) p ≡ g (has a p) (has b p)
  unfolding has
  has-op zero a b = ap some (ap (λ (x : ℕ). x % 2) (step a b) ∙ digits_mod (op (a / 2) (b / 2)) (small (a % 2) (b % 2) (omega arith) (omega arith))) ∙ digit (a % 2) (b % 2)
  has-op (suc p) a b =
      ap (λ (x : ℕ). has x p) (ap (λ (x : ℕ). x / 2) (step a b) ∙ digits_div (op (a / 2) (b / 2)) (small (a % 2) (b % 2) (omega arith) (omega arith)))
      ∙ has-op p (a / 2) (b / 2)

some-min : (x y : ℕ) → some (min x y) ≡ some x && some y
some-min zero y = ap some (zero-min y)
some-min (suc x) zero = ap some (min-zero (suc x))
some-min (suc x) (suc y) = ap some (suc-min-suc x y)

some-max : (x y : ℕ) → some (max x y) ≡ some x || some y
some-max zero y = ap some (zero-max y)
some-max (suc x) zero = ap some (max-zero (suc x))
some-max (suc x) (suc y) = ap some (suc-max-suc x y)

some-unless : (x y : ℕ) → some (unless x y) ≡ some x && not (some y)
some-unless zero zero = refl
some-unless zero (suc y) = refl
some-unless (suc x) zero = refl
some-unless (suc x) (suc y) = refl

unless-lt : (x y : ℕ) → x < 2 → y < 2 → unless x y < 2
unless-lt x zero h l = h
unless-lt x (suc y) h l = omega arith

unless-zero : (y : ℕ) → unless zero y ≡ zero
unless-zero zero = refl
unless-zero (suc y) = refl

pub minus-step : (a b : ℕ) → minus a b ≡ minus (a / 2) (b / 2) * 2 + unless (a % 2) (b % 2)
minus-step = bitwise_step (λ b. zero) unless (λ b. sym (ap (λ (x : ℕ). zero + x) (unless-zero (b % 2))))

pub has-and : (a b p : ℕ) → has (bit_and a b) p ≡ has a p && has b p
has-and a b p = has-op bit_and min ◌&&◌ and_step (λ x y h l. omega arith) some-min p a b

pub has-or : (a b p : ℕ) → has (bit_or a b) p ≡ has a p || has b p
has-or a b p = has-op bit_or max ◌||◌ or_step (λ x y h l. omega arith) some-max p a b

pub has-minus : (a b p : ℕ) → has (minus a b) p ≡ has a p && not (has b p)
has-minus a b p = has-op minus unless (λ x y. x && not y) minus-step unless-lt some-unless p a b

-- ---- the empty map, a tag, everyone
pub has-zero : (p : ℕ) → has 0 p ≡ false
unfolding has
has-zero zero = refl
has-zero (suc p) = has-zero p

pub has-tag : (q p : ℕ) → has (2 ^ q) p ≡ eqb q p
unfolding has
has-tag zero zero = refl
has-tag zero (suc p) = has-zero p ∙ sym (eqb-zero-suc p)
has-tag (suc q) zero = let e : 2 ^ suc q % 2 ≡ 0 = omega arith in ap some e ∙ sym (eqb-suc-zero q)
has-tag (suc q) (suc p) = let e : 2 ^ suc q / 2 ≡ 2 ^ q = omega arith in ap (λ (x : ℕ). has x p) e ∙ has-tag q p ∙ sym (eqb-suc-suc q p)

pub has-everyone : (n p : ℕ) → has (everyone n) p ≡ ltb p n
unfolding has
has-everyone zero p = has-zero p ∙ sym (leb-suc-zero p)
has-everyone (suc n) zero = let e : (2 ^ suc n - 1) % 2 ≡ 1 = omega (arith, pow_pos n) in ap some e ∙ sym (leb-suc-suc 0 n ∙ leb-zero n)
has-everyone (suc n) (suc p) =
    let e : (2 ^ suc n - 1) / 2 ≡ 2 ^ n - 1 = omega (arith, pow_pos n) in
    ap (λ (x : ℕ). has x p) e ∙ has-everyone n p ∙ sym (leb-suc-suc (suc p) n)

-- ---- comparisons of numbers, as membership of a tag asks them
pub eqb_same : (p : ℕ) → eqb p p ≡ true
eqb_same p = eq-eqb p p refl

-- by whether p is q
pub split-eq : (P : Bool → Type 0) (p q : ℕ) → (p ≡ q → P true) → ((p ≡ q → ⊥) → P false) → P (eqb p q)
split-eq P p q f g = go (eqb p q) refl
  where
    go : (t : Bool) → eqb p q ≡ t → P t
    go true e = f (eqb-true p q e)
    go false e = g (eqb-false p q e)

-- the digit at p, asked through q
pub has-through : (m p q : ℕ) → has m q && eqb p q ≡ has m p && eqb p q
has-through m p q = split-eq (λ b. has m q && b ≡ has m p && b) p q (λ e. ap (λ (x : ℕ). has m x && true) (sym e)) (λ e. and-false (has m q) ∙ sym (and-false (has m p)))

-- ---- the map of those below n that pass a test
ltb-suc : (p n : ℕ) → ltb p (suc n) ≡ ltb p n || eqb n p
ltb-suc p n = split-eq (λ b. ltb p (suc n) ≡ ltb p n || b) n p (λ e. lt-ltb p (suc n) (omega arith) ∙ sym (or-true (ltb p n))) (λ f. go f (ltb p n) refl ∙ sym (or-false (ltb p n)))
  where
    go : (n ≡ p → ⊥) → (b : Bool) → ltb p n ≡ b → ltb p (suc n) ≡ ltb p n
    go f true e = lt-ltb p (suc n) (omega (arith, ltb-true p n e)) ∙ sym e
    go f false e = le-ltb p (suc n) (omega (arith, ltb-false p n e)) ∙ sym e

has-tag-if : (b : Bool) (q p : ℕ) → has (cond b (2 ^ q) 0) p ≡ b && eqb q p
has-tag-if true q p = has-tag q p
has-tag-if false q p = has-zero p

pub has-map-of : (n : ℕ) (f : ℕ → Bool) (p : ℕ) → has (map_of n f) p ≡ ltb p n && f p
unfolding map_of
has-map-of zero f p = has-zero p ∙ sym (ap (λ (b : Bool). b && f p) (leb-suc-zero p))
has-map-of (suc n) f p =
    has-or (map_of n f) (cond (f n) (2 ^ n) 0) p
    ∙ ap (λ (b : Bool). b || has (cond (f n) (2 ^ n) 0) p) (has-map-of n f p)
    ∙ ap (λ (b : Bool). (ltb p n && f p) || b) (has-tag-if (f n) n p)
    ∙ split-eq (λ b. (ltb p n && f p) || (f n && b) ≡ (ltb p n || b) && f p) n p
    (λ e. ap (λ (x : ℕ). (ltb p n && f p) || (f x && true)) e ∙ equal _ _ (taut 2 (λ x y. beq ((x && y) || (y && true)) ((x || true) && y)) refl (ltb p n) (f p)))
    (λ e. equal _ _ (taut 3 (λ x y z. beq ((x && y) || (z && false)) ((x || false) && y)) refl (ltb p n) (f p) (f n)))
    ∙ ap (λ (b : Bool). b && f p) (sym (ltb-suc p n))

-- what `simp members` does: membership in a computed map comes down to membership in the given maps
pub ruleset members = (has-and, has-or, has-minus, has-zero, has-tag, has-everyone, has-map-of, eqb_same, and-true, and-false, or-true, or-false)

-- ---- two maps with the same members are equal
some-eq : (x y : ℕ) → x < 2 → y < 2 → some x ≡ some y → x ≡ y
some-eq zero zero h l e = refl
some-eq zero (suc y) h l e = absurd (false≢true e)
some-eq (suc x) zero h l e = absurd (true≢false e)
some-eq (suc x) (suc y) h l e = omega arith

-- of maps of k processes
pub ext : (k a b : ℕ) → a < 2 ^ k → b < 2 ^ k → ((p : ℕ) → p < k → has a p ≡ has b p) → a ≡ b
unfolding has
ext zero a b h l e = omega arith
ext (suc k) a b h l e =
    let high : a / 2 ≡ b / 2 = ext k (a / 2) (b / 2) (omega arith) (omega arith) (λ p q. e (suc p) (suc-le-suc q)) in
    let low : a % 2 ≡ b % 2 = some-eq (a % 2) (b % 2) (omega arith) (omega arith) (e zero (suc-le-suc zero-le)) in
    omega arith

pub lt-pow : (a : ℕ) → a < 2 ^ a
lt-pow zero = omega arith
lt-pow (suc a) = omega (arith, lt-pow a)

-- of maps of any size
pub same : (a b : ℕ) → ((p : ℕ) → has a p ≡ has b p) → a ≡ b
same a b e = ext (a + b) a b (omega (arith, lt-pow a, pow_mono {i = a} {j = a + b} (omega arith))) (omega (arith, lt-pow b, pow_mono {i = b} {j = a + b} (omega arith))) (λ p h. e p)
