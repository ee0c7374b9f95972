-- The tick: what is left of rules 2 to 5 when every user counter falls; nobody that is ready stops being so. Assumes nothing.
use Rattle.std.proofs.Common.{◌≡◌, ℕ, zero, suc, ◌-◌, ◌^◌, ◌<◌, ◌≤◌, Bool, true, false, cond, ◌||◌, eqb, get_or, bit_or, arith, pow_pos}
use Rattle.std.specs.Int.Bits.{or_lt}
use Rattle.std.proofs.Math.Pow.{pow-lt}
use Rattle.maps.specs.Maps.{has}
use Rattle.maps.proofs.Members.{members, has-or}
use Rattle.record.specs.Record.{no_process}
use Rattle.record.specs.declared.Wait.{Wait}
use Rattle.record.specs.Places.{Place, is_open, sleeps, limited, place_of}
use Rattle.record.specs.Facts.{Waits}
use Rattle.rules.specs.Effects.{Counted, fallen, counted}
use Rattle.rules.proofs.Allowed as status
use Rattle.rules.proofs.Changed.{Touched, entered-touched, recounted}

-- a tag that may be entered
tag-lt : (n p : ℕ) → p < n → (u : Bool) → cond u (2 ^ p) 0 < 2 ^ n
tag-lt n p h true = pow-lt h
tag-lt n p h false = pow_pos n

tag-touched : (m p : ℕ) (u : Bool) → Touched p m (bit_or m (cond u (2 ^ p) 0))
tag-touched m p true = entered-touched m p
tag-touched m p false = record { others = λ q z. simp members }

tag-has : (m p : ℕ) (u : Bool) → has (bit_or m (cond u (2 ^ p) 0)) p ≡ has m p || u
tag-has m p true = simp members
tag-has m p false = simp members

-- a counter is 0 after it fell if it was 0 or 1
falls-to-zero : (x : ℕ) → eqb (x - 1) 0 ≡ eqb x 0 || eqb x 1
falls-to-zero x = grind arith

module _ {n : ℕ} {real : Place → Bool} {maps : Place → ℕ} (small : n ≤ 32) where
  fallen-waits : (p : ℕ) (c : Counted) → p < n - 1 → Waits n real c.ready c.process maps
      → Waits n real (fallen p c).ready (fallen p c).process maps
  fallen-waits p c user s =
      let x = (get_or c.process p no_process).counter in
      let own : Wait = (get_or c.process p no_process).wait in
      let here : p < n = omega arith in
      recounted s p user small (x - 1) (or_lt n _ _ s.ready-within (tag-lt n p here (eqb x 1))) (tag-touched c.ready p (eqb x 1))
      (rw (tag-has c.ready p (eqb x 1), falls-to-zero x)
      (status.falls (eqb x 1) (is_open own) (sleeps own) (limited own) (real (place_of own)) (has c.ready p) (eqb x 0) (has (maps (place_of own)) p)
      (s.each p here).status))

  pub counted-waits : (m : ℕ) (c : Counted) → m ≤ n - 1 → Waits n real c.ready c.process maps
      → Waits n real (counted m c).ready (counted m c).process maps
  unfolding counted
  counted-waits zero c h s = s
  counted-waits (suc m) c h s = fallen-waits m (counted m c) h (counted-waits m c (omega arith) s)

pub counted_ready : (m : ℕ) (c : Counted) (q : ℕ) → has c.ready q ≡ true → has (counted m c).ready q ≡ true
unfolding counted
counted_ready zero c q h = h
counted_ready (suc m) c q h = simp (has-or, counted_ready m c q h)
