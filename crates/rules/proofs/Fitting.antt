-- What a put, a take, a block written or read and a flush leave of a channel's limits; the maps stay. Assumes nothing.
use Rattle.std.proofs.Common.{◌≡◌, ℕ, ◌<◌, refl, arith}
use Rattle.ring.specs.declared.Channel.{Channel}
use Rattle.ring.specs.declared.End.{End}
use Rattle.ring.specs.declared.End.TheVariants.{Front, Back}
use Rattle.ring.specs.Ring.{Fits, gained, taken, grown, lifted, fitting}
use Rattle.ring.proofs.Places.{put-place-lt, place-lt}
use Rattle.rules.specs.Effects.{emptied}

module _ (c : Channel) where
  pub gained-writers : (e : End) → (gained e c).writers ≡ c.writers
  gained-writers Front = refl
  gained-writers Back = refl

  pub taken-readers : (e : End) → (taken e c).readers ≡ c.readers
  taken-readers Front = refl
  taken-readers Back = refl

  module _ (f : Fits c) where
    pub gained-fits : (e : End) → c.count < c.capacity → Fits (gained e c)
    gained-fits Front h = record { some = f.some; most = f.most; first = put-place-lt Front c f.some; count = omega arith }
    gained-fits Back h = record { some = f.some; most = f.most; first = f.first; count = omega arith }

    pub taken-fits : (e : End) → Fits (taken e c)
    taken-fits Front = record { some = f.some; most = f.most; first = place-lt c 1 f.some; count = omega (arith, f.count) }
    taken-fits Back = record { some = f.some; most = f.most; first = f.first; count = omega (arith, f.count) }

    pub grown-fits : (m : ℕ) → Fits (grown c (fitting c m))
    grown-fits m = record { some = f.some; most = f.most; first = f.first; count = omega (arith, f.count) }

    pub lifted-fits : (n : ℕ) → Fits (lifted c n)
    lifted-fits n = record { some = f.some; most = f.most; first = place-lt c n f.some; count = omega (arith, f.count) }

    pub emptied-fits : Fits (emptied c)
    emptied-fits = record { some = f.some; most = f.most; first = f.some; count = omega arith }
