-- Which slots a call works on: of the processes the caller's or the one that is named, of the services the one that is named; 0 where none is.
use Rattle.std.specs.Prelude.{ℕ, ◌<◌, cond, ltb}
use Rattle.record.specs.declared.Wait.{Wait}
use Rattle.record.specs.declared.Wait.TheVariants.{Nothing, Sleep, Flag, Mutex, Push, Pop}
use Rattle.rules.specs.declared.Named.{Named}
use Rattle.rules.specs.declared.Named.TheVariants as named
use Rattle.parts.specs.declared.Spot.{Spot}

-- what an open wait names
abbrev pub named_by_wait : Wait → Named
named_by_wait Nothing = named.Nothing
named_by_wait (Sleep l) = named.Nothing
named_by_wait (Flag i l) = named.Flag i
named_by_wait (Mutex i l) = named.Mutex i
named_by_wait (Push i x e) = named.Channel i
named_by_wait (Pop i e l) = named.Channel i

-- the slots, with caller p
abbrev pub slots : ℕ → Named → Spot
slots p named.Nothing = record { process = p; flag = 0; mutex = 0; channel = 0 }
slots p (named.Flag i) = record { process = p; flag = i; mutex = 0; channel = 0 }
slots p (named.Mutex i) = record { process = p; flag = 0; mutex = i; channel = 0 }
slots p (named.Channel i) = record { process = p; flag = 0; mutex = 0; channel = i }
slots p (named.Process q) = record { process = q.0; flag = 0; mutex = 0; channel = 0 }

-- 0 where a number is none of the first n
abbrev pub below : ℕ → ℕ → ℕ
below n i = cond (ltb i n) i 0

abbrev pub inside : Spot → Spot
inside s = record { process = below 32 s.process; flag = below 8 s.flag; mutex = below 8 s.mutex; channel = below 4 s.channel }

-- the slots are in their tables
pub record Inside (s : Spot) : Type 0 where
  pub process : s.process < 32
  pub flag : s.flag < 8
  pub mutex : s.mutex < 8
  pub channel : s.channel < 4
