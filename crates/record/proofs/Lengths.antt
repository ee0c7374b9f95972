-- The lengths of a record's tables, which its type gives: in a function's proof, `search (needs, length-mapped)` finds `Shaped` of a parameter.
-- Assumes nothing.
use Rattle.std.proofs.Common.{ℕ, ◌≡◌, sym, ◌∙◌, true, List, map, length}
use Rattle.std.proofs.Math.ListN.{length-map}
use Rattle.record.specs.declared.Kernel.{Kernel}
use Rattle.record.specs.Record.{lengths}
use Rattle.record.proofs.Logic.{facts}

pub length-mapped : (X Y : Type 0) (f : X → Y) (l : List X) (n : ℕ) → length (map f l) ≡ n → length l ≡ n
length-mapped X Y f l n e = sym (length-map l f) ∙ e

pub record Shaped (k : Kernel) : Type 0 where
  pub process : length k.process ≡ 32
  pub flag : length k.flag ≡ 8
  pub mutex : length k.mutex ≡ 8
  pub channel : length k.channel ≡ 4

pub shaped-lengths : (k : Kernel) → Shaped k → lengths k ≡ true
shaped-lengths k s = simp facts (((s.process, s.flag), s.mutex), s.channel)
