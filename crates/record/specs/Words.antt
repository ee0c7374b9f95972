-- Words of the rules: implies, exactly, every number below n.
use Rattle.std.specs.Prelude.{ℕ, zero, suc, Bool, true, not, ◌&&◌, ◌||◌}
use Rattle.std.specs.Bool.{beq}

-- if a then b
abbrev pub implies : Bool → Bool → Bool
implies a b = not a || b

-- a exactly if b
abbrev pub exactly : Bool → Bool → Bool
exactly a b = beq a b

-- f holds of each number below n
unfoldable pub all_below : ℕ → (ℕ → Bool) → Bool
all_below zero f = true
all_below (suc i) f = all_below i f && f i
