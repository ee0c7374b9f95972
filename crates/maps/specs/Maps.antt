-- Process maps (01, The kernel record; manual 3.3.4, order 0): a map is a 32-bit word, and process p has the tag 2 ^ p.
-- Union and meet of maps are the library's `bit_or` and `bit_and`, digit by digit.
use Rattle.std.specs.Prelude.{ℕ, zero, suc, ◌-◌, ◌/◌, ◌%◌, ◌^◌, Bool, true, false, cond, not, ◌==◌, bit_and, bit_or}
use Rattle.std.specs.Int.Bits.{bitwise}
use Rattle.std.specs.Int.Count.{count_trailing_zeros}
use Rattle.maps.specs.declared.Wake.{Wake}

-- ---- membership

-- a digit is set
abbrev pub some : ℕ → Bool
some zero = false
some (suc d) = true

-- process p is in the map m: digit p of m is set
unfoldable pub has : ℕ → ℕ → Bool
has m zero = some (m % 2)
has m (suc p) = has (m / 2) p

-- the digit x where y is not set
abbrev pub unless : ℕ → ℕ → ℕ
unless x zero = x
unless x (suc y) = zero

-- the processes of a that are not in b, digit by digit
abbrev pub minus : ℕ → ℕ → ℕ
minus = bitwise (λ b. zero) unless

-- the map a and the map b (or tag) have a process in common
abbrev pub meets : ℕ → ℕ → Bool
meets a b = not (bit_and a b == 0)

-- ---- n processes

-- the map of the processes 0 to n - 1
abbrev pub everyone : ℕ → ℕ
everyone n = 2 ^ n - 1

-- the map of those of them that pass a test
unfoldable pub map_of : ℕ → (ℕ → Bool) → ℕ
map_of zero f = 0
map_of (suc n) f = bit_or (map_of n f) (cond (f n) (2 ^ n) 0)

-- ---- the lowest-numbered process

-- the number of the lowest-numbered process of a map, 32 where it is empty: how many of the 32 digits stand below the lowest set one
abbrev pub lowest : ℕ → ℕ
lowest m = count_trailing_zeros 32 m

-- its tag alone, 0 where the map is empty
unfoldable pub lowest_bit : ℕ → ℕ
lowest_bit m = cond (m == 0) 0 (2 ^ lowest m)

-- the number of the process that has the tag t, 32 where no process has it
unfoldable pub number_of : ℕ → ℕ
number_of t = cond (t == 2 ^ lowest t) (lowest t) 32

-- ---- waking (01, Process calls)

-- those in the map that aren't ready
abbrev pub unready : ℕ → ℕ → ℕ
unready map ready = minus map ready

-- they become ready and leave the map
abbrev pub woke : ℕ → ℕ → ℕ → Wake
woke map ready who = record { ready = bit_or ready who; map = minus map who; woken = who }

-- wake all: every process in the map that isn't ready becomes ready and leaves the map; ready ones stay in the map (6.2.1)
abbrev pub wake_all : ℕ → ℕ → Wake
wake_all map ready = woke map ready (unready map ready)

-- wake one: the same for the lowest-numbered such process only
abbrev pub wake_one : ℕ → ℕ → Wake
wake_one map ready = woke map ready (lowest_bit (unready map ready))
