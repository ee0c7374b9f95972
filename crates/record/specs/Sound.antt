-- A sound record (01, The kernel record), rule by rule, in the document's words.
use Rattle.std.specs.Prelude.{ℕ, ◌-◌, ◌^◌, Bool, true, not, ◌&&◌, ◌||◌, ltb, leb, eqb, Option, None, Some}
use Rattle.maps.specs.declared.Number.{Number}
use Rattle.maps.specs.Maps.{has, lowest}
use Rattle.record.specs.declared.Kernel.{Kernel}
use Rattle.record.specs.Words.{implies, exactly, all_below}
use Rattle.record.specs.Limits.{counts_fit, channel_fits}
use Rattle.record.specs.Record.{process_at, mutex_at, channel_at, wait_of, count, idle, lengths}
use Rattle.record.specs.Places.{Place, is_open, sleeps, limited, place_of, map_at, real, every_map, same_place}

-- ---- what the rules look at, of process p
abbrev pub is_ready : Kernel → ℕ → Bool
is_ready k p = has k.ready p

-- it has counter 0
abbrev pub rests : Kernel → ℕ → Bool
rests k p = eqb (process_at k p).counter 0

-- it is in its wait's map
abbrev pub in_its_map : Kernel → ℕ → Bool
in_its_map k p = has (map_at k (place_of (wait_of k p))) p

-- it is in no service map, and in none but that at b
abbrev pub in_no_map : Kernel → ℕ → Bool
in_no_map k p = every_map k (λ a. not (has (map_at k a) p))

abbrev pub in_no_map_but : Kernel → Place → ℕ → Bool
in_no_map_but k b p = every_map k (λ a. implies (has (map_at k a) p) (same_place b a))

-- map m has no bit at n or above
abbrev pub within : ℕ → ℕ → Bool
within n m = ltb m (2 ^ n)

-- ---- the rules

-- 1: counts, capacities, mode and depth are within their limits; running and next are below n; every first is below its capacity, every count at
-- most its capacity
abbrev pub rule1 : Kernel → Bool
rule1 k =
    counts_fit k.setup && leb k.depth 8 && ltb k.running.0 (count k) && ltb k.next.0 (count k)
    && all_below k.setup.channels (λ i. channel_fits (channel_at k i))

-- 2: no map has a bit at n or above; idle is ready, has no open wait, counter 0, and is in no service map
abbrev pub rule2 : Kernel → Bool
rule2 k =
    within (count k) k.ready && every_map k (λ a. within (count k) (map_at k a))
    && is_ready k (idle k) && not (is_open (wait_of k (idle k))) && rests k (idle k) && in_no_map k (idle k)

-- 3: a process without open wait is ready, has counter 0 and is in no service map; one with an open wait sleeps or names an existing service, and is
-- in no map but its wait's
abbrev pub rule3 : Kernel → ℕ → Bool
rule3 k p =
    implies (not (is_open (wait_of k p))) (is_ready k p && rests k p && in_no_map k p)
    && implies (is_open (wait_of k p)) ((sleeps (wait_of k p) || real k (place_of (wait_of k p))) && in_no_map_but k (place_of (wait_of k p)) p)

-- 4: a process that isn't ready has an open wait, is in its map (unless asleep), and has counter above 0 exactly if limited
abbrev pub rule4 : Kernel → ℕ → Bool
rule4 k p =
    implies (not (is_ready k p))
    (is_open (wait_of k p) && (sleeps (wait_of k p) || in_its_map k p) && exactly (not (rests k p)) (limited (wait_of k p)))

-- 5: a ready process has counter 0 if its wait is unlimited, if it sleeps, or if it is in its map
abbrev pub rule5 : Kernel → ℕ → Bool
rule5 k p = implies (is_ready k p && (not (limited (wait_of k p)) || sleeps (wait_of k p) || in_its_map k p)) (rests k p)

-- 6: owners are user processes
abbrev pub user_owner : ℕ → Option Number → Bool
user_owner n None = true
user_owner n (Some q) = ltb q.0 (n - 1)

abbrev pub rule6 : Kernel → Bool
rule6 k = all_below k.setup.mutexes (λ i. user_owner (count k) (mutex_at k i).owner)

-- 7: next is ready; at depth 0, next is the lowest-numbered ready process; in direct mode running equals next
abbrev pub rule7 : Kernel → Bool
rule7 k =
    is_ready k k.next.0
    && implies (eqb k.depth 0) (eqb k.next.0 (lowest k.ready))
    && implies (eqb k.setup.mode 0) (eqb k.running.0 k.next.0)

-- The tables have the lengths that the record's type gives them: true of every record that a program holds, and said here so that a theorem about
-- soundness needs no other assumption
unfoldable pub sound : Kernel → Bool
sound k =
    lengths k && rule1 k && rule2 k && all_below (count k) (rule3 k) && all_below (count k) (rule4 k) && all_below (count k) (rule5 k)
    && rule6 k && rule7 k
