-- Where a process can wait: the place of a wait, and the map at a place. A service map stands at a flag, at a mutex, and at either side of a
-- channel: "the map" of a push is the writer map, of a pop the reader map (01, The kernel record).
use Rattle.std.specs.Prelude.{ℕ, Bool, true, false, ◌&&◌, ltb, eqb, get_or}
use Rattle.record.specs.declared.Kernel.{Kernel}
use Rattle.record.specs.declared.Setup.{Setup}
use Rattle.record.specs.declared.Wait.{Wait}
use Rattle.record.specs.declared.Wait.TheVariants.{Nothing, Sleep, Flag, Mutex, Push, Pop}
use Rattle.record.specs.Words.{all_below}
use Rattle.record.specs.Record.{Services, services, no_flag, no_mutex, no_channel}

pub data Place : Type 0 where
  nowhere : Place
  at_flag : ℕ → Place
  at_mutex : ℕ → Place
  at_readers : ℕ → Place
  at_writers : ℕ → Place

-- ---- waits
abbrev pub is_open : Wait → Bool
is_open Nothing = false
is_open (Sleep l) = true
is_open (Flag i l) = true
is_open (Mutex i l) = true
is_open (Push i x e) = true
is_open (Pop i e l) = true

abbrev pub sleeps : Wait → Bool
sleeps Nothing = false
sleeps (Sleep l) = true
sleeps (Flag i l) = false
sleeps (Mutex i l) = false
sleeps (Push i x e) = false
sleeps (Pop i e l) = false

-- a push is never limited
abbrev pub limited : Wait → Bool
limited Nothing = false
limited (Sleep l) = l
limited (Flag i l) = l
limited (Mutex i l) = l
limited (Push i x e) = false
limited (Pop i e l) = l

abbrev pub place_of : Wait → Place
place_of Nothing = nowhere
place_of (Sleep l) = nowhere
place_of (Flag i l) = at_flag i
place_of (Mutex i l) = at_mutex i
place_of (Push i x e) = at_writers i
place_of (Pop i e l) = at_readers i

-- ---- the map at a place, and whether its service exists
abbrev pub map_in : Services → Place → ℕ
map_in v nowhere = 0
map_in v (at_flag i) = (get_or v.flag i no_flag).waiters
map_in v (at_mutex i) = (get_or v.mutex i no_mutex).waiters
map_in v (at_readers i) = (get_or v.channel i no_channel).readers
map_in v (at_writers i) = (get_or v.channel i no_channel).writers

abbrev pub map_at : Kernel → Place → ℕ
map_at k a = map_in (services k) a

abbrev pub real_in : Setup → Place → Bool
real_in s nowhere = false
real_in s (at_flag i) = ltb i s.flags
real_in s (at_mutex i) = ltb i s.mutexes
real_in s (at_readers i) = ltb i s.channels
real_in s (at_writers i) = ltb i s.channels

abbrev pub real : Kernel → Place → Bool
real k a = real_in k.setup a

-- f holds of every place whose service exists
unfoldable pub everywhere : Setup → (Place → Bool) → Bool
everywhere s f =
    all_below s.flags (λ i. f (at_flag i)) && all_below s.mutexes (λ i. f (at_mutex i))
    && all_below s.channels (λ i. f (at_readers i)) && all_below s.channels (λ i. f (at_writers i))

abbrev pub every_map : Kernel → (Place → Bool) → Bool
every_map k f = everywhere k.setup f

-- ---- two places are one
abbrev pub kind_of : Place → ℕ
kind_of nowhere = 0
kind_of (at_flag i) = 1
kind_of (at_mutex i) = 2
kind_of (at_readers i) = 3
kind_of (at_writers i) = 4

abbrev pub index_of : Place → ℕ
index_of nowhere = 0
index_of (at_flag i) = i
index_of (at_mutex i) = i
index_of (at_readers i) = i
index_of (at_writers i) = i

abbrev pub same_place : Place → Place → Bool
same_place a b = eqb (kind_of a) (kind_of b) && eqb (index_of a) (index_of b)
