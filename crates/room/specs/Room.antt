-- The room (01, The kernel record): the channels' parts follow each other in channel order, and its length is the sum of the capacities.
use Rattle.std.specs.Prelude.{ℕ, zero, suc, ◌+◌, ◌-◌, ◌<◌, ◌≤◌, ◌≡◌, List, get_or}
use Rattle.ring.specs.declared.Channel.{Channel}
use Rattle.ring.specs.Ring.{Fits, items_of}
use Rattle.record.specs.declared.Kernel.{Kernel}
use Rattle.record.specs.Record.{no_channel}

abbrev pub channel_in : List Channel → ℕ → Channel
channel_in channel i = get_or channel i no_channel

-- the sum of the first n capacities: where the part of channel n starts
unfoldable pub offset : List Channel → ℕ → ℕ
offset channel zero = 0
offset channel (suc n) = offset channel n + (channel_in channel n).capacity

-- how long the room is
abbrev pub room_length : Kernel → ℕ
room_length k = offset k.channel k.setup.channels

-- the items of channel i, first to last
abbrev pub channel_items : List Channel → List ℕ → ℕ → List ℕ
channel_items channel room i = items_of room (offset channel i) (channel_in channel i)

-- channel ch is within its limits, and its part lies in a room of n words
pub record There (channel : List Channel) (ch n : ℕ) : Type 0 where
  pub four : ch < 4
  pub fits : Fits (channel_in channel ch)
  pub holds : offset channel ch + (channel_in channel ch).capacity ≤ n

-- and starts at a
pub record Starts (channel : List Channel) (ch n a : ℕ) : Type 0 where
  pub here : a ≡ offset channel ch
  pub below : a < n
  pub room : (channel_in channel ch).capacity ≤ n - a
  pub fits : Fits (channel_in channel ch)
