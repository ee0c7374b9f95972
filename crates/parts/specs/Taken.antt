-- The parts of a record that a call works on, and the record with them put back.
use Rattle.std.specs.Prelude.{◌^◌, set}
use Rattle.maps.specs.declared.Tag.{Tag}
use Rattle.record.specs.declared.Kernel.{Kernel}
use Rattle.record.specs.Record.{process_at, flag_at, mutex_at, channel_at}
use Rattle.parts.specs.declared.Parts.{Parts}
use Rattle.parts.specs.declared.Spot.{Spot}

-- the caller's tag
abbrev pub tag : Kernel → Tag
tag k = record { 0 = 2 ^ k.running.0 }

abbrev pub taken : Kernel → Spot → Parts
taken k s = record {
  setup = k.setup;
  depth = k.depth;
  running = k.running;
  next = k.next;
  ready = k.ready;
  ticks = k.ticks;
  caller = tag k;
  row = process_at k s.process;
  flag = flag_at k s.flag;
  mutex = mutex_at k s.mutex;
  channel = channel_at k s.channel;
}

abbrev pub put_back : Kernel → Spot → Parts → Kernel
put_back k s x = record {
  setup = k.setup;
  depth = x.depth;
  running = x.running;
  next = x.next;
  ready = x.ready;
  ticks = k.ticks;
  process = set k.process s.process x.row;
  flag = set k.flag s.flag x.flag;
  mutex = set k.mutex s.mutex x.mutex;
  channel = set k.channel s.channel x.channel;
}
