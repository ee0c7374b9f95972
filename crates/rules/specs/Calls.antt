-- What a call is: its kind, what it names, whether it needs the room (01, Calls and their steps; Refusal numbers).
use Rattle.std.specs.Prelude.{◌-◌, Bool, true, false, List, leb, get_or, Option, None}
use Rattle.maps.specs.declared.Number.{Number}
use Rattle.maps.specs.Maps.{number_of}
use Rattle.record.specs.declared.Setup.{Setup}
use Rattle.record.specs.declared.Mutex.{Mutex}
use Rattle.record.specs.Record.{no_mutex}
use Rattle.rules.specs.declared.Call.{Call}
use Rattle.rules.specs.declared.Call.TheVariants.{Enter, Exit, Switch, Reading, Process, Finish, Interrupt}
use Rattle.rules.specs.declared.Name.{Name}
use Rattle.rules.specs.declared.Name.TheVariants as name
use Rattle.rules.specs.declared.Named.{Named}
use Rattle.rules.specs.declared.Named.TheVariants as named
use Rattle.rules.specs.declared.Reading.{Reading as ReadingT}
use Rattle.rules.specs.declared.Reading.TheVariants as reading
use Rattle.rules.specs.declared.Request.{Request}
use Rattle.rules.specs.declared.Request.TheVariants as request
use Rattle.rules.specs.declared.Interrupt.{Interrupt as InterruptT}
use Rattle.rules.specs.declared.Interrupt.TheVariants as interrupt

-- ---- kinds: a process call, finish among them; an interrupt call
abbrev pub is_process : Call → Bool
is_process Enter = false
is_process Exit = false
is_process Switch = false
is_process (Reading r) = false
is_process (Process r) = true
is_process Finish = true
is_process (Interrupt i) = false

abbrev pub is_interrupt : Call → Bool
is_interrupt Enter = false
is_interrupt Exit = false
is_interrupt Switch = false
is_interrupt (Reading r) = false
is_interrupt (Process r) = false
is_interrupt Finish = false
is_interrupt (Interrupt i) = true

abbrev pub is_finish : Call → Bool
is_finish Enter = false
is_finish Exit = false
is_finish Switch = false
is_finish (Reading r) = false
is_finish (Process r) = false
is_finish Finish = true
is_finish (Interrupt i) = false

abbrev pub is_enter : Call → Bool
is_enter Enter = true
is_enter Exit = false
is_enter Switch = false
is_enter (Reading r) = false
is_enter (Process r) = false
is_enter Finish = false
is_enter (Interrupt i) = false

abbrev pub is_exit : Call → Bool
is_exit Enter = false
is_exit Exit = true
is_exit Switch = false
is_exit (Reading r) = false
is_exit (Process r) = false
is_exit Finish = false
is_exit (Interrupt i) = false

abbrev pub is_switch : Call → Bool
is_switch Enter = false
is_switch Exit = false
is_switch Switch = true
is_switch (Reading r) = false
is_switch (Process r) = false
is_switch Finish = false
is_switch (Interrupt i) = false

-- ---- what a call names
-- the number of a process that is named; 32, which no process has, for a tag that is none
abbrev pub numbered : Name → Number
numbered (name.Number p) = p
numbered (name.Tag t) = record { 0 = number_of t.0 }

abbrev pub named_by_reading : ReadingT → Named
named_by_reading reading.Running = named.Nothing
named_by_reading reading.Next = named.Nothing
named_by_reading reading.Ready = named.Nothing
named_by_reading reading.Ticks = named.Nothing
named_by_reading (reading.FlagState i) = named.Flag i
named_by_reading (reading.Owner i) = named.Mutex i
named_by_reading (reading.ItemCount i) = named.Channel i
named_by_reading (reading.FreePlaces i) = named.Channel i

abbrev pub named_by_request : Request → Named
named_by_request (request.Sleep t) = named.Nothing
named_by_request (request.Wait i t) = named.Flag i
named_by_request (request.Signal i) = named.Flag i
named_by_request (request.Clear i) = named.Flag i
named_by_request (request.Lock i t) = named.Mutex i
named_by_request (request.Try i) = named.Mutex i
named_by_request (request.Unlock i) = named.Mutex i
named_by_request (request.Push i x e) = named.Channel i
named_by_request (request.Pop i e t) = named.Channel i
named_by_request (request.Flush i) = named.Channel i
named_by_request (request.Wake p) = named.Process (numbered p)
named_by_request (request.Force p) = named.Process (numbered p)

abbrev pub named_by_interrupt : InterruptT → Named
named_by_interrupt interrupt.Tick = named.Nothing
named_by_interrupt (interrupt.Signal i) = named.Flag i
named_by_interrupt (interrupt.Unlock i) = named.Mutex i
named_by_interrupt (interrupt.Write i) = named.Channel i
named_by_interrupt (interrupt.Read i) = named.Channel i

abbrev pub named_by : Call → Named
named_by Enter = named.Nothing
named_by Exit = named.Nothing
named_by Switch = named.Nothing
named_by (Reading r) = named_by_reading r
named_by (Process r) = named_by_request r
named_by Finish = named.Nothing
named_by (Interrupt i) = named_by_interrupt i

-- there is no such flag, mutex, channel or user process
abbrev pub missing : Setup → Named → Bool
missing s named.Nothing = false
missing s (named.Flag i) = leb s.flags i
missing s (named.Mutex i) = leb s.mutexes i
missing s (named.Channel i) = leb s.channels i
missing s (named.Process p) = leb (s.processes - 1) p.0

-- ---- pushes, pops, flush, finish, interrupt write and read need the room
abbrev pub request_needs_room : Request → Bool
request_needs_room (request.Sleep t) = false
request_needs_room (request.Wait i t) = false
request_needs_room (request.Signal i) = false
request_needs_room (request.Clear i) = false
request_needs_room (request.Lock i t) = false
request_needs_room (request.Try i) = false
request_needs_room (request.Unlock i) = false
request_needs_room (request.Push i x e) = true
request_needs_room (request.Pop i e t) = true
request_needs_room (request.Flush i) = true
request_needs_room (request.Wake p) = false
request_needs_room (request.Force p) = false

abbrev pub interrupt_needs_room : InterruptT → Bool
interrupt_needs_room interrupt.Tick = false
interrupt_needs_room (interrupt.Signal i) = false
interrupt_needs_room (interrupt.Unlock i) = false
interrupt_needs_room (interrupt.Write i) = true
interrupt_needs_room (interrupt.Read i) = true

abbrev pub needs_room : Call → Bool
needs_room Enter = false
needs_room Exit = false
needs_room Switch = false
needs_room (Reading r) = false
needs_room (Process r) = request_needs_room r
needs_room Finish = true
needs_room (Interrupt i) = interrupt_needs_room i

-- ---- mutexes: lock and try; unlock; unlock from interrupt
abbrev pub request_takes : Request → Bool
request_takes (request.Sleep t) = false
request_takes (request.Wait i t) = false
request_takes (request.Signal i) = false
request_takes (request.Clear i) = false
request_takes (request.Lock i t) = true
request_takes (request.Try i) = true
request_takes (request.Unlock i) = false
request_takes (request.Push i x e) = false
request_takes (request.Pop i e t) = false
request_takes (request.Flush i) = false
request_takes (request.Wake p) = false
request_takes (request.Force p) = false

abbrev pub takes : Call → Bool
takes Enter = false
takes Exit = false
takes Switch = false
takes (Reading r) = false
takes (Process r) = request_takes r
takes Finish = false
takes (Interrupt i) = false

abbrev pub request_unlocks : Request → Bool
request_unlocks (request.Sleep t) = false
request_unlocks (request.Wait i t) = false
request_unlocks (request.Signal i) = false
request_unlocks (request.Clear i) = false
request_unlocks (request.Lock i t) = false
request_unlocks (request.Try i) = false
request_unlocks (request.Unlock i) = true
request_unlocks (request.Push i x e) = false
request_unlocks (request.Pop i e t) = false
request_unlocks (request.Flush i) = false
request_unlocks (request.Wake p) = false
request_unlocks (request.Force p) = false

abbrev pub unlocks : Call → Bool
unlocks Enter = false
unlocks Exit = false
unlocks Switch = false
unlocks (Reading r) = false
unlocks (Process r) = request_unlocks r
unlocks Finish = false
unlocks (Interrupt i) = false

abbrev pub interrupt_frees : InterruptT → Bool
interrupt_frees interrupt.Tick = false
interrupt_frees (interrupt.Signal i) = false
interrupt_frees (interrupt.Unlock i) = true
interrupt_frees (interrupt.Write i) = false
interrupt_frees (interrupt.Read i) = false

abbrev pub frees : Call → Bool
frees Enter = false
frees Exit = false
frees Switch = false
frees (Reading r) = false
frees (Process r) = false
frees Finish = false
frees (Interrupt i) = interrupt_frees i

-- the owner of the mutex that a call names; nobody where it names none
abbrev pub owner_named : List Mutex → Named → Option Number
owner_named mutex named.Nothing = None
owner_named mutex (named.Flag i) = None
owner_named mutex (named.Mutex i) = (get_or mutex i no_mutex).owner
owner_named mutex (named.Channel i) = None
owner_named mutex (named.Process p) = None
