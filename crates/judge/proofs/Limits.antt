-- What judging asks of a sound record: at least two processes, at most four channels. Assumes nothing.
use Rattle.std.proofs.Common.{◌≡◌, ◌≤◌, true}
use Rattle.record.specs.declared.Kernel.{Kernel}
use Rattle.record.specs.Sound.{sound}
use Rattle.record.proofs.Iff.{sound-to}

pub two_processes : (k : Kernel) → sound k ≡ true → 2 ≤ k.setup.processes
two_processes k e = (sound-to k e).core.limits.two

pub four_channels : (k : Kernel) → sound k ≡ true → k.setup.channels ≤ 4
four_channels k e = (sound-to k e).core.limits.channels
