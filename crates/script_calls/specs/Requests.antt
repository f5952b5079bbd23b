-- What every request of a call is.
use Rattle.std.specs.Prelude.{◌≤◌, length}
use Rattle.std.specs.List.{All}
use Rattle.storage_txn.specs.Writes.{IsOnKey}
use Rattle.script_mean.specs.Storing.{Request, reads, syncs, writes}

-- It has no more operations than one call may have keys.
abbrev pub IsShort : Request → Type 0
IsShort (reads a) = Unit {0}
IsShort syncs = Unit {0}
IsShort (writes ops c) = length ops ≤ 128

-- Each of its operations is on one key.
abbrev pub AreKeyed : Request → Type 0
AreKeyed (reads a) = Unit {0}
AreKeyed syncs = Unit {0}
AreKeyed (writes ops c) = All IsOnKey ops
