use Rattle.std.proofs.Common.{◌≡◌, ◌++◌, drop}
use Rattle.script_mean.specs.Calls.{keys_of}
use Rattle.script_calls.proofs.keys.keys_of.Given as goal

-- the keys so far and those of the operations that are left are all
abbrev pub invariant-loop-op : goal.invariant-loop-op
invariant-loop-op l = l.keys.items ++ keys_of (drop l.op-index l.ops) ≡ keys_of l.ops
