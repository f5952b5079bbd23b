use Rattle.std.proofs.Common.{◌≡◌, ◌+◌, ◌*◌, ◌≤◌, drop}
use Rattle.script_ops.specs.Texts.{unit_count}
use Rattle.script_ops.proofs.texts.count_units.Given as goal

abbrev pub invariant-loop-byte : goal.invariant-loop-byte
invariant-loop-byte l = record {
  counted : l.count + unit_count (drop l.byte-index l.byte-items) ≡ unit_count l.text;
  limit : l.count ≤ 2 * l.byte-index;
}
