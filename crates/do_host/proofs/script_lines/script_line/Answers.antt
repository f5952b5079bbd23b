use Rattle.std.proofs.Common.{map}
use Rattle.do_tree.specs.Seen.{class_of}
use Rattle.do_host.proofs.Names.{script_has_no_float}
use Rattle.do_host.proofs.script_lines.script_line.Goals as goal

pub json_text-requires : goal.json_text-requires
json_text-requires c = record { no_float = rw c.in_ok-json.ensures (script_has_no_float (map class_of c.deref.result.now)) }
