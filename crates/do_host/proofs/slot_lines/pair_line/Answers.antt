use Rattle.do_host.proofs.Dumping.{pair_has_no_float}
use Rattle.do_host.proofs.slot_lines.pair_line.Goals as goal

pub json_text-requires : goal.json_text-requires
json_text-requires c = record { no_float = rw c.in_ok-json.ensures (pair_has_no_float c.args.slot c.args.key.now c.args.value.now) }
