use Rattle.line_server.proofs.Printing.{out_has_no_float}
use Rattle.line_server.proofs.text.print.Goals as goal

pub json_text-requires : goal.json_text-requires
json_text-requires c = record { no_float = rw c.in_ok-json.ensures (out_has_no_float c.args.line.now) }
