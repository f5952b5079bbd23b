use Rattle.std.proofs.Common.{refl}
use Rattle.line_server.proofs.Texts.{no_text, read_text}
use Rattle.line_server.proofs.read_line.read_body.Goals as goal

pub returns-in_default-clause-body : goal.returns-in_default-clause-body
returns-in_default-clause-body c = rw (no_text c.args.line.now c.in_default.ensures.cases.0) refl

pub returns-in-Ok-from_str-clause-body : goal.returns-in-Ok-from_str-clause-body
returns-in-Ok-from_str-clause-body c =
    rw (read_text c.args.line.now c.in-Ok.text.now c.in-Ok.ensures.cases.0 c.in-Ok.ensures.cases.1, c.in-Ok-from_str.ensures.ok) c.shaped.ensures.body
