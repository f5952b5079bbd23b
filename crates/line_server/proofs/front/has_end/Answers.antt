use Rattle.std.proofs.Common.{◌∙◌}
use Rattle.line_server.proofs.Finding.{end_looked}
use Rattle.line_server.proofs.front.has_end.Goals as goal

pub returns : goal.returns
returns c = c.is_some.ensures ∙ end_looked c.args.bytes.now c.memchr.result c.memchr.ensures
