use Rattle.std.proofs.Common.{refl}
use Rattle.line_server.proofs.Keeping.{raw_on}
use Rattle.line_server.proofs.raw_line.RawLine.add.Goals as goal

pub returns-clause-more : goal.returns-clause-more
returns-clause-more c = λ line is. raw_on line _ _ c.args.bytes.now c.are_blank.result is c.in_ok-keep.ensures.kept refl refl c.are_blank.ensures
