use Rattle.std.proofs.Common.{[], refl}
use Rattle.line_server.proofs.Reading.{given_read}
use Rattle.line_server.proofs.bytes.Bytes.read_where_none.Goals as goal

pub returns-clause-gives : goal.returns-clause-gives
returns-clause-gives g c = λ before told. given_read before _ _ [] _ _ (c.in_ok-fill.ensures.read before told) (c.is_empty.ensures.none c.if-not-is_empty.false) refl
