use Rattle.std.proofs.Common.{refl, sym, ◌∙◌}
use Rattle.do_parse.proofs.Peeking.{peek_kind, peek_none}
use Rattle.do_parse.proofs.Turns.{next_yes, next_no}
use Rattle.do_parse.proofs.cursor.Cursor.peek.Goals as goal

pub returns-then-not-next_is : goal.returns-then-not-next_is
returns-then-not-next_is c = (refl, next_no c.next_is.result c.next_is.ensures c.if-not-next_is.true)

pub returns-in-Some : goal.returns-in-Some
returns-in-Some c = (sym c.first.ensures ∙ c.in-Some.is, peek_kind c.args.self.now c.in-Some.token c.args.kind (sym c.first.ensures ∙ c.in-Some.is) (next_yes c.next_is.result c.next_is.ensures c.if-not-next_is.false))

pub returns-in-None : goal.returns-in-None
returns-in-None c = (refl, peek_none c.args.self.now c.args.kind (sym c.first.ensures ∙ c.in-None.is))
