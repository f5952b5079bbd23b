use Rattle.std.proofs.Common.{sym, ◌∙◌, length}
use Rattle.std.proofs.lemmas.Bool.{eqb-true}
use Rattle.script_places.proofs.Sized.{sized_more}
use Rattle.script_places.proofs.size.size_with_more.Goals as goal

pub returns-then-is_end : goal.returns-then-is_end
returns-then-is_end c =
    sized_more c.args.items.now c.args.place c.size.result c.args.size c.saturating_add.result
    (eqb-true c.args.place (length c.args.items.now) (sym c.is_end.ensures ∙ c.if-is_end.true)) c.size.ensures.value c.saturating_add.ensures
