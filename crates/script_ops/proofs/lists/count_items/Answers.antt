use Rattle.std.proofs.Common.{pos, Ok, sym, subst, arith}
use Rattle.do_value.specs.Tree.{number}
use Rattle.script_ops.specs.Answers.{Gives}
use Rattle.script_ops.proofs.Parts.{count_le, count_is}
use Rattle.script_ops.proofs.lists.count_items.Goals as goal

pub counted-requires : goal.counted-requires
counted-requires c = omega (arith, count_le _ _ c.as_slice.ensures.values c.as_slice.ensures.within)

pub returns : goal.returns
returns c = subst (λ n. Gives (Ok (number (pos n))) c.counted.result) (sym (count_is _ _ c.as_slice.ensures.values)) c.counted.ensures
