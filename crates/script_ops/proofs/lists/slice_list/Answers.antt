use Rattle.std.proofs.Common.{subst}
use Rattle.script_ops.specs.Answers.{Gives}
use Rattle.script_ops.proofs.Cut.{slice_is}
use Rattle.script_ops.proofs.lists.slice_list.Goals as goal

pub returns-in-Some-Some : goal.returns-in-Some-Some
returns-in-Some-Some c =
    let found = c.in-Some-Some in
    subst (λ meant. Gives meant c.copy_part.result)
    (slice_is c.as_slice-values.result.now c.args.list.now found.from found.to _ _ c.as_slice-values.ensures.values c.as_slice-values.ensures.within found.ensures.bound found.ensures'.bound)
    c.copy_part.ensures
