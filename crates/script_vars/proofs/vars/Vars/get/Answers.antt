use Rattle.std.proofs.Common.{◌≡◌, [], get_or, Some, sym, ap, ◌∙◌, subst}
use Rattle.std.proofs.lemmas.List.{get_or_read}
use Rattle.script_mean.specs.Turn.{bound}
use Rattle.script_vars.specs.Places.{no_name, IsInnermost}
use Rattle.script_vars.specs.Seen.{bound_of, env_of}
use Rattle.script_vars.proofs.Found.{innermost_bound}
use Rattle.script_vars.proofs.vars.Vars.get.Goals as goal

pub returns : goal.returns
returns c =
    let name = c.args.name.now in
    let blocks = c.self.inside.blocks.items in
    let place = c.in_ok-place.place in
    let at : IsInnermost name blocks place.block place.name = subst (λ bs. IsInnermost name bs place.block place.name) (sym c.self.view_is) c.in_ok-place.ensures in
    let names : c.index.result.now ≡ get_or blocks place.block [] = get_or_read blocks place.block _ at.inside c.index.ensures [] in
    ap (λ b. Some (bound_of b)) (c.at.ensures ∙ ap (λ ns. (get_or ns place.name no_name).1) names)
    ∙ sym (innermost_bound name blocks place.block place.name at)
    ∙ ap (λ bs. bound name (env_of bs)) c.self.view_is
