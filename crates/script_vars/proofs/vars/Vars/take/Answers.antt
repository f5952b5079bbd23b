use Rattle.std.proofs.Common.{◌≡◌, [], get_or, set, sym, ap, ◌∙◌, subst}
use Rattle.std.proofs.lemmas.List.{get_or_read}
use Rattle.script_mean.specs.Turn.{bound}
use Rattle.script_vars.specs.Places.{no_name, IsInnermost}
use Rattle.script_vars.specs.Seen.{bound_of, value_in, value_of, env_of, emptied, emptied_in}
use Rattle.script_vars.proofs.Found.{put, innermost_bound, innermost_emptied}
use Rattle.script_vars.proofs.vars.Vars.take.Goals as goal

pub returns-clause-value : goal.returns-clause-value
returns-clause-value c =
    let name = c.args.name.now in
    let blocks = c.self.inside.blocks.items in
    let place = c.in_ok-place.place in
    let at : IsInnermost name blocks place.block place.name = subst (λ bs. IsInnermost name bs place.block place.name) (sym c.self.view_is) c.in_ok-place.ensures in
    let names : c.index_mut.result.now ≡ get_or blocks place.block [] = get_or_read blocks place.block _ at.inside c.index_mut.ensures.value [] in
    c.take.ensures.value
    ∙ ap (λ ns. value_in (bound_of (get_or ns place.name no_name).1)) names
    ∙ ap value_of (sym (innermost_bound name blocks place.block place.name at))
    ∙ ap (λ bs. value_of (bound name (env_of bs))) c.self.view_is

pub returns-clause-after : goal.returns-clause-after
returns-clause-after c =
    let name = c.args.name.now in
    let blocks = c.self.inside.blocks.items in
    let place = c.in_ok-place.place in
    let at : IsInnermost name blocks place.block place.name = subst (λ bs. IsInnermost name bs place.block place.name) (sym c.self.view_is) c.in_ok-place.ensures in
    let names : c.index_mut.result.now ≡ get_or blocks place.block [] = get_or_read blocks place.block _ at.inside c.index_mut.ensures.value [] in
    ap (λ ns. env_of (set blocks place.block ns)) (c.take.ensures.after ∙ ap (λ ns. put ns place.name (emptied (get_or ns place.name no_name).1)) names)
    ∙ innermost_emptied name blocks place.block place.name at
    ∙ ap (λ bs. emptied_in name (env_of bs)) c.self.view_is
