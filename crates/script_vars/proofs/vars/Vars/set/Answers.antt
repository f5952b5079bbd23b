use Rattle.std.proofs.Common.{◌≡◌, [], get_or, set, sym, ap, ◌∙◌, subst}
use Rattle.std.proofs.lemmas.List.{get_or_read}
use Rattle.do_value.specs.Seen.{tree_of}
use Rattle.script_mean.specs.Turn.{rebound}
use Rattle.script_vars.specs.declared.bound.Bound.TheVariants.{Value}
use Rattle.script_vars.specs.Places.{IsInnermost}
use Rattle.script_vars.specs.Seen.{env_of}
use Rattle.script_vars.proofs.Found.{put, innermost_rebound, unbound_rebound}
use Rattle.script_vars.proofs.vars.Vars.set.Goals as goal

pub returns-in-Some : goal.returns-in-Some
returns-in-Some c =
    let name = c.args.name.now in
    let blocks = c.self.inside.blocks.items in
    let place = c.in-Some.place in
    let at : IsInnermost name blocks place.block place.name = subst (λ bs. IsInnermost name bs place.block place.name) (sym c.self.view_is) c.in-Some.ensures in
    let names : c.index_mut.result.now ≡ get_or blocks place.block [] = get_or_read blocks place.block _ at.inside c.index_mut.ensures.value [] in
    ap (λ ns. env_of (set blocks place.block ns)) (c.write.ensures ∙ ap (λ ns. put ns place.name (Value c.args.value)) names)
    ∙ sym (innermost_rebound name blocks place.block place.name c.args.value at)
    ∙ ap (λ bs. rebound name (tree_of c.args.value) (env_of bs)) c.self.view_is

pub returns-in_default : goal.returns-in_default
returns-in_default c = sym (unbound_rebound c.args.name.now (tree_of c.args.value) (env_of c.args.self.now) (c.in_default.ensures))
