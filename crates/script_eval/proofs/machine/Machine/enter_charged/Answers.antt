use Rattle.std.proofs.Common.{sym, ap, ◌∙◌, [], refl}
use Rattle.script_state.specs.declared.done.Done.TheVariants as done
use Rattle.script_steps.proofs.Begun.{if_ok}
use Rattle.do_tree.specs.Nodes.{block_in}
use Rattle.script_mean.specs.Meaning.{body}
use Rattle.script_mean.specs.Turn.{within}
use Rattle.script_steps.specs.Seen.{charged}
use Rattle.script_steps.specs.declared.focus.Focus.TheVariants as focus
use Rattle.script_eval.proofs.AtOnce.{charged_ends, charged_steps}
use Rattle.script_eval.proofs.Stepped.{changes_at}
use Rattle.script_eval.specs.Machines.{leads_of}
use Rattle.script_eval.specs.declared.act.Act.TheVariants as act
use Rattle.script_eval.proofs.machine.Machine.enter_charged.Goals as goal

pub returns-then-not-charge : goal.returns-then-not-charge
returns-then-not-charge c =
    let old = c.args.self.now in
    let now = c.charge.new.self in
    if_ok c.finish.result
    (λ p led f charges. changes_at f (act.Does done.Exceeded) old (record old { state = now }) c.finish.new.self now (leads_of p c.finish.new.focus) refl
    (charged_ends f (focus.Block c.args.block.now) old.state now charges (c.if-not-charge.ensures.refused refl).0 (c.if-not-charge.ensures.refused refl).1) led)
    c.finish.ensures

pub returns : goal.returns
returns c =
    let old = c.args.self.now in
    let now = c.charge.new.self in
    if_ok c.enter_names.result
    (λ p led f charges. charged_steps f (focus.Block c.in_ok-block.block) old c.enter_names.new.self now (leads_of p c.enter_names.new.focus)
    (λ calls. charges.0 calls ∙ ap (λ b. charged 1 (within [] (body calls (block_in b)))) (sym c.in_ok-block.ensures), charges.1)
    (c.if-not-charge.ensures.charged refl).0 (c.if-not-charge.ensures.charged refl).1 led)
    c.enter_names.ensures
