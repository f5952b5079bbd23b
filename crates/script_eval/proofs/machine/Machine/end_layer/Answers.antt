use Rattle.std.proofs.Common.{◌≡◌, ◌∷◌, refl, ap, ◌∙◌}
use Rattle.script_steps.proofs.Begun.{if_ok}
use Rattle.script_eval.proofs.Applied.{none_popped, with_frames}
use Rattle.script_eval.proofs.Led.{over_leads, pop_leads, return_leads}
use Rattle.script_eval.proofs.Stepped.{put_finishes, stops_over}
use Rattle.script_eval.specs.Machines.{leads_of}
use Rattle.script_eval.specs.declared.machine.Stop.TheVariants as stop
use Rattle.script_steps.specs.declared.focus.Focus.TheVariants as focus
use Rattle.script_eval.proofs.machine.Machine.end_layer.Goals as goal
use Rattle.script_eval.specs.declared.frames.Layer.TheVariants as layer

pub returns-in_ok-m-in-Some-Inner : goal.returns-in_ok-m-in-Some-Inner
returns-in_ok-m-in-Some-Inner c =
    let frames : c.args.self.now.frames ≡ layer.Inner c.in-Some-Inner.frame ∷ c.pop.new.self = c.in-Some-Inner.ensures ∙ ap (λ l. l ∷ c.pop.new.self) c.in-Some-Inner.field-0-is in
    if_ok c.apply_move.result
    (λ p led. pop_leads c.args.self.now (with_frames c.args.self.now c.pop.new.self) c.apply_move.new.self c.in-Some-Inner.frame c.args.outcome c.in_ok-m-in-Some-Inner.m
    (leads_of p c.apply_move.new.focus) frames refl c.in_ok-m-in-Some-Inner.ensures.moves c.in_ok-m-in-Some-Inner.ensures.less led)
    c.apply_move.ensures

pub returns-in-Some-Caller : goal.returns-in-Some-Caller
returns-in-Some-Caller c =
    let frames : c.args.self.now.frames ≡ layer.Caller c.in-Some-Caller.awaited c.in-Some-Caller.vars ∷ c.pop.new.self =
    c.in-Some-Caller.ensures ∙ ap (λ l. l ∷ c.pop.new.self) c.in-Some-Caller.field-0-is in
    put_finishes c.args.outcome c.args.self.now _ (focus.Return c.in-Some-Caller.awaited c.in-Some-Caller.vars c.args.outcome) c.put_next.new.focus c.put_next.ensures
    (return_leads c.args.self.now _ c.in-Some-Caller.awaited c.in-Some-Caller.vars c.pop.new.self c.args.outcome c.requires frames refl)

pub returns-in-None : goal.returns-in-None
returns-in-None c =
    stops_over c.args.outcome c.args.self.now _ (stop.Over c.args.outcome) c.stop_at.result _ c.stop_at.ensures
    (over_leads c.args.self.now _ c.args.outcome c.requires c.in-None.ensures.0 (none_popped c.args.self.now c.pop.new.self c.in-None.ensures.0 c.in-None.ensures.1))
