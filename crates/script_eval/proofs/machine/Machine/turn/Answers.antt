use Rattle.std.proofs.Common.{refl}
use Rattle.do_tree.specs.Seen.{class_of}
use Rattle.script_eval.proofs.Turned.{turn_deep, turn_less, turn_on, turn_to}
use Rattle.script_eval.proofs.machine.Machine.turn.Goals as goal

pub steps-preserved : goal.steps-preserved
steps-preserved c = record {
  deep = turn_deep (class_of c.args.class.now) c.steps.focus c.advance.new.focus c.steps.self c.advance.new.self c.in_ok-advance.field-0 c.in_ok-advance.ensures;
  same = turn_on (class_of c.args.class.now) c.args.focus.now c.steps.focus c.steps.focus c.advance.new.focus c.args.self.now c.steps.self c.advance.new.self c.in_ok-advance.field-0
      refl c.in-GoesOn.is c.in_ok-advance.ensures c.steps.invariant.same;
}

pub steps-smaller : goal.steps-smaller
steps-smaller c =
    turn_less (class_of c.args.class.now) c.steps.focus c.steps.focus c.advance.new.focus c.steps.self c.advance.new.self c.in_ok-advance.field-0
    refl c.in-GoesOn.is c.in_ok-advance.ensures

pub returns-in-Stops : goal.returns-in-Stops
returns-in-Stops c =
    turn_to (class_of c.args.class.now) c.args.focus.now c.steps.focus c.steps.focus c.advance.new.focus c.args.self.now c.steps.self c.advance.new.self c.in_ok-advance.field-0
    c.in-Stops.stop c.into_inner.result refl c.in-Stops.is c.into_inner.ensures c.in_ok-advance.ensures c.steps.invariant.same
