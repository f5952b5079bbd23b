use Rattle.std.proofs.Common.{sym, subst}
use Rattle.script_eval.specs.Tasks.{Gives}
use Rattle.script_eval.specs.declared.machine.Stop.TheVariants as stop
use Rattle.script_eval.proofs.Stopped.{broke_over, continued_over, gave_over, returned_over, threw_over}
use Rattle.script_eval.proofs.giving.over.Goals as goal

pub returns-in-Returned : goal.returns-in-Returned
returns-in-Returned c = returned_over c.args.class c.args.starts c.args.ended c.in-Returned.value c.args.machine c.cut.new.self c.in-Returned.is c.in_ok-cut.ensures

pub returns-in-Threw : goal.returns-in-Threw
returns-in-Threw c = threw_over c.args.class c.args.starts c.args.ended c.in-Threw.value c.args.machine c.cut.new.self c.in-Threw.is c.in_ok-cut.ensures

pub returns-in-Gave : goal.returns-in-Gave
returns-in-Gave c = subst (Gives c.args.class c.args.starts (stop.Over c.args.ended) c.args.machine) (sym c.done.ensures) (gave_over c.args.class c.args.starts c.args.ended c.in-Gave.field-0 c.args.machine c.cut.new.self c.in-Gave.is c.in_ok-cut.ensures)

pub returns-in-Broke : goal.returns-in-Broke
returns-in-Broke c = subst (Gives c.args.class c.args.starts (stop.Over c.args.ended) c.args.machine) (sym c.done-in-Broke.ensures) (broke_over c.args.class c.args.starts c.args.ended c.args.machine c.cut.new.self c.in-Broke.is c.in_ok-cut.ensures)

pub returns : goal.returns
returns c = subst (Gives c.args.class c.args.starts (stop.Over c.args.ended) c.args.machine) (sym c.done-in-Continued.ensures) (continued_over c.args.class c.args.starts c.args.ended c.args.machine c.cut.new.self c.in-Continued.is c.in_ok-cut.ensures)
