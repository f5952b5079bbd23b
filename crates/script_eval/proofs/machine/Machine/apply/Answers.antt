use Rattle.do_tree.specs.Seen.{class_of}
use Rattle.script_eval.proofs.Stepped.{applies_as, applies_at}
use Rattle.script_eval.proofs.machine.Machine.apply.Goals as goal

pub returns-in-Moves : goal.returns-in-Moves
returns-in-Moves c = applies_at (class_of c.args.class.now) c.args.a _ c.args.self.now c.apply_move.new.self c.apply_move.result c.apply_move.new.focus c.in-Moves.is c.apply_move.ensures

pub returns-in-Enters : goal.returns-in-Enters
returns-in-Enters c = applies_at (class_of c.args.class.now) c.args.a _ c.args.self.now c.enter_block.new.self c.enter_block.result c.enter_block.new.focus c.in-Enters.is c.enter_block.ensures

pub returns-in-Does : goal.returns-in-Does
returns-in-Does c = applies_at (class_of c.args.class.now) c.args.a _ c.args.self.now c.finish.new.self c.finish.result c.finish.new.focus c.in-Does.is c.finish.ensures

pub returns-in-Helps : goal.returns-in-Helps
returns-in-Helps c = applies_as (class_of c.args.class.now) c.args.a _ c.args.self.now c.call_helper.new.self c.call_helper.result c.call_helper.new.focus c.in-Helps.is c.call_helper.ensures
