use Rattle.script_eval.proofs.Stepped.{finish_asks, finish_ended, finish_exceeded, finish_reset}
use Rattle.script_eval.proofs.machine.Machine.finish.Goals as goal

pub returns-in-Ended : goal.returns-in-Ended
returns-in-Ended c = finish_ended c.args.self.now c.end_part.new.self c.args.d c.in-Ended.outcome c.end_part.result c.end_part.new.focus c.in-Ended.is c.end_part.ensures

pub returns-in-Asks : goal.returns-in-Asks
returns-in-Asks c = finish_asks c.args.self.now c.args.d c.in-Asks.ask c.in-Asks.wait c.stop_at.result c.args.focus.now c.requires c.in-Asks.is c.stop_at.ensures

pub returns-in-Exceeded : goal.returns-in-Exceeded
returns-in-Exceeded c = finish_exceeded c.args.self.now c.args.d c.stop_at-in-Exceeded.result c.args.focus.now c.requires c.in-Exceeded.is c.stop_at-in-Exceeded.ensures

pub returns-in-Reset : goal.returns-in-Reset
returns-in-Reset c = finish_reset c.args.self.now c.args.d c.in-Reset.value c.stop_at-in-Reset.result c.args.focus.now c.requires c.in-Reset.is c.stop_at-in-Reset.ensures
