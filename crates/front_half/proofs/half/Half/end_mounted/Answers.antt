use Rattle.std.proofs.Common.{◌∙◌, ap}
use Rattle.front_half.specs.Standing.{is_stopped_mode}
use Rattle.front_half.proofs.Endings.{fresh_moves, fresh_stops}
use Rattle.front_half.proofs.half.Half.end_mounted.Goals as goal

pub returns-in_default-clause-stops : goal.returns-in_default-clause-stops
returns-in_default-clause-stops g c = λ script s i. fresh_stops g.T.Task.seen script c.args.self.now s c.args.cause i c.args.alarm c.end.new.self
    (ap is_stopped_mode c.end.ensures.mode ∙ c.requires.stopped) c.in_default.ensures.first

pub returns-clause-moves : goal.returns-clause-moves
returns-clause-moves g c = λ script s i. fresh_moves g.T.Task.seen script c.args.self.now s c.args.cause i c.args.alarm c.end.new.self c.begin.result
    c.in-Ok.ensures.ends c.begin.ensures.object c.begin.ensures.holds
