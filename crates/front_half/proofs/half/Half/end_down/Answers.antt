use Rattle.std.proofs.Common.{◌∙◌, ap}
use Rattle.front_half.specs.Standing.{is_stopped_mode}
use Rattle.front_half.proofs.Endings.{down_moves, down_stops}
use Rattle.front_half.proofs.half.Half.end_down.Goals as goal

pub returns-in_default-clause-stops : goal.returns-in_default-clause-stops
returns-in_default-clause-stops g c = λ script s before after. down_stops g.T.Task.seen script c.args.self.now s c.args.cause before after c.end.new.self
    (ap is_stopped_mode c.end.ensures.mode ∙ c.requires.stopped) c.in_default.ensures.first

pub returns-clause-moves : goal.returns-clause-moves
returns-clause-moves g c = λ script s before after. down_moves g.T.Task.seen script c.args.self.now s c.args.cause before after c.end.new.self c.in-Ok.ensures.ends
