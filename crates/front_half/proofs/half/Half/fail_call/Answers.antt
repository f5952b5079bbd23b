use Rattle.std.proofs.Common.{◌∙◌, refl, ap, subst, ℕ, ◌+◌, List, ◌++◌, length}
use Rattle.timeline.specs.Headline.{IsPrefix}
use Rattle.timeline.specs.Intake.{numbered}
use Rattle.timeline.specs.Logs.{fronted}
use Rattle.timeline.specs.declared.entry.Body.{Body}
use Rattle.timeline.specs.declared.event.Event.{Event}
use Rattle.front_half.proofs.Unmounting.{failure_moves, failure_stops, failure_stops_before}
use Rattle.front_half.proofs.half.Half.fail_call.Goals as goal

pub returns-in_default-clause-stops : goal.returns-in_default-clause-stops
returns-in_default-clause-stops g c = λ script k. failure_stops_before g.T.Task.seen script c.args.self.now c.args.call c.args.before c.args.after _ c.requires.stopped refl k

pub returns-in_default-log_downed-clause-stops : goal.returns-in_default-log_downed-clause-stops
returns-in_default-log_downed-clause-stops g c = λ script k. failure_stops_before g.T.Task.seen script c.args.self.now c.args.call c.args.before c.args.after _ c.requires.stopped
    (ap (λ (calls : List (ℕ × Event)). record (fronted c.args.self.now.log) { downed = calls }) c.in_default-log_downed.ensures.same) k

pub returns-in_default-send_all-clause-stops : goal.returns-in_default-send_all-clause-stops
returns-in_default-send_all-clause-stops g c = λ script k.
    failure_stops g.T.Task.seen script c.args.self.now c.args.call c.args.before c.args.after c.send_all.new.sent c.log_downed.new.downed c.requires.stopped
    (subst (λ (bs : List Body). IsPrefix c.send_all.new.sent.items (c.args.self.now.log.sent.items ++ numbered c.args.self.now.incarnation (1 + c.args.self.now.count) bs))
    c.in-Ok.ensures c.in_default-send_all.ensures.prefix)
    c.in-Ok-log_downed.ensures.logged k

pub returns-clause-moves : goal.returns-clause-moves
returns-clause-moves g c = λ script k.
    failure_moves g.T.Task.seen script c.args.self.now c.args.call c.args.before c.args.after c.send_all.new.sent c.log_downed.new.downed c.in-Ok-send_all.count
    (c.in-Ok-send_all.ensures.sent ∙ ap (λ (bs : List Body). c.args.self.now.log.sent.items ++ numbered c.args.self.now.incarnation (1 + c.args.self.now.count) bs) c.in-Ok.ensures)
    c.in-Ok-log_downed.ensures.logged
    (c.in-Ok-send_all.ensures.count ∙ ap (λ (bs : List Body). c.args.self.now.count + length bs) c.in-Ok.ensures) k
