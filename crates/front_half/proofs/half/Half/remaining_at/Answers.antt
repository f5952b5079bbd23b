use Rattle.std.proofs.Common.{ℕ, map, drop, subst}
use Rattle.timeline.specs.declared.entry.Entry.{Entry}
use Rattle.timeline.specs.declared.event.Event.{Event}
use Rattle.front_half.specs.Standing.{IsMode}
use Rattle.front_half.proofs.Left.{if_ok_map, left_serving, left_down}
use Rattle.front_half.proofs.half.Half.remaining_at.Goals as goal

pub returns-in-Serves : goal.returns-in-Serves
returns-in-Serves g c = if_ok_map c.remaining_in.result (λ left all l m same is free.
    left_serving g.T.Task.seen l c.in-Serves.state m c.args.self.now.incarnation (map (λ (d : ℕ × Event). d.1) (drop c.args.self.now.first_delivered c.args.self.now.log.delivered.items))
    (map (λ (e : Entry). e.body) (drop c.args.self.now.first_sent c.args.self.now.log.sent.items)) c.args.deferred.now left.items all same (subst (λ x. IsMode g.T.Task.seen l x m) c.in-Serves.is is) free) c.remaining_in.ensures

pub returns-in-Down : goal.returns-in-Down
returns-in-Down g c = if_ok_map c.find_left_of_none.result (λ left all l m same is free.
    left_down g.T.Task.seen l _ m c.args.self.now.incarnation (map (λ (d : ℕ × Event). d.1) (drop c.args.self.now.first_delivered c.args.self.now.log.delivered.items))
    (map (λ (e : Entry). e.body) (drop c.args.self.now.first_sent c.args.self.now.log.sent.items)) c.args.deferred.now left.items all same (subst (λ x. IsMode g.T.Task.seen l x m) c.in-Down.is is)) c.find_left_of_none.ensures
