use Rattle.std.proofs.Common.{ℕ, map, drop, subst}
use Rattle.timeline.specs.declared.entry.Entry.{Entry}
use Rattle.timeline.specs.declared.event.Event.{Event}
use Rattle.front_turns.specs.Held.{IsState}
use Rattle.front_half.proofs.Left.{if_ok_map, left_idle}
use Rattle.front_half.proofs.half.Half.remaining_in.Goals as goal

pub returns-in-Idle : goal.returns-in-Idle
returns-in-Idle g c = if_ok_map c.find_left_of.result (λ left all l st same is free.
    left_idle g.T.Task.seen l c.in-Idle.object st c.args.self.now.incarnation (map (λ (d : ℕ × Event). d.1) (drop c.args.self.now.first_delivered c.args.self.now.log.delivered.items))
    (map (λ (e : Entry). e.body) (drop c.args.self.now.first_sent c.args.self.now.log.sent.items)) c.args.deferred.now left.items all same (subst (λ s. IsState g.T.Task.seen l s st) c.in-Idle.is is)) c.find_left_of.ensures
