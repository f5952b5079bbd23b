use Rattle.std.proofs.Common.{◌∙◌, ap, ℕ, map, drop, []}
use Rattle.timeline.specs.Left as definitions
use Rattle.timeline.specs.Object.{Object}
use Rattle.timeline.specs.declared.entry.Entry.{Entry}
use Rattle.timeline.specs.declared.event.Event.{Event}
use Rattle.front_half.proofs.Left.{if_ok_map}
use Rattle.front_half.proofs.half.Half.find_left_of_none.Goals as goal

pub returns : goal.returns
returns g c = if_ok_map c.find_left_of-left.result (λ left all l same. all l [] same (c.begin-object.ensures.holds l)
    ∙ ap (λ (o : Object). definitions.left l o (map (λ (d : ℕ × Event). d.1) (drop c.args.self.now.first_delivered c.args.self.now.log.delivered.items))
    (map (λ (e : Entry). e.body) (drop c.args.self.now.first_sent c.args.self.now.log.sent.items)) c.args.deferred.now) c.begin-object.ensures.object)
    c.find_left_of-left.ensures
