use Rattle.std.proofs.Common.{Option, is_some, sym, ap, ◌∙◌}
use Rattle.timeline.specs.Lines.{Identity}
use Rattle.timeline.specs.Switch as switch
use Rattle.timeline.specs.Switch.{Switch}
use Rattle.mailbox.specs.States.{switch_of}
use Rattle.mailbox.proofs.Placing.{object_is, seen_some}
use Rattle.mailbox.proofs.state.State.has_object.Goals as goal

pub returns : goal.returns
returns c =
    let i = c.self.inside in
    c.is_some.ensures
    ∙ sym (seen_some c.at.result)
    ∙ ap (λ (o : Option Identity). is_some o)
    (c.at.ensures ∙ object_is (switch_of i.directory i.fetches i.tick) c.args.slot ∙ ap (λ (w : Switch). switch.object_at w c.args.slot) c.self.view_is)
