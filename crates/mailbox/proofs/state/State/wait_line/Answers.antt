use Rattle.std.proofs.Common.{sym, ap, ◌∙◌}
use Rattle.object_calls.specs.Fetched.{Asker}
use Rattle.timeline.specs.Finish as finish
use Rattle.timeline.specs.Switch.{Switch}
use Rattle.timeline.specs.declared.notice.Waits.{Waits}
use Rattle.timeline.specs.declared.notice.Waits.TheVariants.{Fetch}
use Rattle.mailbox.proofs.Askers.{none_open, first_open}
use Rattle.mailbox.proofs.state.State.wait_line.Goals as goal

pub returns-in-Some : goal.returns-in-Some
returns-in-Some c =
    let a : Asker = (c.args.slot, c.in-Fetch.incarnation, c.in-Fetch.number) in
    sym
    (ap (λ (wait : Waits). finish.wait_line c.args.self.now c.args.slot wait) c.in-Fetch.is
    ∙ ap (λ (w : Switch). finish.wait_line w c.args.slot (Fetch c.in-Fetch.incarnation c.in-Fetch.number)) (sym c.self.view_is)
    ∙ ap finish.fetch_line (first_open a c.in-Some.k c.self.inside.fetches.waiting c.self.invariant.ascending c.in-Some.ensures.found c.in-Some.ensures.least))

pub returns-in-None : goal.returns-in-None
returns-in-None c =
    let a : Asker = (c.args.slot, c.in-Fetch.incarnation, c.in-Fetch.number) in
    sym
    (ap (λ (wait : Waits). finish.wait_line c.args.self.now c.args.slot wait) c.in-Fetch.is
    ∙ ap (λ (w : Switch). finish.wait_line w c.args.slot (Fetch c.in-Fetch.incarnation c.in-Fetch.number)) (sym c.self.view_is)
    ∙ ap finish.fetch_line (none_open a c.self.inside.fetches.waiting c.self.invariant.ascending c.in-None.ensures.found))
