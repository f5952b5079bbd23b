use Rattle.std.proofs.Common.{◌∙◌, ap, refl, sym, subst}
use Rattle.lane.specs.Lanes.{Both}
use Rattle.timeline.specs.declared.entry.Entry.{Entry}
use Rattle.timeline.specs.declared.event.Event.{Event}
use Rattle.timeline.specs.declared.message.Message.{Message}
use Rattle.timeline.specs.declared.notice.Notice.{Notice}
use Rattle.object_core.specs.declared.object.Core.{Core}
use Rattle.host_workers.proofs.Closing.{IsClosed, are_joined, closed_as}
use Rattle.host_workers.proofs.joining.join.Goals as goal

pub returns-in-Ok-Ok-Ok-Ok-clause-joined : goal.returns-in-Ok-Ok-Ok-Ok-clause-joined
returns-in-Ok-Ok-Ok-Ok-clause-joined g c =
    let at = c.in-Ok-Ok-Ok-Ok in
    let j = c.join.ensures in
    let f = c.into_parts-front.ensures in
    let b = c.into_parts-back.ensures in
    are_joined g.D.Disk.moment_of g.D.Disk.left_since g.D.Disk.told g.D.Disk.image g.D.Disk.faults_of c.args.front c.args.back c.args.posts.sent c.args.messages.got
    c.join.result c.halves_meet.ensures c.cells_are_apart.ensures (record {
      front_is = j.halves.0 ∙ f.half;
      back_is = j.halves.1 ∙ b.half;
      inbox = subst (λ (q : Both Event). IsClosed c.args.posts.sent c.args.front.inbox.got q) (sym j.lanes.0)
          (closed_as c.args.posts.sent c.args.posts.sent c.args.front.inbox.got c.into_parts-front.result.1.got at.inbox refl (ap (λ x. x.got) f.ends.0)
          (rw at.is-0 at c.close-inbox.ensures.got) (rw at.is-0 at c.close-inbox.ensures.rest));
      line = subst (λ (q : Both Entry). IsClosed c.args.front.line.sent c.args.back.line.got q) (sym j.lanes.1)
          (closed_as c.args.front.line.sent c.into_parts-front.result.3.sent c.args.back.line.got c.into_parts-back.result.1.got at.line
          (ap (λ x. x.sent) f.ends.2) (ap (λ x. x.got) b.ends.0) (rw at.is-1 at c.close-line.ensures.got) (rw at.is-1 at c.close-line.ensures.rest));
      notices = subst (λ (q : Both Notice). IsClosed c.args.back.notices.sent c.args.front.notices.got q) (sym j.lanes.2)
          (closed_as c.args.back.notices.sent c.into_parts-back.result.2.sent c.args.front.notices.got c.into_parts-front.result.2.got at.notices
          (ap (λ x. x.sent) b.ends.1) (ap (λ x. x.got) f.ends.1) (rw at.is-2 at c.close-notices.ensures.got) (rw at.is-2 at c.close-notices.ensures.rest));
      out = subst (λ (q : Both Message). IsClosed c.args.back.out.sent c.args.messages.got q) (sym j.lanes.3)
          (closed_as c.args.back.out.sent c.into_parts-back.result.3.sent c.args.messages.got c.args.messages.got at.out
          (ap (λ x. x.sent) b.ends.2) refl (rw at.is-3 at c.close-out.ensures.got) (rw at.is-3 at c.close-out.ensures.rest));
    })

pub returns-in_default-clause-apart : goal.returns-in_default-clause-apart
returns-in_default-clause-apart g c =
    let f = c.into_parts-front.ensures in
    let b = c.into_parts-back.ensures in
    let inbox = c.close-inbox.ensures.taken in
    let line = c.close-line.ensures.taken in
    let notices = c.close-notices.ensures.taken in
    let out = c.close-out.ensures.taken in
    let core : Core g.row.D.Denot = record {
      front = c.into_parts-front.result.0;
      back = c.into_parts-back.result.0;
      inbox = record { got = c.into_parts-front.result.1.got; waiting = inbox.0 };
      line = record { got = c.into_parts-back.result.1.got; waiting = line.0 };
      notices = record { got = c.into_parts-front.result.2.got; waiting = notices.0 };
      out = record { got = c.args.messages.got; waiting = out.0 };
    } in (
      core,
      refl,
      refl,
      are_joined g.D.Disk.moment_of g.D.Disk.left_since g.D.Disk.told g.D.Disk.image g.D.Disk.faults_of c.args.front c.args.back c.args.posts.sent c.args.messages.got
          core c.halves_meet.ensures c.cells_are_apart.ensures (record {
            front_is = f.half;
            back_is = b.half;
            inbox = closed_as c.args.posts.sent c.args.posts.sent c.args.front.inbox.got c.into_parts-front.result.1.got core.inbox refl (ap (λ x. x.got) f.ends.0) refl inbox.1;
            line = closed_as c.args.front.line.sent c.into_parts-front.result.3.sent c.args.back.line.got c.into_parts-back.result.1.got core.line
                (ap (λ x. x.sent) f.ends.2) (ap (λ x. x.got) b.ends.0) refl line.1;
            notices = closed_as c.args.back.notices.sent c.into_parts-back.result.2.sent c.args.front.notices.got c.into_parts-front.result.2.got core.notices
                (ap (λ x. x.sent) b.ends.1) (ap (λ x. x.got) f.ends.1) refl notices.1;
            out = closed_as c.args.back.out.sent c.into_parts-back.result.3.sent c.args.messages.got c.args.messages.got core.out
                (ap (λ x. x.sent) b.ends.2) refl refl out.1;
          }),
    )
