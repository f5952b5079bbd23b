use Rattle.std.proofs.Common.{◌∙◌, refl, ap, subst, ◌+◌, List, ◌++◌, length, inl}
use Rattle.timeline.specs.Headline.{IsPrefix}
use Rattle.timeline.specs.Intake.{numbered}
use Rattle.timeline.specs.declared.entry.Body.{Body}
use Rattle.front_half.specs.declared.half.Half.{Half}
use Rattle.front_half.proofs.Entered.{wants_cut, wants_moves}
use Rattle.front_half.proofs.half.Half.wants.Goals as goal

pub returns-in-Err-clause-cut : goal.returns-in-Err-clause-cut
returns-in-Err-clause-cut g c = λ script st half free is. inl refl

pub returns-in-Err-clause-too : goal.returns-in-Err-clause-too
returns-in-Err-clause-too g c = λ first base at. at

pub returns-in-Ok-send_all-clause-moves : goal.returns-in-Ok-send_all-clause-moves
returns-in-Ok-send_all-clause-moves g c = λ script st half free is.
    let h : Half g.row.T.Denot = c.args.self.now in
    wants_moves g.T.Task.seen script h _ st c.args.event half free is
    (record {
      class = refl;
      incarnation = refl;
      due = refl;
      deferred = refl;
      stuck = refl;
      first_delivered = refl;
      first_sent = refl;
      delivered = refl;
      dropped = refl;
      downed = refl;
      ends = refl;
    }) refl
    (c.in-Ok-send_all.ensures.count ∙ ap (λ (bs : List Body). h.count + length bs) c.in-Ok.ensures)
    (c.in-Ok-send_all.ensures.sent ∙ ap (λ (bs : List Body). h.log.sent.items ++ numbered h.incarnation (1 + h.count) bs) c.in-Ok.ensures)

pub returns-in-Err-send_all-clause-cut : goal.returns-in-Err-send_all-clause-cut
returns-in-Err-send_all-clause-cut g c = λ script st half free is.
    let h : Half g.row.T.Denot = c.args.self.now in
    let new : Half g.row.T.Denot = record h { log = record h.log { sent = c.send_all.new.sent } } in
    wants_cut g.T.Task.seen script h new st c.args.event half free is
    (record {
      class = refl;
      incarnation = refl;
      due = refl;
      deferred = refl;
      stuck = refl;
      first_delivered = refl;
      first_sent = refl;
      delivered = refl;
      dropped = refl;
      downed = refl;
      ends = refl;
    })
    (subst (λ (bs : List Body). IsPrefix c.send_all.new.sent.items (h.log.sent.items ++ numbered h.incarnation (1 + h.count) bs)) c.in-Ok.ensures
    c.in-Err-send_all.ensures.prefix)
