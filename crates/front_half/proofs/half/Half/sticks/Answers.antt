use Rattle.std.proofs.Common.{sym, refl, [], true, append-nil}
use Rattle.front_half.specs.declared.half.Half.{Half}
use Rattle.front_half.proofs.Entered.{kept_moves}
use Rattle.front_half.proofs.half.Half.sticks.Goals as goal

pub returns-clause-moves : goal.returns-clause-moves
returns-clause-moves g c = λ script st half.
    let h : Half g.row.T.Denot = c.args.self.now in
    kept_moves g.T.Task.seen script h _ st st.deferred true []
    (record {
      class = refl;
      incarnation = refl;
      count = refl;
      mode = refl;
      first_delivered = refl;
      first_sent = refl;
      delivered = refl;
      sent = refl;
      downed = refl;
      ends = refl;
    }) half.deferred refl (sym (append-nil h.log.dropped.items)) half
