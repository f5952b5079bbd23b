use Rattle.std.proofs.Common.{◌≡◌, sym, refl, [], ◌∷◌, ◌++◌, append-nil}
use Rattle.std.proofs.lemmas.Result.{on_ok_weaker, on_err_weaker}
use Rattle.front_half.specs.declared.half.Half.{Half}
use Rattle.front_half.proofs.Entered.{behind, kept_moves}
use Rattle.front_half.proofs.half.Half.defers.Goals as goal

pub returns-clause-moves : goal.returns-clause-moves
returns-clause-moves g c =
    let h : Half g.row.T.Denot = c.args.self.now in
    let new : Half g.row.T.Denot = record h { deferred = c.add.new.self } in
    on_ok_weaker c.add.result
    (λ (p : c.add.new.self ≡ h.deferred ++ c.args.event ∷ []). λ script st half.
    kept_moves g.T.Task.seen script h new st (st.deferred ++ c.args.event ∷ []) st.stuck []
    (record {
      class = refl;
      incarnation = refl;
      count = refl;
      mode = refl;
      first_delivered = refl;
      first_sent = refl;
      delivered = refl;
      sent = refl;
      downed = refl;
      ends = refl;
    }) (behind h.due h.deferred st.deferred c.add.new.self c.args.event half.deferred p) half.stuck (sym (append-nil h.log.dropped.items)) half)
    c.add.ensures.added

pub returns-clause-same : goal.returns-clause-same
returns-clause-same g c =
    let h : Half g.row.T.Denot = c.args.self.now in
    on_err_weaker c.add.result (λ (p : c.add.new.self ≡ h.deferred). refl) c.add.ensures.same
