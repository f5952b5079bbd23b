use Rattle.std.proofs.Common.{sym, subst, OnOk, OnErr}
use Rattle.std.proofs.lemmas.Result.{on_ok_weaker, on_err_weaker}
use Rattle.do_tree.specs.Checked.{tree_of as script_in}
use Rattle.timeline.specs.declared.notice.Notice.{Notice}
use Rattle.front_half.specs.Noticing.{GoesOn, IsStoppedBy, in_mode}
use Rattle.front_half.specs.declared.half.Mode.TheVariants.{Serves}
use Rattle.front_half.proofs.half.Half.take_serving.Goals as goal

pub returns-in-Read-clause-moves : goal.returns-in-Read-clause-moves
returns-in-Read-clause-moves g c =
    subst (λ (n : Notice). OnOk c.take_stored.result (GoesOn g.T.Task.seen (script_in c.args.checked.now) (in_mode c.args.self.now (Serves c.args.state)) c.take_stored.new.self n))
    (sym c.in-Read.is) c.take_stored.ensures.moves

pub returns-in-Read-clause-stops : goal.returns-in-Read-clause-stops
returns-in-Read-clause-stops g c =
    subst (λ (n : Notice). OnErr c.take_stored.result (IsStoppedBy g.T.Task.seen (script_in c.args.checked.now) (in_mode c.args.self.now (Serves c.args.state)) c.take_stored.new.self n))
    (sym c.in-Read.is) c.take_stored.ensures.stops

pub returns-in-Taken-clause-moves : goal.returns-in-Taken-clause-moves
returns-in-Taken-clause-moves g c =
    subst (λ (n : Notice). OnOk c.take_stored-in-Taken.result (GoesOn g.T.Task.seen (script_in c.args.checked.now) (in_mode c.args.self.now (Serves c.args.state)) c.take_stored-in-Taken.new.self n))
    (sym c.in-Taken.is) c.take_stored-in-Taken.ensures.moves

pub returns-in-Taken-clause-stops : goal.returns-in-Taken-clause-stops
returns-in-Taken-clause-stops g c =
    subst (λ (n : Notice). OnErr c.take_stored-in-Taken.result (IsStoppedBy g.T.Task.seen (script_in c.args.checked.now) (in_mode c.args.self.now (Serves c.args.state)) c.take_stored-in-Taken.new.self n))
    (sym c.in-Taken.is) c.take_stored-in-Taken.ensures.stops

pub returns-in-Synced-clause-moves : goal.returns-in-Synced-clause-moves
returns-in-Synced-clause-moves g c =
    subst (λ (n : Notice). OnOk c.take_stored-in-Synced.result (GoesOn g.T.Task.seen (script_in c.args.checked.now) (in_mode c.args.self.now (Serves c.args.state)) c.take_stored-in-Synced.new.self n))
    (sym c.in-Synced.is) c.take_stored-in-Synced.ensures.moves

pub returns-in-Synced-clause-stops : goal.returns-in-Synced-clause-stops
returns-in-Synced-clause-stops g c =
    subst (λ (n : Notice). OnErr c.take_stored-in-Synced.result (IsStoppedBy g.T.Task.seen (script_in c.args.checked.now) (in_mode c.args.self.now (Serves c.args.state)) c.take_stored-in-Synced.new.self n))
    (sym c.in-Synced.is) c.take_stored-in-Synced.ensures.stops

pub returns-in-Fresh-clause-moves : goal.returns-in-Fresh-clause-moves
returns-in-Fresh-clause-moves g c =
    subst (λ (n : Notice). OnOk c.end_mounted.result (GoesOn g.T.Task.seen (script_in c.args.checked.now) (in_mode c.args.self.now (Serves c.args.state)) c.end_mounted.new.self n))
    (sym c.in-Fresh.is) (on_ok_weaker c.end_mounted.result (λ all. all (script_in c.args.checked.now) c.args.state _) c.end_mounted.ensures.moves)

pub returns-in-Fresh-clause-stops : goal.returns-in-Fresh-clause-stops
returns-in-Fresh-clause-stops g c =
    subst (λ (n : Notice). OnErr c.end_mounted.result (IsStoppedBy g.T.Task.seen (script_in c.args.checked.now) (in_mode c.args.self.now (Serves c.args.state)) c.end_mounted.new.self n))
    (sym c.in-Fresh.is) (on_err_weaker c.end_mounted.result (λ all. all (script_in c.args.checked.now) c.args.state _) c.end_mounted.ensures.stops)

pub returns-in-Down-clause-moves : goal.returns-in-Down-clause-moves
returns-in-Down-clause-moves g c =
    subst (λ (n : Notice). OnOk c.end_down.result (GoesOn g.T.Task.seen (script_in c.args.checked.now) (in_mode c.args.self.now (Serves c.args.state)) c.end_down.new.self n))
    (sym c.in-Down.is) (on_ok_weaker c.end_down.result (λ all. all (script_in c.args.checked.now) c.args.state _ _) c.end_down.ensures.moves)

pub returns-in-Down-clause-stops : goal.returns-in-Down-clause-stops
returns-in-Down-clause-stops g c =
    subst (λ (n : Notice). OnErr c.end_down.result (IsStoppedBy g.T.Task.seen (script_in c.args.checked.now) (in_mode c.args.self.now (Serves c.args.state)) c.end_down.new.self n))
    (sym c.in-Down.is) (on_err_weaker c.end_down.result (λ all. all (script_in c.args.checked.now) c.args.state _ _) c.end_down.ensures.stops)
