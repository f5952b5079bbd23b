use Rattle.std.proofs.Common.{subst, sym}
use Rattle.std.specs.Prelude.{ℕ}
use Rattle.do_tree.specs.Checked.{tree_of as script_in}
use Rattle.front_turns.specs.Paused.{HasClass}
use Rattle.front_turns.proofs.Turning.{all_turns}
use Rattle.front_turns.proofs.serving.answered.Goals as goal

pub go_on-requires : goal.go_on-requires
go_on-requires g c = subst (λ (n : ℕ). HasClass (script_in c.args.checked.now) n) (sym c.requires.held.3.class) c.requires.class

pub runs-requires-clause-runs : goal.runs-requires-clause-runs
runs-requires-clause-runs g c =
    let h = c.requires.held in
    (h.0, _, h.2, c.in_ok-outcome.ensures c.args.class c.args.incarnation h.0 h.1 c.args.running h.3)

pub returns : goal.returns
returns g c = λ ts t held paused. all_turns g.T.Task.seen _ _ _ _ _ _
    (c.in_ok-state.ensures ts _ held (c.in_ok-outcome.ensures c.args.class c.args.incarnation ts t c.args.running paused))
