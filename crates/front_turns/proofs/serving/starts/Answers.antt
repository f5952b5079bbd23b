use Rattle.front_turns.proofs.Turning.{all_turns}
use Rattle.front_turns.proofs.serving.starts.Goals as goal

pub runs-requires-clause-runs : goal.runs-requires-clause-runs
runs-requires-clause-runs g c = (c.requires.held.0, _, c.requires.held.1, c.in_ok-outcome.ensures c.args.incarnation c.requires.held.0)

pub returns : goal.returns
returns g c = λ ts held. all_turns g.T.Task.seen _ _ _ _ _ _ (c.in_ok-state.ensures ts _ held (c.in_ok-outcome.ensures c.args.incarnation ts))
