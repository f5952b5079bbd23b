use Rattle.front_turns.proofs.turns.+runs.Given as goal

abbrev pub decreases-runs : goal.decreases-runs
decreases-runs g l = l.left
