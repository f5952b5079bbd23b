use Rattle.front_turns.proofs.Saying.{then_says}
use Rattle.front_turns.proofs.ends.on_exceeded.Goals as goal

pub returns-in-Starts : goal.returns-in-Starts
returns-in-Starts g c = rw c.in-Starts.is c.halts.ensures

pub returns-in_ok-say-in-Serves : goal.returns-in_ok-say-in-Serves
returns-in_ok-say-in-Serves g c = rw c.in-Serves.is (then_says _ _ _ _ _ _ c.in_ok-say-in-Serves.ensures _ c.halts-in-Serves.ensures)

pub returns-in-Handles : goal.returns-in-Handles
returns-in-Handles g c = rw c.in-Handles.is c.halts-in-Handles.ensures
