use Rattle.front_turns.proofs.ends.on_reset.Goals as goal

pub returns-in-Starts : goal.returns-in-Starts
returns-in-Starts g c = rw c.in-Starts.is c.halts.ensures

pub returns-in-Handles : goal.returns-in-Handles
returns-in-Handles g c = rw c.in-Handles.is c.halts-in-Handles.ensures

pub returns-in-Serves : goal.returns-in-Serves
returns-in-Serves g c = rw c.in-Serves.is c.halts-in-Serves.ensures
