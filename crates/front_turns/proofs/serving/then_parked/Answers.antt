use Rattle.front_turns.proofs.serving.then_parked.Goals as goal

pub returns-in_ok-state-in-Starts : goal.returns-in_ok-state-in-Starts
returns-in_ok-state-in-Starts g c = λ old step says. rw c.in-Starts.is (c.in_ok-state-in-Starts.ensures old step says)

pub returns-in-Handles : goal.returns-in-Handles
returns-in-Handles g c = λ old step says. rw c.in-Handles.is says

pub returns-in-Serves : goal.returns-in-Serves
returns-in-Serves g c = λ old step says. rw c.in-Serves.is says
