use Rattle.alarm_core.specs.AlarmRule.{after_failure}
use Rattle.front_turns.proofs.Values.{value_back}
use Rattle.front_turns.proofs.Ending.{handled_so}
use Rattle.front_turns.proofs.ends.on_thrown.Goals as goal

pub returns-in-Starts : goal.returns-in-Starts
returns-in-Starts g c = λ l ts held. rw c.in-Starts.is (c.rests.ensures l ts _ held)

pub returns-in-Handles : goal.returns-in-Handles
returns-in-Handles g c = rw (c.in-Handles.is) (handled_so g.T.Task.seen _ _ _ c.args.object _ (after_failure c.in-Handles.alarm.1 c.args.object.touched c.args.object.clock)
    (λ l ts held. c.after_throw-op.ensures.written held.clock) c.handled.ensures)

pub returns-in-Serves : goal.returns-in-Serves
returns-in-Serves g c = rw (c.in-Serves.is, value_back c.args.value) c.replies.ensures
