use Rattle.std.proofs.Common.{sym, ◌∙◌}
use Rattle.script_asks.specs.Requests.{completed_of}
use Rattle.script_calls.proofs.Written.{busy_asks, idle_gives}
use Rattle.script_calls.proofs.storage.complete.Goals as goal

pub returns-then-is_idle-clause-same : goal.returns-then-is_idle-clause-same
returns-then-is_idle-clause-same c = idle_gives c.args.tail (completed_of c.args.gives) c.args.state.now _ (sym c.is_idle.ensures ∙ c.if-is_idle.true) c.completed_by-value.ensures

pub returns-clause-same : goal.returns-clause-same
returns-clause-same c = busy_asks c.args.tail (completed_of c.args.gives) c.args.state.now _ c.ask_storage.result (sym c.is_idle.ensures ∙ c.if-is_idle.false) c.ask_storage.ensures.same
