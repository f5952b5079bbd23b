use Rattle.front_half.proofs.ByCallers.{call_put}
use Rattle.front_half.proofs.by_caller.ByCaller.put.Goals as goal

pub returns-in-Ok-insert : goal.returns-in-Ok-insert
returns-in-Ok-insert g c = λ from.
    rw c.in-Object.is (call_put c.args.kept c.args.self.now.requests c.args.self.now.calls c.insert-in-Object.new.self c.in-Object.slot c.in-Object.incarnation c.in-Object.number
    c.in-Ok-insert.ensures.updates from)
