use Rattle.std.proofs.Common.{◌≡◌, ◌+◌, ◌++◌, length}
use Rattle.timeline.specs.Intake.{numbered}
use Rattle.front_half.specs.Sending.{AreSentToo}
use Rattle.front_half.proofs.sending.send_all.Given as goal

-- what was sent and what is left are all that is to be sent
abbrev pub invariant-loop-body : goal.invariant-loop-body
invariant-loop-body g l =
    (l.sent.items ++ numbered l.incarnation (1 + l.number) l.body-iterator.rest.items
    ≡ l.fn.sent.items ++ numbered l.incarnation (1 + l.fn.count) l.fn.bodies.items)
    × (l.number + length l.body-iterator.rest.items ≡ l.fn.count + length l.fn.bodies.items)
    × AreSentToo (g.O.Outlet.sent l.fn.line) (g.O.Outlet.sent l.line) l.fn.sent.items l.sent.items
    × (g.O.Outlet.outlet l.line ≡ g.O.Outlet.outlet l.fn.line)
    × (g.O.Outlet.left l.line ≡ g.O.Outlet.left l.fn.line)
