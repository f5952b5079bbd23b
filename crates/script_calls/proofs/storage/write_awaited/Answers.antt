use Rattle.std.proofs.Common.{◌≡◌, length, arith}
use Rattle.std.proofs.lemmas.Grind.{common_steps}
use Rattle.script_asks.specs.Requests.{completed_of}
use Rattle.script_calls.proofs.Written.{joined_goes, joined_not}
use Rattle.script_calls.proofs.storage.write_awaited.Goals as goal

pub returns-in-Gave-clause-same : goal.returns-in-Gave-clause-same
returns-in-Gave-clause-same c =
    let counted : c.count_of-tail.result ≡ length c.args.ops.items = grind (arith, common_steps) in
    joined_goes c.args.may c.args.ops.items c.count_of-tail.result (completed_of c.args.gives) c.args.state.now c.join.new.self c.complete.new.state c.in_ok-joined.joined _ c.complete.result counted
    c.in_ok-joined.ensures c.in-Gave.is c.complete.ensures.same

pub returns-in_default-clause-same : goal.returns-in_default-clause-same
returns-in_default-clause-same c = joined_not c.args.may c.args.ops.items (completed_of c.args.gives) c.args.state.now c.join.new.self c.in_ok-joined.joined c.in_ok-joined.ensures c.in_default.not-Gave
