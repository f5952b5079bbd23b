use Rattle.std.proofs.Common.{◌<◌, arith}
use Rattle.script_mean.specs.declared.limits.TheConstants.{MOST_STORAGE_AWAITS}
use Rattle.script_state.proofs.Asking.{awaiting, still_open, storage_asked}
use Rattle.script_state.proofs.state.State.ask_storage.Goals as goal

pub returns-clause-same : goal.returns-clause-same
returns-clause-same c =
    let few : c.args.self.now.awaits < MOST_STORAGE_AWAITS = omega arith in
    storage_asked c.args.ask c.args.wait c.args.self.now c.cut.new.self few c.in_ok-cut.ensures

pub returns-clause-ready : goal.returns-clause-ready
returns-clause-ready c = still_open c.args.wait (awaiting c.args.self.now) c.cut.new.self c.in_ok-cut.ensures
