use Rattle.std.proofs.Common.{◌∙◌}
use Rattle.batch_journal.specs.Places.{IsPlaceIn}
use Rattle.do_host.specs.Storage.{left_by}
use Rattle.do_host.proofs.Values.{same_keys}
use Rattle.do_host.proofs.stored.read_stored.Goals as goal

pub returns-clause-stored : goal.returns-clause-stored
returns-clause-stored g c = λ frames rest stands.
    let alarm = c.alarm.ensures ∙ stands.alarm in
    record {
      alarm = alarm;
      keys = c.in_ok-read_pairs.ensures.keys ∙ same_keys (IsPlaceIn frames) c.args.index.now (left_by frames) stands;
      whole = λ told. let pairs = c.in_ok-read_pairs.ensures.values frames rest stands told in λ j. record { pairs = pairs j; alarm = alarm j };
    }
