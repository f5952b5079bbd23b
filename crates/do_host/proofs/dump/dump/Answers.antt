use Rattle.std.proofs.Common.{◌++◌, subst}
use Rattle.std.proofs.lemmas.Result.{err_from_is_err_and}
use Rattle.do_host.specs.Dump.{pairs_text, alarm_text}
use Rattle.do_host.specs.Written.{WritesAll, WritesFirstOf, Writes}
use Rattle.do_host.specs.SlotLines.{object_line}
use Rattle.do_host.specs.Storage.{Storage}
use Rattle.do_host.proofs.Dumping.{all_on, front_on, front_longer, writes_front, writes_on}
use Rattle.do_host.proofs.dump.dump.Goals as goal

pub returns-in_err-put_line-clause-writes : goal.returns-in_err-put_line-clause-writes
returns-in_err-put_line-clause-writes g c =
    let p = err_from_is_err_and c.from_residual.result c.from_residual.ensures.1 in
    let object = object_line c.args.slot c.in-Some.object.now in
    let pairs = pairs_text c.args.slot c.args.stored.pairs in
    rw c.in-Some.is
    (writes_front _ _ _ c.from_residual.result p.0 p.1
    (front_longer _ _ (object ++ pairs) (alarm_text c.args.slot c.args.stored.alarm) (front_longer _ _ object pairs (c.in_err-put_line.ensures.writes object c.object_line.ensures).front)))

pub returns-in_err-dump_pairs-clause-writes : goal.returns-in_err-dump_pairs-clause-writes
returns-in_err-dump_pairs-clause-writes g c =
    let p = err_from_is_err_and c.from_residual-in_err-dump_pairs.result c.from_residual-in_err-dump_pairs.ensures.1 in
    let object = object_line c.args.slot c.in-Some.object.now in
    let pairs = pairs_text c.args.slot c.args.stored.pairs in
    let middle = g.W.Sink.taken c.put_line.new.out in
    let part : WritesFirstOf middle (g.W.Sink.taken c.dump_pairs.new.out) pairs =
    subst (λ (s : Storage). WritesFirstOf middle (g.W.Sink.taken c.dump_pairs.new.out) (pairs_text c.args.slot s.pairs)) c.stored.view_is c.in_err-dump_pairs.ensures.writes.front in
    rw c.in-Some.is
    (writes_front _ _ _ c.from_residual-in_err-dump_pairs.result p.0 p.1
    (front_longer _ _ (object ++ pairs) (alarm_text c.args.slot c.args.stored.alarm) (front_on _ middle _ object pairs (c.in_ok-put_line.ensures.writes object c.object_line.ensures).whole part)))

pub returns-clause-writes : goal.returns-clause-writes
returns-clause-writes g c =
    let object = object_line c.args.slot c.in-Some.object.now in
    let pairs = pairs_text c.args.slot c.args.stored.pairs in
    let middle = g.W.Sink.taken c.put_line.new.out in
    let printed = g.W.Sink.taken c.dump_pairs.new.out in
    let whole : WritesAll middle printed pairs = subst (λ (s : Storage). WritesAll middle printed (pairs_text c.args.slot s.pairs)) c.stored.view_is c.in_ok-dump_pairs.ensures.writes.whole in
    let alarm : Writes printed (g.W.Sink.taken c.dump_alarm.new.out) (alarm_text c.args.slot c.args.stored.alarm) c.dump_alarm.result =
    subst (λ (s : Storage). Writes printed (g.W.Sink.taken c.dump_alarm.new.out) (alarm_text c.args.slot s.alarm) c.dump_alarm.result) c.stored.view_is c.dump_alarm.ensures.writes in
    rw c.in-Some.is (writes_on _ printed _ (object ++ pairs) (alarm_text c.args.slot c.args.stored.alarm) c.dump_alarm.result (all_on _ middle _ object pairs (c.in_ok-put_line.ensures.writes object c.object_line.ensures).whole whole) alarm)
