use Rattle.std.proofs.Common.{◌≡◌, ◌<◌, ◌∙◌, List, [], ◌∷◌, ◌++◌, length, map, get_or, Option, Ok, sym, ap, subst, arith, append_assoc}
use Rattle.std.proofs.lemmas.List.{get_or-map, length-append, length-map, nil_from_length}
use Rattle.std.proofs.lemmas.Result.{err_from_is_err_and}
use Rattle.storage_map.specs.Limits.{Object}
use Rattle.host_core.specs.declared.report.SlotReport.{SlotReport}
use Rattle.do_host.specs.Dump.{dump_text}
use Rattle.do_host.specs.Storage.{Storage}
use Rattle.do_host.specs.Written.{WritesAll, WritesFirstOf}
use Rattle.do_host.proofs.Dumped.{part_printed, printed_slot, printed_slots}
use Rattle.do_host.proofs.Dumping.{writes_all, writes_front}
use Rattle.do_host.proofs.dump.dump_slots.Goals as goal

pub returns-in_err-dump-clause-writes : goal.returns-in_err-dump-clause-writes
returns-in_err-dump-clause-writes g c =
    let p = err_from_is_err_and c.from_residual.result c.from_residual.ensures.1 in
    let i = c.loop-stored.invariant in
    let identity = λ (row : SlotReport g.row.S.Denot). row.identity in
    let object : Option Object = c.index-rows-slot.result.identity in
    let there : c.loop-stored.slot < length c.args.rows.now =
    omega (arith, i.slot, ap length i.all, length-append c.loop-stored.yielded c.loop-stored.stored-iterator.rest.items, ap length c.in-Some.ensures.steps.0, c.requires.many) in
    let here : get_or (map identity c.args.rows.now) c.loop-stored.slot object ≡ object = get_or-map identity c.args.rows.now c.loop-stored.slot c.index-rows-slot.result object there ∙ ap identity (sym c.index-rows-slot.is) in
    let part : WritesFirstOf (g.W.Sink.taken c.loop-stored.out) (g.W.Sink.taken c.dump.new.out) (dump_text c.loop-stored.slot object c.in-Some.stored) =
    subst (λ (o : Option Object). WritesFirstOf (g.W.Sink.taken c.loop-stored.out) (g.W.Sink.taken c.dump.new.out) (dump_text c.loop-stored.slot o c.in-Some.stored)) (c.as_ref-object.ensures.value ∙ ap identity (sym c.index-rows-slot.is)) c.in_err-dump.ensures.writes.front in
    writes_front _ _ _ c.from_residual.result p.0 p.1
    (part_printed _ (g.W.Sink.taken c.loop-stored.out) _ c.loop-stored.slot (map identity c.args.rows.now) object c.in-Some.stored c.loop-stored.stored-iterator.rest.items c.next.new.self.rest.items _ i.printed c.in-Some.ensures.steps.0
    (omega (arith, there, length-map c.args.rows.now identity)) here part)

pub loop-stored-preserved : goal.loop-stored-preserved
loop-stored-preserved g c =
    let i = c.loop-stored.invariant in
    let identity = λ (row : SlotReport g.row.S.Denot). row.identity in
    let object : Option Object = c.index-rows-slot.result.identity in
    let there : c.loop-stored.slot < length c.args.rows.now =
    omega (arith, i.slot, ap length i.all, length-append c.loop-stored.yielded c.loop-stored.stored-iterator.rest.items, ap length c.in-Some.ensures.steps.0, c.requires.many) in
    let here : get_or (map identity c.args.rows.now) c.loop-stored.slot object ≡ object = get_or-map identity c.args.rows.now c.loop-stored.slot c.index-rows-slot.result object there ∙ ap identity (sym c.index-rows-slot.is) in
    let was : WritesAll (g.W.Sink.taken c.loop-stored.out) (g.W.Sink.taken c.dump.new.out) (dump_text c.loop-stored.slot object c.in-Some.stored) =
    subst (λ (o : Option Object). WritesAll (g.W.Sink.taken c.loop-stored.out) (g.W.Sink.taken c.dump.new.out) (dump_text c.loop-stored.slot o c.in-Some.stored)) (c.as_ref-object.ensures.value ∙ ap identity (sym c.index-rows-slot.is)) c.in_ok-dump.ensures.writes.whole in
    record {
      all = i.all ∙ ap (λ (xs : List Storage). c.loop-stored.yielded ++ xs) c.in-Some.ensures.steps.0 ∙ sym (append_assoc c.loop-stored.yielded (c.in-Some.stored ∷ []) c.next.new.self.rest.items);
      slot = omega (arith, i.slot, length-append c.loop-stored.yielded (c.in-Some.stored ∷ []));
      printed = printed_slot _ (g.W.Sink.taken c.loop-stored.out) _ c.loop-stored.slot (map identity c.args.rows.now) object c.in-Some.stored c.loop-stored.stored-iterator.rest.items c.next.new.self.rest.items _ i.printed c.in-Some.ensures.steps.0
          (omega (arith, there, length-map c.args.rows.now identity)) here was;
      steady = c.in_ok-dump.ensures.steady (λ failed. cc) ∙ i.steady;
    }

pub returns-clause-writes : goal.returns-clause-writes
returns-clause-writes g c =
    let rest = c.loop-stored.stored-iterator.rest in
    let none : rest.items ≡ [] = nil_from_length rest.items (sym rest.ok.0 ∙ c.in-None.ensures.steps.0) in
    writes_all _ _ _ (Ok tt) (printed_slots _ _ c.loop-stored.slot _ rest.items _ c.loop-stored.invariant.printed none)
