use Rattle.std.proofs.Common.{◌∙◌, ap, sym, subst, append-nil, List, ◌++◌, ◌∷◌, [], map, Ok, Err, Some}
use Rattle.std.proofs.lemmas.Result.{err_from_is_err_and}
use Rattle.std.specs.Prelude.{Result}
use Rattle.do_tree.specs.Checked.{tree_of}
use Rattle.line_server.specs.Lines.{count_of}
use Rattle.mailbox.specs.Runs.{log_of}
use Rattle.mailbox.specs.Seen.{seen_line}
use Rattle.switch_history.specs.Answering.{AreInOrder}
use Rattle.timeline.specs.Lines.{Line}
use Rattle.host_workers.proofs.Numbering.{next_in_order, next_up_to}
use Rattle.host_workers.specs.Lines.{AreUpTo}
use Rattle.host_core.proofs.Ending.{serves_served, prints_fault, prints_good, never, read_stop}
use Rattle.host_core.proofs.Printings.{prints_then}
use Rattle.host_core.proofs.Reading.{accepts_first, accepts_whole, has_read_as, logged_first, read_more, starts_front}
use Rattle.host_core.specs.Reading.{read_lines, with_rest}
use Rattle.host_core.specs.Running.{PrintsUntil}
use Rattle.host_core.specs.declared.serving.Stop.{Stop}
use Rattle.host_core.proofs.serving.serve_lines.Goals as goal

pub returns-in_err-settle-clause-accepts : goal.returns-in_err-settle-clause-accepts
returns-in_err-settle-clause-accepts g c = λ whole has.
    accepts_first g.R.Source.left whole c.args.lines.now (with_rest (log_of c.args.switch.now).accepted c.args.rest) (log_of c.settle.new.switch).accepted
    (starts_front (with_rest (log_of c.args.switch.now).accepted c.args.rest) (log_of c.settle.new.switch).accepted (map seen_line c.args.rest.waiting)
    (ap (λ (ls : List Line). ls ++ map seen_line c.args.rest.waiting) (sym c.settle.ensures.accepted))) has

pub serve_rest-requires-clause-serving : goal.serve_rest-requires-clause-serving
serve_rest-requires-clause-serving g c = let s = c.requires.serving in (s.0, s.1, s.2, c.in_ok-settle.ensures.serving s.0 s.1 s.2 s.3)

pub serve_rest-requires-clause-resting : goal.serve_rest-requires-clause-resting
serve_rest-requires-clause-resting g c = record { resting = c.in_ok-settle.ensures.resting; routed = c.in_ok-settle.ensures.routed }

pub returns-in_err-serve_rest-clause-served : goal.returns-in_err-serve_rest-clause-served
returns-in_err-serve_rest-clause-served g c = λ limit contents named serving. c.serve_rest.ensures.served limit contents named (c.in_ok-settle.ensures.serving limit contents named serving)

pub returns-in_err-serve_rest-clause-accepts : goal.returns-in_err-serve_rest-clause-accepts
returns-in_err-serve_rest-clause-accepts g c = λ whole has.
    accepts_first g.R.Source.left whole c.args.lines.now (with_rest (log_of c.settle.new.switch).accepted c.args.rest) (log_of c.serve_rest.new.switch).accepted
    c.serve_rest.ensures.first
    (has_read_as g.R.Source.left whole c.args.lines.now _ _ (ap (λ (ls : List Line). read_lines (with_rest ls c.args.rest)) c.settle.ensures.accepted) has)

pub returns-in_err-serve_rest-clause-prints : goal.returns-in_err-serve_rest-clause-prints
returns-in_err-serve_rest-clause-prints g c =
    let s = c.requires.serving in
    let p = err_from_is_err_and c.from_residual-in_err-serve_rest.result c.from_residual-in_err-serve_rest.ensures.1 in
    subst (λ (r : Result (Unit {0}) Stop). PrintsUntil g.W.Sink.taken g.W.Sink.faults_of c.args.switch.now c.serve_rest.new.switch r) (sym (p.1 ∙ ap Err p.2))
    (prints_fault g.W.Sink.taken g.W.Sink.faults_of c.args.switch.now c.serve_rest.new.switch c.in_err-serve_rest.field-0.0 s.3.goes
    (prints_then g.W.Sink.taken g.W.Sink.faults_of c.args.switch.now c.settle.new.switch c.serve_rest.new.switch (Ok tt) (Err c.in_err-serve_rest.field-0.0) never
    (c.in_ok-settle.ensures.serving s.0 s.1 s.2 s.3).goes
    (prints_good g.W.Sink.taken g.W.Sink.faults_of c.args.switch.now c.settle.new.switch c.settle.result c.in_ok-settle.field-0 c.in_ok-settle.was c.settle.ensures.prints)
    c.in_err-serve_rest.ensures.prints))

pub loop-line-init : goal.loop-line-init
loop-line-init g c =
    let s = c.requires.serving in
    let settled = c.in_ok-settle.ensures.serving in
    let all = c.in_ok-serve_rest.ensures.accepted ∙ ap (λ (ls : List Line). with_rest ls c.args.rest) c.settle.ensures.accepted in
    record {
      some = (s.0, s.1, s.2, c.in_ok-serve_rest.ensures.serving s.0 s.1 s.2 (settled s.0 s.1 s.2 s.3));
      serves = λ limit contents named serving. c.in_ok-serve_rest.ensures.serving limit contents named (settled limit contents named serving);
      again = c.serve_rest.ensures.again;
      rests = c.in_ok-serve_rest.ensures.resting;
      many = c.serve_rest.ensures.many ∙ c.settle.ensures.many;
      reading = λ whole has. has_read_as g.R.Source.left whole c.args.lines.now _ _ (ap read_lines all) has;
      order = subst AreInOrder (sym all) c.requires.order;
      below = subst (AreUpTo (count_of c.args.lines.now)) (sym all) c.requires.below;
      counts = λ from was. was;
      prints = prints_then g.W.Sink.taken g.W.Sink.faults_of c.args.switch.now c.settle.new.switch c.serve_rest.new.switch (Ok tt) (Ok tt) never
          (settled s.0 s.1 s.2 s.3).goes
          (prints_good g.W.Sink.taken g.W.Sink.faults_of c.args.switch.now c.settle.new.switch c.settle.result c.in_ok-settle.field-0 c.in_ok-settle.was c.settle.ensures.prints)
          (prints_good g.W.Sink.taken g.W.Sink.faults_of c.settle.new.switch c.serve_rest.new.switch c.serve_rest.result c.in_ok-serve_rest.field-0 c.in_ok-serve_rest.was c.serve_rest.ensures.prints);
    }

pub returns-in_err-line-clause-served : goal.returns-in_err-line-clause-served
returns-in_err-line-clause-served g c = λ limit contents named serving.
    serves_served g.D.Disk.moment_of g.D.Disk.left_since g.D.Disk.told g.D.Disk.image g.D.Disk.faults_of limit (tree_of c.args.checked.now) contents named c.loop-line.switch c.loop-line.objects (c.loop-line.invariant.serves limit contents named serving)

pub returns-in_err-line-clause-accepts : goal.returns-in_err-line-clause-accepts
returns-in_err-line-clause-accepts g c = λ whole has.
    accepts_whole g.R.Source.left whole c.next_line.new.lines (log_of c.loop-line.switch).accepted
    (has_read_as g.R.Source.left whole c.next_line.new.lines _ _ (sym (append-nil (read_lines (log_of c.loop-line.switch).accepted)))
    (c.in_err-line.ensures.reads whole _ (c.loop-line.invariant.reading whole has)))

pub returns-in_err-line-clause-read_all : goal.returns-in_err-line-clause-read_all
returns-in_err-line-clause-read_all g c = λ failed whole has.
    let p = err_from_is_err_and c.from_residual-in_err-line.result c.from_residual-in_err-line.ensures.1 in
    (has_read_as g.R.Source.left whole c.next_line.new.lines _ _ (sym (append-nil (read_lines (log_of c.loop-line.switch).accepted)))
    (c.in_err-line.ensures.reads whole _ (c.loop-line.invariant.reading whole has))).exact
    (c.in_err-line.ensures.fault ∙ ap Some (read_stop c.in_err-line.field-0.0 (sym (p.1 ∙ ap Err p.2) ∙ failed)))

pub returns-in_err-line-clause-read_failed : goal.returns-in_err-line-clause-read_failed
returns-in_err-line-clause-read_failed g c = λ failed from was.
    let p = err_from_is_err_and c.from_residual-in_err-line.result c.from_residual-in_err-line.ensures.1 in
    (c.next_line.ensures.counts from (c.loop-line.invariant.counts from was)).rose
    (c.in_err-line.ensures.fault ∙ ap Some (read_stop c.in_err-line.field-0.0 (sym (p.1 ∙ ap Err p.2) ∙ failed)))

pub loop-line-preserved : goal.loop-line-preserved
loop-line-preserved g c =
    let s = c.loop-line.invariant.some in
    let number = rw c.in-Some.is at c.in_ok-line.ensures.number in
    record {
      some = (s.0, s.1, s.2, c.in_ok-serve_line.ensures.serving s.0 s.1 s.2 s.3);
      serves = λ limit contents named serving. c.in_ok-serve_line.ensures.serving limit contents named (c.loop-line.invariant.serves limit contents named serving);
      again = c.serve_line.ensures.again;
      rests = c.in_ok-serve_line.ensures.resting;
      many = c.serve_line.ensures.many ∙ c.loop-line.invariant.many;
      reading = λ whole has. has_read_as g.R.Source.left whole c.next_line.new.lines _ _
          (ap read_lines c.in_ok-serve_line.ensures.accepted ∙ read_more (log_of c.loop-line.switch).accepted c.in-Some.line)
          (rw c.in-Some.is at c.in_ok-line.ensures.reads whole _ (c.loop-line.invariant.reading whole has));
      order = next_in_order (count_of c.loop-line.lines) (log_of c.loop-line.switch).accepted (log_of c.serve_line.new.switch).accepted c.in-Some.line c.in_ok-serve_line.ensures.accepted
          (count_of c.next_line.new.lines) number.0 number.1 c.loop-line.invariant.order c.loop-line.invariant.below;
      below = next_up_to (count_of c.loop-line.lines) (count_of c.next_line.new.lines) (log_of c.loop-line.switch).accepted (log_of c.serve_line.new.switch).accepted c.in-Some.line
          c.in_ok-serve_line.ensures.accepted number.0 number.1 c.loop-line.invariant.below;
      counts = λ from was. c.next_line.ensures.counts from (c.loop-line.invariant.counts from was);
      prints = prints_then g.W.Sink.taken g.W.Sink.faults_of c.args.switch.now c.loop-line.switch c.serve_line.new.switch (Ok tt) (Ok tt) never s.3.goes c.loop-line.invariant.prints
          (prints_good g.W.Sink.taken g.W.Sink.faults_of c.loop-line.switch c.serve_line.new.switch c.serve_line.result c.in_ok-serve_line.field-0 c.in_ok-serve_line.was c.serve_line.ensures.prints);
    }

pub returns-in_err-serve_line-clause-served : goal.returns-in_err-serve_line-clause-served
returns-in_err-serve_line-clause-served g c = λ limit contents named serving. c.serve_line.ensures.served limit contents named (c.loop-line.invariant.serves limit contents named serving)

pub returns-in_err-serve_line-clause-accepts : goal.returns-in_err-serve_line-clause-accepts
returns-in_err-serve_line-clause-accepts g c = λ whole has.
    let before = (log_of c.loop-line.switch).accepted in
    accepts_first g.R.Source.left whole c.next_line.new.lines (before ++ seen_line c.in-Some.line ∷ []) (log_of c.serve_line.new.switch).accepted
    (logged_first c.in-Some.line before (log_of c.serve_line.new.switch).accepted _ c.in_err-serve_line.ensures.logged)
    (has_read_as g.R.Source.left whole c.next_line.new.lines _ _ (read_more before c.in-Some.line)
    (rw c.in-Some.is at c.in_ok-line.ensures.reads whole _ (c.loop-line.invariant.reading whole has)))

pub returns-in_err-serve_line-clause-prints : goal.returns-in_err-serve_line-clause-prints
returns-in_err-serve_line-clause-prints g c =
    let p = err_from_is_err_and c.from_residual-in_err-serve_line.result c.from_residual-in_err-serve_line.ensures.1 in
    subst (λ (r : Result (Unit {0}) Stop). PrintsUntil g.W.Sink.taken g.W.Sink.faults_of c.args.switch.now c.serve_line.new.switch r) (sym (p.1 ∙ ap Err p.2))
    (prints_fault g.W.Sink.taken g.W.Sink.faults_of c.args.switch.now c.serve_line.new.switch c.in_err-serve_line.field-0.0 c.requires.serving.3.goes
    (prints_then g.W.Sink.taken g.W.Sink.faults_of c.args.switch.now c.loop-line.switch c.serve_line.new.switch (Ok tt) (Err c.in_err-serve_line.field-0.0) never
    c.loop-line.invariant.some.3.goes c.loop-line.invariant.prints c.in_err-serve_line.ensures.prints))

pub returns-clause-served : goal.returns-clause-served
returns-clause-served g c = λ limit contents named serving.
    serves_served g.D.Disk.moment_of g.D.Disk.left_since g.D.Disk.told g.D.Disk.image g.D.Disk.faults_of limit (tree_of c.args.checked.now) contents named c.loop-line.switch c.loop-line.objects (c.loop-line.invariant.serves limit contents named serving)

pub returns-clause-accepts : goal.returns-clause-accepts
returns-clause-accepts g c = λ whole has.
    accepts_whole g.R.Source.left whole c.next_line.new.lines (log_of c.loop-line.switch).accepted
    (has_read_as g.R.Source.left whole c.next_line.new.lines _ _ (sym (append-nil (read_lines (log_of c.loop-line.switch).accepted)))
    (rw c.in_default.is at c.in_ok-line.ensures.reads whole _ (c.loop-line.invariant.reading whole has)))

pub returns-clause-all : goal.returns-clause-all
returns-clause-all g c = λ whole has.
    let all = c.in_ok-line.ensures.all (ap Ok c.in_default.is) whole _ (c.loop-line.invariant.reading whole has) in
    record { all = all.0; counted = all.1 }
