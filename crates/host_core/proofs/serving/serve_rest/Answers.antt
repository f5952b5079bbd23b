use Rattle.std.proofs.Common.{◌∙◌, ap, sym, subst, refl, List, Ok, Err}
use Rattle.std.proofs.lemmas.Result.{err_from_is_err_and}
use Rattle.std.specs.Prelude.{Result}
use Rattle.do_tree.specs.Checked.{tree_of}
use Rattle.lane.specs.Lanes.{StartsWith}
use Rattle.mailbox.specs.Runs.{log_of}
use Rattle.mailbox.specs.declared.fault.SwitchFault.{SwitchFault}
use Rattle.timeline.specs.Lines.{Line}
use Rattle.host_core.proofs.Ending.{serves_served, prints_good, never}
use Rattle.host_core.proofs.Printings.{prints_none, prints_then}
use Rattle.host_core.proofs.Reading.{rest_next, rest_none, rest_stopped, starts_whole}
use Rattle.host_core.proofs.Routings.{going_can}
use Rattle.host_core.specs.Reading.{with_rest}
use Rattle.host_core.specs.Running.{Prints}
use Rattle.host_core.proofs.serving.serve_rest.Goals as goal

pub loop-line-init : goal.loop-line-init
loop-line-init g c = let s = c.requires.serving in record {
  some = s;
  serves = λ limit contents named serving. serving;
  again = going_can g.D.Disk.moment_of g.D.Disk.left_since g.D.Disk.told g.D.Disk.image g.D.Disk.faults_of s.0 (tree_of c.args.checked.now) s.1 s.2
      (log_of c.args.switch.now) c.args.objects.now s.3.slots;
  rests = c.requires.resting;
  many = refl;
  accepted = refl;
  prints = prints_none g.W.Sink.taken g.W.Sink.faults_of c.args.switch.now (Ok tt) never;
}

pub loop-line-preserved : goal.loop-line-preserved
loop-line-preserved g c = let s = c.loop-line.invariant.some in record {
  some = (s.0, s.1, s.2, c.in_ok-serve_line.ensures.serving s.0 s.1 s.2 s.3);
  serves = λ limit contents named serving. c.in_ok-serve_line.ensures.serving limit contents named (c.loop-line.invariant.serves limit contents named serving);
  again = c.serve_line.ensures.again;
  rests = c.in_ok-serve_line.ensures.resting;
  many = c.serve_line.ensures.many ∙ c.loop-line.invariant.many;
  accepted = rest_next (log_of c.loop-line.switch).accepted (log_of c.serve_line.new.switch).accepted c.in-Some.line c.loop-line.rest c.take.new.self
      (rw c.in-Some.is at c.take.ensures.some).0 c.in_ok-serve_line.ensures.accepted ∙ c.loop-line.invariant.accepted;
  prints = prints_then g.W.Sink.taken g.W.Sink.faults_of c.args.switch.now c.loop-line.switch c.serve_line.new.switch (Ok tt) (Ok tt) never s.3.goes c.loop-line.invariant.prints
      (prints_good g.W.Sink.taken g.W.Sink.faults_of c.loop-line.switch c.serve_line.new.switch c.serve_line.result c.in_ok-serve_line.field-0 c.in_ok-serve_line.was c.serve_line.ensures.prints);
}

pub returns-in_err-serve_line-clause-served : goal.returns-in_err-serve_line-clause-served
returns-in_err-serve_line-clause-served g c = λ limit contents named serving. c.serve_line.ensures.served limit contents named (c.loop-line.invariant.serves limit contents named serving)

pub returns-in_err-serve_line-clause-first : goal.returns-in_err-serve_line-clause-first
returns-in_err-serve_line-clause-first g c =
    subst (λ (ls : List Line). StartsWith ls (log_of c.serve_line.new.switch).accepted) c.loop-line.invariant.accepted
    (rest_stopped c.in-Some.line (log_of c.loop-line.switch).accepted (log_of c.serve_line.new.switch).accepted c.loop-line.rest c.take.new.self _
    (rw c.in-Some.is at c.take.ensures.some).0 c.in_err-serve_line.ensures.logged)

pub returns-in_err-serve_line-clause-prints : goal.returns-in_err-serve_line-clause-prints
returns-in_err-serve_line-clause-prints g c =
    let p = err_from_is_err_and c.from_residual.result c.from_residual.ensures.1 in
    subst (λ (r : Result (Unit {0}) SwitchFault). Prints g.W.Sink.taken g.W.Sink.faults_of c.args.switch.now c.serve_line.new.switch r) (sym (p.1 ∙ ap Err p.2))
    (prints_then g.W.Sink.taken g.W.Sink.faults_of c.args.switch.now c.loop-line.switch c.serve_line.new.switch (Ok tt) (Err c.in_err-serve_line.field-0.0) never
    c.loop-line.invariant.some.3.goes c.loop-line.invariant.prints c.in_err-serve_line.ensures.prints)

pub returns-clause-served : goal.returns-clause-served
returns-clause-served g c = λ limit contents named serving.
    serves_served g.D.Disk.moment_of g.D.Disk.left_since g.D.Disk.told g.D.Disk.image g.D.Disk.faults_of limit (tree_of c.args.checked.now) contents named c.loop-line.switch c.loop-line.objects (c.loop-line.invariant.serves limit contents named serving)

pub returns-clause-accepted : goal.returns-clause-accepted
returns-clause-accepted g c =
    sym (rest_none (log_of c.loop-line.switch).accepted c.loop-line.rest (rw c.in_default.is at c.take.ensures.none).0) ∙ c.loop-line.invariant.accepted

pub returns-clause-first : goal.returns-clause-first
returns-clause-first g c =
    starts_whole (with_rest (log_of c.args.switch.now).accepted c.args.rest) (log_of c.loop-line.switch).accepted
    (sym c.loop-line.invariant.accepted ∙ rest_none (log_of c.loop-line.switch).accepted c.loop-line.rest (rw c.in_default.is at c.take.ensures.none).0)
