use Rattle.std.proofs.Common.{ap, refl, arith, length}
use Rattle.std.specs.Vec.{with_items}
use Rattle.std.proofs.lemmas.List.{with_items_is}
use Rattle.std.proofs.lemmas.Result.{on_ok_weaker}
use Rattle.do_tree.specs.Checked.{tree_of}
use Rattle.mailbox.specs.Runs.{log_of}
use Rattle.mailbox.specs.declared.fault.SwitchFault.TheVariants.{WriteFailed}
use Rattle.host_core.proofs.Accepting.{accept_serves, accept_served}
use Rattle.host_core.proofs.Ending.{at_fault, either_way, no_fault, serves_served}
use Rattle.host_core.proofs.Printings.{prints_acts, prints_then}
use Rattle.host_core.proofs.Routings.{standing_can}
use Rattle.host_core.proofs.Servings.{acts_on}
use Rattle.host_core.specs.declared.objects.Objects.{Objects}
use Rattle.host_core.proofs.serving.serve_line.Goals as goal

pub returns-in_err-accept-clause-served : goal.returns-in_err-accept-clause-served
returns-in_err-accept-clause-served g c = λ limit contents named serving.
    let old = c.args.objects.now in
    let new : Objects g.row.D.Denot = record { cores = old.cores; inboxes = with_items old.inboxes c.accept.new.inboxes; outs = old.outs } in
    let are = with_items_is old.inboxes c.accept.new.inboxes (omega (arith, c.accept.auto.inboxes, ap length c.deref_mut.ensures.value, old.inboxes.ok.0)) in
    let acts = acts_on old new c.deref_mut.result.now c.accept.new.inboxes old.outs.items old.outs.items c.deref_mut.ensures.value are refl refl
    g.W.Sink.taken g.W.Sink.faults_of c.args.switch.now c.accept.new.self c.accept.result c.accept.ensures.acts in
    accept_served g.D.Disk.moment_of g.D.Disk.left_since g.D.Disk.told g.D.Disk.image g.D.Disk.faults_of limit (tree_of c.args.checked.now) contents named c.args.switch.now c.accept.new.self old new g.W.Sink.taken g.W.Sink.faults_of c.accept.result c.args.line refl refl acts (at_fault c.accept.result c.in_err-accept.field-0.0 _ c.in_err-accept.was (c.accept.ensures.begun serving.goes)) serving

pub returns-in_err-accept-clause-again : goal.returns-in_err-accept-clause-again
returns-in_err-accept-clause-again g c =
    let s = c.requires.serving in
    let old = c.args.objects.now in
    let new : Objects g.row.D.Denot = record { cores = old.cores; inboxes = with_items old.inboxes c.accept.new.inboxes; outs = old.outs } in
    let are = with_items_is old.inboxes c.accept.new.inboxes (omega (arith, c.accept.auto.inboxes, ap length c.deref_mut.ensures.value, old.inboxes.ok.0)) in
    let acts = acts_on old new c.deref_mut.result.now c.accept.new.inboxes old.outs.items old.outs.items c.deref_mut.ensures.value are refl refl
    g.W.Sink.taken g.W.Sink.faults_of c.args.switch.now c.accept.new.self c.accept.result c.accept.ensures.acts in
    standing_can g.D.Disk.moment_of g.D.Disk.left_since g.D.Disk.told g.D.Disk.image g.D.Disk.faults_of s.0 (tree_of c.args.checked.now) s.1 s.2 (log_of c.accept.new.self) new
    (accept_served g.D.Disk.moment_of g.D.Disk.left_since g.D.Disk.told g.D.Disk.image g.D.Disk.faults_of s.0 (tree_of c.args.checked.now) s.1 s.2 c.args.switch.now c.accept.new.self old new g.W.Sink.taken g.W.Sink.faults_of c.accept.result c.args.line refl refl acts (at_fault c.accept.result c.in_err-accept.field-0.0 _ c.in_err-accept.was (c.accept.ensures.begun s.3.goes)) s.3).slots

pub settle-requires : goal.settle-requires
settle-requires g c =
    let s = c.requires.serving in
    let old = c.args.objects.now in
    let new : Objects g.row.D.Denot = record { cores = old.cores; inboxes = with_items old.inboxes c.accept.new.inboxes; outs = old.outs } in
    let are = with_items_is old.inboxes c.accept.new.inboxes (omega (arith, c.accept.auto.inboxes, ap length c.deref_mut.ensures.value, old.inboxes.ok.0)) in
    let acts = acts_on old new c.deref_mut.result.now c.accept.new.inboxes old.outs.items old.outs.items c.deref_mut.ensures.value are refl refl
    g.W.Sink.taken g.W.Sink.faults_of c.args.switch.now c.accept.new.self c.accept.result c.accept.ensures.acts in
    record { serving = (s.0, s.1, s.2, accept_serves g.D.Disk.moment_of g.D.Disk.left_since g.D.Disk.told g.D.Disk.image g.D.Disk.faults_of s.0 (tree_of c.args.checked.now) s.1 s.2 c.args.switch.now c.accept.new.self old new g.W.Sink.taken g.W.Sink.faults_of c.accept.result c.args.line refl refl acts c.in_ok-accept.ensures.accepted c.in_ok-accept.ensures.run c.in_ok-accept.ensures.fault s.3) }

pub returns-clause-serving : goal.returns-clause-serving
returns-clause-serving g c =
    let old = c.args.objects.now in
    let new : Objects g.row.D.Denot = record { cores = old.cores; inboxes = with_items old.inboxes c.accept.new.inboxes; outs = old.outs } in
    let are = with_items_is old.inboxes c.accept.new.inboxes (omega (arith, c.accept.auto.inboxes, ap length c.deref_mut.ensures.value, old.inboxes.ok.0)) in
    let acts = acts_on old new c.deref_mut.result.now c.accept.new.inboxes old.outs.items old.outs.items c.deref_mut.ensures.value are refl refl
    g.W.Sink.taken g.W.Sink.faults_of c.args.switch.now c.accept.new.self c.accept.result c.accept.ensures.acts in
    on_ok_weaker c.settle.result (λ keeps limit contents named serving. keeps limit contents named
    (accept_serves g.D.Disk.moment_of g.D.Disk.left_since g.D.Disk.told g.D.Disk.image g.D.Disk.faults_of limit (tree_of c.args.checked.now) contents named c.args.switch.now c.accept.new.self old new g.W.Sink.taken g.W.Sink.faults_of c.accept.result c.args.line refl refl acts c.in_ok-accept.ensures.accepted c.in_ok-accept.ensures.run c.in_ok-accept.ensures.fault serving)) c.settle.ensures.serving

pub returns-clause-served : goal.returns-clause-served
returns-clause-served g c = λ limit contents named serving.
    let old = c.args.objects.now in
    let new : Objects g.row.D.Denot = record { cores = old.cores; inboxes = with_items old.inboxes c.accept.new.inboxes; outs = old.outs } in
    let are = with_items_is old.inboxes c.accept.new.inboxes (omega (arith, c.accept.auto.inboxes, ap length c.deref_mut.ensures.value, old.inboxes.ok.0)) in
    let acts = acts_on old new c.deref_mut.result.now c.accept.new.inboxes old.outs.items old.outs.items c.deref_mut.ensures.value are refl refl
    g.W.Sink.taken g.W.Sink.faults_of c.args.switch.now c.accept.new.self c.accept.result c.accept.ensures.acts in
    let before = accept_serves g.D.Disk.moment_of g.D.Disk.left_since g.D.Disk.told g.D.Disk.image g.D.Disk.faults_of limit (tree_of c.args.checked.now) contents named c.args.switch.now c.accept.new.self old new g.W.Sink.taken g.W.Sink.faults_of c.accept.result c.args.line refl refl acts c.in_ok-accept.ensures.accepted c.in_ok-accept.ensures.run c.in_ok-accept.ensures.fault serving in
    either_way c.settle.result _ _ _ c.settle.ensures.serving c.settle.ensures.served
    (λ keeps. serves_served g.D.Disk.moment_of g.D.Disk.left_since g.D.Disk.told g.D.Disk.image g.D.Disk.faults_of limit (tree_of c.args.checked.now) contents named c.settle.new.switch c.settle.new.objects (keeps limit contents named before))
    (λ leaves. leaves limit contents named before)

pub returns-clause-prints : goal.returns-clause-prints
returns-clause-prints g c =
    prints_then g.W.Sink.taken g.W.Sink.faults_of c.args.switch.now c.accept.new.self c.settle.new.switch c.accept.result c.settle.result
    (no_fault c.accept.result c.in_ok-accept.field-0 WriteFailed c.in_ok-accept.was) c.in_ok-accept.ensures.fault
    (prints_acts g.W.Sink.taken g.W.Sink.faults_of _ _ _ c.args.switch.now c.accept.new.self c.deref_mut.result.now c.accept.new.inboxes c.accept.result c.accept.ensures.acts) c.settle.ensures.prints
