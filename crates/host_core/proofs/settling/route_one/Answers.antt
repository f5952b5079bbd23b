use Rattle.std.proofs.Common.{ap, ◌∙◌, length, arith, refl, inl, inr}
use Rattle.std.specs.Vec.{with_items}
use Rattle.std.proofs.lemmas.List.{with_items_is}
use Rattle.do_tree.specs.Checked.{tree_of}
use Rattle.std.specs.Prelude.{Ok, Result}
use Rattle.mailbox.specs.Runs.{Routes, BeginsMessage, fault_in}
use Rattle.mailbox.specs.declared.fault.SwitchFault.{SwitchFault}
use Rattle.timeline.specs.declared.notice.Stepped.{Stepped}
use Rattle.host_core.proofs.Goings.{on_err_by}
use Rattle.host_core.proofs.Restings.{resting_still, routed_still, empty_on}
use Rattle.host_core.proofs.Servings.{acts_on, outs_on, taken_on, still_on, serving_routed, serving_still, served_routed, served_still}
use Rattle.host_core.specs.declared.objects.Objects.{Objects}
use Rattle.host_core.proofs.settling.route_one.Goals as goal

abbrev answered : Stepped → Result Stepped SwitchFault
answered stepped = Ok stepped

pub returns-in_err-route-clause-served : goal.returns-in_err-route-clause-served
returns-in_err-route-clause-served g c =
    let old = c.args.objects.now in
    let new : Objects g.row.D.Denot = record {
      cores = old.cores;
      inboxes = with_items old.inboxes c.route.new.inboxes;
      outs = with_items old.outs c.route.new.outs;
    } in
    let are = with_items_is old.inboxes c.route.new.inboxes (omega (arith, c.route.auto.inboxes, ap length c.deref_mut-2.ensures.value, old.inboxes.ok.0)) in
    let outs_are = with_items_is old.outs c.route.new.outs (omega (arith, c.route.auto.outs, ap length c.deref_mut.ensures.value, old.outs.ok.0)) in
    let acts = acts_on old new c.deref_mut-2.result.now c.route.new.inboxes c.deref_mut.result.now c.route.new.outs c.deref_mut-2.ensures.value are c.deref_mut.ensures.value outs_are
    g.W.Sink.taken g.W.Sink.faults_of c.args.switch.now c.route.new.self c.route.result c.route.ensures.acts in
    let lanes = outs_on old new c.deref_mut-2.result.now c.route.new.inboxes c.deref_mut.result.now c.route.new.outs c.deref_mut-2.ensures.value are c.deref_mut.ensures.value outs_are
    c.route.ensures.lanes in
    on_err_by c.from_residual.result (λ limit contents named serving.
    elim (c.in_err-route.ensures.begun serving.goes) [
      | inl one ↦ served_routed g.D.Disk.moment_of g.D.Disk.left_since g.D.Disk.told g.D.Disk.image g.D.Disk.faults_of limit (tree_of c.args.checked.now) contents named c.args.switch.now c.route.new.self old new g.W.Sink.taken g.W.Sink.faults_of c.route.result refl acts lanes
          (taken_on old new c.deref_mut-2.result.now c.route.new.inboxes c.deref_mut.result.now c.route.new.outs c.deref_mut-2.ensures.value are c.deref_mut.ensures.value outs_are (BeginsMessage (tree_of c.args.checked.now) c.args.switch.now c.route.new.self) one) serving
      | inr still ↦ served_still g.D.Disk.moment_of g.D.Disk.left_since g.D.Disk.told g.D.Disk.image g.D.Disk.faults_of limit (tree_of c.args.checked.now) contents named c.args.switch.now c.route.new.self old new g.W.Sink.taken g.W.Sink.faults_of c.route.result refl acts lanes still.0.log (still_on old new c.deref_mut-2.result.now c.route.new.inboxes c.deref_mut.result.now c.route.new.outs c.deref_mut-2.ensures.value are c.deref_mut.ensures.value outs_are still.1) serving
    ])

pub returns-in-Did-clause-serving : goal.returns-in-Did-clause-serving
returns-in-Did-clause-serving g c limit contents named serving =
    let old = c.args.objects.now in
    let new : Objects g.row.D.Denot = record {
      cores = old.cores;
      inboxes = with_items old.inboxes c.route.new.inboxes;
      outs = with_items old.outs c.route.new.outs;
    } in
    let are = with_items_is old.inboxes c.route.new.inboxes (omega (arith, c.route.auto.inboxes, ap length c.deref_mut-2.ensures.value, old.inboxes.ok.0)) in
    let outs_are = with_items_is old.outs c.route.new.outs (omega (arith, c.route.auto.outs, ap length c.deref_mut.ensures.value, old.outs.ok.0)) in
    let acts = acts_on old new c.deref_mut-2.result.now c.route.new.inboxes c.deref_mut.result.now c.route.new.outs c.deref_mut-2.ensures.value are c.deref_mut.ensures.value outs_are
    g.W.Sink.taken g.W.Sink.faults_of c.args.switch.now c.route.new.self c.route.result c.route.ensures.acts in
    let lanes = outs_on old new c.deref_mut-2.result.now c.route.new.inboxes c.deref_mut.result.now c.route.new.outs c.deref_mut-2.ensures.value are c.deref_mut.ensures.value outs_are
    c.route.ensures.lanes in
    serving_routed g.D.Disk.moment_of g.D.Disk.left_since g.D.Disk.told g.D.Disk.image g.D.Disk.faults_of limit (tree_of c.args.checked.now) contents named c.args.switch.now c.route.new.self old new g.W.Sink.taken g.W.Sink.faults_of c.route.result refl acts lanes
    c.posts_are_placed.ensures c.all_are_owed.ensures.owed c.all_are_owed.ensures.nothing
    (taken_on old new c.deref_mut-2.result.now c.route.new.inboxes c.deref_mut.result.now c.route.new.outs c.deref_mut-2.ensures.value are c.deref_mut.ensures.value outs_are (Routes (tree_of c.args.checked.now) c.args.switch.now c.route.new.self) (c.route.ensures.routed (c.in_ok-route.was ∙ ap (λ (s : Stepped). answered s) c.in-Did.is)))
    c.in_ok-route.ensures.run (c.route.ensures.fault ∙ ap fault_in c.in_ok-route.was) serving

pub returns-in-Nothing-clause-serving : goal.returns-in-Nothing-clause-serving
returns-in-Nothing-clause-serving g c limit contents named serving =
    let old = c.args.objects.now in
    let new : Objects g.row.D.Denot = record {
      cores = old.cores;
      inboxes = with_items old.inboxes c.route.new.inboxes;
      outs = with_items old.outs c.route.new.outs;
    } in
    let are = with_items_is old.inboxes c.route.new.inboxes (omega (arith, c.route.auto.inboxes, ap length c.deref_mut-2.ensures.value, old.inboxes.ok.0)) in
    let outs_are = with_items_is old.outs c.route.new.outs (omega (arith, c.route.auto.outs, ap length c.deref_mut.ensures.value, old.outs.ok.0)) in
    let acts = acts_on old new c.deref_mut-2.result.now c.route.new.inboxes c.deref_mut.result.now c.route.new.outs c.deref_mut-2.ensures.value are c.deref_mut.ensures.value outs_are
    g.W.Sink.taken g.W.Sink.faults_of c.args.switch.now c.route.new.self c.route.result c.route.ensures.acts in
    let lanes = outs_on old new c.deref_mut-2.result.now c.route.new.inboxes c.deref_mut.result.now c.route.new.outs c.deref_mut-2.ensures.value are c.deref_mut.ensures.value outs_are
    c.route.ensures.lanes in
    let still = c.route.ensures.nothing (c.in_ok-route.was ∙ ap (λ (s : Stepped). answered s) c.in-Nothing.is) in
    serving_still g.D.Disk.moment_of g.D.Disk.left_since g.D.Disk.told g.D.Disk.image g.D.Disk.faults_of limit (tree_of c.args.checked.now) contents named c.args.switch.now c.route.new.self old new g.W.Sink.taken g.W.Sink.faults_of c.route.result refl acts lanes
    still.1 (still_on old new c.deref_mut-2.result.now c.route.new.inboxes c.deref_mut.result.now c.route.new.outs c.deref_mut-2.ensures.value are c.deref_mut.ensures.value outs_are still.2) c.in_ok-route.ensures.run (c.route.ensures.fault ∙ ap fault_in c.in_ok-route.was) serving

pub returns-in-Nothing-clause-resting : goal.returns-in-Nothing-clause-resting
returns-in-Nothing-clause-resting g c none script resting =
    let old = c.args.objects.now in
    let new : Objects g.row.D.Denot = record {
      cores = old.cores;
      inboxes = with_items old.inboxes c.route.new.inboxes;
      outs = with_items old.outs c.route.new.outs;
    } in
    let are = with_items_is old.inboxes c.route.new.inboxes (omega (arith, c.route.auto.inboxes, ap length c.deref_mut-2.ensures.value, old.inboxes.ok.0)) in
    let outs_are = with_items_is old.outs c.route.new.outs (omega (arith, c.route.auto.outs, ap length c.deref_mut.ensures.value, old.outs.ok.0)) in
    let acts = acts_on old new c.deref_mut-2.result.now c.route.new.inboxes c.deref_mut.result.now c.route.new.outs c.deref_mut-2.ensures.value are c.deref_mut.ensures.value outs_are
    g.W.Sink.taken g.W.Sink.faults_of c.args.switch.now c.route.new.self c.route.result c.route.ensures.acts in
    let lanes = outs_on old new c.deref_mut-2.result.now c.route.new.inboxes c.deref_mut.result.now c.route.new.outs c.deref_mut-2.ensures.value are c.deref_mut.ensures.value outs_are
    c.route.ensures.lanes in
    let still = c.route.ensures.nothing (c.in_ok-route.was ∙ ap (λ (s : Stepped). answered s) c.in-Nothing.is) in
    resting_still g.W.Sink.taken g.W.Sink.faults_of c.args.switch.now c.route.new.self old new c.route.result refl acts lanes still.1.log (still_on old new c.deref_mut-2.result.now c.route.new.inboxes c.deref_mut.result.now c.route.new.outs c.deref_mut-2.ensures.value are c.deref_mut.ensures.value outs_are still.2) script resting

pub returns-in-Nothing-clause-routed : goal.returns-in-Nothing-clause-routed
returns-in-Nothing-clause-routed g c none =
    let old = c.args.objects.now in
    let new : Objects g.row.D.Denot = record {
      cores = old.cores;
      inboxes = with_items old.inboxes c.route.new.inboxes;
      outs = with_items old.outs c.route.new.outs;
    } in
    let are = with_items_is old.inboxes c.route.new.inboxes (omega (arith, c.route.auto.inboxes, ap length c.deref_mut-2.ensures.value, old.inboxes.ok.0)) in
    let outs_are = with_items_is old.outs c.route.new.outs (omega (arith, c.route.auto.outs, ap length c.deref_mut.ensures.value, old.outs.ok.0)) in
    let acts = acts_on old new c.deref_mut-2.result.now c.route.new.inboxes c.deref_mut.result.now c.route.new.outs c.deref_mut-2.ensures.value are c.deref_mut.ensures.value outs_are
    g.W.Sink.taken g.W.Sink.faults_of c.args.switch.now c.route.new.self c.route.result c.route.ensures.acts in
    let lanes = outs_on old new c.deref_mut-2.result.now c.route.new.inboxes c.deref_mut.result.now c.route.new.outs c.deref_mut-2.ensures.value are c.deref_mut.ensures.value outs_are
    c.route.ensures.lanes in
    let still = c.route.ensures.nothing (c.in_ok-route.was ∙ ap (λ (s : Stepped). answered s) c.in-Nothing.is) in
    let serving = c.requires.serving.3 in
    routed_still g.W.Sink.taken g.W.Sink.faults_of c.args.switch.now c.route.new.self old new c.route.result refl acts lanes still.1.log (still_on old new c.deref_mut-2.result.now c.route.new.inboxes c.deref_mut.result.now c.route.new.outs c.deref_mut-2.ensures.value are c.deref_mut.ensures.value outs_are still.2) _ _ serving.many serving.slots
    (empty_on c.deref_mut.result.now old.outs.items _ c.deref_mut.ensures.value still.0)
