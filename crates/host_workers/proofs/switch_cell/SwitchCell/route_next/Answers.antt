use Rattle.std.proofs.Common.{◌≡◌, ◌∙◌, ap, arith, length, subst, sym, List, Some}
use Rattle.std.specs.Prelude.{Ok, Err}
use Rattle.std.proofs.lemmas.List.{with_items_is}
use Rattle.do_tree.specs.Checked.{tree_of}
use Rattle.lane.specs.Lanes.{Taking}
use Rattle.timeline.specs.declared.message.Message.{Message}
use Rattle.mailbox.specs.Runs.{IsStill, fault_of, slots_of}
use Rattle.mailbox.specs.Taken.{AreEmpty}
use Rattle.mailbox.specs.declared.fitting.Routed.TheVariants.{Did, Nothing, Unfit}
use Rattle.mailbox.specs.declared.switch.Switch.{Switch}
use Rattle.host_workers.proofs.Printing.{printed_more}
use Rattle.host_workers.proofs.Switching.{kept_by, route_lent}
use Rattle.host_workers.specs.Switches.{HasPrinted, IsSwitchOver, got_of, told_of}
use Rattle.host_workers.proofs.switch_cell.SwitchCell.route_next.Goals as goal

pub returns-in-Ok-Did-clause-cell : goal.returns-in-Ok-Did-clause-cell
returns-in-Ok-Did-clause-cell g c first one =
    let e = c.route_fit.ensures in
    let s = c.args.self.now in
    let is : c.route_fit.result ≡ Ok Did = cc (c.in-Ok-Did.is, c.in-Ok-Did.field-0-is) in
    let goes = ap fault_of c.get_mut.ensures.value ∙ c.requires.goes in
    let was = subst (λ (w : Switch g.row.W.Denot). IsSwitchOver (tree_of s.checked.now) first w s.kept s.outs.items s.inboxes.items s.lines.got) (sym c.get_mut.ensures.value) one in
    let outs = with_items_is s.outs c.route_fit.new.outs (omega (arith, c.route_fit.auto.outs, ap length c.deref_mut.ensures.value, s.outs.ok.0)) in
    let inboxes = with_items_is s.inboxes c.route_fit.new.inboxes (omega (arith, c.route_fit.auto.inboxes, ap length c.deref_mut-2.ensures.value, s.inboxes.ok.0)) in
    route_lent g.W.Sink.taken g.W.Sink.faults_of (tree_of s.checked.now) first c.get_mut.result.now c.route_fit.new.self s.kept s.kept s.outs.items c.deref_mut.result.now c.route_fit.new.outs _
    s.inboxes.items c.deref_mut-2.result.now c.route_fit.new.inboxes _ s.lines.got c.deref_mut.ensures.value outs c.deref_mut-2.ensures.value inboxes was goes c.requires.none
    c.route_fit.result (record {
      acts = e.acts;
      routed = e.routed;
      unfit = e.unfit;
      nothing = λ is. ((e.nothing is).1, (e.nothing is).2);
      begun = e.begun goes;
      lanes = e.lanes.lanes;
      fault = e.fault;
    })
    (c.requires.none ∙ sym (ap kept_by is))

pub returns-in-Ok-Did-clause-printed : goal.returns-in-Ok-Did-clause-printed
returns-in-Ok-Did-clause-printed g c held from was =
    let e = c.route_fit.ensures in
    printed_more g.W.Sink.taken g.W.Sink.faults_of held from c.get_mut.result.now c.route_fit.new.self
    (subst (λ (w : Switch g.row.W.Denot). HasPrinted g.W.Sink.taken g.W.Sink.faults_of held from w) (sym c.get_mut.ensures.value) was) c.route_fit.result
    (record { written = e.acts.written; part = e.acts.part; counted = e.acts.counted; again = λ fault at. (e.again fault at).1; fault = e.fault })

pub returns-in-Ok-Nothing-clause-nothing : goal.returns-in-Ok-Nothing-clause-nothing
returns-in-Ok-Nothing-clause-nothing g c =
    let is : c.route_fit.result ≡ Ok Nothing = cc (c.in-Ok-Nothing.is, c.in-Ok-Nothing.field-0-is) in
    let n = c.route_fit.ensures.nothing is in
    λ _. (
      subst (λ (w : Switch g.row.W.Denot). IsStill w c.route_fit.new.self) c.get_mut.ensures.value n.1,
      λ _. subst (λ (x : Switch g.row.W.Denot × List (Taking Message)). AreEmpty got_of told_of 0 (slots_of x.0) x.1)
          (λ i. (c.get_mut.ensures.value i, c.deref_mut.ensures.value i)) n.0,
    )

pub returns-in-Ok-Nothing-clause-cell : goal.returns-in-Ok-Nothing-clause-cell
returns-in-Ok-Nothing-clause-cell g c first one =
    let e = c.route_fit.ensures in
    let s = c.args.self.now in
    let is : c.route_fit.result ≡ Ok Nothing = cc (c.in-Ok-Nothing.is, c.in-Ok-Nothing.field-0-is) in
    let goes = ap fault_of c.get_mut.ensures.value ∙ c.requires.goes in
    let was = subst (λ (w : Switch g.row.W.Denot). IsSwitchOver (tree_of s.checked.now) first w s.kept s.outs.items s.inboxes.items s.lines.got) (sym c.get_mut.ensures.value) one in
    let outs = with_items_is s.outs c.route_fit.new.outs (omega (arith, c.route_fit.auto.outs, ap length c.deref_mut.ensures.value, s.outs.ok.0)) in
    let inboxes = with_items_is s.inboxes c.route_fit.new.inboxes (omega (arith, c.route_fit.auto.inboxes, ap length c.deref_mut-2.ensures.value, s.inboxes.ok.0)) in
    route_lent g.W.Sink.taken g.W.Sink.faults_of (tree_of s.checked.now) first c.get_mut.result.now c.route_fit.new.self s.kept s.kept s.outs.items c.deref_mut.result.now c.route_fit.new.outs _
    s.inboxes.items c.deref_mut-2.result.now c.route_fit.new.inboxes _ s.lines.got c.deref_mut.ensures.value outs c.deref_mut-2.ensures.value inboxes was goes c.requires.none
    c.route_fit.result (record {
      acts = e.acts;
      routed = e.routed;
      unfit = e.unfit;
      nothing = λ is. ((e.nothing is).1, (e.nothing is).2);
      begun = e.begun goes;
      lanes = e.lanes.lanes;
      fault = e.fault;
    })
    (c.requires.none ∙ sym (ap kept_by is))

pub returns-in-Ok-Nothing-clause-printed : goal.returns-in-Ok-Nothing-clause-printed
returns-in-Ok-Nothing-clause-printed g c held from was =
    let e = c.route_fit.ensures in
    printed_more g.W.Sink.taken g.W.Sink.faults_of held from c.get_mut.result.now c.route_fit.new.self
    (subst (λ (w : Switch g.row.W.Denot). HasPrinted g.W.Sink.taken g.W.Sink.faults_of held from w) (sym c.get_mut.ensures.value) was) c.route_fit.result
    (record { written = e.acts.written; part = e.acts.part; counted = e.acts.counted; again = λ fault at. (e.again fault at).1; fault = e.fault })

pub returns-in-Ok-Unfit-clause-nothing : goal.returns-in-Ok-Unfit-clause-nothing
returns-in-Ok-Unfit-clause-nothing g c =
    let is : c.route_fit.result ≡ Ok (Unfit c.in-Ok-Unfit.slot c.in-Ok-Unfit.message) = cc (c.in-Ok-Unfit.is, c.in-Ok-Unfit.field-0-is) in
    λ _. (
      subst (λ (w : Switch g.row.W.Denot). IsStill w c.route_fit.new.self) c.get_mut.ensures.value (c.route_fit.ensures.unfit c.in-Ok-Unfit.slot c.in-Ok-Unfit.message is).1,
      λ some. absurd (cc some),
    )

pub returns-in-Ok-Unfit-clause-cell : goal.returns-in-Ok-Unfit-clause-cell
returns-in-Ok-Unfit-clause-cell g c first one =
    let e = c.route_fit.ensures in
    let s = c.args.self.now in
    let is : c.route_fit.result ≡ Ok (Unfit c.in-Ok-Unfit.slot c.in-Ok-Unfit.message) = cc (c.in-Ok-Unfit.is, c.in-Ok-Unfit.field-0-is) in
    let goes = ap fault_of c.get_mut.ensures.value ∙ c.requires.goes in
    let was = subst (λ (w : Switch g.row.W.Denot). IsSwitchOver (tree_of s.checked.now) first w s.kept s.outs.items s.inboxes.items s.lines.got) (sym c.get_mut.ensures.value) one in
    let outs = with_items_is s.outs c.route_fit.new.outs (omega (arith, c.route_fit.auto.outs, ap length c.deref_mut.ensures.value, s.outs.ok.0)) in
    let inboxes = with_items_is s.inboxes c.route_fit.new.inboxes (omega (arith, c.route_fit.auto.inboxes, ap length c.deref_mut-2.ensures.value, s.inboxes.ok.0)) in
    route_lent g.W.Sink.taken g.W.Sink.faults_of (tree_of s.checked.now) first c.get_mut.result.now c.route_fit.new.self s.kept (Some (c.in-Ok-Unfit.slot, c.in-Ok-Unfit.message)) s.outs.items c.deref_mut.result.now c.route_fit.new.outs _
    s.inboxes.items c.deref_mut-2.result.now c.route_fit.new.inboxes _ s.lines.got c.deref_mut.ensures.value outs c.deref_mut-2.ensures.value inboxes was goes c.requires.none
    c.route_fit.result (record {
      acts = e.acts;
      routed = e.routed;
      unfit = e.unfit;
      nothing = λ is. ((e.nothing is).1, (e.nothing is).2);
      begun = e.begun goes;
      lanes = e.lanes.lanes;
      fault = e.fault;
    })
    (sym (ap kept_by is))

pub returns-in-Ok-Unfit-clause-printed : goal.returns-in-Ok-Unfit-clause-printed
returns-in-Ok-Unfit-clause-printed g c held from was =
    let e = c.route_fit.ensures in
    printed_more g.W.Sink.taken g.W.Sink.faults_of held from c.get_mut.result.now c.route_fit.new.self
    (subst (λ (w : Switch g.row.W.Denot). HasPrinted g.W.Sink.taken g.W.Sink.faults_of held from w) (sym c.get_mut.ensures.value) was) c.route_fit.result
    (record { written = e.acts.written; part = e.acts.part; counted = e.acts.counted; again = λ fault at. (e.again fault at).1; fault = e.fault })

pub returns-in-Err-clause-cell : goal.returns-in-Err-clause-cell
returns-in-Err-clause-cell g c first one =
    let e = c.route_fit.ensures in
    let s = c.args.self.now in
    let is : c.route_fit.result ≡ Err c.in-Err.fault = cc (c.in-Err.is) in
    let goes = ap fault_of c.get_mut.ensures.value ∙ c.requires.goes in
    let was = subst (λ (w : Switch g.row.W.Denot). IsSwitchOver (tree_of s.checked.now) first w s.kept s.outs.items s.inboxes.items s.lines.got) (sym c.get_mut.ensures.value) one in
    let outs = with_items_is s.outs c.route_fit.new.outs (omega (arith, c.route_fit.auto.outs, ap length c.deref_mut.ensures.value, s.outs.ok.0)) in
    let inboxes = with_items_is s.inboxes c.route_fit.new.inboxes (omega (arith, c.route_fit.auto.inboxes, ap length c.deref_mut-2.ensures.value, s.inboxes.ok.0)) in
    route_lent g.W.Sink.taken g.W.Sink.faults_of (tree_of s.checked.now) first c.get_mut.result.now c.route_fit.new.self s.kept s.kept s.outs.items c.deref_mut.result.now c.route_fit.new.outs _
    s.inboxes.items c.deref_mut-2.result.now c.route_fit.new.inboxes _ s.lines.got c.deref_mut.ensures.value outs c.deref_mut-2.ensures.value inboxes was goes c.requires.none
    c.route_fit.result (record {
      acts = e.acts;
      routed = e.routed;
      unfit = e.unfit;
      nothing = λ is. ((e.nothing is).1, (e.nothing is).2);
      begun = e.begun goes;
      lanes = e.lanes.lanes;
      fault = e.fault;
    })
    (c.requires.none ∙ sym (ap kept_by is))

pub returns-in-Err-clause-printed : goal.returns-in-Err-clause-printed
returns-in-Err-clause-printed g c held from was =
    let e = c.route_fit.ensures in
    printed_more g.W.Sink.taken g.W.Sink.faults_of held from c.get_mut.result.now c.route_fit.new.self
    (subst (λ (w : Switch g.row.W.Denot). HasPrinted g.W.Sink.taken g.W.Sink.faults_of held from w) (sym c.get_mut.ensures.value) was) c.route_fit.result
    (record { written = e.acts.written; part = e.acts.part; counted = e.acts.counted; again = λ fault at. (e.again fault at).1; fault = e.fault })
