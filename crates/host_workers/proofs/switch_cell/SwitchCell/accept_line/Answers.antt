use Rattle.std.proofs.Common.{◌∙◌, ap, arith, length, refl, subst, sym, List, [], ◌∷◌, ◌++◌}
use Rattle.std.proofs.lemmas.List.{with_items_is}
use Rattle.do_tree.specs.Checked.{tree_of}
use Rattle.lane.specs.Lanes.{Sending}
use Rattle.timeline.specs.declared.event.Event.{Event}
use Rattle.mailbox.specs.Runs.{fault_of}
use Rattle.mailbox.specs.declared.switch.Switch.{Switch}
use Rattle.host_workers.proofs.Printing.{printed_more}
use Rattle.host_workers.proofs.Switching.{accept_keeps}
use Rattle.host_workers.specs.Switches.{HasPrinted, IsSwitchOver}
use Rattle.host_workers.proofs.switch_cell.SwitchCell.accept_line.Goals as goal

pub returns-in-Ok-clause-accepts : goal.returns-in-Ok-clause-accepts
returns-in-Ok-clause-accepts g c first got one =
    let e = c.accept.ensures in
    let s = c.args.self.now in
    let switch = c.get_mut.result.now in
    let goes = ap fault_of c.get_mut.ensures.value ∙ c.requires.goes in
    let was = subst (λ (w : Switch g.row.W.Denot). IsSwitchOver (tree_of s.checked.now) first w s.kept s.outs.items s.inboxes.items got) (sym c.get_mut.ensures.value) one in
    let are = with_items_is s.inboxes c.accept.new.inboxes (omega (arith, c.accept.auto.inboxes, ap length c.deref_mut.ensures.value, s.inboxes.ok.0)) in
    subst (λ (l : List (Sending Event)). IsSwitchOver (tree_of s.checked.now) first c.accept.new.self s.kept s.outs.items l (got ++ c.args.line ∷ [])) (sym are)
    (accept_keeps g.W.Sink.taken g.W.Sink.faults_of (tree_of s.checked.now) first switch c.accept.new.self s.kept s.kept s.outs.items s.outs.items c.deref_mut.result.now c.accept.new.inboxes
    got (subst (λ (l : List (Sending Event)). IsSwitchOver (tree_of s.checked.now) first switch s.kept s.outs.items l got) (sym c.deref_mut.ensures.value) was)
    c.args.line goes refl refl c.accept.result e.acts e.accepted (e.begun goes) e.fault)

pub returns-in-Err-clause-accepts : goal.returns-in-Err-clause-accepts
returns-in-Err-clause-accepts g c first got one =
    let e = c.accept.ensures in
    let s = c.args.self.now in
    let switch = c.get_mut.result.now in
    let goes = ap fault_of c.get_mut.ensures.value ∙ c.requires.goes in
    let was = subst (λ (w : Switch g.row.W.Denot). IsSwitchOver (tree_of s.checked.now) first w s.kept s.outs.items s.inboxes.items got) (sym c.get_mut.ensures.value) one in
    let are = with_items_is s.inboxes c.accept.new.inboxes (omega (arith, c.accept.auto.inboxes, ap length c.deref_mut.ensures.value, s.inboxes.ok.0)) in
    subst (λ (l : List (Sending Event)). IsSwitchOver (tree_of s.checked.now) first c.accept.new.self s.kept s.outs.items l (got ++ c.args.line ∷ [])) (sym are)
    (accept_keeps g.W.Sink.taken g.W.Sink.faults_of (tree_of s.checked.now) first switch c.accept.new.self s.kept s.kept s.outs.items s.outs.items c.deref_mut.result.now c.accept.new.inboxes
    got (subst (λ (l : List (Sending Event)). IsSwitchOver (tree_of s.checked.now) first switch s.kept s.outs.items l got) (sym c.deref_mut.ensures.value) was)
    c.args.line goes refl refl c.accept.result e.acts e.accepted (e.begun goes) e.fault)

pub returns-in-Ok-clause-printed : goal.returns-in-Ok-clause-printed
returns-in-Ok-clause-printed g c held from was =
    let e = c.accept.ensures in
    printed_more g.W.Sink.taken g.W.Sink.faults_of held from c.get_mut.result.now c.accept.new.self
    (subst (λ (w : Switch g.row.W.Denot). HasPrinted g.W.Sink.taken g.W.Sink.faults_of held from w) (sym c.get_mut.ensures.value) was) c.accept.result
    (record { written = e.acts.written; part = e.acts.part; counted = e.acts.counted; again = λ fault at. (e.again fault at).1; fault = e.fault })

pub returns-in-Err-clause-printed : goal.returns-in-Err-clause-printed
returns-in-Err-clause-printed g c held from was =
    let e = c.accept.ensures in
    printed_more g.W.Sink.taken g.W.Sink.faults_of held from c.get_mut.result.now c.accept.new.self
    (subst (λ (w : Switch g.row.W.Denot). HasPrinted g.W.Sink.taken g.W.Sink.faults_of held from w) (sym c.get_mut.ensures.value) was) c.accept.result
    (record { written = e.acts.written; part = e.acts.part; counted = e.acts.counted; again = λ fault at. (e.again fault at).1; fault = e.fault })
