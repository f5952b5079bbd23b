use Rattle.std.proofs.Common.{◌<◌, ◌+◌, ◌∙◌, refl, length, arith}
use Rattle.std.proofs.lemmas.List.{length-set}
use Rattle.std.proofs.lemmas.Option.{slice_get_read}
use Rattle.do_tree.specs.Checked.{tree_of}
use Rattle.mailbox.specs.Posting.{of_slot}
use Rattle.placement.specs.Slots.{object_at}
use Rattle.object_core.specs.One.{CanRun}
use Rattle.host_core.specs.Slots.{IsGoing, IsSlot, IsResting}
use Rattle.host_core.proofs.Goings.{going_stands, on_err_by}
use Rattle.host_core.proofs.Placings.{slots_put, slots_by}
use Rattle.host_core.proofs.Tells.{told_put}
use Rattle.host_core.proofs.settling.run_slots.Goals as goal

pub returns-in_err-run_slot-clause-stands : goal.returns-in_err-run_slot-clause-stands
returns-in_err-run_slot-clause-stands g c =
    let i = c.loop-slot.invariant in
    let within_core : c.loop-slot.slot < length c.loop-slot.objects.cores.items = omega (arith, i.many, c.loop-slot-test.true) in
    let within_inbox : c.loop-slot.slot < length c.loop-slot.objects.inboxes.items = omega (arith, within_core, i.can.inboxes) in
    let within_out : c.loop-slot.slot < length c.loop-slot.objects.outs.items = omega (arith, within_core, i.can.outs) in
    let is_core = slice_get_read c.loop-slot.objects.cores.items _ c.loop-slot.slot c.index_mut.result.now refl within_core c.index_mut.ensures.value in
    let is_inbox = slice_get_read c.loop-slot.objects.inboxes.items _ c.loop-slot.slot c.index_mut-in-loop-slot.result.now refl within_inbox c.index_mut-in-loop-slot.ensures.value in
    let is_out = slice_get_read c.loop-slot.objects.outs.items _ c.loop-slot.slot c.index_mut-in-loop-slot-2.result.now refl within_out c.index_mut-in-loop-slot-2.ensures.value in
    on_err_by c.from_residual.result (λ limit contents named log were.
    let all = i.going limit contents named log were in
    slots_put
    (λ slot core inbox out. IsGoing g.D.Disk.moment_of g.D.Disk.left_since g.D.Disk.told g.D.Disk.image g.D.Disk.faults_of limit (tree_of c.args.checked.now) (contents slot) (object_at named slot) (of_slot slot log.posts) (of_slot slot log.routed) core inbox out)
    (λ slot core inbox out. IsSlot g.D.Disk.moment_of g.D.Disk.left_since g.D.Disk.told g.D.Disk.image g.D.Disk.faults_of limit (tree_of c.args.checked.now) (contents slot) (object_at named slot) (of_slot slot log.posts) (of_slot slot log.routed) core inbox out)
    c.loop-slot.objects _ c.loop-slot.slot c.run_slot.new.core c.run_slot.new.inbox c.run_slot.new.out refl refl refl
    (λ k core inbox out other going. going_stands g.D.Disk.moment_of g.D.Disk.left_since g.D.Disk.told g.D.Disk.image g.D.Disk.faults_of limit (tree_of c.args.checked.now) (contents k) (object_at named k) (of_slot k log.posts) (of_slot k log.routed) core inbox out going)
    (c.in_err-run_slot.ensures.stands limit (contents c.loop-slot.slot) (object_at named c.loop-slot.slot) (of_slot c.loop-slot.slot log.posts) (of_slot c.loop-slot.slot log.routed) (all.each c.loop-slot.slot c.index_mut.result.now c.index_mut-in-loop-slot.result.now c.index_mut-in-loop-slot-2.result.now is_core is_inbox is_out)) all)

pub returns-in_err-run_slot-clause-again : goal.returns-in_err-run_slot-clause-again
returns-in_err-run_slot-clause-again g c =
    slots_put (λ slot core inbox out. CanRun g.D.Disk.moment_of g.D.Disk.left_since g.D.Disk.told g.D.Disk.image g.D.Disk.faults_of (tree_of c.args.checked.now) core) (λ slot core inbox out. CanRun g.D.Disk.moment_of g.D.Disk.left_since g.D.Disk.told g.D.Disk.image g.D.Disk.faults_of (tree_of c.args.checked.now) core)
    c.loop-slot.objects _ c.loop-slot.slot c.run_slot.new.core c.run_slot.new.inbox c.run_slot.new.out refl refl refl (λ k core inbox out other can. can) c.run_slot.ensures.again c.loop-slot.invariant.can

pub returns-in_err-run_slot-clause-tells : goal.returns-in_err-run_slot-clause-tells
returns-in_err-run_slot-clause-tells g c all =
    let i = c.loop-slot.invariant in
    let within_core : c.loop-slot.slot < length c.loop-slot.objects.cores.items = omega (arith, i.many, c.loop-slot-test.true) in
    let is_core = slice_get_read c.loop-slot.objects.cores.items _ c.loop-slot.slot c.index_mut.result.now refl within_core c.index_mut.ensures.value in
    i.tells (told_put g.D.Disk.told c.loop-slot.objects.cores.items c.loop-slot.slot c.index_mut.result.now c.run_slot.new.core is_core c.run_slot.ensures.tells all)

pub loop-slot-preserved : goal.loop-slot-preserved
loop-slot-preserved g c =
    let i = c.loop-slot.invariant in
    let within_core : c.loop-slot.slot < length c.loop-slot.objects.cores.items = omega (arith, i.many, c.loop-slot-test.true) in
    let within_inbox : c.loop-slot.slot < length c.loop-slot.objects.inboxes.items = omega (arith, within_core, i.can.inboxes) in
    let within_out : c.loop-slot.slot < length c.loop-slot.objects.outs.items = omega (arith, within_core, i.can.outs) in
    let is_core = slice_get_read c.loop-slot.objects.cores.items _ c.loop-slot.slot c.index_mut.result.now refl within_core c.index_mut.ensures.value in
    let is_inbox = slice_get_read c.loop-slot.objects.inboxes.items _ c.loop-slot.slot c.index_mut-in-loop-slot.result.now refl within_inbox c.index_mut-in-loop-slot.ensures.value in
    let is_out = slice_get_read c.loop-slot.objects.outs.items _ c.loop-slot.slot c.index_mut-in-loop-slot-2.result.now refl within_out c.index_mut-in-loop-slot-2.ensures.value in
    record {
      can = slots_put (λ slot core inbox out. CanRun g.D.Disk.moment_of g.D.Disk.left_since g.D.Disk.told g.D.Disk.image g.D.Disk.faults_of (tree_of c.args.checked.now) core) (λ slot core inbox out. CanRun g.D.Disk.moment_of g.D.Disk.left_since g.D.Disk.told g.D.Disk.image g.D.Disk.faults_of (tree_of c.args.checked.now) core)
          c.loop-slot.objects _ c.loop-slot.slot c.run_slot.new.core c.run_slot.new.inbox c.run_slot.new.out refl refl refl (λ k core inbox out other can. can) c.run_slot.ensures.again i.can;
      going = λ limit contents named log were. let all = i.going limit contents named log were in
          slots_put
          (λ slot core inbox out. IsGoing g.D.Disk.moment_of g.D.Disk.left_since g.D.Disk.told g.D.Disk.image g.D.Disk.faults_of limit (tree_of c.args.checked.now) (contents slot) (object_at named slot) (of_slot slot log.posts) (of_slot slot log.routed) core inbox out)
          (λ slot core inbox out. IsGoing g.D.Disk.moment_of g.D.Disk.left_since g.D.Disk.told g.D.Disk.image g.D.Disk.faults_of limit (tree_of c.args.checked.now) (contents slot) (object_at named slot) (of_slot slot log.posts) (of_slot slot log.routed) core inbox out)
          c.loop-slot.objects _ c.loop-slot.slot c.run_slot.new.core c.run_slot.new.inbox c.run_slot.new.out refl refl refl (λ k core inbox out other going. going)
          (c.in_ok-run_slot.ensures.going limit (contents c.loop-slot.slot) (object_at named c.loop-slot.slot) (of_slot c.loop-slot.slot log.posts) (of_slot c.loop-slot.slot log.routed) (all.each c.loop-slot.slot c.index_mut.result.now c.index_mut-in-loop-slot.result.now c.index_mut-in-loop-slot-2.result.now is_core is_inbox is_out)) all;
      tells = λ all. i.tells (told_put g.D.Disk.told c.loop-slot.objects.cores.items c.loop-slot.slot c.index_mut.result.now c.run_slot.new.core is_core c.run_slot.ensures.tells all);
      rest = slots_put (λ slot core inbox out. slot < c.loop-slot.slot → IsResting (tree_of c.args.checked.now) core inbox) (λ slot core inbox out. slot < c.loop-slot.slot + 1 → IsResting (tree_of c.args.checked.now) core inbox)
          c.loop-slot.objects _ c.loop-slot.slot c.run_slot.new.core c.run_slot.new.inbox c.run_slot.new.out refl refl refl (λ k core inbox out other rests less. rests (omega (arith, other, less))) (λ less. c.in_ok-run_slot.ensures.resting) i.rest;
      many = length-set c.loop-slot.objects.cores.items c.loop-slot.slot c.run_slot.new.core ∙ i.many;
      same = i.same;
    }

pub returns-clause-resting : goal.returns-clause-resting
returns-clause-resting g c =
    let i = c.loop-slot.invariant in
    slots_by (λ slot core inbox out. slot < c.loop-slot.slot → IsResting (tree_of c.args.checked.now) core inbox) (λ slot core inbox out. IsResting (tree_of c.args.checked.now) core inbox) c.loop-slot.objects
    (λ k core inbox out within rests. rests (omega (arith, within, i.many, c.loop-slot-test.false))) i.rest
