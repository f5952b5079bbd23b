use Rattle.std.proofs.Common.{rules, ◌≡◌, ◌∷◌, [], length, Some, None, w64, FitsSigned, to_z, of_z, sym, ap, ◌∙◌}
use Rattle.std.specs.Prelude.{Err}
use Rattle.std.proofs.lemmas.Int.{to_z-of_z}
use Rattle.do_tree.specs.Checked.{tree_of}
use Rattle.do_tree.specs.Lookup.{class_named, method_named}
use Rattle.placement.specs.Slots.{Slots, place, after, moved}
use Rattle.placement.specs.declared.answers.Placed.TheVariants.{New}
use Rattle.timeline.specs.Switch as switch
use Rattle.timeline.specs.Switch.{Switch, answers_to, calls_object, posts}
use Rattle.timeline.specs.declared.caller.Failure.TheVariants as failure
use Rattle.timeline.specs.declared.event.Event.TheVariants as event
use Rattle.mailbox.specs.States.{switch_of}
use Rattle.mailbox.proofs.Answered.{if_both, if_as, on_ok, answered, with_slot, slot_still, to_new, to_none}
use Rattle.mailbox.proofs.Placing.{new_slot, no_slot, is_full, free_within}
use Rattle.mailbox.proofs.state.State.call.Goals as goal

pub returns-in-Ok-New-clause-given : goal.returns-in-Ok-New-clause-given
returns-in-Ok-New-clause-given c =
    let i = c.self.inside in
    let s = c.args.self.now in
    let to = c.args.to.now in
    let script = tree_of c.args.checked.now in
    let slot = c.in-Ok-New.slot in
    let known : class_named script to.0 ≡ Some c.in-Some.class = search rules in
    let has : method_named script c.in-Some.class c.args.method.now ≡ Some c.in-Some-method.method = search rules in
    let placed : place i.directory to ≡ Some (New slot) = search rules in
    let at : place s.objects to ≡ Some (New slot) = ap (λ (w : Switch). place w.objects to) (sym c.self.view_is) ∙ placed in
    let free = new_slot s to slot at in
    let to_is : to ≡ c.in_ok-copy-in-Ok-New.field-0 = search rules in
    let args_is : c.args.args.now ≡ c.in_ok-copy.field-0 = search rules in
    let moment = to_z w64 (of_z w64 i.tick) in
    let fits : FitsSigned w64 i.tick = first_of (search rules, assumption) in
    let tick_is : s.tick ≡ moment = ap (λ (w : Switch). w.tick) (sym c.self.view_is) ∙ sym (to_z-of_z w64 i.tick fits) in
    let wanted = to_new script s c.args.from to c.args.method.now c.args.args.now c.args.depth c.in-Some.class known c.in-Some-method.method has slot free in
    let sent : calls_object script s c.args.from to c.args.method.now c.args.args.now c.args.depth
    ≡ posts (with_slot s slot to) ((slot, event.Bind c.in_ok-copy-in-Ok-New.field-0) ∷ (slot, event.Call c.args.from c.in-Some-method.method c.in_ok-copy.field-0 c.args.depth moment) ∷ []) =
    wanted ∙ (λ j. posts (with_slot s slot to) ((slot, event.Bind (to_is j)) ∷ (slot, event.Call c.args.from c.in-Some-method.method (args_is j) c.args.depth (tick_is j)) ∷ [])) in
    if_both c.post_both.result (calls_object script s c.args.from to c.args.method.now c.args.args.now c.args.depth) slot
    (event.Bind c.in_ok-copy-in-Ok-New.field-0) (event.Call c.args.from c.in-Some-method.method c.in_ok-copy.field-0 c.args.depth moment)
    (with_slot s slot to) sent (slot_still s slot to (free_within s slot free.1)) (rw c.in-Ok-New.field-0-is at c.post_both.ensures.posts) c.post_both.ensures.line

pub returns-in-Ok-New-clause-after : goal.returns-in-Ok-New-clause-after
returns-in-Ok-New-clause-after c =
    let i = c.self.inside in
    let s = c.args.self.now in
    let to = c.args.to.now in
    let script = tree_of c.args.checked.now in
    let slot = c.in-Ok-New.slot in
    let known : class_named script to.0 ≡ Some c.in-Some.class = search rules in
    let has : method_named script c.in-Some.class c.args.method.now ≡ Some c.in-Some-method.method = search rules in
    let placed : place i.directory to ≡ Some (New slot) = search rules in
    let at : place s.objects to ≡ Some (New slot) = ap (λ (w : Switch). place w.objects to) (sym c.self.view_is) ∙ placed in
    let moves : c.slot_of.new.self ≡ after i.directory to = search rules in
    let wanted = to_new script s c.args.from to c.args.method.now c.args.args.now c.args.depth c.in-Some.class known c.in-Some-method.method has slot (new_slot s to slot at) in
    on_ok c.post_both.result
    (ap (λ (d : Slots). switch_of d i.fetches i.tick) (moves ∙ ap (moved i.directory to) placed)
    ∙ ap (λ (w : Switch). with_slot w slot to) c.self.view_is
    ∙ sym (ap (λ (g : switch.Given). g.after) wanted))

pub returns-in-Err-NoSlot-clause-given : goal.returns-in-Err-NoSlot-clause-given
returns-in-Err-NoSlot-clause-given c =
    let i = c.self.inside in
    let s = c.args.self.now in
    let to = c.args.to.now in
    let script = tree_of c.args.checked.now in
    let said = c.in-Err-NoSlot.slots in
    let known : class_named script to.0 ≡ Some c.in-Some.class = search rules in
    let has : method_named script c.in-Some.class c.args.method.now ≡ Some c.in-Some-method.method = search rules in
    let full = is_full (place i.directory to) c.in-Err-NoSlot.field-0 said (length i.directory) c.in-Err-NoSlot.field-0-is c.in-Err-NoSlot.ensures.room c.in-Err-NoSlot.ensures.no_slot in
    let at : place s.objects to ≡ None = ap (λ (w : Switch). place w.objects to) (sym c.self.view_is) ∙ full.0 in
    let same : c.slot_of.new.self ≡ i.directory = search rules in
    let state : switch_of c.slot_of.new.self i.fetches i.tick ≡ s = ap (λ (d : Slots). switch_of d i.fetches i.tick) same ∙ c.self.view_is in
    let slots_is : said ≡ length s.objects = full.1 ∙ ap (λ (w : Switch). length w.objects) c.self.view_is in
    let wanted = to_none script s c.args.from to c.args.method.now c.args.args.now c.args.depth c.in-Some.class known c.in-Some-method.method has (no_slot s to at) in
    if_as c.answer-in-Err-NoSlot.result (calls_object script s c.args.from to c.args.method.now c.args.args.now c.args.depth)
    (answers_to (switch_of c.slot_of.new.self i.fetches i.tick) c.args.from (Err (failure.NoSlot said)))
    (wanted ∙ sym (λ j. answers_to (state j) c.args.from (Err (failure.NoSlot (slots_is j))))) c.answer-in-Err-NoSlot.ensures.given

pub returns-in-Err-NoSlot-clause-after : goal.returns-in-Err-NoSlot-clause-after
returns-in-Err-NoSlot-clause-after c =
    let i = c.self.inside in
    let s = c.args.self.now in
    let to = c.args.to.now in
    let script = tree_of c.args.checked.now in
    let known : class_named script to.0 ≡ Some c.in-Some.class = search rules in
    let has : method_named script c.in-Some.class c.args.method.now ≡ Some c.in-Some-method.method = search rules in
    let full = is_full (place i.directory to) c.in-Err-NoSlot.field-0 c.in-Err-NoSlot.slots (length i.directory) c.in-Err-NoSlot.field-0-is c.in-Err-NoSlot.ensures.room c.in-Err-NoSlot.ensures.no_slot in
    let at : place s.objects to ≡ None = ap (λ (w : Switch). place w.objects to) (sym c.self.view_is) ∙ full.0 in
    let same : c.slot_of.new.self ≡ i.directory = search rules in
    let wanted = to_none script s c.args.from to c.args.method.now c.args.args.now c.args.depth c.in-Some.class known c.in-Some-method.method has (no_slot s to at) in
    on_ok c.answer-in-Err-NoSlot.result
    (ap (λ (d : Slots). switch_of d i.fetches i.tick) same
    ∙ c.self.view_is
    ∙ sym (answered s c.args.from (Err (failure.NoSlot (length s.objects))))
    ∙ sym (ap (λ (g : switch.Given). g.after) wanted))
