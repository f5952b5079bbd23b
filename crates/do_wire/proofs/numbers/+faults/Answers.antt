use Rattle.std.proofs.Common.{◌≡◌, get_or, subst, sym, ap, ◌∙◌, add-one}
use Rattle.serde_json.specs.View.{view, items_view, members_view}
use Rattle.serde_json.proofs.Views.{Entry}
use Rattle.do_wire.specs.Json.{json_of}
use Rattle.do_wire.specs.Reading.{tree_in}
use Rattle.do_wire.specs.Numbers.{numbers, item_numbers, member_numbers, first_fault}
use Rattle.do_wire.proofs.Again.{AreSameMembers, same_items, same_members}
use Rattle.do_wire.proofs.FirstFault.{at_none, fault_here, fault_later, first_fault-append, first_fault-drop}
use Rattle.do_wire.proofs.numbers.+faults.Goals as goal

pub fault_in_items-returns-then-is_some-clause-fault : goal.fault_in_items-returns-then-is_some-clause-fault
fault_in_items-returns-then-is_some-clause-fault t c =
    let js = c.deref-item-items.result.now in
    let next = first_fault-drop js c.loop-item.item-index c.item-item.result c.loop-item-test.true in
    let here = c.first_fault_in-fault.ensures.fault ∙ ap (λ j. first_fault (numbers (view j))) c.item-item.is in
    sym (ap (λ l. first_fault (item_numbers (items_view l))) (sym c.deref-item-items.ensures.value) ∙ c.loop-item.invariant.fault ∙ next ∙ fault_here _ _ _ here (sym c.is_some.ensures ∙ c.if-is_some.true))

pub fault_in_items-loop-item-preserved : goal.fault_in_items-loop-item-preserved
fault_in_items-loop-item-preserved t c =
    let js = c.deref-item-items.result.now in
    let i = c.loop-item.item-index in
    let x = c.item-item.result in
    let next = first_fault-drop js i x c.loop-item-test.true in
    let here = c.first_fault_in-fault.ensures.fault ∙ ap (λ j. first_fault (numbers (view j))) c.item-item.is in
    let none = sym c.is_some.ensures ∙ c.if-is_some.false in
    let same : json_of (tree_in (view (get_or js i x))) ≡ view (get_or js i x) = subst (λ j. json_of (tree_in (view j)) ≡ view j) c.item-item.is (at_none _ _ c.first_fault_in-fault.ensures.same none) in
    record {
      fault = rw add-one (c.loop-item.invariant.fault ∙ next ∙ fault_later _ _ _ here none);
      same = λ rest. c.loop-item.invariant.same (same_items js i x c.loop-item-test.true same rest);
    }

pub fault_in_members-returns-then-is_some-clause-fault : goal.fault_in_members-returns-then-is_some-clause-fault
fault_in_members-returns-then-is_some-clause-fault t c =
    let next = first_fault-append (numbers (view c.in-Some.part.now)) (member_numbers (members_view c.next.new.self)) in
    sym (c.loop-part.invariant.fault ∙ ap (λ es. first_fault (member_numbers (members_view es))) c.in-Some.ensures.steps ∙ next
    ∙ fault_here _ _ _ c.first_fault_in-fault.ensures.fault (sym c.is_some.ensures ∙ c.if-is_some.true))

pub fault_in_members-loop-part-preserved : goal.fault_in_members-loop-part-preserved
fault_in_members-loop-part-preserved t c =
    let e : Entry = (c.in-Some.field-0-0.now, c.in-Some.part.now) in
    let left = c.next.new.self in
    let next = first_fault-append (numbers (view e.1)) (member_numbers (members_view left)) in
    let none = sym c.is_some.ensures ∙ c.if-is_some.false in
    record {
      fault = c.loop-part.invariant.fault ∙ ap (λ es. first_fault (member_numbers (members_view es))) c.in-Some.ensures.steps ∙ next
          ∙ fault_later _ _ _ c.first_fault_in-fault.ensures.fault none;
      same = λ rest. c.loop-part.invariant.same (subst AreSameMembers (sym c.in-Some.ensures.steps) (same_members e left (at_none _ _ c.first_fault_in-fault.ensures.same none) rest));
    }
