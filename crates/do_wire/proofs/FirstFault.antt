-- The first refused number of JSON, from those of its parts.
use Rattle.std.proofs.Common.{◌≡◌, ℕ, zero, suc, ◌<◌, List, [], ◌∷◌, ◌++◌, length, get_or, drop, Option, Some, None, is_some, IfNone, true, false, true≢false, refl, sym, ap, ◌∙◌, arith}
use Rattle.std.proofs.Math.Seq.{drop-cons}
use Rattle.std.specs.Option.{option_or}
use Rattle.serde_json.specs.Data.{Num}
use Rattle.serde_json.specs.View.{view, items_view, members_view}
use Rattle.serde_json.specs.declared.value.Value.{Value}
use Rattle.serde_json.proofs.Views.{Entry}
use Rattle.do_wire.specs.Numbers.{numbers, item_numbers, member_numbers, fault_of, first_fault}
use Rattle.do_wire.specs.declared.fault.WireFault.{WireFault}

or_assoc : (a b c : Option WireFault) → option_or a (option_or b c) ≡ option_or (option_or a b) c
or_assoc None b c = refl
or_assoc (Some e) b c = refl

-- The first fault of two lists of numbers is that of the first, else of the second.
pub first_fault-append : (ms ns : List Num) → first_fault (ms ++ ns) ≡ option_or (first_fault ms) (first_fault ns)
first_fault-append [] ns = refl
first_fault-append (m ∷ ms) ns = ap (option_or (fault_of m)) (first_fault-append ms ns) ∙ or_assoc (fault_of m) (first_fault ms) (first_fault ns)

-- The first fault of the items that are left is the next item's, else that of those after it.
pub first_fault-drop : (js : List Value) (i : ℕ) (x : Value) → i < length js
    → first_fault (item_numbers (items_view (drop i js))) ≡ option_or (first_fault (numbers (view (get_or js i x)))) (first_fault (item_numbers (items_view (drop (suc i) js))))
first_fault-drop js i x lt = ap (λ l. first_fault (item_numbers (items_view l))) (drop-cons js i x lt) ∙ first_fault-append (numbers (view (get_or js i x))) _

-- A fault that was found is the first.
pub fault_here : (r a b : Option WireFault) → r ≡ a → is_some r ≡ true → option_or a b ≡ r
fault_here r None b e h = absurd (true≢false (sym h ∙ ap is_some e))
fault_here r (Some x) b e h = sym e

-- Where none was found it comes later.
pub fault_later : (r a b : Option WireFault) → r ≡ a → is_some r ≡ false → option_or a b ≡ b
fault_later r None b e h = refl
fault_later r (Some x) b e h = absurd (true≢false (sym (ap is_some e) ∙ h))

-- What is said of a search that found nothing.
pub at_none : (r : Option WireFault) (P : Type 0) → IfNone r P → is_some r ≡ false → P
at_none None P h e = h
at_none (Some x) P h e = absurd (true≢false e)

none_left : (a b : Option WireFault) → option_or a b ≡ None → a ≡ None
none_left None b e = refl
none_left (Some x) b e = e

none_right : (a b : Option WireFault) → option_or a b ≡ None → b ≡ None
none_right None b e = e
none_right (Some x) b e = cc

-- Where no number of a list is refused, none of an item's is.
pub item_good : (js : List Value) (i : ℕ) (x : Value) → i < length js → first_fault (item_numbers (items_view js)) ≡ None → first_fault (numbers (view (get_or js i x))) ≡ None
item_good [] i x lt h = absurd (omega arith)
item_good (j ∷ js) zero x lt h = none_left _ _ (sym (first_fault-append (numbers (view j)) _) ∙ h)
item_good (j ∷ js) (suc i) x lt h = item_good js i x (omega arith) (none_right _ _ (sym (first_fault-append (numbers (view j)) _) ∙ h))

-- And where none of an object is, none of a member's is.
pub member_good : (done : List Entry) (e : Entry) (left : List Entry) → first_fault (member_numbers (members_view (done ++ e ∷ left))) ≡ None → first_fault (numbers (view e.1)) ≡ None
member_good [] e left h = none_left _ _ (sym (first_fault-append (numbers (view e.1)) _) ∙ h)
member_good (d ∷ done) e left h = member_good done e left (none_right _ _ (sym (first_fault-append (numbers (view d.1)) _) ∙ h))
