use Rattle.std.proofs.Common.{◌≡◌, ℕ, List, true≢false, add-one, refl, sym, ap, subst, suc, get_or, rules, ◌∙◌, map, take, take_all, arith}
use Rattle.serde_json.specs.Data.{array, object, put}
use Rattle.serde_json.specs.View as view
use Rattle.serde_json.proofs.Views.{view-Array, view-Object}
use Rattle.do_value.specs.Tree.{undefined, items, fields, pairs_of}
use Rattle.do_value.specs.Keyed.{IsAscending}
use Rattle.do_value.specs.Seen.{tree_of, pairs_in}
use Rattle.do_value.proofs.Parts.{item_depth-lt, field_depth-lt}
use Rattle.do_value.specs.declared.value.Value.{Value}
use Rattle.do_wire.specs.Json.{json_of, members_of}
use Rattle.do_wire.proofs.Printed.{items_of-trees_in, put_next, skip_next}
use Rattle.do_wire.proofs.print.+print.Goals as goal
use Rattle.do_wire.proofs.print.+print.Goals.{record_to_json-then-not-is_undefined+in_ok-json+in_ok-put_member, record_to_json-else-not-is_undefined}

pub list_to_json-to_json-requires : goal.list_to_json-to_json-requires
list_to_json-to_json-requires t c =
    let less = item_depth-lt c.as_slice-part-items.result.now c.loop-part.part-index c.part-item.result refl c.as_slice-part-items.ensures.values c.loop-part-test.true c.part-item.is in
    (omega (arith, less, c.decreases), tt)

pub list_to_json-returns : goal.list_to_json-returns
list_to_json-returns t c =
    let vs = c.as_slice-part-items.result.now in
    let all : take c.loop-part.part-index vs ≡ vs = take_all _ vs c.loop-part-test.false in
    view-Array c.loop-part.values ∙ ap (λ ds. array (view.items_of ds)) (c.loop-part.invariant ∙ ap (map (λ v. json_of (tree_of v))) all)
    ∙ ap array (items_of-trees_in vs) ∙ ap (λ ts. json_of (items ts)) c.as_slice-part-items.ensures.values

pub record_to_json-to_json-requires : goal.record_to_json-to_json-requires
record_to_json-to_json-requires t c =
    let less = field_depth-lt c.as_slice-key-items.result.now c.loop-key.key-index c.loop-key-item.result refl c.as_slice-key-items.ensures.pairs c.loop-key-test.true c.loop-key-item.is in
    (omega (arith, less, c.decreases), tt)

pub record_to_json-loop-key-preserved : goal.record_to_json-loop-key-preserved
record_to_json-loop-key-preserved t c =
    let i = c.loop-key.key-index in
    let ps = c.as_slice-key-items.result.now in
    let x = c.loop-key-item.result in
    let ascending : IsAscending (pairs_in ps) = subst IsAscending (sym c.as_slice-key-items.ensures.pairs) c.as_slice-key-items.ensures.ascending in
    let item : x ≡ get_or ps i x = c.loop-key-item.is in
    elim c.if-not-is_undefined.branch [
      | record_to_json-then-not-is_undefined+in_ok-json+in_ok-put_member w ↦
          let json : view.view w.in_ok-json.json ≡ json_of (tree_of x.1) = w.in_ok-json.ensures in
          let added : view.members_view w.put_member.new.members.entries ≡ put x.0 (json_of (tree_of x.1)) (view.members_view c.loop-key.members.entries) = search rules in
          let defined : tree_of (get_or ps i x).1 ≡ undefined → ⊥ = λ u. true≢false (sym (w.if-not-is_undefined.ensures.1 (ap (λ (p : List ℕ × Value). tree_of p.1) item ∙ u))) in
          let here : view.members_view w.put_member.new.members.entries ≡ members_of (pairs_of (pairs_in (take (suc i) ps))) =
          added ∙ ap (put x.0 (json_of (tree_of x.1))) c.loop-key.invariant ∙ ap (λ (p : List ℕ × Value). put p.0 (json_of (tree_of p.1)) (members_of (pairs_of (pairs_in (take i ps))))) item
          ∙ put_next ps i x c.loop-key-test.true ascending defined in
          rw (w.members-is, add-one) here
      | record_to_json-else-not-is_undefined w ↦
          let none : tree_of (get_or ps i x).1 ≡ undefined = sym (ap (λ (p : List ℕ × Value). tree_of p.1) item) ∙ w.if-not-is_undefined.ensures.0 refl in
          rw (w.members-is, add-one) (c.loop-key.invariant ∙ skip_next ps i x c.loop-key-test.true none)
    ]

pub record_to_json-returns : goal.record_to_json-returns
record_to_json-returns t c =
    let ps = c.as_slice-key-items.result.now in
    let all : take c.loop-key.key-index ps ≡ ps = take_all _ ps c.loop-key-test.false in
    view-Object c.loop-key.members ∙ ap object (c.loop-key.invariant ∙ ap (λ qs. members_of (pairs_of (pairs_in qs))) all)
    ∙ ap (λ qs. json_of (fields qs)) c.as_slice-key-items.ensures.pairs
