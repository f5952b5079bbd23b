use Rattle.std.proofs.Common.{◌≡◌, ◌++◌, ◌≤◌, ◌+◌, ◌∷◌, [], None, map, get_or, ◌<◌, length, sym, ap, ◌∙◌, subst, append_assoc, string_bytes, rules, arith}
use Rattle.std.proofs.lemmas.List.{map-append}
use Rattle.std.proofs.lemmas.Result.{err_from_is_err_and}
use Rattle.serde_json.specs.View.{view, items_view, members_view}
use Rattle.serde_json.proofs.Views.{Entry}
use Rattle.do_value.specs.Tree.{size_of, depth_of, list, rec}
use Rattle.do_value.specs.Seen.{tree_of, trees_in, pairs_in, pair_of}
use Rattle.do_value.specs.Keyed.{gathered}
use Rattle.do_value.specs.declared.value.Value.TheVariants.{List as Listed, Rec}
use Rattle.do_wire.specs.Numbers.{numbers, item_numbers, member_numbers, first_fault}
use Rattle.do_wire.specs.Reading.{tree_in, trees_in_items, pairs_in_members}
use Rattle.do_wire.proofs.Answered.{larger, handed_on, text_fault, record_unbuilt, record_small}
use Rattle.do_wire.proofs.FirstFault.{item_good, member_good}
use Rattle.do_wire.proofs.Within.{item_depth, item_size, member_depth, member_size, key_size}
use Rattle.do_wire.proofs.Walked.{pair_in, list_walked, record_walked}
use Rattle.do_wire.proofs.read.+build.Goals as goal

pub build_list-build-requires : goal.build_list-build-requires
build_list-build-requires t c =
    let js = c.deref-item-items.result.now in
    let good = item_good js c.loop-item.item-index c.item-item.result c.loop-item-test.true (ap (λ l. first_fault (item_numbers (items_view l))) c.deref-item-items.ensures.value ∙ c.requires.whole) in
    let less = item_depth js c.loop-item.item-index c.item-item.result c.loop-item-test.true in
    let is = c.item-item.is in
    let same : depth_of (list (trees_in_items (items_view js))) ≡ depth_of (list (trees_in_items (items_view c.args.items.now.items))) = ap (λ l. depth_of (list (trees_in_items (items_view l)))) c.deref-item-items.ensures.value in
    let good' : first_fault (numbers (view c.item-item.result)) ≡ None = ap (λ j. first_fault (numbers (view j))) is ∙ good in
    let less' : depth_of (tree_in (view c.item-item.result)) < depth_of (list (trees_in_items (items_view js))) = subst (λ j. depth_of (tree_in (view j)) < depth_of (list (trees_in_items (items_view js)))) (sym is) less in
    (omega (arith, less', same, c.decreases), (good', omega (arith, less', same, c.requires.shallow)))

pub build_list-returns-in_err-value-clause-fault : goal.build_list-returns-in_err-value-clause-fault
build_list-returns-in_err-value-clause-fault t c =
    let js = c.deref-item-items.result.now in
    let whole : size_of (tree_in (view c.item-item.result)) ≤ size_of (list (trees_in_items (items_view c.args.items.now.items))) =
    subst (λ j. size_of (tree_in (view j)) ≤ size_of (list (trees_in_items (items_view c.args.items.now.items)))) (sym c.item-item.is)
    (subst (λ l. size_of (tree_in (view (get_or js c.loop-item.item-index c.item-item.result))) ≤ size_of (list (trees_in_items (items_view l)))) c.deref-item-items.ensures.value
    (item_size js c.loop-item.item-index c.item-item.result c.loop-item-test.true)) in
    handed_on _ _ _ (err_from_is_err_and c.from_residual.result c.from_residual.ensures.1) (larger whole c.in_err-value.ensures.fault)

pub build_list-returns-in_err-list-clause-fault : goal.build_list-returns-in_err-list-clause-fault
build_list-returns-in_err-list-clause-fault t c =
    let l = c.loop-item in
    let same = list_walked c.args.items.now.items c.deref-item-items.result.now l.item-index (trees_in l.values.items) c.deref-item-items.ensures.value c.loop-item-test.false l.invariant in
    handed_on _ _ _ (err_from_is_err_and c.from_residual-in_err-list.result c.from_residual-in_err-list.ensures.1)
    (record_unbuilt (Listed (trees_in l.values.items)) _ _ c.in_err-list.ensures.exact same c.requires.shallow)

pub build_list-returns-clause-value : goal.build_list-returns-clause-value
build_list-returns-clause-value t c =
    let l = c.loop-item in
    let same = list_walked c.args.items.now.items c.deref-item-items.result.now l.item-index (trees_in l.values.items) c.deref-item-items.ensures.value c.loop-item-test.false l.invariant in
    (record_small (Listed (trees_in l.values.items)) _ _ c.in_ok-list.ensures.exact same).0

pub build_list-returns-clause-small : goal.build_list-returns-clause-small
build_list-returns-clause-small t c =
    let l = c.loop-item in
    let same = list_walked c.args.items.now.items c.deref-item-items.result.now l.item-index (trees_in l.values.items) c.deref-item-items.ensures.value c.loop-item-test.false l.invariant in
    (record_small (Listed (trees_in l.values.items)) _ _ c.in_ok-list.ensures.exact same).1

pub build_record-returns-in_err-key-clause-fault : goal.build_record-returns-in_err-key-clause-fault
build_record-returns-in_err-key-clause-fault t c =
    let done = c.loop-name.invariant.0 in
    let e : Entry = (c.in-Some.name.now, c.in-Some.part.now) in
    let all : c.args.members.now.entries ≡ done ++ e ∷ c.next.new.self = c.loop-name.invariant.1 ∙ ap (λ es. done ++ es) c.in-Some.ensures.steps in
    let whole = subst (λ es. 10 + length (string_bytes e.0) ≤ size_of (rec (pairs_in_members (members_view es)))) (sym all) (key_size done e c.next.new.self) in
    let refused = text_fault (5 + length c.as_str.result.now) c.in_err-key.field-0.0 c.in_err-key.ensures.too_large c.in_err-key.ensures.within in
    let named = ap length c.as_str.ensures.value in
    handed_on _ _ _ (err_from_is_err_and c.from_residual.result c.from_residual.ensures.1) (larger (omega arith) refused)

pub build_record-build-requires : goal.build_record-build-requires
build_record-build-requires t c =
    let done = c.loop-name.invariant.0 in
    let e : Entry = (c.in-Some.name.now, c.in-Some.part.now) in
    let all : c.args.members.now.entries ≡ done ++ e ∷ c.next.new.self = c.loop-name.invariant.1 ∙ ap (λ es. done ++ es) c.in-Some.ensures.steps in
    let good : first_fault (numbers (view c.in-Some.part.now)) ≡ None = member_good done e c.next.new.self (ap (λ es. first_fault (member_numbers (members_view es))) (sym all) ∙ c.requires.whole) in
    let less = subst (λ es. depth_of (tree_in (view e.1)) < depth_of (rec (pairs_in_members (members_view es)))) (sym all) (member_depth done e c.next.new.self) in
    (omega (arith, less, c.decreases), (good, omega (arith, less, c.requires.shallow)))

pub build_record-returns-in_err-value-clause-fault : goal.build_record-returns-in_err-value-clause-fault
build_record-returns-in_err-value-clause-fault t c =
    let done = c.loop-name.invariant.0 in
    let e : Entry = (c.in-Some.name.now, c.in-Some.part.now) in
    let all : c.args.members.now.entries ≡ done ++ e ∷ c.next.new.self = c.loop-name.invariant.1 ∙ ap (λ es. done ++ es) c.in-Some.ensures.steps in
    let whole = subst (λ es. 9 + length (string_bytes e.0) + size_of (tree_in (view e.1)) ≤ size_of (rec (pairs_in_members (members_view es)))) (sym all) (member_size done e c.next.new.self) in
    handed_on _ _ _ (err_from_is_err_and c.from_residual-in_err-value.result c.from_residual-in_err-value.ensures.1) (larger (omega arith) c.in_err-value.ensures.fault)

pub build_record-loop-name-preserved : goal.build_record-loop-name-preserved
build_record-loop-name-preserved t c =
    let done = c.loop-name.invariant.0 in
    let e : Entry = (c.in-Some.name.now, c.in-Some.part.now) in
    let left = c.next.new.self in
    let all : c.args.members.now.entries ≡ done ++ e ∷ left = c.loop-name.invariant.1 ∙ ap (λ es. done ++ es) c.in-Some.ensures.steps in
    let pair : pair_of (c.in_ok-key.key, c.in_ok-value.value) ≡ pair_in e =
    let key : c.in_ok-key.key ≡ string_bytes e.0 = c.in_ok-key.ensures.value ∙ c.as_str.ensures.value in
    let value : tree_of c.in_ok-value.value ≡ tree_in (view e.1) = c.in_ok-value.ensures.value in
    cc in
    let pushed : c.push.new.self.items ≡ c.loop-name.pairs.items ++ (c.in_ok-key.key, c.in_ok-value.value) ∷ [] = search rules in (
      done ++ e ∷ [],
      all ∙ sym (append_assoc done (e ∷ []) left),
      ap pairs_in pushed ∙ map-append pair_of c.loop-name.pairs.items ((c.in_ok-key.key, c.in_ok-value.value) ∷ [])
          ∙ ap (λ ps. ps ++ pair_of (c.in_ok-key.key, c.in_ok-value.value) ∷ []) c.loop-name.invariant.2 ∙ ap (λ p. map pair_in done ++ p ∷ []) pair
          ∙ sym (map-append pair_in done (e ∷ [])),
    )

pub build_record-returns-in_err-fields-clause-fault : goal.build_record-returns-in_err-fields-clause-fault
build_record-returns-in_err-fields-clause-fault t c =
    let l = c.loop-name in
    let same = record_walked c.args.members.now.entries l.invariant.0 l.name-iterator (pairs_in l.pairs.items) l.invariant.1 c.in-None.ensures.steps.0 l.invariant.2 c.iter-name-items.ensures.ordered in
    handed_on _ _ _ (err_from_is_err_and c.from_residual-in_err-fields.result c.from_residual-in_err-fields.ensures.1)
    (record_unbuilt (Rec (gathered (pairs_in l.pairs.items))) _ _ c.in_err-fields.ensures.exact same c.requires.shallow)

pub build_record-returns-clause-value : goal.build_record-returns-clause-value
build_record-returns-clause-value t c =
    let l = c.loop-name in
    let same = record_walked c.args.members.now.entries l.invariant.0 l.name-iterator (pairs_in l.pairs.items) l.invariant.1 c.in-None.ensures.steps.0 l.invariant.2 c.iter-name-items.ensures.ordered in
    (record_small (Rec (gathered (pairs_in l.pairs.items))) _ _ c.in_ok-fields.ensures.exact same).0

pub build_record-returns-clause-small : goal.build_record-returns-clause-small
build_record-returns-clause-small t c =
    let l = c.loop-name in
    let same = record_walked c.args.members.now.entries l.invariant.0 l.name-iterator (pairs_in l.pairs.items) l.invariant.1 c.in-None.ensures.steps.0 l.invariant.2 c.iter-name-items.ensures.ordered in
    (record_small (Rec (gathered (pairs_in l.pairs.items))) _ _ c.in_ok-fields.ensures.exact same).1
