-- A value without undefined, printed and read again.
use Rattle.std.proofs.Common.{◌≡◌, suc, ℤ, pos, negsuc, true, List, ◌++◌, Some, None, Ok, refl, ap, ◌∙◌, arith}
use Rattle.std.specs.Option.{option_or}
use Rattle.std.proofs.lemmas.Bool.{le-leb, le-ltb}
use Rattle.std.proofs.lemmas.Int.{ints}
use Rattle.serde_json.specs.Data as json
use Rattle.serde_json.specs.Find.{of_integer, as_integer}
use Rattle.do_value.specs.Limits.{IsSafe, most_bytes, most_levels, most_number}
use Rattle.do_value.specs.Tree.{Tree, undefined, null, boolean, number, text, list, rec, Trees, no_trees, tree, Pairs, no_pairs, pair, size_of, depth_of}
use Rattle.do_value.specs.Sound.{IsSound, AreSound, ArePairsSound, IsValue}
use Rattle.do_wire.specs.Json.{json_of, items_of, members_of}
use Rattle.do_wire.specs.Numbers.{numbers, item_numbers, member_numbers, is_safe, fault_of, first_fault}
use Rattle.do_wire.specs.Reading.{whole_of, tree_in, trees_in_items, pairs_in_members, within_limits, unless_fault, reading_of}
use Rattle.do_wire.specs.Law.{IsDefined, AreDefined, ArePairsDefined}
use Rattle.do_wire.proofs.FirstFault.{first_fault-append}
use Rattle.do_wire.proofs.Printed.{members_of-kept}

-- a whole number is kept as JSON
whole_of-of_integer : (z : ℤ) → whole_of (of_integer z) ≡ z
whole_of-of_integer (pos n) = refl
whole_of-of_integer (negsuc n) = refl

as_integer-of_integer : (z : ℤ) → as_integer (of_integer z) ≡ Some z
as_integer-of_integer (pos n) = refl
as_integer-of_integer (negsuc n) = refl

-- and is refused nowhere in the range
is_safe-true : (z : ℤ) → IsSafe z → is_safe z ≡ true
is_safe-true (pos n) h = le-leb n most_number (omega (arith, ints, h.1))
is_safe-true (negsuc n) h = le-leb (suc n) most_number (omega (arith, ints, h.0))

fault_of-safe : (z : ℤ) → IsSafe z → fault_of (of_integer z) ≡ None
fault_of-safe z h = let tested = is_safe-true z h in rw (as_integer-of_integer z, tested) refl

not_undefined : (t : Tree) → IsDefined t → t ≡ undefined → ⊥
not_undefined undefined d e = d
not_undefined null d e = cc
not_undefined (boolean b) d e = cc
not_undefined (number z) d e = cc
not_undefined (text bs) d e = cc
not_undefined (list ts) d e = cc
not_undefined (rec ps) d e = cc

none_of : (ms ns : List json.Num) → first_fault ms ≡ None → first_fault ns ≡ None → first_fault (ms ++ ns) ≡ None
none_of ms ns a b = first_fault-append ms ns ∙ ap (λ o. option_or o (first_fault ns)) a ∙ b

-- no number of a value's JSON is refused
mutual
  good : (t : Tree) → IsSound t → first_fault (numbers (json_of t)) ≡ None
  good undefined s = refl
  good null s = refl
  good (boolean b) s = refl
  good (number z) s = rw (fault_of-safe z s) refl
  good (text bs) s = refl
  good (list ts) s = good_items ts s
  good (rec ps) s = good_members ps s

  good_items : (ts : Trees) → AreSound ts → first_fault (item_numbers (items_of ts)) ≡ None
  good_items no_trees s = refl
  good_items (tree t ts) s = none_of (numbers (json_of t)) (item_numbers (items_of ts)) (good t s.0) (good_items ts s.1)

  good_members : (ps : Pairs) → ArePairsSound ps → first_fault (member_numbers (members_of ps)) ≡ None
  good_members no_pairs s = refl
  good_members (pair k undefined ps) s = good_members ps s.3
  good_members (pair k null ps) s = good_members ps s.3
  good_members (pair k (boolean b) ps) s = good_members ps s.3
  good_members (pair k (number z) ps) s = none_of (numbers (json_of (number z))) (member_numbers (members_of ps)) (good (number z) s.2) (good_members ps s.3)
  good_members (pair k (text bs) ps) s = good_members ps s.3
  good_members (pair k (list ts) ps) s = none_of (numbers (json_of (list ts))) (member_numbers (members_of ps)) (good (list ts) s.2) (good_members ps s.3)
  good_members (pair k (rec qs) ps) s = none_of (numbers (json_of (rec qs))) (member_numbers (members_of ps)) (good (rec qs) s.2) (good_members ps s.3)

-- the tree of a value's JSON is the value, where nothing is undefined
mutual
  back : (t : Tree) → IsDefined t → tree_in (json_of t) ≡ t
  back undefined d = absurd d
  back null d = refl
  back (boolean b) d = refl
  back (number z) d = ap number (whole_of-of_integer z)
  back (text bs) d = refl
  back (list ts) d = ap list (back_items ts d)
  back (rec ps) d = ap rec (back_members ps d)

  back_items : (ts : Trees) → AreDefined ts → trees_in_items (items_of ts) ≡ ts
  back_items no_trees d = refl
  back_items (tree t ts) d = ap (λ u. tree u (trees_in_items (items_of ts))) (back t d.0) ∙ ap (tree t) (back_items ts d.1)

  back_members : (ps : Pairs) → ArePairsDefined ps → pairs_in_members (members_of ps) ≡ ps
  back_members no_pairs d = refl
  back_members (pair k t ps) d =
      ap pairs_in_members (members_of-kept k t ps (not_undefined t d.0))
      ∙ ap (λ u. pair k u (pairs_in_members (members_of ps))) (back t d.0) ∙ ap (pair k t) (back_members ps d.1)

-- a value is within the limits
allowed : (t : Tree) → IsValue t → within_limits t ≡ Ok t
allowed t h =
    let shallow = le-ltb most_levels (depth_of t) h.shallow in
    let small = le-ltb most_bytes (size_of t) h.small in
    rw (shallow, small) refl

pub read_back : (t : Tree) → IsValue t → IsDefined t → reading_of (json_of t) ≡ Ok t
read_back t h d = ap (λ o. unless_fault o (within_limits (tree_in (json_of t)))) (good t h.sound) ∙ ap within_limits (back t d) ∙ allowed t h
