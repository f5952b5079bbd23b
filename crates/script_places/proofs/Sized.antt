-- Sizes that are found without a change.
use Rattle.std.proofs.Common.{◌≡◌, ℕ, ◌+◌, ◌-◌, ◌^◌, ◌<◌, min, pos, ℤ, List, [], ◌∷◌, ◌++◌, set, length, Some, None, Result, Ok, Err, slice_get, sym, subst, arith}
use Rattle.do_value.specs.Keyed.{value_at}
use Rattle.do_value.specs.Limits.{told}
use Rattle.do_value.specs.Sound.{IsValue}
use Rattle.do_value.specs.Tree.{Tree, number, text, items, fields, size_of}
use Rattle.do_value.proofs.Changed.{size_more, size_set, size_within}
use Rattle.script_ops.proofs.Parts.{items_back, fields_back}
use Rattle.script_mean.specs.Places.{Step, Change, named, indexed, part, push, with_part, with_item, with_field, at_part, ◌then◌}
use Rattle.script_mean.specs.Task.{Fields}
use Rattle.script_places.specs.Changes.{Sizes, whole_of}
use Rattle.script_ops.specs.declared.refusal.Refusal.{Refusal}
use Rattle.script_places.proofs.Fields.{size_over, size_new, size_field}
use Rattle.script_places.proofs.Items.{with_in, with_end}

-- A sum that stops at u64's greatest value.
told_sum : (base size whole result n : ℕ) → result ≡ min (base + size) (2 ^ 64 - 1) → size ≡ told n → whole ≡ base + n → result ≡ told whole
told_sum base size whole result n r s w = omega arith

-- A list with another item, and with one more;
pub sized_set : (ts : List Tree) (i : ℕ) (old : Tree) (whole part size result : ℕ) → slice_get ts i ≡ Some old → i < length ts → whole ≡ size_of (items ts) → part ≡ size_of old
    → result ≡ min (whole - part + size) (2 ^ 64 - 1) → (t : Tree) → size ≡ told (size_of t) → Sizes (with_item ts (pos i) t) (Ok result)
sized_set ts i old whole part size result at lt is was sum t e =
    subst (λ r. Sizes r (Ok result)) (sym (with_in ts i t lt))
    (told_sum (whole - part) size (size_of (items (set ts i t))) result (size_of t) sum e (omega (arith, size_set ts i t old at, size_within ts i old at)))

pub sized_more : (ts : List Tree) (i whole size result : ℕ) → i ≡ length ts → whole ≡ size_of (items ts)
    → result ≡ min (whole + size) (2 ^ 64 - 1) → (t : Tree) → size ≡ told (size_of t) → Sizes (with_item ts (pos i) t) (Ok result)
sized_more ts i whole size result end is sum t e =
    subst (λ r. Sizes r (Ok result)) (sym (with_end ts i t end))
    (told_sum whole size (size_of (items (ts ++ t ∷ []))) result (size_of t) sum e (omega (arith, size_more ts t)))

-- a record with another field, and with one more.
pub sized_over : (ps : Fields) (name : List ℕ) (old : Tree) (whole part size result : ℕ) → IsValue (fields ps) → value_at name ps ≡ Some old → whole ≡ size_of (fields ps)
    → part ≡ size_of old → result ≡ min (whole - part + size) (2 ^ 64 - 1) → (t : Tree) → size ≡ told (size_of t) → result ≡ told (size_of (fields (with_field name t ps)))
sized_over ps name old whole part size result value at is was sum t e =
    told_sum (whole - part) size (size_of (fields (with_field name t ps))) result (size_of t) sum e
    (omega (arith, size_over name t old ps value.sound at, size_field name old ps at))

pub sized_new : (ps : Fields) (name : List ℕ) (whole long size result : ℕ) → value_at name ps ≡ None → whole ≡ size_of (fields ps) → long ≡ length name
    → result ≡ min (whole + 4 + long + size) (2 ^ 64 - 1) → (t : Tree) → size ≡ told (size_of t) → result ≡ told (size_of (fields (with_field name t ps)))
sized_new ps name whole long size result at is length_is sum t e =
    told_sum (whole + 4 + long) size (size_of (fields (with_field name t ps))) result (size_of t) sum e (omega (arith, size_new name t ps at))

-- What is found of the fields of a record and of the items of a list is found of these.
pub sized_named : (ps : Fields) (name : List ℕ) (t : Tree) (r : ℕ) → r ≡ told (size_of (fields (with_field name t ps))) → Sizes (with_part (fields ps) (named name) t) (Ok r)
sized_named ps name t r e = subst (λ (qs : Fields). r ≡ told (size_of (fields (with_field name t qs)))) (sym (fields_back ps)) e

pub sized_keyed : (ps : Fields) (name : List ℕ) (t : Tree) (r : ℕ) → r ≡ told (size_of (fields (with_field name t ps))) → Sizes (with_part (fields ps) (indexed (text name)) t) (Ok r)
sized_keyed ps name t r e = subst (λ (qs : Fields). r ≡ told (size_of (fields (with_field name t qs)))) (sym (fields_back ps)) e

pub sized_item : (ts : List Tree) (z : ℤ) (t : Tree) (r : Result ℕ Refusal) → Sizes (with_item ts z t) r → Sizes (with_part (items ts) (indexed (number z)) t) r
sized_item ts z t r h = subst (λ us. Sizes (with_item us z t) r) (sym (items_back ts)) h

-- A list that is pushed to.
pub sized_push : (ts : List Tree) (t : Tree) (whole size : ℕ) → whole ≡ size_of (items ts) → size ≡ size_of t → IsValue (items ts) → IsValue t
    → Sizes (whole_of (push t (items ts))) (Ok (whole + size))
sized_push ts t whole size is long value new =
    subst (λ us. whole + size ≡ told (size_of (items (us ++ t ∷ [])))) (sym (items_back ts))
    (omega (arith, is, long, size_more ts t, value.small, new.small))

-- What is put back into a part has the size that is found with the part's.
put_back : (made : Result Tree Tree) (given : Tree) (r : Result ℕ Refusal) → Sizes made r → Sizes (whole_of (made then λ whole. Ok (whole, given))) r
put_back (Ok whole) given (Ok size) h = h
put_back (Ok whole) given (Err refusal) h = h
put_back (Err e) given (Ok size) h = h
put_back (Err e) given (Err refusal) h = h

sized_then : (inner : Result (Tree × Tree) Tree) (f : Tree → Result Tree Tree) (size : ℕ) (r : Result ℕ Refusal) → Sizes (whole_of inner) (Ok size)
    → ((t : Tree) → size ≡ told (size_of t) → Sizes (f t) r) → Sizes (whole_of (inner then λ new. f new.0 then λ whole. Ok (whole, new.1))) r
sized_then (Ok new) f size r h g = put_back (f new.0) new.1 r (g new.0 h)
sized_then (Err e) f size r h g = absurd h

pub sized_at : (v p : Tree) (s : Step) (ss : List Step) (change : Change) (size : ℕ) (r : Result ℕ Refusal) → part v s ≡ Ok p
    → Sizes (whole_of (at_part ss change p)) (Ok size) → ((t : Tree) → size ≡ told (size_of t) → Sizes (with_part v s t) r)
    → Sizes (whole_of (at_part (s ∷ ss) change v)) r
sized_at v p s ss change size r read inner put =
    subst (λ o. Sizes (whole_of (o then λ old. at_part ss change old then λ new. with_part v s new.0 then λ whole. Ok (whole, new.1))) r) (sym read)
    (sized_then (at_part ss change p) (with_part v s) size r inner put)
