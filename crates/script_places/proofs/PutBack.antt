-- Parts that are taken out of lists and records, and put back.
use Rattle.std.proofs.Common.{◌≡◌, ℕ, ℤ, pos, ◌+◌, ◌⊎◌, List, [], ◌∷◌, ◌++◌, length, Result, Ok, Err, refl, sym, ap, subst, ◌∙◌, inl, inr, arith, length-append}
use Rattle.std.specs.Prelude.{IsErr, IfOk, OnOk, IfErr}
use Rattle.std.proofs.lemmas.Bool.{cases_lt, le-ltb}
use Rattle.do_value.specs.Changed.{fits, IsFit, put_pair}
use Rattle.do_value.specs.Keyed.{value_at}
use Rattle.do_value.specs.Limits.{most_bytes, most_levels}
use Rattle.do_value.specs.Tree.{Tree, number, text, items, fields, size_of, depth_of}
use Rattle.do_value.specs.Seen.{tree_of}
use Rattle.do_value.specs.declared.value.Value.{Value}
use Rattle.do_value.specs.declared.fault.BuildFault.{BuildFault}
use Rattle.do_value.specs.declared.fault.BuildFault.TheVariants.{TooDeep, TooLarge, NoMemory}
use Rattle.script_ops.specs.Errors.{within_limits}
use Rattle.script_ops.proofs.Parts.{items_back, fields_back}
use Rattle.script_mean.specs.Places.{Step, Change, named, indexed, part, item, or_undefined, push, with_part, with_item, with_field, at_part, limited, ◌then◌}
use Rattle.script_mean.specs.Task.{Fields}
use Rattle.script_ops.specs.Answers.{stop_of}
use Rattle.script_places.specs.Changes.{Changes, Puts, IsTaken, OwnChanges}
use Rattle.script_ops.specs.declared.fault.Stop.{Stop}
use Rattle.script_ops.specs.declared.fault.Stop.TheVariants.{Throws, NoRoom}
use Rattle.script_places.proofs.Fields.{with_is_put}
use Rattle.script_places.proofs.Grown.{refused_if}
use Rattle.script_places.proofs.ReadBack.{property_field, element_field, element_item}
use Rattle.script_places.proofs.Steps.{then_thrown, inner_refused, put_refused, own_inner_refused, own_put_refused}

-- What is taken out of a record by its name or by an index, and out of a list.
pub taken_named : (old new : Fields) (name : List ℕ) (v : Value) → tree_of v ≡ or_undefined (value_at name old)
    → ((t : Tree) → with_field name t new ≡ with_field name t old) → IsTaken (fields old) (fields new) (named name) (Ok v)
taken_named old new name v e h = record {
  part = property_field old name (tree_of v) e;
  rest = λ t. ap (λ (ps : Fields). Ok (fields (with_field name t ps))) (fields_back new) ∙ ap (λ (ps : Fields). Ok (fields ps)) (h t)
      ∙ sym (ap (λ (ps : Fields). Ok (fields (with_field name t ps))) (fields_back old));
}

pub taken_keyed : (old new : Fields) (name : List ℕ) (v : Value) → tree_of v ≡ or_undefined (value_at name old)
    → ((t : Tree) → with_field name t new ≡ with_field name t old) → IsTaken (fields old) (fields new) (indexed (text name)) (Ok v)
taken_keyed old new name v e h = record {
  part = element_field old name (tree_of v) e;
  rest = λ t. ap (λ (ps : Fields). Ok (fields (with_field name t ps))) (fields_back new) ∙ ap (λ (ps : Fields). Ok (fields ps)) (h t)
      ∙ sym (ap (λ (ps : Fields). Ok (fields (with_field name t ps))) (fields_back old));
}

pub taken_item : (old new : List Tree) (z : ℤ) (v : Value) → tree_of v ≡ item old z
    → ((t : Tree) → with_item new z t ≡ with_item old z t) → IsTaken (items old) (items new) (indexed (number z)) (Ok v)
taken_item old new z v e h = record {
  part = element_item old z (tree_of v) e;
  rest = λ t. ap (λ us. with_item us z t) (items_back new) ∙ h t ∙ sym (ap (λ us. with_item us z t) (items_back old));
}

-- And so where there may have been no memory.
pub taken_named_if : (old new : Fields) (name : List ℕ) (r : Result Value Stop) → IfOk r (λ v. tree_of v ≡ or_undefined (value_at name old)) → OnOk r ((t : Tree) → with_field name t new ≡ with_field name t old) → IfErr r (λ stop. stop ≡ NoRoom)
    → IsTaken (fields old) (fields new) (named name) r
taken_named_if old new name (Ok v) e h n = taken_named old new name v e h
taken_named_if old new name (Err (Throws refusal)) e h n = absurd (cc)
taken_named_if old new name (Err NoRoom) e h n = tt

pub taken_keyed_if : (old new : Fields) (name : List ℕ) (r : Result Value Stop) → IfOk r (λ v. tree_of v ≡ or_undefined (value_at name old)) → OnOk r ((t : Tree) → with_field name t new ≡ with_field name t old) → IfErr r (λ stop. stop ≡ NoRoom)
    → IsTaken (fields old) (fields new) (indexed (text name)) r
taken_keyed_if old new name (Ok v) e h n = taken_keyed old new name v e h
taken_keyed_if old new name (Err (Throws refusal)) e h n = absurd (cc)
taken_keyed_if old new name (Err NoRoom) e h n = tt

pub taken_item_if : (old new : List Tree) (z : ℤ) (r : Result Value Stop) → IfOk r (λ v. tree_of v ≡ item old z) → OnOk r ((t : Tree) → with_item new z t ≡ with_item old z t) → IfErr r (λ stop. stop ≡ NoRoom)
    → IsTaken (items old) (items new) (indexed (number z)) r
taken_item_if old new z (Ok v) e h n = taken_item old new z v e h
taken_item_if old new z (Err (Throws refusal)) e h n = absurd (cc)
taken_item_if old new z (Err NoRoom) e h n = tt

-- A value that isn't built passes the limits, unless memory was wanted.
fit_passes : (whole : Tree) (fault : BuildFault) → IsFit whole (Err fault) → (fault ≡ NoMemory) ⊎ IsErr (within_limits whole)
fit_passes whole fault (inr none) = inl (cc)
fit_passes whole fault (inl exact) = elim (cases_lt most_levels (depth_of whole)) [
  | inl deep ↦ inr (refused_if whole (inl deep))
  | inr shallow ↦ elim (cases_lt most_bytes (size_of whole)) [
    | inl large ↦ inr (refused_if whole (inr large))
    | inr small ↦
        let not_deep = le-ltb most_levels (depth_of whole) shallow in
        let not_large = le-ltb most_bytes (size_of whole) small in
        let ok : fits whole ≡ Ok tt = rw (not_deep, not_large) refl in
        absurd (cc)
  ]
]

refused_fit : (whole : Tree) (fault : BuildFault) → (fault ≡ NoMemory → ⊥) → IsFit whole (Err fault) → IsErr (within_limits whole)
refused_fit whole fault other h = elim (fit_passes whole fault h) [
  | inl none ↦ absurd (other none)
  | inr refused ↦ refused
]

-- So a part that isn't put back isn't within the limits, unless memory was wanted,
pub puts_stop : (made : Result Tree Tree) (whole new : Tree) (fault : BuildFault) → made ≡ Ok whole → IsFit whole (Err fault) → Puts made new (Err (stop_of fault))
puts_stop made whole new TooDeep e h = subst (λ o. IsErr (o then within_limits)) (sym e) (refused_fit whole TooDeep (λ x. cc) h)
puts_stop made whole new (TooLarge size limit) e h = subst (λ o. IsErr (o then within_limits)) (sym e) (refused_fit whole (TooLarge size limit) (λ x. cc) h)
puts_stop made whole new NoMemory e h = tt

-- nor is a list to which an item isn't pushed.
abbrev given_push : Tree → List Tree → Result (Tree × Tree) Tree
given_push t ts = Ok (items (ts ++ t ∷ []), number (pos (length ts + 1)))

push_refused : (ts : List Tree) (t : Tree) → IsErr (within_limits (items (ts ++ t ∷ []))) → IsErr (push t (items ts) then limited)
push_refused ts t h =
    subst (λ us. IsErr (given_push t us then limited)) (sym (items_back ts))
    (then_thrown (within_limits (items (ts ++ t ∷ []))) (λ u. given_push t ts) h)

pub push_stop : (ts : List Tree) (t new : Tree) (fault : BuildFault) → IsFit (items (ts ++ t ∷ [])) (Err fault) → Changes (push t (items ts)) new (Err (stop_of fault))
push_stop ts t new TooDeep h = push_refused ts t (refused_fit (items (ts ++ t ∷ [])) TooDeep (λ x. cc) h)
push_stop ts t new (TooLarge size limit) h = push_refused ts t (refused_fit (items (ts ++ t ∷ [])) (TooLarge size limit) (λ x. cc) h)
push_stop ts t new NoMemory h = tt

-- What is pushed stands behind the others, and is counted.
abbrev counted_push : List Tree → Tree → ℤ → Result (Tree × Tree) Tree
counted_push ts t n = Ok (items (ts ++ t ∷ []), number n)

abbrev listed : ℤ → List Tree → Result (Tree × Tree) Tree
listed n ts = Ok (items ts, number n)

pub pushed : (ts new : List Tree) (t : Tree) (n : ℤ) → new ≡ ts ++ t ∷ [] → n ≡ pos (length new) → push t (items ts) ≡ Ok (items new, number n)
pushed ts new t n is e =
    let count : length ts + 1 ≡ length new = omega (arith, ap (λ (us : List Tree). length us) is, length-append ts (t ∷ [])) in
    ap (given_push t) (items_back ts) ∙ ap (counted_push ts t) (ap pos count ∙ sym e) ∙ ap (listed n) (sym is)

-- A field that is put stands where the definition puts it.
pub field_put : (old new : Fields) (name key : List ℕ) (t : Tree) → key ≡ name → new ≡ put_pair (key, t) old → with_field name t old ≡ new
field_put old new name key t same is = with_is_put name t old ∙ ap (λ (k : List ℕ). put_pair (k, t) old) (sym same) ∙ sym is

pub field_fit : (old : Fields) (name key : List ℕ) (t : Tree) (fault : BuildFault) → key ≡ name → IsFit (fields (put_pair (key, t) old)) (Err fault)
    → IsFit (fields (with_field name t old)) (Err fault)
field_fit old name key t fault same h =
    subst (λ (ps : Fields). IsFit (fields ps) (Err fault)) (sym (with_is_put name t old ∙ ap (λ (k : List ℕ). put_pair (k, t) old) (sym same))) h

-- And so in a value.
pub puts_named : (ps : Fields) (name : List ℕ) (t new : Tree) (r : Result (Unit {0}) Stop) → Puts (Ok (fields (with_field name t ps))) new r → Puts (with_part (fields ps) (named name) t) new r
puts_named ps name t new r h = subst (λ (qs : Fields). Puts (Ok (fields (with_field name t qs))) new r) (sym (fields_back ps)) h

pub puts_keyed : (ps : Fields) (name : List ℕ) (t new : Tree) (r : Result (Unit {0}) Stop) → Puts (Ok (fields (with_field name t ps))) new r
    → Puts (with_part (fields ps) (indexed (text name)) t) new r
puts_keyed ps name t new r h = subst (λ (qs : Fields). Puts (Ok (fields (with_field name t qs))) new r) (sym (fields_back ps)) h

pub puts_item : (ts : List Tree) (z : ℤ) (t new : Tree) (r : Result (Unit {0}) Stop) → Puts (with_item ts z t) new r → Puts (with_part (items ts) (indexed (number z)) t) new r
puts_item ts z t new r h = subst (λ us. Puts (with_item us z t) new r) (sym (items_back ts)) h

-- What stops the change of a part stops that of the whole,
pub inner_stops : (v p x y : Tree) (s : Step) (ss : List Step) (change : Change) (stop : Stop) → part v s ≡ Ok p → Changes (at_part ss change p) x (Err stop)
    → Changes (at_part (s ∷ ss) change v) y (Err stop)
inner_stops v p x y s ss change (Throws refusal) read h = inner_refused v p s ss change read h
inner_stops v p x y s ss change NoRoom read h = tt

-- and so does what stops it from being put back.
pub put_stops : (v p x y : Tree) (s : Step) (ss : List Step) (change : Change) (new : Tree × Tree) (stop : Stop) → part v s ≡ Ok p → at_part ss change p ≡ Ok new
    → Puts (with_part v s new.0) x (Err stop) → Changes (at_part (s ∷ ss) change v) y (Err stop)
put_stops v p x y s ss change new (Throws refusal) read inner h = put_refused v p s ss change new read inner h
put_stops v p x y s ss change new NoRoom read inner h = tt

pub own_inner_stops : (inner : Result (Tree × Tree) Tree) (x : Tree) (name : List ℕ) (old new : Fields) (stop : Stop) → Changes inner x (Err stop)
    → OwnChanges inner name old new (Err stop)
own_inner_stops inner x name old new (Throws refusal) h = own_inner_refused inner name old h
own_inner_stops inner x name old new NoRoom h = tt

pub own_put_stops : (inner : Result (Tree × Tree) Tree) (made : Tree × Tree) (x : Tree) (name : List ℕ) (old new : Fields) (stop : Stop) → inner ≡ Ok made
    → Puts (Ok (fields (with_field name made.0 old))) x (Err stop) → OwnChanges inner name old new (Err stop)
own_put_stops inner made x name old new (Throws refusal) is h = own_put_refused inner made name old is h
own_put_stops inner made x name old new NoRoom is h = tt
