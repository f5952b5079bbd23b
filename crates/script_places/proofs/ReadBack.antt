-- What lists and records give when they are read.
use Rattle.std.proofs.Common.{◌≡◌, ℕ, ℤ, pos, Bool, true, false, List, length, Ok, codes, refl, sym, ap, ◌∙◌}
use Rattle.std.specs.Prelude.{if◌then◌else◌}
use Rattle.std.specs.Str.{bytes_eq}
use Rattle.std.proofs.lemmas.Slice.Eq.{bytes_eq-Decides}
use Rattle.do_value.specs.Keyed.{value_at}
use Rattle.do_value.specs.Tree.{Tree, number, text, items, fields, pairs_of}
use Rattle.script_ops.specs.Calls.{length_of}
use Rattle.script_ops.specs.Lists.{fields_of}
use Rattle.script_ops.proofs.Parts.{items_back, fields_back}
use Rattle.script_mean.specs.Places.{property, element, field_of, item, or_undefined}
use Rattle.script_mean.specs.Task.{Fields}
use Rattle.script_places.specs.Reads.{is_length}

-- Both branches of a test give the same.
both : {X : Type 0} (b : Bool) (x y z : X) → (b ≡ true → x ≡ z) → (b ≡ false → y ≡ z) → (if b then x else y) ≡ z
both true x y z f g = f refl
both false x y z f g = g refl

-- A field of a record, also where its name is `length`.
field_back : (ps : Fields) (name : List ℕ) → or_undefined (value_at name (fields_of (pairs_of ps))) ≡ or_undefined (value_at name ps)
field_back ps name = ap (λ qs. or_undefined (value_at name qs)) (fields_back ps)

pub property_field : (ps : Fields) (name : List ℕ) (part : Tree) → part ≡ or_undefined (value_at name ps) → property (fields ps) name ≡ Ok part
property_field ps name part e =
    both (bytes_eq (codes "length") name) (length_of (fields ps)) (field_of (fields ps) name) (Ok part)
    (λ is. ap (λ k. Ok (or_undefined (value_at k (fields_of (pairs_of ps))))) ((bytes_eq-Decides (codes "length") name).0 is) ∙ ap Ok (field_back ps name ∙ sym e))
    (λ other. ap Ok (field_back ps name ∙ sym e))

-- The length of a list.
pub property_length : (ts : List Tree) (name : List ℕ) (n : ℤ) → is_length name ≡ true → n ≡ pos (length ts) → property (items ts) name ≡ Ok (number n)
property_length ts name n is e =
    both (bytes_eq (codes "length") name) (length_of (items ts)) (field_of (items ts) name) (Ok (number n))
    (λ same. ap (λ us. Ok (number (pos (length us)))) (items_back ts) ∙ ap (λ m. Ok (number m)) (sym e))
    (λ other. absurd (cc))

-- An item of a list, and a field by an index.
pub element_item : (ts : List Tree) (z : ℤ) (part : Tree) → part ≡ item ts z → element (items ts) (number z) ≡ Ok part
element_item ts z part e = ap (λ us. Ok (item us z)) (items_back ts) ∙ ap Ok (sym e)

pub element_field : (ps : Fields) (name : List ℕ) (part : Tree) → part ≡ or_undefined (value_at name ps) → element (fields ps) (text name) ≡ Ok part
element_field ps name part e = ap Ok (field_back ps name ∙ sym e)
