-- Words under their names, as the rows of a parse.
use Rattle.std.proofs.Common.{◌≡◌, ◌∙◌, ◌||◌, Bool, cond, true, false, refl, sym, ap, subst, arith, List, [], ◌∷◌, ◌++◌, map, Option, Some, None, is_some, bytes_eq, find, true≢false, option_and_then, slice_get}
use Rattle.std.proofs.lemmas.Slice.Eq.{bytes_eq-Decides}
use Rattle.clap.specs.Walk.{Row, at_row, has_row, first_of}
use Rattle.clap.specs.declared.builder.value_parser.Reading.TheVariants as reading
use Rattle.clap.specs.declared.parser.matches.ValueSource.TheVariants.{CommandLine}
use Rattle.command_words.specs.Words.{Text, Named, under, is_once}

-- ---- texts

pub same_text : (a b : Text) → bytes_eq a b ≡ true → a ≡ b
same_text a b e = grind (arith, bytes_eq-Decides a b, e)

pub text_same : (a : Text) → bytes_eq a a ≡ true
text_same a = grind (arith, bytes_eq-Decides a a)

other_way : (a b : Text) → bytes_eq a b ≡ false → bytes_eq b a ≡ false
other_way a b e = go (bytes_eq b a) refl
  where
    go : (t : Bool) → bytes_eq b a ≡ t → t ≡ false
    go false is = refl
    go true is =
        let same : b ≡ a = same_text b a is in
        absurd (true≢false (sym (text_same a) ∙ subst (λ (x : Text). bytes_eq a x ≡ false) same e))

-- ---- rows

abbrev pub row : Text × Text → Row
row e = record { id = e.0; values = e.1 ∷ []; count = None; source = Some CommandLine; reading = reading.AsWritten }

pub has_row-under : (name : Text) (es : Named) → has_row name (map row es) ≡ is_some (under name es)
has_row-under name [] = refl
has_row-under name (e ∷ es) = go (bytes_eq e.0 name) (has_row-under name es)
  where
    go : (b : Bool) → has_row name (map row es) ≡ is_some (under name es)
        → (b || has_row name (map row es)) ≡ is_some (cond b (Some e.1) (under name es))
    go true ih = refl
    go false ih = ih

pub first_of-under : (name : Text) (es : Named) → first_of name (map row es) ≡ under name es
first_of-under name [] = refl
first_of-under name (e ∷ es) = go (bytes_eq e.0 name) (first_of-under name es)
  where
    go : (b : Bool) → first_of name (map row es) ≡ under name es
        → option_and_then (λ (r : Row). slice_get r.values 0) (cond b (Some (row e)) (find (λ r. bytes_eq r.id name) (map row es)))
        ≡ cond b (Some e.1) (under name es)
    go true ih = refl
    go false ih = ih

-- a row of a new name joins at the end
pub row_added : (id : Text) (change : Row → List Row) (missing rows : List Row) → has_row id rows ≡ false → at_row id change missing rows ≡ rows ++ missing
row_added id change missing [] e = refl
row_added id change missing (r ∷ rs) e = go (bytes_eq r.id id) (row_added id change missing rs) e
  where
    go : (b : Bool) → (has_row id rs ≡ false → at_row id change missing rs ≡ rs ++ missing) → (b || has_row id rs) ≡ false
        → cond b (change r ++ rs) (r ∷ at_row id change missing rs) ≡ r ∷ (rs ++ missing)
    go true ih is = absurd (true≢false is)
    go false ih is = ap (λ xs. r ∷ xs) (ih is)

pub map_row_added : (es : Named) (e : Text × Text) → map row es ++ row e ∷ [] ≡ map row (es ++ e ∷ [])
map_row_added [] e = refl
map_row_added (x ∷ es) e = ap (λ rs. row x ∷ rs) (map_row_added es e)

-- ---- each name once

under_later : (name : Text) (es : Named) (v : Text) (more : Named) → is_some (under name (es ++ (name, v) ∷ more)) ≡ true
under_later name [] v more = rw (text_same name) refl
under_later name (e ∷ es) v more = go (bytes_eq e.0 name) (under_later name es v more)
  where
    go : (b : Bool) → is_some (under name (es ++ (name, v) ∷ more)) ≡ true → is_some (cond b (Some e.1) (under name (es ++ (name, v) ∷ more))) ≡ true
    go true ih = refl
    go false ih = ih

cond_false : (b : Bool) → cond b false false ≡ false
cond_false true = refl
cond_false false = refl

-- a name that stands already is no longer alone
pub not_once : (name v : Text) (es more : Named) → is_some (under name es) ≡ true → is_once (es ++ (name, v) ∷ more) ≡ false
not_once name v [] more e = absurd (true≢false (sym e))
not_once name v (x ∷ es) more e = go (not_once name v es more) (bytes_eq x.0 name) refl e
  where
    go : (is_some (under name es) ≡ true → is_once (es ++ (name, v) ∷ more) ≡ false) → (b : Bool) → bytes_eq x.0 name ≡ b → is_some (cond b (Some x.1) (under name es)) ≡ true
        → cond (is_some (under x.0 (es ++ (name, v) ∷ more))) false (is_once (es ++ (name, v) ∷ more)) ≡ false
    go ih true is h =
        let here : is_some (under x.0 (es ++ (name, v) ∷ more)) ≡ true =
        subst (λ (n : Text). is_some (under n (es ++ (name, v) ∷ more)) ≡ true) (sym (same_text x.0 name is)) (under_later name es v more) in
        ap (λ b. cond b false (is_once (es ++ (name, v) ∷ more))) here
    go ih false is h =
        ap (λ (b : Bool). cond (is_some (under x.0 (es ++ (name, v) ∷ more))) false b) (ih h) ∙ cond_false (is_some (under x.0 (es ++ (name, v) ∷ more)))

under_last : (other : Text) (es : Named) (name v : Text) → bytes_eq name other ≡ false → is_some (under other es) ≡ false
    → is_some (under other (es ++ (name, v) ∷ [])) ≡ false
under_last other [] name v ne e = rw ne refl
under_last other (x ∷ es) name v ne e = go (under_last other es name v ne) (bytes_eq x.0 other) e
  where
    go : (is_some (under other es) ≡ false → is_some (under other (es ++ (name, v) ∷ [])) ≡ false) → (b : Bool) → is_some (cond b (Some x.1) (under other es)) ≡ false → is_some (cond b (Some x.1) (under other (es ++ (name, v) ∷ []))) ≡ false
    go ih true h = absurd (true≢false h)
    go ih false h = ih h

once_parts : (a b : Bool) → cond a false b ≡ true → (a ≡ false) × (b ≡ true)
once_parts true b e = absurd (true≢false (sym e))
once_parts false b e = (refl, e)

or_parts : (b : Bool) {X : Type 0} (x : X) (o : Option X) → is_some (cond b (Some x) o) ≡ false → (b ≡ false) × (is_some o ≡ false)
or_parts true x o e = absurd (true≢false e)
or_parts false x o e = (refl, e)

-- a new name leaves each alone
pub once_more : (name v : Text) (es : Named) → is_once es ≡ true → is_some (under name es) ≡ false → is_once (es ++ (name, v) ∷ []) ≡ true
once_more name v [] o e = refl
once_more name v (x ∷ es) o e =
    let alone = once_parts (is_some (under x.0 es)) (is_once es) o in
    let new = or_parts (bytes_eq x.0 name) x.1 (under name es) e in
    let ne : bytes_eq name x.0 ≡ false = other_way x.0 name new.0 in
    ap (λ b. cond b false (is_once (es ++ (name, v) ∷ []))) (under_last x.0 es name v ne alone.0) ∙ once_more name v es alone.1 new.1
