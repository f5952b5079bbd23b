-- What sorted texts and sorted maps tell, one element of a list after another.
use Rattle.std.proofs.Common.{◌≡◌, ℕ, ◌+◌, ◌<◌, Bool, true, false, cond, List, [], ◌∷◌, ◌++◌, length, map, get_or, take, Option, Some, None, refl, sym, ap, ◌∙◌, true≢false, add-one}
use Rattle.std.proofs.Math.Bool.{or_comm, or-false}
use Rattle.std.proofs.lemmas.List.{append-nil}
use Rattle.std.proofs.lemmas.List.Folds.{list_any-append}
use Rattle.std.proofs.lemmas.Slice.Eq.{bytes_eq-Decides}
use Rattle.std.specs.BTreeMap.{BTreeMap, get_by_text}
use Rattle.std.specs.BTreeSet.{BTreeSet, contains_text}
use Rattle.std.specs.List.{list_any}
use Rattle.std.specs.Prelude.{◌||◌, ◌&&◌, not, String}
use Rattle.std.specs.Str.{bytes_eq}
use Rattle.do_check.proofs.Walked.{declared_push, map_push, or_else_assoc, or_else_none, take_next}
use Rattle.do_check.specs.Parts.{doubles, has_text, when}
use Rattle.do_check.specs.Sight.{parameters_of}
use Rattle.do_check.specs.Sorts.{AreSorts, declared_sort, declares, or_else}
use Rattle.do_check.specs.Told.{Tells}
use Rattle.do_check.specs.declared.sort.Sort.{Sort}
use Rattle.do_tree.specs.Asking.{is_async}
use Rattle.do_tree.specs.Forms as form
use Rattle.do_tree.specs.Forms.{sort_in}
use Rattle.do_tree.specs.Lookup.{is_constructor}
use Rattle.do_tree.specs.Names.{declared_in}
use Rattle.do_tree.specs.Scope.{parameter_sort}
use Rattle.do_tree.specs.Seen.{items_in, named_of, with_item}
use Rattle.do_tree.specs.Tree as tree
use Rattle.do_tree.specs.Tree.{Named}
use Rattle.do_tree.specs.declared.kind.CheckKind.TheVariants as kind
use Rattle.do_tree.specs.declared.script.MethodKind.{MethodKind}
use Rattle.do_tree.specs.declared.script.MethodKind.TheVariants as method
use Rattle.do_tree.specs.declared.script.Name.{Name}
use Rattle.do_tree.specs.declared.stmt.Item.{Item}

take_at : {A : Type 0} (xs : List A) (i : ℕ) (x : A) → i < length xs → x ≡ get_or xs i x → take (i + 1) xs ≡ take i xs ++ x ∷ []
take_at xs i x lt e = rw add-one (take_next xs i x lt e)

-- Some of a list and one more.
any_push : {B : Type 0} (test : B → Bool) (xs : List B) (x : B) → list_any test (xs ++ x ∷ []) ≡ (test x || list_any test xs)
any_push test xs x =
    list_any-append test xs (x ∷ []) ∙ ap (λ b. list_any test xs || b) (or-false (test x)) ∙ or_comm (list_any test xs) (test x)

pub any_next : {A B : Type 0} (test : B → Bool) (f : A → B) (xs : List A) (i : ℕ) (x : A) → i < length xs → x ≡ get_or xs i x
    → list_any test (map f (take (i + 1) xs)) ≡ (test (f x) || list_any test (map f (take i xs)))
any_next test f xs i x lt e =
    ap (λ z. list_any test (map f z)) (take_at xs i x lt e)
    ∙ ap (list_any test) (map_push f (take i xs) x) ∙ any_push test (map f (take i xs)) (f x)

-- Texts to which that of one element more was added.
pub told_next : {A B Y : Type 0} (has : List ℕ → B → Bool) (f : A → B) (xs : List A) (i : ℕ) (x : A) → i < length xs → x ≡ get_or xs i x
    → (old new : BTreeSet (String Y)) → ((text : List ℕ) → contains_text new text ≡ (has text (f x) || contains_text old text))
    → Tells old has (map f (take i xs)) → Tells new has (map f (take (i + 1) xs))
told_next has f xs i x lt e old new noted tells text =
    noted text ∙ ap (λ b. has text (f x) || b) (tells text) ∙ sym (any_next (has text) f xs i x lt e)

-- The names that one item more declares.
pub declared_told : {Y : Type 0} (items : List Item) (i : ℕ) (x : Item) → i < length items → x ≡ get_or items i x
    → (old new : BTreeSet (String Y))
    → ((text : List ℕ) → contains_text new text ≡ (list_any (has_text text) (declared_in (with_item x tree.no_items)) || contains_text old text))
    → Tells old has_text (declared_in (items_in (take i items))) → Tells new has_text (declared_in (items_in (take (i + 1) items)))
declared_told items i x lt e old new noted tells text =
    let here = declared_in (with_item x tree.no_items) in
    let seen = declared_in (items_in (take i items)) in
    noted text ∙ ap (λ b. list_any (has_text text) here || b) (tells text)
    ∙ or_comm (list_any (has_text text) here) (list_any (has_text text) seen)
    ∙ sym (list_any-append (has_text text) seen here)
    ∙ sym (ap (λ z. list_any (has_text text) (declared_in (items_in z))) (take_at items i x lt e)
    ∙ ap (list_any (has_text text)) (declared_push (take i items) x))

-- One name behind two lists.
pub doubled_one : (front before : List Named) (n : Named)
    → doubles (front ++ before) (n ∷ []) ≡ when (list_any (has_text n.text) front || list_any (has_text n.text) before) n.at kind.Doubled
doubled_one front before n = append-nil _ ∙ ap (λ b. when b n.at kind.Doubled) (list_any-append (has_text n.text) front before)

-- A name among parameters, and one that is none.
parameter_step : (kind : MethodKind) (own text : List ℕ) (b rest : Bool) (o : Option form.Sort) → bytes_eq own text ≡ b → (b || rest) ≡ true
    → (rest ≡ true → o ≡ Some (parameter_sort kind text)) → cond b (Some (parameter_sort kind own)) o ≡ Some (parameter_sort kind text)
parameter_step kind own text true rest o e h k = ap (λ t. Some (parameter_sort kind t)) ((bytes_eq-Decides own text).0 e)
parameter_step kind own text false rest o e h k = k h

pub parameter_is : (kind : MethodKind) (names : List Name) (text : List ℕ) → list_any (has_text text) (map named_of names) ≡ true
    → sort_in (parameters_of kind names) text ≡ Some (parameter_sort kind text)
parameter_is kind [] text h = absurd (true≢false (sym h))
parameter_is kind (n ∷ ns) text h =
    parameter_step kind (named_of n).text text (bytes_eq (named_of n).text text) (list_any (has_text text) (map named_of ns))
    (sort_in (parameters_of kind ns) text) refl h (parameter_is kind ns text)

absent_step : (kind : MethodKind) (own : List ℕ) (b rest : Bool) (o : Option form.Sort) → (b || rest) ≡ false
    → (rest ≡ false → o ≡ None) → cond b (Some (parameter_sort kind own)) o ≡ None
absent_step kind own true rest o h k = absurd (true≢false h)
absent_step kind own false rest o h k = k h

pub no_parameter : (kind : MethodKind) (names : List Name) (text : List ℕ) → list_any (has_text text) (map named_of names) ≡ false
    → sort_in (parameters_of kind names) text ≡ None
no_parameter kind [] text h = refl
no_parameter kind (n ∷ ns) text h =
    absent_step kind (named_of n).text (bytes_eq (named_of n).text text) (list_any (has_text text) (map named_of ns))
    (sort_in (parameters_of kind ns) text) h (no_parameter kind ns text)

-- What items make of a name with one more item.
sort_push : (items : List Item) (x : Item) (text : List ℕ) → declared_sort (items ++ x ∷ []) text ≡ or_else (declares x text) (declared_sort items text)
sort_push [] x text = sym (or_else_none (declares x text))
sort_push (y ∷ ys) x text =
    ap (λ z. or_else z (declares y text)) (sort_push ys x text) ∙ or_else_assoc (declares x text) (declared_sort ys text) (declares y text)

pub sorts_next : {Y : Type 0} (items : List Item) (i : ℕ) (x : Item) → i < length items → x ≡ get_or items i x
    → (old new : BTreeMap (String Y) Sort) → ((text : List ℕ) → get_by_text new text ≡ or_else (declares x text) (get_by_text old text))
    → AreSorts old (take i items) → AreSorts new (take (i + 1) items)
sorts_next items i x lt e old new declared told text =
    declared text ∙ ap (or_else (declares x text)) (told text) ∙ sym (sort_push (take i items) x text)
    ∙ sym (ap (λ z. declared_sort z text) (take_at items i x lt e))

-- An async method is no constructor.
pub async_named : (k : MethodKind) (b : Bool) → (is_async k && (not (is_constructor k) && b)) ≡ (is_async k && b)
async_named method.Constructor b = refl
async_named method.Sync b = refl
async_named method.Async b = refl
