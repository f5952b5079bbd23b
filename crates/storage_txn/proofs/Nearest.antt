-- The nearest key ahead.
use Rattle.std.proofs.Common.{◌≡◌, ℕ, ◌<◌, ◌≤◌, List, [], ◌∷◌, cond, true, false, Option, Some, None, refl, sym, ap, ◌∙◌, subst, arith, inl, inr}
use Rattle.std.specs.Prelude.{Bool, ◌⊎◌}
use Rattle.std.specs.Str.{bytes_eq}
use Rattle.std.proofs.lemmas.Slice.Eq.{bytes_eq-Decides}
use Rattle.std.proofs.lemmas.Cmp.{tied_itself}
use Rattle.std.specs.Ordering.{is_lt, is_le}
use Rattle.std.specs.declared.cmp.Ordering.{Ordering}
use Rattle.std.specs.declared.cmp.Ordering.TheVariants.{Less, Equal, Greater}
use Rattle.do_value.specs.declared.value.Value.{Value}
use Rattle.storage_map.specs.Stored.{value_step, value_after}
use Rattle.storage_map.specs.declared.op.Op.{Op}
use Rattle.storage_map.specs.declared.op.Op.TheVariants.{Put, Delete, DeleteAll, SetAlarm, ClearAlarm}
use Rattle.storage_txn.specs.Ahead.{toward, is_ahead, nearer, key_in, if_ahead, nearest_on, one_there, count_ahead}
use Rattle.storage_txn.proofs.Directions.{toward_total, toward_exact, turned_less, turned_greater}
use Rattle.storage_txn.proofs.Fronts.{IsUpTo, IsBefore}

-- ---- the order

-- at or before one that is at or before another
up_to_le : (b : Bool) (k x y : List ℕ) → is_le (toward b k x) ≡ true → is_le (toward b x y) ≡ true → is_le (toward b k y) ≡ true
up_to_le b k x y one two =
    elim (toward b k x) as (λ o. toward b k x ≡ o → is_le o ≡ true → is_le (toward b k y) ≡ true) [
      | Less ↦ λ e h. elim (toward b x y) as (λ o. toward b x y ≡ o → is_le o ≡ true → is_le (toward b k y) ≡ true) [
        | Less ↦ λ f g. ap is_le ((toward_total b).trans k x y e f)
        | Equal ↦ λ f g. ap is_le (subst (λ (z : List ℕ). toward b k z ≡ Less) (toward_exact b x y f) e)
        | Greater ↦ λ f g. absurd (cc g)
      ] refl two
      | Equal ↦ λ e h. subst (λ (z : List ℕ). is_le (toward b z y) ≡ true) (sym (toward_exact b k x e)) two
      | Greater ↦ λ e h. absurd (cc h)
    ] refl one

-- of two keys the one is at or before the other
other_le : (b : Bool) (x y : List ℕ) → is_le (toward b x y) ≡ false → is_le (toward b y x) ≡ true
other_le b x y not =
    elim (toward b x y) as (λ o. toward b x y ≡ o → is_le o ≡ false → is_le (toward b y x) ≡ true) [
      | Less ↦ λ e h. absurd (cc h)
      | Equal ↦ λ e h. absurd (cc h)
      | Greater ↦ λ e h. ap is_le (turned_greater b x y e)
    ] refl not

-- ahead of a key that is ahead
pub ahead_more : (b : Bool) (last : Option (List ℕ)) (k q : List ℕ) → is_ahead b last k ≡ true → toward b k q ≡ Less → is_ahead b last q ≡ true
ahead_more b None k q one two = refl
ahead_more b (Some last) k q one two =
    elim (toward b last k) as (λ o. toward b last k ≡ o → is_lt o ≡ true → is_lt (toward b last q) ≡ true) [
      | Less ↦ λ e h. ap is_lt ((toward_total b).trans last k q e two)
      | Equal ↦ λ e h. absurd (cc h)
      | Greater ↦ λ e h. absurd (cc h)
    ] refl one

is_lt_less : (o : Ordering) → is_lt o ≡ true → o ≡ Less
is_lt_less Less h = refl
is_lt_less Equal h = absurd (cc h)
is_lt_less Greater h = absurd (cc h)

-- ---- the nearer of two

nearer_case : (b : Bool) (k : List ℕ) (x y : List ℕ) (t : Bool) → is_le (toward b x y) ≡ t → IsUpTo b (Some k) (cond t (Some x) (Some y)) → IsUpTo b (Some k) (Some x) × IsUpTo b (Some k) (Some y)
nearer_case b k x y true e up = (up, up_to_le b k x y up e)
nearer_case b k x y false e up = (up_to_le b k y x up (other_le b x y e), up)

none_nearer : (b t : Bool) (x y : List ℕ) → IsUpTo b None (cond t (Some x) (Some y)) → ⊥
none_nearer b true x y up = up
none_nearer b false x y up = up

-- what is at or before the nearer is so before both
pub up_to_both : (b : Bool) (k x y : Option (List ℕ)) → IsUpTo b k (nearer b x y) → IsUpTo b k x × IsUpTo b k y
up_to_both b k None y up = (tt, up)
up_to_both b k (Some x) None up = (up, tt)
up_to_both b None (Some x) (Some y) up = absurd (none_nearer b (is_le (toward b x y)) x y up)
up_to_both b (Some k) (Some x) (Some y) up = nearer_case b k x y (is_le (toward b x y)) refl up

-- it is one of them
pub one_of : (b : Bool) (x y k : Option (List ℕ)) → nearer b x y ≡ k → (x ≡ k) ⊎ (y ≡ k)
one_of b None y k is = inr is
one_of b (Some x) None k is = inl is
one_of b (Some x) (Some y) k is = elim (is_le (toward b x y)) as (λ t. cond t (Some x) (Some y) ≡ k → (Some x ≡ k) ⊎ (Some y ≡ k)) [ true ↦ λ e. inl e | false ↦ λ e. inr e ] is

pub up_to_itself : (b : Bool) (k : Option (List ℕ)) → IsUpTo b k k
up_to_itself b None = tt
up_to_itself b (Some k) = ap is_le (tied_itself (toward_total b) k)

-- ---- keys that lie ahead

abbrev pub LiesAhead : Bool → Option (List ℕ) → Option (List ℕ) → Type 0
LiesAhead b last None = Unit {0}
LiesAhead b last (Some k) = is_ahead b last k ≡ true

pub nearer_ahead : (b : Bool) (last x y : Option (List ℕ)) → LiesAhead b last x → LiesAhead b last y → LiesAhead b last (nearer b x y)
nearer_ahead b last None y one two = two
nearer_ahead b last (Some x) None one two = one
nearer_ahead b last (Some x) (Some y) one two = elim (is_le (toward b x y)) as (λ t. LiesAhead b last (cond t (Some x) (Some y))) [ true ↦ one | false ↦ two ]

if_ahead_ahead : (b : Bool) (last x : Option (List ℕ)) → LiesAhead b last (if_ahead b last x)
if_ahead_ahead b last None = tt
if_ahead_ahead b last (Some x) = elim (is_ahead b last x) as (λ t. is_ahead b last x ≡ t → LiesAhead b last (cond t (Some x) None)) [ true ↦ λ e. e | false ↦ λ e. tt ] refl

pub on_ahead : (b : Bool) (last found : Option (List ℕ)) (ops : List Op) → LiesAhead b last found → LiesAhead b last (nearest_on b last found ops)
on_ahead b last found [] h = h
on_ahead b last found (op ∷ ops) h = on_ahead b last (nearer b found (if_ahead b last (key_in op))) ops (nearer_ahead b last found (if_ahead b last (key_in op)) h (if_ahead_ahead b last (key_in op)))

-- ---- operations on none of the keys before the nearest

-- no key is before another that it is behind
apart : (b : Bool) (q name : List ℕ) (last k : Option (List ℕ)) → q ≡ name → is_ahead b last q ≡ true → IsBefore b q k → IsUpTo b k (if_ahead b last (Some name)) → ⊥
apart b q name last None same ahead before up = subst (λ (t : Bool). IsUpTo b None (cond t (Some name) None)) (ap (is_ahead b last) (sym same) ∙ ahead) up
apart b q name last (Some k) same ahead before up =
    let le : is_le (toward b k name) ≡ true = subst (λ (t : Bool). IsUpTo b (Some k) (cond t (Some name) None)) (ap (is_ahead b last) (sym same) ∙ ahead) up in
    let more : toward b k name ≡ Greater = subst (λ (x : List ℕ). toward b k x ≡ Greater) same (turned_less b q k before) in
    absurd (cc (le, ap is_le more))

none_step : (b : Bool) (q : List ℕ) (last k : Option (List ℕ)) (op : Op) → is_ahead b last q ≡ true → IsBefore b q k → IsUpTo b k (if_ahead b last (key_in op)) → value_step q None op ≡ None
none_step b q last k (Put name value) ahead before up =
    elim (bytes_eq q name) as (λ t. bytes_eq q name ≡ t → cond t (Some value) None ≡ None) [
      | true ↦ λ e. absurd (apart b q name last k ((bytes_eq-Decides q name).0 e) ahead before up)
      | false ↦ λ e. refl
    ] refl
none_step b q last k (Delete name) ahead before up = elim (bytes_eq q name) as (λ t. ◌≡◌ {A = Option Value} (cond t None None) None) [ true ↦ refl | false ↦ refl ]
none_step b q last k DeleteAll ahead before up = refl
none_step b q last k (SetAlarm time retry) ahead before up = refl
none_step b q last k ClearAlarm ahead before up = refl

pub up_to_on : (b : Bool) (last k found : Option (List ℕ)) (ops : List Op) → IsUpTo b k (nearest_on b last found ops) → IsUpTo b k found
up_to_on b last k found [] up = up
up_to_on b last k found (op ∷ ops) up = (up_to_both b k found (if_ahead b last (key_in op)) (up_to_on b last k (nearer b found (if_ahead b last (key_in op))) ops up)).0

pub none_on : (b : Bool) (q : List ℕ) (last k found : Option (List ℕ)) (ops : List Op) → is_ahead b last q ≡ true → IsBefore b q k → IsUpTo b k (nearest_on b last found ops) → value_after q None ops ≡ None
none_on b q last k found [] ahead before up = refl
none_on b q last k found (op ∷ ops) ahead before up =
    let next = nearer b found (if_ahead b last (key_in op)) in
    let here = (up_to_both b k found (if_ahead b last (key_in op)) (up_to_on b last k next ops up)).1 in
    ap (λ (v : Option Value). value_after q v ops) (none_step b q last k op ahead before here)
    ∙ none_on b q last k next ops ahead before up

-- ---- how many lie ahead

one_fewer_ahead : (b : Bool) (last : Option (List ℕ)) (k : List ℕ) (x : Option (List ℕ)) → is_ahead b last k ≡ true → one_there (if_ahead b (Some k) x) ≤ one_there (if_ahead b last x)
one_fewer_ahead b last k None ahead = omega arith
one_fewer_ahead b last k (Some x) ahead =
    elim (is_lt (toward b k x)) as (λ t. is_lt (toward b k x) ≡ t → one_there (cond t (Some x) None) ≤ one_there (if_ahead b last (Some x))) [
      | true ↦ λ e. subst (λ (t : Bool). 1 ≤ one_there (cond t (Some x) None)) (sym (ahead_more b last k x ahead (is_lt_less (toward b k x) e))) (omega arith)
      | false ↦ λ e. omega arith
    ] refl

pub no_more_ahead : (b : Bool) (last : Option (List ℕ)) (k : List ℕ) (ops : List Op) → is_ahead b last k ≡ true → count_ahead b (Some k) ops ≤ count_ahead b last ops
no_more_ahead b last k [] ahead = omega arith
no_more_ahead b last k (op ∷ ops) ahead = omega (arith, one_fewer_ahead b last k (key_in op) ahead, no_more_ahead b last k ops ahead)

-- the key itself isn't ahead of it
not_itself : (b : Bool) (last : Option (List ℕ)) (k : List ℕ) (x : Option (List ℕ)) → if_ahead b last x ≡ Some k → one_there (if_ahead b (Some k) x) < one_there (if_ahead b last x)
not_itself b last k None is = absurd (cc is)
not_itself b last k (Some x) is =
    elim (is_ahead b last x) as (λ t. is_ahead b last x ≡ t → cond t (Some x) None ≡ Some k → one_there (if_ahead b (Some k) (Some x)) < one_there (cond t (Some x) None)) [
      | true ↦ λ e g. let same : x ≡ k = cc in
          subst (λ (o : Ordering). one_there (cond (is_lt o) (Some x) None) < 1) (sym (subst (λ (y : List ℕ). toward b k y ≡ Equal) (sym same) (tied_itself (toward_total b) k))) (omega arith)
      | false ↦ λ e g. absurd (cc g)
    ] refl is

pub fewer_on : (b : Bool) (last found : Option (List ℕ)) (k : List ℕ) (ops : List Op) → is_ahead b last k ≡ true → nearest_on b last found ops ≡ Some k → (found ≡ Some k) ⊎ (count_ahead b (Some k) ops < count_ahead b last ops)
fewer_on b last found k [] ahead is = inl is
fewer_on b last found k (op ∷ ops) ahead is =
    let here = if_ahead b last (key_in op) in
    elim (fewer_on b last (nearer b found here) k ops ahead is) as (λ _. (found ≡ Some k) ⊎ (count_ahead b (Some k) (op ∷ ops) < count_ahead b last (op ∷ ops))) [
      | inl e ↦ elim (one_of b found here (Some k) e) as (λ _. (found ≡ Some k) ⊎ (count_ahead b (Some k) (op ∷ ops) < count_ahead b last (op ∷ ops))) [
        | inl f ↦ inl f
        | inr f ↦ inr (omega (arith, not_itself b last k (key_in op) f, no_more_ahead b last k ops ahead))
      ]
      | inr e ↦ inr (omega (arith, e, one_fewer_ahead b last k (key_in op) ahead))
    ]
