-- The entries, the events and what was said of one incarnation among those of several.
use Rattle.std.proofs.Common.{◌≡◌, ◌∙◌, ap, refl, ℕ, suc, ◌+◌, ◌<◌, ◌≤◌, List, [], ◌∷◌, ◌++◌, append-nil, length, map, arith, Option, Some, None}
use Rattle.std.proofs.lemmas.Bool.{ne_eqb, eq-eqb}
use Rattle.std.proofs.lemmas.Grind.{flat_map-append}
use Rattle.std.proofs.lemmas.List.{take-append-le}
use Rattle.std.proofs.lemmas.List.Elements.{All-nil, All-cons, All-head, All-tail, filter-append}
use Rattle.std.specs.Prelude.{Bool, true, false, cond, ◌==◌, if◌then◌else◌}
use Rattle.std.specs.List.{All}
use Rattle.storage_map.specs.declared.op.Op.{Op}
use Rattle.timeline.specs.History.{of_number, entries_of, said_in, batches_in, kept_by}
use Rattle.timeline.specs.Intake.{numbered}
use Rattle.timeline.specs.Told.{Said, batch, message, said_by, spoken, spoken_in, batches_of}
use Rattle.timeline.specs.declared.entry.Body.{Body}
use Rattle.timeline.specs.declared.entry.Entry.{Entry}

-- the first part of a list whose elements all are something.
pub all_front : {X : Type 0} (P : X → Type 0) (xs ys : List X) → All P (xs ++ ys) → All P xs
all_front P [] ys all = All-nil P
all_front P (x ∷ xs) ys all = All-cons P x xs (All-head P x (xs ++ ys) all) (all_front P xs ys (All-tail P x (xs ++ ys) all))

-- one body more has the next number
pub numbered_last : (i n : ℕ) (bodies : List Body) (b : Body) (at : ℕ) → at ≡ n + length bodies
    → numbered i n (bodies ++ b ∷ []) ≡ numbered i n bodies ++ record { incarnation = i; number = at; body = b } ∷ []
numbered_last i n [] b at is = ap (λ (k : ℕ). record { incarnation = i; number = k; body = b } ∷ []) (omega (arith, is))
numbered_last i n (x ∷ bodies) b at is =
    ap (λ (entries : List Entry). record { incarnation = i; number = n; body = x } ∷ entries) (numbered_last i (suc n) bodies b at (omega (arith, is)))

-- numbered entries are of their incarnation
pub of_their_own : (P : ℕ → Type 0) (i n : ℕ) (bodies : List Body) → P i → All (λ (e : Entry). P e.incarnation) (numbered i n bodies)
of_their_own P i n [] holds = All-nil (λ (e : Entry). P e.incarnation)
of_their_own P i n (b ∷ bodies) holds =
    All-cons (λ (e : Entry). P e.incarnation) (record { incarnation = i; number = n; body = b }) (numbered i (suc n) bodies) holds (of_their_own P i (suc n) bodies holds)

pub entries_own : (i n : ℕ) (bodies : List Body) → entries_of i (numbered i n bodies) ≡ numbered i n bodies
entries_own i n [] = refl
entries_own i n (b ∷ bodies) =
    let e : Entry = record { incarnation = i; number = n; body = b } in
    ap (λ (same : Bool). cond same (e ∷ entries_of i (numbered i (suc n) bodies)) (entries_of i (numbered i (suc n) bodies))) (eq-eqb i i refl)
    ∙ ap (λ (entries : List Entry). e ∷ entries) (entries_own i (suc n) bodies)

-- what holds of some bodies holds of the entries that say them
pub all_numbered : (P : Body → Type 0) (i n : ℕ) (bodies : List Body) → All P bodies → All (λ (e : Entry). P e.body) (numbered i n bodies)
all_numbered P i n [] all = All-nil (λ (e : Entry). P e.body)
all_numbered P i n (b ∷ bodies) all =
    All-cons (λ (e : Entry). P e.body) (record { incarnation = i; number = n; body = b }) (numbered i (suc n) bodies) (All-head P b bodies all)
    (all_numbered P i (suc n) bodies (All-tail P b bodies all))

-- what numbered entries say
pub said_numbered : (i n : ℕ) (bodies : List Body) → said_in (numbered i n bodies) ≡ bodies
said_numbered i n [] = refl
said_numbered i n (b ∷ bodies) = ap (λ (rest : List Body). b ∷ rest) (said_numbered i (suc n) bodies)

pub spoken_numbered : (i n : ℕ) (bodies : List Body) → spoken (numbered i n bodies) ≡ spoken_in bodies
spoken_numbered i n [] = refl
spoken_numbered i n (b ∷ bodies) = ap (λ (rest : List Said). said_by b ++ rest) (spoken_numbered i (suc n) bodies)

-- the events of a number
pub of_number_append : {X : Type 0} (i : ℕ) (first second : List (ℕ × X)) → of_number i (first ++ second) ≡ of_number i first ++ of_number i second
of_number_append i [] second = refl
of_number_append {X} i (x ∷ first) second =
    ap (λ (rest : List X). if x.0 == i then x.1 ∷ rest else rest) (of_number_append i first second)
    ∙ joined (x.0 == i) x.1 (of_number i first) (of_number i second)
  where
    joined : {X : Type 0} (same : Bool) (x : X) (xs ys : List X) → (if same then x ∷ xs ++ ys else xs ++ ys) ≡ (if same then x ∷ xs else xs) ++ ys
    joined true x xs ys = refl
    joined false x xs ys = refl

pub of_number_none : {X : Type 0} (i : ℕ) (items : List (ℕ × X)) → All (λ (d : ℕ × X). d.0 < i) items → of_number i items ≡ []
of_number_none i [] less = refl
of_number_none {X} i (x ∷ items) less =
    let here : x.0 < i = All-head (λ (d : ℕ × X). d.0 < i) x items less in
    ap (λ (same : Bool). if same then x.1 ∷ of_number i items else of_number i items) (ne_eqb x.0 i (λ same. omega (arith, here, same)))
    ∙ of_number_none i items (All-tail (λ (d : ℕ × X). d.0 < i) x items less)

pub of_number_own : {X : Type 0} (i : ℕ) (items : List X) → of_number i (map (λ (x : X). (i, x)) items) ≡ items
of_number_own i [] = refl
of_number_own {X} i (x ∷ items) =
    let rest = of_number i (map (λ (y : X). (i, y)) items) in
    ap (λ (same : Bool). if same then x ∷ rest else rest) (eq-eqb i i refl)
    ∙ ap (λ (xs : List X). x ∷ xs) (of_number_own i items)

-- an entry of a number, and one of another
pub entries_more : (i : ℕ) (entries : List Entry) (e : Entry) → e.incarnation ≡ i → entries_of i (entries ++ e ∷ []) ≡ entries_of i entries ++ e ∷ []
entries_more i entries e is =
    filter-append (λ (x : Entry). x.incarnation == i) entries (e ∷ [])
    ∙ ap (λ (b : Bool). entries_of i entries ++ cond b (e ∷ []) []) (eq-eqb e.incarnation i is)

pub entries_same : (i : ℕ) (entries : List Entry) (e : Entry) → (e.incarnation ≡ i → ⊥) → entries_of i (entries ++ e ∷ []) ≡ entries_of i entries
entries_same i entries e other =
    filter-append (λ (x : Entry). x.incarnation == i) entries (e ∷ [])
    ∙ ap (λ (b : Bool). entries_of i entries ++ cond b (e ∷ []) []) (ne_eqb e.incarnation i other)
    ∙ append-nil (entries_of i entries)

-- the batches of one entry more come behind the others, and those that were kept stay
pub batches_append : (first second : List Said) → batches_of (first ++ second) ≡ batches_of first ++ batches_of second
batches_append [] second = refl
batches_append (batch ops confirmed ∷ first) second = ap (λ (rest : List (List Op)). ops ∷ rest) (batches_append first second)
batches_append (message sent ∷ first) second = batches_append first second

pub batches_more : (entries : List Entry) (e : Entry) → batches_in (entries ++ e ∷ []) ≡ batches_in entries ++ batches_in (e ∷ [])
batches_more entries e =
    ap batches_of (flat_map-append (λ (x : Entry). said_by x.body) entries (e ∷ []))
    ∙ batches_append (spoken entries) (spoken (e ∷ []))

kept_more : (kept : Option ℕ) (batches more : List (List Op)) → ((count : ℕ) → kept ≡ Some count → count ≤ length batches)
    → kept_by kept (batches ++ more) ≡ kept_by kept batches
kept_more None batches more within = refl
kept_more (Some count) batches more within = take-append-le count batches more (within count refl)

pub kept_same : (kept : Option ℕ) (entries : List Entry) (e : Entry) → ((count : ℕ) → kept ≡ Some count → count ≤ length (batches_in entries))
    → kept_by kept (batches_in (entries ++ e ∷ [])) ≡ kept_by kept (batches_in entries)
kept_same kept entries e within =
    ap (λ (batches : List (List Op)). kept_by kept batches) (batches_more entries e) ∙ kept_more kept (batches_in entries) (batches_in (e ∷ [])) within
