-- What a parse of one command's words comes to.
use Rattle.std.proofs.Common.{◌≡◌, ◌∙◌, ◌⊎◌, inl, inr, ◌&&◌, ◌||◌, Bool, cond, true, false, not, refl, sym, ap, ap₂, subst₂, List, [], ◌∷◌, map, Option, Some, None, fold, bytes_eq, if◌then◌else◌, true≢false}
use Rattle.std.specs.List.{list_any}
use Rattle.clap.specs.Walk.{Row, Rule, idle, arg_by_id, arg_by_long, default_rows, first_of, finished, has_row, is_empty, nothing_held, reading_by, rows_after, settled, with_default}
use Rattle.clap.specs.Takes.{is_given}
use Rattle.clap.specs.Kinds.{Kinds, check_kinds, or_else}
use Rattle.clap.specs.Faults.{default_fault, defaults_fault, given_default_fault, level_fault, settle_fault, walk_fault}
use Rattle.command_words.specs.Words.{Text, Named, is_among, is_once, told, under}
use Rattle.command_words.specs.Asked.{Asked, usage, asked_by, asked_once}
use Rattle.command_words.proofs.Kept.{first_of-under, row, same_text}
use Rattle.command_words.proofs.Rules.{AtPlaces, Ends, EndsBy, Fails, HasOptions, after, at, cond_same, core, leaf, option_rule, or_else_nil, rows_at}
use Rattle.command_words.proofs.Steps.{AreTexts, goes}

or_true : (b : Bool) → (b || true) ≡ true
or_true true = refl
or_true false = refl

-- no rule has a default
abbrev pub NoDefaults : List Rule → Type 0
NoDefaults [] = Unit {0}
NoDefaults (a ∷ rest) = (a.defaults ≡ []) × NoDefaults rest

no_default : (rows : List Row) (a : Rule) → a.defaults ≡ [] → default_fault rows a ≡ []
no_default rows a e =
    ap (λ (ds : List Text). if has_row a.id rows || is_empty ds then [] else given_default_fault a ds) e
    ∙ ap (λ (b : Bool). if b then [] else given_default_fault a []) (or_true (has_row a.id rows))

no_defaults : (rows : List Row) (c : List Rule) → NoDefaults c → defaults_fault rows c ≡ []
unfolding defaults_fault
no_defaults rows [] n = refl
no_defaults rows (a ∷ rest) n = ap₂ or_else (no_default rows a n.0) (no_defaults (with_default rows a) rest n.1)

no_row_more : (rows : List Row) (a : Rule) → a.defaults ≡ [] → with_default rows a ≡ rows
no_row_more rows a e =
    ap (λ (ds : List Text). if has_row a.id rows then rows else default_rows a.id (reading_by a) ds rows) e ∙ cond_same (has_row a.id rows) rows

rows_kept : (rows : List Row) (c : List Rule) → NoDefaults c → fold with_default rows c ≡ rows
rows_kept rows [] n = refl
rows_kept rows (a ∷ rest) n = ap (λ rs. fold with_default rs rest) (no_row_more rows a n.0) ∙ rows_kept rows rest n.1

-- the rules of a command with these options and places
pub record IsOf (c : List Rule) (options places : List Text) : Type 0 where
  pub has : HasOptions c options
  pub stand : AtPlaces c 1 places
  pub plain : NoDefaults c
  pub free : (rows : List Row) → list_any (λ a. a.required && not (is_given a.id rows)) c ≡ false

module _ (command : Text) (c : List Rule) (options places : List Text) (is : IsOf c options places) where
  level_is : (words : List Text) → level_fault (leaf command c) [] nothing_held words false [] ≡ core c command (at nothing_held idle 1 false) words
  level_is words =
      let end = after c (at nothing_held idle 1 false) words in
      ap₂ (λ (d k : Kinds). or_else (walk_fault (leaf command c) [] (at nothing_held idle 1 false) words) (or_else (settle_fault c false end) (or_else d k)))
      (no_defaults (settled c end).rows c is.plain) (ap (λ (b : Bool). check_kinds false false b) (is.free (finished c end)))
      ∙ ap (or_else (walk_fault (leaf command c) [] (at nothing_held idle 1 false) words)) (or_else_nil (settle_fault c false end))

  rows_are : (words : List Text) → rows_after c [] words ≡ rows_at c (at nothing_held idle 1 false) words
  rows_are words = rows_kept _ c is.plain

  pub level_ends : (words : List Text) → AreTexts words
      → Ends (level_fault (leaf command c) [] nothing_held words false []) (rows_after c [] words) [] (told options words places None)
  level_ends words u =
      subst₂ (λ (k : Kinds) (rs : List Row). Ends k rs [] (told options words places None)) (sym (level_is words)) (sym (rows_are words))
      ((goes command c options is.has words u).nothing nothing_held [] 1 places (record { fault = refl; rows = refl; once = refl; skip = refl }) is.stand)

-- a parse with these faults answers by `matched`, and the words ask for `wanted`
abbrev pub Answers : Kinds → Asked → Asked → Type 0
Answers faults matched wanted = ((faults ≡ []) × (matched ≡ wanted)) ⊎ (Fails faults × (usage ≡ wanted))

pub answered : (command : Text) (faults : Kinds) (rows : List Row) (r : Option Named) → Ends faults rows [] r
    → Answers faults (asked_by command (λ id. first_of id rows)) (asked_once command r)
answered command faults rows None f = inr (f, refl)
answered command faults rows (Some more) h = go (is_once more) refl h
  where
    go : (b : Bool) → is_once more ≡ b → EndsBy b faults rows (map row more) → Answers faults (asked_by command (λ id. first_of id rows)) (asked_once command (Some more))
    go true once h =
        let same : ◌≡◌ {A = Text → Option Text} (λ id. first_of id rows) (λ id. under id more) = λ i id. (ap (first_of id) h.1 ∙ first_of-under id more) i in
        inl (h.0, ap (asked_by command) same ∙ sym (ap (λ (b : Bool). if b then asked_by command (λ id. under id more) else usage) once))
    go false once h = inr (h, sym (ap (λ (b : Bool). if b then asked_by command (λ id. under id more) else usage) once))

-- ---- options first, and then places

abbrev pub options_then : List Text → List Rule → List Rule
options_then [] rest = rest
options_then (o ∷ os) rest = option_rule o ∷ options_then os rest

pub known_long : (os : List Text) (rest : List Rule) (name : Text) → is_among name os ≡ true → arg_by_long (options_then os rest) name ≡ Some (option_rule name)
known_long [] rest name k = absurd (true≢false (sym k))
known_long (o ∷ os) rest name k = go (known_long os rest name) (bytes_eq o name) refl k
  where
    go : (is_among name os ≡ true → arg_by_long (options_then os rest) name ≡ Some (option_rule name)) → (b : Bool) → bytes_eq o name ≡ b → (b || is_among name os) ≡ true
        → cond (b || false) (Some (option_rule o)) (arg_by_long (options_then os rest) name) ≡ Some (option_rule name)
    go ih true e k = ap (λ (n : Text). Some (option_rule n)) (same_text o name e)
    go ih false e k = ih k

pub unknown_long : (os : List Text) (rest : List Rule) (name : Text) → arg_by_long rest name ≡ None → is_among name os ≡ false → arg_by_long (options_then os rest) name ≡ None
unknown_long [] rest name none k = none
unknown_long (o ∷ os) rest name none k = go (unknown_long os rest name none) (bytes_eq o name) k
  where
    go : (is_among name os ≡ false → arg_by_long (options_then os rest) name ≡ None) → (b : Bool) → (b || is_among name os) ≡ false → cond (b || false) (Some (option_rule o)) (arg_by_long (options_then os rest) name) ≡ None
    go ih true k = absurd (true≢false k)
    go ih false k = ih k

pub option_id : (os : List Text) (rest : List Rule) (name : Text) → is_among name os ≡ true → arg_by_id (options_then os rest) name ≡ Some (option_rule name)
option_id [] rest name k = absurd (true≢false (sym k))
option_id (o ∷ os) rest name k = go (option_id os rest name) (bytes_eq o name) refl k
  where
    go : (is_among name os ≡ true → arg_by_id (options_then os rest) name ≡ Some (option_rule name)) → (b : Bool) → bytes_eq o name ≡ b → (b || is_among name os) ≡ true
        → cond b (Some (option_rule o)) (arg_by_id (options_then os rest) name) ≡ Some (option_rule name)
    go ih true e k = ap (λ (n : Text). Some (option_rule n)) (same_text o name e)
    go ih false e k = ih k
