-- The commands as `clap` builds them, and what a parse of one makes of a word.
use Rattle.std.proofs.Common.{◌≡◌, ◌∙◌, ◌⊎◌, inl, inr, append-nil, ◌+◌, ◌&&◌, ℕ, Bool, cond, true, false, refl, sym, ap, subst, List, [], ◌∷◌, ◌++◌, map, min, Option, Some, None, is_some, fold}
use Rattle.std.specs.Option.{option_map_or}
use Rattle.clap.specs.Lexer.{usize_max}
use Rattle.clap.specs.Walk.{Held, Row, Rule, Waiting, Walk, at_row, more_values, reacted, used_by_id, arg_by_id, arg_by_index, arg_by_long, arg_by_short, has_row, settled, used, walked}
use Rattle.clap.specs.Simple.{Shape}
use Rattle.clap.specs.Kinds.{Kinds, or_else}
use Rattle.clap.specs.Faults.{react_fault, settle_fault, use_fault, walk_fault}
use Rattle.clap.specs.declared.builder.action.ArgAction.TheVariants.{Set}
use Rattle.clap.specs.declared.builder.value_parser.ValueParser.TheVariants as vp
use Rattle.clap.specs.declared.parser.matches.ValueSource.TheVariants.{CommandLine}
use Rattle.command_words.specs.Words.{Text, Named, is_among, is_once, under}
use Rattle.command_words.proofs.Kept.{row, row_added, map_row_added, has_row-under, once_more}

-- ---- built rules

abbrev pub option_rule : Text → Rule
option_rule name = record {
  id = name;
  long = Some name;
  aliases = [];
  short = None;
  short_aliases = [];
  index = None;
  action = Some Set;
  range = Some (record { start_inclusive = 1; end_inclusive = 1 });
  value_names = 0;
  defaults = [];
  missing = [];
  trailing_var_arg = false;
  parser = Some vp.String;
  ignore_case = false;
  required = false;
  is_simple = true;
  is_free = true;
}

abbrev pub place_rule : Text → ℕ → Rule
place_rule name i = record {
  id = name;
  long = None;
  aliases = [];
  short = None;
  short_aliases = [];
  index = Some i;
  action = Some Set;
  range = Some (record { start_inclusive = 1; end_inclusive = 1 });
  value_names = 0;
  defaults = [];
  missing = [];
  trailing_var_arg = false;
  parser = Some vp.String;
  ignore_case = false;
  required = false;
  is_simple = true;
  is_free = true;
}

-- a command with these rules
abbrev pub leaf : Text → List Rule → Shape
leaf name rules = record {
  name = name;
  aliases = [];
  rules = rules;
  is_plain = true;
  is_leaf = true;
  no_binary_name = true;
  disable_help_flag = true;
  disable_help_subcommand = true;
  disable_version_flag = false;
  propagate_version = false;
  has_version = false;
  has_long_version = false;
  args_override_self = false;
  arg_required_else_help = false;
  subcommand_required = false;
  subcommand_negates_reqs = false;
  is_built = true;
}

-- the places that are left stand at i and after it
abbrev pub AtPlaces : List Rule → ℕ → List Text → Type 0
AtPlaces c i [] = arg_by_index c i ≡ None
AtPlaces c i (place ∷ places) = (arg_by_index c i ≡ Some (place_rule place i)) × (arg_by_id c place ≡ Some (place_rule place i))
    × AtPlaces c (min (i + 1) usize_max) places

-- the rules are of these options
pub record HasOptions (c : List Rule) (options : List Text) : Type 0 where
  pub known : (name : Text) → is_among name options ≡ true → arg_by_long c name ≡ Some (option_rule name)
  pub unknown : (name : Text) → is_among name options ≡ false → arg_by_long c name ≡ None
  pub by_id : (name : Text) → is_among name options ≡ true → arg_by_id c name ≡ Some (option_rule name)
  pub no_short : (x : ℕ) → arg_by_short c x ≡ None

-- ---- faults

abbrev pub Fails : Kinds → Type 0
Fails [] = ⊥
Fails (k ∷ ks) = Unit {0}

pub fails_left : (a b : Kinds) → Fails a → Fails (or_else a b)
fails_left [] b f = absurd f
fails_left (k ∷ ks) b f = tt

pub fails_right : (a b : Kinds) → Fails b → Fails (or_else a b)
fails_right [] b f = f
fails_right (k ∷ ks) b f = tt

pub or_else_nil : (a : Kinds) → or_else a [] ≡ a
or_else_nil [] = refl
or_else_nil (k ∷ ks) = refl

pub and_false : (b : Bool) → (b && false) ≡ false
and_false true = refl
and_false false = refl

pub cond_same : {X : Type 0} (b : Bool) (x : X) → cond b x x ≡ x
cond_same true x = refl
cond_same false x = refl

-- ---- a rest of a walk

abbrev pub at : Held → Waiting → ℕ → Bool → Walk
at h waiting i is_trailing = record { held = h; waiting = waiting; position = i; is_trailing = is_trailing; stopped = None }

module _ (c : List Rule) where
  abbrev pub after : Walk → List Text → Held
  after w words = (fold (walked c []) w words).held

  -- the faults of the words that are left, and of what is pending in the end
  abbrev pub core : Text → Walk → List Text → Kinds
  core command w words = or_else (walk_fault (leaf command c) [] w words) (settle_fault c false (after w words))

  abbrev pub rows_at : Walk → List Text → List Row
  rows_at w words = (settled c (after w words)).rows

  -- what is held fails in the end
  pub record Stuck (h : Held) : Type 0 where
    pub fault : Fails (settle_fault c false h)
    pub skip : h.skip ≡ 0

  -- what is held comes to these words under their names
  pub record Holds (h : Held) (es : Named) : Type 0 where
    pub fault : settle_fault c false h ≡ []
    pub rows : (settled c h).rows ≡ map row es
    pub once : is_once es ≡ true
    pub skip : h.skip ≡ 0

abbrev pub EndsBy : Bool → Kinds → List Row → List Row → Type 0
EndsBy true faults rows wanted = (faults ≡ []) × (rows ≡ wanted)
EndsBy false faults rows wanted = Fails faults

-- after `es`, the words that are left fail, or tell more, each name once
abbrev pub Ends : Kinds → List Row → Named → Option Named → Type 0
Ends faults rows es None = Fails faults
Ends faults rows es (Some more) = EndsBy (is_once (es ++ more)) faults rows (map row (es ++ more))

-- ---- one use

-- a rule of one value
abbrev pub IsUsed : Rule → Text → Type 0
IsUsed a name = (v : Text) (rows : List Row)
    → (has_row name rows ≡ true → Fails (use_fault false a (v ∷ []) rows))
    × (has_row name rows ≡ false → (use_fault false a (v ∷ []) rows ≡ []) × (used a (v ∷ []) rows ≡ rows ++ row (name, v) ∷ []))

pub option_used : (name : Text) → IsUsed (option_rule name) name
option_used name v rows = (
  λ e. rw e tt,
  λ e. (
    rw e refl,
    ap (at_row name (more_values CommandLine (v ∷ [])) (row (name, v) ∷ [])) (row_added name (λ _. []) [] rows e ∙ append-nil rows)
        ∙ row_added name (more_values CommandLine (v ∷ [])) (row (name, v) ∷ []) rows e,
  ),
)

pub place_used : (name : Text) (i : ℕ) → IsUsed (place_rule name i) name
place_used name i v rows = (
  λ e. rw e tt,
  λ e. (
    rw e refl,
    ap (at_row name (more_values CommandLine (v ∷ [])) (row (name, v) ∷ [])) (row_added name (λ _. []) [] rows e ∙ append-nil rows)
        ∙ row_added name (more_values CommandLine (v ∷ [])) (row (name, v) ∷ []) rows e,
  ),
)

-- ---- one more word under a name

module _ (c : List Rule) where
  -- the use is a second one, or the word joins
  abbrev pub Next : Held → Named → Text → Text → Type 0
  Next h es name v = (Stuck c h × (is_some (under name es) ≡ true)) ⊎ Holds c h (es ++ (name, v) ∷ [])

  pub pending_added : (a : Rule) (name v : Text) (h : Held) (es : Named) → IsUsed a name → arg_by_id c name ≡ Some a → Holds c h es
      → Next (record (settled c h) { pending = Some (name, v ∷ []) }) es name v
  pending_added a name v h es used_is found held = go (is_some (under name es)) refl
    where
      given : (has_row name (map row es) ≡ true → Fails (use_fault false a (v ∷ []) (map row es)))
          × (has_row name (map row es) ≡ false → (use_fault false a (v ∷ []) (map row es) ≡ []) × (used a (v ∷ []) (map row es) ≡ map row es ++ row (name, v) ∷ []))
      given = used_is v (map row es)

      fault_is : settle_fault c false (record (settled c h) { pending = Some (name, v ∷ []) }) ≡ use_fault false a (v ∷ []) (map row es)
      fault_is = ap (λ o. option_map_or (λ b. use_fault false b (v ∷ []) (settled c h).rows) o []) found ∙ ap (λ rs. use_fault false a (v ∷ []) rs) held.rows

      rows_is : (settled c (record (settled c h) { pending = Some (name, v ∷ []) })).rows ≡ used a (v ∷ []) (map row es)
      rows_is = ap (λ o. used_by_id o (v ∷ []) (settled c h).rows) found ∙ ap (λ rs. used a (v ∷ []) rs) held.rows

      go : (b : Bool) → is_some (under name es) ≡ b → Next (record (settled c h) { pending = Some (name, v ∷ []) }) es name v
      go true e = inl (record { fault = subst Fails (sym fault_is) (given.0 (has_row-under name es ∙ e)); skip = held.skip }, e)
      go false e =
          let new = given.1 (has_row-under name es ∙ e) in
          inr (record { fault = fault_is ∙ new.0; rows = rows_is ∙ (new.1 ∙ map_row_added es (name, v)); once = once_more name v es held.once e; skip = held.skip })

  -- the same at once
  abbrev pub Reacts : Rule → Held → Named → Text → Text → Type 0
  Reacts a h es name v = (Fails (react_fault c false a (v ∷ []) h) × (is_some (under name es) ≡ true))
      ⊎ ((react_fault c false a (v ∷ []) h ≡ []) × Holds c (reacted c a (v ∷ []) h) (es ++ (name, v) ∷ []))

  pub reacted_added : (a : Rule) (name v : Text) (h : Held) (es : Named) → IsUsed a name → Holds c h es → Reacts a h es name v
  reacted_added a name v h es used_is held = go (is_some (under name es)) refl
    where
      given : (has_row name (map row es) ≡ true → Fails (use_fault false a (v ∷ []) (map row es)))
          × (has_row name (map row es) ≡ false → (use_fault false a (v ∷ []) (map row es) ≡ []) × (used a (v ∷ []) (map row es) ≡ map row es ++ row (name, v) ∷ []))
      given = used_is v (map row es)

      fault_is : react_fault c false a (v ∷ []) h ≡ use_fault false a (v ∷ []) (map row es)
      fault_is = ap (λ k. or_else k (use_fault false a (v ∷ []) (settled c h).rows)) held.fault ∙ ap (λ rs. use_fault false a (v ∷ []) rs) held.rows

      go : (b : Bool) → is_some (under name es) ≡ b → Reacts a h es name v
      go true e = inl (subst Fails (sym fault_is) (given.0 (has_row-under name es ∙ e)), e)
      go false e =
          let new = given.1 (has_row-under name es ∙ e) in
          inr (
            fault_is ∙ new.0,
            record {
              fault = refl;
              rows = ap (λ rs. used a (v ∷ []) rs) held.rows ∙ (new.1 ∙ map_row_added es (name, v));
              once = once_more name v es held.once e;
              skip = held.skip;
            },
          )
