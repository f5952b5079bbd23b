-- The walk over the words of a command.
use Rattle.std.proofs.Common.{◌≡◌, ◌∙◌, inl, inr, ◌+◌, ◌||◌, ℕ, Bool, cond, true, false, refl, sym, ap, ap₂, subst, subst₂, List, [], ◌∷◌, ◌++◌, map, min, length, drop, encode_utf8, Option, Some, None, is_some, nat_lt, bytes_eq, slice_get, append-nil, append_assoc, if◌then◌else◌, IsUtf8}
use Rattle.std.specs.Option.{option_map_or}
use Rattle.std.specs.Str.{chars}
use Rattle.clap.specs.Lexer.{usize_max, long_of, short_of}
use Rattle.clap.specs.Walk.{Held, Row, Rule, Step, Waiting, Walk, after_flag, long_met, idle, option, trailing, value, after_step, arg_by_id, arg_by_index, arg_by_long, arg_by_short, is_pending, long_or_other, option_word, plain_word, pushed, reacted, settled, short_or_plain, to_positional, walked}
use Rattle.clap.specs.Kinds.{Kinds, or_else}
use Rattle.clap.specs.Faults.{bundle_fault, flag_word_fault, flags_fault, bundle_step_fault, long_fault, option_fault, positional_fault, react_fault, settle_fault, short_fault, step_fault, stray_fault, turn_fault, use_fault, walk_fault}
use Rattle.command_words.specs.Words.{Text, Named, is_among, is_flag, is_once, told, told_option, told_place, told_places, told_value, under, with_word}
use Rattle.command_words.proofs.Kept.{row, not_once, text_same}
use Rattle.command_words.proofs.Looks.{Look, dashes, look, ends, long, short, plain}
use Rattle.command_words.proofs.Rules.{AtPlaces, Ends, EndsBy, Fails, HasOptions, Holds, Next, Reacts, Stuck, after, and_false, at, core, fails_left, leaf, option_rule, option_used, pending_added, place_rule, place_used, reacted_added, rows_at}

-- ---- how the told words end

pub ended : (faults : Kinds) (rows : List Row) (es : Named) → faults ≡ [] → rows ≡ map row es → is_once es ≡ true → Ends faults rows es (Some [])
ended faults rows es none same once =
    subst (λ xs. EndsBy (is_once xs) faults rows (map row xs)) (sym (append-nil es)) (subst (λ b. EndsBy b faults rows (map row es)) (sym once) (none, same))

pub ends_twice : (faults : Kinds) (rows : List Row) (es : Named) (name v : Text) (r : Option Named) → is_some (under name es) ≡ true → Fails faults
    → Ends faults rows es (with_word name v r)
ends_twice faults rows es name v None twice f = f
ends_twice faults rows es name v (Some more) twice f =
    subst (λ b. EndsBy b faults rows (map row (es ++ (name, v) ∷ more))) (sym (not_once name v es more twice)) f

pub ends_more : (faults : Kinds) (rows : List Row) (es : Named) (name v : Text) (r : Option Named) → Ends faults rows (es ++ (name, v) ∷ []) r
    → Ends faults rows es (with_word name v r)
ends_more faults rows es name v None f = f
ends_more faults rows es name v (Some more) h =
    subst (λ xs. EndsBy (is_once xs) faults rows (map row xs)) (append_assoc es ((name, v) ∷ []) more) h

or_false : (b : Bool) → (b || false) ≡ b
or_false true = refl
or_false false = refl

abbrev pub AreTexts : List Text → Type 0
AreTexts [] = Unit {0}
AreTexts (word ∷ words) = IsUtf8 word × AreTexts words

module _ (command : Text) (c : List Rule) where
  abbrev pub EndsAt : Walk → List Text → Named → Option Named → Type 0
  EndsAt w words es r = Ends (core c command w words) (rows_at c w words) es r

  abbrev turn : Walk → Text → Kinds
  turn w word = turn_fault (leaf command c) [] w word

  -- ---- one word on

  turn_fails : (w : Walk) (word : Text) (words : List Text) → Fails (turn w word) → Fails (core c command w (word ∷ words))
  unfolding walk_fault
  turn_fails w word words f = fails_left _ _ (fails_left _ _ f)

  core_next : (w u : Walk) (word : Text) (words : List Text) → turn w word ≡ [] → walked c [] w word ≡ u → Fails (core c command u words)
      → Fails (core c command w (word ∷ words))
  unfolding walk_fault
  core_next w u word words e f h =
      subst₂ (λ (t : Kinds) (v : Walk). Fails (or_else (or_else t (walk_fault (leaf command c) [] v words)) (settle_fault c false (after c v words)))) (sym e) (sym f) h

  next_ends : (w u : Walk) (word : Text) (words : List Text) (es : Named) (r : Option Named) → turn w word ≡ [] → walked c [] w word ≡ u → EndsAt u words es r
      → EndsAt w (word ∷ words) es r
  unfolding walk_fault
  next_ends w u word words es r e f h =
      subst₂ (λ (t : Kinds) (v : Walk). Ends (or_else (or_else t (walk_fault (leaf command c) [] v words)) (settle_fault c false (after c v words))) (rows_at c v words) es r) (sym e) (sym f) h

  -- ---- a word for a place

  abbrev value_fault : ℕ → Held → Kinds
  value_fault i h = step_fault (leaf command c) i h value

  stray : (i : ℕ) (h : Held) → arg_by_index c i ≡ None → Fails (value_fault i h)
  stray i h e = subst (λ (o : Option Rule). Fails (option_map_or (λ a. positional_fault c false a h) o (stray_fault (leaf command c)))) (sym e) tt

  placed_fault : (i : ℕ) (h : Held) (place : Text) → arg_by_index c i ≡ Some (place_rule place i) → value_fault i h ≡ settle_fault c false h
  placed_fault i h place e =
      ap (λ (o : Option Rule). option_map_or (λ a. positional_fault c false a h) o (stray_fault (leaf command c))) e
      ∙ ap (λ (b : Bool). cond b [] (settle_fault c false h)) (and_false (is_pending (place_rule place i) h.pending))

  -- what is held with a word for a place
  abbrev with_pending : Held → Text → List Text → Held
  with_pending h name words = record (settled c h) { pending = Some (name, words) }

  placed_walk : (i : ℕ) (h : Held) (place word : Text) (waiting : Waiting) (t : Bool) → arg_by_index c i ≡ Some (place_rule place i)
      → ◌≡◌ {A = Walk} (to_positional c (arg_by_index c i) word (at h waiting i t) h) (at (with_pending h place (word ∷ [])) idle (min (i + 1) usize_max) t)
  placed_walk i h place word waiting t e =
      ap (λ (o : Option Rule). to_positional c o word (at h waiting i t) h) e
      ∙ ap₂ (λ (b u : Bool). at (pushed place word (cond b h (settled c h))) idle (min (i + 1) usize_max) u) (and_false (is_pending (place_rule place i) h.pending)) (or_false t)

  -- a word that went to a place
  placed_ends : (w : Walk) (i : ℕ) (h : Held) (es : Named) (place word : Text) (words : List Text) (t : Bool) (r : Option Named) → Holds c h es
      → arg_by_index c i ≡ Some (place_rule place i) → arg_by_id c place ≡ Some (place_rule place i)
      → turn w word ≡ value_fault i h → walked c [] w word ≡ at (with_pending h place (word ∷ [])) idle (min (i + 1) usize_max) t
      → (Stuck c (with_pending h place (word ∷ [])) → Fails (core c command (at (with_pending h place (word ∷ [])) idle (min (i + 1) usize_max) t) words))
      → (Holds c (with_pending h place (word ∷ [])) (es ++ (place, word) ∷ [])
      → EndsAt (at (with_pending h place (word ∷ [])) idle (min (i + 1) usize_max) t) words (es ++ (place, word) ∷ []) r)
      → EndsAt w (word ∷ words) es (with_word place word r)
  placed_ends w i h es place word words t r held e by_id turn_is walk_is stuck_ends holds_ends =
      next_ends w (at (with_pending h place (word ∷ [])) idle (min (i + 1) usize_max) t) word words es (with_word place word r) (turn_is ∙ placed_fault i h place e ∙ held.fault) walk_is
      (go (pending_added c (place_rule place i) place word h es (place_used place i) by_id held))
    where
      u : Walk
      u = at (with_pending h place (word ∷ [])) idle (min (i + 1) usize_max) t

      go : Next c (with_pending h place (word ∷ [])) es place word → EndsAt (at (with_pending h place (word ∷ [])) idle (min (i + 1) usize_max) t) words es (with_word place word r)
      go (inl s) = ends_twice _ _ es place word r s.1 (stuck_ends s.0)
      go (inr k) = ends_more _ _ es place word r (holds_ends k)

  -- ---- after `--`

  trailing_turn : (h : Held) (waiting : Waiting) (i : ℕ) (word : Text) → turn (at h waiting i true) word ≡ value_fault i h
  trailing_turn h waiting i word = refl

  trailing_walk : (h : Held) (waiting : Waiting) (i : ℕ) (word : Text) → walked c [] (at h waiting i true) word ≡ to_positional c (arg_by_index c i) word (at h waiting i true) h
  unfolding walked
  trailing_walk h waiting i word = refl

  stuck_trailing : (words : List Text) (h : Held) (waiting : Waiting) (i : ℕ) (places : List Text) → Stuck c h → AtPlaces c i places
      → Fails (core c command (at h waiting i true) words)
  unfolding walk_fault
  stuck_trailing [] h waiting i places s p = s.fault
  stuck_trailing (word ∷ words) h waiting i [] s p = turn_fails (at h waiting i true) word words (stray i h p)
  stuck_trailing (word ∷ words) h waiting i (place ∷ places) s p = turn_fails (at h waiting i true) word words (subst Fails (sym (placed_fault i h place p.0)) s.fault)

  trailing_ends : (words : List Text) (h : Held) (es : Named) (waiting : Waiting) (i : ℕ) (places : List Text) → Holds c h es → AtPlaces c i places
      → EndsAt (at h waiting i true) words es (told_places places words)
  unfolding walk_fault
  trailing_ends [] h es waiting i places held p = ended _ _ es held.fault held.rows held.once
  trailing_ends (word ∷ words) h es waiting i [] held p = turn_fails (at h waiting i true) word words (stray i h p)
  trailing_ends (word ∷ words) h es waiting i (place ∷ places) held p =
      placed_ends (at h waiting i true) i h es place word words true (told_places places words) held p.0 p.1
      (trailing_turn h waiting i word) (trailing_walk h waiting i word ∙ placed_walk i h place word waiting true p.0)
      (λ s. stuck_trailing words _ idle (min (i + 1) usize_max) places s p.2)
      (λ k. trailing_ends words _ _ idle (min (i + 1) usize_max) places k p.2)

  -- ---- what a word is

  -- the word's step, by what it looks like
  abbrev met_by : Waiting → ℕ → Text → Held → Bool → Option (Text × Option Text) → Held × Step
  met_by waiting i word h b lo = if b then (h, trailing i) else long_or_other c waiting word lo h

  abbrev turn_by : Waiting → ℕ → Text → Held → Bool → Option (Text × Option Text) → Kinds
  turn_by waiting i word h b lo =
      or_else (if b then [] else flag_word_fault c false lo word h) (step_fault (leaf command c) i (met_by waiting i word h b lo).0 (met_by waiting i word h b lo).1)

  abbrev walk_by : Waiting → ℕ → Text → Held → Bool → Option (Text × Option Text) → Walk
  walk_by waiting i word h b lo = after_step c word (at h waiting i false) (met_by waiting i word h b lo).0 (met_by waiting i word h b lo).1

  -- the turn of a word that no positional option takes yet: nothing waits, or an option does
  pub record Meets (waiting : Waiting) (i : ℕ) (word : Text) (h : Held) : Type 0 where
    pub turn_is : turn (at h waiting i false) word ≡ turn_by waiting i word h (bytes_eq word dashes) (long_of word)
    pub walk_is : walked c [] (at h waiting i false) word ≡ walk_by waiting i word h (bytes_eq word dashes) (long_of word)

  meets_idle : (i : ℕ) (word : Text) (h : Held) → Meets idle i word h
  unfolding walked
  meets_idle i word h = record { turn_is = refl; walk_is = refl }

  meets_option : (name : Text) (i : ℕ) (word : Text) (h : Held) → Meets (option name) i word h
  unfolding walked
  meets_option name i word h = record { turn_is = refl; walk_is = refl }

  -- `--` goes on with the words that are left
  ends_turn : (waiting : Waiting) (i : ℕ) (word : Text) (h : Held) → Meets waiting i word h → bytes_eq word dashes ≡ true → turn (at h waiting i false) word ≡ []
  ends_turn waiting i word h m e = m.turn_is ∙ ap (λ b. turn_by waiting i word h b (long_of word)) e

  ends_walk : (waiting : Waiting) (i : ℕ) (word : Text) (h : Held) → Meets waiting i word h → bytes_eq word dashes ≡ true → walked c [] (at h waiting i false) word ≡ at h waiting i true
  ends_walk waiting i word h m e = m.walk_is ∙ ap (λ b. walk_by waiting i word h b (long_of word)) e

  long_turn : (waiting : Waiting) (i : ℕ) (word : Text) (h : Held) (p : Text × Option Text) → Meets waiting i word h → bytes_eq word dashes ≡ false → long_of word ≡ Some p
      → turn (at h waiting i false) word ≡ turn_by waiting i word h false (Some p)
  long_turn waiting i word h p m e l = m.turn_is ∙ ap₂ (λ b lo. turn_by waiting i word h b lo) e l

  long_walk : (waiting : Waiting) (i : ℕ) (word : Text) (h : Held) (p : Text × Option Text) → Meets waiting i word h → bytes_eq word dashes ≡ false → long_of word ≡ Some p
      → walked c [] (at h waiting i false) word ≡ walk_by waiting i word h false (Some p)
  long_walk waiting i word h p m e l = m.walk_is ∙ ap₂ (λ b lo. walk_by waiting i word h b lo) e l

  -- an option that the command lacks
  unknown_fails : (waiting : Waiting) (i : ℕ) (word : Text) (h : Held) (p : Text × Option Text) → arg_by_long c p.0 ≡ None → Fails (turn_by waiting i word h false (Some p))
  unknown_fails waiting i word h p e = fails_left _ _ (subst (λ (o : Option Rule). Fails (long_fault c false o p.1 h)) (sym e) tt)

  -- an option while something is held that fails
  stuck_option : (name : Text) (v : Option Text) (h : Held) → Stuck c h → Fails (option_fault c false (option_rule name) v h)
  stuck_option name None h s = s.fault
  stuck_option name (Some v) h s = fails_left _ _ s.fault

  stuck_known : (waiting : Waiting) (i : ℕ) (word : Text) (h : Held) (p : Text × Option Text) → arg_by_long c p.0 ≡ Some (option_rule p.0) → Stuck c h
      → Fails (turn_by waiting i word h false (Some p))
  stuck_known waiting i word h p e s = fails_left _ _ (subst (λ (o : Option Rule). Fails (long_fault c false o p.1 h)) (sym e) (stuck_option p.0 p.1 h s))

  -- a word of one hyphen and more
  pub bundle_fails : (y : ℕ) (rest : Text) (x : ℕ) (h : Held) → h.skip ≡ 0 → slice_get (chars (y ∷ rest)) 0 ≡ Some x → arg_by_short c x ≡ None → Fails (bundle_fault c false (y ∷ rest) h)
  unfolding flags_fault
  bundle_fails y rest x h skip e none =
      let after_first : Text = drop (length (encode_utf8 x)) (y ∷ rest) in
      let next = flags_fault c false (length rest) in
      subst₂ (λ (o : Option ℕ) (k : ℕ). Fails (bundle_step_fault c false o (y ∷ rest) k (record h { skip = 0 }) next)) (sym e) (sym skip)
      (subst (λ (o : Option Rule). Fails (short_fault c false o after_first (record h { skip = 0 }) (next after_first 0))) (sym none) tt)

  short_fails : (waiting : Waiting) (i : ℕ) (word : Text) (h : Held) (y : ℕ) (rest : Text) (x : ℕ) → Meets waiting i word h → bytes_eq word dashes ≡ false → long_of word ≡ None
      → short_of word ≡ Some (y ∷ rest) → h.skip ≡ 0 → slice_get (chars (y ∷ rest)) 0 ≡ Some x → arg_by_short c x ≡ None → Fails (turn (at h waiting i false) word)
  short_fails waiting i word h y rest x m e l s skip first none =
      subst Fails (sym (m.turn_is ∙ ap₂ (λ b lo. turn_by waiting i word h b lo) e l))
      (fails_left _ _ (subst (λ (o : Option Text). Fails (option_map_or (λ flags. bundle_fault c false flags h) o [])) (sym s) (bundle_fails y rest x h skip first none)))

  -- ---- a word that is no flag

  abbrev plain_turn_by : Waiting → ℕ → Text → Held → Option Text → Kinds
  plain_turn_by waiting i word h so =
      or_else (option_map_or (λ flags. bundle_fault c false flags h) so []) (step_fault (leaf command c) i (short_or_plain c waiting word so h).0 (short_or_plain c waiting word so h).1)

  plain_turn : (waiting : Waiting) (i : ℕ) (word : Text) (h : Held) → Meets waiting i word h → bytes_eq word dashes ≡ false → long_of word ≡ None → short_of word ≡ None
      → turn (at h waiting i false) word ≡ plain_turn_by waiting i word h None
  plain_turn waiting i word h m e l s = m.turn_is ∙ ap₂ (λ b lo. turn_by waiting i word h b lo) e l ∙ ap (λ so. plain_turn_by waiting i word h so) s

  plain_walk : (waiting : Waiting) (i : ℕ) (word : Text) (h : Held) → Meets waiting i word h → bytes_eq word dashes ≡ false → long_of word ≡ None → short_of word ≡ None
      → walked c [] (at h waiting i false) word ≡ after_step c word (at h waiting i false) (plain_word c waiting word h).0 (plain_word c waiting word h).1
  plain_walk waiting i word h m e l s =
      m.walk_is ∙ ap₂ (λ b lo. walk_by waiting i word h b lo) e l
      ∙ ap (λ so. after_step c word (at h waiting i false) (short_or_plain c waiting word so h).0 (short_or_plain c waiting word so h).1) s

  -- the word is the value that the option waits for
  valued_walk : (name : Text) (i : ℕ) (word : Text) (h : Held) → arg_by_id c name ≡ Some (option_rule name)
      → ◌≡◌ {A = Walk} (after_step c word (at (with_pending h name []) (option name) i false)
      (plain_word c (option name) word (with_pending h name [])).0 (plain_word c (option name) word (with_pending h name [])).1)
      (at (with_pending h name (word ∷ [])) idle i false)
  valued_walk name i word h e =
      ap (λ (o : Option Rule). at (option_word o name word (with_pending h name [])).0 (option_word o name word (with_pending h name [])).1 i false) e
      ∙ ap (λ (b : Bool). at (with_pending h name (word ∷ [])) (if nat_lt (if b then 1 else 0) 1 then option name else idle) i false) (text_same name)

  module _ (options : List Text) (has : HasOptions c options) where
    -- an option that waits for its value fails in the end
    waiting_stuck : (h : Held) (name : Text) → is_among name options ≡ true → h.skip ≡ 0 → Stuck c (with_pending h name [])
    waiting_stuck h name k skip = record {
      fault = subst (λ (o : Option Rule). Fails (option_map_or (λ a. use_fault false a [] (settled c h).rows) o [])) (sym (has.by_id name k)) tt;
      skip = skip;
    }

    -- a flag while something is held that fails
    stuck_flag : (waiting : Waiting) (i : ℕ) (word : Text) (words : List Text) (h : Held) (p : Text × Option Text) → Meets waiting i word h → Stuck c h
        → bytes_eq word dashes ≡ false → long_of word ≡ Some p → Fails (core c command (at h waiting i false) (word ∷ words))
    stuck_flag waiting i word words h p m s e l =
        turn_fails (at h waiting i false) word words (subst Fails (sym (long_turn waiting i word h p m e l)) (go (is_among p.0 options) refl))
      where
        go : (b : Bool) → is_among p.0 options ≡ b → Fails (turn_by waiting i word h false (Some p))
        go true k = stuck_known waiting i word h p (has.known p.0 k) s
        go false k = unknown_fails waiting i word h p (has.unknown p.0 k)

    stuck_idle : (words : List Text) (h : Held) (i : ℕ) (places : List Text) → AreTexts words → Stuck c h → AtPlaces c i places
        → Fails (core c command (at h idle i false) words)
    unfolding walk_fault
    stuck_idle [] h i places u s p = s.fault
    stuck_idle (word ∷ words) h i places u s p = go (look word u.0) places p
      where
        go : Look word → (places : List Text) → AtPlaces c i places → Fails (core c command (at h idle i false) (word ∷ words))
        go (ends e f) places p =
            core_next (at h idle i false) (at h idle i true) word words (ends_turn idle i word h (meets_idle i word h) e) (ends_walk idle i word h (meets_idle i word h) e) (stuck_trailing words h idle i places s p)
        go (long e q l f) places p = stuck_flag idle i word words h q (meets_idle i word h) s e l
        go (short e l y rest x is first f) places p =
            turn_fails (at h idle i false) word words (short_fails idle i word h y rest x (meets_idle i word h) e l is s.skip first (has.no_short x))
        go (plain e l is f) [] p = turn_fails (at h idle i false) word words (subst Fails (sym (plain_turn idle i word h (meets_idle i word h) e l is)) (stray i h p))
        go (plain e l is f) (place ∷ places) p =
            turn_fails (at h idle i false) word words (subst Fails (sym (plain_turn idle i word h (meets_idle i word h) e l is ∙ placed_fault i h place p.0)) s.fault)

    -- ---- what is told

    abbrev told_by : List Text → Text → List Text → Bool → Bool → Option (Text × Option Text) → Option Named
    told_by places word words b f lo =
        if b then told_places places words
        else (if f then told_option options lo (told options words places) else told_place places word (λ left. told options words left None))

    told_is : (places : List Text) (word : Text) (words : List Text) (b f : Bool) (lo : Option (Text × Option Text)) → bytes_eq word dashes ≡ b → is_flag word ≡ f → long_of word ≡ lo
        → told options (word ∷ words) places None ≡ told_by places word words b f lo
    unfolding told
    told_is places word words b f lo e g l = λ j. told_by places word words (e j) (g j) (l j)

    told_waiting : (places : List Text) (name word : Text) (words : List Text) (f : Bool) → is_flag word ≡ f
        → told options (word ∷ words) places (Some name) ≡ (if f then None else with_word name word (told options words places None))
    unfolding told
    told_waiting places name word words f g = ap (λ b. if b then None else with_word name word (told options words places None)) g

    -- from here the words that are left end as they tell, whether nothing waits or an option does
    pub record Goes (words : List Text) : Type 0 where
      pub nothing : (h : Held) (es : Named) (i : ℕ) (places : List Text) → Holds c h es → AtPlaces c i places
          → EndsAt (at h idle i false) words es (told options words places None)
      pub waits : (h : Held) (es : Named) (i : ℕ) (places : List Text) (name : Text) → Holds c h es → AtPlaces c i places → is_among name options ≡ true
          → EndsAt (at (with_pending h name []) (option name) i false) words es (told options words places (Some name))

    abbrev long_turn_by : ℕ → Text → Held → Option Rule → Option Text → Kinds
    long_turn_by i word h o v =
        or_else (long_fault c false o v h) (step_fault (leaf command c) i (after_flag c idle word (long_met c o v h).0 (long_met c o v h).1).0 (after_flag c idle word (long_met c o v h).0 (long_met c o v h).1).1)

    abbrev long_walk_by : ℕ → Text → Held → Option Rule → Option Text → Walk
    long_walk_by i word h o v =
        after_step c word (at h idle i false) (after_flag c idle word (long_met c o v h).0 (long_met c o v h).1).0 (after_flag c idle word (long_met c o v h).0 (long_met c o v h).1).1

    -- an option that the command has
    known_idle : (word : Text) (words : List Text) → AreTexts words → Goes words → (h : Held) (es : Named) (i : ℕ) (places : List Text) → Holds c h es → AtPlaces c i places
        → bytes_eq word dashes ≡ false → (name : Text) (v : Option Text) → long_of word ≡ Some (name, v) → is_among name options ≡ true
        → EndsAt (at h idle i false) (word ∷ words) es (told_value name v (told options words places))
    known_idle word words u ih h es i places held p e name None l k =
        next_ends (at h idle i false) (at (with_pending h name []) (option name) i false) word words es _
        (long_turn idle i word h (name, None) (meets_idle i word h) e l ∙ ap (λ o. long_turn_by i word h o None) (has.known name k) ∙ ap (λ t. or_else t []) held.fault)
        (long_walk idle i word h (name, None) (meets_idle i word h) e l ∙ ap (λ o. long_walk_by i word h o None) (has.known name k))
        (ih.waits h es i places name held p k)
    known_idle word words u ih h es i places held p e name (Some v) l k = go (reacted_added c (option_rule name) name v h es (option_used name) held)
      where
        turn_is : turn (at h idle i false) word ≡ or_else (react_fault c false (option_rule name) (v ∷ []) h) []
        turn_is = long_turn idle i word h (name, Some v) (meets_idle i word h) e l ∙ ap (λ o. long_turn_by i word h o (Some v)) (has.known name k)

        walk_is : walked c [] (at h idle i false) word ≡ at (reacted c (option_rule name) (v ∷ []) h) idle i false
        walk_is = long_walk idle i word h (name, Some v) (meets_idle i word h) e l ∙ ap (λ o. long_walk_by i word h o (Some v)) (has.known name k)

        go : Reacts c (option_rule name) h es name v → EndsAt (at h idle i false) (word ∷ words) es (with_word name v (told options words places None))
        go (inl s) = ends_twice _ _ es name v _ s.1 (turn_fails (at h idle i false) word words (subst Fails (sym turn_is) (fails_left _ _ s.0)))
        go (inr r) = next_ends (at h idle i false) (at (reacted c (option_rule name) (v ∷ []) h) idle i false) word words es _ (turn_is ∙ ap (λ t. or_else t []) r.0) walk_is (ends_more _ _ es name v _ (ih.nothing _ _ i places r.1 p))

    idle_step : (word : Text) (words : List Text) → IsUtf8 word → AreTexts words → Goes words → (h : Held) (es : Named) (i : ℕ) (places : List Text) → Holds c h es
        → AtPlaces c i places → EndsAt (at h idle i false) (word ∷ words) es (told options (word ∷ words) places None)
    idle_step word words uw u ih h es i places held p = go (look word uw) places p
      where
        m : Meets idle i word h
        m = meets_idle i word h

        go : Look word → (places : List Text) → AtPlaces c i places → EndsAt (at h idle i false) (word ∷ words) es (told options (word ∷ words) places None)
        go (ends e f) places p =
            subst (EndsAt (at h idle i false) (word ∷ words) es) (sym (told_is places word words true _ _ e refl refl))
            (next_ends (at h idle i false) (at h idle i true) word words es (told_places places words) (ends_turn idle i word h m e) (ends_walk idle i word h m e) (trailing_ends words h es idle i places held p))
        go (long e q l f) places p = known (is_among q.0 options) refl
          where
            known : (b : Bool) → is_among q.0 options ≡ b → EndsAt (at h idle i false) (word ∷ words) es (told options (word ∷ words) places None)
            known true k =
                subst (EndsAt (at h idle i false) (word ∷ words) es)
                (sym (told_is places word words false true (Some q) e f l ∙ ap (λ b. if b then told_value q.0 q.1 (told options words places) else None) k))
                (known_idle word words u ih h es i places held p e q.0 q.1 l k)
            known false k =
                subst (EndsAt (at h idle i false) (word ∷ words) es)
                (sym (told_is places word words false true (Some q) e f l ∙ ap (λ b. if b then told_value q.0 q.1 (told options words places) else None) k))
                (turn_fails (at h idle i false) word words (subst Fails (sym (long_turn idle i word h q m e l)) (unknown_fails idle i word h q (has.unknown q.0 k))))
        go (short e l y rest x is first f) places p =
            subst (EndsAt (at h idle i false) (word ∷ words) es) (sym (told_is places word words false true None e f l))
            (turn_fails (at h idle i false) word words (short_fails idle i word h y rest x m e l is held.skip first (has.no_short x)))
        go (plain e l is f) [] p =
            subst (EndsAt (at h idle i false) (word ∷ words) es) (sym (told_is [] word words false false None e f l))
            (turn_fails (at h idle i false) word words (subst Fails (sym (plain_turn idle i word h m e l is)) (stray i h p)))
        go (plain e l is f) (place ∷ places) p =
            subst (EndsAt (at h idle i false) (word ∷ words) es) (sym (told_is (place ∷ places) word words false false None e f l))
            (placed_ends (at h idle i false) i h es place word words false (told options words places None) held p.0 p.1
            (plain_turn idle i word h m e l is) (plain_walk idle i word h m e l is ∙ placed_walk i h place word idle false p.0)
            (λ s. stuck_idle words _ (min (i + 1) usize_max) places u s p.2)
            (λ k. ih.nothing _ _ (min (i + 1) usize_max) places k p.2))

    waiting_step : (word : Text) (words : List Text) → IsUtf8 word → AreTexts words → Goes words → (h : Held) (es : Named) (i : ℕ) (places : List Text) (name : Text)
        → Holds c h es → AtPlaces c i places → is_among name options ≡ true
        → EndsAt (at (with_pending h name []) (option name) i false) (word ∷ words) es (told options (word ∷ words) places (Some name))
    waiting_step word words uw u ih h es i places name held p k = go (look word uw)
      where
        hp : Held
        hp = with_pending h name []

        m : Meets (option name) i word (with_pending h name [])
        m = meets_option name i word (with_pending h name [])

        s : Stuck c (with_pending h name [])
        s = waiting_stuck h name k held.skip

        refused : is_flag word ≡ true → Fails (core c command (at (with_pending h name []) (option name) i false) (word ∷ words))
            → EndsAt (at (with_pending h name []) (option name) i false) (word ∷ words) es (told options (word ∷ words) places (Some name))
        refused f bad = subst (EndsAt (at (with_pending h name []) (option name) i false) (word ∷ words) es) (sym (told_waiting places name word words true f)) bad

        added : Next c (with_pending h name (word ∷ [])) es name word
            → EndsAt (at (with_pending h name (word ∷ [])) idle i false) words es (with_word name word (told options words places None))
        added (inl t) = ends_twice _ _ es name word _ t.1 (stuck_idle words _ i places u t.0 p)
        added (inr r) = ends_more _ _ es name word _ (ih.nothing _ _ i places r p)

        go : Look word → EndsAt (at (with_pending h name []) (option name) i false) (word ∷ words) es (told options (word ∷ words) places (Some name))
        go (ends e f) = refused f (core_next (at (with_pending h name []) (option name) i false) (at (with_pending h name []) (option name) i true) word words (ends_turn (option name) i word (with_pending h name []) m e) (ends_walk (option name) i word (with_pending h name []) m e)
            (stuck_trailing words (with_pending h name []) (option name) i places s p))
        go (long e q l f) = refused f (stuck_flag (option name) i word words (with_pending h name []) q m s e l)
        go (short e l y rest x is first f) =
            refused f (turn_fails (at (with_pending h name []) (option name) i false) word words (short_fails (option name) i word (with_pending h name []) y rest x m e l is held.skip first (has.no_short x)))
        go (plain e l is f) =
            subst (EndsAt (at (with_pending h name []) (option name) i false) (word ∷ words) es) (sym (told_waiting places name word words false f))
            (next_ends (at (with_pending h name []) (option name) i false) (at (with_pending h name (word ∷ [])) idle i false) word words es _ (plain_turn (option name) i word (with_pending h name []) m e l is)
            (plain_walk (option name) i word (with_pending h name []) m e l is ∙ valued_walk name i word h (has.by_id name k))
            (added (pending_added c (option_rule name) name word h es (option_used name) (has.by_id name k) held)))

    pub goes : (words : List Text) → AreTexts words → Goes words
    unfolding walk_fault told
    goes [] u = record {
      nothing = λ h es i places held p. ended _ _ es held.fault held.rows held.once;
      waits = λ h es i places name held p k. (waiting_stuck h name k held.skip).fault;
    }
    goes (word ∷ words) u =
        let ih = goes words u.1 in
        record { nothing = idle_step word words u.0 u.1 ih; waits = waiting_step word words u.0 u.1 ih }
