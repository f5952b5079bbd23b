-- What a parse of the whole words comes to.
use Rattle.std.proofs.Common.{◌≡◌, ◌∙◌, inl, inr, ◌||◌, Bool, cond, true, false, refl, sym, ap, ap₂, subst, subst₂, List, [], ◌∷◌, ◌++◌, Option, Some, None, is_some, fold, find, bytes_eq, codes, IsUtf8, if◌then◌else◌, option_map, map, String, string_bytes}
use Rattle.std.specs.Option.{option_map_or}
use Rattle.clap.specs.Lexer.{long_of}
use Rattle.clap.specs.Walk.{Held, Row, Rule, Step, Walk, after_step, answers_to, finished, idle, long_or_other, nothing_held, rows_after, settled, short_or_plain, subcommand_or_other, trailing, walk_from, walked}
use Rattle.clap.specs.Simple.{App, Shape, built, entered, label_of, names_of, subcommand_of}
use Rattle.clap.specs.Kinds.{Kinds, or_else}
use Rattle.clap.specs.Faults.{bundle_fault, check_fault, defaults_fault, entered_fault, fault_of, flag_word_fault, level_fault, other_fault, settle_fault, step_fault, turn_fault, walk_fault}
use Rattle.std.proofs.lemmas.Str.{IsUtf8-string_bytes}
use Rattle.clap.proofs.WalkLemmas.{walk_stopped}
use Rattle.command_words.specs.Words.{Text, Named, is_once, told, under}
use Rattle.command_words.specs.Asked.{Asked, usage, asked, asked_by, asked_once, serve_by, check_by, dump_by, gen_by, options_of, places_of}
use Rattle.command_words.specs.Matched.{asked_at}
use Rattle.command_words.specs.Described.{described}
use Rattle.command_words.proofs.Kept.{same_text}
use Rattle.command_words.proofs.Looks.{Look, dashes, look, ends, long, short, plain}
use Rattle.command_words.proofs.Rules.{Fails, cond_same, fails_left, fails_right, leaf, or_else_nil, place_rule}
use Rattle.command_words.proofs.Steps.{AreTexts, bundle_fails}
use Rattle.command_words.proofs.Levels.{Answers, IsOf, answered, known_long, level_ends, option_id, options_then, unknown_long}

-- ---- the commands

abbrev serve_places : List Rule
serve_places = place_rule (codes "script") 1 ∷ place_rule (codes "folder") 2 ∷ []

abbrev serve_rules : List Rule
serve_rules = options_then (options_of (codes "serve")) serve_places

abbrev check_rules : List Rule
check_rules = place_rule (codes "script") 1 ∷ []

abbrev dump_places : List Rule
dump_places = place_rule (codes "folder") 1 ∷ []

abbrev dump_rules : List Rule
dump_rules = options_then (options_of (codes "dump")) dump_places

abbrev gen_rules : List Rule
gen_rules = place_rule (codes "seed") 1 ∷ place_rule (codes "count") 2 ∷ place_rule (codes "folder") 3 ∷ []

serve_is : IsOf serve_rules (options_of (codes "serve")) (places_of (codes "serve"))
serve_is = record {
  has = record {
    known = known_long (options_of (codes "serve")) serve_places;
    unknown = λ name. unknown_long (options_of (codes "serve")) serve_places name refl;
    by_id = option_id (options_of (codes "serve")) serve_places;
    no_short = λ x. refl;
  };
  stand = (refl, refl, (refl, refl, refl));
  plain = (refl, (refl, (refl, (refl, (refl, tt)))));
  free = λ rows. refl;
}

check_is : IsOf check_rules (options_of (codes "check")) (places_of (codes "check"))
check_is = record {
  has = record {
    known = known_long [] check_rules;
    unknown = λ name. unknown_long [] check_rules name refl;
    by_id = option_id [] check_rules;
    no_short = λ x. refl;
  };
  stand = (refl, refl, refl);
  plain = (refl, tt);
  free = λ rows. refl;
}

dump_is : IsOf dump_rules (options_of (codes "dump")) (places_of (codes "dump"))
dump_is = record {
  has = record {
    known = known_long (options_of (codes "dump")) dump_places;
    unknown = λ name. unknown_long (options_of (codes "dump")) dump_places name refl;
    by_id = option_id (options_of (codes "dump")) dump_places;
    no_short = λ x. refl;
  };
  stand = (refl, refl, refl);
  plain = (refl, (refl, tt));
  free = λ rows. refl;
}

gen_is : IsOf gen_rules (options_of (codes "gen")) (places_of (codes "gen"))
gen_is = record {
  has = record {
    known = known_long [] gen_rules;
    unknown = λ name. unknown_long [] gen_rules name refl;
    by_id = option_id [] gen_rules;
    no_short = λ x. refl;
  };
  stand = (refl, refl, (refl, refl, (refl, refl, refl)));
  plain = (refl, (refl, (refl, tt)));
  free = λ rows. refl;
}

-- ---- the first word

abbrev program : App
program = built described

abbrev start : Walk
start = walk_from nothing_held

abbrev step : Walk → Text → Walk
step = walked [] (names_of program)

-- the faults of the whole, by those of the first words, and by where their walk ends
abbrev fault_from : Kinds → Walk → Kinds
fault_from k v =
    or_else k (or_else (entered_fault program v.stopped) (or_else (settle_fault [] false v.held)
    (or_else (defaults_fault (settled [] v.held).rows []) (check_fault program.top (finished [] v.held) (is_some (entered program v.stopped))))))

-- the name and the matches of a command on these words
abbrev entered_rows : List Text → Option Shape → Option (Text × List Row)
entered_rows words = option_map (λ (s : Shape). (s.name, rows_after s.rules [] words))

-- after a subcommand nothing fails above it
stopped_fault : (w : Walk) (p : Text × List Text) (words : List Text) → walk_fault program.top (names_of program) (record w { stopped = Some p }) words ≡ []
unfolding walk_fault walked
stopped_fault w p [] = refl
stopped_fault w p (word ∷ words) = stopped_fault w (p.0, p.1 ++ word ∷ []) words

-- the first word is a command
pub entering : (name : Text) (c : List Rule) → turn_fault program.top (names_of program) start name ≡ [] → step start name ≡ record start { stopped = Some (name, []) }
    → find (λ s. answers_to name (label_of s)) program.subs ≡ Some (leaf name c) → (words : List Text)
    → (fault_of described (name ∷ words) ≡ level_fault (leaf name c) [] nothing_held words false [])
    × (subcommand_of described (name ∷ words) ≡ Some (name, rows_after c [] words))
unfolding walk_fault defaults_fault
entering name c none met found words = (faults, stop)
  where
    stop_is : ◌≡◌ {A = Walk} (fold step (step start name) words) (record start { stopped = Some (name, words) })
    stop_is = ap (λ (w : Walk). fold step w words) met ∙ sym (walk_stopped [] (names_of program) start name [] words)

    first : walk_fault program.top (names_of program) start (name ∷ words) ≡ []
    first =
        ap₂ (λ (t : Kinds) (w : Walk). or_else t (walk_fault program.top (names_of program) w words)) none met ∙ stopped_fault start (name, []) words

    faults : fault_of described (name ∷ words) ≡ level_fault (leaf name c) [] nothing_held words false []
    faults =
        ap₂ fault_from first stop_is
        ∙ ap (λ (o : Option Shape). or_else (option_map_or (λ s. level_fault s [] nothing_held words false []) o []) (check_fault program.top [] (is_some (entered_rows words o)))) found
        ∙ or_else_nil (level_fault (leaf name c) [] nothing_held words false [])

    stop : subcommand_of described (name ∷ words) ≡ Some (name, rows_after c [] words)
    stop =
        ap (λ (w : Walk). entered program w.stopped) stop_is
        ∙ ap (entered_rows words) found

-- ---- a first word that is no command

abbrev command_met : Bool → Bool → Bool → Bool → Option Text
command_met s k d g =
    option_map (λ (n : Text × List Text). n.0) (cond (s || false) (Some (codes "serve", [])) (cond (k || false) (Some (codes "check", [])) (cond (d || false) (Some (codes "dump", [])) (cond (g || false) (Some (codes "gen", [])) None))))

abbrev first_turn : Text → Option Text → Kinds
first_turn word met =
    or_else (other_fault program.top met word nothing_held)
    (step_fault program.top 1 (subcommand_or_other [] met idle 1 word nothing_held).0 (subcommand_or_other [] met idle 1 word nothing_held).1)

abbrev first_walk : Text → Option Text → Walk
first_walk word met = after_step [] word start (subcommand_or_other [] met idle 1 word nothing_held).0 (subcommand_or_other [] met idle 1 word nothing_held).1

abbrev met_by : Text → Bool → Option (Text × Option Text) → Held × Step
met_by word b lo = if b then (nothing_held, trailing 1) else long_or_other [] idle word lo nothing_held

abbrev turn_by : Text → Bool → Option (Text × Option Text) → Kinds
turn_by word b lo = or_else (if b then [] else flag_word_fault [] false lo word nothing_held) (step_fault program.top 1 (met_by word b lo).0 (met_by word b lo).1)

abbrev short_by : Text → Option Text → Kinds
short_by word so =
    or_else (option_map_or (λ flags. bundle_fault [] false flags nothing_held) so [])
    (step_fault program.top 1 (short_or_plain [] idle word so nothing_held).0 (short_or_plain [] idle word so nothing_held).1)

-- a word that is no command asks for none
pub no_command : (word : Text) (look : Text → Option Text) → bytes_eq (codes "serve") word ≡ false → bytes_eq (codes "check") word ≡ false → bytes_eq (codes "dump") word ≡ false
    → bytes_eq (codes "gen") word ≡ false → asked_by word look ≡ usage
no_command word look s k d g = λ j. if s j then serve_by look else (if k j then check_by look else (if d j then dump_by look else (if g j then gen_by look else usage)))

-- what the words ask for where the first is no command
unknown_asked : (word : Text) (words : List Text) → bytes_eq (codes "serve") word ≡ false → bytes_eq (codes "check") word ≡ false → bytes_eq (codes "dump") word ≡ false
    → bytes_eq (codes "gen") word ≡ false → asked (word ∷ words) ≡ usage
unknown_asked word words s k d g = go (told (options_of word) words (places_of word) None)
  where
    go : (r : Option Named) → asked_once word r ≡ usage
    go None = refl
    go (Some named) = ap (λ (a : Asked). if is_once named then a else usage) (no_command word (λ name. under name named) s k d g) ∙ cond_same (is_once named) usage

module _ (word : Text) (s : bytes_eq (codes "serve") word ≡ false) (k : bytes_eq (codes "check") word ≡ false) (d : bytes_eq (codes "dump") word ≡ false)
    (g : bytes_eq (codes "gen") word ≡ false) where
  turn_is : turn_fault program.top (names_of program) start word ≡ first_turn word None
  turn_is = λ j. first_turn word (command_met (s j) (k j) (d j) (g j))

  walk_is : step start word ≡ first_walk word None
  unfolding walked
  walk_is = λ j. first_walk word (command_met (s j) (k j) (d j) (g j))

  turn_fails : (words : List Text) → Fails (turn_fault program.top (names_of program) start word) → Fails (fault_of described (word ∷ words))
  unfolding walk_fault
  turn_fails words f = fails_left _ _ (fails_left _ _ f)

  -- `--`, and nothing behind it or a word too many
  after_dashes : (words : List Text) → bytes_eq word dashes ≡ true → Answers (fault_of described (word ∷ words)) (asked_at (subcommand_of described (word ∷ words))) usage
  unfolding walk_fault defaults_fault walked
  after_dashes [] e =
      let turn : turn_fault program.top (names_of program) start word ≡ [] = turn_is ∙ ap (λ (b : Bool). turn_by word b (long_of word)) e in
      let walk : step start word ≡ record start { position = 1; is_trailing = true } = walk_is ∙ ap (λ (b : Bool). after_step [] word start (met_by word b (long_of word)).0 (met_by word b (long_of word)).1) e in
      inl (ap₂ (λ (t : Kinds) (w : Walk). fault_from (or_else t []) w) turn walk, ap (λ (w : Walk). asked_at (entered program w.stopped)) walk)
  after_dashes (next ∷ words) e =
      let walk : step start word ≡ record start { position = 1; is_trailing = true } = walk_is ∙ ap (λ (b : Bool). after_step [] word start (met_by word b (long_of word)).0 (met_by word b (long_of word)).1) e in
      inr (
        fails_left _ _ (fails_right (turn_fault program.top (names_of program) start word) _
            (subst (λ (w : Walk). Fails (walk_fault program.top (names_of program) w (next ∷ words))) (sym walk) tt)),
        refl,
      )

  unknown_answers : (words : List Text) → IsUtf8 word → Answers (fault_of described (word ∷ words)) (asked_at (subcommand_of described (word ∷ words))) usage
  unknown_answers words u = go (look word u)
    where
      go : Look word → Answers (fault_of described (word ∷ words)) (asked_at (subcommand_of described (word ∷ words))) usage
      go (ends e f) = after_dashes words e
      go (long e p l f) = inr (turn_fails words (subst Fails (sym (turn_is ∙ ap₂ (turn_by word) e l)) tt), refl)
      go (short e l y rest x is first f) =
          inr (turn_fails words (subst Fails (sym (turn_is ∙ ap₂ (turn_by word) e l ∙ ap (short_by word) is)) (fails_left _ _ (bundle_fails [] [] y rest x nothing_held refl first refl))), refl)
      go (plain e l is f) = inr (turn_fails words (subst Fails (sym (turn_is ∙ ap₂ (turn_by word) e l ∙ ap (short_by word) is)) tt), refl)

-- ---- all the words

abbrev AnswersAt : List Text → Type 0
AnswersAt words = Answers (fault_of described words) (asked_at (subcommand_of described words)) (asked words)

command_answers : (name : Text) (c : List Rule) → IsOf c (options_of name) (places_of name) → turn_fault program.top (names_of program) start name ≡ []
    → step start name ≡ record start { stopped = Some (name, []) } → find (λ s. answers_to name (label_of s)) program.subs ≡ Some (leaf name c)
    → (words : List Text) → AreTexts words → AnswersAt (name ∷ words)
command_answers name c is none met found words u =
    let enters = entering name c none met found words in
    subst₂ (λ (k : Kinds) (o : Option (Text × List Row)). Answers k (asked_at o) (asked (name ∷ words))) (sym enters.0) (sym enters.1)
    (answered name (level_fault (leaf name c) [] nothing_held words false []) (rows_after c [] words) (told (options_of name) words (places_of name) None)
    (level_ends name c (options_of name) (places_of name) is words u))

serve_answers : (words : List Text) → AreTexts words → AnswersAt (codes "serve" ∷ words)
unfolding walked
serve_answers = command_answers (codes "serve") serve_rules serve_is refl refl refl

check_answers : (words : List Text) → AreTexts words → AnswersAt (codes "check" ∷ words)
unfolding walked
check_answers = command_answers (codes "check") check_rules check_is refl refl refl

dump_answers : (words : List Text) → AreTexts words → AnswersAt (codes "dump" ∷ words)
unfolding walked
dump_answers = command_answers (codes "dump") dump_rules dump_is refl refl refl

gen_answers : (words : List Text) → AreTexts words → AnswersAt (codes "gen" ∷ words)
unfolding walked
gen_answers = command_answers (codes "gen") gen_rules gen_is refl refl refl

no_words : AnswersAt []
unfolding walk_fault defaults_fault
no_words = inl (refl, refl)

pub whole : (words : List Text) → AreTexts words → AnswersAt words
whole [] u = no_words
whole (word ∷ words) u = first (bytes_eq (codes "serve") word) refl
  where
    named : (name : Text) → bytes_eq name word ≡ true → AnswersAt (name ∷ words) → AnswersAt (word ∷ words)
    named name e h = subst (λ (w : Text). AnswersAt (w ∷ words)) (same_text name word e) h

    fourth : (b : Bool) → bytes_eq (codes "gen") word ≡ b → bytes_eq (codes "serve") word ≡ false → bytes_eq (codes "check") word ≡ false → bytes_eq (codes "dump") word ≡ false
        → AnswersAt (word ∷ words)
    fourth true g s k d = named (codes "gen") g (gen_answers words u.1)
    fourth false g s k d =
        subst (Answers (fault_of described (word ∷ words)) (asked_at (subcommand_of described (word ∷ words)))) (sym (unknown_asked word words s k d g)) (unknown_answers word s k d g words u.0)

    third : (b : Bool) → bytes_eq (codes "dump") word ≡ b → bytes_eq (codes "serve") word ≡ false → bytes_eq (codes "check") word ≡ false → AnswersAt (word ∷ words)
    third true d s k = named (codes "dump") d (dump_answers words u.1)
    third false d s k = fourth (bytes_eq (codes "gen") word) refl s k d

    second : (b : Bool) → bytes_eq (codes "check") word ≡ b → bytes_eq (codes "serve") word ≡ false → AnswersAt (word ∷ words)
    second true k s = named (codes "check") k (check_answers words u.1)
    second false k s = third (bytes_eq (codes "dump") word) refl s k

    first : (b : Bool) → bytes_eq (codes "serve") word ≡ b → AnswersAt (word ∷ words)
    first true s = named (codes "serve") s (serve_answers words u.1)
    first false s = second (bytes_eq (codes "check") word) refl s

pub texts_are : {Z : Type 0} (words : List (String Z)) → AreTexts (map string_bytes words)
texts_are [] = tt
texts_are (word ∷ words) = (IsUtf8-string_bytes word, texts_are words)
