-- From what `clap` says of a parse to what the words ask for.
use Rattle.std.proofs.Common.{◌≡◌, ◌≢◌, ◌∙◌, inl, inr, true, ap, ap₂, subst, List, [], ◌∷◌, map, Option, Some, None, option_map, Result, Ok, Err, IfOk, String, string_bytes}
use Rattle.std.proofs.lemmas.Result.{IfOk-weaker}
use Rattle.clap.specs.Words.{App, HasKind, HasMatchesOf, IsAmong, Kinds, fault_of, is_simple, is_simple_and_free, kind_of, subcommand_of, subcommand_rows_of}
use Rattle.clap.specs.declared.error.Error.{Error}
use Rattle.clap.specs.declared.error.kind.ErrorKind.{ErrorKind}
use Rattle.clap.specs.declared.error.kind.ErrorKind.TheVariants.{OutOfMemory}
use Rattle.clap.specs.declared.parser.matches.ArgMatches.{ArgMatches}
use Rattle.command_words.specs.Asked.{Asked, asked, usage}
use Rattle.command_words.specs.Matched.{asked_at}
use Rattle.command_words.specs.Described.{described}
use Rattle.command_words.proofs.Rules.{Fails}
use Rattle.command_words.proofs.Levels.{Answers}
use Rattle.command_words.proofs.Whole.{texts_are, whole}

when_none : (faults : Kinds) (matched wanted : Asked) → Answers faults matched wanted → faults ≡ [] → matched ≡ wanted
when_none faults matched wanted (inl a) none = a.1
when_none faults matched wanted (inr f) none = absurd (subst Fails none f.0)

fails_among : (k : ErrorKind) (faults : Kinds) → IsAmong k faults → Fails faults
fails_among k [] h = h
fails_among k (x ∷ xs) h = tt

when_failed : (faults : Kinds) (matched wanted : Asked) → Answers faults matched wanted → Fails faults → usage ≡ wanted
when_failed faults matched wanted (inl a) f = absurd (subst Fails a.0 f)
when_failed faults matched wanted (inr a) f = a.1

-- a pair by its parts, where there is one
pub some_pair : {A X Y : Type 0} (f : A → X) (g : A → Y) (o : Option A) (x : X) (y : Y) → Some x ≡ option_map f o → Some y ≡ option_map (λ (p : X × Y). p.1) (option_map {U = X × Y} (λ a. (f a, g a)) o)
    → option_map {U = X × Y} (λ a. (f a, g a)) o ≡ Some (x, y)
some_pair f g None x y first second = cc
some_pair {A} {X} {Y} f g (Some a) x y first second =
    let one : f a ≡ x = cc in
    let two : g a ≡ y = cc in
    let pair : ◌≡◌ {A = X × Y} (f a, g a) (x, y) = ap₂ (λ (l : X) (r : Y). (l, r)) one two in
    ap Some pair

pub of_matches : {Z C E : Type 0} (words : List (String Z)) (app : App) (m : ArgMatches) (seen : C → Asked) (r : Result C E) → app ≡ described
    → (is_simple_and_free app ≡ true → fault_of app (map string_bytes words) ≡ []) → HasMatchesOf app (map string_bytes words) m
    → IfOk r (λ command. seen command ≡ asked_at (subcommand_rows_of m)) → IfOk r (λ command. seen command ≡ asked (map string_bytes words))
of_matches words app m seen r is kinds has h =
    let none : fault_of described (map string_bytes words) ≡ [] = subst (λ (a : App). fault_of a (map string_bytes words) ≡ []) is (kinds (ap is_simple_and_free is)) in
    let sub : subcommand_rows_of m ≡ subcommand_of described (map string_bytes words) = (has (ap is_simple is)).1 ∙ ap (λ (a : App). subcommand_of a (map string_bytes words)) is in
    let answer = when_none _ _ _ (whole (map string_bytes words) (texts_are words)) none in
    IfOk-weaker r _ _ (λ command e. e ∙ (ap asked_at sub ∙ answer)) h

pub of_refusal : {Z C E : Type 0} (words : List (String Z)) (app : App) (e : Error) (seen : C → Asked) (r : Result C E) → app ≡ described
    → (is_simple_and_free app ≡ true → HasKind (fault_of app (map string_bytes words)) e) → IfOk r (λ command. seen command ≡ usage) → IfOk r (λ _. kind_of e ≢ OutOfMemory)
    → IfOk r (λ command. seen command ≡ asked (map string_bytes words))
of_refusal words app e seen (Err bad) is kinds h k = tt
of_refusal words app e seen (Ok command) is kinds h k = go (subst (λ (a : App). HasKind (fault_of a (map string_bytes words)) e) is (kinds (ap is_simple_and_free is)))
  where
    go : HasKind (fault_of described (map string_bytes words)) e → seen command ≡ asked (map string_bytes words)
    go (inl memory) = absurd (k memory)
    go (inr among) = h ∙ when_failed _ _ _ (whole (map string_bytes words) (texts_are words)) (fails_among (kind_of e) _ among)
