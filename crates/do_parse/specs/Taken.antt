-- Phrases of one token, and the tokens themselves.
use Rattle.std.specs.Prelude.{◌≡◌, ℕ, List, [], ◌∷◌, Result, Ok, Err, Option, Some, None, Bool, true, false}
use Rattle.do_lex.specs.declared.kind.Kind.{Kind}
use Rattle.do_lex.specs.declared.kind.Kind.TheVariants as kind
use Rattle.do_lex.specs.declared.tokens.Token.{Token}
use Rattle.do_tree.specs.Grammar.{TakesName, TakesAnyWord, TakesText, TakesKey, binding_key}
use Rattle.do_tree.specs.Lexeme.{Lexeme}
use Rattle.do_tree.specs.Tree.{Named}
use Rattle.do_tree.specs.declared.stmt.Binding.{Binding}
use Rattle.do_parse.specs.Parsed.{Phrase}
use Rattle.do_parse.specs.Starts.{kind_next}
use Rattle.do_parse.specs.declared.stop.Stop.{Stop}
use Rattle.do_parse.specs.declared.stop.Stop.TheVariants.{Unexpected, TooNested, NoMemory}

-- The next token was taken, which has this kind; else nothing was, and the next token hasn't.
abbrev pub IsTaken : Kind → List Token → List Token → Result Token Stop → Type 0
IsTaken k old new (Ok t) = (old ≡ t ∷ new) × (t.kind ≡ k)
IsTaken k old new (Err stop) = (stop ≡ Unexpected) × (new ≡ old) × (¬ (kind_next old ≡ Some k))

-- The token that is next.
abbrev pub token_next : List Token → Option Token
token_next [] = None
token_next (t ∷ _) = Some t

-- The next token, where it has this kind; else it hasn't.
abbrev pub IsPeeked : Kind → List Token → Result Token Stop → Type 0
IsPeeked k now (Ok t) = (token_next now ≡ Some t) × (t.kind ≡ k)
IsPeeked k now (Err stop) = (stop ≡ Unexpected) × (¬ (kind_next now ≡ Some k))

-- A name, any word, a text: with the place and the bytes.
abbrev pub IsName : ℕ → Phrase Named
IsName d ts us n = TakesName n d ts us

abbrev pub IsAnyName : ℕ → Phrase Named
IsAnyName d ts us n = TakesAnyWord n d ts us

abbrev pub IsTextName : ℕ → Phrase Named
IsTextName d ts us n = TakesText n.at n.text d ts us

-- A text that stands for these bytes, with its place.
abbrev pub IsGivenText : List ℕ → ℕ → Phrase ℕ
IsGivenText bytes d ts us at = TakesText at bytes d ts us

-- The word that binds a name.
abbrev pub IsBinding : ℕ → Phrase Binding
IsBinding d ts us b = TakesKey (binding_key b) d ts us
