use Rattle.std.proofs.Common.{◌≡◌, ◌≢◌, ◌≤◌, ℕ, pos, codes, true, false, List, [], ◌∷◌, Option, Some, None, Result, Ok, Err, refl, sym, ◌∙◌, ap, subst, rules, arith, drop}
use Rattle.std.proofs.lemmas.Bool.{false≢true}
use Rattle.do_lex.specs.declared.kind.Kind.TheVariants as kind
use Rattle.do_tree.specs.Seen.{named_of}
use Rattle.do_tree.specs.Tree as tree
use Rattle.do_tree.specs.Grammar.{IsPrim}
use Rattle.do_parse.specs.declared.stop.Stop.TheVariants.{Unexpected}
use Rattle.do_parse.specs.Lists.{Starting}
use Rattle.do_parse.specs.Parsed.{Anything, Parses}
use Rattle.do_tree.specs.Grammar.{TakesWord}
use Rattle.do_parse.specs.Then.{At, IsMade}
use Rattle.do_parse.specs.Starts.{is_word}
use Rattle.do_parse.specs.Taken.{IsName, IsAnyName, IsTextName, IsGivenText, token_next}
use Rattle.do_parse.specs.Trees.{expr_at}
use Rattle.do_parse.proofs.Exits.{handed, no_memory}
use Rattle.do_parse.proofs.First.{takes_first, first_with}
use Rattle.do_parse.proofs.Peeking.{one_next, split_next, word_missing, word_differs, any_differs, any_missing, given_missing, given_differs, module_can}
use Rattle.do_parse.proofs.Sequence.{handed_on, made_on}
use Rattle.do_parse.proofs.Prims.{number_one}
use Rattle.do_parse.proofs.Standing.{name_stands}
use Rattle.do_parse.proofs.Taking.{taken, not_taken, untaken, one_token, name_one, text_one, word_one, any_one, given_one, name_not_taken, text_not_taken, number_not_taken}
use Rattle.do_parse.proofs.cursor.Cursor.any_word.Goals as goal

pub returns-in_default : goal.returns-in_default
returns-in_default c = let e : token_next c.args.self.now ≡ None = search rules in any_missing c.args.self.now e

pub returns-then-not-is_word : goal.returns-then-not-is_word
returns-then-not-is_word c = let e : token_next c.args.self.now ≡ Some c.in-Some.token = search rules in let n : is_word c.in-Some.token.kind ≡ false = search rules in any_differs c.args.self.now c.in-Some.token e n

pub returns : goal.returns
returns c = let e : token_next c.args.self.now ≡ Some c.in-Some.token = search rules in let n : is_word c.in-Some.token.kind ≡ true = search rules in made_on named_of c.name_of.result c.name_of.ensures (subst (λ xs. Parses (IsAnyName c.args.depth) Anything c.args.self.now xs (Ok (record { at = c.in-Some.token.at; text = c.in-Some.token.text.now }))) (sym c.skip.ensures) (one_next (any_one c.args.depth c.in-Some.token n) e c.requires))
