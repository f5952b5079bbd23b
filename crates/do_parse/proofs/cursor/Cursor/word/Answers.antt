use Rattle.std.proofs.Common.{◌≡◌, ◌≢◌, ◌≤◌, ℕ, pos, codes, true, false, List, [], ◌∷◌, Option, Some, None, Result, Ok, Err, refl, sym, ◌∙◌, ap, subst, rules, arith, drop}
use Rattle.std.proofs.lemmas.Bool.{false≢true}
use Rattle.do_lex.specs.declared.kind.Kind.TheVariants as kind
use Rattle.do_tree.specs.Seen.{named_of}
use Rattle.do_tree.specs.Tree as tree
use Rattle.do_tree.specs.Grammar.{IsPrim}
use Rattle.do_parse.specs.declared.stop.Stop.TheVariants.{Unexpected}
use Rattle.do_parse.specs.Lists.{Starting}
use Rattle.do_parse.specs.Parsed.{Anything, Parses}
use Rattle.do_tree.specs.Grammar.{TakesWord}
use Rattle.do_parse.specs.Then.{At, IsMade}
use Rattle.do_parse.specs.Starts.{is_word}
use Rattle.do_parse.specs.Taken.{IsName, IsAnyName, IsTextName, IsGivenText}
use Rattle.do_parse.specs.Trees.{expr_at}
use Rattle.do_parse.proofs.Exits.{handed, no_memory}
use Rattle.do_parse.proofs.First.{takes_first, first_with}
use Rattle.do_parse.proofs.Peeking.{one_next, split_next, word_missing, word_differs, any_differs, any_missing, given_missing, given_differs, module_can}
use Rattle.do_parse.proofs.Sequence.{handed_on, made_on}
use Rattle.do_parse.proofs.Prims.{number_one}
use Rattle.do_parse.proofs.Standing.{name_stands}
use Rattle.do_parse.proofs.Taking.{taken, not_taken, untaken, one_token, name_one, text_one, word_one, any_one, given_one, name_not_taken, text_not_taken, number_not_taken}
use Rattle.do_parse.proofs.cursor.Cursor.word.Goals as goal

pub returns-in_err-token : goal.returns-in_err-token
returns-in_err-token c = handed c.from_residual.result c.from_residual.ensures.1 (subst (λ s. Parses (At (TakesWord c.args.word.now c.args.depth)) Anything c.args.self.now c.args.self.now (Err s)) (sym c.in_err-token.ensures.0) (word_missing c.args.self.now c.in_err-token.ensures.1))

pub returns-then-eq : goal.returns-then-eq
returns-then-eq c = let e : c.in_ok-token.token.text.now ≡ c.args.word.now = search rules in subst (λ xs. Parses (At (TakesWord c.args.word.now c.args.depth)) Anything c.args.self.now xs (Ok c.in_ok-token.token.at)) (sym c.skip.ensures) (one_next (word_one c.args.word.now c.args.depth c.in_ok-token.token c.in_ok-token.ensures.1 e) c.in_ok-token.ensures.0 c.requires)

pub returns : goal.returns
returns c = let e : ¬ (c.in_ok-token.token.text.now ≡ c.args.word.now) = search rules in word_differs c.args.self.now c.in_ok-token.token c.in_ok-token.ensures.0 e
