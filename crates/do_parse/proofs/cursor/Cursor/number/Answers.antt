use Rattle.std.proofs.Common.{◌≡◌, ◌≢◌, ◌≤◌, ℕ, pos, List, [], ◌∷◌, Option, Some, None, Result, Ok, Err, refl, sym, ◌∙◌, ap, subst, rules, arith, drop}
use Rattle.std.proofs.lemmas.Bool.{false≢true}
use Rattle.do_lex.specs.declared.kind.Kind.TheVariants as kind
use Rattle.do_tree.specs.Seen.{named_of}
use Rattle.do_tree.specs.Tree as tree
use Rattle.do_tree.specs.Grammar.{IsPrim}
use Rattle.do_parse.specs.declared.stop.Stop.TheVariants.{Unexpected}
use Rattle.do_parse.specs.Lists.{Starting}
use Rattle.do_parse.specs.Parsed.{Anything, Parses}
use Rattle.do_parse.specs.Taken.{IsName, IsAnyName, IsTextName, IsGivenText}
use Rattle.do_parse.specs.Trees.{expr_at}
use Rattle.do_parse.proofs.Exits.{handed, no_memory}
use Rattle.do_parse.proofs.First.{takes_first, first_with}
use Rattle.do_parse.proofs.Peeking.{one_next, split_next, word_missing, word_differs, any_differs, any_missing, given_missing, given_differs}
use Rattle.do_parse.proofs.Sequence.{handed_on, made_on}
use Rattle.do_parse.proofs.Prims.{number_one}
use Rattle.do_parse.proofs.Standing.{name_stands}
use Rattle.do_parse.proofs.Taking.{taken, not_taken, untaken, one_token, name_one, text_one, word_one, any_one, given_one, name_not_taken, text_not_taken, number_not_taken}
use Rattle.do_parse.proofs.cursor.Cursor.number.Goals as goal

pub returns-in_err-token : goal.returns-in_err-token
returns-in_err-token c = handed_on expr_at c.from_residual.result c.from_residual.ensures.1 (number_not_taken c.in_err-token.ensures)

pub returns : goal.returns
returns c = made_on expr_at c.number.result c.number.ensures (subst (λ x. Parses (Starting kind.Number (IsPrim c.args.depth)) Anything c.args.self.now c.take.new.self (Ok (tree.number c.in_ok-token.token.at x))) (sym c.number_of.ensures) (one_token (number_one c.args.depth c.in_ok-token.token c.in_ok-token.ensures.1) c.in_ok-token.ensures.0 c.requires))
