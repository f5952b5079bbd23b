use Rattle.std.proofs.Common.{◌≡◌, [], ◌∷◌, ◌++◌, Option, sym, ap, ◌∙◌, arith}
use Rattle.std.proofs.lemmas.Grind.{common_steps}
use Rattle.do_lex.specs.declared.kind.Keyword.TheVariants as key
use Rattle.do_lex.specs.declared.kind.Mark.TheVariants as mark
use Rattle.do_tree.specs.Nodes.{args_in, block_in, exprs_in, links_in, operands_in, pairs_in, with_arg, with_link}
use Rattle.do_tree.specs.Print.{a_mark, keyword, tokens_of_args, tokens_of_block, tokens_of_chained, tokens_of_elements}
use Rattle.do_tree.specs.Print.{tokens_of_expr, tokens_of_links, tokens_of_operands, tokens_of_option_name, tokens_of_pairs, tokens_of_stmt}
use Rattle.do_tree.specs.Seen.{expr_of, option_named_of, stmt_of}
use Rattle.do_tree.specs.Tree as tree
use Rattle.do_tree.specs.Tree.{Items, Named, no_args, no_links}
use Rattle.do_tree.proofs.Rows.{hidden_args, hidden_exprs, hidden_items, hidden_links, hidden_operands, hidden_pairs, seen_arg}
use Rattle.do_tree.proofs.Writing.{write_all_append}
use Rattle.do_tree.specs.declared.expr.Callback.{out-Callback}
use Rattle.do_tree.proofs.+print.Goals as goal

pub print_expr::print_expr-returns-in_ok-print_expr-in-Lazy : goal.print_expr::print_expr-returns-in_ok-print_expr-in-Lazy
print_expr::print_expr-returns-in_ok-print_expr-in-Lazy t c =
    let first = tokens_of_expr (expr_of c.in-Lazy.first.value) in
    let e : tokens_of_expr (expr_of c.args.expr.now) ≡ first ++ tokens_of_chained c.in-Lazy.chain (exprs_in c.deref-in-Lazy-2.result.now) =
    ap (λ x. tokens_of_expr (expr_of x)) c.in-Lazy.is
    ∙ ap (λ x. first ++ tokens_of_chained c.in-Lazy.chain x) (hidden_exprs c.in-Lazy.rest ∙ ap exprs_in (sym c.deref-in-Lazy-2.ensures.value)) in
    grind (arith, common_steps, write_all_append)

pub print_expr::print_expr-returns-in_ok-print_expr-in-Strict : goal.print_expr::print_expr-returns-in_ok-print_expr-in-Strict
print_expr::print_expr-returns-in_ok-print_expr-in-Strict t c =
    let first = tokens_of_expr (expr_of c.in-Strict.first.value) in
    let e : tokens_of_expr (expr_of c.args.expr.now) ≡ first ++ tokens_of_operands (operands_in c.deref-in-Strict-2.result.now) =
    ap (λ x. tokens_of_expr (expr_of x)) c.in-Strict.is
    ∙ ap (λ x. first ++ tokens_of_operands x) (hidden_operands c.in-Strict.rest ∙ ap operands_in (sym c.deref-in-Strict-2.ensures.value)) in
    grind (arith, common_steps, write_all_append)

pub print_expr::print_expr-returns-in_ok-print_expr-in-Path : goal.print_expr::print_expr-returns-in_ok-print_expr-in-Path
print_expr::print_expr-returns-in_ok-print_expr-in-Path t c =
    let base = tokens_of_expr (expr_of c.in-Path.base.value) in
    let e : tokens_of_expr (expr_of c.args.expr.now) ≡ base ++ tokens_of_links (links_in c.deref-in-Path-2.result.now) =
    ap (λ x. tokens_of_expr (expr_of x)) c.in-Path.is
    ∙ ap (λ x. base ++ tokens_of_links x) (hidden_links c.in-Path.links ∙ ap links_in (sym c.deref-in-Path-2.ensures.value)) in
    grind (arith, common_steps, write_all_append)

pub print_expr::print_expr-returns-in-List : goal.print_expr::print_expr-returns-in-List
print_expr::print_expr-returns-in-List t c =
    let e : tokens_of_expr (expr_of c.args.expr.now) ≡ a_mark mark.OpenBracket ∷ (tokens_of_elements (exprs_in c.deref-in-List.result.now) ++ a_mark mark.CloseBracket ∷ []) =
    ap (λ x. tokens_of_expr (expr_of x)) c.in-List.is
    ∙ ap (λ x. a_mark mark.OpenBracket ∷ (tokens_of_elements x ++ a_mark mark.CloseBracket ∷ [])) (hidden_exprs c.in-List.items ∙ ap exprs_in (sym c.deref-in-List.ensures.value)) in
    grind (arith, common_steps, write_all_append)

pub print_expr::print_expr-returns-in-Record : goal.print_expr::print_expr-returns-in-Record
print_expr::print_expr-returns-in-Record t c =
    let e : tokens_of_expr (expr_of c.args.expr.now) ≡ a_mark mark.OpenBrace ∷ (tokens_of_pairs (pairs_in c.deref-in-Record.result.now) ++ a_mark mark.CloseBrace ∷ []) =
    ap (λ x. tokens_of_expr (expr_of x)) c.in-Record.is
    ∙ ap (λ x. a_mark mark.OpenBrace ∷ (tokens_of_pairs x ++ a_mark mark.CloseBrace ∷ [])) (hidden_pairs c.in-Record.pairs ∙ ap pairs_in (sym c.deref-in-Record.ensures.value)) in
    grind (arith, common_steps, write_all_append)

pub print_expr::print_link-returns-in_ok-print_args-in-Call : goal.print_expr::print_link-returns-in_ok-print_args-in-Call
print_expr::print_link-returns-in_ok-print_args-in-Call t c =
    let e : tokens_of_links (with_link c.args.link.now no_links) ≡ a_mark mark.OpenParen ∷ (tokens_of_args (args_in c.deref-in-Call.result.now) ++ a_mark mark.CloseParen ∷ []) =
    ap (λ x. tokens_of_links (with_link x no_links)) c.in-Call.is
    ∙ ap (λ x. a_mark mark.OpenParen ∷ (tokens_of_args x ++ a_mark mark.CloseParen ∷ [])) (hidden_args c.in-Call.args ∙ ap args_in (sym c.deref-in-Call.ensures.value)) in
    grind (arith, common_steps, write_all_append)

-- the tokens of a try whose blocks are these
tried : (name : Option Named) {a b x y : Items} → a ≡ x → b ≡ y → tokens_of_stmt (tree.try 0 a name b) ≡ tokens_of_stmt (tree.try 0 x name y)
tried name p q = λ i. tokens_of_stmt (tree.try 0 (p i) name (q i))

pub print_stmt::print_stmt-returns-in-Try : goal.print_stmt::print_stmt-returns-in-Try
print_stmt::print_stmt-returns-in-Try t c =
    let name = option_named_of c.in-Try.name in
    let e : tokens_of_stmt (stmt_of c.args.stmt.now) ≡ tokens_of_stmt (tree.try 0 (block_in c.in-Try.body.value) name (block_in c.in-Try.handler.value)) =
    ap (λ x. tokens_of_stmt (stmt_of x)) c.in-Try.is ∙ tried name (hidden_items c.in-Try.body.value.items) (hidden_items c.in-Try.handler.value.items) in
    grind (arith, common_steps, write_all_append)

pub print_expr::print_arg-returns-in_ok-put_mark-in-Callback-3 : goal.print_expr::print_arg-returns-in_ok-put_mark-in-Callback-3
print_expr::print_arg-returns-in_ok-put_mark-in-Callback-3 t c =
    let cb = c.in-Callback.callback.value in
    let name = tokens_of_option_name (option_named_of (out-Callback cb).parameter) in
    let block = tokens_of_block (block_in (out-Callback cb).body.value) in
    let e : tokens_of_args (with_arg c.args.arg.now no_args)
    ≡ keyword key.Async ∷ a_mark mark.OpenParen ∷ (name ++ a_mark mark.CloseParen ∷ a_mark mark.Arrow ∷ block) =
    ap (λ x. tokens_of_args (with_arg x no_args)) c.in-Callback.is ∙ ap tokens_of_args (seen_arg c.in-Callback.callback no_args) in
    grind (arith, common_steps, write_all_append)
