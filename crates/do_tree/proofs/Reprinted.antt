-- Each phrase of a text is read again from its printed tokens, with the same tree but for places.
use Rattle.std.proofs.Common.{◌≡◌, ℕ, pos, true, false, List, ◌++◌, Option, Some, None, refl, sym, append_assoc}
use Rattle.std.specs.Prelude.{codes}
use Rattle.std.proofs.lemmas.List.{append-nil}
use Rattle.do_value.specs.declared.operator.UnOp.TheVariants as unary
use Rattle.do_lex.specs.declared.kind.Kind.TheVariants as kind
use Rattle.do_lex.specs.declared.kind.Keyword.TheVariants as key
use Rattle.do_lex.specs.declared.kind.Mark.TheVariants as mark
use Rattle.do_tree.specs.Grammar as g
use Rattle.do_tree.specs.Grammar.{Level, IsExpr, IsShort, IsOperandOf, IsRest, IsStrict, IsTighter, IsOperands, IsUn, IsPost, IsPrim, IsLinks, IsArgs, IsArg, IsOptionName, IsOptionExpr, IsExprs, IsPairs, IsPair, IsBlock, IsItems, IsStmt, IsElse, IsCaught, IsSimple, BeginsWithNo, binding_key, chain_mark}
use Rattle.do_tree.specs.Lexeme.{Lexeme, place}
use Rattle.do_tree.specs.Print.{Piece, before_args, is_word, operator_mark, tokens_of_args, tokens_of_block, tokens_of_caught, tokens_of_chained, tokens_of_elements, tokens_of_expr, tokens_of_items, tokens_of_links, tokens_of_operands, tokens_of_option_expr, tokens_of_option_name, tokens_of_pairs, tokens_of_simple, tokens_of_stmt}
use Rattle.do_tree.specs.Tree as tree
use Rattle.do_tree.specs.Tree.{Named, Expr, OptionExpr, Exprs, Operands, Links, Args, Pairs, Items, Stmt, OptionStmt, Simple}
use Rattle.do_tree.specs.Unplaced.{unplaced_args, unplaced_expr, unplaced_exprs, unplaced_items, unplaced_links, unplaced_name, unplaced_operands, unplaced_option, unplaced_option_name, unplaced_pairs, unplaced_simple, unplaced_stmt}
use Rattle.do_tree.specs.declared.expr.Chain.{Chain}
use Rattle.do_tree.specs.declared.expr.Chain.TheVariants as chain
use Rattle.do_tree.specs.declared.stmt.Binding.TheVariants as bind
use Rattle.do_tree.proofs.Firsts.{brace_no_else, expr_starts, items_no_else, not_else, operand_starts, tighter_starts, un_starts}
use Rattle.do_tree.proofs.Respelled.{Bare, Front, any_front, calm_so, closes, comma_front, front_starts, key_front, mark_front, name_front, named_at, no_brace, number_front, pieces, placed, takes_any, takes_key, takes_mark, takes_name, takes_word, text_front, word_front}
use Rattle.do_tree.proofs.Spelled.{takes_number, takes_text, value_of_digits}
use Rattle.do_tree.proofs.Rereading.{Again, AgainArg, AgainOther, AgainPair, ElseSo, before_some_args, before_some_exprs, before_some_pairs, operator_so, operator_taken, some_args, some_exprs, some_links, some_pairs, text_key, up, word_key}

mutual
  pub again_expr : (spot : List Bare → ℕ) {d : ℕ} {ts us : List Lexeme} {x : Expr} → IsExpr d ts us x → (f : Front us)
      → Again spot (IsExpr d) unplaced_expr tokens_of_expr ts f.bares x
  again_expr spot (g.short p) f = up (λ ts us x q. g.short q) (again_short spot p f)
  again_expr spot {d} (g.choice at p1 p2 p3 p4 p5) f =
      let a5 = again_expr spot p5 f in
      let f4 = mark_front p4 a5.front refl in
      let a3 = again_expr spot p3 f4 in
      let f2 = mark_front p2 a3.front (calm_so mark.Question a3.front.bares (front_starts a3.front (expr_starts p3))) in
      let a1 = again_short spot p1 f2 in
      record {
        front = a1.front;
        again = tree.choice (place (placed spot a1.front.bares)) a1.again a3.again a5.again;
        is = g.choice refl a1.is (takes_mark spot mark.Question d a3.front.bares) a3.is (takes_mark spot mark.Colon d a5.front.bares) a5.is;
        same = λ i. tree.choice 0 (a1.same i) (a3.same i) (a5.same i);
        are = simp (a1.are, a3.are, a5.are, append_assoc);
      }

  pub again_short : (spot : List Bare → ℕ) {d : ℕ} {ts us : List Lexeme} {x : Expr} → IsShort d ts us x → (f : Front us)
      → Again spot (IsShort d) unplaced_expr tokens_of_expr ts f.bares x
  again_short spot (g.one p) f = up (λ ts us x q. g.one q) (again_operand spot p f)
  again_short spot {d} (g.coalesce at p1 p2) f =
      let a2 = again_rest spot p2 f in
      let a1 = again_operand spot p1 a2.front in
      record {
        front = a1.front;
        again = tree.lazy (place (placed spot a1.front.bares)) chain.Coalesce a1.again a2.again;
        is = g.coalesce refl a1.is a2.is;
        same = λ i. tree.lazy 0 chain.Coalesce (a1.same i) (a2.same i);
        are = simp (a1.are, a2.are, append_assoc);
      }
  again_short spot {d} (g.or at p1 p2) f =
      let a2 = again_rest spot p2 f in
      let a1 = again_operand spot p1 a2.front in
      record {
        front = a1.front;
        again = tree.lazy (place (placed spot a1.front.bares)) chain.Or a1.again a2.again;
        is = g.or refl a1.is a2.is;
        same = λ i. tree.lazy 0 chain.Or (a1.same i) (a2.same i);
        are = simp (a1.are, a2.are, append_assoc);
      }

  pub again_operand : (spot : List Bare → ℕ) {d : ℕ} {c : Chain} {ts us : List Lexeme} {x : Expr} → IsOperandOf c d ts us x → (f : Front us)
      → Again spot (IsOperandOf c d) unplaced_expr tokens_of_expr ts f.bares x
  again_operand spot (g.of_coalesce p) f = up (λ ts us x q. g.of_coalesce q) (again_strict spot p f)
  again_operand spot (g.of_and p) f = up (λ ts us x q. g.of_and q) (again_strict spot p f)
  again_operand spot (g.of_or p) f = up (λ ts us x q. g.of_or q) (again_strict spot p f)
  again_operand spot {d} (g.and at p1 p2) f =
      let a2 = again_rest spot p2 f in
      let a1 = again_operand spot p1 a2.front in
      record {
        front = a1.front;
        again = tree.lazy (place (placed spot a1.front.bares)) chain.And a1.again a2.again;
        is = g.and refl a1.is a2.is;
        same = λ i. tree.lazy 0 chain.And (a1.same i) (a2.same i);
        are = simp (a1.are, a2.are, append_assoc);
      }

  pub again_rest : (spot : List Bare → ℕ) {d : ℕ} {c : Chain} {ts us : List Lexeme} {x : Exprs} → IsRest c d ts us x → (f : Front us)
      → Again spot (IsRest c d) unplaced_exprs (λ x. tokens_of_chained c x) ts f.bares x
  again_rest spot {d} (g.rest_last {c = c} p0 p1) f =
      let a1 = again_operand spot p1 f in
      let f0 = mark_front p0 a1.front (calm_so (chain_mark c) a1.front.bares (front_starts a1.front (operand_starts p1))) in
      record {
        front = f0;
        again = tree.expr a1.again tree.no_exprs;
        is = g.rest_last (takes_mark spot (chain_mark c) d a1.front.bares) a1.is;
        same = λ i. tree.expr (a1.same i) tree.no_exprs;
        are = simp (a1.are, append-nil);
      }
  again_rest spot {d} (g.rest_more {c = c} p0 p1 p2) f =
      let a2 = again_rest spot p2 f in
      let a1 = again_operand spot p1 a2.front in
      let f0 = mark_front p0 a1.front (calm_so (chain_mark c) a1.front.bares (front_starts a1.front (operand_starts p1))) in
      record {
        front = f0;
        again = tree.expr a1.again a2.again;
        is = g.rest_more (takes_mark spot (chain_mark c) d a1.front.bares) a1.is a2.is;
        same = λ i. tree.expr (a1.same i) (a2.same i);
        are = simp (a1.are, a2.are, append_assoc);
      }

  pub again_strict : (spot : List Bare → ℕ) {d : ℕ} {l : Level} {ts us : List Lexeme} {x : Expr} → IsStrict l d ts us x → (f : Front us)
      → Again spot (IsStrict l d) unplaced_expr tokens_of_expr ts f.bares x
  again_strict spot (g.tighter p) f = up (λ ts us x q. g.tighter q) (again_tighter spot p f)
  again_strict spot {d} (g.strict at p1 p2) f =
      let a2 = again_operands spot p2 f in
      let a1 = again_tighter spot p1 a2.front in
      record {
        front = a1.front;
        again = tree.strict (place (placed spot a1.front.bares)) a1.again a2.again;
        is = g.strict refl a1.is a2.is;
        same = λ i. tree.strict 0 (a1.same i) (a2.same i);
        are = simp (a1.are, a2.are, append_assoc);
      }

  pub again_tighter : (spot : List Bare → ℕ) {d : ℕ} {l : Level} {ts us : List Lexeme} {x : Expr} → IsTighter l d ts us x → (f : Front us)
      → Again spot (IsTighter l d) unplaced_expr tokens_of_expr ts f.bares x
  again_tighter spot (g.of_eq p) f = up (λ ts us x q. g.of_eq q) (again_strict spot p f)
  again_tighter spot (g.of_rel p) f = up (λ ts us x q. g.of_rel q) (again_strict spot p f)
  again_tighter spot (g.of_add p) f = up (λ ts us x q. g.of_add q) (again_strict spot p f)
  again_tighter spot (g.of_mul p) f = up (λ ts us x q. g.of_mul q) (again_un spot p f)

  pub again_operands : (spot : List Bare → ℕ) {d : ℕ} {l : Level} {ts us : List Lexeme} {x : Operands} → IsOperands l d ts us x → (f : Front us)
      → Again spot (IsOperands l d) unplaced_operands tokens_of_operands ts f.bares x
  again_operands spot {d} (g.operands_last {o = o} p0 p1 p2) f =
      let a2 = again_tighter spot p2 f in
      let f1 = mark_front (operator_taken p0 p1) a2.front (calm_so (operator_mark o) a2.front.bares (front_starts a2.front (tighter_starts p2))) in
      record {
        front = f1;
        again = tree.operand o a2.again tree.no_operands;
        is = g.operands_last (operator_so p0) (takes_mark spot (operator_mark o) d a2.front.bares) a2.is;
        same = λ i. tree.operand o (a2.same i) tree.no_operands;
        are = simp (a2.are, append-nil);
      }
  again_operands spot {d} (g.operands_more {o = o} p0 p1 p2 p3) f =
      let a3 = again_operands spot p3 f in
      let a2 = again_tighter spot p2 a3.front in
      let f1 = mark_front (operator_taken p0 p1) a2.front (calm_so (operator_mark o) a2.front.bares (front_starts a2.front (tighter_starts p2))) in
      record {
        front = f1;
        again = tree.operand o a2.again a3.again;
        is = g.operands_more (operator_so p0) (takes_mark spot (operator_mark o) d a2.front.bares) a2.is a3.is;
        same = λ i. tree.operand o (a2.same i) (a3.same i);
        are = simp (a2.are, a3.are, append_assoc);
      }

  pub again_un : (spot : List Bare → ℕ) {d : ℕ} {ts us : List Lexeme} {x : Expr} → IsUn d ts us x → (f : Front us)
      → Again spot (IsUn d) unplaced_expr tokens_of_expr ts f.bares x
  again_un spot {d} (g.negative at p1 p2) f =
      let a2 = again_un spot p2 f in
      let f1 = mark_front p1 a2.front (calm_so mark.Minus a2.front.bares (front_starts a2.front (un_starts p2))) in
      record {
        front = f1;
        again = tree.unary (place (placed spot f1.bares)) unary.Neg a2.again;
        is = g.negative refl (takes_mark spot mark.Minus d a2.front.bares) a2.is;
        same = λ i. tree.unary 0 unary.Neg (a2.same i);
        are = simp a2.are;
      }
  again_un spot {d} (g.opposite at p1 p2) f =
      let a2 = again_un spot p2 f in
      let f1 = mark_front p1 a2.front (calm_so mark.Not a2.front.bares (front_starts a2.front (un_starts p2))) in
      record {
        front = f1;
        again = tree.unary (place (placed spot f1.bares)) unary.Not a2.again;
        is = g.opposite refl (takes_mark spot mark.Not d a2.front.bares) a2.is;
        same = λ i. tree.unary 0 unary.Not (a2.same i);
        are = simp a2.are;
      }
  again_un spot {d} (g.await at p1 p2) f =
      let a2 = again_un spot p2 f in
      let f1 = key_front p1 a2.front in
      record {
        front = f1;
        again = tree.await (place (placed spot f1.bares)) a2.again;
        is = g.await refl (takes_key spot key.Await d a2.front.bares) a2.is;
        same = λ i. tree.await 0 (a2.same i);
        are = simp a2.are;
      }
  again_un spot (g.post p) f = up (λ ts us x q. g.post q) (again_post spot p f)

  pub again_post : (spot : List Bare → ℕ) {d : ℕ} {ts us : List Lexeme} {x : Expr} → IsPost d ts us x → (f : Front us)
      → Again spot (IsPost d) unplaced_expr tokens_of_expr ts f.bares x
  again_post spot (g.prim p) f = up (λ ts us x q. g.prim q) (again_prim spot p f)
  again_post spot {d} (g.path at p1 p2 p3) f =
      let a3 = again_links spot p3 f in
      let a2 = again_prim spot p2 a3.front in
      record {
        front = a2.front;
        again = tree.path (place (placed spot a2.front.bares)) a2.again a3.again;
        is = g.path refl (some_links a3.again a3.same p1) a2.is a3.is;
        same = λ i. tree.path 0 (a2.same i) (a3.same i);
        are = simp (a2.are, a3.are, append_assoc);
      }

  pub again_links : (spot : List Bare → ℕ) {d : ℕ} {ts us : List Lexeme} {x : Links} → IsLinks d ts us x → (f : Front us)
      → Again spot (IsLinks d) unplaced_links tokens_of_links ts f.bares x
  again_links spot g.link_none f = record { front = f; again = tree.no_links; is = g.link_none; same = refl; are = refl }
  again_links spot {d} (g.link_field {n = n} p0 p1 p2) f =
      let a2 = again_links spot p2 f in
      let f1 = any_front p1 a2.front in
      let f0 = mark_front p0 f1 refl in
      record {
        front = f0;
        again = tree.field (named_at spot f1.bares n.text) a2.again;
        is = g.link_field (takes_mark spot mark.Dot d f1.bares) (takes_any spot p1.token.kind n.text d a2.front.bares p1.kind_is) a2.is;
        same = λ i. tree.field (unplaced_name n) (a2.same i);
        are = simp a2.are;
      }
  again_links spot {d} (g.link_index at p1 p2 p3 p4) f =
      let a4 = again_links spot p4 f in
      let f3 = mark_front p3 a4.front refl in
      let a2 = again_expr spot p2 f3 in
      let f1 = mark_front p1 a2.front refl in
      record {
        front = f1;
        again = tree.index (place (placed spot f1.bares)) a2.again a4.again;
        is = g.link_index refl (takes_mark spot mark.OpenBracket d a2.front.bares) a2.is (takes_mark spot mark.CloseBracket d a4.front.bares) a4.is;
        same = λ i. tree.index 0 (a2.same i) (a4.same i);
        are = simp (a2.are, a4.are, append_assoc);
      }
  again_links spot {d} (g.link_call at p1 p2 p3 p4) f =
      let a4 = again_links spot p4 f in
      let f3 = mark_front p3 a4.front refl in
      let a2 = again_args spot p2 f3 (mark.CloseParen, refl, refl) in
      let f1 = mark_front p1 a2.front refl in
      record {
        front = f1;
        again = tree.call (place (placed spot f1.bares)) a2.again a4.again;
        is = g.link_call refl (takes_mark spot mark.OpenParen d a2.front.bares) a2.is (takes_mark spot mark.CloseParen d a4.front.bares) a4.is;
        same = λ i. tree.call 0 (a2.same i) (a4.same i);
        are = simp (a2.are, a4.are, append_assoc);
      }

  -- arguments, behind which a mark closes
  pub again_args : (spot : List Bare → ℕ) {d : ℕ} {ts us : List Lexeme} {x : Args} → IsArgs d ts us x → (f : Front us) → closes f.bares
      → Again spot (IsArgs d) unplaced_args tokens_of_args ts f.bares x
  again_args spot g.args_none f c = record { front = f; again = tree.no_args; is = g.args_none; same = refl; are = refl }
  again_args spot (g.args_last p) f c =
      let a = again_arg spot p f tree.no_args refl (pieces f.bares) refl in
      record { front = a.front; again = a.again; is = g.args_last a.is; same = a.same; are = a.are }
  again_args spot (g.args_last_comma p q) f c =
      let a = again_arg spot p (comma_front q f c) tree.no_args refl (pieces f.bares) refl in
      record { front = a.front; again = a.again; is = g.args_last a.is; same = a.same; are = a.are }
  again_args spot {d} (g.args_more {rest = rest} n p q r) f c =
      let b = again_args spot r f c in
      let f2 = mark_front q b.front refl in
      let a = again_arg spot p f2 b.again b.same (pieces f.bares) (before_some_args rest n (pieces b.front.bares) (tokens_of_args rest) (pieces f.bares) b.are) in
      record { front = a.front; again = a.again; is = g.args_more (some_args b.again b.same n) a.is (takes_mark spot mark.Comma d b.front.bares) b.is; same = a.same; are = a.are }

  -- one argument before others, whose tokens stand before some more
  pub again_arg : (spot : List Bare → ℕ) {d : ℕ} {ts us : List Lexeme} {others x : Args} → IsArg d ts us others x → (f : Front us)
      → (more : Args) → unplaced_args more ≡ unplaced_args others → (end : List Piece) → pieces f.bares ≡ before_args others (tokens_of_args others) ++ end
      → AgainArg spot d ts f.bares more x end
  again_arg spot {d} (g.arg_value p) f more same end e =
      let a = again_expr spot p f in
      record {
        front = a.front;
        again = tree.value_arg a.again more;
        is = g.arg_value a.is;
        same = λ i. tree.value_arg (a.same i) (same i);
        are = simp (a.are, e, append_assoc);
      }
  again_arg spot {d} (g.arg_callback at p1 p2 p3 p4 p5 p6) f more same end e =
      let a6 = again_block spot p6 f in
      let f5 = mark_front p5 a6.front refl in
      let f4 = mark_front p4 f5 refl in
      let a3 = again_option_name spot p3 f4 in
      let f2 = mark_front p2 a3.front refl in
      let f1 = key_front p1 f2 in
      record {
        front = f1;
        again = tree.callback (place (placed spot f1.bares)) a3.again a6.again more;
        is = g.arg_callback refl (takes_key spot key.Async d f2.bares) (takes_mark spot mark.OpenParen d a3.front.bares) a3.is (takes_mark spot mark.CloseParen d f5.bares) (takes_mark spot mark.Arrow d a6.front.bares) a6.is;
        same = λ i. tree.callback 0 (a3.same i) (a6.same i) (same i);
        are = simp (a3.are, a6.are, e, append_assoc);
      }

  pub again_option_name : (spot : List Bare → ℕ) {d : ℕ} {ts us : List Lexeme} {x : Option Named} → IsOptionName d ts us x → (f : Front us)
      → Again spot (IsOptionName d) unplaced_option_name tokens_of_option_name ts f.bares x
  again_option_name spot g.option_name_none f = record { front = f; again = None; is = g.option_name_none; same = refl; are = refl }
  again_option_name spot {d} (g.option_name_name {n = n} p0) f =
      let f0 = name_front p0 f in
      record {
        front = f0;
        again = Some (named_at spot f0.bares n.text);
        is = g.option_name_name (takes_name spot n.text d f.bares);
        same = refl;
        are = refl;
      }

  pub again_prim : (spot : List Bare → ℕ) {d : ℕ} {ts us : List Lexeme} {x : Expr} → IsPrim d ts us x → (f : Front us)
      → Again spot (IsPrim d) unplaced_expr tokens_of_expr ts f.bares x
  again_prim spot {d} (g.number {n = n} at t e) f =
      let f1 = number_front t e f in
      record { front = f1; again = tree.number (place (placed spot f1.bares)) (pos n); is = g.number refl (takes_number spot n d f.bares) (sym (value_of_digits n)); same = refl; are = refl }
  again_prim spot {d} (g.text {bytes = bytes} t) f =
      let f1 = text_front t f in
      record { front = f1; again = tree.text (spot f1.bares) bytes; is = g.text (takes_text spot bytes d f.bares); same = refl; are = refl }
  again_prim spot {d} (g.yes at p1) f =
      let f1 = key_front p1 f in
      record {
        front = f1;
        again = tree.boolean (place (placed spot f1.bares)) true;
        is = g.yes refl (takes_key spot key.True d f.bares);
        same = refl;
        are = refl;
      }
  again_prim spot {d} (g.no at p1) f =
      let f1 = key_front p1 f in
      record {
        front = f1;
        again = tree.boolean (place (placed spot f1.bares)) false;
        is = g.no refl (takes_key spot key.False d f.bares);
        same = refl;
        are = refl;
      }
  again_prim spot {d} (g.null at p1) f =
      let f1 = key_front p1 f in
      record {
        front = f1;
        again = tree.null (place (placed spot f1.bares));
        is = g.null refl (takes_key spot key.Null d f.bares);
        same = refl;
        are = refl;
      }
  again_prim spot {d} (g.undefined at p1) f =
      let f1 = key_front p1 f in
      record {
        front = f1;
        again = tree.undefined (place (placed spot f1.bares));
        is = g.undefined refl (takes_key spot key.Undefined d f.bares);
        same = refl;
        are = refl;
      }
  again_prim spot {d} (g.this at p1) f =
      let f1 = key_front p1 f in
      record {
        front = f1;
        again = tree.this (place (placed spot f1.bares));
        is = g.this refl (takes_key spot key.This d f.bares);
        same = refl;
        are = refl;
      }
  again_prim spot {d} (g.variable {n = n} p0) f =
      let f0 = name_front p0 f in
      record {
        front = f0;
        again = tree.variable (named_at spot f0.bares n.text);
        is = g.variable (takes_name spot n.text d f.bares);
        same = refl;
        are = refl;
      }
  again_prim spot {d} (g.group at p1 p2 p3) f =
      let f3 = mark_front p3 f refl in
      let a2 = again_expr spot p2 f3 in
      let f1 = mark_front p1 a2.front refl in
      record {
        front = f1;
        again = tree.group (place (placed spot f1.bares)) a2.again;
        is = g.group refl (takes_mark spot mark.OpenParen d a2.front.bares) a2.is (takes_mark spot mark.CloseParen d f.bares);
        same = λ i. tree.group 0 (a2.same i);
        are = simp (a2.are, append_assoc);
      }
  again_prim spot {d} (g.list at p1 p2 p3) f =
      let f3 = mark_front p3 f refl in
      let a2 = again_exprs spot p2 f3 (mark.CloseBracket, refl, refl) in
      let f1 = mark_front p1 a2.front refl in
      record {
        front = f1;
        again = tree.list (place (placed spot f1.bares)) a2.again;
        is = g.list refl (takes_mark spot mark.OpenBracket d a2.front.bares) a2.is (takes_mark spot mark.CloseBracket d f.bares);
        same = λ i. tree.list 0 (a2.same i);
        are = simp (a2.are, append_assoc);
      }
  again_prim spot {d} (g.rec at p1 p2 p3) f =
      let f3 = mark_front p3 f refl in
      let a2 = again_pairs spot p2 f3 (mark.CloseBrace, refl, refl) in
      let f1 = mark_front p1 a2.front refl in
      record {
        front = f1;
        again = tree.rec (place (placed spot f1.bares)) a2.again;
        is = g.rec refl (takes_mark spot mark.OpenBrace d a2.front.bares) a2.is (takes_mark spot mark.CloseBrace d f.bares);
        same = λ i. tree.rec 0 (a2.same i);
        are = simp (a2.are, append_assoc);
      }
  again_prim spot {d} (g.new_error at p1 p2 p3 p4 p5) f =
      let f5 = mark_front p5 f refl in
      let a4 = again_option spot p4 f5 in
      let f3 = mark_front p3 a4.front refl in
      let f2 = word_front p2 f3 in
      let f1 = key_front p1 f2 in
      record {
        front = f1;
        again = tree.new_error (place (placed spot f1.bares)) a4.again;
        is = g.new_error refl (takes_key spot key.New d f2.bares) (takes_word spot (codes "Error") d f3.bares) (takes_mark spot mark.OpenParen d a4.front.bares) a4.is (takes_mark spot mark.CloseParen d f.bares);
        same = λ i. tree.new_error 0 (a4.same i);
        are = simp (a4.are, append_assoc);
      }

  pub again_option : (spot : List Bare → ℕ) {d : ℕ} {ts us : List Lexeme} {x : OptionExpr} → IsOptionExpr d ts us x → (f : Front us)
      → Again spot (IsOptionExpr d) unplaced_option tokens_of_option_expr ts f.bares x
  again_option spot g.option_expr_none f = record { front = f; again = tree.no_expr; is = g.option_expr_none; same = refl; are = refl }
  again_option spot {d} (g.option_expr_some p0) f =
      let a0 = again_expr spot p0 f in
      record {
        front = a0.front;
        again = tree.some_expr a0.again;
        is = g.option_expr_some a0.is;
        same = λ i. tree.some_expr (a0.same i);
        are = simp a0.are;
      }

  -- elements, behind which a mark closes
  pub again_exprs : (spot : List Bare → ℕ) {d : ℕ} {ts us : List Lexeme} {x : Exprs} → IsExprs d ts us x → (f : Front us) → closes f.bares
      → Again spot (IsExprs d) unplaced_exprs tokens_of_elements ts f.bares x
  again_exprs spot g.exprs_none f c = record { front = f; again = tree.no_exprs; is = g.exprs_none; same = refl; are = refl }
  again_exprs spot (g.exprs_last p) f c =
      let a = again_expr spot p f in
      record { front = a.front; again = tree.expr a.again tree.no_exprs; is = g.exprs_last a.is; same = λ i. tree.expr (a.same i) tree.no_exprs; are = simp (a.are, append-nil) }
  again_exprs spot (g.exprs_last_comma p q) f c =
      let a = again_expr spot p (comma_front q f c) in
      record { front = a.front; again = tree.expr a.again tree.no_exprs; is = g.exprs_last a.is; same = λ i. tree.expr (a.same i) tree.no_exprs; are = simp (a.are, append-nil) }
  again_exprs spot {d} (g.exprs_more {es = es} n p q r) f c =
      let b = again_exprs spot r f c in
      let f2 = mark_front q b.front refl in
      let a = again_expr spot p f2 in
      let e = before_some_exprs es n (pieces b.front.bares) (tokens_of_elements es) (pieces f.bares) b.are in
      record {
        front = a.front;
        again = tree.expr a.again b.again;
        is = g.exprs_more (some_exprs b.again b.same n) a.is (takes_mark spot mark.Comma d b.front.bares) b.is;
        same = λ i. tree.expr (a.same i) (b.same i);
        are = simp (a.are, e, append_assoc);
      }

  -- pairs, behind which a mark closes
  pub again_pairs : (spot : List Bare → ℕ) {d : ℕ} {ts us : List Lexeme} {x : Pairs} → IsPairs d ts us x → (f : Front us) → closes f.bares
      → Again spot (IsPairs d) unplaced_pairs tokens_of_pairs ts f.bares x
  again_pairs spot g.pairs_none f c = record { front = f; again = tree.no_pairs; is = g.pairs_none; same = refl; are = refl }
  again_pairs spot (g.pairs_last p) f c =
      let a = again_pair spot p f in
      record { front = a.front; again = tree.pair a.name a.value tree.no_pairs; is = g.pairs_last a.is; same = λ i. tree.pair (a.same_name i) (a.same i) tree.no_pairs; are = simp (a.are, append-nil) }
  again_pairs spot (g.pairs_last_comma p q) f c =
      let a = again_pair spot p (comma_front q f c) in
      record { front = a.front; again = tree.pair a.name a.value tree.no_pairs; is = g.pairs_last a.is; same = λ i. tree.pair (a.same_name i) (a.same i) tree.no_pairs; are = simp (a.are, append-nil) }
  again_pairs spot {d} (g.pairs_more {ps = ps} n p q r) f c =
      let b = again_pairs spot r f c in
      let f2 = mark_front q b.front refl in
      let a = again_pair spot p f2 in
      let e = before_some_pairs ps n (pieces b.front.bares) (tokens_of_pairs ps) (pieces f.bares) b.are in
      record {
        front = a.front;
        again = tree.pair a.name a.value b.again;
        is = g.pairs_more (some_pairs b.again b.same n) a.is (takes_mark spot mark.Comma d b.front.bares) b.is;
        same = λ i. tree.pair (a.same_name i) (a.same i) (b.same i);
        are = simp (a.are, e, append_assoc);
      }

  pub again_pair : (spot : List Bare → ℕ) {d : ℕ} {ts us : List Lexeme} {n : Named} {v : OptionExpr} → IsPair d ts us n v → (f : Front us)
      → AgainPair spot d ts f.bares n v
  again_pair spot {d} (g.pair_word {n = n} p q r) f =
      let a = again_expr spot r f in
      let f1 = mark_front q a.front refl in
      let k = word_key spot (is_word n.text) refl p f1 in
      record { front = k.front; name = k.name; value = tree.some_expr a.again; is = k.pair (takes_mark spot mark.Colon d a.front.bares) a.is; same_name = k.same; same = λ i. tree.some_expr (a.same i); are = simp (k.are, a.are) }
  again_pair spot {d} (g.pair_text {n = n} p q r) f =
      let a = again_expr spot r f in
      let f1 = mark_front q a.front refl in
      let k = text_key spot (is_word n.text) refl p f1 in
      record { front = k.front; name = k.name; value = tree.some_expr a.again; is = k.pair (takes_mark spot mark.Colon d a.front.bares) a.is; same_name = k.same; same = λ i. tree.some_expr (a.same i); are = simp (k.are, a.are) }
  again_pair spot {d} (g.pair_name {n = n} p) f =
      let f1 = name_front p f in
      record { front = f1; name = named_at spot f1.bares n.text; value = tree.no_expr; is = g.pair_name (takes_name spot n.text d f.bares); same_name = refl; same = refl; are = refl }

  pub again_block : (spot : List Bare → ℕ) {d : ℕ} {ts us : List Lexeme} {x : Items} → IsBlock d ts us x → (f : Front us)
      → Again spot (IsBlock d) unplaced_items tokens_of_block ts f.bares x
  again_block spot {d} (g.in_block p0 p1 p2) f =
      let f2 = mark_front p2 f refl in
      let a1 = again_items spot p1 f2 brace_no_else in
      let f0 = mark_front p0 a1.front refl in
      record {
        front = f0;
        again = a1.again;
        is = g.in_block (takes_mark spot mark.OpenBrace d a1.front.bares) a1.is (takes_mark spot mark.CloseBrace d f.bares);
        same = λ i. a1.same i;
        are = simp (a1.are, append_assoc);
      }

  -- items, behind which no else stands
  pub again_items : (spot : List Bare → ℕ) {d : ℕ} {ts us : List Lexeme} {x : Items} → IsItems d ts us x → (f : Front us) → BeginsWithNo (kind.Keyword key.Else) (placed spot f.bares)
      → Again spot (IsItems d) unplaced_items tokens_of_items ts f.bares x
  again_items spot g.items_none f h = record { front = f; again = tree.no_items; is = g.items_none; same = refl; are = refl }
  again_items spot {d} (g.items_let_alone {n = n} at p1 p2 p3 p4) f h =
      let a4 = again_items spot p4 f h in
      let f3 = mark_front p3 a4.front refl in
      let f2 = name_front p2 f3 in
      let f1 = key_front p1 f2 in
      record {
        front = f1;
        again = tree.declare (place (placed spot f1.bares)) bind.Let (named_at spot f2.bares n.text) tree.no_expr a4.again;
        is = g.items_let_alone refl (takes_key spot key.Let d f2.bares) (takes_name spot n.text d f3.bares) (takes_mark spot mark.Semicolon d a4.front.bares) a4.is;
        same = λ i. tree.declare 0 bind.Let (unplaced_name n) tree.no_expr (a4.same i);
        are = simp (a4.are, append_assoc);
      }
  again_items spot {d} (g.items_declared {b = b} {n = n} at p1 p2 p3 p4 p5 p6) f h =
      let a6 = again_items spot p6 f h in
      let f5 = mark_front p5 a6.front refl in
      let a4 = again_expr spot p4 f5 in
      let f3 = mark_front p3 a4.front (calm_so mark.Assign a4.front.bares (front_starts a4.front (expr_starts p4))) in
      let f2 = name_front p2 f3 in
      let f1 = key_front p1 f2 in
      record {
        front = f1;
        again = tree.declare (place (placed spot f1.bares)) b (named_at spot f2.bares n.text) (tree.some_expr a4.again) a6.again;
        is = g.items_declared refl (takes_key spot (binding_key b) d f2.bares) (takes_name spot n.text d f3.bares) (takes_mark spot mark.Assign d a4.front.bares) a4.is (takes_mark spot mark.Semicolon d a6.front.bares) a6.is;
        same = λ i. tree.declare 0 b (unplaced_name n) (tree.some_expr (a4.same i)) (a6.same i);
        are = simp (a4.are, a6.are, append_assoc);
      }
  again_items spot {d} (g.items_statement p0 p1) f h =
      let a1 = again_items spot p1 f h in
      let a0 = again_stmt spot p0 a1.front (λ _. items_no_else a1.is h) in
      record {
        front = a0.front;
        again = tree.statement a0.again a1.again;
        is = g.items_statement a0.is a1.is;
        same = λ i. tree.statement (a0.same i) (a1.same i);
        are = simp (a0.are, a1.are, append_assoc);
      }

  -- a statement, behind which an else stands only where one did
  pub again_stmt : (spot : List Bare → ℕ) {d : ℕ} {ts us : List Lexeme} {x : Stmt} → IsStmt d ts us x → (f : Front us) → ElseSo spot us f.bares
      → Again spot (IsStmt d) unplaced_stmt tokens_of_stmt ts f.bares x
  again_stmt spot {d} (g.block at p1) f h =
      let a1 = again_block spot p1 f in
      record {
        front = a1.front;
        again = tree.block (place (placed spot a1.front.bares)) a1.again;
        is = g.block refl a1.is;
        same = λ i. tree.block 0 (a1.same i);
        are = simp (a1.are, append_assoc);
      }
  again_stmt spot {d} (g.choose at p1 p2 p3 p4 p5 p6) f h =
      let a6 = again_other spot p6 f h in
      let a5 = again_stmt spot p5 a6.front a6.so in
      let f4 = mark_front p4 a5.front refl in
      let a3 = again_expr spot p3 f4 in
      let f2 = mark_front p2 a3.front refl in
      let f1 = key_front p1 f2 in
      record {
        front = f1;
        again = tree.choose (place (placed spot f1.bares)) a3.again a5.again a6.again;
        is = g.choose refl (takes_key spot key.If d f2.bares) (takes_mark spot mark.OpenParen d a3.front.bares) a3.is (takes_mark spot mark.CloseParen d a5.front.bares) a5.is a6.is;
        same = λ i. tree.choose 0 (a3.same i) (a5.same i) (a6.same i);
        are = simp (a3.are, a5.are, a6.are, append_assoc);
      }
  again_stmt spot {d} (g.while at p1 p2 p3 p4 p5) f h =
      let a5 = again_stmt spot p5 f h in
      let f4 = mark_front p4 a5.front refl in
      let a3 = again_expr spot p3 f4 in
      let f2 = mark_front p2 a3.front refl in
      let f1 = key_front p1 f2 in
      record {
        front = f1;
        again = tree.while (place (placed spot f1.bares)) a3.again a5.again;
        is = g.while refl (takes_key spot key.While d f2.bares) (takes_mark spot mark.OpenParen d a3.front.bares) a3.is (takes_mark spot mark.CloseParen d a5.front.bares) a5.is;
        same = λ i. tree.while 0 (a3.same i) (a5.same i);
        are = simp (a3.are, a5.are, append_assoc);
      }
  again_stmt spot {d} (g.for {n = n} at p1 p2 p3 p4 p5 p6 p7 p8 p9 p10 p11 p12) f h =
      let a12 = again_stmt spot p12 f h in
      let f11 = mark_front p11 a12.front refl in
      let a10 = again_simple spot p10 f11 in
      let f9 = mark_front p9 a10.front refl in
      let a8 = again_expr spot p8 f9 in
      let f7 = mark_front p7 a8.front refl in
      let a6 = again_expr spot p6 f7 in
      let f5 = mark_front p5 a6.front (calm_so mark.Assign a6.front.bares (front_starts a6.front (expr_starts p6))) in
      let f4 = name_front p4 f5 in
      let f3 = key_front p3 f4 in
      let f2 = mark_front p2 f3 refl in
      let f1 = key_front p1 f2 in
      record {
        front = f1;
        again = tree.for (place (placed spot f1.bares)) (named_at spot f4.bares n.text) a6.again a8.again a10.again a12.again;
        is = g.for refl (takes_key spot key.For d f2.bares) (takes_mark spot mark.OpenParen d f3.bares) (takes_key spot key.Let d f4.bares) (takes_name spot n.text d f5.bares) (takes_mark spot mark.Assign d a6.front.bares) a6.is (takes_mark spot mark.Semicolon d a8.front.bares) a8.is (takes_mark spot mark.Semicolon d a10.front.bares) a10.is (takes_mark spot mark.CloseParen d a12.front.bares) a12.is;
        same = λ i. tree.for 0 (unplaced_name n) (a6.same i) (a8.same i) (a10.same i) (a12.same i);
        are = simp (a6.are, a8.are, a10.are, a12.are, append_assoc);
      }
  again_stmt spot {d} (g.for_of {b = b} {n = n} at p1 p2 p3 p4 p5 p6 p7 p8) f h =
      let a8 = again_stmt spot p8 f h in
      let f7 = mark_front p7 a8.front refl in
      let a6 = again_expr spot p6 f7 in
      let f5 = word_front p5 a6.front in
      let f4 = name_front p4 f5 in
      let f3 = key_front p3 f4 in
      let f2 = mark_front p2 f3 refl in
      let f1 = key_front p1 f2 in
      record {
        front = f1;
        again = tree.for_of (place (placed spot f1.bares)) b (named_at spot f4.bares n.text) a6.again a8.again;
        is = g.for_of refl (takes_key spot key.For d f2.bares) (takes_mark spot mark.OpenParen d f3.bares) (takes_key spot (binding_key b) d f4.bares) (takes_name spot n.text d f5.bares) (takes_word spot (codes "of") d a6.front.bares) a6.is (takes_mark spot mark.CloseParen d a8.front.bares) a8.is;
        same = λ i. tree.for_of 0 b (unplaced_name n) (a6.same i) (a8.same i);
        are = simp (a6.are, a8.are, append_assoc);
      }
  again_stmt spot {d} (g.try at p1 p2 p3 p4 p5) f h =
      let a5 = again_block spot p5 f in
      let a4 = again_caught spot p4 a5.front in
      let f3 = key_front p3 a4.front in
      let a2 = again_block spot p2 f3 in
      let f1 = key_front p1 a2.front in
      record {
        front = f1;
        again = tree.try (place (placed spot f1.bares)) a2.again a4.again a5.again;
        is = g.try refl (takes_key spot key.Try d a2.front.bares) a2.is (takes_key spot key.Catch d a4.front.bares) a4.is a5.is;
        same = λ i. tree.try 0 (a2.same i) (a4.same i) (a5.same i);
        are = simp (a2.are, a4.are, a5.are, append_assoc);
      }
  again_stmt spot {d} (g.throw at p1 p2 p3) f h =
      let f3 = mark_front p3 f refl in
      let a2 = again_expr spot p2 f3 in
      let f1 = key_front p1 a2.front in
      record {
        front = f1;
        again = tree.throw (place (placed spot f1.bares)) a2.again;
        is = g.throw refl (takes_key spot key.Throw d a2.front.bares) a2.is (takes_mark spot mark.Semicolon d f.bares);
        same = λ i. tree.throw 0 (a2.same i);
        are = simp (a2.are, append_assoc);
      }
  again_stmt spot {d} (g.return at p1 p2 p3) f h =
      let f3 = mark_front p3 f refl in
      let a2 = again_option spot p2 f3 in
      let f1 = key_front p1 a2.front in
      record {
        front = f1;
        again = tree.return (place (placed spot f1.bares)) a2.again;
        is = g.return refl (takes_key spot key.Return d a2.front.bares) a2.is (takes_mark spot mark.Semicolon d f.bares);
        same = λ i. tree.return 0 (a2.same i);
        are = simp (a2.are, append_assoc);
      }
  again_stmt spot {d} (g.break at p1 p2) f h =
      let f2 = mark_front p2 f refl in
      let f1 = key_front p1 f2 in
      record {
        front = f1;
        again = tree.break (place (placed spot f1.bares));
        is = g.break refl (takes_key spot key.Break d f2.bares) (takes_mark spot mark.Semicolon d f.bares);
        same = refl;
        are = refl;
      }
  again_stmt spot {d} (g.continue at p1 p2) f h =
      let f2 = mark_front p2 f refl in
      let f1 = key_front p1 f2 in
      record {
        front = f1;
        again = tree.continue (place (placed spot f1.bares));
        is = g.continue refl (takes_key spot key.Continue d f2.bares) (takes_mark spot mark.Semicolon d f.bares);
        same = refl;
        are = refl;
      }
  again_stmt spot {d} (g.simple p0 p1 p2) f h =
      let f2 = mark_front p2 f refl in
      let a1 = again_simple spot p1 f2 in
      record {
        front = a1.front;
        again = tree.simple a1.again;
        is = g.simple (no_brace spot a1.front.like p0) a1.is (takes_mark spot mark.Semicolon d f.bares);
        same = λ i. tree.simple (a1.same i);
        are = simp (a1.are, append_assoc);
      }

  pub again_other : (spot : List Bare → ℕ) {d : ℕ} {ts us : List Lexeme} {x : OptionStmt} → IsElse d ts us x → (f : Front us) → ElseSo spot us f.bares
      → AgainOther spot d ts f.bares x
  again_other spot (g.else_none n) f h =
      record { front = f; again = tree.no_stmt; is = g.else_none (h n); same = refl; are = refl; so = h }
  again_other spot {d} (g.else_other p q) f h =
      let a = again_stmt spot q f h in
      let f1 = key_front p a.front in
      record {
        front = f1;
        again = tree.some_stmt a.again;
        is = g.else_other (takes_key spot key.Else d a.front.bares) a.is;
        same = λ i. tree.some_stmt (a.same i);
        are = simp a.are;
        so = λ e. absurd (not_else p e);
      }

  pub again_caught : (spot : List Bare → ℕ) {d : ℕ} {ts us : List Lexeme} {x : Option Named} → IsCaught d ts us x → (f : Front us)
      → Again spot (IsCaught d) unplaced_option_name tokens_of_caught ts f.bares x
  again_caught spot g.caught_none f = record { front = f; again = None; is = g.caught_none; same = refl; are = refl }
  again_caught spot {d} (g.caught_name {n = n} p0 p1 p2) f =
      let f2 = mark_front p2 f refl in
      let f1 = name_front p1 f2 in
      let f0 = mark_front p0 f1 refl in
      record {
        front = f0;
        again = Some (named_at spot f1.bares n.text);
        is = g.caught_name (takes_mark spot mark.OpenParen d f1.bares) (takes_name spot n.text d f2.bares) (takes_mark spot mark.CloseParen d f.bares);
        same = refl;
        are = refl;
      }

  pub again_simple : (spot : List Bare → ℕ) {d : ℕ} {ts us : List Lexeme} {x : Simple} → IsSimple d ts us x → (f : Front us)
      → Again spot (IsSimple d) unplaced_simple tokens_of_simple ts f.bares x
  again_simple spot {d} (g.simple_run at p1) f =
      let a1 = again_expr spot p1 f in
      record {
        front = a1.front;
        again = tree.run (place (placed spot a1.front.bares)) a1.again;
        is = g.simple_run refl a1.is;
        same = λ i. tree.run 0 (a1.same i);
        are = simp a1.are;
      }
  again_simple spot {d} (g.simple_assign at p1 p2 p3) f =
      let a3 = again_expr spot p3 f in
      let f2 = mark_front p2 a3.front (calm_so mark.Assign a3.front.bares (front_starts a3.front (expr_starts p3))) in
      let a1 = again_expr spot p1 f2 in
      record {
        front = a1.front;
        again = tree.assign (place (placed spot a1.front.bares)) a1.again a3.again;
        is = g.simple_assign refl a1.is (takes_mark spot mark.Assign d a3.front.bares) a3.is;
        same = λ i. tree.assign 0 (a1.same i) (a3.same i);
        are = simp (a1.are, a3.are, append_assoc);
      }
  again_simple spot {d} (g.simple_add_assign at p1 p2 p3) f =
      let a3 = again_expr spot p3 f in
      let f2 = mark_front p2 a3.front refl in
      let a1 = again_expr spot p1 f2 in
      record {
        front = a1.front;
        again = tree.add_assign (place (placed spot a1.front.bares)) a1.again a3.again;
        is = g.simple_add_assign refl a1.is (takes_mark spot mark.AddAssign d a3.front.bares) a3.is;
        same = λ i. tree.add_assign 0 (a1.same i) (a3.same i);
        are = simp (a1.are, a3.are, append_assoc);
      }
  again_simple spot {d} (g.simple_sub_assign at p1 p2 p3) f =
      let a3 = again_expr spot p3 f in
      let f2 = mark_front p2 a3.front refl in
      let a1 = again_expr spot p1 f2 in
      record {
        front = a1.front;
        again = tree.sub_assign (place (placed spot a1.front.bares)) a1.again a3.again;
        is = g.simple_sub_assign refl a1.is (takes_mark spot mark.SubAssign d a3.front.bares) a3.is;
        same = λ i. tree.sub_assign 0 (a1.same i) (a3.same i);
        are = simp (a1.are, a3.are, append_assoc);
      }
  again_simple spot {d} (g.simple_increment at p1 p2) f =
      let f2 = mark_front p2 f refl in
      let a1 = again_expr spot p1 f2 in
      record {
        front = a1.front;
        again = tree.increment (place (placed spot a1.front.bares)) a1.again;
        is = g.simple_increment refl a1.is (takes_mark spot mark.Increment d f.bares);
        same = λ i. tree.increment 0 (a1.same i);
        are = simp (a1.are, append_assoc);
      }
  again_simple spot {d} (g.simple_decrement at p1 p2) f =
      let f2 = mark_front p2 f refl in
      let a1 = again_expr spot p1 f2 in
      record {
        front = a1.front;
        again = tree.decrement (place (placed spot a1.front.bares)) a1.again;
        is = g.simple_decrement refl a1.is (takes_mark spot mark.Decrement d f.bares);
        same = λ i. tree.decrement 0 (a1.same i);
        are = simp (a1.are, append_assoc);
      }
