-- The script of `gen`: its tokens, its tree, and that it is this tree.
use Rattle.std.proofs.Common.{◌≡◌, ℕ, suc, pos, List, [], ◌∷◌, drop, inl, None, refl}
use Rattle.std.specs.Prelude.{codes}
use Rattle.do_value.specs.declared.operator.BinOp.TheVariants as op
use Rattle.do_lex.specs.Kind.{mark_text}
use Rattle.do_lex.specs.declared.kind.Kind.{Kind}
use Rattle.do_lex.specs.declared.kind.Kind.TheVariants as kind
use Rattle.do_lex.specs.declared.kind.Keyword.TheVariants as key
use Rattle.do_lex.specs.declared.kind.Mark.{Mark}
use Rattle.do_lex.specs.declared.kind.Mark.TheVariants as mark
use Rattle.do_tree.specs.Grammar as g
use Rattle.do_tree.specs.Grammar.{IsArgs, IsClass, IsExpr, IsItems, IsMember, IsPost, IsScript, IsStmt, IsStrict, IsTighter, IsUn, Takes, TakesAnyWord, TakesMark, TakesName, TakesText, TakesWord}
use Rattle.do_tree.specs.Lexeme.{Lexeme, place, text_of}
use Rattle.do_tree.specs.Tree as tree
use Rattle.do_tree.specs.Tree.{Args, Class, Expr, Items, Links, Method, Named, Script, Stmt}
use Rattle.do_tree.specs.declared.expr.Chain.TheVariants as chain
use Rattle.do_tree.specs.declared.script.MethodKind.TheVariants as method
use Rattle.do_tree.specs.declared.stmt.Binding.TheVariants as bind
use Rattle.do_host.proofs.Spaced.{Spaced, Written, lexemes_from}
use Rattle.do_host.proofs.Spaced.Written.{digit, quoted, word}
use Rattle.do_host.proofs.Spaced.Written.{mark as sign}

-- a token behind a space, and one behind nothing
abbrev spaced : Written → ℕ → Spaced
spaced w d = record { blanks = 32 ∷ []; token = w; inside = d }

abbrev close : Written → ℕ → Spaced
close w d = record { blanks = []; token = w; inside = d }

-- The tokens, each with the number of phrases that hold it.
abbrev pub gen_tokens : List Spaced
gen_tokens =
    close (word (codes "export")) 0 ∷ spaced (word (codes "class")) 0 ∷ spaced (word (codes "G")) 0 ∷ spaced (word (codes "extends")) 0
    ∷ spaced (word (codes "DurableObject")) 0 ∷ spaced (sign mark.OpenBrace) 0
    ∷ record { blanks = 10 ∷ 32 ∷ 32 ∷ []; token = word (codes "async"); inside = 0 } ∷ spaced (word (codes "add")) 0
    ∷ close (sign mark.OpenParen) 0 ∷ close (word (codes "k")) 0 ∷ close (sign mark.CloseParen) 0 ∷ spaced (sign mark.OpenBrace) 0
    -- let n = await this.ctx.storage.get("n") ?? 0;
    ∷ spaced (word (codes "let")) 0 ∷ spaced (word (codes "n")) 0 ∷ spaced (sign mark.Assign) 0 ∷ spaced (word (codes "await")) 2
    ∷ spaced (word (codes "this")) 3 ∷ close (sign mark.Dot) 3 ∷ close (word (codes "ctx")) 3 ∷ close (sign mark.Dot) 3
    ∷ close (word (codes "storage")) 3 ∷ close (sign mark.Dot) 3 ∷ close (word (codes "get")) 3 ∷ close (sign mark.OpenParen) 3
    ∷ close (quoted (codes "n")) 5 ∷ close (sign mark.CloseParen) 3 ∷ spaced (sign mark.Coalesce) 1 ∷ spaced (digit 0) 2
    ∷ close (sign mark.Semicolon) 0
    -- this.ctx.storage.put("n", n + k);
    ∷ spaced (word (codes "this")) 3 ∷ close (sign mark.Dot) 3 ∷ close (word (codes "ctx")) 3 ∷ close (sign mark.Dot) 3
    ∷ close (word (codes "storage")) 3 ∷ close (sign mark.Dot) 3 ∷ close (word (codes "put")) 3 ∷ close (sign mark.OpenParen) 3
    ∷ close (quoted (codes "n")) 5 ∷ close (sign mark.Comma) 3 ∷ spaced (word (codes "n")) 5 ∷ spaced (sign mark.Plus) 4
    ∷ spaced (word (codes "k")) 5 ∷ close (sign mark.CloseParen) 3 ∷ close (sign mark.Semicolon) 1
    -- return n + k;
    ∷ spaced (word (codes "return")) 1 ∷ spaced (word (codes "n")) 3 ∷ spaced (sign mark.Plus) 2 ∷ spaced (word (codes "k")) 3
    ∷ close (sign mark.Semicolon) 1 ∷ spaced (sign mark.CloseBrace) 0
    ∷ record { blanks = 10 ∷ []; token = sign mark.CloseBrace; inside = 0 } ∷ []

abbrev name_at : ℕ → List ℕ → Named
name_at at text = record { at = at; text = text }

-- `n + k` at these places
abbrev sum_at : ℕ → ℕ → Expr
sum_at n k = tree.strict n (tree.variable (name_at n (codes "n"))) (tree.operand op.Add (tree.variable (name_at k (codes "k"))) tree.no_operands)

-- `this.ctx.storage` at its places, and the steps behind it
abbrev storage_at : ℕ → ℕ → ℕ → Links → Expr
storage_at this ctx storage links =
    tree.path this (tree.this this) (tree.field (name_at ctx (codes "ctx")) (tree.field (name_at storage (codes "storage")) links))

-- `await this.ctx.storage.get("n") ?? 0`
abbrev kept : Expr
kept = storage_at 70 75 79 (tree.field (name_at 87 (codes "get")) (tree.call 90 (tree.value_arg (tree.text 91 (codes "n")) tree.no_args) tree.no_links))

abbrev read : Expr
read = tree.lazy 64 chain.Coalesce (tree.await 64 kept) (tree.expr (tree.number 99 (pos 0)) tree.no_exprs)

-- `this.ctx.storage.put("n", n + k);`
abbrev put : Stmt
put = tree.simple (tree.run 102 (storage_at 102 107 111
    (tree.field (name_at 119 (codes "put"))
    (tree.call 122 (tree.value_arg (tree.text 123 (codes "n")) (tree.value_arg (sum_at 128 132) tree.no_args)) tree.no_links))))

-- `return n + k;`
abbrev told : Stmt
told = tree.return 136 (tree.some_expr (sum_at 143 147))

abbrev body : Items
body = tree.declare 56 bind.Let (name_at 60 (codes "n")) (tree.some_expr read) (tree.statement put (tree.statement told tree.no_items))

abbrev add : Method
add = record { at = 41; kind = method.Async; name = name_at 47 (codes "add"); parameters = name_at 51 (codes "k") ∷ []; body = body }

abbrev class : Class
class = record { at = 0; name = name_at 13 (codes "G"); methods = add ∷ [] }

-- The tree.
abbrev pub gen_tree : Script
gen_tree = record { import = None; classes = class ∷ [] }

-- one token is taken
abbrev lexeme : Kind → List ℕ → ℕ → ℕ → Lexeme
lexeme k text at d = record { kind = k; text = text; at = at; inside = d }

abbrev take : {k : Kind} {text : List ℕ} {at d : ℕ} {us : List Lexeme} → Takes k d (lexeme k text at d ∷ us) us
take {k} {text} {at} {d} = record { token = lexeme k text at d; first = refl; kind_is = refl; inside_is = refl }

abbrev take_name : {text : List ℕ} {at d : ℕ} {us : List Lexeme} → TakesName (name_at at text) d (lexeme kind.Word text at d ∷ us) us
take_name {text} {at} {d} = record { takes = record { token = lexeme kind.Word text at d; first = refl; kind_is = refl; inside_is = refl }; at_is = refl; text_is = refl }

abbrev take_word : {text : List ℕ} {at d : ℕ} {us : List Lexeme} → TakesWord text d (lexeme kind.Word text at d ∷ us) us
take_word {text} {at} {d} = record { takes = record { token = lexeme kind.Word text at d; first = refl; kind_is = refl; inside_is = refl }; text_is = refl }

abbrev take_any : {text : List ℕ} {at d : ℕ} {us : List Lexeme} → TakesAnyWord (name_at at text) d (lexeme kind.Word text at d ∷ us) us
take_any {text} {at} {d} = record { token = lexeme kind.Word text at d; first = refl; kind_is = inl refl; inside_is = refl; at_is = refl; text_is = refl }

abbrev take_text : {text bytes : List ℕ} {at d : ℕ} {us : List Lexeme} → bytes ≡ text_of (lexeme kind.Text text at d) → TakesText at bytes d (lexeme kind.Text text at d ∷ us) us
take_text {text} {bytes} {at} {d} e =
    record { takes = record { token = lexeme kind.Text text at d; first = refl; kind_is = refl; inside_is = refl }; at_is = refl; bytes_is = e }

-- an operand alone
strict_of : {d : ℕ} {ts us : List Lexeme} {e : Expr} → IsUn (suc d) ts us e → IsStrict g.eq d ts us e
strict_of u = g.tighter (g.of_eq (g.tighter (g.of_rel (g.tighter (g.of_add (g.tighter (g.of_mul u)))))))

expr_of : {d : ℕ} {ts us : List Lexeme} {e : Expr} → IsPost (suc d) ts us e → IsExpr d ts us e
expr_of p = g.short (g.one (g.of_or (strict_of (g.post p))))

-- a sum of two names
term_of : {d : ℕ} {ts us : List Lexeme} {n : Named} → TakesName n (suc d) ts us → IsTighter g.add d ts us (tree.variable n)
term_of t = g.of_add (g.tighter (g.of_mul (g.post (g.prim (g.variable t)))))

sum_of : {d at : ℕ} {ts us vs ws : List Lexeme} {n k : Named} → at ≡ place ts → TakesName n (suc d) ts us → TakesMark mark.Plus d us vs → TakesName k (suc d) vs ws
    → IsExpr d ts ws (tree.strict at (tree.variable n) (tree.operand op.Add (tree.variable k) tree.no_operands))
sum_of e n p k =
    g.short (g.one (g.of_or (g.tighter (g.of_eq (g.tighter (g.of_rel (g.strict e (term_of n) (g.operands_last g.plus p (term_of k)))))))))

-- a text
text_is : {d at : ℕ} {bytes text : List ℕ} {us : List Lexeme} → bytes ≡ text_of (lexeme kind.Text text at (suc d)) → IsExpr d (lexeme kind.Text text at (suc d) ∷ us) us (tree.text at bytes)
text_is e = expr_of (g.prim (g.text (take_text e)))

-- a mark
abbrev mark_at : Mark → ℕ → ℕ → Lexeme
mark_at m at d = lexeme (kind.Mark m) (mark_text m) at d

-- the tokens of `this.ctx.storage`, before others
abbrev storage_tokens : ℕ → ℕ → ℕ → ℕ → ℕ → ℕ → List Lexeme → List Lexeme
storage_tokens d this first ctx second storage us =
    lexeme (kind.Keyword key.This) (codes "this") this d ∷ mark_at mark.Dot first d ∷ lexeme kind.Word (codes "ctx") ctx d
    ∷ mark_at mark.Dot second d ∷ lexeme kind.Word (codes "storage") storage d ∷ us

-- a method of it, called
called : {d this first ctx second storage third at paren close : ℕ} {text : List ℕ} {us vs : List Lexeme} {a : Args} → IsArgs d us (mark_at mark.CloseParen close d ∷ vs) a
    → IsPost d (storage_tokens d this first ctx second storage (mark_at mark.Dot third d ∷ lexeme kind.Word text at d ∷ mark_at mark.OpenParen paren d ∷ us)) vs
    (storage_at this ctx storage (tree.field (name_at at text) (tree.call paren a tree.no_links)))
called a = g.path refl (λ e. cc) (g.this refl take) (g.link_field take take_any (g.link_field take take_any (g.link_field take take_any (g.link_call refl take a take g.link_none))))

-- the tokens from a place in their list on
abbrev behind : ℕ → List Lexeme
behind n = drop n (lexemes_from 0 gen_tokens)

is_read : IsExpr 1 (behind 15) (behind 28) read
is_read = g.short (g.coalesce refl
    (g.of_coalesce (strict_of (g.await refl take (g.post (called (g.args_last (g.arg_value (text_is refl))))))))
    (g.rest_last take (g.of_coalesce (strict_of (g.post (g.prim (g.number refl take refl)))))))

is_put : IsStmt 1 (behind 29) (behind 44) put
is_put = g.simple (λ e. cc)
    (g.simple_run refl (expr_of (called (g.args_more (λ e. cc) (g.arg_value (text_is refl)) take (g.args_last (g.arg_value (sum_of refl take_name take take_name)))))))
    take

is_told : IsStmt 1 (behind 44) (behind 49) told
is_told = g.return refl take (g.option_expr_some (sum_of refl take_name take take_name)) take

is_body : IsItems 0 (behind 12) (behind 49) body
is_body = g.items_declared refl take take_name take is_read take (g.items_statement is_put (g.items_statement is_told g.items_none))

is_add : IsMember (behind 6) (behind 50) add
is_add = g.async refl refl take take_name take (g.last take_name) take (g.in_block take is_body take)

is_class : IsClass (behind 0) [] class
is_class = g.class refl take take take_name take take_word take (behind 50) (g.more is_add g.none) take

-- The tokens are the tree.
pub is_gen_script : IsScript (lexemes_from 0 gen_tokens) gen_tree
is_gen_script = record { rest = lexemes_from 0 gen_tokens; import = g.none; classes = g.last is_class }
