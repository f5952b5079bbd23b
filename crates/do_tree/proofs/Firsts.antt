-- With which tokens expressions and statements begin.
use Rattle.std.proofs.Common.{◌≡◌, ◌≢◌, ℕ, true, List, [], ◌∷◌, refl, sym, ◌∙◌, ap, subst}
use Rattle.std.proofs.lemmas.Bool.{false≢true}
use Rattle.do_lex.specs.declared.kind.Kind.{Kind}
use Rattle.do_lex.specs.declared.kind.Kind.TheVariants as kind
use Rattle.do_lex.specs.declared.kind.Keyword.{Keyword}
use Rattle.do_lex.specs.declared.kind.Keyword.TheVariants as key
use Rattle.do_lex.specs.declared.kind.Mark.TheVariants as mark
use Rattle.do_tree.specs.Grammar as g
use Rattle.do_tree.specs.Grammar.{Takes, TakesMark, TakesKey, Level, IsExpr, IsShort, IsOperandOf, IsStrict, IsTighter, IsUn, IsPost, IsPrim, IsBlock, IsItems, IsStmt, IsSimple, BeginsWithNo}
use Rattle.do_tree.specs.Lexeme.{Lexeme}
use Rattle.do_tree.specs.Tree as tree
use Rattle.do_tree.specs.declared.expr.Chain.{Chain}
use Rattle.do_tree.specs.declared.stmt.Binding.{Binding}
use Rattle.do_tree.specs.declared.stmt.Binding.TheVariants as bind
use Rattle.do_tree.proofs.Respelled.{starts, starts_kind}

-- what a token begins
takes_starts : {k : Kind} {d : ℕ} {ts us : List Lexeme} → Takes k d ts us → starts_kind k ≡ true → starts ts ≡ true
takes_starts {k} {d} {ts} {us} t h = ap starts t.first ∙ ap starts_kind t.kind_is ∙ h

pub prim_starts : {d : ℕ} {ts us : List Lexeme} {e : tree.Expr} → IsPrim d ts us e → starts ts ≡ true
prim_starts (g.number p t n) = takes_starts t refl
prim_starts (g.text t) = takes_starts t.takes refl
prim_starts (g.yes p t) = takes_starts t refl
prim_starts (g.no p t) = takes_starts t refl
prim_starts (g.null p t) = takes_starts t refl
prim_starts (g.undefined p t) = takes_starts t refl
prim_starts (g.this p t) = takes_starts t refl
prim_starts (g.variable t) = takes_starts t.takes refl
prim_starts (g.group p t e c) = takes_starts t refl
prim_starts (g.list p t e c) = takes_starts t refl
prim_starts (g.rec p t e c) = takes_starts t refl
prim_starts (g.new_error p t w o m c) = takes_starts t refl

pub post_starts : {d : ℕ} {ts us : List Lexeme} {e : tree.Expr} → IsPost d ts us e → starts ts ≡ true
post_starts (g.prim p) = prim_starts p
post_starts (g.path at some p l) = prim_starts p

pub un_starts : {d : ℕ} {ts us : List Lexeme} {e : tree.Expr} → IsUn d ts us e → starts ts ≡ true
un_starts (g.negative p t u) = takes_starts t refl
un_starts (g.opposite p t u) = takes_starts t refl
un_starts (g.await p t u) = takes_starts t refl
un_starts (g.post p) = post_starts p

mutual
  pub strict_starts : {l : Level} {d : ℕ} {ts us : List Lexeme} {e : tree.Expr} → IsStrict l d ts us e → starts ts ≡ true
  strict_starts (g.tighter t) = tighter_starts t
  strict_starts (g.strict p t os) = tighter_starts t

  pub tighter_starts : {l : Level} {d : ℕ} {ts us : List Lexeme} {e : tree.Expr} → IsTighter l d ts us e → starts ts ≡ true
  tighter_starts (g.of_eq s) = strict_starts s
  tighter_starts (g.of_rel s) = strict_starts s
  tighter_starts (g.of_add s) = strict_starts s
  tighter_starts (g.of_mul u) = un_starts u

pub operand_starts : {c : Chain} {d : ℕ} {ts us : List Lexeme} {e : tree.Expr} → IsOperandOf c d ts us e → starts ts ≡ true
operand_starts (g.of_coalesce s) = strict_starts s
operand_starts (g.of_and s) = strict_starts s
operand_starts (g.of_or s) = strict_starts s
operand_starts (g.and p o r) = operand_starts o

pub short_starts : {d : ℕ} {ts us : List Lexeme} {e : tree.Expr} → IsShort d ts us e → starts ts ≡ true
short_starts (g.one o) = operand_starts o
short_starts (g.coalesce p o r) = operand_starts o
short_starts (g.or p o r) = operand_starts o

pub expr_starts : {d : ℕ} {ts us : List Lexeme} {e : tree.Expr} → IsExpr d ts us e → starts ts ≡ true
expr_starts (g.short s) = short_starts s
expr_starts (g.choice p s q e c f) = short_starts s

pub simple_starts : {d : ℕ} {ts us : List Lexeme} {s : tree.Simple} → IsSimple d ts us s → starts ts ≡ true
simple_starts (g.simple_run p e) = expr_starts e
simple_starts (g.simple_assign p e m f) = expr_starts e
simple_starts (g.simple_add_assign p e m f) = expr_starts e
simple_starts (g.simple_sub_assign p e m f) = expr_starts e
simple_starts (g.simple_increment p e m) = expr_starts e
simple_starts (g.simple_decrement p e m) = expr_starts e

-- no else begins what follows
takes_no_else : {k : Kind} {d : ℕ} {ts us : List Lexeme} → Takes k d ts us → k ≢ kind.Keyword key.Else → BeginsWithNo (kind.Keyword key.Else) ts
takes_no_else {k} {d} {ts} {us} t h = subst (λ xs. BeginsWithNo (kind.Keyword key.Else) xs) (sym t.first) (λ i. h (sym t.kind_is ∙ i))

starts_no_else : (ts : List Lexeme) → starts ts ≡ true → BeginsWithNo (kind.Keyword key.Else) ts
starts_no_else [] h = tt
starts_no_else (t ∷ ts) h = λ i. false≢true (sym (ap starts_kind i) ∙ h)

pub brace_no_else : kind.Mark mark.CloseBrace ≢ kind.Keyword key.Else
brace_no_else i = cc

open_no_else : kind.Mark mark.OpenBrace ≢ kind.Keyword key.Else
open_no_else i = cc

apart : (k : Keyword) → k ≢ key.Else → kind.Keyword k ≢ kind.Keyword key.Else
apart k h i = h cc

block_no_else : {d : ℕ} {ts us : List Lexeme} {is : tree.Items} → IsBlock d ts us is → BeginsWithNo (kind.Keyword key.Else) ts
block_no_else (g.in_block t i c) = takes_no_else t open_no_else

pub stmt_no_else : {d : ℕ} {ts us : List Lexeme} {s : tree.Stmt} → IsStmt d ts us s → BeginsWithNo (kind.Keyword key.Else) ts
stmt_no_else (g.block p b) = block_no_else b
stmt_no_else (g.choose p t o e c s f) = takes_no_else t (apart _ (λ i. cc))
stmt_no_else (g.while p t o e c s) = takes_no_else t (apart _ (λ i. cc))
stmt_no_else (g.for p t o l n a e m f k i c s) = takes_no_else t (apart _ (λ i. cc))
stmt_no_else (g.for_of p t o b n w e c s) = takes_no_else t (apart _ (λ i. cc))
stmt_no_else (g.try p t b c n h) = takes_no_else t (apart _ (λ i. cc))
stmt_no_else (g.throw p t e m) = takes_no_else t (apart _ (λ i. cc))
stmt_no_else (g.return p t e m) = takes_no_else t (apart _ (λ i. cc))
stmt_no_else (g.break p t m) = takes_no_else t (apart _ (λ i. cc))
stmt_no_else (g.continue p t m) = takes_no_else t (apart _ (λ i. cc))
stmt_no_else {ts = ts} (g.simple h s m) = starts_no_else ts (simple_starts s)

binding_no_else : (b : Binding) → kind.Keyword (g.binding_key b) ≢ kind.Keyword key.Else
binding_no_else bind.Let i = cc
binding_no_else bind.Const i = cc

pub items_no_else : {d : ℕ} {ts us : List Lexeme} {is : tree.Items} → IsItems d ts us is → BeginsWithNo (kind.Keyword key.Else) us → BeginsWithNo (kind.Keyword key.Else) ts
items_no_else g.items_none h = h
items_no_else (g.items_let_alone p t n m r) h = takes_no_else t (apart _ (λ i. cc))
items_no_else (g.items_declared {b = b} p t n a e m r) h = takes_no_else t (binding_no_else b)
items_no_else (g.items_statement s r) h = stmt_no_else s

-- an else stands here
pub not_else : {d : ℕ} {ts us : List Lexeme} → TakesKey key.Else d ts us → BeginsWithNo (kind.Keyword key.Else) ts → ⊥
not_else {d} {ts} {us} t h = (subst (λ xs. BeginsWithNo (kind.Keyword key.Else) xs) t.first h) t.kind_is
