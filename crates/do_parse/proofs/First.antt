-- With which token each phrase begins.
use Rattle.std.proofs.Common.{◌≡◌, ◌≢◌, ℕ, zero, suc, Bool, true, false, List, [], ◌∷◌, ◌⊎◌, inl, inr, Option, Some, None, refl, sym, ◌∙◌, ap, subst}
use Rattle.std.proofs.lemmas.Bool.{false≢true}
use Rattle.std.proofs.lemmas.Option.{none-some}
use Rattle.do_lex.specs.declared.kind.Kind.{Kind}
use Rattle.do_lex.specs.declared.kind.Kind.TheVariants as kind
use Rattle.do_lex.specs.declared.kind.Keyword.{Keyword}
use Rattle.do_lex.specs.declared.kind.Keyword.TheVariants as key
use Rattle.do_lex.specs.declared.kind.Mark.{Mark}
use Rattle.do_lex.specs.declared.kind.Mark.TheVariants as mark
use Rattle.do_lex.specs.declared.tokens.Token.{Token}
use Rattle.do_tree.specs.declared.expr.Chain.{Chain}
use Rattle.do_tree.specs.Grammar as g
use Rattle.do_tree.specs.Grammar.{Takes, TakesMark, TakesKey, Level, IsExpr, IsShort, IsOperandOf, IsStrict, IsTighter, IsUn, IsPost, IsPrim, IsBlock, IsStmt, IsSimple, BeginsWithNo}
use Rattle.do_tree.specs.Lexeme.{Lexeme, place}
use Rattle.do_tree.specs.Tree as tree
use Rattle.do_parse.specs.Lists.{BeginsWith}
use Rattle.do_parse.specs.Parsed.{BeginAlike}
use Rattle.do_parse.specs.Starts.{kind_next, place_next, begins_expr, stmt_start, expr_mark, expr_key}
use Rattle.do_parse.specs.declared.starts.StmtStart.{StmtStart}
use Rattle.do_parse.specs.declared.starts.StmtStart.TheVariants as start

-- the kind of the first lexeme
abbrev pub kind_first : List Lexeme → Option Kind
kind_first [] = None
kind_first (t ∷ _) = Some t.kind

-- it is the next token's where the lexemes begin like the tokens
pub first_is_next : (old : List Token) (ts : List Lexeme) → BeginAlike old ts → kind_first ts ≡ kind_next old
first_is_next [] [] b = refl
first_is_next [] (l ∷ ts) b = absurd b
first_is_next (t ∷ old) [] b = absurd b
first_is_next (t ∷ old) (l ∷ ts) b = ap (λ k. Some k) b.kind

pub place_is_next : (old : List Token) (ts : List Lexeme) → BeginAlike old ts → place ts ≡ place_next old
place_is_next [] [] b = refl
place_is_next [] (l ∷ ts) b = absurd b
place_is_next (t ∷ old) [] b = absurd b
place_is_next (t ∷ old) (l ∷ ts) b = b.at

-- the kind in an option, the given one where there is none
kind_in : Kind → Option Kind → Kind
kind_in k None = k
kind_in k (Some x) = x

-- the kind with which the lexemes begin
pub first_with : (k : Kind) (ts : List Lexeme) → BeginsWith k ts → kind_first ts ≡ Some k
first_with k [] b = absurd b
first_with k (t ∷ ts) b = ap (λ x. Some x) b

pub with_first : (k : Kind) (ts : List Lexeme) → kind_first ts ≡ Some k → BeginsWith k ts
unfolding kind_in
with_first k [] h = absurd (none-some k h)
with_first k (t ∷ ts) h = ap (kind_in k) h

-- one token
pub takes_first : {k : Kind} {d : ℕ} {ts us : List Lexeme} → Takes k d ts us → kind_first ts ≡ Some k
takes_first {k} {d} {ts} {us} t = ap kind_first t.first ∙ ap (λ x. Some x) t.kind_is

pub takes_with : {k : Kind} {d : ℕ} {ts us : List Lexeme} → Takes k d ts us → BeginsWith k ts
takes_with {k} {d} {ts} {us} t = subst (λ xs. BeginsWith k xs) (sym t.first) t.kind_is

-- expressions
prim_first : {d : ℕ} {ts us : List Lexeme} {e : tree.Expr} → IsPrim d ts us e → begins_expr (kind_first ts) ≡ true
prim_first (g.number p t n) = ap begins_expr (takes_first t)
prim_first (g.text t) = ap begins_expr (takes_first t.takes)
prim_first (g.yes p t) = ap begins_expr (takes_first t)
prim_first (g.no p t) = ap begins_expr (takes_first t)
prim_first (g.null p t) = ap begins_expr (takes_first t)
prim_first (g.undefined p t) = ap begins_expr (takes_first t)
prim_first (g.this p t) = ap begins_expr (takes_first t)
prim_first (g.variable t) = ap begins_expr (takes_first t.takes)
prim_first (g.group p t e c) = ap begins_expr (takes_first t)
prim_first (g.list p t e c) = ap begins_expr (takes_first t)
prim_first (g.rec p t e c) = ap begins_expr (takes_first t)
prim_first (g.new_error p t w o m c) = ap begins_expr (takes_first t)

post_first : {d : ℕ} {ts us : List Lexeme} {e : tree.Expr} → IsPost d ts us e → begins_expr (kind_first ts) ≡ true
post_first (g.prim p) = prim_first p
post_first (g.path at some p l) = prim_first p

pub un_first : {d : ℕ} {ts us : List Lexeme} {e : tree.Expr} → IsUn d ts us e → begins_expr (kind_first ts) ≡ true
un_first (g.negative p t u) = ap begins_expr (takes_first t)
un_first (g.opposite p t u) = ap begins_expr (takes_first t)
un_first (g.await p t u) = ap begins_expr (takes_first t)
un_first (g.post p) = post_first p

mutual
  pub strict_first : {l : Level} {d : ℕ} {ts us : List Lexeme} {e : tree.Expr} → IsStrict l d ts us e → begins_expr (kind_first ts) ≡ true
  strict_first (g.tighter t) = tighter_first t
  strict_first (g.strict p t os) = tighter_first t

  pub tighter_first : {l : Level} {d : ℕ} {ts us : List Lexeme} {e : tree.Expr} → IsTighter l d ts us e → begins_expr (kind_first ts) ≡ true
  tighter_first (g.of_eq s) = strict_first s
  tighter_first (g.of_rel s) = strict_first s
  tighter_first (g.of_add s) = strict_first s
  tighter_first (g.of_mul u) = un_first u

pub operand_first : {c : Chain} {d : ℕ} {ts us : List Lexeme} {e : tree.Expr} → IsOperandOf c d ts us e → begins_expr (kind_first ts) ≡ true
operand_first (g.of_coalesce s) = strict_first s
operand_first (g.of_and s) = strict_first s
operand_first (g.of_or s) = strict_first s
operand_first (g.and p o r) = operand_first o

pub short_first : {d : ℕ} {ts us : List Lexeme} {e : tree.Expr} → IsShort d ts us e → begins_expr (kind_first ts) ≡ true
short_first (g.one o) = operand_first o
short_first (g.coalesce p o r) = operand_first o
short_first (g.or p o r) = operand_first o

pub expr_first : {d : ℕ} {ts us : List Lexeme} {e : tree.Expr} → IsExpr d ts us e → begins_expr (kind_first ts) ≡ true
expr_first (g.short s) = short_first s
expr_first (g.choice p s q e c f) = short_first s

pub simple_first : {d : ℕ} {ts us : List Lexeme} {s : tree.Simple} → IsSimple d ts us s → begins_expr (kind_first ts) ≡ true
simple_first (g.simple_run p e) = expr_first e
simple_first (g.simple_assign p e m f) = expr_first e
simple_first (g.simple_add_assign p e m f) = expr_first e
simple_first (g.simple_sub_assign p e m f) = expr_first e
simple_first (g.simple_increment p e m) = expr_first e
simple_first (g.simple_decrement p e m) = expr_first e

-- what statement a tree is
abbrev pub start_of : tree.Stmt → StmtStart
start_of (tree.block at is) = start.Block
start_of (tree.choose at e s o) = start.If
start_of (tree.while at e s) = start.While
start_of (tree.for at n e f p s) = start.For
start_of (tree.for_of at b n e s) = start.For
start_of (tree.try at is n js) = start.Try
start_of (tree.throw at e) = start.Throw
start_of (tree.return at e) = start.Return
start_of (tree.break at) = start.Break
start_of (tree.continue at) = start.Continue
start_of (tree.simple s) = start.Simple

-- an expression that is no record begins no other statement
simple_kind : (k : Kind) → begins_expr (Some k) ≡ true → k ≢ kind.Mark mark.OpenBrace → stmt_start (Some k) ≡ start.Simple
simple_kind kind.Word b h = refl
simple_kind kind.Number b h = refl
simple_kind kind.Text b h = refl
simple_kind (kind.Mark mark.OpenBrace) b h = absurd (h refl)
simple_kind (kind.Mark m) b h = refl
simple_kind (kind.Keyword key.If) b h = absurd (false≢true b)
simple_kind (kind.Keyword key.While) b h = absurd (false≢true b)
simple_kind (kind.Keyword key.For) b h = absurd (false≢true b)
simple_kind (kind.Keyword key.Try) b h = absurd (false≢true b)
simple_kind (kind.Keyword key.Throw) b h = absurd (false≢true b)
simple_kind (kind.Keyword key.Return) b h = absurd (false≢true b)
simple_kind (kind.Keyword key.Break) b h = absurd (false≢true b)
simple_kind (kind.Keyword key.Continue) b h = absurd (false≢true b)
simple_kind (kind.Keyword k) b h = refl

simple_start : (ts : List Lexeme) → begins_expr (kind_first ts) ≡ true → BeginsWithNo (kind.Mark mark.OpenBrace) ts → stmt_start (kind_first ts) ≡ start.Simple
simple_start [] b h = absurd (false≢true b)
simple_start (t ∷ ts) b h = simple_kind t.kind b h

block_first : {d : ℕ} {ts us : List Lexeme} {is : tree.Items} → IsBlock d ts us is → kind_first ts ≡ Some (kind.Mark mark.OpenBrace)
block_first (g.in_block t i c) = takes_first t

-- the first token tells which statement it is
pub start_is : {d : ℕ} {ts us : List Lexeme} {s : tree.Stmt} → IsStmt d ts us s → stmt_start (kind_first ts) ≡ start_of s
start_is (g.block p b) = ap stmt_start (block_first b)
start_is (g.choose p t o e c s f) = ap stmt_start (takes_first t)
start_is (g.while p t o e c s) = ap stmt_start (takes_first t)
start_is (g.for p t o l n a e m f k i c s) = ap stmt_start (takes_first t)
start_is (g.for_of p t o b n w e c s) = ap stmt_start (takes_first t)
start_is (g.try p t b c n h) = ap stmt_start (takes_first t)
start_is (g.throw p t e m) = ap stmt_start (takes_first t)
start_is (g.return p t e m) = ap stmt_start (takes_first t)
start_is (g.break p t m) = ap stmt_start (takes_first t)
start_is (g.continue p t m) = ap stmt_start (takes_first t)
start_is {ts = ts} (g.simple h s m) = simple_start ts (simple_first s) h

-- a statement begins with one of these kinds
abbrev pub key_can : Keyword → Bool
key_can key.If = true
key_can key.While = true
key_can key.For = true
key_can key.Try = true
key_can key.Throw = true
key_can key.Return = true
key_can key.Break = true
key_can key.Continue = true
key_can k = begins_expr (Some (kind.Keyword k))

abbrev pub can_stmt : Option Kind → Bool
can_stmt (Some (kind.Keyword k)) = key_can k
can_stmt k = begins_expr k

expr_can : (k : Option Kind) → begins_expr k ≡ true → can_stmt k ≡ true
expr_can None b = b
expr_can (Some kind.Word) b = b
expr_can (Some kind.Number) b = b
expr_can (Some kind.Text) b = b
expr_can (Some (kind.Mark m)) b = b
expr_can (Some (kind.Keyword key.If)) b = refl
expr_can (Some (kind.Keyword key.While)) b = refl
expr_can (Some (kind.Keyword key.For)) b = refl
expr_can (Some (kind.Keyword key.Try)) b = refl
expr_can (Some (kind.Keyword key.Throw)) b = refl
expr_can (Some (kind.Keyword key.Return)) b = refl
expr_can (Some (kind.Keyword key.Break)) b = refl
expr_can (Some (kind.Keyword key.Continue)) b = refl
expr_can (Some (kind.Keyword k)) b = b

pub stmt_first : {d : ℕ} {ts us : List Lexeme} {s : tree.Stmt} → IsStmt d ts us s → can_stmt (kind_first ts) ≡ true
stmt_first (g.block p b) = ap can_stmt (block_first b)
stmt_first (g.choose p t o e c s f) = ap can_stmt (takes_first t)
stmt_first (g.while p t o e c s) = ap can_stmt (takes_first t)
stmt_first (g.for p t o l n a e m f k i c s) = ap can_stmt (takes_first t)
stmt_first (g.for_of p t o b n w e c s) = ap can_stmt (takes_first t)
stmt_first (g.try p t b c n h) = ap can_stmt (takes_first t)
stmt_first (g.throw p t e m) = ap can_stmt (takes_first t)
stmt_first (g.return p t e m) = ap can_stmt (takes_first t)
stmt_first (g.break p t m) = ap can_stmt (takes_first t)
stmt_first (g.continue p t m) = ap can_stmt (takes_first t)
stmt_first {ts = ts} (g.simple h s m) = expr_can (kind_first ts) (simple_first s)
