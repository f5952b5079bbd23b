-- How many phrases hold the first token of a phrase, at least.
use Rattle.std.proofs.Common.{◌≡◌, ◌<◌, ◌≤◌, ℕ, suc, List, [], ◌∷◌, arith}
use Rattle.do_lex.specs.declared.kind.Kind.{Kind}
use Rattle.do_tree.specs.Accepts.{most_inside}
use Rattle.do_tree.specs.declared.expr.Chain.{Chain}
use Rattle.do_tree.specs.Grammar as g
use Rattle.do_tree.specs.Grammar.{Takes, Level, IsExpr, IsShort, IsOperandOf, IsStrict, IsTighter, IsUn, IsPost, IsPrim, IsBlock, IsStmt, IsSimple}
use Rattle.do_tree.specs.Lexeme.{Lexeme}
use Rattle.do_tree.specs.Tree as tree
use Rattle.do_parse.specs.Parsed.{IsDeepBehind}

-- The first token is held by d phrases or more.
pub record IsHeld (d : ℕ) (ts : List Lexeme) : Type 0 where
  pub first : Lexeme
  pub more : List Lexeme
  pub parts : ts ≡ first ∷ more
  pub enough : d ≤ first.inside

takes_held : {k : Kind} {d : ℕ} {ts us : List Lexeme} → Takes k d ts us → IsHeld d ts
takes_held {k} {d} {ts} {us} t = record { first = t.token; more = us; parts = t.first; enough = omega (arith, t.inside_is) }

held_less : {d : ℕ} {ts : List Lexeme} → IsHeld (suc d) ts → IsHeld d ts
held_less h = record { first = h.first; more = h.more; parts = h.parts; enough = omega (arith, h.enough) }

-- expressions
prim_held : {d : ℕ} {ts us : List Lexeme} {e : tree.Expr} → IsPrim d ts us e → IsHeld d ts
prim_held (g.number p t n) = takes_held t
prim_held (g.text t) = takes_held t.takes
prim_held (g.yes p t) = takes_held t
prim_held (g.no p t) = takes_held t
prim_held (g.null p t) = takes_held t
prim_held (g.undefined p t) = takes_held t
prim_held (g.this p t) = takes_held t
prim_held (g.variable t) = takes_held t.takes
prim_held (g.group p t e c) = takes_held t
prim_held (g.list p t e c) = takes_held t
prim_held (g.rec p t e c) = takes_held t
prim_held (g.new_error p t w o m c) = takes_held t

post_held : {d : ℕ} {ts us : List Lexeme} {e : tree.Expr} → IsPost d ts us e → IsHeld d ts
post_held (g.prim p) = prim_held p
post_held (g.path at some p l) = prim_held p

pub un_held : {d : ℕ} {ts us : List Lexeme} {e : tree.Expr} → IsUn d ts us e → IsHeld d ts
un_held (g.negative p t u) = takes_held t
un_held (g.opposite p t u) = takes_held t
un_held (g.await p t u) = takes_held t
un_held (g.post p) = post_held p

mutual
  strict_held : {l : Level} {d : ℕ} {ts us : List Lexeme} {e : tree.Expr} → IsStrict l d ts us e → IsHeld d ts
  strict_held (g.tighter t) = tighter_held t
  strict_held (g.strict p t os) = tighter_held t

  tighter_held : {l : Level} {d : ℕ} {ts us : List Lexeme} {e : tree.Expr} → IsTighter l d ts us e → IsHeld d ts
  tighter_held (g.of_eq s) = strict_held s
  tighter_held (g.of_rel s) = strict_held s
  tighter_held (g.of_add s) = strict_held s
  tighter_held (g.of_mul u) = held_less (un_held u)

operand_held : {c : Chain} {d : ℕ} {ts us : List Lexeme} {e : tree.Expr} → IsOperandOf c d ts us e → IsHeld d ts
operand_held (g.of_coalesce s) = strict_held s
operand_held (g.of_and s) = strict_held s
operand_held (g.of_or s) = strict_held s
operand_held (g.and p o r) = operand_held o

short_held : {d : ℕ} {ts us : List Lexeme} {e : tree.Expr} → IsShort d ts us e → IsHeld d ts
short_held (g.one o) = operand_held o
short_held (g.coalesce p o r) = operand_held o
short_held (g.or p o r) = operand_held o

pub expr_held : {d : ℕ} {ts us : List Lexeme} {e : tree.Expr} → IsExpr d ts us e → IsHeld d ts
expr_held (g.short s) = short_held s
expr_held (g.choice p s q e c f) = short_held s

-- statements
simple_held : {d : ℕ} {ts us : List Lexeme} {s : tree.Simple} → IsSimple d ts us s → IsHeld d ts
simple_held (g.simple_run p e) = held_less (expr_held e)
simple_held (g.simple_assign p e m f) = held_less (expr_held e)
simple_held (g.simple_add_assign p e m f) = held_less (expr_held e)
simple_held (g.simple_sub_assign p e m f) = held_less (expr_held e)
simple_held (g.simple_increment p e m) = held_less (expr_held e)
simple_held (g.simple_decrement p e m) = held_less (expr_held e)

block_held : {d : ℕ} {ts us : List Lexeme} {is : tree.Items} → IsBlock d ts us is → IsHeld d ts
block_held (g.in_block t i c) = takes_held t

pub stmt_held : {d : ℕ} {ts us : List Lexeme} {s : tree.Stmt} → IsStmt d ts us s → IsHeld d ts
stmt_held (g.block p b) = block_held b
stmt_held (g.choose p t o e c s f) = takes_held t
stmt_held (g.while p t o e c s) = takes_held t
stmt_held (g.for p t o l n a e m f k i c s) = takes_held t
stmt_held (g.for_of p t o b n w e c s) = takes_held t
stmt_held (g.try p t b c n h) = takes_held t
stmt_held (g.throw p t e m) = takes_held t
stmt_held (g.return p t e m) = takes_held t
stmt_held (g.break p t m) = takes_held t
stmt_held (g.continue p t m) = takes_held t
stmt_held (g.simple h s m) = simple_held s

-- Too many phrases hold the first token of what stands too deep.
pub deep_first : (d : ℕ) (ts : List Lexeme) → most_inside < d → IsHeld d ts → IsDeepBehind [] ts
deep_first d ts m h = record { next = h.first; more = h.more; parts = h.parts; too_deep = omega (arith, m, h.enough) }
