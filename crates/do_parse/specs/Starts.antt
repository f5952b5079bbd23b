-- What begins with the token that is next, told by its kind.
use Rattle.std.specs.Prelude.{ℕ, Bool, true, false, List, [], ◌∷◌, Option, Some, None}
use Rattle.do_lex.specs.declared.kind.Kind.{Kind}
use Rattle.do_lex.specs.declared.kind.Kind.TheVariants as kind
use Rattle.do_lex.specs.declared.kind.Keyword.{Keyword}
use Rattle.do_lex.specs.declared.kind.Keyword.TheVariants as key
use Rattle.do_lex.specs.declared.kind.Mark.{Mark}
use Rattle.do_lex.specs.declared.kind.Mark.TheVariants as mark
use Rattle.do_lex.specs.declared.tokens.Token.{Token}
use Rattle.do_tree.specs.declared.stmt.Binding.{Binding}
use Rattle.do_tree.specs.declared.stmt.Binding.TheVariants as bind
use Rattle.do_parse.specs.declared.starts.ExprStart.{ExprStart}
use Rattle.do_parse.specs.declared.starts.ExprStart.TheVariants as expr
use Rattle.do_parse.specs.declared.starts.StmtStart.{StmtStart}
use Rattle.do_parse.specs.declared.starts.StmtStart.TheVariants as stmt
use Rattle.do_parse.specs.declared.starts.WriteStart.{WriteStart}
use Rattle.do_parse.specs.declared.starts.WriteStart.TheVariants as write

-- The kind of the token that is next, and its place, 0 where none is left.
abbrev pub kind_next : List Token → Option Kind
kind_next [] = None
kind_next (t ∷ _) = Some t.kind

abbrev pub place_next : List Token → ℕ
place_next [] = 0
place_next (t ∷ _) = t.at

abbrev pub at_next : List Token → Option ℕ
at_next [] = None
at_next (t ∷ _) = Some t.at

-- What an expression that begins with this mark, keyword or kind is.
abbrev pub expr_mark : Mark → ExprStart
expr_mark mark.Minus = expr.Minus
expr_mark mark.Not = expr.Not
expr_mark mark.OpenParen = expr.Group
expr_mark mark.OpenBracket = expr.List
expr_mark mark.OpenBrace = expr.Record
expr_mark _ = expr.Nothing

abbrev pub expr_key : Keyword → ExprStart
expr_key key.Await = expr.Await
expr_key key.True = expr.True
expr_key key.False = expr.False
expr_key key.Null = expr.Null
expr_key key.Undefined = expr.Undefined
expr_key key.This = expr.This
expr_key key.New = expr.New
expr_key _ = expr.Nothing

abbrev pub expr_start : Option Kind → ExprStart
expr_start (Some kind.Word) = expr.Name
expr_start (Some kind.Number) = expr.Number
expr_start (Some kind.Text) = expr.Text
expr_start (Some (kind.Mark m)) = expr_mark m
expr_start (Some (kind.Keyword k)) = expr_key k
expr_start None = expr.Nothing

-- An expression begins so.
abbrev pub is_some_start : ExprStart → Bool
is_some_start expr.Nothing = false
is_some_start _ = true

abbrev pub begins_expr : Option Kind → Bool
begins_expr k = is_some_start (expr_start k)

-- What a statement is that begins with this keyword or kind.
abbrev pub stmt_key : Keyword → StmtStart
stmt_key key.If = stmt.If
stmt_key key.While = stmt.While
stmt_key key.For = stmt.For
stmt_key key.Try = stmt.Try
stmt_key key.Throw = stmt.Throw
stmt_key key.Return = stmt.Return
stmt_key key.Break = stmt.Break
stmt_key key.Continue = stmt.Continue
stmt_key _ = stmt.Simple

abbrev pub stmt_mark : Mark → StmtStart
stmt_mark mark.OpenBrace = stmt.Block
stmt_mark _ = stmt.Simple

abbrev pub stmt_start : Option Kind → StmtStart
stmt_start (Some (kind.Mark m)) = stmt_mark m
stmt_start (Some (kind.Keyword k)) = stmt_key k
stmt_start _ = stmt.Simple

-- The word of a declaration.
abbrev pub binding_of : Keyword → Option Binding
binding_of key.Let = Some bind.Let
binding_of key.Const = Some bind.Const
binding_of _ = None

abbrev pub binding_start : Option Kind → Option Binding
binding_start (Some (kind.Keyword k)) = binding_of k
binding_start _ = None

-- What is written behind a place.
abbrev pub write_mark : Mark → WriteStart
write_mark mark.Assign = write.Assign
write_mark mark.AddAssign = write.AddAssign
write_mark mark.SubAssign = write.SubAssign
write_mark mark.Increment = write.Increment
write_mark mark.Decrement = write.Decrement
write_mark _ = write.Nothing

abbrev pub write_start : Option Kind → WriteStart
write_start (Some (kind.Mark m)) = write_mark m
write_start _ = write.Nothing

-- A word, a keyword too.
abbrev pub is_word : Kind → Bool
is_word kind.Word = true
is_word (kind.Keyword k) = true
is_word _ = false

-- A step of a path begins so.
abbrev pub link_mark : Mark → Bool
link_mark mark.Dot = true
link_mark mark.OpenBracket = true
link_mark mark.OpenParen = true
link_mark _ = false

abbrev pub begins_link : Option Kind → Bool
begins_link (Some (kind.Mark m)) = link_mark m
begins_link _ = false
