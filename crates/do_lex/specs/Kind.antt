-- Keywords and marks, as they are written (this project's profile of ECMA-262, section 12).
use Rattle.std.specs.Prelude.{ℕ, Bool, is_some, List, [], ◌∷◌, Option, Some, None, nat_eq, codes}
use Rattle.std.specs.List.{find, starts_with}
use Rattle.std.specs.Str.{bytes_eq}
use Rattle.do_lex.specs.declared.kind.Kind.{Kind}
use Rattle.do_lex.specs.declared.kind.Kind.TheVariants as kinds
use Rattle.do_lex.specs.declared.kind.Keyword.{Keyword}
use Rattle.do_lex.specs.declared.kind.Keyword.TheVariants as keyword
use Rattle.do_lex.specs.declared.kind.Mark.{Mark}
use Rattle.do_lex.specs.declared.kind.Mark.TheVariants as mark

abbrev pub keyword_text : Keyword → List ℕ
keyword_text keyword.Import = codes "import"
keyword_text keyword.Export = codes "export"
keyword_text keyword.Class = codes "class"
keyword_text keyword.Extends = codes "extends"
keyword_text keyword.Constructor = codes "constructor"
keyword_text keyword.Super = codes "super"
keyword_text keyword.Async = codes "async"
keyword_text keyword.Await = codes "await"
keyword_text keyword.Let = codes "let"
keyword_text keyword.Const = codes "const"
keyword_text keyword.If = codes "if"
keyword_text keyword.Else = codes "else"
keyword_text keyword.While = codes "while"
keyword_text keyword.For = codes "for"
keyword_text keyword.Try = codes "try"
keyword_text keyword.Catch = codes "catch"
keyword_text keyword.Throw = codes "throw"
keyword_text keyword.Return = codes "return"
keyword_text keyword.Break = codes "break"
keyword_text keyword.Continue = codes "continue"
keyword_text keyword.True = codes "true"
keyword_text keyword.False = codes "false"
keyword_text keyword.Null = codes "null"
keyword_text keyword.Undefined = codes "undefined"
keyword_text keyword.This = codes "this"
keyword_text keyword.New = codes "new"

abbrev pub mark_text : Mark → List ℕ
mark_text mark.Same = codes "==="
mark_text mark.Differs = codes "!=="
mark_text mark.Arrow = codes "=>"
mark_text mark.LessEq = codes "<="
mark_text mark.GreaterEq = codes ">="
mark_text mark.And = codes "&&"
mark_text mark.Or = codes "||"
mark_text mark.Coalesce = codes "??"
mark_text mark.Increment = codes "++"
mark_text mark.Decrement = codes "--"
mark_text mark.AddAssign = codes "+="
mark_text mark.SubAssign = codes "-="
mark_text mark.OpenBrace = codes "{"
mark_text mark.CloseBrace = codes "}"
mark_text mark.OpenParen = codes "("
mark_text mark.CloseParen = codes ")"
mark_text mark.OpenBracket = codes "["
mark_text mark.CloseBracket = codes "]"
mark_text mark.Semicolon = codes ";"
mark_text mark.Comma = codes ","
mark_text mark.Dot = codes "."
mark_text mark.Colon = codes ":"
mark_text mark.Question = codes "?"
mark_text mark.Assign = codes "="
mark_text mark.Less = codes "<"
mark_text mark.Greater = codes ">"
mark_text mark.Plus = codes "+"
mark_text mark.Minus = codes "-"
mark_text mark.Star = codes "*"
mark_text mark.Slash = codes "/"
mark_text mark.Percent = codes "%"
mark_text mark.Not = codes "!"

-- Every keyword.
abbrev pub keywords : List Keyword
keywords = keyword.Import ∷ keyword.Export ∷ keyword.Class ∷ keyword.Extends ∷ keyword.Constructor ∷ keyword.Super ∷ keyword.Async ∷ keyword.Await
    ∷ keyword.Let ∷ keyword.Const ∷ keyword.If ∷ keyword.Else ∷ keyword.While ∷ keyword.For ∷ keyword.Try ∷ keyword.Catch ∷ keyword.Throw ∷ keyword.Return
    ∷ keyword.Break ∷ keyword.Continue ∷ keyword.True ∷ keyword.False ∷ keyword.Null ∷ keyword.Undefined ∷ keyword.This ∷ keyword.New ∷ []

-- Every mark, longest first.
abbrev pub marks : List Mark
marks = mark.Same ∷ mark.Differs ∷ mark.Arrow ∷ mark.LessEq ∷ mark.GreaterEq ∷ mark.And ∷ mark.Or ∷ mark.Coalesce ∷ mark.Increment ∷ mark.Decrement
    ∷ mark.AddAssign ∷ mark.SubAssign ∷ mark.OpenBrace ∷ mark.CloseBrace ∷ mark.OpenParen ∷ mark.CloseParen ∷ mark.OpenBracket ∷ mark.CloseBracket
    ∷ mark.Semicolon ∷ mark.Comma ∷ mark.Dot ∷ mark.Colon ∷ mark.Question ∷ mark.Assign ∷ mark.Less ∷ mark.Greater ∷ mark.Plus ∷ mark.Minus ∷ mark.Star
    ∷ mark.Slash ∷ mark.Percent ∷ mark.Not ∷ []

-- The keyword that is this word.
abbrev pub keyword_of : List ℕ → Option Keyword
keyword_of word = find (λ k. bytes_eq (keyword_text k) word) keywords

abbrev pub is_keyword : List ℕ → Bool
is_keyword word = is_some (keyword_of word)

-- A word that is one of the keywords is that keyword.
abbrev pub kind_of : Option Keyword → Kind
kind_of None = kinds.Word
kind_of (Some k) = kinds.Keyword k

abbrev pub word_kind : List ℕ → Kind
word_kind word = kind_of (keyword_of word)

-- The first of the marks, longest first, that begins the bytes.
abbrev pub mark_at : List ℕ → Option Mark
mark_at bytes = find (λ m. starts_with nat_eq bytes (mark_text m)) marks
