-- A reader of tokens, and what it gives.
use Rattle.std.specs.Prelude.{Option, Some, None, Result, Ok, Err}
use Rattle.do_lex.specs.Next.{Answer}
use Rattle.do_lex.specs.declared.pieces.Span.{Span}
use Rattle.do_lex.specs.declared.fault.LexFault.{LexFault}
use Rattle.do_lex.specs.declared.tokens.Token.{Token}

-- Where a token stands, without where its text lies in memory.
abbrev pub span_of : Token → Span
span_of t = record { kind = t.kind; at = t.at; end = t.end }

abbrev pub answer_of : Result (Option Token) LexFault → Answer
answer_of (Ok (Some t)) = Ok (Some (span_of t))
answer_of (Ok None) = Ok None
answer_of (Err e) = Err e

-- A fact of the token, where there is one.
abbrev pub IfToken : Result (Option Token) LexFault → (Token → Type 0) → Type 0
IfToken (Ok (Some t)) P = P t
IfToken (Ok None) P = Unit {0}
IfToken (Err e) P = Unit {0}

-- A fact for where there is none.
abbrev pub IfNoToken : Result (Option Token) LexFault → Type 0 → Type 0
IfNoToken (Ok (Some t)) P = Unit {0}
IfNoToken (Ok None) P = P
IfNoToken (Err e) P = P
