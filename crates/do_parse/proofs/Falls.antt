-- What was read is less than there was.
use Rattle.std.proofs.Common.{◌≡◌, ◌≢◌, ◌<◌, ◌≤◌, ◌+◌, ℕ, suc, List, [], ◌∷◌, ◌++◌, length, Result, Ok, Err, inr, refl, sym, ◌∙◌, ap, subst, arith, length-append}
use Rattle.do_lex.specs.declared.tokens.Token.{Token}
use Rattle.do_tree.specs.Lexeme.{Lexeme}
use Rattle.do_parse.specs.Parsed.{Phrase, Follow, AreLexemesOf, HasRead, Parses}

read_le : (old new : List Token) (us : List Lexeme) → HasRead old new us → length new ≤ length old
read_le old new us r = let e : length old ≡ length (r.front ++ new) = ap length r.split in omega (arith, e, length-append r.front new)

pub falls_or_same : {A : Type 0} {P : Phrase A} {E : Follow} {old new : List Token} {a : A} → Parses P E old new (Ok a) → length new ≤ length old
falls_or_same {A} {P} {E} {old} {new} {a} p = read_le old new p.so.used p.so.read

front_some : {A : Type 0} (P : Phrase A) (a : A) (old new : List Token) (front : List Token) (us : List Lexeme) → AreLexemesOf front us → old ≡ front ++ new → P (us ++ []) [] a → (P [] [] a → ⊥) → length new < length old
front_some P a old new [] [] are h p n = absurd (n p)
front_some P a old new [] (u ∷ us) are h p n = absurd are
front_some P a old new (t ∷ front) us are h p n = let e : length old ≡ length (t ∷ front ++ new) = ap length h in omega (arith, e, length-append front new)

pub falls : {A : Type 0} {P : Phrase A} {E : Follow} {old new : List Token} {a : A} → E [] → (P [] [] a → ⊥) → Parses P E old new (Ok a) → length new < length old
falls {A} {P} {E} {old} {new} {a} e n p = front_some P a old new p.so.read.front p.so.used p.so.read.are p.so.read.split (p.so.is [] e (inr tt)) n
