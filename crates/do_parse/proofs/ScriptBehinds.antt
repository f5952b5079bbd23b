-- What stands behind the parts of methods, classes and scripts.
use Rattle.std.proofs.Common.{◌≡◌, ◌≢◌, ℕ, zero, suc, ◌+◌, Bool, true, false, List, [], ◌∷◌, ◌++◌, ◌⊎◌, inl, inr, Option, Some, None, Result, Ok, Err, refl, sym, ◌∙◌, ap, subst, codes}
use Rattle.std.proofs.lemmas.Bool.{false≢true}
use Rattle.std.proofs.lemmas.Option.{none-some}
use Rattle.std.specs.Option.{is_some}
use Rattle.do_lex.specs.declared.kind.Kind.{Kind}
use Rattle.do_lex.specs.declared.kind.Kind.TheVariants as kind
use Rattle.do_lex.specs.declared.kind.Keyword.{Keyword}
use Rattle.do_lex.specs.declared.kind.Keyword.TheVariants as key
use Rattle.do_lex.specs.declared.kind.Mark.{Mark}
use Rattle.do_lex.specs.declared.kind.Mark.TheVariants as mark
use Rattle.do_lex.specs.declared.tokens.Token.{Token}
use Rattle.do_lex.specs.Lexemes.{text_value}
use Rattle.do_tree.specs.Grammar as g
use Rattle.do_tree.specs.Grammar.{TakesMark, TakesKey, TakesWord, TakesText, TakesCtxEnv, AreNames, IsMember, IsClass, AreClasses, IsImport, BeginsWithNo}
use Rattle.do_tree.specs.Lexeme.{Lexeme, place, text_of}
use Rattle.do_tree.specs.Tree as tree
use Rattle.do_tree.specs.declared.script.MethodKind.{MethodKind}
use Rattle.do_tree.specs.declared.script.MethodKind.TheVariants as method
use Rattle.do_parse.specs.Lists.{BeginsWith, Starting, Repeat, IsItem, Item}
use Rattle.do_parse.specs.Lists.Repeat.{stop as rep_stop}
use Rattle.do_parse.specs.Parsed.{BeginAlike, Phrase, Follow, Anything, ends_by, CanBegin, Parses}
use Rattle.do_parse.specs.Pieces.{IsBlockAt, IsSignature, IsMethodRest, IsSuperCall, IsNextName, IsClassHead, IsImportEnd, NothingLeft, ctx_env_at}
use Rattle.do_parse.specs.Starts.{kind_next}
use Rattle.do_parse.specs.Taken.{IsName, IsGivenText}
use Rattle.do_parse.specs.Then.{Then, At}
use Rattle.do_parse.proofs.Behinds.{mark_last, mark_closes, items_behind}
use Rattle.do_parse.proofs.Deep.{mark_token, mark_takes, lexeme, lexeme_takes, word_takes, block_is}
use Rattle.do_parse.proofs.Facts.{BeginsBy, anything_begins, mark_begins, mark_stands, key_stands, last, before, stands_then, takes_begins}
use Rattle.do_parse.proofs.First.{takes_with, takes_first, with_first, kind_first, first_is_next}
use Rattle.do_parse.proofs.Lists.{behind_repeat, NotBehind, NoneBegins, Grows, grows_by, grows_first, with_two}
use Rattle.do_parse.proofs.MemberRules.{CtxEnv, ctx_env_tree, ctx_env_same, Constructor, super_same, signature_same, rest_same, rest_can, member_first}
use Rattle.do_parse.proofs.ScriptRules.{class_head_same, class_same, classes_same, classes_first, ClassBody, ClassHead, import_end_same, names_same, no_class, tokens_left}
use Rattle.do_parse.proofs.Sequence.{Same, Stands, Behind, seq, read_as}
use Rattle.do_parse.proofs.Standing.{stands_as, mark_no_else, list_stands, block_at_stands, name_stands, word_stands}
use Rattle.do_parse.proofs.Tokens.{is_else}

-- ( ctx , env )
pub env_close : Behind Anything (At (TakesMark mark.CloseParen 0)) Anything
env_close = mark_last mark.CloseParen 0

pub env_behind : Behind Anything (Then (At (TakesWord (codes "env") 0)) (At (TakesMark mark.CloseParen 0))) Anything
env_behind = before anything_begins (word_stands (codes "env") 0 {Ends = Anything}) env_close

pub comma_behind : Behind Anything (Then (At (TakesMark mark.Comma 0)) (Then (At (TakesWord (codes "env") 0)) (At (TakesMark mark.CloseParen 0)))) Anything
comma_behind = before anything_begins (mark_stands mark.Comma 0 {Ends = Anything}) env_behind

pub ctx_behind : Behind Anything (Then (At (TakesWord (codes "ctx") 0)) (Then (At (TakesMark mark.Comma 0)) (Then (At (TakesWord (codes "env") 0)) (At (TakesMark mark.CloseParen 0))))) Anything
ctx_behind = before anything_begins (word_stands (codes "ctx") 0 {Ends = Anything}) comma_behind

pub ctx_env_stands : {Ends : Follow} → Stands TakesCtxEnv Ends
ctx_env_stands {Ends} = stands_as ctx_env_tree (λ ts us b t. (ctx_env_same []).to ts us b t)
    (stands_then (mark_stands mark.OpenParen 0 {Ends = Anything}) (before anything_begins (word_stands (codes "ctx") 0 {Ends = Anything})
    (before anything_begins (mark_stands mark.Comma 0 {Ends = Anything}) (before anything_begins (word_stands (codes "env") 0 {Ends = Anything}) (last anything_begins (mark_stands mark.CloseParen 0))))))

-- super ( ctx , env ) ;
pub super_close : Behind Anything (At (TakesMark mark.Semicolon 0)) Anything
super_close = mark_last mark.Semicolon 0

pub super_behind : Behind Anything (Then TakesCtxEnv (At (TakesMark mark.Semicolon 0))) Anything
super_behind = before anything_begins (ctx_env_stands {Ends = Anything}) super_close

super_stands : {Ends : Follow} → Stands IsSuperCall Ends
super_stands {Ends} = stands_as (λ (b : ℕ × (List tree.Named × ℕ)). b.1.0) (λ ts us b t. (super_same []).to ts us b t)
    (stands_then (key_stands key.Super 0 {Ends = Anything} refl) (before anything_begins (ctx_env_stands {Ends = Anything}) (last anything_begins (mark_stands mark.Semicolon 0))))

-- a constructor
pub super_items : Behind Anything (Then IsSuperCall (Then (Repeat (IsItem 0)) (At (TakesMark mark.CloseBrace 0)))) Anything
super_items = before anything_begins (super_stands {Ends = Anything}) (items_behind 0)

pub brace_behind : Behind Anything (Then (At (TakesMark mark.OpenBrace 0)) (Then IsSuperCall (Then (Repeat (IsItem 0)) (At (TakesMark mark.CloseBrace 0))))) Anything
brace_behind = before anything_begins (mark_stands mark.OpenBrace 0 {Ends = Anything}) super_items

pub parameters_behind : Behind Anything (Then TakesCtxEnv (Then (At (TakesMark mark.OpenBrace 0)) (Then IsSuperCall (Then (Repeat (IsItem 0)) (At (TakesMark mark.CloseBrace 0)))))) Anything
parameters_behind = before anything_begins (ctx_env_stands {Ends = Anything}) brace_behind

-- a method
names_stands : Stands AreNames (BeginsWith (kind.Mark mark.CloseParen))
names_stands = record { begun = record { rest = []; tree = []; is = λ us e. g.AreNames.none }; no_else = mark_no_else mark.CloseParen }

pub names_close : Behind (BeginsWith (kind.Mark mark.CloseParen)) (At (TakesMark mark.CloseParen 0)) Anything
names_close = mark_closes mark.CloseParen 0

pub names_behind : Behind Anything (Then AreNames (At (TakesMark mark.CloseParen 0))) Anything
names_behind = before anything_begins names_stands names_close

pub open_behind : Behind Anything (Then (At (TakesMark mark.OpenParen 0)) (Then AreNames (At (TakesMark mark.CloseParen 0)))) Anything
open_behind = before anything_begins (mark_stands mark.OpenParen 0 {Ends = Anything}) names_behind

pub more_names_behind : Behind Anything (Repeat IsNextName) (BeginsWith (kind.Mark mark.CloseParen))
more_names_behind = behind_repeat anything_begins (λ us e. tt) (mark_no_else mark.CloseParen)

pub next_name_behind : Behind Anything (IsName 0) Anything
next_name_behind = last anything_begins (name_stands 0)

pub method_body_behind : Behind Anything (IsBlockAt 0) Anything
method_body_behind = last anything_begins (block_at_stands 0)

pub async_behind : (at : ℕ) → Behind Anything (IsMethodRest at method.Async) Anything
async_behind at = last anything_begins (record {
  begun = record {
    rest = lexeme kind.Word [] 0 0 ∷ mark_token mark.OpenParen 0 ∷ mark_token mark.CloseParen 0 ∷ mark_token mark.OpenBrace 0 ∷ mark_token mark.CloseBrace 0 ∷ [];
    tree = record { at = at; kind = method.Async; name = record { at = 0; text = [] }; parameters = []; body = tree.no_items };
    is = λ us e. let r = rest_can at us in record { vs = r.vs; at_is = refl; kind_is = refl; signature = r.signature; body_is = r.body_is };
  };
  no_else = λ us e h. false≢true (ap is_else h);
})

-- members and a class
pub member_behind : Behind Anything (Repeat IsMember) (BeginsWith (kind.Mark mark.CloseBrace))
member_behind = behind_repeat anything_begins (λ us e. tt) (mark_no_else mark.CloseBrace)

pub members_close : Behind (BeginsWith (kind.Mark mark.CloseBrace)) (At (TakesMark mark.CloseBrace 0)) Anything
members_close = mark_closes mark.CloseBrace 0

pub members_behind : Behind Anything (Then (Repeat IsMember) (At (TakesMark mark.CloseBrace 0))) Anything
members_behind = before anything_begins (list_stands IsMember mark.CloseBrace) members_close

pub head_open : Behind Anything (At (TakesMark mark.OpenBrace 0)) Anything
head_open = mark_last mark.OpenBrace 0

pub head_base : Behind Anything (Then (At (TakesWord (codes "DurableObject") 0)) (At (TakesMark mark.OpenBrace 0))) Anything
head_base = before anything_begins (word_stands (codes "DurableObject") 0 {Ends = Anything}) head_open

pub head_extends : Behind Anything (Then (At (TakesKey key.Extends 0)) (Then (At (TakesWord (codes "DurableObject") 0)) (At (TakesMark mark.OpenBrace 0)))) Anything
head_extends = before anything_begins (key_stands key.Extends 0 {Ends = Anything} refl) head_base

pub head_name : Behind Anything (Then (IsName 0) (Then (At (TakesKey key.Extends 0)) (Then (At (TakesWord (codes "DurableObject") 0)) (At (TakesMark mark.OpenBrace 0))))) Anything
head_name = before anything_begins (name_stands 0 {Ends = Anything}) head_extends

pub head_class : Behind Anything (Then (At (TakesKey key.Class 0)) (Then (IsName 0) (Then (At (TakesKey key.Extends 0)) (Then (At (TakesWord (codes "DurableObject") 0)) (At (TakesMark mark.OpenBrace 0)))))) Anything
head_class = before anything_begins (key_stands key.Class 0 {Ends = Anything} refl) head_name

head_stands : {Ends : Follow} → Stands IsClassHead Ends
head_stands {Ends} = stands_as (λ (b : ℕ × (ℕ × (tree.Named × (ℕ × (ℕ × ℕ))))). record { at = b.0; name = b.1.1.0 }) (λ ts us b t. (class_head_same []).to ts us b t)
    (stands_then (key_stands key.Export 0 {Ends = Anything} refl) (before anything_begins (key_stands key.Class 0 {Ends = Anything} refl) (before anything_begins (name_stands 0 {Ends = Anything})
    (before anything_begins (key_stands key.Extends 0 {Ends = Anything} refl) (before anything_begins (word_stands (codes "DurableObject") 0 {Ends = Anything}) (last anything_begins (mark_stands mark.OpenBrace 0)))))))

class_stands : {Ends : Follow} → Stands IsClass Ends
class_stands {Ends} = stands_as (λ b. record { at = b.0.at; name = b.0.name; methods = b.1.0 }) (λ ts us b t. (class_same []).to ts us b t)
    (stands_then (head_stands {Ends = Anything}) (before anything_begins (list_stands IsMember mark.CloseBrace) (last {Ends' = Ends} mark_closing (mark_stands mark.CloseBrace 0))))
  where
    mark_closing : BeginsBy (At (TakesMark mark.CloseBrace 0)) (BeginsWith (kind.Mark mark.CloseBrace))
    mark_closing = record { may = λ ts us at t. takes_with t.takes }

-- classes
nothing_no_else : (us : List Lexeme) → NothingLeft us → BeginsWithNo (kind.Keyword key.Else) us
nothing_no_else us h = subst (λ xs. BeginsWithNo (kind.Keyword key.Else) xs) (sym h) tt

pub more_classes_behind : Behind Anything (Repeat IsClass) NothingLeft
more_classes_behind = behind_repeat anything_begins (λ us e. tt) nothing_no_else

classes_stands : Stands AreClasses NothingLeft
classes_stands = stands_as (λ b. b.0 ∷ b.1) (λ ts us b t. (classes_same NothingLeft []).to ts us b t) (stands_then (class_stands {Ends = Anything}) more_classes_behind)

pub classes_behind : Behind (BeginsWith (kind.Keyword key.Export)) AreClasses NothingLeft
classes_behind = record { may = λ ts us cs t e. classes_first ts us cs t; stands = classes_stands }

-- the import. Its text is its own value between two quotes
text_token : Lexeme
text_token = lexeme kind.Text (codes "\"cloudflare:workers\"") 0 0

text_takes : (us : List Lexeme) → TakesText 0 (codes "cloudflare:workers") 0 (text_token ∷ us) us
unfolding text_token
text_takes us = record { takes = lexeme_takes kind.Text (codes "\"cloudflare:workers\"") 0 0 us; at_is = refl; bytes_is = refl }

text_no_else : (us : List Lexeme) → BeginsWithNo (kind.Keyword key.Else) (text_token ∷ us)
unfolding text_token
text_no_else us h = false≢true (ap is_else h)

text_stands : Stands (IsGivenText (codes "cloudflare:workers") 0) Anything
text_stands = record { begun = record { rest = text_token ∷ []; tree = 0; is = λ us e. text_takes us }; no_else = λ us e. text_no_else us }

pub import_close : Behind Anything (At (TakesMark mark.Semicolon 0)) Anything
import_close = mark_last mark.Semicolon 0

pub import_text : Behind Anything (Then (IsGivenText (codes "cloudflare:workers") 0) (At (TakesMark mark.Semicolon 0))) Anything
import_text = before anything_begins text_stands import_close

import_end_stands : {Ends : Follow} → Stands IsImportEnd Ends
import_end_stands {Ends} = stands_as (λ (b : ℕ × (ℕ × ℕ)). b.1.0) (λ ts us b t. (import_end_same []).to ts us b t)
    (stands_then (word_stands (codes "from") 0 {Ends = Anything}) (before anything_begins text_stands (last anything_begins (mark_stands mark.Semicolon 0))))

pub import_end_behind : Behind Anything IsImportEnd (BeginsWith (kind.Keyword key.Export))
import_end_behind = last anything_begins import_end_stands

pub import_brace : Behind Anything (Then (At (TakesMark mark.CloseBrace 0)) IsImportEnd) (BeginsWith (kind.Keyword key.Export))
import_brace = before anything_begins (mark_stands mark.CloseBrace 0 {Ends = Anything}) import_end_behind

pub import_base : Behind Anything (Then (At (TakesWord (codes "DurableObject") 0)) (Then (At (TakesMark mark.CloseBrace 0)) IsImportEnd)) (BeginsWith (kind.Keyword key.Export))
import_base = before anything_begins (word_stands (codes "DurableObject") 0 {Ends = Anything}) import_brace

pub import_open : Behind Anything (Then (At (TakesMark mark.OpenBrace 0)) (Then (At (TakesWord (codes "DurableObject") 0)) (Then (At (TakesMark mark.CloseBrace 0)) IsImportEnd))) (BeginsWith (kind.Keyword key.Export))
import_open = before anything_begins (mark_stands mark.OpenBrace 0 {Ends = Anything}) import_base

-- the first name of some, the first class of some
pub first_name : {start mid : List Token} {n : tree.Named} → ¬ (kind_next start ≡ Some (kind.Mark mark.CloseParen)) → Parses (IsName 0) Anything start mid (Ok n) → Grows AreNames (Repeat IsNextName) (BeginsWith (kind.Mark mark.CloseParen)) start mid (n ∷ [])
first_name {start} {mid} {n} h p = grows_by n (grows_first start) (λ new r q.
    subst (λ y. Parses AreNames (BeginsWith (kind.Mark mark.CloseParen)) start new y) (with_two (λ (b : tree.Named × List tree.Named). b.0 ∷ b.1) (λ xs. (n, xs)) (λ xs. n ∷ xs) (λ xs. refl) r)
    (read_as (names_same start h) (seq more_names_behind p q)))

pub first_class : {start mid : List Token} {x : tree.Class} → Parses IsClass Anything start mid (Ok x) → Grows AreClasses (Repeat IsClass) NothingLeft start mid (x ∷ [])
first_class {start} {mid} {x} p = grows_by x (grows_first start) (λ new r q.
    subst (λ y. Parses AreClasses NothingLeft start new y) (with_two (λ (b : tree.Class × List tree.Class). b.0 ∷ b.1) (λ xs. (x, xs)) (λ xs. x ∷ xs) (λ xs. refl) r)
    (read_as (classes_same NothingLeft start) (seq more_classes_behind p q)))

-- each of them has a token
pub next_name_some : (n : tree.Named) → IsNextName [] [] n → ⊥
next_name_some n t = none-some (kind.Mark mark.Comma) (takes_first t.comma)

pub member_some : (m : tree.Method) → IsMember [] [] m → ⊥
member_some m t = elim (member_first [] [] m t) [ inl h ↦ none-some _ h | inr (inl h) ↦ none-some _ h | inr (inr h) ↦ none-some _ h ]

pub class_some : (x : tree.Class) → IsClass [] [] x → ⊥
class_some x t = classes_first [] [] (x ∷ []) (g.AreClasses.last t)

-- a member begins with a name where neither of the keywords is next
pub word_member : (now : List Token) → ¬ (kind_next now ≡ Some (kind.Keyword key.Constructor)) → ¬ (kind_next now ≡ Some (kind.Keyword key.Async)) → Same IsMember (Starting kind.Word IsMember) (λ m. m) Anything now
word_member now h k = record { to = λ ts us m t. t.1; from = from }
  where
    from : (ts us : List Lexeme) (m : tree.Method) → BeginAlike now ts → IsMember ts us m → Anything us → (x : tree.Method) × (m ≡ x) × Starting kind.Word IsMember ts us x
    from ts us m b t e =
        let next = sym (first_is_next now ts b) in
        elim (member_first ts us m t) [ inl x ↦ absurd (h (next ∙ x)) | inr (inl x) ↦ absurd (k (next ∙ x)) | inr (inr x) ↦ (m, refl, (with_first kind.Word ts x, t)) ]

-- the same, by the test of a loop
pub left_some : (now : List Token) → true ≡ is_some (kind_next now) → NotBehind NothingLeft now
left_some [] h = absurd (false≢true (sym h))
left_some (t ∷ now) h = tokens_left t now

pub end_class : (now : List Token) → false ≡ is_some (kind_next now) → NoneBegins IsClass now
end_class [] h = no_class
end_class (t ∷ now) h = absurd (false≢true h)
