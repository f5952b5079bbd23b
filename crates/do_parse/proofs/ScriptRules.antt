-- The rules of parameters, classes, the import and whole scripts.
use Rattle.std.proofs.Common.{◌≡◌, ◌≢◌, ℕ, zero, suc, ◌+◌, Bool, true, false, List, [], ◌∷◌, ◌++◌, ◌⊎◌, inl, inr, Option, Some, None, Result, Ok, Err, refl, sym, ◌∙◌, ap, subst, codes}
use Rattle.std.proofs.lemmas.Bool.{false≢true}
use Rattle.std.proofs.lemmas.Option.{none-some}
use Rattle.do_lex.specs.declared.kind.Kind.{Kind}
use Rattle.do_lex.specs.declared.kind.Kind.TheVariants as kind
use Rattle.do_lex.specs.declared.kind.Keyword.{Keyword}
use Rattle.do_lex.specs.declared.kind.Keyword.TheVariants as key
use Rattle.do_lex.specs.declared.kind.Mark.{Mark}
use Rattle.do_lex.specs.declared.kind.Mark.TheVariants as mark
use Rattle.do_lex.specs.declared.tokens.Token.{Token}
use Rattle.do_tree.specs.Grammar as g
use Rattle.do_tree.specs.Grammar.{Takes, TakesMark, TakesKey, TakesName, TakesWord, TakesText, AreNames, IsMember, AreMembers, IsClass, AreClasses, IsImport, IsScript, BeginsWithNo}
use Rattle.do_tree.specs.Lexeme.{Lexeme, place}
use Rattle.do_tree.specs.Tree as tree
use Rattle.do_parse.specs.Lists.{BeginsWith, Starting, Repeat}
use Rattle.do_parse.specs.Lists.Repeat.{stop as rep_stop, again}
use Rattle.do_parse.specs.Parsed.{BeginAlike, Phrase, Follow, Anything, ends_by, CanBegin, Parses}
use Rattle.do_parse.specs.Pieces.{IsNextName, ClassNamed, IsClassHead, IsImportEnd, IsWhole, NothingLeft}
use Rattle.do_parse.specs.Starts.{kind_next, place_next}
use Rattle.do_parse.specs.Taken.{IsName, IsGivenText}
use Rattle.do_parse.specs.Then.{Then, At, with_tree}
use Rattle.do_parse.proofs.Deep.{lexeme, lexeme_takes, mark_token, mark_takes}
use Rattle.do_parse.proofs.Facts.{BeginsBy, anything_begins, mark_stands, key_stands, last, before, stands_then}
use Rattle.do_parse.proofs.First.{kind_first, first_is_next, place_is_next, first_with, takes_with, takes_first}
use Rattle.do_parse.proofs.ForRules.{one_kind}
use Rattle.do_parse.proofs.Lists.{not_behind, begins_with, nothing_there, NoneBegins, NotBehind}
use Rattle.do_parse.proofs.MemberRules.{member_first}
use Rattle.do_parse.proofs.Sequence.{Same, SameHere, Stands, Behind}
use Rattle.do_parse.proofs.Statements.{at_is}
use Rattle.do_parse.proofs.Tokens.{cons_some}

-- , NAME
pub next_name_same : (now : List Token) → Same IsNextName (Then (At (TakesMark mark.Comma 0)) (IsName 0)) (λ b. b.1) Anything now
next_name_same now = record {
  to = λ ts us b t. record { vs = t.between; comma = t.first.takes; name = t.second };
  from = λ ts us n b t e. ((place ts, n), refl, record { between = t.vs; first = at_is refl t.comma; second = t.name });
}

-- names are one and more, each behind a comma, where no closing parenthesis is next
more_names : (ts ms us : List Lexeme) (n : tree.Named) (ns : List tree.Named) → TakesName n 0 ts ms → Repeat IsNextName ms us ns → AreNames ts us (n ∷ ns)
more_names ts ms us n [] t rep_stop = g.AreNames.last t
more_names ts ms us n (m ∷ ns) t (again {us = vs} x r) = g.AreNames.more t x.comma (more_names x.vs vs us m ns x.name r)

rest_names : (ts us : List Lexeme) (n : tree.Named) (ns : List tree.Named) → AreNames ts us (n ∷ ns) → Then (IsName 0) (Repeat IsNextName) ts us (n, ns)
rest_names ts us n [] (g.AreNames.last t) = record { between = us; first = t; second = rep_stop }
rest_names ts us n (m ∷ ns) (g.AreNames.more {us = vs} {vs = ws} t c r) =
    let x = rest_names ws us m ns r in
    record { between = vs; first = t; second = again (record { vs = ws; comma = c; name = x.first }) x.second }

names_from : (ts us : List Lexeme) (ns : List tree.Named) → (BeginsWith (kind.Mark mark.CloseParen) ts → ⊥) → AreNames ts us ns → BeginsWith (kind.Mark mark.CloseParen) us → (b : tree.Named × List tree.Named) × (ns ≡ b.0 ∷ b.1) × Then (IsName 0) (Repeat IsNextName) ts us b
names_from ts us [] h g.AreNames.none e = absurd (h e)
names_from ts us (n ∷ ns) h t e = ((n, ns), refl, rest_names ts us n ns t)

pub names_same : (now : List Token) → ¬ (kind_next now ≡ Some (kind.Mark mark.CloseParen)) → Same AreNames (Then (IsName 0) (Repeat IsNextName)) (λ b. b.0 ∷ b.1) (BeginsWith (kind.Mark mark.CloseParen)) now
names_same now h = record {
  to = λ ts us b t. more_names ts t.between us b.0 b.1 t.first t.second;
  from = λ ts us ns b t e. names_from ts us ns ((not_behind now (kind.Mark mark.CloseParen) h).refuses ts b) t e;
}

abbrev is_word_kind : Kind → Bool
is_word_kind kind.Word = true
is_word_kind _ = false

no_names_from : (ts us : List Lexeme) (ns : List tree.Named) → BeginsWith (kind.Mark mark.CloseParen) ts → AreNames ts us ns → (ts ≡ us) × (ns ≡ [])
no_names_from ts us [] b g.AreNames.none = (refl, refl)
no_names_from ts us (n ∷ ns) b t = absurd (false≢true (ap is_word_kind (one_kind (kind.Mark mark.CloseParen) kind.Word ts b (takes_with (rest_names ts us n ns t).first.takes))))

pub no_names : (now : List Token) → kind_next now ≡ Some (kind.Mark mark.CloseParen) → Parses AreNames (BeginsWith (kind.Mark mark.CloseParen)) now now (Ok [])
no_names now h = nothing_there [] (λ us e l. g.AreNames.none) (λ ts us ns b t e. no_names_from ts us ns (begins_with now (kind.Mark mark.CloseParen) ts h b) t)

-- where no comma is next, no further name is
pub no_next_name : (now : List Token) → ¬ (kind_next now ≡ Some (kind.Mark mark.Comma)) → NoneBegins IsNextName now
no_next_name now h = record { refuses = λ ts us n b t. (not_behind now (kind.Mark mark.Comma) h).refuses ts b (takes_with t.comma) }

-- where a comma is next, no closing parenthesis is
abbrev is_comma_kind : Kind → Bool
is_comma_kind (kind.Mark mark.Comma) = true
is_comma_kind _ = false

pub comma_no_end : (now : List Token) → kind_next now ≡ Some (kind.Mark mark.Comma) → NotBehind (BeginsWith (kind.Mark mark.CloseParen)) now
comma_no_end now h = record { refuses = λ ts b e. false≢true (ap is_comma_kind (one_kind (kind.Mark mark.CloseParen) (kind.Mark mark.Comma) ts e (begins_with now (kind.Mark mark.Comma) ts h b))) }

-- members are a repetition
pub members_of_list : (ts us : List Lexeme) (ms : List tree.Method) → Repeat IsMember ts us ms → AreMembers ts us ms
members_of_list ts us [] rep_stop = g.AreMembers.none
members_of_list ts us (m ∷ ms) (again {us = vs} p r) = g.AreMembers.more p (members_of_list vs us ms r)

pub list_of_members : (ts us : List Lexeme) (ms : List tree.Method) → AreMembers ts us ms → Repeat IsMember ts us ms
list_of_members ts us [] g.AreMembers.none = rep_stop
list_of_members ts us (m ∷ ms) (g.AreMembers.more {us = vs} p r) = again p (list_of_members vs us ms r)

abbrev can_member : Option Kind → Bool
can_member (Some kind.Word) = true
can_member (Some (kind.Keyword key.Constructor)) = true
can_member (Some (kind.Keyword key.Async)) = true
can_member _ = false

pub no_member : (now : List Token) → kind_next now ≡ Some (kind.Mark mark.CloseBrace) → NoneBegins IsMember now
no_member now h = record { refuses = refuses }
  where
    refuses : (ts us : List Lexeme) (m : tree.Method) → BeginAlike now ts → IsMember ts us m → ⊥
    refuses ts us m b t =
        let k : can_member (kind_first ts) ≡ false = ap can_member (first_is_next now ts b ∙ h) in
        elim (member_first ts us m t) [ inl x ↦ false≢true (sym k ∙ ap can_member x) | inr (inl x) ↦ false≢true (sym k ∙ ap can_member x) | inr (inr x) ↦ false≢true (sym k ∙ ap can_member x) ]

-- export class NAME extends DurableObject {
abbrev pub ClassHead : Phrase (ℕ × (ℕ × (tree.Named × (ℕ × (ℕ × ℕ)))))
ClassHead = Then (At (TakesKey key.Export 0)) (Then (At (TakesKey key.Class 0)) (Then (IsName 0) (Then (At (TakesKey key.Extends 0)) (Then (At (TakesWord (codes "DurableObject") 0)) (At (TakesMark mark.OpenBrace 0))))))

abbrev pub class_head_tree : (ℕ × (ℕ × (tree.Named × (ℕ × (ℕ × ℕ))))) → ClassNamed
class_head_tree b = record { at = b.0; name = b.1.1.0 }

pub class_head_same : (now : List Token) → Same IsClassHead ClassHead class_head_tree Anything now
class_head_same now = record {
  to = λ ts us b t. record {
    vs = t.between;
    ws = t.second.between;
    xs = t.second.second.between;
    ys = t.second.second.second.between;
    zs = t.second.second.second.second.between;
    at_is = t.first.at_is;
    export_is = t.first.takes;
    class_is = t.second.first.takes;
    name_is = t.second.second.first;
    extends_is = t.second.second.second.first.takes;
    base_is = t.second.second.second.second.first.takes;
    open_brace = t.second.second.second.second.second.takes;
  };
  from = λ ts us c b t e. (
    (c.at, (place t.vs, (c.name, (place t.xs, (place t.ys, place t.zs))))),
    refl,
    record {
      between = t.vs;
      first = at_is t.at_is t.export_is;
      second = record {
        between = t.ws;
        first = at_is refl t.class_is;
        second = record {
          between = t.xs;
          first = t.name_is;
          second = record {
            between = t.ys;
            first = at_is refl t.extends_is;
            second = record { between = t.zs; first = at_is refl t.base_is; second = at_is refl t.open_brace };
          };
        };
      };
    },
  );
}

-- a class
abbrev pub ClassBody : Phrase (ClassNamed × (List tree.Method × ℕ))
ClassBody = Then IsClassHead (Then (Repeat IsMember) (At (TakesMark mark.CloseBrace 0)))

abbrev pub class_tree : (ClassNamed × (List tree.Method × ℕ)) → tree.Class
class_tree b = record { at = b.0.at; name = b.0.name; methods = b.1.0 }

class_from : (ts us : List Lexeme) (c : tree.Class) → IsClass ts us c → (b : ClassNamed × (List tree.Method × ℕ)) × (c ≡ class_tree b) × ClassBody ts us b
class_from ts us c (g.class {zs = zs'} ha t k n x w o rest ms m) = (
  (record { at = c.at; name = c.name }, (c.methods, place rest)),
  refl,
  record {
    between = zs';
    first = record { vs = _; ws = _; xs = _; ys = _; zs = _; at_is = ha; export_is = t; class_is = k; name_is = n; extends_is = x; base_is = w; open_brace = o };
    second = record { between = rest; first = list_of_members zs' rest c.methods ms; second = at_is refl m };
  },
)

pub class_same : (now : List Token) → Same IsClass ClassBody class_tree Anything now
class_same now = record {
  to = λ ts us b t.
      g.class t.first.at_is t.first.export_is t.first.class_is t.first.name_is t.first.extends_is t.first.base_is t.first.open_brace t.second.between
      (members_of_list t.between t.second.between b.1.0 t.second.first) t.second.second.takes;
  from = λ ts us c b t e. class_from ts us c t;
}

class_first : (ts us : List Lexeme) (c : tree.Class) → IsClass ts us c → BeginsWith (kind.Keyword key.Export) ts
class_first ts us c (g.class ha t k n x w o rest ms m) = takes_with t

-- classes are one and more
more_classes : (ts ms us : List Lexeme) (c : tree.Class) (cs : List tree.Class) → IsClass ts ms c → Repeat IsClass ms us cs → AreClasses ts us (c ∷ cs)
more_classes ts ms us c [] t rep_stop = g.AreClasses.last t
more_classes ts ms us c (d ∷ cs) t (again {us = vs} x r) = g.AreClasses.more t (more_classes ms vs us d cs x r)

rest_classes : (ts us : List Lexeme) (c : tree.Class) (cs : List tree.Class) → AreClasses ts us (c ∷ cs) → Then IsClass (Repeat IsClass) ts us (c, cs)
rest_classes ts us c [] (g.AreClasses.last t) = record { between = us; first = t; second = rep_stop }
rest_classes ts us c (d ∷ cs) (g.AreClasses.more {us = vs} t r) =
    let x = rest_classes vs us d cs r in
    record { between = vs; first = t; second = again x.first x.second }

classes_from : (ts us : List Lexeme) (cs : List tree.Class) → AreClasses ts us cs → (b : tree.Class × List tree.Class) × (cs ≡ b.0 ∷ b.1) × Then IsClass (Repeat IsClass) ts us b
classes_from ts us [] t = elim t [ ]
classes_from ts us (c ∷ cs) t = ((c, cs), refl, rest_classes ts us c cs t)

pub classes_same : (E : Follow) (now : List Token) → Same AreClasses (Then IsClass (Repeat IsClass)) (λ b. b.0 ∷ b.1) E now
classes_same E now = record {
  to = λ ts us b t. more_classes ts t.between us b.0 b.1 t.first t.second;
  from = λ ts us cs b t e. classes_from ts us cs t;
}

pub classes_first : (ts us : List Lexeme) (cs : List tree.Class) → AreClasses ts us cs → BeginsWith (kind.Keyword key.Export) ts
classes_first ts us cs t = let x = classes_from ts us cs t in class_first ts x.2.between x.0.0 x.2.first

-- at the end no class begins, and before it the list goes on
pub no_class : NoneBegins IsClass []
no_class = record { refuses = refuses }
  where
    refuses : (ts us : List Lexeme) (c : tree.Class) → BeginAlike [] ts → IsClass ts us c → ⊥
    refuses [] us c b t = class_first [] us c t
    refuses (l ∷ ts) us c b t = b

pub tokens_left : (t : Token) (now : List Token) → NotBehind NothingLeft (t ∷ now)
tokens_left t now = record { refuses = refuses }
  where
    refuses : (ts : List Lexeme) → BeginAlike (t ∷ now) ts → NothingLeft ts → ⊥
    refuses [] b e = b
    refuses (l ∷ ts) b e = cons_some l ts e

-- the import
abbrev pub ImportLine : Phrase (ℕ × (ℕ × (ℕ × (ℕ × ℕ))))
ImportLine = Then (At (TakesKey key.Import 0)) (Then (At (TakesMark mark.OpenBrace 0)) (Then (At (TakesWord (codes "DurableObject") 0)) (Then (At (TakesMark mark.CloseBrace 0)) IsImportEnd)))

abbrev is_export_kind : Kind → Bool
is_export_kind (kind.Keyword key.Export) = true
is_export_kind _ = false

import_from : (ts us : List Lexeme) (i : Option ℕ) → (BeginsWith (kind.Keyword key.Export) ts → ⊥) → IsImport ts us i → BeginsWith (kind.Keyword key.Export) us → (b : ℕ × (ℕ × (ℕ × (ℕ × ℕ)))) × (i ≡ Some b.0) × ImportLine ts us b
import_from ts us None h g.IsImport.none e = absurd (h e)
import_from ts us (Some at) h (g.IsImport.import {text_at = at'} {us = us'} {vs = vs'} {ws = ws'} {xs = xs'} {ys = ys'} {zs = zs'} p t o w c f x m) e = (
  (at, (place us', (place vs', (place ws', at')))),
  refl,
  record {
    between = us';
    first = at_is p t;
    second = record {
      between = vs';
      first = at_is refl o;
      second = record {
        between = ws';
        first = at_is refl w;
        second = record {
          between = xs';
          first = at_is refl c;
          second = record { vs = ys'; ws = zs'; from = f; text = x; semicolon = m };
        };
      };
    };
  },
)

pub import_same : (now : List Token) → ¬ (kind_next now ≡ Some (kind.Keyword key.Export)) → Same IsImport ImportLine (λ b. Some b.0) (BeginsWith (kind.Keyword key.Export)) now
import_same now h = record {
  to = λ ts us b t.
      g.IsImport.import t.first.at_is t.first.takes t.second.first.takes t.second.second.first.takes t.second.second.second.first.takes t.second.second.second.second.from t.second.second.second.second.text t.second.second.second.second.semicolon;
  from = λ ts us i b t e. import_from ts us i ((not_behind now (kind.Keyword key.Export) h).refuses ts b) t e;
}

no_import_from : (ts us : List Lexeme) (i : Option ℕ) → BeginsWith (kind.Keyword key.Export) ts → IsImport ts us i → (ts ≡ us) × (i ≡ None)
no_import_from ts us None b g.IsImport.none = (refl, refl)
no_import_from ts us (Some at) b (g.IsImport.import p t o w c f x m) = absurd (false≢true (sym (ap is_export_kind (one_kind (kind.Keyword key.Export) (kind.Keyword key.Import) ts b (takes_with t)))))

pub no_import : (now : List Token) → kind_next now ≡ Some (kind.Keyword key.Export) → Parses IsImport (BeginsWith (kind.Keyword key.Export)) now now (Ok None)
no_import now h = nothing_there None (λ us e l. g.IsImport.none) (λ ts us i b t e. no_import_from ts us i (begins_with now (kind.Keyword key.Export) ts h b) t)

pub import_end_same : (now : List Token) → Same IsImportEnd (Then (At (TakesWord (codes "from") 0)) (Then (IsGivenText (codes "cloudflare:workers") 0) (At (TakesMark mark.Semicolon 0)))) (λ b. b.1.0) Anything now
import_end_same now = record {
  to = λ ts us b t. record { vs = t.between; ws = t.second.between; from = t.first.takes; text = t.second.first; semicolon = t.second.second.takes };
  from = λ ts us at b t e. ((place ts, (at, place t.ws)), refl, record { between = t.vs; first = at_is refl t.from; second = record { between = t.ws; first = t.text; second = at_is refl t.semicolon } });
}

-- a whole script
pub whole_same : (now : List Token) → Same IsWhole (Then IsImport AreClasses) (λ b. record { import = b.0; classes = b.1 }) NothingLeft now
whole_same now = record {
  to = λ ts us b t. record { rest = t.between; import = t.first; classes = t.second };
  from = λ ts us s b t e. ((s.import, s.classes), refl, record { between = t.rest; first = t.import; second = t.classes });
}
