-- The rules of methods and constructors.
use Rattle.std.proofs.Common.{◌≡◌, ◌≢◌, ℕ, zero, suc, ◌+◌, Bool, true, false, List, [], ◌∷◌, ◌++◌, ◌⊎◌, inl, inr, Option, Some, None, Result, Ok, Err, refl, sym, ◌∙◌, ap, subst, codes}
use Rattle.std.proofs.lemmas.Bool.{false≢true}
use Rattle.std.proofs.lemmas.Option.{none-some}
use Rattle.do_lex.specs.declared.kind.Kind.{Kind}
use Rattle.do_lex.specs.declared.kind.Kind.TheVariants as kind
use Rattle.do_lex.specs.declared.kind.Keyword.{Keyword}
use Rattle.do_lex.specs.declared.kind.Keyword.TheVariants as key
use Rattle.do_lex.specs.declared.kind.Mark.{Mark}
use Rattle.do_lex.specs.declared.kind.Mark.TheVariants as mark
use Rattle.do_lex.specs.declared.tokens.Token.{Token}
use Rattle.do_tree.specs.Grammar as g
use Rattle.do_tree.specs.Grammar.{Takes, TakesMark, TakesKey, TakesName, TakesWord, TakesCtxEnv, AreNames, IsBlock, IsItems, IsMember, BeginsWithNo}
use Rattle.do_tree.specs.Lexeme.{Lexeme, place}
use Rattle.do_tree.specs.Tree as tree
use Rattle.do_tree.specs.declared.script.MethodKind.{MethodKind}
use Rattle.do_tree.specs.declared.script.MethodKind.TheVariants as method
use Rattle.do_parse.specs.Lists.{BeginsWith, Starting, Repeat, IsItem, Item, items_from}
use Rattle.do_parse.specs.Lists.Repeat.{stop as rep_stop, again}
use Rattle.do_parse.specs.Parsed.{BeginAlike, Phrase, Follow, Anything, ends_by, CanBegin, Parses}
use Rattle.do_parse.specs.Pieces.{IsBlockAt, Blocked, Signed, IsSignature, IsMethodRest, IsSuperCall, IsNextName, ctx_env_at, constructor_tree}
use Rattle.do_parse.specs.Starts.{kind_next, place_next}
use Rattle.do_parse.specs.Taken.{IsName}
use Rattle.do_parse.specs.Then.{Then, At, with_tree}
use Rattle.do_parse.proofs.Deep.{lexeme, lexeme_takes, mark_token, mark_takes, block_is}
use Rattle.do_parse.proofs.Dependent.{Dep}
use Rattle.do_parse.proofs.Facts.{BeginsBy, anything_begins, mark_stands, key_stands, last, before, stands_then}
use Rattle.do_parse.proofs.First.{kind_first, first_is_next, place_is_next, first_with, takes_with, takes_first}
use Rattle.do_parse.proofs.ForRules.{one_kind}
use Rattle.do_parse.proofs.ItemRules.{items_of_list, list_of_items}
use Rattle.do_parse.proofs.Lists.{not_behind, begins_with, nothing_there, NoneBegins}
use Rattle.do_parse.proofs.Sequence.{Same, SameHere, Stands, Behind}
use Rattle.do_parse.proofs.Statements.{at_is}

-- a word that is given is a name
pub name_of_word : {word : List ℕ} {d : ℕ} {ts us : List Lexeme} {at : ℕ} → At (TakesWord word d) ts us at → TakesName (record { at = at; text = word }) d ts us
name_of_word {word} {d} {ts} {us} {at} t = record { takes = t.takes.takes; at_is = t.at_is ∙ ap place t.takes.takes.first; text_is = sym t.takes.text_is }

pub word_of_name : {word : List ℕ} {d : ℕ} {ts us : List Lexeme} {n : tree.Named} → n.text ≡ word → TakesName n d ts us → At (TakesWord word d) ts us n.at
word_of_name {word} {d} {ts} {us} {n} h t = record { at_is = t.at_is ∙ sym (ap place t.takes.first); takes = record { takes = t.takes; text_is = sym t.text_is ∙ h } }

-- ( ctx , env )
abbrev pub CtxEnv : Phrase (ℕ × (ℕ × (ℕ × (ℕ × ℕ))))
CtxEnv = Then (At (TakesMark mark.OpenParen 0)) (Then (At (TakesWord (codes "ctx") 0)) (Then (At (TakesMark mark.Comma 0)) (Then (At (TakesWord (codes "env") 0)) (At (TakesMark mark.CloseParen 0)))))

abbrev pub ctx_env_tree : (ℕ × (ℕ × (ℕ × (ℕ × ℕ)))) → List tree.Named
ctx_env_tree b = ctx_env_at b.1.0 b.1.1.1.0

both_texts : {a b x y : List ℕ} → a ≡ x → b ≡ y → Path (List ℕ × List ℕ) (a, b) (x, y)
both_texts {a} {b} {x} {y} p' q = ap (λ z. (z, b)) p' ∙ ap (λ z. (x, z)) q

ctx_env_from : (ts us : List Lexeme) (ns : List tree.Named) → TakesCtxEnv ts us ns → (b : ℕ × (ℕ × (ℕ × (ℕ × ℕ)))) × (ns ≡ ctx_env_tree b) × CtxEnv ts us b
ctx_env_from ts us (c ∷ e ∷ []) (g.ctx_env {vs = vs'} {xs = xs'} hc he o tc m te p) = (
  (place ts, (c.at, (place vs', (e.at, place xs')))),
  ap (λ (x : List ℕ × List ℕ). (record { at = c.at; text = x.0 }) ∷ (record { at = e.at; text = x.1 }) ∷ []) (both_texts hc he),
  record { between = _; first = at_is refl o; second = record { between = _; first = word_of_name hc tc; second = record { between = _; first = at_is refl m; second = record { between = _; first = word_of_name he te; second = at_is refl p } } } },
)
ctx_env_from ts us [] t = elim t [ ]
ctx_env_from ts us (c ∷ []) t = elim t [ ]
ctx_env_from ts us (c ∷ (e ∷ (x ∷ xs))) t = elim t [ ]

pub ctx_env_same : (now : List Token) → Same TakesCtxEnv CtxEnv ctx_env_tree Anything now
ctx_env_same now = record {
  to = λ ts us b t. g.ctx_env refl refl t.first.takes (name_of_word t.second.first) t.second.second.first.takes (name_of_word t.second.second.second.first) t.second.second.second.second.takes;
  from = λ ts us ns b t e. ctx_env_from ts us ns t;
}

-- super ( ctx , env ) ;
abbrev pub SuperCall : Phrase (ℕ × (List tree.Named × ℕ))
SuperCall = Then (At (TakesKey key.Super 0)) (Then TakesCtxEnv (At (TakesMark mark.Semicolon 0)))

pub super_same : (now : List Token) → Same IsSuperCall SuperCall (λ b. b.1.0) Anything now
super_same now = record {
  to = λ ts us b t. record { vs = t.between; ws = t.second.between; super_is = t.first.takes; ctx_env = t.second.first; semicolon = t.second.second.takes };
  from = λ ts us ns b t e. ((place ts, (ns, place t.ws)), refl, record { between = t.vs; first = at_is refl t.super_is; second = record { between = t.ws; first = t.ctx_env; second = at_is refl t.semicolon } });
}

-- NAME ( NAMES )
abbrev pub Signature : Phrase (tree.Named × (ℕ × (List tree.Named × ℕ)))
Signature = Then (IsName 0) (Then (At (TakesMark mark.OpenParen 0)) (Then AreNames (At (TakesMark mark.CloseParen 0))))

abbrev pub signature_tree : (tree.Named × (ℕ × (List tree.Named × ℕ))) → Signed
signature_tree b = record { name = b.0; parameters = b.1.1.0 }

pub signature_same : (now : List Token) → Same IsSignature Signature signature_tree Anything now
signature_same now = record {
  to = λ ts us b t. record { vs = t.between; ws = t.second.between; xs = t.second.second.between; name_is = t.first; open_paren = t.second.first.takes; parameters_are = t.second.second.first; close_paren = t.second.second.second.takes };
  from = λ ts us s b t e. (
    (s.name, (place t.vs, (s.parameters, place t.xs))),
    refl,
    record { between = t.vs; first = t.name_is; second = record { between = t.ws; first = at_is refl t.open_paren; second = record { between = t.xs; first = t.parameters_are; second = at_is refl t.close_paren } } },
  );
}

-- a method behind the words before its name
pub method_path : {a b : ℕ} {k j : MethodKind} {n m : tree.Named} {ps qs : List tree.Named} {is js : tree.Items} → a ≡ b → k ≡ j → n ≡ m → ps ≡ qs → is ≡ js
    → Path tree.Method (record { at = a; kind = k; name = n; parameters = ps; body = is }) (record { at = b; kind = j; name = m; parameters = qs; body = js })
method_path {a} {b} {k} {j} {n} {m} {ps} {qs} {is} {js} ha hk hn hp hb =
    ap (λ x. record { at = x; kind = k; name = n; parameters = ps; body = is }) ha
    ∙ (ap (λ x. record { at = b; kind = x; name = n; parameters = ps; body = is }) hk
    ∙ (ap (λ x. record { at = b; kind = j; name = x; parameters = ps; body = is }) hn
    ∙ (ap (λ x. record { at = b; kind = j; name = m; parameters = x; body = is }) hp
    ∙ ap (λ x. record { at = b; kind = j; name = m; parameters = qs; body = x }) hb)))

abbrev pub rest_tree : ℕ → MethodKind → (Signed × Blocked) → tree.Method
rest_tree at k b = record { at = at; kind = k; name = b.0.name; parameters = b.0.parameters; body = b.1.items }

pub rest_same : (at : ℕ) (k : MethodKind) (now : List Token) → Same (IsMethodRest at k) (Then IsSignature (IsBlockAt 0)) (rest_tree at k) Anything now
rest_same at k now = record {
  to = λ ts us b t. record { vs = t.between; at_is = refl; kind_is = refl; signature = t.first; body_is = t.second.block_is };
  from = λ ts us m b t e. (
    (record { name = m.name; parameters = m.parameters }, record { at = place t.vs; items = m.body }),
    method_path t.at_is t.kind_is refl refl refl,
    record { between = t.vs; first = t.signature; second = record { at_is = refl; block_is = t.body_is } },
  );
}

-- constructor ( ctx , env ) { super ( ctx , env ) ; ITEMS }
abbrev pub Constructor : Phrase (ℕ × (List tree.Named × (ℕ × (List tree.Named × (List Item × ℕ)))))
Constructor = Then (At (TakesKey key.Constructor 0)) (Then TakesCtxEnv (Then (At (TakesMark mark.OpenBrace 0)) (Then IsSuperCall (Then (Repeat (IsItem 0)) (At (TakesMark mark.CloseBrace 0))))))

abbrev pub constructed : (ℕ × (List tree.Named × (ℕ × (List tree.Named × (List Item × ℕ))))) → tree.Method
constructed b = constructor_tree b.0 b.1.0 (items_from b.1.1.1.1.0)

abbrev is_constructor_kind : Kind → Bool
is_constructor_kind (kind.Keyword key.Constructor) = true
is_constructor_kind _ = false

abbrev is_async_kind : Kind → Bool
is_async_kind (kind.Keyword key.Async) = true
is_async_kind _ = false

abbrev is_word_kind : Kind → Bool
is_word_kind kind.Word = true
is_word_kind _ = false

constructor_from : (ts us : List Lexeme) (m : tree.Method) → BeginsWith (kind.Keyword key.Constructor) ts → IsMember ts us m → (b : ℕ × (List tree.Named × (ℕ × (List tree.Named × (List Item × ℕ))))) × (m ≡ constructed b) × Constructor ts us b
constructor_from ts us m h (g.constructor {vs = vs'} {zs = zs'} {super = s'} ha hk hn ht t ps o st sp sm rest is c) =
    let l = list_of_items 0 zs' rest m.body is in (
      (place ts, (m.parameters, (place vs', (s', (l.0, place rest))))),
      method_path ha hk (ap (λ x. record { at = x; text = m.name.text }) hn ∙ ap (λ x. record { at = place ts; text = x }) ht) refl l.1,
      record {
        between = _;
        first = at_is refl t;
        second = record {
          between = _;
          first = ps;
          second = record {
            between = _;
            first = at_is refl o;
            second = record { between = _; first = record { vs = _; ws = _; super_is = st; ctx_env = sp; semicolon = sm }; second = record { between = rest; first = l.2; second = at_is refl c } };
          };
        };
      },
    )
constructor_from ts us m h (g.sync ha hk t o ps c b) = absurd (false≢true (sym (ap is_constructor_kind (one_kind (kind.Keyword key.Constructor) kind.Word ts h (takes_with t.takes)))))
constructor_from ts us m h (g.async ha hk t n o ps c b) = absurd (false≢true (sym (ap is_constructor_kind (one_kind (kind.Keyword key.Constructor) (kind.Keyword key.Async) ts h (takes_with t)))))

pub constructor_same : (now : List Token) → Same (Starting (kind.Keyword key.Constructor) IsMember) Constructor constructed Anything now
constructor_same now = record {
  to = λ ts us b t. (
    takes_with t.first.takes,
    g.constructor t.first.at_is refl t.first.at_is refl t.first.takes t.second.first t.second.second.first.takes t.second.second.second.first.super_is t.second.second.second.first.ctx_env t.second.second.second.first.semicolon
        t.second.second.second.second.between (items_of_list 0 t.second.second.second.between t.second.second.second.second.between b.1.1.1.1.0 t.second.second.second.second.first) t.second.second.second.second.second.takes,
  );
  from = λ ts us m b t e. constructor_from ts us m t.0 t.1;
}

-- async and a method
abbrev pub Async : Phrase tree.Method
Async = Dep (At (TakesKey key.Async 0)) (λ at. IsMethodRest at method.Async)

async_from : (ts us : List Lexeme) (m : tree.Method) → BeginsWith (kind.Keyword key.Async) ts → IsMember ts us m → Async ts us m
async_from ts us m h (g.async {vs = vs'} {ws = ws'} {xs = xs'} {ys = ys'} ha hk t n o ps c b) = record {
  value = place ts;
  between = _;
  first = at_is refl t;
  second = record { vs = ys'; at_is = ha; kind_is = hk; signature = record { vs = vs'; ws = ws'; xs = xs'; name_is = n; open_paren = o; parameters_are = ps; close_paren = c }; body_is = b };
}
async_from ts us m h (g.sync ha hk t o ps c b) = absurd (false≢true (sym (ap is_async_kind (one_kind (kind.Keyword key.Async) kind.Word ts h (takes_with t.takes)))))
async_from ts us m h (g.constructor ha hk hn ht t ps o st sp sm rest is c) = absurd (false≢true (sym (ap is_async_kind (one_kind (kind.Keyword key.Async) (kind.Keyword key.Constructor) ts h (takes_with t)))))

pub async_same : (now : List Token) → Same (Starting (kind.Keyword key.Async) IsMember) Async (λ m. m) Anything now
async_same now = record {
  to = λ ts us m t. (
    takes_with t.first.takes,
    g.async (t.second.at_is ∙ t.first.at_is) t.second.kind_is t.first.takes t.second.signature.name_is t.second.signature.open_paren t.second.signature.parameters_are t.second.signature.close_paren t.second.body_is,
  );
  from = λ ts us m b t e. (m, refl, async_from ts us m t.0 t.1);
}

-- a method alone, which begins with its name
sync_from : (at : ℕ) (ts us : List Lexeme) (m : tree.Method) → place ts ≡ at → BeginsWith kind.Word ts → IsMember ts us m → IsMethodRest at method.Sync ts us m
sync_from at ts us m p h (g.sync {us = us'} {vs = vs'} {ws = ws'} {xs = xs'} ha hk n o ps c b) =
    record { vs = xs'; at_is = ha ∙ p; kind_is = hk; signature = record { vs = us'; ws = vs'; xs = ws'; name_is = n; open_paren = o; parameters_are = ps; close_paren = c }; body_is = b }
sync_from at ts us m p h (g.async ha hk t n o ps c b) = absurd (false≢true (sym (ap is_word_kind (one_kind kind.Word (kind.Keyword key.Async) ts h (takes_with t)))))
sync_from at ts us m p h (g.constructor ha hk hn ht t ps o st sp sm rest is c) = absurd (false≢true (sym (ap is_word_kind (one_kind kind.Word (kind.Keyword key.Constructor) ts h (takes_with t)))))

-- name ( ) { }
abbrev pub rest_can : (at : ℕ) (us : List Lexeme) → IsMethodRest at method.Sync (lexeme kind.Word [] 0 0 ∷ mark_token mark.OpenParen 0 ∷ mark_token mark.CloseParen 0 ∷ mark_token mark.OpenBrace 0 ∷ mark_token mark.CloseBrace 0 ∷ us) us
    (record { at = at; kind = method.Sync; name = record { at = 0; text = [] }; parameters = []; body = tree.no_items })
rest_can at us = record {
  vs = mark_token mark.OpenBrace 0 ∷ mark_token mark.CloseBrace 0 ∷ us;
  at_is = refl;
  kind_is = refl;
  signature = record {
    vs = mark_token mark.OpenParen 0 ∷ mark_token mark.CloseParen 0 ∷ mark_token mark.OpenBrace 0 ∷ mark_token mark.CloseBrace 0 ∷ us;
    ws = mark_token mark.CloseParen 0 ∷ mark_token mark.OpenBrace 0 ∷ mark_token mark.CloseBrace 0 ∷ us;
    xs = mark_token mark.CloseParen 0 ∷ mark_token mark.OpenBrace 0 ∷ mark_token mark.CloseBrace 0 ∷ us;
    name_is = record { takes = lexeme_takes kind.Word [] 0 0 _; at_is = refl; text_is = refl };
    open_paren = mark_takes mark.OpenParen 0 _;
    parameters_are = g.AreNames.none;
    close_paren = mark_takes mark.CloseParen 0 _;
  };
  body_is = block_is 0 us;
}

member_of_rest : (at : ℕ) (ts us : List Lexeme) (m : tree.Method) → place ts ≡ at → IsMethodRest at method.Sync ts us m → IsMember ts us m
member_of_rest at ts us m p t = g.sync (t.at_is ∙ sym p) t.kind_is t.signature.name_is t.signature.open_paren t.signature.parameters_are t.signature.close_paren t.body_is

pub sync_here : (now : List Token) → SameHere (Starting kind.Word IsMember) (IsMethodRest (place_next now) method.Sync) (λ m. m) Anything now
sync_here now = record {
  to = λ ts us m b t. (takes_with t.signature.name_is.takes, member_of_rest (place_next now) ts us m (place_is_next now ts b) t);
  from = λ ts us m b t e. (m, refl, sync_from (place_next now) ts us m (place_is_next now ts b) t.0 t.1);
  can = record {
    rest = lexeme kind.Word [] 0 0 ∷ mark_token mark.OpenParen 0 ∷ mark_token mark.CloseParen 0 ∷ mark_token mark.OpenBrace 0 ∷ mark_token mark.CloseBrace 0 ∷ [];
    tree = record { at = 0; kind = method.Sync; name = record { at = 0; text = [] }; parameters = []; body = tree.no_items };
    is = λ us e. (refl, member_of_rest 0 _ us _ refl (rest_can 0 us));
  };
  end_may = tt;
  some = λ m t. none-some kind.Word (takes_first t.signature.name_is.takes);
}

-- with which tokens a member begins
pub member_first : (ts us : List Lexeme) (m : tree.Method) → IsMember ts us m → (kind_first ts ≡ Some (kind.Keyword key.Constructor)) ⊎ ((kind_first ts ≡ Some (kind.Keyword key.Async)) ⊎ (kind_first ts ≡ Some kind.Word))
member_first ts us m (g.constructor ha hk hn ht t ps o st sp sm rest is c) = inl (takes_first t)
member_first ts us m (g.async ha hk t n o ps c b) = inr (inl (takes_first t))
member_first ts us m (g.sync ha hk n o ps c b) = inr (inr (takes_first n.takes))
