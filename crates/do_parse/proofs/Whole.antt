-- What the parser's answer for all tokens says of the text.
use Rattle.std.proofs.Common.{◌≡◌, ◌≢◌, ◌<◌, ◌≤◌, ℕ, List, [], ◌∷◌, ◌++◌, map, Option, Some, None, Result, Ok, Err, inl, inr, refl, sym, ◌∙◌, ap, subst, append_assoc}
use Rattle.std.proofs.lemmas.List.{append-nil, map-append}
use Rattle.do_lex.specs.Ending.{end_of_text}
use Rattle.do_lex.specs.Cursor.{span_of}
use Rattle.do_lex.specs.Cut.{IsCut}
use Rattle.do_lex.specs.declared.pieces.Span.{Span}
use Rattle.do_lex.specs.declared.fault.LexFault.{LexFault}
use Rattle.do_lex.specs.declared.tokens.Token.{Token}
use Rattle.do_tree.specs.Accepts.{most_inside, AreLexemes, IsShallow, IsScriptText, Begins, BeginsAt, IsUnexpected, EndsEarly, IsTokenFault}
use Rattle.do_tree.specs.Accepts as accepts
use Rattle.do_tree.specs.Grammar.{IsScript}
use Rattle.do_tree.specs.Lexeme.{Lexeme}
use Rattle.do_tree.specs.Tree.{Script}
use Rattle.do_parse.specs.Cuts.{AreSlices, IsLexed}
use Rattle.do_parse.specs.Fault.{IsNestedTooFar}
use Rattle.do_parse.specs.Parsed.{IsLexeme, AreLexemesOf, BeginAlike, HasRead, Agree, CanBegin, IsDeepBehind, Parses}
use Rattle.do_parse.specs.Pieces.{IsWhole, NothingLeft}
use Rattle.do_parse.specs.declared.stop.Stop.TheVariants.{Unexpected, TooNested}
use Rattle.do_parse.proofs.Tokens.{are_append, heads_alike, tails_alike}

-- tokens and spans
to_lexemes : (text : List ℕ) (ts : List Token) (ls : List Lexeme) → AreSlices text ts → AreLexemesOf ts ls → AreLexemes text (map span_of ts) ls
to_lexemes text [] [] s a = tt
to_lexemes text [] (l ∷ ls) s a = absurd a
to_lexemes text (t ∷ ts) [] s a = absurd a
to_lexemes text (t ∷ ts) (l ∷ ls) s a = (a.0.kind, a.0.at, a.0.text ∙ s.0, to_lexemes text ts ls s.1 a.1)

of_lexemes : (text : List ℕ) (ts : List Token) (ls : List Lexeme) → AreSlices text ts → AreLexemes text (map span_of ts) ls → AreLexemesOf ts ls
of_lexemes text [] [] s a = tt
of_lexemes text [] (l ∷ ls) s a = absurd a
of_lexemes text (t ∷ ts) [] s a = absurd a
of_lexemes text (t ∷ ts) (l ∷ ls) s a = (record { kind = a.0; text = a.2 ∙ sym s.0; at = a.1 }, of_lexemes text ts ls s.1 a.3)

slices_front : (text : List ℕ) (fs gs : List Token) → AreSlices text (fs ++ gs) → AreSlices text fs
slices_front text [] gs s = tt
slices_front text (f ∷ fs) gs s = (s.0, slices_front text fs gs s.1)

slices_back : (text : List ℕ) (fs gs : List Token) → AreSlices text (fs ++ gs) → AreSlices text gs
slices_back text [] gs s = s
slices_back text (f ∷ fs) gs s = slices_back text fs gs s.1

-- a whole script
whole_script : {ts : List Lexeme} {s : Script} → IsWhole ts [] s → IsScript ts s
whole_script w = record { rest = w.rest; import = w.import; classes = w.classes }

script_whole : {ts : List Lexeme} {s : Script} → IsScript ts s → IsWhole ts [] s
script_whole w = record { rest = w.rest; import = w.import; classes = w.classes }

begins : (us : List Lexeme) → CanBegin IsWhole NothingLeft us → Begins us
begins us c = record { rest = c.rest; script = c.tree; is = subst (λ ts. IsScript ts c.tree) (append-nil (us ++ c.rest)) (whole_script (c.is [] refl)) }

begins_before : (us : List Lexeme) (l : Lexeme) → CanBegin IsWhole NothingLeft (us ++ l ∷ []) → Begins us
begins_before us l c = record { rest = l ∷ c.rest; script = c.tree; is = subst (λ ts. IsScript ts c.tree) (append-nil (us ++ l ∷ [] ++ c.rest) ∙ append_assoc us (l ∷ []) c.rest) (whole_script (c.is [] refl)) }

begun_at : (text : List ℕ) (tokens front new : List Token) (us : List Lexeme) → AreSlices text tokens → tokens ≡ front ++ new → AreLexemesOf front us → IsShallow us → Begins us → BeginsAt text (map span_of front)
begun_at text tokens front new us s h are shallow b =
    record { tokens = us; are = to_lexemes text front us (slices_front text front new (subst (λ xs. AreSlices text xs) h s)) are; shallow = shallow; begins = b }

-- all tokens, where none is left
all_read : (text : List ℕ) (tokens front : List Token) → AreSlices text tokens → tokens ≡ front ++ [] → front ≡ tokens
all_read text tokens front s h = sym (h ∙ append-nil front)

-- The text is a script, and only this one.
pub accepted : (text : List ℕ) (tokens : List Token) (s : Script) → IsLexed text tokens None → Parses IsWhole NothingLeft tokens [] (Ok s) → IsScriptText text s
accepted text tokens s l p =
    let r = p.so.read in
    let front : r.front ≡ tokens = all_read text tokens r.front l.slices r.split in
    record {
      spans = map span_of tokens;
      cut = l.cut;
      tokens = p.so.used;
      are = to_lexemes text tokens p.so.used l.slices (subst (λ fs. AreLexemesOf fs p.so.used) front r.are);
      shallow = r.shallow;
      is = subst (λ ts. IsScript ts s) (append-nil p.so.used) (whole_script (p.so.is [] refl (inr tt)));
    }

agree_all : (tokens : List Token) (ts : List Lexeme) → AreLexemesOf tokens ts → Agree tokens [] ts
agree_all tokens ts are = record { front = tokens; split = sym (append-nil tokens); begin = ts; back = []; parts = sym (append-nil ts); are = are; next = tt }

pub only_script : (text : List ℕ) (tokens : List Token) (s other : Script) → IsLexed text tokens None → Parses IsWhole NothingLeft tokens [] (Ok s)
    → ((xs ys : List Span) (a b : Option LexFault) → IsCut text 0 xs a → IsCut text 0 ys b → (xs ≡ ys) × (a ≡ b)) → IsScriptText text other → other ≡ s
only_script text tokens s other l p one o =
    let same : o.spans ≡ map span_of tokens = (one o.spans (map span_of tokens) None None o.cut l.cut).0 in
    let are : AreLexemesOf tokens o.tokens = of_lexemes text tokens o.tokens l.slices (subst (λ xs. AreLexemes text xs o.tokens) same o.are) in
    (p.so.only o.tokens [] other (agree_all tokens o.tokens are) (script_whole o.is) refl).1

-- Behind all tokens there is a fault.
pub fault_behind : (text : List ℕ) (tokens : List Token) (s : Script) (f : LexFault) → IsLexed text tokens (Some f) → Parses IsWhole NothingLeft tokens [] (Ok s) → IsTokenFault text f
fault_behind text tokens s f l p =
    let r = p.so.read in
    let front : r.front ≡ tokens = all_read text tokens r.front l.slices r.split in
    let b : Begins p.so.used = record { rest = []; script = s; is = whole_script (p.so.is [] refl (inr tt)) } in
    record {
      spans = map span_of tokens;
      cut = l.cut;
      begun = subst (λ fs. BeginsAt text (map span_of fs)) front (begun_at text tokens r.front [] p.so.used l.slices r.split r.are r.shallow b);
    }

-- The tokens end too early: at the text's fault, or at its end.
pub fault_early : (text : List ℕ) (tokens : List Token) (f : LexFault) → IsLexed text tokens (Some f) → Parses IsWhole NothingLeft tokens [] (Err Unexpected) → IsTokenFault text f
fault_early text tokens f l p =
    let r = p.so.read in
    let front : r.front ≡ tokens = all_read text tokens r.front l.slices r.split in
    record {
      spans = map span_of tokens;
      cut = l.cut;
      begun = subst (λ fs. BeginsAt text (map span_of fs)) front (begun_at text tokens r.front [] p.so.used l.slices r.split r.are r.shallow (begins p.so.used p.so.begun));
    }

pub ends_early : (text : List ℕ) (tokens : List Token) → IsLexed text tokens None → Parses IsWhole NothingLeft tokens [] (Err Unexpected) → EndsEarly text (end_of_text text)
ends_early text tokens l p =
    let r = p.so.read in
    let front : r.front ≡ tokens = all_read text tokens r.front l.slices r.split in
    record {
      spans = map span_of tokens;
      cut = l.cut;
      begun = subst (λ fs. BeginsAt text (map span_of fs)) front (begun_at text tokens r.front [] p.so.used l.slices r.split r.are r.shallow (begins p.so.used p.so.begun));
      none = λ ts s are is. p.so.none ts [] s (agree_all tokens ts (of_lexemes text tokens ts l.slices are)) (script_whole is) refl;
      at_is = refl;
    }

-- what was read when a token is wrong
spans_cut : (front : List Token) (t : Token) (rest tokens : List Token) → tokens ≡ front ++ t ∷ rest → map span_of tokens ≡ map span_of front ++ span_of t ∷ [] ++ map span_of rest
spans_cut front t rest tokens h = ap (map span_of) h ∙ map-append span_of front (t ∷ rest) ∙ sym (append_assoc (map span_of front) (span_of t ∷ []) (map span_of rest))

read_so : (text : List ℕ) (tokens front rest : List Token) (t : Token) (last : Option LexFault) → IsLexed text tokens last → tokens ≡ front ++ t ∷ rest → accepts.HasRead text (map span_of front ++ span_of t ∷ []) last
read_so text tokens front rest t last l h = record { more = map span_of rest; cut = subst (λ xs. IsCut text 0 xs last) (spans_cut front t rest tokens h) l.cut }

-- lexemes of a token more
pub record Last (text : List ℕ) (front : List Token) (t : Token) (ts : List Lexeme) : Type 0 where
  pub begin : List Lexeme
  pub end : Lexeme
  pub parts : ts ≡ begin ++ end ∷ []
  pub are : AreLexemesOf front begin
  pub is : IsLexeme t end

last_of : (text : List ℕ) (front : List Token) (t : Token) (ts : List Lexeme) → AreLexemesOf (front ++ t ∷ []) ts → Last text front t ts
last_of text [] t [] a = absurd a
last_of text [] t (l ∷ []) a = record { begin = []; end = l; parts = refl; are = tt; is = a.0 }
last_of text [] t (l ∷ k ∷ ts) a = absurd a.1
last_of text (f ∷ front) t [] a = absurd a
last_of text (f ∷ front) t (l ∷ ts) a = let x = last_of text front t ts a.1 in record { begin = l ∷ x.begin; end = x.end; parts = ap (λ y. l ∷ y) x.parts; are = (a.0, x.are); is = x.is }

slices_some : (text : List ℕ) (front rest : List Token) (t : Token) → AreSlices text (front ++ t ∷ rest) → AreSlices text (front ++ t ∷ [])
slices_some text [] rest t s = (s.0, tt)
slices_some text (f ∷ front) rest t s = (s.0, slices_some text front rest t s.1)

wrong_begins : (text : List ℕ) (tokens front rest : List Token) (t : Token) → AreSlices text tokens → tokens ≡ front ++ t ∷ rest
    → ((ts us : List Lexeme) (s : Script) → Agree tokens (t ∷ rest) ts → IsWhole ts us s → NothingLeft us → ⊥) → (ts : List Lexeme) → AreLexemes text (map span_of front ++ span_of t ∷ []) ts → ¬ Begins ts
wrong_begins text tokens front rest t s h none ts are b =
    let few : AreSlices text (front ++ t ∷ []) = slices_some text front rest t (subst (λ xs. AreSlices text xs) h s) in
    let of : AreLexemesOf (front ++ t ∷ []) ts = of_lexemes text (front ++ t ∷ []) ts few (subst (λ xs. AreLexemes text xs ts) (sym (map-append span_of front (t ∷ []))) are) in
    let x = last_of text front t ts of in
    none (ts ++ b.rest) [] b.script
    (record { front = front; split = h; begin = x.begin; back = x.end ∷ b.rest; parts = ap (λ y. y ++ b.rest) x.parts ∙ append_assoc x.begin (x.end ∷ []) b.rest; are = x.are; next = x.is })
    (script_whole b.is) refl

-- A token is wrong.
pub unexpected_at : (text : List ℕ) (tokens rest : List Token) (t : Token) (last : Option LexFault) → IsLexed text tokens last → Parses IsWhole NothingLeft tokens (t ∷ rest) (Err Unexpected) → IsUnexpected text t.at
unexpected_at text tokens rest t last l p =
    let r = p.so.read in
    record {
      before = map span_of r.front;
      span = span_of t;
      last = last;
      read = read_so text tokens r.front rest t last l r.split;
      begun = begun_at text tokens r.front (t ∷ rest) p.so.used l.slices r.split r.are r.shallow (begins p.so.used p.so.begun);
      none = wrong_begins text tokens r.front rest t l.slices r.split p.so.none;
      at_is = refl;
    }

-- the lexeme of a token more is the one that stands behind those that were read
last_is : (front : List Token) (t : Token) (us xs more rest : List Lexeme) (u x : Lexeme) → AreLexemesOf front us → AreLexemesOf (front ++ t ∷ []) (xs ++ x ∷ []) → xs ++ x ∷ [] ++ rest ≡ us ++ u ∷ more → x ≡ u
last_is [] t [] [] more rest u x a b h = heads_alike x u rest more h
last_is [] t [] (y ∷ []) more rest u x a b h = absurd b.1
last_is [] t [] (y ∷ z ∷ ys) more rest u x a b h = absurd b.1
last_is [] t (v ∷ us) xs more rest u x a b h = absurd a
last_is (f ∷ front) t [] xs more rest u x a b h = absurd a
last_is (f ∷ []) t (v ∷ us) [] more rest u x a b h = absurd b.1
last_is (f ∷ g ∷ front) t (v ∷ us) [] more rest u x a b h = absurd b.1
last_is (f ∷ front) t (v ∷ us) (y ∷ ys) more rest u x a b h = last_is front t us ys more rest u x a.1 b.1 (tails_alike y v (ys ++ x ∷ [] ++ rest) (us ++ u ∷ more) h)

-- in each script that begins so, a lexeme behind these is held by too many phrases
abbrev EachDeep : List Token → List Token → List Lexeme → Type 0
EachDeep tokens new used = (ts us : List Lexeme) (s : Script) → Agree tokens new ts → IsWhole ts us s → NothingLeft us → IsDeepBehind used ts

each_nested : (text : List ℕ) (tokens front rest : List Token) (t : Token) (used : List Lexeme) → AreSlices text tokens → tokens ≡ front ++ t ∷ rest → AreLexemesOf front used
    → EachDeep tokens (t ∷ rest) used → (ts : List Lexeme) (l : Lexeme) → AreLexemes text (map span_of front ++ span_of t ∷ []) (ts ++ l ∷ []) → Begins (ts ++ l ∷ []) → most_inside < l.inside
each_nested text tokens front rest t used s h are_used each ts l are b =
    let few : AreSlices text (front ++ t ∷ []) = slices_some text front rest t (subst (λ xs. AreSlices text xs) h s) in
    let of : AreLexemesOf (front ++ t ∷ []) (ts ++ l ∷ []) = of_lexemes text (front ++ t ∷ []) (ts ++ l ∷ []) few (subst (λ xs. AreLexemes text xs (ts ++ l ∷ [])) (sym (map-append span_of front (t ∷ []))) are) in
    let x = last_of text front t (ts ++ l ∷ []) of in
    let d =
    each (ts ++ l ∷ [] ++ b.rest) [] b.script
    (record { front = front; split = h; begin = x.begin; back = x.end ∷ b.rest; parts = ap (λ y. y ++ b.rest) x.parts ∙ append_assoc x.begin (x.end ∷ []) b.rest; are = x.are; next = x.is })
    (script_whole b.is) refl in
    subst (λ (y : Lexeme). most_inside < y.inside) (sym (last_is front t used ts d.more b.rest d.next l are_used of d.parts)) d.too_deep

-- A token is held by too many phrases.
pub nested_at : (text : List ℕ) (tokens new : List Token) (last : Option LexFault) → IsLexed text tokens last → (p : Parses IsWhole NothingLeft tokens new (Err TooNested)) → IsNestedTooFar text p.so.token.at
nested_at text tokens new last l p =
    let r = p.so.read in
    let t = p.so.token in
    let h : tokens ≡ r.front ++ t ∷ p.so.rest = r.split ∙ ap (λ xs. r.front ++ xs) p.so.next in
    let few : AreSlices text (r.front ++ t ∷ []) = slices_some text r.front p.so.rest t (subst (λ xs. AreSlices text xs) h l.slices) in
    record {
      nested = record {
        before = map span_of r.front;
        span = span_of t;
        last = last;
        read = read_so text tokens r.front p.so.rest t last l h;
        begun = begun_at text tokens r.front (t ∷ p.so.rest) p.so.used l.slices h r.are r.shallow (begins_before p.so.used p.so.deep p.so.begun);
        tokens = p.so.used;
        token = p.so.deep;
        are = subst (λ xs. AreLexemes text xs (p.so.used ++ p.so.deep ∷ [])) (map-append span_of r.front (t ∷ []))
            (to_lexemes text (r.front ++ t ∷ []) (p.so.used ++ p.so.deep ∷ []) few (are_append r.front (t ∷ []) p.so.used (p.so.deep ∷ []) r.are (p.so.is_next, tt)));
        shallow = r.shallow;
        deep = p.so.too_deep;
        begins = begins (p.so.used ++ p.so.deep ∷ []) p.so.begun;
        at_is = refl;
      };
      each = each_nested text tokens r.front p.so.rest t p.so.used l.slices h r.are (subst (λ x. EachDeep tokens x p.so.used) p.so.next p.so.each);
    }
