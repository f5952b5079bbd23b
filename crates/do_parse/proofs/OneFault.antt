-- A text has one fault at most, and a script has none.
use Rattle.std.proofs.Common.{◌≡◌, ◌≢◌, ◌<◌, ◌≤◌, ℕ, suc, List, [], ◌∷◌, ◌++◌, length, Option, Some, None, inl, inr, ◌⊎◌, refl, sym, ◌∙◌, ap, subst, arith, append_assoc}
use Rattle.std.proofs.lemmas.List.{append-nil}
use Rattle.std.proofs.lemmas.List.Elements.{All-nil, All-cons}
use Rattle.std.specs.List.{All}
use Rattle.do_lex.proofs.OneAnswer.{one_cut}
use Rattle.do_lex.specs.Cut.{IsCut}
use Rattle.do_lex.specs.declared.fault.LexFault.{LexFault}
use Rattle.do_lex.specs.declared.fault.LexFault.TheVariants as lex
use Rattle.do_lex.specs.declared.pieces.Span.{Span}
use Rattle.do_lex.specs.Limits.{most_script_bytes}
use Rattle.do_tree.specs.Accepts.{most_inside, AreLexemes, IsShallow, IsScriptText, Begins, BeginsAt, IsUnexpected, EndsEarly, IsTokenFault}
use Rattle.do_tree.specs.Grammar.{IsScript}
use Rattle.do_tree.specs.Lexeme.{Lexeme}
use Rattle.do_tree.specs.Tree.{Script}
use Rattle.do_parse.specs.Fault.{IsFaultAt, IsFault, IsNestedTooFar, IsWithinLimit, of_token}
use Rattle.do_parse.specs.declared.fault.ParseFault.{ParseFault}
use Rattle.do_parse.specs.declared.fault.ParseKind.{ParseKind}
use Rattle.do_parse.specs.declared.fault.ParseKind.TheVariants as kind
use Rattle.do_parse.proofs.Tokens.{heads_alike, tails_alike}

-- what holds of all elements holds of the first ones, and of the last
All-front : {X : Type 0} (P : X → Type 0) (xs ys : List X) → All P (xs ++ ys) → All P xs
All-front P [] ys h = All-nil P
All-front P (x ∷ xs) ys h = All-cons P x xs (h 0 x (omega arith)) (All-front P xs ys (λ k d l. h (suc k) d (omega (arith, l))))

All-last : {X : Type 0} (P : X → Type 0) (xs : List X) (x : X) → All P (xs ++ x ∷ []) → P x
All-last P [] x h = h 0 x (omega arith)
All-last P (y ∷ ys) x h = All-last P ys x (λ k d l. h (suc k) d (omega (arith, l)))

-- the lexemes at some spans, and at more behind them
record Front (text : List ℕ) (fs : List Span) (ls : List Lexeme) : Type 0 where
  front : List Lexeme
  back : List Lexeme
  parts : ls ≡ front ++ back
  are : AreLexemes text fs front

front_of : (text : List ℕ) (fs gs : List Span) (ls : List Lexeme) → AreLexemes text (fs ++ gs) ls → Front text fs ls
front_of text [] gs ls a = record { front = []; back = ls; parts = refl; are = tt }
front_of text (f ∷ fs) gs [] a = absurd a
front_of text (f ∷ fs) gs (l ∷ ls) a =
    let c = front_of text fs gs ls a.3 in
    record { front = l ∷ c.front; back = c.back; parts = ap (λ xs. l ∷ xs) c.parts; are = (a.0, a.1, a.2, c.are) }

-- where a script begins with some tokens, one begins with the first of them
begun_front : (text : List ℕ) (fs gs : List Span) → BeginsAt text (fs ++ gs) → BeginsAt text fs
begun_front text fs gs b =
    let c = front_of text fs gs b.tokens b.are in
    record {
      tokens = c.front;
      are = c.are;
      shallow = All-front (λ t. t.inside ≤ most_inside) c.front c.back (subst (λ xs. IsShallow xs) c.parts b.shallow);
      begins = record {
        rest = c.back ++ b.begins.rest;
        script = b.begins.script;
        is = subst (λ ts. IsScript ts b.begins.script) (ap (λ xs. xs ++ b.begins.rest) c.parts ∙ append_assoc c.front c.back b.begins.rest) b.begins.is;
      };
    }

-- No script begins with the tokens at these spans where none of them is held by too many phrases.
abbrev NoneBegins : List ℕ → List Span → Type 0
NoneBegins text spans = (tokens : List Lexeme) → AreLexemes text spans tokens → IsShallow tokens → ¬ Begins tokens

not_both : (text : List ℕ) (fs gs : List Span) → NoneBegins text fs → BeginsAt text (fs ++ gs) → ⊥
not_both text fs gs none b = let c = begun_front text fs gs b in none c.tokens c.are c.shallow c.begins

-- A token at which reading stops.
record Stops (text : List ℕ) (at : ℕ) : Type 0 where
  before : List Span
  span : Span
  more : List Span
  last : Option LexFault
  cut : IsCut text 0 (before ++ span ∷ [] ++ more) last
  begun : BeginsAt text before
  none : NoneBegins text (before ++ span ∷ [])
  at_is : at ≡ span.at

unexpected_stops : (text : List ℕ) (at : ℕ) → IsUnexpected text at → Stops text at
unexpected_stops text at u = record {
  before = u.before;
  span = u.span;
  more = u.read.more;
  last = u.last;
  cut = u.read.cut;
  begun = u.begun;
  none = λ ts are shallow b. u.none ts are b;
  at_is = u.at_is;
}

record Last (ts : List Lexeme) : Type 0 where
  begin : List Lexeme
  end : Lexeme
  parts : ts ≡ begin ++ end ∷ []

last_of : (text : List ℕ) (before : List Span) (s : Span) (ts : List Lexeme) → AreLexemes text (before ++ s ∷ []) ts → Last ts
last_of text [] s [] a = absurd a
last_of text [] s (l ∷ []) a = record { begin = []; end = l; parts = refl }
last_of text [] s (l ∷ k ∷ ts) a = absurd a.3
last_of text (f ∷ before) s [] a = absurd a
last_of text (f ∷ before) s (l ∷ ts) a = let x = last_of text before s ts a.3 in record { begin = l ∷ x.begin; end = x.end; parts = ap (λ y. l ∷ y) x.parts }

nested_none : (text : List ℕ) (at : ℕ) (n : IsNestedTooFar text at) → NoneBegins text (n.nested.before ++ n.nested.span ∷ [])
nested_none text at n ts are shallow b =
    let x = last_of text n.nested.before n.nested.span ts are in
    let deep = n.each x.begin x.end (subst (λ ys. AreLexemes text (n.nested.before ++ n.nested.span ∷ []) ys) x.parts are) (subst (λ ys. Begins ys) x.parts b) in
    let small : x.end.inside ≤ most_inside = All-last (λ t. t.inside ≤ most_inside) x.begin x.end (subst (λ ys. IsShallow ys) x.parts shallow) in
    omega (arith, deep, small)

nested_stops : (text : List ℕ) (at : ℕ) → IsNestedTooFar text at → Stops text at
nested_stops text at n = record {
  before = n.nested.before;
  span = n.nested.span;
  more = n.nested.read.more;
  last = n.nested.last;
  cut = n.nested.read.cut;
  begun = n.nested.begun;
  none = nested_none text at n;
  at_is = n.nested.at_is;
}

-- of two places in a list one comes first, or they are one
data Order (xs ys : List Span) (x y : Span) : Type 0 where
  same : xs ≡ ys → x ≡ y → Order xs ys x y
  less : (gs : List Span) → ys ≡ xs ++ x ∷ [] ++ gs → Order xs ys x y
  more : (gs : List Span) → xs ≡ ys ++ y ∷ [] ++ gs → Order xs ys x y

behind_both : (z w : Span) (xs ys : List Span) (x y : Span) → z ≡ w → Order xs ys x y → Order (z ∷ xs) (w ∷ ys) x y
behind_both z w xs ys x y h (same e f) = same (λ i. h i ∷ e i) f
behind_both z w xs ys x y h (less gs e) = less gs (ap (λ zs. w ∷ zs) e ∙ ap (λ v. v ∷ (xs ++ x ∷ [] ++ gs)) (sym h))
behind_both z w xs ys x y h (more gs e) = more gs (ap (λ zs. z ∷ zs) e ∙ ap (λ v. v ∷ (ys ++ y ∷ [] ++ gs)) h)

order : (xs ys ms ns : List Span) (x y : Span) → xs ++ x ∷ [] ++ ms ≡ ys ++ y ∷ [] ++ ns → Order xs ys x y
order [] [] ms ns x y h = same refl (heads_alike x y ms ns h)
order [] (w ∷ ys) ms ns x y h = less ys (ap (λ v. v ∷ ys) (sym (heads_alike x w ms (ys ++ y ∷ [] ++ ns) h)))
order (z ∷ xs) [] ms ns x y h = more xs (ap (λ v. v ∷ xs) (heads_alike z y (xs ++ x ∷ [] ++ ms) ns h))
order (z ∷ xs) (w ∷ ys) ms ns x y h =
    behind_both z w xs ys x y (heads_alike z w (xs ++ x ∷ [] ++ ms) (ys ++ y ∷ [] ++ ns) h)
    (order xs ys ms ns x y (tails_alike z w (xs ++ x ∷ [] ++ ms) (ys ++ y ∷ [] ++ ns) h))

-- reading stops at one token
in_order : (text : List ℕ) (a b : ℕ) (s : Stops text a) (t : Stops text b) → Order s.before t.before s.span t.span → (s.before ≡ t.before) × (s.span ≡ t.span)
in_order text a b s t (same e f) = (e, f)
in_order text a b s t (less gs e) = absurd (not_both text (s.before ++ s.span ∷ []) gs s.none (subst (λ xs. BeginsAt text xs) e t.begun))
in_order text a b s t (more gs e) = absurd (not_both text (t.before ++ t.span ∷ []) gs t.none (subst (λ xs. BeginsAt text xs) e s.begun))

one_stop : (text : List ℕ) (a b : ℕ) (s : Stops text a) (t : Stops text b) → (s.before ≡ t.before) × (s.span ≡ t.span)
one_stop text a b s t =
    in_order text a b s t
    (order s.before t.before s.more t.more s.span t.span
    (one_cut text 0 (s.before ++ s.span ∷ [] ++ s.more) (t.before ++ t.span ∷ [] ++ t.more) s.last t.last s.cut t.cut).0)

one_place : (text : List ℕ) (a b : ℕ) (s : Stops text a) (t : Stops text b) → a ≡ b
one_place text a b s t = s.at_is ∙ ap (λ (x : Span). x.at) (one_stop text a b s t).1 ∙ sym t.at_is

-- a token is unexpected or held by too many phrases
unexpected_or_nested : (text : List ℕ) (a b : ℕ) → IsUnexpected text a → IsNestedTooFar text b → ⊥
unfolding nested_stops unexpected_stops
unexpected_or_nested text a b u n =
    let e = one_stop text a b (unexpected_stops text a u) (nested_stops text b n) in
    let m = n.nested in
    let spans : m.before ++ m.span ∷ [] ≡ u.before ++ u.span ∷ [] = sym (λ i. e.0 i ++ e.1 i ∷ []) in
    u.none (m.tokens ++ m.token ∷ []) (subst (λ xs. AreLexemes text xs (m.tokens ++ m.token ∷ [])) spans m.are) m.begins

-- All tokens of a text, with which a script begins.
record Ends (text : List ℕ) (last : Option LexFault) : Type 0 where
  spans : List Span
  cut : IsCut text 0 spans last
  begun : BeginsAt text spans

token_ends : (text : List ℕ) (f : LexFault) → IsTokenFault text f → Ends text (Some f)
token_ends text f t = record { spans = t.spans; cut = t.cut; begun = t.begun }

early_ends : (text : List ℕ) (at : ℕ) → EndsEarly text at → Ends text None
early_ends text at e = record { spans = e.spans; cut = e.cut; begun = e.begun }

script_ends : (text : List ℕ) (s : Script) → IsScriptText text s → Ends text None
script_ends text s i = record {
  spans = i.spans;
  cut = i.cut;
  begun = record {
    tokens = i.tokens;
    are = i.are;
    shallow = i.shallow;
    begins = record { rest = []; script = s; is = subst (λ ts. IsScript ts s) (sym (append-nil i.tokens)) i.is };
  };
}

-- reading stops at no token where a script begins with all
stop_or_end : (text : List ℕ) (at : ℕ) (last : Option LexFault) → Stops text at → Ends text last → ⊥
stop_or_end text at last s e =
    let same = (one_cut text 0 e.spans (s.before ++ s.span ∷ [] ++ s.more) last s.last e.cut s.cut).0 in
    not_both text (s.before ++ s.span ∷ []) s.more s.none (subst (λ xs. BeginsAt text xs) same e.begun)

-- one end is behind all tokens
one_last : (text : List ℕ) (a b : Option LexFault) → Ends text a → Ends text b → a ≡ b
one_last text a b x y = (one_cut text 0 x.spans y.spans a b x.cut y.cut).1

some_same : (f g : LexFault) → Path (Option LexFault) (Some f) (Some g) → f ≡ g
some_same f g h = cc

some_none : (f : LexFault) → Path (Option LexFault) (Some f) None → ⊥
some_none f h = cc

-- What a fault comes of.
data Cause (text : List ℕ) (a : ParseFault) : Type 0 where
  too_long : most_script_bytes < length text → a ≡ record { place = most_script_bytes; kind = kind.TooLong } → Cause text a
  token : (f : LexFault) → IsWithinLimit text → IsTokenFault text f → a ≡ of_token f → Cause text a
  unexpected : IsWithinLimit text → IsUnexpected text a.place → a.kind ≡ kind.Unexpected → Cause text a
  early : IsWithinLimit text → EndsEarly text a.place → a.kind ≡ kind.Unexpected → Cause text a
  nested : IsWithinLimit text → IsNestedTooFar text a.place → a.kind ≡ kind.TooNested → Cause text a
  memory : a.kind ≡ kind.NoMemory → Cause text a

unexpected_cause : (text : List ℕ) (at : ℕ) → IsWithinLimit text → IsUnexpected text at ⊎ EndsEarly text at → Cause text (record { place = at; kind = kind.Unexpected })
unexpected_cause text at w (inl u) = unexpected w u refl
unexpected_cause text at w (inr e) = early w e refl

cause_at : (text : List ℕ) (k : ParseKind) (at : ℕ) → IsFaultAt text k at → Cause text (record { place = at; kind = k })
cause_at text kind.TooLong at h = too_long h.0 (ap (λ p. record { place = p; kind = kind.TooLong }) h.1)
cause_at text kind.BadChar at h = token (lex.BadChar at) h.0 h.1 refl
cause_at text kind.OpenText at h = token (lex.OpenText at) h.0 h.1 refl
cause_at text kind.LongNumber at h = token (lex.LongNumber at) h.0 h.1 refl
cause_at text kind.Unexpected at h = unexpected_cause text at h.0 h.1
cause_at text kind.TooNested at h = nested h.0 h.1 refl
cause_at text kind.NoMemory at h = memory refl

cause : (text : List ℕ) (a : ParseFault) → IsFault text a → Cause text a
cause text a h = cause_at text a.kind a.place h

alike : (a b : ParseFault) → a.place ≡ b.place → a.kind ≡ b.kind → a ≡ b
alike a b p k i = record { place = p i; kind = k i }

one_early : (text : List ℕ) (a b : ℕ) → EndsEarly text a → EndsEarly text b → a ≡ b
one_early text a b e f = e.at_is ∙ sym f.at_is

one : (text : List ℕ) (a b : ParseFault) → Cause text a → Cause text b → a.kind ≢ kind.NoMemory → b.kind ≢ kind.NoMemory → a ≡ b
one text a b (memory p) d n m = absurd (n p)
one text a b c (memory q) n m = absurd (m q)
one text a b (too_long l p) (too_long k q) n m = p ∙ sym q
one text a b (too_long l p) (token g v u q) n m = absurd (omega (arith, l, v))
one text a b (too_long l p) (unexpected v u q) n m = absurd (omega (arith, l, v))
one text a b (too_long l p) (early v u q) n m = absurd (omega (arith, l, v))
one text a b (too_long l p) (nested v u q) n m = absurd (omega (arith, l, v))
one text a b (token f w t p) (too_long k q) n m = absurd (omega (arith, k, w))
one text a b (token f w t p) (token g v u q) n m = p ∙ ap (λ x. of_token x) (some_same f g (one_last text (Some f) (Some g) (token_ends text f t) (token_ends text g u))) ∙ sym q
one text a b (token f w t p) (unexpected v u q) n m = absurd (stop_or_end text b.place (Some f) (unexpected_stops text b.place u) (token_ends text f t))
one text a b (token f w t p) (early v u q) n m = absurd (some_none f (one_last text (Some f) None (token_ends text f t) (early_ends text b.place u)))
one text a b (token f w t p) (nested v u q) n m = absurd (stop_or_end text b.place (Some f) (nested_stops text b.place u) (token_ends text f t))
one text a b (unexpected w t p) (too_long k q) n m = absurd (omega (arith, k, w))
one text a b (unexpected w t p) (token g v u q) n m = absurd (stop_or_end text a.place (Some g) (unexpected_stops text a.place t) (token_ends text g u))
one text a b (unexpected w t p) (unexpected v u q) n m = alike a b (one_place text a.place b.place (unexpected_stops text a.place t) (unexpected_stops text b.place u)) (p ∙ sym q)
one text a b (unexpected w t p) (early v u q) n m = absurd (stop_or_end text a.place None (unexpected_stops text a.place t) (early_ends text b.place u))
one text a b (unexpected w t p) (nested v u q) n m = absurd (unexpected_or_nested text a.place b.place t u)
one text a b (early w t p) (too_long k q) n m = absurd (omega (arith, k, w))
one text a b (early w t p) (token g v u q) n m = absurd (some_none g (one_last text (Some g) None (token_ends text g u) (early_ends text a.place t)))
one text a b (early w t p) (unexpected v u q) n m = absurd (stop_or_end text b.place None (unexpected_stops text b.place u) (early_ends text a.place t))
one text a b (early w t p) (early v u q) n m = alike a b (one_early text a.place b.place t u) (p ∙ sym q)
one text a b (early w t p) (nested v u q) n m = absurd (stop_or_end text b.place None (nested_stops text b.place u) (early_ends text a.place t))
one text a b (nested w t p) (too_long k q) n m = absurd (omega (arith, k, w))
one text a b (nested w t p) (token g v u q) n m = absurd (stop_or_end text a.place (Some g) (nested_stops text a.place t) (token_ends text g u))
one text a b (nested w t p) (unexpected v u q) n m = absurd (unexpected_or_nested text b.place a.place u t)
one text a b (nested w t p) (early v u q) n m = absurd (stop_or_end text a.place None (nested_stops text a.place t) (early_ends text b.place u))
one text a b (nested w t p) (nested v u q) n m = alike a b (one_place text a.place b.place (nested_stops text a.place t) (nested_stops text b.place u)) (p ∙ sym q)

pub one_fault : (text : List ℕ) (a b : ParseFault) → IsFault text a → IsFault text b → a.kind ≢ kind.NoMemory → b.kind ≢ kind.NoMemory → a ≡ b
one_fault text a b f g n m = one text a b (cause text a f) (cause text b g) n m

-- a script doesn't end early
not_early : (text : List ℕ) (s : Script) (at : ℕ) → IsScriptText text s → EndsEarly text at → ⊥
not_early text s at i e =
    let same = (one_cut text 0 i.spans e.spans None None i.cut e.cut).0 in
    e.none i.tokens s (subst (λ xs. AreLexemes text xs i.tokens) same i.are) i.is

none : (text : List ℕ) (s : Script) (a : ParseFault) → IsWithinLimit text → IsScriptText text s → Cause text a → a.kind ≡ kind.NoMemory
none text s a w i (too_long l p) = absurd (omega (arith, l, w))
none text s a w i (token f v t p) = absurd (some_none f (one_last text (Some f) None (token_ends text f t) (script_ends text s i)))
none text s a w i (unexpected v t p) = absurd (stop_or_end text a.place None (unexpected_stops text a.place t) (script_ends text s i))
none text s a w i (early v t p) = absurd (not_early text s a.place i t)
none text s a w i (nested v t p) = absurd (stop_or_end text a.place None (nested_stops text a.place t) (script_ends text s i))
none text s a w i (memory p) = p

pub no_fault : (text : List ℕ) (s : Script) (a : ParseFault) → IsWithinLimit text → IsScriptText text s → IsFault text a → a.kind ≡ kind.NoMemory
no_fault text s a w i f = none text s a w i (cause text a f)
