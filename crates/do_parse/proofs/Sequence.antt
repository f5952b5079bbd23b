-- How the answers of the parser's functions are put together.
use Rattle.std.proofs.Common.{◌≡◌, ◌≢◌, ◌≤◌, ◌<◌, ℕ, Bool, true, false, List, [], ◌∷◌, ◌++◌, ◌⊎◌, Result, Ok, Err, inl, inr, refl, sym, ◌∙◌, ap, subst, append_assoc}
use Rattle.std.proofs.lemmas.List.{append-nil}
use Rattle.std.proofs.lemmas.Result.{err_from_is_err_and}
use Rattle.std.specs.Result.{IsErrAnd}
use Rattle.do_lex.specs.declared.kind.Kind.{Kind}
use Rattle.do_lex.specs.declared.kind.Kind.TheVariants as kind
use Rattle.do_lex.specs.declared.kind.Keyword.TheVariants as key
use Rattle.do_lex.specs.declared.tokens.Token.{Token}
use Rattle.do_tree.specs.Accepts.{most_inside}
use Rattle.do_tree.specs.Grammar.{BeginsWithNo}
use Rattle.do_tree.specs.Lexeme.{Lexeme, place}
use Rattle.do_parse.specs.declared.stop.Stop.{Stop}
use Rattle.do_parse.specs.declared.stop.Stop.TheVariants.{Unexpected, TooNested, NoMemory}
use Rattle.do_parse.specs.Parsed.{IsLexeme, BeginAlike, HasRead, Agree, Phrase, Follow, Anything, ends_by, ElseIsNext, ElseAsNext, AreLexemesOf, HasPhrase, CanBegin, IsDeepBehind, IsWrongNext, IsTooDeepNext, Says, Parses}
use Rattle.do_parse.specs.Then.{Then, with_tree, IsMade}
use Rattle.do_parse.proofs.Tokens.{are_append, cons_some, nothing_used, nothing_between, begins_so, read_nothing, agree_start, read_more, agree_front, agree_back, else_alike}

-- A phrase can stand, and then begins with no else.
pub record Stands {A : Type 0} (Is : Phrase A) (Ends : Follow) : Type 0 where
  pub begun : CanBegin Is Ends []
  pub no_else : (us : List Lexeme) → Ends us → BeginsWithNo (kind.Keyword key.Else) (begun.rest ++ us)

-- A phrase can stand behind another one.
pub record Behind {B : Type 0} (Ends : Follow) (Q : Phrase B) (Ends' : Follow) : Type 0 where
  pub may : (ts us : List Lexeme) (b : B) → Q ts us b → Ends' us → Ends ts
  pub stands : Stands Q Ends'

both : {A B : Type 0} {a x : A} {b y : B} → a ≡ x → b ≡ y → Path (A × B) (a, b) (x, y)
both {A} {B} {a} {x} {b} {y} p q = ap (λ z. (z, b)) p ∙ ap (λ z. (x, z)) q

-- what stands behind a phrase in the same way
pub shift : (front one two us : List Lexeme) → front ++ one ++ (two ++ us) ≡ front ++ (one ++ two) ++ us
shift front one two us = sym (append_assoc (front ++ one) two us) ∙ ap (λ xs. xs ++ us) (append_assoc front one two)

pub regroup : (one two three four : List Lexeme) → one ++ (two ++ three ++ four) ≡ one ++ two ++ three ++ four
regroup one two three four =
    ap (λ xs. one ++ xs) (append_assoc two three four) ∙ sym (append_assoc one two (three ++ four)) ∙ sym (append_assoc (one ++ two) three four)

module _ {A B : Type 0} {P : Phrase A} {Q : Phrase B} {Ends Ends' : Follow} (may : (ts us : List Lexeme) (b : B) → Q ts us b → Ends' us → Ends ts) (can : CanBegin Q Ends' []) where
  -- another phrase behind these lexemes and what they go on with
  abbrev pub begun_by : {front : List Lexeme} → CanBegin P Ends front → CanBegin (Then P Q) Ends' front
  begun_by {front} c = record {
    rest = c.rest ++ can.rest;
    tree = (c.tree, can.tree);
    is = λ us e.
        let q = can.is us e in
        let ms : List Lexeme = can.rest ++ us in
        let p = c.is ms (may ms us can.tree q e) in
        record { between = ms; first = subst (λ ts. P ts ms c.tree) (shift front c.rest can.rest us) p; second = q };
  }

abbrev pub begun_then : {A B : Type 0} {P : Phrase A} {Q : Phrase B} {Ends Ends' : Follow} → Behind Ends Q Ends' → {front : List Lexeme} → CanBegin P Ends front → CanBegin (Then P Q) Ends' front
begun_then n c = begun_by n.may n.stands.begun c

module _ {A B : Type 0} (P : Phrase A) (Q : Phrase B) (Ends Ends' : Follow) (may : (ts us : List Lexeme) (b : B) → Q ts us b → Ends' us → Ends ts) (can : CanBegin Q Ends' []) where
  -- the first of two phrases stops
  stop_so : (old new : List Token) (s : Stop) → Says P Ends old new (Err s) → Says (Then P Q) Ends' old new (Err s)
  stop_so old new Unexpected p = record {
    used = p.used;
    read = p.read;
    begun = begun_by may can p.begun;
    none = λ ts us pair a is e. p.none ts is.between pair.0 a is.first (may is.between us pair.1 is.second e);
  }
  stop_so old new TooNested p = record {
    used = p.used;
    read = p.read;
    token = p.token;
    rest = p.rest;
    next = p.next;
    deep = p.deep;
    is_next = p.is_next;
    too_deep = p.too_deep;
    begun = begun_by may can p.begun;
    each = λ ts us pair a is e. p.each ts is.between pair.0 a is.first (may is.between us pair.1 is.second e);
  }
  stop_so old new NoMemory p = tt

-- the lexemes of some tokens begin with an else only where the tokens do
pub else_front : (fs gs mid : List Token) (us ms : List Lexeme) → AreLexemesOf fs us → mid ≡ fs ++ gs → ElseAsNext gs ms → ElseAsNext mid (us ++ ms)
else_front [] gs mid [] ms a h e = subst (λ ts. ElseAsNext ts ms) (sym h) e
else_front [] gs mid (u ∷ us) ms a h e = absurd a
else_front (f ∷ fs) gs mid [] ms a h e = absurd a
else_front (f ∷ fs) gs mid (u ∷ us) ms a h e = subst (λ ts. ElseAsNext ts (u ∷ (us ++ ms))) (sym h) (else_alike (f ∷ (fs ++ gs)) (u ∷ (us ++ ms)) a.0)

-- a list to which an element was put has some
put_some : (us : List Lexeme) (l : Lexeme) → us ++ l ∷ [] ≡ [] → ⊥
put_some [] l h = cons_some l [] h
put_some (u ∷ us) l h = cons_some u (us ++ l ∷ []) h

-- a token that is held too deep stands behind more lexemes that were read
pub deep_more : (us vs ts ms : List Lexeme) → ts ≡ us ++ ms → IsDeepBehind vs ms → IsDeepBehind (us ++ vs) ts
deep_more us vs ts ms h d = record {
  next = d.next;
  more = d.more;
  parts = h ∙ ap (λ xs. us ++ xs) d.parts ∙ sym (append_assoc us vs (d.next ∷ d.more));
  too_deep = d.too_deep;
}

module _ {A B : Type 0} (P : Phrase A) (Q : Phrase B) (Ends Ends' : Follow) (may : (ts us : List Lexeme) (b : B) → Q ts us b → Ends' us → Ends ts) (old mid new : List Token) (a : A) (p : HasPhrase P Ends old mid a) where
  -- two phrases were read
  seq_ok : (b : B) → HasPhrase Q Ends' mid new b → HasPhrase (Then P Q) Ends' old new (a, b)
  seq_ok b q = record {
    used = p.used ++ q.used;
    read = read_more p.read q.read;
    is = λ us e l.
        let is_q = q.is us e l in
        let ms : List Lexeme = q.used ++ us in
        let is_p = p.is ms (may ms us b is_q e) (else_front q.read.front new mid q.used us q.read.are q.read.split l) in
        record { between = ms; first = subst (λ ts. P ts ms a) (sym (append_assoc p.used q.used us)) is_p; second = is_q };
    only = λ ts us other agree is e.
        let one = p.only ts is.between other.0 (agree_front p.read q.read agree) is.first (may is.between us other.1 is.second e) in
        let two = q.only is.between us other.1 (agree_back is.between p.read q.read agree one.0) is.second e in
        (one.0 ∙ ap (λ xs. p.used ++ xs) two.0 ∙ sym (append_assoc p.used q.used us), both one.1 two.1);
  }

  -- the lexemes of the first phrase, and some with which the second one begins
  begun_seq : (fs rs : List Token) (us : List Lexeme) → AreLexemesOf fs us → mid ≡ fs ++ rs → (us ≡ [] → CanBegin (Then P Q) Ends' (p.used ++ [])) → CanBegin Q Ends' us → CanBegin (Then P Q) Ends' (p.used ++ us)
  begun_seq [] rs [] are h empty c = empty refl
  begun_seq [] rs (u ∷ us) are h empty c = absurd are
  begun_seq (f ∷ fs) rs [] are h empty c = absurd are
  begun_seq (f ∷ fs) rs (u ∷ us) are h empty c = record {
    rest = c.rest;
    tree = (a, c.tree);
    is = λ vs e.
        let q = c.is vs e in
        let ms : List Lexeme = u ∷ us ++ c.rest ++ vs in
        let l : ElseAsNext mid ms = subst (λ ts. ElseAsNext ts ms) (sym h) (else_alike (f ∷ (fs ++ rs)) ms are.0) in
        let one = p.is ms (may ms vs c.tree q e) l in
        record { between = ms; first = subst (λ ts. P ts ms a) (regroup p.used (u ∷ us) c.rest vs) one; second = q };
  }

  -- no two phrases begin so
  none_seq : (used : List Lexeme) → HasRead mid new used → ((ts us : List Lexeme) (b : B) → Agree mid new ts → Q ts us b → Ends' us → ⊥) → (ts us : List Lexeme) (pair : A × B) → Agree old new ts → Then P Q ts us pair → Ends' us → ⊥
  none_seq used r none ts us pair agree is e =
      let one = p.only ts is.between pair.0 (agree_front p.read r agree) is.first (may is.between us pair.1 is.second e) in
      none is.between us pair.1 (agree_back is.between p.read r agree one.0) is.second e

  -- in each two phrases that begin so the next token is held by too many
  deep_seq : (used : List Lexeme) → HasRead mid new used → ((ts us : List Lexeme) (b : B) → Agree mid new ts → Q ts us b → Ends' us → IsDeepBehind used ts)
      → (ts us : List Lexeme) (pair : A × B) → Agree old new ts → Then P Q ts us pair → Ends' us → IsDeepBehind (p.used ++ used) ts
  deep_seq used r each ts us pair agree is e =
      let one = p.only ts is.between pair.0 (agree_front p.read r agree) is.first (may is.between us pair.1 is.second e) in
      deep_more p.used used ts is.between one.0 (each is.between us pair.1 (agree_back is.between p.read r agree one.0) is.second e)

  -- the second of two phrases gave this answer
  seq_so : (IsWrongNext Q Ends' mid mid → CanBegin (Then P Q) Ends' (p.used ++ [])) → (r : Result B Stop) → Says Q Ends' mid new r → Says (Then P Q) Ends' old new (with_tree (λ b. (a, b)) r)
  seq_so empty (Ok b) q = seq_ok b q
  seq_so empty (Err Unexpected) q = record {
    used = p.used ++ q.used;
    read = read_more p.read q.read;
    begun = begun_seq q.read.front new q.used q.read.are q.read.split (λ h. empty (nothing_read q h)) q.begun;
    none = none_seq q.used q.read q.none;
  }
    where
      nothing_read : (w : IsWrongNext Q Ends' mid new) → w.used ≡ [] → IsWrongNext Q Ends' mid mid
      nothing_read w h = subst (λ x. IsWrongNext Q Ends' mid x) (sym (nothing_used w.read h)) w
  seq_so empty (Err TooNested) q = record {
    used = p.used ++ q.used;
    read = read_more p.read q.read;
    token = q.token;
    rest = q.rest;
    next = q.next;
    deep = q.deep;
    is_next = q.is_next;
    too_deep = q.too_deep;
    begun =
        let c = begun_seq (q.read.front ++ q.token ∷ []) q.rest (q.used ++ q.deep ∷ []) (are_append q.read.front (q.token ∷ []) q.used (q.deep ∷ []) q.read.are (q.is_next, tt))
        (q.read.split ∙ ap (λ xs. q.read.front ++ xs) q.next ∙ sym (append_assoc q.read.front (q.token ∷ []) q.rest)) (λ h. absurd (put_some q.used q.deep h)) q.begun in
        subst (λ xs. CanBegin (Then P Q) Ends' xs) (sym (append_assoc p.used q.used (q.deep ∷ []))) c;
    each = deep_seq q.used q.read q.each;
  }
  seq_so empty (Err NoMemory) q = tt

  -- the second one can stand
  begun_stands : Stands Q Ends' → CanBegin (Then P Q) Ends' (p.used ++ [])
  begun_stands s = record {
    rest = s.begun.rest;
    tree = (a, s.begun.tree);
    is = λ us e.
        let q = s.begun.is us e in
        let ms : List Lexeme = s.begun.rest ++ us in
        let one = p.is ms (may ms us s.begun.tree q e) (inr (s.no_else us e)) in
        record { between = ms; first = subst (λ ts. P ts ms a) (ap (λ xs. xs ++ ms) (sym (append-nil p.used)) ∙ sym (append_assoc (p.used ++ []) s.begun.rest us)) one; second = q };
  }

  -- or an else is next, with which the second one begins
  begun_else : CanBegin Q Ends' [] → ElseIsNext mid → CanBegin (Then P Q) Ends' (p.used ++ [])
  begun_else c next = record {
    rest = c.rest;
    tree = (a, c.tree);
    is = λ us e.
        let q = c.is us e in
        let ms : List Lexeme = c.rest ++ us in
        let one = p.is ms (may ms us c.tree q e) (inl next) in
        record { between = ms; first = subst (λ ts. P ts ms a) (ap (λ xs. xs ++ ms) (sym (append-nil p.used)) ∙ sym (append_assoc (p.used ++ []) c.rest us)) one; second = q };
  }

-- where nothing was read, some phrase can stand
wrong_begun : {B : Type 0} {Q : Phrase B} {Ends : Follow} {mid : List Token} → IsWrongNext Q Ends mid mid → CanBegin Q Ends []
wrong_begun {B} {Q} {Ends} {mid} w = subst (λ xs. CanBegin Q Ends xs) (nothing_between w.read) w.begun

-- The first of two phrases stops.
pub stop : {A B : Type 0} {P : Phrase A} {Q : Phrase B} {Ends Ends' : Follow} {old new : List Token} {s : Stop} → Behind Ends Q Ends' → Parses P Ends old new (Err s) → Parses (Then P Q) Ends' old new (Err s)
stop {A} {B} {P} {Q} {Ends} {Ends'} {old} {new} {s} n p = record { so = stop_so P Q Ends Ends' n.may n.stands.begun old new s p.so }

-- The same where anything may stand behind it, and an else behind that.
pub stop_else : {A B : Type 0} {P : Phrase A} {Q : Phrase B} {old new : List Token} {s : Stop} → CanBegin Q Anything [] → Parses P Anything old new (Err s) → Parses (Then P Q) Anything old new (Err s)
stop_else {A} {B} {P} {Q} {old} {new} {s} c p = record { so = stop_so P Q Anything Anything (λ ts us b x e. tt) c old new s p.so }

-- The first of two phrases was read, and the second one gave this answer.
pub seq : {A B : Type 0} {P : Phrase A} {Q : Phrase B} {Ends Ends' : Follow} {old mid new : List Token} {a : A} {r : Result B Stop} → Behind Ends Q Ends' → Parses P Ends old mid (Ok a) → Parses Q Ends' mid new r → Parses (Then P Q) Ends' old new (with_tree (λ b. (a, b)) r)
seq {A} {B} {P} {Q} {Ends} {Ends'} {old} {mid} {new} {a} {r} n p q = record { so = seq_so P Q Ends Ends' n.may old mid new a p.so (λ w. begun_stands P Q Ends Ends' n.may old mid new a p.so n.stands) r q.so }

-- The same where the second one is only wrong at an else.
pub seq_else : {A B : Type 0} {P : Phrase A} {Q : Phrase B} {old mid new : List Token} {a : A} {r : Result B Stop} → (IsWrongNext Q Anything mid mid → ElseIsNext mid) → Parses P Anything old mid (Ok a) → Parses Q Anything mid new r → Parses (Then P Q) Anything old new (with_tree (λ b. (a, b)) r)
seq_else {A} {B} {P} {Q} {old} {mid} {new} {a} {r} h p q =
    let may : (ts us : List Lexeme) (b : B) → Q ts us b → Anything us → Anything ts = λ ts us b x e. tt in
    record { so = seq_so P Q Anything Anything may old mid new a p.so (λ w. begun_else P Q Anything Anything may old mid new a p.so (wrong_begun w) (h w)) r q.so }

-- A phrase read in another way: what begins like the tokens is the one where it is the other.
pub record Same {A B : Type 0} (Is : Phrase A) (Other : Phrase B) (tree : B → A) (Ends : Follow) (old : List Token) : Type 0 where
  pub to : (ts us : List Lexeme) (b : B) → Other ts us b → Is ts us (tree b)
  pub from : (ts us : List Lexeme) (a : A) → BeginAlike old ts → Is ts us a → Ends us → (b : B) × (a ≡ tree b) × Other ts us b

module _ {A B : Type 0} (Is : Phrase A) (Other : Phrase B) (tree : B → A) (Ends : Follow) (old new : List Token) (same : Same Is Other tree Ends old) where
  begun_as : (front : List Lexeme) → CanBegin Other Ends front → CanBegin Is Ends front
  begun_as front c = record { rest = c.rest; tree = tree c.tree; is = λ us e. same.to (front ++ c.rest ++ us) us c.tree (c.is us e) }

  as_so : (r : Result B Stop) → Says Other Ends old new r → Says Is Ends old new (with_tree tree r)
  as_so (Ok b) p = record {
    used = p.used;
    read = p.read;
    is = λ us e l. same.to (p.used ++ us) us b (p.is us e l);
    only = λ ts us other agree is e.
        let x = same.from ts us other (begins_so agree) is e in
        let y = p.only ts us x.0 agree x.2 e in
        (y.0, x.1 ∙ ap tree y.1);
  }
  as_so (Err Unexpected) p = record {
    used = p.used;
    read = p.read;
    begun = begun_as p.used p.begun;
    none = λ ts us other agree is e. let x = same.from ts us other (begins_so agree) is e in p.none ts us x.0 agree x.2 e;
  }
  as_so (Err TooNested) p = record {
    used = p.used;
    read = p.read;
    token = p.token;
    rest = p.rest;
    next = p.next;
    deep = p.deep;
    is_next = p.is_next;
    too_deep = p.too_deep;
    begun = begun_as (p.used ++ p.deep ∷ []) p.begun;
    each = λ ts us other agree is e. let x = same.from ts us other (begins_so agree) is e in p.each ts us x.0 agree x.2 e;
  }
  as_so (Err NoMemory) p = tt

-- The answer, read in another way.
pub read_as : {A B : Type 0} {Is : Phrase A} {Other : Phrase B} {tree : B → A} {Ends : Follow} {old new : List Token} {r : Result B Stop} → Same Is Other tree Ends old → Parses Other Ends old new r → Parses Is Ends old new (with_tree tree r)
read_as {A} {B} {Is} {Other} {tree} {Ends} {old} {new} {r} same p = record { so = as_so Is Other tree Ends old new same r p.so }

-- The answer that a `?` hands on.
pub handed_on : {A N : Type 0} {Is : Phrase A} {Ends : Follow} {old new : List Token} {s : Stop} (tree : N → A) (r : Result N Stop) → IsErrAnd r (λ y. y ≡ s) → Parses Is Ends old new (Err s) → Parses Is Ends old new (with_tree tree r)
handed_on {A} {N} {Is} {Ends} {old} {new} {s} tree r is p =
    let e = err_from_is_err_and r is in
    subst (λ x. Parses Is Ends old new (with_tree tree x)) (sym (e.1 ∙ ap (λ y. Err y) e.2)) p

-- The same where what begins like the tokens tells more: at the start of the tokens some phrase can stand anyway.
pub record SameHere {A B : Type 0} (Is : Phrase A) (Other : Phrase B) (tree : B → A) (Ends : Follow) (old : List Token) : Type 0 where
  pub to : (ts us : List Lexeme) (b : B) → BeginAlike old ts → Other ts us b → Is ts us (tree b)
  pub from : (ts us : List Lexeme) (a : A) → BeginAlike old ts → Is ts us a → Ends us → (b : B) × (a ≡ tree b) × Other ts us b
  pub can : CanBegin Is Ends []
  pub end_may : Ends []
  pub some : (b : B) → Other [] [] b → ⊥

module _ {A B : Type 0} (Is : Phrase A) (Other : Phrase B) (tree : B → A) (Ends : Follow) (old new : List Token) (same : SameHere Is Other tree Ends old) where
  begun_here : (fs gs : List Token) (us : List Lexeme) → AreLexemesOf fs us → old ≡ fs ++ gs → CanBegin Other Ends us → CanBegin Is Ends us
  begun_here [] gs [] a h c = same.can
  begun_here [] gs (u ∷ us) a h c = absurd a
  begun_here (f ∷ fs) gs [] a h c = absurd a
  begun_here (f ∷ fs) gs (u ∷ us) a h c = record {
    rest = c.rest;
    tree = tree c.tree;
    is = λ vs e. same.to (u ∷ us ++ c.rest ++ vs) vs c.tree (subst (λ ts. BeginAlike ts (u ∷ us ++ c.rest ++ vs)) (sym h) a.0) (c.is vs e);
  }

  -- a phrase that was read has a token
  is_read : (fs gs : List Token) (us ms : List Lexeme) (b : B) → AreLexemesOf fs us → old ≡ fs ++ gs → Other (us ++ ms) ms b → Other (us ++ []) [] b → Is (us ++ ms) ms (tree b)
  is_read [] gs [] ms b a h p q = absurd (same.some b q)
  is_read [] gs (u ∷ us) ms b a h p q = absurd a
  is_read (f ∷ fs) gs [] ms b a h p q = absurd a
  is_read (f ∷ fs) gs (u ∷ us) ms b a h p q = same.to (u ∷ us ++ ms) ms b (subst (λ ts. BeginAlike ts (u ∷ us ++ ms)) (sym h) a.0) p

  here_so : (r : Result B Stop) → Says Other Ends old new r → Says Is Ends old new (with_tree tree r)
  here_so (Ok b) p = record {
    used = p.used;
    read = p.read;
    is = λ us e l. is_read p.read.front new p.used us b p.read.are p.read.split (p.is us e l) (p.is [] same.end_may (inr tt));
    only = λ ts us other agree is e.
        let x = same.from ts us other (begins_so agree) is e in
        let y = p.only ts us x.0 agree x.2 e in
        (y.0, x.1 ∙ ap tree y.1);
  }
  here_so (Err Unexpected) p = record {
    used = p.used;
    read = p.read;
    begun = begun_here p.read.front new p.used p.read.are p.read.split p.begun;
    none = λ ts us other agree is e. let x = same.from ts us other (begins_so agree) is e in p.none ts us x.0 agree x.2 e;
  }
  here_so (Err TooNested) p = record {
    used = p.used;
    read = p.read;
    token = p.token;
    rest = p.rest;
    next = p.next;
    deep = p.deep;
    is_next = p.is_next;
    too_deep = p.too_deep;
    begun = begun_here (p.read.front ++ p.token ∷ []) p.rest (p.used ++ p.deep ∷ []) (are_append p.read.front (p.token ∷ []) p.used (p.deep ∷ []) p.read.are (p.is_next, tt))
        (p.read.split ∙ ap (λ xs. p.read.front ++ xs) p.next ∙ sym (append_assoc p.read.front (p.token ∷ []) p.rest)) p.begun;
    each = λ ts us other agree is e. let x = same.from ts us other (begins_so agree) is e in p.each ts us x.0 agree x.2 e;
  }
  here_so (Err NoMemory) p = tt

-- The answer, read in another way.
pub read_here : {A B : Type 0} {Is : Phrase A} {Other : Phrase B} {tree : B → A} {Ends : Follow} {old new : List Token} {r : Result B Stop} → SameHere Is Other tree Ends old → Parses Other Ends old new r → Parses Is Ends old new (with_tree tree r)
read_here {A} {B} {Is} {Other} {tree} {Ends} {old} {new} {r} same p = record { so = here_so Is Other tree Ends old new same r p.so }

-- The node that was made of a tree, or no memory.
pub made_on : {A N : Type 0} {Is : Phrase A} {Ends : Follow} {old new : List Token} {t : A} (seen : N → A) (r : Result N Stop) → IsMade seen t r → Parses Is Ends old new (Ok t) → Parses Is Ends old new (with_tree seen r)
made_on {A} {N} {Is} {Ends} {old} {new} {t} seen (Ok node) is p = subst (λ x. Parses Is Ends old new (Ok x)) (sym is) p
made_on {A} {N} {Is} {Ends} {old} {new} {t} seen (Err s) is p = subst (λ x. Parses Is Ends old new (Err x)) (sym is) (record { so = tt })

-- Where less may stand behind the phrase.
module _ {A : Type 0} (Is : Phrase A) (Ends Fewer : Follow) (h : (us : List Lexeme) → Fewer us → Ends us) (old new : List Token) where
  narrow_so : (r : Result A Stop) → Says Is Ends old new r → Says Is Fewer old new r
  narrow_so (Ok b) p = record {
    used = p.used;
    read = p.read;
    is = λ us e l. p.is us (h us e) l;
    only = λ ts us other agree is e. p.only ts us other agree is (h us e);
  }
  narrow_so (Err Unexpected) p = record {
    used = p.used;
    read = p.read;
    begun = record { rest = p.begun.rest; tree = p.begun.tree; is = λ us e. p.begun.is us (h us e) };
    none = λ ts us other agree is e. p.none ts us other agree is (h us e);
  }
  narrow_so (Err TooNested) p = record {
    used = p.used;
    read = p.read;
    token = p.token;
    rest = p.rest;
    next = p.next;
    deep = p.deep;
    is_next = p.is_next;
    too_deep = p.too_deep;
    begun = record { rest = p.begun.rest; tree = p.begun.tree; is = λ us e. p.begun.is us (h us e) };
    each = λ ts us other agree is e. p.each ts us other agree is (h us e);
  }
  narrow_so (Err NoMemory) p = tt

pub narrow : {A : Type 0} {Is : Phrase A} {Ends Fewer : Follow} {old new : List Token} {r : Result A Stop} → ((us : List Lexeme) → Fewer us → Ends us) → Parses Is Ends old new r → Parses Is Fewer old new r
narrow {A} {Is} {Ends} {Fewer} {old} {new} {r} h p = record { so = narrow_so Is Ends Fewer h old new r p.so }

-- No phrase begins with the next token.
pub wrong_here : {A : Type 0} {Is : Phrase A} {Ends : Follow} {now : List Token} → CanBegin Is Ends [] → ((ts us : List Lexeme) (a : A) → BeginAlike now ts → Is ts us a → Ends us → ⊥) → Parses Is Ends now now (Err Unexpected)
wrong_here {A} {Is} {Ends} {now} c h = record {
  so = record {
    used = [];
    read = read_nothing now;
    begun = c;
    none = λ ts us a agree is e. h ts us a (begins_so agree) is e;
  };
}

-- Some phrase begins with the next token, which too many phrases hold in each.
pub deep_here : {A : Type 0} {Is : Phrase A} {Ends : Follow} (t : Token) (rest : List Token) (l : Lexeme) → IsLexeme t l → most_inside < l.inside → CanBegin Is Ends (l ∷ [])
    → ((ts us : List Lexeme) (a : A) → Is ts us a → IsDeepBehind [] ts) → Parses Is Ends (t ∷ rest) (t ∷ rest) (Err TooNested)
deep_here {A} {Is} {Ends} t rest l i d c each = record {
  so = record {
    used = [];
    read = read_nothing (t ∷ rest);
    token = t;
    rest = rest;
    next = refl;
    deep = l;
    is_next = i;
    too_deep = d;
    begun = c;
    each = λ ts us a agree is e. each ts us a is;
  };
}
