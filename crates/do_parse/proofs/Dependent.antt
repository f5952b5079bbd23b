-- A phrase and then another one that depends on its tree.
use Rattle.std.proofs.Common.{◌≡◌, ◌≢◌, ◌≤◌, ◌<◌, ℕ, Bool, true, false, List, [], ◌∷◌, ◌++◌, ◌⊎◌, Result, Ok, Err, inl, inr, refl, sym, ◌∙◌, ap, subst, append_assoc}
use Rattle.std.proofs.lemmas.List.{append-nil}
use Rattle.do_lex.specs.declared.kind.Kind.TheVariants as kind
use Rattle.do_lex.specs.declared.kind.Keyword.TheVariants as key
use Rattle.do_lex.specs.declared.tokens.Token.{Token}
use Rattle.do_tree.specs.Grammar.{BeginsWithNo}
use Rattle.do_tree.specs.Lexeme.{Lexeme, place}
use Rattle.do_parse.specs.declared.stop.Stop.{Stop}
use Rattle.do_parse.specs.declared.stop.Stop.TheVariants.{Unexpected, TooNested, NoMemory}
use Rattle.do_parse.specs.Parsed.{BeginAlike, HasRead, Agree, Phrase, Follow, ElseAsNext, AreLexemesOf, HasPhrase, CanBegin, IsDeepBehind, IsWrongNext, IsTooDeepNext, Says, Parses}
use Rattle.do_parse.proofs.Tokens.{are_append, read_more, agree_front, agree_back, else_alike}
use Rattle.do_parse.proofs.Sequence.{Stands, Behind, shift, regroup, else_front, deep_more}

-- One phrase, and then one that depends on its tree and tells the tree of both.
pub record Dep {A B : Type 0} (P : Phrase A) (Q : A → Phrase B) (ts us : List Lexeme) (b : B) : Type 0 where
  pub value : A
  pub between : List Lexeme
  pub first : P ts between value
  pub second : Q value between us b

module _ {A B : Type 0} (P : Phrase A) (Q : A → Phrase B) (Ends Ends' : Follow) (n : (a : A) → Behind Ends (Q a) Ends') where
  begun_dep : (front : List Lexeme) → CanBegin P Ends front → CanBegin (Dep P Q) Ends' front
  begun_dep front c =
      let m = n c.tree in
      record {
        rest = c.rest ++ m.stands.begun.rest;
        tree = m.stands.begun.tree;
        is = λ us e.
            let q = m.stands.begun.is us e in
            let ms : List Lexeme = m.stands.begun.rest ++ us in
            let p = c.is ms (m.may ms us m.stands.begun.tree q e) in
            record { value = c.tree; between = ms; first = subst (λ ts. P ts ms c.tree) (shift front c.rest m.stands.begun.rest us) p; second = q };
      }

  stop_dep : (old new : List Token) (s : Stop) → Says P Ends old new (Err s) → Says (Dep P Q) Ends' old new (Err s)
  stop_dep old new Unexpected p = record {
    used = p.used;
    read = p.read;
    begun = begun_dep p.used p.begun;
    none = λ ts us b a is e. p.none ts is.between is.value a is.first ((n is.value).may is.between us b is.second e);
  }
  stop_dep old new TooNested p = record {
    used = p.used;
    read = p.read;
    token = p.token;
    rest = p.rest;
    next = p.next;
    deep = p.deep;
    is_next = p.is_next;
    too_deep = p.too_deep;
    begun = begun_dep (p.used ++ p.deep ∷ []) p.begun;
    each = λ ts us b a is e. p.each ts is.between is.value a is.first ((n is.value).may is.between us b is.second e);
  }
  stop_dep old new NoMemory p = tt

module _ {A B : Type 0} (P : Phrase A) (Q : A → Phrase B) (Ends Ends' : Follow) (n : (a : A) → Behind Ends (Q a) Ends') (old mid new : List Token) (a : A) (p : HasPhrase P Ends old mid a) where
  dep_ok : (b : B) → HasPhrase (Q a) Ends' mid new b → HasPhrase (Dep P Q) Ends' old new b
  dep_ok b q = record {
    used = p.used ++ q.used;
    read = read_more p.read q.read;
    is = λ us e l.
        let is_q = q.is us e l in
        let ms : List Lexeme = q.used ++ us in
        let is_p = p.is ms ((n a).may ms us b is_q e) (else_front q.read.front new mid q.used us q.read.are q.read.split l) in
        record { value = a; between = ms; first = subst (λ ts. P ts ms a) (sym (append_assoc p.used q.used us)) is_p; second = is_q };
    only = λ ts us other agree is e.
        let one = p.only ts is.between is.value (agree_front p.read q.read agree) is.first ((n is.value).may is.between us other is.second e) in
        let two = q.only is.between us other (agree_back is.between p.read q.read agree one.0) (subst (λ x. Q x is.between us other) one.1 is.second) e in
        (one.0 ∙ ap (λ xs. p.used ++ xs) two.0 ∙ sym (append_assoc p.used q.used us), two.1);
  }

  begun_behind : (fs rs : List Token) (us : List Lexeme) → AreLexemesOf fs us → mid ≡ fs ++ rs → CanBegin (Q a) Ends' us → CanBegin (Dep P Q) Ends' (p.used ++ us)
  begun_behind [] rs [] are h c = let m = n a in record {
    rest = m.stands.begun.rest;
    tree = m.stands.begun.tree;
    is = λ us e.
        let q = m.stands.begun.is us e in
        let ms : List Lexeme = m.stands.begun.rest ++ us in
        let one = p.is ms (m.may ms us m.stands.begun.tree q e) (inr (m.stands.no_else us e)) in
        record { value = a; between = ms; first = subst (λ ts. P ts ms a) (ap (λ xs. xs ++ ms) (sym (append-nil p.used)) ∙ sym (append_assoc (p.used ++ []) m.stands.begun.rest us)) one; second = q };
  }
  begun_behind [] rs (u ∷ us) are h c = absurd are
  begun_behind (f ∷ fs) rs [] are h c = absurd are
  begun_behind (f ∷ fs) rs (u ∷ us) are h c = record {
    rest = c.rest;
    tree = c.tree;
    is = λ vs e.
        let q = c.is vs e in
        let ms : List Lexeme = u ∷ us ++ c.rest ++ vs in
        let l : ElseAsNext mid ms = subst (λ ts. ElseAsNext ts ms) (sym h) (else_alike (f ∷ (fs ++ rs)) ms are.0) in
        let one = p.is ms ((n a).may ms vs c.tree q e) l in
        record { value = a; between = ms; first = subst (λ ts. P ts ms a) (regroup p.used (u ∷ us) c.rest vs) one; second = q };
  }

  none_dep : (used : List Lexeme) → HasRead mid new used → ((ts us : List Lexeme) (b : B) → Agree mid new ts → Q a ts us b → Ends' us → ⊥) → (ts us : List Lexeme) (b : B) → Agree old new ts → Dep P Q ts us b → Ends' us → ⊥
  none_dep used r none ts us b agree is e =
      let one = p.only ts is.between is.value (agree_front p.read r agree) is.first ((n is.value).may is.between us b is.second e) in
      none is.between us b (agree_back is.between p.read r agree one.0) (subst (λ x. Q x is.between us b) one.1 is.second) e

  deep_dep : (used : List Lexeme) → HasRead mid new used → ((ts us : List Lexeme) (b : B) → Agree mid new ts → Q a ts us b → Ends' us → IsDeepBehind used ts)
      → (ts us : List Lexeme) (b : B) → Agree old new ts → Dep P Q ts us b → Ends' us → IsDeepBehind (p.used ++ used) ts
  deep_dep used r each ts us b agree is e =
      let one = p.only ts is.between is.value (agree_front p.read r agree) is.first ((n is.value).may is.between us b is.second e) in
      deep_more p.used used ts is.between one.0 (each is.between us b (agree_back is.between p.read r agree one.0) (subst (λ x. Q x is.between us b) one.1 is.second) e)

  dep_so : (r : Result B Stop) → Says (Q a) Ends' mid new r → Says (Dep P Q) Ends' old new r
  dep_so (Ok b) q = dep_ok b q
  dep_so (Err Unexpected) q = record {
    used = p.used ++ q.used;
    read = read_more p.read q.read;
    begun = begun_behind q.read.front new q.used q.read.are q.read.split q.begun;
    none = none_dep q.used q.read q.none;
  }
  dep_so (Err TooNested) q = record {
    used = p.used ++ q.used;
    read = read_more p.read q.read;
    token = q.token;
    rest = q.rest;
    next = q.next;
    deep = q.deep;
    is_next = q.is_next;
    too_deep = q.too_deep;
    begun =
        let c = begun_behind (q.read.front ++ q.token ∷ []) q.rest (q.used ++ q.deep ∷ []) (are_append q.read.front (q.token ∷ []) q.used (q.deep ∷ []) q.read.are (q.is_next, tt))
        (q.read.split ∙ ap (λ xs. q.read.front ++ xs) q.next ∙ sym (append_assoc q.read.front (q.token ∷ []) q.rest)) q.begun in
        subst (λ xs. CanBegin (Dep P Q) Ends' xs) (sym (append_assoc p.used q.used (q.deep ∷ []))) c;
    each = deep_dep q.used q.read q.each;
  }
  dep_so (Err NoMemory) q = tt

-- The first of two phrases stops.
pub dep_stop : {A B : Type 0} {P : Phrase A} (Q : A → Phrase B) {Ends Ends' : Follow} {old new : List Token} {s : Stop} → ((a : A) → Behind Ends (Q a) Ends') → Parses P Ends old new (Err s) → Parses (Dep P Q) Ends' old new (Err s)
dep_stop {A} {B} {P} Q {Ends} {Ends'} {old} {new} {s} n p = record { so = stop_dep P Q Ends Ends' n old new s p.so }

-- The first of two phrases was read, and the second one gave this answer.
pub dep_seq : {A B : Type 0} {P : Phrase A} (Q : A → Phrase B) {Ends Ends' : Follow} {old mid new : List Token} {a : A} {r : Result B Stop} → ((a : A) → Behind Ends (Q a) Ends') → Parses P Ends old mid (Ok a) → Parses (Q a) Ends' mid new r → Parses (Dep P Q) Ends' old new r
dep_seq {A} {B} {P} Q {Ends} {Ends'} {old} {mid} {new} {a} {r} n p q = record { so = dep_so P Q Ends Ends' n old mid new a p.so r q.so }
