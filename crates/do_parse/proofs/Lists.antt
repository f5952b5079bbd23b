-- Lists of phrases, as loops read them, and phrases that begin with a token.
use Rattle.std.proofs.Common.{◌≡◌, ◌≢◌, ℕ, Bool, true, false, List, [], ◌∷◌, ◌++◌, ◌⊎◌, Option, Some, None, Result, Ok, Err, inl, inr, refl, sym, ◌∙◌, ap, subst, append_assoc}
use Rattle.std.proofs.lemmas.List.{append-nil}
use Rattle.std.proofs.lemmas.Option.{none-some}
use Rattle.do_lex.specs.declared.kind.Kind.{Kind}
use Rattle.do_lex.specs.declared.kind.Kind.TheVariants as kind
use Rattle.do_lex.specs.declared.kind.Keyword.TheVariants as key
use Rattle.do_lex.specs.declared.kind.Mark.TheVariants as mark
use Rattle.do_lex.specs.declared.tokens.Token.{Token}
use Rattle.do_tree.specs.Grammar.{TakesMark, BeginsWithNo}
use Rattle.do_tree.specs.Lexeme.{Lexeme, place}
use Rattle.do_parse.specs.declared.stop.Stop.{Stop}
use Rattle.do_parse.specs.declared.stop.Stop.TheVariants.{Unexpected, TooNested, NoMemory}
use Rattle.do_parse.specs.Lists.{BeginsWith, Starting, Repeat, CommaList}
use Rattle.do_parse.specs.Lists.Repeat.{stop as rep_stop, again}
use Rattle.do_parse.specs.Lists.CommaList.{none, last, last_comma, more}
use Rattle.do_parse.specs.Parsed.{BeginAlike, HasRead, Agree, Phrase, Follow, Anything, ends_by, ElseAsNext, HasPhrase, CanBegin, IsWrongNext, IsTooDeepNext, Says, Parses}
use Rattle.do_parse.specs.Starts.{kind_next}
use Rattle.do_parse.specs.Then.{Then, At, with_tree}
use Rattle.do_parse.proofs.Tokens.{begins_so, read_nothing, head_or}
use Rattle.do_parse.proofs.Sequence.{Stands, Behind, Same, seq, stop, read_as}
use Rattle.do_parse.proofs.Facts.{BeginsBy, takes_begins}

-- what is in an option
kind_or : Kind → Option Kind → Kind
kind_or k None = k
kind_or k (Some x) = x

-- what begins like the next token begins with its kind
pub begins_with : (old : List Token) (k : Kind) (ts : List Lexeme) → kind_next old ≡ Some k → BeginAlike old ts → BeginsWith k ts
unfolding kind_or
begins_with [] k ts h b = absurd (none-some k h)
begins_with (t ∷ old) k [] h b = absurd b
begins_with (t ∷ old) k (l ∷ ts) h b = b.kind ∙ ap (kind_or k) h

-- What begins like the tokens can't stand behind the phrase.
pub record NotBehind (Ends : Follow) (now : List Token) : Type 0 where
  pub refuses : (ts : List Lexeme) → BeginAlike now ts → Ends ts → ⊥

-- What begins like the tokens is none of these phrases.
pub record NoneBegins {A : Type 0} (P : Phrase A) (now : List Token) : Type 0 where
  pub refuses : (ts us : List Lexeme) (a : A) → BeginAlike now ts → P ts us a → ⊥

-- with a kind next, what may not stand behind: another kind
pub not_behind : (now : List Token) (k : Kind) → ¬ (kind_next now ≡ Some k) → NotBehind (BeginsWith k) now
not_behind [] k h = record { refuses = refused }
  where
    refused : (ts : List Lexeme) → BeginAlike [] ts → BeginsWith k ts → ⊥
    refused [] b e = e
    refused (t ∷ ts) b e = b
not_behind (t ∷ now) k h = record { refuses = refused }
  where
    refused : (ts : List Lexeme) → BeginAlike (t ∷ now) ts → BeginsWith k ts → ⊥
    refused [] b e = b
    refused (l ∷ ts) b e = h (ap (λ x. Some x) (sym b.kind ∙ e))

module _ {A : Type 0} (P : Phrase A) (k : Kind) (Ends : Follow) (old new : List Token) (h : kind_next old ≡ Some k) where
  started_so : (r : Result A Stop) → Says (Starting k P) Ends old new r → Says P Ends old new r
  started_so (Ok b) p = record {
    used = p.used;
    read = p.read;
    is = λ us e l. (p.is us e l).1;
    only = λ ts us other agree is e. p.only ts us other agree (begins_with old k ts h (begins_so agree), is) e;
  }
  started_so (Err Unexpected) p = record {
    used = p.used;
    read = p.read;
    begun = record { rest = p.begun.rest; tree = p.begun.tree; is = λ us e. (p.begun.is us e).1 };
    none = λ ts us other agree is e. p.none ts us other agree (begins_with old k ts h (begins_so agree), is) e;
  }
  started_so (Err TooNested) p = record {
    used = p.used;
    read = p.read;
    token = p.token;
    rest = p.rest;
    next = p.next;
    deep = p.deep;
    is_next = p.is_next;
    too_deep = p.too_deep;
    begun = record { rest = p.begun.rest; tree = p.begun.tree; is = λ us e. (p.begun.is us e).1 };
    each = λ ts us other agree is e. p.each ts us other agree (begins_with old k ts h (begins_so agree), is) e;
  }
  started_so (Err NoMemory) p = tt

-- The phrase that begins with the next token's kind.
pub started : {A : Type 0} {P : Phrase A} {k : Kind} {Ends : Follow} {old new : List Token} {r : Result A Stop} → kind_next old ≡ Some k → Parses (Starting k P) Ends old new r → Parses P Ends old new r
started {A} {P} {k} {Ends} {old} {new} {r} h p = record { so = started_so P k Ends old new h r p.so }

-- an answer is the one with the same tree
pub with_same : {A : Type 0} (f : A → A) → ((a : A) → f a ≡ a) → (r : Result A Stop) → with_tree f r ≡ r
with_same f h (Ok a) = ap (λ x. Ok x) (h a)
with_same f h (Err s) = refl

pub with_two : {A B C : Type 0} (f : B → C) (g : A → B) (h : A → C) → ((a : A) → f (g a) ≡ h a) → (r : Result A Stop) → with_tree f (with_tree g r) ≡ with_tree h r
with_two f g h e (Ok a) = ap (λ x. Ok x) (e a)
with_two f g h e (Err s) = refl

-- Nothing of a list is there, where what is next stands behind it.
pub nothing_there : {A : Type 0} {Is : Phrase A} {Ends : Follow} {now : List Token} (empty : A) → ((us : List Lexeme) → Ends us → ElseAsNext now us → Is us us empty)
    → ((ts us : List Lexeme) (a : A) → BeginAlike now ts → Is ts us a → Ends us → (ts ≡ us) × (a ≡ empty)) → Parses Is Ends now now (Ok empty)
nothing_there {A} {Is} {Ends} {now} empty is only = record {
  so = record {
    used = [];
    read = read_nothing now;
    is = is;
    only = λ ts us a agree i e. only ts us a (begins_so agree) i e;
  };
}

-- A list of elements, and what is to come of it at some place: L is the list from there on.
pub record Grows {A : Type 0} (Whole : Phrase (List A)) (L : Phrase (List A)) (E : Follow) (start now : List Token) (so_far : List A) : Type 0 where
  pub goes : (new : List Token) (r : Result (List A) Stop) → Parses L E now new r → Parses Whole E start new (with_tree (λ xs. so_far ++ xs) r)

-- a list begins
pub grows_first : {A : Type 0} {L : Phrase (List A)} {E : Follow} (start : List Token) → Grows L L E start start []
grows_first {A} {L} {E} start = record {
  goes = λ new r p. subst (λ x. Parses L E start new x) (sym (with_same (λ xs. [] ++ xs) (λ xs. refl) r)) p;
}

-- one more element
pub grows_by : {A : Type 0} {Whole L M : Phrase (List A)} {E : Follow} {start now mid : List Token} {so_far : List A} (x : A)
    → Grows Whole L E start now so_far
    → ((new : List Token) (r : Result (List A) Stop) → Parses M E mid new r → Parses L E now new (with_tree (λ xs. x ∷ xs) r))
    → Grows Whole M E start mid (so_far ++ x ∷ [])
grows_by {A} {Whole} {L} {M} {E} {start} {now} {mid} {so_far} x g one = record {
  goes = λ new r p.
      subst (λ y. Parses Whole E start new y)
      (with_two (λ xs. so_far ++ xs) (λ xs. x ∷ xs) (λ xs. so_far ++ x ∷ [] ++ xs) (λ xs. sym (append_assoc so_far (x ∷ []) xs)) r)
      (g.goes new (with_tree (λ xs. x ∷ xs) r) (one new r p));
}

-- the list ends
pub grows_end : {A : Type 0} {Whole L : Phrase (List A)} {E : Follow} {start now : List Token} {so_far : List A} → Grows Whole L E start now so_far → Parses L E now now (Ok []) → Parses Whole E start now (Ok so_far)
grows_end {A} {Whole} {L} {E} {start} {now} {so_far} g p =
    subst (λ xs. Parses Whole E start now (Ok xs)) (append-nil so_far) (g.goes now (Ok []) p)

-- or an element stops it
pub grows_stop : {A : Type 0} {Whole L : Phrase (List A)} {E : Follow} {start now new : List Token} {so_far : List A} {s : Stop} → Grows Whole L E start now so_far → Parses L E now new (Err s) → Parses Whole E start new (Err s)
grows_stop {A} {Whole} {L} {E} {start} {now} {new} {so_far} {s} g p = g.goes new (Err s) p

-- a list of phrases that isn't empty is one of them and more
from_repeat : {A : Type 0} {P : Phrase A} {E : Follow} (now : List Token) → NotBehind E now → (ts us : List Lexeme) (xs : List A) → BeginAlike now ts → Repeat P ts us xs → E us → (b : A × List A) × (xs ≡ b.0 ∷ b.1) × Then P (Repeat P) ts us b
from_repeat now h ts us [] b rep_stop e = absurd (h.refuses ts b e)
from_repeat now h ts us (x ∷ xs) b (again p r) e = ((x, xs), refl, record { between = _; first = p; second = r })

pub repeat_same : {A : Type 0} (P : Phrase A) (E : Follow) (now : List Token) → NotBehind E now → Same (Repeat P) (Then P (Repeat P)) (λ b. b.0 ∷ b.1) E now
repeat_same P E now h = record {
  to = λ ts us b t. again t.first t.second;
  from = from_repeat now h;
}

-- One more element of a repetition.
pub repeat_more : {A : Type 0} {P : Phrase A} {E1 E : Follow} {Whole : Phrase (List A)} {start now mid : List Token} {so_far : List A} {x : A}
    → Behind E1 (Repeat P) E → NotBehind E now → Grows Whole (Repeat P) E start now so_far → Parses P E1 now mid (Ok x) → Grows Whole (Repeat P) E start mid (so_far ++ x ∷ [])
repeat_more {A} {P} {E1} {E} {Whole} {start} {now} {mid} {so_far} {x} n h g p =
    grows_by x g (λ new r q. subst (λ y. Parses (Repeat P) E now new y) (with_two (λ b. b.0 ∷ b.1) (λ xs. (x, xs)) (λ xs. x ∷ xs) (λ xs. refl) r) (read_as (repeat_same P E now h) (seq n p q)))

-- An element stops a repetition.
pub repeat_stop : {A : Type 0} {P : Phrase A} {E1 E : Follow} {Whole : Phrase (List A)} {start now new : List Token} {so_far : List A} {s : Stop}
    → Behind E1 (Repeat P) E → NotBehind E now → Grows Whole (Repeat P) E start now so_far → Parses P E1 now new (Err s) → Parses Whole E start new (Err s)
repeat_stop {A} {P} {E1} {E} {Whole} {start} {now} {new} {so_far} {s} n h g p = grows_stop g (read_as (repeat_same P E now h) (stop n p))

-- A repetition ends.
end_repeat : {A : Type 0} {P : Phrase A} (now : List Token) → NoneBegins P now → (ts us : List Lexeme) (xs : List A) → BeginAlike now ts → Repeat P ts us xs → (ts ≡ us) × (xs ≡ [])
end_repeat now h ts us [] b rep_stop = (refl, refl)
end_repeat now h ts us (x ∷ xs) b (again p r) = absurd (h.refuses ts _ x b p)

pub repeat_end : {A : Type 0} {P : Phrase A} {E : Follow} {Whole : Phrase (List A)} {start now : List Token} {so_far : List A} → NoneBegins P now → Grows Whole (Repeat P) E start now so_far → Parses Whole E start now (Ok so_far)
repeat_end {A} {P} {E} {Whole} {start} {now} {so_far} h g = grows_end g (nothing_there [] (λ us e l. rep_stop) (λ ts us xs b i e. end_repeat now h ts us xs b i))

-- What may stand behind an element of a repetition: another one, or what stands behind the list.
pub behind_repeat : {A : Type 0} {P : Phrase A} {E1 E : Follow} → BeginsBy P E1 → ((us : List Lexeme) → E us → E1 us) → ((us : List Lexeme) → E us → BeginsWithNo (kind.Keyword key.Else) us) → Behind E1 (Repeat P) E
behind_repeat {A} {P} {E1} {E} b h other = record {
  may = may_be;
  stands = record { begun = record { rest = []; tree = []; is = λ us e. rep_stop }; no_else = other };
}
  where
    may_be : (ts us : List Lexeme) (xs : List A) → Repeat P ts us xs → E us → E1 ts
    may_be ts us [] rep_stop e = h us e
    may_be ts us (x ∷ xs) (again p r) e = b.may ts _ x p

-- What stands behind an element of a list with commas: nothing, or a comma and the rest of the list.
pub data CommaTail {A : Type 0} (P : Phrase A) (d : ℕ) : List Lexeme → List Lexeme → List A → Type 0 where
  tail_none : {ts : List Lexeme} → CommaTail P d ts ts []
  tail_comma : {ts us vs : List Lexeme} {xs : List A} → TakesMark mark.Comma d ts us → CommaList P d us vs xs → CommaTail P d ts vs xs

to_comma : {A : Type 0} {P : Phrase A} {d : ℕ} (ts ms us : List Lexeme) (x : A) (xs : List A) → P ts ms x → CommaTail P d ms us xs → CommaList P d ts us (x ∷ xs)
to_comma ts ms us x [] p tail_none = last p
to_comma ts ms us x [] p (tail_comma t none) = last_comma p t
to_comma ts ms us x (y ∷ ys) p (tail_comma t r) = more p t r

from_comma : {A : Type 0} {P : Phrase A} {E : Follow} (d : ℕ) (now : List Token) → NotBehind E now → (ts us : List Lexeme) (xs : List A) → BeginAlike now ts → CommaList P d ts us xs → E us → (b : A × List A) × (xs ≡ b.0 ∷ b.1) × Then P (CommaTail P d) ts us b
from_comma d now h ts us [] b none e = absurd (h.refuses ts b e)
from_comma d now h ts us (x ∷ []) b (last p) e = ((x, []), refl, record { between = _; first = p; second = tail_none })
from_comma d now h ts us (x ∷ []) b (last_comma p t) e = ((x, []), refl, record { between = _; first = p; second = tail_comma t none })
from_comma d now h ts us (x ∷ y ∷ xs) b (more p t r) e = ((x, y ∷ xs), refl, record { between = _; first = p; second = tail_comma t r })

pub comma_same : {A : Type 0} (P : Phrase A) (d : ℕ) (E : Follow) (now : List Token) → NotBehind E now → Same (CommaList P d) (Then P (CommaTail P d)) (λ b. b.0 ∷ b.1) E now
comma_same P d E now h = record {
  to = λ ts us b t. to_comma ts t.between us b.0 b.1 t.first t.second;
  from = from_comma d now h;
}

from_tail : {A : Type 0} {P : Phrase A} {E : Follow} (d : ℕ) (now : List Token) → NotBehind E now → (ts us : List Lexeme) (xs : List A) → BeginAlike now ts → CommaTail P d ts us xs → E us → (b : ℕ × List A) × (xs ≡ b.1) × Then (At (TakesMark mark.Comma d)) (CommaList P d) ts us b
from_tail d now h ts us [] b tail_none e = absurd (h.refuses ts b e)
from_tail d now h ts us xs b (tail_comma t r) e = ((place ts, xs), refl, record { between = _; first = record { at_is = refl; takes = t }; second = r })

pub tail_same : {A : Type 0} (P : Phrase A) (d : ℕ) (E : Follow) (now : List Token) → NotBehind E now → Same (CommaTail P d) (Then (At (TakesMark mark.Comma d)) (CommaList P d)) (λ b. b.1) E now
tail_same P d E now h = record {
  to = λ ts us b t. tail_comma t.first.takes t.second;
  from = from_tail d now h;
}

-- An element, a comma, and more.
comma_tree : {A : Type 0} (x : A) (at : ℕ) (r : Result (List A) Stop)
    → with_tree (λ (b : A × List A). b.0 ∷ b.1) (with_tree (λ (xs : List A). (x, xs)) (with_tree (λ (b : ℕ × List A). b.1) (with_tree (λ (xs : List A). (at, xs)) r))) ≡ with_tree (λ xs. x ∷ xs) r
comma_tree x at (Ok xs) = refl
comma_tree x at (Err s) = refl

pub comma_more : {A : Type 0} {P : Phrase A} {d : ℕ} {E1 E : Follow} {Whole : Phrase (List A)} {start now mid next : List Token} {so_far : List A} {x : A} {at : ℕ}
    → Behind E1 (CommaTail P d) E → Behind Anything (CommaList P d) E → NotBehind E now → NotBehind E mid → Grows Whole (CommaList P d) E start now so_far
    → Parses P E1 now mid (Ok x) → Parses (At (TakesMark mark.Comma d)) Anything mid next (Ok at) → Grows Whole (CommaList P d) E start next (so_far ++ x ∷ [])
comma_more {A} {P} {d} {E1} {E} {Whole} {start} {now} {mid} {next} {so_far} {x} {at} n m h k g p c =
    grows_by x g (λ new r q.
    let whole = read_as (comma_same P d E now h) (seq n p (read_as (tail_same P d E mid k) (seq m c q))) in
    subst (λ y. Parses (CommaList P d) E now new y) (comma_tree x at r) whole)

-- An element stops the list.
pub comma_stop : {A : Type 0} {P : Phrase A} {d : ℕ} {E1 E : Follow} {Whole : Phrase (List A)} {start now new : List Token} {so_far : List A} {s : Stop}
    → Behind E1 (CommaTail P d) E → NotBehind E now → Grows Whole (CommaList P d) E start now so_far → Parses P E1 now new (Err s) → Parses Whole E start new (Err s)
comma_stop {A} {P} {d} {E1} {E} {Whole} {start} {now} {new} {so_far} {s} n h g p = grows_stop g (read_as (comma_same P d E now h) (stop n p))

-- The comma stops it.
pub comma_comma_stop : {A : Type 0} {P : Phrase A} {d : ℕ} {E1 E : Follow} {Whole : Phrase (List A)} {start now mid new : List Token} {so_far : List A} {x : A} {s : Stop}
    → Behind E1 (CommaTail P d) E → Behind Anything (CommaList P d) E → NotBehind E now → NotBehind E mid → Grows Whole (CommaList P d) E start now so_far
    → Parses P E1 now mid (Ok x) → Parses (At (TakesMark mark.Comma d)) Anything mid new (Err s) → Parses Whole E start new (Err s)
comma_comma_stop {A} {P} {d} {E1} {E} {Whole} {start} {now} {mid} {new} {so_far} {x} {s} n m h k g p c =
    grows_stop g (read_as (comma_same P d E now h) (seq n p (read_as (tail_same P d E mid k) (stop m c))))

-- The last element, with no comma behind it.
end_tail : {A : Type 0} {P : Phrase A} (d : ℕ) (now : List Token) → ¬ (kind_next now ≡ Some (kind.Mark mark.Comma)) → (ts us : List Lexeme) (xs : List A) → BeginAlike now ts → CommaTail P d ts us xs → (ts ≡ us) × (xs ≡ [])
end_tail d now h ts us [] b tail_none = (refl, refl)
end_tail d now h ts us xs b (tail_comma t r) = absurd ((not_behind now (kind.Mark mark.Comma) h).refuses ts b (subst (λ vs. BeginsWith (kind.Mark mark.Comma) vs) (sym t.first) t.kind_is))

pub comma_last : {A : Type 0} {P : Phrase A} {d : ℕ} {E1 E : Follow} {Whole : Phrase (List A)} {start now mid : List Token} {so_far : List A} {x : A}
    → Behind E1 (CommaTail P d) E → NotBehind E now → ¬ (kind_next mid ≡ Some (kind.Mark mark.Comma)) → Grows Whole (CommaList P d) E start now so_far
    → Parses P E1 now mid (Ok x) → Parses Whole E start mid (Ok (so_far ++ x ∷ []))
comma_last {A} {P} {d} {E1} {E} {Whole} {start} {now} {mid} {so_far} {x} n h k g p =
    let tail = nothing_there {Is = CommaTail P d} {Ends = E} [] (λ us e l. tail_none) (λ ts us xs b i e. end_tail d mid k ts us xs b i) in
    g.goes mid (Ok (x ∷ [])) (read_as (comma_same P d E now h) (seq n p tail))

-- The list ends at what stands behind it.
end_comma : {A : Type 0} {P : Phrase A} (d : ℕ) (now : List Token) → NoneBegins P now → (ts us : List Lexeme) (xs : List A) → BeginAlike now ts → CommaList P d ts us xs → (ts ≡ us) × (xs ≡ [])
end_comma d now h ts us [] b none = (refl, refl)
end_comma d now h ts us (x ∷ []) b (last p) = absurd (h.refuses ts _ x b p)
end_comma d now h ts us (x ∷ []) b (last_comma p t) = absurd (h.refuses ts _ x b p)
end_comma d now h ts us (x ∷ y ∷ xs) b (more p t r) = absurd (h.refuses ts _ x b p)

pub comma_end : {A : Type 0} {P : Phrase A} {d : ℕ} {E : Follow} {Whole : Phrase (List A)} {start now : List Token} {so_far : List A} → NoneBegins P now → Grows Whole (CommaList P d) E start now so_far → Parses Whole E start now (Ok so_far)
comma_end {A} {P} {d} {E} {Whole} {start} {now} {so_far} h g = grows_end g (nothing_there [] (λ us e l. none) (λ ts us xs b i e. end_comma d now h ts us xs b i))

-- What may stand behind an element: a comma, or what stands behind the list; and behind a comma.
pub behind_element : {A : Type 0} (P : Phrase A) (d : ℕ) {E : Follow} (may : Kind → Bool) → may (kind.Mark mark.Comma) ≡ true → ((us : List Lexeme) → E us → ends_by may us) → ((us : List Lexeme) → E us → BeginsWithNo (kind.Keyword key.Else) us) → Behind (ends_by may) (CommaTail P d) E
behind_element {A} P d {E} test comma h other = record {
  may = may_be;
  stands = record { begun = record { rest = []; tree = []; is = λ us e. tail_none }; no_else = other };
}
  where
    may_be : (ts us : List Lexeme) (xs : List A) → CommaTail P d ts us xs → E us → ends_by test ts
    may_be ts us [] tail_none e = h us e
    may_be ts us xs (tail_comma t r) e = takes_begins test comma t

pub behind_comma : {A : Type 0} (P : Phrase A) (d : ℕ) {E : Follow} → ((us : List Lexeme) → E us → BeginsWithNo (kind.Keyword key.Else) us) → Behind Anything (CommaList P d) E
behind_comma P d other = record {
  may = λ ts us xs l e. tt;
  stands = record { begun = record { rest = []; tree = []; is = λ us e. none }; no_else = other };
}
