-- Lists of tokens and the lexemes that they are.
use Rattle.std.proofs.Common.{◌≡◌, ◌≢◌, ◌≤◌, ℕ, Bool, true, false, List, [], ◌∷◌, ◌++◌, ◌⊎◌, inl, inr, refl, sym, ◌∙◌, ap, subst, append_assoc}
use Rattle.std.proofs.lemmas.List.{append_cancel_right, append-nil}
use Rattle.std.proofs.lemmas.List.Elements.{All-append, All-nil, All-cons}
use Rattle.std.proofs.lemmas.Bool.{false≢true}
use Rattle.std.specs.List.{All}
use Rattle.do_lex.specs.declared.kind.Kind.{Kind}
use Rattle.do_lex.specs.declared.kind.Kind.TheVariants as kind
use Rattle.do_lex.specs.declared.kind.Keyword.TheVariants as key
use Rattle.do_lex.specs.declared.tokens.Token.{Token}
use Rattle.do_tree.specs.Accepts.{most_inside, IsShallow}
use Rattle.do_tree.specs.Grammar.{BeginsWithNo}
use Rattle.do_tree.specs.Lexeme.{Lexeme, place}
use Rattle.do_parse.specs.Parsed.{IsLexeme, AreLexemesOf, BeginAlike, HasRead, Agree, ElseIsNext, ElseAsNext}

-- a list without its first element
pub tail_of : {A : Type 0} → List A → List A
tail_of [] = []
tail_of (x ∷ xs) = xs

pub tails_alike : {A : Type 0} (x y : A) (xs ys : List A) → x ∷ xs ≡ y ∷ ys → xs ≡ ys
unfolding tail_of
tails_alike x y xs ys h = ap tail_of h

-- whether there is one
abbrev pub has_some : {A : Type 0} → List A → Bool
has_some [] = false
has_some (x ∷ xs) = true

-- the first element, if there is one
pub head_or : {A : Type 0} → A → List A → A
head_or d [] = d
head_or d (x ∷ xs) = x

pub heads_alike : {A : Type 0} (x y : A) (xs ys : List A) → x ∷ xs ≡ y ∷ ys → x ≡ y
unfolding head_or
heads_alike x y xs ys h = ap (head_or x) h

-- the lexemes of tokens, and then of more tokens
pub are_append : (fs gs : List Token) (us vs : List Lexeme) → AreLexemesOf fs us → AreLexemesOf gs vs → AreLexemesOf (fs ++ gs) (us ++ vs)
are_append [] gs [] vs a b = b
are_append [] gs (u ∷ us) vs a b = absurd a
are_append (f ∷ fs) gs [] vs a b = absurd a
are_append (f ∷ fs) gs (u ∷ us) vs a b = (a.0, are_append fs gs us vs a.1 b)

-- the lexemes of two lists of tokens are cut where these meet
pub record Cut (fs gs : List Token) (ls : List Lexeme) : Type 0 where
  pub front : List Lexeme
  pub back : List Lexeme
  pub parts : ls ≡ front ++ back
  pub are_front : AreLexemesOf fs front
  pub are_back : AreLexemesOf gs back

pub are_cut : (fs gs : List Token) (ls : List Lexeme) → AreLexemesOf (fs ++ gs) ls → Cut fs gs ls
are_cut [] gs ls a = record { front = []; back = ls; parts = refl; are_front = tt; are_back = a }
are_cut (f ∷ fs) gs [] a = absurd a
are_cut (f ∷ fs) gs (l ∷ ls) a =
    let c = are_cut fs gs ls a.1 in
    record { front = l ∷ c.front; back = c.back; parts = ap (λ xs. l ∷ xs) c.parts; are_front = (a.0, c.are_front); are_back = c.are_back }

-- what stands behind the lexemes of the same tokens
pub same_behind : (fs : List Token) (us vs ms ns : List Lexeme) → AreLexemesOf fs us → AreLexemesOf fs vs → us ++ ms ≡ vs ++ ns → ms ≡ ns
same_behind [] [] [] ms ns a b h = h
same_behind [] (u ∷ us) vs ms ns a b h = absurd a
same_behind [] [] (v ∷ vs) ms ns a b h = absurd b
same_behind (f ∷ fs) [] vs ms ns a b h = absurd a
same_behind (f ∷ fs) (u ∷ us) [] ms ns a b h = absurd b
same_behind (f ∷ fs) (u ∷ us) (v ∷ vs) ms ns a b h = same_behind fs us vs ms ns a.1 b.1 (tails_alike u v (us ++ ms) (vs ++ ns) h)

-- the lexemes of some tokens begin as these do
pub begin_front : (fs gs : List Token) (us ms : List Lexeme) → AreLexemesOf fs us → BeginAlike gs ms → BeginAlike (fs ++ gs) (us ++ ms)
begin_front [] gs [] ms a b = b
begin_front [] gs (u ∷ us) ms a b = absurd a
begin_front (f ∷ fs) gs [] ms a b = absurd a
begin_front (f ∷ fs) gs (u ∷ us) ms a b = a.0

-- lexemes that agree with the tokens that were read begin as these
pub begins_so : {old new : List Token} {ts : List Lexeme} → Agree old new ts → BeginAlike old ts
begins_so {old} {new} {ts} a =
    let at_split = begin_front a.front new a.begin a.back a.are a.next in
    subst (λ xs. BeginAlike old xs) (sym a.parts) (subst (λ fs. BeginAlike fs (a.begin ++ a.back)) (sym a.split) at_split)

-- nothing was read yet
pub read_nothing : (old : List Token) → HasRead old old []
read_nothing old = record { front = []; split = refl; are = tt; shallow = All-nil (λ t. t.inside ≤ most_inside) }

pub agree_start : {old : List Token} {ts : List Lexeme} → BeginAlike old ts → Agree old old ts
agree_start {old} {ts} b = record { front = []; split = refl; begin = []; back = ts; parts = refl; are = tt; next = b }

-- some tokens were read, and then some more
two_splits : {old mid new : List Token} {us vs : List Lexeme} (r : HasRead old mid us) (s : HasRead mid new vs) → old ≡ (r.front ++ s.front) ++ new
two_splits {old} {mid} {new} r s = r.split ∙ ap (λ xs. r.front ++ xs) s.split ∙ sym (append_assoc r.front s.front new)

pub read_more : {old mid new : List Token} {us vs : List Lexeme} → HasRead old mid us → HasRead mid new vs → HasRead old new (us ++ vs)
read_more {old} {mid} {new} {us} {vs} r s = record {
  front = r.front ++ s.front;
  split = two_splits r s;
  are = are_append r.front s.front us vs r.are s.are;
  shallow = All-append (λ t. t.inside ≤ most_inside) us vs r.shallow s.shallow;
}

-- lexemes that agree with the tokens read by two, taken apart
record Parts (front back : List Token) (new : List Token) (ts : List Lexeme) : Type 0 where
  one : List Lexeme
  two : List Lexeme
  rest : List Lexeme
  parts : ts ≡ one ++ (two ++ rest)
  are_one : AreLexemesOf front one
  are_two : AreLexemesOf back two
  next : BeginAlike new rest

parts_of : {old mid new : List Token} {us vs ts : List Lexeme} (r : HasRead old mid us) (s : HasRead mid new vs) → Agree old new ts → Parts r.front s.front new ts
parts_of {old} {mid} {new} {us} {vs} {ts} r s a =
    let same : a.front ≡ r.front ++ s.front = append_cancel_right a.front (r.front ++ s.front) new (sym a.split ∙ two_splits r s) in
    let c = are_cut r.front s.front a.begin (subst (λ fs. AreLexemesOf fs a.begin) same a.are) in
    record {
      one = c.front;
      two = c.back;
      rest = a.back;
      parts = a.parts ∙ ap (λ xs. xs ++ a.back) c.parts ∙ append_assoc c.front c.back a.back;
      are_one = c.are_front;
      are_two = c.are_back;
      next = a.next;
    }

-- lexemes that agree with all the tokens read agree with the first ones
pub agree_front : {old mid new : List Token} {us vs ts : List Lexeme} → HasRead old mid us → HasRead mid new vs → Agree old new ts → Agree old mid ts
agree_front {old} {mid} {new} {us} {vs} {ts} r s a =
    let p = parts_of r s a in
    record {
      front = r.front;
      split = r.split;
      begin = p.one;
      back = p.two ++ p.rest;
      parts = p.parts;
      are = p.are_one;
      next = subst (λ fs. BeginAlike fs (p.two ++ p.rest)) (sym s.split) (begin_front s.front new p.two p.rest p.are_two p.next);
    }

-- and what stands behind these agrees with the others
pub agree_back : {old mid new : List Token} {us vs ts : List Lexeme} (ms : List Lexeme) → HasRead old mid us → HasRead mid new vs → Agree old new ts → ts ≡ us ++ ms → Agree mid new ms
agree_back {old} {mid} {new} {us} {vs} {ts} ms r s a h =
    let p = parts_of r s a in
    record {
      front = s.front;
      split = s.split;
      begin = p.two;
      back = p.rest;
      parts = same_behind r.front us p.one ms (p.two ++ p.rest) r.are p.are_one (sym h ∙ p.parts);
      are = p.are_two;
      next = p.next;
    }

-- whether a kind is the one of `else`
abbrev pub is_else : Kind → Bool
is_else (kind.Keyword key.Else) = true
is_else _ = false

pub else_or_not : (k : Kind) → (k ≡ kind.Keyword key.Else) ⊎ (k ≢ kind.Keyword key.Else)
else_or_not (kind.Keyword key.Else) = inl refl
else_or_not _ = inr (λ h. false≢true (ap is_else h))

-- an else is next where the lexemes begin with one, and begin like the tokens
pub else_alike : (new : List Token) (us : List Lexeme) → BeginAlike new us → ElseAsNext new us
else_alike [] [] b = inr tt
else_alike [] (u ∷ us) b = absurd b
else_alike (t ∷ ts) [] b = inr tt
else_alike (t ∷ ts) (u ∷ us) b =
    elim (else_or_not t.kind) [ inl h ↦ inl h | inr h ↦ inr (λ e. h (sym b.kind ∙ e)) ]

-- a list with an element has some
pub cons_some : {A : Type 0} (x : A) (xs : List A) → x ∷ xs ≡ [] → ⊥
cons_some x xs h = false≢true (sym (ap has_some h))

-- where no lexeme was used, no token was read
no_front : (fs : List Token) (us : List Lexeme) → AreLexemesOf fs us → us ≡ [] → fs ≡ []
no_front [] us a h = refl
no_front (f ∷ fs) [] a h = absurd a
no_front (f ∷ fs) (u ∷ us) a h = absurd (cons_some u us h)

pub nothing_used : {old new : List Token} {us : List Lexeme} → HasRead old new us → us ≡ [] → old ≡ new
nothing_used {old} {new} {us} r h = r.split ∙ ap (λ fs. fs ++ new) (no_front r.front us r.are h)

-- and the other way round
no_used : (fs : List Token) (us : List Lexeme) → AreLexemesOf fs us → fs ≡ [] → us ≡ []
no_used [] [] a h = refl
no_used [] (u ∷ us) a h = absurd a
no_used (f ∷ fs) us a h = absurd (cons_some f fs h)

pub nothing_between : {old : List Token} {us : List Lexeme} → HasRead old old us → us ≡ []
nothing_between {old} {us} r = no_used r.front us r.are (append_cancel_right r.front [] old (sym r.split))
