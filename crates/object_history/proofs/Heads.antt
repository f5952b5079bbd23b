-- The first entry of a line is of the incarnation before, or the first of the newest that wasn't taken.
use Rattle.std.proofs.Common.{◌≡◌, ◌∙◌, ap, sym, subst, refl, ℕ, suc, List, [], ◌∷◌, ◌++◌, append_assoc, length, arith}
use Rattle.std.proofs.lemmas.List.{length_push}
use Rattle.std.proofs.lemmas.List.Elements.{All-nil, All-head, All-tail}
use Rattle.std.specs.Prelude.{false}
use Rattle.std.specs.List.{All}
use Rattle.timeline.specs.Intake.{Front, numbered}
use Rattle.timeline.specs.Logs.{Fronted}
use Rattle.timeline.specs.Passed.{is_mend}
use Rattle.timeline.specs.declared.entry.Body.{Body}
use Rattle.timeline.specs.declared.entry.Entry.{Entry}
use Rattle.object_history.proofs.Entries.{numbered_last, entries_more, entries_same}
use Rattle.object_history.specs.Pair.{IsLine}

abbrev pub entry : ℕ → ℕ → Body → Entry
entry i n b = record { incarnation = i; number = n; body = b }

-- Where the line begins with an entry, what it is and what stays.
pub data Head (i n : ℕ) (e : Entry) (line : List Entry) : List Entry → List Body → Type 0 where
  is_own : (b : Body) (more : List Body) → e ≡ entry i n b → line ≡ numbered i (suc n) more → Head i n e line [] (b ∷ more)
  is_late : (x : Entry) (late : List Entry) (unread : List Body) → e ≡ x → line ≡ late ++ numbered i n unread → Head i n e line (x ∷ late) unread

first_is : {x y : Entry} {xs ys : List Entry} → x ∷ xs ≡ y ∷ ys → x ≡ y
first_is is = cc

rest_is : {x y : Entry} {xs ys : List Entry} → x ∷ xs ≡ y ∷ ys → xs ≡ ys
rest_is is = cc

pub head_of : (i n : ℕ) (e : Entry) (line late : List Entry) (unread : List Body) → e ∷ line ≡ late ++ numbered i n unread → Head i n e line late unread
head_of i n e line [] [] is = absurd cc
head_of i n e line [] (b ∷ more) is = is_own b more (first_is is) (rest_is is)
head_of i n e line (x ∷ late) unread is = is_late x late unread (first_is is) (rest_is is)

pub some_late : (x : Entry) (late all : List Entry) → all ≡ x ∷ late → all ≡ [] → ⊥
some_late x late all some none = cc

module _ (f : Front) (front : Fronted) (taken : List Entry) (e : Entry) (line : List Entry) (was : IsLine f front taken (e ∷ line)) where
  pub sent_on : front.sent ≡ (taken ++ e ∷ []) ++ line
  sent_on = was.sent ∙ sym (append_assoc taken (e ∷ []) line)

  -- the first one that wasn't taken is taken
  abbrev pub own_taken : (b : Body) (more : List Body) → was.unread ≡ b ∷ more → e ≡ entry f.incarnation (suc (length was.read)) b
      → line ≡ numbered f.incarnation (suc (suc (length was.read))) more → IsLine f front (taken ++ e ∷ []) line
  own_taken b more some is rest = record {
    sent = sent_on;
    read = was.read ++ b ∷ [];
    unread = more;
    late = [];
    said = was.said ∙ ap (λ (bodies : List Body). was.read ++ bodies) some ∙ sym (append_assoc was.read (b ∷ []) more);
    is_line = rest ∙ ap (λ (n : ℕ). numbered f.incarnation (suc n) more) (omega (arith, length_push was.read b));
    lates = All-nil (λ (x : Entry). suc x.incarnation ≡ f.incarnation);
    first = λ none. absurd (none refl);
    no_wish = All-nil (λ (x : Entry). is_mend x.body ≡ false);
    own = entries_more f.incarnation taken e (ap (λ (x : Entry). x.incarnation) is)
        ∙ ap (λ (entries : List Entry). entries ++ e ∷ []) was.own
        ∙ ap (λ (x : Entry). numbered f.incarnation 1 was.read ++ x ∷ []) is
        ∙ sym (numbered_last f.incarnation 1 was.read b (suc (length was.read)) (omega arith));
  }

  -- one of the incarnation before is
  pub late_is : (x : Entry) (late : List Entry) → was.late ≡ x ∷ late → e ≡ x → suc e.incarnation ≡ f.incarnation
  late_is x late some is = ap (λ (y : Entry). suc y.incarnation) is
      ∙ All-head (λ (y : Entry). suc y.incarnation ≡ f.incarnation) x late (subst (λ (all : List Entry). All (λ (y : Entry). suc y.incarnation ≡ f.incarnation) all) some was.lates)

  abbrev pub late_taken : (x : Entry) (late : List Entry) → was.late ≡ x ∷ late → e ≡ x
      → line ≡ late ++ numbered f.incarnation (suc (length was.read)) was.unread → IsLine f front (taken ++ e ∷ []) line
  late_taken x late some is rest = record {
    sent = sent_on;
    read = was.read;
    unread = was.unread;
    late = late;
    said = was.said;
    is_line = rest;
    lates = All-tail (λ (y : Entry). suc y.incarnation ≡ f.incarnation) x late (subst (λ (all : List Entry). All (λ (y : Entry). suc y.incarnation ≡ f.incarnation) all) some was.lates);
    first = λ some_more. was.first (some_late x late was.late some);
    no_wish = All-tail (λ (y : Entry). is_mend y.body ≡ false) x late (subst (λ (all : List Entry). All (λ (y : Entry). is_mend y.body ≡ false) all) some was.no_wish);
    own = entries_same f.incarnation taken e (λ same. omega (arith, same, late_is x late some is)) ∙ was.own;
  }
