-- An object keeps its slot.
use Rattle.std.proofs.Common.{◌≡◌, ◌<◌, ℕ, zero, suc, inl, inr, List, [], ◌∷◌, length, get_or, set, Option, Some, None, Err, true, false, refl, sym, ap, ◌∙◌, true≢false, arith}
use Rattle.std.specs.Prelude.{Result, slice_get}
use Rattle.std.proofs.lemmas.Bool.{cases_eq, and_parts, and_from}
use Rattle.std.proofs.lemmas.List.Quantifiers.{position-Some}
use Rattle.std.proofs.lemmas.Option.{none-some, slice_get-get_or}
use Rattle.std.proofs.lemmas.Slice.Eq.{bytes_eq-Decides}
use Rattle.do_value.specs.declared.value.Value.{Value}
use Rattle.do_tree.specs.Tree.{Script}
use Rattle.timeline.specs.Lines.{Identity, Line}
use Rattle.timeline.specs.Switch.{Switch, Given, is_object, is_free, slot_of, free_slot, flattened, answers_to, accepts, routes}
use Rattle.timeline.specs.declared.caller.Caller.{Caller}
use Rattle.timeline.specs.declared.caller.Caller.TheVariants as from
use Rattle.timeline.specs.declared.caller.Failure.{Failure}
use Rattle.timeline.specs.declared.message.Message.{Message}
use Rattle.switch_history.proofs.Cases.{OfCall, by_line, by_message}

-- The object that a list of slots has at a place.
abbrev pub at : List (Option Identity) → ℕ → Option Identity
at objects slot = flattened (slice_get objects slot)

-- what was written to a place, and what stands elsewhere
set_here : {X : Type 0} (xs : List X) (i : ℕ) (x : X) → i < length xs → slice_get (set xs i x) i ≡ Some x
set_here [] i x within = absurd (omega (arith, within))
set_here (y ∷ xs) zero x within = refl
set_here (y ∷ xs) (suc i) x within = set_here xs i x (omega (arith, within))

-- what stands elsewhere
set_away : {X : Type 0} (xs : List X) (i j : ℕ) (x : X) → (j ≡ i → ⊥) → slice_get (set xs i x) j ≡ slice_get xs j
set_away [] i j x away = refl
set_away (y ∷ xs) zero zero x away = absurd (away refl)
set_away (y ∷ xs) zero (suc j) x away = refl
set_away (y ∷ xs) (suc i) zero x away = refl
set_away (y ∷ xs) (suc i) (suc j) x away = set_away xs i j x (λ e. away (ap (λ (n : ℕ). suc n) e))

-- the slot of an object has one of the same bytes, and a free one has none
pub slot_has : (s : Switch) (to : Identity) (slot : ℕ) → slot_of s to ≡ Some slot → (object : Identity) × (at s.objects slot ≡ Some object) × (is_object to (Some object) ≡ true)
slot_has s to slot h = at_item (get_or s.objects slot None) (slice_get-get_or s.objects slot None found.0) found.1
  where
    found : (slot < length s.objects) × (is_object to (get_or s.objects slot None) ≡ true) × ((k : ℕ) → k < slot → is_object to (get_or s.objects k None) ≡ false)
    found = position-Some (is_object to) s.objects slot None h

    at_item : (x : Option Identity) → slice_get s.objects slot ≡ Some x → is_object to x ≡ true
        → (object : Identity) × (at s.objects slot ≡ Some object) × (is_object to (Some object) ≡ true)
    at_item None there is = absurd (true≢false (sym is))
    at_item (Some object) there is = (object, ap flattened there, is)

module _ (s : Switch) (slot : ℕ) (free : free_slot s ≡ Some slot) where
  -- a free slot is there
  within : slot < length s.objects
  within = (position-Some is_free s.objects slot None free).0

  -- it has no object
  pub free_has : at s.objects slot ≡ None
  free_has = at_item (get_or s.objects slot None) (slice_get-get_or s.objects slot None within) (position-Some is_free s.objects slot None free).1
    where
      at_item : (x : Option Identity) → slice_get s.objects slot ≡ Some x → is_free x ≡ true → at s.objects slot ≡ None
      at_item None there is = ap flattened there
      at_item (Some object) there is = absurd (true≢false (sym is))

  -- an object that takes it has it
  pub takes_slot : (to : Identity) → at (set s.objects slot (Some to)) slot ≡ Some to
  takes_slot to = ap flattened (set_here s.objects slot (Some to) within)

  -- all others stay
  pub leaves_others : (to : Identity) (other : ℕ) → (other ≡ slot → ⊥) → at (set s.objects slot (Some to)) other ≡ at s.objects other
  leaves_others to other away = ap flattened (set_away s.objects slot other (Some to) away)

-- the same bytes are the same object
pub same_object : (a b : Identity) → is_object a (Some b) ≡ true → a ≡ b
same_object a b h =
    let both = and_parts _ _ h in
    let class : a.0 ≡ b.0 = (bytes_eq-Decides a.0 b.0).0 both.0 in
    let name : a.1 ≡ b.1 = (bytes_eq-Decides a.1 b.1).0 both.1 in
    λ i. (class i, name i)

-- an object is of its own bytes
pub is_itself : (a : Identity) → is_object a (Some a) ≡ true
is_itself a = and_from _ _ ((bytes_eq-Decides a.0 a.0).1 refl) ((bytes_eq-Decides a.1 a.1).1 refl)

-- ---- whatever a step gives, an object keeps its slot
abbrev pub Stays : List (Option Identity) → Given → Type 0
Stays objects given = (slot : ℕ) (object : Identity) → at objects slot ≡ Some object → at given.after.objects slot ≡ Some object

module _ (script : Script) (s : Switch) where
  -- a result changes no slot
  answer_stays : (to : Caller) (result : Result Value Failure) → Stays s.objects (answers_to s to result)
  answer_stays (from.Request line number) result = λ slot object is. is
  answer_stays (from.Object own incarnation number) result = λ slot object is. is

  -- an object that takes a free slot leaves the others
  pub bound_stays : (slot : ℕ) (to : Identity) → free_slot s ≡ Some slot → (other : ℕ) (object : Identity) → at s.objects other ≡ Some object
      → at (set s.objects slot (Some to)) other ≡ Some object
  bound_stays slot to free other object is =
      elim (cases_eq other slot) [
        | inl here ↦ absurd (none-some object (sym (free_has s slot free) ∙ ap (at s.objects) (sym here) ∙ is))
        | inr away ↦ leaves_others s slot free to other away ∙ is
      ]

  -- a call leaves each object its slot
  of_call : (caller : Caller) (to : Identity) → OfCall script s (Stays s.objects) caller to
  of_call caller to = record {
    refused = λ f _. answer_stays caller (Err f);
    posted = λ number slot args depth _ _ other object is. is;
    bound = λ number slot args depth _ free. bound_stays slot to free;
  }

  -- so does a line
  pub line_stays : (l : Line) → Stays s.objects (accepts script s l)
  line_stays l = by_line script s (λ l given. Stays s.objects given) (record {
    calls = λ at number to method args. of_call (from.Request at number) to;
    ticked = λ at moment slot object is. is;
    refused = λ l number why _ slot object is. is;
    closed = λ l k result fetch _ _ slot object is. is;
    evicted = λ at slot object _ _ other o is. is;
    unknown = λ at object slot o is. is;
  }) l

  -- so does a message
  pub message_stays : (sent : ℕ × Message) → Stays s.objects (routes script s sent)
  message_stays sent = by_message script s (λ sent given. Stays s.objects given) (record {
    nothing = λ sent slot object is. is;
    replied = λ slot to result _. answer_stays to result;
    called = λ slot incarnation number to object method args depth _. of_call (from.Object slot incarnation number) to;
    fetched = λ slot incarnation number value object _ other o is. is;
  }) sent
