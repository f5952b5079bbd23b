-- What is posted to a slot fits the class of its object.
use Rattle.std.proofs.Common.{◌≡◌, ◌<◌, ℕ, ◌+◌, zero, suc, ℤ, inl, inr, List, [], ◌∷◌, ◌++◌, cond, get_or, Option, Some, None, true, false, refl, sym, ap, subst, ◌∙◌, true≢false, arith}
use Rattle.std.specs.Prelude.{Bool, Result, ◌==◌, ◌⊎◌, ◌&&◌, not, is_some, position, slice_get, codes}
use Rattle.std.specs.List.{AllByRecursion}
use Rattle.std.specs.Str.{bytes_eq}
use Rattle.std.proofs.lemmas.Bool.{and_parts, and_from, false≢true}
use Rattle.std.proofs.lemmas.Bool.Decides.{nat_tests}
use Rattle.std.proofs.lemmas.List.Quantifiers.{position-Some}
use Rattle.std.proofs.lemmas.Option.{none-some, slice_get-get_or}
use Rattle.std.proofs.lemmas.Slice.Eq.{bytes_eq-Decides}
use Rattle.do_value.specs.declared.value.Value.{Value}
use Rattle.do_tree.specs.Lookup.{class_named, method_named, methods_of, is_constructor, is_named}
use Rattle.do_tree.specs.Tree.{Script, Method}
use Rattle.timeline.specs.Eligible.{is_for_callers}
use Rattle.timeline.specs.Lines.{Identity}
use Rattle.timeline.specs.Switch.{is_known, tick_posts}
use Rattle.timeline.specs.declared.caller.Failure.{Failure}
use Rattle.timeline.specs.declared.event.Event.{Event}
use Rattle.timeline.specs.declared.event.Event.TheVariants as event
use Rattle.mailbox.specs.Posting.{of_slot}
use Rattle.object_messages.specs.Naming.{answered_in}
use Rattle.switch_history.specs.Laws.{class_in}
use Rattle.switch_history.specs.Posted.{AreFitFrom, class_then, fits_class}
use Rattle.switch_history.proofs.Slots.{own, all_append}
use Rattle.switch_history.proofs.Standing.{at}

-- ---- events that fit, from one class to another
abbrev FitTo : Script → Option ℕ → List Event → Option ℕ → Type 0
FitTo script class [] after = class ≡ after
FitTo script class (e ∷ es) after = (fits_class script class e ≡ true) × FitTo script (class_then script class e) es after

-- events that fit up to a class fit
fit_from : (script : Script) (class after : Option ℕ) (es : List Event) → FitTo script class es after → AreFitFrom script class es
fit_from script class after [] fit = tt
fit_from script class after (e ∷ es) fit = (fit.0, fit_from script (class_then script class e) after es fit.1)

-- events that fit after others that fit
fit_append : (script : Script) (a b c : Option ℕ) (es more : List Event) → FitTo script a es b → FitTo script b more c → FitTo script a (es ++ more) c
fit_append script a b c [] more first then = subst (λ (class : Option ℕ). FitTo script class more c) (sym first) then
fit_append script a b c (e ∷ es) more first then = (first.0, fit_append script (class_then script a e) b c es more first.1 then)

-- What one step posts to a slot: nothing, what fits the class of its object, an answer to its object, or what binds it and calls it.
pub data Posted (script : Script) : Option Identity → List Event → Option Identity → Type 0 where
  quiet : (o : Option Identity) → Posted script o [] o
  fits : (o : Option Identity) (class : ℕ) (e : Event) → class_in script o ≡ Some class → fits_class script (Some class) e ≡ true
      → class_then script (Some class) e ≡ Some class → Posted script o (e ∷ []) o
  answers : (object : Identity) (incarnation number : ℕ) (result : Result Value Failure) (moment : ℤ)
      → Posted script (Some object) (event.Answer incarnation number result moment ∷ []) (Some object)
  binds : (to : Identity) (class : ℕ) (call : Event) → class_named script to.0 ≡ Some class → fits_class script (Some class) call ≡ true
      → class_then script (Some class) call ≡ Some class → Posted script None (event.Bind to ∷ call ∷ []) (Some to)

-- The class of the object of a slot is known, if it has one.
abbrev Known : Script → Option Identity → Type 0
Known script None = Unit {0}
Known script (Some object) = is_known script object ≡ true

-- The event answers a call or a fetch.
abbrev pub IsAnswer : Event → Type 0
IsAnswer (event.Answer incarnation number result at) = Unit {0}
IsAnswer e = ⊥

module _ (script : Script) where
  -- an answer fits each class
  answer_fits : (class : Option ℕ) (incarnation number : ℕ) (result : Result Value Failure) (moment : ℤ) → is_some class ≡ true
      → FitTo script class (event.Answer incarnation number result moment ∷ []) class
  answer_fits None incarnation number result moment known = absurd (false≢true known)
  answer_fits (Some class) incarnation number result moment known = (refl, refl)

  -- what was posted to a slot whose object's class is known, if it has one, goes on
  known_goes : (first : Option ℕ) (o after : Option Identity) (es news : List Event) → Known script o → FitTo script first es (class_in script o) → Posted script o news after
      → Known script after × FitTo script first (es ++ news) (class_in script after)
  known_goes first _ _ es _ known fit (quiet o) = (known, fit_append script first (class_in script o) (class_in script o) es [] fit refl)
  known_goes first _ _ es _ known fit (fits o class e has own_fit keeps) = (
    known,
    fit_append script first (class_in script o) (class_in script o) es (e ∷ []) fit
        (subst (λ (c : Option ℕ). FitTo script c (e ∷ []) c) (sym has) (own_fit, keeps)),
  )
  known_goes first _ _ es _ known fit (answers object incarnation number result moment) = (
    known,
    fit_append script first (class_in script (Some object)) (class_in script (Some object)) es (event.Answer incarnation number result moment ∷ []) fit
        (answer_fits (class_named script object.0) incarnation number result moment known),
  )
  known_goes first _ _ es _ known fit (binds to class call has own_fit keeps) =
      let is : is_known script to ≡ true = ap is_some has in (
        is,
        fit_append script first None (class_named script to.0) es (event.Bind to ∷ call ∷ []) fit
            (is, subst (λ (c : Option ℕ). FitTo script c (call ∷ []) c) (sym has) (own_fit, keeps)),
      )

  -- to a slot whose object is of no class of the script only answers are posted, in each step
  unknown_goes : (object : Identity) → is_known script object ≡ false → (o after : Option Identity) (es news : List Event) → o ≡ Some object → AllByRecursion IsAnswer es
      → Posted script o news after → (after ≡ Some object) × AllByRecursion IsAnswer (es ++ news)
  unknown_goes object unknown _ _ es _ is all (quiet o) = (is, all_append IsAnswer es [] all tt)
  unknown_goes object unknown _ _ es _ is all (fits o class e has own_fit keeps) =
      let known : is_known script object ≡ true = ap is_some (sym (ap (class_in script) is) ∙ has) in
      absurd (true≢false (sym known ∙ unknown))
  unknown_goes object unknown _ _ es _ is all (answers other incarnation number result moment) =
      (is, all_append IsAnswer es (event.Answer incarnation number result moment ∷ []) all (tt, tt))
  unknown_goes object unknown _ _ es _ is all (binds to class call has own_fit keeps) = absurd (none-some object is)

  -- answers of which none answers anything are none
  pub none_of : (es : List Event) → AllByRecursion IsAnswer es → answered_in es ≡ [] → es ≡ []
  none_of [] all none = refl
  none_of (event.Answer incarnation number result moment ∷ es) all none = absurd (cc)
  none_of (event.Call caller method args depth moment ∷ es) all none = absurd all.0
  none_of (event.Bind identity ∷ es) all none = absurd all.0
  none_of (event.Tick moment ∷ es) all none = absurd all.0
  none_of (event.Evict moment ∷ es) all none = absurd all.0

  -- What was posted to a slot, from the object that it had first.
  abbrev pub Stood : Option Identity → Option Identity → List Event → Type 0
  Stood first o es = (Known script o × FitTo script (class_in script first) es (class_in script o))
      ⊎ ((object : Identity) × (first ≡ Some object) × (is_known script object ≡ false) × (o ≡ Some object) × AllByRecursion IsAnswer es)

  -- nothing was posted at first
  pub stands : (o : Option Identity) → Stood o o []
  stands None = inl (tt, refl)
  stands (Some object) = at_known (is_known script object) refl
    where
      at_known : (b : Bool) → is_known script object ≡ b → Stood (Some object) (Some object) []
      at_known true is = inl (is, refl)
      at_known false is = inr (object, refl, is, refl, tt)

  -- what was posted to a slot stands after a step
  pub goes_on : (first o after : Option Identity) (es news : List Event) → Stood first o es → Posted script o news after → Stood first after (es ++ news)
  goes_on first o after es news (inl stood) posted = inl (known_goes (class_in script first) o after es news stood.0 stood.1 posted)
  goes_on first o after es news (inr stood) posted =
      let rest = unknown_goes stood.0 stood.2 o after es news stood.3 stood.4 posted in
      inr (stood.0, stood.1, stood.2, rest.0, rest.1)

  -- what was posted fits, where no answer goes to a slot without a class
  pub stood_fits : (first o : Option Identity) (es : List Event) → Stood first o es
      → ((object : Identity) → first ≡ Some object → is_known script object ≡ false → answered_in es ≡ []) → AreFitFrom script (class_in script first) es
  stood_fits first o es (inl stood) none = fit_from script (class_in script first) (class_in script o) es stood.1
  stood_fits first o es (inr stood) none =
      subst (λ (l : List Event). AreFitFrom script (class_in script first) l) (sym (none_of es stood.4 (none stood.0 stood.1 stood.2))) tt

  -- to a slot that still has an object whose class isn't known answers alone were posted
  pub stood_unknown : (first o : Option Identity) (es : List Event) (object : Identity) → o ≡ Some object → is_known script object ≡ false → Stood first o es
      → AllByRecursion IsAnswer es
  stood_unknown first o es object is unknown (inl stood) = absurd (true≢false (sym (subst (Known script) is stood.0) ∙ unknown))
  stood_unknown first o es object is unknown (inr stood) = stood.4

  -- ---- methods that callers name
  no_more : (b : Bool) → not (b && false) ≡ true
  no_more true = refl
  no_more false = refl

  -- a method of a name that is not the alarm's is for callers
  for_callers : (name alarm : List ℕ) (m : Method) → is_named name m ≡ true → bytes_eq name alarm ≡ false → (not (is_constructor m.kind) && not (is_named alarm m)) ≡ true
  for_callers name alarm m named other =
      let both = and_parts _ _ named in
      let text : m.name.text ≡ name = (bytes_eq-Decides m.name.text name).0 both.1 in
      let no_alarm : bytes_eq m.name.text alarm ≡ false = ap (λ (t : List ℕ). bytes_eq t alarm) text ∙ other in
      and_from _ _ both.0 (ap (λ (b : Bool). not (not (is_constructor m.kind) && b)) no_alarm ∙ no_more (not (is_constructor m.kind)))

  -- so is the first one of that name
  placed : (name : List ℕ) (ms : List Method) (number : ℕ) → bytes_eq name (codes "alarm") ≡ false → position (is_named name) ms ≡ Some number
      → is_for_callers (slice_get ms number) ≡ true
  placed name [] number other is = absurd (none-some number is)
  placed name (m ∷ ms) number other is =
      let found = position-Some (is_named name) (m ∷ ms) number m is in
      ap is_for_callers (slice_get-get_or (m ∷ ms) number m found.0) ∙ for_callers name (codes "alarm") (get_or (m ∷ ms) number m) found.1 other

  -- the method that a caller names is for callers
  pub method_fits : (class number : ℕ) (name : List ℕ) → method_named script class name ≡ Some number → is_for_callers (slice_get (methods_of script class) number) ≡ true
  method_fits class number name is = at_alarm (bytes_eq name (codes "alarm")) refl is
    where
      at_alarm : (b : Bool) → bytes_eq name (codes "alarm") ≡ b → cond b None (position (is_named name) (methods_of script class)) ≡ Some number
          → is_for_callers (slice_get (methods_of script class) number) ≡ true
      at_alarm true alarm named = absurd (none-some number named)
      at_alarm false other named = placed name (methods_of script class) number other named

  -- ---- single posts
  pub known_posted : (o : Option Identity) (e : Event) → is_some (class_in script o) ≡ true → ((class : ℕ) → fits_class script (Some class) e ≡ true)
      → ((class : ℕ) → class_then script (Some class) e ≡ Some class) → Posted script o (e ∷ []) o
  known_posted o e known fit keeps = at_class (class_in script o) refl known
    where
      at_class : (c : Option ℕ) → class_in script o ≡ c → is_some c ≡ true → Posted script o (e ∷ []) o
      at_class None is known = absurd (false≢true known)
      at_class (Some class) is known = fits o class e is (fit class) (keeps class)

  -- an answer is posted to an object
  pub answer_posted : (o : Option Identity) (incarnation number : ℕ) (result : Result Value Failure) (moment : ℤ) → is_some o ≡ true
      → Posted script o (event.Answer incarnation number result moment ∷ []) o
  answer_posted None incarnation number result moment is = absurd (false≢true is)
  answer_posted (Some object) incarnation number result moment is = answers object incarnation number result moment

  -- one post goes to its slot alone
  pub one_posted : (objects : List (Option Identity)) (own_slot : ℕ) (e : Event) → Posted script (at objects own_slot) (e ∷ []) (at objects own_slot) → (slot : ℕ)
      → Posted script (at objects slot) (of_slot slot ((own_slot, e) ∷ [])) (at objects slot)
  one_posted objects own_slot e posted slot = at_test (own_slot == slot) refl
    where
      at_test : (b : Bool) → (own_slot == slot) ≡ b → Posted script (at objects slot) (cond b (e ∷ []) []) (at objects slot)
      at_test true is = subst (λ (n : ℕ). Posted script (at objects n) (e ∷ []) (at objects n)) (own own_slot slot is) posted
      at_test false is = quiet (at objects slot)

  -- ---- ticks
  module _ (moment : ℤ) where
    -- ticks from a slot on leave those before it
    none_before : (k slot : ℕ) (objects : List (Option Identity)) → slot < k → of_slot slot (tick_posts script moment k objects) ≡ []
    none_before k slot [] less = refl
    none_before k slot (None ∷ objects) less = none_before (suc k) slot objects (omega (arith, less))
    none_before k slot (Some object ∷ objects) less =
        let rest : of_slot slot (tick_posts script moment (suc k) objects) ≡ [] = none_before (suc k) slot objects (omega (arith, less)) in
        let other : (k == slot) ≡ false = grind (arith, nat_tests, less) in
        elim (is_known script object) as (λ (b : Bool). of_slot slot (cond b ((k, event.Tick moment) ∷ tick_posts script moment (suc k) objects) (tick_posts script moment (suc k) objects)) ≡ []) [
          | true ↦ ap (λ (b : Bool). cond b (event.Tick moment ∷ of_slot slot (tick_posts script moment (suc k) objects)) (of_slot slot (tick_posts script moment (suc k) objects))) other ∙ rest
          | false ↦ rest
        ]

    -- ticks from a slot on go to each slot whose object's class is known
    ticks_from : (k j slot : ℕ) (objects : List (Option Identity)) → slot ≡ k + j → Posted script (at objects j) (of_slot slot (tick_posts script moment k objects)) (at objects j)
    ticks_from k j slot [] is = quiet None
    ticks_from k zero slot (None ∷ objects) is =
        subst (λ (l : List Event). Posted script None l None) (sym (none_before (suc k) slot objects (omega (arith, is)))) (quiet None)
    ticks_from k zero slot (Some object ∷ objects) is = at_known (is_known script object) refl
      where
        rest : List (ℕ × Event)
        rest = tick_posts script moment (suc k) objects

        none : of_slot slot (tick_posts script moment (suc k) objects) ≡ []
        none = none_before (suc k) slot objects (omega (arith, is))

        here : (k == slot) ≡ true
        here = let same : k ≡ slot = omega (arith, is) in grind (arith, nat_tests, same)

        at_known : (b : Bool) → is_known script object ≡ b
            → Posted script (Some object) (of_slot slot (cond b ((k, event.Tick moment) ∷ tick_posts script moment (suc k) objects) (tick_posts script moment (suc k) objects))) (Some object)
        at_known true known =
            subst (λ (l : List Event). Posted script (Some object) l (Some object))
            (sym (λ i. cond (here i) (event.Tick moment ∷ none i) (none i)))
            (known_posted (Some object) (event.Tick moment) known (λ class. refl) (λ class. refl))
        at_known false unknown = subst (λ (l : List Event). Posted script (Some object) l (Some object)) (sym none) (quiet (Some object))
    ticks_from k (suc j) slot (None ∷ objects) is = ticks_from (suc k) j slot objects (omega (arith, is))
    ticks_from k (suc j) slot (Some object ∷ objects) is =
        let later = ticks_from (suc k) j slot objects (omega (arith, is)) in
        let other : (k == slot) ≡ false = (let less : k < slot = omega (arith, is) in grind (arith, nat_tests, less)) in
        elim (is_known script object) as (λ (b : Bool). Posted script (at objects j)
        (of_slot slot (cond b ((k, event.Tick moment) ∷ tick_posts script moment (suc k) objects) (tick_posts script moment (suc k) objects))) (at objects j)) [
          | true ↦ subst (λ (b : Bool). Posted script (at objects j) (cond b (event.Tick moment ∷ of_slot slot (tick_posts script moment (suc k) objects)) (of_slot slot (tick_posts script moment (suc k) objects))) (at objects j)) (sym other) later
          | false ↦ later
        ]

    -- so do all ticks
    pub ticks_posted : (objects : List (Option Identity)) (slot : ℕ) → Posted script (at objects slot) (of_slot slot (tick_posts script moment 0 objects)) (at objects slot)
    ticks_posted objects slot = ticks_from 0 slot slot objects (omega arith)
