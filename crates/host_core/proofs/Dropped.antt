-- What was posted to a slot fits its object, so that it drops no call of it and no binding.
use Rattle.std.proofs.Common.{◌≡◌, ◌≤◌, ◌<◌, ◌∙◌, ap, sym, refl, subst, true≢false, arith, ℕ, zero, suc, ℤ, List, [], ◌∷◌, ◌++◌, map, append_assoc, append-nil, Option, Some, None, Ok, Err}
use Rattle.std.specs.Prelude.{nat_le, pos, negsuc, true, false, is_some, Result}
use Rattle.std.specs.List.{AllByRecursion}
use Rattle.std.proofs.lemmas.Bool.{and_from, le-leb, ltb-true}
use Rattle.do_tree.specs.Tree.{Script}
use Rattle.line_server.specs.Bodies.{is_body, is_whole}
use Rattle.line_server.specs.declared.line.Line as read
use Rattle.line_server.specs.declared.refusal.Refusal.{Refusal}
use Rattle.line_server.specs.declared.request.Request as asked
use Rattle.line_server.specs.declared.request.Request.TheVariants as request
use Rattle.mailbox.proofs.Sendings.{of_slot-append}
use Rattle.mailbox.specs.Posting.{GoesOn, of_slot}
use Rattle.mailbox.specs.Seen.{seen_body, seen_line, seen_log}
use Rattle.mailbox.specs.declared.switch_log.SwitchLog.{SwitchLog as SeenSwitchLog}
use Rattle.object_core.specs.Dropping.{AreFitting}
use Rattle.object_core.specs.One.{HasItsClass, class_in}
use Rattle.front_half.specs.Taking.{class_after}
use Rattle.placement.specs.Slots.{Slots, object_at}
use Rattle.storage_map.specs.Limits.{Object}
use Rattle.switch_history.specs.Laws.{PostsFit}
use Rattle.switch_history.specs.Laws as switch
use Rattle.switch_history.specs.Moments.{AreTicksInRange, IsInRange, IsTickInRange, MomentsAreInRange}
use Rattle.switch_history.specs.Posted.{AreFitFrom, class_then}
use Rattle.timeline.specs.Eligible.{has_method, is_fit, is_moment}
use Rattle.timeline.specs.Lines.{Identity}
use Rattle.timeline.specs.Switch as timeline
use Rattle.timeline.specs.Switch.{IsSwitchRun, SwitchLog, accepts, is_known, opened, routes, accepted as after_line, routed as after_message}
use Rattle.timeline.specs.declared.event.Event.{Event}
use Rattle.timeline.specs.declared.event.Event.TheVariants as event
use Rattle.mailbox.specs.SoFar.{IsRunSoFar, whole, in_line, in_message, at_end}

-- An event that fits at a moment in range is one that a front takes.
then_same : (script : Script) (class : Option ℕ) (e : Event) → class_then script class e ≡ class_after script class e
then_same script class (event.Bind identity) = refl
then_same script class (event.Call from method args depth at) = refl
then_same script class (event.Answer incarnation number result at) = refl
then_same script class (event.Tick at) = refl
then_same script class (event.Evict at) = refl

module _ (script : Script) where
  fits_now : (class : Option ℕ) (e : Event) (es : List Event) → AreFitFrom script class (e ∷ es) → IsInRange e → is_fit script class e ≡ true
  fits_now None (event.Bind identity) es fit is = fit.0
  fits_now None (event.Call from method args depth at) es fit is = absurd (true≢false (sym fit.0))
  fits_now None (event.Answer incarnation number result at) es fit is = absurd (true≢false (sym fit.0))
  fits_now None (event.Tick at) es fit is = absurd (true≢false (sym fit.0))
  fits_now None (event.Evict at) es fit is = absurd (true≢false (sym fit.0))
  fits_now (Some class) (event.Bind identity) es fit is = absurd (true≢false (sym fit.0))
  fits_now (Some class) (event.Call from method args depth at) es fit is = and_from (is_moment at) (has_method script class (event.Call from method args depth at)) is fit.0
  fits_now (Some class) (event.Answer incarnation number result at) es fit is = and_from (is_moment at) true is refl
  fits_now (Some class) (event.Tick at) es fit is = and_from (is_moment at) true is refl
  fits_now (Some class) (event.Evict at) es fit is = and_from (is_moment at) true is refl

  fitting : (class : Option ℕ) (es : List Event) → AreFitFrom script class es → AllByRecursion IsInRange es → AreFitting script class es
  fitting class [] fit all = tt
  fitting class (e ∷ es) fit all = (
    fits_now class e es fit all.0,
    subst (λ (c : Option ℕ). AreFitting script c es) (then_same script class e) (fitting (class_then script class e) es fit.1 all.1),
  )

  fitting_before : (class : Option ℕ) (es more : List Event) → AreFitting script class (es ++ more) → AreFitting script class es
  fitting_before class [] more fit = tt
  fitting_before class (e ∷ es) more fit = (fit.0, fitting_before (class_after script class e) es more fit.1)

-- The object of a slot at the opening, and its class.
pub same_at : (named : Slots) (slot : ℕ) → timeline.object_at (opened named) slot ≡ object_at named slot
same_at [] slot = refl
same_at (object ∷ named) zero = refl
same_at (object ∷ named) (suc slot) = same_at named slot

same_class : (script : Script) (object : Option Object) → switch.class_in script object ≡ class_in script object
same_class script None = refl
same_class script (Some object) = refl

-- The first posts of a run are the first to each slot.
module _ (laws : PostsFit) (moments : MomentsAreInRange) (script : Script) (named : Slots) (slot : ℕ) (has : HasItsClass script (object_at named slot)) where
  known_not : (object : Identity) → object_at named slot ≡ Some object → is_known script object ≡ false → ⊥
  known_not object is unknown =
      true≢false (subst (λ (o : Option Object). is_some o ≡ is_some (class_in script o)) is has ∙ unknown)

  pub run_fits : (log : SwitchLog) (s : timeline.Switch) → IsSwitchRun script (opened named) log s → AreTicksInRange log.accepted
      → AreFitting script (class_in script (object_at named slot)) (of_slot slot log.posts)
  run_fits log s run ticks =
      subst (λ (class : Option ℕ). AreFitting script class (of_slot slot log.posts))
      (ap (λ (object : Option Object). switch.class_in script object) (same_at named slot) ∙ same_class script (object_at named slot))
      (fitting script (switch.class_in script (timeline.object_at (opened named) slot)) (of_slot slot log.posts)
      (laws script named log s run slot (λ object is unknown. absurd (known_not object (sym (same_at named slot) ∙ is) unknown)))
      (moments script named log s run ticks slot))

  first_fits : (before wanted posts : List (ℕ × Event)) → GoesOn before posts wanted
      → AreFitting script (class_in script (object_at named slot)) (of_slot slot (before ++ wanted)) → AreFitting script (class_in script (object_at named slot)) (of_slot slot posts)
  first_fits before wanted posts goes fit =
      let all : before ++ wanted ≡ posts ++ goes.first.0 =
      ap (λ (xs : List (ℕ × Event)). before ++ xs) (sym goes.first.1) ∙ sym (append_assoc before goes.since goes.first.0)
      ∙ ap (λ (xs : List (ℕ × Event)). xs ++ goes.first.0) (sym goes.more) in
      fitting_before script (class_in script (object_at named slot)) (of_slot slot posts) (of_slot slot goes.first.0)
      (subst (AreFitting script (class_in script (object_at named slot))) (ap (of_slot slot) all ∙ of_slot-append slot posts goes.first.0) fit)

  so_far_fits : (log : SwitchLog) → IsRunSoFar script (opened named) log → AreTicksInRange log.accepted
      → AreFitting script (class_in script (object_at named slot)) (of_slot slot log.posts)
  so_far_fits log (whole s run) ticks = run_fits log s run ticks
  so_far_fits log (in_line before s l run begun) ticks =
      first_fits before.posts (accepts script s l).posts log.posts begun.posts
      (run_fits _ _ (after_line before s l run) (subst AreTicksInRange begun.accepted ticks))
  so_far_fits log (in_message before s sent run begun) ticks =
      first_fits before.posts (routes script s sent).posts log.posts begun.posts
      (run_fits _ _ (after_message before s sent run) (subst AreTicksInRange begun.accepted ticks))
  so_far_fits log (at_end before s left run begun) ticks =
      first_fits before.posts [] log.posts begun.posts
      (subst (λ (posts : List (ℕ × Event)). AreFitting script (class_in script (object_at named slot)) (of_slot slot posts)) (sym (append-nil before.posts))
      (run_fits before s run (subst AreTicksInRange begun.accepted ticks)))

-- The ticks of lines that were read are in range.
moment_read : (moment : ℤ) → is_whole moment ≡ true → is_moment moment ≡ true
moment_read (pos n) is =
    let less : n < 9007199254740992 = ltb-true n 9007199254740992 is in
    let most : n ≤ 9007199254740991 = omega (arith, less) in
    and_from (nat_le 0 n) (nat_le n 9007199254740991) (le-leb 0 n (omega arith)) (le-leb n 9007199254740991 most)
moment_read (negsuc n) is = absurd (true≢false (sym is))

tick_read : (body : Result asked.Request Refusal) → is_body body ≡ true → IsTickInRange (seen_body body)
tick_read (Ok (request.Call number to method args)) is = tt
tick_read (Ok (request.Tick moment)) is = moment_read moment is
tick_read (Ok (request.Fetched k value)) is = tt
tick_read (Ok (request.FetchFailed k)) is = tt
tick_read (Ok (request.Evict object)) is = tt
tick_read (Err refusal) is = tt

pub ticks_read : (lines : List read.Line) → AreTicksInRange (map seen_line lines)
ticks_read [] = tt
ticks_read (l ∷ lines) = (tick_read l.body l.in_range, ticks_read lines)

-- So each row fits what was posted to it, where its slot had no object or one of a class of the script.
pub posts_fit_in : (laws : PostsFit) (moments : MomentsAreInRange) (script : Script) (named : Slots) (logged : SeenSwitchLog) → IsRunSoFar script (opened named) (seen_log logged)
    → (slot : ℕ) → HasItsClass script (object_at named slot) → AreFitting script (class_in script (object_at named slot)) (of_slot slot (seen_log logged).posts)
posts_fit_in laws moments script named logged run slot has = so_far_fits laws moments script named slot has (seen_log logged) run (ticks_read logged.accepted.items)
