-- What a line gives, case by case.
use Rattle.std.proofs.Common.{◌≡◌, ℕ, ℤ, List, [], ◌∷◌, cond, Option, Some, None, true, false, refl, sym, ap, ◌∙◌}
use Rattle.std.specs.Prelude.{Bool, ◌==◌, Result, option_map}
use Rattle.std.specs.Int.Signed.{le_z}
use Rattle.std.proofs.lemmas.Option.{none-some}
use Rattle.do_tree.specs.Tree.{Script}
use Rattle.do_value.specs.declared.value.Value.{Value}
use Rattle.object_calls.specs.Fetched.{Asker}
use Rattle.object_calls.specs.Numbered.{Numbered, under, others}
use Rattle.timeline.specs.Lines as line
use Rattle.timeline.specs.Lines.{Identity}
use Rattle.timeline.specs.Switch as switch
use Rattle.timeline.specs.Switch.{Switch, OpenFetch, answers_fetch, closes, ticks, tick_posts, posts, prints}
use Rattle.timeline.specs.declared.caller.Failure.{Failure}
use Rattle.timeline.specs.declared.event.Event.TheVariants as event
use Rattle.mailbox.specs.States.{open_fetch, switch_of, AreAscending}
use Rattle.mailbox.proofs.OpenFetches.{find_is, others_is}

-- ---- the answer to a fetch
others_none : (k : ℕ) (fs : List (ℕ × Asker)) → under k fs ≡ None → others k fs ≡ fs
others_none k [] none = refl
others_none k (f ∷ fs) none = at_first (f.0 == k) refl (others_none k fs)
  where
    at_first : (b : Bool) → (f.0 == k) ≡ b → (under k fs ≡ None → others k fs ≡ fs) → cond (f.0 == k) fs (f ∷ others k fs) ≡ f ∷ fs
    at_first true here later = absurd (none-some f.1 (sym none ∙ ap (λ (b : Bool). cond b (Some f.1) (under k fs)) here))
    at_first false other later =
        ap (λ (b : Bool). cond b fs (f ∷ others k fs)) other
        ∙ ap (λ (rest : List (ℕ × Asker)). f ∷ rest) (later (sym (ap (λ (b : Bool). cond b (Some f.1) (under k fs)) other) ∙ none))

-- where none waits under the number, as many wait as before
pub closed_none : (fetches : Numbered Asker) (k : ℕ) → under k fetches.waiting ≡ None → record fetches { waiting = others k fetches.waiting } ≡ fetches
closed_none fetches k none = ap (λ (fs : List (ℕ × Asker)). record fetches { waiting = fs }) (others_none k fetches.waiting none)

module _ (objects : List (Option Identity)) (fetches : Numbered Asker) (tick : ℤ) (number k : ℕ) (outcome : Result Value Failure) where
  found : (o : Option Asker) → under k fetches.waiting ≡ o → answers_fetch (switch_of objects fetches tick) number k outcome
      ≡ closes (switch_of objects fetches tick) number outcome (option_map (λ a. open_fetch (k, a)) o)
  found o is = ap (closes (switch_of objects fetches tick) number outcome) (find_is k fetches.waiting ∙ ap (λ (o : Option Asker). option_map (λ a. open_fetch (k, a)) o) is)

  pub none_open : under k fetches.waiting ≡ None
      → answers_fetch (switch_of objects fetches tick) number k outcome ≡ prints (switch_of objects fetches tick) (line.refused number line.no_fetch)
  none_open none = found None none

  pub one_open : (a : Asker) → AreAscending fetches.waiting → under k fetches.waiting ≡ Some a → answers_fetch (switch_of objects fetches tick) number k outcome
      ≡ posts (switch_of objects (record fetches { waiting = others k fetches.waiting }) tick) ((a.0, event.Answer a.1 a.2 outcome tick) ∷ [])
  one_open a asc some =
      found (Some a) some
      ∙ ap (λ (fs : List OpenFetch). posts (record (switch_of objects fetches tick) { unanswered = fs }) ((a.0, event.Answer a.1 a.2 outcome tick) ∷ []))
      (sym (others_is k fetches.waiting asc))

-- ---- ticks
module _ (script : Script) (s : Switch) (number : ℕ) (moment : ℤ) where
  ticks_by : Bool → switch.Given
  ticks_by b = cond b (record { posts = tick_posts script moment 0 s.objects; lines = []; after = record s { tick = moment } }) (prints s (line.refused number line.backwards))

  pub onward : le_z s.tick moment ≡ true
      → ticks script s number moment ≡ record { posts = tick_posts script moment 0 s.objects; lines = []; after = record s { tick = moment } }
  unfolding ticks_by
  onward is = ap ticks_by is
