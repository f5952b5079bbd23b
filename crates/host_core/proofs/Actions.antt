-- Steps of one object that follow one another.
use Rattle.std.proofs.Common.{◌≡◌, ◌∙◌, ap, sym, subst, refl, ℕ, List, [], ◌++◌, append-nil, append_assoc, Option}
use Rattle.std.specs.Prelude.{Bool, true, false, Result, Ok}
use Rattle.do_tree.specs.Tree.{Script}
use Rattle.do_value.specs.declared.fault.NoMemory.{NoMemory}
use Rattle.lane.specs.Lanes.{sent_on}
use Rattle.timeline.specs.declared.event.Event.{Event}
use Rattle.timeline.specs.declared.message.Message.{Message}
use Rattle.object_core.specs.Stepping.{Passes, Steps, HasNothing, IsHalted, given_by}
use Rattle.object_core.specs.declared.choice.Choice.{Choice}
use Rattle.object_core.specs.declared.choice.Choice.TheVariants.{Turn, Take, Flush, Release, Mend}
use Rattle.object_core.specs.declared.object.Core.{Core}
use Rattle.host_core.specs.Acting.{Acts, HasSettled, IsIdle, IsOwn}

pub acts_none : {D : Type 0} (core : Core D) → Acts core core
acts_none core = record { given = refl; collected = refl; left = ([], sym (append-nil (sent_on core.out))) }

pub acts_then : {D : Type 0} (a b c : Core D) → Acts a b → Acts b c → Acts a c
acts_then a b c one two = record {
  given = two.given ∙ one.given;
  collected = two.collected ∙ one.collected;
  left = (
    one.left.0 ++ two.left.0,
    two.left.1 ∙ ap (λ (xs : List Message). xs ++ two.left.0) one.left.1 ∙ append_assoc (sent_on a.out) one.left.0 two.left.0,
  );
}

-- A step that gives nothing.
pub acts_by : {D : Type 0} (old new : Core D) (choice : Choice) (result : Result Bool NoMemory) → given_by choice result ≡ []
    → Passes old new choice result → Acts old new
acts_by old new choice result none passes = record {
  given = passes.given ∙ ap (λ (es : List Event). sent_on old.inbox ++ es) none ∙ append-nil (sent_on old.inbox);
  collected = passes.collected;
  left = passes.left;
}

not_true : (b : Bool) → (b ≡ true → ⊥) → b ≡ false
not_true true other = absurd (other refl)
not_true false other = refl

-- A step that answers that there is nothing to do.
pub idle_by : {D : Type 0} (moment_of : D → ℕ) (told : D → Option (List ℕ)) (image : D → List ℕ → Type 0) (faults_of : D → ℕ) (script : Script) (old new : Core D) (choice : Choice) (before result : Result Bool NoMemory)
    → before ≡ Ok false → Steps moment_of told image faults_of script old new choice result → result ≡ Ok false → IsIdle script old new choice before
idle_by moment_of told image faults_of script old new choice before result none steps is =
    let last = subst (λ (r : Result Bool NoMemory). Steps moment_of told image faults_of script old new choice r) is steps in
    record {
      none_before = none;
      same = (last.nothing refl).1;
      nothing = (last.nothing refl).0;
      goes = λ halted. (last.halted halted).0;
    }

module _ {D : Type 0} (script : Script) where
  nothing_for : (old new last : Core D) (choice : Choice) (before : Result Bool NoMemory) → IsIdle script old new choice before → old ≡ last → HasNothing script last choice
  nothing_for old new last choice before idle to = subst (λ (core : Core D). HasNothing script core choice) to idle.nothing

  goes_for : (old new last : Core D) (choice : Choice) (before : Result Bool NoMemory) → IsIdle script old new choice before → old ≡ last → IsHalted last choice → ⊥
  goes_for old new last choice before idle to halted = idle.goes (subst (λ (core : Core D). IsHalted core choice) (sym to) halted)

  -- No step did anything.
  pub settles : (a b c d e f : Core D) (none turned taken flushed released result : Result Bool NoMemory)
      → (turned ≡ Ok false → IsIdle script a b Turn none) → (taken ≡ Ok false → IsIdle script b c Take turned)
      → (flushed ≡ Ok false → IsIdle script c d Flush taken) → (released ≡ Ok false → IsIdle script d e Release flushed)
      → (result ≡ Ok false → IsIdle script e f Mend released) → result ≡ Ok false → HasSettled script f
  settles a b c d e f none turned taken flushed released result turn take flush release mend is =
      let last = mend is in
      let fourth = release last.none_before in
      let third = flush fourth.none_before in
      let second = take third.none_before in
      let first = turn second.none_before in
      let ef : e ≡ f = sym last.same in
      let df : d ≡ f = sym fourth.same ∙ ef in
      let cf : c ≡ f = sym third.same ∙ df in
      let bf : b ≡ f = sym second.same ∙ cf in
      let af : a ≡ f = sym first.same ∙ bf in
      record {
        front_goes = not_true _ (goes_for a b f Turn none first af);
        back_goes = not_true _ (goes_for b c f Take turned second bf);
        turned = nothing_for a b f Turn none first af;
        taken = nothing_for b c f Take turned second bf;
        flushed = nothing_for c d f Flush taken third cf;
        released = nothing_for d e f Release flushed fourth df;
        mended = nothing_for e f f Mend released last ef;
      }

pub own_turn : IsOwn Turn
own_turn result = refl

pub own_take : IsOwn Take
own_take result = refl

pub own_flush : IsOwn Flush
own_flush result = refl

pub own_release : IsOwn Release
own_release result = refl

pub own_mend : IsOwn Mend
own_mend result = refl
