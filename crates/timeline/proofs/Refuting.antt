-- Which of the examples are a history, and why the others are none.
use Rattle.std.proofs.Common.{◌≡◌, ◌∙◌, ap, sym, subst, refl, true≢false, ℕ, List, [], ◌∷◌, arith, Option, Some, None}
use Rattle.std.proofs.lemmas.List.Elements.{All-nil, All-cons, All-contains, Contains-push}
use Rattle.std.specs.Prelude.{Bool, true, false, map, Err}
use Rattle.script_mean.specs.Examples.{puts, two}
use Rattle.script_mean.specs.Limits.{most_helpers}
use Rattle.storage_map.specs.Contents.{nothing}
use Rattle.timeline.specs.Examples.{goes, word}
use Rattle.timeline.specs.Headline.{IsHalted, IsHistory, pass_of}
use Rattle.timeline.specs.Histories.{downed, downed_front, downed_back, failed_disk, sends, stops, the_goes, the_two, thrown_front, thrown_back}
use Rattle.timeline.specs.History.{history, incarnation_at, is_halting, IsKept}
use Rattle.timeline.specs.Object.{State, idle, waiting, ended}
use Rattle.timeline.specs.Passed.{is_said_down, passed}
use Rattle.timeline.specs.Refuted.{IsNeverQuiet, IsNoHistory, untold_front, untold_back, broken_front, broken_back, halted_front, halted_back, gone_front, gone_back, twice_front, twice_back}
use Rattle.timeline.specs.Steps.{most_refused}
use Rattle.timeline.specs.Told.{most_waits}
use Rattle.timeline.specs.declared.back_log.Stop.{Stop}
use Rattle.timeline.specs.declared.caller.Cause.TheVariants as cause
use Rattle.timeline.specs.declared.caller.Failure.TheVariants as failure
use Rattle.timeline.specs.declared.entry.Body.{Body}
use Rattle.timeline.specs.declared.entry.Body.TheVariants as body
use Rattle.timeline.specs.declared.message.Message.TheVariants as message

-- A list that has an item isn't empty.
abbrev IsNil : {X : Type 0} → List X → Type 0
IsNil [] = Unit {0}
IsNil (x ∷ xs) = ⊥

-- A halt is none of what is a message.
abbrev is_message : Body → Bool
is_message (body.Message sent) = true
is_message _ = false

pub untold : IsNeverQuiet untold_front untold_back
untold script class opened posted gone quiet = subst IsNil quiet.ends tt

-- What was taken of the incarnation that ended.
abbrev fetched : Body
fetched = body.Message (message.Fetch 1 1 (word "x"))

pub broken : IsNoHistory broken_front broken_back
broken script class opened h =
    let halted = h.halted.1.0 (stops cause.Exceeded 0 0) refl refl in
    let messages : Body → Type 0 = λ b. is_message b ≡ true in
    true≢false (sym (All-contains messages (fetched ∷ []) (body.Halt cause.Exceeded) (All-cons messages fetched [] refl (All-nil messages)) halted.1))

pub gone : IsNoHistory gone_front gone_back
gone script class opened h = subst IsNil (sym (h.unmounted refl).0) tt

pub twice : IsNoHistory twice_front twice_back
twice script class opened h = omega (arith, h.mounted)

-- An object that is idle hasn't ended.
abbrev IsEnded : State → Type 0
IsEnded (ended c) = Unit {0}
IsEnded (idle o) = ⊥
IsEnded (waiting o t b) = ⊥

pub halted : IsHistory the_two 0 nothing halted_front halted_back → ⊥
unfolding two most_helpers most_refused most_waits
halted h = subst IsEnded (sym (h.halted.1.0 (stops cause.BlockThrew 1 1) refl refl).0) tt

-- What is there.
abbrev IsThere : {X : Type 0} → Option X → Type 0
IsThere None = ⊥
IsThere (Some x) = Unit {0}

none_there : {X : Type 0} (x : X) → None ≡ Some x → ⊥
none_there x is = subst IsThere (sym is) tt

-- A failed append is no turn's.
abbrev halts_in : Option Stop → Bool
halts_in None = false
halts_in (Some stop) = is_halting stop.cause

no_turn : (stop : Stop) → Some (stops failed_disk 0 1) ≡ Some stop → is_halting stop.cause ≡ true → ⊥
no_turn stop is by = true≢false (sym by ∙ sym (ap halts_in is))

pub is_down : IsHistory the_two 0 nothing downed_front downed_back
unfolding two most_helpers most_refused most_waits
is_down =
    let down : Body → Type 0 = λ b. is_said_down b ≡ true in
    let failed : Body = sends 2 (Err (failure.Down 2 3)) in
    record {
      said = (([], refl), (([], refl), tt));
      taken = ([], refl);
      kept = ((λ stop kept is some. absurd (none_there stop is)), ((λ stop kept is some. absurd (none_there kept some)), tt));
      halted = ((λ stop is by. absurd (none_there stop is)), ((λ stop is by. absurd (no_turn stop is by)), tt));
      mounted = omega arith;
      unmounted = λ none. (refl, All-cons down body.Mend (failed ∷ []) refl (All-cons down failed [] refl (All-nil down)));
      ends = ([], refl);
      followed = (failed_disk ∷ [], refl);
      released = (map pass_of (passed downed), refl);
    }

-- The one stop, and what was kept of it.
one_stop : (stop : Stop) → Some (stops cause.BlockThrew 1 1) ≡ Some stop → stops cause.BlockThrew 1 1 ≡ stop
one_stop stop is = cc

one_kept : (n kept : ℕ) → Some n ≡ Some kept → n ≡ kept
one_kept n kept is = cc

pub is_thrown : IsHistory the_goes 0 nothing thrown_front thrown_back
unfolding goes most_helpers most_refused most_waits
is_thrown =
    record {
      said = (([], refl), (([], refl), tt));
      taken = ([], refl);
      kept = (
        (λ stop kept is some. absurd (none_there stop is)),
        ((λ stop kept is some. subst (λ (s : Stop). IsKept (incarnation_at thrown_front thrown_back 0) s kept) (one_stop stop is) (sym (one_kept 1 kept some))), tt),
      );
      halted = (
        (λ stop is by. absurd (none_there stop is)),
        (
          (λ stop is by. subst (λ (s : Stop). IsHalted the_goes 0 nothing (incarnation_at thrown_front thrown_back 0) [] s.cause) (one_stop stop is)
              (refl, Contains-push (body.Batch (puts "k" 1 ∷ []) None true ∷ []) (body.Halt cause.BlockThrew))),
          tt,
        ),
      );
      mounted = omega arith;
      unmounted = λ none. absurd (true≢false none);
      ends = ([], refl);
      followed = ([], refl);
      released = (map pass_of (passed (history thrown_front thrown_back)), refl);
    }
