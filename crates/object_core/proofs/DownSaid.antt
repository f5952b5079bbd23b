-- What a front says while it is down is what a back takes of an incarnation that isn't mounted.
use Rattle.std.proofs.Common.{◌≡◌, refl, ℕ, suc, List, [], ◌∷◌, ◌++◌, Some, None}
use Rattle.std.proofs.lemmas.List.Elements.{All-nil, All-cons, All-append}
use Rattle.std.specs.Prelude.{true}
use Rattle.std.specs.List.{All}
use Rattle.do_value.specs.declared.value.Value.TheVariants as value
use Rattle.storage_map.specs.declared.answer.Reading.TheVariants as reading
use Rattle.script_mean.specs.declared.answer.Answer.TheVariants as answer
use Rattle.timeline.specs.Intake.{Kind, Front, Mode, serves, down, life, Taken, delivered, noticed, wanted, front_after, down_replies, IsIntake}
use Rattle.timeline.specs.Object.{State, idle, waiting, ended, begun}
use Rattle.timeline.specs.Replies.{reset_of, resets_of, unanswered}
use Rattle.timeline.specs.Steps.{delivers, answers}
use Rattle.timeline.specs.Told.{asking}
use Rattle.timeline.specs.declared.caller.Caller.{Caller}
use Rattle.timeline.specs.declared.caller.Cause.{Cause}
use Rattle.timeline.specs.declared.entry.Body.{Body}
use Rattle.timeline.specs.declared.entry.Body.TheVariants as body
use Rattle.timeline.specs.declared.event.Event.{Event}
use Rattle.timeline.specs.declared.event.Event.TheVariants as event
use Rattle.timeline.specs.declared.notice.Notice.TheVariants as notice
use Rattle.output_gate.specs.Fits.{fits_down}

abbrev pub IsDown : Body → Type 0
IsDown b = fits_down b ≡ true

abbrev pub DownFits : Mode → List Body → Type 0
DownFits (serves state) said = Unit {0}
DownFits (down call) said = All IsDown said

resets_down : (cause : Cause) (callers : List Caller) → All IsDown (resets_of cause callers)
resets_down cause [] = All-nil IsDown
resets_down cause (from ∷ callers) = All-cons IsDown (reset_of cause from) (resets_of cause callers) refl (resets_down cause callers)

replies_down : (e : Event) (before after : ℕ) → All IsDown (down_replies (Some e) before after)
replies_down (event.Call from method args depth at) before after = All-cons IsDown _ [] refl (All-nil IsDown)
replies_down (event.Bind identity) before after = All-nil IsDown
replies_down (event.Answer incarnation number result at) before after = All-nil IsDown
replies_down (event.Tick at) before after = All-nil IsDown
replies_down (event.Evict at) before after = All-nil IsDown

-- A front that serves, or has a call that waits, asks for no mounting.
pub served : (x : State) → serves x ≡ down None → ⊥
served x is = absurd cc

pub called : (x : Event) → down (Some x) ≡ down None → ⊥
called x is = absurd cc

module _ (k : Kind) where
  abbrev at : ℕ → List Event → List Body → Mode → Front
  at i es said mode = record { incarnation = i; events = es; said = said; mode = mode }

  abbrev Fits : Front → Type 0
  Fits f = DownFits f.mode f.said

  pub down_said : (taken : List Taken) (i : ℕ) (es : List Event) (said : List Body) (mode : Mode) → DownFits mode said → IsIntake k (at i es said mode) taken
      → Fits (front_after k (at i es said mode) taken)
  down_said [] i es said mode fits may = fits
  down_said (delivered e ∷ taken) i es said (serves (idle o)) fits may =
      let step = delivers (life k i) o e in
      down_said taken i (es ++ e ∷ []) ((said ++ step.says) ++ asking step.state) (serves step.state) tt may.1
  down_said (delivered e ∷ taken) i es said (serves (waiting o u b)) fits may = absurd may.0
  down_said (delivered e ∷ taken) i es said (serves (ended c)) fits may = absurd may.0
  down_said (delivered e ∷ taken) i es said (down call) fits may = absurd may.0
  down_said (wanted e ∷ taken) i es said (serves state) fits may = absurd (served state may.0)
  down_said (wanted e ∷ taken) i es said (down None) fits may =
      down_said taken i es (said ++ body.Mend ∷ []) (down (Some e))
      (All-append IsDown said (body.Mend ∷ []) fits (All-cons IsDown body.Mend [] refl (All-nil IsDown))) may.1
  down_said (wanted e ∷ taken) i es said (down (Some call)) fits may = absurd (called call may.0)
  down_said (noticed (notice.Read number r) ∷ taken) i es said (serves (waiting o u b)) fits may =
      let step = answers (life k i) o u (answer.Read r) in
      down_said taken i es ((said ++ step.says) ++ asking step.state) (serves step.state) tt may.1
  down_said (noticed (notice.Taken number count) ∷ taken) i es said (serves (waiting o u b)) fits may =
      let step = answers (life k i) o u (answer.Read (reading.Count count)) in
      down_said taken i es ((said ++ step.says) ++ asking step.state) (serves step.state) tt may.1
  down_said (noticed (notice.Synced number) ∷ taken) i es said (serves (waiting o u b)) fits may =
      let step = answers (life k i) o u (answer.Value value.Undefined) in
      down_said taken i es ((said ++ step.says) ++ asking step.state) (serves step.state) tt may.1
  down_said (noticed (notice.Read number r) ∷ taken) i es said (serves (idle o)) fits may = absurd may.0
  down_said (noticed (notice.Taken number count) ∷ taken) i es said (serves (idle o)) fits may = absurd may.0
  down_said (noticed (notice.Synced number) ∷ taken) i es said (serves (idle o)) fits may = absurd may.0
  down_said (noticed (notice.Read number r) ∷ taken) i es said (serves (ended c)) fits may = absurd may.0
  down_said (noticed (notice.Taken number count) ∷ taken) i es said (serves (ended c)) fits may = absurd may.0
  down_said (noticed (notice.Synced number) ∷ taken) i es said (serves (ended c)) fits may = absurd may.0
  down_said (noticed (notice.Fresh incarnation alarm cause) ∷ taken) i es said (serves state) fits may =
      down_said taken (suc i) [] (resets_of cause (unanswered es said)) (serves (idle (begun alarm))) tt may.1
  down_said (noticed (notice.Down cause before after) ∷ taken) i es said (serves state) fits may =
      down_said taken (suc i) [] (resets_of cause (unanswered es said)) (down None) (resets_down cause (unanswered es said)) may.1
  down_said (noticed n ∷ taken) i es said (down None) fits may = absurd may.0
  down_said (noticed (notice.Read number r) ∷ taken) i es said (down (Some call)) fits may = absurd may.0
  down_said (noticed (notice.Taken number count) ∷ taken) i es said (down (Some call)) fits may = absurd may.0
  down_said (noticed (notice.Synced number) ∷ taken) i es said (down (Some call)) fits may = absurd may.0
  down_said (noticed (notice.Fresh incarnation alarm cause) ∷ taken) i es said (down (Some call)) fits may =
      down_said taken i es said (serves (idle (begun alarm))) tt may.1
  down_said (noticed (notice.Down cause before after) ∷ taken) i es said (down (Some call)) fits may =
      down_said taken i es (said ++ down_replies (Some call) before after) (down None)
      (All-append IsDown said (down_replies (Some call) before after) fits (replies_down call before after)) may.1
