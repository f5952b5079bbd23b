-- All that a front sends fits its back, over whatever it takes.
use Rattle.std.proofs.Common.{refl, ℕ, suc, List, [], ◌∷◌, ◌++◌, Option, Some, None}
use Rattle.std.proofs.lemmas.List.Elements.{All-nil, All-cons}
use Rattle.std.specs.Prelude.{Bool}
use Rattle.do_value.specs.declared.value.Value.TheVariants as value
use Rattle.do_tree.specs.Tree.{Script}
use Rattle.storage_map.specs.declared.answer.Reading.TheVariants as reading
use Rattle.script_mean.specs.declared.answer.Answer.TheVariants as answer
use Rattle.timeline.specs.Intake.{Kind, Mode, serves, down, life, Taken, delivered, noticed, wanted, sent_by, down_replies, numbered, IsIntake}
use Rattle.timeline.specs.Object.{idle, waiting, ended, begun}
use Rattle.timeline.specs.Replies.{resets_of, unanswered}
use Rattle.timeline.specs.Steps.{delivers, answers}
use Rattle.timeline.specs.Told.{asking}
use Rattle.timeline.specs.declared.entry.Body.{Body}
use Rattle.timeline.specs.declared.entry.Body.TheVariants as body
use Rattle.timeline.specs.declared.entry.Entry.{Entry}
use Rattle.timeline.specs.declared.event.Event.{Event}
use Rattle.timeline.specs.declared.notice.Notice.TheVariants as notice
use Rattle.front_half.specs.Taking.{class_after}
use Rattle.object_core.proofs.DownSaid.{served, called}
use Rattle.object_core.proofs.Sending.{fit_append, Fitted, at, easy_fitted, mode_fitted, next_fitted, event_fitted, answer_fitted, Easy, resets_easy, replies_easy}
use Rattle.object_core.specs.Fitting.{known_over, last_over, AreFit, IsFitIntake}

mend_easy : (known : Bool) → Easy known body.Mend
mend_easy known = record { fits = tt; same = refl; goes = refl }

module _ (k : Kind) (script : Script) where
  pub sent_fits : (taken : List Taken) (class : Option ℕ) (first : Bool) (last : Option Entry) (i : ℕ) (es : List Event) (said : List Body) (mode : Mode)
      → Fitted class first last (at k script i es said mode) → IsIntake k (at k script i es said mode) taken → IsFitIntake script class taken
      → AreFit first last (sent_by k (at k script i es said mode) taken)
  sent_fits [] class first last i es said mode fitted may fit = fitted.fit
  sent_fits (delivered e ∷ taken) class first last i es said (serves (idle o)) fitted may fit =
      let step = delivers (life k i) o e in
      sent_fits taken (class_after script class e) first last i (es ++ e ∷ []) ((said ++ step.says) ++ asking step.state) (serves step.state)
      (event_fitted k script class e first last i es said o fitted fit.0) may.1 fit.1
  sent_fits (delivered e ∷ taken) class first last i es said (serves (waiting o u b)) fitted may fit = absurd may.0
  sent_fits (delivered e ∷ taken) class first last i es said (serves (ended c)) fitted may fit = absurd may.0
  sent_fits (delivered e ∷ taken) class first last i es said (down call) fitted may fit = absurd may.0
  sent_fits (wanted e ∷ taken) class first last i es said (serves state) fitted may fit = absurd (served state may.0)
  sent_fits (wanted e ∷ taken) class first last i es said (down None) fitted may fit =
      sent_fits taken class first last i es (said ++ body.Mend ∷ []) (down (Some e))
      (easy_fitted class first last i es said (down None) fitted tt (body.Mend ∷ []) (down (Some e))
      (All-cons (Easy (known_over first (numbered i 1 said))) body.Mend [] (mend_easy _) (All-nil (Easy (known_over first (numbered i 1 said))))) (λ none waits. absurd waits))
      may.1 fit.1
  sent_fits (wanted e ∷ taken) class first last i es said (down (Some call)) fitted may fit = absurd (called call may.0)
  sent_fits (noticed (notice.Read number r) ∷ taken) class first last i es said (serves (waiting o u b)) fitted may fit =
      let step = answers (life k i) o u (answer.Read r) in
      sent_fits taken class first last i es ((said ++ step.says) ++ asking step.state) (serves step.state)
      (answer_fitted k script class (answer.Read r) first last i es said o u b fitted) may.1 fit
  sent_fits (noticed (notice.Taken number count) ∷ taken) class first last i es said (serves (waiting o u b)) fitted may fit =
      let step = answers (life k i) o u (answer.Read (reading.Count count)) in
      sent_fits taken class first last i es ((said ++ step.says) ++ asking step.state) (serves step.state)
      (answer_fitted k script class (answer.Read (reading.Count count)) first last i es said o u b fitted) may.1 fit
  sent_fits (noticed (notice.Synced number) ∷ taken) class first last i es said (serves (waiting o u b)) fitted may fit =
      let step = answers (life k i) o u (answer.Value value.Undefined) in
      sent_fits taken class first last i es ((said ++ step.says) ++ asking step.state) (serves step.state)
      (answer_fitted k script class (answer.Value value.Undefined) first last i es said o u b fitted) may.1 fit
  sent_fits (noticed (notice.Read number r) ∷ taken) class first last i es said (serves (idle o)) fitted may fit = absurd may.0
  sent_fits (noticed (notice.Taken number count) ∷ taken) class first last i es said (serves (idle o)) fitted may fit = absurd may.0
  sent_fits (noticed (notice.Synced number) ∷ taken) class first last i es said (serves (idle o)) fitted may fit = absurd may.0
  sent_fits (noticed (notice.Read number r) ∷ taken) class first last i es said (serves (ended c)) fitted may fit = absurd may.0
  sent_fits (noticed (notice.Taken number count) ∷ taken) class first last i es said (serves (ended c)) fitted may fit = absurd may.0
  sent_fits (noticed (notice.Synced number) ∷ taken) class first last i es said (serves (ended c)) fitted may fit = absurd may.0
  sent_fits (noticed (notice.Fresh incarnation alarm cause) ∷ taken) class first last i es said (serves state) fitted may fit =
      let entries : List Entry = numbered i 1 said in
      let resets : List Body = resets_of cause (unanswered es said) in
      fit_append first last entries _ fitted.fit
      (sent_fits taken class (known_over first entries) (last_over last entries) (suc i) [] resets (serves (idle (begun alarm)))
      (next_fitted class first last i es said (serves state) fitted resets (serves (idle (begun alarm)))
      (resets_easy (known_over first entries) cause (unanswered es said)) (λ none waits. absurd waits)) may.1 fit)
  sent_fits (noticed (notice.Down cause before after) ∷ taken) class first last i es said (serves state) fitted may fit =
      let entries : List Entry = numbered i 1 said in
      let resets : List Body = resets_of cause (unanswered es said) in
      fit_append first last entries _ fitted.fit
      (sent_fits taken class (known_over first entries) (last_over last entries) (suc i) [] resets (down None)
      (next_fitted class first last i es said (serves state) fitted resets (down None)
      (resets_easy (known_over first entries) cause (unanswered es said)) (λ none waits. absurd waits)) may.1 fit)
  sent_fits (noticed n ∷ taken) class first last i es said (down None) fitted may fit = absurd may.0
  sent_fits (noticed (notice.Read number r) ∷ taken) class first last i es said (down (Some call)) fitted may fit = absurd may.0
  sent_fits (noticed (notice.Taken number count) ∷ taken) class first last i es said (down (Some call)) fitted may fit = absurd may.0
  sent_fits (noticed (notice.Synced number) ∷ taken) class first last i es said (down (Some call)) fitted may fit = absurd may.0
  sent_fits (noticed (notice.Fresh incarnation alarm cause) ∷ taken) class first last i es said (down (Some call)) fitted may fit =
      sent_fits taken class first last i es said (serves (idle (begun alarm)))
      (mode_fitted class first last i es said (down (Some call)) fitted tt (serves (idle (begun alarm))) (λ none waits. absurd waits)) may.1 fit
  sent_fits (noticed (notice.Down cause before after) ∷ taken) class first last i es said (down (Some call)) fitted may fit =
      sent_fits taken class first last i es (said ++ down_replies (Some call) before after) (down None)
      (easy_fitted class first last i es said (down (Some call)) fitted tt (down_replies (Some call) before after) (down None)
      (replies_easy (known_over first (numbered i 1 said)) call before after) (λ none waits. absurd waits)) may.1 fit
