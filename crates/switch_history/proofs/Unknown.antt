-- What is posted to an object of a class that the script hasn't.
use Rattle.std.proofs.Common.{◌≡◌, ℕ, List, [], ◌∷◌, Option, Some, true, false, refl}
use Rattle.std.specs.List.{AllByRecursion}
use Rattle.std.proofs.lemmas.List.Elements.{All-cons, All-nil}
use Rattle.do_tree.specs.Tree.{Script}
use Rattle.mailbox.specs.Posting.{of_slot}
use Rattle.object_messages.specs.Unmoved.{AreAnswers, is_answer}
use Rattle.timeline.specs.Lines.{Identity}
use Rattle.timeline.specs.Switch.{IsSwitchRun, Switch, SwitchLog, accepted as after_line, begins, opened, routed as after_message}
use Rattle.timeline.specs.declared.event.Event.{Event}
use Rattle.timeline.specs.declared.event.Event.TheVariants as event
use Rattle.switch_history.specs.Unknown.{UnknownIsOnlyAnswered}
use Rattle.switch_history.proofs.Fitted.{IsAnswer, stood_unknown}
use Rattle.switch_history.proofs.Fitting.{run_stands}
use Rattle.switch_history.proofs.Standing.{at, line_stays, message_stays}

-- An object that a slot had at the opening is there after a run.
run_stays : (script : Script) (named : List (Option Identity)) (log : SwitchLog) (s : Switch) → IsSwitchRun script (opened named) log s
    → (slot : ℕ) (object : Identity) → at named slot ≡ Some object → at s.objects slot ≡ Some object
run_stays script named _ _ begins slot object is = is
run_stays script named _ _ (after_line log s l run) slot object is = line_stays script s l slot object (run_stays script named log s run slot object is)
run_stays script named _ _ (after_message log s sent run) slot object is =
    message_stays script s sent slot object (run_stays script named log s run slot object is)

-- Answers, by another word.
one_answers : (e : Event) → IsAnswer e → is_answer e ≡ true
one_answers (event.Answer incarnation number result at) is = refl
one_answers (event.Bind identity) is = absurd is
one_answers (event.Call from method args depth at) is = absurd is
one_answers (event.Tick at) is = absurd is
one_answers (event.Evict at) is = absurd is

all_answer : (es : List Event) → AllByRecursion IsAnswer es → AreAnswers es
all_answer [] all = All-nil (λ (e : Event). is_answer e ≡ true)
all_answer (e ∷ es) all = All-cons (λ (x : Event). is_answer x ≡ true) e es (one_answers e all.0) (all_answer es all.1)

-- So one of a class that the script hasn't is posted answers alone.
pub only_answered : UnknownIsOnlyAnswered
only_answered script named log s run slot object there unknown =
    all_answer (of_slot slot log.posts)
    (stood_unknown script (at named slot) (at s.objects slot) (of_slot slot log.posts) object (run_stays script named log s run slot object there) unknown
    ((run_stands script named log s run).slots slot))
