-- Where no incarnation has stopped, none has ended at the front either, and what was sent tells of no end; so what passes.
use Rattle.std.proofs.Common.{◌≡◌, sym, refl, subst, ap, ℕ, List, [], ◌∷◌, ◌++◌, map, Option, ◌∙◌}
use Rattle.std.proofs.lemmas.List.Elements.{All-nil, All-cons, All-head, All-tail}
use Rattle.std.specs.Prelude.{false}
use Rattle.do_tree.specs.Tree.{Script}
use Rattle.timeline.specs.Headline.{IsPrefix}
use Rattle.timeline.specs.History.{history}
use Rattle.timeline.specs.Intake.{Front, Kind, opened, sent_by}
use Rattle.timeline.specs.Logs.{Backed, Fronted, backed, fronted}
use Rattle.timeline.specs.Passed.{passed}
use Rattle.timeline.specs.declared.back_log.Stop.{Stop}
use Rattle.timeline.specs.declared.caller.Cause.{Cause}
use Rattle.timeline.specs.declared.entry.Entry.{Entry}
use Rattle.timeline.specs.declared.message.Message.{Message as Sent}
use Rattle.front_half.specs.Standing.{kind_in}
use Rattle.output_gate.specs.Telling.{opened_map}
use Rattle.front_history.specs.Turns.{HalvesAreSaid}
use Rattle.object_messages.specs.Ends.{EndsAreNeeded, TellNoEnd, UnendedPassAsTaken, tells_end}
use Rattle.object_messages.specs.Laws.{gone}
use Rattle.object_messages.specs.Naming.{messages_of}
use Rattle.object_core.proofs.Alike.{class_for}
use Rattle.object_core.proofs.Owing.{messages_begin, released_begin}
use Rattle.object_core.proofs.Telling.{is_history}
use Rattle.object_core.specs.One.{IsOne, Origin, TellsNow, messages}
use Rattle.object_core.specs.declared.object.Core.{Core}

-- What begins a list that tells of no end tells of none.
front_tells_none : (first rest : List Sent) → TellNoEnd (first ++ rest) → TellNoEnd first
front_tells_none [] rest all = All-nil (λ (m : Sent). tells_end m ≡ false)
front_tells_none (m ∷ first) rest all =
    All-cons (λ (sent : Sent). tells_end sent ≡ false) m first (All-head (λ (sent : Sent). tells_end sent ≡ false) m (first ++ rest) all)
    (front_tells_none first rest (All-tail (λ (sent : Sent). tells_end sent ≡ false) m (first ++ rest) all))

begins_tell_none : (first whole : List Sent) → IsPrefix first whole → TellNoEnd whole → TellNoEnd first
begins_tell_none first whole (rest, is) all = front_tells_none first rest (subst TellNoEnd (sym is) all)

-- What begins nothing is nothing.
begins_nothing : (first whole : List Cause) → IsPrefix first whole → whole ≡ [] → first ≡ []
begins_nothing [] whole is none = refl
begins_nothing (cause ∷ first) whole (rest, is) none = let no : cause ∷ (first ++ rest) ≡ [] → ⊥ = (λ e. let impossible : ⊥ = cc in impossible) in absurd (no (is ∙ none))

module _ {D : Type 0} (moment_of : D → ℕ) (left_since : D → ℕ → List ℕ → Type 0) (told : D → Option (List ℕ)) (image : D → List ℕ → Type 0) (faults_of : D → ℕ)
    (core : Core D) (script : Script) (origin : Origin) (one : IsOne moment_of left_since told image faults_of script origin core) where
  abbrev log : Fronted
  log = fronted core.front.half.log

  abbrev back : Backed
  back = backed core.back.log

  pub tells_no_end : (needed : EndsAreNeeded) (passes : UnendedPassAsTaken) (said : HalvesAreSaid) → TellsNow told core.back → core.back.log.stops.items ≡ []
      → TellNoEnd (messages core.back.log.released.items)
  tells_no_end needed passes said tells none =
      let k = class_for one.st.class in
      let pair = one.pair tells k.0 k.1 in
      let is = is_history moment_of left_since told image faults_of core script origin one said tells k.0 k.1 in
      let kind : Kind = kind_in script k.0 in
      let start : Front = opened (opened_map origin.start).alarm in
      let said_so : List Entry = sent_by kind start pair.taken in
      let unended : log.ends ≡ [] = begins_nothing log.ends (map (λ (stop : Stop). stop.cause) back.stops) is.ends
      (ap (λ (stops : List Stop). map (λ (stop : Stop). stop.cause) stops) none) in
      let all_said : TellNoEnd (messages_of said_so) = needed kind (opened_map origin.start).alarm pair.taken pair.by.gate (sym pair.by.ends ∙ unended) in
      let was_sent : TellNoEnd (messages_of log.sent) =
      begins_tell_none (messages_of log.sent) (messages_of said_so) (messages_begin log.sent said_so (pair.unsent, pair.by.sent)) all_said in
      let was_taken : TellNoEnd (messages_of back.taken) =
      begins_tell_none (messages_of back.taken) (messages_of log.sent) (messages_begin back.taken log.sent is.taken) was_sent in
      begins_tell_none (messages core.back.log.released.items) (gone (passed (history log back)))
      (released_begin core.back.log.released.items (passed (history log back)) is.released) (passes log back none was_taken)
