-- Whom and what the messages name that left: they begin what passes, which names what was taken, and that begins what was sent.
use Rattle.std.proofs.Common.{◌≡◌, ◌≤◌, ◌∙◌, ap, sym, refl, subst, ℕ, arith, List, [], ◌∷◌, ◌++◌, map, Option}
use Rattle.std.proofs.lemmas.Grind.{flat_map-append}
use Rattle.std.proofs.lemmas.List.{map-append}
use Rattle.std.proofs.lemmas.List.Elements.{Contains-append_left}
use Rattle.std.specs.List.{Contains}
use Rattle.do_tree.specs.Tree.{Script}
use Rattle.timeline.specs.Headline.{IsPrefix, pass_of, release_of}
use Rattle.timeline.specs.History.{history}
use Rattle.timeline.specs.Intake.{Front, Kind, delivered_in, opened, sent_by}
use Rattle.timeline.specs.Logs.{Backed, Fronted, backed, fronted}
use Rattle.timeline.specs.Passed.{Passed, passed}
use Rattle.timeline.specs.declared.back_log.Release.{Release}
use Rattle.timeline.specs.declared.caller.Caller.{Caller}
use Rattle.timeline.specs.declared.entry.Entry.{Entry}
use Rattle.timeline.specs.declared.event.Event.{Event}
use Rattle.timeline.specs.declared.message.Message.{Message as Sent}
use Rattle.object_front.specs.Came.{events}
use Rattle.front_half.specs.Standing.{kind_in}
use Rattle.output_gate.specs.Telling.{opened_map}
use Rattle.front_history.specs.Turns.{HalvesAreSaid}
use Rattle.object_messages.proofs.Counts.{times-append, times_of-append}
use Rattle.object_messages.proofs.FrontsNumbering.{numbers_rise}
use Rattle.object_messages.proofs.Once.{ascending_once}
use Rattle.object_messages.specs.Laws.{PassedIsTaken, RepliesAreOwed, gone}
use Rattle.object_messages.specs.Naming.{asked_by, asked_in, called_in, message_of, messages_of, replied_by, replied_in, times, times_of}
use Rattle.object_core.proofs.Alike.{class_for}
use Rattle.object_core.proofs.Telling.{is_history}
use Rattle.object_core.specs.One.{IsOne, Origin, TellsNow, messages}
use Rattle.object_core.specs.Owing.{IsOwed}
use Rattle.object_core.specs.declared.object.Core.{Core}

-- The messages of what was released, and of what passes.
abbrev pub first_of : Sent × ℕ → Sent
first_of item = item.0

pub released_first : (released : List Release) → map first_of (map release_of released) ≡ messages released
released_first [] = refl
released_first (r ∷ released) = ap (λ (ms : List Sent). r.message ∷ ms) (released_first released)

pub passed_first : (items : List Passed) → map first_of (map pass_of items) ≡ gone items
passed_first [] = refl
passed_first (p ∷ items) = ap (λ (ms : List Sent). p.message ∷ ms) (passed_first items)

-- What left begins what passes.
pub released_begin : (released : List Release) (items : List Passed) → IsPrefix (map release_of released) (map pass_of items) → IsPrefix (messages released) (gone items)
released_begin released items (rest, is) = (
  map first_of rest,
  ap (λ (ms : List Sent). ms ++ map first_of rest) (sym (released_first released)) ∙ sym (map-append first_of (map release_of released) rest)
      ∙ ap (λ (both : List (Sent × ℕ)). map first_of both) is ∙ passed_first items,
)

-- What begins a list names no more than the whole of it.
fewer_times : (from : Caller) (first rest : List Caller) → times from first ≤ times from (first ++ rest)
fewer_times from first rest = omega (arith, times-append from first rest)

fewer_replies : (from : Caller) (first whole : List Sent) → IsPrefix first whole → times from (replied_in first) ≤ times from (replied_in whole)
fewer_replies from first whole (rest, is) =
    subst (λ (callers : List Caller). times from (replied_in first) ≤ times from callers) (sym (flat_map-append replied_by first rest) ∙ ap replied_in is)
    (fewer_times from (replied_in first) (replied_in rest))

asks_among : (first whole : List Sent) → IsPrefix first whole → (asked : ℕ × ℕ) → Contains (asked_in first) asked → Contains (asked_in whole) asked
asks_among first whole (rest, is) asked has =
    subst (λ (all : List (ℕ × ℕ)). Contains all asked) (sym (flat_map-append asked_by first rest) ∙ ap asked_in is)
    (Contains-append_left (asked_in first) (asked_in rest) asked has)

-- Nor does it ask this oftener.
fewer_asks : (asked : ℕ × ℕ) (first whole : List Sent) → IsPrefix first whole → times_of asked (asked_in first) ≤ times_of asked (asked_in whole)
fewer_asks asked first whole (rest, is) =
    subst (λ (all : List (ℕ × ℕ)). times_of asked (asked_in first) ≤ times_of asked all) (sym (flat_map-append asked_by first rest) ∙ ap asked_in is)
    (omega (arith, times_of-append asked (asked_in first) (asked_in rest)))

-- So the messages among what entries say.
pub messages_begin : (first whole : List Entry) → IsPrefix first whole → IsPrefix (messages_of first) (messages_of whole)
messages_begin first whole (rest, is) =
    (messages_of rest, sym (flat_map-append (λ (entry : Entry). message_of entry.body) first rest) ∙ ap messages_of is)

-- No more than the last of these.
below_all : (a b c d e f : ℕ) → a ≤ b → b ≤ c → c ≤ d → d ≤ e → e ≤ f → a ≤ f
below_all a b c d e f first second third fourth last = omega (arith, first, second, third, fourth, last)

module _ {D : Type 0} (moment_of : D → ℕ) (left_since : D → ℕ → List ℕ → Type 0) (told : D → Option (List ℕ)) (image : D → List ℕ → Type 0) (faults_of : D → ℕ)
    (core : Core D) (script : Script) (origin : Origin) (one : IsOne moment_of left_since told image faults_of script origin core) where
  abbrev log : Fronted
  log = fronted core.front.half.log

  abbrev back : Backed
  back = backed core.back.log

  pub is_owed : (owed : RepliesAreOwed) (takes : PassedIsTaken) (said : HalvesAreSaid) → TellsNow told core.back → IsOwed log (messages core.back.log.released.items)
  is_owed owed takes said tells =
      let k = class_for one.st.class in
      let pair = one.pair tells k.0 k.1 in
      let is = is_history moment_of left_since told image faults_of core script origin one said tells k.0 k.1 in
      let left : IsPrefix (messages core.back.log.released.items) (gone (passed (history log back))) =
      released_begin core.back.log.released.items (passed (history log back)) is.released in
      let was_sent : IsPrefix (messages_of back.taken) (messages_of log.sent) = messages_begin back.taken log.sent is.taken in
      let kind : Kind = kind_in script k.0 in
      let start : Front = opened (opened_map origin.start).alarm in
      let said_so : List Entry = sent_by kind start pair.taken in
      let was_said : IsPrefix (messages_of log.sent) (messages_of said_so) = messages_begin log.sent said_so (pair.unsent, pair.by.sent) in
      record {
        replies = λ from.
            let called : times from (replied_in (messages_of said_so)) ≤ times from (called_in (events log.delivered ++ events log.downed)) =
            subst (λ (items : List (ℕ × Event)). times from (replied_in (messages_of said_so)) ≤ times from (called_in (events items ++ events log.downed)))
            (sym pair.by.delivered)
            (subst (λ (items : List (ℕ × Event)). times from (replied_in (messages_of said_so)) ≤ times from (called_in (events (delivered_in kind start pair.taken) ++ events items)))
            (sym pair.by.downed) (owed kind (opened_map origin.start).alarm pair.taken pair.by.gate from)) in
            below_all (times from (replied_in (messages core.back.log.released.items))) (times from (replied_in (gone (passed (history log back)))))
            (times from (replied_in (messages_of back.taken))) (times from (replied_in (messages_of log.sent))) (times from (replied_in (messages_of said_so)))
            (times from (called_in (events log.delivered ++ events log.downed)))
            (fewer_replies from (messages core.back.log.released.items) (gone (passed (history log back))) left) ((takes log back).1 from)
            (fewer_replies from (messages_of back.taken) (messages_of log.sent) was_sent)
            (fewer_replies from (messages_of log.sent) (messages_of said_so) was_said) called;
        asked = λ asked has.
            asks_among (messages_of back.taken) (messages_of log.sent) was_sent asked
            ((takes log back).0 asked (asks_among (messages core.back.log.released.items) (gone (passed (history log back))) left asked has));
        once = λ asked.
            below_all (times_of asked (asked_in (messages core.back.log.released.items))) (times_of asked (asked_in (gone (passed (history log back)))))
            (times_of asked (asked_in (messages_of back.taken))) (times_of asked (asked_in (messages_of log.sent))) (times_of asked (asked_in (messages_of said_so))) 1
            (fewer_asks asked (messages core.back.log.released.items) (gone (passed (history log back))) left) ((takes log back).2 asked)
            (fewer_asks asked (messages_of back.taken) (messages_of log.sent) was_sent)
            (fewer_asks asked (messages_of log.sent) (messages_of said_so) was_said)
            (ascending_once asked (asked_in (messages_of said_so)) (numbers_rise kind (opened_map origin.start).alarm pair.taken pair.by.gate));
      }
