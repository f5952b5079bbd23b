-- A front that got nothing but answers was delivered nothing, and so has sent no message. One without a class by its log has said nothing, so
-- that nothing passes; and one without a class that got nothing has taken nothing, so that nothing is left.
use Rattle.std.proofs.Common.{◌≡◌, ◌∙◌, sym, refl, ap, subst, ℕ, zero, suc, List, [], ◌∷◌, ◌++◌, map, length, arith, Option, None}
use Rattle.std.proofs.lemmas.List.Elements.{All-contains, All-contains_itself, All-weaker, Contains-append_left, Contains-append_right, Contains-push}
use Rattle.std.proofs.lemmas.List.Sorted.{Contains-permutation, IsPermutation-sym}
use Rattle.std.specs.Prelude.{false, not, true}
use Rattle.std.specs.List.{Contains, flat_map}
use Rattle.do_tree.specs.Tree.{Script}
use Rattle.lane.specs.Lanes.{sent_on}
use Rattle.timeline.specs.Headline.{IsPrefix, pass_of, release_of}
use Rattle.timeline.specs.History.{History, Incarnation, entries_of, history, incarnation_at, incarnations, said_in}
use Rattle.timeline.specs.Intake.{Front, Kind, opened, sent_by}
use Rattle.timeline.specs.Logs.{Backed, Fronted, backed, fronted}
use Rattle.timeline.specs.Passed.{Passed, bound_by, held_in, passed, passed_in, passes}
use Rattle.timeline.specs.declared.entry.Entry.{Entry}
use Rattle.timeline.specs.declared.event.Event.{Event}
use Rattle.timeline.specs.declared.message.Message.{Message as Sent}
use Rattle.object_front.specs.Came.{events, kept}
use Rattle.object_front.specs.Classed.{class_behind, class_by}
use Rattle.front_half.specs.Remaining.{left_at}
use Rattle.front_half.specs.Standing.{fresh, is_stopped, kind_in}
use Rattle.output_gate.specs.Serving as serving
use Rattle.output_gate.specs.Telling.{opened_map}
use Rattle.object_messages.proofs.Unmoved.{answers_move_nothing}
use Rattle.object_messages.specs.Naming.{messages_of}
use Rattle.object_messages.specs.Unmoved.{AreAnswers, is_answer}
use Rattle.object_core.proofs.Alike.{class_for}
use Rattle.object_core.proofs.Dropping.{none_stopped}
use Rattle.object_core.proofs.Emptied.{all_durable}
use Rattle.object_core.proofs.Owing.{messages_begin}
use Rattle.object_core.proofs.Telling.{has_told}
use Rattle.object_core.proofs.Unmoved.{first_of_none, no_events}
use Rattle.object_core.specs.Classless.{HasDoneNothing, IsUnmoved}
use Rattle.object_core.specs.Dropping.{HasSaidNothing}
use Rattle.object_core.specs.Laws.{HasLetGo, HasNothingToDo}
use Rattle.object_core.specs.One.{IsOne, Origin, TellsNow, class_in}
use Rattle.object_core.specs.declared.object.Core.{Core}

-- Of what wasn't taken nothing passes.
none_passes : (front : Fronted) (back : Backed) (n : ℕ) → back.taken ≡ [] → passed (incarnations front back n) ≡ []
none_passes front back zero none = refl
none_passes front back (suc n) none =
    let older : History = incarnations front back n in
    let i : Incarnation = incarnation_at front back n in
    ap (λ (ps : List Passed). ps ++ passed_in older i) (none_passes front back n none)
    ∙ ap (λ (entries : List Entry). flat_map (passes older i.number (bound_by i.stop i.flights)) (held_in 0 0 (said_in (entries_of (suc n) entries)))) none

-- What begins with nothing behind it is nothing.
none_begins : {X Y : Type 0} (f : X → Y) (xs : List X) (ys : List Y) → IsPrefix (map f xs) ys → ys ≡ [] → xs ≡ []
none_begins f [] ys begun none = refl
none_begins f (x ∷ xs) ys (rest, is) none = let no : ⊥ = cc in absurd no

second_of_none : {X : Type 0} (xs ys : List X) → xs ++ ys ≡ [] → ys ≡ []
second_of_none [] ys is = is
second_of_none (x ∷ xs) ys is = let no : ⊥ = cc in absurd no

module _ {D : Type 0} (moment_of : D → ℕ) (left_since : D → ℕ → List ℕ → Type 0) (told : D → Option (List ℕ)) (image : D → List ℕ → Type 0) (faults_of : D → ℕ)
    (core : Core D) (script : Script) (origin : Origin) (one : IsOne moment_of left_since told image faults_of script origin core) where
  abbrev log : Fronted
  log = fronted core.front.half.log

  abbrev back : Backed
  back = backed core.back.log

  abbrev come : List Event
  come = events log.delivered ++ (events log.downed ++ (log.dropped ++ (kept one.st ++ one.has_got.lost)))

  -- What holds of each event that it got holds of those that came so.
  some_answers : AreAnswers core.inbox.got → (es : List Event) → ((e : Event) → Contains es e → Contains come e) → AreAnswers es
  some_answers all es among =
      All-weaker (Contains es) (λ (e : Event). is_answer e ≡ true)
      (λ e there. All-contains (λ (x : Event). is_answer x ≡ true) core.inbox.got e all
      (Contains-permutation come core.inbox.got e (IsPermutation-sym core.inbox.got come one.has_got.come.each) (among e there)))
      es (All-contains_itself es)

  pub says_no_message : TellsNow told core.back → AreAnswers core.inbox.got → messages_of log.sent ≡ []
  says_no_message tells all =
      let k = class_for one.st.class in
      let pair = one.pair tells k.0 k.1 in
      let kind : Kind = kind_in script k.0 in
      let start : Front = opened (opened_map origin.start).alarm in
      let said_so : List Entry = sent_by kind start pair.taken in
      let rest : List Event = log.dropped ++ (kept one.st ++ one.has_got.lost) in
      let delivered : AreAnswers (events log.delivered) = some_answers all (events log.delivered)
      (λ e there. Contains-append_left (events log.delivered) (events log.downed ++ rest) e there) in
      let downed : AreAnswers (events log.downed) = some_answers all (events log.downed)
      (λ e there. Contains-append_right (events log.delivered) (events log.downed ++ rest) e (Contains-append_left (events log.downed) rest e there)) in
      let nothing : messages_of said_so ≡ [] =
      answers_move_nothing kind (opened_map origin.start).alarm pair.taken pair.by.gate
      (subst (λ (items : List (ℕ × Event)). AreAnswers (events items)) pair.by.delivered delivered)
      (subst (λ (items : List (ℕ × Event)). AreAnswers (events items)) pair.by.downed downed) in
      let begun = messages_begin log.sent said_so (pair.unsent, pair.by.sent) in
      first_of_none (messages_of log.sent) begun.0 (begun.1 ∙ nothing)

  -- Of what wasn't sent nothing was taken, and so nothing was released.
  passed_none : back.taken ≡ [] → passed (history log back) ≡ []
  passed_none none = none_passes log back (suc (length back.stops)) none

  pub has_done_nothing : TellsNow told core.back → class_by script (class_in script origin.object) log ≡ None → HasDoneNothing log back
  has_done_nothing tells none =
      let said : HasSaidNothing log = (one.drops tells).unsaid none in
      let taken_none : back.taken ≡ [] =
      first_of_none back.taken one.lost (first_of_none (back.taken ++ one.lost) core.line.waiting (sym one.is_line ∙ said.sent)) in
      record {
        said = said;
        taken = taken_none;
        released =
            none_begins release_of back.released (map pass_of (passed (history log back)))
            (has_told moment_of left_since told image faults_of core script origin one tells.0 tells.1 tells.2).passes (ap (map pass_of) (passed_none taken_none));
        stops = none_stopped moment_of left_since told image faults_of origin.start origin.opening _ core.back one.back_stands taken_none;
      }

  module _ (tells : TellsNow told core.back) (none : class_in script origin.object ≡ None) (got : core.inbox.got ≡ []) (on : is_stopped core.front.half ≡ false)
      (nothing : HasNothingToDo script core) (none_left : origin.left ≡ []) where
    none_came : come ≡ []
    none_came = none_of come (subst (λ (es : List Event). (e : Event) → Contains come e → Contains es e) got
        (λ e there. Contains-permutation come core.inbox.got e (IsPermutation-sym core.inbox.got come one.has_got.come.each) there))
      where
        none_of : (es : List Event) → ((e : Event) → Contains es e → Contains [] e) → es ≡ []
        none_of [] among = refl
        none_of (e ∷ es) among =
            let there : Contains [] e = among e (Contains-append_left (e ∷ []) es e (Contains-push [] e)) in absurd (omega (arith, there.1))

    delivered_none : log.delivered ≡ []
    delivered_none = no_events log.delivered (first_of_none (events log.delivered) _ none_came)

    behind : events log.downed ++ (log.dropped ++ (kept one.st ++ one.has_got.lost)) ≡ []
    behind = second_of_none (events log.delivered) _ none_came

    dropped_on : log.dropped ++ (kept one.st ++ one.has_got.lost) ≡ []
    dropped_on = second_of_none (events log.downed) _ behind

    kept_none : kept one.st ≡ []
    kept_none = first_of_none (kept one.st) one.has_got.lost (second_of_none log.dropped _ dropped_on)

    -- Its class is none, so that it stands fresh and has done nothing.
    class_none : class_by script (class_in script origin.object) log ≡ None
    class_none = ap (λ (items : List (ℕ × Event)). class_behind script (class_in script origin.object) (events items)) delivered_none ∙ none

    did_nothing : HasDoneNothing log back
    did_nothing = has_done_nothing tells class_none

    stands_fresh : one.st ≡ fresh None one.alarm
    stands_fresh = ((one.drops tells).unbound on (one.classed.now on ∙ class_none)).0

    has_let_go : HasLetGo log back (sent_on core.out)
    has_let_go = record {
      taken = did_nothing.taken ∙ sym did_nothing.said.sent;
      durable = all_durable moment_of left_since told image faults_of origin.start origin.opening (not (serving.is_stopped core.back)) log core.back one.back_stands nothing.flush;
      released = ap (map release_of) did_nothing.released ∙ sym (ap (map pass_of) (passed_none did_nothing.taken));
      left = sym (one.left ∙ ap (λ (left : List Sent). left ++ sent_on core.out) none_left);
    }

    pub is_unmoved : IsUnmoved log back (sent_on core.out) (kept one.st) (left_at script one.st)
    is_unmoved = record {
      let_go = has_let_go;
      delivered = delivered_none;
      downed = no_events log.downed (first_of_none (events log.downed) _ behind);
      dropped = first_of_none log.dropped _ dropped_on;
      sent = did_nothing.said.sent;
      taken = did_nothing.taken;
      kept = kept_none;
      left = ap (left_at script) stands_fresh;
    }
