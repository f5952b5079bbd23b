-- A front of an object goes on hearing of its back at each of its turns.
use Rattle.std.proofs.Common.{◌≡◌, ◌∙◌, ap, sym, subst, ℕ, suc, false, List, [], ◌∷◌, ◌++◌, append-nil, length}
use Rattle.std.proofs.lemmas.List.{append_cancel_left}
use Rattle.do_tree.specs.Tree.{Script}
use Rattle.storage_map.specs.Contents.{Contents}
use Rattle.timeline.specs.Intake as intake
use Rattle.timeline.specs.Intake.{Kind, Front, Taken, front_after, sent_by, takes, numbered}
use Rattle.timeline.specs.Logs.{Fronted, fronted}
use Rattle.timeline.specs.declared.entry.Entry.{Entry}
use Rattle.timeline.specs.declared.event.Event.{Event}
use Rattle.timeline.specs.declared.notice.Notice.{Notice}
use Rattle.front_half.proofs.Intakes.{front_after-snoc}
use Rattle.object_front.specs.Evaluated.{seen}
use Rattle.front_half.specs.Standing.{Stood, IsClass, IsTakenBy, is_stopped, kind_in}
use Rattle.front_half.specs.Turning.{Turns}
use Rattle.object_front.specs.declared.evaluated.Evaluated.{Evaluated}
use Rattle.front_half.specs.declared.half.Half.{Half}
use Rattle.object_history.proofs.Fitting.{notices_fit}
use Rattle.object_history.proofs.Growing.{logs_grow}
use Rattle.object_history.proofs.WellSaid.{delivers_well, answers_well}
use Rattle.object_history.specs.Pair.{Rear, IsPair}
use Rattle.object_history.specs.Stepping.{Grows, IsLogOf, notices_with, said_before}
use Rattle.front_history.proofs.Items.{turn_takes}
use Rattle.front_history.proofs.Keeping.{TakesOf, no_item, an_item, last_may}
use Rattle.front_history.specs.Paired.{ArePaired}
use Rattle.front_history.specs.Turns.{AreUnderWay}
use Rattle.object_core.proofs.Heeding.{front_heard}
use Rattle.object_core.proofs.Pairing.{pair_now}
use Rattle.object_core.specs.Heard.{IsHeard}

module _ (k : Kind) (opened : Contents) (from : intake.Front) (taken : List Taken) (old new : Half Evaluated) (st : Stood) (rear : Rear)
    (got_before got : List Notice) (line later_line : List Entry) (notices later : List Notice)
    (way : AreUnderWay old new got_before got line later_line notices later) (before : IsTakenBy k from taken st.front (fronted old.log))
    (pair : IsPair k opened st.front (fronted old.log) rear line notices) (heard : IsHeard st.front rear line notices) where
  -- what is logged as sent stands behind the line
  line_by : (more : List Entry) → new.log.sent.items ≡ old.log.sent.items ++ more → later_line ≡ line ++ more
  line_by more is =
      way.behind ∙ ap (λ (x : List Entry). line ++ x) (append_cancel_left old.log.sent.items way.sent more (sym way.logged ∙ is))

  none_heard : (after : Front) → IsTakenBy k from (taken ++ []) after (fronted new.log) → notices ≡ later → IsHeard after rear later_line later
  none_heard after by same =
      let items : taken ++ [] ≡ taken = append-nil taken in
      let front : st.front ≡ after = sym before.at ∙ ap (λ (ts : List Taken). front_after k from ts) (sym items) ∙ by.at in
      let sent : new.log.sent.items ≡ old.log.sent.items = by.sent ∙ ap (λ (ts : List Taken). sent_by k from ts) items ∙ sym before.sent in
      let lines : line ≡ later_line = sym (line_by [] (sent ∙ sym (append-nil old.log.sent.items)) ∙ append-nil line) in
      subst (λ (g : Front). IsHeard g rear later_line later) front
      (subst (λ (l : List Entry). IsHeard st.front rear l later) lines (subst (λ (n : List Notice). IsHeard st.front rear line n) same heard))

  one_heard : (t : Taken) (after : Front) → IsTakenBy k from (taken ++ t ∷ []) after (fronted new.log) → notices ≡ notices_with t later
      → IsHeard after rear later_line later
  one_heard t after by same =
      let f : Front = front_after k from taken in
      let log : Fronted = fronted old.log in
      let was : IsLogOf k from taken (fronted old.log) = record { sent = before.sent; delivered = before.delivered; downed = before.downed; ends = before.ends } in
      let is : IsLogOf k from (taken ++ t ∷ []) (fronted new.log) = record { sent = by.sent; delivered = by.delivered; downed = by.downed; ends = by.ends } in
      let grows : Grows k f t (fronted old.log) (fronted new.log) = logs_grow k from taken t (fronted old.log) (fronted new.log) was is in
      let number : ℕ = suc (length (said_before f f.mode t)) in
      let is_pair : IsPair k opened f log rear line (notices_with t later) =
      subst (λ (n : List Notice). IsPair k opened f log rear line n) same (subst (λ (g : Front). IsPair k opened g log rear line notices) (sym before.at) pair) in
      let hears : IsHeard f rear line (notices_with t later) =
      subst (λ (n : List Notice). IsHeard f rear line n) same (subst (λ (g : Front). IsHeard g rear line notices) (sym before.at) heard) in
      let next : IsHeard (takes k f t) rear (line ++ numbered (takes k f t).incarnation number grows.more) later =
      front_heard k f opened log rear line later (record { on_event = delivers_well; on_answer = answers_well }) t grows.more number is_pair
      (last_may k from taken t by.gate) grows.said hears in
      subst (λ (g : Front). IsHeard g rear later_line later) (sym (front_after-snoc k from taken t) ∙ by.at)
      (subst (λ (l : List Entry). IsHeard (takes k f t) rear l later) (sym (line_by (numbered (takes k f t).incarnation number grows.more) grows.sent)) next)

  item_heard : (item : List Taken) → TakesOf notices later item → (after : Front) → IsTakenBy k from (taken ++ item) after (fronted new.log)
      → IsHeard after rear later_line later
  item_heard item (no_item same) after by = none_heard after by same
  item_heard item (an_item t call same) after by = one_heard t after by same

pub turn_heard : (script : Script) (class : ℕ) (opened : Contents) (from : intake.Front) (taken : List Taken) (old new : Half Evaluated) (st : Stood)
    (events_before events : List Event) (got_before got told : List Notice) (rear : Rear) (line later_line : List Entry) (notices later : List Notice)
    → is_stopped old ≡ false → ArePaired (kind_in script class) opened st old rear line notices
    → AreUnderWay old new got_before got line later_line notices later → IsTakenBy (kind_in script class) from taken st.front (fronted old.log)
    → (turns : Turns seen script old new st events_before events got_before got told) → IsClass turns.led.stood.class class
    → IsHeard st.front rear line notices → IsHeard turns.led.stood.front rear later_line later
turn_heard script class opened from taken old new st events_before events got_before got told rear line later_line notices later on paired way before turns is_class heard =
    let k : Kind = kind_in script class in
    let log : Fronted = fronted old.log in
    let pair : IsPair k opened st.front log rear line notices = pair_now k opened st old rear line notices on paired in
    item_heard k opened from taken old new st rear got_before got line later_line notices later way before pair heard turns.led.item
    (turn_takes script st events_before events got_before got told turns.led notices later
    (λ n same. notices_fit k opened st.front log rear line n later (subst (λ (ns : List Notice). IsPair k opened st.front log rear line ns) same pair)) way.told turns.taken)
    turns.led.stood.front (turns.moves.taken class from taken is_class before)
