-- Halves that ran apart are those of one object.
use Rattle.std.proofs.Common.{◌≡◌, ◌∙◌, ap, sym, refl, subst, true≢false, ℕ, ℤ, List, [], ◌∷◌, ◌++◌, append-nil, append_assoc, Option, None}
use Rattle.std.proofs.lemmas.List.{append_cancel_left}
use Rattle.std.specs.Prelude.{Bool, true, false, not, is_some}
use Rattle.do_tree.specs.Tree.{Script}
use Rattle.lane.specs.Lanes.{Both}
use Rattle.storage_map.specs.Contents.{Contents}
use Rattle.timeline.specs.Intake.{Front, Kind, serves}
use Rattle.timeline.specs.Logs.{fronted}
use Rattle.timeline.specs.Object.{begun, idle}
use Rattle.timeline.specs.declared.entry.Entry.{Entry}
use Rattle.timeline.specs.declared.event.Event.{Event}
use Rattle.timeline.specs.declared.message.Message.{Message as Sent}
use Rattle.timeline.specs.declared.notice.Notice.{Notice}
use Rattle.front_half.specs.Standing as standing
use Rattle.front_half.specs.Standing.{IsClass, kind_in}
use Rattle.object_front.specs.declared.evaluated.Evaluated.{Evaluated}
use Rattle.front_half.specs.declared.half.Half.{Half}
use Rattle.output_gate.specs.Serving.{is_stopped}
use Rattle.output_gate.specs.Taking.{is_wanted}
use Rattle.output_gate.specs.Telling.{opened_map}
use Rattle.output_gate.specs.declared.back.Back.{Back}
use Rattle.object_history.specs.Pair.{IsPair}
use Rattle.object_core.proofs.Alike.{class_for}
use Rattle.object_core.proofs.DownSaid.{DownFits, down_said}
use Rattle.object_core.proofs.Fitting.{begins_fitted, not_wanted}
use Rattle.object_core.proofs.NextFits.{next_fits}
use Rattle.object_core.proofs.Pairing.{pair_now}
use Rattle.object_core.proofs.SentFit.{sent_fits}
use Rattle.object_core.proofs.Unheard.{paired_unheard}
use Rattle.object_core.specs.Alone.{AreApart, StuckAt}
use Rattle.object_core.specs.Apart.{ApartMeet, FrontRuns, Joined}
use Rattle.object_core.specs.Dropping.{IsDropping}
use Rattle.object_core.specs.Fitting.{AreFit, known_by}
use Rattle.object_core.specs.Heard.{IsHeard}
use Rattle.object_core.specs.One.{HasItsClass, IsOneOf, Origin, TellsNow, class_in}
use Rattle.object_core.specs.Seen.{seen_of}

-- The first of entries that fit fit.
fit_first : (known : Bool) (last : Option Entry) (xs ys : List Entry) → AreFit known last (xs ++ ys) → AreFit known last xs
fit_first known last [] ys fit = tt
fit_first known last (e ∷ xs) ys fit = (fit.0, fit.1, fit_first (known_by e.body known) _ xs ys fit.2)

module _ {D : Type 0} (moment_of : D → ℕ) (left_since : D → ℕ → List ℕ → Type 0) (told : D → Option (List ℕ)) (image : D → List ℕ → Type 0) (faults_of : D → ℕ)
    (meet : ApartMeet) (script : Script) (origin : Origin) (front : Half Evaluated) (inbox : Both Event) (back : Back D) (line : Both Entry) (notices : Both Notice)
    (out : Both Sent) (are : AreApart moment_of left_since told image faults_of script origin front inbox back line notices out) where
  abbrev opening_map : Contents
  opening_map = opened_map origin.start

  abbrev taken : List Entry
  taken = back.log.taken.items

  -- What the front has sent is what the back has taken, and what is under way.
  all_sent : front.log.sent.items ≡ taken ++ (are.back_alone.lost ++ line.waiting)
  all_sent =
      are.front_alone.sent ∙ are.is_line ∙ ap (λ (l : List Entry). l ++ line.waiting) are.back_alone.took ∙ append_assoc taken are.back_alone.lost line.waiting

  -- the front was made with the alarm of the slot's map
  runs_opened : TellsNow told back → FrontRuns script (class_in script origin.object) opening_map.alarm front are.front_alone.st inbox.got are.heard are.sent
  runs_opened tells =
      subst (λ (a : Option (ℤ × ℕ)). FrontRuns script (class_in script origin.object) a front are.front_alone.st inbox.got are.heard are.sent) (are.back_alone.opened_at tells)
      are.front_alone.runs

  -- how they stand to each other, where the disk tells its content
  joined : (tells : TellsNow told back) → (class : ℕ) → IsClass are.front_alone.st.class class
      → Joined script class (class_in script origin.object) opening_map front are.front_alone.st inbox.got (seen_of opening_map back) (are.back_alone.lost ++ line.waiting)
      (notices.waiting ++ (are.back_alone.tells tells).unheard)
  joined tells class is =
      let t = are.back_alone.tells tells in
      meet script class (class_in script origin.object) opening_map front are.front_alone.st (seen_of opening_map back) inbox.got are.heard (are.noticed ++ t.unheard) are.sent taken
      (are.back_alone.lost ++ line.waiting) (notices.waiting ++ t.unheard) (runs_opened tells) t.runs (sym are.front_alone.sent ∙ all_sent)
      (ap (λ (ns : List Notice). ns ++ t.unheard) are.is_told ∙ append_assoc are.heard notices.waiting t.unheard) is

  -- All that a front sends fits.
  module _ (has : HasItsClass script origin.object) (on : standing.is_stopped front ≡ false) where
    abbrev first : Bool
    first = is_some origin.object

    all_fits : AreFit first None front.log.sent.items
    all_fits =
        let c = class_for are.front_alone.st.class in
        let t = are.front_alone.has_taken on c.0 c.1 in
        subst (λ (entries : List Entry). AreFit first None entries) (sym t.1.sent)
        (sent_fits (kind_in script c.0) script t.0 (class_in script origin.object) first None 1 [] [] (serves (idle (begun are.alarm)))
        (begins_fitted (class_in script origin.object) first are.alarm has) t.1.gate t.2)

    -- So does what its back has taken.
    taken_fits : AreFit first None taken
    taken_fits = fit_first first None taken (are.back_alone.lost ++ line.waiting) (subst (λ (entries : List Entry). AreFit first None entries) all_sent all_fits)

    -- None leaves its back stuck.
    unstuck : (tells : TellsNow told back) → (e : Entry) → are.back_alone.lost ≡ e ∷ []
        → StuckAt moment_of left_since told image faults_of origin.start origin.opening origin.object back e are.noticed → true ≡ false
    unstuck tells e is_lost at =
        let c = class_for are.front_alone.st.class in
        let k : Kind = kind_in script c.0 in
        let t = are.front_alone.has_taken on c.0 c.1 in
        let line_then : are.sent ≡ at.before.log.taken.items ++ (e ∷ line.waiting) =
        sym are.front_alone.sent ∙ all_sent ∙ ap (λ (l : List Entry). taken ++ (l ++ line.waiting)) is_lost
        ∙ ap (λ (l : List Entry). l ++ (e ∷ line.waiting)) (sym at.taken) in
        let j : Joined script c.0 (class_in script origin.object) opening_map front are.front_alone.st inbox.got (seen_of opening_map at.before) (e ∷ line.waiting) notices.waiting =
        meet script c.0 (class_in script origin.object) opening_map front are.front_alone.st (seen_of opening_map at.before) inbox.got are.heard are.noticed are.sent
        at.before.log.taken.items (e ∷ line.waiting) notices.waiting (runs_opened tells) (at.runs tells) line_then are.is_told c.1 in
        let pair : IsPair k opening_map are.front_alone.st.front (fronted front.log) (seen_of opening_map at.before) (e ∷ line.waiting) notices.waiting =
        pair_now k opening_map are.front_alone.st front (seen_of opening_map at.before) (e ∷ line.waiting) notices.waiting on j.meet.paired in
        let down : DownFits are.front_alone.st.front.mode are.front_alone.st.front.said =
        subst (λ (f : Front). DownFits f.mode f.said) t.1.at (down_said k t.0 1 [] [] (serves (idle (begun are.alarm))) tt t.1.gate) in
        sym at.unfit
        ∙ next_fits moment_of left_since told image faults_of origin.start origin.opening (not (is_stopped at.before)) at.before at.stands k opening_map
        are.front_alone.st.front (fronted front.log) e line.waiting notices.waiting pair first all_fits down (not_wanted at.before.stuck (is_wanted at.before.mode) _ _ at.may)
        (at.knows (subst (λ (entries : List Entry). AreFit first None entries) (sym at.taken) taken_fits))

    unstuck_as : (tells : TellsNow told back) → is_stopped back ≡ false → (stuck : Bool) → back.stuck ≡ stuck → back.stuck ≡ false
    unstuck_as tells goes false is = is
    unstuck_as tells goes true is =
        let s = are.back_alone.stuck is goes in
        absurd (true≢false (unstuck tells s.0 (append_cancel_left taken are.back_alone.lost (s.0 ∷ []) (sym are.back_alone.took ∙ s.1)) s.2))

  -- while neither half is stopped, all that was told is heard of
  hears : (tells : TellsNow told back) → standing.is_stopped front ≡ false → is_stopped back ≡ false
      → IsHeard are.front_alone.st.front (seen_of opening_map back) (are.back_alone.lost ++ line.waiting) notices.waiting
  hears tells on goes =
      let c = class_for are.front_alone.st.class in
      subst (λ (ns : List Notice). IsHeard are.front_alone.st.front (seen_of opening_map back) (are.back_alone.lost ++ line.waiting) ns)
      (ap (λ (ns : List Notice). notices.waiting ++ ns) ((are.back_alone.tells tells).none_unheard goes) ∙ append-nil notices.waiting)
      ((joined tells c.0 c.1).meet.heard on)

  -- All that holds of one object.
  pub are_one : IsOneOf moment_of left_since told image faults_of script origin front inbox back line notices out
  are_one = record {
    back_stands = are.back_alone.stands;
    alarm = are.alarm;
    st = are.front_alone.st;
    front_stands = are.front_alone.stands;
    has_taken = are.front_alone.has_taken;
    classed = are.front_alone.classed;
    named = are.back_alone.named;
    has_got = are.front_alone.has_got;
    lost = are.back_alone.lost;
    none_lost = are.back_alone.none_lost;
    is_line = all_sent ∙ sym (append_assoc taken are.back_alone.lost line.waiting);
    left = are.back_alone.left ∙ are.is_gone;
    pair = λ tells class is.
        paired_unheard (kind_in script class) opening_map are.front_alone.st front (seen_of opening_map back) (are.back_alone.lost ++ line.waiting) notices.waiting
        (are.back_alone.tells tells).unheard (are.back_alone.tells tells).few (joined tells class is).meet.paired;
    fits = λ has tells on goes. (unstuck_as has on tells goes back.stuck refl, are.back_alone.knows (taken_fits has on));
    heard = λ tells on goes. hears tells on goes;
    sticks = λ tells on stuck. let c = class_for are.front_alone.st.class in (joined tells c.0 c.1).sticks on stuck;
    limited = are.back_alone.limited;
    drops = λ tells.
        let c = class_for are.front_alone.st.class in
        subst (λ (a : Option (ℤ × ℕ)). IsDropping script (class_in script origin.object) a front are.front_alone.st back.log.downs.items inbox.got)
        (sym (are.back_alone.opened_at tells)) (joined tells c.0 c.1).drops;
  }
