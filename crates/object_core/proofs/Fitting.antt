-- The next entry under way in an object is one that its back takes.
use Rattle.std.proofs.Common.{◌≡◌, ◌∙◌, sym, subst, refl, ℕ, List, [], ◌∷◌, ◌++◌, arith, Option, None}
use Rattle.std.specs.Prelude.{ℤ, Bool, true, false, not, ◌&&◌, is_some}
use Rattle.do_tree.specs.Tree.{Script}
use Rattle.lane.specs.Lanes.{Both}
use Rattle.storage_map.specs.Contents.{Contents}
use Rattle.timeline.specs.Intake.{Kind, Front, serves, opened}
use Rattle.timeline.specs.Logs.{fronted}
use Rattle.timeline.specs.Object.{idle, begun}
use Rattle.timeline.specs.declared.entry.Entry.{Entry}
use Rattle.timeline.specs.declared.event.Event.{Event}
use Rattle.timeline.specs.declared.message.Message.{Message as Sent}
use Rattle.timeline.specs.declared.notice.Notice.{Notice}
use Rattle.front_half.specs.Standing as standing
use Rattle.front_half.specs.Standing.{kind_in}
use Rattle.object_front.specs.declared.evaluated.Evaluated.{Evaluated}
use Rattle.front_half.specs.declared.half.Half.{Half}
use Rattle.output_gate.specs.Entering.{is_unfit, identity_after}
use Rattle.output_gate.specs.Serving.{is_stopped}
use Rattle.output_gate.specs.Taking.{fit_of, is_wanted, may_take}
use Rattle.output_gate.specs.Telling.{opened_map}
use Rattle.output_gate.specs.declared.back.Back.{Back}
use Rattle.object_history.specs.Pair.{IsPair}
use Rattle.object_core.proofs.Alike.{class_for}
use Rattle.object_core.proofs.DownSaid.{DownFits, down_said}
use Rattle.object_core.proofs.NextFits.{next_fits, known_behind}
use Rattle.object_core.proofs.Pairing.{pair_now}
use Rattle.object_core.proofs.Sending.{Fitted, IsOlder, known_append, older_follows}
use Rattle.object_core.proofs.SentFit.{sent_fits}
use Rattle.object_core.specs.Fitting.{AreFit, known_over}
use Rattle.object_core.specs.One.{HasItsClass, IsOneOf, Origin, TellsNow, class_in}
use Rattle.object_core.specs.Seen.{seen_of}

none_before : (i : ℕ) → IsOlder None i
none_before i x is = absurd cc

-- A front that has taken nothing.
pub begins_fitted : (class : Option ℕ) (known : Bool) (alarm : Option (ℤ × ℕ)) → known ≡ is_some class → Fitted class known None (opened alarm)
begins_fitted class known alarm same = record {
  fit = tt;
  knows = same;
  follows = λ opens. older_follows None 1 (omega arith) (none_before 1);
  some = omega arith;
  older = none_before 1;
  bound = λ none waits. absurd waits;
}

pub not_wanted : (stuck wanted failed few : Bool) → (not stuck && not wanted && failed && few) ≡ true → wanted ≡ false
not_wanted false false failed few is = refl
not_wanted false true failed few is = absurd cc
not_wanted true wanted failed few is = absurd cc

module _ {D : Type 0} (moment_of : D → ℕ) (left_since : D → ℕ → List ℕ → Type 0) (told : D → Option (List ℕ)) (image : D → List ℕ → Type 0) (faults_of : D → ℕ)
    (script : Script) (origin : Origin) (front : Half Evaluated) (inbox : Both Event) (back : Back D) (line : Both Entry) (notices : Both Notice) (out : Both Sent)
    (one : IsOneOf moment_of left_since told image faults_of script origin front inbox back line notices out) where
  -- It is taken, and behind it the object is known where it was, or is bound by it.
  pub one_fits : HasItsClass script origin.object → TellsNow told back → standing.is_stopped front ≡ false → is_stopped back ≡ false → may_take back ≡ true
      → (e : Entry) (rest : List Entry) → one.lost ++ line.waiting ≡ e ∷ rest
      → (is_unfit (fit_of back e) ≡ false)
      × (is_some (identity_after (fit_of back e) back.identity e.body) ≡ known_over (is_some origin.object) (back.log.taken.items ++ e ∷ []))
  one_fits has tells on goes may e rest waits =
      let c = class_for one.st.class in
      let k : Kind = kind_in script c.0 in
      let opening_map : Contents = opened_map origin.start in
      let pair : IsPair k opening_map one.st.front (fronted front.log) (seen_of opening_map back) (e ∷ rest) notices.waiting =
      subst (λ (l : List Entry). IsPair k opening_map one.st.front (fronted front.log) (seen_of opening_map back) l notices.waiting) waits
      (pair_now k opening_map one.st front (seen_of opening_map back) (one.lost ++ line.waiting) notices.waiting on (one.pair tells c.0 c.1)) in
      let first : Bool = is_some origin.object in
      let t = one.has_taken on c.0 c.1 in
      let fits : AreFit first None front.log.sent.items =
      subst (λ (entries : List Entry). AreFit first None entries) (sym t.1.sent)
      (sent_fits k script t.0 (class_in script origin.object) first None 1 [] [] (serves (idle (begun one.alarm)))
      (begins_fitted (class_in script origin.object) first one.alarm has) t.1.gate t.2) in
      let down : DownFits one.st.front.mode one.st.front.said =
      subst (λ (f : Front). DownFits f.mode f.said) t.1.at (down_said k t.0 1 [] [] (serves (idle (begun one.alarm))) tt t.1.gate) in
      let free : is_wanted back.mode ≡ false = not_wanted back.stuck (is_wanted back.mode) _ _ may in
      let object = (one.fits has tells on goes).1 in (
        next_fits moment_of left_since told image faults_of origin.start origin.opening (not (is_stopped back)) back one.back_stands k opening_map one.st.front (fronted front.log)
            e rest notices.waiting pair first fits down free object,
        known_behind moment_of left_since told image faults_of origin.start origin.opening (not (is_stopped back)) back one.back_stands k opening_map one.st.front (fronted front.log)
            e rest notices.waiting pair first fits down free object
            ∙ sym (known_append first back.log.taken.items (e ∷ [])),
      )
