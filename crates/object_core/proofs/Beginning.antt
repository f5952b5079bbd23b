-- An object whose slot was just mounted.
use Rattle.std.proofs.Common.{◌≡◌, ◌∙◌, ap, sym, refl, subst, inl, inr, true≢false, ℕ, suc, List, [], ◌++◌, length, arith, Option}
use Rattle.std.specs.Prelude.{ℤ, Bool, is_some, not}
use Rattle.std.proofs.lemmas.List.Elements.{All-nil}
use Rattle.std.specs.List.{All, Contains, flat_map}
use Rattle.do_tree.specs.Tree.{Script}
use Rattle.lane.specs.Lanes.{Both}
use Rattle.storage_map.specs.Contents.{Contents}
use Rattle.storage_map.specs.declared.op.Op.{Op}
use Rattle.timeline.specs.Intake.{opened}
use Rattle.timeline.specs.Logs.{Fronted, Backed, fronted, backed}
use Rattle.timeline.specs.declared.back_log.Stop.{Stop}
use Rattle.timeline.specs.declared.entry.Entry.{Entry}
use Rattle.timeline.specs.declared.event.Event.{Event}
use Rattle.timeline.specs.declared.message.Message.{Message as Sent}
use Rattle.timeline.specs.declared.notice.Notice.{Notice}
use Rattle.front_half.specs.Standing.{IsTakenBy, kind_in, fresh, nothing_logged}
use Rattle.object_front.specs.Came.{EventsCome}
use Rattle.object_front.specs.Classed.{class_by}
use Rattle.object_front.specs.declared.evaluated.Evaluated.{Evaluated}
use Rattle.front_half.specs.declared.half.Half.{Half}
use Rattle.output_gate.proofs.Written.{written_fresh}
use Rattle.output_gate.specs.Serving.{alarm_of, IsBack, IsBackAs, is_stopped}
use Rattle.output_gate.specs.Telling.{opened_map}
use Rattle.output_gate.specs.declared.back.Back.{Back}
use Rattle.output_gate.specs.declared.back.Mode.TheVariants.{Mounted}
use Rattle.output_gate.specs.declared.held.Held.{Held as BackHeld}
use Rattle.object_history.specs.Seen.{held_of, stand_of}
use Rattle.front_history.specs.Turns.{FrontBegins}
use Rattle.object_core.proofs.Due.{seen_is_rear}
use Rattle.object_core.proofs.Dropping.{none_said}
use Rattle.object_core.proofs.Rebuilding.{One, alarm_now}
use Rattle.object_core.specs.Dropping.{IsFitFor, MayDrop}
use Rattle.object_core.specs.Fitting.{known_over}
use Rattle.object_core.specs.Limited.{end_in}
use Rattle.object_core.specs.One.{AreFresh, Origin, class_in, messages, mounted_at, unused}
use Rattle.object_core.specs.Seen.{due_map, seen_of}

module _ {D : Type 0} (moment_of : D → ℕ) (left_since : D → ℕ → List ℕ → Type 0) (told : D → Option (List ℕ)) (image : D → List ℕ → Type 0) (faults_of : D → ℕ)
    (begins : FrontBegins) (come : EventsCome) (script : Script) (start : List (List Op)) (opening : ℕ) (front : Half Evaluated) (back : Back D)
    (known : IsBack moment_of left_since told image faults_of start opening back) (are : AreFresh script front back) where
  abbrev origin : Origin
  origin = mounted_at start opening back

  -- nothing has ended, so that the first incarnation is mounted
  none_ended : {A : Type 0} (stops ends : ℕ) → stops ≡ 0 → stops ≡ suc ends → A
  none_ended stops ends none some = absurd (omega (arith, none, some))

  is_mounted : (sound : Bool) → IsBackAs moment_of left_since told image faults_of start opening sound back → back.mode ≡ Mounted
  is_mounted sound (inl m) = m.safe.mode
  is_mounted sound (inr u) = none_ended (length back.log.stops.items) (length back.log.ends.items) (ap (λ (x : Backed). length x.stops) are.back_log) u.safe.gone

  no_stop : {A : Type 0} (stop : Stop) → back.log.stops.items ≡ [] → Contains back.log.stops.items stop → A
  no_stop stop none has = let few = has.1 in absurd (omega (arith, few, ap length none))

  -- nothing was taken
  none_taken : (class : ℕ) → IsTakenBy (kind_in script class) (opened (alarm_of back)) [] (opened (alarm_of back)) (fronted front.log)
  none_taken class = record {
    at = refl;
    gate = tt;
    sent = ap (λ (x : Fronted). x.sent) are.front_log;
    delivered = ap (λ (x : Fronted). x.delivered) are.front_log;
    downed = ap (λ (x : Fronted). x.downed) are.front_log;
    ends = ap (λ (x : Fronted). x.ends) are.front_log;
  }

  due_first : due_map (opened_map start) (backed back.log) ≡ opened_map start
  due_first = ap (λ (x : Backed). due_map (opened_map start) x) are.back_log

  pub begins_one : One moment_of left_since told image faults_of script origin front unused back unused unused unused
  begins_one = record {
    back_stands = known;
    alarm = alarm_of back;
    st = fresh (class_in script back.identity) (alarm_of back);
    front_stands = λ on. are.stands;
    has_taken = λ on class is. ([], none_taken class, tt);
    classed = record {
      now = λ on. ap (λ (x : Fronted). class_by script (class_in script back.identity) x) (sym are.front_log);
      stays = λ class is. ap (λ (x : Fronted). class_by script (class_in script back.identity) x) (sym are.front_log) ∙ is;
    };
    named = inl refl;
    has_got = come.begins front (class_in script back.identity) (alarm_of back) are.front_log;
    lost = [];
    none_lost = λ free on. refl;
    is_line = ap (λ (x : Fronted). x.sent) are.front_log ∙ ap (λ (x : Backed). x.taken ++ [] ++ []) (sym are.back_log);
    left = ap (λ (x : Backed). messages x.released) are.back_log;
    pair = λ tells class is.
        begins (kind_in script class) (opened_map start) (fresh (class_in script back.identity) (alarm_of back)) front (seen_of (opened_map start) back)
        (seen_is_rear moment_of left_since told image faults_of start opening back known)
        (ap stand_of (is_mounted _ known)) (ap (λ (x : List BackHeld). flat_map held_of x) are.held)
        (ap (λ (x : Backed). x.taken) are.back_log) (ap (λ (x : Backed). x.stops) are.back_log) (ap (λ (x : Backed). x.downs) are.back_log) are.front_log
        (ap (λ (a : Option (ℤ × ℕ)). opened a)
        (sym (alarm_now moment_of left_since told image faults_of script origin front unused back tells known are.serves (is_mounted _ known))
        ∙ ap (λ (m : Contents). m.alarm) due_first));
    fits = λ has tells on goes. (are.free, ap (λ (x : Backed). known_over (is_some back.identity) x.taken) (sym are.back_log));
    heard = λ tells on goes. record {
      news = λ differs. absurd (differs (ap (λ (x : Backed). suc (length x.stops)) are.back_log));
      answer = λ so. absurd (true≢false (sym so));
    };
    sticks = λ tells on stuck. absurd (true≢false (sym stuck ∙ are.stands.stuck));
    limited = record {
      kept = refl;
      journal = are.limit;
      full = λ stop has. no_stop stop (ap (λ (x : Backed). x.stops) are.back_log) has;
      written = λ disk at tells.
          written_fresh moment_of left_since told image faults_of start opening (not (is_stopped back)) back origin.extent.limit origin.extent.end are.back_log known
          (λ journal is. sym (ap end_in is));
    };
    drops = λ tells. record {
      unbound = λ on none. (ap (λ (x : Option ℕ). fresh x (alarm_of back)) none, ap (λ (x : Fronted). x.sent) are.front_log);
      unsaid = λ none. none_said (fronted front.log) are.front_log;
      keeps = λ on class is. All-nil (IsFitFor script class);
      class = λ on fit. refl;
      dropped = λ fit. subst (λ (x : Fronted). All (MayDrop x back.log.downs.items) x.dropped) (sym are.front_log) (All-nil (MayDrop nothing_logged back.log.downs.items));
    };
  }

  -- over queues through which nothing went
  pub begins_over : (inbox : Both Event) (line : Both Entry) (notices : Both Notice) (out : Both Sent) → inbox ≡ unused → line ≡ unused → notices ≡ unused → out ≡ unused
      → One moment_of left_since told image faults_of script origin front inbox back line notices out
  begins_over inbox line notices out no_event no_entry no_notice no_message =
      subst (λ (q : Both Event). One moment_of left_since told image faults_of script origin front q back line notices out) (sym no_event)
      (subst (λ (q : Both Entry). One moment_of left_since told image faults_of script origin front unused back q notices out) (sym no_entry)
      (subst (λ (q : Both Notice). One moment_of left_since told image faults_of script origin front unused back unused q out) (sym no_notice)
      (subst (λ (q : Both Sent). One moment_of left_since told image faults_of script origin front unused back unused unused q) (sym no_message) begins_one)))
