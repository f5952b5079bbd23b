-- Two halves of a slot that was just mounted.
use Rattle.std.proofs.Common.{◌≡◌, ◌∙◌, ap, sym, subst, refl, inl, ℕ, suc, ◌≤◌, List, [], ◌++◌, length, arith}
use Rattle.std.proofs.lemmas.List.Elements.{All-nil}
use Rattle.std.specs.Prelude.{◌<◌, true, false}
use Rattle.timeline.specs.Headline.{down_said}
use Rattle.std.specs.List.{All}
use Rattle.storage_map.specs.Contents.{Contents}
use Rattle.timeline.specs.History.{of_number, entries_of}
use Rattle.timeline.specs.Intake as intake
use Rattle.timeline.specs.Intake.{Kind, Front, Mode, serves}
use Rattle.timeline.specs.Logs.{Fronted}
use Rattle.timeline.specs.Object.{idle, begun}
use Rattle.timeline.specs.declared.back_log.Stop.{Stop}
use Rattle.timeline.specs.declared.entry.Body.{Body}
use Rattle.timeline.specs.declared.entry.Entry.{Entry}
use Rattle.timeline.specs.declared.event.Event.{Event}
use Rattle.timeline.specs.Passed.{is_mend, is_said_down}
use Rattle.object_history.specs.Pair.{Held, Stand, mounted, Rear, IsLogged, IsLine, IsUnread, IsCall, failures, SaysDown, serving, Together, unreached, IsPair, IsReading}
use Rattle.object_history.specs.Saying.{is_plain, IsGated}
use Rattle.object_history.specs.Telling.{Tells}

module _ (k : Kind) (opened : Contents) (front : Fronted) (rear : Rear)
    (stand : rear.stand ≡ mounted) (held : rear.held ≡ []) (taken : rear.log.taken ≡ []) (stops : rear.log.stops ≡ [])
    (delivered : front.delivered ≡ []) (downed : front.downed ≡ []) (sent : front.sent ≡ []) (ends : front.ends ≡ []) where
  abbrev first : Front
  first = intake.opened opened.alarm

  logged : IsLogged first front
  logged = record {
    closed = [];
    closed_before = All-nil (λ (e : Entry). e.incarnation < 1);
    sent = sent;
    gone = [];
    gone_before = All-nil (λ (d : ℕ × Event). d.0 < 1);
    delivered = delivered;
    downed_before = subst (λ (calls : List (ℕ × Event)). All (λ (d : ℕ × Event). d.0 ≤ 1) calls) (sym downed) (All-nil (λ (d : ℕ × Event). d.0 ≤ 1));
  }

  abbrev lined : IsLine first front rear.log.taken []
  lined = record {
    sent = sent ∙ sym (ap (λ (entries : List Entry). entries ++ []) taken);
    read = [];
    unread = [];
    late = [];
    said = refl;
    is_line = refl;
    lates = All-nil (λ (e : Entry). suc e.incarnation ≡ 1);
    no_wish = All-nil (λ (e : Entry). is_mend e.body ≡ false);
    first = λ some. refl;
    own = ap (λ (entries : List Entry). entries_of 1 entries) taken;
  }

  no_calls : of_number 1 front.downed ≡ []
  no_calls = ap (λ (calls : List (ℕ × Event)). of_number 1 calls) downed

  says_none : SaysDown [] first front rear.log []
  says_none = record {
    silent = λ m. refl;
    calls = subst (λ (calls : List Event). All IsCall calls) (sym no_calls) (All-nil IsCall);
    enough = omega (arith, ap (λ (calls : List Event). length calls) no_calls);
    spoken = ap (λ (calls : List Event). down_said calls (failures first rear.log)) (sym no_calls);
    down = All-nil (λ (b : Body). is_said_down b ≡ true);
  }

  tells : Tells k opened [] first
  tells = record {
    silent = λ m. refl;
    state = idle (begun opened.alarm);
    mode = refl;
    taken = [];
    at = refl;
    told = [];
    said = refl;
    goes = λ more maps. maps;
  }

  together : Together opened first front rear.log [] rear.before rear.stand rear.held []
  together =
      let plain : IsUnread first.mode [] = record { plain = []; are_plain = All-nil (λ (b : Body). is_plain b ≡ true); is = refl } in
      subst (λ (s : Stand). Together opened first front rear.log [] rear.before s rear.held []) (sym stand)
      (subst (λ (h : List Held). Together opened first front rear.log [] rear.before mounted h []) (sym held) (unreached (idle (begun opened.alarm)) refl plain))

  -- they are a pair: nothing was said or taken
  pub begins_a_pair : IsPair k opened first front rear [] []
  begins_a_pair = record {
    below = 0;
    number = refl;
    logged = logged;
    lined = lined;
    ends = ends;
    older_said = tt;
    older_halted = tt;
    start = opened;
    starts = refl;
    newest_said = serving [] tells says_none;
    gated = All-nil IsGated;
    readings = [];
    rest = [];
    under_way = refl;
    are_readings = All-nil (IsReading opened first);
    phase = inl (ap (λ (all : List Stop). length all) stops, together);
  }
