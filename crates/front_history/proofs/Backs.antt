-- A front is paired with its back from the mounting on, whatever step the back makes.
use Rattle.std.proofs.Common.{◌≡◌, ap, sym, subst, refl, List, [], ◌++◌, append_assoc}
use Rattle.storage_map.specs.Contents.{Contents}
use Rattle.timeline.specs.Intake as intake
use Rattle.timeline.specs.Intake.{Kind, Front, numbered}
use Rattle.timeline.specs.Logs.{Fronted, fronted}
use Rattle.timeline.specs.declared.entry.Body.{Body}
use Rattle.timeline.specs.declared.entry.Entry.{Entry}
use Rattle.timeline.specs.declared.notice.Notice.{Notice}
use Rattle.front_half.specs.Standing.{Stood, IsTakenBy, nothing_logged}
use Rattle.front_half.specs.declared.half.Half.{Half}
use Rattle.object_history.specs.Laws.{PairBegins, BackKeepsPair}
use Rattle.object_history.specs.Pair.{Rear, mounted, IsPair}
use Rattle.object_history.specs.Stepping.{IsRear, BackSteps, AreGiven}
use Rattle.front_history.specs.Paired.{ArePaired, logged_with}

-- It has taken nothing.
none_taken : (k : Kind) (f : Front) → f.said ≡ [] → IsTakenBy k f [] f (logged_with nothing_logged [])
none_taken k f none = record {
  at = refl;
  gate = tt;
  sent = sym (ap (λ (bodies : List Body). numbered f.incarnation 1 bodies) none);
  delivered = refl;
  downed = refl;
  ends = refl;
}

pub begins_keep : {T : Type 0} (begins : PairBegins) (k : Kind) (opened : Contents) (st : Stood) (half : Half T) (rear : Rear) → IsRear opened rear
    → rear.stand ≡ mounted → rear.held ≡ [] → rear.log.taken ≡ [] → rear.log.stops ≡ [] → rear.log.downs ≡ [] → fronted half.log ≡ nothing_logged
    → st.front ≡ intake.opened opened.alarm → ArePaired k opened st half rear [] []
begins_keep {T} begins k opened st half rear known stand held taken stops downs logged at =
    let f : Front = intake.opened opened.alarm in
    let none : Fronted = logged_with nothing_logged [] in
    record {
      front = f;
      unsent = [];
      number = 0;
      bodies = [];
      own = refl;
      missed = [];
      stands = λ so. sym at;
      sent_all = λ so. refl;
      missed_none = λ so. refl;
      taken = [];
      by = subst (λ (log : Fronted). IsTakenBy k f [] f (logged_with log [])) (sym logged) (none_taken k f refl);
      pair = subst (λ (log : Fronted). IsPair k opened f (logged_with log []) rear [] []) (sym logged)
          (begins k opened none rear known stand held taken stops downs refl refl refl refl);
    }

pub steps_keep : {T : Type 0} (keeps : BackKeepsPair) (k : Kind) (opened : Contents) (st : Stood) (half : Half T) (rear later : Rear) (got line : List Entry)
    (told given notices : List Notice) → IsRear opened rear → IsRear opened later → BackSteps rear later got told → AreGiven told given
    → ArePaired k opened st half rear (got ++ line) notices → ArePaired k opened st half later line (notices ++ given)
steps_keep {T} keeps k opened st half rear later got line told given notices known after steps are paired =
    let log : Fronted = logged_with (fronted half.log) paired.unsent in
    let pair = subst (λ (l : List Entry). IsPair k opened paired.front log rear l (paired.missed ++ notices)) (append_assoc got line paired.unsent) paired.pair in
    record {
      front = paired.front;
      unsent = paired.unsent;
      number = paired.number;
      bodies = paired.bodies;
      own = paired.own;
      missed = paired.missed;
      stands = paired.stands;
      sent_all = paired.sent_all;
      missed_none = paired.missed_none;
      taken = paired.taken;
      by = paired.by;
      pair = subst (λ (n : List Notice). IsPair k opened paired.front log later (line ++ paired.unsent) n) (append_assoc paired.missed notices given)
          (keeps k opened paired.front log rear later got (line ++ paired.unsent) told given (paired.missed ++ notices) known after steps are pair);
    }
