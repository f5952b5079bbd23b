-- What a step of the back leaves of the pair.
use Rattle.std.proofs.Common.{◌≡◌, ◌∙◌, ap, sym, subst, false, List, [], ◌++◌, append-nil}
use Rattle.storage_map.specs.Contents.{Contents}
use Rattle.timeline.specs.Intake as intake
use Rattle.timeline.specs.Intake.{Kind, Front}
use Rattle.timeline.specs.Logs.{Fronted, fronted}
use Rattle.timeline.specs.declared.entry.Entry.{Entry}
use Rattle.timeline.specs.declared.notice.Notice.{Notice}
use Rattle.front_half.specs.Standing.{Stood, IsTakenBy, is_stopped}
use Rattle.object_front.specs.declared.evaluated.Evaluated.{Evaluated}
use Rattle.front_half.specs.declared.half.Half.{Half}
use Rattle.object_history.specs.Pair.{Rear, IsPair}
use Rattle.object_history.specs.Stepping.{IsRear, BackSteps, AreGiven}
use Rattle.front_history.specs.Paired.{ArePaired, logged_with}
use Rattle.front_history.specs.Turns.{BackStepsKeep}

-- What a step of the back, as it is seen, tells of, and what of that is given.
pub record Hears (rear later : Rear) (got : List Entry) (notices after : List Notice) : Type 0 where
  pub heard : List Notice
  pub given : List Notice
  pub steps : BackSteps rear later got heard
  pub are : AreGiven heard given
  pub come : after ≡ notices ++ given

pub paired_on : (keeps : BackStepsKeep) (k : Kind) (opened : Contents) (st : Stood) (half : Half Evaluated) (rear later : Rear) (line rest got : List Entry)
    (notices after : List Notice) → Hears rear later got notices after → IsRear opened rear → IsRear opened later → line ≡ got ++ rest
    → ArePaired k opened st half rear line notices → ArePaired k opened st half later rest after
paired_on keeps k opened st half rear later line rest got notices after hears known knows is_line paired =
    subst (λ (n : List Notice). ArePaired k opened st half later rest n) (sym hears.come)
    (keeps k opened st half rear later got rest hears.heard hears.given notices known knows hears.steps hears.are
    (subst (λ (l : List Entry). ArePaired k opened st half rear l notices) is_line paired))

-- The same, seen of another back that looks alike.
pub paired_as : (k : Kind) (opened : Contents) (st : Stood) (half : Half Evaluated) (rear later : Rear) (line rest : List Entry) (notices after : List Notice)
    → later ≡ rear → rest ≡ line → after ≡ notices → ArePaired k opened st half rear line notices → ArePaired k opened st half later rest after
paired_as k opened st half rear later line rest notices after same is_line is_notices paired =
    subst (λ (r : Rear). ArePaired k opened st half r rest after) (sym same)
    (subst (λ (l : List Entry). ArePaired k opened st half rear l after) (sym is_line)
    (subst (λ (n : List Notice). ArePaired k opened st half rear line n) (sym is_notices) paired))

-- A front that goes on is a pair with its back as it stands.
pub pair_now : (k : Kind) (opened : Contents) (st : Stood) (half : Half Evaluated) (rear : Rear) (line : List Entry) (notices : List Notice)
    → is_stopped half ≡ false → ArePaired k opened st half rear line notices → IsPair k opened st.front (fronted half.log) rear line notices
pair_now k opened st half rear line notices on paired =
    let log : Fronted = fronted half.log in
    subst (λ (sent : List Entry). IsPair k opened st.front (record log { sent = sent }) rear line notices) (append-nil log.sent)
    (subst (λ (l : List Entry). IsPair k opened st.front (logged_with log []) rear l notices) (append-nil line)
    (subst (λ (u : List Entry). IsPair k opened st.front (logged_with log u) rear (line ++ u) notices) (paired.sent_all on)
    (subst (λ (n : List Notice). IsPair k opened st.front (logged_with log paired.unsent) rear (line ++ paired.unsent) (n ++ notices)) (paired.missed_none on)
    (subst (λ (f : Front). IsPair k opened f (logged_with log paired.unsent) rear (line ++ paired.unsent) (paired.missed ++ notices)) (paired.stands on) paired.pair))))

-- And has taken what it is paired by.
pub taken_now : (k : Kind) (opened : Contents) (st : Stood) (half : Half Evaluated) (rear : Rear) (line : List Entry) (notices : List Notice)
    → is_stopped half ≡ false → (paired : ArePaired k opened st half rear line notices)
    → IsTakenBy k (intake.opened opened.alarm) paired.taken st.front (fronted half.log)
taken_now k opened st half rear line notices on paired = record {
  at = paired.by.at ∙ paired.stands on;
  gate = paired.by.gate;
  sent = sym (append-nil half.log.sent.items) ∙ ap (λ (x : List Entry). half.log.sent.items ++ x) (sym (paired.sent_all on)) ∙ paired.by.sent;
  delivered = paired.by.delivered;
  downed = paired.by.downed;
  ends = paired.by.ends;
}
