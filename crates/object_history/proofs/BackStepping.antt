-- The two halves stay a pair whatever step the back makes.
use Rattle.std.proofs.Common.{List, [], ◌∷◌, ◌++◌}
use Rattle.storage_map.specs.Contents.{Contents}
use Rattle.timeline.specs.Intake.{Kind, Front}
use Rattle.timeline.specs.Logs.{Fronted}
use Rattle.timeline.specs.declared.entry.Entry.{Entry}
use Rattle.timeline.specs.declared.notice.Notice.{Notice}
use Rattle.object_history.proofs.Flying.{flown_on}
use Rattle.object_history.proofs.Keeping.{told_none}
use Rattle.object_history.proofs.Missing.{fails_to_mount}
use Rattle.object_history.proofs.Mounting.{mounts}
use Rattle.object_history.proofs.ReadFailing.{fails_to_read}
use Rattle.object_history.proofs.Stopping.{stops_by_failure, stops_by_halt}
use Rattle.object_history.proofs.Syncing.{answers_sync}
use Rattle.object_history.proofs.TakingDown.{takes_down_entry}
use Rattle.object_history.proofs.TakingLate.{takes_late_entry}
use Rattle.object_history.proofs.TakingOwn.{takes_own_entry}
use Rattle.object_history.specs.Laws.{StepsSayWell}
use Rattle.object_history.specs.Pair.{Rear, IsPair}
use Rattle.object_history.specs.Stepping.{IsRear, BackSteps, AreGiven, takes_own, read_fails, takes_down, takes_late, flies, stops, sends, syncs, halts, begins, misses}

pub steps_keep : (well : StepsSayWell) (k : Kind) (opened : Contents) (f : Front) (front : Fronted) (rear : Rear) (line : List Entry) (given notices : List Notice)
    (later : Rear) (got : List Entry) (told : List Notice) → BackSteps rear later got told → IsRear opened rear → IsRear opened later → AreGiven told given
    → IsPair k opened f front rear (got ++ line) notices → IsPair k opened f front later line (notices ++ given)
steps_keep well k opened f front rear line given notices _ _ _ (takes_own e map stand is unended) known after are pair =
    takes_own_entry well k opened f front rear e map line notices given known stand is pair are
steps_keep well k opened f front rear line given notices _ _ _ (read_fails e a free counts_before counts_after map stand is unended asks) known after are pair =
    fails_to_read k opened f front rear e a free counts_before counts_after map line notices given known stand is asks pair are
steps_keep well k opened f front rear line given notices _ _ _ (takes_down e c map stand is fits) known after are pair =
    takes_down_entry k opened f front rear e c map line notices given known stand is pair are
steps_keep well k opened f front rear line given notices _ _ _ (takes_late e map is) known after are pair =
    takes_late_entry k opened f front rear e map line notices given known is pair are
steps_keep well k opened f front rear line given notices _ _ _ (flies count map) known after are pair =
    let flights = rear.log.flights ++ count ∷ [] in
    told_none (λ (all : List Notice). IsPair k opened f front (record rear { log = record rear.log { flights = flights }; durable = rear.before; map = map }) line all) notices given are
    (flown_on k opened f front rear line notices pair flights rear.log.released rear.before map)
steps_keep well k opened f front rear line given notices _ _ _ (stops stop held map stand less flown by_append is_held) known after are pair =
    stops_by_failure k opened f front rear line notices known pair stop held map stand less by_append is_held given are
steps_keep well k opened f front rear line given notices _ _ _ (sends release map) known after are pair =
    let released = rear.log.released ++ release ∷ [] in
    told_none (λ (all : List Notice). IsPair k opened f front (record rear { log = record rear.log { released = released }; map = map }) line all) notices given are
    (flown_on k opened f front rear line notices pair rear.log.flights released rear.durable map)
steps_keep well k opened f front rear line given notices _ _ _ (syncs number needs rest map is_held) known after are pair =
    answers_sync k opened f front rear number needs rest map line notices given is_held are pair
steps_keep well k opened f front rear line given notices _ _ _ (halts c needs rest stop end map is_held stand flown by_halt) known after are pair =
    stops_by_halt k opened f front rear line notices known pair c needs rest stop end map is_held stand by_halt given are after
steps_keep well k opened f front rear line given notices _ _ _ (begins c end before map stand) known after are pair =
    mounts k opened f front rear line notices given pair known c end before map stand are after
steps_keep well k opened f front rear line given notices _ _ _ (misses c counts_before counts_after map stand) known after are pair =
    fails_to_mount k opened f front rear line notices given pair c counts_before counts_after map stand are
