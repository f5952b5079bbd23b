-- What the logs of a pair show of its incarnations.
use Rattle.std.proofs.Common.{List}
use Rattle.storage_map.specs.Contents.{Contents}
use Rattle.timeline.specs.Intake.{Kind, Front}
use Rattle.timeline.specs.Logs.{Fronted}
use Rattle.timeline.specs.declared.entry.Entry.{Entry}
use Rattle.timeline.specs.declared.notice.Notice.{Notice}
use Rattle.object_history.proofs.Halting.{all_halted}
use Rattle.object_history.proofs.SaidSoFar.{all_said, known_ends}
use Rattle.object_history.proofs.Unmounted.{rests_unmounted, stops_are_few}
use Rattle.object_history.specs.Laws.{AreSaidSo, TellingTells}
use Rattle.object_history.specs.Pair.{Rear, IsPair}
use Rattle.object_history.specs.Stepping.{IsRear}

pub is_said : (tells : TellingTells) (k : Kind) (opened : Contents) (f : Front) (front : Fronted) (rear : Rear) (line : List Entry) (notices : List Notice)
    → IsRear opened rear → IsPair k opened f front rear line notices → AreSaidSo k opened front rear.log
is_said tells k opened f front rear line notices known pair = record {
  said = all_said tells k opened f front rear line notices pair;
  halted = all_halted k opened f front rear line notices pair;
  mounted = stops_are_few rear.stand rear.log known.followed;
  unmounted = rests_unmounted k opened f front rear line notices pair known;
  ends = known_ends tells k opened f front rear line notices pair;
}
