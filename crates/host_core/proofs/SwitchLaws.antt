-- The laws of a run of the switch that a report rests on.
use Rattle.switch_history.specs.Answering.{CallsAreAnsweredOnce}
use Rattle.switch_history.specs.AskedOnce.{AnswersAreNoMoreThanAsks}
use Rattle.switch_history.specs.Asks.{AsksAreAnsweredOnce}
use Rattle.switch_history.specs.Ends.{EndsAreRouted}
use Rattle.switch_history.specs.Laws.{AnswersAreAsked, CallsComeInOrder, PostsFit}
use Rattle.switch_history.specs.Lines.{LeftHasItsLine}
use Rattle.switch_history.specs.Moments.{MomentsAreInRange}
use Rattle.switch_history.specs.Opened.{FetchesAreOpen}
use Rattle.switch_history.specs.Unknown.{UnknownIsOnlyAnswered}

pub record SwitchLaws : Type 0 where
  pub asked : AnswersAreAsked
  pub order : CallsComeInOrder
  pub ends : EndsAreRouted
  pub fit : PostsFit
  pub moments : MomentsAreInRange
  pub calls : CallsAreAnsweredOnce
  pub asks : AsksAreAnsweredOnce
  pub few : AnswersAreNoMoreThanAsks
  pub alone : UnknownIsOnlyAnswered
  pub open_fetches : FetchesAreOpen
  pub lines : LeftHasItsLine
