-- An end of a lane may go to another thread where what goes through it may, and its handle too; and what is behind a pointer where it may itself.
use mir.Syntax.{ty_unit}
use denote.RattleType.{RattleType}
use denote.Exit.{no}
use denote.Hole.{as_row}
use denote.Param.{param, arg}
use denote.Param.Send.{IsSend, param_send, arg_send}
use denote.Param.SendFields.{as_row_send}
use Rattle.lane.specs.contracts.ends.SendEnd as SendEnd
use Rattle.lane.specs.contracts.ends.TakeEnd as TakeEnd
use Rattle.lane.proofs.ends.SendEnd.TheSendSync as send_end
use Rattle.lane.proofs.ends.TakeEnd.TheSendSync as take_end
use Rattle.host_workers.specs.contracts.boxed.Boxed as Boxed
use Rattle.host_workers.proofs.boxed.Boxed.TheSendSync as boxed

module _ (A T : RattleType) (a : IsSend A) (t : IsSend T) where
  pub sends_sent : IsSend (as_row (SendEnd.the_field A T))
  sends_sent = as_row_send (SendEnd.the_field A T) (send_end.the_send A T a t)

  pub takes_sent : IsSend (as_row (TakeEnd.the_field A T))
  takes_sent = as_row_send (TakeEnd.the_field A T) (take_end.the_send A T a t)

-- What is behind a pointer is sent as it is itself.
pub boxed_sent : (A : RattleType) → IsSend A → IsSend (as_row (Boxed.the_field A))
boxed_sent A a = as_row_send (Boxed.the_field A) (boxed.the_send A a)

-- A cell as an argument is sent as a cell is, however it is laid out.
pub as_argument : (R : RattleType) → IsSend R → IsSend (param 0 (arg ty_unit no R))
as_argument R sent = param_send 0 (arg ty_unit no R) (arg_send ty_unit no R sent)
