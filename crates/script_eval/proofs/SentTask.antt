-- A suspended task may go to another thread.
use denote.Hole.{as_row}
use denote.Param.Send.{IsSend, plain_send, sendable}
use denote.Param.SendFields.{as_row_send, declared_send, variants_send}
use Rattle.std.proofs.Crossing.{crosses}
use Rattle.std.proofs.MapsCrossing as maps
use Rattle.do_value.proofs.text.Text.TheSendSync as text
use Rattle.storage_map.specs.contracts.op.Op as Op
use Rattle.storage_map.proofs.key.Key.TheSendSync as key
use Rattle.storage_map.proofs.ask.StoreAsk.TheSendSync as ask
use Rattle.storage_txn.specs.contracts.txn.Txn as Txn
use Rattle.script_vars.specs.contracts.bound.Bound as Bound
use Rattle.script_vars.specs.contracts.vars.Vars as Vars
use Rattle.script_asks.proofs.work.Completed.TheSendSync as completed
use Rattle.script_steps.proofs.path.Await.TheSendSync as await
use Rattle.script_state.specs.contracts.waiting.Gives as Gives
use Rattle.script_state.specs.contracts.waiting.Waiting as Waiting
use Rattle.script_eval.specs.contracts.frames.Frames as Frames
use Rattle.script_eval.specs.contracts.frames.Layer as Layer
use Rattle.script_eval.specs.contracts.task.Task as Task
use Rattle.script_eval.proofs.SentNodes.{value_send, value_field}
use Rattle.script_eval.proofs.SentFrames.{frame_send}

-- ---- variables
bound_field : IsSend (Bound.the_field).row
bound_field = search (sendable, value_field) depth 12

pub vars_send : IsSend Vars.the_row
vars_send = search (sendable, crosses, text.the_send, bound_field) depth 30 fits 2000

-- ---- the transaction
op_send : IsSend Op.the_row
op_send = search (sendable, crosses, key.the_send, value_field) depth 20 fits 2000

pub txn_send : IsSend Txn.the_row
txn_send = search (sendable, crosses, maps.crosses, op_send) depth 30 fits 2000

-- ---- what is waited for
gives_send : IsSend Gives.the_row
gives_send = variants_send Gives.enum (search (tt, completed.the_send, value_send))

pub waiting_send : IsSend Waiting.the_row
waiting_send = variants_send Waiting.enum (search (tt, as_row_send, plain_send, gives_send, ask.the_send) depth 20)

-- ---- what is still to run
vars_kept : IsSend (as_row Vars.the_field)
vars_kept = as_row_send Vars.the_field vars_send

layer_send : IsSend Layer.the_row
layer_send = variants_send Layer.enum (search (tt, as_row_send, await.the_send, frame_send, vars_kept))

pub frames_send : IsSend Frames.the_row
frames_send = search (sendable, crosses, layer_send) depth 20

-- ---- the task
pub task_send : IsSend Task.the_row
task_send = declared_send Task.the_type (search (sendable, as_row_send, frames_send, vars_send, txn_send, waiting_send) depth 20 fits 2000)
