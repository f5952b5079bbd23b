-- What is still to run may go to another thread.
use denote.Param.Send.{IsSend, plain_send, recorded_send, struct_send, enum_send}
use denote.Param.SendFields.{variants_send, as_row_send}
use Rattle.std.proofs.Crossing.{crosses}
use Rattle.do_value.proofs.operator.BinOp.TheSendSync as binop
use Rattle.do_value.proofs.operator.UnOp.TheSendSync as unop
use Rattle.do_value.proofs.text.Text.TheSendSync as text
use Rattle.script_places.specs.contracts.step.Step as Step
use Rattle.script_steps.specs.contracts.path.Writing as Writing
use Rattle.script_steps.specs.contracts.path.Callee as Callee
use Rattle.script_steps.specs.contracts.path.PathFrame as PathFrame
use Rattle.script_steps.specs.contracts.frame.Between as Between
use Rattle.script_steps.specs.contracts.frame.Frame as Frame
use Rattle.script_steps.proofs.path.Await.TheSendSync as await
use Rattle.script_steps.proofs.path.Root.TheSendSync as root
use Rattle.script_eval.proofs.SentNodes.{list, list_send, shared_expr, shared_callback, shared_stmt, shared_block, shared_simple, value_send, a_text, some_items, some_values}

-- ---- places and paths
pub step_send : IsSend Step.the_row
step_send = variants_send Step.enum (search (tt, a_text, value_send))

pub some_steps : IsSend (list Step.the_row)
some_steps = list_send Step.the_row step_send

pub writing_send : IsSend Writing.the_row
writing_send = variants_send Writing.enum (search (tt, plain_send, as_row_send, shared_expr, binop.the_send))

-- what most fields of paths and frames are
ruleset parts = (tt, shared_expr, shared_callback, a_text, value_send, await.the_send, root.the_send, some_steps, plain_send, as_row_send)

pub callee_send : IsSend Callee.the_row
callee_send = variants_send Callee.enum (search parts depth 40 fits 10000)

pub path_send : IsSend PathFrame.the_row
path_send = variants_send PathFrame.enum (search (parts, callee_send, writing_send, some_values, binop.the_send) depth 40 fits 10000)

-- ---- frames
pub between_send : IsSend Between.the_row
between_send = variants_send Between.enum (search (tt, shared_simple))

pub frame_send : IsSend Frame.the_row
frame_send = variants_send Frame.enum (search (parts, path_send, between_send, shared_stmt, shared_block, some_values, some_items, binop.the_send, unop.the_send, recorded_send, struct_send, enum_send, crosses, text.the_send) depth 60 fits 20000)
