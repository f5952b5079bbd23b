-- A front may go to another thread.
use denote.RattleType.{RattleType}
use denote.Param.Send.{IsSend, plain_send, sendable}
use denote.Param.SendFields.{as_row_send, declared_send, variants_send}
use Rattle.std.proofs.Crossing.{crosses}
use Rattle.std.proofs.MapsCrossing as maps
use Rattle.do_value.specs.contracts.value.Fields as Fields
use Rattle.do_value.proofs.num.Num.TheSendSync as num
use Rattle.do_value.proofs.text.Text.TheSendSync as text
use Rattle.do_value.proofs.value.Fields.TheLaws.TheKnot as values
use Rattle.storage_map.proofs.alarm.Alarm.TheSendSync as alarm
use Rattle.storage_map.proofs.ask.StoreAsk.TheSendSync as ask
use Rattle.storage_map.proofs.identity.Identity.TheSendSync as identity
use Rattle.script_eval.proofs.SentTask.{task_send}
use Rattle.timeline.proofs.Sent.{event_send, front_log_send}
use Rattle.timeline.proofs.caller.Caller.TheSendSync as caller
use Rattle.timeline.proofs.caller.Cause.TheSendSync as cause
use Rattle.input_gate.specs.contracts.deferred.Deferred as Deferred
use Rattle.front_turns.specs.contracts.object.Purpose as Purpose
use Rattle.front_turns.specs.contracts.object.Running as Running
use Rattle.front_turns.specs.contracts.object.Awaited as Awaited
use Rattle.front_turns.specs.contracts.object.Held as Held
use Rattle.front_turns.specs.contracts.object.Object as Object
use Rattle.front_turns.specs.contracts.object.Asked as Asked
use Rattle.front_turns.specs.contracts.object.State as State
use Rattle.object_front.specs.contracts.evaluated.Evaluated as Evaluated
use Rattle.front_half.specs.contracts.half.Mode as Mode
use Rattle.front_half.specs.contracts.half.Half as Half
use Rattle.object_front.specs.contracts.front.Front as Front

ruleset parts = (tt, sendable, crosses, as_row_send, plain_send)

-- ---- what is deferred
deferred_send : IsSend Deferred.the_row
deferred_send = search (sendable, crosses, maps.crosses, event_send) depth 30 fits 8000

-- ---- what is known of a task
purpose_send : IsSend Purpose.the_row
purpose_send = variants_send Purpose.enum (search (parts, alarm.the_send, caller.the_send) depth 20 fits 4000)

running_send : IsSend Running.the_row
running_send = declared_send Running.the_type (search (parts, purpose_send) depth 20 fits 4000)

awaited_send : IsSend Awaited.the_row
awaited_send = variants_send Awaited.enum (search (parts, identity.the_send) depth 20 fits 4000)

asked_send : IsSend Asked.the_row
asked_send = variants_send Asked.enum (search (parts, ask.the_send) depth 20 fits 4000)

evaluated_send : IsSend Evaluated.the_row
evaluated_send = declared_send Evaluated.the_type (search (parts, task_send) depth 20 fits 4000)

-- ---- an object's fields
fields_send : IsSend Fields.the_row
fields_send = search (sendable, crosses, values.crosses, num.the_send, num.the_sync, text.the_send, text.the_sync) depth 12 fits 4000

-- ---- an object with tasks that may go
module _ (T : RattleType) (s : IsSend T) where
  held_send : IsSend (Held.the_row T)
  held_send = declared_send (Held.the_type T) (search (parts, s, running_send, awaited_send) depth 20 fits 4000)

  object_send : IsSend (Object.the_row T)
  object_send = declared_send (Object.the_type T) (
    search (parts, fields_send) depth 20 fits 4000,
    (
      search parts depth 20 fits 4000,
      (
        search (parts, maps.crosses, held_send) depth 30 fits 8000,
        (
          search parts depth 20 fits 4000,
          (
            search (parts, event_send) depth 20 fits 4000,
            (
              search (parts, num.the_send) depth 20 fits 4000,
              (
                search (parts, alarm.the_send) depth 20 fits 4000,
                (
                  search (parts, alarm.the_send) depth 20 fits 4000,
                  (
                    search parts depth 20 fits 4000,
                    (
                      search parts depth 20 fits 4000,
                      tt,
                    ),
                  ),
                ),
              ),
            ),
          ),
        ),
      ),
    ),
  )

  state_send : IsSend (State.the_row T)
  state_send = variants_send (State.enum T) (search (parts, s, object_send, running_send, asked_send, cause.the_send) depth 30 fits 8000)

  mode_send : IsSend (Mode.the_row T)
  mode_send = variants_send (Mode.enum T) (search (parts, state_send, event_send) depth 30 fits 8000)

  half_send : IsSend (Half.the_row T)
  half_send = declared_send (Half.the_type T) (search (parts, mode_send, event_send, deferred_send, front_log_send) depth 30 fits 8000)

-- ---- the front
pub front_send : IsSend Front.the_row
front_send = declared_send Front.the_type (search (parts, half_send Evaluated.the_row evaluated_send) depth 20 fits 4000)
