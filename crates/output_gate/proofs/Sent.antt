-- A back may go to another thread where its disk may.
use denote.RattleType.{RattleType}
use denote.Param.Send.{IsSend, plain_send, sendable}
use denote.Param.SendFields.{as_row_send, declared_send, variants_send}
use Rattle.std.proofs.Crossing.{crosses}
use Rattle.storage_map.proofs.identity.Identity.TheSendSync as identity
use Rattle.storage_cache.proofs.Sent.{cache_send}
use Rattle.batch_journal.specs.contracts.pending.Pending as Pending
use Rattle.batch_journal.specs.contracts.journal.Journal as Journal
use Rattle.timeline.proofs.Sent.{message_send, back_log_send}
use Rattle.timeline.proofs.caller.Cause.TheSendSync as cause
use Rattle.output_gate.specs.contracts.held.HeldBody as HeldBody
use Rattle.output_gate.specs.contracts.held.Held as Held
use Rattle.output_gate.specs.contracts.store.Store as Store
use Rattle.output_gate.specs.contracts.back.Ending as Ending
use Rattle.output_gate.specs.contracts.back.Mode as Mode
use Rattle.output_gate.specs.contracts.back.Back as Back

ruleset parts = (tt, sendable, crosses, as_row_send, plain_send)

-- ---- what is held
body_send : IsSend HeldBody.the_row
body_send = variants_send HeldBody.enum (search (parts, message_send, cause.the_send) depth 30 fits 8000)

held_send : IsSend Held.the_row
held_send = declared_send Held.the_type (search (parts, body_send) depth 20 fits 4000)

-- ---- the mode
ending_send : IsSend Ending.the_row
ending_send = declared_send Ending.the_type (search (parts, cause.the_send) depth 20 fits 4000)

mode_send : IsSend Mode.the_row
mode_send = variants_send Mode.enum (search (parts, ending_send) depth 20 fits 4000)

-- ---- the store and the back
pending_send : IsSend Pending.the_row
pending_send = declared_send Pending.the_type (search parts depth 20 fits 4000)

module _ (D : RattleType) (s : IsSend D) where
  journal_send : IsSend (Journal.the_row D)
  journal_send = declared_send (Journal.the_type D) (search (parts, s, pending_send) depth 20 fits 4000)

  store_send : IsSend (Store.the_row D)
  store_send = variants_send (Store.enum D) (search (parts, s, journal_send) depth 20 fits 4000)

  pub back_send : IsSend (Back.the_row D)
  back_send = declared_send (Back.the_type D) (search (parts, store_send, cache_send, identity.the_send, held_send, mode_send, back_log_send) depth 30 fits 8000)
