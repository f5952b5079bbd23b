-- The storage of an object may go to another thread where its disk may.
use denote.RattleType.{RattleType}
use denote.Param.Send.{IsSend, plain_send, sendable}
use denote.Param.SendFields.{as_row_send, declared_send}
use Rattle.std.proofs.Crossing.{crosses}
use Rattle.storage_cache.proofs.Sent.{cache_send}
use Rattle.batch_journal.specs.contracts.pending.Pending as Pending
use Rattle.batch_journal.specs.contracts.journal.Journal as Journal
use Rattle.object_storage.specs.contracts.storage.Storage as Storage

ruleset parts = (tt, sendable, crosses, as_row_send, plain_send)

pending_send : IsSend Pending.the_row
pending_send = declared_send Pending.the_type (search parts depth 20 fits 4000)

module _ (D : RattleType) (s : IsSend D) where
  journal_send : IsSend (Journal.the_row D)
  journal_send = declared_send (Journal.the_type D) (search (parts, s, pending_send) depth 20 fits 4000)

  pub storage_send : IsSend (Storage.the_row D)
  storage_send = declared_send (Storage.the_type D) (search (parts, journal_send, cache_send) depth 20 fits 4000)
