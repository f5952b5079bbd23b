-- A cache may go to another thread.
use denote.RattleType.{RattleType}
use denote.Param.Send.{IsSend, IsSync, view_send, plain_send, sendable}
use denote.Param.SendFields.{FieldsHave, as_row_send, declared_send}
use denote.Struct.Field.{row_field}
use Rattle.std.specs.Prelude.{[], ◌∷◌}
use Rattle.std.proofs.Crossing.{crosses}
use Rattle.std.proofs.MapsCrossing as maps
use Rattle.std.proofs.alloc.Global.TheSendSync as heap
use Rattle.std.specs.contracts.alloc.Global as Heap
use Rattle.std.specs.contracts.impls.GlobalAllocator.TheImpl.{ghosts}
use Rattle.std.specs.contracts.collections.HashMap as HashMap
use Rattle.std.specs.contracts.num.NonZeroUsize as NonZeroUsize
use Rattle.std.specs.declared.cmp.Eq as eq
use Rattle.std.specs.declared.cmp.PartialEq as partial
use Rattle.std.specs.declared.hash.Hash as hash
use Rattle.std.specs.declared.hash.Hasher as hasher
use Rattle.std.specs.declared.hash.BuildHasher as builder
use Rattle.lru.proofs.list.List.TheSendSync as list
use Rattle.lru.proofs.entry.Deed.TheSendSync as deed
use Rattle.lru.proofs.entry.NodePtr.TheSendSync as pointer
use Rattle.lru.proofs.key_ref.KeyRef.TheSendSync as key_ref
use Rattle.lru.specs.contracts.list.List as List
use Rattle.lru.specs.contracts.entry.Slot as Slot
use Rattle.lru.specs.contracts.key_ref.KeyRef as KeyRef
use Rattle.lru.specs.contracts.nodes.Nodes as Nodes
use Rattle.lru.specs.contracts.cache.LruCache as Lru
use Rattle.do_value.proofs.num.Num.TheSendSync as num
use Rattle.do_value.proofs.text.Text.TheSendSync as text
use Rattle.do_value.proofs.value.Fields.TheLaws.TheKnot as values
use Rattle.do_value.specs.contracts.value.Value as Value
use Rattle.storage_map.proofs.alarm.Alarm.TheSendSync as alarm
use Rattle.storage_map.specs.contracts.map.Map as Map
use Rattle.storage_map.specs.contracts.index.Index as Index
use Rattle.storage_map.specs.contracts.place.Place as Place
use Rattle.storage_cache.specs.contracts.cache.Cache as Cache

ruleset of_values = (sendable, crosses, maps.crosses, values.crosses, num.the_send, num.the_sync, text.the_send, text.the_sync)

-- ---- the map of bounded size, whose keys are shared by its list and its table
module _ (K V S T : RattleType) (e : eq.Ghosts K.Denot) (p : partial.Ghosts K.Denot) (h : hash.Ghosts K.Denot) (b : builder.Ghosts S.Denot T.Denot)
    (w : hasher.Ghosts T.Denot) (k : IsSend K) (y : IsSync K) (v : IsSend V) (s : IsSend S) where
  abbrev same_ref : partial.Ghosts (KeyRef.the_row K).Denot
  same_ref = record { eq = λ x y. p.eq x.key y.key }

  abbrev hashed_ref : hash.Ghosts (KeyRef.the_row K).Denot
  hashed_ref = record { hash_input = λ r. h.hash_input r.key }

  slot_send : IsSend (Slot.the_row K V Heap.the_row ghosts)
  slot_send = declared_send (Slot.the_type K V Heap.the_row ghosts)
      (search (tt, sendable, crosses, as_row_send, plain_send, deed.the_send, pointer.the_send) depth 20 fits 4000)

  nodes_send : IsSend (Nodes.the_row K V S Heap.the_row T e p h b w ghosts)
  nodes_send = declared_send (Nodes.the_type K V S Heap.the_row T e p h b w ghosts) (
    as_row_send (HashMap.the_field (KeyRef.the_row K) (Slot.the_row K V Heap.the_row ghosts) S Heap.the_row T same_ref hashed_ref b w ghosts)
        (maps.HashMap-send (KeyRef.the_row K) (Slot.the_row K V Heap.the_row ghosts) S T same_ref hashed_ref b w (key_ref.the_send K y) slot_send s),
    (
      slot_send,
      (
        slot_send,
        (
          as_row_send (List.the_field K V) (list.the_send K V k v y),
          (as_row_send (row_field Heap.the_row) heap.the_send, tt),
        ),
      ),
    ),
  )

  parts_send : FieldsHave IsSend (Nodes.the_field K V S Heap.the_row T e p h b w ghosts ∷ NonZeroUsize.the_field ∷ [])
  parts_send = (nodes_send, search (tt, sendable, as_row_send, plain_send) depth 10)

  lru_send : IsSend (Lru.the_row K V S Heap.the_row T e p h b w ghosts)
  lru_send = search (view_send, declared_send, parts_send) depth 10 fits 4000

-- ---- the cache
place_send : IsSend Place.the_row
place_send = search (sendable, crosses) depth 20 fits 4000

place_sync : IsSync Place.the_row
place_sync = search (sendable, crosses) depth 20 fits 4000

value_send : IsSend Value.the_row
value_send = search of_values depth 30 fits 8000

map_send : IsSend Map.the_row
map_send = search (of_values, alarm.the_send) depth 40 fits 8000

index_send : IsSend Index.the_row
index_send = search (sendable, crosses, maps.crosses, place_send, alarm.the_send) depth 40 fits 8000

pub cache_send : IsSend Cache.the_row
cache_send = search (tt, sendable, crosses, index_send, map_send, lru_send, place_send, place_sync, value_send) depth 20 fits 4000
