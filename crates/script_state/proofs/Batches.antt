-- Batches that are closed.
use Rattle.std.proofs.Common.{Bool, ◌≡◌, ◌^◌, ◌<◌, ◌≤◌, List, [], ◌∷◌, ◌++◌, length, Result, Ok, Err, OnOk, refl, sym, ap, ◌∙◌, arith}
use Rattle.storage_map.proofs.Sizes.{count-le_bytes, length-batch_bytes}
use Rattle.storage_map.specs.Limits.{most_batch_bytes}
use Rattle.storage_map.specs.Ops.{batch_bytes}
use Rattle.storage_map.specs.declared.op.Op.{Op}
use Rattle.write_batcher.specs.Marked.{Open, nothing_open, marked, batch_of, IsCut}
use Rattle.write_batcher.specs.declared.batcher.Made.{Made}
use Rattle.script_mean.specs.Turn as turn
use Rattle.script_mean.specs.Turn.{cut}
use Rattle.script_state.specs.Ends.{Becomes}
use Rattle.script_state.specs.Seen.{state_of}
use Rattle.script_state.specs.declared.state.State.{State}

-- Some operations are one batch.
pub one_batch : (ops : List Op) (confirmed : Bool) → (ops ≡ [] → ⊥) → marked ops confirmed ≡ record { batch = ops; confirmed = confirmed } ∷ []
one_batch [] confirmed some = absurd (some refl)
one_batch (op ∷ ops) confirmed some = refl

-- What holds where an answer is there.
pub on_ok : {A E : Type 0} {P Q : Type 0} (r : Result A E) → (P → Q) → OnOk r P → OnOk r Q
on_ok (Ok a) f p = f p
on_ok (Err e) f p = p

-- A batch is closed behind the others.
abbrev pub closing : Made → turn.State → turn.State
closing made st = record st { closed = st.closed ++ made ∷ [] }

-- The open batch is closed.
pub cut_some : (made : Made) (old : State) (pending : Open) (new : State) → IsCut old.pending made → (old.pending.ops ≡ [] → ⊥) → pending ≡ nothing_open
    → Becomes (closing made) (record old { pending = pending }) new → Becomes cut old new
cut_some made old pending new is some empty closes = record {
  state = λ rs.
      closes.state rs
      ∙ ap (λ bs. record (state_of old rs) { closed = old.closed.items ++ bs; pending = pending })
      (ap (λ m. m ∷ []) is ∙ sym (one_batch old.pending.ops old.pending.confirmed some))
      ∙ ap (λ ps. record (state_of old rs) { closed = old.closed.items ++ batch_of old.pending; pending = ps }) empty;
  vars = closes.vars;
}

-- A batch has fewer operations than bytes.
pub batch_count : (ops : List Op) → length (batch_bytes ops) ≤ most_batch_bytes → length ops < 2 ^ 32
batch_count ops small = omega (arith, length-batch_bytes ops, count-le_bytes ops)
