use Rattle.std.proofs.Common.{◌≡◌, ◌∙◌, Result, Ok, Err, sym}
use Rattle.std.specs.Prelude.{OnOk, false, is_err}
use Rattle.host_core.proofs.room.Queues.with_room.Goals as goal

-- what holds of a good answer holds of one that is no error
on_good : {T E P : Type 0} (result : Result T E) → is_err result ≡ false → OnOk result P → P
on_good (Ok value) good holds = holds
on_good (Err error) good holds = absurd cc

pub returns : goal.returns
returns c = (
  c.reserve.ensures.items ∙ c.new-inboxes.ensures.items,
  c.reserve-else-is_err.ensures.items ∙ c.new-outs.ensures.items,
  record {
    inboxes = on_good c.reserve.result (sym c.is_err.ensures.value ∙ c.if-is_err.false) c.reserve.ensures.ok;
    outs = on_good c.reserve-else-is_err.result (sym c.is_err-else-is_err.ensures.value ∙ c.if-is_err-2.false) c.reserve-else-is_err.ensures.ok;
  },
)
