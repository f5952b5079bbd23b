-- What is within the limits of a format is within those of one that allows more.
use Rattle.std.proofs.Common.{ℕ, ◌≤◌, List, arith}
use Rattle.std.proofs.lemmas.List.Elements.{All-weaker}
use Rattle.storage_map.specs.Limits.{Format, format_one, format_two}
use Rattle.storage_map.specs.Ops.{IsStoredIn, IsOpIn, IsBatchIn}
use Rattle.do_value.specs.declared.value.Value.{Value}
use Rattle.storage_map.specs.declared.op.Op.{Op}
use Rattle.storage_map.specs.declared.op.Op.TheVariants.{Put, Delete, DeleteAll, SetAlarm, ClearAlarm}

-- the first format allows no larger values and batches than the second
pub record AllowsNoMore (small large : Format) : Type 0 where
  pub stored : small.most_stored ≤ large.most_stored
  pub batch : small.most_batch ≤ large.most_batch

module _ (small large : Format) (less : AllowsNoMore small large) where
  -- a stored value
  pub larger_stored : (value : Value) → IsStoredIn small value → IsStoredIn large value
  larger_stored value is = record { sound = is.sound; defined = is.defined; fits = omega (arith, is.fits, less.stored) }

  -- an operation
  pub larger_op : (op : Op) → IsOpIn small op → IsOpIn large op
  larger_op (Put key value) is = (is.0, larger_stored value is.1)
  larger_op (Delete key) is = is
  larger_op DeleteAll is = is
  larger_op (SetAlarm time retry) is = is
  larger_op ClearAlarm is = is

  -- a batch
  pub larger_batch : (ops : List Op) → IsBatchIn small ops → IsBatchIn large ops
  larger_batch ops is = record { some = is.some; each = All-weaker (IsOpIn small) (IsOpIn large) larger_op ops is.each; fits = omega (arith, is.fits, less.batch) }

-- the first format allows no more than the second
pub first_allows_no_more : AllowsNoMore format_one format_two
first_allows_no_more = record { stored = omega arith; batch = omega arith }

-- nor does the second itself
pub second_allows_no_more : AllowsNoMore format_two format_two
second_allows_no_more = record { stored = omega arith; batch = omega arith }
