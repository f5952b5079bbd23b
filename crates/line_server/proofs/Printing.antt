-- The JSON of a value has no float.
use Rattle.std.proofs.Common.{◌≡◌, ℤ, pos, negsuc, refl, false}
use Rattle.serde_json.specs.Find.{of_integer, is_float}
use Rattle.serde_json.specs.Written.{has_float, items_have_float, members_have_float}
use Rattle.do_value.specs.Tree.{Tree, undefined, null, boolean, number, text, list, rec, Trees, no_trees, tree, Pairs, no_pairs, pair}
use Rattle.do_value.specs.Seen.{tree_of}
use Rattle.do_wire.specs.Json.{json_of, items_of, members_of}
use Rattle.timeline.specs.declared.caller.Cause.{Cause}
use Rattle.timeline.specs.declared.caller.Cause.TheVariants as cause
use Rattle.timeline.specs.declared.caller.Failure.{Failure}
use Rattle.timeline.specs.declared.caller.Failure.TheVariants as failure
use Rattle.line_server.specs.Text.{cause_json, error_json, waiting_json, json_of_out}
use Rattle.line_server.specs.declared.out_line.OutLine.{OutLine}
use Rattle.line_server.specs.declared.out_line.OutLine.TheVariants as out
use Rattle.line_server.specs.declared.out_line.WaitLine.{WaitLine}
use Rattle.line_server.specs.declared.out_line.WaitLine.TheVariants as wait

integer_is_no_float : (z : ℤ) → is_float (of_integer z) ≡ false
integer_is_no_float (pos n) = refl
integer_is_no_float (negsuc n) = refl

mutual
  pub has_no_float : (t : Tree) → has_float (json_of t) ≡ false
  has_no_float undefined = refl
  has_no_float null = refl
  has_no_float (boolean b) = refl
  has_no_float (number z) = integer_is_no_float z
  has_no_float (text bytes) = refl
  has_no_float (list ts) = items_have_no_float ts
  has_no_float (rec ps) = members_have_no_float ps

  items_have_no_float : (ts : Trees) → items_have_float (items_of ts) ≡ false
  items_have_no_float no_trees = refl
  items_have_no_float (tree t ts) = rw (has_no_float t) (items_have_no_float ts)

  members_have_no_float : (ps : Pairs) → members_have_float (members_of ps) ≡ false
  members_have_no_float no_pairs = refl
  members_have_no_float (pair k undefined ps) = members_have_no_float ps
  members_have_no_float (pair k null ps) = members_have_no_float ps
  members_have_no_float (pair k (boolean b) ps) = members_have_no_float ps
  members_have_no_float (pair k (number z) ps) = rw (integer_is_no_float z) (members_have_no_float ps)
  members_have_no_float (pair k (text bytes) ps) = members_have_no_float ps
  members_have_no_float (pair k (list ts) ps) = rw (items_have_no_float ts) (members_have_no_float ps)
  members_have_no_float (pair k (rec qs) ps) = rw (members_have_no_float qs) (members_have_no_float ps)

-- nor has why a request has no value
cause_has_no_float : (c : Cause) → has_float (cause_json c) ≡ false
cause_has_no_float (cause.Disk before after) = refl
cause_has_no_float (cause.Full needed limit) = refl
cause_has_no_float cause.Exceeded = refl
cause_has_no_float cause.StartThrew = refl
cause_has_no_float cause.BlockThrew = refl

error_has_no_float : (n : ℤ) (f : Failure) → has_float (error_json n f) ≡ false
error_has_no_float n failure.NoClass = rw (integer_is_no_float n) refl
error_has_no_float n failure.NoMethod = rw (integer_is_no_float n) refl
error_has_no_float n (failure.NoSlot slots) = rw (integer_is_no_float n) refl
error_has_no_float n failure.NoFetch = rw (integer_is_no_float n) refl
error_has_no_float n (failure.Thrown value) = rw (integer_is_no_float n, has_no_float (tree_of value)) refl
error_has_no_float n failure.Exceeded = rw (integer_is_no_float n) refl
error_has_no_float n (failure.Reset why) = rw (integer_is_no_float n, cause_has_no_float why) refl
error_has_no_float n (failure.Down before after) = rw (integer_is_no_float n) refl

waiting_has_no_float : (n : ℤ) (w : WaitLine) → has_float (waiting_json n w) ≡ false
waiting_has_no_float n (wait.Fetch k) = rw (integer_is_no_float n) refl
waiting_has_no_float n (wait.Call class name) = rw (integer_is_no_float n) refl
waiting_has_no_float n wait.Block = rw (integer_is_no_float n) refl

-- nor has an output line's
pub out_has_no_float : (line : OutLine) → has_float (json_of_out line) ≡ false
out_has_no_float (out.Reply n value) = rw (integer_is_no_float n, has_no_float (tree_of value)) refl
out_has_no_float (out.Error n f) = error_has_no_float n f
out_has_no_float (out.Fetch k class name value) = rw (has_no_float (tree_of value)) refl
out_has_no_float (out.Refused line reason) = refl
out_has_no_float (out.Waiting n on) = waiting_has_no_float n on
