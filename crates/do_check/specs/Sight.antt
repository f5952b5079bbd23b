-- What the walk's own types stand for: scopes, names in sight, stages of paths.
use Rattle.std.specs.Prelude.{ℕ, Bool, true, false, List, [], ◌∷◌, map, Option, Some, None}
use Rattle.std.specs.Borrow.{Bor}
use Rattle.do_check.specs.Sorts.{bound_sort, sort_of}
use Rattle.do_check.specs.declared.named.Names.{Names}
use Rattle.do_check.specs.declared.named.Names.TheVariants as names
use Rattle.do_check.specs.declared.path.Path.{Path}
use Rattle.do_check.specs.declared.scope.Role.{Role}
use Rattle.do_check.specs.declared.scope.Role.TheVariants as role
use Rattle.do_check.specs.declared.scope.Scope.{Scope}
use Rattle.do_check.specs.declared.scope.Use.{Use}
use Rattle.do_check.specs.declared.scope.Use.TheVariants as uses
use Rattle.do_check.specs.declared.stage.Form.{Form}
use Rattle.do_check.specs.declared.stage.Form.TheVariants as row
use Rattle.do_check.specs.declared.stage.Stage.{Stage}
use Rattle.do_check.specs.declared.stage.Stage.TheVariants as come
use Rattle.do_tree.specs.Forms as form
use Rattle.do_tree.specs.Forms.{Bound}
use Rattle.do_tree.specs.Scope as scope
use Rattle.do_tree.specs.Seen.{class_of, named_of}
use Rattle.do_tree.specs.Tree as tree
use Rattle.do_tree.specs.declared.expr.Arg.TheBlock as node
use Rattle.do_tree.specs.declared.script.MethodKind.{MethodKind}
use Rattle.do_tree.specs.declared.script.Name.{Name}
use Rattle.do_tree.specs.declared.stmt.Item.{Item}

-- The names in sight behind an item, and behind some items.
abbrev pub behind_item : Item → List Bound → List Bound
behind_item (node.Declare' at b n v) ns = record { name = (named_of n).text; sort = sort_of (bound_sort b) } ∷ ns
behind_item (node.Stmt' p s) ns = ns

abbrev pub with_behind : Item → scope.Scope → scope.Scope
with_behind item c = record c { names = behind_item item c.names }

abbrev pub behind : List Item → List Bound → List Bound
behind [] ns = ns
behind (item ∷ rest) ns = behind rest (behind_item item ns)

abbrev pub parameters_of : MethodKind → List Name → List Bound
parameters_of kind ns = map (scope.parameter kind) (map named_of ns)

abbrev pub names_of : Names → List Bound
names_of (names.Parameters kind known) = parameters_of kind known.now.names.now
names_of (names.Declared' block p outer) = behind block.now.items.now (names_of outer)
names_of (names.Bound' n s p outer) = record { name = (named_of n.now).text; sort = sort_of s } ∷ names_of outer

abbrev pub scope_in : Scope → scope.Scope
scope_in c = record {
  class = class_of c.methods.now.class.now;
  method = c.method;
  names = names_of c.names;
  loop = c.in_loop;
  transaction = c.in_transaction;
  block = c.in_block;
  last = c.last;
}

abbrev pub role_of : Role → form.Role
role_of role.Plain = form.plain
role_of role.Identifier = form.identifier
role_of role.Transaction = form.transaction
role_of role.Block = form.block

abbrev pub use_of : Use → scope.Use
use_of uses.Value = scope.value
use_of (uses.Awaited at) = scope.awaited at
use_of uses.Alone = scope.alone
use_of uses.Written = scope.written
use_of uses.Identifier = scope.identifier

abbrev pub text_in : Bor Name → List ℕ
text_in n = (named_of n.now).text

abbrev pub form_of : Form → form.Form
form_of row.Reads = form.reads
form_of row.Lists = form.lists
form_of row.Writes = form.writes
form_of row.Transacts = form.transacts
form_of row.Blocks = form.blocks
form_of row.HandleReads = form.handle_reads
form_of row.HandleLists = form.handle_lists
form_of row.HandleWrites = form.writes_handle
form_of row.RollsBack = form.rolls_back
form_of (row.Helps n) = form.helps (named_of n.now)
form_of (row.Identifies n) = form.identifies (text_in n)
form_of (row.Opens n) = form.opens (text_in n)
form_of row.Reaches = form.reaches
form_of row.Fetches = form.fetches
form_of row.Computes = form.computes

abbrev pub stage_of : Stage → form.Stage
stage_of come.Itself = form.itself
stage_of come.Context = form.context
stage_of come.Storage = form.storage
stage_of come.Environment = form.environment
stage_of (come.OfClass n) = form.of_class (text_in n)
stage_of come.Handle = form.handle
stage_of (come.Word n) = form.word (text_in n)
stage_of (come.Own n) = form.own (named_of n.now)
stage_of (come.Part is_place n) = form.part is_place (text_in n)
stage_of come.Place = form.place
stage_of come.Value = form.value
stage_of (come.Callee f) = form.callee (form_of f)
stage_of (come.Called f) = form.called (form_of f)
stage_of come.Lost = form.lost

abbrev pub option_root : Option (Bor Name) → Option tree.Named
option_root None = None
option_root (Some n) = Some (named_of n.now)

abbrev pub option_text : Option (Bor Name) → Option (List ℕ)
option_text None = None
option_text (Some n) = Some (text_in n)

abbrev pub path_in : Path → scope.Path
path_in p = record { at = p.at; root = option_root p.root; serves = use_of p.serves }

abbrev pub is_empty : tree.Items → Bool
is_empty tree.no_items = true
is_empty _ = false
