-- Faults of forms: calls that are none, awaits that are missing or idle, and what may not stand in a transaction or
-- a block. Each as 'it stands at this place of this script' (this project's profile).
use Rattle.std.specs.Prelude.{◌≡◌, ◌≢◌, ℕ, Bool, true, false, ◌&&◌, ◌||◌, not, List, [], ◌∷◌, Option, Some, None, codes}
use Rattle.std.specs.List.{list_any}
use Rattle.std.specs.Str.{bytes_eq}
use Rattle.do_tree.specs.Forms as form
use Rattle.do_tree.specs.Forms.{Form, Role, Stage, ends, has_name, takes_callback}
use Rattle.do_tree.specs.Lookup.{is_named}
use Rattle.do_tree.specs.Scope.{Scope, Path, Use, value, awaited, alone, written, identifier, ExprIn, LinksIn, ArgsIn}
use Rattle.do_tree.specs.Tree as tree
use Rattle.do_tree.specs.Tree.{Named, Expr, OptionExpr, Links, Args, Pairs, Items, Method, Class, Script}
use Rattle.do_tree.specs.declared.script.MethodKind.{MethodKind}
use Rattle.do_tree.specs.declared.script.MethodKind.TheVariants as method

abbrev pub is_alone : Use → Bool
is_alone alone = true
is_alone _ = false

abbrev pub is_written : Use → Bool
is_written written = true
is_written _ = false

abbrev pub is_identifier : Use → Bool
is_identifier identifier = true
is_identifier _ = false

abbrev pub is_awaited : Use → Bool
is_awaited (awaited at) = true
is_awaited _ = false

-- A call of the form may be the whole of a path that serves for this: a rollback stands as a statement alone, an
-- identifier where an object is asked for, and an object before its method alone.
abbrev pub may_end : Use → Form → Bool
may_end u form.rolls_back = is_alone u
may_end u (form.identifies class) = is_identifier u
may_end u (form.opens class) = false
may_end u _ = true

-- What a path comes to in the end is an expression. `this`, `ctx`, `env`, the storage, a class of the environment and
-- a transaction's handle are none by themselves; a write to this.ctx or this.env is a fault of another kind.
abbrev pub is_whole : Path → Stage → Bool
is_whole p form.itself = false
is_whole p form.context = is_written p.serves && not (has_name p.root)
is_whole p form.storage = false
is_whole p form.environment = is_written p.serves && not (has_name p.root)
is_whole p (form.of_class x) = false
is_whole p form.handle = false
is_whole p (form.word w) = true
is_whole p (form.own n) = true
is_whole p (form.part is_place w) = true
is_whole p form.place = true
is_whole p form.value = true
is_whole p (form.callee f) = false
is_whole p (form.called f) = may_end p.serves f
is_whole p form.lost = false

-- What is no form.
pub data IsNoForm (s : Script) : ℕ → Type 0 where
  path : {c : Scope} {p : Path} {st : Stage} → LinksIn s c p st tree.no_links → is_whole p st ≡ false → IsNoForm s p.at
  arrow : {c : Scope} {r : Role} {at : ℕ} {n : Option Named} {is : Items} {rest : Args}
      → ArgsIn s c r (tree.callback at n is rest) → takes_callback r n ≡ false → IsNoForm s at

abbrev pub is_async : MethodKind → Bool
is_async method.Async = true
is_async method.Sync = false
is_async method.Constructor = false

abbrev pub is_async_named : List ℕ → Method → Bool
is_async_named name m = is_async m.kind && is_named name m

-- A call of the form is to be awaited: it asks, is of an async method, or is a handle's write.
abbrev pub waits : Class → Form → Bool
waits class form.rolls_back = false
waits class (form.identifies x) = false
waits class (form.opens x) = false
waits class form.computes = false
waits class (form.helps n) = list_any (is_async_named n.text) class.methods
waits class _ = true

-- What is to be awaited may stand as a statement without: writes, and a block where it ends a constructor.
abbrev pub may_stand : Scope → Form → Bool
may_stand c form.writes = true
may_stand c form.writes_handle = true
may_stand c form.blocks = c.last
may_stand c _ = false

-- A call of the form that is to be awaited is: by an await around it, or by leave as a statement. One with steps
-- behind it isn't.
abbrev pub is_met : Scope → Path → Form → Links → Bool
is_met c p f tree.no_links = is_awaited p.serves || (is_alone p.serves && may_stand c f)
is_met c p f _ = false

pub record IsNotAwaited (s : Script) (at : ℕ) : Type 0 where
  pub scope : Scope
  pub path : Path
  pub call : Form
  pub steps : Links
  pub is : LinksIn s scope path (form.called call) steps
  pub waits : waits scope.class call ≡ true
  pub not_met : is_met scope path call steps ≡ false
  pub at_is : at ≡ path.at

abbrev pub is_awaitable : Class → Stage → Bool
is_awaitable class (form.called f) = waits class f
is_awaitable class _ = false

-- Variables, `this`, and what has steps.
abbrev pub is_path : Expr → Bool
is_path (tree.path at e ls) = true
is_path (tree.variable n) = true
is_path (tree.this at) = true
is_path _ = false

-- An await of what isn't to be awaited.
pub data IsAwaitOfSync (s : Script) : ℕ → Type 0 where
  idle_path : {c : Scope} {p : Path} {st : Stage} {at : ℕ} → LinksIn s c p st tree.no_links → p.serves ≡ awaited at → is_awaitable c.class st ≡ false
      → IsAwaitOfSync s at
  idle_other : {c : Scope} {e : Expr} {at : ℕ} → ExprIn s c (awaited at) e → is_path e ≡ false → IsAwaitOfSync s at

-- A call of the form asks or stores, and isn't one of a transaction's handle.
abbrev pub is_outside : Form → Bool
is_outside form.reads = true
is_outside form.lists = true
is_outside form.writes = true
is_outside form.transacts = true
is_outside form.blocks = true
is_outside form.reaches = true
is_outside form.fetches = true
is_outside _ = false

abbrev pub is_help : Form → Bool
is_help (form.helps n) = true
is_help _ = false

-- A call that may not stand in a transaction: one outside of it, or an awaited one of a method of the object.
abbrev pub leaves_transaction : Path → Form → Links → Bool
leaves_transaction p f ls = is_outside f || (is_help f && is_awaited p.serves && ends ls)

pub record IsInTransaction (s : Script) (at : ℕ) : Type 0 where
  pub scope : Scope
  pub path : Path
  pub call : Form
  pub steps : Links
  pub is : LinksIn s scope path (form.called call) steps
  pub transaction : scope.transaction ≡ true
  pub leaves : leaves_transaction path call steps ≡ true
  pub at_is : at ≡ path.at

-- A block inside another's callback.
pub record IsInBlock (s : Script) (at : ℕ) : Type 0 where
  pub scope : Scope
  pub path : Path
  pub steps : Links
  pub is : LinksIn s scope path (form.called form.blocks) steps
  pub block : scope.block ≡ true
  pub at_is : at ≡ path.at

abbrev pub has_key : Pairs → List ℕ → Bool
has_key tree.no_pairs key = false
has_key (tree.pair n v ps) key = bytes_eq key n.text || has_key ps key

abbrev pub lists_from : Form → Bool
lists_from form.lists = true
lists_from form.handle_lists = true
lists_from _ = false

-- Options of a list with both kinds of start.
pub record IsStartTwice (s : Script) (at : ℕ) : Type 0 where
  pub scope : Scope
  pub path : Path
  pub call : Form
  pub call_at : ℕ
  pub options : Pairs
  pub rest : Args
  pub steps : Links
  pub is : LinksIn s scope path (form.callee call) (tree.call call_at (tree.value_arg (tree.rec at options) rest) steps)
  pub lists : lists_from call ≡ true
  pub start : has_key options (codes "start") ≡ true
  pub start_after : has_key options (codes "startAfter") ≡ true
