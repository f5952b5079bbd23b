-- Faults of names, writes, loops and awaits, each as 'it stands at this place of this script' (this project's
-- profile).
use Rattle.std.specs.Prelude.{◌≡◌, ◌≢◌, ℕ, Bool, true, false, ◌&&◌, not, List, [], ◌∷◌, ◌++◌, map, Option, Some, None, is_some, Contains, codes}
use Rattle.std.specs.List.{list_any}
use Rattle.std.specs.Str.{bytes_eq}
use Rattle.do_lex.specs.Kind.{is_keyword}
use Rattle.do_tree.specs.Forms as form
use Rattle.do_tree.specs.Forms.{Role, Stage, among, is_call_first, owner_form, sort_in, word_form}
use Rattle.do_tree.specs.Lookup.{is_named}
use Rattle.do_tree.specs.Scope.{Scope, Path, Use, written, root_of, ItemsIn, StmtIn, ExprIn, PathIn, LinksIn, ArgsIn}
use Rattle.do_tree.specs.Tree as tree
use Rattle.do_tree.specs.Tree.{Named, Expr, OptionExpr, Links, Args, Items, Stmt, Simple, Method, Class, Script}
use Rattle.do_tree.specs.declared.script.MethodKind.{MethodKind}
use Rattle.do_tree.specs.declared.script.MethodKind.TheVariants as method
use Rattle.do_tree.specs.declared.stmt.Binding.{Binding}

-- The names that the items of a block declare.
abbrev pub declared_in : Items → List Named
declared_in tree.no_items = []
declared_in (tree.declare at b n v is) = n ∷ declared_in is
declared_in (tree.statement s is) = declared_in is

abbrev pub name_of_class : Class → Named
name_of_class c = c.name

abbrev pub name_of_method : Method → Named
name_of_method m = m.name

-- Names that are to differ from one another.
pub data AreTogether (s : Script) : List Named → Type 0 where
  classes : AreTogether s (map name_of_class s.classes)
  methods : {class : Class} → Contains s.classes class → AreTogether s (map name_of_method class.methods)
  outermost : {class : Class} {m : Method} → Contains s.classes class → Contains class.methods m
      → AreTogether s (m.parameters ++ declared_in m.body)
  block : {c : Scope} {at : ℕ} {is : Items} → StmtIn s c (tree.block at is) → AreTogether s (declared_in is)
  tried : {c : Scope} {at : ℕ} {is handler : Items} {n : Option Named} → StmtIn s c (tree.try at is n handler) → AreTogether s (declared_in is)
  handler : {c : Scope} {at : ℕ} {is handler : Items} {n : Option Named} → StmtIn s c (tree.try at is n handler) → AreTogether s (declared_in handler)
  callback : {c : Scope} {r : Role} {at : ℕ} {n : Option Named} {is : Items} {rest : Args} → ArgsIn s c r (tree.callback at n is rest)
      → AreTogether s (declared_in is)

-- A name for the second time among names that are to differ.
pub record IsDoubled (s : Script) (at : ℕ) : Type 0 where
  pub front : List Named
  pub second : Named
  pub back : List Named
  pub together : AreTogether s (front ++ second ∷ back)
  pub first : Named
  pub is_earlier : Contains front first
  pub same : first.text ≡ second.text
  pub at_is : at ≡ second.at

-- A name that is bound, but for the parameters of constructors. Methods are no names that are bound.
pub data IsBound (s : Script) : Named → Type 0 where
  class_bound : {class : Class} → Contains s.classes class → IsBound s class.name
  parameter : {class : Class} {m : Method} {n : Named} → Contains s.classes class → Contains class.methods m
      → m.kind ≢ method.Constructor → Contains m.parameters n → IsBound s n
  declared : {c : Scope} {at : ℕ} {b : Binding} {n : Named} {v : OptionExpr} {is : Items} → ItemsIn s c (tree.declare at b n v is) → IsBound s n
  for_name : {c : Scope} {at : ℕ} {n : Named} {first test : Expr} {step : Simple} {st : Stmt}
      → StmtIn s c (tree.for at n first test step st) → IsBound s n
  for_of_name : {c : Scope} {at : ℕ} {b : Binding} {n : Named} {e : Expr} {st : Stmt} → StmtIn s c (tree.for_of at b n e st) → IsBound s n
  caught : {c : Scope} {at : ℕ} {is handler : Items} {n : Named} → StmtIn s c (tree.try at is (Some n) handler) → IsBound s n
  callback_parameter : {c : Scope} {r : Role} {at : ℕ} {n : Named} {is : Items} {rest : Args} → ArgsIn s c r (tree.callback at (Some n) is rest) → IsBound s n

abbrev pub reserved : List (List ℕ)
reserved = codes "ctx" ∷ codes "env" ∷ codes "fetch" ∷ codes "Date" ∷ codes "Object" ∷ codes "String" ∷ codes "Number" ∷ codes "Array" ∷ codes "Error"
    ∷ codes "DurableObject" ∷ []

abbrev pub outside_words : List (List ℕ)
outside_words = codes "ctx" ∷ codes "env" ∷ []

-- A reserved name that is bound, or a write to this.ctx or this.env.
pub data IsReserved (s : Script) : ℕ → Type 0 where
  binds : {n : Named} → IsBound s n → among reserved n.text ≡ true → IsReserved s n.at
  outside : {c : Scope} {p : Path} {n : Named} → LinksIn s c p form.itself (tree.field n tree.no_links) → p.serves ≡ written
      → among outside_words n.text ≡ true → IsReserved s n.at

-- Whether a name and these steps begin a call of the language's own: `fetch(..)`, `Object.keys(..)`.
abbrev pub begins_call : List ℕ → Links → Bool
begins_call name (tree.call at a ls) = is_some (word_form name)
begins_call name (tree.field n ls) = is_some (owner_form name n.text) && is_call_first ls
begins_call name _ = false

-- A variable with no binding in sight, where it doesn't begin a call of the language's own: `Object.values(..)` is none.
pub record IsUnbound (s : Script) (at : ℕ) : Type 0 where
  pub scope : Scope
  pub path : Path
  pub stage : Stage
  pub steps : Links
  pub name : Named
  pub begins : PathIn s scope path stage steps
  pub is_name : path.root ≡ Some name
  pub not_in_sight : sort_in scope.names name.text ≡ None
  pub no_word : begins_call name.text steps ≡ false
  pub at_is : at ≡ name.at

-- Steps to a part: fields and indexes, and no call.
abbrev pub are_part_steps : Links → Bool
are_part_steps tree.no_links = true
are_part_steps (tree.field n ls) = are_part_steps ls
are_part_steps (tree.index at e ls) = are_part_steps ls
are_part_steps (tree.call at a ls) = false

-- Steps from `this` to a place: a name that is no keyword, and steps to a part.
abbrev pub are_own_steps : Links → Bool
are_own_steps (tree.field n ls) = not (is_keyword n.text) && are_part_steps ls
are_own_steps _ = false

abbrev pub is_place_from : Expr → Links → Bool
is_place_from (tree.variable n) ls = are_part_steps ls
is_place_from (tree.this at) ls = are_own_steps ls
is_place_from _ ls = false

-- A place: a variable, this.Name, or a part of one.
abbrev pub is_place : Expr → Bool
is_place (tree.variable n) = true
is_place (tree.path at e ls) = is_place_from e ls
is_place _ = false

-- The name that a place begins with, if any.
abbrev pub name_of : Expr → Option Named
name_of (tree.path at e ls) = root_of e
name_of e = root_of e

-- A write to a constant or to a part of one, by `push` too.
pub data IsConstAssigned (s : Script) : ℕ → Type 0 where
  assigned : {c : Scope} {e : Expr} {n : Named} → ExprIn s c written e → is_place e ≡ true → name_of e ≡ Some n
      → sort_in c.names n.text ≡ Some form.constant → IsConstAssigned s n.at
  pushed : {c : Scope} {p : Path} {n : Named} {w : List ℕ} {at : ℕ} {a : Args} {ls : Links} → LinksIn s c p (form.part true w) (tree.call at a ls)
      → bytes_eq (codes "push") w ≡ true → p.root ≡ Some n → sort_in c.names n.text ≡ Some form.constant → IsConstAssigned s n.at

abbrev pub place_of : Expr → ℕ
place_of (tree.choice at e a b) = at
place_of (tree.lazy at k e es) = at
place_of (tree.strict at e os) = at
place_of (tree.unary at o e) = at
place_of (tree.await at e) = at
place_of (tree.path at e ls) = at
place_of (tree.number at n) = at
place_of (tree.text at t) = at
place_of (tree.boolean at b) = at
place_of (tree.null at) = at
place_of (tree.undefined at) = at
place_of (tree.this at) = at
place_of (tree.variable n) = n.at
place_of (tree.group at e) = at
place_of (tree.list at es) = at
place_of (tree.rec at ps) = at
place_of (tree.new_error at m) = at

-- A write to what is no place.
pub record IsBadTarget (s : Script) (at : ℕ) : Type 0 where
  pub scope : Scope
  pub left : Expr
  pub is_written : ExprIn s scope written left
  pub no_place : is_place left ≡ false
  pub at_is : at ≡ place_of left

abbrev pub has_method : Class → List ℕ → Bool
has_method class name = list_any (is_named name) class.methods

-- A method that a class hasn't.
pub record IsNoMember (s : Script) (at : ℕ) : Type 0 where
  pub scope : Scope
  pub path : Path
  pub name : Named
  pub steps : Links
  pub is : LinksIn s scope path (form.called (form.helps name)) steps
  pub absent : has_method scope.class name.text ≡ false
  pub at_is : at ≡ name.at

-- Where no await may stand: in a method that isn't async, and in a constructor outside its block.
abbrev pub is_sync : MethodKind → Bool → Bool
is_sync method.Sync in_block = true
is_sync method.Async in_block = false
is_sync method.Constructor in_block = not in_block

pub record IsAwaitInSync (s : Script) (at : ℕ) : Type 0 where
  pub scope : Scope
  pub serves : Use
  pub operand : Expr
  pub is : ExprIn s scope serves (tree.await at operand)
  pub sync : is_sync scope.method scope.block ≡ true

-- An exit, and whether it stands at this place.
pub data IsExit : ℕ → Stmt → Type 0 where
  broken : {at : ℕ} → IsExit at (tree.break at)
  continued : {at : ℕ} → IsExit at (tree.continue at)

-- An exit from no loop.
pub record IsLoopExit (s : Script) (at : ℕ) : Type 0 where
  pub scope : Scope
  pub exit : Stmt
  pub is : StmtIn s scope exit
  pub is_exit : IsExit at exit
  pub no_loop : scope.loop ≡ false
