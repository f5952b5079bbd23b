-- How paths begin.
use Rattle.std.proofs.Common.{◌≡◌, ℕ, ◌+◌, ◌*◌, ◌<◌, ◌≤◌, Bool, true, false, List, [], Option, refl, sym, ap, ◌∙◌, codes, if◌then◌else◌, arith}
use Rattle.std.specs.Str.{bytes_eq}
use Rattle.std.specs.declared.sync.Arc.{Arc}
use Rattle.std.specs.declared.alloc.Global.{Global}
use Rattle.std.specs.declared.vec.Vec.{Vec}
use Rattle.do_tree.proofs.Rows.{hidden_links}
use Rattle.do_tree.specs.Nodes.{links_in as list_in}
use Rattle.do_tree.specs.Seen.{expr_of}
use Rattle.do_tree.specs.Tree as tree
use Rattle.do_tree.specs.Tree.{Links}
use Rattle.do_tree.specs.declared.expr.Arg.TheBlock as kept
use Rattle.do_tree.specs.declared.expr.Expr.{Expr}
use Rattle.do_tree.specs.declared.expr.Expr.TheVariants as node
use Rattle.do_tree.specs.declared.expr.Link.{Link}
use Rattle.do_tree.specs.declared.script.Name.{Name}
use Rattle.script_mean.specs.Calls.{Calls}
use Rattle.script_mean.specs.Frames.{to_walk}
use Rattle.script_mean.specs.Meaning.{value, links, to_push}
use Rattle.script_mean.specs.Paths as point
use Rattle.script_mean.specs.Paths.{itself, holds, begun_by, pushes, parts, parts_behind_call, parts_behind_two_calls, parts_from, parts_of_itself, parts_of_own, parts_of_push, parts_of_value}
use Rattle.script_mean.specs.Places.{variable}
use Rattle.script_mean.specs.Turn.{Run, Next, State, bound, either}
use Rattle.script_mean.specs.Task.{Bound, Env}
use Rattle.script_steps.proofs.Begun.{charged_steps}
use Rattle.script_steps.specs.Parts.{IsBare, IsPlain, links_in, links_of}
use Rattle.script_steps.specs.Paths.{point_of}
use Rattle.script_steps.specs.Seen.{charged, framed}
use Rattle.script_steps.specs.Weight.{LeavesLess, frame_weight, path_frame_weight}
use Rattle.script_steps.specs.declared.path.Await.{Await}
use Rattle.script_steps.specs.declared.path.Await.TheVariants as await
use Rattle.script_steps.specs.declared.path.Point.{Point}
use Rattle.script_steps.specs.declared.path.Point.TheVariants as come
use Rattle.script_steps.specs.declared.path.PathFrame.TheVariants as waiting
use Rattle.script_steps.specs.declared.frame.Frame.{Frame}
use Rattle.script_steps.specs.declared.focus.Focus.TheVariants as focus
use Rattle.script_steps.specs.declared.focus.Move.TheVariants as move
use Rattle.script_places.specs.Steps.{steps_in}
use Rattle.script_places.specs.declared.step.Step.{Step}
use Rattle.script_paths.specs.Onward.{is_path, point_path, value_path, push_path, path_value, named_path}

-- A path from a field of the object itself takes one step at least.
some_if : (b : Bool) (x y : ℕ) → 1 ≤ x → 1 ≤ y → 1 ≤ (if b then x else y)
some_if true x y h k = h
some_if false x y h k = k

some_own : (name : List ℕ) (ls : Links) → 1 ≤ parts_of_own name ls
some_own name ls =
    some_if (bytes_eq (codes "ctx") name) _ _ (omega arith) (some_if (bytes_eq (codes "env") name) _ _ (omega arith) (some_if (pushes ls) _ _ (omega arith) (omega arith)))

-- A path takes one step at least.
pub some_from_itself : (ls : Links) → 1 ≤ parts_of_itself ls
some_from_itself tree.no_links = omega arith
some_from_itself (tree.field n tree.no_links) = some_own n.text tree.no_links
some_from_itself (tree.field n (tree.field m ls)) = some_own n.text (tree.field m ls)
some_from_itself (tree.field n (tree.index at e ls)) = some_own n.text (tree.index at e ls)
some_from_itself (tree.field n (tree.call at args ls)) = omega arith
some_from_itself (tree.index at e ls) = omega arith
some_from_itself (tree.call at args ls) = omega arith

-- What has something of its own and is no path.
pub plain_is : (e : tree.Expr) → IsBare e → is_path e ≡ false → IsPlain e
plain_is (tree.choice p x y z) h e = h
plain_is (tree.lazy p k x es) h e = h
plain_is (tree.strict p x os) h e = h
plain_is (tree.unary p o x) h e = h
plain_is (tree.await p x) h e = h
plain_is (tree.path p x ms) h e = absurd cc
plain_is (tree.number p n) h e = h
plain_is (tree.text p t) h e = h
plain_is (tree.boolean p b) h e = h
plain_is (tree.null p) h e = h
plain_is (tree.undefined p) h e = h
plain_is (tree.this p) h e = h
plain_is (tree.variable n) h e = h
plain_is (tree.group p x) h e = h
plain_is (tree.list p es) h e = h
plain_is (tree.rec p ps) h e = h
plain_is (tree.new_error p m) h e = h

-- A push to a place begins.
pub push_begins : (calls : Calls) (name text : List ℕ) (nd : Arc Expr Global) (ls : Links) (n : ℕ) (got : List Step) → text ≡ name → got ≡ [] → links_of (expr_of nd.value) ≡ ls → n ≡ parts_of_push ls
    → push_path calls name ls ≡ charged n (to_push calls (variable text) (steps_in got) (links_in (expr_of nd.value) 0))
push_begins calls name text nd ls n got spelled none same many =
    charged_steps (parts_of_push ls) (to_push calls (variable name) [] ls)
    ∙ ap (λ k. charged k (to_push calls (variable name) [] ls)) (sym many)
    ∙ ap (λ l. charged n (to_push calls (variable name) [] l)) (sym same)
    ∙ ap (λ ss. charged n (to_push calls (variable name) (steps_in ss) (links_in (expr_of nd.value) 0))) (sym none)
    ∙ ap (λ t. charged n (to_push calls (variable t) (steps_in got) (links_in (expr_of nd.value) 0))) (sym spelled)

module _ (awaited : Bool) (calls : Calls) where
  -- A path by what it begins with.
  pub path_is : (at : ℕ) (e : tree.Expr) (ls : Links) → value awaited calls (tree.path at e ls) ≡ path_value awaited calls e ls
  path_is at (tree.choice p x y z) ls = refl
  path_is at (tree.lazy p k x es) ls = refl
  path_is at (tree.strict p x os) ls = refl
  path_is at (tree.unary p o x) ls = refl
  path_is at (tree.await p x) ls = refl
  path_is at (tree.path p x ms) ls = refl
  path_is at (tree.number p n) ls = refl
  path_is at (tree.text p t) ls = refl
  path_is at (tree.boolean p b) ls = refl
  path_is at (tree.null p) ls = refl
  path_is at (tree.undefined p) ls = refl
  path_is at (tree.this p) ls = refl
  path_is at (tree.variable n) ls = refl
  path_is at (tree.group p x) ls = refl
  path_is at (tree.list p es) ls = refl
  path_is at (tree.rec p ps) ls = refl
  path_is at (tree.new_error p m) ls = refl

  -- From a point.
  pub from_point : (p : point.Point) (nd : Arc Expr Global) (ls : Links) (n : ℕ) → links_of (expr_of nd.value) ≡ ls → n ≡ parts_from p ls
      → point_path awaited calls p ls ≡ charged n (links awaited calls p (links_in (expr_of nd.value) 0))
  from_point p nd ls n same many =
      charged_steps (parts_from p ls) (links awaited calls p ls)
      ∙ ap (λ k. charged k (links awaited calls p ls)) (sym many)
      ∙ ap (λ l. charged n (links awaited calls p l)) (sym same)

  -- From another expression.
  pub other_value : (x : Expr) (ls : Links) → ((at : ℕ) → x ≡ node.This at → ⊥) → ((name : Name) → x ≡ node.Variable name → ⊥)
      → path_value awaited calls (expr_of x) ls ≡ value_path awaited calls (expr_of x) ls
  other_value (kept.Choice' at p test q a r b) ls f g = refl
  other_value (kept.Lazy' at k p first q rest) ls f g = refl
  other_value (kept.Strict' at p first q rest) ls f g = refl
  other_value (kept.Unary' at op p x) ls f g = refl
  other_value (kept.Await' at p x) ls f g = refl
  other_value (kept.Path' at p base q ms) ls f g = refl
  other_value (kept.Number at n) ls f g = refl
  other_value (kept.Text at t) ls f g = refl
  other_value (kept.Bool at b) ls f g = refl
  other_value (kept.Null at) ls f g = refl
  other_value (kept.Undefined at) ls f g = refl
  other_value (kept.This at) ls f g = absurd (f at refl)
  other_value (kept.Variable n) ls f g = absurd (g n refl)
  other_value (kept.Group' at p x) ls f g = refl
  other_value (kept.List' at q es) ls f g = refl
  other_value (kept.Record' at q ps) ls f g = refl
  other_value (kept.NewError' at m) ls f g = refl

  pub other_begins : (x : Expr) (nd base : Arc Expr Global) (ls : Links) (n : ℕ) → links_of (expr_of nd.value) ≡ ls → n ≡ parts_of_value ls → base.value ≡ x
      → value_path awaited calls (expr_of x) ls ≡ charged n (framed calls (to_walk awaited (links_in (expr_of nd.value) 0)) (value false calls (expr_of base.value)))
  other_begins x nd base ls n same many e =
      charged_steps (parts_of_value ls) (framed calls (to_walk awaited ls) (value false calls (expr_of x)))
      ∙ ap (λ k. charged k (framed calls (to_walk awaited ls) (value false calls (expr_of x)))) (sym many)
      ∙ ap (λ l. charged n (framed calls (to_walk awaited l) (value false calls (expr_of x)))) (sym same)
      ∙ ap (λ y. charged n (framed calls (to_walk awaited (links_in (expr_of nd.value) 0)) (value false calls (expr_of y)))) (sym e)

  -- A name that begins a push to a place.
  pub name_pushes : (name : List ℕ) (ls : Links) (env : Env) (next : Next) (st : State) → pushes ls ≡ true → named_path awaited calls name ls env next st ≡ push_path calls name ls env next st
  name_pushes name ls env next st pushed =
      ap (λ b. either b (push_path calls name ls) (point_path awaited calls (begun_by name (bound name env)) ls) env next st) pushed

  -- A name that begins with what it stands for.
  pub name_begins : (name : List ℕ) (ls : Links) (o : Option Bound) (env : Env) (next : Next) (st : State) → pushes ls ≡ false → bound name env ≡ o
      → named_path awaited calls name ls env next st ≡ point_path awaited calls (begun_by name o) ls env next st
  name_begins name ls o env next st plain is =
      ap (λ b. either b (push_path calls name ls) (point_path awaited calls (begun_by name (bound name env)) ls) env next st) plain
      ∙ ap (λ b. point_path awaited calls (begun_by name b) ls env next st) is

-- What a path leaves where it begins, but for what its steps pay.
pub point_less : (p : Point) (nd : Arc Expr Global) (ls : Links) (n : ℕ) (awaited : Await)
    → links_of (expr_of nd.value) ≡ ls → n ≡ parts_from (point_of p) ls → LeavesLess 2 (move.Then n (focus.Walk awaited p nd 0))
point_less come.Itself nd ls n awaited same many =
    let a : parts_of_itself (links_in (expr_of nd.value) 0) ≡ parts_of_itself ls = ap parts_of_itself same in
    let b = some_from_itself ls in
    omega arith
point_less come.Context nd ls n awaited same many =
    let a : parts_behind_call (links_in (expr_of nd.value) 0) ≡ parts_behind_call ls = ap parts_behind_call same in
    omega arith
point_less come.Storage nd ls n awaited same many =
    let a : parts_behind_call (links_in (expr_of nd.value) 0) ≡ parts_behind_call ls = ap parts_behind_call same in
    omega arith
point_less come.Environment nd ls n awaited same many =
    let a : parts_behind_two_calls (links_in (expr_of nd.value) 0) ≡ parts_behind_two_calls ls = ap parts_behind_two_calls same in
    omega arith
point_less (come.Class x) nd ls n awaited same many =
    let a : parts_behind_two_calls (links_in (expr_of nd.value) 0) ≡ parts_behind_two_calls ls = ap parts_behind_two_calls same in
    omega arith
point_less come.Handle nd ls n awaited same many =
    let a : parts_behind_call (links_in (expr_of nd.value) 0) ≡ parts_behind_call ls = ap parts_behind_call same in
    omega arith
point_less (come.Word w) nd ls n awaited same many =
    let a : parts_behind_call (links_in (expr_of nd.value) 0) ≡ parts_behind_call ls = ap parts_behind_call same in
    omega arith
point_less (come.Holds v) nd ls n awaited same many =
    let a : parts (links_in (expr_of nd.value) 0) ≡ parts ls = ap parts same in
    omega arith

-- The same where it begins with a push.
pub push_less : (nd : Arc Expr Global) (ls : Links) (n : ℕ) → links_of (expr_of nd.value) ≡ ls → n ≡ parts_of_push ls
    → 20 + 10 * parts_behind_call (links_in (expr_of nd.value) 0) < 2 + 40 * n
push_less nd ls n same many =
    let a : parts_behind_call (links_in (expr_of nd.value) 0) ≡ parts_behind_call ls = ap parts_behind_call same in
    omega arith

-- The same where it begins with another expression.
parts_are : (ls : Links) → parts ls + 1 ≤ 2 * parts_of_value ls
parts_are tree.no_links = omega arith
parts_are (tree.field n ls) = omega arith
parts_are (tree.index at e ls) = omega arith
parts_are (tree.call at args ls) = omega arith

pub other_less : (awaited : Await) (nd base : Arc Expr Global) (ls : Links) (n : ℕ)
    → links_of (expr_of nd.value) ≡ ls → n ≡ parts_of_value ls → (w : Frame) → frame_weight w ≡ path_frame_weight (waiting.Walk awaited nd 0)
    → LeavesLess 2 (move.Inside n w (focus.Value await.Absent base))
other_less awaited nd base ls n same many w weighs =
    let a : parts (links_in (expr_of nd.value) 0) ≡ parts ls = ap parts same in
    let b = parts_are ls in
    omega arith

module _ (awaited : Bool) (calls : Calls) where
  -- A path begins with its base.
  pub path_begins : (at : ℕ) (base : Arc Expr Global) (ls : Vec Link Global) (x : Expr) (env : Env) (next : Next) (st : State) → x ≡ node.Path at base ls
      → value awaited calls (expr_of x) env next st ≡ path_value awaited calls (expr_of base.value) (list_in ls.items) env next st
  path_begins at base ls x env next st e =
      ap (λ (r : Run). r env next st)
      (ap (λ y. value awaited calls (expr_of y)) e
      ∙ path_is awaited calls at (expr_of base.value) (links_of (expr_of (node.Path at base ls)))
      ∙ ap (path_value awaited calls (expr_of base.value)) (hidden_links ls))
