-- How paths go on, by what is next in them.
use Rattle.std.proofs.Common.{◌≡◌, ℕ, zero, suc, ◌+◌, ◌*◌, ◌<◌, ◌≤◌, Bool, true, false, codes, if◌then◌else◌, List, [], Option, Some, None, option_map, Result, IfOk, subst, refl, sym, ap, ◌∙◌, arith}
use Rattle.std.specs.Str.{bytes_eq}
use Rattle.do_value.specs.Seen.{trees_in}
use Rattle.do_value.specs.Tree.{Tree}
use Rattle.do_value.specs.declared.value.Value.{Value}
use Rattle.do_tree.specs.Tree as tree
use Rattle.do_tree.specs.Tree.{Named, Expr, Links, Args, Items}
use Rattle.do_tree.specs.Nodes.{with_link}
use Rattle.do_tree.specs.declared.expr.Arg.{Arg}
use Rattle.do_tree.specs.declared.expr.Expr.{Expr as Kept}
use Rattle.do_tree.specs.declared.expr.Link.{Link}
use Rattle.do_tree.specs.declared.expr.Link.TheVariants as a_link
use Rattle.do_tree.specs.declared.script.Name.{Name}
use Rattle.std.specs.declared.sync.Arc.{Arc}
use Rattle.std.specs.declared.vec.Vec.{Vec}
use Rattle.std.specs.declared.alloc.Global.{Global}
use Rattle.script_mean.specs.Calls.{Calls}
use Rattle.script_mean.specs.Meaning.{links, arguments, blocked, stored, identified, identifier_links, object_links, to_push}
use Rattle.script_mean.specs.Paths.{itself, context, storage, environment, of_class, handle, word, holds, parts, parts_behind_call, parts_behind_two_calls, parts_of_itself, parts_of_own, pushes}
use Rattle.script_steps.specs.Parts.{args_from, args_of, links_from, links_in, links_of}
use Rattle.script_mean.specs.Turn.{Run, nowhere, either, ◌>>=◌}
use Rattle.script_mean.specs.Places.{own, own_value}
use Rattle.script_steps.proofs.Begun.{if_ok}
use Rattle.script_steps.specs.Seen.{move_run}
use Rattle.script_steps.specs.Weight.{LeavesLess, move_cost, move_weight}
use Rattle.script_steps.specs.declared.focus.Move.{Move}
use Rattle.script_paths.specs.Ahead.{Front, front, first_callback, first_value}
use Rattle.script_paths.specs.Onward.{field_on, value_on, itself_on, context_on, storage_on, environment_on, class_on, handle_on, word_from, blocked_by, stored_by, object_on, opened_by, calling, first_call, named_by, parts_on, called_parts_on, opened_parts_on, itself_parts_on, class_parts_on}

suc_is : (n : ℕ) → suc n ≡ n + 1
suc_is n = omega arith

-- The links behind the next one.
next_from : (n : ℕ) (ls : Links) → links_from (suc n) ls ≡ links_from 1 (links_from n ls)
next_from zero ls = refl
next_from (suc n) tree.no_links = next_none n
  where
    next_none : (n : ℕ) → tree.no_links ≡ links_from 1 (links_from (suc n) tree.no_links)
    next_none n = refl
next_from (suc n) (tree.field name ls) = next_from n ls
next_from (suc n) (tree.index at e ls) = next_from n ls
next_from (suc n) (tree.call at args ls) = next_from n ls

-- The links from the next place on.
pub next_in : (e : Expr) (n : ℕ) → links_in e (n + 1) ≡ links_from 1 (links_in e n)
next_in e n = ap (links_in e) (sym (suc_is n)) ∙ next_from n (links_of e)

-- The links from the place behind that on.
behind_from : (ls : Links) → links_from 1 (links_from 1 ls) ≡ links_from 2 ls
behind_from ls = sym (next_from 1 ls)

pub behind_in : (e : Expr) (n : ℕ) → links_in e (n + 1 + 1) ≡ links_from 2 (links_in e n)
behind_in e n = next_in e (n + 1) ∙ ap (links_from 1) (next_in e n) ∙ behind_from (links_in e n)

-- What is so by what the links begin with is so at a place of a path.
pub at_place : {A : Type 0} (f : Links → A) (g : Front → Links → Links → A) → ((ls : Links) → f ls ≡ g (front ls) (links_from 1 ls) (links_from 2 ls))
    → (e : Expr) (n : ℕ) (w : Front) → front (links_in e n) ≡ w → f (links_in e n) ≡ g w (links_in e (n + 1)) (links_in e (n + 1 + 1))
at_place f g same e n w h =
    same (links_in e n)
    ∙ ap (λ x. g x (links_from 1 (links_in e n)) (links_from 2 (links_in e n))) h
    ∙ ap (λ l. g w l (links_from 2 (links_in e n))) (sym (next_in e n))
    ∙ ap (λ l. g w (links_in e (n + 1)) l) (sym (behind_in e n))

-- The same of what is left.
pub less_at : (f : Links → ℕ) (g : Front → Links → Links → ℕ) → ((ls : Links) → f ls ≡ g (front ls) (links_from 1 ls) (links_from 2 ls))
    → (e : Expr) (n : ℕ) (w : Front) → front (links_in e n) ≡ w → (k : ℕ) (m : Move)
    → LeavesLess (k + 10 * g w (links_in e (n + 1)) (links_in e (n + 1 + 1))) m → LeavesLess (k + 10 * f (links_in e n)) m
less_at f g same e n w h k m p = subst (λ x. LeavesLess (k + 10 * x) m) (sym (at_place f g same e n w h)) p

module _ (awaited : Bool) (calls : Calls) where
  -- From a value.
  pub value_fronts : (v : Tree) (ls : Links) → links awaited calls (holds v) ls ≡ value_on awaited calls v (front ls) (links_from 1 ls) (links_from 2 ls)
  value_fronts v tree.no_links = refl
  value_fronts v (tree.field n tree.no_links) = refl
  value_fronts v (tree.field n (tree.field m ls)) = refl
  value_fronts v (tree.field n (tree.index at e ls)) = refl
  value_fronts v (tree.field n (tree.call at args ls)) = refl
  value_fronts v (tree.index at e ls) = refl
  value_fronts v (tree.call at args ls) = refl

  -- From the object itself.
  pub itself_fronts : (ls : Links) → links awaited calls itself ls ≡ itself_on awaited calls (front ls) (links_from 1 ls) (links_from 2 ls)
  itself_fronts tree.no_links = refl
  itself_fronts (tree.field n tree.no_links) = refl
  itself_fronts (tree.field n (tree.field m ls)) = refl
  itself_fronts (tree.field n (tree.index at e ls)) = refl
  itself_fronts (tree.field n (tree.call at args ls)) = refl
  itself_fronts (tree.index at e ls) = refl
  itself_fronts (tree.call at args ls) = refl

  -- From the context.
  pub context_fronts : (ls : Links) → links awaited calls context ls ≡ context_on awaited calls (front ls) (links_from 1 ls) (links_from 2 ls)
  context_fronts tree.no_links = refl
  context_fronts (tree.field n tree.no_links) = refl
  context_fronts (tree.field n (tree.field m ls)) = refl
  context_fronts (tree.field n (tree.index at e ls)) = refl
  context_fronts (tree.field n (tree.call at args ls)) = refl
  context_fronts (tree.index at e ls) = refl
  context_fronts (tree.call at args ls) = refl

  -- From the storage.
  pub storage_fronts : (ls : Links) → links awaited calls storage ls ≡ storage_on awaited calls (front ls) (links_from 1 ls) (links_from 2 ls)
  storage_fronts tree.no_links = refl
  storage_fronts (tree.field n tree.no_links) = refl
  storage_fronts (tree.field n (tree.field m ls)) = refl
  storage_fronts (tree.field n (tree.index at e ls)) = refl
  storage_fronts (tree.field n (tree.call at args ls)) = refl
  storage_fronts (tree.index at e ls) = refl
  storage_fronts (tree.call at args ls) = refl

  -- From the environment.
  pub environment_fronts : (ls : Links) → links awaited calls environment ls ≡ environment_on awaited calls (front ls) (links_from 1 ls) (links_from 2 ls)
  environment_fronts tree.no_links = refl
  environment_fronts (tree.field n tree.no_links) = refl
  environment_fronts (tree.field n (tree.field m ls)) = refl
  environment_fronts (tree.field n (tree.index at e ls)) = refl
  environment_fronts (tree.field n (tree.call at args ls)) = refl
  environment_fronts (tree.index at e ls) = refl
  environment_fronts (tree.call at args ls) = refl

  -- From a class.
  pub class_fronts : (x : List ℕ) (ls : Links) → links awaited calls (of_class x) ls ≡ class_on awaited calls x (front ls) (links_from 1 ls) (links_from 2 ls)
  class_fronts x tree.no_links = refl
  class_fronts x (tree.field n tree.no_links) = refl
  class_fronts x (tree.field n (tree.field m ls)) = refl
  class_fronts x (tree.field n (tree.index at e ls)) = refl
  class_fronts x (tree.field n (tree.call at tree.no_args ls)) = refl
  class_fronts x (tree.field n (tree.call at (tree.value_arg e rest) ls)) = refl
  class_fronts x (tree.field n (tree.call at (tree.callback p m is rest) ls)) = refl
  class_fronts x (tree.index at e ls) = refl
  class_fronts x (tree.call at args ls) = refl

  -- From a transaction's handle.
  pub handle_fronts : (ls : Links) → links awaited calls handle ls ≡ handle_on awaited calls (front ls) (links_from 1 ls) (links_from 2 ls)
  handle_fronts tree.no_links = refl
  handle_fronts (tree.field n tree.no_links) = refl
  handle_fronts (tree.field n (tree.field m ls)) = refl
  handle_fronts (tree.field n (tree.index at e ls)) = refl
  handle_fronts (tree.field n (tree.call at args ls)) = refl
  handle_fronts (tree.index at e ls) = refl
  handle_fronts (tree.call at args ls) = refl

  -- From a word of the language.
  pub word_fronts : (w : List ℕ) (ls : Links) → links awaited calls (word w) ls ≡ word_from awaited calls w (front ls) ls (links_from 1 ls) (links_from 2 ls)
  word_fronts w tree.no_links = refl
  word_fronts w (tree.field n tree.no_links) = refl
  word_fronts w (tree.field n (tree.field m ls)) = refl
  word_fronts w (tree.field n (tree.index at e ls)) = refl
  word_fronts w (tree.field n (tree.call at args ls)) = refl
  word_fronts w (tree.index at e ls) = refl
  word_fronts w (tree.call at args ls) = refl

  -- From an object that is got.
  pub object_fronts : (x : List ℕ) (name : Tree) (ls : Links) → object_links awaited calls x name ls ≡ object_on awaited calls x name (front ls) (links_from 1 ls) (links_from 2 ls)
  object_fronts x name tree.no_links = refl
  object_fronts x name (tree.field n tree.no_links) = refl
  object_fronts x name (tree.field n (tree.field m ls)) = refl
  object_fronts x name (tree.field n (tree.index at e ls)) = refl
  object_fronts x name (tree.field n (tree.call at args ls)) = refl
  object_fronts x name (tree.index at e ls) = refl
  object_fronts x name (tree.call at args ls) = refl

  -- A block, by its callback.
  pub block_by : (args : Args) → blocked awaited calls args ≡ blocked_by awaited calls (first_callback args) args
  block_by tree.no_args = refl
  block_by (tree.value_arg e rest) = refl
  block_by (tree.callback at n is rest) = refl

  -- A call of the storage, by the callback that is its first argument.
  pub store_by : (name : List ℕ) (args : Args) → stored awaited calls name args ≡ stored_by awaited calls name (first_callback args) args
  store_by name tree.no_args = refl
  store_by name (tree.value_arg e rest) = refl
  store_by name (tree.callback at n is rest) = refl

-- How many expressions the links are.
pub parts_fronts : (ls : Links) → parts ls ≡ parts_on (front ls) (links_from 1 ls) (links_from 2 ls)
parts_fronts tree.no_links = refl
parts_fronts (tree.field n tree.no_links) = refl
parts_fronts (tree.field n (tree.field m ls)) = refl
parts_fronts (tree.field n (tree.index at e ls)) = refl
parts_fronts (tree.field n (tree.call at args ls)) = refl
parts_fronts (tree.index at e ls) = refl
parts_fronts (tree.call at args ls) = refl

-- How many there are behind a call.
pub called_fronts : (ls : Links) → parts_behind_call ls ≡ called_parts_on (front ls) (links_from 1 ls) (links_from 2 ls)
called_fronts tree.no_links = refl
called_fronts (tree.field n tree.no_links) = refl
called_fronts (tree.field n (tree.field m ls)) = refl
called_fronts (tree.field n (tree.index at e ls)) = refl
called_fronts (tree.field n (tree.call at args ls)) = refl
called_fronts (tree.index at e ls) = refl
called_fronts (tree.call at args ls) = refl

-- How many there are behind two calls.
pub opened_fronts : (ls : Links) → parts_behind_two_calls ls ≡ opened_parts_on (front ls) (links_from 1 ls) (links_from 2 ls)
opened_fronts tree.no_links = refl
opened_fronts (tree.field n tree.no_links) = refl
opened_fronts (tree.field n (tree.field m ls)) = refl
opened_fronts (tree.field n (tree.index at e ls)) = refl
opened_fronts (tree.field n (tree.call at args ls)) = refl
opened_fronts (tree.index at e ls) = refl
opened_fronts (tree.call at args ls) = refl

-- How many there are from the object itself on.
pub own_fronts : (ls : Links) → parts_of_itself ls ≡ itself_parts_on (front ls) (links_from 1 ls) (links_from 2 ls)
own_fronts tree.no_links = refl
own_fronts (tree.field n tree.no_links) = refl
own_fronts (tree.field n (tree.field m ls)) = refl
own_fronts (tree.field n (tree.index at e ls)) = refl
own_fronts (tree.field n (tree.call at args ls)) = refl
own_fronts (tree.index at e ls) = refl
own_fronts (tree.call at args ls) = refl

-- How many there are behind two calls and the field that names a class.
pub env_fronts : (ls : Links) → parts_behind_two_calls ls ≡ class_parts_on (front ls) (links_from 1 ls) (links_from 2 ls)
env_fronts tree.no_links = refl
env_fronts (tree.field n tree.no_links) = refl
env_fronts (tree.field n (tree.field m ls)) = refl
env_fronts (tree.field n (tree.index at e ls)) = refl
env_fronts (tree.field n (tree.call at args ls)) = refl
env_fronts (tree.index at e ls) = refl
env_fronts (tree.call at args ls) = refl

-- The call by which an identifier is made, by its place among the links.
abbrev made_by : Calls → Links → Option ℕ → (List Tree → Run) → Run
made_by calls ls None call = nowhere
made_by calls ls (Some n) call = arguments calls (args_from 0 (args_of (links_from n ls))) [] call

made_behind : (calls : Calls) (n : Named) (ls : Links) (call : List Tree → Run) (o : Option ℕ)
    → made_by calls ls o call ≡ made_by calls (tree.field n ls) (option_map (λ k. k + 1) o) call
made_behind calls n ls call None = refl
made_behind calls n ls call (Some k) = ap (λ j. arguments calls (args_from 0 (args_of (links_from j (tree.field n ls)))) [] call) (suc_is k)

made_at : (calls : Calls) (call : List Tree → Run) (ls : Links) → identifier_links calls ls call ≡ made_by calls ls (first_call ls) call
made_at calls call tree.no_links = refl
made_at calls call (tree.field n ls) = made_at calls call ls ∙ made_behind calls n ls call (first_call ls)
made_at calls call (tree.index at e ls) = refl
made_at calls call (tree.call at args ls) = refl

made_in : (calls : Calls) (call : List Tree → Run) (e : Expr) (o : Option ℕ) → made_by calls (links_of e) o call ≡ named_by calls e o call
made_in calls call e None = refl
made_in calls call e (Some n) = refl

identified_by : (calls : Calls) (call : List Tree → Run) (e : Expr) → identified calls e call ≡ identifier_links calls (links_of e) call
identified_by calls call (tree.choice p x y z) = refl
identified_by calls call (tree.lazy p k x es) = refl
identified_by calls call (tree.strict p x os) = refl
identified_by calls call (tree.unary p o x) = refl
identified_by calls call (tree.await p x) = refl
identified_by calls call (tree.path p x ms) = refl
identified_by calls call (tree.number p n) = refl
identified_by calls call (tree.text p t) = refl
identified_by calls call (tree.boolean p b) = refl
identified_by calls call (tree.null p) = refl
identified_by calls call (tree.undefined p) = refl
identified_by calls call (tree.this p) = refl
identified_by calls call (tree.variable n) = refl
identified_by calls call (tree.group p x) = refl
identified_by calls call (tree.list p es) = refl
identified_by calls call (tree.rec p ps) = refl
identified_by calls call (tree.new_error p m) = refl

-- The arguments by which an identifier is made, by the place of their call.
pub identifies : (calls : Calls) (call : List Tree → Run) (e : Expr) (o : Option ℕ) → first_call (links_in e 0) ≡ o → identified calls e call ≡ named_by calls e o call
identifies calls call e o h =
    identified_by calls call e ∙ made_at calls call (links_of e) ∙ ap (λ q. made_by calls (links_of e) q call) h ∙ made_in calls call e o

-- The first call, one link after another.
pub first_here : (l : Link) (ls : Links) (at : ℕ) (args : Vec Arg Global) → l ≡ a_link.Call at args → first_call (with_link l ls) ≡ Some 0
first_here l ls at args e = ap (λ x. first_call (with_link x ls)) e

pub first_never : (l : Link) (ls : Links) (at : ℕ) (x : Arc Kept Global) → l ≡ a_link.Index at x → first_call (with_link l ls) ≡ None
first_never l ls at x e = ap (λ y. first_call (with_link y ls)) e

pub first_later : (l : Link) (ls : Links) (n : Name) → l ≡ a_link.Field n → first_call (with_link l ls) ≡ option_map (λ k. k + 1) (first_call ls)
first_later l ls n e = ap (λ y. first_call (with_link y ls)) e

-- A place behind a link.
pub later_place : (p : ℕ) (o : Option ℕ) → option_map (λ k. p + k) (option_map (λ k. k + 1) o) ≡ option_map (λ k. p + 1 + k) o
later_place p None = refl
later_place p (Some k) = ap Some (omega arith)

-- The object that an identifier names.
pub instance_goes : (calls : Calls) (awaited : Bool) (x : List ℕ) (args : Args) (name made : Tree) (ls rest : Links) (got : List Value) → name ≡ made → ls ≡ rest → got ≡ []
    → arguments calls args [] (λ dropped. object_links awaited calls x made rest) ≡ arguments calls args (trees_in got) (λ dropped. object_links awaited calls x name ls)
instance_goes calls awaited x args name made ls rest got e f g =
    ap (λ t. arguments calls args [] (λ dropped. object_links awaited calls x t rest)) (sym e)
    ∙ ap (λ l. arguments calls args [] (λ dropped. object_links awaited calls x name l)) (sym f)
    ∙ ap (λ vs. arguments calls args (trees_in vs) (λ dropped. object_links awaited calls x name ls)) (sym g)

-- A call, by the arguments that are there.
pub arguments_are : (calls : Calls) (awaited : Bool) (behind : Links) (args : Args) (call : List Tree → Run) (ts us : List Tree) → us ≡ ts
    → calling awaited calls behind (arguments calls args ts call) ≡ calling awaited calls behind (arguments calls args us call)
arguments_are calls awaited behind args call ts us e = ap (λ vs. calling awaited calls behind (arguments calls args vs call)) (sym e)

-- The same of a move that is found.
pub unfolds_at : {E : Type 0} (f : Calls → Links → Run) (g : Calls → Front → Links → Links → Run) → ((calls : Calls) (ls : Links) → f calls ls ≡ g calls (front ls) (links_from 1 ls) (links_from 2 ls))
    → (e : Expr) (n : ℕ) (w : Front) → front (links_in e n) ≡ w → (r : Result Move E)
    → IfOk r (λ m. (calls : Calls) → g calls w (links_in e (n + 1)) (links_in e (n + 1 + 1)) ≡ move_run calls m)
    → IfOk r (λ m. (calls : Calls) → f calls (links_in e n) ≡ move_run calls m)
unfolds_at f g same e n w h r p = if_ok r (λ m q calls. at_place (f calls) (g calls) (same calls) e n w h ∙ q calls) p

pub leaves_at : {E : Type 0} (f : Links → ℕ) (g : Front → Links → Links → ℕ) → ((ls : Links) → f ls ≡ g (front ls) (links_from 1 ls) (links_from 2 ls))
    → (e : Expr) (n : ℕ) (w : Front) → front (links_in e n) ≡ w → (k : ℕ) (r : Result Move E)
    → IfOk r (LeavesLess (k + 10 * g w (links_in e (n + 1)) (links_in e (n + 1 + 1)))) → IfOk r (LeavesLess (k + 10 * f (links_in e n)))
leaves_at f g same e n w h k r p = if_ok r (λ m q. less_at f g same e n w h k m q) p

-- A move that leaves less than less.
pub less_more : {E : Type 0} (a b : ℕ) → a ≤ b → (r : Result Move E) → IfOk r (LeavesLess a) → IfOk r (LeavesLess b)
less_more a b h r p = if_ok r (λ m q. le_less (move_weight m) (40 * move_cost m) a b h q) p
  where
    le_less : (w c a b : ℕ) → a ≤ b → w < a + c → w < b + c
    le_less w c a b h q = omega arith

module _ (awaited : Bool) (calls : Calls) where
  -- From a word, at a place.
  pub word_at : (x : List ℕ) (e : Expr) (n : ℕ) (w : Front) → front (links_in e n) ≡ w
      → links awaited calls (word x) (links_in e n) ≡ word_from awaited calls x w (links_in e n) (links_in e (n + 1)) (links_in e (n + 1 + 1))
  word_at x e n w h =
      word_fronts awaited calls x (links_in e n)
      ∙ ap (λ y. word_from awaited calls x y (links_in e n) (links_from 1 (links_in e n)) (links_from 2 (links_in e n))) h
      ∙ ap (λ l. word_from awaited calls x w (links_in e n) l (links_from 2 (links_in e n))) (sym (next_in e n))
      ∙ ap (λ l. word_from awaited calls x w (links_in e n) (links_in e (n + 1)) l) (sym (behind_in e n))

  -- A block, with its callback and without.
  pub block_begins : (args : Args) (behind : Links) (o : Option (Option Named × Items)) → first_callback args ≡ o
      → calling awaited calls behind (blocked awaited calls args) ≡ calling awaited calls behind (blocked_by awaited calls o args)
  block_begins args behind o h = ap (calling awaited calls behind) (block_by awaited calls args ∙ ap (λ p. blocked_by awaited calls p args) h)

  -- A call of the storage, with a callback and without.
  pub store_begins : (name : List ℕ) (args : Args) (behind : Links) (o : Option (Option Named × Items)) → first_callback args ≡ o
      → calling awaited calls behind (stored awaited calls name args) ≡ calling awaited calls behind (stored_by awaited calls name o args)
  store_begins name args behind o h = ap (calling awaited calls behind) (store_by awaited calls name args ∙ ap (λ p. stored_by awaited calls name p args) h)

  -- An object of a class, by the expression that identifies it and without.
  pub object_begins : (x : List ℕ) (args : Args) (behind : Links) (o : Option Expr) → first_value args ≡ o
      → opened_by awaited calls x (first_value args) args behind ≡ opened_by awaited calls x o args behind
  object_begins x args behind o h = ap (λ p. opened_by awaited calls x p args behind) h

-- A field of the object itself that isn't called, where it is pushed to and where it is read.
module _ (awaited : Bool) (calls : Calls) (name : List ℕ) (ls : Links) (a : bytes_eq (codes "ctx") name ≡ false) (b : bytes_eq (codes "env") name ≡ false) where
  pub plain_field : field_on awaited calls name ls ≡ either (pushes ls) (to_push calls (own name) [] ls) (own_value name >>= (λ v. links awaited calls (holds v) ls))
  plain_field =
      let part : Run = either (pushes ls) (to_push calls (own name) [] ls) (own_value name >>= (λ v. links awaited calls (holds v) ls)) in
      ap (λ x. if x then links awaited calls context ls else (if bytes_eq (codes "env") name then links awaited calls environment ls else part)) a
      ∙ ap (λ x. if x then links awaited calls environment ls else part) b

  pub pushed_field : pushes ls ≡ true → field_on awaited calls name ls ≡ to_push calls (own name) [] ls
  pushed_field h = plain_field ∙ ap (λ x. either x (to_push calls (own name) [] ls) (own_value name >>= (λ v. links awaited calls (holds v) ls))) h

  pub read_field : pushes ls ≡ false → field_on awaited calls name ls ≡ own_value name >>= (λ v. links awaited calls (holds v) ls)
  read_field h = plain_field ∙ ap (λ x. either x (to_push calls (own name) [] ls) (own_value name >>= (λ v. links awaited calls (holds v) ls))) h

-- What they are, counted.
pub plain_parts : (name : List ℕ) (ls : Links) → bytes_eq (codes "ctx") name ≡ false → bytes_eq (codes "env") name ≡ false → (o : Bool) → pushes ls ≡ o
    → parts_of_own name ls ≡ (if o then 1 + parts_behind_call ls else 1 + parts ls)
plain_parts name ls a b o h =
    ap (λ x. if x then 1 + parts_behind_call ls else (if bytes_eq (codes "env") name then 1 + parts_behind_two_calls ls else (if pushes ls then 1 + parts_behind_call ls else 1 + parts ls))) a
    ∙ ap (λ x. if x then 1 + parts_behind_two_calls ls else (if pushes ls then 1 + parts_behind_call ls else 1 + parts ls)) b
    ∙ ap (λ x. if x then 1 + parts_behind_call ls else 1 + parts ls) h
