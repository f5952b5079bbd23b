-- How a path goes on from each point, by what is next in it, the links behind that, and the links behind a call with it.
use Rattle.std.specs.Prelude.{ℕ, ◌+◌, Bool, true, false, List, [], ◌∷◌, codes, Option, Some, None, option_map, Result, if◌then◌else◌}
use Rattle.std.specs.Str.{bytes_eq}
use Rattle.do_value.specs.Tree.{Tree}
use Rattle.do_tree.specs.Tree as tree
use Rattle.do_tree.specs.Tree.{Named, Expr, Links, Args, Items}
use Rattle.script_mean.specs.Calls.{Calls, reach, transaction, block}
use Rattle.script_mean.specs.Frames.{to_index, to_walk}
use Rattle.script_mean.specs.Meaning.{value, with_point, arguments, links, identified, object_links, to_push, body, storage_named}
use Rattle.script_mean.specs.Meaning.{handle_named, value_named, word_named, owner_named, handle_scope, first, blocked, stored}
use Rattle.script_mean.specs.Paths.{Point, itself, holds, parts_from, parts_of_push, parts_of_value, context, storage}
use Rattle.script_mean.specs.Paths.{environment, of_class, parts, parts_behind_call, parts_behind_two_calls, parts_of_own, pushes}
use Rattle.script_mean.specs.Places.{variable, own, own_value, property}
use Rattle.script_mean.specs.Turn.{Run, give, nowhere, of, either, within, steps, ◌>>=◌, ◌>>◌}
use Rattle.script_steps.specs.Parts.{args_of, args_from, args_in, links_in}
use Rattle.script_steps.specs.Seen.{framed}
use Rattle.script_paths.specs.Ahead.{Front, ended, a_field, a_method, an_index, a_call, front_of, first_value}
use Rattle.script_paths.specs.declared.link.Ahead.{Ahead}

-- What is made of what is next at the place of a path, of the links behind it, and of those behind a call with it.
abbrev pub goes_on : {A : Type 0} → (Front → Links → Links → A) → Ahead → Expr → ℕ → A
goes_on make ahead e place = make (front_of ahead) (links_in e (place + 1)) (links_in e (place + 1 + 1))

-- A call, and the path from its value on.
abbrev pub calling : Bool → Calls → Links → Run → Run
calling awaited calls behind part = framed calls (to_walk awaited behind) part

-- From a part of a value.
abbrev pub part_on : Bool → Calls → Result Tree Tree → Links → Run
part_on awaited calls part rest = of part >>= (λ v. links awaited calls (holds v) rest)

-- From a value.
abbrev pub value_on : Bool → Calls → Tree → Front → Links → Links → Run
value_on awaited calls v ended rest behind = give v
value_on awaited calls v (a_field name) rest behind = part_on awaited calls (property v name) rest
value_on awaited calls v (a_method name) rest behind = calling awaited calls behind (arguments calls (args_of rest) (v ∷ []) (value_named name))
value_on awaited calls v (an_index e) rest behind = framed calls (to_index awaited v rest) (value false calls e)
value_on awaited calls v a_call rest behind = nowhere

-- From a field of the object itself that isn't called.
abbrev pub field_on : Bool → Calls → List ℕ → Links → Run
field_on awaited calls name rest =
    if bytes_eq (codes "ctx") name then links awaited calls context rest
    else (if bytes_eq (codes "env") name then links awaited calls environment rest
    else either (pushes rest) (to_push calls (own name) [] rest) (own_value name >>= (λ v. links awaited calls (holds v) rest)))

-- From the object itself.
abbrev pub itself_on : Bool → Calls → Front → Links → Links → Run
itself_on awaited calls (a_field name) rest behind = field_on awaited calls name rest
itself_on awaited calls (a_method name) rest behind = calling awaited calls behind (arguments calls (args_of rest) [] (calls.helper awaited name))
itself_on awaited calls _ rest behind = nowhere

-- From the context.
abbrev pub context_on : Bool → Calls → Front → Links → Links → Run
context_on awaited calls (a_field name) rest behind = links awaited calls storage rest
context_on awaited calls (a_method name) rest behind = calling awaited calls behind (blocked awaited calls (args_of rest))
context_on awaited calls _ rest behind = nowhere

-- From the storage.
abbrev pub storage_on : Bool → Calls → Front → Links → Links → Run
storage_on awaited calls (a_method name) rest behind = calling awaited calls behind (stored awaited calls name (args_of rest))
storage_on awaited calls _ rest behind = nowhere

-- From the environment.
abbrev pub environment_on : Bool → Calls → Front → Links → Links → Run
environment_on awaited calls (a_field name) rest behind = links awaited calls (of_class name) rest
environment_on awaited calls (a_method name) rest behind = links awaited calls (of_class name) rest
environment_on awaited calls _ rest behind = nowhere

-- From a class.
abbrev pub opened_by : Bool → Calls → List ℕ → Option Expr → Args → Links → Run
opened_by awaited calls x None args behind = nowhere
opened_by awaited calls x (Some e) args behind =
    identified calls e (λ names. arguments calls (args_from 1 args) [] (λ dropped. object_links awaited calls x (first names) behind))

abbrev pub class_on : Bool → Calls → List ℕ → Front → Links → Links → Run
class_on awaited calls x (a_method name) rest behind = opened_by awaited calls x (first_value (args_of rest)) (args_of rest) behind
class_on awaited calls x _ rest behind = nowhere

-- From a transaction's handle.
abbrev pub handle_on : Bool → Calls → Front → Links → Links → Run
handle_on awaited calls (a_method name) rest behind = calling awaited calls behind (arguments calls (args_of rest) [] (handle_named awaited name))
handle_on awaited calls _ rest behind = nowhere

-- From a word of the language.
abbrev pub word_on : Bool → Calls → List ℕ → Front → Links → Links → Run
word_on awaited calls w (a_method name) rest behind = calling awaited calls behind (arguments calls (args_of rest) [] (owner_named w name))
word_on awaited calls w _ rest behind = nowhere

-- The same with the links themselves, of which the first is the call of the word.
abbrev pub word_from : Bool → Calls → List ℕ → Front → Links → Links → Links → Run
word_from awaited calls w a_call ls rest behind = calling awaited calls rest (arguments calls (args_of ls) [] (word_named w))
word_from awaited calls w f ls rest behind = word_on awaited calls w f rest behind

-- A block and a call of the storage, by the callback that is the first argument.
abbrev pub blocked_by : Bool → Calls → Option (Option Named × Items) → Args → Run
blocked_by awaited calls None args = nowhere
blocked_by awaited calls (Some c) args = arguments calls (args_from 1 args) [] (λ dropped. block awaited (within [] (body calls c.1)))

abbrev pub stored_by : Bool → Calls → List ℕ → Option (Option Named × Items) → Args → Run
stored_by awaited calls name None args = arguments calls args [] (storage_named calls awaited name)
stored_by awaited calls name (Some c) args = arguments calls (args_from 1 args) [] (λ dropped. transaction (within (handle_scope c.0) (body calls c.1)))

-- The call of a method of an object.
abbrev pub object_on : Bool → Calls → List ℕ → Tree → Front → Links → Links → Run
object_on awaited calls x name (a_method method) rest behind = calling awaited calls behind (arguments calls (args_of rest) [] (reach x method name))
object_on awaited calls x name _ rest behind = nowhere

abbrev pub is_path : Expr → Bool
is_path (tree.path at e ls) = true
is_path _ = false

-- A path from a point on, one that another expression begins, and a push to a place that a name begins.
abbrev pub point_path : Bool → Calls → Point → Links → Run
point_path awaited calls p ls = steps (parts_from p ls) >> links awaited calls p ls

abbrev pub value_path : Bool → Calls → Expr → Links → Run
value_path awaited calls e ls = steps (parts_of_value ls) >> (value false calls e >>= (λ v. links awaited calls (holds v) ls))

abbrev pub push_path : Calls → List ℕ → Links → Run
push_path calls name ls = steps (parts_of_push ls) >> to_push calls (variable name) [] ls

-- A path that a name begins: a push to a place, or what the name stands for and the links.
abbrev pub named_path : Bool → Calls → List ℕ → Links → Run
named_path awaited calls name ls = with_point name (λ p. either (pushes ls) (push_path calls name ls) (point_path awaited calls p ls))

-- A path, by what it begins with.
abbrev pub path_value : Bool → Calls → Expr → Links → Run
path_value awaited calls (tree.this at) ls = point_path awaited calls itself ls
path_value awaited calls (tree.variable n) ls = named_path awaited calls n.text ls
path_value awaited calls e ls = value_path awaited calls e ls

-- The place of the first call, if only fields stand before it.
abbrev pub first_call : Links → Option ℕ
first_call tree.no_links = None
first_call (tree.field n ls) = option_map (λ k. k + 1) (first_call ls)
first_call (tree.index at e ls) = None
first_call (tree.call at args ls) = Some 0

-- The arguments of the call by which an identifier is made, by the place of that call in the path.
abbrev pub named_by : Calls → Expr → Option ℕ → (List Tree → Run) → Run
named_by calls e None call = nowhere
named_by calls e (Some n) call = arguments calls (args_in e n 0) [] call

-- How many expressions the links are, and those behind one call and behind two.
abbrev pub parts_on : Front → Links → Links → ℕ
parts_on ended rest behind = 0
parts_on (a_field name) rest behind = 1 + parts rest
parts_on (a_method name) rest behind = 1 + parts behind
parts_on (an_index e) rest behind = 1 + parts rest
parts_on a_call rest behind = parts rest

abbrev pub called_parts_on : Front → Links → Links → ℕ
called_parts_on ended rest behind = 0
called_parts_on (a_field name) rest behind = parts_behind_call rest
called_parts_on (a_method name) rest behind = parts behind
called_parts_on (an_index e) rest behind = parts_behind_call rest
called_parts_on a_call rest behind = parts rest

abbrev pub opened_parts_on : Front → Links → Links → ℕ
opened_parts_on ended rest behind = 0
opened_parts_on (a_field name) rest behind = parts_behind_two_calls rest
opened_parts_on (a_method name) rest behind = parts_behind_call behind
opened_parts_on (an_index e) rest behind = parts_behind_two_calls rest
opened_parts_on a_call rest behind = parts_behind_call rest

-- The same from the object itself, and from the environment, whose class is no call.
abbrev pub itself_parts_on : Front → Links → Links → ℕ
itself_parts_on (a_field name) rest behind = parts_of_own name rest
itself_parts_on (a_method name) rest behind = 1 + parts behind
itself_parts_on _ rest behind = 1

abbrev pub class_parts_on : Front → Links → Links → ℕ
class_parts_on ended rest behind = 0
class_parts_on (a_field name) rest behind = parts_behind_two_calls rest
class_parts_on (a_method name) rest behind = parts_behind_two_calls rest
class_parts_on (an_index e) rest behind = parts_behind_two_calls rest
class_parts_on a_call rest behind = parts_behind_call rest
