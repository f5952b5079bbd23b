-- What a name is declared as, and sorted maps that tell it of the items of a block.
use Rattle.std.specs.Prelude.{◌≡◌, ℕ, if◌then◌else◌, List, [], ◌∷◌, Option, Some, None, String}
use Rattle.std.specs.BTreeMap.{BTreeMap, get_by_text}
use Rattle.std.specs.Str.{bytes_eq}
use Rattle.do_check.specs.declared.sort.Sort.{Sort}
use Rattle.do_check.specs.declared.sort.Sort.TheVariants as sort
use Rattle.do_tree.specs.Forms as form
use Rattle.do_tree.specs.Seen.{named_of}
use Rattle.do_tree.specs.declared.expr.Arg.TheBlock as node
use Rattle.do_tree.specs.declared.stmt.Binding.{Binding}
use Rattle.do_tree.specs.declared.stmt.Binding.TheVariants as bind
use Rattle.do_tree.specs.declared.stmt.Item.{Item}

abbrev pub sort_of : Sort → form.Sort
sort_of sort.Variable = form.variable
sort_of sort.Constant = form.constant
sort_of sort.Transacting = form.transacting
sort_of sort.GivenCtx = form.given_ctx
sort_of sort.GivenEnv = form.given_env

abbrev pub bound_sort : Binding → Sort
bound_sort bind.Let = sort.Variable
bound_sort bind.Const = sort.Constant

-- What stands first, or else what stands second.
abbrev pub or_else : {A : Type 0} → Option A → Option A → Option A
or_else (Some x) o = Some x
or_else None o = o

-- What an item makes of a name, if it declares it, and the last of some items that does.
abbrev pub declares : Item → List ℕ → Option Sort
declares (node.Declare' at b n v) text = if bytes_eq (named_of n).text text then Some (bound_sort b) else None
declares (node.Stmt' p s) text = None

abbrev pub declared_sort : List Item → List ℕ → Option Sort
declared_sort [] text = None
declared_sort (item ∷ rest) text = or_else (declared_sort rest text) (declares item text)

-- The map has exactly the names that the items declare, each as the last of them declares it.
abbrev pub AreSorts : {Y : Type 0} → BTreeMap (String Y) Sort → List Item → Type 0
AreSorts sorts items = (text : List ℕ) → get_by_text sorts text ≡ declared_sort items text
