-- The name that an item of a block declares.
use Rattle.std.proofs.Common.{◌≡◌, ℕ, ◌<◌, ◌≤◌, suc, List, [], length, get_or, Option, Result, Ok, Err, OnOk, ap, ◌∙◌}
use Rattle.std.specs.declared.sync.Arc.{Arc}
use Rattle.std.specs.declared.alloc.Global.{Global}
use Rattle.do_tree.specs.Seen.{items_in, with_item}
use Rattle.do_tree.specs.declared.expr.Expr.{Expr}
use Rattle.do_tree.specs.declared.script.Name.{Name}
use Rattle.do_tree.specs.declared.stmt.Binding.{Binding}
use Rattle.do_tree.specs.declared.stmt.Item.{Item}
use Rattle.do_tree.specs.declared.stmt.Item.TheVariants as item
use Rattle.do_tree.specs.declared.stmt.Stmt.{Stmt}
use Rattle.do_value.specs.Tree.{Tree}
use Rattle.script_mean.specs.Task.{Env}
use Rattle.script_mean.specs.Turn.{with_name}
use Rattle.script_steps.proofs.Parts.{items_at, items_past}
use Rattle.script_steps.specs.Parts.{declared_in, items_from}

-- Behind the last item nothing is declared.
pub declares_past : (xs : List Item) (n : ℕ) → length xs ≤ n → declared_in (items_from n (items_in xs)) ≡ []
declares_past xs n past = ap declared_in (items_past xs n past)

-- A declaration declares its name.
pub declares_name : (xs : List Item) (n : ℕ) (x : Item) (at : ℕ) (b : Binding) (name : Name) (o : Option (Arc Expr Global))
    → n < length xs → x ≡ get_or xs n x → x ≡ item.Declare at b name o → declared_in (items_from n (items_in xs)) ≡ name.text
declares_name xs n x at b name o inside stands is =
    ap declared_in (items_at xs n x inside stands) ∙ ap (λ z. declared_in (with_item z (items_from (suc n) (items_in xs)))) is

-- A statement declares nothing.
pub declares_none : (xs : List Item) (n : ℕ) (x : Item) (s : Arc Stmt Global)
    → n < length xs → x ≡ get_or xs n x → x ≡ item.Stmt s → declared_in (items_from n (items_in xs)) ≡ []
declares_none xs n x s inside stands is =
    ap declared_in (items_at xs n x inside stands) ∙ ap (λ z. declared_in (with_item z (items_from (suc n) (items_in xs)))) is

-- A name is bound as one that is spelled like it.
pub bound_as : {A E : Type 0} (r : Result A E) (name wanted : List ℕ) (v : Tree) (old new : Env) → name ≡ wanted
    → OnOk r (new ≡ with_name name v old) → OnOk r (new ≡ with_name wanted v old)
bound_as (Ok a) name wanted v old new same is = is ∙ ap (λ n. with_name n v old) same
bound_as (Err e) name wanted v old new same is = is
