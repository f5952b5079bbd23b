-- Which word binds a name, told by a test.
use Rattle.std.proofs.Common.{◌≡◌, Bool, true, false, refl, sym, ap}
use Rattle.std.proofs.lemmas.Bool.{false≢true}
use denote.Enum.Bare.{sameb}
use Rattle.do_tree.specs.contracts.stmt.Binding.{the_type}
use Rattle.do_tree.specs.declared.stmt.Binding.{Binding}
use Rattle.do_tree.specs.declared.stmt.Binding.TheVariants as bind

abbrev is_let_word : Binding → Bool
is_let_word bind.Let = true
is_let_word bind.Const = false

pub is_let : (b : Binding) → true ≡ sameb the_type b bind.Let → b ≡ bind.Let
is_let bind.Let h = refl
is_let bind.Const h = absurd (false≢true (sym h))

pub no_let : (b : Binding) → false ≡ sameb the_type b bind.Let → b ≡ bind.Let → ⊥
no_let bind.Let h e = false≢true h
no_let bind.Const h e = false≢true (ap is_let_word e)
