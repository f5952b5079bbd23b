use Rattle.std.proofs.Common.{◌≡◌, ℕ, List, codes, unwrap_or, Option, Some, None, Ok, sym, ap, ◌∙◌}
use Rattle.do_value.specs.Keyed.{value_at}
use Rattle.do_value.specs.Tree.{Tree, undefined, pairs_of}
use Rattle.do_value.specs.Seen.{tree_of}
use Rattle.script_ops.specs.Lists.{fields_of}
use Rattle.script_ops.proofs.Parts.{fields_back}
use Rattle.script_ops.proofs.lists.length_field.Goals as goal

-- the field is that of the pairs
field_is : (ps : List (List ℕ × Tree)) (field : Option Tree) → field ≡ value_at (codes "length") ps
    → unwrap_or (value_at (codes "length") (fields_of (pairs_of ps))) undefined ≡ unwrap_or field undefined
field_is ps field e = ap (λ qs. unwrap_or (value_at (codes "length") qs) undefined) (fields_back ps) ∙ ap (λ o. unwrap_or o undefined) (sym e)

pub returns-in_ok-copy-in-Some : goal.returns-in_ok-copy-in-Some
returns-in_ok-copy-in-Some c =
    ap Ok (field_is c.args.of.now (Some (tree_of c.in-Some.value.now)) c.in-Some.ensures) ∙ ap (λ v. Ok (tree_of v)) (sym c.in_ok-copy-in-Some.ensures)

pub returns-in-None : goal.returns-in-None
returns-in-None c = ap Ok (field_is c.args.of.now None c.in-None.ensures)
