-- What was printed so far, and what it is after further tokens.
use Rattle.std.specs.Prelude.{ℕ, Bool, true, false, List, [], ◌∷◌, ◌++◌}
use Rattle.do_lex.specs.declared.kind.Mark.TheVariants as mark
use Rattle.do_tree.specs.Print.{Piece, a_mark, gap}
use Rattle.do_tree.specs.declared.print_word.Edge.{Edge}
use Rattle.do_tree.specs.declared.print_word.Printed.{Printed}

-- The text, and what its last token ends with.
pub record Written : Type 0 where
  pub edge : Edge
  pub text : List ℕ

abbrev pub written_of : Printed → Written
written_of p = record { edge = p.edge; text = p.text.items }

abbrev pub write_one : Written → Piece → Written
write_one w p = record { edge = p.edge; text = w.text ++ (gap w.edge p.text ++ p.text) }

unfoldable pub write : Written → Piece → Written
write w p = write_one w p

abbrev pub write_all : Written → List Piece → Written
write_all w [] = w
write_all w (p ∷ ps) = write_all (write w p) ps

-- A comma, once something has begun.
abbrev pub comma_if : Bool → List Piece
comma_if true = a_mark mark.Comma ∷ []
comma_if false = []
