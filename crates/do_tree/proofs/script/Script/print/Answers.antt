use Rattle.std.proofs.Common.{◌≡◌, ℕ, List, [], ◌++◌, map, sym, ap, ◌∙◌}
use Rattle.do_tree.specs.Print.{Piece, tokens_of_classes, tokens_of_import, tokens_of_script}
use Rattle.do_tree.specs.Seen.{class_of, script_of}
use Rattle.do_tree.specs.Written.{Written, write_all, written_of}
use Rattle.do_tree.specs.declared.print_word.Edge.TheVariants as edge
use Rattle.do_tree.proofs.Writing.{write_all_append, written_text}
use Rattle.do_tree.proofs.script.Script.print.Goals as goal

pub returns : goal.returns
returns c =
    let written : List ℕ → Written = λ text. record { edge = edge.Other; text = text } in
    let import = tokens_of_import c.args.self.now.import in
    let classes : List Piece = tokens_of_classes (map class_of c.deref.result.now) in
    let begun : written c.new.result.items ≡ written [] = ap written c.new.ensures.items in
    let whole : written_of c.print_classes.new.out ≡ write_all (written []) (import ++ classes) =
    c.in_ok-print_classes.ensures ∙ ap (λ w. write_all w classes) (c.in_ok-print_import.ensures ∙ ap (λ w. write_all w import) begun) ∙ sym (write_all_append (written []) import classes) in
    let tokens : import ++ classes ≡ tokens_of_script (script_of c.args.self.now) = ap (λ z. import ++ tokens_of_classes (map class_of z)) c.deref.ensures.value in
    ap (λ (w : Written). w.text) (whole ∙ ap (write_all (written [])) tokens) ∙ written_text (written []) (tokens_of_script (script_of c.args.self.now))
