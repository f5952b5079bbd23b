use Rattle.std.proofs.Common.{ap, ◌∙◌}
use Rattle.std.specs.Prelude.{codes}
use Rattle.do_lex.specs.declared.kind.Mark.TheVariants as mark
use Rattle.do_tree.specs.Print.{a_mark, imported_tokens, quoted, word}
use Rattle.do_tree.specs.Written.{write, write_all, written_of}
use Rattle.do_tree.proofs.Writing.{one_more}
use Rattle.do_tree.proofs.print.print_import_line.Goals as goal

pub returns : goal.returns
returns c =
    let imported = write_all (written_of c.args.out.now) imported_tokens in
    let from = word (codes "from") in
    let base = quoted (codes "cloudflare:workers") in
    one_more c.put_mark.result (written_of c.put_mark.new.out) (written_of c.put_quoted.new.out) (write (write imported from) base) (a_mark mark.Semicolon)
    c.put_mark.ensures
    (c.in_ok-put_quoted.ensures ∙ ap (λ w. write w base) (c.in_ok-put_word.ensures ∙ ap (λ w. write w from) c.in_ok-print_imported.ensures))
