use Rattle.std.proofs.Common.{ap, ◌∙◌}
use Rattle.std.specs.Prelude.{codes}
use Rattle.do_lex.specs.declared.kind.Keyword.TheVariants as key
use Rattle.do_lex.specs.declared.kind.Mark.TheVariants as mark
use Rattle.do_tree.specs.Print.{a_mark, keyword, word}
use Rattle.do_tree.specs.Written.{write, written_of}
use Rattle.do_tree.proofs.Writing.{one_more}
use Rattle.do_tree.proofs.print.print_imported.Goals as goal

pub returns : goal.returns
returns c =
    let old = written_of c.args.out.now in
    let name = word (codes "DurableObject") in
    let brace = a_mark mark.OpenBrace in
    one_more c.put_mark-2.result (written_of c.put_mark-2.new.out) (written_of c.put_word.new.out) (write (write (write old (keyword key.Import)) brace) name) (a_mark mark.CloseBrace)
    c.put_mark-2.ensures
    (c.in_ok-put_word.ensures ∙ ap (λ w. write w name) (c.in_ok-put_mark.ensures ∙ ap (λ w. write w brace) c.in_ok-put_key.ensures))
