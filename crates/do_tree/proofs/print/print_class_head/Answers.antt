use Rattle.std.proofs.Common.{ap, ◌∙◌}
use Rattle.std.specs.Prelude.{codes}
use Rattle.do_lex.specs.declared.kind.Keyword.TheVariants as key
use Rattle.do_lex.specs.declared.kind.Mark.TheVariants as mark
use Rattle.do_tree.specs.Print.{a_mark, keyword, tokens_of_exported, word}
use Rattle.do_tree.specs.Seen.{named_of}
use Rattle.do_tree.specs.Written.{write, write_all, written_of}
use Rattle.do_tree.proofs.Writing.{one_more}
use Rattle.do_tree.proofs.print.print_class_head.Goals as goal

pub returns : goal.returns
returns c =
    let named = write_all (written_of c.args.out.now) (tokens_of_exported (named_of c.args.name.now)) in
    let extends = keyword key.Extends in
    let base = word (codes "DurableObject") in
    one_more c.put_mark.result (written_of c.put_mark.new.out) (written_of c.put_word.new.out) (write (write named extends) base) (a_mark mark.OpenBrace)
    c.put_mark.ensures
    (c.in_ok-put_word.ensures ∙ ap (λ w. write w base) (c.in_ok-put_key.ensures ∙ ap (λ w. write w extends) c.in_ok-print_exported.ensures))
