use Rattle.std.proofs.Common.{◌+◌, ◌≤◌, length, map}
use Rattle.do_lex.specs.declared.kind.Kind.TheVariants as kind
use Rattle.do_lex.specs.declared.kind.Mark.TheVariants as mark
use Rattle.do_tree.specs.Grammar.{AreNames, AreClasses, IsClass, IsMember}
use Rattle.do_tree.specs.Seen.{class_of, method_of}
use Rattle.do_parse.specs.Lists.{BeginsWith, Repeat}
use Rattle.do_parse.specs.Pieces.{IsNextName, NothingLeft}
use Rattle.do_parse.specs.Trees.{names_at}
use Rattle.do_parse.proofs.Lists.{Grows}
use Rattle.do_parse.proofs.cursor.Cursor.members.Given as goal

abbrev pub invariant-loop-self : goal.invariant-loop-self
invariant-loop-self l = record { grows : Grows (Repeat IsMember) (Repeat IsMember) (BeginsWith (kind.Mark mark.CloseBrace)) l.fn.self l.self (map method_of l.methods.items); few : length l.methods.items + length l.self ≤ length l.fn.self }

abbrev pub decreases-loop-self : goal.decreases-loop-self
decreases-loop-self l = length l.self
