use Rattle.std.proofs.Common.{◌≡◌, ◌-◌, ◌≤◌, ◌++◌, List, Option, length, map}
use Rattle.do_lex.specs.Cursor.{span_of}
use Rattle.do_lex.specs.Cut.{IsCut}
use Rattle.do_lex.specs.declared.fault.LexFault.{LexFault}
use Rattle.do_lex.specs.declared.pieces.Span.{Span}
use Rattle.do_parse.specs.Cuts.{AreSlices}
use Rattle.do_parse.proofs.cut.cut.Given as goal

abbrev pub invariant-reading : goal.invariant-reading
invariant-reading l = record {
  text_is : l.reader.text ≡ l.text;
  within : l.reader.at ≤ length l.text;
  cut : (spans : List Span) (last : Option LexFault) → IsCut l.text l.reader.at spans last → IsCut l.text 0 (map span_of l.tokens.items ++ spans) last;
  slices : AreSlices l.text l.tokens.items;
}

abbrev pub decreases-reading : goal.decreases-reading
decreases-reading l = length l.text - l.reader.at
