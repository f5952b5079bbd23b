use Rattle.std.proofs.Common.{Option, None}
use Rattle.storage_map.specs.Span.{text_of}
use Rattle.storage_map.specs.declared.options.Options.{Options}
use Rattle.storage_map.proofs.Ending.{all_to_lend, span_ends}
use Rattle.storage_map.proofs.range.Range.unlimited.Goals as goal

pub invariant_of-result : goal.invariant_of-result
invariant_of-result g c = span_ends c.args.options.now (text_of c.args.behind) c.args.values.now c.span.result c.requires.kept c.span.ensures

pub returns : goal.returns
returns g c =
    let all : Options = record c.args.options.now { limit = None } in
    all_to_lend all (text_of c.args.behind) c.args.values.now c.span.result c.requires.kept c.requires.behind c.span.ensures
