use Rattle.script_places.proofs.reads.element.Goals as goal

pub returns : goal.returns
returns c = c.finish.ensures _ c.indexed.ensures
