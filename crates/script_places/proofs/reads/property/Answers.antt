use Rattle.script_places.proofs.reads.property.Goals as goal

pub returns : goal.returns
returns c = c.finish.ensures _ c.named.ensures
