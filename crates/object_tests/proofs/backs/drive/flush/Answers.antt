use Rattle.object_tests.proofs.backs.drive.flush.Goals as goal

pub returns : goal.returns
returns g c = let r = c.requires in (r.0, r.1, c.flush.ensures.back r.0 r.1 r.2)
