use Rattle.object_tests.proofs.backs.drive.release.Goals as goal

pub returns : goal.returns
returns g c = let r = c.requires in (r.0, r.1, c.release.ensures.back r.0 r.1 r.2)
