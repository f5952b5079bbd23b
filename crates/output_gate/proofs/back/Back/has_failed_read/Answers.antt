use Rattle.std.proofs.Common.{◌∙◌, ap, sym, arith, ◌-◌}
use Rattle.std.proofs.lemmas.Bool.{ltb-true}
use Rattle.std.proofs.lemmas.Option.{slice_get_read}
use Rattle.std.specs.Prelude.{length, slice_get}
use Rattle.output_gate.proofs.Reading.{failed_back, fails_at}
use Rattle.output_gate.proofs.back.Back.has_failed_read.Goals as goal

pub returns-in-Some : goal.returns-in-Some
returns-in-Some g c =
    let held = c.args.self.now.held in
    let some = ltb-true 0 (length held.items) (sym c.in-Some.ensures.item.0) in
    let last = slice_get_read held.items held.len (held.len - 1) c.in-Some.held.now held.ok.0 (omega (arith, some, held.ok.0)) c.in-Some.ensures.lookup in
    c.is_failed_read.ensures
    ∙ sym (failed_back g.D.Disk.moment_of g.D.Disk.left_since g.D.Disk.told g.D.Disk.image g.D.Disk.faults_of c.requires.0 c.requires.1 _ c.args.self.now c.requires.2
    ∙ ap (λ n. fails_at (slice_get held.items (n - 1))) (sym held.ok.0) ∙ ap fails_at last)
