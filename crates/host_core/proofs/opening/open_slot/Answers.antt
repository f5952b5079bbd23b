use Rattle.std.proofs.Common.{◌∙◌, ℕ, List, Option, ap, subst}
use Rattle.std.proofs.lemmas.Result.{err_from_is_err_and}
use Rattle.do_tree.specs.Checked.{tree_of}
use Rattle.placement.specs.Slots.{object_at}
use Rattle.batch_journal.specs.Rest.{disk_in}
use Rattle.host_core.specs.Begun.{HasBegun}
use Rattle.host_core.specs.Opening.{LeavesHanded}
use Rattle.host_core.proofs.Opened.{stopped_beginning}
use Rattle.host_core.proofs.opening.open_slot.Goals as goal

pub returns-in_err-mounted-clause-stop : goal.returns-in_err-mounted-clause-stop
returns-in_err-mounted-clause-stop g c =
    let p = err_from_is_err_and c.from_residual.result c.from_residual.ensures.1 in
    let folder = ap (λ (text : List ℕ). g.P.Depot.slot_at c.args.depot.now text c.args.slot) c.deref.ensures in
    rw (p.1, p.2) (λ contents is. c.in_err-mounted.ensures.stop contents (folder ∙ is))

pub returns-in-Ok-clause-begun : goal.returns-in-Ok-clause-begun
returns-in-Ok-clause-begun g c =
    subst (λ (text : List ℕ). HasBegun g.P.Store.Disk.moment_of g.P.Store.Disk.left_since g.P.Store.Disk.told g.P.Store.Disk.image g.P.Store.Disk.faults_of c.args.settings.now.journal (tree_of c.args.checked.now)
    (g.P.Depot.slot_at c.args.depot.now text c.args.slot) (object_at c.mount_slot.new.directory c.args.slot) c.in-Ok.halves) c.deref.ensures
    (c.in-Ok.ensures.halves _ _ _ c.in_ok-mounted.ensures.mounted)

pub returns-in-Err-clause-stop : goal.returns-in-Err-clause-stop
returns-in-Err-clause-stop g c contents is =
    let folder = ap (λ (text : List ℕ). g.P.Depot.slot_at c.args.depot.now text c.args.slot) c.deref.ensures in
    stopped_beginning g.P.Store.Disk.told g.P.Store.Disk.image g.P.Store.Disk.moment_of g.P.Store.Disk.left_since g.P.Store.Disk.faults_of contents c.mount_slot.new.directory c.args.slot
    (g.P.Depot.faults_of c.args.depot.now) (g.P.Depot.faults_of c.mount_slot.new.depot) c.in-Err.disk (disk_in c.in_ok-mounted.mounted.journal) c.in-Err.ensures.disk
    (subst (λ (content : Option (List ℕ)). LeavesHanded g.P.Store.Disk.told g.P.Store.Disk.image g.P.Store.Disk.moment_of g.P.Store.Disk.left_since content (disk_in c.in_ok-mounted.mounted.journal))
    (folder ∙ is) c.in_ok-mounted.ensures.handed)
