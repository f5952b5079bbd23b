use Rattle.std.proofs.Common.{rules, subst, sym}
use Rattle.do_tree.specs.Checked.{tree_of}
use Rattle.object_core.specs.One.{AreFresh}
use Rattle.object_front.specs.declared.front.Front.{Front}
use Rattle.output_gate.specs.Serving.{IsBack}
use Rattle.output_gate.specs.declared.back.Back.{Back}
use Rattle.host_workers.specs.Backs.{IsCellAlone}
use Rattle.object_core.specs.Limited.{extent_of}
use Rattle.output_gate.specs.Serving.{alarm_of}
use Rattle.worker_pool.proofs.making.make_slot.Goals as goal

pub returns : goal.returns
returns g c =
    let parts = c.into_parts-front.ensures in
    let front = subst (λ (f : Front). AreFresh (tree_of c.args.checked.now) f.half c.args.halves.back) (sym parts.0) c.requires.fresh in
    let back = subst (λ (b : Back g.row.D.Denot). AreFresh (tree_of c.args.checked.now) c.args.halves.front.half b) (sym parts.1) c.requires.fresh in
    let new = c.requires.new in
    let events = new.events.0 in
    let entries = new.entries.0 in
    let notices = new.notices.0 in
    let messages = new.messages.0 in
    record {
      script_is = search rules;
      front = c.new.ensures.cell _ _ front.stands;
      back = λ start opening known. c.new-2.ensures.cell start opening
          (subst (λ (b : Back g.row.D.Denot). IsBack g.D.Disk.moment_of g.D.Disk.left_since g.D.Disk.told g.D.Disk.image g.D.Disk.faults_of start opening b) (sym parts.1) known);
      alone = λ start opening known. subst
          (λ (b : Back g.row.D.Denot). IsCellAlone g.D.Disk.moment_of g.D.Disk.left_since g.D.Disk.told g.D.Disk.image g.D.Disk.faults_of start opening b.identity (extent_of b) (alarm_of b) c.new-2.result) parts.1
          (c.new-2.ensures.alone start opening (subst (λ (b : Back g.row.D.Denot). IsBack g.D.Disk.moment_of g.D.Disk.left_since g.D.Disk.told g.D.Disk.image g.D.Disk.faults_of start opening b) (sym parts.1) known) back.limit);
      same = search rules;
      inbox = search rules;
      line = search rules;
      notices = search rules;
      out = search rules;
      no_message = search rules;
      no_event = search rules;
    }
