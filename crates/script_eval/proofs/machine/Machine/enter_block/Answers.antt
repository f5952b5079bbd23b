use Rattle.script_eval.proofs.Led.{enter_leads}
use Rattle.script_eval.proofs.Stepped.{put_leads}
use Rattle.script_eval.specs.declared.act.Act.TheVariants as act
use Rattle.script_eval.proofs.machine.Machine.enter_block.Goals as goal

pub returns : goal.returns
returns c =
    put_leads (act.Enters c.args.frame c.args.next) c.args.self.now c.push_block.new.self c.args.next c.put_next.new.focus c.put_next.ensures
    (enter_leads c.args.self.now c.push_block.new.self c.args.frame c.args.next c.requires c.in_ok-push_block.ensures)
