use Rattle.std.proofs.Common.{◌<◌, ◌≤◌, List, ap, ◌∙◌, arith}
use Rattle.std.specs.List.{find}
use Rattle.do_tree.specs.Lookup.{is_named}
use Rattle.do_tree.specs.Seen.{class_of, method_of}
use Rattle.do_tree.specs.declared.script.Method.{Method}
use Rattle.script_steps.proofs.Begun.{if_ok}
use Rattle.script_eval.proofs.Helped.{none_named, one_named}
use Rattle.script_eval.proofs.Led.{call_leads, deep_leads, missing_leads}
use Rattle.script_eval.proofs.Stepped.{put_at}
use Rattle.script_eval.specs.Machines.{leads_of}
use Rattle.script_eval.specs.declared.act.Act.TheVariants as act
use Rattle.script_eval.proofs.machine.Machine.call_helper.Goals as goal

pub returns-then-self : goal.returns-then-self
returns-then-self c =
    let limit : 64 ≤ c.args.self.now.depth = omega arith in
    put_at (class_of c.args.class.now) (act.Helps c.args.awaited c.args.name c.args.args) c.args.self.now c.args.self.now _ c.put_next.new.focus c.put_next.ensures
    (deep_leads (class_of c.args.class.now) c.args.self.now c.args.awaited c.args.name c.args.args c.in_ok-error.error c.requires limit c.in_ok-error.ensures)

pub returns-in-None : goal.returns-in-None
returns-in-None c =
    let limit : c.args.self.now.depth < 64 = omega arith in
    let found = c.method_named.ensures ∙ ap (λ (ms : List Method). find (λ m. is_named c.as_str.result.now (method_of m)) ms) c.deref.ensures.value in
    put_at (class_of c.args.class.now) (act.Helps c.args.awaited c.args.name c.args.args) c.args.self.now c.args.self.now _ c.put_next-in-None.new.focus c.put_next-in-None.ensures
    (missing_leads (class_of c.args.class.now) c.args.self.now c.args.awaited c.args.name c.args.args c.requires limit
    (none_named _ c.method_named.result c.args.class.now c.args.name c.as_str.result.now c.as_str.ensures found c.in-None.is))

pub returns : goal.returns
returns c =
    let limit : c.args.self.now.depth < 64 = omega arith in
    let found = c.method_named.ensures ∙ ap (λ (ms : List Method). find (λ m. is_named c.as_str.result.now (method_of m)) ms) c.deref.ensures.value in
    let named = one_named _ c.method_named.result c.in-Some.method c.args.class.now c.args.name c.as_str.result.now c.as_str.ensures found c.in-Some.is in
    if_ok c.enter_method.result
    (λ p calls. call_leads (class_of c.args.class.now) c.args.self.now c.enter_method.new.self c.args.awaited c.args.name c.args.args c.in-Some.method.now
    (leads_of p c.enter_method.new.focus) c.requires limit named calls) c.enter_method.ensures
