use Rattle.std.proofs.Common.{◌+◌, ◌*◌, arith}
use Rattle.do_tree.specs.Seen.{expr_of}
use Rattle.script_mean.specs.Paths.{parts, parts_behind_call, parts_behind_two_calls}
use Rattle.script_steps.specs.Parts.{links_in}
use Rattle.script_paths.proofs.Walks.{walks_by, walks_less}
use Rattle.script_steps.specs.Paths.{is_present}
use Rattle.script_paths.proofs.walked.walk.Goals as goal

pub returns-in-Context-clause-same : goal.returns-in-Context-clause-same
returns-in-Context-clause-same c = walks_by (is_present c.args.awaited) _ _ c.in-Context.is (links_in (expr_of c.args.node.value) c.args.place) c.args.fields.now _ c.from_context.ensures.same

pub returns-in-Context-clause-less : goal.returns-in-Context-clause-less
returns-in-Context-clause-less c =
    let n = parts_behind_call (links_in (expr_of c.args.node.value) c.args.place) in
    walks_less _ _ c.in-Context.is (links_in (expr_of c.args.node.value) c.args.place) (21 + 10 * n) (omega arith) _ c.from_context.ensures.less

pub returns-in-Storage-clause-same : goal.returns-in-Storage-clause-same
returns-in-Storage-clause-same c = walks_by (is_present c.args.awaited) _ _ c.in-Storage.is (links_in (expr_of c.args.node.value) c.args.place) c.args.fields.now _ c.from_storage.ensures.same

pub returns-in-Storage-clause-less : goal.returns-in-Storage-clause-less
returns-in-Storage-clause-less c =
    let n = parts_behind_call (links_in (expr_of c.args.node.value) c.args.place) in
    walks_less _ _ c.in-Storage.is (links_in (expr_of c.args.node.value) c.args.place) (20 + 10 * n) (omega arith) _ c.from_storage.ensures.less

pub returns-in-Environment-clause-same : goal.returns-in-Environment-clause-same
returns-in-Environment-clause-same c = walks_by (is_present c.args.awaited) _ _ c.in-Environment.is (links_in (expr_of c.args.node.value) c.args.place) c.args.fields.now _ c.from_environment.ensures.same

pub returns-in-Environment-clause-less : goal.returns-in-Environment-clause-less
returns-in-Environment-clause-less c =
    let n = parts_behind_two_calls (links_in (expr_of c.args.node.value) c.args.place) in
    walks_less _ _ c.in-Environment.is (links_in (expr_of c.args.node.value) c.args.place) (25 + 10 * n) (omega arith) _ c.from_environment.ensures.less

pub returns-in-Class-clause-same : goal.returns-in-Class-clause-same
returns-in-Class-clause-same c = walks_by (is_present c.args.awaited) _ _ c.in-Class.is (links_in (expr_of c.args.node.value) c.args.place) c.args.fields.now _ c.from_class.ensures.same

pub returns-in-Class-clause-less : goal.returns-in-Class-clause-less
returns-in-Class-clause-less c =
    let n = parts_behind_two_calls (links_in (expr_of c.args.node.value) c.args.place) in
    walks_less _ _ c.in-Class.is (links_in (expr_of c.args.node.value) c.args.place) (24 + 10 * n) (omega arith) _ c.from_class.ensures.less

pub returns-in-Handle-clause-same : goal.returns-in-Handle-clause-same
returns-in-Handle-clause-same c = walks_by (is_present c.args.awaited) _ _ c.in-Handle.is (links_in (expr_of c.args.node.value) c.args.place) c.args.fields.now _ c.from_handle.ensures.same

pub returns-in-Handle-clause-less : goal.returns-in-Handle-clause-less
returns-in-Handle-clause-less c =
    let n = parts_behind_call (links_in (expr_of c.args.node.value) c.args.place) in
    walks_less _ _ c.in-Handle.is (links_in (expr_of c.args.node.value) c.args.place) (20 + 10 * n) (omega arith) _ c.from_handle.ensures.less

pub returns-in-Word-clause-same : goal.returns-in-Word-clause-same
returns-in-Word-clause-same c = walks_by (is_present c.args.awaited) _ _ c.in-Word.is (links_in (expr_of c.args.node.value) c.args.place) c.args.fields.now _ c.from_word.ensures.same

pub returns-in-Word-clause-less : goal.returns-in-Word-clause-less
returns-in-Word-clause-less c =
    let n = parts_behind_call (links_in (expr_of c.args.node.value) c.args.place) in
    walks_less _ _ c.in-Word.is (links_in (expr_of c.args.node.value) c.args.place) (20 + 10 * n) (omega arith) _ c.from_word.ensures.less

pub returns-in-Holds-clause-same : goal.returns-in-Holds-clause-same
returns-in-Holds-clause-same c = walks_by (is_present c.args.awaited) _ _ c.in-Holds.is (links_in (expr_of c.args.node.value) c.args.place) c.args.fields.now _ c.from_value.ensures.same

pub returns-in-Holds-clause-less : goal.returns-in-Holds-clause-less
returns-in-Holds-clause-less c =
    let n = parts (links_in (expr_of c.args.node.value) c.args.place) in
    walks_less _ _ c.in-Holds.is (links_in (expr_of c.args.node.value) c.args.place) (10 + 10 * n) (omega arith) _ c.from_value.ensures.less
