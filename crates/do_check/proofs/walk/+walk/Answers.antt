use Rattle.std.proofs.Common.{arith, Result, Ok, Err, IfOk}
use Rattle.std.proofs.lemmas.Grind.{common_steps}
use Rattle.do_check.proofs.Append.{least_append}
use Rattle.do_check.proofs.Told.{sorts_next}
use Rattle.do_check.proofs.Walked.{arg_faults, behind_at, call_faults, declare_faults, drop_at, for_faults, for_of_faults, last_empty, lazy_faults, list_faults, pair_some, path_faults, record_faults, strict_faults, try_faults}
use Rattle.do_check.specs.Sight.{names_of, role_of, scope_in, stage_of, use_of}
use Rattle.do_check.proofs.walk.+walk.Goals as goal

-- What follows from what an answer holds, for an answer that is handed on.
ok_then : {T E : Type 0} (r : Result T E) (P Q : T → Type 0) → ((x : T) → P x → Q x) → IfOk r P → IfOk r Q
ok_then (Ok x) P Q f h = f x h
ok_then (Err e) P Q f h = tt

pub walk_expr-returns-in_ok-found-in-Lazy : goal.walk_expr-returns-in_ok-found-in-Lazy
walk_expr-returns-in_ok-found-in-Lazy t c =
    let e = lazy_faults (scope_in c.args.scope.now) (use_of c.args.serves) c.in-Lazy.at c.in-Lazy.chain c.in-Lazy.first c.in-Lazy.rest c.args.expr.now c.in-Lazy.is in
    grind (arith, common_steps, least_append)

pub walk_expr-returns-in_ok-found-in-Strict : goal.walk_expr-returns-in_ok-found-in-Strict
walk_expr-returns-in_ok-found-in-Strict t c =
    let e = strict_faults (scope_in c.args.scope.now) (use_of c.args.serves) c.in-Strict.at c.in-Strict.first c.in-Strict.rest c.args.expr.now c.in-Strict.is in
    grind (arith, common_steps, least_append)

pub walk_expr-returns-in_ok-found-in-Path : goal.walk_expr-returns-in_ok-found-in-Path
walk_expr-returns-in_ok-found-in-Path t c =
    let e = path_faults (scope_in c.args.scope.now) (use_of c.args.serves) c.in-Path.at c.in-Path.base c.in-Path.links c.args.expr.now c.in-Path.is in
    grind (arith, common_steps, least_append)

pub walk_expr-returns-in-List : goal.walk_expr-returns-in-List
walk_expr-returns-in-List t c =
    let e = list_faults (scope_in c.args.scope.now) (use_of c.args.serves) c.in-List.at c.in-List.items c.args.expr.now c.in-List.is in
    grind (arith, common_steps, least_append)

pub walk_expr-returns-in-Record : goal.walk_expr-returns-in-Record
walk_expr-returns-in-Record t c =
    let e = record_faults (scope_in c.args.scope.now) (use_of c.args.serves) c.in-Record.at c.in-Record.pairs c.args.expr.now c.in-Record.is in
    grind (arith, common_steps, least_append)

pub walk_stmt-returns-in-Try : goal.walk_stmt-returns-in-Try
walk_stmt-returns-in-Try t c = ok_then c.walk_try.result _ _ (λ now was.
    let e = try_faults (scope_in c.args.scope.now) c.in-Try.at c.in-Try.body c.in-Try.name c.in-Try.handler c.args.stmt.now c.in-Try.is in
    grind (arith, common_steps)) c.walk_try.ensures

pub walk_stmt-returns-in-For : goal.walk_stmt-returns-in-For
walk_stmt-returns-in-For t c = ok_then c.walk_for.result _ _ (λ now was.
    let e = for_faults (scope_in c.args.scope.now) c.in-For.at c.in-For.name c.in-For.first c.in-For.test c.in-For.step c.in-For.body c.args.stmt.now c.in-For.is in
    grind (arith, common_steps)) c.walk_for.ensures

pub walk_stmt-returns-in-ForOf : goal.walk_stmt-returns-in-ForOf
walk_stmt-returns-in-ForOf t c = ok_then c.walk_for_of.result _ _ (λ now was.
    let e = for_of_faults (scope_in c.args.scope.now) c.in-ForOf.at c.in-ForOf.binding c.in-ForOf.name c.in-ForOf.list c.in-ForOf.body c.args.stmt.now c.in-ForOf.is in
    grind (arith, common_steps)) c.walk_for_of.ensures

pub walk_link-returns-in-Call : goal.walk_link-returns-in-Call
walk_link-returns-in-Call t c =
    let e = call_faults (scope_in c.args.scope.now) (stage_of c.args.stage.now) c.in-Call.at c.in-Call.args c.args.link.now c.in-Call.is in
    grind (arith, common_steps, least_append)

pub walk_arg-returns-in-Callback : goal.walk_arg-returns-in-Callback
walk_arg-returns-in-Callback t c =
    let e = arg_faults (scope_in c.args.scope.now) (role_of c.args.role) c.in-Callback.callback c.args.arg.now c.in-Callback.is in
    grind (arith, common_steps, least_append)

pub walk_item-returns-in-Declare : goal.walk_item-returns-in-Declare
walk_item-returns-in-Declare t c = ok_then c.walk_option.result _ _ (λ now was rest h.
    let e = declare_faults (scope_in c.args.scope.now) c.in-Declare.at c.in-Declare.binding c.in-Declare.name c.in-Declare.value c.args.item.now rest c.in-Declare.is in
    grind (arith, common_steps, least_append)) c.walk_option.ensures

pub walk_pair-returns-in-Some : goal.walk_pair-returns-in-Some
walk_pair-returns-in-Some t c = ok_then c.walk_expr.result _ _ (λ now was.
    let e = pair_some (scope_in c.args.scope.now) c.args.pair.now _ c.in-Some.is in
    cc) c.walk_expr.ensures

pub walk_items-loop-i-preserved : goal.walk_items-loop-i-preserved
walk_items-loop-i-preserved t c =
    let items = c.args.items.now in
    let there = c.loop-i-test.true in
    let names = behind_at items c.loop-i.i c.index-items-i.result (names_of c.args.scope.now.names) there c.index-items-i.is in
    let rest = drop_at items c.loop-i.i c.index-items-i.result there c.index-items-i.is in
    let last = last_empty items c.loop-i.i in
    record {
      found = first_of (grind (arith, common_steps, least_append), grind (arith, common_steps, least_append, behind_at, drop_at, last_empty));
      sorts = sorts_next c.args.items.now c.loop-i.i c.index-items-i-in-loop-i.result there c.index-items-i-in-loop-i.is c.loop-i.sorts c.declare.new.sorts c.in_ok-declare.ensures c.loop-i.invariant.sorts;
    }
