use Rattle.std.proofs.Common.{◌≡◌, ◌∙◌, List, [], ◌∷◌, ◌++◌, sym, ap, append_assoc, append-nil}
use Rattle.std.proofs.lemmas.List.{nil_from_length}
use Rattle.timeline.specs.declared.caller.Caller.{Caller}
use Rattle.timeline.specs.declared.notice.Waits.{Waits}
use Rattle.host_core.proofs.Remaining.{with_slot_more}
use Rattle.host_core.specs.Closing.{with_slot}
use Rattle.host_core.proofs.closing.add_left.Goals as goal

pub loop-item-init : goal.loop-item-init
loop-item-init c = record { all = sym c.into_iter-item-iterator.ensures.into_iter_gives.0; added = sym (append-nil c.args.left.now.items) }

pub loop-item-preserved : goal.loop-item-preserved
loop-item-preserved c =
    let i = c.loop-item.invariant in
    record {
      all = i.all ∙ ap (λ (xs : List (Caller × Waits)). c.loop-item.yielded ++ xs) c.in-Some.ensures.steps.0
          ∙ sym (append_assoc c.loop-item.yielded (c.in-Some.item ∷ []) c.next.new.self.rest.items);
      added = c.in_ok-push_left.ensures ∙ with_slot_more c.args.slot c.loop-item.left.items c.args.left.now.items c.loop-item.yielded c.in-Some.item i.added;
    }

pub returns : goal.returns
returns c =
    let i = c.loop-item.invariant in
    let rest = c.loop-item.item-iterator.rest in
    let none : rest.items ≡ [] = nil_from_length rest.items (sym rest.ok.0 ∙ c.in-None.ensures.steps.0) in
    let all : c.args.remaining.items ≡ c.loop-item.yielded =
    i.all ∙ ap (λ (xs : List (Caller × Waits)). c.loop-item.yielded ++ xs) none ∙ append-nil c.loop-item.yielded in
    i.added ∙ ap (λ (xs : List (Caller × Waits)). c.args.left.now.items ++ with_slot c.args.slot xs) (sym all)
