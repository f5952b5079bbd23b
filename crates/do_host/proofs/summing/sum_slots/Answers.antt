use Rattle.std.proofs.Common.{◌≡◌, ◌+◌, ◌∙◌, ◌∷◌, [], ◌++◌, ℕ, pos, List, ◌⊎◌, length, Ok, Err, rules, refl, sym, ap, subst, arith, append_assoc}
use Rattle.std.specs.Prelude.{IfErr, vec_len}
use Rattle.std.proofs.lemmas.Int.{ints}
use Rattle.std.proofs.lemmas.List.{length-append}
use Rattle.host_core.specs.declared.report.SlotReport.{SlotReport}
use Rattle.do_host.specs.Sums.{StopsAt, Sums}
use Rattle.do_host.proofs.Sums.{sums_none, sums_more}
use Rattle.do_host.proofs.summing.sum_slots.Goals as goal

pub loop-row-init : goal.loop-row-init
loop-row-init g c =
    let d = g.D.Disk in
    let none : c.reserve.new.self.items ≡ [] = search rules in
    record {
      all = search rules;
      slot = refl;
      sums = subst (λ (rows : List (SlotReport g.row.D.Denot)). Sums d.told d.image d.moment_of d.left_since d.faults_of [] rows (Ok (pos 0))) (sym none)
          (sums_none d.told d.image d.moment_of d.left_since d.faults_of);
      small = (omega (arith, ints), omega (arith, ints));
      room = search rules;
    }

pub loop-row-preserved : goal.loop-row-preserved
loop-row-preserved g c =
    let d = g.D.Disk in
    let i = c.loop-row.invariant in
    let done = c.loop-row.yielded in
    let row = c.in-Some.row in
    let next = c.sum_slot-row.result.0 in
    let rest = c.next.new.self.rest.items in
    let sums : Sums d.told d.image d.moment_of d.left_since d.faults_of (done ++ row ∷ []) (c.loop-row.again.items ++ next ∷ []) c.sum_slot-row.result.1 =
    sums_more d.told d.image d.moment_of d.left_since d.faults_of done c.loop-row.again.items row next c.loop-row.sum c.sum_slot-row.result.1 i.sums c.sum_slot-row.ensures.again c.sum_slot-row.ensures.sum
    (subst (λ (n : ℕ). IfErr c.sum_slot-row.result.1 (λ end. (c.loop-row.sum ≡ Err end) ⊎ StopsAt d.told d.faults_of n row.store next.store end)) i.slot c.sum_slot-row.ensures.stops) in
    let pushed : c.push.new.self.items ≡ c.loop-row.again.items ++ next ∷ [] = search rules in
    let len : vec_len c.push.new.self ≡ vec_len c.loop-row.again + 1 = search rules in
    record {
      all = i.all ∙ ap (λ (rows : List (SlotReport g.row.D.Denot)). done ++ rows) c.in-Some.ensures.steps.0 ∙ sym (append_assoc done (row ∷ []) rest);
      slot = omega (arith, i.slot, length-append done (row ∷ []));
      sums = subst (λ (rows : List (SlotReport g.row.D.Denot)). Sums d.told d.image d.moment_of d.left_since d.faults_of (done ++ row ∷ []) rows c.sum_slot-row.result.1) (sym pushed) sums;
      small = c.sum_slot-row.ensures.small;
      room = omega (arith, i.room, len, c.push.ensures.capacity, ap length c.in-Some.ensures.steps.0);
    }
