use Rattle.std.proofs.Common.{◌≡◌, ◌∙◌, ◌+◌, ◌++◌, List, [], ◌∷◌, length, ap, arith, subst, sym}
use Rattle.std.proofs.lemmas.List.{length-append}
use Rattle.std.proofs.lemmas.List.Elements.{All-push}
use Rattle.std.specs.List.{All}
use Rattle.std.specs.Prelude.{false, if◌then◌else◌, is_err, is_ok, Result, Ok, Err}
use Rattle.worker_pool.specs.Making.{AreNewEnds}
use Rattle.worker_pool.specs.declared.making.SlotEnds.{SlotEnds}
use Rattle.worker_pool.proofs.making.make_all_ends.Goals as goal

-- what was pushed is there
pushed : {X T E : Type 0} (result : Result T E) (now more old : List X) → is_err result ≡ false → now ≡ (if is_ok result then more else old) → now ≡ more
pushed (Ok value) now more old good is = is
pushed (Err error) now more old good is = absurd cc

pub loop-preserved : goal.loop-preserved
loop-preserved g c =
    let i = c.loop.invariant in
    let items = pushed c.push.result c.push.new.self.items (c.loop.all.items ++ c.in_ok-ends.ends ∷ []) c.loop.all.items (sym c.is_err.ensures.value ∙ c.if-is_err.false) c.push.ensures.items in
    let less = c.loop-test.true in (
      ap (λ (l : List (SlotEnds g.row.T.Denot)). length l) items ∙ length-append c.loop.all.items (c.in_ok-ends.ends ∷ []) ∙ ap (λ n. n + 1) i.0,
      subst (λ (l : List (SlotEnds g.row.T.Denot)). All AreNewEnds l) (sym items) (All-push AreNewEnds c.loop.all.items c.in_ok-ends.ends i.1 c.in_ok-ends.ensures),
      omega (arith, less),
    )
