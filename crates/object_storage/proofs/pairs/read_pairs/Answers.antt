use Rattle.std.proofs.Common.{ℕ, List, [], ◌∷◌, ◌++◌, sym, ap, ◌∙◌, subst, append_assoc}
use Rattle.std.proofs.lemmas.Result.{err_from_is_err_and}
use Rattle.batch_journal.specs.declared.read_stored.ReadFault.TheVariants.{DiskFailed}
use Rattle.do_value.specs.declared.value.Value.{Value}
use Rattle.storage_cache.specs.declared.held.Held.{Held}
use Rattle.batch_journal.specs.Frames.{Frame}
use Rattle.object_storage.specs.Reads.{CanBeRead, AllCanBeRead, AreReadOf, keys_of, moment_after}
use Rattle.object_storage.proofs.Counting.{ok_isnt, handed}
use Rattle.object_storage.proofs.Stays.{stays_on}
use Rattle.object_storage.proofs.Answered.{can_behind, read_push, keys_push, moment_push}
use Rattle.object_storage.proofs.pairs.read_pairs.Goals as goal

pub read_held-requires : goal.read_held-requires
read_held-requires g c =
    let i = c.loop-pair.invariant in
    let frames = c.requires.0 in
    let pair = c.in-Some.pair in
    let left = c.next.new.self.rest.items in
    let all = i.all ∙ ap (λ (xs : List (List ℕ × Held)). c.loop-pair.yielded ++ xs) c.in-Some.ensures.steps.0 in
    (frames, i.stays.journal.frames frames c.requires.1, can_behind frames c.args.pairs.items c.loop-pair.yielded pair left all c.requires.2)

pub returns-in_err-value-clause-stays : goal.returns-in_err-value-clause-stays
returns-in_err-value-clause-stays g c =
    let i = c.loop-pair.invariant in
    let pair = c.in-Some.pair in
    let left = c.next.new.self.rest.items in
    let all = i.all ∙ ap (λ (xs : List (List ℕ × Held)). c.loop-pair.yielded ++ xs) c.in-Some.ensures.steps.0 in
    stays_on g.D.Disk.told g.D.Disk.image g.D.Disk.moment_of g.D.Disk.left_since (λ (frames : List Frame). AllCanBeRead frames c.args.pairs.items) (λ (frames : List Frame). CanBeRead frames pair.1)
    c.args.journal.now c.loop-pair.journal c.read_held.new.journal c.args.cache.now c.loop-pair.cache c.read_held.new.cache
    (λ frames can. can_behind frames c.args.pairs.items c.loop-pair.yielded pair left all can) i.stays c.read_held.ensures.stays

pub returns-in_default-clause-stays : goal.returns-in_default-clause-stays
returns-in_default-clause-stays g c =
    let i = c.loop-pair.invariant in
    let pair = c.in-Some.pair in
    let left = c.next.new.self.rest.items in
    let all = i.all ∙ ap (λ (xs : List (List ℕ × Held)). c.loop-pair.yielded ++ xs) c.in-Some.ensures.steps.0 in
    stays_on g.D.Disk.told g.D.Disk.image g.D.Disk.moment_of g.D.Disk.left_since (λ (frames : List Frame). AllCanBeRead frames c.args.pairs.items) (λ (frames : List Frame). CanBeRead frames pair.1)
    c.args.journal.now c.loop-pair.journal c.read_held.new.journal c.args.cache.now c.loop-pair.cache c.read_held.new.cache
    (λ frames can. can_behind frames c.args.pairs.items c.loop-pair.yielded pair left all can) i.stays c.read_held.ensures.stays

pub loop-pair-preserved : goal.loop-pair-preserved
loop-pair-preserved g c =
    let i = c.loop-pair.invariant in
    let done = c.loop-pair.yielded in
    let pair = c.in-Some.pair in
    let left = c.next.new.self.rest.items in
    let value = c.in_ok-value.value in
    let read = c.loop-pair.read.items in
    let all = i.all ∙ ap (λ (xs : List (List ℕ × Held)). done ++ xs) c.in-Some.ensures.steps.0 in
    let stays =
    stays_on g.D.Disk.told g.D.Disk.image g.D.Disk.moment_of g.D.Disk.left_since (λ (frames : List Frame). AllCanBeRead frames c.args.pairs.items) (λ (frames : List Frame). CanBeRead frames pair.1)
    c.args.journal.now c.loop-pair.journal c.read_held.new.journal c.args.cache.now c.loop-pair.cache c.read_held.new.cache
    (λ frames can. can_behind frames c.args.pairs.items done pair left all can) i.stays c.read_held.ensures.stays in
    record {
      all = all ∙ sym (append_assoc done (pair ∷ []) left);
      keys = keys_push done read pair.0 pair.1 value i.keys ∙ ap (λ (rs : List (List ℕ × Value)). keys_of rs) (sym c.in-Ok.ensures);
      value = λ frames rest can some.
          subst (AreReadOf frames (done ++ pair ∷ [])) (sym c.in-Ok.ensures)
          (read_push frames done read pair.0 pair.1 value (i.value frames rest can some)
          (c.in_ok-value.ensures.value frames (i.stays.journal.frames frames rest) (can_behind frames c.args.pairs.items done pair left all can) (some.0, i.stays.journal.reads.same ∙ some.1)));
      calls =
          c.in_ok-value.ensures.calls ∙ ap (λ (n : ℕ). moment_after pair.1 n) i.calls
          ∙ sym (moment_push done pair (g.D.Disk.moment_of c.args.journal.now.disk));
      stays = stays;
      steady = c.in_ok-value.ensures.steady (ok_isnt value DiskFailed) ∙ i.steady;
    }

pub returns-in_err-value-clause-steady : goal.returns-in_err-value-clause-steady
returns-in_err-value-clause-steady g c = λ isnt.
    let p = err_from_is_err_and c.from_residual.result c.from_residual.ensures.1 in
    c.in_err-value.ensures.steady (λ is. isnt (handed c.from_residual.result p.0 _ DiskFailed p.1 p.2 is)) ∙ c.loop-pair.invariant.steady

pub returns-in_default-clause-steady : goal.returns-in_default-clause-steady
returns-in_default-clause-steady g c = λ isnt. c.in_ok-value.ensures.steady (ok_isnt c.in_ok-value.value DiskFailed) ∙ c.loop-pair.invariant.steady
