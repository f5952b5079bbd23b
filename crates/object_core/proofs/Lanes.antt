-- Queues of one thread: what is taken stood first, and what is sent stands behind.
use Rattle.std.proofs.Common.{◌≡◌, ◌∙◌, ap, sym, List, [], ◌∷◌, ◌++◌, append_assoc}
use Rattle.std.proofs.lemmas.List.{append_cancel_left}
use Rattle.lane.specs.Lanes.{Both, sent_on}

-- of the same history an item more was taken
pub took_first : {X : Type 0} (old new : Both X) (x : X) → new.got ≡ old.got ++ x ∷ [] → sent_on new ≡ sent_on old → old.waiting ≡ x ∷ new.waiting
took_first old new x got same =
    append_cancel_left old.got old.waiting (x ∷ new.waiting)
    (sym same ∙ ap (λ xs. xs ++ new.waiting) got ∙ append_assoc old.got (x ∷ []) new.waiting)

-- of the same history nothing more was taken
pub took_none : {X : Type 0} (old new : Both X) → new.got ≡ old.got → sent_on new ≡ sent_on old → old.waiting ≡ new.waiting
took_none old new got same = append_cancel_left old.got old.waiting new.waiting (sym same ∙ ap (λ xs. xs ++ new.waiting) got)

-- what was sent waits
pub sent_last : {X : Type 0} (old new : Both X) (more : List X) → new.got ≡ old.got → sent_on new ≡ sent_on old ++ more → new.waiting ≡ old.waiting ++ more
sent_last old new more got sent =
    append_cancel_left old.got new.waiting (old.waiting ++ more)
    (ap (λ xs. xs ++ new.waiting) (sym got) ∙ sent ∙ append_assoc old.got old.waiting more)
