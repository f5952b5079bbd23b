-- Queues of one thread.
use Rattle.std.proofs.Common.{◌≡◌, ◌∙◌, ap, sym, refl, List, [], ◌∷◌, ◌++◌, append-nil, append_assoc}
use Rattle.std.proofs.lemmas.List.{append_cancel_left}
use Rattle.lane.specs.Lanes.{Both, sent_on, StartsWith}

-- The first of what waited was taken.
pub record Took {X : Type 0} (queue later : Both X) (item : X) : Type 0 where
  pub first : queue.waiting ≡ item ∷ later.waiting
  pub got : later.got ≡ queue.got ++ item ∷ []

-- What was sent is the same.
pub took_still : {X : Type 0} (queue later : Both X) (item : X) → Took queue later item → sent_on later ≡ sent_on queue
took_still queue later item took =
    ap (λ xs. xs ++ later.waiting) took.got ∙ append_assoc queue.got (item ∷ []) later.waiting ∙ ap (λ xs. queue.got ++ xs) (sym took.first)

-- Where nothing was taken or sent, the same waits.
pub same_waits : {X : Type 0} (old new : Both X) → new.got ≡ old.got → sent_on new ≡ sent_on old → new.waiting ≡ old.waiting
same_waits old new got same = append_cancel_left old.got new.waiting old.waiting (ap (λ xs. xs ++ new.waiting) (sym got) ∙ same)

first_none : {X : Type 0} (first rest : List X) → [] ≡ first ++ rest → first ≡ []
first_none [] rest is = refl
first_none (x ∷ first) rest is = absurd cc

-- Where all that was sent was taken, nothing waits.
pub none_waits : {X : Type 0} (queue : Both X) → StartsWith queue.got (sent_on queue) → queue.waiting ≡ []
none_waits queue starts =
    let both : [] ≡ queue.waiting ++ starts.0 =
    append_cancel_left queue.got [] (queue.waiting ++ starts.0) (append-nil queue.got ∙ starts.1 ∙ append_assoc queue.got queue.waiting starts.0) in
    first_none queue.waiting starts.0 both
