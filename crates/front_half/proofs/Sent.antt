-- What is sent is logged, one entry after another.
use Rattle.std.proofs.Common.{◌≡◌, ◌∙◌, ap, sym, List, [], ◌∷◌, ◌++◌, append_assoc, append-nil}
use Rattle.front_half.specs.Sending.{AreAlike, AreSentToo}

pub sent_one : {X : Type 0} (old new log logged : List X) (x y : X) → new ≡ old ++ x ∷ [] → logged ≡ log ++ y ∷ [] → y ≡ x → AreSentToo old new log logged
sent_one {X} old new log logged x y sent kept same = λ first base at. record {
  more = at.more ++ x ∷ [];
  is_sent = sent ∙ ap (λ (xs : List X). xs ++ x ∷ []) at.is_sent ∙ append_assoc first at.more (x ∷ []);
  is_logged =
      kept ∙ ap (λ (z : X). log ++ z ∷ []) same ∙ ap (λ (xs : List X). xs ++ x ∷ []) at.is_logged
      ∙ append_assoc base at.more (x ∷ []);
}

pub sent_none : {X : Type 0} (old new log logged : List X) → new ≡ old → logged ≡ log → AreSentToo old new log logged
sent_none {X} old new log logged sent kept = λ first base at. record { more = at.more; is_sent = sent ∙ at.is_sent; is_logged = kept ∙ at.is_logged }

pub sent_behind : {X : Type 0} (old new log mid logged : List X) → mid ≡ log → AreSentToo old new mid logged → AreSentToo old new log logged
sent_behind {X} old new log mid logged same too = λ first base at. too first base (record { more = at.more; is_sent = at.is_sent; is_logged = same ∙ at.is_logged })

-- Both lists are longer by the same.
pub sent_more : {X : Type 0} (old new log logged : List X) → AreSentToo old new log logged → AreAlike old log new logged
sent_more {X} old new log logged too = too old log (record { more = []; is_sent = sym (append-nil old); is_logged = sym (append-nil log) })
