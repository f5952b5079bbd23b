-- What a front takes, and what it has logged of it, keeps it a pair with its back.
use Rattle.std.proofs.Common.{◌≡◌, ◌∙◌, ap, sym, subst, ℕ, suc, List, [], ◌∷◌, ◌++◌, append-nil, length}
use Rattle.storage_map.specs.Contents.{Contents}
use Rattle.timeline.specs.Intake.{Kind, Front, Taken, takes, front_after, numbered, IsIntake, MayTake}
use Rattle.timeline.specs.Logs.{Fronted}
use Rattle.timeline.specs.declared.caller.Cause.{Cause}
use Rattle.timeline.specs.declared.entry.Body.{Body}
use Rattle.timeline.specs.declared.entry.Entry.{Entry}
use Rattle.timeline.specs.declared.event.Event.{Event}
use Rattle.timeline.specs.declared.notice.Notice.{Notice}
use Rattle.front_half.proofs.Intakes.{front_after-snoc}
use Rattle.object_history.specs.Laws.{LogsGrow, FrontKeepsPair}
use Rattle.object_history.specs.Pair.{Rear, IsPair}
use Rattle.object_history.specs.Stepping.{IsLogOf, Grows, IsRear, WantsCall, notices_with, said_before}

-- The last item of an intake was one that may be taken.
pub last_may : (k : Kind) (f : Front) (taken : List Taken) (t : Taken) → IsIntake k f (taken ++ t ∷ []) → MayTake (front_after k f taken) t
last_may k f [] t is = is.0
last_may k f (first ∷ taken) t is = last_may k (takes k f first) taken t is.1

-- What a turn takes of the notices under way: nothing where it takes no item; else what its item is.
pub data TakesOf (notices later : List Notice) : List Taken → Type 0 where
  no_item : notices ≡ later → TakesOf notices later []
  an_item : (t : Taken) → WantsCall t → notices ≡ notices_with t later → TakesOf notices later (t ∷ [])

-- Logs that differ in what was dropped alone.
abbrev log_of : (delivered downed : List (ℕ × Event)) → List Event → List Entry → List Cause → Fronted
log_of delivered downed dropped sent ends = record { delivered = delivered; downed = downed; dropped = dropped; sent = sent; ends = ends }

alike : (a b : Fronted) → b.sent ≡ a.sent → b.delivered ≡ a.delivered → b.downed ≡ a.downed → b.ends ≡ a.ends → record a { dropped = b.dropped } ≡ b
alike a b sent delivered downed ends =
    ap (λ (x : List Entry). log_of a.delivered a.downed b.dropped x a.ends) (sym sent)
    ∙ ap (λ (x : List (ℕ × Event)). log_of x a.downed b.dropped b.sent a.ends) (sym delivered)
    ∙ ap (λ (x : List (ℕ × Event)). log_of b.delivered x b.dropped b.sent a.ends) (sym downed)
    ∙ ap (λ (x : List Cause). log_of b.delivered b.downed b.dropped b.sent x) (sym ends)

-- What the front then is, whose entries it has sent behind the others, is a pair with the back.
pub record Kept (k : Kind) (opened : Contents) (rear : Rear) (old new : Fronted) (line : List Entry) (later : List Notice) (f : Front) : Type 0 where
  pub number : ℕ
  pub more : List Body
  pub sent : new.sent ≡ old.sent ++ numbered f.incarnation number more
  pub pair : IsPair k opened f new rear (line ++ numbered f.incarnation number more) later

module _ (grow : LogsGrow) (keeps : FrontKeepsPair) (k : Kind) (opened : Contents) (rear : Rear) (known : IsRear opened rear) (from : Front) (taken : List Taken)
    (old new : Fronted) (line : List Entry) (notices later : List Notice) (before : IsLogOf k from taken old)
    (pair : IsPair k opened (front_after k from taken) old rear line notices) where
  abbrev Keeps : List Taken → Type 0
  Keeps items = Kept k opened rear old new line later (front_after k from items)

  -- Nothing was taken but what was dropped.
  none_keeps : IsLogOf k from (taken ++ []) new → notices ≡ later → Keeps (taken ++ [])
  none_keeps after same =
      let same_items : taken ++ [] ≡ taken = append-nil taken in
      let f : Front = front_after k from taken in
      let logged : IsLogOf k from taken new = subst (λ (items : List Taken). IsLogOf k from items new) same_items after in
      let is_old : new.sent ≡ old.sent = logged.sent ∙ sym before.sent in
      let is_new : record old { dropped = new.dropped } ≡ new =
      alike old new is_old (logged.delivered ∙ sym before.delivered) (logged.downed ∙ sym before.downed) (logged.ends ∙ sym before.ends) in
      let dropped = keeps.drops k opened f old rear line notices new.dropped pair in
      let kept : Keeps taken = record {
        number = 0;
        more = [];
        sent = is_old ∙ sym (append-nil old.sent);
        pair =
            subst (λ (n : List Notice). IsPair k opened f new rear (line ++ []) n) same
            (subst (λ (l : List Entry). IsPair k opened f new rear l notices) (sym (append-nil line))
            (subst (λ (log : Fronted). IsPair k opened f log rear line notices) is_new dropped));
      } in
      subst Keeps (sym same_items) kept

  -- An item was.
  one_keeps : (t : Taken) → IsLogOf k from (taken ++ t ∷ []) new → IsIntake k from (taken ++ t ∷ []) → WantsCall t → notices ≡ notices_with t later
      → Keeps (taken ++ t ∷ [])
  one_keeps t after may call same =
      let f : Front = front_after k from taken in
      let grows : Grows k f t old new = grow k from taken t old new before after in
      let is_pair : IsPair k opened f old rear line (notices_with t later) = subst (λ (n : List Notice). IsPair k opened f old rear line n) same pair in
      let kept : Kept k opened rear old new line later (takes k f t) = record {
        number = suc (length (said_before f f.mode t));
        more = grows.more;
        sent = grows.sent;
        pair = keeps.takes_one k opened f old new rear line later t known is_pair (last_may k from taken t may) call grows;
      } in
      subst (λ (g : Front). Kept k opened rear old new line later g) (sym (front_after-snoc k from taken t)) kept

  pub items_keep : (item : List Taken) → TakesOf notices later item → IsLogOf k from (taken ++ item) new → IsIntake k from (taken ++ item)
      → Keeps (taken ++ item)
  items_keep item (no_item same) after may = none_keeps after same
  items_keep item (an_item t call same) after may = one_keeps t after may call same
