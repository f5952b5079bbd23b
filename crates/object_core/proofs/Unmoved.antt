-- A front that got no event was delivered none, and so has sent no message.
use Rattle.std.proofs.Common.{◌≡◌, ◌∙◌, sym, refl, ap, true≢false, ℕ, List, [], ◌∷◌, ◌++◌, Option}
use Rattle.std.proofs.lemmas.List.Sorted.{list_any-IsPermutation}
use Rattle.std.specs.Prelude.{Bool, true, false}
use Rattle.std.specs.List.{list_any}
use Rattle.do_tree.specs.Tree.{Script}
use Rattle.timeline.specs.Intake.{Front, Kind, opened, sent_by}
use Rattle.timeline.specs.Logs.{Fronted, fronted}
use Rattle.timeline.specs.declared.entry.Entry.{Entry}
use Rattle.timeline.specs.declared.event.Event.{Event}
use Rattle.object_front.specs.Came.{events, kept}
use Rattle.front_half.specs.Standing.{kind_in}
use Rattle.output_gate.specs.Telling.{opened_map}
use Rattle.object_messages.specs.Naming.{messages_of}
use Rattle.object_messages.specs.Unmoved.{UnmovedSaysNothing}
use Rattle.object_core.proofs.Alike.{class_for}
use Rattle.object_core.proofs.Owing.{messages_begin}
use Rattle.object_core.specs.One.{IsOne, Origin, TellsNow}
use Rattle.object_core.specs.declared.object.Core.{Core}

-- Some item is there.
abbrev any : {X : Type 0} → List X → Bool
any {X} xs = list_any (λ (x : X). true) xs

none_first : {X : Type 0} (xs ys : List X) → any (xs ++ ys) ≡ false → xs ≡ []
none_first [] ys is = refl
none_first (x ∷ xs) ys is = absurd (true≢false is)

none_later : {X : Type 0} (xs ys : List X) → any (xs ++ ys) ≡ false → any ys ≡ false
none_later [] ys is = is
none_later (x ∷ xs) ys is = absurd (true≢false is)

pub no_events : (items : List (ℕ × Event)) → events items ≡ [] → items ≡ []
no_events [] is = refl
no_events (item ∷ items) is = let no : ⊥ = cc in absurd no

pub first_of_none : {X : Type 0} (xs ys : List X) → xs ++ ys ≡ [] → xs ≡ []
first_of_none [] ys is = refl
first_of_none (x ∷ xs) ys is = let no : ⊥ = cc in absurd no

module _ {D : Type 0} (moment_of : D → ℕ) (left_since : D → ℕ → List ℕ → Type 0) (told : D → Option (List ℕ)) (image : D → List ℕ → Type 0) (faults_of : D → ℕ)
    (core : Core D) (script : Script) (origin : Origin) (one : IsOne moment_of left_since told image faults_of script origin core) where
  abbrev log : Fronted
  log = fronted core.front.half.log

  pub says_nothing : (law : UnmovedSaysNothing) → TellsNow told core.back → core.inbox.got ≡ [] → messages_of log.sent ≡ []
  says_nothing law tells none =
      let k = class_for one.st.class in
      let pair = one.pair tells k.0 k.1 in
      let kind : Kind = kind_in script k.0 in
      let start : Front = opened (opened_map origin.start).alarm in
      let said_so : List Entry = sent_by kind start pair.taken in
      let rest : List Event = log.dropped ++ (kept one.st ++ one.has_got.lost) in
      let all : any (events log.delivered ++ (events log.downed ++ rest)) ≡ false =
      sym (list_any-IsPermutation (λ (e : Event). true) core.inbox.got (events log.delivered ++ (events log.downed ++ rest)) one.has_got.come.each)
      ∙ ap (λ (es : List Event). any es) none in
      let delivered : log.delivered ≡ [] = no_events log.delivered (none_first (events log.delivered) (events log.downed ++ rest) all) in
      let downed : log.downed ≡ [] =
      no_events log.downed (none_first (events log.downed) rest (none_later (events log.delivered) (events log.downed ++ rest) all)) in
      let nothing : messages_of said_so ≡ [] =
      law kind (opened_map origin.start).alarm pair.taken pair.by.gate (sym pair.by.delivered ∙ delivered) (sym pair.by.downed ∙ downed) in
      let begun = messages_begin log.sent said_so (pair.unsent, pair.by.sent) in
      first_of_none (messages_of log.sent) begun.0 (begun.1 ∙ nothing)
