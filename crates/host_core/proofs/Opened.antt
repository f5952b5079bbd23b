-- A slot that is mounted behind others, and one at which opening stops.
use Rattle.std.proofs.Common.{◌≡◌, ◌≢◌, ◌+◌, ◌<◌, ⊎_elim, ℕ, List, [], ◌∷◌, ◌++◌, length, take, drop, Option, Some, Result, Ok, Err, refl, sym, ap, subst, ◌∙◌, arith, append_assoc}
use Rattle.std.specs.Prelude.{IfErr, IfOk, IfSome, IsSome, OnErr, OnOk}
use Rattle.std.proofs.lemmas.Bool.{cases_lt}
use Rattle.std.proofs.lemmas.List.{take-append-drop}
use Rattle.std.proofs.lemmas.Option.{slice_get_within}
use Rattle.std.proofs.lemmas.List.FromFn.{map-range_with_len_more, take-map-range_with_len}
use Rattle.batch_journal.specs.Moments.{LeavesOnly, TellsAsBefore}
use Rattle.batch_journal.specs.Mounting.{ImageOrSame, IsMountOf}
use Rattle.batch_journal.specs.Reading.{IsObjectOf}
use Rattle.batch_journal.specs.Rest.{IsStaged, disk_in, limit_of}
use Rattle.batch_journal.specs.declared.mount.Mounted.{Mounted}
use Rattle.do_disk.specs.Asks.{Ask, for_slot}
use Rattle.do_tree.specs.Tree.{Script}
use Rattle.placement.specs.Slots.{Slots, object_at}
use Rattle.storage_map.specs.Limits.{Object}
use Rattle.host_workers.specs.declared.joining.Halves.{Halves}
use Rattle.host_core.proofs.Pushed.{push_before, push_last, push_within}
use Rattle.host_core.specs.Begun.{AreBegun, HasBegun, IsMountedAt, IsNotTaken, OnlyAt}
use Rattle.host_core.specs.Opening.{Asks, IsBad, IsRefused, LeavesHanded, StopsOpening, slot_asks}
use Rattle.host_core.specs.declared.opening.OpenEnd.{OpenEnd}
use Rattle.host_core.specs.declared.opening.OpenEnd.TheVariants.{BadSlot, NoMemory}
use Rattle.host_core.specs.declared.settings.Bad.{Bad}
use Rattle.host_core.specs.declared.settings.Bad.TheVariants.{Twice}

-- the questions with one slot more, and the first of them
pub asks_more : (folder : List ℕ) (slot : ℕ) → slot_asks folder (slot + 1) ≡ slot_asks folder slot ++ for_slot folder slot ∷ []
asks_more folder slot = map-range_with_len_more (for_slot folder) 0 slot slot (omega arith)

asks_first : (folder : List ℕ) (slot slots : ℕ) → slot < slots
    → (slot_asks folder slot ++ for_slot folder slot ∷ []) ++ drop (slot + 1) (slot_asks folder slots) ≡ slot_asks folder slots
asks_first folder slot slots less =
    let front : take (slot + 1) (slot_asks folder slots) ≡ slot_asks folder slot ++ for_slot folder slot ∷ [] =
    take-map-range_with_len (for_slot folder) 0 slots (slot + 1) (omega arith) ∙ asks_more folder slot in
    ap (λ (asks : List Ask). asks ++ drop (slot + 1) (slot_asks folder slots)) (sym front) ∙ take-append-drop (slot + 1) (slot_asks folder slots)

pub asks_on : (folder : List ℕ) (slot slots : ℕ) (before middle after : List Ask) → slot < slots → middle ≡ before ++ slot_asks folder slot
    → Asks middle after (for_slot folder slot ∷ []) → Asks before after (slot_asks folder slots)
asks_on folder slot slots before middle after less so_far asks =
    let rest = drop (slot + 1) (slot_asks folder slots) in
    let first : (slot_asks folder slot ++ asks.asked) ++ (asks.first.0 ++ rest) ≡ slot_asks folder slots =
    append_assoc (slot_asks folder slot) asks.asked (asks.first.0 ++ rest)
    ∙ ap (λ (x : List Ask). slot_asks folder slot ++ x) (sym (append_assoc asks.asked asks.first.0 rest) ∙ ap (λ (x : List Ask). x ++ rest) asks.first.1)
    ∙ sym (append_assoc (slot_asks folder slot) (for_slot folder slot ∷ []) rest)
    ∙ asks_first folder slot slots less in
    record {
      asked = slot_asks folder slot ++ asks.asked;
      added = asks.added ∙ ap (λ (x : List Ask). x ++ asks.asked) so_far ∙ append_assoc before (slot_asks folder slot) asks.asked;
      first = (asks.first.0 ++ rest, first);
    }

module _ {D : Type 0} (moment_of : D → ℕ) (left_since : D → ℕ → List ℕ → Type 0) (told : D → Option (List ℕ)) (image : D → List ℕ → Type 0) (faults_of : D → ℕ)
    (limit : ℕ) (script : Script) where
  -- the halves with those of one slot more
  pub begun_more : (contents : ℕ → Option (List ℕ)) (named after : Slots) (old : List (Halves D)) (slot : ℕ) (halves : Halves D) → length old ≡ slot
      → OnlyAt slot named after → HasBegun moment_of left_since told image faults_of limit script (contents slot) (object_at after slot) halves
      → AreBegun moment_of left_since told image faults_of limit script contents named old
      → AreBegun moment_of left_since told image faults_of limit script contents after (old ++ halves ∷ [])
  begun_more contents named after old slot halves many only begun are = λ at that is.
      ⊎_elim
      (λ less.
      let other : at ≢ slot = λ same. omega (arith, same, less, many) in
      subst (λ (object : Option Object). HasBegun moment_of left_since told image faults_of limit script (contents at) object that) (sym (only.others at other))
      (are at that (push_before old halves that at less is)))
      (λ more.
      let last : length old ≡ at = omega (arith, more, push_within old halves that at is) in
      subst (λ (n : ℕ). HasBegun moment_of left_since told image faults_of limit script (contents n) (object_at after n) that) (sym many ∙ last)
      (subst (λ (x : Halves D). HasBegun moment_of left_since told image faults_of limit script (contents slot) (object_at after slot) x)
      (push_last old halves that at last is) begun))
      (cases_lt at (length old))

  -- the halves, where the next slot isn't opened
  pub begun_below : (contents : ℕ → Option (List ℕ)) (named after : Slots) (old : List (Halves D)) (slot : ℕ) → length old ≡ slot → OnlyAt slot named after
      → AreBegun moment_of left_since told image faults_of limit script contents named old → AreBegun moment_of left_since told image faults_of limit script contents after old
  begun_below contents named after old slot many only are = λ at that is.
      let other : at ≢ slot = λ same. omega (arith, same, slice_get_within old at that is, many) in
      subst (λ (object : Option Object). HasBegun moment_of left_since told image faults_of limit script (contents at) object that) (sym (only.others at other)) (are at that is)

-- what was mounted and kept its object
mounted_at : {D : Type 0} (told : D → Option (List ℕ)) (image : D → List ℕ → Type 0) (moment_of : D → ℕ) (left_since : D → ℕ → List ℕ → Type 0)
    (disk : D) (mounted adopted : Mounted D) (limit : ℕ) (content : Option (List ℕ)) (named : Option Object) → moment_of disk ≡ 0 → told disk ≡ content → adopted ≡ mounted
    → named ≡ mounted.identity → IsMountOf told image moment_of left_since disk mounted → ((any : Object) → IsStaged mounted.journal any []) → limit_of mounted.journal ≡ limit
    → IsMountedAt moment_of left_since told image limit content named adopted
mounted_at {D} told image moment_of left_since disk mounted adopted limit content named first content_is same named_is mount staged limited =
    subst (λ (m : Mounted D). IsMountedAt moment_of left_since told image limit content named m) (sym same)
    (record { disk = disk; first = first; content_is = content_is; mount = mount; object = sym named_is; staged = staged; limited = limited })

-- why a slot isn't given its object, as a bad slot
module _ {S : Type 0} (told : S → Option (List ℕ)) (image : S → List ℕ → Type 0) (moment_of : S → ℕ) (left_since : S → ℕ → List ℕ → Type 0)
    (contents : ℕ → Option (List ℕ)) (named : Slots) (slot : ℕ) (disk : S) (mounted : Mounted S) (content_is : told disk ≡ contents slot)
    (mount : IsMountOf told image moment_of left_since disk mounted) where
  twice_bad : (bad : Bad) → IsNotTaken named slot mounted.identity (BadSlot bad) → IsBad contents named slot bad
  twice_bad (Twice a b) why = (
    why.0,
    why.1,
    (
      why.2.0,
      why.2.2,
      λ file is. record {
        frames = mount.frames;
        recovers = mount.recovers file (content_is ∙ is);
        names = subst (λ (o : Option Object). IsObjectOf o mount.frames) why.2.1 mount.object;
      },
    ),
  )
  twice_bad other why = absurd why

  not_refused : (bad : Bad) → IsNotTaken named slot mounted.identity (BadSlot bad) → IsRefused bad → ⊥
  not_refused (Twice a b) why refused = refused
  not_refused other why refused = why

  stops_adopting : (faults_of : S → ℕ) (faults later : ℕ) (unopened : Option S) (end : OpenEnd) → moment_of disk ≡ 0
      → LeavesOnly moment_of left_since disk (disk_in mounted.journal) (ImageOrSame (told disk) (image disk)) → unopened ≡ Some (disk_in mounted.journal)
      → IsNotTaken named slot mounted.identity end
      → StopsOpening told image moment_of left_since faults_of contents named slot faults later unopened end
  stops_adopting faults_of faults later unopened end first leaves kept why =
      let why_as : OpenEnd → Type 0 = IsNotTaken named slot mounted.identity in
      let some : IsSome unopened = subst (λ (o : Option S). IsSome o) (sym kept) refl in
      record {
        failed = λ is. absurd (subst why_as is why);
        bad = λ bad is. (twice_bad bad (subst why_as is why), some);
        handed = subst (λ (o : Option S). IfSome o (LeavesHanded told image moment_of left_since (contents slot))) (sym kept)
            (record { handed = disk; first = first; content_is = content_is; leaves = leaves });
        untouched = λ bad is refused. absurd (not_refused bad (subst why_as is why) refused);
      }

-- the answer is that the slot isn't given its object
pub stopped_adopting : {S T : Type 0} (told : S → Option (List ℕ)) (image : S → List ℕ → Type 0) (moment_of : S → ℕ) (left_since : S → ℕ → List ℕ → Type 0) (faults_of : S → ℕ)
    (disk : S) (mounted : Mounted S) (result : Result T OpenEnd) (content : Option (List ℕ)) (slot : ℕ) (old named : Slots) (unopened : Option S) (faults later : ℕ)
    → moment_of disk ≡ 0 → told disk ≡ content → IsMountOf told image moment_of left_since disk mounted
    → LeavesOnly moment_of left_since disk (disk_in mounted.journal) (ImageOrSame (told disk) (image disk))
    → OnErr result (unopened ≡ Some (disk_in mounted.journal)) → OnErr result (named ≡ old) → IfErr result (IsNotTaken old slot mounted.identity)
    → IfErr result (λ end. (contents : ℕ → Option (List ℕ)) → content ≡ contents slot
    → StopsOpening told image moment_of left_since faults_of contents named slot faults later unopened end)
stopped_adopting told image moment_of left_since faults_of disk mounted (Ok value) content slot old named unopened faults later first content_is mount leaves kept same why = tt
stopped_adopting told image moment_of left_since faults_of disk mounted (Err end) content slot old named unopened faults later first content_is mount leaves kept same why = λ contents is.
    stops_adopting told image moment_of left_since contents named slot disk mounted (content_is ∙ is) mount faults_of faults later unopened end first leaves kept
    (subst (λ (slots : Slots). IsNotTaken slots slot mounted.identity end) (sym same) why)

-- memory was wanting for the halves of what was mounted
pub stopped_beginning : {S : Type 0} (told : S → Option (List ℕ)) (image : S → List ℕ → Type 0) (moment_of : S → ℕ) (left_since : S → ℕ → List ℕ → Type 0) (faults_of : S → ℕ)
    (contents : ℕ → Option (List ℕ)) (named : Slots) (slot faults later : ℕ) (disk left : S) → disk ≡ left → LeavesHanded told image moment_of left_since (contents slot) left
    → StopsOpening told image moment_of left_since faults_of contents named slot faults later (Some disk) NoMemory
stopped_beginning {S} told image moment_of left_since faults_of contents named slot faults later disk left same leaves = record {
  failed = λ is. absurd cc;
  bad = λ bad is. absurd cc;
  handed = subst (λ (d : S). LeavesHanded told image moment_of left_since (contents slot) d) (sym same) leaves;
  untouched = λ bad is refused. absurd cc;
}

-- what was handed out and mounted
pub was_handed : {D : Type 0} (told : D → Option (List ℕ)) (image : D → List ℕ → Type 0) (moment_of : D → ℕ) (left_since : D → ℕ → List ℕ → Type 0)
    (disk : D) (mounted : Mounted D) (result : Result (Mounted D) OpenEnd) (content : Option (List ℕ)) → moment_of disk ≡ 0 → told disk ≡ content
    → IfOk result (λ adopted. adopted ≡ mounted) → LeavesOnly moment_of left_since disk (disk_in mounted.journal) (ImageOrSame (told disk) (image disk))
    → IfOk result (λ adopted. LeavesHanded told image moment_of left_since content (disk_in adopted.journal))
was_handed {D} told image moment_of left_since disk mounted (Ok adopted) content first content_is same leaves =
    subst (λ (m : Mounted D). LeavesHanded told image moment_of left_since content (disk_in m.journal)) (sym same)
    (record { handed = disk; first = first; content_is = content_is; leaves = leaves })
was_handed told image moment_of left_since disk mounted (Err end) content first content_is same leaves = tt

-- a disk that was handed out tells its content still where it did
pub was_telling : {D : Type 0} (told : D → Option (List ℕ)) (disk : D) (mounted : Mounted D) (result : Result (Mounted D) OpenEnd) (content : Option (List ℕ))
    → told disk ≡ content → IfOk result (λ adopted. adopted ≡ mounted) → TellsAsBefore (told disk) (told (disk_in mounted.journal))
    → IfOk result (λ adopted. TellsAsBefore content (told (disk_in adopted.journal)))
was_telling {D} told disk mounted (Ok adopted) content content_is same telling =
    subst (λ (m : Mounted D). TellsAsBefore content (told (disk_in m.journal))) (sym same)
    (subst (λ (c : Option (List ℕ)). TellsAsBefore c (told (disk_in mounted.journal))) content_is telling)
was_telling told disk mounted (Err end) content content_is same telling = tt

-- the answer is what was mounted
pub was_mounted : {D : Type 0} (told : D → Option (List ℕ)) (image : D → List ℕ → Type 0) (moment_of : D → ℕ) (left_since : D → ℕ → List ℕ → Type 0)
    (disk : D) (mounted : Mounted D) (result : Result (Mounted D) OpenEnd) (limit : ℕ) (content : Option (List ℕ)) (named : Option Object) → moment_of disk ≡ 0 → told disk ≡ content
    → IfOk result (λ adopted. adopted ≡ mounted) → OnOk result (named ≡ mounted.identity)
    → IsMountOf told image moment_of left_since disk mounted → ((any : Object) → IsStaged mounted.journal any []) → limit_of mounted.journal ≡ limit
    → IfOk result (IsMountedAt moment_of left_since told image limit content named)
was_mounted told image moment_of left_since disk mounted (Ok adopted) limit content named first content_is same named_is mount staged limited =
    mounted_at told image moment_of left_since disk mounted adopted limit content named first content_is same named_is mount staged limited
was_mounted told image moment_of left_since disk mounted (Err end) limit content named first content_is same named_is mount staged limited = tt
