-- The slots of a run's cells, one after the other, and what they are joined to.
use Rattle.std.proofs.Common.{◌≡◌, ◌∙◌, ap, sym, refl, subst, ℕ, zero, suc, ◌+◌, ◌<◌, ◌≤◌, arith, List, [], ◌∷◌, ◌++◌, append_assoc, append-nil, length, map, option_map, slice_get, Option, Some, None, Result, Ok, Err, IfOk, IfErr, Global}
use Rattle.std.proofs.lemmas.List.{length-map, length-append}
use Rattle.std.proofs.lemmas.Option.{slice_get-map}
use Rattle.std.specs.List.{AllByRecursion, AllZip}
use Rattle.std.specs.Vec.{vec_capacity}
use Rattle.std.specs.Vec.Iter.{into_iter_items, into_iter_steps}
use Rattle.std.specs.declared.vec.IntoIter.{IntoIter}
use Rattle.lane.specs.Lanes.{Sending, Taking}
use Rattle.object_core.specs.declared.object.Core.{Core}
use Rattle.timeline.specs.declared.event.Event.{Event}
use Rattle.timeline.specs.declared.message.Message.{Message}
use Rattle.host_workers.specs.declared.back_cell.BackCell.{BackCell}
use Rattle.host_workers.specs.declared.front_cell.FrontCell.{FrontCell}
use Rattle.host_workers.specs.declared.joining.Halves.{Halves}
use Rattle.worker_pool.specs.Joined.{AreHalvesOf, AreJoined, AreOf, HasRoom, IsCoreOf, IsOf, IsPut, Slot, as_core, as_halves, halves_of}
use Rattle.worker_pool.specs.declared.closing.Room.{Room}

-- ---- lists of which the items at each place belong together
-- They are as long.
pub zip_length : {A B : Type 0} (R : A → B → Type 0) (xs : List A) (ys : List B) → AllZip R xs ys → length xs ≡ length ys
zip_length R [] [] h = refl
zip_length R [] (y ∷ ys) h = absurd h
zip_length R (x ∷ xs) [] h = absurd h
zip_length R (x ∷ xs) (y ∷ ys) h = let r = zip_length R xs ys h.1 in omega arith

-- One more of each.
pub zip_push : {A B : Type 0} (R : A → B → Type 0) (xs : List A) (ys : List B) (x : A) (y : B) → AllZip R xs ys → R x y
    → AllZip R (xs ++ x ∷ []) (ys ++ y ∷ [])
zip_push R [] [] a b h r = (r, tt)
zip_push R [] (y ∷ ys) a b h r = absurd h
zip_push R (x ∷ xs) [] a b h r = absurd h
zip_push R (x ∷ xs) (y ∷ ys) a b h r = (h.0, zip_push R xs ys a b h.1 r)

-- Nothing belongs to nothing.
pub zip_none : {A B : Type 0} (R : A → B → Type 0) (xs : List A) → AllZip R xs [] → xs ≡ []
zip_none R [] h = refl
zip_none R (x ∷ xs) h = absurd h

-- What belongs to the item at a place.
pub zip_other : {A B : Type 0} (R : A → B → Type 0) (xs : List A) (ys : List B) (i : ℕ) (y : B) → AllZip R xs ys → slice_get ys i ≡ Some y
    → (x : A) × (slice_get xs i ≡ Some x) × R x y
zip_other R [] [] i a h is = absurd cc
zip_other R [] (y ∷ ys) i a h is = absurd h
zip_other R (x ∷ xs) [] i a h is = absurd h
zip_other R (x ∷ xs) (y ∷ ys) zero a h is = let same : y ≡ a = cc in (x, refl, subst (λ z. R x z) same h.0)
zip_other R (x ∷ xs) (y ∷ ys) (suc i) a h is = zip_other R xs ys i a h.1 is

-- ---- places in two lists, one behind the other
-- A place of the first,
pub get_before : {A : Type 0} (xs ys : List A) (i : ℕ) (x : A) → slice_get xs i ≡ Some x → slice_get (xs ++ ys) i ≡ Some x
get_before [] ys i x is = absurd cc
get_before (y ∷ xs) ys zero x is = is
get_before (y ∷ xs) ys (suc i) x is = get_before xs ys i x is

-- and one of the second, behind all of the first.
pub get_behind : {A : Type 0} (xs ys : List A) (n i k : ℕ) (x : A) → n ≡ length xs → k ≡ n + i → slice_get ys i ≡ Some x → slice_get (xs ++ ys) k ≡ Some x
get_behind [] ys n i k x long at is = let same : k ≡ i = omega arith in subst (λ (j : ℕ). slice_get ys j ≡ Some x) (sym same) is
get_behind (y ∷ xs) ys n i zero x long at is = absurd (omega arith)
get_behind (y ∷ xs) ys n i (suc k) x long at is = get_behind xs ys (length xs) i k x refl (omega arith) is

-- There is an item at each place.
pub some_at : {A : Type 0} (xs : List A) (i : ℕ) → i < length xs → (x : A) × (slice_get xs i ≡ Some x)
some_at [] i less = absurd (omega arith)
some_at (x ∷ xs) zero less = (x, refl)
some_at (x ∷ xs) (suc i) less = some_at xs i (omega arith)

-- What holds at each place holds of each item.
pub each_of : {A : Type 0} (P : A → Type 0) (xs : List A) → ((i : ℕ) (x : A) → slice_get xs i ≡ Some x → P x) → AllByRecursion P xs
each_of P [] h = tt
each_of P (x ∷ xs) h = (h zero x refl, each_of P xs (λ i y is. h (suc i) y is))

-- ---- the slots of cells
module _ {D T : Type 0} where
  -- The slots of these cells, in order, as many as there are of each.
  pub zipped : List (FrontCell T) → List (BackCell D T) → List (Taking Message) → List (Sending Event) → List (Slot D T)
  zipped [] backs outs inboxes = []
  zipped (f ∷ fronts) [] outs inboxes = []
  zipped (f ∷ fronts) (b ∷ backs) [] inboxes = []
  zipped (f ∷ fronts) (b ∷ backs) (o ∷ outs) [] = []
  zipped (f ∷ fronts) (b ∷ backs) (o ∷ outs) (i ∷ inboxes) = record { front = f; back = b; out = o; inbox = i } ∷ zipped fronts backs outs inboxes

  -- The cells at a slot's place.
  pub record AreAt (fronts : List (FrontCell T)) (backs : List (BackCell D T)) (outs : List (Taking Message)) (inboxes : List (Sending Event)) (at : ℕ)
      (slot : Slot D T) : Type 0 where
    pub front_at : slice_get fronts at ≡ Some slot.front
    pub back_at : slice_get backs at ≡ Some slot.back
    pub out_at : slice_get outs at ≡ Some slot.out
    pub inbox_at : slice_get inboxes at ≡ Some slot.inbox

  -- The lists are as long, and they are those of the slots.
  pub record AreAllOf (slots : List (Slot D T)) (fronts : List (FrontCell T)) (backs : List (BackCell D T)) (outs : List (Taking Message))
      (inboxes : List (Sending Event)) : Type 0 where
    pub many : length slots ≡ length fronts
    pub fronts_are : map (λ (front : FrontCell T). Some front) fronts ≡ map (λ (slot : Slot D T). Some slot.front) slots
    pub backs_are : map (λ (back : BackCell D T). Some back) backs ≡ map (λ (slot : Slot D T). Some slot.back) slots
    pub outs_are : outs ≡ map (λ (slot : Slot D T). slot.out) slots
    pub inboxes_are : inboxes ≡ map (λ (slot : Slot D T). slot.inbox) slots

  -- So are lists of one length.
  pub zipped_are : (fronts : List (FrontCell T)) (backs : List (BackCell D T)) (outs : List (Taking Message)) (inboxes : List (Sending Event))
      → length backs ≡ length fronts → length outs ≡ length fronts → length inboxes ≡ length fronts
      → AreAllOf (zipped fronts backs outs inboxes) fronts backs outs inboxes
  unfolding zipped
  zipped_are [] [] [] [] b o i = record { many = refl; fronts_are = refl; backs_are = refl; outs_are = refl; inboxes_are = refl }
  zipped_are [] (x ∷ backs) outs inboxes b o i = absurd (omega arith)
  zipped_are [] [] (x ∷ outs) inboxes b o i = absurd (omega arith)
  zipped_are [] [] [] (x ∷ inboxes) b o i = absurd (omega arith)
  zipped_are (f ∷ fronts) [] outs inboxes b o i = absurd (omega arith)
  zipped_are (f ∷ fronts) (x ∷ backs) [] inboxes b o i = absurd (omega arith)
  zipped_are (f ∷ fronts) (x ∷ backs) (y ∷ outs) [] b o i = absurd (omega arith)
  zipped_are (f ∷ fronts) (x ∷ backs) (y ∷ outs) (z ∷ inboxes) b o i =
      let r = zipped_are fronts backs outs inboxes (omega arith) (omega arith) (omega arith) in record {
        many = let m = r.many in omega arith;
        fronts_are = ap (λ (l : List (Option (FrontCell T))). Some f ∷ l) r.fronts_are;
        backs_are = ap (λ (l : List (Option (BackCell D T))). Some x ∷ l) r.backs_are;
        outs_are = ap (λ (l : List (Taking Message)). y ∷ l) r.outs_are;
        inboxes_are = ap (λ (l : List (Sending Event)). z ∷ l) r.inboxes_are;
      }

-- What is there, within a place that is there.
some_inner : {A : Type 0} (place : Option A) (x : A) → option_map (λ (y : A). Some y) place ≡ Some (Some x) → place ≡ Some x
some_inner None x e = absurd cc
some_inner (Some y) x e = let same : y ≡ x = cc in ap (λ z. Some z) same

-- What a list has at a place where another has this.
some_of : {A B : Type 0} (f : A → B) (xs : List A) (ys : List B) (at : ℕ) (x : A) → ys ≡ map f xs → slice_get xs at ≡ Some x → slice_get ys at ≡ Some (f x)
some_of {A} {B} f xs ys at x are is =
    ap (λ (l : List B). slice_get l at) are ∙ slice_get-map f xs at ∙ ap (λ (o : Option A). option_map f o) is

module _ {D T : Type 0} where
  -- The cells at a slot's place are its.
  pub at_of : (slots : List (Slot D T)) (fronts : List (FrontCell T)) (backs : List (BackCell D T)) (outs : List (Taking Message)) (inboxes : List (Sending Event))
      (at : ℕ) (slot : Slot D T) → AreAllOf slots fronts backs outs inboxes → slice_get slots at ≡ Some slot → AreAt fronts backs outs inboxes at slot
  at_of slots fronts backs outs inboxes at slot are is = record {
    front_at = some_inner (slice_get fronts at) slot.front
        (sym (slice_get-map (λ (front : FrontCell T). Some front) fronts at)
        ∙ some_of (λ (s : Slot D T). Some s.front) slots (map (λ (front : FrontCell T). Some front) fronts) at slot are.fronts_are is);
    back_at = some_inner (slice_get backs at) slot.back
        (sym (slice_get-map (λ (back : BackCell D T). Some back) backs at)
        ∙ some_of (λ (s : Slot D T). Some s.back) slots (map (λ (back : BackCell D T). Some back) backs) at slot are.backs_are is);
    out_at = some_of (λ (s : Slot D T). s.out) slots outs at slot are.outs_are is;
    inbox_at = some_of (λ (s : Slot D T). s.inbox) slots inboxes at slot are.inboxes_are is;
  }

module _ {D T : Type 0} where
  -- There are as many fronts.
  pub long_as : (slots : List (Slot D T)) (fronts : List (Option (FrontCell T))) (backs : List (Option (BackCell D T))) (outs : List (Taking Message))
      (inboxes : List (Sending Event)) → AreOf slots fronts backs outs inboxes → length slots ≡ length fronts
  long_as slots fronts backs outs inboxes are = sym (ap length are.fronts_are ∙ length-map slots (λ (slot : Slot D T). Some slot.front))

  -- Lists that are the same are those of the slots too.
  pub are_as : (slots : List (Slot D T)) (fronts fronts_then : List (Option (FrontCell T))) (backs backs_then : List (Option (BackCell D T)))
      (outs outs_then : List (Taking Message)) (inboxes inboxes_then : List (Sending Event)) → fronts_then ≡ fronts → backs_then ≡ backs → outs_then ≡ outs
      → inboxes_then ≡ inboxes → AreOf slots fronts backs outs inboxes → AreOf slots fronts_then backs_then outs_then inboxes_then
  are_as slots fronts fronts_then backs backs_then outs outs_then inboxes inboxes_then f b o i are = record {
    fronts_are = f ∙ are.fronts_are;
    backs_are = b ∙ are.backs_are;
    outs_are = o ∙ are.outs_are;
    inboxes_are = i ∙ are.inboxes_are;
    ends = are.ends;
  }

  -- A slot's cells, once they are looked at.
  pub made_slot : (slot : Slot D T) (front : FrontCell T) (back : BackCell D T) (place : Option (BackCell D T)) (out : Taking Message) (inbox : Sending Event)
      (fronts : Option (FrontCell T)) (backs : Option (Option (BackCell D T))) (outs : Option (Taking Message)) (inboxes : Option (Sending Event))
      → IsOf slot fronts backs outs inboxes → fronts ≡ Some front → backs ≡ Some place → place ≡ Some back → outs ≡ Some out → inboxes ≡ Some inbox
      → record { front = front; back = back; out = out; inbox = inbox } ≡ slot
  made_slot slot front back place out inbox fronts backs outs inboxes is f p b o i =
      let same_front : front ≡ slot.front = let k = is.front_is in cc in
      let same_place : place ≡ Some slot.back = let k = is.back_is in cc in
      let same_back : back ≡ slot.back = cc in
      let same_out : out ≡ slot.out = let k = is.out_is in cc in
      let same_inbox : inbox ≡ slot.inbox = let k = is.inbox_is in cc in
      λ t. record { front = same_front t; back = same_back t; out = same_out t; inbox = same_inbox t }

-- What is there is one.
pub same_some : {A : Type 0} (place : Option A) (x y : A) → place ≡ Some x → place ≡ Some y → x ≡ y
same_some place x y a b = cc

-- ---- the next slot
-- An iterator gives the first of the items that are left.
pub next_is : {X Z : Type 0} (old new : IntoIter X Z) (item : Option X) (x : X) (more : List X) → into_iter_items old ≡ x ∷ more → into_iter_steps old item new
    → (item ≡ Some x) × (into_iter_items new ≡ more)
next_is old new None x more is steps = absurd (omega (arith, ap length is, old.rest.ok.0, steps.0))
next_is old new (Some y) x more is steps =
    let both : y ∷ into_iter_items new ≡ x ∷ more = sym steps.0 ∙ is in
    let same : y ≡ x = cc in
    let others : into_iter_items new ≡ more = cc in
    (ap (λ z. Some z) same, others)

module _ {D T : Type 0} where
  -- The cells of the next slot, and what is left.
  pub record IsNext (slots done : List (Slot D T)) (fronts : List (Option (FrontCell T))) (backs : List (Option (BackCell D T))) (outs : List (Taking Message))
      (inboxes : List (Sending Event)) (front : Option (FrontCell T)) (back : Option (Option (BackCell D T))) (out : Option (Taking Message))
      (inbox : Option (Sending Event)) : Type 0 where
    pub slot : Slot D T
    pub rest : List (Slot D T)
    pub all : slots ≡ (done ++ slot ∷ []) ++ rest
    pub is_of : IsOf slot front back out inbox
    pub left : AreOf rest fronts backs outs inboxes

  -- Where a front is left, a slot is.
  pub next_of : (slots done rest : List (Slot D T)) (fronts fronts_then : IntoIter (Option (FrontCell T)) Global)
      (backs backs_then : IntoIter (Option (BackCell D T)) Global) (outs outs_then : IntoIter (Taking Message) Global)
      (inboxes inboxes_then : IntoIter (Sending Event) Global) (front : Option (FrontCell T)) (back : Option (Option (BackCell D T)))
      (out : Option (Taking Message)) (inbox : Option (Sending Event)) → slots ≡ done ++ rest
      → AreOf rest (into_iter_items fronts) (into_iter_items backs) (into_iter_items outs) (into_iter_items inboxes)
      → into_iter_steps fronts (Some front) fronts_then → into_iter_steps backs back backs_then → into_iter_steps outs out outs_then
      → into_iter_steps inboxes inbox inboxes_then
      → IsNext slots done (into_iter_items fronts_then) (into_iter_items backs_then) (into_iter_items outs_then) (into_iter_items inboxes_then) front back out inbox
  next_of slots done [] fronts fronts_then backs backs_then outs outs_then inboxes inboxes_then front back out inbox all left f b o i =
      let none : [] ≡ front ∷ into_iter_items fronts_then = sym left.fronts_are ∙ f.0 in absurd cc
  next_of slots done (slot ∷ rest) fronts fronts_then backs backs_then outs outs_then inboxes inboxes_then front back out inbox all left f b o i =
      let nf = next_is fronts fronts_then (Some front) (Some slot.front) (map (λ (s : Slot D T). Some s.front) rest) left.fronts_are f in
      let nb = next_is backs backs_then back (Some slot.back) (map (λ (s : Slot D T). Some s.back) rest) left.backs_are b in
      let no = next_is outs outs_then out slot.out (map (λ (s : Slot D T). s.out) rest) left.outs_are o in
      let ni = next_is inboxes inboxes_then inbox slot.inbox (map (λ (s : Slot D T). s.inbox) rest) left.inboxes_are i in
      let front_is : front ≡ Some slot.front = let e = nf.0 in cc in record {
        slot = slot;
        rest = rest;
        all = all ∙ sym (append_assoc done (slot ∷ []) rest);
        is_of = record { front_is = front_is; back_is = nb.0; out_is = no.0; inbox_is = ni.0; ends = left.ends.0 };
        left = record { fronts_are = nf.1; backs_are = nb.1; outs_are = no.1; inboxes_are = ni.1; ends = left.ends.1 };
      }

module _ {D T : Type 0} (moment_of : D → ℕ) (left_since : D → ℕ → List ℕ → Type 0) (told : D → Option (List ℕ)) (image : D → List ℕ → Type 0)
    (faults_of : D → ℕ) where
  -- Short for what is said of a slot, over this kind of disk.
  abbrev IsCore : Slot D T → Core D → Type 0
  IsCore = IsCoreOf moment_of left_since told image faults_of

  abbrev AreHalves : Slot D T → Halves D → Type 0
  AreHalves = AreHalvesOf moment_of left_since told image faults_of

  abbrev Joined : List (Slot D T) → List (Core D) → List (Halves D) → Type 0
  Joined = AreJoined moment_of left_since told image faults_of

  -- No slot is joined to nothing.
  pub none_joined : (cores : List (Core D)) (apart : List (Halves D)) → cores ≡ [] → apart ≡ [] → Joined [] cores apart
  none_joined cores apart no_core no_half = record {
    joined = [];
    refused = [];
    all = refl;
    each_core = subst (λ (l : List (Core D)). AllZip IsCore [] l) (sym no_core) tt;
    each_apart = subst (λ (l : List (Halves D)). AllZip AreHalves [] l) (sym no_half) tt;
  }

  -- Each slot has its object or its halves.
  pub joined_many : (slots : List (Slot D T)) (cores : List (Core D)) (apart : List (Halves D)) → Joined slots cores apart → length cores + length apart ≡ length slots
  joined_many slots cores apart h =
      let c = zip_length IsCore h.joined cores h.each_core in
      let a = zip_length AreHalves h.refused apart h.each_apart in
      let all = ap length h.all ∙ length-append h.joined h.refused in
      omega arith

  -- The halves of a slot that weren't joined, or whose object is taken apart again.
  halves_are : (slot : Slot D T) (joined : Result (Core D) (Halves D)) → IfOk joined (IsCore slot) → IfErr joined (AreHalves slot) → AreHalves slot (halves_of joined)
  halves_are slot (Ok core) ok err = (core, refl, refl, ok)
  halves_are slot (Err halves) ok err = err

  -- One more slot is joined, or isn't.
  pub joins : (slot : Slot D T) (done : List (Slot D T)) (joined : Result (Core D) (Halves D)) (old new : Room D) → IfOk joined (IsCore slot)
      → IfErr joined (AreHalves slot) → IsPut joined old new → Joined done old.cores.items old.apart.items
      → Joined (done ++ slot ∷ []) new.cores.items new.apart.items
  joins slot done joined old new ok err (as_core core is none cores apart) before =
      let one : IsCore slot core = subst (λ (r : Result (Core D) (Halves D)). IfOk r (IsCore slot)) is ok in
      let empty : before.refused ≡ [] =
      zip_none AreHalves before.refused (subst (λ (l : List (Halves D)). AllZip AreHalves before.refused l) none before.each_apart) in record {
        joined = before.joined ++ slot ∷ [];
        refused = [];
        all = ap (λ (l : List (Slot D T)). l ++ slot ∷ [])
            (before.all ∙ ap (λ (l : List (Slot D T)). before.joined ++ l) empty ∙ append-nil before.joined) ∙ sym (append-nil (before.joined ++ slot ∷ []));
        each_core = subst (λ (l : List (Core D)). AllZip IsCore (before.joined ++ slot ∷ []) l) (sym cores)
            (zip_push IsCore before.joined old.cores.items slot core before.each_core one);
        each_apart = subst (λ (l : List (Halves D)). AllZip AreHalves [] l) (sym (apart ∙ none)) tt;
      }
  joins slot done joined old new ok err (as_halves cores apart) before = record {
    joined = before.joined;
    refused = before.refused ++ slot ∷ [];
    all = ap (λ (l : List (Slot D T)). l ++ slot ∷ []) before.all ∙ append_assoc before.joined before.refused (slot ∷ []);
    each_core = subst (λ (l : List (Core D)). AllZip IsCore before.joined l) (sym cores) before.each_core;
    each_apart = subst (λ (l : List (Halves D)). AllZip AreHalves (before.refused ++ slot ∷ []) l) (sym apart)
        (zip_push AreHalves before.refused old.apart.items slot (halves_of joined) before.each_apart (halves_are slot joined ok err));
  }

  -- The slots so far are joined, and the cells of the others are left.
  pub record IsSoFar (slots : List (Slot D T)) (fronts : List (Option (FrontCell T))) (backs : List (Option (BackCell D T))) (outs : List (Taking Message))
      (inboxes : List (Sending Event)) (room : Room D) : Type 0 where
    pub done : List (Slot D T)
    pub rest : List (Slot D T)
    pub all : slots ≡ done ++ rest
    pub left : AreOf rest fronts backs outs inboxes
    pub joined : Joined done room.cores.items room.apart.items

  -- Where a slot is left, there is room for it.
  pub has_room : (slots done : List (Slot D T)) (rest : List (Slot D T)) (slot : Slot D T) (many : ℕ) (room : Room D) → slots ≡ (done ++ slot ∷ []) ++ rest
      → length slots ≡ many → Joined done room.cores.items room.apart.items → many ≤ vec_capacity room.cores → many ≤ vec_capacity room.apart → HasRoom room
  has_room slots done rest slot many room all long joined cores apart =
      let m = joined_many done room.cores.items room.apart.items joined in
      let l = ap length all ∙ length-append (done ++ slot ∷ []) rest in
      let d = length-append done (slot ∷ []) in
      let c = room.cores.ok.0 in
      let a = room.apart.ok.0 in
      (omega arith, omega arith)

  -- Where nothing is left, those so far are all.
  ended : (slots done rest : List (Slot D T)) → slots ≡ done ++ rest → [] ≡ map (λ (s : Slot D T). Some s.front) rest → done ≡ slots
  ended slots done [] all none = sym (all ∙ append-nil done)
  ended slots done (slot ∷ rest) all none = absurd cc

  -- Where no front is left, all slots are joined.
  pub all_joined : (slots : List (Slot D T)) (fronts : List (Option (FrontCell T))) (backs : List (Option (BackCell D T))) (outs : List (Taking Message))
      (inboxes : List (Sending Event)) (room : Room D) → IsSoFar slots fronts backs outs inboxes room → fronts ≡ [] → Joined slots room.cores.items room.apart.items
  all_joined slots fronts backs outs inboxes room so_far none =
      subst (λ (l : List (Slot D T)). Joined l room.cores.items room.apart.items)
      (ended slots so_far.done so_far.rest so_far.all (sym none ∙ so_far.left.fronts_are)) so_far.joined
