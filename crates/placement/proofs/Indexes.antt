-- What the directory keeps leads to what it lists.
use Rattle.std.proofs.Common.{◌≡◌, ◌≢◌, ℕ, zero, suc, ◌+◌, ◌<◌, ◌≤◌, ◌⊎◌, inl, inr, rules, Bool, true, false, List, [], ◌∷◌, length, get_or, set, Option, None, Some, cond, refl, sym, ap, subst, ◌∙◌, arith}
use Rattle.std.specs.Prelude.{nat_eq, is_none, replicate}
use Rattle.std.proofs.lemmas.Bool.{cases_lt, cases_eq, and_parts, eqb-true, eq-eqb, ne_eqb}
use Rattle.std.proofs.lemmas.List.{ext_get_or, get_or_append_left, get_or_push, get_or_past, get_or-set_same, get_or-set_other, get_or-replicate, length-set, length_push, length-replicate}
use Rattle.storage_map.specs.Limits.{Object}
use Rattle.placement.specs.Slots.{object_at, slot_of, least_free, with_object, IsOneEach}
use Rattle.placement.specs.Numbers.{listed, number_of, same_numbers, under, leads_to, IsFirstWithout, IsIndex}
use Rattle.placement.proofs.Positions.{position_is, position_none}
use Rattle.placement.proofs.Places.{none≢some, some_is, is_slot_of, no_slot_of}
use Rattle.placement.proofs.Numbering.{Grown, same_text, number_within}

-- ---- the list of the slots
pub length-listed : (objects : ℕ → Option Object) (slots : ℕ) → length (listed objects slots) ≡ slots
length-listed objects zero = refl
length-listed objects (suc slots) = let one : slots + 1 ≡ suc slots = omega arith in length_push (listed objects slots) (objects slots) ∙ ap (λ n. n + 1) (length-listed objects slots) ∙ one

pub listed_at : (objects : ℕ → Option Object) (slots slot : ℕ) → slot < slots → get_or (listed objects slots) slot None ≡ objects slot
listed_at objects zero slot less = absurd (omega arith)
listed_at objects (suc slots) slot less =
    elim (cases_lt slot slots) [
      | inl lower ↦ get_or_append_left (listed objects slots) (objects slots ∷ []) None slot (rw (length-listed objects slots) lower) ∙ listed_at objects slots slot lower
      | inr last ↦ let same : slots ≡ slot = omega arith in get_or_push (listed objects slots) (objects slots) None slot (length-listed objects slots ∙ same) ∙ ap objects same
    ]

-- of each slot, where no slot past the last has an object
pub object_at_is : (objects : ℕ → Option Object) (slots : ℕ) → ((slot : ℕ) → slots ≤ slot → objects slot ≡ None) → (slot : ℕ) → object_at (listed objects slots) slot ≡ objects slot
object_at_is objects slots within slot =
    elim (cases_lt slot slots) [
      | inl less ↦ listed_at objects slots slot less
      | inr past ↦ get_or_past (listed objects slots) slot None (rw (length-listed objects slots) past) ∙ sym (within slot past)
    ]

pub listed_none : (objects : ℕ → Option Object) (slots : ℕ) → ((slot : ℕ) → objects slot ≡ None) → listed objects slots ≡ replicate slots None
listed_none objects slots none =
    ext_get_or None (listed objects slots) (replicate slots None) (length-listed objects slots ∙ sym (length-replicate slots None))
    (λ i less. let lower : i < slots = rw (length-listed objects slots) at less in
    listed_at objects slots i lower ∙ none i ∙ sym (get_or-replicate slots i None None lower))

-- one object more in the list
pub listed_with : (objects more : ℕ → Option Object) (slots slot : ℕ) (object : Object) → slot < slots
    → ((q : ℕ) → more q ≡ cond (nat_eq slot q) (Some object) (objects q)) → listed more slots ≡ with_object (listed objects slots) slot object
listed_with objects more slots slot object less updates =
    ext_get_or None (listed more slots) (with_object (listed objects slots) slot object)
    (length-listed more slots ∙ sym (length-set (listed objects slots) slot (Some object) ∙ length-listed objects slots))
    (λ i within. let lower : i < slots = rw (length-listed more slots) at within in
    listed_at more slots i lower ∙ updates i ∙ elim (cases_eq i slot) [
      | inl here ↦
          ap (λ b. cond b (Some object) (objects i)) (eq-eqb slot i (sym here))
          ∙ sym (ap (λ k. get_or (set (listed objects slots) slot (Some object)) k None) here
          ∙ get_or-set_same (listed objects slots) slot (Some object) None (rw (length-listed objects slots) less))
      | inr apart ↦
          ap (λ b. cond b (Some object) (objects i)) (ne_eqb slot i (λ e. apart (sym e)))
          ∙ sym (get_or-set_other (listed objects slots) slot i (Some object) None apart ∙ listed_at objects slots i lower)
    ])

-- ---- what the numbers lead to
record IsUnder (named : ℕ × ℕ → Option ℕ) (x y : Option ℕ) (slot : ℕ) : Type 0 where
  pub class : ℕ
  pub name : ℕ
  pub of_class : x ≡ Some class
  pub of_name : y ≡ Some name
  pub at : named (class, name) ≡ Some slot

under_parts : (named : ℕ × ℕ → Option ℕ) (x y : Option ℕ) (slot : ℕ) → under named x y ≡ Some slot → IsUnder named x y slot
under_parts named None y slot e = absurd (none≢some e)
under_parts named (Some class) None slot e = absurd (none≢some e)
under_parts named (Some class) (Some name) slot e = record { class = class; name = name; of_class = refl; of_name = refl; at = e }

module _ (slots passed : ℕ) (texts : List (List ℕ)) (named : ℕ × ℕ → Option ℕ) (objects : ℕ → Option Object) (index : IsIndex slots passed texts named objects) where
  at_is : (slot : ℕ) → object_at (listed objects slots) slot ≡ objects slot
  at_is = object_at_is objects slots index.within

  pub one_each_listed : IsOneEach (listed objects slots)
  one_each_listed a b object at_a at_b =
      let to_a = index.leads object a (sym (at_is a) ∙ at_a) in
      let to_b = index.leads object b (sym (at_is b) ∙ at_b) in
      some_same (sym to_a ∙ to_b)
    where
      some_same : {x y : ℕ} → Some x ≡ Some y → x ≡ y
      some_same e = cc

  -- the numbers of an object lead to its slot
  pub found_is : (object : Object) → leads_to named texts object ≡ slot_of (listed objects slots) object
  found_is object = by (leads_to named texts object) refl
    where
      by : (found : Option ℕ) → leads_to named texts object ≡ found → leads_to named texts object ≡ slot_of (listed objects slots) object
      by (Some slot) e = e ∙ sym (is_slot_of (listed objects slots) slot object one_each_listed (at_is slot ∙ index.stands object slot e))
      by None e = e ∙ sym (no_slot_of (listed objects slots) object (λ slot at. none≢some (sym e ∙ index.leads object slot (sym (at_is slot) ∙ at))))

  -- where more slots are passed that have objects
  pub index_passed : (further : ℕ) → IsFirstWithout objects passed slots further → IsIndex slots further texts named objects
  index_passed further first = record {
    known = index.known;
    stands = index.stands;
    leads = index.leads;
    within = index.within;
    taken = λ slot less. elim (cases_lt slot passed) [ inl lower ↦ index.taken slot lower | inr upper ↦ first.taken slot upper less ];
    behind = first.within;
  }

  -- the first slot without an object behind those that were passed is the least free one
  pub least_free_is : (slot : ℕ) → IsFirstWithout objects passed slots slot → slot < slots → least_free (listed objects slots) ≡ Some slot
  least_free_is slot first less =
      position_is is_none (listed objects slots) None slot (rw (length-listed objects slots) less)
      (λ k lower. some_is (get_or (listed objects slots) k None) (λ e. (index_passed slot first).taken k lower (sym (at_is k) ∙ e)))
      (ap is_none (at_is slot ∙ first.free less))

  pub none_free_is : (slot : ℕ) → IsFirstWithout objects passed slots slot → slots ≤ slot → least_free (listed objects slots) ≡ None
  none_free_is slot first past =
      position_none is_none (listed objects slots) None
      (λ k lower. let less : k < slots = rw (length-listed objects slots) at lower in
      some_is (get_or (listed objects slots) k None) (λ e. (index_passed slot first).taken k (omega arith) (sym (at_is k) ∙ e)))

  -- ---- a text more
  pub index_grown : (more : List (List ℕ)) → Grown texts more → IsIndex slots passed more named objects
  index_grown more grown = record {
    known = λ numbers slot e. (omega (arith, (index.known numbers slot e).0, grown.longer), omega (arith, (index.known numbers slot e).1, grown.longer));
    stands = λ object slot e.
        let parts = under_parts named (number_of more object.0) (number_of more object.1) slot e in
        let low = index.known (parts.class, parts.name) slot parts.at in
        let class : number_of texts object.0 ≡ Some parts.class = grown.knew object.0 parts.class low.0 parts.of_class in
        let name : number_of texts object.1 ≡ Some parts.name = grown.knew object.1 parts.name low.1 parts.of_name in
        index.stands object slot ((λ i. under named (class i) (name i)) ∙ parts.at);
    leads = λ object slot e.
        let parts = under_parts named (number_of texts object.0) (number_of texts object.1) slot (index.leads object slot e) in
        let class : number_of more object.0 ≡ Some parts.class = grown.keeps object.0 parts.class parts.of_class in
        let name : number_of more object.1 ≡ Some parts.name = grown.keeps object.1 parts.name parts.of_name in
        (λ i. under named (class i) (name i)) ∙ parts.at;
    within = index.within;
    taken = index.taken;
    behind = index.behind;
  }

  -- ---- an object more
  module _ (object : Object) (slot class name : ℕ) (of_class : number_of texts object.0 ≡ Some class) (of_name : number_of texts object.1 ≡ Some name)
      (empty : objects slot ≡ None) (nowhere : (s : ℕ) → objects s ≢ Some object) (less : slot < slots)
      (names : ℕ × ℕ → Option ℕ) (names_is : (q : ℕ × ℕ) → names q ≡ cond (same_numbers (class, name) q) (Some slot) (named q))
      (more : ℕ → Option Object) (more_is : (q : ℕ) → more q ≡ cond (nat_eq slot q) (Some object) (objects q)) where
    -- nothing was under these numbers
    unnamed : (s : ℕ) → named (class, name) ≢ Some s
    unnamed s e = nowhere s (index.stands object s ((λ i. under named (of_class i) (of_name i)) ∙ e))

    more_here : more slot ≡ Some object
    more_here = more_is slot ∙ ap (λ b. cond b (Some object) (objects slot)) (eq-eqb slot slot refl)

    more_other : (q : ℕ) → (q ≡ slot → ⊥) → more q ≡ objects q
    more_other q apart = more_is q ∙ ap (λ b. cond b (Some object) (objects q)) (ne_eqb slot q (λ e. apart (sym e)))

    names_here : names (class, name) ≡ Some slot
    names_here = names_is (class, name) ∙ ap (λ b. cond b (Some slot) (named (class, name))) (same_self class name)
      where
        same_self : (a b : ℕ) → same_numbers (a, b) (a, b) ≡ true
        same_self a b = search (rules, eq-eqb)

    -- under other numbers stands what stood there
    abbrev Names : ℕ × ℕ → Type 0
    Names q = (q ≡ (class, name)) ⊎ (names q ≡ named q)

    names_other : (q : ℕ × ℕ) → Names q
    names_other q = by (same_numbers (class, name) q) refl
      where
        by : (b : Bool) → same_numbers (class, name) q ≡ b → Names q
        by true e = let parts = and_parts (nat_eq class q.0) (nat_eq name q.1) e in
            let c = eqb-true class q.0 parts.0 in let n = eqb-true name q.1 parts.1 in inl (λ i. (sym c i, sym n i))
        by false e = inr (names_is q ∙ ap (λ b. cond b (Some slot) (named q)) e)

    pub index_with : IsIndex slots passed texts names more
    index_with = record {
      known = λ q s e. elim (names_other q) [
        | inl here ↦ (
          subst (λ (k : ℕ × ℕ). k.0 < length texts) (sym here) (number_within texts object.0 class of_class),
          subst (λ (k : ℕ × ℕ). k.1 < length texts) (sym here) (number_within texts object.1 name of_name),
        )
        | inr old ↦ index.known q s (sym old ∙ e)
      ];
      stands = λ o s e.
          let parts = under_parts names (number_of texts o.0) (number_of texts o.1) s e in
          elim (names_other (parts.class, parts.name)) [
            | inl here ↦
                let c : number_of texts o.0 ≡ Some class = parts.of_class ∙ (λ i. Some (here i).0) in
                let n : number_of texts o.1 ≡ Some name = parts.of_name ∙ (λ i. Some (here i).1) in
                let same_class : o.0 ≡ object.0 = same_text texts o.0 object.0 class c of_class in
                let same_name : o.1 ≡ object.1 = same_text texts o.1 object.1 name n of_name in
                let at : Some s ≡ Some slot = sym parts.at ∙ ap names here ∙ names_here in
                let same : s ≡ slot = cc in
                ap more same ∙ more_here ∙ sym (λ i. Some (same_class i, same_name i))
            | inr old ↦
                let was : objects s ≡ Some o = index.stands o s ((λ i. under named (parts.of_class i) (parts.of_name i)) ∙ (sym old ∙ parts.at)) in
                more_other s (λ same. none≢some (sym empty ∙ ap objects (sym same) ∙ was)) ∙ was
          ];
      leads = λ o s e. elim (cases_eq s slot) [
        | inl here ↦
            let at : Some object ≡ Some o = sym more_here ∙ ap more (sym here) ∙ e in
            let same : object ≡ o = cc in
            subst (λ (k : Object). leads_to names texts k ≡ Some s) same ((λ i. under names (of_class i) (of_name i)) ∙ names_here ∙ ap Some (sym here))
        | inr apart ↦
            let was = index.leads o s (sym (more_other s apart) ∙ e) in
            let parts = under_parts named (number_of texts o.0) (number_of texts o.1) s was in
            elim (names_other (parts.class, parts.name)) [
              | inl here ↦ absurd (unnamed s (ap named (sym here) ∙ parts.at))
              | inr old ↦ (λ i. under names (parts.of_class i) (parts.of_name i)) ∙ (old ∙ parts.at)
            ]
      ];
      within = λ s past. more_other s (λ same. omega arith) ∙ index.within s past;
      taken = λ s lower. elim (cases_eq s slot) [
        | inl here ↦ λ none. none≢some (sym none ∙ ap more here ∙ more_here)
        | inr apart ↦ λ none. index.taken s lower (sym (more_other s apart) ∙ none)
      ];
      behind = index.behind;
    }
