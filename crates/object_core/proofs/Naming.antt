-- A step of the back leaves it with the slot's object that it knew, or with the one whose binding it takes.
use Rattle.std.proofs.Common.{◌≡◌, ◌∙◌, ap, refl, sym, subst, ◌⊎◌, ⊎_elim, inl, inr, List, [], ◌∷◌, ◌++◌, map, append-nil, Option, Some, None}
use Rattle.std.proofs.lemmas.List.{map-append}
use Rattle.std.proofs.lemmas.List.Elements.{Contains-append_left, Contains-push}
use Rattle.std.specs.Prelude.{Bool, true, false, not, ◌&&◌, ◌==◌, is_some, nat_lt}
use Rattle.std.specs.List.{Contains}
use Rattle.storage_map.specs.Limits.{Object}
use Rattle.timeline.specs.declared.entry.Body.{Body}
use Rattle.timeline.specs.declared.entry.Body.TheVariants as body
use Rattle.timeline.specs.declared.entry.Entry.{Entry}
use Rattle.output_gate.proofs.Unfit.{same_or_bound}
use Rattle.output_gate.specs.Entering.{Enters, Failed, identity_after, identity_by}
use Rattle.output_gate.specs.Fits.{comes_behind, last_of}
use Rattle.output_gate.specs.Taking.{fit_as, fit_in, is_mounted_mode}
use Rattle.output_gate.specs.declared.back.Back.{Back}
use Rattle.object_core.specs.One.{IsNamed}

abbrev bodies : List Entry → List Body
bodies entries = map (λ (e : Entry). e.body) entries

-- An entry leaves the object that is known; it names one only where none was.
some_stays : (ok own mounted : Bool) (object : Object) (b : Body) → identity_by b (Some object) ≡ Some object → identity_after (fit_as ok own mounted) (Some object) b ≡ Some object
some_stays false own mounted object b is = refl
some_stays true true true object b is = is
some_stays true true false object b is = refl
some_stays true false mounted object b is = refl

down_stays : (ok : Bool) (identity : Option Object) (b : Body) → identity_after (fit_as ok true false) identity b ≡ identity
down_stays true identity b = refl
down_stays false identity b = refl

late_stays : (ok mounted : Bool) (identity : Option Object) (b : Body) → identity_after (fit_as ok false mounted) identity b ≡ identity
late_stays true mounted identity b = refl
late_stays false mounted identity b = refl

none_fits : (behind within : Bool) → (behind && within && false) ≡ false
none_fits true true = refl
none_fits true false = refl
none_fits false within = refl

known_stays : (behind within own mounted : Bool) (object : Object) (b : Body)
    → identity_after (fit_in behind within own mounted true b) (Some object) b ≡ Some object
known_stays behind within true true object (body.Bind bound) =
    ap (λ (ok : Bool). identity_after (fit_as ok true true) (Some object) (body.Bind bound)) (none_fits behind within)
known_stays behind within true false object (body.Bind bound) = down_stays (behind && within && false) (Some object) (body.Bind bound)
known_stays behind within false mounted object (body.Bind bound) = late_stays (behind && within && false) mounted (Some object) (body.Bind bound)
known_stays behind within own mounted object (body.Batch ops tail confirmed) = some_stays _ own mounted object (body.Batch ops tail confirmed) refl
known_stays behind within own mounted object (body.Ask ask free) = some_stays _ own mounted object (body.Ask ask free) refl
known_stays behind within own mounted object body.Sync = some_stays _ own mounted object body.Sync refl
known_stays behind within own mounted object (body.Message sent) = some_stays _ own mounted object (body.Message sent) refl
known_stays behind within own mounted object (body.Halt cause) = some_stays _ own mounted object (body.Halt cause) refl
known_stays behind within own mounted object body.Mend = some_stays _ own mounted object body.Mend refl

same_or_named : (behind within own mounted : Bool) (identity : Option Object) (b : Body)
    → (identity_after (fit_in behind within own mounted (is_some identity) b) identity b ≡ identity)
    ⊎ ((identity ≡ None) × (bound : Object) × (b ≡ body.Bind bound)
    × (identity_after (fit_in behind within own mounted (is_some identity) b) identity b ≡ Some bound))
same_or_named behind within own mounted None b =
    ⊎_elim (λ same. inl same) (λ bound. inr (refl, bound.0, bound.1, bound.2)) (same_or_bound (fit_in behind within own mounted false b) None b)
same_or_named behind within own mounted (Some object) b = inl (known_stays behind within own mounted object b)

-- It knows the same, whatever more it has taken.
pub named_more : {D : Type 0} (object : Option Object) (old new : Back D) (more : List Entry) → new.identity ≡ old.identity
    → new.log.taken.items ≡ old.log.taken.items ++ more → IsNamed object old → IsNamed object new
named_more object old new more same taken (inl is) = inl (same ∙ is)
named_more object old new more same taken (inr bound) =
    let has = Contains-append_left (bodies old.log.taken.items) (bodies more) (body.Bind bound.1) bound.3 in
    inr (
      bound.0,
      bound.1,
      same ∙ bound.2,
      subst (λ (entries : List Entry). Contains (bodies entries) (body.Bind bound.1)) (sym taken)
          (subst (λ (bs : List Body). Contains bs (body.Bind bound.1)) (sym (map-append (λ (e : Entry). e.body) old.log.taken.items more)) has),
    )

pub named_still : {D : Type 0} (object : Option Object) (old new : Back D) → new.identity ≡ old.identity → new.log.taken.items ≡ old.log.taken.items
    → IsNamed object old → IsNamed object new
named_still object old new same taken = named_more object old new [] same (taken ∙ sym (append-nil old.log.taken.items))

module _ {D : Type 0} (object : Option Object) (old new : Back D) (e : Entry) (taken : new.log.taken.items ≡ old.log.taken.items ++ e ∷ []) (named : IsNamed object old) where
  -- It knew none, so that the slot had none.
  had_none : old.identity ≡ None → object ≡ None
  had_none none = ⊎_elim (λ same. sym same ∙ none) (λ bound. bound.0) named

  binds : old.identity ≡ None → (bound : Object) → e.body ≡ body.Bind bound → new.identity ≡ Some bound → IsNamed object new
  binds none bound is now =
      let has : Contains (bodies old.log.taken.items ++ e.body ∷ []) e.body = Contains-push (bodies old.log.taken.items) e.body in
      inr (
        had_none none,
        bound,
        now,
        subst (λ (entries : List Entry). Contains (bodies entries) (body.Bind bound)) (sym taken)
            (subst (λ (bs : List Body). Contains bs (body.Bind bound)) (sym (map-append (λ (x : Entry). x.body) old.log.taken.items (e ∷ [])))
            (subst (λ (b : Body). Contains (bodies old.log.taken.items ++ e.body ∷ []) b) is has)),
      )

  -- An entry that is taken and logged.
  pub named_enters : (failed : Failed) → Enters failed old new e → IsNamed object new
  named_enters failed enters =
      ⊎_elim
      (λ same. named_more object old new (e ∷ []) (enters.identity ∙ same) taken named)
      (λ bound. binds bound.0 bound.1 bound.2 (enters.identity ∙ bound.3))
      (same_or_named (comes_behind (last_of old.log.taken.items) e) (not (nat_lt old.number e.incarnation)) (e.incarnation == old.number) (is_mounted_mode old.mode)
      old.identity e.body)
