-- What an entry that a back may not take changes, and one that it may.
use Rattle.std.proofs.Common.{◌≡◌, ◌∙◌, ap, sym, refl, true≢false, inl, inr, ℕ, [], ◌∷◌, ◌++◌, Option, Some, None}
use Rattle.std.specs.Prelude.{◌⊎◌, true, false}
use Rattle.storage_map.specs.Contents.{Contents}
use Rattle.storage_map.specs.Limits.{Object}
use Rattle.timeline.specs.Logs.{Backed}
use Rattle.timeline.specs.declared.entry.Body.{Body}
use Rattle.timeline.specs.declared.entry.Body.TheVariants as body
use Rattle.timeline.specs.declared.entry.Entry.{Entry}
use Rattle.output_gate.specs.Entering.{Failed, MayFail, is_unfit, logged_as, notice_as, held_as, held_with, mode_after, before_after, identity_after, identity_by}
use Rattle.output_gate.specs.Taking.{fit_of}
use Rattle.output_gate.specs.declared.back.Back.{Back}
use Rattle.output_gate.specs.declared.back.Mode.{Mode}
use Rattle.output_gate.specs.declared.fit.Fit.{Fit}
use Rattle.output_gate.specs.declared.fit.Fit.TheVariants as fit

-- An unfit entry changes nothing of what is seen.
pub unfit_log : (f : Fit) (log : Backed) (e : Entry) → is_unfit f ≡ true → logged_as f log e ≡ log
unfit_log fit.Unfit log e is = refl
unfit_log fit.Own log e is = absurd cc
unfit_log fit.Down log e is = absurd cc
unfit_log fit.Late log e is = absurd cc

pub unfit_held : {D : Type 0} (f : Fit) (back : Back D) (e : Entry) → is_unfit f ≡ true → held_as f back e ≡ []
unfit_held fit.Unfit back e is = refl
unfit_held fit.Own back e is = absurd cc
unfit_held fit.Down back e is = absurd cc
unfit_held fit.Late back e is = absurd cc

-- No read fails of it.
pub unfit_holds : {D : Type 0} (failed : Failed) (back : Back D) (e : Entry) → MayFail failed back e → is_unfit (fit_of back e) ≡ true
    → held_with failed (fit_of back e) back e ≡ []
unfit_holds None back e may is = unfit_held (fit_of back e) back e is
unfit_holds (Some counts) back e may is = absurd (true≢false (sym is ∙ ap is_unfit may.0))

pub unfit_notice : (f : Fit) (e : Entry) (m : Contents) → is_unfit f ≡ true → notice_as f e m ≡ None
unfit_notice fit.Unfit e m is = refl
unfit_notice fit.Own e m is = absurd cc
unfit_notice fit.Down e m is = absurd cc
unfit_notice fit.Late e m is = absurd cc

pub unfit_mode : (f : Fit) (mode : Mode) (b : Body) → is_unfit f ≡ true → mode_after f mode b ≡ mode
unfit_mode fit.Unfit mode b is = refl
unfit_mode fit.Own mode b is = refl
unfit_mode fit.Down mode b is = absurd cc
unfit_mode fit.Late mode b is = refl

pub unfit_before : (f : Fit) (before : ℕ) (b : Body) → is_unfit f ≡ true → before_after f before b ≡ before
unfit_before fit.Unfit before b is = refl
unfit_before fit.Own before b is = absurd cc
unfit_before fit.Down before b is = refl
unfit_before fit.Late before b is = refl

-- A fit one is logged.
pub fit_taken : (f : Fit) (log : Backed) (e : Entry) → is_unfit f ≡ false → (logged_as f log e).taken ≡ log.taken ++ e ∷ []
fit_taken fit.Unfit log e is = absurd cc
fit_taken fit.Own log e is = refl
fit_taken fit.Down log e is = refl
fit_taken fit.Late log e is = refl

pub released_still : (f : Fit) (log : Backed) (e : Entry) → (logged_as f log e).released ≡ log.released
released_still fit.Unfit log e = refl
released_still fit.Own log e = refl
released_still fit.Down log e = refl
released_still fit.Late log e = refl

pub stops_still : (f : Fit) (log : Backed) (e : Entry) → (logged_as f log e).stops ≡ log.stops
stops_still fit.Unfit log e = refl
stops_still fit.Own log e = refl
stops_still fit.Down log e = refl
stops_still fit.Late log e = refl

-- An unfit entry names nobody; and an entry leaves the object that is known, or names the one that it binds.
pub unfit_identity : (f : Fit) (identity : Option Object) (b : Body) → is_unfit f ≡ true → identity_after f identity b ≡ identity
unfit_identity fit.Unfit identity b is = refl
unfit_identity fit.Own identity b is = absurd cc
unfit_identity fit.Down identity b is = refl
unfit_identity fit.Late identity b is = refl

bound_by : (b : Body) (identity : Option Object) → (identity_by b identity ≡ identity) ⊎ ((bound : Object) × (b ≡ body.Bind bound) × (identity_by b identity ≡ Some bound))
bound_by (body.Bind bound) identity = inr (bound, refl, refl)
bound_by (body.Batch batch tail confirmed) identity = inl refl
bound_by (body.Ask ask free) identity = inl refl
bound_by body.Sync identity = inl refl
bound_by (body.Message message) identity = inl refl
bound_by (body.Halt cause) identity = inl refl
bound_by body.Mend identity = inl refl

pub same_or_bound : (f : Fit) (identity : Option Object) (b : Body)
    → (identity_after f identity b ≡ identity) ⊎ ((bound : Object) × (b ≡ body.Bind bound) × (identity_after f identity b ≡ Some bound))
same_or_bound fit.Unfit identity b = inl refl
same_or_bound fit.Own identity b = bound_by b identity
same_or_bound fit.Down identity b = inl refl
same_or_bound fit.Late identity b = inl refl
