-- What a notice answers to a task that waits for the storage, and that no other notice fits.
use Rattle.std.proofs.Common.{◌≡◌, ◌∙◌, sym, refl, ap, ℕ, true, false, Bool, cond, ◌&&◌, ◌==◌, List, [], length, Option, Some, None}
use Rattle.std.proofs.lemmas.Bool.{true≢false, eqb-true, and_parts, and_from, eq-eqb}
use Rattle.std.proofs.lemmas.Option.{none-some, cond_some}
use Rattle.script_mean.specs.Answers.{is_answer}
use Rattle.script_mean.specs.declared.answer.Answer.{Answer}
use Rattle.timeline.specs.Intake.{Kind, Front, serves, noticed, closed_by, downed_by, ends_by, on_notice, on_stored, FitsNotice}
use Rattle.timeline.specs.Object.{Object, OpenTask, State, idle, waiting, ended}
use Rattle.timeline.specs.declared.caller.Cause.{Cause}
use Rattle.timeline.specs.declared.entry.Body.{Body}
use Rattle.timeline.specs.declared.entry.Body.TheVariants as body
use Rattle.timeline.specs.declared.notice.Notice.{Notice}
use Rattle.timeline.specs.declared.notice.Notice.TheVariants as notice
use Rattle.front_turns.specs.Held.{asked_in}
use Rattle.front_turns.specs.declared.object.Asked.{Asked}
use Rattle.front_turns.specs.declared.object.Asked.TheVariants as asked
use Rattle.front_half.specs.Noticing.{answer_to, is_end}
use Rattle.front_half.specs.Taking.{due_at}

-- what it answers where it is known what was asked
abbrev answered : ℕ → Option Asked → Notice → Option Answer
answered count None n = None
answered count (Some a) n = answer_to count a n

not_if : {X : Type 0} (b : Bool) (x : X) → cond b (Some x) None ≡ None → b ≡ false
not_if true x is = absurd (none-some x (sym is))
not_if false x is = refl

fits_in : (count : ℕ) (n : Notice) (given : Answer) (b : Body) (o : Object) (t : OpenTask) (said : List Body)
    → answered count (asked_in b) n ≡ Some given → count ≡ length said → FitsNotice said (waiting o t b) n
fits_in count (notice.Read number r) given (body.Ask a free) o t said is counts =
    let both = and_parts (number == count) (is_answer a r) (cond_some ((number == count) && is_answer a r) _ _ is).0 in
    (eqb-true number count both.0 ∙ counts, both.1)
fits_in count (notice.Taken number m) given (body.Batch ops (Some tail) confirmed) o t said is counts = eqb-true number count (cond_some (number == count) _ _ is).0 ∙ counts
fits_in count (notice.Synced number) given body.Sync o t said is counts = eqb-true number count (cond_some (number == count) _ _ is).0 ∙ counts
fits_in count n given (body.Batch ops (Some tail) confirmed) o t said is counts = absurd (none-some given is)
fits_in count n given (body.Batch ops None confirmed) o t said is counts = absurd (none-some given is)
fits_in count n given b o t said is counts = absurd (none-some given is)

-- A notice that answers is the one that is waited for.
pub answers_fit : (count : ℕ) (a : Asked) (n : Notice) (given : Answer) (b : Body) (o : Object) (t : OpenTask) (said : List Body)
    → answer_to count a n ≡ Some given → asked_in b ≡ Some a → count ≡ length said → FitsNotice said (waiting o t b) n
answers_fit count a n given b o t said is asks counts = fits_in count n given b o t said (ap (λ (x : Option Asked). answered count x n) asks ∙ is) counts

differs : (count number : ℕ) (said : List Body) → (number == count) ≡ false → count ≡ length said → number ≡ length said → ⊥
differs count number said other counts is = true≢false (sym (eq-eqb number count (is ∙ sym counts)) ∙ other)

unfit_in : (count : ℕ) (n : Notice) (b : Body) (a : Asked) (o : Object) (t : OpenTask) (said : List Body)
    → answered count (asked_in b) n ≡ None → asked_in b ≡ Some a → is_end n ≡ false → count ≡ length said → FitsNotice said (waiting o t b) n → ⊥
unfit_in count (notice.Read number r) (body.Ask ask free) a o t said is asks stored counts fits =
    true≢false (sym (and_from (number == count) (is_answer ask r) (eq-eqb number count (fits.0 ∙ sym counts)) fits.1)
    ∙ not_if ((number == count) && is_answer ask r) _ is)
unfit_in count (notice.Taken number m) (body.Batch ops (Some tail) confirmed) a o t said is asks stored counts fits = differs count number said (not_if (number == count) _ is) counts fits
unfit_in count (notice.Taken number m) (body.Batch ops None confirmed) a o t said is asks stored counts fits = none-some a asks
unfit_in count (notice.Synced number) body.Sync a o t said is asks stored counts fits = differs count number said (not_if (number == count) _ is) counts fits
unfit_in count (notice.Fresh i al c) b a o t said is asks stored counts fits = true≢false stored
unfit_in count (notice.Down c before after) b a o t said is asks stored counts fits = true≢false stored
unfit_in count n b a o t said is asks stored counts fits = fits

-- Any other notice of the storage isn't.
pub others_fit_not : (count : ℕ) (a : Asked) (n : Notice) (b : Body) (o : Object) (t : OpenTask) (said : List Body)
    → answer_to count a n ≡ None → asked_in b ≡ Some a → is_end n ≡ false → count ≡ length said → FitsNotice said (waiting o t b) n → ⊥
others_fit_not count a n b o t said is asks stored counts =
    unfit_in count n b a o t said (ap (λ (x : Option Asked). answered count x n) asks ∙ is) asks stored counts

-- Where no task waits, no notice of the storage fits.
pub idle_fits_not : (n : Notice) (o : Object) (said : List Body) → is_end n ≡ false → FitsNotice said (idle o) n → ⊥
idle_fits_not (notice.Fresh i al c) o said stored fits = true≢false stored
idle_fits_not (notice.Down c before after) o said stored fits = true≢false stored
idle_fits_not n o said stored fits = fits

pub ended_fits_not : (n : Notice) (said : List Body) (e : Cause) → is_end n ≡ false → FitsNotice said (ended e) n → ⊥
ended_fits_not (notice.Fresh i al c) said e stored fits = true≢false stored
ended_fits_not (notice.Down c before after) said e stored fits = true≢false stored
ended_fits_not n said e stored fits = fits

-- What is logged of a notice that answers, and where it leads: to the object's step with the answer.
pub record Answers (k : Kind) (f : Front) (s : State) (n : Notice) (given : Answer) : Type 0 where
  pub takes : on_notice k f n ≡ on_stored k f f.mode given
  pub due : due_at (serves s) n ≡ []
  pub closes : closed_by f (serves s) (noticed n) ≡ []
  pub downs : downed_by f.incarnation (serves s) (noticed n) ≡ []
  pub ends : ends_by (serves s) (noticed n) ≡ []

pub answers_by : (k : Kind) (f : Front) (s : State) (count : ℕ) (a : Asked) (n : Notice) (given : Answer) → answer_to count a n ≡ Some given → Answers k f s n given
answers_by k f s count (asked.Read ask) (notice.Read number r) given is =
    record { takes = ap (on_stored k f f.mode) (cond_some ((number == count) && is_answer ask r) _ _ is).1; due = refl; closes = refl; downs = refl; ends = refl }
answers_by k f s count asked.Taken (notice.Taken number m) given is =
    record { takes = ap (on_stored k f f.mode) (cond_some (number == count) _ _ is).1; due = refl; closes = refl; downs = refl; ends = refl }
answers_by k f s count asked.Synced (notice.Synced number) given is =
    record { takes = ap (on_stored k f f.mode) (cond_some (number == count) _ _ is).1; due = refl; closes = refl; downs = refl; ends = refl }
answers_by k f s count a n given is = absurd (none-some given is)
