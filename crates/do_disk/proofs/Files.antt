-- The calls of a file that a sync makes, one behind another.
use Rattle.std.proofs.Common.{◌≡◌, ◌≤◌, ◌+◌, ◌-◌, min, ℕ, Bool, true, false, List, [], ◌∷◌, ◌++◌, length, Option, Some, None, Result, Ok, Err, is_ok, OnErr, refl, ap, sym, subst, ◌∙◌, append_assoc}
use Rattle.std.proofs.lemmas.List.{append-nil}
use Rattle.do_disk.specs.FileCalls.{FileCall, asked_length, read_range, wrote_range, with_all, with_one, Adds, Rewrites, not_read, not_written, written_again, SyncsAgain, not_measured, measured}

-- the bytes up to a place were written again, and what rewrites the rest makes the whole
abbrev pub HasRewritten : Option (List FileCall) → Option (List FileCall) → ℕ → ℕ → ℕ → Type 0
HasRewritten before now end from at =
    Adds before now (λ calls. (more : List FileCall) (done : Bool) → Rewrites end at more done → Rewrites end from (calls ++ more) done)

-- calls behind calls
pub with_all_more : (calls : Option (List FileCall)) (one more : List FileCall) → with_all (with_all calls one) more ≡ with_all calls (one ++ more)
with_all_more None one more = refl
with_all_more (Some each) one more = ap (λ (l : List FileCall). Some l) (append_assoc each one more)

-- no calls behind calls
pub with_none : (calls : Option (List FileCall)) → with_all calls [] ≡ calls
with_none None = refl
with_none (Some each) = ap (λ (l : List FileCall). Some l) (append-nil each)

-- what holds anyhow holds where there is an error
pub on_err : {T E P : Type 0} (r : Result T E) → P → OnErr r P
on_err (Ok x) p = tt
on_err (Err e) p = p

-- a read that fails ends it
pub cut_read : (before now : Option (List FileCall)) (at n : ℕ) → now ≡ with_one before (read_range at n None)
    → (end : ℕ) → at + n ≤ end → Adds before now (λ made. Rewrites end at made false)
cut_read before now at n h end le = (read_range at n None ∷ [], h, not_read at n le)

-- a read and a write behind it
pub both : (before mid now : Option (List FileCall)) (one other : FileCall) → mid ≡ with_one before one → now ≡ with_one mid other
    → now ≡ with_all before (one ∷ other ∷ [])
both before mid now one other h k = k ∙ ap (λ (o : Option (List FileCall)). with_one o other) h ∙ with_all_more before (one ∷ []) (other ∷ [])

-- a write that fails ends it
pub cut_write : {T E : Type 0} (before mid now : Option (List FileCall)) (at : ℕ) (bytes : List ℕ) (r : Result T E)
    → mid ≡ with_one before (read_range at (length bytes) (Some bytes)) → now ≡ with_one mid (wrote_range at bytes (is_ok r))
    → OnErr r ((end : ℕ) → at + length bytes ≤ end → Adds before now (λ made. Rewrites end at made false))
cut_write before mid now at bytes (Ok x) h k = tt
cut_write before mid now at bytes (Err e) h k =
    λ end le. (
      read_range at (length bytes) (Some bytes) ∷ wrote_range at bytes false ∷ [],
      both before mid now (read_range at (length bytes) (Some bytes)) (wrote_range at bytes false) h k,
      not_written at bytes le,
    )

-- a length that isn't given ends it
pub not_asked : (old now : Option (List FileCall)) (place before : ℕ) → now ≡ with_one old (asked_length None)
    → Adds old now (λ made. SyncsAgain place before made false)
not_asked old now place before h = (asked_length None ∷ [], h, not_measured)

-- a length that is given, and what rewrites up to it
pub asked : (old mid now : Option (List FileCall)) (place before end : ℕ) (done : Bool) → mid ≡ with_one old (asked_length (Some end))
    → Adds mid now (λ made. Rewrites end (min place end - before) made done) → Adds old now (λ made. SyncsAgain place before made done)
asked old mid now place before end done h k = (
  asked_length (Some end) ∷ k.0,
  k.1 ∙ ap (λ (o : Option (List FileCall)). with_all o k.0) h ∙ with_all_more old (asked_length (Some end) ∷ []) k.0,
  measured end k.0 done k.2,
)

-- nothing is rewritten yet
pub begins : (now : Option (List FileCall)) (end from : ℕ) → HasRewritten now now end from from
begins now end from = ([], sym (with_none now), λ more done r. r)

-- a further piece
pub goes_on : (before mid now : Option (List FileCall)) (end from at : ℕ) (bytes : List ℕ) → HasRewritten before mid end from at
    → now ≡ with_all mid (read_range at (length bytes) (Some bytes) ∷ wrote_range at bytes true ∷ []) → at + length bytes ≤ end
    → HasRewritten before now end from (at + length bytes)
goes_on before mid now end from at bytes h k le =
    let pair : List FileCall = read_range at (length bytes) (Some bytes) ∷ wrote_range at bytes true ∷ [] in (
      h.0 ++ pair,
      k ∙ ap (λ (o : Option (List FileCall)). with_all o pair) h.1 ∙ with_all_more before h.0 pair,
      λ more done r. subst (λ (l : List FileCall). Rewrites end from l done) (sym (append_assoc h.0 pair more))
          (h.2 (pair ++ more) done (written_again at bytes more done le r)),
    )

-- what rewrites the rest makes the whole
pub ends : (before mid now : Option (List FileCall)) (end from at : ℕ) (done : Bool) → HasRewritten before mid end from at
    → Adds mid now (λ made. Rewrites end at made done) → Adds before now (λ made. Rewrites end from made done)
ends before mid now end from at done h k = (
  h.0 ++ k.0,
  k.1 ∙ ap (λ (o : Option (List FileCall)). with_all o k.0) h.1 ∙ with_all_more before h.0 k.0,
  h.2 k.0 done k.2,
)
