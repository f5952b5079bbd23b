-- The text is cut token by token.
use Rattle.std.proofs.Common.{◌≡◌, ◌≤◌, ℕ, List, [], ◌∷◌, ◌++◌, map, length, Option, Some, None, Result, Ok, Err, refl, sym, ◌∙◌, ap, subst, append_assoc}
use Rattle.std.specs.Prelude.{slice_range}
use Rattle.std.proofs.lemmas.List.{append-nil, map-append}
use Rattle.do_lex.specs.Cursor.{span_of}
use Rattle.do_lex.specs.Cut.{IsCut}
use Rattle.do_lex.specs.Next.{IsNext}
use Rattle.do_lex.specs.declared.pieces.Span.{Span}
use Rattle.do_lex.specs.declared.fault.LexFault.{LexFault}
use Rattle.do_lex.specs.declared.tokens.Token.{Token}
use Rattle.do_parse.specs.Cuts.{AreSlices, IsLexed}
use Rattle.do_parse.proofs.Top.{slices_more}

-- What is still cut goes on with these tokens.
abbrev pub GoesOn : List ℕ → ℕ → List Token → Type 0
GoesOn text at ts = (spans : List Span) (last : Option LexFault) → IsCut text at spans last → IsCut text 0 (map span_of ts ++ spans) last

pub cut_none : (text from : List ℕ) (at : ℕ) (ts : List Token) → from ≡ text → GoesOn text at ts → AreSlices text ts → IsNext from at (Ok None) → IsLexed text ts None
cut_none text from at ts h goes s n = record { cut = subst (λ xs. IsCut text 0 xs None) (append-nil (map span_of ts)) (goes [] None (subst (λ x. IsNext x at (Ok None)) h n)); slices = s }

pub cut_fault : (text from : List ℕ) (at : ℕ) (ts : List Token) (f : LexFault) → from ≡ text → GoesOn text at ts → AreSlices text ts → IsNext from at (Err f) → IsLexed text ts (Some f)
cut_fault text from at ts f h goes s n = record { cut = subst (λ xs. IsCut text 0 xs (Some f)) (append-nil (map span_of ts)) (goes [] (Some f) (subst (λ x. IsNext x at (Err f)) h n)); slices = s }

spans_more : (ts us : List Token) (t : Token) → us ≡ ts ++ t ∷ [] → map span_of us ≡ map span_of ts ++ span_of t ∷ []
spans_more ts us t h = ap (map span_of) h ∙ map-append span_of ts (t ∷ [])

pub cut_more : (text from : List ℕ) (at next : ℕ) (ts us : List Token) (t : Token) → from ≡ text → us ≡ ts ++ t ∷ [] → next ≡ t.end → GoesOn text at ts → IsNext from at (Ok (Some (span_of t))) → GoesOn text next us
cut_more text from at next ts us t h u e goes n spans last c =
    let one : IsCut text 0 (map span_of ts ++ span_of t ∷ spans) last = goes (span_of t ∷ spans) last (subst (λ x. IsNext x at (Ok (Some (span_of t)))) h n, subst (λ x. IsCut text x spans last) e c) in
    subst (λ xs. IsCut text 0 xs last) (sym (append_assoc (map span_of ts) (span_of t ∷ []) spans) ∙ ap (λ xs. xs ++ spans) (sym (spans_more ts us t u))) one

pub slices_on : (text from : List ℕ) (ts us : List Token) (t : Token) → from ≡ text → us ≡ ts ++ t ∷ [] → AreSlices text ts → t.text.now ≡ slice_range from t.at t.end → AreSlices text us
slices_on text from ts us t h u s e = subst (λ xs. AreSlices text xs) (sym u) (slices_more text ts t s (e ∙ ap (λ x. slice_range x t.at t.end) h))
