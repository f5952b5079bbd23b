-- The tokens of a text, one after another, each with what follows it.
use Rattle.std.proofs.Common.{if◌then◌else◌, ◌||◌, ◌≡◌, ◌+◌, ◌-◌, ◌<◌, ◌≤◌, ℕ, zero, suc, Bool, true, false, cond, List, [], ◌∷◌, ◌++◌, length, take, drop, get_or, ⊎_elim, inl, inr, Option, Some, None, Ok, Err, refl, sym, ◌∙◌, ap, subst, arith, append_assoc, eqb, eqb-true, ltb, IsUtf8}
use Rattle.std.specs.List.{list_all, find, starts_with}
use Rattle.std.specs.Str.{is_utf8}
use Rattle.std.specs.Str.Lossy.{utf8_valid_len, valid_len_up_to}
use Rattle.std.proofs.Math.Seq.{drop-append_seam, get_or-append_seam, take-append_seam}
use Rattle.std.proofs.lemmas.Bool.{false≢true, and_parts, and_from}
use Rattle.std.proofs.lemmas.Bool.Decides.{nat_tests}
use Rattle.std.proofs.lemmas.List.{take-append-drop, length-append, length-take, length-take-le, take_all}
use Rattle.std.proofs.lemmas.Slice.Eq.{bytes_eq-Decides}
use Rattle.std.proofs.lemmas.Str.{IsCharBoundary-after_ascii, IsCharBoundary-before_ascii, IsUtf8-between, IsUtf8-from_is_utf8, IsUtf8-nil, utf8_valid_len_le}
use Rattle.do_lex.specs.Bytes.{is_letter_or_digit, is_quote, is_word_byte}
use Rattle.do_lex.specs.Cut.{IsCut}
use Rattle.do_lex.specs.Kind.{mark_at, mark_text, marks, word_kind}
use Rattle.do_value.specs.Limits.{most_number}
use Rattle.do_lex.specs.Lexemes.{IsInside, IsWord, is_escape, number_value}
use Rattle.do_lex.specs.Longest.{IsLongest}
use Rattle.do_lex.specs.Next.{Answer, Gives, IsNext, IsNumberAnswer, IsTextAnswer, IsWordAnswer, Stands, StandsBy, begins, mark_answer, reach, token, unless_malformed}
use Rattle.do_lex.specs.Next.Gives.{skip, here}
use Rattle.do_lex.specs.declared.kind.Kind.{Kind}
use Rattle.do_lex.specs.declared.kind.Kind.TheVariants as kind
use Rattle.do_lex.specs.declared.kind.Mark.{Mark}
use Rattle.do_lex.specs.declared.kind.Mark.TheVariants as mark
use Rattle.do_lex.specs.declared.pieces.Span.{Span}
use Rattle.do_lex.specs.declared.fault.LexFault.TheVariants.{BadChar, OpenText, LongNumber}
use Rattle.do_lex.proofs.Openings.{Opens, chosen, opens_by}
use Rattle.do_lex.proofs.Openings.{Opens as opens}
use Rattle.do_tree.specs.Accepts.{AreLexemes}
use Rattle.do_tree.specs.Lexeme.{Lexeme}
use Rattle.do_tree.specs.Print.{mark_edge, needs_space}
use Rattle.do_tree.proofs.Cuttable.{IsToken, edge_of, edge_word}
use Rattle.do_tree.proofs.Cuttable.IsToken.{of_mark, of_number, of_text, of_word}
use Rattle.do_tree.proofs.Spelled.{IsOneQuote}

-- The tokens of a text from a place on: bytes that are skipped, a token, which what follows doesn't join, and so on.
pub data Walk (text : List ℕ) : ℕ → List Lexeme → Type 0 where
  end : {at : ℕ} → Walk text at []
  step : {at : ℕ} {o : Lexeme} {os : List Lexeme} (gone : ℕ) → IsToken o.kind o.text
      → drop (at + gone) text ≡ o.text ++ drop (at + gone + length o.text) text
      → needs_space (edge_of o.kind) (drop (at + gone + length o.text) text) ≡ false
      → Walk text (at + gone + length o.text) os → Walk text at (o ∷ os)

-- A token at the front of bytes, which what follows doesn't join.
record IsCutSo (bytes : List ℕ) (at : ℕ) (span : Span) : Type 0 where
  size : ℕ
  within : size ≤ length bytes
  is_token : IsToken span.kind (take size bytes)
  start : span.at ≡ at
  stop : span.end ≡ at + size
  no_space : needs_space (edge_of span.kind) (drop size bytes) ≡ false

-- What stands between two quotes is UTF-8.
abbrev Between : List ℕ → Type 0
Between bytes = (q : ℕ) (inside rest : List ℕ) → bytes ≡ q ∷ (inside ++ q ∷ rest) → q < 128 → IsUtf8 inside

-- where the token of a kind stands
span_is : (k : Kind) (at n : ℕ) (span : Span) → Ok (Some span) ≡ token k at n → (span.kind ≡ k) × ((span.at ≡ at) × (span.end ≡ at + n))
span_is k at n span e =
    let same : span ≡ record { kind = k; at = at; end = at + n } = cc in
    (ap (λ (s : Span). s.kind) same, (ap (λ (s : Span). s.at) same, ap (λ (s : Span). s.end) same))

cut_so : (k : Kind) (bytes : List ℕ) (at n : ℕ) (span : Span) → Ok (Some span) ≡ token k at n → n ≤ length bytes → IsToken k (take n bytes)
    → needs_space (edge_of k) (drop n bytes) ≡ false → IsCutSo bytes at span
cut_so k bytes at n span e within t no_space =
    let s = span_is k at n span e in
    record {
      size = n;
      within = within;
      is_token = subst (λ x. IsToken x (take n bytes)) (sym s.0) t;
      start = s.1.0;
      stop = s.1.1;
      no_space = subst (λ x. needs_space (edge_of x) (drop n bytes) ≡ false) (sym s.0) no_space;
    }

-- a list and one more that passes
all_more : (p : ℕ → Bool) (xs : List ℕ) (b : ℕ) → list_all p xs ≡ true → p b ≡ true → list_all p (xs ++ b ∷ []) ≡ true
all_more p [] b h t = and_from (p b) true t refl
all_more p (x ∷ xs) b h t = let q = and_parts (p x) (list_all p xs) h in and_from (p x) (list_all p (xs ++ b ∷ [])) q.0 (all_more p xs b q.1 t)

word_more : (w : List ℕ) (b : ℕ) → IsWord w → is_word_byte b ≡ true → IsWord (w ++ b ∷ [])
word_more [] b h t = absurd h
word_more (x ∷ xs) b h t = (h.0, all_more is_word_byte xs b h.1 t)

-- no longer front is a word, so no word byte follows
longer_word : (bytes : List ℕ) (n b : ℕ) (bs : List ℕ) → IsLongest IsWord bytes n → drop n bytes ≡ b ∷ bs → is_word_byte b ≡ true → ⊥
longer_word bytes n b bs h e t =
    let w = take n bytes in
    let parts : bytes ≡ (w ++ b ∷ []) ++ bs = sym (take-append-drop n bytes) ∙ ap (λ xs. w ++ xs) e ∙ sym (append_assoc w (b ∷ []) bs) in
    let size : length (w ++ b ∷ []) ≡ n + 1 = omega (arith, length-append w (b ∷ []), length-take-le n bytes h.in_range) in
    let front : take (n + 1) bytes ≡ w ++ b ∷ [] = ap (λ k. take k bytes) (sym size) ∙ ap (take (length (w ++ b ∷ []))) parts ∙ take-append_seam (w ++ b ∷ []) bs in
    let within : n + 1 ≤ length bytes = omega (arith, ap length parts, length-append (w ++ b ∷ []) bs) in
    h.longest (n + 1) (omega arith) within (subst IsWord (sym front) (word_more w b h.holds t))

word_stops : (bytes : List ℕ) (n : ℕ) (rest : List ℕ) → IsLongest IsWord bytes n → drop n bytes ≡ rest → begins is_word_byte rest ≡ false
word_stops bytes n [] h e = refl
word_stops bytes n (b ∷ bs) h e = by (is_word_byte b) refl
  where
    by : (c : Bool) → is_word_byte b ≡ c → c ≡ false
    by false t = refl
    by true t = absurd (longer_word bytes n b bs h e t)

word_cut : (bytes : List ℕ) (at : ℕ) (span : Span) → IsWordAnswer bytes at (Ok (Some span)) → IsCutSo bytes at span
word_cut bytes at span h =
    let w = take h.n bytes in
    cut_so (word_kind w) bytes at h.n span h.answer_is h.longest.in_range (of_word h.longest.holds)
    (subst (λ e. needs_space e (drop h.n bytes) ≡ false) (sym (edge_word w)) (word_stops bytes h.n (drop h.n bytes) h.longest refl))

-- a number
not_more : (a b : ℕ) → ltb a b ≡ false → b ≤ a
not_more a b h = grind (arith, nat_tests)

number_cut : (bytes : List ℕ) (at : ℕ) (span : Span) → IsNumberAnswer bytes at (Ok (Some span)) → IsCutSo bytes at span
number_cut bytes at span h =
    let value = number_value (take h.n bytes) in
    let letter = begins is_letter_or_digit (drop h.n bytes) in
    ⊎_elim (λ (_, e). cc)
    (λ (small, e). ⊎_elim (λ (_, d). cc)
    (λ (no_letter, d). cut_so kind.Number bytes at h.n span (sym d) h.longest.in_range (of_number h.longest.holds (not_more most_number value small)) no_letter)
    (chosen letter (Err (BadChar (at + h.n))) (token kind.Number at h.n) (Ok (Some span)) e))
    (chosen (ltb most_number value) (Err (LongNumber at)) (cond letter (Err (BadChar (at + h.n))) (token kind.Number at h.n)) (Ok (Some span)) (sym h.answer_is))

-- a text
one_quote : (b : ℕ) → is_quote b ≡ true → IsOneQuote b
one_quote b h = by (eqb b 34) (eqb b 39) refl refl h
  where
    by : (c d : Bool) → eqb b 34 ≡ c → eqb b 39 ≡ d → (c || d) ≡ true → IsOneQuote b
    by true d e f g = inl (eqb-true b 34 e)
    by false true e f g = inr (eqb-true b 39 f)
    by false false e f g = absurd (false≢true g)

quote_small : (b : ℕ) → IsOneQuote b → b < 128
quote_small b (inl e) = omega arith
quote_small b (inr e) = omega arith

begins_so : (q : ℕ) (xs : List ℕ) → begins (λ c. eqb c q) xs ≡ true → (rest : List ℕ) × (xs ≡ q ∷ rest)
begins_so q [] h = absurd (false≢true h)
begins_so q (x ∷ xs) h = (xs, ap (λ c. c ∷ xs) (eqb-true x q h))

text_closed : (b : ℕ) (bs : List ℕ) (at good : ℕ) (span : Span) → IsOneQuote b → Between (b ∷ bs) → IsLongest (IsInside b is_escape) bs good
    → begins (λ c. eqb c b) (drop good bs) ≡ true → Ok (Some span) ≡ token kind.Text at (good + 2) → IsCutSo (b ∷ bs) at span
text_closed b bs at good span quote u longest closed e =
    let inside = take good bs in
    let behind = begins_so b (drop good bs) closed in
    let rest = behind.0 in
    let whole = b ∷ (inside ++ b ∷ []) in
    let seen : b ∷ bs ≡ b ∷ (inside ++ b ∷ rest) = ap (λ xs. b ∷ xs) (sym (take-append-drop good bs) ∙ ap (λ xs. inside ++ xs) behind.1) in
    let parts : b ∷ bs ≡ whole ++ rest = seen ∙ ap (λ xs. b ∷ xs) (sym (append_assoc inside (b ∷ []) rest)) in
    let size : length whole ≡ good + 2 = omega (arith, length-append inside (b ∷ []), length-take-le good bs longest.in_range) in
    let front : take (good + 2) (b ∷ bs) ≡ whole = ap (λ k. take k (b ∷ bs)) (sym size) ∙ ap (take (length whole)) parts ∙ take-append_seam whole rest in
    cut_so kind.Text (b ∷ bs) at (good + 2) span e (omega (arith, ap length parts, length-append whole rest, size))
    (subst (IsToken kind.Text) (sym front) (of_text quote longest.holds (u b inside rest seen (quote_small b quote)))) refl

text_cut : (b : ℕ) (bs : List ℕ) (at : ℕ) (span : Span) → IsOneQuote b → Between (b ∷ bs) → IsTextAnswer b bs at (Ok (Some span)) → IsCutSo (b ∷ bs) at span
text_cut b bs at span quote u h =
    ⊎_elim
    (λ (_, e). ⊎_elim (λ (closed, d). text_closed b bs at h.good span quote u h.longest_good closed (sym d)) (λ (_, d). cc)
    (chosen (begins (λ c. eqb c b) (drop h.good bs)) (token kind.Text at (h.good + 2)) (Err (BadChar (at + 1 + h.good))) (Ok (Some span)) e))
    (λ (_, e). cc)
    (chosen (begins (λ c. eqb c b) (drop h.n bs)) (cond (begins (λ c. eqb c b) (drop h.good bs)) (token kind.Text at (h.good + 2)) (Err (BadChar (at + 1 + h.good)))) (Err (OpenText at)) (Ok (Some span)) (sym h.answer_is))

-- a mark
find_passes : (p : Mark → Bool) (xs : List Mark) (m : Mark) → find p xs ≡ Some m → p m ≡ true
find_passes p [] m h = cc
find_passes p (x ∷ xs) m h =
    ⊎_elim (λ (t, e). let same : x ≡ m = cc in subst (λ z. p z ≡ true) same t) (λ (_, e). find_passes p xs m e) (chosen (p x) (Some x) (find p xs) (Some m) h)

mark_front : (bytes : List ℕ) (m : Mark) → mark_at bytes ≡ Some m → mark_text m ≡ take (length (mark_text m)) bytes
mark_front bytes m h = (bytes_eq-Decides (mark_text m) (take (length (mark_text m)) bytes)).0 (find_passes (λ k. starts_with eqb bytes (mark_text k)) marks m h)

minus_stops : (b c : ℕ) (cs : List ℕ) → mark_at (b ∷ c ∷ cs) ≡ Some mark.Minus → 45 ≡ b → (t : Bool) → eqb c 45 ≡ t → t ≡ false
minus_stops b c cs h e false t = refl
minus_stops b c cs h e true t =
    let next : c ≡ 45 = eqb-true c 45 t in
    let two : mark_at (45 ∷ 45 ∷ cs) ≡ Some mark.Minus = subst (λ x. mark_at (45 ∷ x ∷ cs) ≡ Some mark.Minus) next (subst (λ x. mark_at (x ∷ c ∷ cs) ≡ Some mark.Minus) (sym e) h) in
    cc

minus_no_space : (bytes : List ℕ) → mark_at bytes ≡ Some mark.Minus → begins (λ b. eqb b 45) (drop 1 bytes) ≡ false
minus_no_space [] h = refl
minus_no_space (b ∷ []) h = refl
minus_no_space (b ∷ c ∷ cs) h =
    let front : 45 ∷ [] ≡ b ∷ [] = mark_front (b ∷ c ∷ cs) mark.Minus h in
    let e : 45 ≡ b = cc in
    minus_stops b c cs h e (eqb c 45) refl

mark_no_space : (m : Mark) (bytes : List ℕ) → mark_at bytes ≡ Some m → needs_space (mark_edge m) (drop (length (mark_text m)) bytes) ≡ false
mark_no_space mark.Minus bytes h = minus_no_space bytes h
mark_no_space _ bytes h = refl

mark_cut : (bytes : List ℕ) (at : ℕ) (span : Span) (o : Option Mark) → mark_at bytes ≡ o → Ok (Some span) ≡ mark_answer o at → IsCutSo bytes at span
mark_cut bytes at span None is h = cc
mark_cut bytes at span (Some m) is h =
    let front = mark_front bytes m is in
    let within : length (mark_text m) ≤ length bytes = omega (arith, ap length front, length-take (length (mark_text m)) bytes) in
    cut_so (kind.Mark m) bytes at (length (mark_text m)) span h within (subst (IsToken (kind.Mark m)) front (of_mark m)) (mark_no_space m bytes is)

-- What stands at the front is cut so.
stands_cut : (b : ℕ) (bs : List ℕ) (at : ℕ) (span : Span) {o : _} → Opens b bs o → Between (b ∷ bs) → StandsBy o (b ∷ bs) at (Ok (Some span)) → IsCutSo (b ∷ bs) at span
stands_cut b bs at span (opens.blank t) u h = absurd h
stands_cut b bs at span (opens.quote t) u h = text_cut b bs at span (one_quote b t) u h
stands_cut b bs at span (opens.digit t) u h = number_cut (b ∷ bs) at span h
stands_cut b bs at span (opens.letter t) u h = word_cut (b ∷ bs) at span h
stands_cut b bs at span (opens.line e t) u h = absurd h
stands_cut b bs at span (opens.block e t) u h = let d = h.1 in cc
stands_cut b bs at span opens.other u h = mark_cut (b ∷ bs) at span (mark_at (b ∷ bs)) refl h

cut_here : (bytes : List ℕ) (at : ℕ) (span : Span) → Between bytes → Stands bytes at (Ok (Some span)) → IsCutSo bytes at span
cut_here [] at span u h = cc
cut_here (b ∷ bs) at span u h = stands_cut b bs at span (opens_by b bs) u h

-- What is given stands behind what is skipped.
pub drop_drop : (n m : ℕ) (xs : List ℕ) → drop n (drop m xs) ≡ drop (m + n) xs
drop_drop n zero xs = let e : zero + n ≡ n = omega arith in ap (λ k. drop k xs) (sym e)
drop_drop n (suc m) [] = drop_none n ∙ sym (drop_none (suc m + n))
  where
    drop_none : (k : ℕ) → drop {A = ℕ} k [] ≡ []
    drop_none zero = refl
    drop_none (suc k) = refl
drop_drop n (suc m) (x ∷ xs) = let e : suc m + n ≡ suc (m + n) = omega arith in drop_drop n m xs ∙ ap (λ k. drop k (x ∷ xs)) (sym e)

gives_stands : {bytes : List ℕ} {at : ℕ} {answer : Answer} → Gives bytes at answer → (k : ℕ) × Stands (drop k bytes) (at + k) answer
gives_stands {bytes} {at} {answer} (skip n s r) =
    let rest = gives_stands r in
    let sum : at + n + rest.0 ≡ at + (n + rest.0) = omega arith in
    (n + rest.0, subst (λ k. Stands (drop (n + rest.0) bytes) k answer) sum (subst (λ xs. Stands xs (at + n + rest.0) answer) (drop_drop rest.0 n bytes) rest.1))
gives_stands {bytes} {at} {answer} (here h) = let sum : at ≡ at + 0 = omega arith in (0, subst (λ k. Stands bytes k answer) sum h)

-- What comes next in a text is given, where it is no fault.
given_token : (text : List ℕ) (at : ℕ) (span : Span) → IsNext text at (Ok (Some span)) → Gives (drop at text) at (Ok (Some span))
given_token text at span n =
    ⊎_elim (λ (_, e). cc) (λ (_, e). subst (Gives (drop at text) at) e n.gives)
    (chosen (ltb (utf8_valid_len text) (reach (length text) n.given)) (Err (BadChar (utf8_valid_len text))) n.given (Ok (Some span)) (sym n.answer_is))

-- A text that is cut to its end is UTF-8.
valid_up_to : (bs : List ℕ) (n : ℕ) → IsUtf8 (take (valid_len_up_to bs n) bs)
valid_up_to bs zero = IsUtf8-nil
valid_up_to bs (suc n) = by (is_utf8 (take (suc n) bs)) refl (valid_up_to bs n)
  where
    by : (c : Bool) → is_utf8 (take (suc n) bs) ≡ c → IsUtf8 (take (valid_len_up_to bs n) bs) → IsUtf8 (take (if c then suc n else valid_len_up_to bs n) bs)
    by true e h = IsUtf8-from_is_utf8 (take (suc n) bs) e
    by false e h = h

end_valid : (text : List ℕ) (given : Answer) (at : ℕ) → Ok None ≡ unless_malformed text given → length text ≤ utf8_valid_len text
end_valid text given at h =
    ⊎_elim (λ (_, e). cc)
    (λ (t, e). not_more (utf8_valid_len text) (length text) (subst (λ a. ltb (utf8_valid_len text) (reach (length text) a) ≡ false) e t))
    (chosen (ltb (utf8_valid_len text) (reach (length text) given)) (Err (BadChar (utf8_valid_len text))) given (Ok None) (sym h))

cut_valid : (text : List ℕ) (at : ℕ) (spans : List Span) → IsCut text at spans None → length text ≤ utf8_valid_len text
cut_valid text at [] c = end_valid text c.given at c.answer_is
cut_valid text at (s ∷ ss) c = cut_valid text s.end ss c.1

pub cut_utf8 : (text : List ℕ) (at : ℕ) (spans : List Span) → IsCut text at spans None → IsUtf8 text
unfolding utf8_valid_len
cut_utf8 text at spans c =
    let whole : valid_len_up_to text (length text) ≡ length text = omega (arith, cut_valid text at spans c, utf8_valid_len_le text) in
    subst IsUtf8 (ap (λ k. take k text) whole ∙ take_all (length text) text (omega arith)) (valid_up_to text (length text))

-- Between two ASCII bytes a text is UTF-8.
between_utf8 : (text front inside rest : List ℕ) (q : ℕ) → text ≡ front ++ q ∷ (inside ++ q ∷ rest) → IsUtf8 text → q < 128 → IsUtf8 inside
between_utf8 text front inside rest q e u small =
    let i = length front in
    let j = i + 1 + length inside in
    let first : get_or text i 0 ≡ q = ap (λ xs. get_or xs i 0) e ∙ get_or-append_seam front q (inside ++ q ∷ rest) 0 in
    let again : text ≡ (front ++ q ∷ inside) ++ q ∷ rest = e ∙ sym (append_assoc front (q ∷ inside) (q ∷ rest)) in
    let size : length (front ++ q ∷ inside) ≡ j = omega (arith, length-append front (q ∷ inside)) in
    let last : get_or text j 0 ≡ q = ap (λ k. get_or text k 0) (sym size) ∙ ap (λ xs. get_or xs (length (front ++ q ∷ inside)) 0) again ∙ get_or-append_seam (front ++ q ∷ inside) q rest 0 in
    let long : length text ≡ i + 1 + length inside + 1 + length rest =
    omega (arith, ap length e, length-append front (q ∷ (inside ++ q ∷ rest)), length-append inside (q ∷ rest)) in
    let after = IsCharBoundary-after_ascii text i u (omega (arith, long)) (omega (arith, first, small)) in
    let before = IsCharBoundary-before_ascii text j (omega (arith, long)) (omega (arith, last, small)) in
    let back : drop (i + 1) text ≡ inside ++ q ∷ rest =
    ap (drop (i + 1)) (e ∙ sym (append_assoc front (q ∷ []) (inside ++ q ∷ rest)))
    ∙ ap (λ k. drop k ((front ++ q ∷ []) ++ (inside ++ q ∷ rest))) (one_longer front q) ∙ drop-append_seam (front ++ q ∷ []) (inside ++ q ∷ rest) in
    let n : j - (i + 1) ≡ length inside = omega arith in
    subst IsUtf8 (ap (λ k. take k (drop (i + 1) text)) n ∙ ap (take (length inside)) back ∙ take-append_seam inside (q ∷ rest))
    (IsUtf8-between text (i + 1) j u (omega arith) after before)
  where
    one_longer : (xs : List ℕ) (x : ℕ) → length xs + 1 ≡ length (xs ++ x ∷ [])
    one_longer xs x = omega (arith, length-append xs (x ∷ []))

-- The tokens of a text that is cut to its end.
pub walk : (text : List ℕ) → IsUtf8 text → (at : ℕ) (spans : List Span) (ts : List Lexeme) → IsCut text at spans None → AreLexemes text spans ts → Walk text at ts
walk text u at [] [] c a = end
walk text u at [] (t ∷ ts) c a = absurd a
walk text u at (s ∷ ss) [] c a = absurd a
walk text u at (s ∷ ss) (t ∷ ts) c a =
    let g = gives_stands (given_token text at s c.0) in
    let k = g.0 in
    let here = at + k in
    let bytes = drop here text in
    let stands : Stands bytes here (Ok (Some s)) = subst (λ xs. Stands xs here (Ok (Some s))) (drop_drop k at text) g.1 in
    let between : Between bytes = λ q inside rest e small. between_utf8 text (take here text) inside rest q (sym (take-append-drop here text) ∙ ap (λ xs. take here text ++ xs) e) u small in
    let cut = cut_here bytes here s between stands in
    let size : s.end - s.at ≡ cut.size = omega (arith, cut.start, cut.stop) in
    let bytes_are : t.text ≡ take cut.size bytes = a.2 ∙ (λ i. take (size i) (drop (cut.start i) text)) in
    let long : length t.text ≡ cut.size = ap length bytes_are ∙ length-take-le cut.size bytes cut.within in
    let last : s.end ≡ here + length t.text = omega (arith, cut.stop, long) in
    let behind : drop cut.size bytes ≡ drop (here + length t.text) text = drop_drop cut.size here text ∙ ap (λ n. drop (here + n) text) (sym long) in
    step k
    (subst (λ x. IsToken x t.text) (sym a.0) (subst (IsToken s.kind) (sym bytes_are) cut.is_token))
    (sym (take-append-drop cut.size bytes) ∙ (λ i. sym bytes_are i ++ behind i))
    (subst (λ x. needs_space (edge_of x) (drop (here + length t.text) text) ≡ false) (sym a.0) (subst (λ xs. needs_space (edge_of s.kind) xs ≡ false) behind cut.no_space))
    (subst (λ n. Walk text n ts) last (walk text u s.end ss ts c.1 a.3))
