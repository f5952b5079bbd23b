-- The printed tokens are cut out of the printed text, which is no longer than a text with the same tree.
use Rattle.std.proofs.Common.{if◌then◌else◌, ◌==◌, ◌≡◌, ◌+◌, ◌-◌, ◌<◌, ◌≤◌, ℕ, Bool, true, false, cond, List, [], ◌∷◌, ◌++◌, length, take, drop, inl, inr, Some, None, Ok, Err, refl, sym, ◌∙◌, ap, subst, arith, ltb, IsUtf8}
use Rattle.std.specs.Char.{is_ascii_digit}
use Rattle.std.specs.List.{list_all, slice_range}
use Rattle.std.specs.Str.Lossy.{utf8_valid_len}
use Rattle.std.proofs.Math.Seq.{drop-append_seam, take-append_seam}
use Rattle.std.proofs.lemmas.Bool.{false≢true, and_parts}
use Rattle.std.proofs.lemmas.Bool.Decides.{nat_tests}
use Rattle.std.proofs.lemmas.List.{length-append, length-drop}
use Rattle.std.proofs.lemmas.Str.{IsUtf8-append, IsUtf8-nil, utf8_valid_len-IsUtf8}
use Rattle.do_lex.specs.Bytes.{is_word_byte, is_word_start}
use Rattle.do_lex.specs.Cut.{IsCut}
use Rattle.do_lex.specs.Kind.{mark_text}
use Rattle.do_lex.specs.Lexemes.{IsNumber, IsWord}
use Rattle.do_lex.specs.Next.{Answer, Gives, IsNext, Stands, begins, reach, token}
use Rattle.do_lex.specs.Next.Gives.{skip, here}
use Rattle.do_lex.specs.declared.kind.Kind.{Kind}
use Rattle.do_lex.specs.declared.kind.Kind.TheVariants as kind
use Rattle.do_lex.specs.declared.kind.Mark.{Mark}
use Rattle.do_lex.specs.declared.kind.Mark.TheVariants as mark
use Rattle.do_lex.specs.declared.pieces.Span.{Span}
use Rattle.do_lex.specs.declared.fault.LexFault.TheVariants.{BadChar}
use Rattle.do_tree.specs.Accepts.{AreLexemes}
use Rattle.do_tree.specs.Lexeme.{Lexeme}
use Rattle.do_tree.specs.Print.{gap, needs_space, text_behind}
use Rattle.do_tree.specs.declared.print_word.Edge.{Edge}
use Rattle.do_tree.specs.declared.print_word.Edge.TheVariants as edge
use Rattle.do_tree.proofs.Cuttable.{Apart, IsToken, is_safe, safe_kind}
use Rattle.do_tree.proofs.Cuttable.IsToken.{of_mark, of_number, of_text, of_word}
use Rattle.do_tree.proofs.Encoded.{ascii_then}
use Rattle.do_tree.proofs.Fitting.{Fits, kept_fits}
use Rattle.do_tree.proofs.Respelled.{Bare, Respelled, bare_kind_starts, bare_starts, calm, expects, pieces, placed, starts_mark}
use Rattle.do_tree.proofs.Respelled.Respelled.{none, keep, comma}
use Rattle.do_tree.proofs.Spelled.{IsOneQuote}
use Rattle.do_tree.proofs.Standing.{token_stands}
use Rattle.do_tree.proofs.Walked.{Walk, drop_drop}
use Rattle.do_tree.proofs.Walked.Walk.{end, step}

-- Printed tokens, of which none joins the next.
pub data Sound : List Bare → Type 0 where
  nothing : Sound []
  more : {b : Bare} {bs : List Bare} → Fits b → calm b.kind bs ≡ true → Sound bs → Sound (b ∷ bs)

pub sound : (text : List ℕ) (at : ℕ) {ts : List Lexeme} {bs : List Bare} → Walk text at ts → Respelled ts bs → Sound bs
sound text at end none = nothing
sound text at (step {o = o} {os = os} gone t e n w) (keep {b = b} k c r) = more (kept_fits o b k t) c (sound text (at + gone + length o.text) w r)
sound text at (step {o = o} {os = os} gone t e n w) (comma e₁ c r) = sound text (at + gone + length o.text) w r

-- a token has a first byte
some_mark : (m : Mark) → ltb 0 (length (mark_text m)) ≡ true
some_mark m = elim m as (λ k. ltb 0 (length (mark_text k)) ≡ true) [ mark.Same ↦ refl | _ ↦ refl ]

less_so : (n : ℕ) → ltb 0 n ≡ true → 0 < n
less_so n h = grind (arith, nat_tests)

pub token_some : {k : Kind} {t : List ℕ} → IsToken k t → 0 < length t
token_some (of_mark m) = less_so (length (mark_text m)) (some_mark m)
token_some (of_word {text} w) = word_some text w
  where
    word_some : (t : List ℕ) → IsWord t → 0 < length t
    word_some [] w = absurd w
    word_some (b ∷ bs) w = omega arith
token_some (of_number {text} w s) = number_some text w
  where
    number_some : (t : List ℕ) → IsNumber t → 0 < length t
    number_some [] w = absurd w
    number_some (b ∷ bs) w = omega arith
token_some (of_text q x u) = omega arith

pub needs_front : (e : Edge) (t ys : List ℕ) → 0 < length t → needs_space e (t ++ ys) ≡ needs_space e t
needs_front e [] ys h = absurd (omega (arith, h))
needs_front edge.Word (x ∷ xs) ys h = refl
needs_front edge.Number (x ∷ xs) ys h = refl
needs_front edge.Minus (x ∷ xs) ys h = refl
needs_front edge.Other (x ∷ xs) ys h = refl

needs_nothing : (e : Edge) → needs_space e [] ≡ false
needs_nothing edge.Word = refl
needs_nothing edge.Number = refl
needs_nothing edge.Minus = refl
needs_nothing edge.Other = refl

needs_blank : (e : Edge) (ys : List ℕ) → needs_space e (32 ∷ ys) ≡ false
needs_blank edge.Word ys = refl
needs_blank edge.Number ys = refl
needs_blank edge.Minus ys = refl
needs_blank edge.Other ys = refl

-- no token is joined by what is printed behind it
gap_apart : (e : Edge) (t ys : List ℕ) → 0 < length t → (c : Bool) → needs_space e t ≡ c → needs_space e ((if c then 32 ∷ [] else []) ++ (t ++ ys)) ≡ false
gap_apart e t ys some true h = needs_blank e (t ++ ys)
gap_apart e t ys some false h = needs_front e t ys some ∙ h

behind_apart : (e : Edge) (bs : List Bare) → Sound bs → needs_space e (text_behind e (pieces bs)) ≡ false
behind_apart e [] s = needs_nothing e
behind_apart e (b ∷ bs) (more f c s) = gap_apart e b.text (text_behind b.edge (pieces bs)) (token_some f.is_token) (needs_space e b.text) refl

-- what an expression begins with joins no mark but a minus
start_safe : (m : Mark) → (if starts_mark m then begins is_safe (mark_text m) else true) ≡ true
start_safe m = elim m as (λ k. (if starts_mark k then begins is_safe (mark_text k) else true) ≡ true) [ mark.Same ↦ refl | _ ↦ refl ]

eqb-so : (a b : ℕ) → (a == b) ≡ true → a ≡ b
eqb-so a b h = grind (arith, nat_tests)

letter_safe : (b : ℕ) → is_word_start b ≡ true → is_safe b ≡ true
letter_safe b h = by (b == 61) (b == 62) (b == 43) (b == 47) (b == 42) (b == 63) refl refl refl refl refl refl
  where
    by : (a c d e f g : Bool) → (b == 61) ≡ a → (b == 62) ≡ c → (b == 43) ≡ d → (b == 47) ≡ e → (b == 42) ≡ f → (b == 63) ≡ g
        → (if a then false else (if c then false else (if d then false else (if e then false else (if f then false else (if g then false else true)))))) ≡ true
    by true c d e f g p q r s t u = absurd (false≢true (ap is_word_start (sym (eqb-so b 61 p)) ∙ h))
    by false true d e f g p q r s t u = absurd (false≢true (ap is_word_start (sym (eqb-so b 62 q)) ∙ h))
    by false false true e f g p q r s t u = absurd (false≢true (ap is_word_start (sym (eqb-so b 43 r)) ∙ h))
    by false false false true f g p q r s t u = absurd (false≢true (ap is_word_start (sym (eqb-so b 47 s)) ∙ h))
    by false false false false true g p q r s t u = absurd (false≢true (ap is_word_start (sym (eqb-so b 42 t)) ∙ h))
    by false false false false false true p q r s t u = absurd (false≢true (ap is_word_start (sym (eqb-so b 63 u)) ∙ h))
    by false false false false false false p q r s t u = refl

digit_safe : (b : ℕ) → is_ascii_digit b ≡ true → is_safe b ≡ true
digit_safe b h = by (b == 61) (b == 62) (b == 43) (b == 47) (b == 42) (b == 63) refl refl refl refl refl refl
  where
    by : (a c d e f g : Bool) → (b == 61) ≡ a → (b == 62) ≡ c → (b == 43) ≡ d → (b == 47) ≡ e → (b == 42) ≡ f → (b == 63) ≡ g
        → (if a then false else (if c then false else (if d then false else (if e then false else (if f then false else (if g then false else true)))))) ≡ true
    by true c d e f g p q r s t u = absurd (false≢true (ap is_ascii_digit (sym (eqb-so b 61 p)) ∙ h))
    by false true d e f g p q r s t u = absurd (false≢true (ap is_ascii_digit (sym (eqb-so b 62 q)) ∙ h))
    by false false true e f g p q r s t u = absurd (false≢true (ap is_ascii_digit (sym (eqb-so b 43 r)) ∙ h))
    by false false false true f g p q r s t u = absurd (false≢true (ap is_ascii_digit (sym (eqb-so b 47 s)) ∙ h))
    by false false false false true g p q r s t u = absurd (false≢true (ap is_ascii_digit (sym (eqb-so b 42 t)) ∙ h))
    by false false false false false true p q r s t u = absurd (false≢true (ap is_ascii_digit (sym (eqb-so b 63 u)) ∙ h))
    by false false false false false false p q r s t u = refl

mark_safe : (m : Mark) (c : Bool) → starts_mark m ≡ c → c ≡ true → begins is_safe (mark_text m) ≡ true
mark_safe m true h e = sym (ap (λ t. if t then begins is_safe (mark_text m) else true) h) ∙ start_safe m
mark_safe m false h e = absurd (false≢true e)

word_safe : (t : List ℕ) → IsWord t → begins is_safe t ≡ true
word_safe [] w = absurd w
word_safe (b ∷ bs) w = letter_safe b w.0

number_safe : (t : List ℕ) → IsNumber t → begins is_safe t ≡ true
number_safe [] w = absurd w
number_safe (b ∷ bs) w = digit_safe b w.0

token_safe : {k : Kind} {t : List ℕ} → IsToken k t → bare_kind_starts k ≡ true → begins is_safe t ≡ true
token_safe (of_mark m) h = mark_safe m (starts_mark m) refl h
token_safe (of_word {text} w) h = word_safe text w
token_safe (of_number {text} w s) h = number_safe text w
token_safe (of_text {q} {inside} (inl e) x u) h = ap is_safe e
token_safe (of_text {q} {inside} (inr e) x u) h = ap is_safe e

safe_front : (t ys : List ℕ) → begins is_safe t ≡ true → begins is_safe (t ++ ys) ≡ true
safe_front [] ys h = absurd (false≢true h)
safe_front (x ∷ xs) ys h = h

gap_safe : (t ys : List ℕ) (c : Bool) → begins is_safe t ≡ true → begins is_safe ((if c then 32 ∷ [] else []) ++ (t ++ ys)) ≡ true
gap_safe t ys true h = refl
gap_safe t ys false h = safe_front t ys h

behind_safe : (e : Edge) (bs : List Bare) → Sound bs → bare_starts bs ≡ true → begins is_safe (text_behind e (pieces bs)) ≡ true
behind_safe e [] s h = absurd (false≢true h)
behind_safe e (b ∷ bs) (more f c s) h = gap_safe b.text (text_behind b.edge (pieces bs)) (needs_space e b.text) (token_safe f.is_token h)

calm_safe : (k : Kind) (e : Edge) (bs : List Bare) → Sound bs → calm k bs ≡ true → safe_kind k (text_behind e (pieces bs)) ≡ true
calm_safe kind.Word e bs s h = refl
calm_safe kind.Number e bs s h = refl
calm_safe kind.Text e bs s h = refl
calm_safe (kind.Keyword k) e bs s h = refl
calm_safe (kind.Mark m) e bs s h = by (expects m) h
  where
    by : (c : Bool) → (if c then bare_starts bs else true) ≡ true → (if c then begins is_safe (text_behind e (pieces bs)) else true) ≡ true
    by true g = behind_safe e bs s g
    by false g = refl

apart : (b : Bare) (bs : List Bare) → Fits b → calm b.kind bs ≡ true → Sound bs → Apart b.kind (text_behind b.edge (pieces bs))
apart b bs f c s = record {
  no_space = subst (λ e. needs_space e (text_behind b.edge (pieces bs)) ≡ false) f.edge_is (behind_apart b.edge bs s);
  safe = calm_safe b.kind b.edge bs s c;
}

-- What is printed is UTF-8.
all_small : (xs : List ℕ) → list_all (λ b. ltb b 128) xs ≡ true → IsUtf8 xs
all_small [] h = IsUtf8-nil
all_small (x ∷ xs) h = let p = and_parts (ltb x 128) (list_all (λ b. ltb b 128) xs) h in ascii_then x xs (less_128 x p.0) (all_small xs p.1)
  where
    less_128 : (x : ℕ) → ltb x 128 ≡ true → x < 128
    less_128 x h = grind (arith, nat_tests)

small_mark : (m : Mark) → list_all (λ b. ltb b 128) (mark_text m) ≡ true
small_mark m = elim m as (λ k. list_all (λ b. ltb b 128) (mark_text k) ≡ true) [ mark.Same ↦ refl | _ ↦ refl ]

word_byte_small : (b : ℕ) → is_word_byte b ≡ true → b < 128
word_byte_small b h = grind (arith, nat_tests)

letter_small : (b : ℕ) → is_word_start b ≡ true → b < 128
letter_small b h = grind (arith, nat_tests)

digit_small : (b : ℕ) → is_ascii_digit b ≡ true → b < 128
digit_small b h = grind (arith, nat_tests)

passing_utf8 : (p : ℕ → Bool) → ((b : ℕ) → p b ≡ true → b < 128) → (xs : List ℕ) → list_all p xs ≡ true → IsUtf8 xs
passing_utf8 p small [] h = IsUtf8-nil
passing_utf8 p small (x ∷ xs) h = let q = and_parts (p x) (list_all p xs) h in ascii_then x xs (small x q.0) (passing_utf8 p small xs q.1)

word_utf8 : (t : List ℕ) → IsWord t → IsUtf8 t
word_utf8 [] w = absurd w
word_utf8 (b ∷ bs) w = ascii_then b bs (letter_small b w.0) (passing_utf8 is_word_byte word_byte_small bs w.1)

number_utf8 : (t : List ℕ) → IsNumber t → IsUtf8 t
number_utf8 [] w = absurd w
number_utf8 (b ∷ bs) w = ascii_then b bs (digit_small b w.0) (passing_utf8 is_ascii_digit digit_small bs w.1)

quote_128 : (q : ℕ) → IsOneQuote q → q < 128
quote_128 q (inl e) = omega arith
quote_128 q (inr e) = omega arith

token_utf8 : {k : Kind} {t : List ℕ} → IsToken k t → IsUtf8 t
token_utf8 (of_mark m) = all_small (mark_text m) (small_mark m)
token_utf8 (of_word {text} w) = word_utf8 text w
token_utf8 (of_number {text} w s) = number_utf8 text w
token_utf8 (of_text {q} {inside} quote x u) =
    ascii_then q (inside ++ q ∷ []) (quote_128 q quote) (IsUtf8-append inside (q ∷ []) u (ascii_then q [] (quote_128 q quote) IsUtf8-nil))

gap_utf8 : (c : Bool) → IsUtf8 (if c then 32 ∷ [] else [])
gap_utf8 true = ascii_then 32 [] (omega arith) IsUtf8-nil
gap_utf8 false = IsUtf8-nil

pub sound_utf8 : (e : Edge) (bs : List Bare) → Sound bs → IsUtf8 (text_behind e (pieces bs))
sound_utf8 e [] s = IsUtf8-nil
sound_utf8 e (b ∷ bs) (more f c s) =
    let rest = text_behind b.edge (pieces bs) in
    IsUtf8-append (gap e b.text) (b.text ++ rest) (gap_utf8 (needs_space e b.text)) (IsUtf8-append b.text rest (token_utf8 f.is_token) (sound_utf8 b.edge bs s))

-- The places of the printed tokens.
abbrev pub text_from : List Bare → List ℕ
text_from [] = []
text_from (b ∷ bs) = b.text ++ text_behind b.edge (pieces bs)

abbrev pub place_in : List ℕ → List Bare → ℕ
place_in text bs = length text - length (text_from bs)

-- A space or nothing.
abbrev pub blanks : Bool → List ℕ
blanks c = if c then 32 ∷ [] else []

-- What is given behind a space or at once.
gives_behind : (k : Kind) (t rest : List ℕ) (at : ℕ) (c : Bool) → ((from : ℕ) → Stands (t ++ rest) from (token k from (length t)))
    → Gives ((if c then 32 ∷ [] else []) ++ (t ++ rest)) at (token k (at + length (blanks c)) (length t))
gives_behind k t rest at true h = skip 1 refl (here (h (at + 1)))
gives_behind k t rest at false h =
    let same : at ≡ at + 0 = omega arith in
    subst (λ n. Gives (t ++ rest) at (token k n (length t))) same (here (h at))

no_less : (a b : ℕ) → b ≤ a → ltb a b ≡ false
no_less a b h = grind (arith, nat_tests)

-- What is given is next in a text that is UTF-8.
next_is : (text : List ℕ) (at : ℕ) (answer : Answer) → IsUtf8 text → Gives (drop at text) at answer → reach (length text) answer ≤ length text → IsNext text at answer
next_is text at answer u g h =
    let valid = utf8_valid_len-IsUtf8 text u in
    let low : ltb (utf8_valid_len text) (reach (length text) answer) ≡ false = no_less (utf8_valid_len text) (reach (length text) answer) (omega arith) in
    record { given = answer; gives = g; answer_is = ap (λ c. cond c (Err (BadChar (utf8_valid_len text))) answer) (sym low) }

pub record Recut (text : List ℕ) (at : ℕ) (bs : List Bare) : Type 0 where
  pub spans : List Span
  pub cut : IsCut text at spans None
  pub are : AreLexemes text spans (placed (place_in text) bs)

pub recut : (text : List ℕ) → IsUtf8 text → (e : Edge) (bs : List Bare) → Sound bs → (at : ℕ) → at ≤ length text → drop at text ≡ text_behind e (pieces bs) → Recut text at bs
recut text u e [] s at within h = record {
  spans = [];
  cut = next_is text at (Ok None) u (subst (λ xs. Gives xs at (Ok None)) (sym h) (here refl)) (omega arith);
  are = tt;
}
recut text u e (b ∷ bs) (more f c s) at within h =
    let rest = text_behind b.edge (pieces bs) in
    let blank = gap e b.text in
    let from = at + length blank in
    let last = from + length b.text in
    let span : Span = record { kind = b.kind; at = from; end = last } in
    let long : length text - at ≡ length blank + (length b.text + length rest) =
    omega (arith, length-drop at text, ap length h, length-append blank (b.text ++ rest), length-append b.text rest) in
    let in_text : last ≤ length text = omega (arith, long, within) in
    let front : drop from text ≡ b.text ++ rest = sym (drop_drop (length blank) at text) ∙ ap (drop (length blank)) h ∙ drop-append_seam blank (b.text ++ rest) in
    let behind : drop last text ≡ rest = sym (drop_drop (length b.text) from text) ∙ ap (drop (length b.text)) front ∙ drop-append_seam b.text rest in
    let gives : Gives (drop at text) at (Ok (Some span)) =
    subst (λ xs. Gives xs at (Ok (Some span))) (sym h) (gives_behind b.kind b.text rest at (needs_space e b.text) (λ n. token_stands f.is_token rest n (apart b bs f c s))) in
    let more_cut = recut text u b.edge bs s last in_text behind in
    let size : last - from ≡ length b.text = omega arith in
    let place : place_in text (b ∷ bs) ≡ from = omega (arith, long, within, length-append b.text rest) in
    let bytes : b.text ≡ slice_range text from last = sym (take-append_seam b.text rest) ∙ (λ i. take (sym size i) (sym front i)) in
    record {
      spans = span ∷ more_cut.spans;
      cut = (next_is text at (Ok (Some span)) u gives in_text, more_cut.cut);
      are = (refl, place, bytes, more_cut.are);
    }
