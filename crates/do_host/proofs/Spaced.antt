-- A text of tokens with blanks between them is cut into these tokens.
use Rattle.std.proofs.Common.{◌≡◌, ◌+◌, ◌-◌, ◌≤◌, ℕ, Bool, true, false, cond, List, [], ◌∷◌, ◌++◌, length, take, drop, inl, Some, None, Ok, Err, refl, sym, ◌∙◌, ap, subst, arith, ltb, IsUtf8}
use Rattle.std.specs.Prelude.{◌==◌, ◌&&◌, not}
use Rattle.std.specs.Char.{is_ascii_digit}
use Rattle.std.specs.List.{list_all, slice_range}
use Rattle.std.specs.Str.Lossy.{utf8_valid_len}
use Rattle.std.proofs.Math.Seq.{drop-append_seam, take-append_seam}
use Rattle.std.proofs.lemmas.Bool.{false≢true, and_parts, le-ltb, ltb-true, not-true}
use Rattle.std.proofs.lemmas.Bool.Decides.{nat_tests}
use Rattle.std.proofs.lemmas.List.{append-nil, length-append, length-drop}
use Rattle.std.proofs.lemmas.Str.{IsUtf8-nil, utf8_valid_len-IsUtf8}
use Rattle.do_value.specs.Limits.{most_number}
use Rattle.do_lex.specs.Bytes.{is_blank, is_line_end, is_word_byte, is_word_start}
use Rattle.do_lex.specs.Cut.{IsCut}
use Rattle.do_lex.specs.Kind.{mark_text, word_kind}
use Rattle.do_lex.specs.Lexemes.{IsInside, IsNumber, IsWord, is_escape, number_value}
use Rattle.do_lex.specs.Lexemes.IsInside.{none, plain}
use Rattle.do_lex.specs.Next.{Answer, Gives, IsNext, IsSeparatorBy, opening_of, reach}
use Rattle.do_lex.specs.Next.Gives.{skip, here}
use Rattle.do_lex.specs.declared.kind.Kind.{Kind}
use Rattle.do_lex.specs.declared.kind.Kind.TheVariants as kind
use Rattle.do_lex.specs.declared.kind.Mark.{Mark}
use Rattle.do_lex.specs.declared.pieces.Span.{Span}
use Rattle.do_lex.specs.declared.fault.LexFault.TheVariants.{BadChar}
use Rattle.do_tree.specs.Accepts.{AreLexemes}
use Rattle.do_tree.specs.Lexeme.{Lexeme}
use Rattle.do_tree.specs.Print.{needs_space}
use Rattle.do_tree.proofs.Cuttable.{IsToken, edge_of, safe_kind}
use Rattle.do_tree.proofs.Cuttable.IsToken.{of_mark, of_number, of_text, of_word}
use Rattle.do_tree.proofs.Encoded.{ascii_then}
use Rattle.do_tree.proofs.Standing.{token_stands}
use Rattle.do_tree.proofs.Walked.{drop_drop}

-- A token as it is written: a mark, a word, a digit, or a text in double quotes.
pub data Written : Type 0 where
  mark : Mark → Written
  word : List ℕ → Written
  digit : ℕ → Written
  quoted : List ℕ → Written

abbrev pub kind_of : Written → Kind
kind_of (mark m) = kind.Mark m
kind_of (word text) = word_kind text
kind_of (digit d) = kind.Number
kind_of (quoted inside) = kind.Text

abbrev pub bytes_of : Written → List ℕ
bytes_of (mark m) = mark_text m
bytes_of (word text) = text
bytes_of (digit d) = (48 + d) ∷ []
bytes_of (quoted inside) = 34 ∷ (inside ++ 34 ∷ [])

-- an ASCII byte
abbrev pub is_small : ℕ → Bool
is_small b = ltb b 128

-- bytes of ASCII are UTF-8
pub ascii_so : (bytes : List ℕ) → list_all is_small bytes ≡ true → IsUtf8 bytes
ascii_so [] h = IsUtf8-nil
ascii_so (b ∷ bs) h = let p = and_parts (is_small b) (list_all is_small bs) h in ascii_then b bs (ltb-true b 128 p.0) (ascii_so bs p.1)

-- a byte that stands for itself between double quotes
abbrev is_plain : ℕ → Bool
is_plain b = not (b == 34) && (not (b == 92) && not (is_line_end b))

-- a word by its shape
abbrev is_shape : List ℕ → Bool
is_shape [] = false
is_shape (b ∷ bs) = is_word_start b && list_all is_word_byte bs

-- what is written is a token
abbrev pub is_token : Written → Bool
is_token (mark m) = true
is_token (word text) = is_shape text
is_token (digit d) = ltb d 10
is_token (quoted inside) = list_all is_plain inside && list_all is_small inside

word_so : (text : List ℕ) → is_shape text ≡ true → IsWord text
word_so [] h = absurd (false≢true h)
word_so (b ∷ bs) h = let p = and_parts (is_word_start b) (list_all is_word_byte bs) h in (p.0, p.1)

digit_so : (d : ℕ) → ltb d 10 ≡ true → IsNumber ((48 + d) ∷ [])
digit_so d h = let digit : is_ascii_digit (48 + d) ≡ true = grind (arith, nat_tests) in (digit, refl, λ _. refl)

value_so : (d : ℕ) → ltb d 10 ≡ true → number_value ((48 + d) ∷ []) ≤ most_number
value_so d h = grind (arith, nat_tests)

inside_so : (inside : List ℕ) → list_all is_plain inside ≡ true → IsInside 34 is_escape inside
inside_so [] h = none
inside_so (b ∷ bs) h =
    let p = and_parts (is_plain b) (list_all is_plain bs) h in
    let q = and_parts (not (b == 34)) (not (b == 92) && not (is_line_end b)) p.0 in
    let r = and_parts (not (b == 92)) (not (is_line_end b)) q.1 in
    plain (record { no_quote = not-true (b == 34) q.0; no_backslash = not-true (b == 92) r.0; no_line_end = not-true (is_line_end b) r.1 }) (inside_so bs p.1)

pub token_so : (w : Written) → is_token w ≡ true → IsToken (kind_of w) (bytes_of w)
token_so (mark m) h = of_mark m
token_so (word text) h = of_word (word_so text h)
token_so (digit d) h = of_number (digit_so d h) (value_so d h)
token_so (quoted inside) h =
    let p = and_parts (list_all is_plain inside) (list_all is_small inside) h in
    of_text (inl refl) (inside_so inside p.0) (ascii_so inside p.1)

-- A token, the blanks before it, and how many phrases hold it.
pub record Spaced : Type 0 where
  pub blanks : List ℕ
  pub token : Written
  pub inside : ℕ

-- The text of tokens, and of the blanks behind them.
abbrev pub text_of : List Spaced → List ℕ → List ℕ
text_of [] end = end
text_of (t ∷ ts) end = t.blanks ++ (bytes_of t.token ++ text_of ts end)

-- Where they stand from a place on, and the tokens themselves.
abbrev pub spans_from : ℕ → List Spaced → List Span
spans_from at [] = []
spans_from at (t ∷ ts) =
    let from = at + length t.blanks in
    let end = from + length (bytes_of t.token) in
    record { kind = kind_of t.token; at = from; end = end } ∷ spans_from end ts

abbrev pub lexemes_from : ℕ → List Spaced → List Lexeme
lexemes_from at [] = []
lexemes_from at (t ∷ ts) =
    let from = at + length t.blanks in
    record { kind = kind_of t.token; text = bytes_of t.token; at = from; inside = t.inside } ∷ lexemes_from (from + length (bytes_of t.token)) ts

-- Nothing but blanks stands between them, and no token joins what follows it.
abbrev pub are_apart : List Spaced → List ℕ → Bool
are_apart [] end = list_all is_blank end
are_apart (t ∷ ts) end =
    let more = text_of ts end in
    let k = kind_of t.token in
    (list_all is_blank t.blanks && is_token t.token) && ((not (needs_space (edge_of k) more) && safe_kind k more) && are_apart ts end)

-- blanks are skipped
blank_opens : (b : ℕ) (bs : List ℕ) → is_blank b ≡ true → IsSeparatorBy (opening_of (b ∷ bs)) (b ∷ bs) 1
blank_opens b bs h = rw h refl

behind_blanks : (blanks rest : List ℕ) (at : ℕ) (answer : Answer) → list_all is_blank blanks ≡ true → Gives rest (at + length blanks) answer → Gives (blanks ++ rest) at answer
behind_blanks [] rest at answer h g = let same : at + 0 ≡ at = omega arith in subst (λ n. Gives rest n answer) same g
behind_blanks (b ∷ bs) rest at answer h g =
    let p = and_parts (is_blank b) (list_all is_blank bs) h in
    let sum : at + length (b ∷ bs) ≡ at + 1 + length bs = omega arith in
    skip 1 (blank_opens b (bs ++ rest) p.0) (behind_blanks bs rest (at + 1) answer p.1 (subst (λ n. Gives rest n answer) sum g))

-- what is given is next in a text that is UTF-8
next_is : (text : List ℕ) (at : ℕ) (answer : Answer) → IsUtf8 text → Gives (drop at text) at answer → reach (length text) answer ≤ length text → IsNext text at answer
next_is text at answer u g h =
    let valid = utf8_valid_len-IsUtf8 text u in
    let low : ltb (utf8_valid_len text) (reach (length text) answer) ≡ false = le-ltb (utf8_valid_len text) (reach (length text) answer) (omega arith) in
    record { given = answer; gives = g; answer_is = ap (λ c. cond c (Err (BadChar (utf8_valid_len text))) answer) (sym low) }

-- The text is cut into these tokens from where they begin.
pub cut_so : (text : List ℕ) → IsUtf8 text → (ts : List Spaced) (end : List ℕ) → are_apart ts end ≡ true → (at : ℕ) → at ≤ length text → drop at text ≡ text_of ts end
    → IsCut text at (spans_from at ts) None × AreLexemes text (spans_from at ts) (lexemes_from at ts)
cut_so text u [] end apart at within h =
    let ended : Gives (end ++ []) at (Ok None) = behind_blanks end [] at (Ok None) apart (here refl) in
    (next_is text at (Ok None) u (subst (λ xs. Gives xs at (Ok None)) (append-nil end ∙ sym h) ended) (omega arith), tt)
cut_so text u (t ∷ ts) end apart at within h =
    let rest = text_of ts end in
    let k = kind_of t.token in
    let bytes = bytes_of t.token in
    let p = and_parts (list_all is_blank t.blanks && is_token t.token) ((not (needs_space (edge_of k) rest) && safe_kind k rest) && are_apart ts end) apart in
    let q = and_parts (list_all is_blank t.blanks) (is_token t.token) p.0 in
    let r = and_parts (not (needs_space (edge_of k) rest) && safe_kind k rest) (are_apart ts end) p.1 in
    let s = and_parts (not (needs_space (edge_of k) rest)) (safe_kind k rest) r.0 in
    let from = at + length t.blanks in
    let last = from + length bytes in
    let span : Span = record { kind = k; at = from; end = last } in
    let long : length text - at ≡ length t.blanks + (length bytes + length rest) =
    omega (arith, length-drop at text, ap length h, length-append t.blanks (bytes ++ rest), length-append bytes rest) in
    let in_text : last ≤ length text = omega (arith, long, within) in
    let front : drop from text ≡ bytes ++ rest = sym (drop_drop (length t.blanks) at text) ∙ ap (drop (length t.blanks)) h ∙ drop-append_seam t.blanks (bytes ++ rest) in
    let behind : drop last text ≡ rest = sym (drop_drop (length bytes) from text) ∙ ap (drop (length bytes)) front ∙ drop-append_seam bytes rest in
    let stands = token_stands (token_so t.token q.1) rest from (record { no_space = not-true (needs_space (edge_of k) rest) s.0; safe = s.1 }) in
    let gives : Gives (drop at text) at (Ok (Some span)) =
    subst (λ xs. Gives xs at (Ok (Some span))) (sym h) (behind_blanks t.blanks (bytes ++ rest) at (Ok (Some span)) q.0 (here stands)) in
    let more = cut_so text u ts end r.1 last in_text behind in
    let size : last - from ≡ length bytes = omega arith in
    let slice : bytes ≡ slice_range text from last = sym (take-append_seam bytes rest) ∙ (λ i. take (sym size i) (sym front i)) in
    ((next_is text at (Ok (Some span)) u gives in_text, more.0), (refl, refl, slice, more.1))
