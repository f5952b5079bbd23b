-- What is printed for a token is a token, and no longer.
use Rattle.std.proofs.Common.{◌≡◌, ◌+◌, ◌-◌, ◌<◌, ◌≤◌, ◌^◌, ℕ, Bool, true, false, List, [], ◌∷◌, ◌++◌, length, take, drop, ◌⊎◌, ⊎_elim, inl, inr, Option, Some, None, refl, sym, ◌∙◌, ap, subst, arith, IsUtf8}
use Rattle.std.specs.Char.{is_ascii_digit}
use Rattle.std.specs.List.{list_all, find}
use Rattle.std.specs.Str.{bytes_eq}
use Rattle.std.proofs.lemmas.Bool.{false≢true, and_from, and_parts, or_left}
use Rattle.std.proofs.lemmas.Fmt.{decimal-digits_value}
use Rattle.std.proofs.lemmas.List.{length-append}
use Rattle.std.proofs.lemmas.Slice.Eq.{bytes_eq-Decides}
use Rattle.do_lex.specs.Bytes.{is_word_byte, is_word_start}
use Rattle.do_lex.specs.Kind.{keyword_of, keyword_text, keywords, kind_of, mark_text, word_kind}
use Rattle.do_value.specs.Limits.{most_number}
use Rattle.do_lex.specs.Lexemes.{IsInside, IsNumber, IsWord, escaped, is_escape, number_value, text_value}
use Rattle.do_lex.specs.Lexemes.IsInside.{none, plain, escape}
use Rattle.do_lex.specs.declared.kind.Kind.{Kind}
use Rattle.do_lex.specs.declared.kind.Kind.TheVariants as kind
use Rattle.do_lex.specs.declared.kind.Keyword.{Keyword}
use Rattle.do_lex.specs.declared.kind.Keyword.TheVariants as key
use Rattle.do_lex.specs.declared.kind.Mark.{Mark}
use Rattle.do_lex.proofs.Openings.{chosen}
use Rattle.do_tree.specs.Lexeme.{Lexeme, text_of}
use Rattle.do_tree.specs.Print.{digits_text, is_word, needs_space, quote_of, text_of_bytes}
use Rattle.do_tree.specs.declared.print_word.Edge.{Edge}
use Rattle.do_tree.specs.declared.print_word.Edge.TheVariants as edge
use Rattle.do_tree.proofs.Cuttable.{IsToken, edge_of, edge_word}
use Rattle.do_tree.proofs.Cuttable.IsToken.{of_mark, of_number, of_text, of_word}
use Rattle.do_tree.proofs.Encoded.{IsUtf8-printed, IsUtf8-value}
use Rattle.do_tree.proofs.Escaped.{inside_printed, length_printed, length_quoted}
use Rattle.do_tree.proofs.Numbers.{digits_are, own}
use Rattle.do_tree.proofs.Respelled.{Bare, Kept, word_kind_is}
use Rattle.do_tree.proofs.Respelled.Kept.{kept_mark, kept_key, kept_name, kept_any, kept_no_word, kept_number, kept_text, kept_word_key}
use Rattle.do_tree.proofs.Spelled.{IsOneQuote, between_quotes, quote_is, value_plain}

-- keywords are words of their kind
keyword_word : (k : Keyword) → IsWord (keyword_text k)
keyword_word k = elim k as (λ j. IsWord (keyword_text j)) [ key.Import ↦ (refl, refl) | _ ↦ (refl, refl) ]

keyword_kind : (k : Keyword) → word_kind (keyword_text k) ≡ kind.Keyword k
keyword_kind k = elim k as (λ j. word_kind (keyword_text j) ≡ kind.Keyword j) [ key.Import ↦ refl | _ ↦ refl ]

keyword_token : (k : Keyword) → IsToken (kind.Keyword k) (keyword_text k)
keyword_token k = subst (λ x. IsToken x (keyword_text k)) (keyword_kind k) (of_word (keyword_word k))

-- What a token of each kind is.
mark_in : {k : Kind} {t : List ℕ} {m : Mark} → IsToken k t → k ≡ kind.Mark m → mark_text m ≡ t
mark_in {m = m} (of_mark n) e = let same : m ≡ n = cc in ap mark_text same
mark_in (of_word {text} w) e = elim (word_kind_is text) [ inl a ↦ cc | inr a ↦ let b = a.1 in cc ]
mark_in (of_number w s) e = cc
mark_in (of_text q x u) e = cc

number_in : {k : Kind} {t : List ℕ} → IsToken k t → k ≡ kind.Number → IsNumber t × (number_value t ≤ most_number)
number_in (of_mark m) e = cc
number_in (of_word {text} w) e = elim (word_kind_is text) [ inl a ↦ cc | inr a ↦ let b = a.1 in cc ]
number_in (of_number w s) e = (w, s)
number_in (of_text q x u) e = cc

word_in : {k : Kind} {t : List ℕ} → IsToken k t → (k ≡ kind.Word) ⊎ ((w : Keyword) × (k ≡ kind.Keyword w)) → IsWord t × (word_kind t ≡ k)
word_in (of_mark m) (inl e) = cc
word_in (of_mark m) (inr e) = let d = e.1 in cc
word_in (of_word w) e = (w, refl)
word_in (of_number w s) (inl e) = cc
word_in (of_number w s) (inr e) = let d = e.1 in cc
word_in (of_text q x u) (inl e) = cc
word_in (of_text q x u) (inr e) = let d = e.1 in cc

record TextIn (t : List ℕ) : Type 0 where
  q : ℕ
  inside : List ℕ
  quote : IsOneQuote q
  is_inside : IsInside q is_escape inside
  utf8 : IsUtf8 inside
  whole : t ≡ q ∷ (inside ++ q ∷ [])

text_in : {k : Kind} {t : List ℕ} → IsToken k t → k ≡ kind.Text → TextIn t
text_in (of_mark m) e = cc
text_in (of_word {text} w) e = elim (word_kind_is text) [ inl a ↦ cc | inr a ↦ let b = a.1 in cc ]
text_in (of_number w s) e = cc
text_in (of_text {q} {inside} quote x u) e = record { q = q; inside = inside; quote = quote; is_inside = x; utf8 = u; whole = refl }

-- what the text of a token stands for
text_bytes : (o : Lexeme) (t : TextIn o.text) → text_of o ≡ text_value t.inside
text_bytes o t = ap (λ xs. text_value (take (length xs - 2) (drop 1 xs))) t.whole ∙ ap text_value (between_quotes t.q t.inside)

-- the two words for the shape of a word
word_is : (t : List ℕ) → IsWord t → is_word t ≡ true
word_is [] w = absurd w
word_is (b ∷ bs) w =
    and_from (is_word_start b) (list_all is_word_byte (b ∷ bs)) w.0 (and_from (is_word_byte b) (list_all is_word_byte bs) (or_left (is_word_start b) (is_ascii_digit b) w.0) w.1)

is_word_so : (t : List ℕ) → is_word t ≡ true → IsWord t
is_word_so [] h = absurd (false≢true h)
is_word_so (b ∷ bs) h =
    let p = and_parts (is_word_start b) (list_all is_word_byte (b ∷ bs)) h in
    (p.0, (and_parts (is_word_byte b) (list_all is_word_byte bs) p.1).1)

-- the digits of a number's value
digits_back : (t : List ℕ) → IsNumber t → number_value t ≤ most_number → digits_text (number_value t) ≡ t
digits_back [] w small = absurd w
digits_back (b ∷ bs) w small =
    let v = number_value (b ∷ bs) in
    let fits : v < 2 ^ 64 = omega arith in
    sym (digits_are v fits)
    ∙ decimal-digits_value own (b ∷ bs) (and_from (is_ascii_digit b) (list_all is_ascii_digit bs) w.0 w.1) (omega arith) (λ z. let alone : bs ≡ [] = w.2 z in omega (arith, ap length alone)) fits

-- What is printed is a token, and ends as its kind does.
pub record Fits (b : Bare) : Type 0 where
  pub is_token : IsToken b.kind b.text
  pub edge_is : b.edge ≡ edge_of b.kind

word_edge : (k : Kind) → (k ≡ kind.Word) ⊎ ((w : Keyword) × (k ≡ kind.Keyword w)) → edge.Word ≡ edge_of k
word_edge k (inl e) = sym (ap edge_of e)
word_edge k (inr e) = sym (ap edge_of e.1)

pub kept_fits : (o : Lexeme) (b : Bare) → Kept o b → IsToken o.kind o.text → Fits b
kept_fits o _ (kept_mark {m = m} e i) t = record { is_token = of_mark m; edge_is = refl }
kept_fits o _ (kept_key {k = k} e i) t = record { is_token = keyword_token k; edge_is = refl }
kept_fits o _ (kept_name e te i) t = record { is_token = subst (IsToken kind.Word) (sym te) (subst (λ x. IsToken x o.text) e t); edge_is = refl }
kept_fits o _ (kept_any h te i) t = record { is_token = subst (IsToken o.kind) (sym te) t; edge_is = word_edge o.kind h }
kept_fits o _ (kept_no_word h te w i) t = absurd (false≢true (sym w ∙ ap is_word te ∙ word_is o.text (word_in t h).0))
kept_fits o _ (kept_number {n = n} e ne i) t =
    let p = number_in t e in
    let same : digits_text n ≡ o.text = ap digits_text ne ∙ digits_back o.text p.0 p.1 in
    record { is_token = subst (IsToken kind.Number) (sym same) (of_number p.0 p.1); edge_is = refl }
kept_fits o _ (kept_text {bytes = bytes} e be i) t =
    let x = text_in t e in
    let value : bytes ≡ text_value x.inside = be ∙ text_bytes o x in
    let quote = quote_is _ in
    record {
      is_token = of_text quote (inside_printed (quote_of bytes) bytes quote) (IsUtf8-printed (quote_of bytes) bytes quote (subst IsUtf8 (sym value) (IsUtf8-value x.q x.inside x.utf8 x.is_inside)));
      edge_is = refl;
    }
kept_fits o _ (kept_word_key {bytes = bytes} e be w i) t = record { is_token = of_word (is_word_so bytes w); edge_is = sym (edge_word bytes) }

-- What is printed is the same; or it needs no space and is no longer; or it is shorter by two.
pub data Shorter (o : Lexeme) (b : Bare) : Type 0 where
  same_text : b.text ≡ o.text → b.edge ≡ edge_of o.kind → Shorter o b
  no_longer : ((e : Edge) → needs_space e b.text ≡ false) → length b.text ≤ length o.text → b.edge ≡ edge_of o.kind → Shorter o b
  by_two : length b.text + 2 ≤ length o.text → Shorter o b

find_passes : (p : Keyword → Bool) (xs : List Keyword) (k : Keyword) → find p xs ≡ Some k → p k ≡ true
find_passes p [] k h = cc
find_passes p (x ∷ xs) k h =
    ⊎_elim (λ (t, e). let same : x ≡ k = cc in subst (λ z. p z ≡ true) same t) (λ (_, e). find_passes p xs k e) (chosen (p x) (Some x) (find p xs) (Some k) h)

keyword_some : (o : Option Keyword) (k : Keyword) → kind_of o ≡ kind.Keyword k → o ≡ Some k
keyword_some None k h = cc
keyword_some (Some j) k h = let same : j ≡ k = cc in ap (λ x. Some x) same

keyword_in : {x : Kind} {t : List ℕ} {k : Keyword} → IsToken x t → x ≡ kind.Keyword k → keyword_text k ≡ t
keyword_in {t = t} {k = k} h e =
    let w = word_in h (inr (k, e)) in
    let found : keyword_of t ≡ Some k = keyword_some (keyword_of t) k (w.1 ∙ e) in
    (bytes_eq-Decides (keyword_text k) t).0 (find_passes (λ j. bytes_eq (keyword_text j) t) keywords k found)

quote_no_space : (e : Edge) (q : ℕ) (xs : List ℕ) → IsOneQuote q → needs_space e (q ∷ xs) ≡ false
quote_no_space edge.Word q xs (inl e) = ap (λ c. needs_space edge.Word (c ∷ xs)) e
quote_no_space edge.Word q xs (inr e) = ap (λ c. needs_space edge.Word (c ∷ xs)) e
quote_no_space edge.Number q xs (inl e) = ap (λ c. needs_space edge.Number (c ∷ xs)) e
quote_no_space edge.Number q xs (inr e) = ap (λ c. needs_space edge.Number (c ∷ xs)) e
quote_no_space edge.Minus q xs (inl e) = ap (λ c. needs_space edge.Minus (c ∷ xs)) e
quote_no_space edge.Minus q xs (inr e) = ap (λ c. needs_space edge.Minus (c ∷ xs)) e
quote_no_space edge.Other q xs h = refl

length_value : (q : ℕ) {inside : List ℕ} → IsInside q is_escape inside → length (text_value inside) ≤ length inside
length_value q none = omega arith
length_value q (plain {b} {bs} p x) =
    let value : text_value (b ∷ bs) ≡ b ∷ text_value bs = value_plain b bs p.no_backslash in
    let rest = length_value q x in
    omega (arith, ap length value, rest)
length_value q (escape {b} {e} {bs} s g x) =
    let value : text_value (b ∷ e ∷ bs) ≡ escaped e ∷ text_value bs = ap (λ c. text_value (c ∷ e ∷ bs)) s in
    let rest = length_value q x in
    omega (arith, ap length value, rest)

pub kept_shorter : (o : Lexeme) (b : Bare) → Kept o b → IsToken o.kind o.text → Shorter o b
kept_shorter o _ (kept_mark {m = m} e i) t = same_text (mark_in t e) (sym (ap edge_of e))
kept_shorter o _ (kept_key {k = k} e i) t = same_text (keyword_in t e) (sym (ap edge_of e))
kept_shorter o _ (kept_name e te i) t = same_text te (sym (ap edge_of e))
kept_shorter o _ (kept_any h te i) t = same_text te (word_edge o.kind h)
kept_shorter o _ (kept_no_word h te w i) t = absurd (false≢true (sym w ∙ ap is_word te ∙ word_is o.text (word_in t h).0))
kept_shorter o _ (kept_number {n = n} e ne i) t =
    let p = number_in t e in
    same_text (ap digits_text ne ∙ digits_back o.text p.0 p.1) (sym (ap edge_of e))
kept_shorter o _ (kept_text {bytes = bytes} e be i) t =
    let x = text_in t e in
    let value : bytes ≡ text_value x.inside = be ∙ text_bytes o x in
    let own = quote_is _ in
    let printed = text_of_bytes (quote_of bytes) bytes in
    let least : length printed ≤ length (text_of_bytes x.q bytes) = length_quoted bytes x.q x.quote own in
    let most = length_printed x.q x.is_inside in
    no_longer (λ d. quote_no_space d (quote_of bytes) (printed ++ quote_of bytes ∷ []) own)
    (omega (arith, least, most, ap (λ xs. length (text_of_bytes x.q xs)) value, ap length x.whole, length-append printed (quote_of bytes ∷ []), length-append x.inside (x.q ∷ [])))
    (sym (ap edge_of e))
kept_shorter o _ (kept_word_key {bytes = bytes} e be w i) t =
    let x = text_in t e in
    let value : bytes ≡ text_value x.inside = be ∙ text_bytes o x in
    by_two (omega (arith, ap length value, length_value x.q x.is_inside, ap length x.whole, length-append x.inside (x.q ∷ [])))
