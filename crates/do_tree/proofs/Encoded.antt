-- What is printed is UTF-8.
use Rattle.std.proofs.Common.{if◌then◌else◌, ◌==◌, ◌||◌, ◌≡◌, ◌<◌, ◌≤◌, ℕ, suc, Bool, true, false, List, [], ◌∷◌, ◌++◌, length, get_or, inl, inr, refl, sym, ◌∙◌, ap, subst, arith, append_assoc, append-nil, eqb-true, IsUtf8}
use Rattle.std.proofs.lemmas.Bool.{false≢true, and_parts, cases_lt}
use Rattle.std.proofs.lemmas.Bool.Decides.{nat_tests}
use Rattle.std.proofs.lemmas.Str.{IsUtf8-append, IsUtf8-encode, IsUtf8-nil, char_from_byte, encode_ascii, inside_one}
use lib.Utf8.{scalar, scalars, encode, encodes, low_scalar}
use Rattle.do_lex.specs.Lexemes.{IsInside, escaped, is_escape, text_value}
use Rattle.do_lex.specs.Lexemes.IsInside.{plain, escape}
use Rattle.do_tree.specs.Print.{text_of_byte, text_of_bytes}
use Rattle.do_tree.proofs.Escaped.{Byte, byte_is}
use Rattle.do_tree.proofs.Escaped.Byte.{slashed, lf, cr, itself}
use Rattle.do_tree.proofs.Spelled.{IsOneQuote, value_plain}

pub ascii_then : (x : ℕ) (xs : List ℕ) → x < 128 → IsUtf8 xs → IsUtf8 (x ∷ xs)
ascii_then x xs small u = IsUtf8-append (x ∷ []) xs (subst IsUtf8 (encode_ascii x small) (IsUtf8-encode x (low_scalar x (omega arith)))) u

-- bytes of which none is ASCII
data AllHigh : List ℕ → Type 0 where
  no_more : AllHigh []
  one_more : {x : ℕ} {xs : List ℕ} → 128 ≤ x → AllHigh xs → AllHigh (x ∷ xs)

high_from : (xs : List ℕ) → ((k : ℕ) → k < length xs → 128 ≤ get_or xs k 0) → AllHigh xs
high_from [] h = no_more
high_from (x ∷ xs) h = one_more (h 0 (omega arith)) (high_from xs (λ k below. h (suc k) (omega arith)))

high_char : (c : ℕ) → 128 ≤ c → AllHigh (encode c)
high_char c big = high_from (encode c) (λ k below. elim (cases_lt (get_or (encode c) k 0) 128) [
  | inl low ↦ absurd (omega (arith, inside_one c [] (encode c) k (sym (append-nil _)) below low))
  | inr h ↦ h
])

-- A text between quotes, as it is printed.
slash_small : (q b : ℕ) → IsOneQuote q → ((b == 92) || (b == q)) ≡ true → b < 128
slash_small q b (inl e) h = grind (arith, nat_tests)
slash_small q b (inr e) h = grind (arith, nat_tests)

high_byte : (q x : ℕ) → IsOneQuote q → 128 ≤ x → Byte q x → text_of_byte q x ≡ x ∷ []
high_byte q x quote big (slashed e g) = absurd (omega (arith, slash_small q x quote g))
high_byte q x quote big (lf e g) = absurd (omega arith)
high_byte q x quote big (cr e g) = absurd (omega arith)
high_byte q x quote big (itself e p) = e

high_bytes : (q : ℕ) (xs : List ℕ) → IsOneQuote q → AllHigh xs → text_of_bytes q xs ≡ xs
high_bytes q [] quote h = refl
high_bytes q (x ∷ xs) quote (one_more big h) =
    let one = high_byte q x quote big (byte_is q x) in
    let rest = high_bytes q xs quote h in
    λ i. one i ++ rest i

low_byte : (q b : ℕ) → b < 128 → Byte q b → IsUtf8 (text_of_byte q b)
low_byte q b small (slashed e g) = subst IsUtf8 (sym e) (ascii_then 92 (b ∷ []) (omega arith) (ascii_then b [] small IsUtf8-nil))
low_byte q b small (lf e g) = subst IsUtf8 (sym e) (ascii_then 92 (110 ∷ []) (omega arith) (ascii_then 110 [] (omega arith) IsUtf8-nil))
low_byte q b small (cr e g) = subst IsUtf8 (sym e) (ascii_then 92 (114 ∷ []) (omega arith) (ascii_then 114 [] (omega arith) IsUtf8-nil))
low_byte q b small (itself e p) = subst IsUtf8 (sym e) (ascii_then b [] small IsUtf8-nil)

bytes-append : (q : ℕ) (xs ys : List ℕ) → text_of_bytes q (xs ++ ys) ≡ text_of_bytes q xs ++ text_of_bytes q ys
bytes-append q [] ys = refl
bytes-append q (x ∷ xs) ys = ap (λ l. text_of_byte q x ++ l) (bytes-append q xs ys) ∙ sym (append_assoc (text_of_byte q x) (text_of_bytes q xs) (text_of_bytes q ys))

one_char : (q c : ℕ) → IsOneQuote q → scalar c ≡ true → IsUtf8 (text_of_bytes q (encode c))
one_char q c quote ok = elim (cases_lt c 128) [
  | inl small ↦ subst (λ l. IsUtf8 (text_of_bytes q l)) (sym (encode_ascii c small)) (subst IsUtf8 (sym (append-nil (text_of_byte q c))) (low_byte q c small (byte_is q c)))
  | inr big ↦ subst IsUtf8 (sym (high_bytes q (encode c) quote (high_char c big))) (IsUtf8-encode c ok)
]

all_chars : (q : ℕ) (cs : List ℕ) → IsOneQuote q → scalars cs ≡ true → IsUtf8 (text_of_bytes q (encodes cs))
all_chars q [] quote e = IsUtf8-nil
all_chars q (c ∷ cs) quote e =
    let p = and_parts (scalar c) (scalars cs) e in
    subst IsUtf8 (sym (bytes-append q (encode c) (encodes cs)))
    (IsUtf8-append (text_of_bytes q (encode c)) (text_of_bytes q (encodes cs)) (one_char q c quote p.0) (all_chars q cs quote p.1))

pub IsUtf8-printed : (q : ℕ) (bytes : List ℕ) → IsOneQuote q → IsUtf8 bytes → IsUtf8 (text_of_bytes q bytes)
IsUtf8-printed q bytes quote u = subst (λ l. IsUtf8 (text_of_bytes q l)) u.1.1 (all_chars q u.0 quote u.1.0)

-- What a text between quotes stands for.
high_not : (x : ℕ) → 128 ≤ x → (x == 92) ≡ false
high_not x h = grind (arith, nat_tests)

high_value : {xs : List ℕ} (ys : List ℕ) → AllHigh xs → text_value (xs ++ ys) ≡ xs ++ text_value ys
high_value ys no_more = refl
high_value ys (one_more {x} {xs} big h) = value_plain x (xs ++ ys) (high_not x big) ∙ ap (λ l. x ∷ l) (high_value ys h)

-- the inside of a text behind a byte that is no backslash
behind_plain : (q b : ℕ) (bs : List ℕ) → (b == 92) ≡ false → IsInside q is_escape (b ∷ bs) → IsInside q is_escape bs
behind_plain q b bs h (plain p x) = x
behind_plain q _ _ h (escape {b} {e} {bs} t g x) = absurd (false≢true (sym h ∙ ap (λ c. c == 92) t))

behind_high : (q : ℕ) {xs : List ℕ} (ys : List ℕ) → AllHigh xs → IsInside q is_escape (xs ++ ys) → IsInside q is_escape ys
behind_high q ys no_more x = x
behind_high q ys (one_more {x} {xs} big h) y = behind_high q ys h (behind_plain q x (xs ++ ys) (high_not x big) y)

-- an escape is ASCII
escape_small : (e : ℕ) → is_escape e ≡ true → (e < 128) × (escaped e < 128)
escape_small e h = by (e == 110) (e == 114) (e == 116) refl refl refl
  where
    small : e < 128
    small = grind (arith, nat_tests)

    by : (a b c : Bool) → (e == 110) ≡ a → (e == 114) ≡ b → (e == 116) ≡ c → (e < 128) × (escaped e < 128)
    by true b c x y z = (small, subst (λ k. escaped k < 128) (sym (eqb-true e 110 x)) (omega arith))
    by false true c x y z = (small, subst (λ k. escaped k < 128) (sym (eqb-true e 114 y)) (omega arith))
    by false false true x y z = (small, subst (λ k. escaped k < 128) (sym (eqb-true e 116 z)) (omega arith))
    by false false false x y z = (small, subst (λ k. k < 128) (sym (λ i. if x i then 10 else (if y i then 13 else (if z i then 9 else e)))) small)

-- a text that begins with an ASCII byte begins with that character
char_first : (c : ℕ) (bs : List ℕ) (e : ℕ) (rest : List ℕ) → encode c ++ bs ≡ e ∷ rest → e < 128 → c ≡ e
char_first c bs e rest same small = char_from_byte (e ∷ rest) bs c (sym same) small (omega arith)

char_rest : (c : ℕ) (bs : List ℕ) (e : ℕ) (rest : List ℕ) → encode c ++ bs ≡ e ∷ rest → e < 128 → bs ≡ rest
char_rest c bs e rest same small =
    let first = char_first c bs e rest same small in
    let alone : encode c ≡ e ∷ [] = ap encode first ∙ encode_ascii e small in
    let both : e ∷ bs ≡ e ∷ rest = ap (λ l. l ++ bs) (sym alone) ∙ same in
    cc

-- what the characters of a text stand for, and those behind the next
abbrev Valued : ℕ → List ℕ → Type 0
Valued q cs = IsInside q is_escape (encodes cs) → IsUtf8 (text_value (encodes cs))

abbrev Later : ℕ → List ℕ → Type 0
Later q [] = Unit {0}
Later q (d ∷ ds) = Valued q ds

-- what stands behind a backslash in the inside of a text
data Escaping (q : ℕ) (bs : List ℕ) : Type 0 where
  escaping : (e : ℕ) (rest : List ℕ) → bs ≡ e ∷ rest → is_escape e ≡ true → IsInside q is_escape rest → Escaping q bs

behind_slash : (q b : ℕ) (bs : List ℕ) → b ≡ 92 → IsInside q is_escape (b ∷ bs) → Escaping q bs
behind_slash q b bs s (plain p x) = absurd (false≢true (sym p.no_backslash ∙ ap (λ c. c == 92) s))
behind_slash q _ _ s (escape {b} {e} {bs} t g x) = escaping e bs refl g x

-- a backslash and an escape
slash_value : (q : ℕ) (cs : List ℕ) → Later q cs → IsInside q is_escape (92 ∷ encodes cs) → IsUtf8 (text_value (92 ∷ encodes cs))
slash_value q [] later x = ascii_then 92 [] (omega arith) IsUtf8-nil
slash_value q (d ∷ ds) later x = by (behind_slash q 92 (encode d ++ encodes ds) refl x)
  where
    escape_value : (e : ℕ) (rest : List ℕ) → encode d ++ encodes ds ≡ e ∷ rest → is_escape e ≡ true → IsInside q is_escape rest → IsUtf8 (text_value (92 ∷ (encode d ++ encodes ds)))
    escape_value e rest same g y =
        let small = escape_small e g in
        let first : d ≡ e = char_first d (encodes ds) e rest same small.0 in
        let tail : encodes ds ≡ rest = char_rest d (encodes ds) e rest same small.0 in
        subst (λ l. IsUtf8 (text_value (92 ∷ l))) (sym same)
        (ascii_then (escaped e) (text_value rest) small.1 (subst (λ l. IsUtf8 (text_value l)) tail (later (subst (IsInside q is_escape) (sym tail) y))))

    by : Escaping q (encode d ++ encodes ds) → IsUtf8 (text_value (92 ∷ (encode d ++ encodes ds)))
    by (escaping e rest same g y) = escape_value e rest same g y

-- one character more
char_value : (q c : ℕ) (cs : List ℕ) → scalar c ≡ true → Valued q cs → Later q cs → IsInside q is_escape (encode c ++ encodes cs) → IsUtf8 (text_value (encode c ++ encodes cs))
char_value q c cs ok now later x = elim (cases_lt c 128) [
  | inl small ↦ subst (λ l. IsUtf8 (text_value (l ++ encodes cs))) (sym (encode_ascii c small)) (low (c == 92) refl small (subst (λ l. IsInside q is_escape (l ++ encodes cs)) (encode_ascii c small) x))
  | inr big ↦ let high = high_char c big in subst IsUtf8 (sym (high_value (encodes cs) high)) (IsUtf8-append (encode c) (text_value (encodes cs)) (IsUtf8-encode c ok) (now (behind_high q (encodes cs) high x)))
]
  where
    low : (t : Bool) → (c == 92) ≡ t → c < 128 → IsInside q is_escape (c ∷ encodes cs) → IsUtf8 (text_value (c ∷ encodes cs))
    low true e small y =
        let same : c ≡ 92 = eqb-true c 92 e in
        subst (λ k. IsUtf8 (text_value (k ∷ encodes cs))) (sym same) (slash_value q cs later (subst (λ k. IsInside q is_escape (k ∷ encodes cs)) same y))
    low false e small y = subst IsUtf8 (sym (value_plain c (encodes cs) e)) (ascii_then c (text_value (encodes cs)) small (now (behind_plain q c (encodes cs) e y)))

chars_value : (q : ℕ) (cs : List ℕ) → scalars cs ≡ true → Valued q cs
chars_value q [] e x = IsUtf8-nil
chars_value q (c ∷ []) e x = char_value q c [] (and_parts (scalar c) true e).0 (λ _. IsUtf8-nil) tt x
chars_value q (c ∷ d ∷ ds) e x =
    let p = and_parts (scalar c) (scalars (d ∷ ds)) e in
    let r = and_parts (scalar d) (scalars ds) p.1 in
    char_value q c (d ∷ ds) p.0 (λ y. chars_value q (d ∷ ds) p.1 y) (λ y. chars_value q ds r.1 y) x

pub IsUtf8-value : (q : ℕ) (inside : List ℕ) → IsUtf8 inside → IsInside q is_escape inside → IsUtf8 (text_value inside)
IsUtf8-value q inside u x = subst (λ l. IsUtf8 (text_value l)) u.1.1 (chars_value q u.0 u.1.0 (subst (IsInside q is_escape) (sym u.1.1) x))
