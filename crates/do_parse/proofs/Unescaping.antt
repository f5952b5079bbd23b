-- What a text stands for is UTF-8, where the text is.
use Rattle.std.proofs.Common.{if◌then◌else◌, ◌≡◌, ◌≢◌, ◌==◌, ◌+◌, ◌<◌, ◌≤◌, ℕ, zero, suc, Bool, true, false, List, [], ◌∷◌, ◌++◌, length, ◌⊎◌, inl, inr, refl, sym, ◌∙◌, ap, subst, arith, ltb, ltb-true, IsUtf8}
use Rattle.std.proofs.Math.Utf8.{scalar, scalars, encode, encodes}
use Rattle.std.proofs.lemmas.Bool.{and_parts, and_from}
use Rattle.std.proofs.lemmas.Bool.Decides.{nat_tests}
use Rattle.std.proofs.lemmas.List.{append-nil}
use Rattle.std.proofs.lemmas.Str.{IsUtf8-append, IsUtf8-from_ascii, IsUtf8-nil, encode_ascii}
use Rattle.std.specs.Str.{IsAscii}
use Rattle.do_lex.specs.Lexemes.{escaped, text_value}
use Rattle.do_parse.proofs.Escapes.{first_escape, first_plain}

-- a byte that isn't a backslash stands for itself, and so do many
abbrev NoBackslash : List ℕ → Type 0
NoBackslash [] = Unit {0}
NoBackslash (b ∷ bs) = (b ≢ 92) × NoBackslash bs

text_value-plain : (ps xs : List ℕ) → NoBackslash ps → text_value (ps ++ xs) ≡ ps ++ text_value xs
text_value-plain [] xs h = refl
text_value-plain (p ∷ ps) xs h = first_plain (p ∷ (ps ++ xs)) (omega arith) h.0 ∙ ap (λ ys. p ∷ ys) (text_value-plain ps xs h.1)

text_value-escape : (e : ℕ) (xs : List ℕ) → text_value (92 ∷ e ∷ xs) ≡ escaped e ∷ text_value xs
text_value-escape e xs = first_escape (92 ∷ e ∷ xs) (omega arith) refl

-- the bytes of a character past ASCII are past it too
abbrev AllBig : List ℕ → Type 0
AllBig [] = Unit {0}
AllBig (b ∷ bs) = (128 ≤ b) × AllBig bs

-- and there is one
abbrev SomeBig : List ℕ → Type 0
SomeBig [] = ⊥
SomeBig (b ∷ bs) = (128 ≤ b) × AllBig bs

some_all : (bs : List ℕ) → SomeBig bs → AllBig bs
some_all [] h = absurd h
some_all (b ∷ bs) h = h

big_of : (b : Bool) (xs ys : List ℕ) → (b ≡ true → SomeBig xs) → SomeBig ys → SomeBig (if b then xs else ys)
big_of true xs ys f g = f refl
big_of false xs ys f g = g

encode_big : (c : ℕ) → 128 ≤ c → SomeBig (encode c)
unfolding encode
encode_big c h =
    big_of (ltb c 128) _ _ (λ t. absurd (omega (arith, h, ltb-true c 128 t)))
    (big_of (ltb c 2048) _ _ (λ t. (omega arith, (omega arith, tt)))
    (big_of (ltb c 65536) _ _ (λ t. (omega arith, (omega arith, (omega arith, tt)))) (omega arith, (omega arith, (omega arith, (omega arith, tt))))))

big_plain : (bs : List ℕ) → AllBig bs → NoBackslash bs
big_plain [] h = tt
big_plain (b ∷ bs) h = ((λ e. absurd (omega (arith, h.0, e))), big_plain bs h.1)

-- small or past ASCII
small_or_big : (c : ℕ) → (c < 128) ⊎ (128 ≤ c)
small_or_big c = by_test (ltb c 128) refl
  where
    by_test : (b : Bool) → ltb c 128 ≡ b → (c < 128) ⊎ (128 ≤ c)
    by_test true h = inl (ltb-true c 128 h)
    by_test false h = inr (grind (arith, nat_tests))

backslash_or_not : (c : ℕ) → (c ≡ 92) ⊎ (c ≢ 92)
backslash_or_not c = by_test (c == 92) refl
  where
    by_test : (b : Bool) → (c == 92) ≡ b → (c ≡ 92) ⊎ (c ≢ 92)
    by_test true h = inl (grind (arith, nat_tests))
    by_test false h = inr (λ e. grind (arith, nat_tests))

plain_bytes : (c : ℕ) → c ≢ 92 → (c < 128) ⊎ (128 ≤ c) → NoBackslash (encode c)
plain_bytes c n (inl s) = subst (λ xs. NoBackslash xs) (sym (encode_ascii c s)) (n, tt)
plain_bytes c n (inr b) = big_plain (encode c) (some_all (encode c) (encode_big c b))

-- what an escape stands for
if_small : (b : Bool) (x y : ℕ) → x < 128 → y < 128 → (if b then x else y) < 128
if_small true x y p q = p
if_small false x y p q = q

escaped_small : (e : ℕ) → e < 128 → escaped e < 128
escaped_small e h =
    if_small (e == 110) 10 (if e == 114 then 13 else (if e == 116 then 9 else e)) (omega arith)
    (if_small (e == 114) 13 (if e == 116 then 9 else e) (omega arith) (if_small (e == 116) 9 e (omega arith) h))

if_not : (b : Bool) (x y : ℕ) → b ≡ false → (if b then x else y) ≡ y
if_not true x y h = absurd (cc)
if_not false x y h = refl

not_equal : (e k : ℕ) → k < e → (e == k) ≡ false
not_equal e k h = grind (arith, nat_tests)

escaped_big : (e : ℕ) → 128 ≤ e → escaped e ≡ e
escaped_big e h =
    if_not (e == 110) 10 (if e == 114 then 13 else (if e == 116 then 9 else e)) (not_equal e 110 (omega arith))
    ∙ if_not (e == 114) 13 (if e == 116 then 9 else e) (not_equal e 114 (omega arith)) ∙ if_not (e == 116) 9 e (not_equal e 116 (omega arith))

-- one character is UTF-8
ascii_one : (c : ℕ) → c < 128 → IsAscii (c ∷ [])
ascii_one c h zero = h
ascii_one c h (suc i) = omega arith

utf8_one : (c : ℕ) → c < 128 → IsUtf8 (c ∷ [])
utf8_one c h = IsUtf8-from_ascii (c ∷ []) (ascii_one c h)

utf8_char : (c : ℕ) → scalar c ≡ true → IsUtf8 (encode c)
utf8_char c h = (c ∷ [], (and_from (scalar c) true h refl, append-nil (encode c)))

-- a backslash and a character
big_escape : (bs : List ℕ) (xs : List ℕ) → SomeBig bs → text_value (92 ∷ (bs ++ xs)) ≡ bs ++ text_value xs
big_escape [] xs a = absurd a
big_escape (b ∷ bs) xs a = text_value-escape b (bs ++ xs) ∙ ap (λ c. c ∷ text_value (bs ++ xs)) (escaped_big b a.0) ∙ ap (λ ys. b ∷ ys) (text_value-plain bs xs (big_plain bs a.1))

escape_char : (d : ℕ) (xs : List ℕ) → scalar d ≡ true → (d < 128) ⊎ (128 ≤ d) → IsUtf8 (text_value xs) → IsUtf8 (text_value (92 ∷ (encode d ++ xs)))
escape_char d xs s (inl h) u =
    subst (λ ys. IsUtf8 (text_value (92 ∷ (ys ++ xs)))) (sym (encode_ascii d h))
    (subst (λ ys. IsUtf8 ys) (sym (text_value-escape d xs)) (IsUtf8-append (escaped d ∷ []) (text_value xs) (utf8_one (escaped d) (escaped_small d h)) u))
escape_char d xs s (inr h) u = subst (λ ys. IsUtf8 ys) (sym (big_escape (encode d) xs (encode_big d h))) (IsUtf8-append (encode d) (text_value xs) (utf8_char d s) u)

-- one character more
step : (c : ℕ) (xs : List ℕ) → scalar c ≡ true → (c ≡ 92 → IsUtf8 (text_value (92 ∷ xs))) → IsUtf8 (text_value xs) → (c ≡ 92) ⊎ (c ≢ 92) → IsUtf8 (text_value (encode c ++ xs))
step c xs s back u (inl h) = subst (λ k. IsUtf8 (text_value (encode k ++ xs))) (sym h) (subst (λ ys. IsUtf8 (text_value (ys ++ xs))) (sym (encode_ascii 92 (omega arith))) (back h))
step c xs s back u (inr h) = subst (λ ys. IsUtf8 ys) (sym (text_value-plain (encode c) xs (plain_bytes c h (small_or_big c)))) (IsUtf8-append (encode c) (text_value xs) (utf8_char c s) u)

utf8_chars : (cs : List ℕ) → scalars cs ≡ true → IsUtf8 (text_value (encodes cs))
utf8_chars [] s = IsUtf8-nil
utf8_chars (c ∷ []) s = step c [] (and_parts (scalar c) true s).0 (λ h. utf8_one 92 (omega arith)) IsUtf8-nil (backslash_or_not c)
utf8_chars (c ∷ d ∷ ds) s =
    let one = and_parts (scalar c) (scalars (d ∷ ds)) s in
    let two = and_parts (scalar d) (scalars ds) one.1 in
    step c (encodes (d ∷ ds)) one.0 (λ h. escape_char d (encodes ds) two.0 (small_or_big d) (utf8_chars ds two.1)) (utf8_chars (d ∷ ds) one.1) (backslash_or_not c)

pub text_value-IsUtf8 : (bs : List ℕ) → IsUtf8 bs → IsUtf8 (text_value bs)
text_value-IsUtf8 bs u = subst (λ xs. IsUtf8 (text_value xs)) u.1.1 (utf8_chars u.0 u.1.0)

-- and it has no more bytes
length_if : (b : Bool) (xs ys : List ℕ) (n : ℕ) → length xs ≤ n → length ys ≤ n → length (if b then xs else ys) ≤ n
length_if true xs ys n p q = p
length_if false xs ys n p q = q

pub length-text_value : (bs : List ℕ) → length (text_value bs) ≤ length bs
length-text_value [] = omega arith
length-text_value (b ∷ []) = omega arith
length-text_value (b ∷ e ∷ bs) =
    length_if (b == 92) (escaped e ∷ text_value bs) (b ∷ text_value (e ∷ bs)) (length (b ∷ e ∷ bs)) (omega (arith, length-text_value bs)) (omega (arith, length-text_value (e ∷ bs)))
