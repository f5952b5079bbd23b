-- What a word looks like.
use Rattle.std.proofs.Common.{◌≡◌, ◌∙◌, ◌==◌, ℕ, Bool, true, false, refl, sym, ap, subst, arith, List, [], ◌∷◌, Option, Some, None, IsUtf8, bytes_eq, slice_get, encode_utf8_all}
use Rattle.std.specs.Str.{chars}
use Rattle.std.proofs.lemmas.Str.{encodes-chars}
use Rattle.clap.specs.Lexer.{long_of, name_and_value, short_of}
use Rattle.command_words.specs.Words.{Text, is_flag}

abbrev pub dashes : Text
dashes = 45 ∷ 45 ∷ []

pub data Look (word : Text) : Type 0 where
  ends : bytes_eq word dashes ≡ true → is_flag word ≡ true → Look word
  long : bytes_eq word dashes ≡ false → (p : Text × Option Text) → long_of word ≡ Some p → is_flag word ≡ true → Look word
  short : bytes_eq word dashes ≡ false → long_of word ≡ None → (y : ℕ) (rest : Text) (x : ℕ) → short_of word ≡ Some (y ∷ rest) → slice_get (chars (y ∷ rest)) 0 ≡ Some x → is_flag word ≡ true → Look word
  plain : bytes_eq word dashes ≡ false → long_of word ≡ None → short_of word ≡ None → is_flag word ≡ false → Look word

-- what follows a hyphen has a first character
char_after : (y : ℕ) (rest : Text) → IsUtf8 (45 ∷ y ∷ rest) → (x : ℕ) × (slice_get (chars (y ∷ rest)) 0 ≡ Some x)
unfolding chars lib.Utf8.encode
char_after y rest u = go (chars (y ∷ rest)) refl
  where
    spelled : encode_utf8_all (45 ∷ chars (y ∷ rest)) ≡ 45 ∷ y ∷ rest
    spelled = encodes-chars (45 ∷ y ∷ rest) u

    go : (cs : List ℕ) → chars (y ∷ rest) ≡ cs → (x : ℕ) × (slice_get (chars (y ∷ rest)) 0 ≡ Some x)
    go [] e = let bad : 45 ∷ [] ≡ 45 ∷ y ∷ rest = ap (λ (ds : List ℕ). encode_utf8_all (45 ∷ ds)) (sym e) ∙ spelled in cc
    go (x ∷ xs) e = (x, ap (λ (ds : List ℕ). slice_get ds 0) e)

pub look : (word : Text) → IsUtf8 word → Look word
look [] u = plain refl refl refl refl
look (x ∷ []) u = go (x == 45) refl
  where
    go : (b : Bool) → (x == 45) ≡ b → Look (x ∷ [])
    go true e = plain (rw e refl) (rw e refl) (rw e refl) refl
    go false e = plain (rw e refl) (rw e refl) (rw e refl) refl
look (x ∷ y ∷ rest) u = go (x == 45) refl
  where
    short_look : (x == 45) ≡ true → (y == 45) ≡ false → Look (x ∷ y ∷ rest)
    short_look e f =
        let is : x ≡ 45 = grind (arith, e) in
        let c = char_after y rest (subst (λ (n : ℕ). IsUtf8 (n ∷ y ∷ rest)) is u) in
        short (rw (e, f) refl) (rw (e, f) refl) y rest c.0 (rw (e, f) refl) c.1 e

    long_look : (ws : Text) → ws ≡ rest → (x == 45) ≡ true → (y == 45) ≡ true → Look (x ∷ y ∷ ws)
    long_look [] is e f = ends (rw (e, f) refl) e
    long_look (z ∷ zs) is e f = long (rw (e, f) refl) (name_and_value (z ∷ zs)) (rw (e, f) refl) e

    second : (b : Bool) → (y == 45) ≡ b → (x == 45) ≡ true → Look (x ∷ y ∷ rest)
    second true f e = long_look rest refl e f
    second false f e = short_look e f

    go : (b : Bool) → (x == 45) ≡ b → Look (x ∷ y ∷ rest)
    go true e = second (y == 45) refl e
    go false e = plain (rw e refl) (rw e refl) (rw e refl) e
