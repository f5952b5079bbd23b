-- Words without options.
use Rattle.std.proofs.Common.{◌≡◌, ◌∙◌, Bool, true, false, ap, sym, List, [], ◌∷◌, Option, None, refl, bytes_eq, if◌then◌else◌, true≢false}
use Rattle.std.specs.List.{AllByRecursion}
use Rattle.clap.specs.Lexer.{long_of}
use Rattle.command_words.specs.Words.{Text, Named, is_flag, told, told_option, told_place, told_places, with_word}
use Rattle.command_words.specs.Asked.{asked, asked_once, options_of, places_of}
use Rattle.command_words.proofs.Kept.{same_text}
use Rattle.command_words.proofs.Looks.{dashes}

no_dashes : (word : Text) → is_flag word ≡ false → bytes_eq word dashes ≡ false
no_dashes word plain = go (bytes_eq word dashes) refl
  where
    go : (b : Bool) → bytes_eq word dashes ≡ b → b ≡ false
    go false e = refl
    go true e = absurd (true≢false (sym (ap is_flag (same_text word dashes e)) ∙ plain))

-- a word for a place
placed : (options : List Text) (word : Text) (words places : List Text)
    → ((left : List Text) → told options words left None ≡ told_places left words)
    → told_place places word (λ left. told options words left None) ≡ told_places places (word ∷ words)
placed options word words [] h = refl
placed options word words (place ∷ places) h = ap (with_word place word) (h places)

plain_told : (options words places : List Text) → AllByRecursion (λ word. is_flag word ≡ false) words → told options words places None ≡ told_places places words
unfolding told
plain_told options [] places plain = refl
plain_told options (word ∷ words) places plain =
    let first : Bool → Bool → Option Named = λ b f.
    if b then told_places places words else (if f then told_option options (long_of word) (told options words places) else told_place places word (λ left. told options words left None)) in
    ap (λ (b : Bool). first b (is_flag word)) (no_dashes word plain.0) ∙ ap (first false) plain.0
    ∙ placed options word words places (λ left. plain_told options words left plain.1)

pub plain_asked : (command : Text) (words : List Text) → AllByRecursion (λ word. is_flag word ≡ false) words
    → asked (command ∷ words) ≡ asked_once command (told_places (places_of command) words)
plain_asked command words plain = ap (asked_once command) (plain_told (options_of command) words (places_of command) plain)
