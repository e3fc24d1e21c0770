-- UTF-8 on both sides of a piece.
use Rattle.std.proofs.Common.{◌≡◌, ℕ, ◌<◌, Bool, true, false, if◌then◌else◌, List, [], ◌∷◌, ◌++◌, inl, inr, Option, Some, None, length, take, drop, refl, sym, subst, append_assoc, arith, length-append}
use Rattle.std.proofs.Math.ListN.{get_or}
use Rattle.std.proofs.Math.Seq.{take-append_seam, drop-append_seam, get_or-append_seam}
use Rattle.std.proofs.lemmas.Bool.{and_parts}
use Rattle.std.proofs.lemmas.Bool.Decides.{nat_tests}
use Rattle.std.proofs.lemmas.List.{append-nil, take-append-drop}
use Rattle.std.specs.Char.{is_ascii_digit, to_ascii_lowercase}
use Rattle.std.specs.List.{list_all}
use Rattle.std.specs.Str.{IsAscii, IsUtf8, str_to_ascii_lowercase}
use Rattle.std.proofs.lemmas.Str.{IsCharBoundary-after_ascii, IsCharBoundary-before_ascii, IsUtf8-append, IsUtf8-drop, IsUtf8-from_ascii, IsUtf8-nil, IsUtf8-take}
use Rattle.std.proofs.lemmas.Str.Ascii.{IsAscii-cons, IsAscii-nil}
use Rattle.pdw_lex.specs.Bytes.{begins_with, is_in_line, is_quote, is_separator, is_word_byte}
use Rattle.pdw_lex.specs.Piece.{BeginsPiece, IsPiece, doubled, quoted}
use Rattle.pdw_lex.specs.Sign.{is_sign_byte, sign_text}
use Rattle.pdw_lex.specs.declared.sign.Sign.{Sign}
use Rattle.pdw_lex.specs.declared.sign.Sign.TheVariants.{ParenOpen, ParenClose, Comma, Semicolon, Dot, Star, Plus, Minus, Slash, Percent, Equal, NotEqual, Less, LessEqual, Greater, GreaterEqual}
use Rattle.pdw_lex.specs.declared.token.Lexeme.{Lexeme}
use Rattle.pdw_lex.specs.declared.token.Lexeme.TheVariants as lexeme

within_seam : (front : List ℕ) (b : ℕ) (rest : List ℕ) → length front < length (front ++ b ∷ rest)
within_seam front b rest = omega (arith, length-append front (b ∷ rest))

seam_ascii : (front : List ℕ) (b : ℕ) (rest : List ℕ) → b < 128 → get_or (front ++ b ∷ rest) (length front) 0 < 128
seam_ascii front b rest small = rw (get_or-append_seam front b rest 0) small

-- what stands before an ASCII byte
pub before_ascii : (front : List ℕ) (b : ℕ) (rest : List ℕ) → b < 128 → IsUtf8 (front ++ b ∷ rest) → IsUtf8 front
before_ascii front b rest small utf8 =
    subst IsUtf8 (take-append_seam front (b ∷ rest))
    (IsUtf8-take (front ++ b ∷ rest) (length front) utf8 (IsCharBoundary-before_ascii (front ++ b ∷ rest) (length front) (within_seam front b rest) (seam_ascii front b rest small)))

-- what begins with an ASCII byte
pub from_ascii : (front : List ℕ) (b : ℕ) (rest : List ℕ) → b < 128 → IsUtf8 (front ++ b ∷ rest) → IsUtf8 (b ∷ rest)
from_ascii front b rest small utf8 =
    subst IsUtf8 (drop-append_seam front (b ∷ rest))
    (IsUtf8-drop (front ++ b ∷ rest) (length front) utf8 (IsCharBoundary-before_ascii (front ++ b ∷ rest) (length front) (within_seam front b rest) (seam_ascii front b rest small)))

-- what follows an ASCII byte
pub past_first : (b : ℕ) (rest : List ℕ) → b < 128 → IsUtf8 (b ∷ rest) → IsUtf8 rest
past_first b rest small utf8 = IsUtf8-drop (b ∷ rest) 1 utf8 (IsCharBoundary-after_ascii (b ∷ rest) 0 utf8 (omega arith) small)

pub after_ascii : (front : List ℕ) (b : ℕ) (rest : List ℕ) → b < 128 → IsUtf8 (front ++ b ∷ rest) → IsUtf8 rest
after_ascii front b rest small utf8 = past_first b rest small (from_ascii front b rest small utf8)

quote_ascii : (b : ℕ) → is_quote b ≡ true → b < 128
quote_ascii b e = grind (arith, nat_tests)

-- the text whose doubling follows some bytes and ends with a quote
undoubled : (run text rest : List ℕ) → IsUtf8 (run ++ (doubled text ++ 39 ∷ rest)) → IsUtf8 (run ++ text)
undoubled run [] rest utf8 = subst IsUtf8 (sym (append-nil run)) (before_ascii run 39 rest (omega arith) utf8)
undoubled run (b ∷ t) rest utf8 = by (λ front. undoubled front t rest) (is_quote b) refl utf8
  where
    by : ((front : List ℕ) → IsUtf8 (front ++ (doubled t ++ 39 ∷ rest)) → IsUtf8 (front ++ t)) → (q : Bool) → is_quote b ≡ q
        → IsUtf8 (run ++ (((if q then b ∷ b ∷ [] else b ∷ []) ++ doubled t) ++ 39 ∷ rest)) → IsUtf8 (run ++ (b ∷ t))
    by more true e two =
        let small = quote_ascii b e in
        let left = from_ascii run b (b ∷ (doubled t ++ 39 ∷ rest)) small two in
        let one : IsUtf8 (b ∷ []) = before_ascii (b ∷ []) b (doubled t ++ 39 ∷ rest) small left in
        let tail : IsUtf8 t = more [] (after_ascii (b ∷ []) b (doubled t ++ 39 ∷ rest) small left) in
        IsUtf8-append run (b ∷ t) (before_ascii run b (b ∷ (doubled t ++ 39 ∷ rest)) small two) (IsUtf8-append (b ∷ []) t one tail)
    by more false e one =
        let longer = more (run ++ (b ∷ [])) (subst IsUtf8 (sym (append_assoc run (b ∷ []) (doubled t ++ 39 ∷ rest))) one) in
        subst IsUtf8 (append_assoc run (b ∷ []) t) longer

behind_quote : (text rest : List ℕ) → IsUtf8 (quoted text ++ rest) → IsUtf8 (doubled text ++ 39 ∷ rest)
behind_quote text rest utf8 = subst IsUtf8 (append_assoc (doubled text) (39 ∷ []) rest) (past_first 39 ((doubled text ++ 39 ∷ []) ++ rest) (omega arith) utf8)

-- the text in the quotes that the bytes begin with
pub quoted_utf8 : (left text : List ℕ) (n : ℕ) → take n left ≡ quoted text → IsUtf8 left → IsUtf8 text
quoted_utf8 left text n spelled utf8 =
    let whole = subst IsUtf8 (sym (take-append-drop n left)) utf8 in
    undoubled [] text (drop n left) (behind_quote text (drop n left) (subst (λ (xs : List ℕ). IsUtf8 (xs ++ drop n left)) spelled whole))

past_text : (text rest : List ℕ) → IsUtf8 (quoted text ++ rest) → IsUtf8 rest
past_text text rest utf8 = after_ascii (doubled text) 39 rest (omega arith) (behind_quote text rest utf8)

past_ascii : (p : ℕ → Bool) → ((b : ℕ) → p b ≡ true → b < 128) → (front rest : List ℕ) → list_all p front ≡ true → IsUtf8 (front ++ rest) → IsUtf8 rest
past_ascii p small [] rest all utf8 = utf8
past_ascii p small (b ∷ bs) rest all utf8 =
    let parts = and_parts (p b) (list_all p bs) all in
    past_ascii p small bs rest parts.1 (past_first b (bs ++ rest) (small b parts.0) utf8)

separator_ascii : (b : ℕ) → is_separator b ≡ true → b < 128
separator_ascii b e = grind (arith, nat_tests)

word_ascii : (b : ℕ) → is_word_byte b ≡ true → b < 128
word_ascii b e = grind (arith, nat_tests)

digit_ascii : (b : ℕ) → is_ascii_digit b ≡ true → b < 128
digit_ascii b e = grind (arith, nat_tests)

sign_byte_ascii : (b : ℕ) → is_sign_byte b ≡ true → b < 128
sign_byte_ascii b e = grind (arith, nat_tests)

line_end_ascii : (b : ℕ) → is_in_line b ≡ false → b < 128
line_end_ascii b e = grind (arith, nat_tests)

sign_bytes : (s : Sign) → list_all is_sign_byte (sign_text s) ≡ true
sign_bytes ParenOpen = refl
sign_bytes ParenClose = refl
sign_bytes Comma = refl
sign_bytes Semicolon = refl
sign_bytes Dot = refl
sign_bytes Star = refl
sign_bytes Plus = refl
sign_bytes Minus = refl
sign_bytes Slash = refl
sign_bytes Percent = refl
sign_bytes Equal = refl
sign_bytes NotEqual = refl
sign_bytes Less = refl
sign_bytes LessEqual = refl
sign_bytes Greater = refl
sign_bytes GreaterEqual = refl

past_line : (front rest : List ℕ) → begins_with is_in_line rest ≡ false → IsUtf8 (front ++ rest) → IsUtf8 rest
past_line front [] ends utf8 = IsUtf8-nil
past_line front (b ∷ bs) ends utf8 = from_ascii front b bs (line_end_ascii b ends) utf8

-- what follows a piece
past_piece : (said : Option Lexeme) (bytes rest : List ℕ) → IsPiece said bytes rest → IsUtf8 (bytes ++ rest) → IsUtf8 rest
past_piece None bytes rest (inl (b, is, e)) utf8 = past_first b rest (separator_ascii b e) (subst (λ (xs : List ℕ). IsUtf8 (xs ++ rest)) is utf8)
past_piece None bytes rest (inr comment) utf8 = past_line bytes rest comment.ends utf8
past_piece (Some (lexeme.Name name)) bytes rest (word, is, none) utf8 = past_ascii is_word_byte word_ascii bytes rest word.bytes utf8
past_piece (Some (lexeme.Key k)) bytes rest (word, key) utf8 = past_ascii is_word_byte word_ascii bytes rest word.bytes utf8
past_piece (Some (lexeme.Number n)) bytes rest (digits, is, fits) utf8 = past_ascii is_ascii_digit digit_ascii bytes rest digits.bytes utf8
past_piece (Some (lexeme.Text text)) bytes rest (is, ends, short) utf8 = past_text text rest (subst (λ (xs : List ℕ). IsUtf8 (xs ++ rest)) is utf8)
past_piece (Some (lexeme.Sign s)) bytes rest (is, ends) utf8 = past_ascii is_sign_byte sign_byte_ascii (sign_text s) rest (sign_bytes s) (subst (λ (xs : List ℕ). IsUtf8 (xs ++ rest)) is utf8)

pub past_front : (left : List ℕ) (said : Option Lexeme) (n : ℕ) → BeginsPiece left said n → IsUtf8 left → IsUtf8 (drop n left)
past_front left said n begins utf8 = past_piece said (take n left) (drop n left) begins.piece (subst IsUtf8 (sym (take-append-drop n left)) utf8)

folded_byte : (b : ℕ) → is_word_byte b ≡ true → to_ascii_lowercase b < 128
folded_byte b e = grind (arith, nat_tests)

folded_ascii : (word : List ℕ) → list_all is_word_byte word ≡ true → IsAscii (str_to_ascii_lowercase word)
folded_ascii [] all = IsAscii-nil
folded_ascii (b ∷ bs) all =
    let parts = and_parts (is_word_byte b) (list_all is_word_byte bs) all in
    IsAscii-cons (to_ascii_lowercase b) (str_to_ascii_lowercase bs) (folded_byte b parts.0) (folded_ascii bs parts.1)

-- a word in lower case
pub folded_utf8 : (word : List ℕ) → list_all is_word_byte word ≡ true → IsUtf8 (str_to_ascii_lowercase word)
folded_utf8 word all = IsUtf8-from_ascii (str_to_ascii_lowercase word) (folded_ascii word all)
