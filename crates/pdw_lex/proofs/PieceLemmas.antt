-- The pieces that the bytes begin with.
use Rattle.std.proofs.Common.{◌≡◌, ℕ, ◌+◌, ◌<◌, ◌≤◌, ◌^◌, ℤ, pos, true, List, ◌∷◌, ◌++◌, Option, Some, None, length, take, drop, codes, refl, ap, sym, ◌∙◌, inr, length-take, arith}
use Rattle.std.specs.Char.{is_ascii_digit}
use Rattle.std.specs.List.{prefix_len}
use Rattle.std.specs.Str.{str_to_ascii_lowercase}
use Rattle.std.specs.Str.Parse.{digits_value}
use Rattle.std.proofs.lemmas.List.{take-append-drop}
use Rattle.std.proofs.lemmas.List.Sums.{prefix_len-le-length}
use Rattle.std.proofs.Math.Seq.{take-append_seam, drop-append_seam}
use Rattle.pdw_lex.specs.Bytes.{begins_with, is_in_line, is_letter, is_word_byte}
use Rattle.pdw_lex.specs.Fault.{BeginsBigNumber}
use Rattle.pdw_lex.specs.Keyword.{keyword_of}
use Rattle.pdw_lex.specs.Piece.{AreDigits, BeginsPiece, IsComment, IsPiece, IsWord}
use Rattle.pdw_lex.specs.declared.keyword.Keyword.{Keyword}
use Rattle.pdw_lex.specs.declared.token.Lexeme.{Lexeme}
use Rattle.pdw_lex.specs.declared.token.Lexeme.TheVariants as lexeme
use Rattle.pdw_lex.proofs.Runs.{run_all, run_begins, run_ends}

letter_in_word : (b : ℕ) → is_letter b ≡ true → is_word_byte b ≡ true
letter_in_word b e = rw e refl

pub word_at : (left : List ℕ) (n : ℕ) → n ≡ prefix_len is_word_byte left → begins_with is_letter left ≡ true → IsWord (take n left) (drop n left) × (0 < n) × (n ≤ length left)
word_at left n counted e =
    let begins = run_begins is_word_byte is_letter letter_in_word left e in
    let within = prefix_len-le-length is_word_byte left in
    rw counted (record { begins = begins.0; bytes = run_all is_word_byte left; ends = run_ends is_word_byte left }, begins.1, within)

pub digits_at : (left : List ℕ) (n : ℕ) → n ≡ prefix_len is_ascii_digit left → begins_with is_ascii_digit left ≡ true → AreDigits (take n left) (drop n left) × (0 < n) × (n ≤ length left)
digits_at left n counted e =
    let begins = run_begins is_ascii_digit is_ascii_digit (λ b h. h) left e in
    let within = prefix_len-le-length is_ascii_digit left in
    rw counted (record { begins = begins.0; bytes = run_all is_ascii_digit left; ends = run_ends is_ascii_digit left }, begins.1, within)

pub piece_in_front : (said : Option Lexeme) (bytes front rest : List ℕ) (n : ℕ) → bytes ≡ front ++ rest → n ≡ length front → 0 < length front → length front ≤ length bytes → IsPiece said front rest → BeginsPiece bytes said n
piece_in_front said bytes front rest n e counted some within piece =
    let front_is : take (length front) bytes ≡ front = ap (take (length front)) e ∙ take-append_seam front rest in
    let rest_is : drop (length front) bytes ≡ rest = ap (drop (length front)) e ∙ drop-append_seam front rest in
    rw counted (record { some = some; within = within; piece = rw (front_is, rest_is) piece })

-- the keyword that a word in lower case is, or the name
pub key_piece : (left : List ℕ) (n m : ℕ) (folded : List ℕ) (k : Keyword) (said : Option Lexeme) → n ≡ prefix_len is_word_byte left → begins_with is_letter left ≡ true → folded ≡ str_to_ascii_lowercase (take n left)
    → keyword_of folded ≡ Some k → said ≡ Some (lexeme.Key k) → m ≡ n → BeginsPiece left said m
key_piece left n m folded k said counted begins is key e f =
    let word = word_at left n counted begins in
    rw (e, f) (record { some = word.1; within = word.2; piece = (word.0, ap keyword_of (sym is) ∙ key) })

pub name_piece : (left : List ℕ) (n m : ℕ) (name : List ℕ) (said : Option Lexeme) → n ≡ prefix_len is_word_byte left → begins_with is_letter left ≡ true → name ≡ str_to_ascii_lowercase (take n left)
    → keyword_of name ≡ None → said ≡ Some (lexeme.Name name) → m ≡ n → BeginsPiece left said m
name_piece left n m name said counted begins is key e f =
    let word = word_at left n counted begins in
    rw (e, f) (record { some = word.1; within = word.2; piece = (word.0, is, key) })

pub number_piece : (left : List ℕ) (n m : ℕ) (z : ℤ) (said : Option Lexeme) → n ≡ prefix_len is_ascii_digit left → begins_with is_ascii_digit left ≡ true → digits_value 10 (take n left) < 2 ^ 63
    → z ≡ pos (digits_value 10 (take n left)) → said ≡ Some (lexeme.Number z) → m ≡ n → BeginsPiece left said m
number_piece left n m z said counted begins fits is e f =
    let digits = digits_at left n counted begins in
    rw (e, f) (record { some = digits.1; within = digits.2; piece = (digits.0, is, fits) })

pub big_number : (left : List ℕ) (n : ℕ) → n ≡ prefix_len is_ascii_digit left → begins_with is_ascii_digit left ≡ true → 2 ^ 63 ≤ digits_value 10 (take n left) → BeginsBigNumber left
big_number left n counted begins big = (take n left, drop n left, sym (take-append-drop n left), (digits_at left n counted begins).0, big)

pub comment_piece : (left line : List ℕ) (n m : ℕ) (said : Option Lexeme) → left ≡ codes "--" ++ line → n ≡ prefix_len is_in_line line → said ≡ None → m ≡ 2 + n → BeginsPiece left said m
comment_piece left line n m said e counted none f =
    let within = prefix_len-le-length is_in_line line in
    let long = length-take n line in
    let comment : IsComment (codes "--" ++ take n line) (drop n line) = record { line = take n line; spelled = refl; bytes = rw counted (run_all is_in_line line); ends = rw counted (run_ends is_in_line line) } in
    let whole : left ≡ (codes "--" ++ take n line) ++ drop n line = e ∙ ap (λ xs. 45 ∷ 45 ∷ xs) (sym (take-append-drop n line)) in
    let long_left : length left ≡ length (codes "--" ++ line) = ap length e in
    rw none (piece_in_front None left (codes "--" ++ take n line) (drop n line) m whole (omega arith) (omega arith) (omega arith) (inr comment))

pub none_from : (o : Option Keyword) → ((k : Keyword) → o ≡ Some k → ⊥) → o ≡ None
none_from None never = refl
none_from (Some k) never = absurd (never k refl)
