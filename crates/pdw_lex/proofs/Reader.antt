-- The piece or fault that the bytes begin with, as one function of them.
use Rattle.std.proofs.Common.{◌≡◌, ℕ, ◌+◌, ◌^◌, ◌==◌, ◌||◌, not, pos, Bool, true, false, cond, List, [], ◌∷◌, ◌++◌, Option, Some, None, ◌⊎◌, length, take, drop, codes, nat_lt, refl, ap, sym, ◌∙◌, append_assoc, inl, inr, arith, if◌then◌else◌}
use Rattle.std.specs.Char.{is_ascii_digit}
use Rattle.std.specs.List.{list_all, prefix_len}
use Rattle.std.specs.Str.{str_to_ascii_lowercase}
use Rattle.std.specs.Str.Parse.{digits_value}
use Rattle.std.proofs.lemmas.Bool.{le-ltb, lt-ltb}
use Rattle.std.proofs.lemmas.Bool.Decides.{nat_tests}
use Rattle.std.proofs.Math.Seq.{take-append_seam}
use Rattle.pdw_lex.specs.Bytes.{begins_with, is_in_line, is_letter, is_quote, is_separator, is_word_byte}
use Rattle.pdw_lex.specs.Fault.{FaultsAt, begins_piece}
use Rattle.pdw_lex.specs.Keyword.{keyword_of}
use Rattle.pdw_lex.specs.Piece.{AreDigits, IsPiece, IsWord, doubled, quoted}
use Rattle.pdw_lex.specs.Sign.{SignEnds, is_sign_byte, sign_text}
use Rattle.pdw_lex.specs.declared.keyword.Keyword.{Keyword}
use Rattle.pdw_base.specs.declared.limits.TheConstants.{MOST_TEXT_BYTES}
use Rattle.pdw_lex.specs.declared.lex_error.LexError.{LexError}
use Rattle.pdw_lex.specs.declared.lex_error.LexError.TheVariants.{NotUtf8, BadChar, OpenText, BigNumber, LongText, Memory}
use Rattle.pdw_lex.specs.declared.sign.Sign.{Sign}
use Rattle.pdw_lex.specs.declared.sign.Sign.TheVariants as sign
use Rattle.pdw_lex.specs.declared.token.Lexeme.{Lexeme}
use Rattle.pdw_lex.specs.declared.token.Lexeme.TheVariants as lexeme
use Rattle.pdw_lex.proofs.Runs.{run_front}

pub data Step : Type 0 where
  took : Option Lexeme → ℕ → Step
  stuck : LexError → Step

put : ℕ → Option (List ℕ) → Option (List ℕ)
put b None = None
put b (Some text) = Some (b ∷ text)

-- the text up to its end, from the first byte within its quotes or, where the flag is set, from one behind a quote
scan : Bool → List ℕ → Option (List ℕ)
scan false [] = None
scan true [] = Some []
scan false (b ∷ bs) = cond (is_quote b) (scan true bs) (put b (scan false bs))
scan true (b ∷ bs) = cond (is_quote b) (put b (scan false bs)) (Some [])

word_said : List ℕ → Option Keyword → Lexeme
word_said name None = lexeme.Name name
word_said name (Some k) = lexeme.Key k

word_step : List ℕ → ℕ → Step
word_step left n = took (Some (word_said (str_to_ascii_lowercase (take n left)) (keyword_of (str_to_ascii_lowercase (take n left))))) n

number_step : ℕ → ℕ → ℕ → Step
number_step at value n = cond (nat_lt value (2 ^ 63)) (took (Some (lexeme.Number (pos value))) n) (stuck (BigNumber at))

text_step : ℕ → Option (List ℕ) → Step
text_step at None = stuck (OpenText at)
text_step at (Some text) = cond (nat_lt MOST_TEXT_BYTES (length text)) (stuck (LongText at)) (took (Some (lexeme.Text text)) (length (quoted text)))

sign_took : Sign → Step
sign_took s = took (Some (lexeme.Sign s)) (length (sign_text s))

sign_step : ℕ → List ℕ → Step
sign_step b bs =
    cond (b == 45) (cond (begins_with (λ d. d == 45) bs) (took None (2 + prefix_len is_in_line (drop 1 bs))) (sign_took sign.Minus))
    (cond (b == 60) (cond (begins_with (λ d. d == 62) bs) (sign_took sign.NotEqual) (cond (begins_with (λ d. d == 61) bs) (sign_took sign.LessEqual) (sign_took sign.Less)))
    (cond (b == 62) (cond (begins_with (λ d. d == 61) bs) (sign_took sign.GreaterEqual) (sign_took sign.Greater))
    (cond (b == 40) (sign_took sign.ParenOpen) (cond (b == 41) (sign_took sign.ParenClose) (cond (b == 44) (sign_took sign.Comma)
    (cond (b == 59) (sign_took sign.Semicolon) (cond (b == 46) (sign_took sign.Dot) (cond (b == 42) (sign_took sign.Star)
    (cond (b == 43) (sign_took sign.Plus) (cond (b == 47) (sign_took sign.Slash) (cond (b == 37) (sign_took sign.Percent) (sign_took sign.Equal))))))))))))

pub next : ℕ → List ℕ → Step
next at [] = stuck Memory
next at (b ∷ bs) =
    cond (is_letter b) (word_step (b ∷ bs) (prefix_len is_word_byte (b ∷ bs)))
    (cond (is_ascii_digit b) (number_step at (digits_value 10 (take (prefix_len is_ascii_digit (b ∷ bs)) (b ∷ bs))) (prefix_len is_ascii_digit (b ∷ bs)))
    (cond (is_separator b) (took None 1)
    (cond (is_quote b) (text_step at (scan false bs))
    (cond (is_sign_byte b) (sign_step b bs) (stuck (BadChar at))))))

pub next_none : (at : ℕ) → next at [] ≡ stuck Memory
unfolding next
next_none at = refl

scan-closed : (text rest : List ℕ) → begins_with is_quote rest ≡ false → scan false (doubled text ++ (39 ∷ rest)) ≡ Some text
unfolding scan put
scan-closed [] [] ends = refl
scan-closed [] (b ∷ bs) ends = rw ends refl
scan-closed (c ∷ cs) rest ends = by (scan-closed cs rest ends) (is_quote c) refl
  where
    by : scan false (doubled cs ++ (39 ∷ rest)) ≡ Some cs → (t : Bool) → is_quote c ≡ t → scan false (((if t then c ∷ c ∷ [] else c ∷ []) ++ doubled cs) ++ (39 ∷ rest)) ≡ Some (c ∷ cs)
    by more true e = rw e (ap (put c) more)
    by more false e = rw e (ap (put c) more)

scan-open : (text : List ℕ) → scan false (doubled text) ≡ None
unfolding scan put
scan-open [] = refl
scan-open (c ∷ cs) = by (scan-open cs) (is_quote c) refl
  where
    by : scan false (doubled cs) ≡ None → (t : Bool) → is_quote c ≡ t → scan false ((if t then c ∷ c ∷ [] else c ∷ []) ++ doubled cs) ≡ None
    by more true e = rw e (ap (put c) more)
    by more false e = rw e (ap (put c) more)

cond_yes : {X : Type 0} (t : Bool) (x y : X) → t ≡ true → cond t x y ≡ x
cond_yes true x y e = refl
cond_yes false x y e = cc e

not_true : (b : Bool) → not b ≡ true → b ≡ false
not_true true e = cc e
not_true false e = refl

or_false : (a b : Bool) → (a || b) ≡ false → (a ≡ false) × (b ≡ false)
or_false true b e = cc e
or_false false b e = (refl, e)

digit_no_letter : (b : ℕ) → is_ascii_digit b ≡ true → is_letter b ≡ false
digit_no_letter b e = grind (arith, nat_tests)

separator_no_word : (b : ℕ) → is_separator b ≡ true → (is_letter b ≡ false) × (is_ascii_digit b ≡ false)
separator_no_word b e = grind (arith, nat_tests)

word_next : (at : ℕ) (front rest : List ℕ) → IsWord front rest → next at (front ++ rest) ≡ word_step (front ++ rest) (length front)
unfolding next
word_next at [] rest word = cc (word.begins)
word_next at (c ∷ cs) rest word =
    let run = run_front is_word_byte (c ∷ cs) rest word.bytes word.ends in
    cond_yes (is_letter c) _ _ word.begins ∙ ap (word_step ((c ∷ cs) ++ rest)) run

word_front : (front rest : List ℕ) → word_step (front ++ rest) (length front) ≡ took (Some (word_said (str_to_ascii_lowercase front) (keyword_of (str_to_ascii_lowercase front)))) (length front)
unfolding word_step
word_front front rest = ap (λ w. took (Some (word_said (str_to_ascii_lowercase w) (keyword_of (str_to_ascii_lowercase w)))) (length front)) (take-append_seam front rest)

digits_next : (at : ℕ) (front rest : List ℕ) → AreDigits front rest → next at (front ++ rest) ≡ number_step at (digits_value 10 front) (length front)
unfolding next
digits_next at [] rest digits = cc (digits.begins)
digits_next at (c ∷ cs) rest digits =
    let run = run_front is_ascii_digit (c ∷ cs) rest digits.bytes digits.ends in
    rw (digit_no_letter c digits.begins)
    (cond_yes (is_ascii_digit c) _ _ digits.begins ∙ ap (λ n. number_step at (digits_value 10 (take n ((c ∷ cs) ++ rest))) n) run ∙ ap (λ w. number_step at (digits_value 10 w) (length (c ∷ cs))) (take-append_seam (c ∷ cs) rest))

comment_next : (at : ℕ) (line rest : List ℕ) → list_all is_in_line line ≡ true → begins_with is_in_line rest ≡ false → next at ((codes "--" ++ line) ++ rest) ≡ took None (length (codes "--" ++ line))
unfolding next sign_step
comment_next at line rest all ends = ap (λ n. took None n) (ap (λ n. 2 + n) (run_front is_in_line line rest all ends) ∙ omega arith)

separator_next : (at b : ℕ) (rest : List ℕ) → is_separator b ≡ true → next at ((b ∷ []) ++ rest) ≡ took None 1
unfolding next
separator_next at b rest e = let no = separator_no_word b e in rw (no.0, no.1, e) refl

text_next : (at : ℕ) (text rest : List ℕ) → begins_with is_quote rest ≡ false → next at (quoted text ++ rest) ≡ text_step at (Some text)
unfolding next
text_next at text rest ends = ap (text_step at) (ap (scan false) (append_assoc (doubled text) (39 ∷ []) rest) ∙ scan-closed text rest ends)

open_next : (at : ℕ) (text : List ℕ) → next at (codes "'" ++ doubled text) ≡ stuck (OpenText at)
unfolding next text_step
open_next at text = ap (text_step at) (scan-open text)

less_next : (at : ℕ) (rest : List ℕ) → begins_with (λ b. (b == 61) || (b == 62)) rest ≡ false → next at (60 ∷ rest) ≡ sign_took sign.Less
unfolding next sign_step
less_next at [] e = refl
less_next at (b ∷ bs) e = let no = or_false (b == 61) (b == 62) e in rw (no.1, no.0) refl

sign_next : (at : ℕ) (s : Sign) (rest : List ℕ) → SignEnds s rest → next at (sign_text s ++ rest) ≡ sign_took s
unfolding next sign_step
sign_next at sign.ParenOpen rest ends = refl
sign_next at sign.ParenClose rest ends = refl
sign_next at sign.Comma rest ends = refl
sign_next at sign.Semicolon rest ends = refl
sign_next at sign.Dot rest ends = refl
sign_next at sign.Star rest ends = refl
sign_next at sign.Plus rest ends = refl
sign_next at sign.Minus rest ends = rw ends refl
sign_next at sign.Slash rest ends = refl
sign_next at sign.Percent rest ends = refl
sign_next at sign.Equal rest ends = refl
sign_next at sign.NotEqual rest ends = refl
sign_next at sign.Less rest ends = less_next at rest ends
sign_next at sign.LessEqual rest ends = refl
sign_next at sign.Greater rest ends = rw ends refl
sign_next at sign.GreaterEqual rest ends = refl

bad_next : (at : ℕ) (rest : List ℕ) → begins_with (λ b. not (begins_piece b)) rest ≡ true → next at rest ≡ stuck (BadChar at)
unfolding next
bad_next at [] e = cc e
bad_next at (b ∷ bs) e =
    let sign = or_false (is_separator b || is_letter b || is_ascii_digit b || is_quote b) (is_sign_byte b) (not_true (begins_piece b) e) in
    let quote = or_false (is_separator b || is_letter b || is_ascii_digit b) (is_quote b) sign.0 in
    let digit = or_false (is_separator b || is_letter b) (is_ascii_digit b) quote.0 in
    let letter = or_false (is_separator b) (is_letter b) digit.0 in
    rw (letter.1, digit.1, letter.0, quote.1, sign.1) refl

-- a piece is what the reader takes
pub next_piece : (at : ℕ) (said : Option Lexeme) (front rest : List ℕ) → IsPiece said front rest → next at (front ++ rest) ≡ took said (length front)
unfolding word_said number_step text_step sign_took
next_piece at None front rest (inl (b, is, e)) = rw is (separator_next at b rest e)
next_piece at None front rest (inr comment) = rw comment.spelled (comment_next at comment.line rest comment.bytes comment.ends)
next_piece at (Some (lexeme.Name name)) front rest (word, is, none) =
    word_next at front rest word ∙ word_front front rest ∙ ap (λ w. took (Some (word_said w (keyword_of w))) (length front)) (sym is) ∙ ap (λ k. took (Some (word_said name k)) (length front)) none
next_piece at (Some (lexeme.Key k)) front rest (word, key) =
    word_next at front rest word ∙ word_front front rest ∙ ap (λ k. took (Some (word_said (str_to_ascii_lowercase front) k)) (length front)) key
next_piece at (Some (lexeme.Number n)) front rest (digits, is, fits) =
    digits_next at front rest digits ∙ rw (lt-ltb _ _ fits, is) refl
next_piece at (Some (lexeme.Text text)) front rest (is, ends, short) =
    rw is (text_next at text rest ends ∙ rw (le-ltb MOST_TEXT_BYTES (length text) short) refl)
next_piece at (Some (lexeme.Sign s)) front rest (is, ends) = rw is (sign_next at s rest ends)

-- where a fault begins the reader stops with it
pub next_fault : (e : LexError) (at : ℕ) (rest : List ℕ) → FaultsAt e at rest → (e ≡ Memory) ⊎ (next at rest ≡ stuck e)
unfolding number_step text_step
next_fault (NotUtf8 place) at rest fault = absurd fault
next_fault (BadChar place) at rest (is, fault) = inr (bad_next at rest fault ∙ ap (λ n. stuck (BadChar n)) (sym is))
next_fault (OpenText place) at rest (is, (text, e)) = inr (ap (next at) e ∙ open_next at text ∙ ap (λ n. stuck (OpenText n)) (sym is))
next_fault (BigNumber place) at rest (is, (digits, more, e, are, big)) =
    inr (ap (next at) e ∙ digits_next at digits more are ∙ rw (le-ltb (digits_value 10 digits) (2 ^ 63) big) (ap (λ n. stuck (BigNumber n)) (sym is)))
next_fault (LongText place) at rest (is, (text, more, e, ends, long)) =
    inr (ap (next at) e ∙ text_next at text more ends ∙ rw (lt-ltb _ _ long) (ap (λ n. stuck (LongText n)) (sym is)))
next_fault Memory at rest fault = inl refl
