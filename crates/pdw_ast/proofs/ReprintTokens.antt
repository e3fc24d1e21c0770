-- Canonical tokens spell what they say.
use Rattle.std.proofs.Common.{◌≡◌, ℕ, ◌<◌, ◌^◌, ℤ, pos, Bool, true, ◌&&◌, List, [], ◌∷◌, length, codes, Some, None, refl, sym, ◌∙◌, ap, ap₂, subst, arith}
use Rattle.std.specs.Char.{is_ascii_digit, to_ascii_lowercase}
use Rattle.std.specs.Fmt.{decimal}
use Rattle.std.specs.List.{list_all}
use Rattle.std.specs.Str.{IsAscii, IsUtf8, all_ascii_digits, str_to_ascii_lowercase, str_to_ascii_uppercase}
use Rattle.std.specs.Str.Parse.{digits_value}
use Rattle.std.proofs.lemmas.Bool.{and_parts}
use Rattle.std.proofs.lemmas.Bool.Decides.{nat_tests}
use Rattle.std.proofs.lemmas.Fmt.{decimal_nonempty, digits_decimal, digits_value-decimal}
use Rattle.std.proofs.lemmas.Str.{IsUtf8-from_ascii}
use Rattle.std.proofs.lemmas.Str.Ascii.{IsAscii-cons, IsAscii-nil, lowercase-lowercase}
use Rattle.std.proofs.lemmas.Str.Parse.{numerals_by_value, tells_all_ascii_digits}
use Rattle.pdw_lex.specs.Bytes.{begins_with, is_letter, is_word_byte}
use Rattle.pdw_lex.specs.Keyword.{keyword_of}
use Rattle.pdw_lex.specs.Piece.{IsWord}
use Rattle.pdw_lex.specs.Sign.{SignEnds, is_sign_byte, sign_text}
use Rattle.pdw_lex.specs.declared.keyword.Keyword.{Keyword}
use Rattle.pdw_lex.specs.declared.keyword.Keyword.TheVariants as k
use Rattle.pdw_lex.specs.declared.sign.Sign.{Sign}
use Rattle.pdw_lex.specs.declared.sign.Sign.TheVariants as s
use Rattle.pdw_lex.specs.declared.token.Lexeme.TheVariants as lexeme
use Rattle.pdw_ast.specs.Written.{key, keyword_text, name, number, sign, text, word}
use Rattle.pdw_ast.proofs.Valid.{Valid, Spelled}

-- ---- bytes below 128

all_utf8 : (test : ℕ → Bool) → ((b : ℕ) → test b ≡ true → b < 128) → (bytes : List ℕ) → list_all test bytes ≡ true → IsUtf8 bytes
all_utf8 test small bytes all = IsUtf8-from_ascii bytes (go bytes all)
  where
    go : (bytes : List ℕ) → list_all test bytes ≡ true → IsAscii bytes
    go [] all = IsAscii-nil
    go (b ∷ bs) all = let parts = and_parts (test b) (list_all test bs) all in IsAscii-cons b bs (small b parts.0) (go bs parts.1)

word_ascii : (b : ℕ) → is_word_byte b ≡ true → b < 128
word_ascii b e = grind (arith, nat_tests)

digit_ascii : (b : ℕ) → is_ascii_digit b ≡ true → b < 128
digit_ascii b e = grind (arith, nat_tests)

sign_ascii : (b : ℕ) → is_sign_byte b ≡ true → b < 128
sign_ascii b e = grind (arith, nat_tests)

-- ---- keywords and words

keyword_spelled : (keyword : Keyword) → begins_with is_letter (keyword_text keyword) ≡ true → list_all is_word_byte (keyword_text keyword) ≡ true
    → keyword_of (str_to_ascii_lowercase (keyword_text keyword)) ≡ Some keyword → Spelled (key keyword)
keyword_spelled keyword begins bytes is = record {
  spells = λ rest. (record { begins = begins; bytes = bytes; ends = refl }, is);
  utf8 = all_utf8 is_word_byte word_ascii (keyword_text keyword) bytes;
}

pub key_spelled : (keyword : Keyword) → Spelled (key keyword)
unfolding keyword_of
key_spelled k.KwAll = keyword_spelled k.KwAll refl refl refl
key_spelled k.KwAnd = keyword_spelled k.KwAnd refl refl refl
key_spelled k.KwAs = keyword_spelled k.KwAs refl refl refl
key_spelled k.KwAsc = keyword_spelled k.KwAsc refl refl refl
key_spelled k.KwBetween = keyword_spelled k.KwBetween refl refl refl
key_spelled k.KwBy = keyword_spelled k.KwBy refl refl refl
key_spelled k.KwCount = keyword_spelled k.KwCount refl refl refl
key_spelled k.KwCreate = keyword_spelled k.KwCreate refl refl refl
key_spelled k.KwCross = keyword_spelled k.KwCross refl refl refl
key_spelled k.KwDesc = keyword_spelled k.KwDesc refl refl refl
key_spelled k.KwDistinct = keyword_spelled k.KwDistinct refl refl refl
key_spelled k.KwDrop = keyword_spelled k.KwDrop refl refl refl
key_spelled k.KwExcept = keyword_spelled k.KwExcept refl refl refl
key_spelled k.KwExists = keyword_spelled k.KwExists refl refl refl
key_spelled k.KwFalse = keyword_spelled k.KwFalse refl refl refl
key_spelled k.KwFrom = keyword_spelled k.KwFrom refl refl refl
key_spelled k.KwFull = keyword_spelled k.KwFull refl refl refl
key_spelled k.KwGroup = keyword_spelled k.KwGroup refl refl refl
key_spelled k.KwHaving = keyword_spelled k.KwHaving refl refl refl
key_spelled k.KwIn = keyword_spelled k.KwIn refl refl refl
key_spelled k.KwInner = keyword_spelled k.KwInner refl refl refl
key_spelled k.KwIntersect = keyword_spelled k.KwIntersect refl refl refl
key_spelled k.KwIs = keyword_spelled k.KwIs refl refl refl
key_spelled k.KwJoin = keyword_spelled k.KwJoin refl refl refl
key_spelled k.KwLeft = keyword_spelled k.KwLeft refl refl refl
key_spelled k.KwLike = keyword_spelled k.KwLike refl refl refl
key_spelled k.KwMax = keyword_spelled k.KwMax refl refl refl
key_spelled k.KwMin = keyword_spelled k.KwMin refl refl refl
key_spelled k.KwNot = keyword_spelled k.KwNot refl refl refl
key_spelled k.KwNull = keyword_spelled k.KwNull refl refl refl
key_spelled k.KwOn = keyword_spelled k.KwOn refl refl refl
key_spelled k.KwOr = keyword_spelled k.KwOr refl refl refl
key_spelled k.KwOrder = keyword_spelled k.KwOrder refl refl refl
key_spelled k.KwOuter = keyword_spelled k.KwOuter refl refl refl
key_spelled k.KwRight = keyword_spelled k.KwRight refl refl refl
key_spelled k.KwSelect = keyword_spelled k.KwSelect refl refl refl
key_spelled k.KwSet = keyword_spelled k.KwSet refl refl refl
key_spelled k.KwSum = keyword_spelled k.KwSum refl refl refl
key_spelled k.KwTable = keyword_spelled k.KwTable refl refl refl
key_spelled k.KwTrue = keyword_spelled k.KwTrue refl refl refl
key_spelled k.KwUnion = keyword_spelled k.KwUnion refl refl refl
key_spelled k.KwUnknown = keyword_spelled k.KwUnknown refl refl refl
key_spelled k.KwUpdate = keyword_spelled k.KwUpdate refl refl refl
key_spelled k.KwWhere = keyword_spelled k.KwWhere refl refl refl
key_spelled k.KwWith = keyword_spelled k.KwWith refl refl refl

word_spelled : (w : List ℕ) → begins_with is_letter (str_to_ascii_uppercase w) ≡ true → list_all is_word_byte (str_to_ascii_uppercase w) ≡ true
    → w ≡ str_to_ascii_lowercase (str_to_ascii_uppercase w) → keyword_of w ≡ None → Spelled (word w)
word_spelled w begins bytes is none = record {
  spells = λ rest. (record { begins = begins; bytes = bytes; ends = refl }, is, none);
  utf8 = all_utf8 is_word_byte word_ascii (str_to_ascii_uppercase w) bytes;
}

pub int_spelled : Spelled (word (codes "int"))
unfolding keyword_of
int_spelled = word_spelled _ refl refl refl refl

pub text_word_spelled : Spelled (word (codes "text"))
unfolding keyword_of
text_word_spelled = word_spelled _ refl refl refl refl

pub reader_spelled : Spelled (word (codes "reader"))
unfolding keyword_of
reader_spelled = word_spelled _ refl refl refl refl

pub hashreader_spelled : Spelled (word (codes "hashreader"))
unfolding keyword_of
hashreader_spelled = word_spelled _ refl refl refl refl

pub network_spelled : Spelled (word (codes "network"))
unfolding keyword_of
network_spelled = word_spelled _ refl refl refl refl

pub writer_spelled : Spelled (word (codes "writer"))
unfolding keyword_of
writer_spelled = word_spelled _ refl refl refl refl

pub bulk_spelled : Spelled (word (codes "bulk"))
unfolding keyword_of
bulk_spelled = word_spelled _ refl refl refl refl

pub control_spelled : Spelled (word (codes "control"))
unfolding keyword_of
control_spelled = word_spelled _ refl refl refl refl

pub hash_spelled : Spelled (word (codes "hash"))
unfolding keyword_of
hash_spelled = word_spelled _ refl refl refl refl

pub replicate_spelled : Spelled (word (codes "replicate"))
unfolding keyword_of
replicate_spelled = word_spelled _ refl refl refl refl

pub distribution_spelled : Spelled (word (codes "distribution"))
unfolding keyword_of
distribution_spelled = word_spelled _ refl refl refl refl

pub load_spelled : Spelled (word (codes "load"))
unfolding keyword_of
load_spelled = word_spelled _ refl refl refl refl

pub width_spelled : Spelled (word (codes "width"))
unfolding keyword_of
width_spelled = word_spelled _ refl refl refl refl

pub rows_spelled : Spelled (word (codes "rows"))
unfolding keyword_of
rows_spelled = word_spelled _ refl refl refl refl

pub statistics_spelled : Spelled (word (codes "statistics"))
unfolding keyword_of
statistics_spelled = word_spelled _ refl refl refl refl

pub budget_spelled : Spelled (word (codes "budget"))
unfolding keyword_of
budget_spelled = word_spelled _ refl refl refl refl

pub cost_spelled : Spelled (word (codes "cost"))
unfolding keyword_of
cost_spelled = word_spelled _ refl refl refl refl

pub explain_spelled : Spelled (word (codes "explain"))
unfolding keyword_of
explain_spelled = word_spelled _ refl refl refl refl

pub json_spelled : Spelled (word (codes "json"))
unfolding keyword_of
json_spelled = word_spelled _ refl refl refl refl

pub profile_spelled : Spelled (word (codes "profile"))
unfolding keyword_of
profile_spelled = word_spelled _ refl refl refl refl

pub check_spelled : Spelled (word (codes "check"))
unfolding keyword_of
check_spelled = word_spelled _ refl refl refl refl

pub plan_spelled : Spelled (word (codes "plan"))
unfolding keyword_of
plan_spelled = word_spelled _ refl refl refl refl

pub for_spelled : Spelled (word (codes "for"))
unfolding keyword_of
for_spelled = word_spelled _ refl refl refl refl

-- ---- signs

sign_spelled_by : (t : Sign) → list_all is_sign_byte (sign_text t) ≡ true → ((rest : List ℕ) → SignEnds t (32 ∷ rest)) → Spelled (sign t)
sign_spelled_by t bytes ends = record { spells = λ rest. (refl, ends rest); utf8 = all_utf8 is_sign_byte sign_ascii (sign_text t) bytes }

pub sign_spelled : (t : Sign) → Spelled (sign t)
sign_spelled s.ParenOpen = sign_spelled_by s.ParenOpen refl (λ rest. tt)
sign_spelled s.ParenClose = sign_spelled_by s.ParenClose refl (λ rest. tt)
sign_spelled s.Comma = sign_spelled_by s.Comma refl (λ rest. tt)
sign_spelled s.Semicolon = sign_spelled_by s.Semicolon refl (λ rest. tt)
sign_spelled s.Dot = sign_spelled_by s.Dot refl (λ rest. tt)
sign_spelled s.Star = sign_spelled_by s.Star refl (λ rest. tt)
sign_spelled s.Plus = sign_spelled_by s.Plus refl (λ rest. tt)
sign_spelled s.Minus = sign_spelled_by s.Minus refl (λ rest. refl)
sign_spelled s.Slash = sign_spelled_by s.Slash refl (λ rest. tt)
sign_spelled s.Percent = sign_spelled_by s.Percent refl (λ rest. tt)
sign_spelled s.Equal = sign_spelled_by s.Equal refl (λ rest. tt)
sign_spelled s.NotEqual = sign_spelled_by s.NotEqual refl (λ rest. tt)
sign_spelled s.Less = sign_spelled_by s.Less refl (λ rest. refl)
sign_spelled s.LessEqual = sign_spelled_by s.LessEqual refl (λ rest. tt)
sign_spelled s.Greater = sign_spelled_by s.Greater refl (λ rest. refl)
sign_spelled s.GreaterEqual = sign_spelled_by s.GreaterEqual refl (λ rest. tt)

-- ---- names, texts and numbers

letter_folded : (b : ℕ) → is_letter b ≡ true → is_letter (to_ascii_lowercase b) ≡ true
letter_folded b e = grind (arith, nat_tests)

word_byte_folded : (b : ℕ) → is_word_byte b ≡ true → is_word_byte (to_ascii_lowercase b) ≡ true
word_byte_folded b e = grind (arith, nat_tests)

begins_folded : (bytes : List ℕ) → begins_with is_letter bytes ≡ true → begins_with is_letter (str_to_ascii_lowercase bytes) ≡ true
begins_folded [] e = e
begins_folded (b ∷ bs) e = letter_folded b e

bytes_folded : (bytes : List ℕ) → list_all is_word_byte bytes ≡ true → list_all is_word_byte (str_to_ascii_lowercase bytes) ≡ true
bytes_folded [] all = refl
bytes_folded (b ∷ bs) all =
    let parts = and_parts (is_word_byte b) (list_all is_word_byte bs) all in
    ap₂ (λ x y. x && y) (word_byte_folded b parts.0) (bytes_folded bs parts.1)

folded_folded : (bytes : List ℕ) → str_to_ascii_lowercase bytes ≡ str_to_ascii_lowercase (str_to_ascii_lowercase bytes)
folded_folded [] = refl
folded_folded (b ∷ bs) = ap₂ (λ x xs. x ∷ xs) (sym (lowercase-lowercase b)) (folded_folded bs)

folded_spelled : (bytes rest : List ℕ) → IsWord bytes rest → keyword_of (str_to_ascii_lowercase bytes) ≡ None → Spelled (name (str_to_ascii_lowercase bytes))
folded_spelled bytes rest is none = let folded = bytes_folded bytes is.bytes in record {
  spells = λ rest. (record { begins = begins_folded bytes is.begins; bytes = folded; ends = refl }, folded_folded bytes, none);
  utf8 = all_utf8 is_word_byte word_ascii (str_to_ascii_lowercase bytes) folded;
}

pub name_spelled : (n : List ℕ) → Valid (lexeme.Name n) → Spelled (name n)
name_spelled n v =
    let folded = folded_spelled v.bytes v.rest v.spells.0 (ap keyword_of (sym v.spells.1) ∙ v.spells.2) in
    subst (λ n. Spelled (name n)) (sym v.spells.1) folded

pub text_spelled : (t : List ℕ) → Valid (lexeme.Text t) → Spelled (text t)
text_spelled t v = record { spells = λ rest. (refl, refl, v.spells.2); utf8 = subst IsUtf8 v.spells.0 v.utf8 }

begins_digits : (ds : List ℕ) → 0 < length ds → list_all is_ascii_digit ds ≡ true → begins_with is_ascii_digit ds ≡ true
begins_digits [] some all = absurd (omega arith)
begins_digits (d ∷ ds) some all = (and_parts (is_ascii_digit d) (list_all is_ascii_digit ds) all).0

digits_spelled : (value : ℕ) → value < 2 ^ 63 → Spelled (number (pos value))
digits_spelled value fits =
    let own = numerals_by_value (λ ds. all_ascii_digits ds ≡ true) tells_all_ascii_digits in
    let all : list_all is_ascii_digit (decimal value) ≡ true = digits_decimal own value (omega arith) in
    let is : digits_value 10 (decimal value) ≡ value = digits_value-decimal own value (omega arith) in
    record {
      spells = λ rest. (record { begins = begins_digits (decimal value) (decimal_nonempty value (omega arith)) all; bytes = all; ends = refl }, ap pos (sym is), omega (arith, is));
      utf8 = all_utf8 is_ascii_digit digit_ascii (decimal value) all;
    }

pub number_spelled : (z : ℤ) → Valid (lexeme.Number z) → Spelled (number z)
number_spelled z v = subst (λ z. Spelled (number z)) (sym v.spells.1) (digits_spelled (digits_value 10 v.bytes) v.spells.2)
