-- How lexemes are read: the steps that every reading is made of. The contracts of this crate's own functions name these.
use Rattle.std.specs.Prelude.{◌≡◌, ◌≢◌, ℕ, zero, suc, Bool, List, [], ◌∷◌, ◌++◌, length, drop, Option, Some, None, Result, Ok, Err, is_some, if◌then◌else◌}
use Rattle.pdw_lex.specs.declared.sign.Sign.TheVariants.{ParenOpen, ParenClose}
use Rattle.pdw_lex.specs.declared.token.Lexeme.{Lexeme}
use Rattle.pdw_syntax.specs.Lexemes.{is_sign}
use Rattle.pdw_reading.specs.declared.parse_error.Stop.{Stop}
use Rattle.pdw_reading.specs.declared.parse_error.Stop.TheVariants.{Memory, Syntax, TooDeep}

-- what was read and the lexemes after it, or why reading stopped and the lexemes from there on
pub data Outcome (A : Type 0) : Type 0 where
  read : A → List Lexeme → Outcome A
  stopped : Stop → List Lexeme → Outcome A

abbrev pub Reader : Type 0 → Type 0
Reader A = List Lexeme → Outcome A

abbrev pub and_then : {A B : Type 0} → Outcome A → (A → Reader B) → Outcome B
and_then (read a rest) f = f a rest
and_then (stopped why rest) f = stopped why rest

infixl 10 ◌>>=◌
abbrev pub ◌>>=◌ : {A B : Type 0} → Reader A → (A → Reader B) → Reader B
r >>= q = λ ts. and_then (r ts) q

infixl 10 ◌>>◌
abbrev pub ◌>>◌ : {A B : Type 0} → Reader A → Reader B → Reader B
r >> q = r >>= (λ _. q)

abbrev pub pure : {A : Type 0} → A → Reader A
pure a = λ ts. read a ts

infixr 11 ◌<$>◌
abbrev pub ◌<$>◌ : {A B : Type 0} → (A → B) → Reader A → Reader B
f <$> r = r >>= (λ a. pure (f a))

abbrev pub refuse : {A : Type 0} → Reader A
refuse = λ ts. stopped Syntax ts

-- ---- the next lexeme

abbrev pub next : List Lexeme → Option Lexeme
next [] = None
next (l ∷ ls) = Some l

-- goes on by the next lexeme
abbrev pub by_next : {A : Type 0} → (Option Lexeme → Reader A) → Reader A
by_next f = λ ts. f (next ts) ts

abbrev pub advance : Reader (Unit {0})
advance = λ ts. read tt (drop 1 ts)

abbrev pub meaning_of : {A : Type 0} → (Lexeme → Option A) → Option Lexeme → Option A
meaning_of f None = None
meaning_of f (Some l) = f l

abbrev pub sees : {A : Type 0} → (Lexeme → Option A) → List Lexeme → Bool
sees f ts = is_some (meaning_of f (next ts))

abbrev pub taken : {A : Type 0} → Option A → Reader A
taken None = refuse
taken (Some a) = advance >> pure a

-- takes a lexeme that means something by the test
unfoldable pub take : {A : Type 0} → (Lexeme → Option A) → Reader A
take f = by_next (λ l. taken (meaning_of f l))

abbrev pub taken_if : {A : Type 0} → Option A → Reader (Option A)
taken_if None = pure None
taken_if (Some a) = advance >> pure (Some a)

-- takes such a lexeme, if it comes next
unfoldable pub take_if : {A : Type 0} → (Lexeme → Option A) → Reader (Option A)
take_if f = by_next (λ l. taken_if (meaning_of f l))

-- takes such a lexeme, if it comes next, and says whether it did
unfoldable pub eat : {A : Type 0} → (Lexeme → Option A) → Reader Bool
eat f = is_some <$> take_if f

-- ---- any number of texts. The number bounds the turns, and each turn takes a lexeme.

abbrev pub turn : {A : Type 0} → List A → (List A → Reader (List A)) → Option A → Reader (List A)
turn found more None = pure found
turn found more (Some a) = more (found ++ a ∷ [])

abbrev pub many_from : {A : Type 0} → Reader (Option A) → ℕ → List A → Reader (List A)
many_from step zero found = pure found
many_from step (suc n) found = step >>= turn found (many_from step n)

unfoldable pub many : {A : Type 0} → Reader (Option A) → Reader (List A)
many step = λ ts. many_from step (length ts) [] ts

-- a text that a lexeme of the test begins, if it comes next
abbrev pub begun : {A B : Type 0} → (A → Reader B) → Option A → Reader (Option B)
begun f None = pure None
begun f (Some a) = Some <$> f a

abbrev pub begun_by : {A B : Type 0} → (Lexeme → Option A) → (A → Reader B) → Reader (Option B)
begun_by f r = take_if f >>= begun r

-- ---- parentheses

abbrev pub enclosed : {A : Type 0} → Reader A → Reader A
enclosed r = do
  take (is_sign ParenOpen)
  a ← r
  take (is_sign ParenClose)
  pure a

-- where no further parenthesis may be open
unfoldable pub closed : {A : Type 0} → Reader A
closed = λ ts. if sees (is_sign ParenOpen) ts then stopped TooDeep ts else stopped Syntax ts

-- ---- what a function that reads ensures: the outcome, unless memory is wanted

abbrev pub Reads : {A : Type 0} → Outcome A → Result A Stop → List Lexeme → Type 0
Reads outcome (Ok a) after = outcome ≡ read a after
Reads outcome (Err why) after = why ≢ Memory → outcome ≡ stopped why after
