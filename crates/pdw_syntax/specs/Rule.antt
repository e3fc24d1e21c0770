-- What a rule of the grammar is, and how rules are made of rules.
use Rattle.std.specs.Prelude.{◌≡◌, List, [], ◌∷◌, ◌++◌, Option, Some, None}
use Rattle.pdw_lex.specs.declared.token.Lexeme.{Lexeme}
use Rattle.pdw_lex.specs.declared.token.Lexeme.TheVariants.{Sign}
use Rattle.pdw_lex.specs.declared.sign.Sign.TheVariants.{ParenOpen, ParenClose}

-- which lists of lexemes a rule allows, each with what it means
abbrev pub Rule : Type 0 → Type 1
Rule A = List Lexeme → A → Type 0

-- no lexeme, which means the value
pub data Empty {A : Type 0} (a : A) : List Lexeme → A → Type 0 where
  empty : Empty a [] a

-- one lexeme, where the test gives it a meaning
pub data One {A : Type 0} (meaning : Lexeme → Option A) : List Lexeme → A → Type 0 where
  one : {a : A} → (l : Lexeme) → meaning l ≡ Some a → One meaning (l ∷ []) a

-- a text of the first rule, and then one of the rule that its meaning gives
pub data Then {A B : Type 0} (R : List Lexeme → A → Type 0) (S : A → List Lexeme → B → Type 0) : List Lexeme → B → Type 0 where
  both : {a : A} {b : B} → (u v : List Lexeme) → R u a → S a v b → Then R S (u ++ v) b

-- a text of one of two rules
pub data Either {A : Type 0} (R S : List Lexeme → A → Type 0) : List Lexeme → A → Type 0 where
  first : {w : List Lexeme} {a : A} → R w a → Either R S w a
  second : {w : List Lexeme} {a : A} → S w a → Either R S w a

-- at most one text of the rule
pub data Maybe {A : Type 0} (R : List Lexeme → A → Type 0) : List Lexeme → Option A → Type 0 where
  absent : Maybe R [] None
  present : {w : List Lexeme} {a : A} → R w a → Maybe R w (Some a)

-- any number of texts of the rule, one after the other
pub data Many {A : Type 0} (R : List Lexeme → A → Type 0) : List Lexeme → List A → Type 0 where
  none : Many R [] []
  more : {x : A} {xs : List A} → (u v : List Lexeme) → R u x → Many R v xs → Many R (u ++ v) (x ∷ xs)

-- a text of the rule in parentheses
pub data Enclosed {A : Type 0} (R : List Lexeme → A → Type 0) : List Lexeme → A → Type 0 where
  enclosed : {a : A} → (w : List Lexeme) → R w a → Enclosed R (Sign ParenOpen ∷ (w ++ Sign ParenClose ∷ [])) a

infixl 10 ◌>>=◌
abbrev pub ◌>>=◌ : {A B : Type 0} → Rule A → (A → Rule B) → Rule B
R >>= S = Then R S

infixl 10 ◌>>◌
abbrev pub ◌>>◌ : {A B : Type 0} → Rule A → Rule B → Rule B
R >> S = Then R (λ _. S)

abbrev pub pure : {A : Type 0} → A → Rule A
pure a = Empty a

infixr 11 ◌<$>◌
abbrev pub ◌<$>◌ : {A B : Type 0} → (A → B) → Rule A → Rule B
f <$> R = Then R (λ a. Empty (f a))

infixr 9 ◌or◌
abbrev pub ◌or◌ : {A : Type 0} → Rule A → Rule A → Rule A
R or S = Either R S
