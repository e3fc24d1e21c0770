-- What the texts of a rule of the grammar mean passes a test, where no literal is too long.
use Rattle.std.proofs.Common.{◌≡◌, ◌&&◌, leb, Bool, true, List, [], ◌∷◌, ◌++◌, length, Option, Some, None, refl}
use Rattle.std.specs.Bool.{⊤}
use Rattle.std.specs.List.{AllByRecursion, list_all}
use Rattle.std.proofs.lemmas.Bool.{and_from}
use Rattle.pdw_syntax.specs.Exprs.{listed}
use Rattle.pdw_syntax.specs.Rule.{Empty, empty, One, one, Then, both, Either, first, second, Maybe, absent, present, Many, none, more, Enclosed, enclosed}
use Rattle.pdw_catalog.specs.declared.table.TheConstants.{MOST_TEXT_BYTES}
use Rattle.pdw_lex.specs.declared.sign.Sign.TheVariants.{ParenClose}
use Rattle.pdw_lex.specs.declared.token.Lexeme.{Lexeme}
use Rattle.pdw_lex.specs.declared.token.Lexeme.TheVariants as lexeme

-- a literal is not too long
abbrev pub Short : Lexeme → Type 0
Short (lexeme.Text text) = leb (length text) MOST_TEXT_BYTES ≡ true
Short _ = ⊤

-- what each text of the rule means passes the test, where the literals of the text are short
pub record Gives {A : Type 0} (R : List Lexeme → A → Type 0) (test : A → Bool) : Type 0 where
  pub from : (w : List Lexeme) (a : A) → AllByRecursion Short w → R w a → test a ≡ true

-- ---- of a text that is cut in two, each part

all-left : {X : Type 0} (P : X → Type 0) (xs ys : List X) → AllByRecursion P (xs ++ ys) → AllByRecursion P xs
all-left P [] ys all = tt
all-left P (x ∷ xs) ys all = (all.0, all-left P xs ys all.1)

all-right : {X : Type 0} (P : X → Type 0) (xs ys : List X) → AllByRecursion P (xs ++ ys) → AllByRecursion P ys
all-right P [] ys all = all
all-right P (x ∷ xs) ys all = all-right P xs ys all.1

-- ---- no lexeme, and one

pub gives_nothing : {A : Type 0} {test : A → Bool} {a : A} → test a ≡ true → Gives (Empty a) test
gives_nothing {A = A} {test = test} {a = a} is = record { from = go }
  where
    go : (w : List Lexeme) (b : A) → AllByRecursion Short w → Empty a w b → test b ≡ true
    go w b short empty = is

pub gives_one : {A : Type 0} {meaning : Lexeme → Option A} {test : A → Bool} → ((l : Lexeme) (a : A) → Short l → meaning l ≡ Some a → test a ≡ true) → Gives (One meaning) test
gives_one {A = A} {meaning = meaning} {test = test} law = record { from = go }
  where
    go : (w : List Lexeme) (a : A) → AllByRecursion Short w → One meaning w a → test a ≡ true
    go w a short (one l is) = law l a short.0 is

-- ---- one text after the other

-- a text of which nothing is needed
pub after : {A B : Type 0} {R : List Lexeme → A → Type 0} {S : A → List Lexeme → B → Type 0} {test : B → Bool} → ((a : A) → Gives (S a) test) → Gives (Then R S) test
after {A = A} {B = B} {R = R} {S = S} {test = test} law = record { from = go }
  where
    go : (w : List Lexeme) (b : B) → AllByRecursion Short w → Then R S w b → test b ≡ true
    go w b short (both {a = a} u v r s) = (law a).from v b (all-right Short u v short) s

-- a text whose meaning passes a test of its own
pub passed : {A B : Type 0} {R : List Lexeme → A → Type 0} {S : A → List Lexeme → B → Type 0} {front : A → Bool} {test : B → Bool}
    → Gives R front → ((a : A) → front a ≡ true → Gives (S a) test) → Gives (Then R S) test
passed {A = A} {B = B} {R = R} {S = S} {test = test} begins law = record { from = go }
  where
    go : (w : List Lexeme) (b : B) → AllByRecursion Short w → Then R S w b → test b ≡ true
    go w b short (both {a = a} u v r s) = (law a (begins.from u a (all-left Short u v short) r)).from v b (all-right Short u v short) s

-- ---- rules that are made of rules

pub gives_either : {A : Type 0} {R S : List Lexeme → A → Type 0} {test : A → Bool} → Gives R test → Gives S test → Gives (Either R S) test
gives_either {A = A} {R = R} {S = S} {test = test} law other = record { from = go }
  where
    go : (w : List Lexeme) (a : A) → AllByRecursion Short w → Either R S w a → test a ≡ true
    go w a short (first r) = law.from w a short r
    go w a short (second s) = other.from w a short s

-- what may be left out
abbrev pub where_written : {A : Type 0} → (A → Bool) → Option A → Bool
where_written test None = true
where_written test (Some a) = test a

pub gives_maybe : {A : Type 0} {R : List Lexeme → A → Type 0} {test : A → Bool} → Gives R test → Gives (Maybe R) (where_written test)
gives_maybe {A = A} {R = R} {test = test} law = record { from = go }
  where
    go : (w : List Lexeme) (o : Option A) → AllByRecursion Short w → Maybe R w o → where_written test o ≡ true
    go w o short absent = refl
    go w o short (present {a = a} r) = law.from w a short r

pub gives_many : {A : Type 0} {R : List Lexeme → A → Type 0} {test : A → Bool} → Gives R test → Gives (Many R) (list_all test)
gives_many {A = A} {R = R} {test = test} law = record { from = go }
  where
    go : (w : List Lexeme) (xs : List A) → AllByRecursion Short w → Many R w xs → list_all test xs ≡ true
    go w xs short none = refl
    go w xs short (more {x = x} {xs = ys} u v r rs) = and_from (test x) (list_all test ys) (law.from u x (all-left Short u v short) r) (go v ys (all-right Short u v short) rs)

pub gives_enclosed : {A : Type 0} {R : List Lexeme → A → Type 0} {test : A → Bool} → Gives R test → Gives (Enclosed R) test
gives_enclosed {A = A} {R = R} {test = test} law = record { from = go }
  where
    go : (w : List Lexeme) (a : A) → AllByRecursion Short w → Enclosed R w a → test a ≡ true
    go w a short (enclosed u r) = law.from u a (all-left Short u (lexeme.Sign ParenClose ∷ []) short.1) r

-- two tests at once
pub gives_both : {A : Type 0} {R : List Lexeme → A → Type 0} {test other : A → Bool} → Gives R test → Gives R other → Gives R (λ a. test a && other a)
gives_both {test = test} {other = other} law more_law = record { from = λ w a short r. and_from (test a) (other a) (law.from w a short r) (more_law.from w a short r) }

-- ---- lists with commas

pub gives_listed : {A : Type 0} {R : List Lexeme → A → Type 0} {test : A → Bool} → Gives R test → Gives (listed R) (list_all test)
gives_listed {test = test} law = passed law (λ x is. passed (gives_many (after (λ comma. law))) (λ xs are. gives_nothing (and_from (test x) (list_all test xs) is are)))

-- a list is not empty
pub gives_some : {A : Type 0} {R : List Lexeme → A → Type 0} {test : List A → Bool} → ((x : A) (xs : List A) → test (x ∷ xs) ≡ true) → Gives (listed R) test
gives_some is = after (λ x. after (λ xs. gives_nothing (is x xs)))
