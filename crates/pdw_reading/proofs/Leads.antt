-- What a text begins with, or what follows it where it is empty.
use Rattle.std.proofs.Common.{◌≡◌, ℕ, ℤ, pos, Bool, true, false, not, ◌&&◌, ◌||◌, if◌then◌else◌, List, [], ◌++◌, Option, Some, None, refl, sym, ◌∙◌, ap, subst, is_some, append_assoc, append-nil, true≢false, bytes_eq}
use Rattle.std.proofs.lemmas.Slice.Eq.{bytes_eq-Decides}
use denote.Enum.Bare.{same_true, true_same}
use Rattle.pdw_lex.specs.contracts.keyword.Keyword.{the_type as the_keywords}
use Rattle.pdw_lex.specs.contracts.sign.Sign.{the_type as the_signs}
use Rattle.pdw_lex.specs.declared.keyword.Keyword.{Keyword}
use Rattle.pdw_lex.specs.declared.sign.Sign.{Sign}
use Rattle.pdw_lex.specs.declared.sign.Sign.TheVariants.{ParenOpen, ParenClose}
use Rattle.pdw_lex.specs.declared.token.Lexeme.{Lexeme}
use Rattle.pdw_lex.specs.declared.token.Lexeme.TheVariants as lexeme
use Rattle.pdw_syntax.specs.Lexemes.{same_keyword, same_sign, is_key, is_sign, is_word, name_of, number_of, text_of}
use Rattle.pdw_syntax.specs.Rule.{Empty, empty, One, one, Then, both, Either, first, second, Maybe, absent, present, Many, none, more, Enclosed, enclosed}
use Rattle.pdw_reading.specs.Reading.{Outcome, read, stopped, Reader, and_then, next, meaning_of, take, take_if, eat}
use Rattle.pdw_reading.proofs.Law.{Lawful}
use Rattle.pdw_reading.proofs.Rules.{made, then_map, then_assoc, empty_then}
use Rattle.pdw_reading.proofs.Closure.{always, then_law, one_law, pure_law, narrower_law}
use Rattle.pdw_reading.proofs.ClosureNext.{branch_law, by_test_law}

-- ---- tests of the next lexeme

-- it means something by the test
abbrev pub seen : {A : Type 0} → (Lexeme → Option A) → Option Lexeme → Bool
seen f o = is_some (meaning_of f o)

abbrev pub unless : (Option Lexeme → Bool) → Option Lexeme → Bool
unless s o = not (s o)

infixr 9 ◌or◌
abbrev pub ◌or◌ : (Option Lexeme → Bool) → (Option Lexeme → Bool) → Option Lexeme → Bool
(s or t) o = s o || t o

-- what the one test allows, the other allows
pub record Narrower (t s : Option Lexeme → Bool) : Type 0 where
  pub into : (o : Option Lexeme) → t o ≡ true → s o ≡ true

is_either : (x y : Bool) {P : Type 0} → (x ≡ true → P) → (y ≡ true → P) → (x || y) ≡ true → P
is_either true y f g e = f refl
is_either false y f g e = g e

pub narrower_or : {s t u : Option Lexeme → Bool} → Narrower s u → Narrower t u → Narrower (s or t) u
narrower_or {s} {t} first_in second_in = record { into = λ o e. is_either (s o) (t o) (first_in.into o) (second_in.into o) e }

pub not_true : (x : Bool) → not x ≡ true → x ≡ false
not_true true e = sym e
not_true false e = refl

if_true : {A : Type 0} (b : Bool) (a : A) → is_some (if b then Some a else None) ≡ true → b ≡ true
if_true true a e = refl
if_true false a e = e

same_key : (j k : Keyword) → same_keyword j k ≡ true → j ≡ k
unfolding same_keyword
same_key j k e = same_true the_keywords tt j k e

same_sign_is : (s t : Sign) → same_sign s t ≡ true → s ≡ t
unfolding same_sign
same_sign_is s t e = same_true the_signs tt s t e

pub narrower_key : (k : Keyword) {s : Option Lexeme → Bool} → s (Some (lexeme.Key k)) ≡ true → Narrower (seen (is_key k)) s
narrower_key k {s} holds = record { into = go }
  where
    go : (o : Option Lexeme) → seen (is_key k) o ≡ true → s o ≡ true
    go (Some (lexeme.Key j)) e = subst (λ i. s (Some (lexeme.Key i)) ≡ true) (sym (same_key j k (if_true (same_keyword j k) tt e))) holds
    go (Some (lexeme.Sign t)) e = absurd (true≢false (sym e))
    go (Some (lexeme.Name n)) e = absurd (true≢false (sym e))
    go (Some (lexeme.Number n)) e = absurd (true≢false (sym e))
    go (Some (lexeme.Text n)) e = absurd (true≢false (sym e))
    go None e = absurd (true≢false (sym e))

pub narrower_sign : (k : Sign) {s : Option Lexeme → Bool} → s (Some (lexeme.Sign k)) ≡ true → Narrower (seen (is_sign k)) s
narrower_sign k {s} holds = record { into = go }
  where
    go : (o : Option Lexeme) → seen (is_sign k) o ≡ true → s o ≡ true
    go (Some (lexeme.Sign j)) e = subst (λ i. s (Some (lexeme.Sign i)) ≡ true) (sym (same_sign_is j k (if_true (same_sign j k) tt e))) holds
    go (Some (lexeme.Key t)) e = absurd (true≢false (sym e))
    go (Some (lexeme.Name n)) e = absurd (true≢false (sym e))
    go (Some (lexeme.Number n)) e = absurd (true≢false (sym e))
    go (Some (lexeme.Text n)) e = absurd (true≢false (sym e))
    go None e = absurd (true≢false (sym e))

pub narrower_name : {s : Option Lexeme → Bool} → ((n : List ℕ) → s (Some (lexeme.Name n)) ≡ true) → Narrower (seen name_of) s
narrower_name {s} holds = record { into = go }
  where
    go : (o : Option Lexeme) → seen name_of o ≡ true → s o ≡ true
    go (Some (lexeme.Name n)) e = holds n
    go (Some (lexeme.Key t)) e = absurd (true≢false (sym e))
    go (Some (lexeme.Sign t)) e = absurd (true≢false (sym e))
    go (Some (lexeme.Number n)) e = absurd (true≢false (sym e))
    go (Some (lexeme.Text n)) e = absurd (true≢false (sym e))
    go None e = absurd (true≢false (sym e))

pub narrower_word : (w : List ℕ) {s : Option Lexeme → Bool} → s (Some (lexeme.Name w)) ≡ true → Narrower (seen (is_word w)) s
narrower_word w {s} holds = record { into = go }
  where
    go : (o : Option Lexeme) → seen (is_word w) o ≡ true → s o ≡ true
    go (Some (lexeme.Name n)) e = subst (λ m. s (Some (lexeme.Name m)) ≡ true) (sym ((bytes_eq-Decides n w).0 (if_true (bytes_eq n w) tt e))) holds
    go (Some (lexeme.Key t)) e = absurd (true≢false (sym e))
    go (Some (lexeme.Sign t)) e = absurd (true≢false (sym e))
    go (Some (lexeme.Number n)) e = absurd (true≢false (sym e))
    go (Some (lexeme.Text n)) e = absurd (true≢false (sym e))
    go None e = absurd (true≢false (sym e))

pub narrower_number : {s : Option Lexeme → Bool} → ((n : ℤ) → s (Some (lexeme.Number n)) ≡ true) → Narrower (seen number_of) s
narrower_number {s} holds = record { into = go }
  where
    go : (o : Option Lexeme) → seen number_of o ≡ true → s o ≡ true
    go (Some (lexeme.Number n)) e = holds n
    go (Some (lexeme.Key t)) e = absurd (true≢false (sym e))
    go (Some (lexeme.Sign t)) e = absurd (true≢false (sym e))
    go (Some (lexeme.Name n)) e = absurd (true≢false (sym e))
    go (Some (lexeme.Text n)) e = absurd (true≢false (sym e))
    go None e = absurd (true≢false (sym e))

pub narrower_text : {s : Option Lexeme → Bool} → ((n : List ℕ) → s (Some (lexeme.Text n)) ≡ true) → Narrower (seen text_of) s
narrower_text {s} holds = record { into = go }
  where
    go : (o : Option Lexeme) → seen text_of o ≡ true → s o ≡ true
    go (Some (lexeme.Text n)) e = holds n
    go (Some (lexeme.Key t)) e = absurd (true≢false (sym e))
    go (Some (lexeme.Sign t)) e = absurd (true≢false (sym e))
    go (Some (lexeme.Name n)) e = absurd (true≢false (sym e))
    go (Some (lexeme.Number n)) e = absurd (true≢false (sym e))
    go None e = absurd (true≢false (sym e))

or_right : (x y : Bool) → y ≡ true → (x || y) ≡ true
or_right true y e = refl
or_right false y e = e

pub narrower_right : (s t : Option Lexeme → Bool) → Narrower t (s or t)
narrower_right s t = record { into = λ o e. or_right (s o) (t o) e }

pub narrower_same : {s : Option Lexeme → Bool} → Narrower s s
narrower_same = record { into = λ o e. e }

pub narrower_trans : {s t u : Option Lexeme → Bool} → Narrower s t → Narrower t u → Narrower s u
narrower_trans below above = record { into = λ o e. above.into o (below.into o e) }

first_true : (x y : Bool) → (x && y) ≡ true → x ≡ true
first_true true y e = refl
first_true false y e = e

second_true : (x y : Bool) → (x && y) ≡ true → y ≡ true
second_true true y e = e
second_true false y e = absurd (true≢false (sym e))

pub narrower_first : (s t : Option Lexeme → Bool) → Narrower (λ o. s o && t o) s
narrower_first s t = record { into = λ o e. first_true (s o) (t o) e }

pub narrower_second : (s t : Option Lexeme → Bool) → Narrower (λ o. s o && t o) t
narrower_second s t = record { into = λ o e. second_true (s o) (t o) e }

-- ---- what comes next where a text of the rule stands before what the first test allows: it passes the second test

pub record Leads {A : Type 0} (R : List Lexeme → A → Type 0) (t s : Option Lexeme → Bool) : Type 0 where
  pub leads : (w : List Lexeme) (a : A) (rest : List Lexeme) → R w a → t (next rest) ≡ true → s (next (w ++ rest)) ≡ true

pub leads_empty : {A : Type 0} {a : A} {t s : Option Lexeme → Bool} → Narrower t s → Leads (Empty a) t s
leads_empty {A} {a} {t} {s} narrower = record { leads = go }
  where
    go : (w : List Lexeme) (b : A) (rest : List Lexeme) → Empty a w b → t (next rest) ≡ true → s (next (w ++ rest)) ≡ true
    go w b rest empty stops = narrower.into (next rest) stops

pub leads_one : {A : Type 0} {f : Lexeme → Option A} {t s : Option Lexeme → Bool} → Narrower (seen f) s → Leads (One f) t s
leads_one {A} {f} {t} {s} narrower = record { leads = go }
  where
    go : (w : List Lexeme) (b : A) (rest : List Lexeme) → One f w b → t (next rest) ≡ true → s (next (w ++ rest)) ≡ true
    go w b rest (one l means) stops = narrower.into (Some l) (ap is_some means)

pub leads_then : {A B : Type 0} {R : List Lexeme → A → Type 0} {S : A → List Lexeme → B → Type 0} {t u s : Option Lexeme → Bool}
    → Leads R u s → ((a : A) → Leads (S a) t u) → Leads (Then R S) t s
leads_then {A} {B} {R} {S} {t} {u} {s} leading following = record { leads = go }
  where
    go : (w : List Lexeme) (b : B) (rest : List Lexeme) → Then R S w b → t (next rest) ≡ true → s (next (w ++ rest)) ≡ true
    go w b rest (both {a = a} x y spells goes_on) stops =
        rw (append_assoc x y rest) (leading.leads x a (y ++ rest) spells ((following a).leads y b rest goes_on stops))

pub leads_always : {A : Type 0} {R : List Lexeme → A → Type 0} {t : Option Lexeme → Bool} → Leads R t always
leads_always = record { leads = λ w a rest spells stops. refl }

-- where the first text is never empty
pub leads_first : {A B : Type 0} {R : List Lexeme → A → Type 0} {S : A → List Lexeme → B → Type 0} {t s : Option Lexeme → Bool} → Leads R always s → Leads (Then R S) t s
leads_first leading = leads_then leading (λ a. leads_always)

pub leads_made : {A B : Type 0} {R : List Lexeme → A → Type 0} {f : A → B} {t s : Option Lexeme → Bool} → Leads R t s → Leads (Then R (λ a. Empty (f a))) t s
leads_made leading = leads_then leading (λ a. leads_empty narrower_same)

pub leads_either : {A : Type 0} {R S : List Lexeme → A → Type 0} {t s : Option Lexeme → Bool} → Leads R t s → Leads S t s → Leads (Either R S) t s
leads_either {A} {R} {S} {t} {s} one_of other = record { leads = go }
  where
    go : (w : List Lexeme) (b : A) (rest : List Lexeme) → Either R S w b → t (next rest) ≡ true → s (next (w ++ rest)) ≡ true
    go w b rest (first spells) stops = one_of.leads w b rest spells stops
    go w b rest (second spells) stops = other.leads w b rest spells stops

pub leads_maybe : {A : Type 0} {R : List Lexeme → A → Type 0} {t s : Option Lexeme → Bool} → Leads R t s → Narrower t s → Leads (Maybe R) t s
leads_maybe {A} {R} {t} {s} leading narrower = record { leads = go }
  where
    go : (w : List Lexeme) (b : Option A) (rest : List Lexeme) → Maybe R w b → t (next rest) ≡ true → s (next (w ++ rest)) ≡ true
    go w b rest absent stops = narrower.into (next rest) stops
    go w b rest (present spells) stops = leading.leads w _ rest spells stops

pub leads_many : {A : Type 0} {R : List Lexeme → A → Type 0} {t s : Option Lexeme → Bool} → Leads R always s → Narrower t s → Leads (Many R) t s
leads_many {A} {R} {t} {s} leading narrower = record { leads = go }
  where
    go : (w : List Lexeme) (b : List A) (rest : List Lexeme) → Many R w b → t (next rest) ≡ true → s (next (w ++ rest)) ≡ true
    go w b rest none stops = narrower.into (next rest) stops
    go w b rest (more {x = x} u v spells others) stops = rw (append_assoc u v rest) (leading.leads u x (v ++ rest) spells refl)

pub leads_enclosed : {A : Type 0} {R : List Lexeme → A → Type 0} {t s : Option Lexeme → Bool} → s (Some (lexeme.Sign ParenOpen)) ≡ true → Leads (Enclosed R) t s
leads_enclosed {A} {R} {t} {s} holds = record { leads = go }
  where
    go : (w : List Lexeme) (b : A) (rest : List Lexeme) → Enclosed R w b → t (next rest) ≡ true → s (next (w ++ rest)) ≡ true
    go w b rest (enclosed v spells) stops = holds

-- what a text begins with, where it is never empty
pub leads_alone : {A : Type 0} {R : List Lexeme → A → Type 0} {s : Option Lexeme → Bool} → Leads R always s → (w : List Lexeme) (a : A) → R w a → s (next w) ≡ true
leads_alone {s = s} leading w a spells = subst (λ v. s (next v) ≡ true) (append-nil w) (leading.leads w a [] spells refl)

-- what does not come next
pub apart : {A : Type 0} {R : List Lexeme → A → Type 0} {t : Option Lexeme → Bool} (s : Option Lexeme → Bool) → Leads R t (unless s)
    → (w : List Lexeme) (a : A) (rest : List Lexeme) → R w a → t (next rest) ≡ true → s (next (w ++ rest)) ≡ false
apart s leading w a rest spells stops = not_true (s (next (w ++ rest))) (leading.leads w a rest spells stops)

-- a text that begins otherwise
pub begins_otherwise : {A : Type 0} {R : List Lexeme → A → Type 0} (s : Option Lexeme → Bool) → Leads R always (unless s)
    → (w : List Lexeme) (a : A) (rest : List Lexeme) → R w a → s (next (w ++ rest)) ≡ true → ⊥
begins_otherwise s leading w a rest spells comes = true≢false (sym comes ∙ apart s leading w a rest spells refl)

-- ---- one reading after the other

pub in_turn : {A B : Type 0} {n : ℕ} {R R' : List Lexeme → A → Type 0} {S S' : A → List Lexeme → B → Type 0}
    {r r' : List Lexeme → Outcome A} {q q' : A → List Lexeme → Outcome B} {s t : Option Lexeme → Bool}
    → Lawful n R R' r r' s → ((a : A) → Lawful n (S a) (S' a) (q a) (q' a) t) → ((a : A) → Leads (S a) t s)
    → Lawful n (Then R S) (Then R' S') (λ ts. and_then (r ts) q) (λ ts. and_then (r' ts) q') t
in_turn before following leading = then_law before following (λ a b v rest. (leading a).leads v b rest)

-- ---- one lexeme

pub key_law : {n : ℕ} (k : Keyword) → Lawful n (One (is_key k)) (One (is_key k)) (take (is_key k)) (take (is_key k)) always
unfolding same_keyword
key_law k = one_law (is_key k) (lexeme.Key k) tt (ap (λ b. if b then Some tt else None) (true_same the_keywords k k refl)) refl refl

pub sign_law : {n : ℕ} (s : Sign) → is_sign s (lexeme.Sign ParenOpen) ≡ None → is_sign s (lexeme.Sign ParenClose) ≡ None
    → Lawful n (One (is_sign s)) (One (is_sign s)) (take (is_sign s)) (take (is_sign s)) always
unfolding same_sign
sign_law s no_open no_close = one_law (is_sign s) (lexeme.Sign s) tt (ap (λ b. if b then Some tt else None) (true_same the_signs s s refl)) no_open no_close

pub name_law : {n : ℕ} → Lawful n (One name_of) (One name_of) (take name_of) (take name_of) always
name_law = one_law name_of (lexeme.Name []) [] refl refl refl

pub word_law : {n : ℕ} (w : List ℕ) → Lawful n (One (is_word w)) (One (is_word w)) (take (is_word w)) (take (is_word w)) always
word_law w = one_law (is_word w) (lexeme.Name w) tt (ap (λ b. if b then Some tt else None) ((bytes_eq-Decides w w).1 refl)) refl refl

pub number_law : {n : ℕ} → Lawful n (One number_of) (One number_of) (take number_of) (take number_of) always
number_law = one_law number_of (lexeme.Number (pos 0)) (pos 0) refl refl refl

pub text_law : {n : ℕ} → Lawful n (One text_of) (One text_of) (take text_of) (take text_of) always
text_law = one_law text_of (lexeme.Text []) [] refl refl refl

-- a value made of what is read
pub made_law : {A B : Type 0} {n : ℕ} {R S : List Lexeme → A → Type 0} {r q : List Lexeme → Outcome A} {stops : Option Lexeme → Bool} (f : A → B)
    → Lawful n R S r q stops
    → Lawful n (Then R (λ a. Empty (f a))) (Then S (λ a. Empty (f a))) (λ ts. and_then (r ts) (λ a ls. read (f a) ls)) (λ ts. and_then (q ts) (λ a ls. read (f a) ls)) stops
made_law f law = in_turn law (λ a. narrower_law (pure_law (f a)) (λ o e. refl)) (λ a. leads_empty narrower_same)

-- the same with a narrower test
pub in_all : {A : Type 0} {n : ℕ} {R S : List Lexeme → A → Type 0} {r q : List Lexeme → Outcome A} {t : Option Lexeme → Bool} → Lawful n R S r q always → Lawful n R S r q t
in_all law = narrower_law law (λ o e. refl)

-- ---- the outcome of readings in turn

pub then_twice : {A B C : Type 0} (o : Outcome A) (f : A → Reader B) (h : B → Reader C) → and_then (and_then o f) h ≡ and_then o (λ a ts. and_then (f a ts) h)
then_twice (read a ts) f h = refl
then_twice (stopped why ts) f h = refl

pub eat_then : {A B : Type 0} (f : Lexeme → Option A) (p : Bool → Reader B) (ts : List Lexeme) → and_then (eat f ts) p ≡ and_then (take_if f ts) (λ o. p (is_some o))
unfolding eat
eat_then f p ts = then_twice (take_if f ts) (λ o ls. read (is_some o) ls) p

-- ---- one reading or the other

pub branch : {A B : Type 0} {n : ℕ} (f : Lexeme → Option A) → f (lexeme.Sign ParenOpen) ≡ None → f (lexeme.Sign ParenClose) ≡ None
    → {S S' T T' : List Lexeme → B → Type 0} (p p' : Bool → List Lexeme → Outcome B) {stops : Option Lexeme → Bool}
    → Lawful n S S' (p true) (p' true) stops → Lawful n T T' (p false) (p' false) stops → Leads T stops (unless (seen f))
    → Lawful n (Either (Then (One f) (λ _. S)) T) (Either (Then (One f) (λ _. S')) T') (λ ts. and_then (eat f ts) p) (λ ts. and_then (eat f ts) p') stops
branch f no_open no_close p p' taken left leading = branch_law f no_open no_close p p' taken left (apart (seen f) leading)

pub by_test : {B : Type 0} {n : ℕ} (test : Option Lexeme → Bool)
    → {S S' T T' : List Lexeme → B → Type 0} (p p' : Bool → List Lexeme → Outcome B) {stops : Option Lexeme → Bool}
    → Lawful n S S' (p true) (p' true) stops → Lawful n T T' (p false) (p' false) stops → Leads S stops test → Leads T stops (unless test)
    → Lawful n (Either S T) (Either S' T') (λ ts. p (test (next ts)) ts) (λ ts. p' (test (next ts)) ts) stops
by_test test p p' holds fails leading leading' = by_test_law test p p' holds fails leading.leads (apart test leading')

-- the one reader or the other
abbrev pub choose : {A : Type 0} → Reader A → Reader A → Bool → Reader A
choose r q true = r
choose r q false = q

-- a text, what is made of its meaning, and what goes by that
pub made_then : {A B C : Type 0} {R : List Lexeme → A → Type 0} {S : B → List Lexeme → C → Type 0} (f : A → B)
    → (w : List Lexeme) (c : C) → Then (Then R (λ a. Empty (f a))) S w c → Then R (λ a. S (f a)) w c
made_then {S = S} f w c spells = then_map (λ v a r. r) (λ a v d r. empty_then (f a) v d r) w c (then_assoc w c spells)

pub made_then_back : {A B C : Type 0} {R : List Lexeme → A → Type 0} {S : B → List Lexeme → C → Type 0} (f : A → B)
    → (w : List Lexeme) (c : C) → Then R (λ a. S (f a)) w c → Then (Then R (λ a. Empty (f a))) S w c
made_then_back f w c (both {a = a} u v spells goes_on) = both u v (made f u a spells) goes_on
