-- The same for readings that agree with lawful ones, and for those that go by the next lexeme.
use Rattle.std.proofs.Common.{◌≡◌, ℕ, Bool, true, false, List, [], ◌∷◌, ◌++◌, Option, Some, None, refl, sym, ◌∙◌, ap, drop, subst, is_some}
use Rattle.pdw_lex.specs.declared.sign.Sign.TheVariants.{ParenOpen, ParenClose}
use Rattle.pdw_lex.specs.declared.token.Lexeme.{Lexeme}
use Rattle.pdw_lex.specs.declared.token.Lexeme.TheVariants.{Sign}
use Rattle.pdw_syntax.specs.Rule.{Empty, One, one, Then, both, Either, first, second, Maybe, absent, present}
use Rattle.pdw_reading.specs.Reading.{Outcome, read, stopped, and_then, next, take, take_if, taken_if, eat, meaning_of}
use Rattle.pdw_reading.proofs.Law.{Balanced, Tells, TellsRead, Above, Lawful, LawfulStep, LawfulAt, Inhabited}
use Rattle.pdw_reading.proofs.Rules.{then_map, either_map}
use Rattle.pdw_reading.proofs.Depths.{within_none, balanced_append, balanced_one}
use Rattle.pdw_reading.specs.declared.parse_error.Stop.TheVariants.{Syntax}
use Rattle.pdw_reading.proofs.Closure.{always, after, same_above, tells_map, tells_like, tells_after, is_none_by, made_law}
use Rattle.pdw_reading.proofs.ClosureMany.{maybe_law}

-- two rules with the same texts
pub same_law : {A : Type 0} {n : ℕ} {R R' F F' : List Lexeme → A → Type 0} {r q : List Lexeme → Outcome A} {stops : Option Lexeme → Bool}
    → ((w : List Lexeme) (a : A) → R w a → F w a) → ((w : List Lexeme) (a : A) → F w a → R w a) → ((w : List Lexeme) (a : A) → F' w a → R' w a)
    → Lawful n F F' r q stops → Lawful n R R' r q stops
same_law {A = A} {n = n} {R = R} {R' = R'} {F = F} {F' = F'} {r = r} {q = q} {stops = stops} into back back' law = record {
  tells = λ ts. tells_map n r back back' ts (r ts) (law.tells ts);
  again = λ w a rest spells. law.again w a rest (into w a spells);
  wider = λ w a spells. back' w a (law.wider w a (into w a spells));
  balanced = λ w a spells. law.balanced w a (into w a spells);
  above = law.above;
  some = record { text = law.some.text; means = law.some.means; spells = back' law.some.text law.some.means law.some.spells };
}

-- readings with the same outcomes
pub equal_law : {A : Type 0} {n : ℕ} {R S : List Lexeme → A → Type 0} {r r' q q' : List Lexeme → Outcome A} {stops : Option Lexeme → Bool}
    → ((ts : List Lexeme) → r' ts ≡ r ts) → ((ts : List Lexeme) → q' ts ≡ q ts) → Lawful n R S r q stops → Lawful n R S r' q' stops
equal_law {n = n} {R = R} {S = S} {r = r} {r' = r'} {q = q} {q' = q'} same same' law = record {
  tells = λ ts. subst (λ f. Tells n R S f ts (f ts)) agrees (law.tells ts);
  again = λ w a rest spells stops. same (w ++ rest) ∙ law.again w a rest spells stops;
  wider = law.wider;
  balanced = law.balanced;
  above = λ ts. rw (same ts, same' ts) (law.above ts);
  some = law.some;
}
  where
    agrees : r ≡ r'
    agrees = λ i us. sym (same us) i

-- a reading that goes by the next lexeme
pub next_law : {A : Type 0} {n : ℕ} {R S : List Lexeme → A → Type 0} {f g : Option Lexeme → List Lexeme → Outcome A} {stops : Option Lexeme → Bool}
    → ((o : Option Lexeme) → LawfulAt o n R S (f o) (g o) stops)
    → ((w : List Lexeme) (a : A) → R w a → S w a) → ((w : List Lexeme) (a : A) → R w a → Balanced n w) → Inhabited S
    → Lawful n R S (λ ts. f (next ts) ts) (λ ts. g (next ts) ts) stops
next_law {A = A} {n = n} {R = R} {S = S} {f = f} {g = g} at wider balanced some = record {
  tells = λ ts. tells_like n R S (f (next ts)) (λ us. f (next us) us) ts (f (next ts) ts) (λ us same. ap (λ o. f o us) same) ((at (next ts)).tells ts refl);
  again = λ w a rest spells stops. (at (next (w ++ rest))).again w a rest refl spells stops;
  wider = wider;
  balanced = balanced;
  above = λ ts. (at (next ts)).above ts refl;
  some = some;
}

-- at a lexeme where the texts of R are those of F
pub at_law : {A : Type 0} {n : ℕ} {R S F F' : List Lexeme → A → Type 0} {r q : List Lexeme → Outcome A} {stops : Option Lexeme → Bool}
    → (o : Option Lexeme) → Lawful n F F' r q stops → ((w : List Lexeme) (a : A) → F w a → R w a) → ((w : List Lexeme) (a : A) → F' w a → S w a)
    → ((w : List Lexeme) (a : A) (rest : List Lexeme) → next (w ++ rest) ≡ o → R w a → F w a) → LawfulAt o n R S r q stops
at_law {n = n} {r = r} o law back back' into = record {
  tells = λ ts comes. tells_map n r back back' ts (r ts) (law.tells ts);
  again = λ w a rest comes spells stops. law.again w a rest (into w a rest comes spells) stops;
  above = λ ts comes. law.above ts;
}

-- where no text of the rule begins
pub refused_law : {A : Type 0} {n : ℕ} {R S : List Lexeme → A → Type 0} {stops : Option Lexeme → Bool}
    → (o : Option Lexeme) → Inhabited S → ((w : List Lexeme) (a : A) (rest : List Lexeme) → next (w ++ rest) ≡ o → R w a → stops (next rest) ≡ true → ⊥)
    → LawfulAt o n R S (λ ts. stopped Syntax ts) (λ ts. stopped Syntax ts) stops
refused_law o some no_text = record {
  tells = λ ts comes. record {
    front = [];
    whole = refl;
    begins = record { more = some.text; means = some.means; spells = some.spells };
    within = λ d. within_none _ d;
    alike = λ other same. refl;
  };
  again = λ w a rest comes spells stops. absurd (no_text w a rest comes spells stops);
  above = λ ts comes. refl;
}

-- ---- a lexeme of a test, if it comes next

pub take_if_law : {A : Type 0} {n : ℕ} (f : Lexeme → Option A) → f (Sign ParenOpen) ≡ None → f (Sign ParenClose) ≡ None
    → LawfulStep n (One f) (One f) (take_if f) (take_if f) always (λ o. is_some (meaning_of f o))
unfolding take_if
take_if_law {A = A} {n = n} f no_open no_close = record {
  tells = tells;
  present = present_text;
  absent = λ rest fails. reads_none (next rest) rest refl (is_none_by (meaning_of f (next rest)) fails);
  starts_with = starts_with;
  ends_none = refl;
  wider = λ w a spells. spells;
  balanced = balanced;
  above = λ ts. same_above (take_if f ts);
}
  where
    reads_none : (o : Option Lexeme) (ts : List Lexeme) → next ts ≡ o → meaning_of f o ≡ None → take_if f ts ≡ read None ts
    reads_none o ts comes means = rw comes (rw means refl)

    nothing : (o : Option Lexeme) (ts : List Lexeme) → next ts ≡ o → meaning_of f o ≡ None → TellsRead (Maybe (One f)) (take_if f) ts None ts
    nothing o ts comes means = record { front = []; whole = refl; spells = absent; alike = λ other same. reads_none o other (sym same ∙ comes) means }

    by_meaning : (l : Lexeme) (ls : List Lexeme) (o : Option A) → f l ≡ o → Tells n (Maybe (One f)) (Maybe (One f)) (take_if f) (l ∷ ls) (taken_if o (l ∷ ls))
    by_meaning l ls None means = nothing (Some l) (l ∷ ls) refl means
    by_meaning l ls (Some a) means = record { front = l ∷ []; whole = refl; spells = present (one l means); alike = λ other same. rw means refl }

    tells : (ts : List Lexeme) → Tells n (Maybe (One f)) (Maybe (One f)) (take_if f) ts (take_if f ts)
    tells [] = nothing None [] refl refl
    tells (l ∷ ls) = by_meaning l ls (f l) refl

    present_text : (w : List Lexeme) (a : A) (rest : List Lexeme) → One f w a → always (next rest) ≡ true → take_if f (w ++ rest) ≡ read (Some a) rest
    present_text w a rest (one l means) stops = rw means refl

    starts_with : (w : List Lexeme) (a : A) → One f w a → is_some (meaning_of f (next w)) ≡ true
    starts_with w a (one l means) = ap is_some means

    balanced : (w : List Lexeme) (a : A) → One f w a → Balanced n w
    balanced w a (one l means) = balanced_one n f l a means no_open no_close

pub eat_law : {A : Type 0} {n : ℕ} (f : Lexeme → Option A) → f (Sign ParenOpen) ≡ None → f (Sign ParenClose) ≡ None
    → Lawful n (Then (Maybe (One f)) (λ found. Empty (is_some found))) (Then (Maybe (One f)) (λ found. Empty (is_some found))) (eat f) (eat f)
    (after always (λ o. is_some (meaning_of f o)))
unfolding eat
eat_law f no_open no_close = made_law is_some (maybe_law (take_if_law f no_open no_close))

-- A reading that goes on by whether such a lexeme came: texts of S begin after it, and none of T, with what follows, begins with such a lexeme.
pub branch_law : {A B : Type 0} {n : ℕ} (f : Lexeme → Option A) → f (Sign ParenOpen) ≡ None → f (Sign ParenClose) ≡ None
    → {S S' T T' : List Lexeme → B → Type 0} (p p' : Bool → List Lexeme → Outcome B) {stops : Option Lexeme → Bool}
    → Lawful n S S' (p true) (p' true) stops → Lawful n T T' (p false) (p' false) stops
    → ((w : List Lexeme) (b : B) (rest : List Lexeme) → T w b → stops (next rest) ≡ true → is_some (meaning_of f (next (w ++ rest))) ≡ false)
    → Lawful n (Either (Then (One f) (λ _. S)) T) (Either (Then (One f) (λ _. S')) T') (λ ts. and_then (eat f ts) p) (λ ts. and_then (eat f ts) p') stops
unfolding eat take take_if
branch_law {A = A} {B = B} {n = n} f no_open no_close {S = S} {S' = S'} {T = T} {T' = T'} p p' {stops = stops} law left apart = record {
  tells = tells;
  again = again;
  wider = λ w b t. either_map (λ u c. then_map (λ x a spells. spells) (λ a v c spells. law.wider v c spells) u c) left.wider w b t;
  balanced = balanced;
  above = λ ts. over ts (meaning_of f (next ts));
  some = record { text = left.some.text; means = left.some.means; spells = second left.some.spells };
}
  where
    reads_left : (o : Option Lexeme) (us : List Lexeme) → next us ≡ o → meaning_of f o ≡ None → and_then (eat f us) p ≡ p false us
    reads_left o us comes means = rw comes (rw means refl)

    reads_taken : (l : Lexeme) (us : List Lexeme) (a : A) → next us ≡ Some l → f l ≡ Some a → and_then (eat f us) p ≡ p true (drop 1 us)
    reads_taken l us a comes means = rw comes (rw means refl)

    by_take : (l : Lexeme) (us : List Lexeme) (a : A) → next us ≡ Some l → f l ≡ Some a → and_then (eat f us) p ≡ and_then (take f us) (λ a. p true)
    by_take l us a comes means = reads_taken l us a comes means ∙ rw comes (rw means refl)

    not_begun : (o : Option Lexeme) (ts : List Lexeme) → next ts ≡ o → meaning_of f o ≡ None
        → Tells n (Either (Then (One f) (λ a. S)) T) (Either (Then (One f) (λ a. S')) T') (λ us. and_then (eat f us) p) ts (p false ts)
    not_begun o ts comes means =
        tells_map n (λ us. and_then (eat f us) p) (λ w b t. second t) (λ w b t. second t) ts (p false ts)
        (tells_like n T T' (p false) (λ us. and_then (eat f us) p) ts (p false ts) (λ us same. reads_left o us (same ∙ comes) means) (left.tells ts))

    is_begun : (l : Lexeme) (ls : List Lexeme) (a : A) → f l ≡ Some a
        → Tells n (Either (Then (One f) (λ a. S)) T) (Either (Then (One f) (λ a. S')) T') (λ us. and_then (eat f us) p) (l ∷ ls) (p true ls)
    is_begun l ls a means =
        tells_map n (λ us. and_then (eat f us) p) (λ w b t. first t) (λ w b t. first t) (l ∷ ls) (p true ls)
        (tells_like n (Then (One f) (λ a. S)) (Then (One f) (λ a. S')) (λ us. and_then (take f us) (λ a. p true)) (λ us. and_then (eat f us) p) (l ∷ ls) (p true ls) (λ us same. by_take l us a same means)
        (tells_after n (One f) (One f) (λ a. S) (λ a. S') (take f) (λ a. p true) (l ∷ []) ls a (one l means) (one l means)
        (balanced_one n f l a means no_open no_close) (λ other same. rw means refl) (p true ls) (law.tells ls)))

    by_meaning : (l : Lexeme) (ls : List Lexeme) (o : Option A) → f l ≡ o
        → Tells n (Either (Then (One f) (λ a. S)) T) (Either (Then (One f) (λ a. S')) T') (λ us. and_then (eat f us) p) (l ∷ ls) (and_then (and_then (taken_if o (l ∷ ls)) (λ x us. read (is_some x) us)) p)
    by_meaning l ls None means = not_begun (Some l) (l ∷ ls) refl means
    by_meaning l ls (Some a) means = is_begun l ls a means

    tells : (ts : List Lexeme) → Tells n (Either (Then (One f) (λ a. S)) T) (Either (Then (One f) (λ a. S')) T') (λ us. and_then (eat f us) p) ts (and_then (eat f ts) p)
    tells [] = not_begun None [] refl refl
    tells (l ∷ ls) = by_meaning l ls (f l) refl

    after_first : (u v : List Lexeme) (a : A) (b : B) (rest : List Lexeme) → One f u a → S v b → stops (next rest) ≡ true → and_then (eat f ((u ++ v) ++ rest)) p ≡ read b rest
    after_first u v a b rest (one l means) sv ends = reads_taken l (l ∷ (v ++ rest)) a refl means ∙ law.again v b rest sv ends

    begun_again : (w : List Lexeme) (b : B) (rest : List Lexeme) → Then (One f) (λ a. S) w b → stops (next rest) ≡ true → and_then (eat f (w ++ rest)) p ≡ read b rest
    begun_again w b rest (both {a = a} u v ru sv) ends = after_first u v a b rest ru sv ends

    again : (w : List Lexeme) (b : B) (rest : List Lexeme) → Either (Then (One f) (λ a. S)) T w b → stops (next rest) ≡ true → and_then (eat f (w ++ rest)) p ≡ read b rest
    again w b rest (first t) ends = begun_again w b rest t ends
    again w b rest (second t) ends =
        reads_left (next (w ++ rest)) (w ++ rest) refl (is_none_by (meaning_of f (next (w ++ rest))) (apart w b rest t ends)) ∙ left.again w b rest t ends

    first_balanced : (u : List Lexeme) (a : A) → One f u a → Balanced n u
    first_balanced u a (one l means) = balanced_one n f l a means no_open no_close

    begun_balanced : (w : List Lexeme) (b : B) → Then (One f) (λ a. S) w b → Balanced n w
    begun_balanced w b (both {a = a} u v ru sv) = balanced_append n u v (first_balanced u a ru) (law.balanced v b sv)

    balanced : (w : List Lexeme) (b : B) → Either (Then (One f) (λ a. S)) T w b → Balanced n w
    balanced w b (first t) = begun_balanced w b t
    balanced w b (second t) = left.balanced w b t

    over : (ts : List Lexeme) (o : Option A) → Above (and_then (and_then (taken_if o ts) (λ x us. read (is_some x) us)) p) (and_then (and_then (taken_if o ts) (λ x us. read (is_some x) us)) p')
    over ts None = left.above ts
    over ts (Some a) = law.above (drop 1 ts)

-- A reading that goes by a test of the next lexeme and takes nothing for it. (sees f ts is such a test, by λ o. is_some (meaning_of f o).)
pub by_test_law : {B : Type 0} {n : ℕ} (test : Option Lexeme → Bool)
    → {S S' T T' : List Lexeme → B → Type 0} (p p' : Bool → List Lexeme → Outcome B) {stops : Option Lexeme → Bool}
    → Lawful n S S' (p true) (p' true) stops → Lawful n T T' (p false) (p' false) stops
    → ((w : List Lexeme) (b : B) (rest : List Lexeme) → S w b → stops (next rest) ≡ true → test (next (w ++ rest)) ≡ true)
    → ((w : List Lexeme) (b : B) (rest : List Lexeme) → T w b → stops (next rest) ≡ true → test (next (w ++ rest)) ≡ false)
    → Lawful n (Either S T) (Either S' T') (λ ts. p (test (next ts)) ts) (λ ts. p' (test (next ts)) ts) stops
by_test_law {B = B} {n = n} test {S = S} {S' = S'} {T = T} {T' = T'} p p' {stops = stops} holds fails at_holds at_fails = record {
  tells = λ ts. told ts (test (next ts)) refl;
  again = again;
  wider = λ w b t. either_map holds.wider fails.wider w b t;
  balanced = balanced;
  above = λ ts. over ts (test (next ts));
  some = record { text = holds.some.text; means = holds.some.means; spells = first holds.some.spells };
}
  where
    told : (ts : List Lexeme) (b : Bool) → test (next ts) ≡ b → Tells n (Either S T) (Either S' T') (λ us. p (test (next us)) us) ts (p b ts)
    told ts true is =
        tells_map n (λ us. p (test (next us)) us) (λ w b t. first t) (λ w b t. first t) ts (p true ts)
        (tells_like n S S' (p true) (λ us. p (test (next us)) us) ts (p true ts) (λ us same. ap (λ b. p b us) (ap test same ∙ is)) (holds.tells ts))
    told ts false is =
        tells_map n (λ us. p (test (next us)) us) (λ w b t. second t) (λ w b t. second t) ts (p false ts)
        (tells_like n T T' (p false) (λ us. p (test (next us)) us) ts (p false ts) (λ us same. ap (λ b. p b us) (ap test same ∙ is)) (fails.tells ts))

    again : (w : List Lexeme) (b : B) (rest : List Lexeme) → Either S T w b → stops (next rest) ≡ true → p (test (next (w ++ rest))) (w ++ rest) ≡ read b rest
    again w b rest (first t) ends = ap (λ c. p c (w ++ rest)) (at_holds w b rest t ends) ∙ holds.again w b rest t ends
    again w b rest (second t) ends = ap (λ c. p c (w ++ rest)) (at_fails w b rest t ends) ∙ fails.again w b rest t ends

    balanced : (w : List Lexeme) (b : B) → Either S T w b → Balanced n w
    balanced w b (first t) = holds.balanced w b t
    balanced w b (second t) = fails.balanced w b t

    over : (ts : List Lexeme) (b : Bool) → Above (p b ts) (p' b ts)
    over ts true = holds.above ts
    over ts false = fails.above ts
