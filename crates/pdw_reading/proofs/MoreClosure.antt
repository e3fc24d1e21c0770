-- Laws of readings that change what was read, go by a lexeme's value, or have seen their first lexeme before.
use Rattle.std.proofs.Common.{◌≡◌, ℕ, Bool, true, false, ◌&&◌, List, [], ◌∷◌, ◌++◌, drop, Option, Some, None, is_some, refl, sym, ◌∙◌, ap, subst, if◌then◌else◌}
use denote.Enum.Bare.{same_true, true_same}
use Rattle.pdw_lex.specs.contracts.keyword.Keyword.{the_type as the_keywords}
use Rattle.pdw_lex.specs.contracts.sign.Sign.{the_type as the_signs}
use Rattle.pdw_lex.specs.declared.keyword.Keyword.{Keyword}
use Rattle.pdw_lex.specs.declared.sign.Sign.{Sign as ASign}
use Rattle.pdw_lex.specs.declared.sign.Sign.TheVariants.{ParenOpen, ParenClose}
use Rattle.pdw_lex.specs.declared.token.Lexeme.{Lexeme}
use Rattle.pdw_lex.specs.declared.token.Lexeme.TheVariants.{Key, Sign}
use Rattle.pdw_syntax.specs.Rule.{Empty, empty, One, one, Then, both, Either, first, second, Maybe, absent, present, Many, none, more}
use Rattle.pdw_syntax.specs.Lexemes.{is_key, is_sign, key, same_keyword, same_sign}
use Rattle.pdw_reading.specs.Reading.{Outcome, read, stopped, and_then, next, take, taken, take_if, taken_if, meaning_of}
use Rattle.pdw_reading.specs.declared.parse_error.Stop.TheVariants.{Memory, Syntax, TooDeep}
use Rattle.pdw_reading.proofs.Law.{Tells, Above, Balanced, Lawful, LawfulAt}
use Rattle.pdw_reading.proofs.Closure.{always, pure_law, one_law, then_law, then_always, narrower_law}
use Rattle.pdw_reading.proofs.ClosureNext.{next_law}
use Rattle.pdw_reading.proofs.Rules.{then_map, either_map}

pub pure_until : {A : Type 0} {n : ℕ} {stops : Option Lexeme → Bool} (a : A) → Lawful n (Empty a) (Empty a) (λ ts. read a ts) (λ ts. read a ts) stops
pure_until a = narrower_law (pure_law a) (λ o e. refl)

pub empty_follows : {A : Type 0} {a b : A} (stops : Option Lexeme → Bool) (v rest : List Lexeme) → Empty a v b → stops (next rest) ≡ true → stops (next (v ++ rest)) ≡ true
empty_follows stops v rest empty e = e

-- what was read, made into something else
pub made_law : {A B : Type 0} {n : ℕ} {R S : List Lexeme → A → Type 0} {r q : List Lexeme → Outcome A} {stops : Option Lexeme → Bool}
    → (f : A → B) → Lawful n R S r q stops
    → Lawful n (Then R (λ a. Empty (f a))) (Then S (λ a. Empty (f a))) (λ ts. and_then (r ts) (λ a ts. read (f a) ts)) (λ ts. and_then (q ts) (λ a ts. read (f a) ts)) stops
made_law {stops = stops} f law = then_law law (λ a. pure_until (f a)) (λ a b v rest. empty_follows stops v rest)

-- ---- at a lexeme

next_alike : (front rest other : List Lexeme) → next rest ≡ next other → next (front ++ rest) ≡ next (front ++ other)
next_alike [] rest other e = e
next_alike (l ∷ front) rest other e = refl

-- what an outcome tells of a rule, of one with more texts
tells_more : {A : Type 0} {R S F F' : List Lexeme → A → Type 0} (n : ℕ) (r : List Lexeme → Outcome A) (ts : List Lexeme)
    → ((w : List Lexeme) (a : A) → F w a → R w a) → ((w : List Lexeme) (a : A) → F' w a → S w a)
    → (out : Outcome A) → Tells n F F' r ts out → Tells n R S r ts out
tells_more n r ts into into' (read a rest) t = record { front = t.front; whole = t.whole; spells = into t.front a t.spells; alike = t.alike }
tells_more n r ts into into' (stopped Syntax rest) t = record {
  front = t.front;
  whole = t.whole;
  begins = record { more = t.begins.more; means = t.begins.means; spells = into' _ _ t.begins.spells };
  within = t.within;
  alike = t.alike;
}
tells_more n r ts into into' (stopped TooDeep rest) t = record {
  front = t.front;
  whole = t.whole;
  opens = t.opens;
  begins = record { more = t.begins.more; means = t.begins.means; spells = into' _ _ t.begins.spells };
  within = t.within;
  deep = t.deep;
}
tells_more n r ts into into' (stopped Memory rest) t = absurd t

-- what an outcome tells of a reading, of one that is the same at that lexeme
tells_same : {A : Type 0} {r r' : List Lexeme → Outcome A} (n : ℕ) (R S : List Lexeme → A → Type 0) (o : Option Lexeme) (ts : List Lexeme)
    → next ts ≡ o → ((ts : List Lexeme) → next ts ≡ o → r' ts ≡ r ts)
    → (out : Outcome A) → Tells n R S r ts out → Tells n R S r' ts out
tells_same n R S o ts at same (read a rest) t = record {
  front = t.front;
  whole = t.whole;
  spells = t.spells;
  alike = λ other e. same (t.front ++ other) (sym (next_alike t.front rest other e) ∙ ap next (sym t.whole) ∙ at) ∙ t.alike other e;
}
tells_same n R S o ts at same (stopped Syntax rest) t = record {
  front = t.front;
  whole = t.whole;
  begins = t.begins;
  within = t.within;
  alike = λ other e. same (t.front ++ other) (sym (next_alike t.front rest other e) ∙ ap next (sym t.whole) ∙ at) ∙ t.alike other e;
}
tells_same n R S o ts at same (stopped TooDeep rest) t = record { front = t.front; whole = t.whole; opens = t.opens; begins = t.begins; within = t.within; deep = t.deep }
tells_same n R S o ts at same (stopped Memory rest) t = t

-- where the texts of R that may stand there are those of F, and the readings are those of F
pub at_by_law : {A : Type 0} {n : ℕ} {R S F F' : List Lexeme → A → Type 0} {r q r' q' : List Lexeme → Outcome A} {stops : Option Lexeme → Bool}
    → (o : Option Lexeme) → Lawful n F F' r q stops → ((w : List Lexeme) (a : A) → F w a → R w a) → ((w : List Lexeme) (a : A) → F' w a → S w a)
    → ((w : List Lexeme) (a : A) (rest : List Lexeme) → next (w ++ rest) ≡ o → R w a → stops (next rest) ≡ true → F w a)
    → ((ts : List Lexeme) → next ts ≡ o → r' ts ≡ r ts) → ((ts : List Lexeme) → next ts ≡ o → q' ts ≡ q ts)
    → LawfulAt o n R S r' q' stops
at_by_law {A} {n} {R} {S} {F} {F'} {r} {q} {r'} {q'} o law back back' into same same' = record {
  tells = λ ts at. let P : Outcome A → Type 0 = λ out. Tells n R S r' ts out in
      subst P (sym (same ts at)) (tells_same n R S o ts at same (r ts) (tells_more n r ts back back' (r ts) (law.tells ts)));
  again = λ w a rest at spells follows. same (w ++ rest) at ∙ law.again w a rest (into w a rest at spells follows) follows;
  above = λ ts at. let P : Outcome A → Type 0 = λ out. Above (r' ts) out in let Q : Outcome A → Type 0 = λ out. Above out (q ts) in
      subst P (sym (same' ts at)) (subst Q (sym (same ts at)) (law.above ts));
}

-- a lexeme that was seen already is taken
pub seen : {A B : Type 0} (f : Lexeme → Option A) (a : A) (go_on : A → List Lexeme → Outcome B) (ts : List Lexeme)
    → meaning_of f (next ts) ≡ Some a → and_then (take f ts) go_on ≡ go_on a (drop 1 ts)
unfolding take
seen f a go_on ts e = ap (λ m. and_then (taken m ts) go_on) e

-- ---- by a lexeme of a test, or without it

first_of_one : {A : Type 0} {f : Lexeme → Option A} (u rest : List Lexeme) (a : A) → One f u a → meaning_of f (next (u ++ rest)) ≡ Some a
first_of_one u rest a (one l e) = e

pub next_append : (u v rest : List Lexeme) → next ((u ++ v) ++ rest) ≡ next (u ++ (v ++ rest))
next_append [] v rest = refl
next_append (l ∷ u) v rest = refl

-- the first lexeme of a text
pub one_first : {A B : Type 0} {f : Lexeme → Option A} {S : A → List Lexeme → B → Type 0} (w : List Lexeme) (b : B) (rest : List Lexeme)
    → Then (One f) S w b → is_some (meaning_of f (next (w ++ rest))) ≡ true
one_first {f = f} w b rest (both {a = a} u v t s) = ap (λ o. is_some (meaning_of f o)) (next_append u v rest) ∙ ap is_some (first_of_one u (v ++ rest) a t)

pub none_not_some : {A B : Type 0} (a : A) → None ≡ Some a → B
none_not_some a e = absurd cc

pub some_not_none : {A B : Type 0} (f : Lexeme → Option A) (o : Option Lexeme) → meaning_of f o ≡ None → is_some (meaning_of f o) ≡ true → B
some_not_none f o e t = absurd (let h : true ≡ false = sym t ∙ ap is_some e in cc)

at_choice : {A B : Type 0} {n : ℕ} (f : Lexeme → Option A) (o : Option Lexeme) → f (Sign ParenOpen) ≡ None → f (Sign ParenClose) ≡ None
    → {S S' : A → List Lexeme → B → Type 0} {T T' : List Lexeme → B → Type 0} (p p' : Option A → List Lexeme → Outcome B) {stops : Option Lexeme → Bool}
    → ((a : A) → Lawful n (S a) (S' a) (p (Some a)) (p' (Some a)) stops) → Lawful n T T' (p None) (p' None) stops
    → ((w : List Lexeme) (b : B) (rest : List Lexeme) → T w b → stops (next rest) ≡ true → meaning_of f (next (w ++ rest)) ≡ None)
    → (m : Option A) → meaning_of f o ≡ m
    → LawfulAt o n (Either (Then (One f) S) T) (Either (Then (One f) S') T')
    (λ ts. and_then (taken_if (meaning_of f o) ts) p) (λ ts. and_then (taken_if (meaning_of f o) ts) p') stops
at_choice {n = n} f o no_open no_close {S} {S'} {T} {T'} p p' {stops} taken left apart None e = at_by_law o left (λ w b t. second t) (λ w b t. second t) into
    (λ ts at. ap (λ m. and_then (taken_if m ts) p) e) (λ ts at. ap (λ m. and_then (taken_if m ts) p') e)
  where
    into : (w : List Lexeme) (b : _) (rest : List Lexeme) → next (w ++ rest) ≡ o → Either (Then (One f) S) T w b → stops (next rest) ≡ true → T w b
    into w b rest at (first t) follows = some_not_none f o e (sym (ap (λ o. is_some (meaning_of f o)) at) ∙ one_first w b rest t)
    into w b rest at (second t) follows = t
at_choice f None no_open no_close p p' taken left apart (Some a) e = none_not_some a e
at_choice {n = n} f (Some l) no_open no_close {S} {S'} {T} {T'} p p' {stops} taken left apart (Some a) e =
    at_by_law (Some l) head (λ w b t. first t) (λ w b t. first t) into
    (λ ts at. ap (λ m. and_then (taken_if m ts) p) e ∙ sym (seen f a (λ a. p (Some a)) ts (ap (meaning_of f) at ∙ e)))
    (λ ts at. ap (λ m. and_then (taken_if m ts) p') e ∙ sym (seen f a (λ a. p' (Some a)) ts (ap (meaning_of f) at ∙ e)))
  where
    head : Lawful n (Then (One f) S) (Then (One f) S') (λ ts. and_then (take f ts) (λ a. p (Some a))) (λ ts. and_then (take f ts) (λ a. p' (Some a))) stops
    head = then_always (one_law f l a e no_open no_close) taken

    into : (w : List Lexeme) (b : _) (rest : List Lexeme) → next (w ++ rest) ≡ Some l → Either (Then (One f) S) T w b → stops (next rest) ≡ true → Then (One f) S w b
    into w b rest at (first t) follows = t
    into w b rest at (second t) follows = none_not_some a (sym (apart w b rest t follows) ∙ ap (meaning_of f) at ∙ e)

pub choice_law : {A B : Type 0} {n : ℕ} (f : Lexeme → Option A) (l : Lexeme) (a : A) → f l ≡ Some a → f (Sign ParenOpen) ≡ None → f (Sign ParenClose) ≡ None
    → {S S' : A → List Lexeme → B → Type 0} {T T' : List Lexeme → B → Type 0} (p p' : Option A → List Lexeme → Outcome B) {stops : Option Lexeme → Bool}
    → ((a : A) → Lawful n (S a) (S' a) (p (Some a)) (p' (Some a)) stops) → Lawful n T T' (p None) (p' None) stops
    → ((w : List Lexeme) (b : B) (rest : List Lexeme) → T w b → stops (next rest) ≡ true → meaning_of f (next (w ++ rest)) ≡ None)
    → Lawful n (Either (Then (One f) S) T) (Either (Then (One f) S') T') (λ ts. and_then (take_if f ts) p) (λ ts. and_then (take_if f ts) p') stops
unfolding take_if
choice_law {n = n} f l a e no_open no_close {S} {S'} {T} {T'} p p' {stops} taken left apart =
    next_law {f = λ o ts. and_then (taken_if (meaning_of f o) ts) p} {g = λ o ts. and_then (taken_if (meaning_of f o) ts) p'}
    (λ o. at_choice f o no_open no_close p p' taken left apart (meaning_of f o) refl)
    (either_map (then_map (λ w a t. t) (λ a. (taken a).wider)) left.wider)
    balanced
    (record { text = left.some.text; means = left.some.means; spells = second left.some.spells })
  where
    head : Lawful n (Then (One f) S) (Then (One f) S') (λ ts. and_then (take f ts) (λ a. p (Some a))) (λ ts. and_then (take f ts) (λ a. p' (Some a))) stops
    head = then_always (one_law f l a e no_open no_close) taken

    balanced : (w : List Lexeme) (b : _) → Either (Then (One f) S) T w b → Balanced n w
    balanced w b (first t) = head.balanced w b t
    balanced w b (second t) = left.balanced w b t

-- ---- keywords and signs

pub key_is : (k : Keyword) (l : Lexeme) (u : Unit {0}) → is_key k l ≡ Some u → l ≡ Key k
unfolding same_keyword
key_is k (Key j) u e = go (same_keyword j k) refl
  where
    go : (t : Bool) → same_keyword j k ≡ t → Key j ≡ Key k
    go true h = ap Key (same_true the_keywords tt j k h)
    go false h = none_not_some u (sym (ap (λ t. if t then Some tt else None) h) ∙ e)
key_is k l u e = none_not_some u e

pub sign_is : (s : ASign) (l : Lexeme) (u : Unit {0}) → is_sign s l ≡ Some u → l ≡ Sign s
unfolding same_sign
sign_is s (Sign t) u e = go (same_sign t s) refl
  where
    go : (b : Bool) → same_sign t s ≡ b → Sign t ≡ Sign s
    go true h = ap Sign (same_true the_signs tt t s h)
    go false h = none_not_some u (sym (ap (λ b. if b then Some tt else None) h) ∙ e)
sign_is s l u e = none_not_some u e

pub key_at : (k : Keyword) → is_key k (Key k) ≡ Some tt
unfolding same_keyword
key_at k = ap (λ t. if t then Some tt else None) (true_same the_keywords k k refl)

pub key_law : {n : ℕ} (k : Keyword) → Lawful n (key k) (key k) (take (is_key k)) (take (is_key k)) always
key_law k = one_law (is_key k) (Key k) tt (key_at k) refl refl

pub sign_at : (s : ASign) → is_sign s (Sign s) ≡ Some tt
unfolding same_sign
sign_at s = ap (λ t. if t then Some tt else None) (true_same the_signs s s refl)

pub false_not_true : {B : Type 0} → false ≡ true → B
false_not_true e = absurd cc

-- a lexeme that fails a test is not where the test holds
pub no_key : (k : Keyword) (test : Option Lexeme → Bool) → test (Some (Key k)) ≡ false → (o : Option Lexeme) → test o ≡ true → meaning_of (is_key k) o ≡ None
no_key k test fails None t = refl
no_key k test fails (Some l) t = go (is_key k l) refl
  where
    go : (m : Option (Unit {0})) → is_key k l ≡ m → is_key k l ≡ None
    go None e = e
    go (Some u) e = false_not_true (sym fails ∙ sym (ap (λ l. test (Some l)) (key_is k l u e)) ∙ t)

pub no_sign : (s : ASign) (test : Option Lexeme → Bool) → test (Some (Sign s)) ≡ false → (o : Option Lexeme) → test o ≡ true → meaning_of (is_sign s) o ≡ None
no_sign s test fails None t = refl
no_sign s test fails (Some l) t = go (is_sign s l) refl
  where
    go : (m : Option (Unit {0})) → is_sign s l ≡ m → is_sign s l ≡ None
    go None e = e
    go (Some u) e = false_not_true (sym fails ∙ sym (ap (λ l. test (Some l)) (sign_is s l u e)) ∙ t)

-- a test that holds at a lexeme holds where that lexeme is seen
pub key_seen : (k : Keyword) (test : Option Lexeme → Bool) → test (Some (Key k)) ≡ true → (o : Option Lexeme) → is_some (meaning_of (is_key k) o) ≡ true → test o ≡ true
key_seen k test holds None t = false_not_true t
key_seen k test holds (Some l) t = go (is_key k l) refl
  where
    go : (m : Option (Unit {0})) → is_key k l ≡ m → test (Some l) ≡ true
    go None e = false_not_true (sym (ap is_some e) ∙ t)
    go (Some u) e = ap (λ l. test (Some l)) (key_is k l u e) ∙ holds

pub sign_seen : (s : ASign) (test : Option Lexeme → Bool) → test (Some (Sign s)) ≡ true → (o : Option Lexeme) → is_some (meaning_of (is_sign s) o) ≡ true → test o ≡ true
sign_seen s test holds None t = false_not_true t
sign_seen s test holds (Some l) t = go (is_sign s l) refl
  where
    go : (m : Option (Unit {0})) → is_sign s l ≡ m → test (Some l) ≡ true
    go None e = false_not_true (sym (ap is_some e) ∙ t)
    go (Some u) e = ap (λ l. test (Some l)) (sign_is s l u e) ∙ holds

-- ---- what follows

-- what holds of the lexeme after a text holds of the first lexeme of the text and what is after it
pub then_follows : {A B : Type 0} {R : List Lexeme → A → Type 0} {S : A → List Lexeme → B → Type 0} (test : Option Lexeme → Bool)
    → ((u : List Lexeme) (a : A) (rest : List Lexeme) → R u a → test (next rest) ≡ true → test (next (u ++ rest)) ≡ true)
    → ((a : A) (v : List Lexeme) (b : B) (rest : List Lexeme) → S a v b → test (next rest) ≡ true → test (next (v ++ rest)) ≡ true)
    → (w : List Lexeme) (b : B) (rest : List Lexeme) → Then R S w b → test (next rest) ≡ true → test (next (w ++ rest)) ≡ true
then_follows test before behind w b rest (both {a = a} u v r s) t = ap test (next_append u v rest) ∙ before u a (v ++ rest) r (behind a v b rest s t)

-- what holds of the first lexeme of each text of a rule holds of the first lexeme of what begins with such a text
pub then_begins : {A B : Type 0} {R : List Lexeme → A → Type 0} {S : A → List Lexeme → B → Type 0} (test : Option Lexeme → Bool)
    → ((u : List Lexeme) (a : A) (rest : List Lexeme) → R u a → test (next (u ++ rest)) ≡ true)
    → (w : List Lexeme) (b : B) (rest : List Lexeme) → Then R S w b → test (next (w ++ rest)) ≡ true
then_begins test begins w b rest (both {a = a} u v r s) = ap test (next_append u v rest) ∙ begins u a (v ++ rest) r

pub many_follows : {A B : Type 0} {f : Lexeme → Option A} {S : A → List Lexeme → B → Type 0} (test : Option Lexeme → Bool)
    → ((o : Option Lexeme) → is_some (meaning_of f o) ≡ true → test o ≡ true)
    → (v : List Lexeme) (xs : List B) (rest : List Lexeme) → Many (Then (One f) S) v xs → test (next rest) ≡ true → test (next (v ++ rest)) ≡ true
many_follows test begins v xs rest none t = t
many_follows test begins w xs rest (more {x = x} u v r m) t = ap test (next_append u v rest) ∙ begins (next (u ++ (v ++ rest))) (one_first u x (v ++ rest) r)

pub maybe_follows : {A B : Type 0} {f : Lexeme → Option A} {S : A → List Lexeme → B → Type 0} (test : Option Lexeme → Bool)
    → ((o : Option Lexeme) → is_some (meaning_of f o) ≡ true → test o ≡ true)
    → (v : List Lexeme) (m : Option B) (rest : List Lexeme) → Maybe (Then (One f) S) v m → test (next rest) ≡ true → test (next (v ++ rest)) ≡ true
maybe_follows test begins v m rest absent h = h
maybe_follows test begins v m rest (present {a = b} t) h = begins (next (v ++ rest)) (one_first v b rest t)

pub many_made_follows : {A B C : Type 0} {f : Lexeme → Option A} {S : A → List Lexeme → B → Type 0} {h : List B → C} (test : Option Lexeme → Bool)
    → ((o : Option Lexeme) → is_some (meaning_of f o) ≡ true → test o ≡ true)
    → (v : List Lexeme) (c : C) (rest : List Lexeme) → Then (Many (Then (One f) S)) (λ xs. Empty (h xs)) v c → test (next rest) ≡ true → test (next (v ++ rest)) ≡ true
many_made_follows test begins = then_follows test (many_follows test begins) (λ a v b rest. empty_follows test v rest)

pub and_left : (a b : Bool) → (a && b) ≡ true → a ≡ true
and_left true b e = refl
and_left false b e = e

pub and_right : (a b : Bool) → (a && b) ≡ true → b ≡ true
and_right true b e = e
and_right false b e = false_not_true e
