-- Readings that are made of lawful readings are lawful: no lexeme, one, and one reading after the other.
use Rattle.std.proofs.Common.{◌≡◌, ℕ, Bool, true, false, not, ◌&&◌, List, [], ◌∷◌, ◌++◌, Option, Some, None, refl, sym, ◌∙◌, ap, subst, append_assoc, is_some}
use Rattle.pdw_lex.specs.declared.sign.Sign.TheVariants.{ParenOpen, ParenClose}
use Rattle.pdw_lex.specs.declared.token.Lexeme.{Lexeme}
use Rattle.pdw_lex.specs.declared.token.Lexeme.TheVariants.{Sign}
use Rattle.pdw_syntax.specs.Rule.{Empty, empty, One, one, Then, both}
use Rattle.pdw_reading.specs.Reading.{Outcome, read, stopped, and_then, next, take, taken, meaning_of}
use Rattle.pdw_reading.proofs.Law.{Balanced, Begins, Tells, TellsSyntax, Above, Lawful, open_from}
use Rattle.pdw_reading.proofs.Depths.{next_append, begins_map, open_append, within_after, within_none, balanced_none, balanced_append, balanced_one}
use Rattle.pdw_reading.specs.declared.parse_error.Stop.TheVariants.{Memory, Syntax, TooDeep}

abbrev pub always : Option Lexeme → Bool
always o = true

-- a lexeme follows one of these by the one test wherever it may follow by the other
abbrev pub after : (Option Lexeme → Bool) → (Option Lexeme → Bool) → Option Lexeme → Bool
after ends starts o = ends o && not (starts o)

-- a reading is above itself
pub same_above : {A : Type 0} (o : Outcome A) → Above o o
same_above (read a rest) = refl
same_above (stopped Syntax rest) = refl
same_above (stopped TooDeep rest) = tt
same_above (stopped Memory rest) = tt

-- rules with the same texts, of which the same is told
pub tells_map : {A : Type 0} (n : ℕ) {R S F G : List Lexeme → A → Type 0} (r : List Lexeme → Outcome A)
    → ((w : List Lexeme) (a : A) → F w a → R w a) → ((w : List Lexeme) (a : A) → G w a → S w a)
    → (ts : List Lexeme) (o : Outcome A) → Tells n F G r ts o → Tells n R S r ts o
tells_map n r back back' ts (read a rest) t = record { front = t.front; whole = t.whole; spells = back t.front a t.spells; alike = t.alike }
tells_map n r back back' ts (stopped Syntax rest) t = record {
  front = t.front;
  whole = t.whole;
  begins = begins_map back' t.front t.begins;
  within = t.within;
  alike = t.alike;
}
tells_map n r back back' ts (stopped TooDeep rest) t = record {
  front = t.front;
  whole = t.whole;
  opens = t.opens;
  begins = begins_map back' (t.front ++ Sign ParenOpen ∷ []) t.begins;
  within = t.within;
  deep = t.deep;
}
tells_map n r back back' ts (stopped Memory rest) t = absurd t

-- readings that agree wherever this lexeme comes next
pub tells_like : {A : Type 0} (n : ℕ) (R S : List Lexeme → A → Type 0) (r r' : List Lexeme → Outcome A) (ts : List Lexeme) (o : Outcome A)
    → ((us : List Lexeme) → next us ≡ next ts → r' us ≡ r us) → Tells n R S r ts o → Tells n R S r' ts o
tells_like {A = A} n R S r r' ts o agree t = told o t
  where
    alike : (front rest : List Lexeme) (p : List Lexeme → Outcome A) → ts ≡ front ++ rest → ((other : List Lexeme) → next rest ≡ next other → r (front ++ other) ≡ p other)
        → (other : List Lexeme) → next rest ≡ next other → r' (front ++ other) ≡ p other
    alike front rest p whole reads other same = agree (front ++ other) (sym (ap next whole ∙ next_append front rest other same)) ∙ reads other same

    told : (o : Outcome A) → Tells n R S r ts o → Tells n R S r' ts o
    told (read a rest) t = record {
      front = t.front;
      whole = t.whole;
      spells = t.spells;
      alike = alike t.front rest (λ other. read a other) t.whole t.alike;
    }
    told (stopped Syntax rest) t = record {
      front = t.front;
      whole = t.whole;
      begins = t.begins;
      within = t.within;
      alike = alike t.front rest (λ other. stopped Syntax other) t.whole t.alike;
    }
    told (stopped TooDeep rest) t = t
    told (stopped Memory rest) t = t

-- ---- tests

pub is_none_by : {A : Type 0} (o : Option A) → is_some o ≡ false → o ≡ None
is_none_by None fails = refl
is_none_by (Some a) fails = cc

pub does_end : (ends starts : Option Lexeme → Bool) (o : Option Lexeme) → after ends starts o ≡ true → ends o ≡ true
does_end ends starts o stops = both_true (ends o) (starts o) stops
  where
    both_true : (e s : Bool) → (e && not s) ≡ true → e ≡ true
    both_true true s stops = refl
    both_true false s stops = stops

pub not_starts : (ends starts : Option Lexeme → Bool) (o : Option Lexeme) → after ends starts o ≡ true → starts o ≡ false
not_starts ends starts o stops = fails (ends o) (starts o) stops
  where
    fails : (e s : Bool) → (e && not s) ≡ true → s ≡ false
    fails e false stops = refl
    fails true true stops = sym stops
    fails false true stops = sym stops

pub pure_law : {A : Type 0} {n : ℕ} (a : A) → Lawful n (Empty a) (Empty a) (λ ts. read a ts) (λ ts. read a ts) always
pure_law a = record {
  tells = λ ts. record { front = []; whole = refl; spells = empty; alike = λ other same. refl };
  again = λ w b rest spells stops. again a w b rest spells;
  wider = λ w b spells. spells;
  balanced = λ w b spells. balanced a w b spells;
  above = λ ts. refl;
  some = record { text = []; means = a; spells = empty };
}
  where
    again : {A : Type 0} (a : A) (w : List Lexeme) (b : A) (rest : List Lexeme) → Empty a w b → read a (w ++ rest) ≡ read b rest
    again a w b rest empty = refl

    balanced : {A : Type 0} {n : ℕ} (a : A) (w : List Lexeme) (b : A) → Empty a w b → Balanced n w
    balanced {n = n} a w b empty = balanced_none n

-- a test that has a meaning for some lexeme, and for no parenthesis
pub one_law : {A : Type 0} {n : ℕ} (f : Lexeme → Option A) (l : Lexeme) (a : A) → f l ≡ Some a → f (Sign ParenOpen) ≡ None → f (Sign ParenClose) ≡ None
    → Lawful n (One f) (One f) (take f) (take f) always
unfolding take
one_law {A = A} {n = n} f l a is no_open no_close = record {
  tells = tells;
  again = λ w b rest spells stops. again w b rest spells;
  wider = λ w b spells. spells;
  balanced = λ w b spells. balanced w b spells;
  above = λ ts. same_above (take f ts);
  some = record { text = l ∷ []; means = a; spells = one l is };
}
  where
    again : (w : List Lexeme) (b : A) (rest : List Lexeme) → One f w b → take f (w ++ rest) ≡ read b rest
    again w b rest (one k means) = rw means refl

    balanced : (w : List Lexeme) (b : A) → One f w b → Balanced n w
    balanced w b (one k means) = balanced_one n f k b means no_open no_close

    fails : (o : Option Lexeme) (ts : List Lexeme) → next ts ≡ o → meaning_of f o ≡ None → TellsSyntax n (One f) (take f) ts ts
    fails o ts comes means = record {
      front = [];
      whole = refl;
      begins = record { more = l ∷ []; means = a; spells = one l is };
      within = λ d. within_none n d;
      alike = λ other same. rw (sym same ∙ comes) (rw means refl);
    }

    by_meaning : (k : Lexeme) (ks : List Lexeme) (o : Option A) → f k ≡ o → Tells n (One f) (One f) (take f) (k ∷ ks) (taken o (k ∷ ks))
    by_meaning k ks None means = fails (Some k) (k ∷ ks) refl means
    by_meaning k ks (Some b) means = record { front = k ∷ []; whole = refl; spells = one k means; alike = λ other same. rw means refl }

    tells : (ts : List Lexeme) → Tells n (One f) (One f) (take f) ts (take f ts)
    tells [] = fails None [] refl refl
    tells (k ∷ ks) = by_meaning k ks (f k) refl

module _ {A B : Type 0} (n : ℕ) (R R' : List Lexeme → A → Type 0) (S S' : A → List Lexeme → B → Type 0)
    (r : List Lexeme → Outcome A) (q : A → List Lexeme → Outcome B) where
  begins_second : (u v : List Lexeme) (a : A) → R' u a → Begins (S' a) v → Begins (Then R' S') (u ++ v)
  begins_second u v a spells b = record {
    more = b.more;
    means = b.means;
    spells = subst (λ w. Then R' S' w b.means) (sym (append_assoc u v b.more)) (both u (v ++ b.more) spells b.spells);
  }

  alike : (u v rest : List Lexeme) (a : A) (o : List Lexeme → Outcome B) → ((other : List Lexeme) → next (v ++ rest) ≡ next other → r (u ++ other) ≡ read a other)
      → ((other : List Lexeme) → next rest ≡ next other → q a (v ++ other) ≡ o other) → (other : List Lexeme) → next rest ≡ next other
      → and_then (r ((u ++ v) ++ other)) q ≡ o other
  alike u v rest a o reads goes_on other same =
      ap (λ w. and_then (r w) q) (append_assoc u v other)
      ∙ (ap (λ x. and_then x q) (reads (v ++ other) (next_append v rest other same)) ∙ goes_on other same)

  -- after a text that was read as a lawful reading reads it
  pub tells_after : (u rest : List Lexeme) (a : A) → R u a → R' u a → Balanced n u → ((other : List Lexeme) → next rest ≡ next other → r (u ++ other) ≡ read a other)
      → (o : Outcome B) → Tells n (S a) (S' a) (q a) rest o → Tells n (Then R S) (Then R' S') (λ ts. and_then (r ts) q) (u ++ rest) o
  tells_after u rest a spells wide closes reads (read b rest') t = record {
    front = u ++ t.front;
    whole = ap (λ w. u ++ w) t.whole ∙ sym (append_assoc u t.front rest');
    spells = both u t.front spells t.spells;
    alike = alike u t.front rest' a (λ other. read b other) (λ other same. reads other (ap next t.whole ∙ same)) t.alike;
  }
  tells_after u rest a spells wide closes reads (stopped Syntax rest') t = record {
    front = u ++ t.front;
    whole = ap (λ w. u ++ w) t.whole ∙ sym (append_assoc u t.front rest');
    begins = begins_second u t.front a wide t.begins;
    within = λ d. within_after n d u t.front closes t.within;
    alike = alike u t.front rest' a (λ other. stopped Syntax other) (λ other same. reads other (ap next t.whole ∙ same)) t.alike;
  }
  tells_after u rest a spells wide closes reads (stopped TooDeep rest') t = record {
    front = u ++ t.front;
    whole = ap (λ w. u ++ w) t.whole ∙ sym (append_assoc u t.front rest');
    opens = t.opens;
    begins = subst (λ w. Begins (Then R' S') w) (sym (append_assoc u t.front (Sign ParenOpen ∷ []))) (begins_second u (t.front ++ Sign ParenOpen ∷ []) a wide t.begins);
    within = λ d. within_after n d u t.front closes t.within;
    deep = λ d. open_append d u t.front ∙ (ap (λ e. open_from e t.front) (closes.back d) ∙ t.deep d);
  }
  tells_after u rest a spells wide closes reads (stopped Memory rest') t = absurd t

pub then_law : {A B : Type 0} {n : ℕ} {R R' : List Lexeme → A → Type 0} {S S' : A → List Lexeme → B → Type 0}
    {r r' : List Lexeme → Outcome A} {q q' : A → List Lexeme → Outcome B} {s t : Option Lexeme → Bool}
    → Lawful n R R' r r' s → ((a : A) → Lawful n (S a) (S' a) (q a) (q' a) t)
    → ((a : A) (b : B) (v rest : List Lexeme) → S a v b → t (next rest) ≡ true → s (next (v ++ rest)) ≡ true)
    → Lawful n (Then R S) (Then R' S') (λ ts. and_then (r ts) q) (λ ts. and_then (r' ts) q') t
then_law {A = A} {B = B} {n = n} {R = R} {R' = R'} {S = S} {S' = S'} {r = r} {r' = r'} {q = q} {q' = q'} {s = s} {t = t} front back follows = record {
  tells = λ ts. told ts (r ts) (front.tells ts);
  again = again;
  wider = wider;
  balanced = balanced;
  above = λ ts. over (r ts) (r' ts) (front.above ts);
  some = record {
    text = front.some.text ++ (back front.some.means).some.text;
    means = (back front.some.means).some.means;
    spells = both front.some.text (back front.some.means).some.text front.some.spells (back front.some.means).some.spells;
  };
}
  where
    begins_first : (u : List Lexeme) → Begins R' u → Begins (Then R' S') u
    begins_first u b = let next_text = (back b.means).some in record {
      more = b.more ++ next_text.text;
      means = next_text.means;
      spells = subst (λ w. Then R' S' w next_text.means) (append_assoc u b.more next_text.text) (both (u ++ b.more) next_text.text b.spells next_text.spells);
    }

    told : (ts : List Lexeme) (o : Outcome A) → Tells n R R' r ts o → Tells n (Then R S) (Then R' S') (λ ts'. and_then (r ts') q) ts (and_then o q)
    told ts (read a rest) t =
        subst (λ w. Tells n (Then R S) (Then R' S') (λ ts'. and_then (r ts') q) w (q a rest)) (sym t.whole)
        (tells_after n R R' S S' r q t.front rest a t.spells (front.wider t.front a t.spells) (front.balanced t.front a t.spells) t.alike (q a rest) ((back a).tells rest))
    told ts (stopped Syntax rest) t = record {
      front = t.front;
      whole = t.whole;
      begins = begins_first t.front t.begins;
      within = t.within;
      alike = λ other same. ap (λ x. and_then x q) (t.alike other same);
    }
    told ts (stopped TooDeep rest) t = record {
      front = t.front;
      whole = t.whole;
      opens = t.opens;
      begins = begins_first (t.front ++ Sign ParenOpen ∷ []) t.begins;
      within = t.within;
      deep = t.deep;
    }
    told ts (stopped Memory rest) t = absurd t

    again : (w : List Lexeme) (b : B) (rest : List Lexeme) → Then R S w b → t (next rest) ≡ true → and_then (r (w ++ rest)) q ≡ read b rest
    again w b rest (both {a = a} u v ru sv) stops =
        ap (λ x. and_then (r x) q) (append_assoc u v rest)
        ∙ (ap (λ x. and_then x q) (front.again u a (v ++ rest) ru (follows a b v rest sv stops)) ∙ (back a).again v b rest sv stops)

    wider : (w : List Lexeme) (b : B) → Then R S w b → Then R' S' w b
    wider w b (both {a = a} u v ru sv) = both u v (front.wider u a ru) ((back a).wider v b sv)

    balanced : (w : List Lexeme) (b : B) → Then R S w b → Balanced n w
    balanced w b (both {a = a} u v ru sv) = balanced_append n u v (front.balanced u a ru) ((back a).balanced v b sv)

    over : (o o' : Outcome A) → Above o o' → Above (and_then o q) (and_then o' q')
    over (read a rest) o' e = subst (λ x. Above (q a rest) (and_then x q')) (sym e) ((back a).above rest)
    over (stopped Syntax rest) o' e = ap (λ x. and_then x q') e
    over (stopped TooDeep rest) o' e = tt
    over (stopped Memory rest) o' e = tt

-- fewer lexemes may follow
pub narrower_law : {A : Type 0} {n : ℕ} {R S : List Lexeme → A → Type 0} {r q : List Lexeme → Outcome A} {s t : Option Lexeme → Bool}
    → Lawful n R S r q s → ((o : Option Lexeme) → t o ≡ true → s o ≡ true) → Lawful n R S r q t
narrower_law law narrower = record {
  tells = law.tells;
  again = λ w a rest spells stops. law.again w a rest spells (narrower (next rest) stops);
  wider = law.wider;
  balanced = law.balanced;
  above = law.above;
  some = law.some;
}

-- a value made of what was read
pub made_law : {A B : Type 0} {n : ℕ} {R R' : List Lexeme → A → Type 0} {r r' : List Lexeme → Outcome A} {s : Option Lexeme → Bool} (f : A → B)
    → Lawful n R R' r r' s
    → Lawful n (Then R (λ a. Empty (f a))) (Then R' (λ a. Empty (f a))) (λ ts. and_then (r ts) (λ a us. read (f a) us)) (λ ts. and_then (r' ts) (λ a us. read (f a) us)) s
made_law {A = A} {B = B} {s = s} f law = then_law law (λ a. narrower_law (pure_law (f a)) (λ o stops. refl)) follows
  where
    follows : (a : A) (b : B) (v rest : List Lexeme) → Empty (f a) v b → s (next rest) ≡ true → s (next (v ++ rest)) ≡ true
    follows a b v rest empty stops = stops

-- the first may be followed by anything
pub then_always : {A B : Type 0} {n : ℕ} {R R' : List Lexeme → A → Type 0} {S S' : A → List Lexeme → B → Type 0}
    {r r' : List Lexeme → Outcome A} {q q' : A → List Lexeme → Outcome B} {t : Option Lexeme → Bool}
    → Lawful n R R' r r' always → ((a : A) → Lawful n (S a) (S' a) (q a) (q' a) t)
    → Lawful n (Then R S) (Then R' S') (λ ts. and_then (r ts) q) (λ ts. and_then (r' ts) q') t
then_always {r = r} {r' = r'} {q = q} {q' = q'} front back = then_law {r = r} {r' = r'} {q = q} {q' = q'} front back (λ a b v rest spells stops. refl)
