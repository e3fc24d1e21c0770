-- The same for texts that may be left out, and for any number of texts.
use Rattle.std.proofs.Common.{◌≡◌, ℕ, zero, suc, ◌≤◌, Bool, true, false, List, [], ◌∷◌, ◌++◌, Option, Some, None, refl, sym, ◌∙◌, ap, drop, subst, append_assoc, append-nil, length, length-append, ◌<◌, arith, is_some}
use Rattle.pdw_lex.specs.declared.sign.Sign.TheVariants.{ParenOpen, ParenClose}
use Rattle.pdw_lex.specs.declared.token.Lexeme.{Lexeme}
use Rattle.pdw_lex.specs.declared.token.Lexeme.TheVariants.{Sign}
use Rattle.pdw_syntax.specs.Rule.{One, one, Then, both, Maybe, absent, present, Many, none, more}
use Rattle.pdw_reading.specs.Reading.{Outcome, read, stopped, and_then, next, take_if, taken_if, meaning_of, turn, many_from, many, begun, begun_by}
use Rattle.pdw_reading.proofs.Law.{Balanced, Begins, Tells, TellsRead, Above, Lawful, LawfulStep, open_from}
use Rattle.pdw_reading.proofs.Depths.{next_append, open_append, within_after, balanced_none, balanced_append, balanced_one, plain}
use Rattle.pdw_reading.specs.declared.parse_error.Stop.TheVariants.{Memory, Syntax, TooDeep}
use Rattle.pdw_reading.proofs.Closure.{after, is_none_by, does_end, not_starts}

-- a text that a lexeme of the test begins
pub begun_law : {A B : Type 0} {n : ℕ} (f : Lexeme → Option A) → f (Sign ParenOpen) ≡ None → f (Sign ParenClose) ≡ None
    → {S S' : A → List Lexeme → B → Type 0} {q q' : A → List Lexeme → Outcome B} {ends : Option Lexeme → Bool}
    → ((a : A) → Lawful n (S a) (S' a) (q a) (q' a) ends)
    → LawfulStep n (Then (One f) S) (Then (One f) S') (begun_by f q) (begun_by f q') ends (λ o. is_some (meaning_of f o))
unfolding take_if
begun_law {A = A} {B = B} {n = n} f no_open no_close {S = S} {S' = S'} {q = q} {q' = q'} {ends = ends} body = record {
  tells = tells;
  present = present_text;
  absent = absent_text;
  starts_with = starts_with;
  ends_none = refl;
  wider = wider;
  balanced = balanced;
  above = above;
}
  where
    reads_none : (o : Option Lexeme) (ts : List Lexeme) → next ts ≡ o → meaning_of f o ≡ None → begun_by f q ts ≡ read None ts
    reads_none o ts comes means = rw comes (rw means refl)

    reads_some : (l : Lexeme) (ls : List Lexeme) (a : A) → f l ≡ Some a → begun_by f q (l ∷ ls) ≡ and_then (q a ls) (λ b ts. read (Some b) ts)
    reads_some l ls a means = rw means refl

    starting : (l : Lexeme) (a : A) (w : List Lexeme) (b : B) → f l ≡ Some a → S' a w b → Maybe (Then (One f) S') (l ∷ w) (Some b)
    starting l a w b means spells = present (both (l ∷ []) w (one l means) spells)

    begins : (l : Lexeme) (a : A) (u : List Lexeme) → f l ≡ Some a → Begins (S' a) u → Begins (Maybe (Then (One f) S')) (l ∷ u)
    begins l a u means b = record { more = b.more; means = Some b.means; spells = starting l a (u ++ b.more) b.means means b.spells }

    begin : (l : Lexeme) (ls : List Lexeme) (a : A) → f l ≡ Some a → (o : Outcome B) → Tells n (S a) (S' a) (q a) ls o
        → Tells n (Maybe (Then (One f) S)) (Maybe (Then (One f) S')) (begun_by f q) (l ∷ ls) (and_then o (λ b ts. read (Some b) ts))
    begin l ls a means (read b rest) t = record {
      front = l ∷ t.front;
      whole = ap (λ w. l ∷ w) t.whole;
      spells = present (both (l ∷ []) t.front (one l means) t.spells);
      alike = λ other same. reads_some l (t.front ++ other) a means ∙ ap (λ o. and_then o (λ b ts. read (Some b) ts)) (t.alike other same);
    }
    begin l ls a means (stopped Syntax rest) t = record {
      front = l ∷ t.front;
      whole = ap (λ w. l ∷ w) t.whole;
      begins = begins l a t.front means t.begins;
      within = λ d. within_after n d (l ∷ []) t.front (balanced_one n f l a means no_open no_close) t.within;
      alike = λ other same. reads_some l (t.front ++ other) a means ∙ ap (λ o. and_then o (λ b ts. read (Some b) ts)) (t.alike other same);
    }
    begin l ls a means (stopped TooDeep rest) t = record {
      front = l ∷ t.front;
      whole = ap (λ w. l ∷ w) t.whole;
      opens = t.opens;
      begins = begins l a (t.front ++ Sign ParenOpen ∷ []) means t.begins;
      within = λ d. within_after n d (l ∷ []) t.front (balanced_one n f l a means no_open no_close) t.within;
      deep = λ d. ap (λ e. open_from e t.front) (plain f l a d means no_open no_close) ∙ t.deep d;
    }
    begin l ls a means (stopped Memory rest) t = absurd t

    nothing : (o : Option Lexeme) (ts : List Lexeme) → next ts ≡ o → meaning_of f o ≡ None
        → TellsRead (Maybe (Then (One f) S)) (begun_by f q) ts None ts
    nothing o ts comes means = record { front = []; whole = refl; spells = absent; alike = λ other same. reads_none o other (sym same ∙ comes) means }

    by_meaning : (l : Lexeme) (ls : List Lexeme) (o : Option A) → f l ≡ o
        → Tells n (Maybe (Then (One f) S)) (Maybe (Then (One f) S')) (begun_by f q) (l ∷ ls) (and_then (taken_if o (l ∷ ls)) (begun q))
    by_meaning l ls None means = nothing (Some l) (l ∷ ls) refl means
    by_meaning l ls (Some a) means = begin l ls a means (q a ls) ((body a).tells ls)

    tells : (ts : List Lexeme) → Tells n (Maybe (Then (One f) S)) (Maybe (Then (One f) S')) (begun_by f q) ts (begun_by f q ts)
    tells [] = nothing None [] refl refl
    tells (l ∷ ls) = by_meaning l ls (f l) refl

    present_text : (w : List Lexeme) (b : B) (rest : List Lexeme) → Then (One f) S w b → ends (next rest) ≡ true → begun_by f q (w ++ rest) ≡ read (Some b) rest
    present_text w b rest (both u v ru sv) stops = elim ru as (λ u' a' ru'. (sv' : S a' v b) → begun_by f q ((u' ++ v) ++ rest) ≡ read (Some b) rest) [
      | one {a = a} l means ↦ λ sv'. reads_some l (v ++ rest) a means ∙ ap (λ o. and_then o (λ b ts. read (Some b) ts)) ((body a).again v b rest sv' stops)
    ] sv

    absent_text : (rest : List Lexeme) → is_some (meaning_of f (next rest)) ≡ false → begun_by f q rest ≡ read None rest
    absent_text rest fails = reads_none (next rest) rest refl (is_none_by (meaning_of f (next rest)) fails)

    starts_with : (w : List Lexeme) (b : B) → Then (One f) S w b → is_some (meaning_of f (next w)) ≡ true
    starts_with w b (both u v ru sv) = elim ru as (λ u' a' ru'. is_some (meaning_of f (next (u' ++ v))) ≡ true) [ one l means ↦ ap is_some means ]

    wider : (w : List Lexeme) (b : B) → Then (One f) S w b → Then (One f) S' w b
    wider w b (both {a = a} u v ru sv) = both u v ru ((body a).wider v b sv)

    balanced_first : (u : List Lexeme) (a : A) → One f u a → Balanced n u
    balanced_first u a (one l means) = balanced_one n f l a means no_open no_close

    balanced : (w : List Lexeme) (b : B) → Then (One f) S w b → Balanced n w
    balanced w b (both {a = a} u v ru sv) = balanced_append n u v (balanced_first u a ru) ((body a).balanced v b sv)

    over_some : (o o' : Outcome B) → Above o o' → Above (and_then o (λ b ts. read (Some b) ts)) (and_then o' (λ b ts. read (Some b) ts))
    over_some (read b rest) o' e = ap (λ o. and_then o (λ b ts. read (Some b) ts)) e
    over_some (stopped Syntax rest) o' e = ap (λ o. and_then o (λ b ts. read (Some b) ts)) e
    over_some (stopped TooDeep rest) o' e = tt
    over_some (stopped Memory rest) o' e = tt

    above_by : (ls : List Lexeme) (o : Option A) → Above (and_then (taken_if o ls) (begun q)) (and_then (taken_if o ls) (begun q'))
    above_by ls None = refl
    above_by ls (Some a) = over_some _ _ ((body a).above (drop 1 ls))

    above : (ts : List Lexeme) → Above (begun_by f q ts) (begun_by f q' ts)
    above ts = above_by ts (meaning_of f (next ts))

pub maybe_law : {A : Type 0} {n : ℕ} {R S : List Lexeme → A → Type 0} {r q : List Lexeme → Outcome (Option A)} {ends starts : Option Lexeme → Bool}
    → LawfulStep n R S r q ends starts → Lawful n (Maybe R) (Maybe S) r q (after ends starts)
maybe_law {A = A} {n = n} {R = R} {S = S} {r = r} {ends = ends} {starts = starts} step = record {
  tells = step.tells;
  again = again;
  wider = wider;
  balanced = balanced;
  above = step.above;
  some = record { text = []; means = None; spells = absent };
}
  where
    again : (w : List Lexeme) (o : Option A) (rest : List Lexeme) → Maybe R w o → after ends starts (next rest) ≡ true → r (w ++ rest) ≡ read o rest
    again w o rest absent stops = step.absent rest (not_starts ends starts (next rest) stops)
    again w o rest (present {a = a} spells) stops = step.present w a rest spells (does_end ends starts (next rest) stops)

    wider : (w : List Lexeme) (o : Option A) → Maybe R w o → Maybe S w o
    wider w o absent = absent
    wider w o (present {a = a} spells) = present (step.wider w a spells)

    balanced : (w : List Lexeme) (o : Option A) → Maybe R w o → Balanced n w
    balanced w o absent = balanced_none n
    balanced w o (present {a = a} spells) = step.balanced w a spells

-- ---- many texts: the number of turns never matters, since each takes a lexeme

-- the texts found before stand before those that are found
found_before : {A : Type 0} (r : List Lexeme → Outcome (Option A)) (k : ℕ) (found : List A) (ts : List Lexeme)
    → many_from r k found ts ≡ and_then (many_from r k [] ts) (λ xs us. read (found ++ xs) us)
found_before r zero found ts = ap (λ xs. read xs ts) (sym (append-nil found))
found_before {A = A} r (suc k) found ts = turned (found_before r k) (r ts)
  where
    prepended : (a : A) (o : Outcome (List A))
        → and_then o (λ xs us. read ((found ++ a ∷ []) ++ xs) us) ≡ and_then (and_then o (λ xs us. read (a ∷ xs) us)) (λ xs us. read (found ++ xs) us)
    prepended a (read xs us) = ap (λ ys. read ys us) (append_assoc found (a ∷ []) xs)
    prepended a (stopped why us) = refl

    turned : ((before : List A) (us : List Lexeme) → many_from r k before us ≡ and_then (many_from r k [] us) (λ xs us'. read (before ++ xs) us'))
        → (o : Outcome (Option A)) → and_then o (turn found (many_from r k)) ≡ and_then (and_then o (turn [] (many_from r k))) (λ xs us. read (found ++ xs) us)
    turned below (stopped why us) = refl
    turned below (read None us) = ap (λ xs. read xs us) (sym (append-nil found))
    turned below (read (Some a) us) =
        below (found ++ a ∷ []) us
        ∙ (prepended a (many_from r k [] us) ∙ ap (λ o. and_then o (λ xs us'. read (found ++ xs) us')) (sym (below (a ∷ []) us)))

-- what stands after a first text, or nothing
abbrev further : {A : Type 0} → (List Lexeme → Outcome (Option A)) → Option A → List Lexeme → Outcome (List A)
further r None us = read [] us
further r (Some a) us = and_then (many r us) (λ xs us'. read (a ∷ xs) us')

abbrev IfSome : {A : Type 0} → (A → Type 0) → Option A → Type 0
IfSome P None = Unit {0}
IfSome P (Some a) = P a

maybe_text : {A : Type 0} (R : List Lexeme → A → Type 0) (w : List Lexeme) (o : Option A) → Maybe R w o → IfSome (R w) o
maybe_text R w o absent = tt
maybe_text R w o (present spells) = spells

no_lexeme : {A : Type 0} (R : List Lexeme → A → Type 0) (w : List Lexeme) (o : Option A) → Maybe R w o → o ≡ None → w ≡ []
no_lexeme R w o absent is = refl
no_lexeme R w o (present spells) is = cc

module _ {A : Type 0} (n : ℕ) (R S : List Lexeme → A → Type 0) (r q : List Lexeme → Outcome (Option A)) (ends starts : Option Lexeme → Bool)
    (step : LawfulStep n R S r q ends starts) where
  -- a text of the step's rule is not empty
  takes : (w : List Lexeme) (a : A) (rest : List Lexeme) → R w a → length rest < length (w ++ rest)
  takes [] a rest spells = cc (step.starts_with [] a spells, step.ends_none)
  takes (l ∷ w) a rest spells = rw (length-append (l ∷ w) rest) (omega arith)

  shorter : (ts : List Lexeme) (a : A) (rest : List Lexeme) → TellsRead (Maybe R) r ts (Some a) rest → length rest < length ts
  shorter ts a rest t = rw t.whole (takes t.front a rest (maybe_text R t.front (Some a) t.spells))

  none_left : (k : ℕ) → many_from r k [] [] ≡ read [] []
  none_left zero = refl
  none_left (suc k) = ap (λ o. and_then o (turn [] (many_from r k))) (step.absent [] step.ends_none)

  -- as many turns as there are lexemes are enough
  enough : (k j : ℕ) (ts : List Lexeme) → length ts ≤ k → length ts ≤ j → many_from r k [] ts ≡ many_from r j [] ts
  enough zero j [] fits fits' = sym (none_left j)
  enough zero j (l ∷ ts) fits fits' = absurd (omega arith)
  enough (suc k) zero [] fits fits' = none_left (suc k)
  enough (suc k) zero (l ∷ ts) fits fits' = absurd (omega arith)
  enough (suc k) (suc j) ts fits fits' = turned (enough k j) (r ts) (step.tells ts)
    where
      turned : ((us : List Lexeme) → length us ≤ k → length us ≤ j → many_from r k [] us ≡ many_from r j [] us) → (o : Outcome (Option A))
          → Tells n (Maybe R) (Maybe S) r ts o → and_then o (turn [] (many_from r k)) ≡ and_then o (turn [] (many_from r j))
      turned below (stopped why us) t = refl
      turned below (read None us) t = refl
      turned below (read (Some a) us) t =
          let less : length us < length ts = shorter ts a us t in
          found_before r k (a ∷ []) us
          ∙ (ap (λ o. and_then o (λ xs us'. read (a ∷ xs) us')) (below us (omega arith) (omega arith)) ∙ sym (found_before r j (a ∷ []) us))

  -- many texts are none, or a first one and many
  many_step : (ts : List Lexeme) → many r ts ≡ and_then (r ts) (further r)
  unfolding many
  many_step ts = enough (length ts) (suc (length ts)) ts (omega arith) (omega arith) ∙ turned (r ts) (step.tells ts)
    where
      turned : (o : Outcome (Option A)) → Tells n (Maybe R) (Maybe S) r ts o → and_then o (turn [] (many_from r (length ts))) ≡ and_then o (further r)
      turned (stopped why us) t = refl
      turned (read None us) t = refl
      turned (read (Some a) us) t =
          let less : length us < length ts = shorter ts a us t in
          found_before r (length ts) (a ∷ []) us
          ∙ ap (λ o. and_then o (λ xs us'. read (a ∷ xs) us')) (enough (length ts) (length us) us (omega arith) (omega arith))

  wider_many : (w : List Lexeme) (xs : List A) → Many R w xs → Many S w xs
  wider_many w xs none = none
  wider_many w xs (more {x = x} {xs = ys} u v first_spells spells) = more u v (step.wider u x first_spells) (wider_many v ys spells)

  balanced_many : (w : List Lexeme) (xs : List A) → Many R w xs → Balanced n w
  balanced_many w xs none = balanced_none n
  balanced_many w xs (more {x = x} {xs = ys} u v first_spells spells) = balanced_append n u v (step.balanced u x first_spells) (balanced_many v ys spells)

  begins_one : (u : List Lexeme) → Begins (Maybe S) u → Begins (Many S) u
  begins_one u b = one_text b.means (maybe_text S (u ++ b.more) b.means b.spells) (no_lexeme S (u ++ b.more) b.means b.spells)
    where
      one_text : (o : Option A) → IfSome (S (u ++ b.more)) o → (o ≡ None → u ++ b.more ≡ []) → Begins (Many S) u
      one_text None text is_none = record { more = b.more; means = []; spells = subst (λ w. Many S w []) (sym (is_none refl)) none }
      one_text (Some a) text is_none = record {
        more = b.more;
        means = a ∷ [];
        spells = subst (λ w. Many S w (a ∷ [])) (append-nil (u ++ b.more)) (more (u ++ b.more) [] text none);
      }

  begins_further : (u v : List Lexeme) (a : A) → S u a → Begins (Many S) v → Begins (Many S) (u ++ v)
  begins_further u v a spells b = record {
    more = b.more;
    means = a ∷ b.means;
    spells = subst (λ w. Many S w (a ∷ b.means)) (sym (append_assoc u v b.more)) (more u (v ++ b.more) spells b.spells);
  }

  alike_many : (u v rest : List Lexeme) (a : A) (p : List Lexeme → Outcome (List A)) → ((other : List Lexeme) → next (v ++ rest) ≡ next other → r (u ++ other) ≡ read (Some a) other)
      → ((other : List Lexeme) → next rest ≡ next other → and_then (many r (v ++ other)) (λ xs us. read (a ∷ xs) us) ≡ p other)
      → (other : List Lexeme) → next rest ≡ next other → many r ((u ++ v) ++ other) ≡ p other
  alike_many u v rest a p reads goes_on other same =
      ap (λ w. many r w) (append_assoc u v other)
      ∙ (many_step (u ++ (v ++ other)) ∙ (ap (λ x. and_then x (further r)) (reads (v ++ other) (next_append v rest other same)) ∙ goes_on other same))

  after_text : (u rest : List Lexeme) (a : A) → R u a → ((other : List Lexeme) → next rest ≡ next other → r (u ++ other) ≡ read (Some a) other)
      → (o : Outcome (List A)) → Tells n (Many R) (Many S) (many r) rest o
      → Tells n (Many R) (Many S) (many r) (u ++ rest) (and_then o (λ xs us. read (a ∷ xs) us))
  after_text u rest a spells reads (read xs rest') t = record {
    front = u ++ t.front;
    whole = ap (λ w. u ++ w) t.whole ∙ sym (append_assoc u t.front rest');
    spells = more u t.front spells t.spells;
    alike = alike_many u t.front rest' a (λ other. read (a ∷ xs) other) (λ other same. reads other (ap next t.whole ∙ same))
        (λ other same. ap (λ o. and_then o (λ ys us. read (a ∷ ys) us)) (t.alike other same));
  }
  after_text u rest a spells reads (stopped Syntax rest') t = record {
    front = u ++ t.front;
    whole = ap (λ w. u ++ w) t.whole ∙ sym (append_assoc u t.front rest');
    begins = begins_further u t.front a (step.wider u a spells) t.begins;
    within = λ d. within_after n d u t.front (step.balanced u a spells) t.within;
    alike = alike_many u t.front rest' a (λ other. stopped Syntax other) (λ other same. reads other (ap next t.whole ∙ same))
        (λ other same. ap (λ o. and_then o (λ ys us. read (a ∷ ys) us)) (t.alike other same));
  }
  after_text u rest a spells reads (stopped TooDeep rest') t = record {
    front = u ++ t.front;
    whole = ap (λ w. u ++ w) t.whole ∙ sym (append_assoc u t.front rest');
    opens = t.opens;
    begins = subst (λ w. Begins (Many S) w) (sym (append_assoc u t.front (Sign ParenOpen ∷ []))) (begins_further u (t.front ++ Sign ParenOpen ∷ []) a (step.wider u a spells) t.begins);
    within = λ d. within_after n d u t.front (step.balanced u a spells) t.within;
    deep = λ d. open_append d u t.front ∙ (ap (λ e. open_from e t.front) ((step.balanced u a spells).back d) ∙ t.deep d);
  }
  after_text u rest a spells reads (stopped Memory rest') t = absurd t

  told_many : (ts : List Lexeme) (o : Outcome (Option A)) → ((us : List Lexeme) → length us < length ts → Tells n (Many R) (Many S) (many r) us (many r us))
      → Tells n (Maybe R) (Maybe S) r ts o → Tells n (Many R) (Many S) (many r) ts (and_then o (further r))
  told_many ts (read None rest) below t =
      let empty_front : t.front ≡ [] = no_lexeme R t.front None t.spells refl in record {
        front = [];
        whole = t.whole ∙ ap (λ w. w ++ rest) empty_front;
        spells = none;
        alike = λ other same. many_step other ∙ ap (λ o. and_then o (further r)) (ap (λ w. r (w ++ other)) (sym empty_front) ∙ t.alike other same);
      }
  told_many ts (read (Some a) rest) below t =
      subst (λ w. Tells n (Many R) (Many S) (many r) w (further r (Some a) rest)) (sym t.whole)
      (after_text t.front rest a (maybe_text R t.front (Some a) t.spells) t.alike (many r rest) (below rest (shorter ts a rest t)))
  told_many ts (stopped Syntax rest) below t = record {
    front = t.front;
    whole = t.whole;
    begins = begins_one t.front t.begins;
    within = t.within;
    alike = λ other same. many_step (t.front ++ other) ∙ ap (λ o. and_then o (further r)) (t.alike other same);
  }
  told_many ts (stopped TooDeep rest) below t = record {
    front = t.front;
    whole = t.whole;
    opens = t.opens;
    begins = begins_one (t.front ++ Sign ParenOpen ∷ []) t.begins;
    within = t.within;
    deep = t.deep;
  }
  told_many ts (stopped Memory rest) below t = absurd t

  tells_many : (k : ℕ) (ts : List Lexeme) → length ts ≤ k → Tells n (Many R) (Many S) (many r) ts (many r ts)
  tells_many zero [] fits =
      subst (λ o. Tells n (Many R) (Many S) (many r) [] o) (sym (many_step [])) (told_many [] (r []) (λ us less. absurd (omega arith)) (step.tells []))
  tells_many zero (l ∷ ts) fits = absurd (omega arith)
  tells_many (suc k) ts fits =
      subst (λ o. Tells n (Many R) (Many S) (many r) ts o) (sym (many_step ts))
      (told_many ts (r ts) (λ us less. tells_many k us (omega arith)) (step.tells ts))

  above_from : (k : ℕ) (found : List A) (ts : List Lexeme) → Above (many_from r k found ts) (many_from q k found ts)
  above_from zero found ts = refl
  above_from (suc k) found ts = turned (above_from k) (r ts) (q ts) (step.above ts)
    where
      turned : ((before : List A) (us : List Lexeme) → Above (many_from r k before us) (many_from q k before us)) → (o o' : Outcome (Option A)) → Above o o'
          → Above (and_then o (turn found (many_from r k))) (and_then o' (turn found (many_from q k)))
      turned below (read None us) o' e = ap (λ x. and_then x (turn found (many_from q k))) e
      turned below (read (Some a) us) o' e =
          subst (λ x. Above (many_from r k (found ++ a ∷ []) us) (and_then x (turn found (many_from q k)))) (sym e) (below (found ++ a ∷ []) us)
      turned below (stopped Syntax us) o' e = ap (λ x. and_then x (turn found (many_from q k))) e
      turned below (stopped TooDeep us) o' e = tt
      turned below (stopped Memory us) o' e = tt

  module _ (follows : (l : Lexeme) → starts (Some l) ≡ true → ends (Some l) ≡ true) where
    ends_before : (v : List Lexeme) (xs : List A) (rest : List Lexeme) → Many R v xs → after ends starts (next rest) ≡ true → ends (next (v ++ rest)) ≡ true
    ends_before v xs rest none stops = does_end ends starts (next rest) stops
    ends_before v xs rest (more {x = x} u w spells others) stops = begun_text u spells
      where
        begun_text : (u : List Lexeme) → R u x → ends (next ((u ++ w) ++ rest)) ≡ true
        begun_text [] spells' = cc (step.starts_with [] x spells', step.ends_none)
        begun_text (l ∷ u') spells' = follows l (step.starts_with (l ∷ u') x spells')

    again_many : (w : List Lexeme) (xs : List A) (rest : List Lexeme) → Many R w xs → after ends starts (next rest) ≡ true → many r (w ++ rest) ≡ read xs rest
    again_many w xs rest none stops = many_step rest ∙ ap (λ o. and_then o (further r)) (step.absent rest (not_starts ends starts (next rest) stops))
    again_many w xs rest (more {x = x} {xs = ys} u v spells others) stops =
        ap (λ ts. many r ts) (append_assoc u v rest)
        ∙ (many_step (u ++ (v ++ rest))
        ∙ (ap (λ o. and_then o (further r)) (step.present u x (v ++ rest) spells (ends_before v ys rest others stops))
        ∙ ap (λ o. and_then o (λ zs us. read (x ∷ zs) us)) (again_many v ys rest others stops)))

pub many_law : {A : Type 0} {n : ℕ} {R S : List Lexeme → A → Type 0} {r q : List Lexeme → Outcome (Option A)} {ends starts : Option Lexeme → Bool}
    → LawfulStep n R S r q ends starts → ((l : Lexeme) → starts (Some l) ≡ true → ends (Some l) ≡ true)
    → Lawful n (Many R) (Many S) (many r) (many q) (after ends starts)
many_law {n = n} {R = R} {S = S} {r = r} {q = q} {ends = ends} {starts = starts} step follows = record {
  tells = λ ts. tells_many n R S r q ends starts step (length ts) ts (omega arith);
  again = again_many n R S r q ends starts step follows;
  wider = wider_many n R S r q ends starts step;
  balanced = balanced_many n R S r q ends starts step;
  above = λ ts. unfold many in above_from n R S r q ends starts step (length ts) [] ts;
  some = record { text = []; means = []; spells = none };
}

-- many texts end only where no further one comes
pub many_ends : {A : Type 0} {n : ℕ} {R S : List Lexeme → A → Type 0} {r q : List Lexeme → Outcome (Option A)} {ends starts : Option Lexeme → Bool}
    → LawfulStep n R S r q ends starts → (ts : List Lexeme) (xs : List A) (rest : List Lexeme) → many r ts ≡ read xs rest → r rest ≡ read None rest
many_ends {A = A} {n = n} {R = R} {S = S} {r = r} {q = q} {ends = ends} {starts = starts} step ts xs rest reads = by_length (length ts) ts (omega arith) xs reads
  where
    prepends : (a : A) (o : Outcome (List A)) (xs : List A) → and_then o (λ ys us. read (a ∷ ys) us) ≡ read xs rest → (ys : List A) × (o ≡ read ys rest)
    prepends a (read ys us) xs e = let same : us ≡ rest = cc in (ys, ap (λ vs. read ys vs) same)
    prepends a (stopped why us) xs e = cc

    turned : (ts : List Lexeme) (o : Outcome (Option A)) → ((us : List Lexeme) → length us < length ts → (ys : List A) → many r us ≡ read ys rest → r rest ≡ read None rest)
        → Tells n (Maybe R) (Maybe S) r ts o → r ts ≡ o → (xs : List A) → and_then o (further r) ≡ read xs rest → r rest ≡ read None rest
    turned ts (read None us) below t is xs e =
        let at_end : us ≡ rest = cc in
        let left : ts ≡ us = t.whole ∙ ap (λ w. w ++ us) (no_lexeme R t.front None t.spells refl) in
        subst (λ vs. r vs ≡ read None vs) at_end (ap r (sym left) ∙ is)
    turned ts (read (Some a) us) below t is xs e =
        let inner = prepends a (many r us) xs e in
        below us (shorter n R S r q ends starts step ts a us t) inner.0 inner.1
    turned ts (stopped why us) below t is xs e = cc

    by_length : (k : ℕ) (ts : List Lexeme) → length ts ≤ k → (xs : List A) → many r ts ≡ read xs rest → r rest ≡ read None rest
    by_length zero ts fits xs reads =
        turned ts (r ts) (λ us less. absurd (omega arith)) (step.tells ts) refl xs (sym (many_step n R S r q ends starts step ts) ∙ reads)
    by_length (suc k) ts fits xs reads =
        turned ts (r ts) (λ us less ys inner. by_length k us (omega arith) ys inner) (step.tells ts) refl xs (sym (many_step n R S r q ends starts step ts) ∙ reads)
