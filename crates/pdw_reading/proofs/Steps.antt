-- Readings that go by a test of the next lexeme.
use Rattle.std.proofs.Common.{◌≡◌, ℕ, Bool, true, false, List, [], ◌∷◌, ◌++◌, Option, Some, None, refl, sym, ◌∙◌, ap, subst}
use Rattle.pdw_lex.specs.declared.token.Lexeme.{Lexeme}
use Rattle.pdw_lex.specs.declared.token.Lexeme.TheVariants as lexeme
use Rattle.pdw_lex.specs.declared.sign.Sign.TheVariants.{ParenOpen}
use Rattle.pdw_syntax.specs.Rule.{Maybe, absent, present}
use Rattle.pdw_reading.specs.Reading.{Outcome, read, stopped, next, and_then}
use Rattle.pdw_reading.specs.declared.parse_error.Stop.TheVariants.{Memory, Syntax, TooDeep}
use Rattle.pdw_reading.proofs.Law.{Balanced, Begins, Tells, Above, Lawful, LawfulAt, LawfulStep}
use Rattle.pdw_reading.proofs.Depths.{next_append}
use Rattle.pdw_reading.proofs.Closure.{always}
use Rattle.pdw_reading.proofs.ClosureNext.{next_law, at_law}
use Rattle.pdw_reading.proofs.Leads.{choose, Leads, leads_alone}

-- ---- the next text of a rule, if the test says that it comes

-- what the reader reads
abbrev pub some_of : {A : Type 0} → (List Lexeme → Outcome A) → List Lexeme → Outcome (Option A)
some_of r ts = and_then (r ts) (λ a ls. read (Some a) ls)

-- what the reader reads if the test holds of the next lexeme, and nothing else
abbrev pub if_next : {A : Type 0} → (Option Lexeme → Bool) → (List Lexeme → Outcome A) → List Lexeme → Outcome (Option A)
if_next starts r ts = choose (some_of r) (λ us. read None us) (starts (next ts)) ts

above_some : {A : Type 0} (o o' : Outcome A) → Above o o' → Above (and_then o (λ a ls. read (Some a) ls)) (and_then o' (λ a ls. read (Some a) ls))
above_some (read b rest) o' e = ap (λ o. and_then o (λ b ts. read (Some b) ts)) e
above_some (stopped Syntax rest) o' e = ap (λ o. and_then o (λ b ts. read (Some b) ts)) e
above_some (stopped TooDeep rest) o' e = tt
above_some (stopped Memory rest) o' e = tt

if_next_law : {A : Type 0} {n : ℕ} {R S : List Lexeme → A → Type 0} {r q : List Lexeme → Outcome A} {stops : Option Lexeme → Bool}
    (starts : Option Lexeme → Bool) → Lawful n R S r q stops → starts None ≡ false → Leads R always starts → LawfulStep n R S (if_next starts r) (if_next starts q) stops starts
if_next_law {A} {n} {R} {S} {r} {q} {stops} starts law no_end leading = record {
  tells = λ ts. told ts (starts (next ts)) refl;
  present = λ w a rest spells ends. by_start (w ++ rest) true (leading.leads w a rest spells refl) ∙ ap (λ o. and_then o (λ b ls. read (Some b) ls)) (law.again w a rest spells ends);
  absent = λ rest fails. by_start rest false fails;
  starts_with = leads_alone leading;
  ends_none = no_end;
  wider = law.wider;
  balanced = law.balanced;
  above = λ ts. above_by ts (starts (next ts));
}
  where
    by_start : (ts : List Lexeme) (b : Bool) → starts (next ts) ≡ b → if_next starts r ts ≡ choose (some_of r) (λ us. read None us) b ts
    by_start ts b e = ap (λ c. choose (some_of r) (λ us. read None us) c ts) e

    alike : (ts front rest : List Lexeme) → starts (next ts) ≡ true → ts ≡ front ++ rest → (o : List Lexeme → Outcome A)
        → ((other : List Lexeme) → next rest ≡ next other → r (front ++ other) ≡ o other)
        → (other : List Lexeme) → next rest ≡ next other → if_next starts r (front ++ other) ≡ and_then (o other) (λ a ls. read (Some a) ls)
    alike ts front rest comes whole o reads other same =
        by_start (front ++ other) true (ap starts (sym (ap next whole ∙ next_append front rest other same)) ∙ comes)
        ∙ ap (λ x. and_then x (λ a ls. read (Some a) ls)) (reads other same)

    begins : (u : List Lexeme) → Begins S u → Begins (Maybe S) u
    begins u b = record { more = b.more; means = Some b.means; spells = present b.spells }

    told_some : (ts : List Lexeme) (o : Outcome A) → starts (next ts) ≡ true → Tells n R S r ts o
        → Tells n (Maybe R) (Maybe S) (if_next starts r) ts (and_then o (λ a ls. read (Some a) ls))
    told_some ts (read a rest) comes t = record {
      front = t.front;
      whole = t.whole;
      spells = present t.spells;
      alike = alike ts t.front rest comes t.whole (λ other. read a other) t.alike;
    }
    told_some ts (stopped Syntax rest) comes t = record {
      front = t.front;
      whole = t.whole;
      begins = begins t.front t.begins;
      within = t.within;
      alike = alike ts t.front rest comes t.whole (λ other. stopped Syntax other) t.alike;
    }
    told_some ts (stopped TooDeep rest) comes t = record {
      front = t.front;
      whole = t.whole;
      opens = t.opens;
      begins = begins (t.front ++ lexeme.Sign ParenOpen ∷ []) t.begins;
      within = t.within;
      deep = t.deep;
    }
    told_some ts (stopped Memory rest) comes t = absurd t

    told : (ts : List Lexeme) (b : Bool) → starts (next ts) ≡ b → Tells n (Maybe R) (Maybe S) (if_next starts r) ts (choose (some_of r) (λ us. read None us) b ts)
    told ts true comes = told_some ts (r ts) comes (law.tells ts)
    told ts false comes = record { front = []; whole = refl; spells = absent; alike = λ other same. by_start other false (ap starts (sym same) ∙ comes) }

    above_by : (ts : List Lexeme) (b : Bool) → Above (choose (some_of r) (λ us. read None us) b ts) (choose (some_of q) (λ us. read None us) b ts)
    above_by ts true = above_some (r ts) (q ts) (law.above ts)
    above_by ts false = refl

pub step_law : {A : Type 0} {n : ℕ} {R S : List Lexeme → A → Type 0} {r q : List Lexeme → Outcome A} {r' q' : List Lexeme → Outcome (Option A)} {stops : Option Lexeme → Bool}
    (starts : Option Lexeme → Bool) → ((ts : List Lexeme) → r' ts ≡ if_next starts r ts) → ((ts : List Lexeme) → q' ts ≡ if_next starts q ts)
    → Lawful n R S r q stops → starts None ≡ false → Leads R always starts → LawfulStep n R S r' q' stops starts
step_law {A} {n} {R} {S} {r} {q} {r'} {q'} {stops} starts same same' law no_end leading =
    subst (λ f. LawfulStep n R S f q' stops starts) agrees (subst (λ f. LawfulStep n R S (if_next starts r) f stops starts) agrees' (if_next_law starts law no_end leading))
  where
    agrees : if_next starts r ≡ r'
    agrees = λ i ts. sym (same ts) i

    agrees' : if_next starts q ≡ q'
    agrees' = λ i ts. sym (same' ts) i

-- ---- a rule whose texts are those of one rule where the test holds of their first lexeme, and those of another where it doesn't

pub split_law : {A : Type 0} {n : ℕ} {R S F F' T T' : List Lexeme → A → Type 0} (test : Option Lexeme → Bool) (p p' : Bool → List Lexeme → Outcome A)
    {stops : Option Lexeme → Bool} → Lawful n F F' (p true) (p' true) stops → Lawful n T T' (p false) (p' false) stops
    → ((w : List Lexeme) (a : A) → F w a → R w a) → ((w : List Lexeme) (a : A) → F' w a → S w a)
    → ((w : List Lexeme) (a : A) → T w a → R w a) → ((w : List Lexeme) (a : A) → T' w a → S w a)
    → ((w : List Lexeme) (a : A) (rest : List Lexeme) → R w a → test (next (w ++ rest)) ≡ true → F w a)
    → ((w : List Lexeme) (a : A) (rest : List Lexeme) → R w a → test (next (w ++ rest)) ≡ false → T w a)
    → Lawful n R S (λ ts. p (test (next ts)) ts) (λ ts. p' (test (next ts)) ts) stops
split_law {A} {n} {R} {S} {F} {F'} {T} {T'} test p p' {stops} holds fails back back' fails_back fails_back' into fails_into =
    next_law {f = λ o. p (test o)} {g = λ o. p' (test o)} (λ o. at o (test o) refl) (λ w a spells. wider w a (test (next (w ++ []))) refl spells)
    (λ w a spells. balanced w a (test (next (w ++ []))) refl spells)
    (record { text = holds.some.text; means = holds.some.means; spells = back' holds.some.text holds.some.means holds.some.spells })
  where
    at : (o : Option Lexeme) (b : Bool) → test o ≡ b → LawfulAt o n R S (p b) (p' b) stops
    at o true e = at_law o holds back back' (λ w a rest comes spells. into w a rest spells (ap test comes ∙ e))
    at o false e = at_law o fails fails_back fails_back' (λ w a rest comes spells. fails_into w a rest spells (ap test comes ∙ e))

    wider : (w : List Lexeme) (a : A) (b : Bool) → test (next (w ++ [])) ≡ b → R w a → S w a
    wider w a true e spells = back' w a (holds.wider w a (into w a [] spells e))
    wider w a false e spells = fails_back' w a (fails.wider w a (fails_into w a [] spells e))

    balanced : (w : List Lexeme) (a : A) (b : Bool) → test (next (w ++ [])) ≡ b → R w a → Balanced n w
    balanced w a true e spells = holds.balanced w a (into w a [] spells e)
    balanced w a false e spells = fails.balanced w a (fails_into w a [] spells e)
