-- The same for texts in parentheses.
use Rattle.std.proofs.Common.{◌≡◌, ℕ, suc, ◌+◌, ◌-◌, Bool, true, List, [], ◌∷◌, ◌++◌, Option, Some, None, refl, sym, ◌∙◌, ap, subst, append_assoc, arith, is_some, if◌then◌else◌}
use Rattle.pdw_lex.specs.declared.sign.Sign.TheVariants.{ParenOpen, ParenClose}
use Rattle.pdw_lex.specs.declared.token.Lexeme.{Lexeme}
use Rattle.pdw_lex.specs.declared.token.Lexeme.TheVariants.{Sign}
use Rattle.pdw_syntax.specs.Rule.{Enclosed, enclosed as parenthesized}
use Rattle.pdw_syntax.specs.Lexemes.{is_sign, same_sign}
use Rattle.pdw_reading.specs.Reading.{Outcome, read, stopped, and_then, next, take, meaning_of, enclosed, closed}
use Rattle.pdw_reading.proofs.Law.{Balanced, Within, Begins, Tells, TellsRead, TellsSyntax, TellsTooDeep, Above, Lawful, Inhabited, open_from}
use Rattle.pdw_reading.proofs.Depths.{open_append, within_append, within_none}
use Rattle.pdw_reading.specs.declared.parse_error.Stop.TheVariants.{Memory, Syntax, TooDeep}
use Rattle.pdw_reading.proofs.Closure.{always, same_above}

-- ---- parentheses

is_open : (l : Lexeme) (u : Unit {0}) → is_sign ParenOpen l ≡ Some u → l ≡ Sign ParenOpen
unfolding same_sign
is_open (Sign ParenOpen) u is = refl
is_open l u is = cc

is_close : (l : Lexeme) (u : Unit {0}) → is_sign ParenClose l ≡ Some u → l ≡ Sign ParenClose
unfolding same_sign
is_close (Sign ParenClose) u is = refl
is_close l u is = cc

closing : {A : Type 0} → A → List Lexeme → Outcome A
closing a us = and_then (take (is_sign ParenClose) us) (λ u us'. read a us')

closing_reads : {A : Type 0} (a : A) (us : List Lexeme) → closing a (Sign ParenClose ∷ us) ≡ read a us
unfolding closing take same_sign
closing_reads a us = refl

closing_stops : {A : Type 0} (a : A) (o : Option Lexeme) (us : List Lexeme) → next us ≡ o → meaning_of (is_sign ParenClose) o ≡ None → closing a us ≡ stopped Syntax us
unfolding closing take
closing_stops a o us comes means = rw comes (rw means refl)

enclosed_reads : {A : Type 0} (r : List Lexeme → Outcome A) (us : List Lexeme) → enclosed r (Sign ParenOpen ∷ us) ≡ and_then (r us) closing
unfolding closing take same_sign
enclosed_reads r us = refl

enclosed_stops : {A : Type 0} (r : List Lexeme → Outcome A) (o : Option Lexeme) (us : List Lexeme) → next us ≡ o → meaning_of (is_sign ParenOpen) o ≡ None
    → enclosed r us ≡ stopped Syntax us
unfolding take
enclosed_stops r o us comes means = rw comes (rw means refl)

within_inside : (n d : ℕ) (u : List Lexeme) → ((e : ℕ) → Within (e + n) e u) → Within (d + suc n) d (Sign ParenOpen ∷ u)
within_inside n d u inside =
    let same : (d + 1) + n ≡ d + suc n = omega arith in
    (omega arith, subst (λ k. Within k (d + 1) u) same (inside (d + 1)))

balanced_inside : (n : ℕ) (u : List Lexeme) → Balanced n u → Balanced (suc n) (Sign ParenOpen ∷ (u ++ Sign ParenClose ∷ []))
balanced_inside n u inside = record { back = back; within = within }
  where
    minus : (d : ℕ) → d + 1 - 1 ≡ d
    minus d = omega arith

    back : (d : ℕ) → open_from (d + 1) (u ++ Sign ParenClose ∷ []) ≡ d
    back d = open_append (d + 1) u (Sign ParenClose ∷ []) ∙ (ap (λ e. e - 1) (inside.back (d + 1)) ∙ minus d)

    within : (d : ℕ) → Within (d + suc n) d (Sign ParenOpen ∷ (u ++ Sign ParenClose ∷ []))
    within d =
        let same : (d + 1) + n ≡ d + suc n = omega arith in (
          omega arith,
          within_append (d + suc n) (d + 1) u (Sign ParenClose ∷ []) (subst (λ k. Within k (d + 1) u) same (inside.within (d + 1)))
              (rw (inside.back (d + 1)) (omega arith, omega arith)),
        )

module _ {A : Type 0} (n : ℕ) (R S : List Lexeme → A → Type 0) (r q : List Lexeme → Outcome A) (stops : Option Lexeme → Bool)
    (inside : Lawful n R S r q stops) (closes : stops (Some (Sign ParenClose)) ≡ true) where
  not_closed : (ls rest : List Lexeme) (a : A) (o : Option Lexeme) → next rest ≡ o → meaning_of (is_sign ParenClose) o ≡ None → TellsRead R r ls a rest
      → TellsSyntax (suc n) (Enclosed S) (enclosed r) (Sign ParenOpen ∷ ls) rest
  not_closed ls rest a o comes means t = record {
    front = Sign ParenOpen ∷ t.front;
    whole = ap (λ w. Sign ParenOpen ∷ w) t.whole;
    begins = record { more = Sign ParenClose ∷ []; means = a; spells = parenthesized t.front (inside.wider t.front a t.spells) };
    within = λ d. within_inside n d t.front (inside.balanced t.front a t.spells).within;
    alike = λ other same. enclosed_reads r (t.front ++ other) ∙ (ap (λ o. and_then o closing) (t.alike other same) ∙ closing_stops a o other (sym same ∙ comes) means);
  }

  is_closed : (ls rest : List Lexeme) (a : A) → TellsRead R r ls a (Sign ParenClose ∷ rest) → TellsRead (Enclosed R) (enclosed r) (Sign ParenOpen ∷ ls) a rest
  is_closed ls rest a t = record {
    front = Sign ParenOpen ∷ (t.front ++ Sign ParenClose ∷ []);
    whole = ap (λ w. Sign ParenOpen ∷ w) (t.whole ∙ sym (append_assoc t.front (Sign ParenClose ∷ []) rest));
    spells = parenthesized t.front t.spells;
    alike = λ other same.
        enclosed_reads r ((t.front ++ Sign ParenClose ∷ []) ++ other)
        ∙ (ap (λ w. and_then (r w) closing) (append_assoc t.front (Sign ParenClose ∷ []) other)
        ∙ (ap (λ o. and_then o closing) (t.alike (Sign ParenClose ∷ other) refl) ∙ closing_reads a other));
  }

  begins_inside : (u : List Lexeme) → Begins S u → Begins (Enclosed S) (Sign ParenOpen ∷ u)
  begins_inside u b = record {
    more = b.more ++ Sign ParenClose ∷ [];
    means = b.means;
    spells = subst (λ w. Enclosed S (Sign ParenOpen ∷ w) b.means) (append_assoc u b.more (Sign ParenClose ∷ [])) (parenthesized (u ++ b.more) b.spells);
  }

  by_close : (ls : List Lexeme) (l : Lexeme) (rest : List Lexeme) (a : A) (o : Option (Unit {0})) → is_sign ParenClose l ≡ o → TellsRead R r ls a (l ∷ rest)
      → Tells (suc n) (Enclosed R) (Enclosed S) (enclosed r) (Sign ParenOpen ∷ ls) (closing a (l ∷ rest))
  by_close ls l rest a None means t =
      subst (λ o. Tells (suc n) (Enclosed R) (Enclosed S) (enclosed r) (Sign ParenOpen ∷ ls) o) (sym (closing_stops a (Some l) (l ∷ rest) refl means))
      (not_closed ls (l ∷ rest) a (Some l) refl means t)
  by_close ls l rest a (Some u) means t =
      let is : l ≡ Sign ParenClose = is_close l u means in
      subst (λ o. Tells (suc n) (Enclosed R) (Enclosed S) (enclosed r) (Sign ParenOpen ∷ ls) o) (sym (ap (λ k. closing a (k ∷ rest)) is ∙ closing_reads a rest))
      (is_closed ls rest a (subst (λ k. TellsRead R r ls a (k ∷ rest)) is t))

  told_inside : (ls : List Lexeme) (o : Outcome A) → Tells n R S r ls o → Tells (suc n) (Enclosed R) (Enclosed S) (enclosed r) (Sign ParenOpen ∷ ls) (and_then o closing)
  told_inside ls (read a []) t =
      subst (λ o. Tells (suc n) (Enclosed R) (Enclosed S) (enclosed r) (Sign ParenOpen ∷ ls) o) (sym (closing_stops a None [] refl refl))
      (not_closed ls [] a None refl refl t)
  told_inside ls (read a (l ∷ rest)) t = by_close ls l rest a (is_sign ParenClose l) refl t
  told_inside ls (stopped Syntax rest) t = record {
    front = Sign ParenOpen ∷ t.front;
    whole = ap (λ w. Sign ParenOpen ∷ w) t.whole;
    begins = begins_inside t.front t.begins;
    within = λ d. within_inside n d t.front t.within;
    alike = λ other same. enclosed_reads r (t.front ++ other) ∙ ap (λ o. and_then o closing) (t.alike other same);
  }
  told_inside ls (stopped TooDeep rest) t = record {
    front = Sign ParenOpen ∷ t.front;
    whole = ap (λ w. Sign ParenOpen ∷ w) t.whole;
    opens = t.opens;
    begins = begins_inside (t.front ++ Sign ParenOpen ∷ []) t.begins;
    within = λ d. within_inside n d t.front t.within;
    deep = λ d. t.deep (d + 1) ∙ omega arith;
  }
  told_inside ls (stopped Memory rest) t = absurd t

  not_opened : (ts : List Lexeme) (o : Option Lexeme) → next ts ≡ o → meaning_of (is_sign ParenOpen) o ≡ None
      → Tells (suc n) (Enclosed R) (Enclosed S) (enclosed r) ts (enclosed r ts)
  not_opened ts o comes means =
      subst (λ x. Tells (suc n) (Enclosed R) (Enclosed S) (enclosed r) ts x) (sym (enclosed_stops r o ts comes means)) (record {
        front = [];
        whole = refl;
        begins = record { more = Sign ParenOpen ∷ (inside.some.text ++ Sign ParenClose ∷ []); means = inside.some.means; spells = parenthesized inside.some.text inside.some.spells };
        within = λ d. within_none (suc n) d;
        alike = λ other same. enclosed_stops r o other (sym same ∙ comes) means;
      })

  by_open : (l : Lexeme) (ls : List Lexeme) (o : Option (Unit {0})) → is_sign ParenOpen l ≡ o → Tells (suc n) (Enclosed R) (Enclosed S) (enclosed r) (l ∷ ls) (enclosed r (l ∷ ls))
  by_open l ls None means = not_opened (l ∷ ls) (Some l) refl means
  by_open l ls (Some u) means =
      subst (λ k. Tells (suc n) (Enclosed R) (Enclosed S) (enclosed r) (k ∷ ls) (enclosed r (k ∷ ls))) (sym (is_open l u means))
      (subst (λ o. Tells (suc n) (Enclosed R) (Enclosed S) (enclosed r) (Sign ParenOpen ∷ ls) o) (sym (enclosed_reads r ls)) (told_inside ls (r ls) (inside.tells ls)))

  tells_enclosed : (ts : List Lexeme) → Tells (suc n) (Enclosed R) (Enclosed S) (enclosed r) ts (enclosed r ts)
  tells_enclosed [] = not_opened [] None refl refl
  tells_enclosed (l ∷ ls) = by_open l ls (is_sign ParenOpen l) refl

  again_enclosed : (w : List Lexeme) (a : A) (rest : List Lexeme) → Enclosed R w a → enclosed r (w ++ rest) ≡ read a rest
  again_enclosed w a rest (parenthesized u spells) =
      enclosed_reads r ((u ++ Sign ParenClose ∷ []) ++ rest)
      ∙ (ap (λ ts. and_then (r ts) closing) (append_assoc u (Sign ParenClose ∷ []) rest)
      ∙ (ap (λ o. and_then o closing) (inside.again u a (Sign ParenClose ∷ rest) spells closes) ∙ closing_reads a rest))

  wider_enclosed : (w : List Lexeme) (a : A) → Enclosed R w a → Enclosed S w a
  wider_enclosed w a (parenthesized u spells) = parenthesized u (inside.wider u a spells)

  balanced_enclosed : (w : List Lexeme) (a : A) → Enclosed R w a → Balanced (suc n) w
  balanced_enclosed w a (parenthesized u spells) = balanced_inside n u (inside.balanced u a spells)

  over_closing : (o o' : Outcome A) → Above o o' → Above (and_then o closing) (and_then o' closing)
  over_closing (read a rest) o' e = subst (λ x. Above (closing a rest) (and_then x closing)) (sym e) (same_above (closing a rest))
  over_closing (stopped Syntax rest) o' e = ap (λ x. and_then x closing) e
  over_closing (stopped TooDeep rest) o' e = tt
  over_closing (stopped Memory rest) o' e = tt

  above_enclosed : (ts : List Lexeme) → Above (enclosed r ts) (enclosed q ts)
  unfolding closing
  above_enclosed ts = opened (take (is_sign ParenOpen) ts)
    where
      opened : (o : Outcome (Unit {0})) → Above (and_then o (λ u us. and_then (r us) (λ a. closing a))) (and_then o (λ u us. and_then (q us) (λ a. closing a)))
      opened (read u us) = over_closing (r us) (q us) (inside.above us)
      opened (stopped Syntax us) = refl
      opened (stopped TooDeep us) = tt
      opened (stopped Memory us) = tt

pub enclosed_law : {A : Type 0} {n : ℕ} {R S : List Lexeme → A → Type 0} {r q : List Lexeme → Outcome A} {stops : Option Lexeme → Bool}
    → Lawful n R S r q stops → stops (Some (Sign ParenClose)) ≡ true → Lawful (suc n) (Enclosed R) (Enclosed S) (enclosed r) (enclosed q) always
enclosed_law {n = n} {R = R} {S = S} {r = r} {q = q} {stops = stops} inside closes = record {
  tells = tells_enclosed n R S r q stops inside closes;
  again = λ w a rest spells ends. again_enclosed n R S r q stops inside closes w a rest spells;
  wider = wider_enclosed n R S r q stops inside closes;
  balanced = balanced_enclosed n R S r q stops inside closes;
  above = above_enclosed n R S r q stops inside closes;
  some = record { text = Sign ParenOpen ∷ (inside.some.text ++ Sign ParenClose ∷ []); means = inside.some.means; spells = parenthesized inside.some.text inside.some.spells };
}

pub closed_law : {A : Type 0} {R S : List Lexeme → A → Type 0} (q : List Lexeme → Outcome A)
    → ((w : List Lexeme) (a : A) → R w a → ⊥) → Inhabited S → Lawful 0 (Enclosed R) (Enclosed S) closed (enclosed q) always
unfolding closed
closed_law {A = A} {R = R} {S = S} q nothing some = record {
  tells = tells;
  again = λ w a rest spells stops. absurd (no_text w a spells);
  wider = λ w a spells. absurd (no_text w a spells);
  balanced = λ w a spells. absurd (no_text w a spells);
  above = λ ts. over (next ts) ts refl (meaning_of (is_sign ParenOpen) (next ts)) refl;
  some = record { text = Sign ParenOpen ∷ (some.text ++ Sign ParenClose ∷ []); means = some.means; spells = parenthesized some.text some.spells };
}
  where
    no_text : (w : List Lexeme) (a : A) → Enclosed R w a → ⊥
    no_text w a (parenthesized u spells) = nothing u a spells

    not_opened : (o : Option Lexeme) (ts : List Lexeme) → next ts ≡ o → meaning_of (is_sign ParenOpen) o ≡ None → closed {A = A} ts ≡ stopped Syntax ts
    not_opened o ts comes means = rw comes (rw means refl)

    tells_fault : (o : Option Lexeme) (ts : List Lexeme) → next ts ≡ o → meaning_of (is_sign ParenOpen) o ≡ None → TellsSyntax 0 (Enclosed S) closed ts ts
    tells_fault o ts comes means = record {
      front = [];
      whole = refl;
      begins = record { more = Sign ParenOpen ∷ (some.text ++ Sign ParenClose ∷ []); means = some.means; spells = parenthesized some.text some.spells };
      within = λ d. within_none 0 d;
      alike = λ other same. not_opened o other (sym same ∙ comes) means;
    }

    tells_open : (ls : List Lexeme) → TellsTooDeep 0 (Enclosed S) (Sign ParenOpen ∷ ls) (Sign ParenOpen ∷ ls)
    tells_open ls = record {
      front = [];
      whole = refl;
      opens = refl;
      begins = record { more = some.text ++ Sign ParenClose ∷ []; means = some.means; spells = parenthesized some.text some.spells };
      within = λ d. within_none 0 d;
      deep = λ d. omega arith;
    }

    by_open : (l : Lexeme) (ls : List Lexeme) (o : Option (Unit {0})) → is_sign ParenOpen l ≡ o
        → Tells 0 (Enclosed R) (Enclosed S) closed (l ∷ ls) (if is_some o then stopped TooDeep (l ∷ ls) else stopped Syntax (l ∷ ls))
    by_open l ls None means = tells_fault (Some l) (l ∷ ls) refl means
    by_open l ls (Some u) means = subst (λ k. TellsTooDeep 0 (Enclosed S) (k ∷ ls) (k ∷ ls)) (sym (is_open l u means)) (tells_open ls)

    tells : (ts : List Lexeme) → Tells 0 (Enclosed R) (Enclosed S) closed ts (closed ts)
    tells [] = tells_fault None [] refl refl
    tells (l ∷ ls) = by_open l ls (is_sign ParenOpen l) refl

    over : (l : Option Lexeme) (ts : List Lexeme) → next ts ≡ l → (o : Option (Unit {0})) → meaning_of (is_sign ParenOpen) l ≡ o
        → Above (if is_some (meaning_of (is_sign ParenOpen) (next ts)) then stopped TooDeep ts else stopped Syntax ts) (enclosed q ts)
    over l ts comes None means = rw comes (rw means (enclosed_stops q l ts comes means))
    over l ts comes (Some u) means = rw comes (rw means tt)
