-- What value expressions begin with, and those that begin with a column.
use Rattle.std.proofs.Common.{◌≡◌, ℕ, ℤ, Bool, true, List, ◌++◌, Option, Some, None, refl, sym, append_assoc, true≢false}
use Rattle.pdw_lex.specs.declared.keyword.Keyword.TheVariants.{KwCount, KwMax, KwMin, KwSum}
use Rattle.pdw_lex.specs.declared.sign.Sign.TheVariants.{ParenOpen, Dot, Star, Slash, Percent, Plus, Minus}
use Rattle.pdw_lex.specs.declared.token.Lexeme.{Lexeme}
use Rattle.pdw_lex.specs.declared.token.Lexeme.TheVariants as lexeme
use Rattle.pdw_syntax.specs.Rule.{Empty, One, Then, both, Either, first, second}
use Rattle.pdw_syntax.specs.Lexemes.{is_sign, name_of, minus_of, aggregate_of, term_operator_of, factor_operator_of, name}
use Rattle.pdw_syntax.specs.Parentheses.{Parentheses}
use Rattle.pdw_syntax.specs.Exprs as rule
use Rattle.pdw_syntax.specs.declared.expr.ColRef.{ColRef}
use Rattle.pdw_syntax.specs.declared.expr.SqlExpr.{SqlExpr}
use Rattle.pdw_syntax.specs.declared.expr.SqlExpr.TheVariants.{Col}
use Rattle.pdw_reading.specs.Reading.{next}
use Rattle.pdw_reading.proofs.Closure.{always}
use Rattle.pdw_reading.proofs.Rules.{made, then_map, either_map, then_assoc, then_assoc_back, maybe_then, maybe_then_back, then_either, then_either_back, then_empty}
use Rattle.pdw_reading.proofs.Leads.{seen, Narrower, narrower_key, narrower_name, narrower_number, narrower_text, narrower_same, Leads, leads_one, leads_either, leads_first, leads_then, leads_made, leads_maybe, leads_many, leads_enclosed, begins_otherwise, made_then, made_then_back}
use Rattle.pdw_reading.proofs.ExprLaws.{expr_rest, expr_of_value}

-- ---- tests

narrower_minus : {s : Option Lexeme → Bool} → s (Some (lexeme.Sign Plus)) ≡ true → s (Some (lexeme.Sign Minus)) ≡ true → Narrower (seen minus_of) s
narrower_minus {s} plus minus = record { into = go }
  where
    go : (o : Option Lexeme) → seen minus_of o ≡ true → s o ≡ true
    go (Some (lexeme.Sign Plus)) e = plus
    go (Some (lexeme.Sign Minus)) e = minus
    go (Some (lexeme.Sign m)) e = absurd (true≢false (sym e))
    go (Some (lexeme.Key m)) e = absurd (true≢false (sym e))
    go (Some (lexeme.Name m)) e = absurd (true≢false (sym e))
    go (Some (lexeme.Number m)) e = absurd (true≢false (sym e))
    go (Some (lexeme.Text m)) e = absurd (true≢false (sym e))
    go None e = absurd (true≢false (sym e))

narrower_term : {s : Option Lexeme → Bool} → s (Some (lexeme.Sign Plus)) ≡ true → s (Some (lexeme.Sign Minus)) ≡ true → Narrower (seen term_operator_of) s
narrower_term {s} plus minus = record { into = go }
  where
    go : (o : Option Lexeme) → seen term_operator_of o ≡ true → s o ≡ true
    go (Some (lexeme.Sign Plus)) e = plus
    go (Some (lexeme.Sign Minus)) e = minus
    go (Some (lexeme.Sign m)) e = absurd (true≢false (sym e))
    go (Some (lexeme.Key m)) e = absurd (true≢false (sym e))
    go (Some (lexeme.Name m)) e = absurd (true≢false (sym e))
    go (Some (lexeme.Number m)) e = absurd (true≢false (sym e))
    go (Some (lexeme.Text m)) e = absurd (true≢false (sym e))
    go None e = absurd (true≢false (sym e))

narrower_factor : {s : Option Lexeme → Bool} → s (Some (lexeme.Sign Star)) ≡ true → s (Some (lexeme.Sign Slash)) ≡ true → s (Some (lexeme.Sign Percent)) ≡ true
    → Narrower (seen factor_operator_of) s
narrower_factor {s} star slash percent = record { into = go }
  where
    go : (o : Option Lexeme) → seen factor_operator_of o ≡ true → s o ≡ true
    go (Some (lexeme.Sign Star)) e = star
    go (Some (lexeme.Sign Slash)) e = slash
    go (Some (lexeme.Sign Percent)) e = percent
    go (Some (lexeme.Sign m)) e = absurd (true≢false (sym e))
    go (Some (lexeme.Key m)) e = absurd (true≢false (sym e))
    go (Some (lexeme.Name m)) e = absurd (true≢false (sym e))
    go (Some (lexeme.Number m)) e = absurd (true≢false (sym e))
    go (Some (lexeme.Text m)) e = absurd (true≢false (sym e))
    go None e = absurd (true≢false (sym e))

narrower_aggregate : {s : Option Lexeme → Bool} → s (Some (lexeme.Key KwCount)) ≡ true → s (Some (lexeme.Key KwSum)) ≡ true → s (Some (lexeme.Key KwMin)) ≡ true
    → s (Some (lexeme.Key KwMax)) ≡ true → Narrower (seen aggregate_of) s
narrower_aggregate {s} count sum min max = record { into = go }
  where
    go : (o : Option Lexeme) → seen aggregate_of o ≡ true → s o ≡ true
    go (Some (lexeme.Key KwCount)) e = count
    go (Some (lexeme.Key KwSum)) e = sum
    go (Some (lexeme.Key KwMin)) e = min
    go (Some (lexeme.Key KwMax)) e = max
    go (Some (lexeme.Key m)) e = absurd (true≢false (sym e))
    go (Some (lexeme.Sign m)) e = absurd (true≢false (sym e))
    go (Some (lexeme.Name m)) e = absurd (true≢false (sym e))
    go (Some (lexeme.Number m)) e = absurd (true≢false (sym e))
    go (Some (lexeme.Text m)) e = absurd (true≢false (sym e))
    go None e = absurd (true≢false (sym e))

-- the test holds of each lexeme that a value begins with
pub record HoldsAtValue (s : Option Lexeme → Bool) : Type 0 where
  pub at_number : (m : ℤ) → s (Some (lexeme.Number m)) ≡ true
  pub at_text : (m : List ℕ) → s (Some (lexeme.Text m)) ≡ true
  pub at_name : (m : List ℕ) → s (Some (lexeme.Name m)) ≡ true
  pub at_count : s (Some (lexeme.Key KwCount)) ≡ true
  pub at_sum : s (Some (lexeme.Key KwSum)) ≡ true
  pub at_min : s (Some (lexeme.Key KwMin)) ≡ true
  pub at_max : s (Some (lexeme.Key KwMax)) ≡ true
  pub at_paren : s (Some (lexeme.Sign ParenOpen)) ≡ true

-- ---- what an expression begins with

module _ (g : Parentheses) {s : Option Lexeme → Bool} where
  leads_aggregate : {t : Option Lexeme → Bool} → s (Some (lexeme.Key KwCount)) ≡ true → s (Some (lexeme.Key KwSum)) ≡ true → s (Some (lexeme.Key KwMin)) ≡ true
      → s (Some (lexeme.Key KwMax)) ≡ true → Leads (rule.aggregate g) t s
  unfolding rule.aggregate
  leads_aggregate count sum min max =
      leads_either (leads_first (leads_first (leads_one (narrower_key KwCount count)))) (leads_first (leads_one (narrower_aggregate count sum min max)))

  leads_value : {t : Option Lexeme → Bool} → HoldsAtValue s → Leads (rule.value g) t s
  unfolding rule.value
  leads_value holds =
      leads_either (leads_first (leads_one (narrower_number holds.at_number)))
      (leads_either (leads_first (leads_one (narrower_text holds.at_text)))
      (leads_either (leads_first leads_column)
      (leads_either (leads_aggregate holds.at_count holds.at_sum holds.at_min holds.at_max) (leads_first (leads_enclosed holds.at_paren)))))
    where
      leads_column : Leads rule.column_reference always s
      leads_column = leads_then (leads_maybe (leads_first (leads_one (narrower_name holds.at_name))) narrower_same) (λ alias. leads_first (leads_one (narrower_name holds.at_name)))

  leads_signed : {t : Option Lexeme → Bool} → HoldsAtValue s → s (Some (lexeme.Sign Plus)) ≡ true → s (Some (lexeme.Sign Minus)) ≡ true → Leads (rule.signed g) t s
  unfolding rule.signed
  leads_signed holds plus minus = leads_then (leads_maybe (leads_one (narrower_minus plus minus)) narrower_same) (λ m. leads_first (leads_value holds))

  pub leads_expr : {t : Option Lexeme → Bool} → HoldsAtValue s → s (Some (lexeme.Sign Plus)) ≡ true → s (Some (lexeme.Sign Minus)) ≡ true → Leads (rule.expr g) t s
  unfolding rule.expr rule.product
  leads_expr holds plus minus = leads_first (leads_first (leads_signed holds plus minus))

  -- what follows the first value of an expression
  pub leads_expr_rest : {t : Option Lexeme → Bool} (x : SqlExpr) → s (Some (lexeme.Sign Star)) ≡ true → s (Some (lexeme.Sign Slash)) ≡ true → s (Some (lexeme.Sign Percent)) ≡ true
      → s (Some (lexeme.Sign Plus)) ≡ true → s (Some (lexeme.Sign Minus)) ≡ true → Narrower t s → Leads (expr_rest g x) t s
  leads_expr_rest x star slash percent plus minus narrower =
      leads_then (leads_made (leads_many (leads_first (leads_one (narrower_factor star slash percent))) narrower_same))
      (λ y. leads_made (leads_many (leads_first (leads_one (narrower_term plus minus))) narrower))

-- ---- expressions that begin with a name

module _ (g : Parentheses) where
  value_by_name : (w : List Lexeme) (x : SqlExpr) (rest : List Lexeme) → rule.value g w x → seen name_of (next (w ++ rest)) ≡ true
      → Then rule.column_reference (λ c. Empty (Col c)) w x
  unfolding rule.value
  value_by_name w x rest (first spells) e = absurd (begins_otherwise (seen name_of) (leads_first (leads_one (narrower_number (λ m. refl)))) w x rest spells e)
  value_by_name w x rest (second (first spells)) e = absurd (begins_otherwise (seen name_of) (leads_first (leads_one (narrower_text (λ m. refl)))) w x rest spells e)
  value_by_name w x rest (second (second (first spells))) e = spells
  value_by_name w x rest (second (second (second (first spells)))) e = absurd (begins_otherwise (seen name_of) (leads_aggregate g refl refl refl refl) w x rest spells e)
  value_by_name w x rest (second (second (second (second spells)))) e = absurd (begins_otherwise (seen name_of) (leads_first (leads_enclosed refl)) w x rest spells e)

  signed_by_name : (w : List Lexeme) (x : SqlExpr) (rest : List Lexeme) → rule.signed g w x → seen name_of (next (w ++ rest)) ≡ true
      → Then rule.column_reference (λ c. Empty (Col c)) w x
  unfolding rule.signed
  signed_by_name w x rest spells e = go (maybe_then w x spells)
    where
      go : Either (Then (One minus_of) (λ m. Then (rule.value g) (λ y. Empty (rule.with_sign (Some m) y)))) (Then (rule.value g) (λ y. Empty y)) w x
          → Then rule.column_reference (λ c. Empty (Col c)) w x
      go (first signed) = absurd (begins_otherwise (seen name_of) (leads_first (leads_one (narrower_minus refl refl))) w x rest signed e)
      go (second unsigned) = value_by_name w x rest (then_empty w x unsigned) e

  -- it is a column, and what follows it
  pub expr_by_name : (w : List Lexeme) (x : SqlExpr) (rest : List Lexeme) → rule.expr g w x → seen name_of (next (w ++ rest)) ≡ true
      → Then rule.column_reference (λ c. expr_rest g (Col c)) w x
  unfolding rule.expr rule.product
  expr_by_name w x rest spells e = made_then Col w x (go w x rest (then_assoc w x spells) e)
    where
      go : (w : List Lexeme) (x : SqlExpr) (rest : List Lexeme) → Then (rule.signed g) (expr_rest g) w x → seen name_of (next (w ++ rest)) ≡ true
          → Then (Then rule.column_reference (λ c. Empty (Col c))) (expr_rest g) w x
      go w x rest (both {a = y} u v spells goes_on) e = both u v (signed_by_name u y (v ++ rest) spells (rw (append_assoc u v rest) at e)) goes_on

  pub expr_of_column : (w : List Lexeme) (x : SqlExpr) → Then rule.column_reference (λ c. expr_rest g (Col c)) w x → rule.expr g w x
  unfolding rule.value
  expr_of_column w x (both {a = c} u v spells goes_on) = expr_of_value g (u ++ v) x (both u v (second (second (first (made Col u c spells)))) goes_on)

-- ---- a column and what goes by it

-- after a first name
abbrev pub after_name : {A : Type 0} → (ColRef → List Lexeme → A → Type 0) → List ℕ → List Lexeme → A → Type 0
after_name S m = Either (Then (One (is_sign Dot)) (λ d. Then name (λ c. S (record { alias = Some m; column = c })))) (S (record { alias = None; column = m }))

pub column_split : {A : Type 0} {S : ColRef → List Lexeme → A → Type 0} (w : List Lexeme) (a : A) → Then rule.column_reference S w a → Then name (after_name S) w a
column_split {A} {S} w a spells =
    then_either_back w a
    (either_map
    (λ v x r. then_map {R = name} (λ u y q. q) (λ m u y q. made_then (λ d. m) u y q) v x (then_assoc v x (then_map (λ u y q. q) (λ m u y q. made_then _ u y q) v x r)))
    (λ v x r. made_then _ v x r)
    w a (maybe_then w a (then_assoc w a spells)))

pub column_join : {A : Type 0} {S : ColRef → List Lexeme → A → Type 0} (w : List Lexeme) (a : A) → Then name (after_name S) w a → Then rule.column_reference S w a
column_join {A} {S} w a spells =
    then_assoc_back w a (maybe_then_back w a
    (either_map
    (λ v x r. then_map (λ u y q. q) (λ m u y q. made_then_back _ u y q) v x (then_assoc_back v x (then_map {R = name} (λ u y q. q) (λ m u y q. made_then_back (λ d. m) u y q) v x r)))
    (λ v x r. made_then_back _ v x r)
    w a (then_either w a spells)))
