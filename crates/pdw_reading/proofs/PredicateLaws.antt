-- Predicates, and what begins a condition, are read by their rules.
use Rattle.std.proofs.Common.{◌≡◌, ℕ, Bool, true, false, not, ◌||◌, List, [], ◌++◌, Option, Some, None, is_some, refl, sym, ◌∙◌, ap, subst}
use Rattle.pdw_expr.specs.declared.cond.Cmp.TheVariants.{Eq}
use Rattle.pdw_lex.specs.declared.keyword.Keyword.{Keyword}
use Rattle.pdw_lex.specs.declared.keyword.Keyword.TheVariants.{KwAnd, KwBetween, KwExists, KwIn, KwIs, KwLike, KwNot, KwNull}
use Rattle.pdw_lex.specs.declared.sign.Sign.TheVariants.{Dot, Equal, Minus, ParenOpen, Percent, Plus, Slash, Star}
use Rattle.pdw_lex.specs.declared.token.Lexeme.{Lexeme}
use Rattle.pdw_lex.specs.declared.token.Lexeme.TheVariants.{Key, Sign}
use Rattle.pdw_syntax.specs.Rule.{Rule, ◌>>=◌, ◌>>◌, ◌<$>◌, ◌or◌, pure, Empty, One, Then, both, Either, first, second, Enclosed}
use Rattle.pdw_syntax.specs.Lexemes.{is_key, same_keyword, key, comparison_of, minus_of}
use Rattle.pdw_syntax.specs.Parentheses.{Parentheses}
use Rattle.pdw_syntax.specs.Exprs.{expr as expr_rule, value as value_rule}
use Rattle.pdw_syntax.specs.Conds as rule
use Rattle.pdw_syntax.specs.Conds.{negation}
use Rattle.pdw_syntax.specs.declared.expr.SqlExpr.{SqlExpr}
use Rattle.pdw_syntax.specs.declared.expr.SqlExpr.TheVariants.{Paren as ParenExpr}
use Rattle.pdw_syntax.specs.declared.query.SqlCond.{SqlCond}
use Rattle.pdw_syntax.specs.declared.query.SqlCond.TheVariants as c
use Rattle.pdw_reading.specs.Reading.{Outcome, read, and_then, next, take, eat, meaning_of}
use Rattle.pdw_reading.specs.ReadExprs.{Nested, expr}
use Rattle.pdw_reading.specs.ReadConds.{among_cond, null_test_from, between_from, negatable_by, negatable_from, null_test_or, predicate_by, predicate_from, after_parentheses, started_by, started, completed, primary_condition}
use Rattle.pdw_reading.specs.declared.content.Among.TheVariants as among_is
use Rattle.pdw_reading.specs.declared.content.Operand.{Operand}
use Rattle.pdw_reading.specs.declared.content.Operand.TheVariants as operand_is
use Rattle.pdw_reading.proofs.Law.{Balanced, Lawful, LawfulAt}
use Rattle.pdw_reading.proofs.Closure.{always, after, then_law, then_always, narrower_law}
use Rattle.pdw_reading.proofs.ClosureNext.{same_law, next_law, refused_law, branch_law, eat_law}
use Rattle.pdw_reading.proofs.Level.{LevelLaw, operand_in, among_in}
use Rattle.pdw_reading.proofs.MoreClosure.{pure_until, empty_follows, made_law, at_by_law, seen, one_first, next_append, some_not_none, false_not_true, choice_law, key_is, key_at, key_law, no_key, key_seen}
use Rattle.pdw_reading.proofs.Rules.{then_map, either_map, then_assoc, then_assoc_back, empty_then, empty_then_back, then_either, either_then, either_then_back, maybe_then, maybe_then_back, made}
use Rattle.pdw_reading.proofs.Stops.{ends_expr}
use Rattle.pdw_reading.proofs.ExprLaws.{expr_rest, expr_law, expr_from_law, starts_expr, expr_first, expr_of_value, value_of_expr, value_at, value_into, value_back, then_parentheses_first}

-- ---- what follows the expression that begins a predicate

-- after IS
abbrev pub null_rest : SqlExpr → Rule SqlCond
null_rest x = do
  negated ← negation
  key KwNull
  pure (c.IsNull negated x)

abbrev pub between_rest : Parentheses → Bool → SqlExpr → Rule SqlCond
between_rest g negated x = do
  low ← expr_rule g
  key KwAnd
  c.Between negated x low <$> expr_rule g

-- LIKE, BETWEEN or IN, and what they are followed by
abbrev pub negatable_end : Parentheses → SqlExpr → Bool → Rule SqlCond
negatable_end g x negated = (key KwLike >> c.Like negated x <$> expr_rule g) or ((key KwBetween >> between_rest g negated x) or (key KwIn >> among_cond negated x <$> among_in g))

abbrev pub negatable_rest : Parentheses → SqlExpr → Rule SqlCond
negatable_rest g x = negation >>= negatable_end g x

abbrev pub predicate_rest : Parentheses → SqlExpr → Rule SqlCond
predicate_rest g x = (One comparison_of >>= (λ op. c.Compare op x <$> expr_rule g)) or ((key KwIs >> null_rest x) or negatable_rest g x)

-- ---- NOT, or without it

-- [ NOT ] and what follows
pub negation_parts : {A : Type 0} {S : Bool → List Lexeme → A → Type 0} (w : List Lexeme) (a : A) → Then negation S w a → Either (Then (key KwNot) (λ u. S true)) (S false) w a
negation_parts w a t = maybe_then w a (then_map (λ w a t. t) (λ o w a t. empty_then (is_some o) w a t) w a (then_assoc w a t))

pub negation_back : {A : Type 0} {S : Bool → List Lexeme → A → Type 0} (w : List Lexeme) (a : A) → Either (Then (key KwNot) (λ u. S true)) (S false) w a → Then negation S w a
negation_back w a t = then_assoc_back w a (then_map (λ w a t. t) (λ o w a t. empty_then_back (is_some o) w a t) w a (maybe_then_back w a t))

-- not NOT
abbrev pub is_not_written : Option Lexeme → Bool
is_not_written o = is_some (meaning_of (is_key KwNot) o)

pub negation_law : {n : ℕ} → Lawful n negation negation (eat (is_key KwNot)) (eat (is_key KwNot)) (after always is_not_written)
unfolding same_keyword
negation_law = eat_law {A = Unit {0}} (is_key KwNot) refl refl

-- a text that begins with another lexeme follows NOT
pub no_not : (test : Option Lexeme → Bool) → test (Some (Key KwNot)) ≡ false → (o : Option Lexeme) → test o ≡ true → after always is_not_written o ≡ true
no_not test fails o h = ap (λ m. not (is_some m)) (no_key KwNot test fails o h)

-- ---- IS [ NOT ] NULL

abbrev pub starts_null : Option Lexeme → Bool
starts_null (Some (Key KwNull)) = true
starts_null o = false

null_test_from_law : {n : ℕ} (k k' : Nested) (x : SqlExpr) → Lawful n (null_rest x) (null_rest x) (null_test_from k x) (null_test_from k' x) ends_expr
unfolding null_test_from
null_test_from_law k k' x = then_law negation_law (λ negated. then_always (key_law KwNull) (λ u. pure_until (c.IsNull negated x)))
    (λ a b v rest t h. no_not starts_null refl (next (v ++ rest)) (key_seen KwNull starts_null refl (next (v ++ rest)) (one_first v b rest t)))

-- ---- BETWEEN

ends_and : (o : Option Lexeme) → is_some (meaning_of (is_key KwAnd) o) ≡ true → ends_expr o ≡ true
ends_and o h = key_seen KwAnd ends_expr refl o h

between_from_law : {n : ℕ} {g g' : Parentheses} {k k' : Nested} → LevelLaw n g g' k k' → (negated : Bool) (x : SqlExpr)
    → Lawful n (between_rest g negated x) (between_rest g' negated x) (between_from k negated x) (between_from k' negated x) ends_expr
unfolding between_from
between_from_law level negated x = then_law (expr_law level) (λ low. then_always (key_law KwAnd) (λ u. made_law (c.Between negated x low) (expr_law level)))
    (λ a b v rest t h. ends_and (next (v ++ rest)) (one_first v b rest t))

-- ---- LIKE, BETWEEN and IN

abbrev pub starts_end : Option Lexeme → Bool
starts_end (Some (Key KwLike)) = true
starts_end (Some (Key KwBetween)) = true
starts_end (Some (Key KwIn)) = true
starts_end o = false

end_first : (g : Parentheses) (x : SqlExpr) (negated : Bool) (w : List Lexeme) (y : SqlCond) (rest : List Lexeme) → negatable_end g x negated w y → starts_end (next (w ++ rest)) ≡ true
end_first g x negated w y rest (first t) = key_seen KwLike starts_end refl (next (w ++ rest)) (one_first w y rest t)
end_first g x negated w y rest (second (first t)) = key_seen KwBetween starts_end refl (next (w ++ rest)) (one_first w y rest t)
end_first g x negated w y rest (second (second t)) = key_seen KwIn starts_end refl (next (w ++ rest)) (one_first w y rest t)

like_law : {n : ℕ} {g g' : Parentheses} {k k' : Nested} → LevelLaw n g g' k k' → (x : SqlExpr) (negated : Bool)
    → Lawful n (key KwLike >> c.Like negated x <$> expr_rule g) (key KwLike >> c.Like negated x <$> expr_rule g')
    (λ ts. and_then (take (is_key KwLike) ts) (λ u ts. and_then (expr k ts) (λ y ts. read (c.Like negated x y) ts)))
    (λ ts. and_then (take (is_key KwLike) ts) (λ u ts. and_then (expr k' ts) (λ y ts. read (c.Like negated x y) ts))) ends_expr
like_law level x negated = then_always (key_law KwLike) (λ u. made_law (c.Like negated x) (expr_law level))

between_law : {n : ℕ} {g g' : Parentheses} {k k' : Nested} → LevelLaw n g g' k k' → (x : SqlExpr) (negated : Bool)
    → Lawful n (key KwBetween >> between_rest g negated x) (key KwBetween >> between_rest g' negated x)
    (λ ts. and_then (take (is_key KwBetween) ts) (λ u. between_from k negated x)) (λ ts. and_then (take (is_key KwBetween) ts) (λ u. between_from k' negated x)) ends_expr
between_law level x negated = then_always (key_law KwBetween) (λ u. between_from_law level negated x)

in_law : {n : ℕ} {g g' : Parentheses} {k k' : Nested} → LevelLaw n g g' k k' → (x : SqlExpr) (negated : Bool)
    → Lawful n (key KwIn >> among_cond negated x <$> among_in g) (key KwIn >> among_cond negated x <$> among_in g')
    (λ ts. and_then (take (is_key KwIn) ts) (λ u ts. and_then (k.among ts) (λ a ts. read (among_cond negated x a) ts)))
    (λ ts. and_then (take (is_key KwIn) ts) (λ u ts. and_then (k'.among ts) (λ a ts. read (among_cond negated x a) ts))) ends_expr
in_law level x negated = then_always (key_law KwIn) (λ u. made_law (among_cond negated x) (narrower_law level.amongs (λ o h. refl)))

-- a text that this keyword begins
end_at : (k : Keyword) (w : List Lexeme) (y : SqlCond) (rest : List Lexeme) {S : Unit {0} → Rule SqlCond} (j : Keyword) → is_key j (Key k) ≡ None
    → next (w ++ rest) ≡ Some (Key k) → {A : Type 0} → Then (key j) S w y → A
end_at k w y rest j apart at t = some_not_none (is_key j) (Some (Key k)) apart (sym (ap (λ o. is_some (meaning_of (is_key j) o)) at) ∙ one_first w y rest t)

negatable_end_at : {n : ℕ} {g g' : Parentheses} {k k' : Nested} → LevelLaw n g g' k k' → (x : SqlExpr) (negated : Bool) (o : Option Lexeme)
    → LawfulAt o n (negatable_end g x negated) (negatable_end g' x negated) (negatable_by k negated x o) (negatable_by k' negated x o) ends_expr
unfolding same_keyword
negatable_end_at {n} {g} {g'} {k} {k'} level x negated (Some (Key KwLike)) =
    at_by_law (Some (Key KwLike)) (like_law level x negated) (λ w y t. first t) (λ w y t. first t) into
    (λ ts at. sym (seen (is_key KwLike) tt (λ u ts. and_then (expr k ts) (λ y ts. read (c.Like negated x y) ts)) ts (ap (meaning_of (is_key KwLike)) at ∙ key_at KwLike)))
    (λ ts at. sym (seen (is_key KwLike) tt (λ u ts. and_then (expr k' ts) (λ y ts. read (c.Like negated x y) ts)) ts (ap (meaning_of (is_key KwLike)) at ∙ key_at KwLike)))
  where
    into : (w : List Lexeme) (y : SqlCond) (rest : List Lexeme) → next (w ++ rest) ≡ Some (Key KwLike) → negatable_end g x negated w y → ends_expr (next rest) ≡ true
        → (key KwLike >> c.Like negated x <$> expr_rule g) w y
    into w y rest at (first t) h = t
    into w y rest at (second (first t)) h = end_at KwLike w y rest KwBetween refl at t
    into w y rest at (second (second t)) h = end_at KwLike w y rest KwIn refl at t
negatable_end_at {n} {g} {g'} {k} {k'} level x negated (Some (Key KwBetween)) =
    at_by_law (Some (Key KwBetween)) (between_law level x negated) (λ w y t. second (first t)) (λ w y t. second (first t)) into
    (λ ts at. sym (seen (is_key KwBetween) tt (λ u. between_from k negated x) ts (ap (meaning_of (is_key KwBetween)) at ∙ key_at KwBetween)))
    (λ ts at. sym (seen (is_key KwBetween) tt (λ u. between_from k' negated x) ts (ap (meaning_of (is_key KwBetween)) at ∙ key_at KwBetween)))
  where
    into : (w : List Lexeme) (y : SqlCond) (rest : List Lexeme) → next (w ++ rest) ≡ Some (Key KwBetween) → negatable_end g x negated w y → ends_expr (next rest) ≡ true
        → (key KwBetween >> between_rest g negated x) w y
    into w y rest at (first t) h = end_at KwBetween w y rest KwLike refl at t
    into w y rest at (second (first t)) h = t
    into w y rest at (second (second t)) h = end_at KwBetween w y rest KwIn refl at t
negatable_end_at {n} {g} {g'} {k} {k'} level x negated (Some (Key KwIn)) =
    at_by_law (Some (Key KwIn)) (in_law level x negated) (λ w y t. second (second t)) (λ w y t. second (second t)) into
    (λ ts at. sym (seen (is_key KwIn) tt (λ u ts. and_then (k.among ts) (λ a ts. read (among_cond negated x a) ts)) ts (ap (meaning_of (is_key KwIn)) at ∙ key_at KwIn)))
    (λ ts at. sym (seen (is_key KwIn) tt (λ u ts. and_then (k'.among ts) (λ a ts. read (among_cond negated x a) ts)) ts (ap (meaning_of (is_key KwIn)) at ∙ key_at KwIn)))
  where
    into : (w : List Lexeme) (y : SqlCond) (rest : List Lexeme) → next (w ++ rest) ≡ Some (Key KwIn) → negatable_end g x negated w y → ends_expr (next rest) ≡ true
        → (key KwIn >> among_cond negated x <$> among_in g) w y
    into w y rest at (first t) h = end_at KwIn w y rest KwLike refl at t
    into w y rest at (second (first t)) h = end_at KwIn w y rest KwBetween refl at t
    into w y rest at (second (second t)) h = t
negatable_end_at {g = g} {g' = g'} level x negated o = refused_law o
    (record { text = (like_law level x negated).some.text; means = (like_law level x negated).some.means; spells = first (like_law level x negated).some.spells })
    (λ w y rest at t h. false_not_true (sym (ap starts_end at) ∙ end_first g x negated w y rest t))

negatable_end_law : {n : ℕ} {g g' : Parentheses} {k k' : Nested} → LevelLaw n g g' k k' → (x : SqlExpr) (negated : Bool)
    → Lawful n (negatable_end g x negated) (negatable_end g' x negated) (λ ts. negatable_by k negated x (next ts) ts) (λ ts. negatable_by k' negated x (next ts) ts) ends_expr
negatable_end_law {n} {g} {g'} {k} {k'} level x negated = next_law {f = negatable_by k negated x} {g = negatable_by k' negated x} (negatable_end_at level x negated)
    (either_map (like_law level x negated).wider (either_map (between_law level x negated).wider (in_law level x negated).wider))
    balanced
    (record { text = (like_law level x negated).some.text; means = (like_law level x negated).some.means; spells = first (like_law level x negated).some.spells })
  where
    balanced : (w : List Lexeme) (y : SqlCond) → negatable_end g x negated w y → Balanced n w
    balanced w y (first t) = (like_law level x negated).balanced w y t
    balanced w y (second (first t)) = (between_law level x negated).balanced w y t
    balanced w y (second (second t)) = (in_law level x negated).balanced w y t

-- [ NOT ] LIKE, BETWEEN or IN
abbrev pub starts_negatable : Option Lexeme → Bool
starts_negatable (Some (Key KwNot)) = true
starts_negatable o = starts_end o

end_starts : (o : Option Lexeme) → starts_end o ≡ true → starts_negatable o ≡ true
end_starts (Some (Key KwNot)) h = refl
end_starts (Some (Key k)) h = h
end_starts o h = h

negatable_first : (g : Parentheses) (x : SqlExpr) (w : List Lexeme) (y : SqlCond) (rest : List Lexeme) → negatable_rest g x w y → starts_negatable (next (w ++ rest)) ≡ true
negatable_first g x w y rest t = go (negation_parts w y t)
  where
    go : Either (Then (key KwNot) (λ u. negatable_end g x true)) (negatable_end g x false) w y → starts_negatable (next (w ++ rest)) ≡ true
    go (first t) = key_seen KwNot starts_negatable refl (next (w ++ rest)) (one_first w y rest t)
    go (second t) = end_starts (next (w ++ rest)) (end_first g x false w y rest t)

negatable_from_law : {n : ℕ} {g g' : Parentheses} {k k' : Nested} → LevelLaw n g g' k k' → (x : SqlExpr)
    → Lawful n (negatable_rest g x) (negatable_rest g' x) (negatable_from k x) (negatable_from k' x) ends_expr
unfolding negatable_from
negatable_from_law {g = g} level x = then_law negation_law (negatable_end_law level x)
    (λ negated y v rest t h. no_not starts_end refl (next (v ++ rest)) (end_first g x negated v y rest t))

-- ---- predicates

-- IS, or [ NOT ] LIKE, BETWEEN or IN
abbrev pub starts_worded : Option Lexeme → Bool
starts_worded (Some (Key KwIs)) = true
starts_worded o = starts_negatable o

negatable_starts : (o : Option Lexeme) → starts_negatable o ≡ true → starts_worded o ≡ true
negatable_starts (Some (Key KwIs)) h = refl
negatable_starts (Some (Key k)) h = h
negatable_starts o h = h

abbrev pub worded_rest : Parentheses → SqlExpr → Rule SqlCond
worded_rest g x = (key KwIs >> null_rest x) or negatable_rest g x

worded_first : (g : Parentheses) (x : SqlExpr) (w : List Lexeme) (y : SqlCond) (rest : List Lexeme) → worded_rest g x w y → starts_worded (next (w ++ rest)) ≡ true
worded_first g x w y rest (first t) = key_seen KwIs starts_worded refl (next (w ++ rest)) (one_first w y rest t)
worded_first g x w y rest (second t) = negatable_starts (next (w ++ rest)) (negatable_first g x w y rest t)

worded_law : {n : ℕ} {g g' : Parentheses} {k k' : Nested} → LevelLaw n g g' k k' → (x : SqlExpr)
    → Lawful n (worded_rest g x) (worded_rest g' x) (predicate_by k x None) (predicate_by k' x None) ends_expr
unfolding same_keyword
worded_law {g = g} {k = k} {k' = k'} level x = branch_law (is_key KwIs) refl refl (null_test_or k x) (null_test_or k' x) (null_test_from_law k k' x) (negatable_from_law level x)
    (λ w y rest t h. ap is_some (no_key KwIs starts_negatable refl (next (w ++ rest)) (negatable_first g x w y rest t)))

no_comparison : (o : Option Lexeme) → starts_worded o ≡ true → meaning_of comparison_of o ≡ None
no_comparison (Some (Key k)) h = refl
no_comparison (Some (Sign s)) h = false_not_true h
no_comparison o h = refl

pub predicate_from_law : {n : ℕ} {g g' : Parentheses} {k k' : Nested} → LevelLaw n g g' k k' → (x : SqlExpr)
    → Lawful n (predicate_rest g x) (predicate_rest g' x) (predicate_from k x) (predicate_from k' x) ends_expr
unfolding predicate_from
predicate_from_law {g = g} {k = k} {k' = k'} level x = choice_law comparison_of (Sign Equal) Eq refl refl refl (predicate_by k x) (predicate_by k' x)
    (λ op. made_law (c.Compare op x) (expr_law level)) (worded_law level x)
    (λ w y rest t h. no_comparison (next (w ++ rest)) (worded_first g x w y rest t))

-- whether a value expression goes on to a predicate at this lexeme
abbrev pub goes : Option Lexeme → Bool
goes o = is_some (meaning_of comparison_of o) || is_some (meaning_of (is_key KwNot) o) || is_some (meaning_of (is_key KwIs) o) || is_some (meaning_of (is_key KwLike) o)
    || is_some (meaning_of (is_key KwBetween) o) || is_some (meaning_of (is_key KwIn) o)

comparison_goes : (o : Option Lexeme) → is_some (meaning_of comparison_of o) ≡ true → goes o ≡ true
comparison_goes o h = ap (λ b. b || is_some (meaning_of (is_key KwNot) o) || is_some (meaning_of (is_key KwIs) o) || is_some (meaning_of (is_key KwLike) o)
    || is_some (meaning_of (is_key KwBetween) o) || is_some (meaning_of (is_key KwIn) o)) h

worded_goes : (o : Option Lexeme) → starts_worded o ≡ true → goes o ≡ true
unfolding same_keyword
worded_goes (Some (Key KwIs)) h = refl
worded_goes (Some (Key KwNot)) h = refl
worded_goes (Some (Key KwLike)) h = refl
worded_goes (Some (Key KwBetween)) h = refl
worded_goes (Some (Key KwIn)) h = refl
worded_goes (Some (Key k)) h = false_not_true h
worded_goes o h = false_not_true h

pub predicate_first : (g : Parentheses) (x : SqlExpr) (w : List Lexeme) (y : SqlCond) (rest : List Lexeme) → predicate_rest g x w y → goes (next (w ++ rest)) ≡ true
predicate_first g x w y rest (first t) = comparison_goes (next (w ++ rest)) (one_first w y rest t)
predicate_first g x w y rest (second t) = worded_goes (next (w ++ rest)) (worded_first g x w y rest t)

pub goes_ends : (o : Option Lexeme) → goes o ≡ true → ends_expr o ≡ true
goes_ends (Some (Sign Dot)) h = h
goes_ends (Some (Sign Star)) h = h
goes_ends (Some (Sign Slash)) h = h
goes_ends (Some (Sign Percent)) h = h
goes_ends (Some (Sign Plus)) h = h
goes_ends (Some (Sign Minus)) h = h
goes_ends (Some (Sign s)) h = refl
goes_ends o h = refl

-- ---- what begins a condition

-- after a condition or an expression in parentheses
abbrev pub after_rule : Parentheses → Operand → Rule Operand
after_rule g (operand_is.Cond x) = pure (operand_is.Cond (c.Paren x))
after_rule g (operand_is.Expr x) = operand_is.Expr <$> expr_rest g (ParenExpr x)

-- a whole condition (EXISTS, or one in parentheses), or the expression that begins a predicate
abbrev pub started_rule : Parentheses → Rule Operand
started_rule g = (operand_is.Expr <$> expr_rule g)
    or ((key KwExists >> (λ q. operand_is.Cond (c.Exists q)) <$> Enclosed g.query) or ((λ x. operand_is.Cond (c.Paren x)) <$> Enclosed g.cond))

after_law : {n : ℕ} {g g' : Parentheses} {k k' : Nested} → LevelLaw n g g' k k' → (o : Operand)
    → Lawful n (after_rule g o) (after_rule g' o) (after_parentheses k o) (after_parentheses k' o) ends_expr
after_law level (operand_is.Cond x) = pure_until (operand_is.Cond (c.Paren x))
after_law level (operand_is.Expr x) = made_law operand_is.Expr (expr_from_law level (ParenExpr x))

-- what begins a condition where this lexeme comes next
abbrev pub started_at : Parentheses → Option Lexeme → Rule Operand
started_at g (Some (Key KwExists)) = key KwExists >> (λ q. operand_is.Cond (c.Exists q)) <$> Enclosed g.query
started_at g (Some (Sign ParenOpen)) = operand_in g >>= after_rule g
started_at g o = operand_is.Expr <$> expr_rule g

abbrev pub started_reader : Nested → Option Lexeme → List Lexeme → Outcome Operand
started_reader k (Some (Key KwExists)) = λ ts. and_then (take (is_key KwExists) ts) (λ u ts. and_then (k.query ts) (λ q ts. read (operand_is.Cond (c.Exists q)) ts))
started_reader k (Some (Sign ParenOpen)) = λ ts. and_then (k.operand ts) (after_parentheses k)
started_reader k o = λ ts. and_then (expr k ts) (λ x ts. read (operand_is.Expr x) ts)

-- an expression in parentheses, and what follows it
parentheses_of_expr : (g : Parentheses) (w : List Lexeme) (x : SqlExpr) (rest : List Lexeme) → next (w ++ rest) ≡ Some (Sign ParenOpen) → expr_rule g w x
    → Then (Enclosed g.expr) (λ x. expr_rest g (ParenExpr x)) w x
parentheses_of_expr g w x rest at t = go (value_of_expr g w x rest t (ap (meaning_of minus_of) at))
  where
    here : (u : List Lexeme) (y : SqlExpr) (rest : List Lexeme) → next (u ++ rest) ≡ Some (Sign ParenOpen) → value_rule g u y → (ParenExpr <$> Enclosed g.expr) u y
    here u y rest at t = let P : Option Lexeme → Type 0 = λ o. value_at g o u y in subst P at (value_into g u y rest t)

    found : (w : List Lexeme) → next (w ++ rest) ≡ Some (Sign ParenOpen) → Then (value_rule g) (expr_rest g) w x → Then (ParenExpr <$> Enclosed g.expr) (expr_rest g) w x
    found w at (both {a = y} u v t s) = both u v (here u y (v ++ rest) (sym (next_append u v rest) ∙ at) t) s

    go : Then (value_rule g) (expr_rest g) w x → Then (Enclosed g.expr) (λ x. expr_rest g (ParenExpr x)) w x
    go t = then_map (λ w a t. t) (λ y w a t. empty_then (ParenExpr y) w a t) w x (then_assoc w x (found w at t))

expr_of_parentheses : (g : Parentheses) (w : List Lexeme) (x : SqlExpr) → Then (Enclosed g.expr) (λ x. expr_rest g (ParenExpr x)) w x → expr_rule g w x
expr_of_parentheses g w x t = expr_of_value g w x (then_map (λ w y t. value_back g (Some (Sign ParenOpen)) w y t) (λ y w a t. t) w x
    (then_assoc_back w x (then_map (λ w a t. t) (λ y w a t. empty_then_back (ParenExpr y) w a t) w x t)))

-- an expression that a parenthesis begins, read through what that holds
parentheses_into : (g : Parentheses) (w : List Lexeme) (y : Operand) (rest : List Lexeme) → next (w ++ rest) ≡ Some (Sign ParenOpen) → (operand_is.Expr <$> expr_rule g) w y
    → (operand_in g >>= after_rule g) w y
parentheses_into g w y rest at t = either_then_back w y (second (then_assoc_back w y (then_map (λ w a t. t) (λ x w y t. empty_then_back (operand_is.Expr x) w y t) w y (then_assoc w y (begun w y at t)))))
  where
    begun : (w : List Lexeme) (y : Operand) → next (w ++ rest) ≡ Some (Sign ParenOpen) → (operand_is.Expr <$> expr_rule g) w y
        → Then (Then (Enclosed g.expr) (λ x. expr_rest g (ParenExpr x))) (λ x. Empty (operand_is.Expr x)) w y
    begun w y at (both {a = x} u v t s) = both u v (parentheses_of_expr g u x (v ++ rest) (sym (next_append u v rest) ∙ at) t) s

cond_into : (g : Parentheses) (w : List Lexeme) (y : Operand) → ((λ x. operand_is.Cond (c.Paren x)) <$> Enclosed g.cond) w y → (operand_in g >>= after_rule g) w y
cond_into g w y t = either_then_back w y (first (then_assoc_back w y (then_map (λ w a t. t) (λ x w y t. empty_then_back (operand_is.Cond x) w y t) w y t)))

parentheses_back : (g : Parentheses) (w : List Lexeme) (y : Operand) → (operand_in g >>= after_rule g) w y → started_rule g w y
parentheses_back g w y t = go (either_then w y t)
  where
    go : Either (Then (operand_is.Cond <$> Enclosed g.cond) (after_rule g)) (Then (operand_is.Expr <$> Enclosed g.expr) (after_rule g)) w y → started_rule g w y
    go (first t) = second (second (then_map (λ w a t. t) (λ x w y t. empty_then (operand_is.Cond x) w y t) w y (then_assoc w y t)))
    go (second t) = first (then_map (λ w x t. expr_of_parentheses g w x t) (λ x w y t. t) w y
        (then_assoc_back w y (then_map (λ w a t. t) (λ x w y t. empty_then (operand_is.Expr x) w y t) w y (then_assoc w y t))))

expr_at : (g : Parentheses) (o : Option Lexeme) (w : List Lexeme) (y : Operand) (rest : List Lexeme) → next (w ++ rest) ≡ o → starts_expr o ≡ true
    → (operand_is.Expr <$> expr_rule g) w y → started_at g o w y
expr_at g (Some (Key KwExists)) w y rest at h t = false_not_true h
expr_at g (Some (Sign ParenOpen)) w y rest at h t = parentheses_into g w y rest at t
expr_at g (Some (Key k)) w y rest at h t = t
expr_at g (Some (Sign s)) w y rest at h t = t
expr_at g o w y rest at h t = t

pub made_first : {A : Type 0} {f : SqlExpr → A} (g : Parentheses) (w : List Lexeme) (y : A) (rest : List Lexeme) → Then (expr_rule g) (λ x. Empty (f x)) w y → starts_expr (next (w ++ rest)) ≡ true
made_first g w y rest (both {a = x} u v t s) = ap starts_expr (next_append u v rest) ∙ expr_first g u x (v ++ rest) t

exists_next : (w : List Lexeme) (rest : List Lexeme) → is_some (meaning_of (is_key KwExists) (next (w ++ rest))) ≡ true → next (w ++ rest) ≡ Some (Key KwExists)
exists_next w rest h = go (next (w ++ rest)) h
  where
    some : (l : Lexeme) (m : Option (Unit {0})) → is_key KwExists l ≡ m → is_some (is_key KwExists l) ≡ true → Some l ≡ Some (Key KwExists)
    some l None e h = false_not_true (sym (ap is_some e) ∙ h)
    some l (Some u) e h = ap Some (key_is KwExists l u e)

    go : (o : Option Lexeme) → is_some (meaning_of (is_key KwExists) o) ≡ true → o ≡ Some (Key KwExists)
    go None h = false_not_true h
    go (Some l) h = some l (is_key KwExists l) refl h

started_into : (g : Parentheses) (w : List Lexeme) (y : Operand) (rest : List Lexeme) → started_rule g w y → started_at g (next (w ++ rest)) w y
started_into g w y rest (first t) = expr_at g (next (w ++ rest)) w y rest refl (made_first g w y rest t) t
started_into g w y rest (second (first t)) = let P : Option Lexeme → Type 0 = λ o. started_at g o w y in subst P (sym (exists_next w rest (one_first w y rest t))) t
started_into g w y rest (second (second t)) = let P : Option Lexeme → Type 0 = λ o. started_at g o w y in subst P (sym (then_parentheses_first w y rest t)) (cond_into g w y t)

started_here : (g : Parentheses) (o : Option Lexeme) (w : List Lexeme) (y : Operand) (rest : List Lexeme) → next (w ++ rest) ≡ o → started_rule g w y → started_at g o w y
started_here g o w y rest at t = let P : Option Lexeme → Type 0 = λ o. started_at g o w y in subst P at (started_into g w y rest t)

started_back : (g : Parentheses) (o : Option Lexeme) (w : List Lexeme) (y : Operand) → started_at g o w y → started_rule g w y
started_back g (Some (Key KwExists)) w y t = second (first t)
started_back g (Some (Sign ParenOpen)) w y t = parentheses_back g w y t
started_back g (Some (Key k)) w y t = first t
started_back g (Some (Sign s)) w y t = first t
started_back g o w y t = first t

started_read : (k : Nested) (o : Option Lexeme) (ts : List Lexeme) → next ts ≡ o → started_by k o ts ≡ started_reader k o ts
started_read k (Some (Key KwExists)) ts at = sym (seen (is_key KwExists) tt (λ u ts. and_then (k.query ts) (λ q ts. read (operand_is.Cond (c.Exists q)) ts)) ts (ap (meaning_of (is_key KwExists)) at ∙ key_at KwExists))
started_read k (Some (Sign ParenOpen)) ts at = refl
started_read k (Some (Key j)) ts at = refl
started_read k (Some (Sign s)) ts at = refl
started_read k o ts at = refl

started_reader_law : {n : ℕ} {g g' : Parentheses} {k k' : Nested} → LevelLaw n g g' k k' → (o : Option Lexeme)
    → Lawful n (started_at g o) (started_at g' o) (started_reader k o) (started_reader k' o) ends_expr
started_reader_law level (Some (Key KwExists)) = then_always (key_law KwExists) (λ u. made_law (λ q. operand_is.Cond (c.Exists q)) (narrower_law level.query (λ o h. refl)))
started_reader_law level (Some (Sign ParenOpen)) = then_always level.operands (after_law level)
started_reader_law level (Some (Key j)) = made_law operand_is.Expr (expr_law level)
started_reader_law level (Some (Sign s)) = made_law operand_is.Expr (expr_law level)
started_reader_law level o = made_law operand_is.Expr (expr_law level)

pub started_law : {n : ℕ} {g g' : Parentheses} {k k' : Nested} → LevelLaw n g g' k k' → Lawful n (started_rule g) (started_rule g') (started k) (started k') ends_expr
unfolding started
started_law {n} {g} {g'} {k} {k'} level = next_law {f = started_by k} {g = started_by k'}
    (λ o. at_by_law o (started_reader_law level o) (started_back g o) (started_back g' o) (λ w y rest at t h. started_here g o w y rest at t) (started_read k o) (started_read k' o))
    (λ w y t. started_back g' (next (w ++ [])) w y ((started_reader_law level (next (w ++ []))).wider w y (started_into g w y [] t)))
    (λ w y t. (started_reader_law level (next (w ++ []))).balanced w y (started_into g w y [] t))
    (record { text = (started_reader_law level None).some.text; means = (started_reader_law level None).some.means; spells = first (started_reader_law level None).some.spells })

-- whether a condition may begin so, where no NOT stands before it
abbrev pub starts_condition : Option Lexeme → Bool
starts_condition (Some (Key KwExists)) = true
starts_condition o = starts_expr o

expr_starts : (o : Option Lexeme) → starts_expr o ≡ true → starts_condition o ≡ true
expr_starts (Some (Key KwExists)) h = refl
expr_starts (Some (Key k)) h = h
expr_starts o h = h

pub started_first : (g : Parentheses) (w : List Lexeme) (y : Operand) (rest : List Lexeme) → started_rule g w y → starts_condition (next (w ++ rest)) ≡ true
started_first g w y rest (first t) = expr_starts (next (w ++ rest)) (made_first g w y rest t)
started_first g w y rest (second (first t)) = key_seen KwExists starts_condition refl (next (w ++ rest)) (one_first w y rest t)
started_first g w y rest (second (second t)) = ap starts_condition (then_parentheses_first w y rest t)

-- ---- a predicate, or a condition in parentheses

abbrev pub completed_rule : Parentheses → Operand → Rule SqlCond
completed_rule g (operand_is.Cond x) = pure x
completed_rule g (operand_is.Expr x) = predicate_rest g x

completed_law : {n : ℕ} {g g' : Parentheses} {k k' : Nested} → LevelLaw n g g' k k' → (o : Operand)
    → Lawful n (completed_rule g o) (completed_rule g' o) (completed k o) (completed k' o) ends_expr
completed_law level (operand_is.Cond x) = pure_until x
completed_law level (operand_is.Expr x) = predicate_from_law level x

completed_follows : (g : Parentheses) (o : Operand) (y : SqlCond) (v rest : List Lexeme) → completed_rule g o v y → ends_expr (next rest) ≡ true → ends_expr (next (v ++ rest)) ≡ true
completed_follows g (operand_is.Cond x) y v rest t h = empty_follows ends_expr v rest t h
completed_follows g (operand_is.Expr x) y v rest t h = goes_ends (next (v ++ rest)) (predicate_first g x v y rest t)

-- a primary condition by what begins it
pub begun_condition_law : {n : ℕ} {g g' : Parentheses} {k k' : Nested} → LevelLaw n g g' k k'
    → Lawful n (started_rule g >>= completed_rule g) (started_rule g' >>= completed_rule g') (primary_condition k) (primary_condition k') ends_expr
unfolding primary_condition
begun_condition_law {g = g} level = then_law (started_law level) (completed_law level) (completed_follows g)

-- a predicate that an expression begins
expr_begun : {S : SqlExpr → Rule SqlCond} (g : Parentheses) → ((x : SqlExpr) (v : List Lexeme) (y : SqlCond) → S x v y → predicate_rest g x v y)
    → (w : List Lexeme) (y : SqlCond) → Then (expr_rule g) S w y → (started_rule g >>= completed_rule g) w y
expr_begun g into w y (both {a = x} u v t s) = both {a = operand_is.Expr x} u v (first (made operand_is.Expr u x t)) (into x v y s)

query_among : (g : Parentheses) (negated : Bool) (x : SqlExpr) (w : List Lexeme) (y : SqlCond) → (c.InQuery negated x <$> Enclosed g.query) w y → (among_cond negated x <$> among_in g) w y
query_among g negated x w y t = either_then_back w y (first (then_assoc_back w y (then_map (λ w a t. t) (λ q w y t. empty_then_back (among_is.Query q) w y t) w y t)))

list_among : (g : Parentheses) (negated : Bool) (x : SqlExpr) (w : List Lexeme) (y : SqlCond) → (c.InList negated x <$> Enclosed g.exprs) w y → (among_cond negated x <$> among_in g) w y
list_among g negated x w y t = either_then_back w y (second (then_assoc_back w y (then_map (λ w a t. t) (λ xs w y t. empty_then_back (among_is.Exprs xs) w y t) w y t)))

among_parts : (g : Parentheses) (negated : Bool) (x : SqlExpr) (w : List Lexeme) (y : SqlCond) → (among_cond negated x <$> among_in g) w y
    → Either (c.InQuery negated x <$> Enclosed g.query) (c.InList negated x <$> Enclosed g.exprs) w y
among_parts g negated x w y t = either_map
    (λ w y t. then_map (λ w a t. t) (λ q w y t. empty_then (among_is.Query q) w y t) w y (then_assoc w y t))
    (λ w y t. then_map (λ w a t. t) (λ xs w y t. empty_then (among_is.Exprs xs) w y t) w y (then_assoc w y t)) w y (either_then w y t)

predicate_begun : (g : Parentheses) (w : List Lexeme) (y : SqlCond) → rule.predicate g w y → (started_rule g >>= completed_rule g) w y
unfolding rule.predicate rule.comparison rule.like rule.null_test rule.between rule.in_query rule.in_list rule.exists
predicate_begun g w y (first t) = expr_begun g (λ x v y s. first s) w y t
predicate_begun g w y (second (first t)) = expr_begun g (λ x v y s. second (second (then_map (λ w a t. t) (λ n v y s. first s) v y s))) w y t
predicate_begun g w y (second (second (first t))) = expr_begun g (λ x v y s. second (first s)) w y t
predicate_begun g w y (second (second (second (first t)))) = expr_begun g (λ x v y s. second (second (then_map (λ w a t. t) (λ n v y s. second (first s)) v y s))) w y t
predicate_begun g w y (second (second (second (second (first t))))) =
    expr_begun g (λ x v y s. second (second (then_map (λ w a t. t) (λ n v y s. second (second (then_map (λ w a t. t) (λ u v y s. query_among g n x v y s) v y s))) v y s))) w y t
predicate_begun g w y (second (second (second (second (second (first t)))))) =
    expr_begun g (λ x v y s. second (second (then_map (λ w a t. t) (λ n v y s. second (second (then_map (λ w a t. t) (λ u v y s. list_among g n x v y s) v y s))) v y s))) w y t
predicate_begun g w y (second (second (second (second (second (second t)))))) = either_then_back w y (second (either_then_back w y (first
    (then_assoc_back w y (then_map (λ w a t. t) (λ u w y t. then_assoc_back w y (then_map (λ w a t. t) (λ q w y t. empty_then_back (operand_is.Cond (c.Exists q)) w y t) w y t)) w y t)))))

pub condition_begun : (g : Parentheses) (w : List Lexeme) (y : SqlCond) → rule.primary_condition g w y → (started_rule g >>= completed_rule g) w y
unfolding rule.primary_condition
condition_begun g w y (first t) = predicate_begun g w y t
condition_begun g w y (second t) = either_then_back w y (second (either_then_back w y (second
    (then_assoc_back w y (then_map (λ w a t. t) (λ x w y t. empty_then_back (operand_is.Cond (c.Paren x)) w y t) w y t)))))

-- [ NOT ] IN ( query ), or [ NOT ] IN ( expr { , expr } )
in_parts : (g : Parentheses) (w : List Lexeme) (y : SqlCond) → Then (expr_rule g) (λ x. Then negation (λ n. key KwIn >> among_cond n x <$> among_in g)) w y
    → Either (rule.in_query g) (rule.in_list g) w y
unfolding rule.in_query rule.in_list
in_parts g w y t = then_either w y (then_map (λ w a t. t) (λ x w y t. then_either w y (then_map (λ w a t. t) (λ n w y t. then_either w y (then_map (λ w a t. t) (λ u w y t. among_parts g n x w y t) w y t)) w y t)) w y t)

negatable_parts : (g : Parentheses) (w : List Lexeme) (y : SqlCond) → Then (expr_rule g) (negatable_rest g) w y
    → Either (rule.like g) (Either (rule.between g) (Either (rule.in_query g) (rule.in_list g))) w y
unfolding rule.like rule.between
negatable_parts g w y t = either_map (λ w y t. t)
    (λ w y t. either_map (λ w y t. t) (in_parts g) w y (then_either w y (then_map (λ w a t. t) (λ x w y t. then_either w y t) w y t)))
    w y (then_either w y (then_map (λ w a t. t) (λ x w y t. then_either w y t) w y t))

predicate_parts : (g : Parentheses) (w : List Lexeme) (y : SqlCond) → Then (expr_rule g) (predicate_rest g) w y
    → Either (rule.comparison g) (Either (rule.null_test g) (Then (expr_rule g) (negatable_rest g))) w y
unfolding rule.comparison rule.null_test
predicate_parts g w y t = either_map (λ w y t. t) (λ w y t. then_either w y t) w y (then_either w y t)

predicate_made : (g : Parentheses) (w : List Lexeme) (y : SqlCond) → Then (expr_rule g) (predicate_rest g) w y → rule.predicate g w y
unfolding rule.predicate
predicate_made g w y t = go (predicate_parts g w y t)
  where
    further : Either (rule.like g) (Either (rule.between g) (Either (rule.in_query g) (rule.in_list g))) w y → rule.predicate g w y
    further (first t) = second (first t)
    further (second (first t)) = second (second (second (first t)))
    further (second (second (first t))) = second (second (second (second (first t))))
    further (second (second (second t))) = second (second (second (second (second (first t)))))

    go : Either (rule.comparison g) (Either (rule.null_test g) (Then (expr_rule g) (negatable_rest g))) w y → rule.predicate g w y
    go (first t) = first t
    go (second (first t)) = second (second (first t))
    go (second (second t)) = further (negatable_parts g w y t)

exists_made : (g : Parentheses) (w : List Lexeme) (y : SqlCond) → Then (key KwExists >> (λ q. operand_is.Cond (c.Exists q)) <$> Enclosed g.query) (completed_rule g) w y → rule.exists g w y
unfolding rule.exists
exists_made g w y t = then_map (λ w a t. t) (λ u w y t. then_map (λ w a t. t) (λ q w y t. empty_then (operand_is.Cond (c.Exists q)) w y t) w y (then_assoc w y t)) w y (then_assoc w y t)

exists_predicate : (g : Parentheses) (w : List Lexeme) (y : SqlCond) → rule.exists g w y → rule.predicate g w y
unfolding rule.predicate
exists_predicate g w y t = second (second (second (second (second (second t)))))

pub begun_condition : (g : Parentheses) (w : List Lexeme) (y : SqlCond) → (started_rule g >>= completed_rule g) w y → rule.primary_condition g w y
unfolding rule.primary_condition
begun_condition g w y t = go (either_then w y t)
  where
    whole : Either (Then (key KwExists >> (λ q. operand_is.Cond (c.Exists q)) <$> Enclosed g.query) (completed_rule g))
        (Then ((λ x. operand_is.Cond (c.Paren x)) <$> Enclosed g.cond) (completed_rule g)) w y → rule.primary_condition g w y
    whole (first t) = first (exists_predicate g w y (exists_made g w y t))
    whole (second t) = second (then_map (λ w a t. t) (λ x w y t. empty_then (operand_is.Cond (c.Paren x)) w y t) w y (then_assoc w y t))

    go : Either (Then (operand_is.Expr <$> expr_rule g) (completed_rule g))
        (Then (Either (key KwExists >> (λ q. operand_is.Cond (c.Exists q)) <$> Enclosed g.query) ((λ x. operand_is.Cond (c.Paren x)) <$> Enclosed g.cond)) (completed_rule g)) w y
        → rule.primary_condition g w y
    go (first t) = first (predicate_made g w y (then_map (λ w a t. t) (λ x w y t. empty_then (operand_is.Expr x) w y t) w y (then_assoc w y t)))
    go (second t) = whole (either_then w y t)

pub primary_condition_law : {n : ℕ} {g g' : Parentheses} {k k' : Nested} → LevelLaw n g g' k k'
    → Lawful n (rule.primary_condition g) (rule.primary_condition g') (primary_condition k) (primary_condition k') ends_expr
primary_condition_law {g = g} {g' = g'} level = same_law (condition_begun g) (begun_condition g) (begun_condition g') (begun_condition_law level)
