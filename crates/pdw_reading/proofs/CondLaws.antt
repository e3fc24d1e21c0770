-- Conditions are read by their rules.
use Rattle.std.proofs.Common.{◌≡◌, ℕ, Bool, true, false, List, ◌++◌, Option, Some, None, is_some, refl, sym, ◌∙◌, ap}
use Rattle.pdw_base.specs.declared.truth.Truth.{Truth}
use Rattle.pdw_base.specs.declared.truth.Truth.TheVariants as truth
use Rattle.pdw_lex.specs.declared.keyword.Keyword.TheVariants.{KwAnd, KwExists, KwIs, KwNot, KwOr, KwTrue}
use Rattle.pdw_lex.specs.declared.sign.Sign.TheVariants.{ParenClose}
use Rattle.pdw_lex.specs.declared.token.Lexeme.{Lexeme}
use Rattle.pdw_lex.specs.declared.token.Lexeme.TheVariants.{Key, Sign}
use Rattle.pdw_syntax.specs.Rule.{Rule, ◌>>=◌, ◌>>◌, ◌<$>◌, ◌or◌, pure, Empty, empty, One, Then, both, Either, first, second, Maybe, Many, Enclosed}
use Rattle.pdw_syntax.specs.Lexemes.{is_key, key, same_keyword, truth_of}
use Rattle.pdw_syntax.specs.Parentheses.{Parentheses}
use Rattle.pdw_syntax.specs.Exprs.{expr as expr_rule}
use Rattle.pdw_syntax.specs.Conds as rule
use Rattle.pdw_syntax.specs.Conds.{negation, negated_by, tested, all_of, any_of}
use Rattle.pdw_syntax.specs.declared.expr.SqlExpr.{SqlExpr}
use Rattle.pdw_syntax.specs.declared.query.SqlCond.{SqlCond}
use Rattle.pdw_syntax.specs.declared.query.SqlCond.TheVariants as c
use Rattle.pdw_reading.specs.Reading.{and_then, next, meaning_of}
use Rattle.pdw_reading.specs.ReadExprs.{Nested}
use Rattle.pdw_reading.specs.ReadConds.{truth_test, test_from, factor, term_from, term, cond_from, cond, condition_from, goes_on, predicate_from, predicate_or, started, operand_from, operand_by, operand}
use Rattle.pdw_reading.specs.declared.content.Operand.{Operand}
use Rattle.pdw_reading.specs.declared.content.Operand.TheVariants as operand_is
use Rattle.pdw_reading.proofs.Law.{Balanced, Lawful, LawfulAt}
use Rattle.pdw_reading.proofs.Closure.{always, after, one_law, then_law, narrower_law}
use Rattle.pdw_reading.proofs.ClosureMany.{begun_law, maybe_law, many_law}
use Rattle.pdw_reading.proofs.ClosureNext.{same_law, next_law, by_test_law}
use Rattle.pdw_reading.proofs.Level.{LevelLaw}
use Rattle.pdw_reading.proofs.MoreClosure.{pure_until, empty_follows, made_law, at_by_law, one_first, next_append, some_not_none, none_not_some, false_not_true, no_key, key_seen, then_follows, then_begins, many_made_follows, maybe_follows, and_left, and_right}
use Rattle.pdw_reading.proofs.Rules.{then_map, either_map, then_assoc, then_assoc_back, empty_then, empty_then_back, then_empty, then_either, either_then, either_then_back, made}
use Rattle.pdw_reading.proofs.Stops.{ends_expr, ends_cond}
use Rattle.pdw_reading.proofs.ExprLaws.{starts_expr, expr_law, both_hold}
use Rattle.pdw_reading.proofs.PredicateLaws.{negation_parts, negation_back, negation_law, no_not, predicate_rest, predicate_from_law, predicate_first, goes, goes_ends, started_rule, started_law, completed_rule, primary_condition_law, condition_begun, begun_condition, started_first, starts_condition, made_first}

-- ---- IS [ NOT ] ( TRUE, FALSE or UNKNOWN )

-- after IS
abbrev pub truth_rest : Rule (Bool × Truth)
truth_rest = negation >>= (λ negated. (λ truth. (negated, truth)) <$> One truth_of)

abbrev pub test_rest : SqlCond → Rule SqlCond
test_rest x = tested x <$> Maybe rule.truth_test

abbrev is_truth : Option Lexeme → Bool
is_truth o = is_some (meaning_of truth_of o)

truth_test_law : {n : ℕ} → Lawful n truth_rest truth_rest truth_test truth_test always
unfolding truth_test
truth_test_law = then_law negation_law (λ negated. made_law (λ truth. (negated, truth)) (one_law truth_of (Key KwTrue) truth.True refl refl refl))
    (λ negated b v rest t h. no_not is_truth refl (next (v ++ rest)) (one_first v b rest t))

-- a condition with its test
abbrev pub ends_test : Option Lexeme → Bool
ends_test = after ends_expr (λ o. is_some (meaning_of (is_key KwIs) o))

test_from_law : {n : ℕ} (x : SqlCond) → Lawful n (test_rest x) (test_rest x) (test_from x) (test_from x) ends_test
unfolding test_from same_keyword
test_from_law x = made_law (tested x) (narrower_law (maybe_law (begun_law (is_key KwIs) refl refl (λ u. truth_test_law))) (λ o h. and_right (ends_expr o) _ h))

test_rest_follows : (x y : SqlCond) (v rest : List Lexeme) → test_rest x v y → ends_expr (next rest) ≡ true → ends_expr (next (v ++ rest)) ≡ true
test_rest_follows x y v rest t h = then_follows ends_expr (maybe_follows ends_expr (λ o. key_seen KwIs ends_expr refl o)) (λ a v b rest. empty_follows ends_expr v rest) v y rest t h

-- ---- [ NOT ] test

factor_into : (g : Parentheses) (w : List Lexeme) (y : SqlCond) → rule.factor g w y → Then negation (λ n. Then (rule.primary_condition g) (λ x. Then (test_rest x) (λ y. Empty (negated_by n y)))) w y
unfolding rule.factor rule.test
factor_into g w y t = then_map (λ w a t. t) (λ n w y t. then_assoc w y t) w y t

factor_back : (g : Parentheses) (w : List Lexeme) (y : SqlCond) → Then negation (λ n. Then (rule.primary_condition g) (λ x. Then (test_rest x) (λ y. Empty (negated_by n y)))) w y → rule.factor g w y
unfolding rule.factor rule.test
factor_back g w y t = then_map (λ w a t. t) (λ n w y t. then_assoc_back w y t) w y t

-- the first lexeme of a text that a primary condition begins
condition_first : {A : Type 0} {S : SqlCond → Rule A} (g : Parentheses) (w : List Lexeme) (a : A) (rest : List Lexeme) → Then (rule.primary_condition g) S w a → starts_condition (next (w ++ rest)) ≡ true
condition_first g w a rest (both {a = x} u v t s) = ap starts_condition (next_append u v rest) ∙ begun u x (v ++ rest) (condition_begun g u x t)
  where
    begun : (u : List Lexeme) (x : SqlCond) (rest : List Lexeme) → Then (started_rule g) (completed_rule g) u x → starts_condition (next (u ++ rest)) ≡ true
    begun u x rest (both {a = o} u' v' t s) = ap starts_condition (next_append u' v' rest) ∙ started_first g u' o (v' ++ rest) t

factor_law : {n : ℕ} {g g' : Parentheses} {k k' : Nested} → LevelLaw n g g' k k' → Lawful n (rule.factor g) (rule.factor g') (factor k) (factor k') ends_test
unfolding factor
factor_law {g = g} {g' = g'} level = same_law (factor_into g) (factor_back g) (factor_back g')
    (then_law negation_law
    (λ negated. then_law (primary_condition_law level) (λ x. made_law (negated_by negated) (test_from_law x))
    (λ x y v rest t h. then_follows ends_expr (λ u a rest. test_rest_follows x a u rest) (λ a v b rest. empty_follows ends_expr v rest) v y rest t (and_left (ends_expr (next rest)) _ h)))
    (λ negated y v rest t h. no_not starts_condition refl (next (v ++ rest)) (condition_first g v y rest t)))

-- ---- factors with AND between them

abbrev pub term_rest : Parentheses → SqlCond → Rule SqlCond
term_rest g x = all_of x <$> Many (key KwAnd >> rule.factor g)

abbrev pub ends_term : Option Lexeme → Bool
ends_term = after ends_test (λ o. is_some (meaning_of (is_key KwAnd) o))

test_ends_and : (o : Option Lexeme) → is_some (meaning_of (is_key KwAnd) o) ≡ true → ends_test o ≡ true
unfolding same_keyword
test_ends_and o h = key_seen KwAnd ends_test refl o h

term_from_law : {n : ℕ} {g g' : Parentheses} {k k' : Nested} → LevelLaw n g g' k k' → (x : SqlCond)
    → Lawful n (term_rest g x) (term_rest g' x) (term_from k x) (term_from k' x) ends_term
unfolding term_from same_keyword
term_from_law level x = made_law (all_of x) (many_law (begun_law (is_key KwAnd) refl refl (λ u. factor_law level)) (λ l. test_ends_and (Some l)))

term_follows : (g : Parentheses) (x y : SqlCond) (v rest : List Lexeme) → term_rest g x v y → ends_term (next rest) ≡ true → ends_test (next (v ++ rest)) ≡ true
term_follows g x y v rest t h = many_made_follows ends_test test_ends_and v y rest t (and_left (ends_test (next rest)) _ h)

term_law : {n : ℕ} {g g' : Parentheses} {k k' : Nested} → LevelLaw n g g' k k' → Lawful n (rule.term g) (rule.term g') (term k) (term k') ends_term
unfolding term rule.term
term_law {g = g} level = then_law (factor_law level) (term_from_law level) (term_follows g)

-- ---- terms with OR between them

abbrev pub cond_rest : Parentheses → SqlCond → Rule SqlCond
cond_rest g x = any_of x <$> Many (key KwOr >> rule.term g)

term_ends_or : (o : Option Lexeme) → is_some (meaning_of (is_key KwOr) o) ≡ true → ends_term o ≡ true
unfolding same_keyword
term_ends_or o h = key_seen KwOr ends_term refl o h

expr_ends : (o : Option Lexeme) → ends_cond o ≡ true → ends_expr o ≡ true
expr_ends (Some (Key k)) h = refl
expr_ends (Some l) h = h
expr_ends None h = h

term_ends : (o : Option Lexeme) → ends_cond o ≡ true → ends_term o ≡ true
term_ends o h = both_hold (ends_test o) _ (both_hold (ends_expr o) _ (expr_ends o h) (ap is_some (no_key KwIs ends_cond refl o h))) (ap is_some (no_key KwAnd ends_cond refl o h))

cond_from_law : {n : ℕ} {g g' : Parentheses} {k k' : Nested} → LevelLaw n g g' k k' → (x : SqlCond)
    → Lawful n (cond_rest g x) (cond_rest g' x) (cond_from k x) (cond_from k' x) ends_cond
unfolding cond_from same_keyword
cond_from_law level x = made_law (any_of x) (narrower_law (many_law (begun_law (is_key KwOr) refl refl (λ u. term_law level)) (λ l. term_ends_or (Some l)))
    (λ o h. both_hold (ends_term o) _ (term_ends o h) (ap is_some (no_key KwOr ends_cond refl o h))))

cond_follows : (g : Parentheses) (x y : SqlCond) (v rest : List Lexeme) → cond_rest g x v y → ends_cond (next rest) ≡ true → ends_term (next (v ++ rest)) ≡ true
cond_follows g x y v rest t h = many_made_follows ends_term term_ends_or v y rest t (term_ends (next rest) h)

pub cond_law : {n : ℕ} {g g' : Parentheses} {k k' : Nested} → LevelLaw n g g' k k' → Lawful n (rule.cond g) (rule.cond g') (cond k) (cond k') ends_cond
unfolding cond rule.cond
cond_law {g = g} level = then_law (term_law level) (cond_from_law level) (cond_follows g)

-- ---- a condition that begins with a primary condition

abbrev pub cond_tail : Parentheses → SqlCond → Rule SqlCond
cond_tail g x = test_rest x >>= term_rest g >>= cond_rest g

condition_from_law : {n : ℕ} {g g' : Parentheses} {k k' : Nested} → LevelLaw n g g' k k' → (x : SqlCond)
    → Lawful n (cond_tail g x) (cond_tail g' x) (condition_from k x) (condition_from k' x) ends_cond
unfolding condition_from
condition_from_law {g = g} level x = then_law (then_law (test_from_law x) (term_from_law level) (term_follows g)) (cond_from_law level) (cond_follows g)

-- ---- a condition or an expression

-- the end of what stands in parentheses
abbrev pub closes : Option Lexeme → Bool
closes (Some (Sign ParenClose)) = true
closes o = false

abbrev pub operand_content : Parentheses → Rule Operand
operand_content g = (operand_is.Cond <$> rule.cond g) or (operand_is.Expr <$> expr_rule g)

-- after what begins a condition or an expression
abbrev pub operand_rest : Parentheses → Operand → Rule Operand
operand_rest g (operand_is.Cond x) = operand_is.Cond <$> cond_tail g x
operand_rest g (operand_is.Expr x) = (operand_is.Cond <$> (predicate_rest g x >>= cond_tail g)) or pure (operand_is.Expr x)

closes_cond : (o : Option Lexeme) → closes o ≡ true → ends_cond o ≡ true
closes_cond (Some (Sign ParenClose)) h = refl
closes_cond o h = false_not_true h

closes_stays : (o : Option Lexeme) → closes o ≡ true → goes o ≡ false
closes_stays (Some (Sign ParenClose)) h = refl
closes_stays o h = false_not_true h

empty_stays : {A : Type 0} {a b : A} (w rest : List Lexeme) → Empty a w b → closes (next rest) ≡ true → goes (next (w ++ rest)) ≡ false
empty_stays w rest empty h = closes_stays (next rest) h

cond_tail_follows : (g : Parentheses) (x y : SqlCond) (v rest : List Lexeme) → cond_tail g x v y → ends_expr (next rest) ≡ true → ends_expr (next (v ++ rest)) ≡ true
cond_tail_follows g x y v rest t h = then_follows ends_expr
    (then_follows ends_expr (λ u a rest. test_rest_follows x a u rest) (λ a. many_made_follows ends_expr (λ o. key_seen KwAnd ends_expr refl o)))
    (λ a. many_made_follows ends_expr (λ o. key_seen KwOr ends_expr refl o)) v y rest t h

predicate_condition_law : {n : ℕ} {g g' : Parentheses} {k k' : Nested} → LevelLaw n g g' k k' → (x : SqlExpr)
    → Lawful n (predicate_rest g x >>= cond_tail g) (predicate_rest g' x >>= cond_tail g')
    (λ ts. and_then (predicate_from k x ts) (condition_from k)) (λ ts. and_then (predicate_from k' x ts) (condition_from k')) ends_cond
predicate_condition_law {g = g} level x = then_law (predicate_from_law level x) (condition_from_law level) (λ a b v rest t h. cond_tail_follows g a b v rest t (expr_ends (next rest) h))

operand_from_law : {n : ℕ} {g g' : Parentheses} {k k' : Nested} → LevelLaw n g g' k k' → (o : Operand)
    → Lawful n (operand_rest g o) (operand_rest g' o) (operand_from k o) (operand_from k' o) closes
unfolding goes_on
operand_from_law level (operand_is.Cond x) = made_law operand_is.Cond (narrower_law (condition_from_law level x) closes_cond)
operand_from_law {g = g} {k = k} {k' = k'} level (operand_is.Expr x) = by_test_law goes (predicate_or k x) (predicate_or k' x)
    (made_law operand_is.Cond (narrower_law (predicate_condition_law level x) closes_cond)) (pure_until (operand_is.Expr x))
    (λ w y rest t h. then_begins goes (then_begins goes (predicate_first g x)) w y rest t)
    (λ w y rest t h. empty_stays w rest t h)

operand_follows : (g : Parentheses) (o y : Operand) (v rest : List Lexeme) → operand_rest g o v y → closes (next rest) ≡ true → ends_expr (next (v ++ rest)) ≡ true
operand_follows g (operand_is.Cond x) y v rest t h = then_follows ends_expr (λ u a rest. cond_tail_follows g x a u rest) (λ a v b rest. empty_follows ends_expr v rest) v y rest t
    (expr_ends (next rest) (closes_cond (next rest) h))
operand_follows g (operand_is.Expr x) y v rest (first t) h = goes_ends (next (v ++ rest)) (then_begins goes (then_begins goes (predicate_first g x)) v y rest t)
operand_follows g (operand_is.Expr x) y v rest (second t) h = empty_follows ends_expr v rest t (expr_ends (next rest) (closes_cond (next rest) h))

begun_operand_law : {n : ℕ} {g g' : Parentheses} {k k' : Nested} → LevelLaw n g g' k k'
    → Lawful n (started_rule g >>= operand_rest g) (started_rule g' >>= operand_rest g') (λ ts. and_then (started k ts) (operand_from k)) (λ ts. and_then (started k' ts) (operand_from k')) closes
begun_operand_law {g = g} level = then_law (started_law level) (operand_from_law level) (operand_follows g)

-- ---- a condition by what begins it

test_of_factor : (g : Parentheses) (w : List Lexeme) (y : SqlCond) (rest : List Lexeme) → meaning_of (is_key KwNot) (next (w ++ rest)) ≡ None → rule.factor g w y → rule.test g w y
unfolding rule.factor
test_of_factor g w y rest h t = go (negation_parts w y t)
  where
    go : Either (Then (key KwNot) (λ u. negated_by true <$> rule.test g)) (negated_by false <$> rule.test g) w y → rule.test g w y
    go (first t) = some_not_none (is_key KwNot) (next (w ++ rest)) h (one_first w y rest t)
    go (second t) = then_empty w y t

factor_of_test : (g : Parentheses) (w : List Lexeme) (y : SqlCond) → rule.test g w y → rule.factor g w y
unfolding rule.factor
factor_of_test g w y t = negation_back w y (second (made (negated_by false) w y t))

-- without a NOT before it, a condition begins with a primary condition
cond_parts : (g : Parentheses) (w : List Lexeme) (y : SqlCond) (rest : List Lexeme) → meaning_of (is_key KwNot) (next (w ++ rest)) ≡ None → rule.cond g w y → Then (rule.primary_condition g) (cond_tail g) w y
unfolding rule.cond rule.term rule.test
cond_parts g w y rest h t = then_map (λ w a t. t) (λ x w y t. then_assoc_back w y t) w y (then_assoc w y (go w h (then_assoc w y t)))
  where
    go : (w : List Lexeme) → meaning_of (is_key KwNot) (next (w ++ rest)) ≡ None → Then (rule.factor g) (λ a. Then (term_rest g a) (cond_rest g)) w y
        → Then (rule.test g) (λ a. Then (term_rest g a) (cond_rest g)) w y
    go w h (both {a = x} u v t s) = both u v (test_of_factor g u x (v ++ rest) (ap (meaning_of (is_key KwNot)) (sym (next_append u v rest)) ∙ h) t) s

cond_made : (g : Parentheses) (w : List Lexeme) (y : SqlCond) → Then (rule.primary_condition g) (cond_tail g) w y → rule.cond g w y
unfolding rule.cond rule.term rule.test
cond_made g w y t = then_assoc_back w y (then_map (factor_of_test g) (λ a w y t. t) w y (then_assoc_back w y (then_map (λ w a t. t) (λ x w y t. then_assoc w y t) w y t)))

-- ---- a condition or an expression by what begins it

rest_of_completed : (g : Parentheses) (o : Operand) (w : List Lexeme) (y : Operand) → Then (Then (completed_rule g o) (cond_tail g)) (λ y. Empty (operand_is.Cond y)) w y → operand_rest g o w y
rest_of_completed g (operand_is.Cond x) w y t = then_map (λ w y t. empty_then x w y t) (λ a w y t. t) w y t
rest_of_completed g (operand_is.Expr x) w y t = first t

-- what is left of an expression
abbrev whole_expr : Operand → Rule Operand
whole_expr (operand_is.Cond x) = λ w y. ⊥
whole_expr (operand_is.Expr x) = Empty (operand_is.Expr x)

completed_of_rest : (g : Parentheses) (o : Operand) (w : List Lexeme) (y : Operand) → operand_rest g o w y
    → Either (Then (Then (completed_rule g o) (cond_tail g)) (λ y. Empty (operand_is.Cond y))) (whole_expr o) w y
completed_of_rest g (operand_is.Cond x) w y t = first (then_map (λ w y t. empty_then_back x w y t) (λ a w y t. t) w y t)
completed_of_rest g (operand_is.Expr x) w y t = t

no_then : {A B : Type 0} {R : Rule A} {S : A → Rule B} (w : List Lexeme) (b : B) → ((a : A) (v : List Lexeme) → S a v b → ⊥) → Then R S w b → ⊥
no_then w b no_text (both {a = a} u v r s) = no_text a v s

operand_into : (g : Parentheses) (w : List Lexeme) (y : Operand) (rest : List Lexeme) → meaning_of (is_key KwNot) (next (w ++ rest)) ≡ None → operand_content g w y
    → (started_rule g >>= operand_rest g) w y
operand_into g w y rest h (first t) = then_map (λ w a t. t) (rest_of_completed g) w y
    (then_assoc w y (then_map (λ w y t. then_assoc w y (then_map (condition_begun g) (λ a w y t. t) w y t)) (λ a w y t. t) w y (go w h t)))
  where
    go : (w : List Lexeme) → meaning_of (is_key KwNot) (next (w ++ rest)) ≡ None → (operand_is.Cond <$> rule.cond g) w y
        → Then (Then (rule.primary_condition g) (cond_tail g)) (λ y. Empty (operand_is.Cond y)) w y
    go w h (both {a = x} u v t s) = both u v (cond_parts g u x (v ++ rest) (ap (meaning_of (is_key KwNot)) (sym (next_append u v rest)) ∙ h) t) s
operand_into g w y rest h (second t) = either_then_back w y (first (then_assoc_back w y (then_map (λ w a t. t) (λ x w y t. empty_then_back (operand_is.Expr x) w y (second t)) w y t)))

operand_back : (g : Parentheses) (w : List Lexeme) (y : Operand) → (started_rule g >>= operand_rest g) w y → operand_content g w y
operand_back g w y t = go (then_either w y (then_map (λ w a t. t) (completed_of_rest g) w y t))
  where
    no_exists : Then (key KwExists >> (λ q. operand_is.Cond (c.Exists q)) <$> Enclosed g.query) whole_expr w y → ⊥
    no_exists t = no_then w y (λ u v t. no_then v y (λ q v t. empty_then (operand_is.Cond (c.Exists q)) v y t) (then_assoc v y t)) (then_assoc w y t)

    no_paren : Then ((λ x. operand_is.Cond (c.Paren x)) <$> Enclosed g.cond) whole_expr w y → ⊥
    no_paren t = no_then w y (λ x v t. empty_then (operand_is.Cond (c.Paren x)) v y t) (then_assoc w y t)

    no_cond : Either (Then (key KwExists >> (λ q. operand_is.Cond (c.Exists q)) <$> Enclosed g.query) whole_expr) (Then ((λ x. operand_is.Cond (c.Paren x)) <$> Enclosed g.cond) whole_expr) w y
        → operand_content g w y
    no_cond (first t) = absurd (no_exists t)
    no_cond (second t) = absurd (no_paren t)

    left : Either (Then (operand_is.Expr <$> expr_rule g) whole_expr)
        (Then (Either (key KwExists >> (λ q. operand_is.Cond (c.Exists q)) <$> Enclosed g.query) ((λ x. operand_is.Cond (c.Paren x)) <$> Enclosed g.cond)) whole_expr) w y
        → operand_content g w y
    left (first t) = second (then_map (λ w a t. t) (λ x w y t. empty_then (operand_is.Expr x) w y t) w y (then_assoc w y t))
    left (second t) = no_cond (either_then w y t)

    go : Either (Then (started_rule g) (λ o. Then (Then (completed_rule g o) (cond_tail g)) (λ y. Empty (operand_is.Cond y)))) (Then (started_rule g) whole_expr) w y → operand_content g w y
    go (first t) = first (then_map (λ w x t. cond_made g w x (then_map (begun_condition g) (λ a w y t. t) w x (then_assoc_back w x t))) (λ a w y t. t) w y (then_assoc_back w y t))
    go (second t) = left (either_then w y t)

operand_at : {n : ℕ} {g g' : Parentheses} {k k' : Nested} → LevelLaw n g g' k k' → (o : Option Lexeme) (m : Option (Unit {0})) → meaning_of (is_key KwNot) o ≡ m
    → LawfulAt o n (operand_content g) (operand_content g')
    (operand_by k (is_some (meaning_of (is_key KwNot) o))) (operand_by k' (is_some (meaning_of (is_key KwNot) o))) closes
operand_at {g = g} {g' = g'} {k = k} {k' = k'} level o None e = at_by_law o (begun_operand_law level) (operand_back g) (operand_back g')
    (λ w y rest at t h. operand_into g w y rest (ap (meaning_of (is_key KwNot)) at ∙ e) t)
    (λ ts at. ap (λ m. operand_by k (is_some m) ts) e) (λ ts at. ap (λ m. operand_by k' (is_some m) ts) e)
operand_at {g = g} {g' = g'} {k = k} {k' = k'} level o (Some u) e =
    at_by_law o (made_law operand_is.Cond (narrower_law (cond_law level) closes_cond)) (λ w y t. first t) (λ w y t. first t) into
    (λ ts at. ap (λ m. operand_by k (is_some m) ts) e) (λ ts at. ap (λ m. operand_by k' (is_some m) ts) e)
  where
    into : (w : List Lexeme) (y : Operand) (rest : List Lexeme) → next (w ++ rest) ≡ o → operand_content g w y → closes (next rest) ≡ true → (operand_is.Cond <$> rule.cond g) w y
    into w y rest at (first t) h = t
    into w y rest at (second t) h = none_not_some u (sym (no_key KwNot starts_expr refl o (ap starts_expr (sym at) ∙ made_first g w y rest t)) ∙ e)

pub operand_content_law : {n : ℕ} {g g' : Parentheses} {k k' : Nested} → LevelLaw n g g' k k'
    → Lawful n (operand_content g) (operand_content g') (operand k) (operand k') closes
unfolding operand
operand_content_law {n} {g} {g'} {k} {k'} level = next_law
    {f = λ o. operand_by k (is_some (meaning_of (is_key KwNot) o))} {g = λ o. operand_by k' (is_some (meaning_of (is_key KwNot) o))}
    (λ o. operand_at level o (meaning_of (is_key KwNot) o) refl)
    (either_map (made_law operand_is.Cond (cond_law level)).wider (made_law operand_is.Expr (expr_law level)).wider)
    balanced
    (record {
      text = (made_law operand_is.Cond (cond_law level)).some.text;
      means = (made_law operand_is.Cond (cond_law level)).some.means;
      spells = first (made_law operand_is.Cond (cond_law level)).some.spells;
    })
  where
    balanced : (w : List Lexeme) (y : Operand) → operand_content g w y → Balanced n w
    balanced w y (first t) = (made_law operand_is.Cond (cond_law level)).balanced w y t
    balanced w y (second t) = (made_law operand_is.Expr (expr_law level)).balanced w y t
