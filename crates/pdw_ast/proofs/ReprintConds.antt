-- Search conditions mean what they mean as they are spelled.
use Rattle.std.proofs.Common.{◌≡◌, Bool, true, false, List, [], ◌∷◌, ◌++◌, map, flat_map, Option, Some, None, is_some, refl, sym, append-nil}
use Rattle.pdw_base.specs.declared.truth.Truth.{Truth}
use Rattle.pdw_lex.specs.declared.keyword.Keyword.{Keyword}
use Rattle.pdw_lex.specs.declared.keyword.Keyword.TheVariants as k
use Rattle.pdw_lex.specs.declared.token.Lexeme.{Lexeme}
use Rattle.pdw_syntax.specs.Rule.{◌>>◌, Many}
use Rattle.pdw_syntax.specs.Lexemes as lexemes
use Rattle.pdw_syntax.specs.Parentheses.{Parentheses}
use Rattle.pdw_syntax.specs.Conds as rule
use Rattle.pdw_ast.specs.Written as written
use Rattle.pdw_ast.specs.Spelling as spelling
use Rattle.pdw_ast.specs.Spelling.{Spelling}
use Rattle.pdw_syntax.specs.declared.query.SqlCond.{SqlCond}
use Rattle.pdw_ast.proofs.Reprint.{Reprints, spelled_as, and_then, and_last, and_nothing, and_text, if_any, reprints_maybe, reprints_either, reprints_made, reprints_many, reprints_enclosed}
use Rattle.pdw_ast.proofs.ReprintOne.{at_key, key_reprints, comparison_reprints, truth_reprints}
use Rattle.pdw_ast.proofs.ReprintEquations.{flat_map_map, cond, cond_compare, cond_like, cond_null, cond_between, cond_in_list, cond_in_query, cond_exists, cond_test, cond_not, cond_all, cond_any, cond_paren}
use Rattle.pdw_ast.proofs.ReprintExprs.{ParenthesesReprint, expr_reprint}

not_spelled : (o : Option (Unit {0})) → if_any (λ u. written.key k.KwNot ∷ []) o ≡ spelling.negation (is_some o)
not_spelled None = refl
not_spelled (Some u) = refl

negation_reprints : Reprints rule.negation spelling.negation
negation_reprints = reprints_made (reprints_maybe (key_reprints k.KwNot)) not_spelled

-- conditions with a keyword between them
chain_reprints : {R : List Lexeme → SqlCond → Type 0} (keyword : Keyword) → Reprints R cond
    → Reprints (Many (lexemes.key keyword >> R)) (λ xs. flat_map (λ part. written.key keyword ∷ part) (map cond xs))
chain_reprints keyword law = spelled_as (and_text (reprints_many (spelled_as (at_key keyword (and_text law (λ x. refl))))) (λ xs. sym (flat_map_map (λ part. written.key keyword ∷ part) cond xs)))

all_spelled : (x : SqlCond) (xs : List SqlCond) → cond x ++ flat_map (λ part. written.key k.KwAnd ∷ part) (map cond xs) ≡ cond (rule.all_of x xs)
all_spelled x [] = append-nil (cond x)
all_spelled x (y ∷ ys) = sym (cond_all (x ∷ y ∷ ys))

any_spelled : (x : SqlCond) (xs : List SqlCond) → cond x ++ flat_map (λ part. written.key k.KwOr ∷ part) (map cond xs) ≡ cond (rule.any_of x xs)
any_spelled x [] = append-nil (cond x)
any_spelled x (y ∷ ys) = sym (cond_any (x ∷ y ∷ ys))

negated_spelled : (negated : Bool) (x : SqlCond) → spelling.negation negated ++ cond x ≡ cond (rule.negated_by negated x)
negated_spelled true x = sym (cond_not x)
negated_spelled false x = refl

-- IS, perhaps NOT, and a truth
abbrev test_spelling : Bool × Truth → Spelling
test_spelling t = written.key k.KwIs ∷ (spelling.negation t.0 ++ spelling.truth_word t.1 ∷ [])

truth_test_reprints : Reprints rule.truth_test test_spelling
truth_test_reprints = spelled_as (at_key k.KwIs (and_then negation_reprints (λ negated. and_last truth_reprints (λ truth. refl))))

tested_spelled : (x : SqlCond) (t : Option (Bool × Truth)) → cond x ++ if_any test_spelling t ≡ cond (rule.tested x t)
tested_spelled x None = append-nil (cond x)
tested_spelled x (Some t) = sym (cond_test t.0 x t.1)

module _ (g : Parentheses) (laws : ParenthesesReprint g) where
  comparison_reprint : Reprints (rule.comparison g) cond
  unfolding rule.comparison
  comparison_reprint = spelled_as (and_then (expr_reprint g laws) (λ x. and_then comparison_reprints (λ op. and_last (expr_reprint g laws) (λ y. sym (cond_compare op x y)))))

  like_reprint : Reprints (rule.like g) cond
  unfolding rule.like
  like_reprint = spelled_as (and_then (expr_reprint g laws) (λ x. and_then negation_reprints (λ negated. at_key k.KwLike (and_last (expr_reprint g laws) (λ y. sym (cond_like negated x y))))))

  null_test_reprint : Reprints (rule.null_test g) cond
  unfolding rule.null_test
  null_test_reprint = spelled_as (and_then (expr_reprint g laws) (λ x. at_key k.KwIs (and_then negation_reprints (λ negated. at_key k.KwNull (and_nothing (sym (cond_null negated x)))))))

  between_reprint : Reprints (rule.between g) cond
  unfolding rule.between
  between_reprint = spelled_as (and_then (expr_reprint g laws) (λ x. and_then negation_reprints (λ negated. at_key k.KwBetween (and_then (expr_reprint g laws) (λ low.
      at_key k.KwAnd (and_last (expr_reprint g laws) (λ high. sym (cond_between negated x low high))))))))

  in_query_reprint : Reprints (rule.in_query g) cond
  unfolding rule.in_query
  in_query_reprint = spelled_as (and_then (expr_reprint g laws) (λ x. and_then negation_reprints (λ negated. at_key k.KwIn (and_last (reprints_enclosed laws.query) (λ q. sym (cond_in_query negated x q))))))

  in_list_reprint : Reprints (rule.in_list g) cond
  unfolding rule.in_list
  in_list_reprint = spelled_as (and_then (expr_reprint g laws) (λ x. and_then negation_reprints (λ negated. at_key k.KwIn (and_last (reprints_enclosed laws.exprs) (λ xs. sym (cond_in_list negated x xs))))))

  exists_reprint : Reprints (rule.exists g) cond
  unfolding rule.exists
  exists_reprint = spelled_as (at_key k.KwExists (and_last (reprints_enclosed laws.query) (λ q. sym (cond_exists q))))

  predicate_reprint : Reprints (rule.predicate g) cond
  unfolding rule.predicate
  predicate_reprint = reprints_either comparison_reprint (reprints_either like_reprint (reprints_either null_test_reprint
      (reprints_either between_reprint (reprints_either in_query_reprint (reprints_either in_list_reprint exists_reprint)))))

  primary_reprint : Reprints (rule.primary_condition g) cond
  unfolding rule.primary_condition
  primary_reprint = reprints_either predicate_reprint (reprints_made (reprints_enclosed laws.cond) (λ x. sym (cond_paren x)))

  test_reprint : Reprints (rule.test g) cond
  unfolding rule.test
  test_reprint = spelled_as (and_then primary_reprint (λ x. and_last (reprints_maybe truth_test_reprints) (tested_spelled x)))

  factor_reprint : Reprints (rule.factor g) cond
  unfolding rule.factor
  factor_reprint = spelled_as (and_then negation_reprints (λ negated. and_last test_reprint (negated_spelled negated)))

  term_reprint : Reprints (rule.term g) cond
  unfolding rule.term
  term_reprint = spelled_as (and_then factor_reprint (λ x. and_last (chain_reprints k.KwAnd factor_reprint) (all_spelled x)))

  pub cond_reprint : Reprints (rule.cond g) cond
  unfolding rule.cond
  cond_reprint = spelled_as (and_then term_reprint (λ x. and_last (chain_reprints k.KwOr term_reprint) (any_spelled x)))
