-- Every statement that the grammar gives is written whole: by the rules of the grammar, at any level of parentheses.
use Rattle.std.proofs.Common.{◌≡◌, ℕ, ℤ, zero, suc, ◌+◌, leb, Bool, true, false, not, List, [], ◌∷◌, ◌++◌, length, map, Option, Some, None, refl, sym, ap, subst, codes, if◌then◌else◌}
use Rattle.std.specs.List.{AllByRecursion, list_all}
use Rattle.std.proofs.lemmas.Bool.{and_parts, le-leb}
use Rattle.std.specs.Str.{bytes_eq}
use Rattle.pdw_base.specs.declared.value.Kind.{Kind}
use Rattle.pdw_base.specs.declared.value.Kind.TheVariants as kind_is
use Rattle.pdw_syntax.specs.Conds as conds
use Rattle.pdw_syntax.specs.Exprs as exprs
use Rattle.pdw_syntax.specs.Parentheses.{Parentheses}
use Rattle.pdw_syntax.specs.Lexemes.{aggregate_of, key, kind_of, text, text_of}
use Rattle.pdw_syntax.specs.Texts.{IsWritten, parentheses, most_open, script}
use Rattle.pdw_syntax.specs.Queries as queries
use Rattle.pdw_syntax.specs.Rule.{Rule, ◌>>=◌, ◌>>◌, pure, One, Maybe, Many}
use Rattle.pdw_syntax.specs.Statements as statements
use Rattle.pdw_syntax.specs.Tables as tables
use Rattle.pdw_syntax.specs.declared.expr.SqlExpr.{SqlExpr}
use Rattle.pdw_syntax.specs.declared.statement.Statement.{Statement}
use Rattle.pdw_syntax.proofs.WrittenEquations.{aggregate_written, all_written, any_written, between_written, chain_written, col_written, compare_written, cond_written, count_written, cross_written, derived_written, exists_written, in_list_written, in_query_written, join_on_written, join_written, like_written, named_written, negated_written, null_written, number_written, paren_cond_written, paren_table_written, paren_written, primary_written, query_parts_written, signed_written, some_tables, table_reference_written, table_written, tested_written, text_written}
use Rattle.pdw_syntax.proofs.WrittenRules.{Gives, Short, after, gives_both, gives_either, gives_enclosed, gives_listed, gives_many, gives_maybe, gives_nothing, gives_one, gives_some, passed, where_written}
use Rattle.pdw_syntax.specs.Written.{column_written, counts_rows, expr_written, is_type, item_written, items_written, query_written, some_columns, some_items, statement_written}
use Rattle.pdw_catalog.specs.declared.table.TheConstants.{MOST_TEXT_BYTES}
use Rattle.pdw_expr.specs.declared.agg.AggKind.{AggKind}
use Rattle.pdw_expr.specs.declared.scalar.Arith.{Arith}
use Rattle.pdw_lex.specs.Lexes.{ArePieces, Lexes, Piece, joined, token_at, tokens_of}
use Rattle.pdw_lex.specs.Piece.{IsPiece, Spells}
use Rattle.pdw_lex.specs.declared.keyword.Keyword.{Keyword}
use Rattle.pdw_lex.specs.declared.keyword.Keyword.TheVariants as k
use Rattle.pdw_lex.specs.declared.token.Lexeme.{Lexeme}
use Rattle.pdw_lex.specs.declared.token.Lexeme.TheVariants as lexeme
use Rattle.pdw_lex.specs.declared.token.Token.{Token}

-- ---- literals of a script

spelled_short : (said : Lexeme) (bytes rest : List ℕ) → Spells said bytes rest → Short said
spelled_short (lexeme.Text t) bytes rest (is, ends, short) = le-leb (length t) MOST_TEXT_BYTES short
spelled_short (lexeme.Name name) bytes rest spells = tt
spelled_short (lexeme.Key keyword) bytes rest spells = tt
spelled_short (lexeme.Number n) bytes rest spells = tt
spelled_short (lexeme.Sign sign) bytes rest spells = tt

with_token : (from to : ℕ) (said : Option Lexeme) (bytes rest : List ℕ) (tokens : List Token) → IsPiece said bytes rest → AllByRecursion Short (map (λ t. t.lexeme) tokens)
    → AllByRecursion Short (map (λ t. t.lexeme) (token_at from to said ++ tokens))
with_token from to None bytes rest tokens piece all = all
with_token from to (Some said) bytes rest tokens piece all = (spelled_short said bytes rest piece, all)

pieces_short : (at : ℕ) (pieces : List Piece) (rest : List ℕ) → ArePieces pieces rest → AllByRecursion Short (map (λ t. t.lexeme) (tokens_of at pieces))
pieces_short at [] rest are = tt
pieces_short at (p ∷ ps) rest are = with_token at (at + length p.spelling) p.said p.spelling (joined ps ++ rest) (tokens_of (at + length p.spelling) ps) are.0
    (pieces_short (at + length p.spelling) ps rest are.1)

-- the literals of a script are not too long
pub tokens_short : (bytes : List ℕ) (tokens : List Token) → Lexes 0 bytes tokens → AllByRecursion Short (map (λ t. t.lexeme) tokens)
tokens_short bytes tokens lexes = subst (λ (ts : List Token). AllByRecursion Short (map (λ t. t.lexeme) ts)) (sym lexes.tokens_are) (pieces_short 0 lexes.pieces [] lexes.are)

-- ---- what parentheses hold

pub record ParenthesesWritten (g : Parentheses) : Type 0 where
  pub expr : Gives g.expr expr_written
  pub exprs : Gives g.exprs (list_all expr_written)
  pub cond : Gives g.cond cond_written
  pub query : Gives g.query query_written
  pub tables : Gives g.tables table_written

-- ---- value expressions

none_not_some : {A B : Type 0} {x : A} → None ≡ Some x → B
none_not_some e = cc e

literal_short : Gives text (λ t. leb (length t) MOST_TEXT_BYTES)
literal_short = gives_one each
  where
    each : (l : Lexeme) (t : List ℕ) → Short l → text_of l ≡ Some t → leb (length t) MOST_TEXT_BYTES ≡ true
    each (lexeme.Text u) t short is = subst (λ (o : Option (List ℕ)). where_written (λ t. leb (length t) MOST_TEXT_BYTES) o ≡ true) is short
    each l t short is = none_not_some is

-- the words of aggregates with an argument
takes_argument : Gives (One aggregate_of) (λ aggregate. not (counts_rows aggregate))
takes_argument = gives_one each
  where
    known : {a b : AggKind} → not (counts_rows a) ≡ true → Some a ≡ Some b → not (counts_rows b) ≡ true
    known takes is = subst (λ (o : Option AggKind). where_written (λ aggregate. not (counts_rows aggregate)) o ≡ true) is takes

    each : (l : Lexeme) (a : AggKind) → Short l → aggregate_of l ≡ Some a → not (counts_rows a) ≡ true
    each (lexeme.Key k.KwCount) a short is = known refl is
    each (lexeme.Key k.KwSum) a short is = known refl is
    each (lexeme.Key k.KwMin) a short is = known refl is
    each (lexeme.Key k.KwMax) a short is = known refl is
    each l a short is = none_not_some is

-- a chain of operands
chain_gives : {operator : Lexeme → Option Arith} {R : Rule SqlExpr} → Gives R expr_written
    → Gives (R >>= (λ x. Many (exprs.operation operator R) >>= (λ links. pure (exprs.chained x links)))) expr_written
chain_gives law = passed law (λ x is. passed (gives_many {test = λ link. expr_written link.1} (after (λ op. passed law (λ y are. gives_nothing are)))) (λ links are. gives_nothing (chain_written x links is are)))

module _ (g : Parentheses) (laws : ParenthesesWritten g) where
  aggregate_gives : Gives (exprs.aggregate g) expr_written
  unfolding exprs.aggregate
  aggregate_gives = gives_either (after (λ star. gives_nothing count_written))
      (passed takes_argument (λ aggregate takes. passed (gives_enclosed laws.expr) (λ x is. gives_nothing (aggregate_written aggregate x takes is))))

  value_gives : Gives (exprs.value g) expr_written
  unfolding exprs.value
  value_gives = gives_either (after (λ n. gives_nothing (number_written n)))
      (gives_either (passed literal_short (λ t short. gives_nothing (text_written t short)))
      (gives_either (after (λ ref. gives_nothing (col_written ref)))
      (gives_either aggregate_gives (passed (gives_enclosed laws.expr) (λ x is. gives_nothing (paren_written x is))))))

  signed_gives : Gives (exprs.signed g) expr_written
  unfolding exprs.signed
  signed_gives = after (λ minus. passed value_gives (λ x is. gives_nothing (signed_written minus x is)))

  product_gives : Gives (exprs.product g) expr_written
  unfolding exprs.product
  product_gives = chain_gives signed_gives

  pub expr_gives : Gives (exprs.expr g) expr_written
  unfolding exprs.expr
  expr_gives = chain_gives product_gives

  -- ---- conditions

  comparison_gives : Gives (conds.comparison g) cond_written
  unfolding conds.comparison
  comparison_gives = passed expr_gives (λ x is. after (λ op. passed expr_gives (λ y are. gives_nothing (compare_written op x y is are))))

  like_gives : Gives (conds.like g) cond_written
  unfolding conds.like
  like_gives = passed expr_gives (λ x is. after (λ negated. after (λ like. passed expr_gives (λ y are. gives_nothing (like_written negated x y is are)))))

  null_test_gives : Gives (conds.null_test g) cond_written
  unfolding conds.null_test
  null_test_gives = passed expr_gives (λ x is. after (λ verb. after (λ negated. after (λ null. gives_nothing (null_written negated x is)))))

  between_gives : Gives (conds.between g) cond_written
  unfolding conds.between
  between_gives = passed expr_gives (λ x is. after (λ negated. after (λ between. passed expr_gives (λ low below. after (λ and. passed expr_gives (λ high above.
      gives_nothing (between_written negated x low high is below above)))))))

  in_query_gives : Gives (conds.in_query g) cond_written
  unfolding conds.in_query
  in_query_gives = passed expr_gives (λ x is. after (λ negated. after (λ within. passed (gives_enclosed laws.query) (λ q are. gives_nothing (in_query_written negated x q is are)))))

  in_list_gives : Gives (conds.in_list g) cond_written
  unfolding conds.in_list
  in_list_gives = passed expr_gives (λ x is. after (λ negated. after (λ within. passed (gives_enclosed laws.exprs) (λ xs are. gives_nothing (in_list_written negated x xs is are)))))

  exists_gives : Gives (conds.exists g) cond_written
  unfolding conds.exists
  exists_gives = after (λ exists. passed (gives_enclosed laws.query) (λ q is. gives_nothing (exists_written q is)))

  predicate_gives : Gives (conds.predicate g) cond_written
  unfolding conds.predicate
  predicate_gives = gives_either comparison_gives (gives_either like_gives (gives_either null_test_gives (gives_either between_gives (gives_either in_query_gives (gives_either in_list_gives exists_gives)))))

  primary_condition_gives : Gives (conds.primary_condition g) cond_written
  unfolding conds.primary_condition
  primary_condition_gives = gives_either predicate_gives (passed (gives_enclosed laws.cond) (λ x is. gives_nothing (paren_cond_written x is)))

  test_gives : Gives (conds.test g) cond_written
  unfolding conds.test
  test_gives = passed primary_condition_gives (λ x is. after (λ t. gives_nothing (tested_written x t is)))

  factor_gives : Gives (conds.factor g) cond_written
  unfolding conds.factor
  factor_gives = after (λ negated. passed test_gives (λ x is. gives_nothing (negated_written negated x is)))

  term_gives : Gives (conds.term g) cond_written
  unfolding conds.term
  term_gives = passed factor_gives (λ x is. passed (gives_many (after (λ and. factor_gives))) (λ xs are. gives_nothing (all_written x xs is are)))

  pub cond_gives : Gives (conds.cond g) cond_written
  unfolding conds.cond
  cond_gives = passed term_gives (λ x is. passed (gives_many (after (λ either. term_gives))) (λ xs are. gives_nothing (any_written x xs is are)))

  -- ---- what stands in FROM

  primary_gives : Gives (tables.primary g) primary_written
  unfolding tables.primary
  primary_gives = gives_either (after (λ table. after (λ alias. gives_nothing (named_written table alias))))
      (gives_either (passed (gives_enclosed laws.query) (λ q is. after (λ alias. gives_nothing (derived_written q alias is))))
      (passed (gives_enclosed laws.tables) (λ t is. gives_nothing (paren_table_written t is))))

  cross_join_gives : Gives (tables.cross_join g) join_written
  unfolding tables.cross_join
  cross_join_gives = after (λ cross. after (λ join. passed primary_gives (λ right is. gives_nothing (cross_written right is))))

  join_on_gives : Gives (tables.join_on g) join_written
  unfolding tables.join_on
  join_on_gives = after (λ word. after (λ join. passed primary_gives (λ right is. after (λ on. passed cond_gives (λ x holds. gives_nothing (join_on_written word right x is holds))))))

  join_gives : Gives (tables.join g) join_written
  unfolding tables.join
  join_gives = gives_either cross_join_gives join_on_gives

  pub table_reference_gives : Gives (tables.table_reference g) table_written
  unfolding tables.table_reference
  table_reference_gives = passed primary_gives (λ x is. passed (gives_many join_gives) (λ joins are. gives_nothing (table_reference_written x joins is are)))

  some_tables_gives : Gives (tables.tables g) some_tables
  unfolding tables.tables
  some_tables_gives = gives_some (λ first rest. refl)

  all_tables_gives : Gives (tables.tables g) (list_all table_written)
  unfolding tables.tables
  all_tables_gives = gives_listed table_reference_gives

  -- ---- queries

  item_gives : Gives (queries.item g) item_written
  unfolding queries.item
  item_gives = gives_either (after (λ alias. after (λ dot. after (λ star. gives_nothing refl)))) (passed expr_gives (λ x is. after (λ output. gives_nothing is)))

  items_gives : Gives (queries.items g) items_written
  unfolding queries.items
  items_gives = gives_either (after (λ star. gives_nothing refl)) (passed (gives_both (gives_some {test = some_items} (λ first rest. refl)) (gives_listed item_gives)) (λ selected are. gives_nothing are))

  -- WHERE or HAVING
  clause_gives : (keyword : Keyword) → Gives (Maybe (key keyword >> conds.cond g)) (where_written cond_written)
  clause_gives keyword = gives_maybe (after (λ word. cond_gives))

  pub query_gives : Gives (queries.query g) query_written
  unfolding queries.query
  query_gives = after (λ select. after (λ once. passed items_gives (λ selected are. after (λ from. passed (gives_both some_tables_gives all_tables_gives) (λ elements stand.
      passed (clause_gives k.KwWhere) (λ filter filters. after (λ group. passed (clause_gives k.KwHaving) (λ having holds.
      let both = and_parts (some_tables elements) (list_all table_written elements) stand in
      gives_nothing (query_parts_written once selected elements filter group having (record { items = are; some = both.0; tables = both.1; filter = filters; having = holds }))))))))))

  pub select_gives : Gives (queries.select g) (λ s. query_written s.query)
  unfolding queries.select
  select_gives = passed query_gives (λ q is. after (λ order. gives_nothing is))

-- ---- statements

abbrev type_or : Option Kind → Bool
type_or None = true
type_or (Some kind) = is_type kind

type_of_word : (l : Lexeme) (kind : Kind) → Short l → kind_of l ≡ Some kind → is_type kind ≡ true
type_of_word (lexeme.Name n) kind short is = by (bytes_eq n (codes "int")) (bytes_eq n (codes "text")) is
  where
    by : (int text : Bool) → (if int then Some kind_is.Int else (if text then Some kind_is.Text else None)) ≡ Some kind → is_type kind ≡ true
    by true text e = ap type_or (sym e)
    by false true e = ap type_or (sym e)
    by false false e = ap type_or (sym e)
type_of_word _ kind short is = ap type_or (sym is)

column_gives : Gives statements.column column_written
column_gives = after (λ called. passed (gives_one type_of_word) (λ kind is. after (λ not_null. gives_nothing is)))

create_gives : Gives statements.create statement_written
create_gives = after (λ create. after (λ table. after (λ name.
    passed (gives_enclosed (gives_both (gives_some {test = some_columns} (λ first rest. refl)) (gives_listed column_gives))) (λ columns are.
    after (λ with. after (λ hash. gives_nothing are))))))

statistics_written : (table : List ℕ) (handed : Option (ℤ × List (List ℕ × ℤ × ℤ))) → statement_written (statements.statistics_of table handed) ≡ true
statistics_written table None = refl
statistics_written table (Some handed) = refl

statistics_gives : Gives statements.statistics statement_written
statistics_gives = after (λ update. after (λ word. after (λ table. after (λ handed. gives_nothing (statistics_written table handed)))))

module _ (g : Parentheses) (laws : ParenthesesWritten g) where
  explain_gives : Gives (statements.explain g) statement_written
  explain_gives = gives_either (passed (after (λ explain. select_gives g laws)) (λ s is. gives_nothing is)) (passed (after (λ json. select_gives g laws)) (λ s is. gives_nothing is))

  check_plan_gives : Gives (statements.check_plan g) statement_written
  check_plan_gives = after (λ check. after (λ plan. after (λ file. after (λ word. passed (select_gives g laws) (λ s is. gives_nothing is)))))

  pub statement_gives : Gives (statements.statement g) statement_written
  unfolding statements.statement
  statement_gives = gives_either create_gives
      (gives_either (after (λ words. after (λ table. gives_nothing refl)))
      (gives_either (after (λ load. after (λ table. after (λ from. after (λ file. gives_nothing refl)))))
      (gives_either statistics_gives
      (gives_either (after (λ words. after (λ n. gives_nothing refl)))
      (gives_either (after (λ set. after (λ cost. after (λ part. after (λ amount. gives_nothing refl)))))
      (gives_either (passed (select_gives g laws) (λ s is. gives_nothing is))
      (gives_either explain_gives (gives_either (passed (after (λ profile. select_gives g laws)) (λ s is. gives_nothing is)) check_plan_gives))))))))

-- ---- every level of parentheses

parentheses_written : (levels : ℕ) → ParenthesesWritten (parentheses levels)
unfolding parentheses
parentheses_written zero = record {
  expr = record { from = λ w a short r. absurd r };
  exprs = record { from = λ w a short r. absurd r };
  cond = record { from = λ w a short r. absurd r };
  query = record { from = λ w a short r. absurd r };
  tables = record { from = λ w a short r. absurd r };
}
parentheses_written (suc n) = let laws = parentheses_written n in record {
  expr = expr_gives (parentheses n) laws;
  exprs = gives_listed (expr_gives (parentheses n) laws);
  cond = cond_gives (parentheses n) laws;
  query = query_gives (parentheses n) laws;
  tables = table_reference_gives (parentheses n) laws;
}

script_gives : (g : Parentheses) → ParenthesesWritten g → Gives (script g) (list_all statement_written)
script_gives g laws = gives_many (passed (statement_gives g laws) (λ x is. after (λ semicolon. gives_nothing is)))

-- a statement of the grammar is written whole, where its literals are not too long
pub statement_is_written : (levels : ℕ) (lexemes : List Lexeme) (x : Statement) → AllByRecursion Short lexemes → statements.statement (parentheses levels) lexemes x → statement_written x ≡ true
statement_is_written levels lexemes x short spells = (statement_gives (parentheses levels) (parentheses_written levels)).from lexemes x short spells

-- so is each of a script
pub script_is_written : (levels : ℕ) (lexemes : List Lexeme) (xs : List Statement) → AllByRecursion Short lexemes → script (parentheses levels) lexemes xs → list_all statement_written xs ≡ true
script_is_written levels lexemes xs short spells = (script_gives (parentheses levels) (parentheses_written levels)).from lexemes xs short spells

-- what some text means is written whole
pub written : (x : Statement) → IsWritten x → statement_written x ≡ true
written x is = statement_is_written most_open (map (λ t. t.lexeme) is.tokens) x (tokens_short is.bytes is.tokens is.lexes) is.spells

-- so is each statement that the tokens of bytes mean
pub lexed_script_is_written : (levels : ℕ) (bytes : List ℕ) (tokens : List Token) (xs : List Statement) → Lexes 0 bytes tokens
    → script (parentheses levels) (map (λ t. t.lexeme) tokens) xs → list_all statement_written xs ≡ true
lexed_script_is_written levels bytes tokens xs lexes spells = script_is_written levels (map (λ t. t.lexeme) tokens) xs (tokens_short bytes tokens lexes) spells
