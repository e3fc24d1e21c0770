-- Statements mean what they mean as they are spelled.
use Rattle.std.proofs.Common.{◌≡◌, ℕ, ℤ, zero, suc, List, [], ◌∷◌, flat_map, codes, Option, Some, None, is_none, refl}
use Rattle.pdw_base.specs.declared.value.Kind.{Kind}
use Rattle.pdw_lex.specs.declared.keyword.Keyword.TheVariants as k
use Rattle.pdw_lex.specs.declared.sign.Sign.TheVariants as s
use Rattle.pdw_lex.specs.declared.token.Lexeme.{Lexeme}
use Rattle.pdw_syntax.specs.Parentheses.{Parentheses}
use Rattle.pdw_syntax.specs.Statements as rule
use Rattle.pdw_syntax.specs.Texts.{parentheses}
use Rattle.pdw_ast.specs.Written as written
use Rattle.pdw_ast.specs.Written.{sayings}
use Rattle.pdw_ast.specs.Spelling as spelling
use Rattle.pdw_ast.specs.Spelling.{Spelling}
use Rattle.pdw_syntax.specs.declared.statement.Statement.{Statement}
use Rattle.pdw_ast.proofs.Valid.{AllValid, AllSpelled}
use Rattle.pdw_ast.proofs.Reprint.{Reprints, spelled_as, and_then, and_last, and_nothing, and_text, if_any, reprints_maybe, reprints_either, reprints_made, reprints_enclosed}
use Rattle.pdw_ast.proofs.ReprintTokens.{hash_spelled, replicate_spelled, distribution_spelled, load_spelled, width_spelled, rows_spelled, statistics_spelled, budget_spelled, cost_spelled, explain_spelled, json_spelled, profile_spelled, check_spelled, plan_spelled, for_spelled}
use Rattle.pdw_ast.proofs.ReprintOne.{at_key, at_word, key_reprints, sign_reprints, word_reprints, name_reprints, number_reprints, text_reprints, kind_reprints, cost_part_reprints}
use Rattle.pdw_ast.proofs.ReprintExprs.{ParenthesesReprint, reprints_separated, reprints_listed, expr_reprint}
use Rattle.pdw_ast.proofs.ReprintConds.{cond_reprint}
use Rattle.pdw_ast.proofs.ReprintTables.{table_reference_reprint}
use Rattle.pdw_ast.proofs.ReprintQueries.{query_reprint, select_reprint}

column_spelled : (n : List ℕ) (kind : Kind) (o : Option (Unit {0}))
    → written.name n ∷ spelling.kind_word kind ∷ if_any (λ u. written.key k.KwNot ∷ written.key k.KwNull ∷ []) o ≡ spelling.column (record { name = n; kind = kind; nullable = is_none o })
column_spelled n kind None = refl
column_spelled n kind (Some u) = refl

column_reprints : Reprints rule.column spelling.column
column_reprints = spelled_as (and_then name_reprints (λ n. and_then kind_reprints (λ kind.
    and_last (reprints_maybe (spelled_as (at_key k.KwNot (and_text (key_reprints k.KwNull) (λ u. refl))))) (column_spelled n kind))))

placing_reprints : Reprints rule.placing spelling.placing
placing_reprints = reprints_either (reprints_made (spelled_as (at_word hash_spelled (and_text (reprints_enclosed name_reprints) (λ n. refl)))) (λ n. refl))
    (spelled_as (at_word replicate_spelled (and_nothing refl)))

distribution_reprints : Reprints rule.distribution (λ hash. written.word (codes "distribution") ∷ written.sign s.Equal ∷ spelling.placing hash)
distribution_reprints = spelled_as (and_then (spelled_as (at_word distribution_spelled (and_text (sign_reprints s.Equal) (λ u. refl)))) (λ u. and_text placing_reprints (λ hash. refl)))

create_reprints : Reprints rule.create spelling.statement
create_reprints = spelled_as (at_key k.KwCreate (at_key k.KwTable (and_then name_reprints (λ table. and_then (reprints_enclosed (reprints_listed column_reprints)) (λ columns.
    at_key k.KwWith (and_last (reprints_enclosed distribution_reprints) (λ hash. refl)))))))

drop_reprints : Reprints rule.drop_table spelling.statement
drop_reprints = spelled_as (and_then (spelled_as (at_key k.KwDrop (and_text (key_reprints k.KwTable) (λ u. refl)))) (λ u. and_last name_reprints (λ table. refl)))

load_reprints : Reprints rule.load spelling.statement
load_reprints = spelled_as (at_word load_spelled (and_then name_reprints (λ table. at_key k.KwFrom (and_last text_reprints (λ file. refl)))))

column_statistics_reprints : Reprints rule.column_statistics spelling.column_statistics
column_statistics_reprints = spelled_as (and_then name_reprints (λ n. at_key k.KwDistinct (and_then number_reprints (λ distinct. at_word width_spelled (and_last number_reprints (λ width. refl))))))

abbrev handed_spelling : ℤ × List (List ℕ × ℤ × ℤ) → Spelling
handed_spelling handed = written.key k.KwWith ∷ written.word (codes "rows") ∷ written.number handed.0 ∷ flat_map (λ c. written.sign s.Comma ∷ spelling.column_statistics c) handed.1

handed_reprints : Reprints rule.handed_statistics handed_spelling
handed_reprints = spelled_as (at_key k.KwWith (at_word rows_spelled (and_then number_reprints (λ rows. and_last (reprints_separated column_statistics_reprints) (λ columns. refl)))))

statistics_spelled_as : (table : List ℕ) (handed : Option (ℤ × List (List ℕ × ℤ × ℤ)))
    → written.key k.KwUpdate ∷ written.word (codes "statistics") ∷ written.name table ∷ if_any handed_spelling handed ≡ spelling.statement (rule.statistics_of table handed)
statistics_spelled_as table None = refl
statistics_spelled_as table (Some handed) = refl

statistics_reprints : Reprints rule.statistics spelling.statement
statistics_reprints = spelled_as (at_key k.KwUpdate (at_word statistics_spelled (and_then name_reprints (λ table. and_last (reprints_maybe handed_reprints) (statistics_spelled_as table)))))

budget_reprints : Reprints rule.budget spelling.statement
budget_reprints = spelled_as (and_then (spelled_as (at_key k.KwSet (and_text (word_reprints budget_spelled) (λ u. refl)))) (λ u. and_last number_reprints (λ n. refl)))

cost_reprints : Reprints rule.cost_constant spelling.statement
cost_reprints = spelled_as (at_key k.KwSet (at_word cost_spelled (and_then cost_part_reprints (λ part. and_last number_reprints (λ amount. refl)))))

module _ (g : Parentheses) (laws : ParenthesesReprint g) where
  explain_reprint : Reprints (rule.explain g) spelling.statement
  explain_reprint = reprints_either
      (reprints_made (spelled_as (at_word explain_spelled (and_text (select_reprint g laws) (λ q. refl)))) (λ q. refl))
      (reprints_made (spelled_as (and_then (spelled_as (at_word explain_spelled (and_text (word_reprints json_spelled) (λ u. refl)))) (λ u. and_text (select_reprint g laws) (λ q. refl)))) (λ q. refl))

  profile_reprint : Reprints (rule.profile g) spelling.statement
  profile_reprint = reprints_made (spelled_as (at_word profile_spelled (and_text (select_reprint g laws) (λ q. refl)))) (λ q. refl)

  check_plan_reprint : Reprints (rule.check_plan g) spelling.statement
  check_plan_reprint = spelled_as (at_word check_spelled (at_word plan_spelled (and_then text_reprints (λ file. at_word for_spelled (and_last (select_reprint g laws) (λ q. refl))))))

  statement_reprint : Reprints (rule.statement g) spelling.statement
  unfolding rule.statement
  statement_reprint = reprints_either create_reprints (reprints_either drop_reprints (reprints_either load_reprints (reprints_either statistics_reprints (reprints_either budget_reprints
      (reprints_either cost_reprints (reprints_either (reprints_made (select_reprint g laws) (λ q. refl))
      (reprints_either explain_reprint (reprints_either profile_reprint check_plan_reprint))))))))

-- ---- every level of parentheses

parentheses_reprint : (n : ℕ) → ParenthesesReprint (parentheses n)
unfolding parentheses
parentheses_reprint zero = record {
  star = record { from = λ w a r. absurd r };
  expr = record { from = λ w a r. absurd r };
  exprs = record { from = λ w a r. absurd r };
  cond = record { from = λ w a r. absurd r };
  query = record { from = λ w a r. absurd r };
  tables = record { from = λ w a r. absurd r };
}
parentheses_reprint (suc n) = let laws = parentheses_reprint n in record {
  star = sign_reprints s.Star;
  expr = expr_reprint (parentheses n) laws;
  exprs = reprints_listed (expr_reprint (parentheses n) laws);
  cond = cond_reprint (parentheses n) laws;
  query = query_reprint (parentheses n) laws;
  tables = table_reference_reprint (parentheses n) laws;
}

-- what the canonical spelling of a statement says is a text that means it
pub statement_means : (n : ℕ) (w : List Lexeme) (x : Statement) → rule.statement (parentheses n) w x → rule.statement (parentheses n) (sayings (spelling.statement x)) x
statement_means n w x r = ((statement_reprint (parentheses n) (parentheses_reprint n)).from w x r).means

-- where a statement's lexemes are valid, the tokens of its canonical spelling are well spelled
pub statement_spelled : (n : ℕ) (w : List Lexeme) (x : Statement) → rule.statement (parentheses n) w x → AllValid w → AllSpelled (spelling.statement x)
statement_spelled n w x r = ((statement_reprint (parentheses n) (parentheses_reprint n)).from w x r).spelled
