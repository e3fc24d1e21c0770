-- The readings of parentheses at each level owe what the laws of the rules take for granted.
use Rattle.std.proofs.Common.{ℕ, zero, suc, pos, Bool, false, List, [], ◌∷◌, Option, Some, None, refl, unwrap_or}
use Rattle.pdw_lex.specs.declared.keyword.Keyword.TheVariants.{KwFrom, KwSelect}
use Rattle.pdw_lex.specs.declared.sign.Sign.TheVariants as signs
use Rattle.pdw_lex.specs.declared.token.Lexeme.{Lexeme}
use Rattle.pdw_lex.specs.declared.token.Lexeme.TheVariants as lexeme
use Rattle.pdw_syntax.specs.Rule.{Empty, empty, one, Then, both, Either, first, second, absent, none, Enclosed}
use Rattle.pdw_syntax.specs.Parentheses.{no_parentheses}
use Rattle.pdw_syntax.specs.Exprs as expr_rule
use Rattle.pdw_syntax.specs.Tables as table_rule
use Rattle.pdw_syntax.specs.Queries as query_rule
use Rattle.pdw_syntax.specs.Texts.{parentheses}
use Rattle.pdw_syntax.specs.declared.expr.SqlExpr.TheVariants as e
use Rattle.pdw_syntax.specs.declared.query.Items.TheVariants as items_are
use Rattle.pdw_syntax.specs.declared.query.Primary.TheVariants as p
use Rattle.pdw_syntax.specs.declared.query.Query.{Query, roll-Query}
use Rattle.pdw_syntax.specs.declared.query.TableRef.{TableRef, roll-TableRef}
use Rattle.pdw_reading.specs.declared.content.Among.TheVariants as among_is
use Rattle.pdw_reading.specs.declared.content.Operand.TheVariants as operand_is
use Rattle.pdw_reading.specs.declared.content.Source.TheVariants as source_is
use Rattle.pdw_reading.specs.Levels.{nested, none_nested}
use Rattle.pdw_reading.specs.Reading.{Outcome}
use Rattle.pdw_reading.specs.ReadExprs as expr_read
use Rattle.pdw_reading.specs.ReadConds as cond_read
use Rattle.pdw_reading.specs.ReadQueries as query_read
use Rattle.pdw_reading.proofs.Law.{Lawful}
use Rattle.pdw_reading.proofs.ClosureParentheses.{closed_law, enclosed_law}
use Rattle.pdw_reading.proofs.ClosureNext.{same_law}
use Rattle.pdw_reading.proofs.CondLaws.{operand_content_law}
use Rattle.pdw_reading.proofs.ExprLaws.{expr_law, counted_content_law}
use Rattle.pdw_reading.proofs.Level.{LevelLaw}
use Rattle.pdw_reading.proofs.MoreClosure.{key_at, sign_at}
use Rattle.pdw_reading.proofs.QueryLaws.{query_law, among_content_law, source_content_law}
use Rattle.pdw_reading.proofs.Rules.{made, either_map, enclosed_either, enclosed_either_back, enclosed_made, enclosed_made_back}

-- ---- texts with no parentheses

-- 1
one_value : expr_rule.value no_parentheses (lexeme.Number (pos 1) ∷ []) (e.Number (pos 1))
unfolding expr_rule.value
one_value = first (made e.Number (lexeme.Number (pos 1) ∷ []) (pos 1) (one (lexeme.Number (pos 1)) refl))

one_signed : expr_rule.signed no_parentheses (lexeme.Number (pos 1) ∷ []) (e.Number (pos 1))
unfolding expr_rule.signed
one_signed = both [] (lexeme.Number (pos 1) ∷ []) absent (made (λ x. x) (lexeme.Number (pos 1) ∷ []) (e.Number (pos 1)) one_value)

one_product : expr_rule.product no_parentheses (lexeme.Number (pos 1) ∷ []) (e.Number (pos 1))
unfolding expr_rule.product
one_product = both (lexeme.Number (pos 1) ∷ []) [] one_signed (both [] [] none empty)

one_expr : expr_rule.expr no_parentheses (lexeme.Number (pos 1) ∷ []) (e.Number (pos 1))
unfolding expr_rule.expr
one_expr = both (lexeme.Number (pos 1) ∷ []) [] one_product (both [] [] none empty)

-- a name of a table
some_table : TableRef
some_table = roll-TableRef (record { first = p.Named [] None; joins = [] })

some_name : List Lexeme
some_name = lexeme.Name [] ∷ []

a_table : table_rule.table_reference no_parentheses some_name some_table
unfolding some_name some_table table_rule.table_reference table_rule.primary
a_table = both (lexeme.Name [] ∷ []) [] (first (both (lexeme.Name [] ∷ []) [] (one (lexeme.Name []) refl) (both [] [] absent empty))) (both [] [] none empty)

-- SELECT * FROM and that name
some_query : Query
some_query = roll-Query (record { distinct = false; items = items_are.Star; from = some_table ∷ []; filter = None; group = []; having = None })

a_query : query_rule.query no_parentheses (lexeme.Key KwSelect ∷ lexeme.Sign signs.Star ∷ lexeme.Key KwFrom ∷ some_name) some_query
unfolding some_name some_query query_rule.query query_rule.items table_rule.tables
a_query =
    both (lexeme.Key KwSelect ∷ []) (lexeme.Sign signs.Star ∷ lexeme.Key KwFrom ∷ some_name) (one (lexeme.Key KwSelect) (key_at KwSelect))
    (both [] (lexeme.Sign signs.Star ∷ lexeme.Key KwFrom ∷ some_name) (made (λ written. unwrap_or written false) [] None absent)
    (both (lexeme.Sign signs.Star ∷ []) (lexeme.Key KwFrom ∷ some_name)
    (first (both (lexeme.Sign signs.Star ∷ []) [] (one (lexeme.Sign signs.Star) (sign_at signs.Star)) empty))
    (both (lexeme.Key KwFrom ∷ []) some_name (one (lexeme.Key KwFrom) (key_at KwFrom))
    (both some_name [] (both some_name [] a_table (both [] [] none empty))
    (both [] [] absent (both [] [] (made (λ written. unwrap_or written []) [] None absent) (both [] [] absent empty)))))))

-- ---- what parentheses hold, one of two kinds

-- Texts of one of two rules in parentheses are texts of the one in parentheses or of the other in parentheses.
choice_enclosed : {A B C : Type 0} {n : ℕ} {R R' : List Lexeme → A → Type 0} {S S' : List Lexeme → B → Type 0} {r q : List Lexeme → Outcome C} {stops : Option Lexeme → Bool}
    (f : A → C) (h : B → C)
    → Lawful n (Enclosed (Either (Then R (λ a. Empty (f a))) (Then S (λ b. Empty (h b))))) (Enclosed (Either (Then R' (λ a. Empty (f a))) (Then S' (λ b. Empty (h b))))) r q stops
    → Lawful n (Either (Then (Enclosed R) (λ a. Empty (f a))) (Then (Enclosed S) (λ b. Empty (h b))))
    (Either (Then (Enclosed R') (λ a. Empty (f a))) (Then (Enclosed S') (λ b. Empty (h b)))) r q stops
choice_enclosed f h law = same_law
    (λ w c t. enclosed_either_back w c (either_map enclosed_made_back enclosed_made_back w c t))
    (λ w c t. either_map enclosed_made enclosed_made w c (enclosed_either w c t))
    (λ w c t. either_map enclosed_made enclosed_made w c (enclosed_either w c t)) law

-- no text of a rule that begins with one of a rule that has none, nor of one of two such rules
no_made : {A C : Type 0} (f : A → C) (w : List Lexeme) (c : C) → Then (λ u a. ⊥) (λ a. Empty (f a)) w c → ⊥
no_made f w c (both u v spells made_so) = spells

no_choice : {A B C : Type 0} (f : A → C) (h : B → C) (w : List Lexeme) (c : C)
    → Either (Then (λ u a. ⊥) (λ a. Empty (f a))) (Then (λ u b. ⊥) (λ b. Empty (h b))) w c → ⊥
no_choice f h w c (first t) = no_made f w c t
no_choice f h w c (second t) = no_made h w c t

-- where no parenthesis may be open
lowest_law : LevelLaw 0 (parentheses 0) (parentheses 1) (nested 0) (nested 1)
unfolding parentheses nested some_name
lowest_law = record {
  expr = closed_law (expr_read.expr none_nested) (λ w a t. t) (record { text = lexeme.Number (pos 1) ∷ []; means = e.Number (pos 1); spells = one_expr });
  counts = choice_enclosed (λ u. None) (λ x. Some x) (closed_law (expr_read.counted none_nested) (no_choice (λ u. None) (λ x. Some x))
      (record { text = lexeme.Number (pos 1) ∷ []; means = Some (e.Number (pos 1)); spells = second (made (λ x. Some x) (lexeme.Number (pos 1) ∷ []) (e.Number (pos 1)) one_expr) }));
  operands = choice_enclosed operand_is.Cond operand_is.Expr (closed_law (cond_read.operand none_nested) (no_choice operand_is.Cond operand_is.Expr)
      (record { text = lexeme.Number (pos 1) ∷ []; means = operand_is.Expr (e.Number (pos 1)); spells = second (made operand_is.Expr (lexeme.Number (pos 1) ∷ []) (e.Number (pos 1)) one_expr) }));
  amongs = choice_enclosed among_is.Query among_is.Exprs (closed_law (query_read.among none_nested) (no_choice among_is.Query among_is.Exprs)
      (record {
        text = lexeme.Key KwSelect ∷ lexeme.Sign signs.Star ∷ lexeme.Key KwFrom ∷ some_name;
        means = among_is.Query some_query;
        spells = first (made among_is.Query (lexeme.Key KwSelect ∷ lexeme.Sign signs.Star ∷ lexeme.Key KwFrom ∷ some_name) some_query a_query);
      }));
  query = closed_law (query_read.query none_nested) (λ w a t. t)
      (record { text = lexeme.Key KwSelect ∷ lexeme.Sign signs.Star ∷ lexeme.Key KwFrom ∷ some_name; means = some_query; spells = a_query });
  sources = choice_enclosed source_is.Query source_is.Tables (closed_law (query_read.source none_nested) (no_choice source_is.Query source_is.Tables)
      (record { text = some_name; means = source_is.Tables some_table; spells = second (made source_is.Tables some_name some_table a_table) }));
}

-- the level above one that owes this
higher_law : (n : ℕ) → LevelLaw n (parentheses n) (parentheses (suc n)) (nested n) (nested (suc n))
    → LevelLaw (suc n) (parentheses (suc n)) (parentheses (suc (suc n))) (nested (suc n)) (nested (suc (suc n)))
unfolding parentheses nested
higher_law n level = record {
  expr = enclosed_law (expr_law level) refl;
  counts = choice_enclosed (λ u. None) (λ x. Some x) (enclosed_law (counted_content_law level) refl);
  operands = choice_enclosed operand_is.Cond operand_is.Expr (enclosed_law (operand_content_law level) refl);
  amongs = choice_enclosed among_is.Query among_is.Exprs (enclosed_law (among_content_law level) refl);
  query = enclosed_law (query_law level) refl;
  sources = choice_enclosed source_is.Query source_is.Tables (enclosed_law (source_content_law level) refl);
}

pub level_law : (n : ℕ) → LevelLaw n (parentheses n) (parentheses (suc n)) (nested n) (nested (suc n))
level_law zero = lowest_law
level_law (suc n) = higher_law n (level_law n)
