-- Statements and scripts are read by their rules.
use Rattle.std.proofs.Common.{◌≡◌, ℕ, ℤ, suc, Bool, true, false, not, List, [], ◌∷◌, ◌++◌, Option, Some, None, refl, sym, subst, is_some, is_none, codes, append-nil, if◌then◌else◌, bytes_eq}
use Rattle.pdw_base.specs.declared.value.Kind.TheVariants as kind
use Rattle.pdw_lex.specs.declared.keyword.Keyword.TheVariants.{KwCreate, KwDistinct, KwDrop, KwFrom, KwNot, KwNull, KwSelect, KwSet, KwTable, KwUpdate, KwWith}
use Rattle.pdw_lex.specs.declared.sign.Sign.TheVariants.{Comma, Equal, Semicolon}
use Rattle.pdw_lex.specs.declared.token.Lexeme.{Lexeme}
use Rattle.pdw_lex.specs.declared.token.Lexeme.TheVariants as lexeme
use Rattle.pdw_syntax.specs.Rule.{Rule, Empty, empty, One, Then, both, Either, first, second, Maybe, absent, present, Many, Enclosed}
use Rattle.pdw_syntax.specs.Parentheses.{Parentheses}
use Rattle.pdw_syntax.specs.Lexemes.{same_keyword, same_sign, is_key, is_sign, is_word, number_of, kind_of, cost_part_of}
use Rattle.pdw_syntax.specs.Exprs.{listed}
use Rattle.pdw_syntax.specs.Queries.{select}
use Rattle.pdw_syntax.specs.Statements as rule
use Rattle.pdw_syntax.specs.Texts as texts
use Rattle.pdw_syntax.specs.declared.statement.CostPart.TheVariants as cost
use Rattle.pdw_syntax.specs.declared.statement.Statement.{Statement}
use Rattle.pdw_syntax.specs.declared.statement.Statement.TheVariants as s
use Rattle.pdw_reading.specs.Reading.{Outcome, read, stopped, Reader, and_then, ◌>>=◌, ◌>>◌, ◌<$>◌, pure, refuse, next, take}
use Rattle.pdw_reading.specs.ReadExprs.{Nested}
use Rattle.pdw_reading.specs.ReadQueries as read_queries
use Rattle.pdw_reading.specs.ReadStatements as reads
use Rattle.pdw_reading.proofs.Law.{Lawful, LawfulStep}
use Rattle.pdw_reading.proofs.Closure.{always, after, pure_law, one_law, narrower_law}
use Rattle.pdw_reading.proofs.ClosureMany.{maybe_law, many_law, begun_law}
use Rattle.pdw_reading.proofs.ClosureParentheses.{enclosed_law}
use Rattle.pdw_reading.proofs.ClosureNext.{same_law, equal_law}
use Rattle.pdw_reading.proofs.Rules.{made, then_map, either_map, then_assoc, then_assoc_back, then_either, then_either_back}
use Rattle.pdw_reading.proofs.Leads.{seen, unless, choose, narrower_key, narrower_sign, narrower_word, narrower_same, Leads, leads_one, leads_either, leads_first, leads_empty, leads_always, key_law, sign_law, word_law, name_law, number_law, text_law, made_law, in_all, in_turn, branch, by_test, made_then, made_then_back, then_twice}
use Rattle.pdw_reading.proofs.Steps.{if_next, step_law}
use Rattle.pdw_reading.proofs.Level.{LevelLaw}
use Rattle.pdw_reading.proofs.ExprLaws.{listed_law}
use Rattle.pdw_reading.proofs.CondLaws.{closes}
use Rattle.pdw_reading.proofs.QueryLaws.{select_law, leads_query, narrower_closes}

-- a semicolon follows a statement
abbrev pub ends_statement : Option Lexeme → Bool
ends_statement = seen (is_sign Semicolon)

-- ---- CREATE TABLE

-- [ NOT NULL ]: whether NULL is allowed
abbrev nullable : Rule Bool
nullable = Then (Maybe (Then (One (is_key KwNot)) (λ a. One (is_key KwNull)))) (λ o. Empty (is_none o))

-- the same, as it is read
abbrev nullable_read : Rule Bool
nullable_read = Then (Either (Then (One (is_key KwNot)) (λ a. Then (One (is_key KwNull)) (λ b. Empty true))) (Empty false)) (λ b. Empty (not b))

nullable_into : (w : List Lexeme) (b : Bool) → nullable w b → nullable_read w b
nullable_into w b (both u v absent empty) = both [] [] (second empty) empty
nullable_into w b (both u v (present (both x y negated null)) empty) = both (x ++ y) [] (first (both x y negated (made (λ a. true) y _ null))) empty

nullable_back : (w : List Lexeme) (b : Bool) → nullable_read w b → nullable w b
nullable_back w b (both u v (second empty) empty) = both [] [] absent empty
nullable_back w b (both u v (first (both x y negated (both p q null empty))) empty) = subst (λ z. nullable ((x ++ z) ++ []) false) (sym (append-nil p)) (both (x ++ p) [] (present (both x p negated null)) empty)

nullable_law : {n : ℕ} → Lawful n nullable nullable reads.nullable reads.nullable (unless (seen (is_key KwNot)))
unfolding reads.nullable
nullable_law =
    same_law nullable_into nullable_back nullable_back
    (made_law not (branch (is_key KwNot) refl refl reads.not_null_if reads.not_null_if (in_all (made_law (λ a. true) (key_law KwNull))) (in_all (pure_law false)) (leads_empty narrower_same)))

pub column_law : {n : ℕ} → Lawful n rule.column rule.column reads.column reads.column (unless (seen (is_key KwNot)))
unfolding reads.column
column_law =
    in_turn name_law
    (λ called. in_turn (one_law kind_of (lexeme.Name (codes "int")) kind.Int refl refl refl)
    (λ kind. same_law (made_then_back is_none) (made_then is_none) (made_then is_none) (made_law _ nullable_law))
    (λ kind. leads_always))
    (λ called. leads_always)

pub columns_law : {n : ℕ} → Lawful (suc n) (Enclosed (listed rule.column)) (Enclosed (listed rule.column)) reads.columns reads.columns always
unfolding reads.columns
columns_law = enclosed_law {stops = closes} (listed_law column_law refl (narrower_closes refl).into (narrower_closes refl).into) refl

pub placing_law : {n : ℕ} → Lawful (suc n) rule.placing rule.placing reads.placing reads.placing always
unfolding reads.placing
placing_law =
    same_law (either_map then_assoc (λ w a r. r)) (either_map then_assoc_back (λ w a r. r)) (either_map then_assoc_back (λ w a r. r))
    (branch (is_word (codes "hash")) refl refl reads.placing_if reads.placing_if
    (made_law Some (enclosed_law name_law refl))
    (made_law (λ a. None) (word_law (codes "replicate")))
    (leads_first (leads_one (narrower_word (codes "replicate") refl))))

pub distribution_law : {n : ℕ} → Lawful (suc n) rule.distribution rule.distribution reads.distribution reads.distribution always
unfolding reads.distribution same_sign
distribution_law =
    same_law then_assoc then_assoc_back then_assoc_back
    (in_turn (word_law (codes "distribution")) (λ a. in_turn (sign_law Equal refl refl) (λ b. placing_law) (λ b. leads_always)) (λ a. leads_always))

pub create_law : {n : ℕ} → Lawful (suc (suc n)) rule.create rule.create reads.create reads.create always
unfolding reads.create reads.create_with
create_law =
    in_turn (key_law KwCreate)
    (λ a. in_turn (key_law KwTable)
    (λ b. in_turn name_law
    (λ table. in_turn columns_law
    (λ defined. in_turn (key_law KwWith) (λ c. made_law _ (enclosed_law distribution_law refl)) (λ c. leads_always))
    (λ defined. leads_always))
    (λ table. leads_always))
    (λ b. leads_always))
    (λ a. leads_always)

-- ---- other statements that hold no query

pub drop_table_law : {n : ℕ} → Lawful n rule.drop_table rule.drop_table reads.drop_table reads.drop_table always
unfolding reads.drop_table
drop_table_law =
    same_law then_assoc then_assoc_back then_assoc_back
    (in_turn (key_law KwDrop) (λ a. in_turn (key_law KwTable) (λ b. made_law s.Drop name_law) (λ b. leads_always)) (λ a. leads_always))

pub load_law : {n : ℕ} → Lawful n rule.load rule.load reads.load reads.load always
unfolding reads.load
load_law =
    in_turn (word_law (codes "load"))
    (λ a. in_turn name_law (λ table. in_turn (key_law KwFrom) (λ b. made_law (s.Load table) text_law) (λ b. leads_always)) (λ table. leads_always))
    (λ a. leads_always)

pub column_statistics_law : {n : ℕ} → Lawful n rule.column_statistics rule.column_statistics reads.column_statistics reads.column_statistics always
unfolding reads.column_statistics
column_statistics_law =
    in_turn name_law
    (λ column. in_turn (key_law KwDistinct)
    (λ a. in_turn number_law
    (λ distinct. in_turn (word_law (codes "width")) (λ b. made_law _ number_law) (λ b. leads_always))
    (λ distinct. leads_always))
    (λ a. leads_always))
    (λ column. leads_always)

-- after WITH
abbrev handed : Rule (ℤ × List (List ℕ × ℤ × ℤ))
handed = Then (One (is_word (codes "rows"))) (λ a. Then (One number_of) (λ rows. Then (Many (Then (One (is_sign Comma)) (λ b. rule.column_statistics))) (λ columns. Empty (rows, columns))))

handed_law : {n : ℕ} → Lawful n handed handed reads.handed_statistics reads.handed_statistics (unless (seen (is_sign Comma)))
unfolding reads.handed_statistics same_sign
handed_law =
    in_turn (word_law (codes "rows"))
    (λ a. in_turn number_law
    (λ rows. made_law _ (many_law (begun_law (is_sign Comma) refl refl (λ b. column_statistics_law)) (λ l e. refl)))
    (λ rows. leads_always))
    (λ a. leads_always)

pub statistics_law : {n : ℕ} → Lawful n rule.statistics rule.statistics reads.statistics reads.statistics ends_statement
unfolding reads.statistics same_sign
statistics_law =
    in_turn (key_law KwUpdate)
    (λ a. in_turn (word_law (codes "statistics"))
    (λ b. in_turn name_law
    (λ table. made_law _ (narrower_law (maybe_law (begun_law (is_key KwWith) refl refl (λ c. handed_law))) (narrower_sign Semicolon refl).into))
    (λ table. leads_always))
    (λ b. leads_always))
    (λ a. leads_always)

cost_law : {n : ℕ} → Lawful n (Then (One (is_word (codes "cost"))) (λ a. Then (One cost_part_of) (λ part. Then (One number_of) (λ amount. Empty (s.Cost part amount)))))
    (Then (One (is_word (codes "cost"))) (λ a. Then (One cost_part_of) (λ part. Then (One number_of) (λ amount. Empty (s.Cost part amount))))) reads.cost_of reads.cost_of always
cost_law =
    in_turn (word_law (codes "cost"))
    (λ a. in_turn (one_law cost_part_of (lexeme.Name (codes "reader")) cost.Reader refl refl refl) (λ part. made_law (s.Cost part) number_law) (λ part. leads_always))
    (λ a. leads_always)

-- SET BUDGET or SET COST
abbrev setting : Rule Statement
setting = Either rule.budget rule.cost_constant

pub setting_law : {n : ℕ} → Lawful n setting setting reads.setting reads.setting always
unfolding reads.setting
setting_law =
    same_law (λ w x r. then_either_back w x (either_map then_assoc (λ v y q. q) w x r))
    (λ w x r. either_map then_assoc_back (λ v y q. q) w x (then_either w x r)) (λ w x r. either_map then_assoc_back (λ v y q. q) w x (then_either w x r))
    (in_turn (key_law KwSet)
    (λ a. branch (is_word (codes "budget")) refl refl reads.setting_if reads.setting_if (made_law s.Budget number_law) cost_law
    (leads_first (leads_one (narrower_word (codes "cost") refl))))
    (λ a. leads_always))

-- ---- statements that hold a SELECT

-- EXPLAIN as it is read
abbrev explained : Parentheses → Rule Statement
explained g = Then (One (is_word (codes "explain")))
    (λ a. Either (Then (One (is_word (codes "json"))) (λ b. Then (select g) (λ q. Empty (s.ExplainJson q)))) (Then (select g) (λ q. Empty (s.Explain q))))

module _ (g : Parentheses) where
  explain_into : (w : List Lexeme) (x : Statement) → rule.explain g w x → explained g w x
  explain_into w x (first spells) = then_map (λ v y q. q) (λ y v z q. second q) w x (then_assoc w x spells)
  explain_into w x (second spells) = then_map (λ v y q. q) (λ y v z q. first q) w x (then_assoc w x (then_assoc w x spells))

  explain_back : (w : List Lexeme) (x : Statement) → explained g w x → rule.explain g w x
  explain_back w x (both u v explain (second spells)) = first (then_assoc_back (u ++ v) x (both u v explain spells))
  explain_back w x (both u v explain (first spells)) = second (then_assoc_back (u ++ v) x (then_assoc_back (u ++ v) x (both u v explain spells)))

  leads_select : {t s : Option Lexeme → Bool} → s (Some (lexeme.Key KwSelect)) ≡ true → Leads (select g) t s
  unfolding select
  leads_select at_select = leads_first (leads_query g at_select)

-- the statements in the rule's order, where SET is read at once
abbrev from_check : Parentheses → Rule Statement
from_check g = rule.check_plan g

abbrev from_profile : Parentheses → Rule Statement
from_profile g = Either (rule.profile g) (from_check g)

abbrev from_explain : Parentheses → Rule Statement
from_explain g = Either (rule.explain g) (from_profile g)

abbrev from_select : Parentheses → Rule Statement
from_select g = Either (Then (select g) (λ q. Empty (s.Select q))) (from_explain g)

abbrev from_set : Parentheses → Rule Statement
from_set g = Either setting (from_select g)

abbrev from_update : Parentheses → Rule Statement
from_update g = Either rule.statistics (from_set g)

abbrev from_load : Parentheses → Rule Statement
from_load g = Either rule.load (from_update g)

abbrev from_drop : Parentheses → Rule Statement
from_drop g = Either rule.drop_table (from_load g)

abbrev from_create : Parentheses → Rule Statement
from_create g = Either rule.create (from_drop g)

module _ (g : Parentheses) where
  statement_into : (w : List Lexeme) (x : Statement) → rule.statement g w x → from_create g w x
  unfolding rule.statement
  statement_into w x (first spells) = first spells
  statement_into w x (second (first spells)) = second (first spells)
  statement_into w x (second (second (first spells))) = second (second (first spells))
  statement_into w x (second (second (second (first spells)))) = second (second (second (first spells)))
  statement_into w x (second (second (second (second (first spells))))) = second (second (second (second (first (first spells)))))
  statement_into w x (second (second (second (second (second (first spells)))))) = second (second (second (second (first (second spells)))))
  statement_into w x (second (second (second (second (second (second spells)))))) = second (second (second (second (second spells))))

  statement_back : (w : List Lexeme) (x : Statement) → from_create g w x → rule.statement g w x
  unfolding rule.statement
  statement_back w x (first spells) = first spells
  statement_back w x (second (first spells)) = second (first spells)
  statement_back w x (second (second (first spells))) = second (second (first spells))
  statement_back w x (second (second (second (first spells)))) = second (second (second (first spells)))
  statement_back w x (second (second (second (second (first (first spells)))))) = second (second (second (second (first spells))))
  statement_back w x (second (second (second (second (first (second spells)))))) = second (second (second (second (second (first spells)))))
  statement_back w x (second (second (second (second (second spells))))) = second (second (second (second (second (second spells)))))

  -- what the statements begin with
  module _ {s : Option Lexeme → Bool} where
    leads_check : {t : Option Lexeme → Bool} → s (Some (lexeme.Name (codes "check"))) ≡ true → Leads (from_check g) t s
    leads_check check = leads_first (leads_one (narrower_word (codes "check") check))

    leads_profile : {t : Option Lexeme → Bool} → s (Some (lexeme.Name (codes "profile"))) ≡ true → s (Some (lexeme.Name (codes "check"))) ≡ true → Leads (from_profile g) t s
    leads_profile profile check = leads_either (leads_first (leads_first (leads_one (narrower_word (codes "profile") profile)))) (leads_check check)

    leads_explain : {t : Option Lexeme → Bool} → s (Some (lexeme.Name (codes "explain"))) ≡ true → s (Some (lexeme.Name (codes "profile"))) ≡ true
        → s (Some (lexeme.Name (codes "check"))) ≡ true → Leads (from_explain g) t s
    leads_explain explain profile check =
        leads_either
        (leads_either (leads_first (leads_first (leads_one (narrower_word (codes "explain") explain)))) (leads_first (leads_first (leads_first (leads_one (narrower_word (codes "explain") explain))))))
        (leads_profile profile check)

    leads_selected : {t : Option Lexeme → Bool} → s (Some (lexeme.Key KwSelect)) ≡ true → s (Some (lexeme.Name (codes "explain"))) ≡ true → s (Some (lexeme.Name (codes "profile"))) ≡ true
        → s (Some (lexeme.Name (codes "check"))) ≡ true → Leads (from_select g) t s
    leads_selected selected explain profile check = leads_either (leads_first (leads_select g selected)) (leads_explain explain profile check)

    leads_set : {t : Option Lexeme → Bool} → s (Some (lexeme.Key KwSet)) ≡ true → s (Some (lexeme.Key KwSelect)) ≡ true → s (Some (lexeme.Name (codes "explain"))) ≡ true
        → s (Some (lexeme.Name (codes "profile"))) ≡ true → s (Some (lexeme.Name (codes "check"))) ≡ true → Leads (from_set g) t s
    leads_set set selected explain profile check =
        leads_either (leads_either (leads_first (leads_first (leads_one (narrower_key KwSet set)))) (leads_first (leads_one (narrower_key KwSet set)))) (leads_selected selected explain profile check)

    leads_update : {t : Option Lexeme → Bool} → s (Some (lexeme.Key KwUpdate)) ≡ true → s (Some (lexeme.Key KwSet)) ≡ true → s (Some (lexeme.Key KwSelect)) ≡ true
        → s (Some (lexeme.Name (codes "explain"))) ≡ true → s (Some (lexeme.Name (codes "profile"))) ≡ true → s (Some (lexeme.Name (codes "check"))) ≡ true → Leads (from_update g) t s
    leads_update update set selected explain profile check = leads_either (leads_first (leads_one (narrower_key KwUpdate update))) (leads_set set selected explain profile check)

    leads_load : {t : Option Lexeme → Bool} → s (Some (lexeme.Name (codes "load"))) ≡ true → s (Some (lexeme.Key KwUpdate)) ≡ true → s (Some (lexeme.Key KwSet)) ≡ true → s (Some (lexeme.Key KwSelect)) ≡ true
        → s (Some (lexeme.Name (codes "explain"))) ≡ true → s (Some (lexeme.Name (codes "profile"))) ≡ true → s (Some (lexeme.Name (codes "check"))) ≡ true → Leads (from_load g) t s
    leads_load load update set selected explain profile check = leads_either (leads_first (leads_one (narrower_word (codes "load") load))) (leads_update update set selected explain profile check)

    leads_drop : {t : Option Lexeme → Bool} → s (Some (lexeme.Key KwDrop)) ≡ true → s (Some (lexeme.Name (codes "load"))) ≡ true → s (Some (lexeme.Key KwUpdate)) ≡ true → s (Some (lexeme.Key KwSet)) ≡ true
        → s (Some (lexeme.Key KwSelect)) ≡ true → s (Some (lexeme.Name (codes "explain"))) ≡ true → s (Some (lexeme.Name (codes "profile"))) ≡ true → s (Some (lexeme.Name (codes "check"))) ≡ true
        → Leads (from_drop g) t s
    leads_drop drop load update set selected explain profile check =
        leads_either (leads_first (leads_first (leads_one (narrower_key KwDrop drop)))) (leads_load load update set selected explain profile check)

  -- a statement has a first lexeme
  leads_statement : {t : Option Lexeme → Bool} → Leads (rule.statement g) t is_some
  unfolding rule.statement
  leads_statement {t} = record { leads = λ w x rest spells stops. begun.leads w x rest (statement_into w x spells) stops }
    where
      begun : Leads (from_create g) t is_some
      begun = leads_either (leads_first (leads_one (narrower_key KwCreate refl))) (leads_drop refl refl refl refl refl refl refl refl)

-- ---- the readers in the same order

module _ (k : Nested) where
  read_selected : Reader Statement
  read_selected = s.Select <$> read_queries.select k

  read_from_profile : Reader Statement
  read_from_profile = λ ts. choose (reads.profile k) (reads.check_plan k) (seen (is_word (codes "profile")) (next ts)) ts

  read_from_explain : Reader Statement
  read_from_explain = λ ts. choose (reads.explain k) read_from_profile (seen (is_word (codes "explain")) (next ts)) ts

  read_from_select : Reader Statement
  read_from_select = λ ts. choose read_selected read_from_explain (seen (is_key KwSelect) (next ts)) ts

  read_from_set : Reader Statement
  read_from_set = λ ts. choose reads.setting read_from_select (seen (is_key KwSet) (next ts)) ts

  read_from_update : Reader Statement
  read_from_update = λ ts. choose reads.statistics read_from_set (seen (is_key KwUpdate) (next ts)) ts

  read_from_load : Reader Statement
  read_from_load = λ ts. choose reads.load read_from_update (seen (is_word (codes "load")) (next ts)) ts

  read_from_drop : Reader Statement
  read_from_drop = λ ts. choose reads.drop_table read_from_load (seen (is_key KwDrop) (next ts)) ts

  read_from_create : Reader Statement
  read_from_create = λ ts. choose reads.create read_from_drop (seen (is_key KwCreate) (next ts)) ts

  -- by a word
  by_word : (b : Bool) (r q q' : Reader Statement) (ts : List Lexeme) → q ts ≡ q' ts → (if b then r else q) ts ≡ choose r q' (is_some (if b then Some (tt {0}) else None)) ts
  by_word true r q q' ts same = refl
  by_word false r q q' ts same = same

  -- no other word begins a statement
  last_word : (m : List ℕ) (ts : List Lexeme) (b : Bool) → bytes_eq m (codes "check") ≡ b → (if b then reads.check_plan k else refuse) (lexeme.Name m ∷ ts) ≡ reads.check_plan k (lexeme.Name m ∷ ts)
  unfolding reads.check_plan take
  last_word m ts true e = refl
  last_word m ts false e = rw e refl

  statement_by_first : (ts : List Lexeme) → reads.statement k ts ≡ read_from_create ts
  unfolding reads.statement reads.worded reads.check_plan take read_from_create read_from_drop read_from_load read_from_update read_from_set read_from_select read_from_explain read_from_profile read_selected same_keyword
  statement_by_first [] = refl
  statement_by_first (lexeme.Name m ∷ ts) =
      by_word (bytes_eq m (codes "load")) reads.load _ _ (lexeme.Name m ∷ ts)
      (by_word (bytes_eq m (codes "explain")) (reads.explain k) _ _ (lexeme.Name m ∷ ts)
      (by_word (bytes_eq m (codes "profile")) (reads.profile k) _ _ (lexeme.Name m ∷ ts) (last_word m ts (bytes_eq m (codes "check")) refl)))
  statement_by_first (lexeme.Key KwCreate ∷ ts) = refl
  statement_by_first (lexeme.Key m ∷ ts) = refl
  statement_by_first (lexeme.Sign m ∷ ts) = refl
  statement_by_first (lexeme.Number m ∷ ts) = refl
  statement_by_first (lexeme.Text m ∷ ts) = refl

module _ {n : ℕ} {g g' : Parentheses} {k k' : Nested} (level : LevelLaw n g g' k k') where
  pub explain_law : Lawful n (rule.explain g) (rule.explain g') (reads.explain k) (reads.explain k') ends_statement
  unfolding reads.explain
  explain_law =
      same_law (explain_into g) (explain_back g) (explain_back g')
      (in_turn (word_law (codes "explain"))
      (λ a. branch (is_word (codes "json")) refl refl (reads.explained_if k) (reads.explained_if k')
      (made_law s.ExplainJson (select_law level)) (made_law s.Explain (select_law level)) (leads_first (leads_select g refl)))
      (λ a. leads_always))

  pub profile_law : Lawful n (rule.profile g) (rule.profile g') (reads.profile k) (reads.profile k') ends_statement
  unfolding reads.profile
  profile_law =
      same_law then_assoc then_assoc_back then_assoc_back
      (in_turn (word_law (codes "profile")) (λ a. made_law s.Profile (select_law level)) (λ a. leads_always))

  pub check_plan_law : Lawful n (rule.check_plan g) (rule.check_plan g') (reads.check_plan k) (reads.check_plan k') ends_statement
  unfolding reads.check_plan
  check_plan_law =
      in_turn (word_law (codes "check"))
      (λ a. in_turn (word_law (codes "plan"))
      (λ b. in_turn text_law
      (λ file. in_turn (word_law (codes "for")) (λ c. made_law (s.CheckPlan file) (select_law level)) (λ c. leads_always))
      (λ file. leads_always))
      (λ b. leads_always))
      (λ a. leads_always)

  profile_or_check_law : Lawful n (from_profile g) (from_profile g') (read_from_profile k) (read_from_profile k') ends_statement
  unfolding read_from_profile
  profile_or_check_law =
      by_test (seen (is_word (codes "profile"))) (choose (reads.profile k) (reads.check_plan k)) (choose (reads.profile k') (reads.check_plan k')) profile_law check_plan_law
      (leads_first (leads_first (leads_one narrower_same))) (leads_check g refl)

  explain_or_law : Lawful n (from_explain g) (from_explain g') (read_from_explain k) (read_from_explain k') ends_statement
  unfolding read_from_explain
  explain_or_law =
      by_test (seen (is_word (codes "explain"))) (choose (reads.explain k) (read_from_profile k)) (choose (reads.explain k') (read_from_profile k')) explain_law profile_or_check_law
      (leads_either (leads_first (leads_first (leads_one narrower_same))) (leads_first (leads_first (leads_first (leads_one narrower_same))))) (leads_profile g refl refl)

  select_or_law : Lawful n (from_select g) (from_select g') (read_from_select k) (read_from_select k') ends_statement
  unfolding read_from_select read_selected same_keyword
  select_or_law =
      by_test (seen (is_key KwSelect)) (choose (read_selected k) (read_from_explain k)) (choose (read_selected k') (read_from_explain k')) (made_law s.Select (select_law level)) explain_or_law
      (leads_first (leads_select g refl)) (leads_explain g refl refl refl)

  set_or_law : Lawful n (from_set g) (from_set g') (read_from_set k) (read_from_set k') ends_statement
  unfolding read_from_set same_keyword
  set_or_law =
      by_test (seen (is_key KwSet)) (choose reads.setting (read_from_select k)) (choose reads.setting (read_from_select k')) (in_all setting_law) select_or_law
      (leads_either (leads_first (leads_first (leads_one narrower_same))) (leads_first (leads_one narrower_same))) (leads_selected g refl refl refl refl)

  update_or_law : Lawful n (from_update g) (from_update g') (read_from_update k) (read_from_update k') ends_statement
  unfolding read_from_update same_keyword
  update_or_law =
      by_test (seen (is_key KwUpdate)) (choose reads.statistics (read_from_set k)) (choose reads.statistics (read_from_set k')) statistics_law set_or_law
      (leads_first (leads_one narrower_same)) (leads_set g refl refl refl refl refl)

  load_or_law : Lawful n (from_load g) (from_load g') (read_from_load k) (read_from_load k') ends_statement
  unfolding read_from_load
  load_or_law =
      by_test (seen (is_word (codes "load"))) (choose reads.load (read_from_update k)) (choose reads.load (read_from_update k')) (in_all load_law) update_or_law
      (leads_first (leads_one narrower_same)) (leads_update g refl refl refl refl refl refl)

  drop_or_law : Lawful n (from_drop g) (from_drop g') (read_from_drop k) (read_from_drop k') ends_statement
  unfolding read_from_drop same_keyword
  drop_or_law =
      by_test (seen (is_key KwDrop)) (choose reads.drop_table (read_from_load k)) (choose reads.drop_table (read_from_load k')) (in_all drop_table_law) load_or_law
      (leads_first (leads_first (leads_one narrower_same))) (leads_load g refl refl refl refl refl refl refl)

-- CREATE TABLE has parentheses inside parentheses
module _ {n : ℕ} {g g' : Parentheses} {k k' : Nested} (level : LevelLaw (suc (suc n)) g g' k k') where
  create_or_law : Lawful (suc (suc n)) (from_create g) (from_create g') (read_from_create k) (read_from_create k') ends_statement
  unfolding read_from_create same_keyword
  create_or_law =
      by_test (seen (is_key KwCreate)) (choose reads.create (read_from_drop k)) (choose reads.create (read_from_drop k')) (in_all create_law) (drop_or_law level)
      (leads_first (leads_one narrower_same)) (leads_drop g refl refl refl refl refl refl refl refl)

  pub statement_law : Lawful (suc (suc n)) (rule.statement g) (rule.statement g') (reads.statement k) (reads.statement k') ends_statement
  statement_law = same_law (statement_into g) (statement_back g) (statement_back g') (equal_law (statement_by_first k) (statement_by_first k') create_or_law)

-- ---- scripts

-- a statement and its semicolon
abbrev ended : Parentheses → Rule Statement
ended g = Then (rule.statement g) (λ x. Then (One (is_sign Semicolon)) (λ a. Empty x))

read_ended : Nested → Reader Statement
read_ended k = reads.statement k >>= (λ x. take (is_sign Semicolon) >> pure x)

some_ended : (o : Outcome Statement)
    → and_then o (λ x us. and_then (take (is_sign Semicolon) us) (λ a vs. read (Some x) vs))
    ≡ and_then (and_then o (λ x us. and_then (take (is_sign Semicolon) us) (λ a vs. read x vs))) (λ x vs. read (Some x) vs)
some_ended (read x ts) = sym (then_twice (take (is_sign Semicolon) ts) (λ a vs. read x vs) (λ y vs. read (Some y) vs))
some_ended (stopped why ts) = refl

next_by_end : (k : Nested) (ts : List Lexeme) → reads.next_statement k ts ≡ if_next is_some (read_ended k) ts
unfolding reads.next_statement read_ended
next_by_end k [] = refl
next_by_end k (l ∷ ts) = some_ended (reads.statement k (l ∷ ts))

none_next : (o : Option Lexeme) → is_none o ≡ true → after always is_some o ≡ true
none_next None e = refl
none_next (Some l) e = e

module _ {n : ℕ} {g g' : Parentheses} {k k' : Nested} (level : LevelLaw (suc (suc n)) g g' k k') where
  pub next_statement_law : LawfulStep (suc (suc n)) (ended g) (ended g') (reads.next_statement k) (reads.next_statement k') always is_some
  unfolding read_ended same_sign
  next_statement_law =
      step_law is_some (next_by_end k) (next_by_end k')
      (in_turn (statement_law level) (λ x. made_law (λ a. x) (sign_law Semicolon refl refl)) (λ x. leads_first (leads_one narrower_same)))
      refl (leads_first (leads_statement g))

  -- a script goes to the end
  pub script_law : Lawful (suc (suc n)) (texts.script g) (texts.script g') (reads.script k) (reads.script k') is_none
  unfolding reads.script
  script_law = narrower_law (many_law next_statement_law (λ l e. refl)) none_next
