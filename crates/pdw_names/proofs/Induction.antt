-- The induction over queries and what stands in them: each part's walk and meaning agree.
use Rattle.std.proofs.Common.{◌≡◌, List, [], ◌∷◌, map, Option, Some, None, refl, sym, ap, subst, subst₂, ◌∙◌, arith}
use Rattle.pdw_syntax.specs.declared.query.Primary.{Primary}
use Rattle.pdw_syntax.specs.declared.query.Primary.TheViews.{roll-Primary, roll-SqlCond}
use Rattle.pdw_syntax.specs.declared.query.SqlCond.{SqlCond}
use Rattle.pdw_syntax.specs.declared.query.JoinPart.{JoinPart, roll-JoinPart}
use Rattle.pdw_syntax.specs.declared.query.Query.{Query, roll-Query}
use Rattle.pdw_syntax.specs.declared.query.TableRef.{TableRef, roll-TableRef}
use Rattle.pdw_syntax.specs.declared.expr.SqlExpr.{SqlExpr}
use Rattle.pdw_syntax.specs.declared.query.Primary.TheOpen.{Primary-F, SqlCond-F, JoinPart-F, Query-F, TableRef-F}
use Rattle.pdw_syntax.specs.declared.query.Primary.TheFolds.{fold-Primary, fold-SqlCond, fold-JoinPart, fold-Query, fold-TableRef, fold-roll-Primary, fold-roll-SqlCond, fold-roll-JoinPart, fold-roll-Query, fold-roll-TableRef, ind-Query, map-SqlCond, map-Primary, map-JoinPart, map-TableRef, map-Query}
use Rattle.std.proofs.lemmas.Option.{none-some}
use Rattle.pdw_syntax.specs.declared.query.Select.{Select}
use Rattle.pdw_base.specs.declared.truth.Truth.{Truth}
use Rattle.pdw_catalog.specs.Database.{Database}
use Rattle.pdw_expr.specs.Env.{nulls}
use Rattle.pdw_names.proofs.CondMeaningLaws.{all_means, any_means, between_means, compare_means, exists_means, in_list_means, in_query_means, like_means, not_means, null_means, paren_cond_means, test_means}
use Rattle.pdw_names.proofs.FromMeaningLaws.{derived_table_means, join_part_means, named_means, paren_means, table_ref_means}
use Rattle.pdw_walk.proofs.Outcomes.{in_turn, done_value}
use Rattle.pdw_form.proofs.Related.{Related, none, more}
use Rattle.pdw_names.proofs.Relations.{CondIf, CondMeans, ElementMeans, ExprMeans, JoinMeans, Proper, QueryMeans}
use Rattle.pdw_semantics.specs.Answer.{answer}
use Rattle.pdw_semantics.specs.Conds.{QueryMeaning, truth_step}
use Rattle.pdw_semantics.specs.Environment.{Group}
use Rattle.pdw_semantics.specs.Exprs as named
use Rattle.pdw_semantics.specs.Froms.{ElementMeaning, JoinMeaning}
use Rattle.pdw_semantics.specs.Froms as meaning
use Rattle.pdw_form.specs.Numbered.{numbered, numbered_answer, row_values}
use Rattle.pdw_semantics.specs.Queries as meaning_of
use Rattle.pdw_walk.specs.Conds.{Condition, QueryWalk, cond_step}
use Rattle.pdw_walk.specs.Exprs.{expr}
use Rattle.pdw_walk.specs.Froms.{ElementWalk, JoinWalk}
use Rattle.pdw_walk.specs.Froms as walk
use Rattle.pdw_walk.specs.Queries as walk_of
use Rattle.pdw_walk.specs.Walk.{Walk, beginning, done, each, pure}
use Rattle.pdw_walk.specs.declared.entry.Role.TheVariants as role
use Rattle.pdw_form.specs.declared.judged.JudgedSelect.{JudgedSelect}

module _ (database : Database) (expr-means : (x : SqlExpr) → ExprMeans (expr x) (named.value_of x))
    (query_layer : (q : walk_of.Text) (q' : meaning_of.Text) → q.distinct ≡ q'.distinct → q.items ≡ q'.items → q.group ≡ q'.group
    → Related (ElementMeans database) q.from q'.from → CondIf database q.filter q'.filter → CondIf database q.having q'.having → QueryMeans database (walk_of.query_step q) (meaning_of.query_step q')) where
  abbrev primary_walk : Primary → ElementWalk
  primary_walk = fold-Primary ElementWalk Condition JoinWalk QueryWalk ElementWalk walk.primary_step cond_step walk.join_step walk_of.query_step walk.table_ref_step

  abbrev cond_walk : SqlCond → Condition
  cond_walk = fold-SqlCond ElementWalk Condition JoinWalk QueryWalk ElementWalk walk.primary_step cond_step walk.join_step walk_of.query_step walk.table_ref_step

  abbrev join_walk : JoinPart → JoinWalk
  join_walk = fold-JoinPart ElementWalk Condition JoinWalk QueryWalk ElementWalk walk.primary_step cond_step walk.join_step walk_of.query_step walk.table_ref_step

  abbrev query_walk : Query → QueryWalk
  query_walk = fold-Query ElementWalk Condition JoinWalk QueryWalk ElementWalk walk.primary_step cond_step walk.join_step walk_of.query_step walk.table_ref_step

  abbrev table_walk : TableRef → ElementWalk
  table_walk = fold-TableRef ElementWalk Condition JoinWalk QueryWalk ElementWalk walk.primary_step cond_step walk.join_step walk_of.query_step walk.table_ref_step

  abbrev primary_meaning : Primary → ElementMeaning
  primary_meaning = fold-Primary ElementMeaning (Group → Truth) JoinMeaning QueryMeaning ElementMeaning (meaning.primary_step database) truth_step (meaning.join_step database) meaning_of.query_step (meaning.table_ref_step database)

  abbrev cond_meaning : SqlCond → Group → Truth
  cond_meaning = fold-SqlCond ElementMeaning (Group → Truth) JoinMeaning QueryMeaning ElementMeaning (meaning.primary_step database) truth_step (meaning.join_step database) meaning_of.query_step (meaning.table_ref_step database)

  abbrev join_meaning : JoinPart → JoinMeaning
  join_meaning = fold-JoinPart ElementMeaning (Group → Truth) JoinMeaning QueryMeaning ElementMeaning (meaning.primary_step database) truth_step (meaning.join_step database) meaning_of.query_step (meaning.table_ref_step database)

  abbrev query_meaning : Query → QueryMeaning
  query_meaning = fold-Query ElementMeaning (Group → Truth) JoinMeaning QueryMeaning ElementMeaning (meaning.primary_step database) truth_step (meaning.join_step database) meaning_of.query_step (meaning.table_ref_step database)

  abbrev table_meaning : TableRef → ElementMeaning
  table_meaning = fold-TableRef ElementMeaning (Group → Truth) JoinMeaning QueryMeaning ElementMeaning (meaning.primary_step database) truth_step (meaning.join_step database) meaning_of.query_step (meaning.table_ref_step database)

  -- ---- what is proved of each

  abbrev PrimaryLaw : Primary → Type 0
  PrimaryLaw x = ElementMeans database (primary_walk x) (primary_meaning x)

  abbrev CondLaw : SqlCond → Type 0
  CondLaw x = CondMeans database (cond_walk x) (cond_meaning x)

  abbrev JoinLaw : JoinPart → Type 0
  JoinLaw x = JoinMeans database (join_walk x) (join_meaning x)

  abbrev QueryLaw : Query → Type 0
  QueryLaw x = QueryMeans database (query_walk x) (query_meaning x)

  abbrev TableLaw : TableRef → Type 0
  TableLaw x = ElementMeans database (table_walk x) (table_meaning x)

  abbrev KnownPrimary : Type 0
  KnownPrimary = (x : Primary) × PrimaryLaw x

  abbrev KnownCond : Type 0
  KnownCond = (x : SqlCond) × CondLaw x

  abbrev KnownJoin : Type 0
  KnownJoin = (x : JoinPart) × JoinLaw x

  abbrev KnownQuery : Type 0
  KnownQuery = (x : Query) × QueryLaw x

  abbrev KnownTable : Type 0
  KnownTable = (x : TableRef) × TableLaw x

  -- ---- elements of FROM

  abbrev known_primary : Primary-F KnownPrimary KnownCond KnownJoin KnownQuery KnownTable → Primary-F Primary SqlCond JoinPart Query TableRef
  known_primary = map-Primary KnownPrimary KnownCond KnownJoin KnownQuery KnownTable Primary SqlCond JoinPart Query TableRef (λ e. e.0) (λ e. e.0) (λ e. e.0) (λ e. e.0) (λ e. e.0)

  abbrev primary_walks : Primary-F Primary SqlCond JoinPart Query TableRef → Primary-F ElementWalk Condition JoinWalk QueryWalk ElementWalk
  primary_walks = map-Primary Primary SqlCond JoinPart Query TableRef ElementWalk Condition JoinWalk QueryWalk ElementWalk primary_walk cond_walk join_walk query_walk table_walk

  abbrev primary_meanings : Primary-F Primary SqlCond JoinPart Query TableRef → Primary-F ElementMeaning (Group → Truth) JoinMeaning QueryMeaning ElementMeaning
  primary_meanings = map-Primary Primary SqlCond JoinPart Query TableRef ElementMeaning (Group → Truth) JoinMeaning QueryMeaning ElementMeaning primary_meaning cond_meaning join_meaning query_meaning table_meaning

  primary_layer : (y : Primary-F KnownPrimary KnownCond KnownJoin KnownQuery KnownTable) → ElementMeans database (walk.primary_step (primary_walks (known_primary y))) (meaning.primary_step database (primary_meanings (known_primary y)))
  primary_layer (Primary-F.Named table alias) = named_means database table alias
  primary_layer (Primary-F.Derived query alias) = derived_table_means database (query_walk query.0) (query_meaning query.0) alias query.1
  primary_layer (Primary-F.«Primary::Paren» element) = paren_means database (table_walk element.0) (table_meaning element.0) element.1

  primary_law : (x : Primary-F Primary SqlCond JoinPart Query TableRef) (y : Primary-F KnownPrimary KnownCond KnownJoin KnownQuery KnownTable) → known_primary y ≡ x → PrimaryLaw (roll-Primary x)
  primary_law x y is = subst (λ z. PrimaryLaw (roll-Primary z)) is
      (subst₂ (λ w m. ElementMeans database w m)
      (sym (fold-roll-Primary ElementWalk Condition JoinWalk QueryWalk ElementWalk walk.primary_step cond_step walk.join_step walk_of.query_step walk.table_ref_step (known_primary y)))
      (sym (fold-roll-Primary ElementMeaning (Group → Truth) JoinMeaning QueryMeaning ElementMeaning (meaning.primary_step database) truth_step (meaning.join_step database) meaning_of.query_step (meaning.table_ref_step database) (known_primary y)))
      (primary_layer y))

  -- ---- conditions

  cond_parts : (parts : List KnownCond) → Related (CondMeans database) (map cond_walk (map (λ (part : KnownCond). part.0) parts)) (map cond_meaning (map (λ (part : KnownCond). part.0) parts))
  cond_parts [] = none
  cond_parts (part ∷ parts) = more part.1 (cond_parts parts)

  abbrev known_cond : SqlCond-F KnownPrimary KnownCond KnownJoin KnownQuery KnownTable → SqlCond-F Primary SqlCond JoinPart Query TableRef
  known_cond = map-SqlCond KnownPrimary KnownCond KnownJoin KnownQuery KnownTable Primary SqlCond JoinPart Query TableRef (λ e. e.0) (λ e. e.0) (λ e. e.0) (λ e. e.0) (λ e. e.0)

  abbrev cond_walks : SqlCond-F Primary SqlCond JoinPart Query TableRef → SqlCond-F ElementWalk Condition JoinWalk QueryWalk ElementWalk
  cond_walks = map-SqlCond Primary SqlCond JoinPart Query TableRef ElementWalk Condition JoinWalk QueryWalk ElementWalk primary_walk cond_walk join_walk query_walk table_walk

  abbrev cond_meanings : SqlCond-F Primary SqlCond JoinPart Query TableRef → SqlCond-F ElementMeaning (Group → Truth) JoinMeaning QueryMeaning ElementMeaning
  cond_meanings = map-SqlCond Primary SqlCond JoinPart Query TableRef ElementMeaning (Group → Truth) JoinMeaning QueryMeaning ElementMeaning primary_meaning cond_meaning join_meaning query_meaning table_meaning

  cond_layer : (y : SqlCond-F KnownPrimary KnownCond KnownJoin KnownQuery KnownTable) → CondMeans database (cond_step (cond_walks (known_cond y))) (truth_step (cond_meanings (known_cond y)))
  cond_layer (SqlCond-F.Compare op a b) = compare_means database expr-means op a b
  cond_layer (SqlCond-F.Like negated a b) = like_means database expr-means negated a b
  cond_layer (SqlCond-F.IsNull negated a) = null_means database expr-means negated a
  cond_layer (SqlCond-F.Between negated a low high) = between_means database expr-means negated a low high
  cond_layer (SqlCond-F.InList negated a list) = in_list_means database expr-means negated a list
  cond_layer (SqlCond-F.InQuery negated a query) = in_query_means database expr-means negated a (query_walk query.0) (query_meaning query.0) query.1
  cond_layer (SqlCond-F.Exists query) = exists_means database (query_walk query.0) (query_meaning query.0) query.1
  cond_layer (SqlCond-F.Test negated part truth) = test_means database negated (cond_walk part.0) (cond_meaning part.0) truth part.1
  cond_layer (SqlCond-F.Not part) = not_means database (cond_walk part.0) (cond_meaning part.0) part.1
  cond_layer (SqlCond-F.All parts) = all_means database (map cond_walk (map (λ (part : KnownCond). part.0) parts)) (map cond_meaning (map (λ (part : KnownCond). part.0) parts)) (cond_parts parts)
  cond_layer (SqlCond-F.Any parts) = any_means database (map cond_walk (map (λ (part : KnownCond). part.0) parts)) (map cond_meaning (map (λ (part : KnownCond). part.0) parts)) (cond_parts parts)
  cond_layer (SqlCond-F.«SqlCond::Paren» part) = paren_cond_means database (cond_walk part.0) (cond_meaning part.0) part.1

  cond_law : (x : SqlCond-F Primary SqlCond JoinPart Query TableRef) (y : SqlCond-F KnownPrimary KnownCond KnownJoin KnownQuery KnownTable) → known_cond y ≡ x → CondLaw (roll-SqlCond x)
  cond_law x y is = subst (λ z. CondLaw (roll-SqlCond z)) is
      (subst₂ (λ w m. CondMeans database w m)
      (sym (fold-roll-SqlCond ElementWalk Condition JoinWalk QueryWalk ElementWalk walk.primary_step cond_step walk.join_step walk_of.query_step walk.table_ref_step (known_cond y)))
      (sym (fold-roll-SqlCond ElementMeaning (Group → Truth) JoinMeaning QueryMeaning ElementMeaning (meaning.primary_step database) truth_step (meaning.join_step database) meaning_of.query_step (meaning.table_ref_step database) (known_cond y)))
      (cond_layer y))

  -- ---- joins

  abbrev known_join : JoinPart-F KnownPrimary KnownCond KnownJoin KnownQuery KnownTable → JoinPart-F Primary SqlCond JoinPart Query TableRef
  known_join = map-JoinPart KnownPrimary KnownCond KnownJoin KnownQuery KnownTable Primary SqlCond JoinPart Query TableRef (λ e. e.0) (λ e. e.0) (λ e. e.0) (λ e. e.0) (λ e. e.0)

  abbrev join_walks : JoinPart-F Primary SqlCond JoinPart Query TableRef → JoinPart-F ElementWalk Condition JoinWalk QueryWalk ElementWalk
  join_walks = map-JoinPart Primary SqlCond JoinPart Query TableRef ElementWalk Condition JoinWalk QueryWalk ElementWalk primary_walk cond_walk join_walk query_walk table_walk

  abbrev join_meanings : JoinPart-F Primary SqlCond JoinPart Query TableRef → JoinPart-F ElementMeaning (Group → Truth) JoinMeaning QueryMeaning ElementMeaning
  join_meanings = map-JoinPart Primary SqlCond JoinPart Query TableRef ElementMeaning (Group → Truth) JoinMeaning QueryMeaning ElementMeaning primary_meaning cond_meaning join_meaning query_meaning table_meaning

  on_if : (y : JoinPart-F KnownPrimary KnownCond KnownJoin KnownQuery KnownTable) (on : Option KnownCond) → CondIf database (join_walks (known_join (record y { on = on }))).on (join_meanings (known_join (record y { on = on }))).on
  on_if y None = tt
  on_if y (Some part) = part.1

  join_layer : (y : JoinPart-F KnownPrimary KnownCond KnownJoin KnownQuery KnownTable) → JoinMeans database (walk.join_step (join_walks (known_join y))) (meaning.join_step database (join_meanings (known_join y)))
  join_layer y = join_part_means database y.word (primary_walk y.right.0) (primary_meaning y.right.0) (join_walks (known_join y)).on (join_meanings (known_join y)).on y.right.1 (on_if y y.on)

  join_law : (x : JoinPart-F Primary SqlCond JoinPart Query TableRef) (y : JoinPart-F KnownPrimary KnownCond KnownJoin KnownQuery KnownTable) → known_join y ≡ x → JoinLaw (roll-JoinPart x)
  join_law x y is = subst (λ z. JoinLaw (roll-JoinPart z)) is
      (subst₂ (λ w m. JoinMeans database w m)
      (sym (fold-roll-JoinPart ElementWalk Condition JoinWalk QueryWalk ElementWalk walk.primary_step cond_step walk.join_step walk_of.query_step walk.table_ref_step (known_join y)))
      (sym (fold-roll-JoinPart ElementMeaning (Group → Truth) JoinMeaning QueryMeaning ElementMeaning (meaning.primary_step database) truth_step (meaning.join_step database) meaning_of.query_step (meaning.table_ref_step database) (known_join y)))
      (join_layer y))

  -- ---- joined tables

  join_parts : (joins : List KnownJoin) → Related (JoinMeans database) (map join_walk (map (λ (join : KnownJoin). join.0) joins)) (map join_meaning (map (λ (join : KnownJoin). join.0) joins))
  join_parts [] = none
  join_parts (join ∷ joins) = more join.1 (join_parts joins)

  abbrev known_table : TableRef-F KnownPrimary KnownCond KnownJoin KnownQuery KnownTable → TableRef-F Primary SqlCond JoinPart Query TableRef
  known_table = map-TableRef KnownPrimary KnownCond KnownJoin KnownQuery KnownTable Primary SqlCond JoinPart Query TableRef (λ e. e.0) (λ e. e.0) (λ e. e.0) (λ e. e.0) (λ e. e.0)

  abbrev table_walks : TableRef-F Primary SqlCond JoinPart Query TableRef → TableRef-F ElementWalk Condition JoinWalk QueryWalk ElementWalk
  table_walks = map-TableRef Primary SqlCond JoinPart Query TableRef ElementWalk Condition JoinWalk QueryWalk ElementWalk primary_walk cond_walk join_walk query_walk table_walk

  abbrev table_meanings : TableRef-F Primary SqlCond JoinPart Query TableRef → TableRef-F ElementMeaning (Group → Truth) JoinMeaning QueryMeaning ElementMeaning
  table_meanings = map-TableRef Primary SqlCond JoinPart Query TableRef ElementMeaning (Group → Truth) JoinMeaning QueryMeaning ElementMeaning primary_meaning cond_meaning join_meaning query_meaning table_meaning

  table_layer : (y : TableRef-F KnownPrimary KnownCond KnownJoin KnownQuery KnownTable) → ElementMeans database (walk.table_ref_step (table_walks (known_table y))) (meaning.table_ref_step database (table_meanings (known_table y)))
  table_layer y = table_ref_means database (primary_walk y.first.0) (primary_meaning y.first.0) (map join_walk (map (λ (join : KnownJoin). join.0) y.joins)) (map join_meaning (map (λ (join : KnownJoin). join.0) y.joins)) y.first.1 (join_parts y.joins)

  table_law : (x : TableRef-F Primary SqlCond JoinPart Query TableRef) (y : TableRef-F KnownPrimary KnownCond KnownJoin KnownQuery KnownTable) → known_table y ≡ x → TableLaw (roll-TableRef x)
  table_law x y is = subst (λ z. TableLaw (roll-TableRef z)) is
      (subst₂ (λ w m. ElementMeans database w m)
      (sym (fold-roll-TableRef ElementWalk Condition JoinWalk QueryWalk ElementWalk walk.primary_step cond_step walk.join_step walk_of.query_step walk.table_ref_step (known_table y)))
      (sym (fold-roll-TableRef ElementMeaning (Group → Truth) JoinMeaning QueryMeaning ElementMeaning (meaning.primary_step database) truth_step (meaning.join_step database) meaning_of.query_step (meaning.table_ref_step database) (known_table y)))
      (table_layer y))

  -- ---- queries

  elements : (tables : List KnownTable) → Related (ElementMeans database) (map table_walk (map (λ (table : KnownTable). table.0) tables)) (map table_meaning (map (λ (table : KnownTable). table.0) tables))
  elements [] = none
  elements (table ∷ tables) = more table.1 (elements tables)

  abbrev known_query : Query-F KnownPrimary KnownCond KnownJoin KnownQuery KnownTable → Query-F Primary SqlCond JoinPart Query TableRef
  known_query = map-Query KnownPrimary KnownCond KnownJoin KnownQuery KnownTable Primary SqlCond JoinPart Query TableRef (λ e. e.0) (λ e. e.0) (λ e. e.0) (λ e. e.0) (λ e. e.0)

  abbrev query_walks : Query-F Primary SqlCond JoinPart Query TableRef → Query-F ElementWalk Condition JoinWalk QueryWalk ElementWalk
  query_walks = map-Query Primary SqlCond JoinPart Query TableRef ElementWalk Condition JoinWalk QueryWalk ElementWalk primary_walk cond_walk join_walk query_walk table_walk

  abbrev query_meanings : Query-F Primary SqlCond JoinPart Query TableRef → Query-F ElementMeaning (Group → Truth) JoinMeaning QueryMeaning ElementMeaning
  query_meanings = map-Query Primary SqlCond JoinPart Query TableRef ElementMeaning (Group → Truth) JoinMeaning QueryMeaning ElementMeaning primary_meaning cond_meaning join_meaning query_meaning table_meaning

  filter_if : (y : Query-F KnownPrimary KnownCond KnownJoin KnownQuery KnownTable) (filter : Option KnownCond) → CondIf database (query_walks (known_query (record y { filter = filter }))).filter (query_meanings (known_query (record y { filter = filter }))).filter
  filter_if y None = tt
  filter_if y (Some part) = part.1

  having_if : (y : Query-F KnownPrimary KnownCond KnownJoin KnownQuery KnownTable) (having : Option KnownCond) → CondIf database (query_walks (known_query (record y { having = having }))).having (query_meanings (known_query (record y { having = having }))).having
  having_if y None = tt
  having_if y (Some part) = part.1

  query_part : (y : Query-F KnownPrimary KnownCond KnownJoin KnownQuery KnownTable) → QueryMeans database (walk_of.query_step (query_walks (known_query y))) (meaning_of.query_step (query_meanings (known_query y)))
  query_part y = query_layer (query_walks (known_query y)) (query_meanings (known_query y)) refl refl refl (elements y.from) (filter_if y y.filter) (having_if y y.having)

  query_one : (x : Query-F Primary SqlCond JoinPart Query TableRef) (y : Query-F KnownPrimary KnownCond KnownJoin KnownQuery KnownTable) → known_query y ≡ x → QueryLaw (roll-Query x)
  query_one x y is = subst (λ z. QueryLaw (roll-Query z)) is
      (subst₂ (λ w m. QueryMeans database w m)
      (sym (fold-roll-Query ElementWalk Condition JoinWalk QueryWalk ElementWalk walk.primary_step cond_step walk.join_step walk_of.query_step walk.table_ref_step (known_query y)))
      (sym (fold-roll-Query ElementMeaning (Group → Truth) JoinMeaning QueryMeaning ElementMeaning (meaning.primary_step database) truth_step (meaning.join_step database) meaning_of.query_step (meaning.table_ref_step database) (known_query y)))
      (query_part y))

  each_query : (q : Query) → QueryLaw q
  each_query = ind-Query PrimaryLaw CondLaw JoinLaw QueryLaw TableLaw primary_law cond_law join_law query_one table_law

  -- the meaning of a query by names is that of its numbered form
  pub query_means : (q : Query) → QueryMeans database (walk_of.query_walk q) (meaning_of.query database q)
  query_means = each_query

  -- ---- a SELECT

  nothing_proper : Proper []
  nothing_proper = record { once = λ i inside. absurd (omega (arith, inside)); made = λ n place at. absurd (none-some place at) }

  pub select_means : (s : Select) (judged : JudgedSelect) (w : Walk) → walk_of.select database.tables s beginning ≡ done judged w → answer database s ≡ numbered_answer database judged
  unfolding walk_of.select answer numbered_answer
  select_means s judged w walked =
      let first = in_turn (walk_of.query database.tables s.query role.Statement [] beginning) (walk_of.ordered s.order) judged w walked in
      let second = in_turn (each (walk_of.order_key (map (λ output. output.name) (first.value).outputs)) s.order first.middle) (λ keys. pure (record { query = (first.value).query; order = keys })) judged w first.ended in
      let gives = (query_means s.query).gives role.Statement [] beginning first.value first.middle nothing_proper tt first.begun in
      gives.rows [] nulls (λ N exact fits. tt) tt (λ N exact fits c inside. refl) ∙ ap (λ (j : JudgedSelect). row_values (numbered database j.query) nulls) (done_value second.ended)
