-- The induction over queries and what stands in them: the walk counts what its numbered form counts.
use Rattle.std.proofs.Common.{◌≡◌, ℕ, ℤ, pos, negsuc, ◌+◌, ◌-◌, ◌&&◌, leb, Bool, true, false, List, [], ◌∷◌, map, Option, Some, None, if◌then◌else◌, refl, sym, subst}
use Rattle.std.specs.Bool.{⊤}
use Rattle.std.specs.Fmt.{signed_decimal}
use Rattle.std.specs.List.{AllByRecursion}
use Rattle.pdw_syntax.specs.declared.query.JoinPart.{JoinPart, roll-JoinPart}
use Rattle.pdw_syntax.specs.declared.query.OrderKey.{OrderKey}
use Rattle.pdw_syntax.specs.declared.query.OrderName.TheVariants.{Name, Position}
use Rattle.pdw_syntax.specs.declared.query.OrderName.{OrderName}
use Rattle.pdw_syntax.specs.declared.query.Primary.TheFolds.{fold-roll-JoinPart, fold-roll-Primary, fold-roll-Query, fold-roll-SqlCond, fold-roll-TableRef, ind-Query, map-JoinPart, map-Primary, map-Query, map-SqlCond, map-TableRef}
use Rattle.pdw_syntax.specs.declared.query.Primary.TheOpen.{JoinPart-F, Primary-F, Query-F, SqlCond-F, TableRef-F}
use Rattle.pdw_syntax.specs.declared.query.Primary.TheViews.{roll-Primary, roll-SqlCond}
use Rattle.pdw_syntax.specs.declared.query.Primary.{Primary}
use Rattle.pdw_syntax.specs.declared.query.Query.{Query, roll-Query}
use Rattle.pdw_syntax.specs.declared.query.Select.{Select}
use Rattle.pdw_syntax.specs.declared.query.SqlCond.{SqlCond}
use Rattle.pdw_syntax.specs.declared.query.TableRef.{TableRef, roll-TableRef}
use Rattle.pdw_catalog.specs.Catalog.{Tables, table_named}
use Rattle.pdw_expr.specs.declared.cond.Cond.{Cond}
use Rattle.pdw_form.specs.Counts.{query_count}
use Rattle.pdw_form.specs.declared.judged.JudgedSelect.{JudgedSelect}
use Rattle.pdw_sound.proofs.CountedQueries.{CondCounts, CondIf, ElementCounts, JoinCounts, QueryCounts, SubqueryCounts, all_conjuncts, counts_derived, counts_joined, counts_negation, counts_table, counts_text, element_count, keeps_tests, one_conjunct, walked_count}
use Rattle.pdw_sound.proofs.KeptExprs.{keeps_expr}
use Rattle.pdw_sound.proofs.KeptItems.{keeps_compared, keeps_likened, keeps_listed, keeps_null, keeps_ranged}
use Rattle.pdw_sound.proofs.Tallies.{Keeps, Tallies, Tally, TallyOf, keeps_each, keeps_map, keeps_pure, keeps_refuse, nothing_known, tallies_map, tallies_over, tallies_then}
use Rattle.pdw_walk.specs.Conds.{Condition, QueryWalk, Subquery, cond_step, negation_of, predicate, truth_tested}
use Rattle.pdw_walk.specs.Exprs.{expr}
use Rattle.pdw_walk.specs.Froms.{ElementWalk, JoinWalk, called, join_after, join_step, primary_step, table_ref_step}
use Rattle.pdw_walk.specs.Lookup.{Place}
use Rattle.pdw_walk.specs.Queries.{Text, condition, element, join, name_of, named_place, order_key, order_place, ordered, place_at, places, query_step, query_walk, select, table_ref}
use Rattle.pdw_walk.specs.Walk.{Step, Walk, beginning, done, pure, refuse}
use Rattle.pdw_walk.specs.declared.entry.Role.TheVariants as role
use Rattle.pdw_walk.specs.declared.entry.Walked.{Walked}
use Rattle.pdw_walk.specs.declared.fault.JudgeFault.TheVariants.{SubqueryPlace, UnknownColumn}
use Rattle.pdw_walk.specs.declared.fault.JudgeFault.{JudgeFault}

module _ (table query : ℕ) where
  -- ---- what can be nested

  abbrev KnownPrimary : Type 0
  KnownPrimary = (x : Primary) × ElementCounts table query (element x)

  abbrev KnownCond : Type 0
  KnownCond = (x : SqlCond) × CondCounts table query (condition x)

  abbrev KnownJoin : Type 0
  KnownJoin = (x : JoinPart) × JoinCounts table query (join x)

  abbrev KnownQuery : Type 0
  KnownQuery = (x : Query) × QueryCounts table query (query_walk x)

  abbrev KnownTable : Type 0
  KnownTable = (x : TableRef) × ElementCounts table query (table_ref x)

  -- ---- elements of FROM

  abbrev known_primary : Primary-F KnownPrimary KnownCond KnownJoin KnownQuery KnownTable → Primary-F Primary SqlCond JoinPart Query TableRef
  known_primary = map-Primary KnownPrimary KnownCond KnownJoin KnownQuery KnownTable Primary SqlCond JoinPart Query TableRef (λ e. e.0) (λ e. e.0) (λ e. e.0) (λ e. e.0) (λ e. e.0)

  abbrev primary_walks : Primary-F Primary SqlCond JoinPart Query TableRef → Primary-F ElementWalk Condition JoinWalk QueryWalk ElementWalk
  primary_walks = map-Primary Primary SqlCond JoinPart Query TableRef ElementWalk Condition JoinWalk QueryWalk ElementWalk element condition join query_walk table_ref

  primary_layer : (y : Primary-F KnownPrimary KnownCond KnownJoin KnownQuery KnownTable) → ElementCounts table query (primary_step (primary_walks (known_primary y)))
  primary_layer (Primary-F.Named name alias) n tables outers = counts_table table query name (called name alias) (table_named name tables) n
  primary_layer (Primary-F.Derived inner alias) n tables outers = counts_derived table query (query_walk inner.0) alias inner.1 n tables outers
  primary_layer (Primary-F.«Primary::Paren» inner) n tables outers = inner.1 n tables outers

  primary_law : (x : Primary-F Primary SqlCond JoinPart Query TableRef) (y : Primary-F KnownPrimary KnownCond KnownJoin KnownQuery KnownTable) → known_primary y ≡ x → ElementCounts table query (element (roll-Primary x))
  primary_law x y is = subst (λ z. ElementCounts table query (element (roll-Primary z))) is
      (subst (ElementCounts table query) (sym (fold-roll-Primary ElementWalk Condition JoinWalk QueryWalk ElementWalk primary_step cond_step join_step query_step table_ref_step (known_primary y))) (primary_layer y))

  -- ---- conditions

  cond_parts : (parts : List KnownCond) → AllByRecursion (CondCounts table query) (map condition (map (λ (part : KnownCond). part.0) parts))
  cond_parts [] = tt
  cond_parts (part ∷ parts) = (part.1, cond_parts parts)

  abbrev known_cond : SqlCond-F KnownPrimary KnownCond KnownJoin KnownQuery KnownTable → SqlCond-F Primary SqlCond JoinPart Query TableRef
  known_cond = map-SqlCond KnownPrimary KnownCond KnownJoin KnownQuery KnownTable Primary SqlCond JoinPart Query TableRef (λ e. e.0) (λ e. e.0) (λ e. e.0) (λ e. e.0) (λ e. e.0)

  abbrev cond_walks : SqlCond-F Primary SqlCond JoinPart Query TableRef → SqlCond-F ElementWalk Condition JoinWalk QueryWalk ElementWalk
  cond_walks = map-SqlCond Primary SqlCond JoinPart Query TableRef ElementWalk Condition JoinWalk QueryWalk ElementWalk element condition join query_walk table_ref

  plain_counts : (test : Place → Step Cond) → ((place : Place) → Keeps table query (test place)) → CondCounts table query (record { nested = false; test = test; conjuncts = record { nested = false; test = test; subquery = None } ∷ []; negation = None })
  plain_counts test tests = one_conjunct table query false test None None tests tt tt

  predicate_counts : (subquery : Subquery) → SubqueryCounts table query subquery → CondCounts table query (predicate subquery)
  predicate_counts subquery known =
      one_conjunct table query true (λ place. refuse SubqueryPlace) (Some subquery) (negation_of subquery.negated subquery) (λ place. keeps_refuse _) known (counts_negation table query subquery.negated subquery known)

  cond_layer : (y : SqlCond-F KnownPrimary KnownCond KnownJoin KnownQuery KnownTable) → CondCounts table query (cond_step (cond_walks (known_cond y)))
  cond_layer (SqlCond-F.Compare op a b) = plain_counts _ (keeps_compared op a b)
  cond_layer (SqlCond-F.Like negated a b) = plain_counts _ (keeps_likened negated a b)
  cond_layer (SqlCond-F.IsNull negated a) = plain_counts _ (keeps_null negated a)
  cond_layer (SqlCond-F.Between negated a low high) = plain_counts _ (keeps_ranged negated a low high)
  cond_layer (SqlCond-F.InList negated a list) = plain_counts _ (keeps_listed negated a list)
  cond_layer (SqlCond-F.InQuery negated a inner) =
      predicate_counts (record { negated = negated; left = Some (expr a); query = query_walk inner.0 }) (record { left = keeps_expr a; inner = inner.1 })
  cond_layer (SqlCond-F.Exists inner) =
      predicate_counts (record { negated = false; left = None; query = query_walk inner.0 }) (record { left = tt; inner = inner.1 })
  cond_layer (SqlCond-F.Test negated part truth) = one_conjunct table query _ (truth_tested negated (condition part.0).test truth) None None (λ place. keeps_map _ ((part.1).test place)) tt tt
  cond_layer (SqlCond-F.Not part) = one_conjunct table query _ _ (condition part.0).negation None (λ place. keeps_map _ ((part.1).test place)) (part.1).negation tt
  cond_layer (SqlCond-F.All parts) =
      let known = cond_parts parts in
      let walks = map condition (map (λ (part : KnownCond). part.0) parts) in
      record { test = λ place. keeps_map _ (keeps_tests table query walks known place); conjuncts = all_conjuncts table query walks known; negation = tt }
  cond_layer (SqlCond-F.Any parts) =
      one_conjunct table query _ _ None None (λ place. keeps_map _ (keeps_tests table query (map condition (map (λ (part : KnownCond). part.0) parts)) (cond_parts parts) place)) tt tt
  cond_layer (SqlCond-F.«SqlCond::Paren» part) = part.1

  cond_law : (x : SqlCond-F Primary SqlCond JoinPart Query TableRef) (y : SqlCond-F KnownPrimary KnownCond KnownJoin KnownQuery KnownTable) → known_cond y ≡ x → CondCounts table query (condition (roll-SqlCond x))
  cond_law x y is = subst (λ z. CondCounts table query (condition (roll-SqlCond z))) is
      (subst (CondCounts table query) (sym (fold-roll-SqlCond ElementWalk Condition JoinWalk QueryWalk ElementWalk primary_step cond_step join_step query_step table_ref_step (known_cond y))) (cond_layer y))

  -- ---- joins

  abbrev known_join : JoinPart-F KnownPrimary KnownCond KnownJoin KnownQuery KnownTable → JoinPart-F Primary SqlCond JoinPart Query TableRef
  known_join = map-JoinPart KnownPrimary KnownCond KnownJoin KnownQuery KnownTable Primary SqlCond JoinPart Query TableRef (λ e. e.0) (λ e. e.0) (λ e. e.0) (λ e. e.0) (λ e. e.0)

  abbrev join_walks : JoinPart-F Primary SqlCond JoinPart Query TableRef → JoinPart-F ElementWalk Condition JoinWalk QueryWalk ElementWalk
  join_walks = map-JoinPart Primary SqlCond JoinPart Query TableRef ElementWalk Condition JoinWalk QueryWalk ElementWalk element condition join query_walk table_ref

  on_if : (y : JoinPart-F KnownPrimary KnownCond KnownJoin KnownQuery KnownTable) (on : Option KnownCond) → CondIf table query (join_walks (known_join (record y { on = on }))).on
  on_if y None = tt
  on_if y (Some part) = part.1

  join_layer : (y : JoinPart-F KnownPrimary KnownCond KnownJoin KnownQuery KnownTable) → JoinCounts table query (join_step (join_walks (known_join y)))
  join_layer y n tables outers left =
      tallies_then ((y.right).1 (element_count table query n left) tables outers) (λ right. counts_joined table query outers y.word (join_walks (known_join y)).on left right n (on_if y y.on))

  join_law : (x : JoinPart-F Primary SqlCond JoinPart Query TableRef) (y : JoinPart-F KnownPrimary KnownCond KnownJoin KnownQuery KnownTable) → known_join y ≡ x → JoinCounts table query (join (roll-JoinPart x))
  join_law x y is = subst (λ z. JoinCounts table query (join (roll-JoinPart z))) is
      (subst (JoinCounts table query) (sym (fold-roll-JoinPart ElementWalk Condition JoinWalk QueryWalk ElementWalk primary_step cond_step join_step query_step table_ref_step (known_join y))) (join_layer y))

  -- ---- joined tables

  join_parts : (joins : List KnownJoin) → AllByRecursion (JoinCounts table query) (map join (map (λ (part : KnownJoin). part.0) joins))
  join_parts [] = tt
  join_parts (part ∷ joins) = (part.1, join_parts joins)

  abbrev known_table : TableRef-F KnownPrimary KnownCond KnownJoin KnownQuery KnownTable → TableRef-F Primary SqlCond JoinPart Query TableRef
  known_table = map-TableRef KnownPrimary KnownCond KnownJoin KnownQuery KnownTable Primary SqlCond JoinPart Query TableRef (λ e. e.0) (λ e. e.0) (λ e. e.0) (λ e. e.0) (λ e. e.0)

  abbrev table_walks : TableRef-F Primary SqlCond JoinPart Query TableRef → TableRef-F ElementWalk Condition JoinWalk QueryWalk ElementWalk
  table_walks = map-TableRef Primary SqlCond JoinPart Query TableRef ElementWalk Condition JoinWalk QueryWalk ElementWalk element condition join query_walk table_ref

  table_layer : (y : TableRef-F KnownPrimary KnownCond KnownJoin KnownQuery KnownTable) → ElementCounts table query (table_ref_step (table_walks (known_table y)))
  table_layer y n tables outers =
      tallies_then ((y.first).1 n tables outers)
      (λ first. tallies_over (JoinCounts table query) (join_after tables outers) (λ left part one. one n tables outers left) first (map join (map (λ (part : KnownJoin). part.0) y.joins)) (join_parts y.joins))

  table_law : (x : TableRef-F Primary SqlCond JoinPart Query TableRef) (y : TableRef-F KnownPrimary KnownCond KnownJoin KnownQuery KnownTable) → known_table y ≡ x → ElementCounts table query (table_ref (roll-TableRef x))
  table_law x y is = subst (λ z. ElementCounts table query (table_ref (roll-TableRef z))) is
      (subst (ElementCounts table query) (sym (fold-roll-TableRef ElementWalk Condition JoinWalk QueryWalk ElementWalk primary_step cond_step join_step query_step table_ref_step (known_table y))) (table_layer y))

  -- ---- queries

  elements : (tables : List KnownTable) → AllByRecursion (ElementCounts table query) (map table_ref (map (λ (one : KnownTable). one.0) tables))
  elements [] = tt
  elements (one ∷ tables) = (one.1, elements tables)

  abbrev known_query : Query-F KnownPrimary KnownCond KnownJoin KnownQuery KnownTable → Query-F Primary SqlCond JoinPart Query TableRef
  known_query = map-Query KnownPrimary KnownCond KnownJoin KnownQuery KnownTable Primary SqlCond JoinPart Query TableRef (λ e. e.0) (λ e. e.0) (λ e. e.0) (λ e. e.0) (λ e. e.0)

  abbrev query_walks : Query-F Primary SqlCond JoinPart Query TableRef → Text
  query_walks = map-Query Primary SqlCond JoinPart Query TableRef ElementWalk Condition JoinWalk QueryWalk ElementWalk element condition join query_walk table_ref

  filter_if : (y : Query-F KnownPrimary KnownCond KnownJoin KnownQuery KnownTable) (filter : Option KnownCond) → CondIf table query (query_walks (known_query (record y { filter = filter }))).filter
  filter_if y None = tt
  filter_if y (Some part) = part.1

  having_if : (y : Query-F KnownPrimary KnownCond KnownJoin KnownQuery KnownTable) (having : Option KnownCond) → CondIf table query (query_walks (known_query (record y { having = having }))).having
  having_if y None = tt
  having_if y (Some part) = part.1

  query_law : (x : Query-F Primary SqlCond JoinPart Query TableRef) (y : Query-F KnownPrimary KnownCond KnownJoin KnownQuery KnownTable) → known_query y ≡ x → QueryCounts table query (query_walk (roll-Query x))
  query_law x y is = subst (λ z. QueryCounts table query (query_walk (roll-Query z))) is
      (subst (QueryCounts table query) (sym (fold-roll-Query ElementWalk Condition JoinWalk QueryWalk ElementWalk primary_step cond_step join_step query_step table_ref_step (known_query y)))
      (counts_text table query (query_walks (known_query y)) (record { from = elements y.from; filter = filter_if y y.filter; having = having_if y y.having })))

  pub counts_query : (q : Query) → QueryCounts table query (query_walk q)
  counts_query = ind-Query (λ x. ElementCounts table query (element x)) (λ x. CondCounts table query (condition x)) (λ x. JoinCounts table query (join x)) (λ x. QueryCounts table query (query_walk x)) (λ x. ElementCounts table query (table_ref x)) primary_law cond_law join_law query_law table_law

  -- ---- ORDER BY

  keeps_named_place : (name : List ℕ) (found : List (ℕ × List ℕ)) → Keeps table query (named_place name found)
  keeps_named_place name [] = keeps_refuse _
  keeps_named_place name (place ∷ []) = keeps_pure _
  keeps_named_place name (place ∷ other ∷ others) = keeps_refuse _

  or_refuse : {A : Type 0} (test : Bool) (a : A) (fault : JudgeFault) → Keeps table query (if test then pure a else refuse fault)
  or_refuse true a fault = keeps_pure a
  or_refuse false a fault = keeps_refuse fault

  keeps_place_at : (position : ℤ) (count : ℕ) → Keeps table query (place_at position count)
  keeps_place_at (pos position) count = or_refuse (leb 1 position && leb position count) (position - 1) (UnknownColumn (signed_decimal (pos position)))
  keeps_place_at (negsuc n) count = keeps_refuse _

  keeps_order_place : (names : List (List ℕ)) (name : OrderName) → Keeps table query (order_place names name)
  keeps_order_place names (Name name) = keeps_named_place name (places name names)
  keeps_order_place names (Position position) = keeps_place_at position _

  keeps_key : (names : List (List ℕ)) (key : OrderKey) → Keeps table query (order_key names key)
  unfolding order_key
  keeps_key names key = keeps_map _ (keeps_order_place names key.name)

  abbrev form_count : ℕ → JudgedSelect → ℕ
  form_count n form = n + query_count table query form.query

  counts_ordered : (order : List OrderKey) (walked : Walked) (n : ℕ) → Tallies table query (walked_count table query n walked) (form_count n) (ordered order walked)
  counts_ordered order walked n =
      tallies_map (λ keys. record { query = walked.query; order = keys }) (λ keys. refl)
      (keeps_each (λ key. ⊤) (order_key (map name_of walked.outputs)) (λ key known. keeps_key (map name_of walked.outputs) key) order (nothing_known order) (walked_count table query n walked))

  counts_select : (tables : Tables) (s : Select) (n : ℕ) → Tallies table query n (form_count n) (select tables s)
  unfolding select
  counts_select tables s n = tallies_then (counts_query s.query n tables role.Statement []) (λ walked. counts_ordered s.order walked n)

  -- where the walk of a SELECT ends, it counted what its form counts, within the limits
  pub select_counted : (tables : Tables) (s : Select) (form : JudgedSelect) (w : Walk) → select tables s beginning ≡ done form w → Tally table query 0 (0 + query_count table query form.query) beginning w
  select_counted tables s form w walked = subst (TallyOf table query 0 (form_count 0) beginning) walked ((counts_select tables s 0).at beginning)
