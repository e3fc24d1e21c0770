-- The judgement has no want of memory as a fault: queries with all that can be nested in them, and statements.
use Rattle.std.proofs.Common.{◌≡◌, ◌≢◌, ℕ, ℤ, pos, negsuc, ◌-◌, ◌==◌, ◌&&◌, leb, Bool, true, false, List, [], ◌∷◌, ◌++◌, length, map, position, Option, Some, None, Result, Ok, Err, if◌then◌else◌, sym, ap, subst, ◌∙◌}
use Rattle.std.specs.Bool.{⊤}
use Rattle.std.specs.Fmt.{signed_decimal}
use Rattle.std.specs.List.{AllByRecursion, list_any}
use Rattle.pdw_syntax.specs.declared.expr.ColRef.{ColRef}
use Rattle.pdw_syntax.specs.declared.query.JoinPart.{JoinPart, roll-JoinPart}
use Rattle.pdw_syntax.specs.declared.query.OrderKey.{OrderKey}
use Rattle.pdw_syntax.specs.declared.query.OrderName.TheVariants.{Name, Position}
use Rattle.pdw_syntax.specs.declared.query.OrderName.{OrderName}
use Rattle.pdw_syntax.specs.declared.query.Primary.TheFolds.{fold-roll-JoinPart, fold-roll-Primary, fold-roll-Query, fold-roll-SqlCond, fold-roll-TableRef, ind-Query, map-JoinPart, map-Primary, map-Query, map-SqlCond, map-TableRef}
use Rattle.pdw_syntax.specs.declared.query.Primary.TheOpen.{JoinPart-F, Primary-F, Query-F, SqlCond-F, TableRef-F}
use Rattle.pdw_syntax.specs.declared.query.Primary.TheViews.{roll-Primary, roll-SqlCond}
use Rattle.pdw_syntax.specs.declared.query.Primary.{Primary}
use Rattle.pdw_syntax.specs.declared.query.Query.{Query, roll-Query}
use Rattle.pdw_syntax.specs.declared.query.Select.{Select}
use Rattle.pdw_syntax.specs.declared.query.SqlCond.{SqlCond}
use Rattle.pdw_syntax.specs.declared.query.TableRef.{TableRef, roll-TableRef}
use Rattle.pdw_syntax.specs.declared.statement.CostPart.{CostPart}
use Rattle.pdw_syntax.specs.declared.statement.Statement.TheVariants as s
use Rattle.pdw_syntax.specs.declared.statement.Statement.{Statement}
use Rattle.pdw_catalog.specs.Catalog.{Tables, table_named}
use Rattle.pdw_catalog.specs.declared.table.Column.{Column}
use Rattle.pdw_catalog.specs.declared.table.Placing.TheVariants.{Hash}
use Rattle.pdw_catalog.specs.declared.table.Table.{Table}
use Rattle.pdw_catalog.specs.declared.table.TheConstants.{MOST_COLUMNS}
use Rattle.pdw_expr.specs.declared.cond.Cond.{Cond}
use Rattle.pdw_walk.specs.Conds.{Condition, QueryWalk, Subquery, cond_step, negation_of, predicate, truth_tested}
use Rattle.pdw_walk.specs.Conjuncts.{place_in}
use Rattle.pdw_walk.specs.Exprs.{expr}
use Rattle.pdw_walk.specs.Froms.{ElementWalk, JoinWalk, Sources, called, join_after, join_step, no_sources, primary_step, source, table_ref_step, with_element}
use Rattle.pdw_walk.specs.Items.{repeated_name}
use Rattle.pdw_walk.specs.Lookup.{Place, Scope, column}
use Rattle.pdw_walk.specs.Queries.{Text, after_from, after_having, after_items, after_keys, after_where, apart, around_of, condition, element, finish, group_place, grouped, join, keys_if, keys_walk, named_place, name_of, order_key, order_place, ordered, parts_walk, place_at, places, query_step, query_walk, restored, select, table_ref}
use Rattle.pdw_walk.specs.Statements.{answer_of, budget_setting, cost_setting, create, hand, is_named, judgement, known, known_or_fault, new_column, new_statistic, place_of_column, place_or_fault, placing, setting, statement, with_known}
use Rattle.pdw_walk.specs.Walk.{Outcome, Step, Walk, beginning, done, pure, refuse, refused, with_aggs, with_taken}
use Rattle.pdw_walk.specs.declared.entry.Conjuncts.{Conjuncts}
use Rattle.pdw_walk.specs.declared.entry.Draft.{Draft}
use Rattle.pdw_walk.specs.declared.entry.Met.{Met}
use Rattle.pdw_walk.specs.declared.entry.Outputs.{Outputs}
use Rattle.pdw_walk.specs.declared.entry.Role.TheVariants as role
use Rattle.pdw_walk.specs.declared.entry.Role.{Role}
use Rattle.pdw_walk.specs.declared.entry.Walked.{Walked}
use Rattle.pdw_walk.specs.declared.fault.JudgeFault.TheVariants.{DuplicateName, Limit, Memory, SubqueryPlace, UnknownColumn}
use Rattle.pdw_walk.specs.declared.fault.LimitName.TheVariants as limit
use Rattle.pdw_walk.specs.declared.fault.JudgeFault.{JudgeFault}
use Rattle.pdw_form.specs.declared.judged.Judged.{Judged}
use Rattle.pdw_run.proofs.NamedQueries.{CondIf, CondNames, ElementNames, JoinNames, QueryNames, SubqueryNames, all_conjuncts, names_compared, names_derived, names_items, names_joined, names_likened, names_listed, names_negation, names_null, names_ranged, names_repeated, names_table, names_tested, names_tests, names_where, one_conjunct}
use Rattle.pdw_run.proofs.NamedSteps.{IsNamed, IsNamedFault, Names, names_column, names_count_query, names_each, names_expr, names_if, names_map, names_over, names_pure, names_refuse, names_then, nothing_known}

-- ---- a query's parts in turn

names_keys : (place : Place) (refs : List ColRef) → Names (keys_walk place refs)
unfolding keys_walk
names_keys place refs = names_each (λ ref. ⊤) (column place) (λ ref known. names_column place ref) refs (nothing_known refs)

names_finish : (distinct is_group : Bool) (drafts : List Draft) (filters : Conjuncts) (keys : List Met) (having : List Cond) (outputs : Outputs) → Names (finish distinct is_group drafts filters keys having outputs)
unfolding finish
names_finish distinct is_group drafts filters keys having outputs = record { at = λ w. tt }

restored_named : {A : Type 0} (before : Walk) (o : Outcome A) → IsNamed o → IsNamed (restored before o)
restored_named before (done a w) named = tt
restored_named before (refused fault) named = named

names_apart : {A : Type 0} (step : Step A) → Names step → Names (apart step)
names_apart step known = record { at = λ w. restored_named w (step (with_taken [] (with_aggs [] w))) (known.at (with_taken [] (with_aggs [] w))) }

-- the parts of a query that lead back to queries
pub record TextNames (q : Text) : Type 0 where
  pub from : AllByRecursion ElementNames q.from
  pub filter : CondIf q.filter
  pub having : CondIf q.having

module _ (q : Text) (role : Role) (outers : List Scope) (own : Scope) (is_group : Bool) where
  names_after_items : (drafts : List Draft) (filters : Conjuncts) (keys : List Met) (having : List Cond) (outputs : Outputs) → Names (after_items q role outers own is_group drafts filters keys having outputs)
  unfolding after_items
  names_after_items drafts filters keys having outputs =
      names_then (names_repeated (repeated_name role outputs.columns)) (λ u. names_finish q.distinct is_group drafts filters keys having outputs)

  names_after_having : (drafts : List Draft) (filters : Conjuncts) (keys : List Met) (having : List Cond) → Names (after_having q role outers own is_group drafts filters keys having)
  unfolding after_having
  names_after_having drafts filters keys having =
      names_then (names_items role (group_place outers own (keys_if is_group keys)) q.items) (λ outputs. names_after_items drafts filters keys having outputs)

  names_after_keys : CondIf q.having → (drafts : List Draft) (filters : Conjuncts) (keys : List Met) → Names (after_keys q role outers own is_group drafts filters keys)
  unfolding after_keys
  names_after_keys known drafts filters keys =
      names_then (names_tested (group_place outers own (keys_if is_group keys)) q.having known) (λ having. names_after_having drafts filters keys having)

  names_after_where : CondIf q.having → (drafts : List Draft) (filters : Conjuncts) → Names (after_where q role outers own is_group drafts filters)
  unfolding after_where
  names_after_where known drafts filters = names_then (names_keys (place_in outers own) q.group) (λ keys. names_after_keys known drafts filters keys)

module _ (q : Text) (known : TextNames q) (tables : Tables) (role : Role) (outers : List Scope) where
  names_after_from : (sources : Sources) → Names (after_from q tables role outers sources)
  unfolding after_from
  names_after_from sources =
      names_then (names_where (around_of q tables role outers sources.own) q.filter known.filter)
      (λ filters. names_after_where q role outers sources.own (grouped q) known.having sources.drafts filters)

  names_parts : Names (parts_walk q tables role outers)
  unfolding parts_walk
  names_parts =
      names_then (names_over ElementNames (source tables outers) (λ before element one. names_map (with_element before) (one tables outers)) no_sources q.from known.from)
      (λ sources. names_after_from sources)

names_text : (q : Text) → TextNames q → QueryNames (query_step q)
unfolding query_step
names_text q known tables role outers = names_then names_count_query (λ u. names_apart (parts_walk q tables role outers) (names_parts q known tables role outers))

-- ---- what can be nested

abbrev KnownPrimary : Type 0
KnownPrimary = (x : Primary) × ElementNames (element x)

abbrev KnownCond : Type 0
KnownCond = (x : SqlCond) × CondNames (condition x)

abbrev KnownJoin : Type 0
KnownJoin = (x : JoinPart) × JoinNames (join x)

abbrev KnownQuery : Type 0
KnownQuery = (x : Query) × QueryNames (query_walk x)

abbrev KnownTable : Type 0
KnownTable = (x : TableRef) × ElementNames (table_ref x)

-- ---- elements of FROM

abbrev known_primary : Primary-F KnownPrimary KnownCond KnownJoin KnownQuery KnownTable → Primary-F Primary SqlCond JoinPart Query TableRef
known_primary = map-Primary KnownPrimary KnownCond KnownJoin KnownQuery KnownTable Primary SqlCond JoinPart Query TableRef (λ e. e.0) (λ e. e.0) (λ e. e.0) (λ e. e.0) (λ e. e.0)

abbrev primary_walks : Primary-F Primary SqlCond JoinPart Query TableRef → Primary-F ElementWalk Condition JoinWalk QueryWalk ElementWalk
primary_walks = map-Primary Primary SqlCond JoinPart Query TableRef ElementWalk Condition JoinWalk QueryWalk ElementWalk element condition join query_walk table_ref

primary_layer : (y : Primary-F KnownPrimary KnownCond KnownJoin KnownQuery KnownTable) → ElementNames (primary_step (primary_walks (known_primary y)))
primary_layer (Primary-F.Named table alias) tables outers = names_table table (called table alias) (table_named table tables)
primary_layer (Primary-F.Derived query alias) tables outers = names_derived (query_walk query.0) alias query.1 tables outers
primary_layer (Primary-F.«Primary::Paren» element) tables outers = element.1 tables outers

primary_law : (x : Primary-F Primary SqlCond JoinPart Query TableRef) (y : Primary-F KnownPrimary KnownCond KnownJoin KnownQuery KnownTable) → known_primary y ≡ x → ElementNames (element (roll-Primary x))
primary_law x y is = subst (λ z. ElementNames (element (roll-Primary z))) is
    (subst ElementNames (sym (fold-roll-Primary ElementWalk Condition JoinWalk QueryWalk ElementWalk primary_step cond_step join_step query_step table_ref_step (known_primary y))) (primary_layer y))

-- ---- conditions

cond_parts : (parts : List KnownCond) → AllByRecursion CondNames (map condition (map (λ (part : KnownCond). part.0) parts))
cond_parts [] = tt
cond_parts (part ∷ parts) = (part.1, cond_parts parts)

abbrev known_cond : SqlCond-F KnownPrimary KnownCond KnownJoin KnownQuery KnownTable → SqlCond-F Primary SqlCond JoinPart Query TableRef
known_cond = map-SqlCond KnownPrimary KnownCond KnownJoin KnownQuery KnownTable Primary SqlCond JoinPart Query TableRef (λ e. e.0) (λ e. e.0) (λ e. e.0) (λ e. e.0) (λ e. e.0)

abbrev cond_walks : SqlCond-F Primary SqlCond JoinPart Query TableRef → SqlCond-F ElementWalk Condition JoinWalk QueryWalk ElementWalk
cond_walks = map-SqlCond Primary SqlCond JoinPart Query TableRef ElementWalk Condition JoinWalk QueryWalk ElementWalk element condition join query_walk table_ref

plain_names : (test : Place → Step Cond) → ((place : Place) → Names (test place)) → CondNames (record { nested = false; test = test; conjuncts = record { nested = false; test = test; subquery = None } ∷ []; negation = None })
plain_names test tests = one_conjunct false test None None tests tt tt

predicate_names : (subquery : Subquery) → SubqueryNames subquery → CondNames (predicate subquery)
predicate_names subquery known =
    one_conjunct true (λ place. refuse SubqueryPlace) (Some subquery) (negation_of subquery.negated subquery) (λ place. names_refuse _ tt) known (names_negation subquery.negated subquery known)

cond_layer : (y : SqlCond-F KnownPrimary KnownCond KnownJoin KnownQuery KnownTable) → CondNames (cond_step (cond_walks (known_cond y)))
cond_layer (SqlCond-F.Compare op a b) = plain_names _ (names_compared op a b)
cond_layer (SqlCond-F.Like negated a b) = plain_names _ (names_likened negated a b)
cond_layer (SqlCond-F.IsNull negated a) = plain_names _ (names_null negated a)
cond_layer (SqlCond-F.Between negated a low high) = plain_names _ (names_ranged negated a low high)
cond_layer (SqlCond-F.InList negated a list) = plain_names _ (names_listed negated a list)
cond_layer (SqlCond-F.InQuery negated a query) =
    predicate_names (record { negated = negated; left = Some (expr a); query = query_walk query.0 }) (record { left = names_expr a; query = query.1 })
cond_layer (SqlCond-F.Exists query) =
    predicate_names (record { negated = false; left = None; query = query_walk query.0 }) (record { left = tt; query = query.1 })
cond_layer (SqlCond-F.Test negated part truth) = one_conjunct _ (truth_tested negated (condition part.0).test truth) None None (λ place. names_map _ ((part.1).test place)) tt tt
cond_layer (SqlCond-F.Not part) = one_conjunct _ _ (condition part.0).negation None (λ place. names_map _ ((part.1).test place)) (part.1).negation tt
cond_layer (SqlCond-F.All parts) =
    let known = cond_parts parts in
    let walks = map condition (map (λ (part : KnownCond). part.0) parts) in
    record { test = λ place. names_map _ (names_tests walks known place); conjuncts = all_conjuncts walks known; negation = tt }
cond_layer (SqlCond-F.Any parts) =
    one_conjunct _ _ None None (λ place. names_map _ (names_tests (map condition (map (λ (part : KnownCond). part.0) parts)) (cond_parts parts) place)) tt tt
cond_layer (SqlCond-F.«SqlCond::Paren» part) = part.1

cond_law : (x : SqlCond-F Primary SqlCond JoinPart Query TableRef) (y : SqlCond-F KnownPrimary KnownCond KnownJoin KnownQuery KnownTable) → known_cond y ≡ x → CondNames (condition (roll-SqlCond x))
cond_law x y is = subst (λ z. CondNames (condition (roll-SqlCond z))) is
    (subst CondNames (sym (fold-roll-SqlCond ElementWalk Condition JoinWalk QueryWalk ElementWalk primary_step cond_step join_step query_step table_ref_step (known_cond y))) (cond_layer y))

-- ---- joins

abbrev known_join : JoinPart-F KnownPrimary KnownCond KnownJoin KnownQuery KnownTable → JoinPart-F Primary SqlCond JoinPart Query TableRef
known_join = map-JoinPart KnownPrimary KnownCond KnownJoin KnownQuery KnownTable Primary SqlCond JoinPart Query TableRef (λ e. e.0) (λ e. e.0) (λ e. e.0) (λ e. e.0) (λ e. e.0)

abbrev join_walks : JoinPart-F Primary SqlCond JoinPart Query TableRef → JoinPart-F ElementWalk Condition JoinWalk QueryWalk ElementWalk
join_walks = map-JoinPart Primary SqlCond JoinPart Query TableRef ElementWalk Condition JoinWalk QueryWalk ElementWalk element condition join query_walk table_ref

on_if : (y : JoinPart-F KnownPrimary KnownCond KnownJoin KnownQuery KnownTable) (on : Option KnownCond) → CondIf (join_walks (known_join (record y { on = on }))).on
on_if y None = tt
on_if y (Some part) = part.1

join_layer : (y : JoinPart-F KnownPrimary KnownCond KnownJoin KnownQuery KnownTable) → JoinNames (join_step (join_walks (known_join y)))
join_layer y tables outers left = names_then ((y.right).1 tables outers) (λ right. names_joined outers y.word (join_walks (known_join y)).on left right (on_if y y.on))

join_law : (x : JoinPart-F Primary SqlCond JoinPart Query TableRef) (y : JoinPart-F KnownPrimary KnownCond KnownJoin KnownQuery KnownTable) → known_join y ≡ x → JoinNames (join (roll-JoinPart x))
join_law x y is = subst (λ z. JoinNames (join (roll-JoinPart z))) is
    (subst JoinNames (sym (fold-roll-JoinPart ElementWalk Condition JoinWalk QueryWalk ElementWalk primary_step cond_step join_step query_step table_ref_step (known_join y))) (join_layer y))

-- ---- joined tables

join_parts : (joins : List KnownJoin) → AllByRecursion JoinNames (map join (map (λ (part : KnownJoin). part.0) joins))
join_parts [] = tt
join_parts (part ∷ joins) = (part.1, join_parts joins)

abbrev known_table : TableRef-F KnownPrimary KnownCond KnownJoin KnownQuery KnownTable → TableRef-F Primary SqlCond JoinPart Query TableRef
known_table = map-TableRef KnownPrimary KnownCond KnownJoin KnownQuery KnownTable Primary SqlCond JoinPart Query TableRef (λ e. e.0) (λ e. e.0) (λ e. e.0) (λ e. e.0) (λ e. e.0)

abbrev table_walks : TableRef-F Primary SqlCond JoinPart Query TableRef → TableRef-F ElementWalk Condition JoinWalk QueryWalk ElementWalk
table_walks = map-TableRef Primary SqlCond JoinPart Query TableRef ElementWalk Condition JoinWalk QueryWalk ElementWalk element condition join query_walk table_ref

table_layer : (y : TableRef-F KnownPrimary KnownCond KnownJoin KnownQuery KnownTable) → ElementNames (table_ref_step (table_walks (known_table y)))
table_layer y tables outers =
    names_then ((y.first).1 tables outers)
    (λ first. names_over JoinNames (join_after tables outers) (λ left part one. one tables outers left) first (map join (map (λ (part : KnownJoin). part.0) y.joins)) (join_parts y.joins))

table_law : (x : TableRef-F Primary SqlCond JoinPart Query TableRef) (y : TableRef-F KnownPrimary KnownCond KnownJoin KnownQuery KnownTable) → known_table y ≡ x → ElementNames (table_ref (roll-TableRef x))
table_law x y is = subst (λ z. ElementNames (table_ref (roll-TableRef z))) is
    (subst ElementNames (sym (fold-roll-TableRef ElementWalk Condition JoinWalk QueryWalk ElementWalk primary_step cond_step join_step query_step table_ref_step (known_table y))) (table_layer y))

-- ---- queries

elements : (tables : List KnownTable) → AllByRecursion ElementNames (map table_ref (map (λ (table : KnownTable). table.0) tables))
elements [] = tt
elements (table ∷ tables) = (table.1, elements tables)

abbrev known_query : Query-F KnownPrimary KnownCond KnownJoin KnownQuery KnownTable → Query-F Primary SqlCond JoinPart Query TableRef
known_query = map-Query KnownPrimary KnownCond KnownJoin KnownQuery KnownTable Primary SqlCond JoinPart Query TableRef (λ e. e.0) (λ e. e.0) (λ e. e.0) (λ e. e.0) (λ e. e.0)

abbrev query_walks : Query-F Primary SqlCond JoinPart Query TableRef → Text
query_walks = map-Query Primary SqlCond JoinPart Query TableRef ElementWalk Condition JoinWalk QueryWalk ElementWalk element condition join query_walk table_ref

filter_if : (y : Query-F KnownPrimary KnownCond KnownJoin KnownQuery KnownTable) (filter : Option KnownCond) → CondIf (query_walks (known_query (record y { filter = filter }))).filter
filter_if y None = tt
filter_if y (Some part) = part.1

having_if : (y : Query-F KnownPrimary KnownCond KnownJoin KnownQuery KnownTable) (having : Option KnownCond) → CondIf (query_walks (known_query (record y { having = having }))).having
having_if y None = tt
having_if y (Some part) = part.1

query_law : (x : Query-F Primary SqlCond JoinPart Query TableRef) (y : Query-F KnownPrimary KnownCond KnownJoin KnownQuery KnownTable) → known_query y ≡ x → QueryNames (query_walk (roll-Query x))
query_law x y is = subst (λ z. QueryNames (query_walk (roll-Query z))) is
    (subst QueryNames (sym (fold-roll-Query ElementWalk Condition JoinWalk QueryWalk ElementWalk primary_step cond_step join_step query_step table_ref_step (known_query y)))
    (names_text (query_walks (known_query y)) (record { from = elements y.from; filter = filter_if y y.filter; having = having_if y y.having })))

names_query : (q : Query) → QueryNames (query_walk q)
names_query = ind-Query (λ x. ElementNames (element x)) (λ x. CondNames (condition x)) (λ x. JoinNames (join x)) (λ x. QueryNames (query_walk x)) (λ x. ElementNames (table_ref x)) primary_law cond_law join_law query_law table_law

-- ---- ORDER BY

names_named_place : (name : List ℕ) (found : List (ℕ × List ℕ)) → Names (named_place name found)
names_named_place name [] = names_refuse _ tt
names_named_place name (place ∷ []) = names_pure _
names_named_place name (place ∷ other ∷ others) = names_refuse _ tt

or_refuse : {A : Type 0} (test : Bool) (a : A) (fault : JudgeFault) → IsNamedFault fault → Names (if test then pure a else refuse fault)
or_refuse true a fault named = names_pure a
or_refuse false a fault named = names_refuse fault named

names_place_at : (position : ℤ) (count : ℕ) → Names (place_at position count)
names_place_at (pos position) count = or_refuse (leb 1 position && leb position count) (position - 1) (UnknownColumn (signed_decimal (pos position))) tt
names_place_at (negsuc n) count = names_refuse _ tt

names_order_place : (names : List (List ℕ)) (name : OrderName) → Names (order_place names name)
names_order_place names (Name name) = names_named_place name (places name names)
names_order_place names (Position position) = names_place_at position _

names_key : (names : List (List ℕ)) (key : OrderKey) → Names (order_key names key)
unfolding order_key
names_key names key = names_map _ (names_order_place names key.name)

names_ordered : (order : List OrderKey) (walked : Walked) → Names (ordered order walked)
names_ordered order walked = names_map _ (names_each (λ key. ⊤) (order_key (map name_of walked.outputs)) (λ key known. names_key (map name_of walked.outputs) key) order (nothing_known order))

names_select : (tables : Tables) (x : Select) → Names (select tables x)
unfolding select
names_select tables x = names_then (names_query x.query tables role.Statement []) (λ walked. names_ordered x.order walked)

-- ---- other statements

names_place : (name : List ℕ) (place : Option ℕ) → Names (place_or_fault name place)
names_place name None = names_refuse _ tt
names_place name (Some place) = names_pure place

names_place_of : (columns : List Column) (name : List ℕ) → Names (place_of_column columns name)
unfolding place_of_column
names_place_of columns name = names_place name _

names_placing : (columns : List Column) (hash : Option (List ℕ)) → Names (placing columns hash)
names_placing columns None = names_pure _
names_placing columns (Some name) = names_map Hash (names_place_of columns name)

names_new_column : (before : List Column) (column : Column) → Names (new_column before column)
names_new_column before column =
    names_then (names_if (length before == MOST_COLUMNS) (Limit limit.Columns MOST_COLUMNS) tt)
    (λ u. names_then (names_if (list_any (is_named column.name) before) (DuplicateName column.name) tt) (λ u. names_pure (before ++ column ∷ [])))

names_create : (tables : Tables) (name : List ℕ) (columns : List Column) (hash : Option (List ℕ)) → Names (create tables name columns hash)
unfolding create
names_create tables name columns hash =
    names_then (names_if _ _ tt) (λ u. names_then (names_over (λ column. ⊤) new_column (λ before column known. names_new_column before column) [] columns (nothing_known columns))
    (λ found. names_then (names_placing columns hash) (λ where_rows. names_then (names_if _ _ tt) (λ u. names_pure _))))

names_setting : (name : List ℕ) (least most : ℕ) (amount : ℤ) → Names (setting name least most amount)
unfolding setting
names_setting name least most amount = names_then (names_if _ _ tt) (λ u. names_pure _)

names_statistic : (columns : List Column) (before : List (ℕ × ℕ × ℕ)) (one : List ℕ × ℤ × ℤ) → Names (new_statistic columns before one)
names_statistic columns before (name, distinct, width) =
    names_then (names_place_of columns name) (λ place. names_then (names_if _ _ tt) (λ u. names_then (names_setting _ _ _ distinct) (λ values. names_then (names_setting _ _ _ width) (λ bytes. names_pure _))))

names_known_or : (tables : Tables) (name : List ℕ) (table : Option Table) → Names (known_or_fault tables name table)
names_known_or tables name None = names_refuse _ tt
names_known_or tables name (Some table) = names_pure table

names_known : (tables : Tables) (name : List ℕ) → Names (known tables name)
unfolding known
names_known tables name = names_known_or tables name (table_named name tables)

names_with_known : (tables : Tables) (name : List ℕ) (work : Judged) → Names (with_known tables name work)
unfolding with_known
names_with_known tables name work = names_then (names_known tables name) (λ table. names_pure work)

names_hand : (tables : Tables) (name : List ℕ) (rows : ℤ) (cols : List (List ℕ × ℤ × ℤ)) → Names (hand tables name rows cols)
unfolding hand
names_hand tables name rows cols =
    names_then (names_known tables name) (λ table. names_then (names_setting _ _ _ rows)
    (λ count. names_then (names_over (λ column. ⊤) (new_statistic table.columns) (λ before column known. names_statistic table.columns before column) [] cols (nothing_known cols)) (λ statistics. names_pure _)))

names_budget : (amount : ℤ) → Names (budget_setting amount)
unfolding budget_setting
names_budget amount = names_map _ (names_setting _ _ _ amount)

names_cost : (part : CostPart) (amount : ℤ) → Names (cost_setting part amount)
unfolding cost_setting
names_cost part amount = names_map _ (names_setting _ _ _ amount)

names_statement : (tables : Tables) (x : Statement) → Names (statement tables x)
unfolding statement
names_statement tables (s.CreateNamed name columns hash) = names_create tables name columns hash
names_statement tables (s.Drop name) = names_with_known tables name _
names_statement tables (s.Load name file) = names_with_known tables name _
names_statement tables (s.Measure name) = names_with_known tables name _
names_statement tables (s.Hand name rows cols) = names_hand tables name rows cols
names_statement tables (s.Budget amount) = names_budget amount
names_statement tables (s.Cost part amount) = names_cost part amount
names_statement tables (s.Select query) = names_map _ (names_select tables query)
names_statement tables (s.Explain query) = names_map _ (names_select tables query)
names_statement tables (s.ExplainJson query) = names_map _ (names_select tables query)
names_statement tables (s.Profile query) = names_map _ (names_select tables query)
names_statement tables (s.CheckPlan file query) = names_map _ (names_select tables query)

-- ---- the judgement

fault_or : {A : Type 0} → JudgeFault → Result A JudgeFault → JudgeFault
fault_or otherwise (Ok a) = otherwise
fault_or otherwise (Err fault) = fault

refused_named : {A : Type 0} (o : Outcome A) (fault : JudgeFault) → IsNamed o → answer_of o ≡ Err fault → fault ≢ Memory
unfolding fault_or
refused_named (done a w) fault named e is = cc
refused_named (refused found) fault named e is = subst IsNamedFault (ap (fault_or Memory) e ∙ is) named

-- a fault of the judgement is never want of memory
pub judgement_names : (tables : Tables) (x : Statement) (fault : JudgeFault) → judgement tables x ≡ Err fault → fault ≢ Memory
judgement_names tables x fault e = refused_named (statement tables x beginning) fault ((names_statement tables x).at beginning) e
