-- Query specifications (SQL-92, 7.9) and the order of rows (13.1).
use Rattle.std.specs.Fmt.{signed_decimal}
use Rattle.std.specs.List.{enumerate_from, filter}
use Rattle.std.specs.Option.{option_map}
use Rattle.std.specs.Prelude.{ℕ, ℤ, pos, negsuc, ◌-◌, ◌&&◌, leb, Bool, false, List, [], ◌∷◌, length, map, Option, Some, None, is_some, if◌then◌else◌}
use Rattle.std.specs.Str.{bytes_eq}
use Rattle.pdw_syntax.specs.declared.expr.ColRef.{ColRef}
use Rattle.pdw_syntax.specs.declared.query.JoinPart.{JoinPart}
use Rattle.pdw_syntax.specs.declared.query.OrderKey.{OrderKey}
use Rattle.pdw_syntax.specs.declared.query.OrderName.TheVariants.{Name, Position}
use Rattle.pdw_syntax.specs.declared.query.OrderName.{OrderName}
use Rattle.pdw_syntax.specs.declared.query.Primary.TheFolds.{fold-Primary, fold-SqlCond, fold-JoinPart, fold-Query, fold-TableRef}
use Rattle.pdw_syntax.specs.declared.query.Primary.TheOpen.{Query-F}
use Rattle.pdw_syntax.specs.declared.query.Primary.{Primary}
use Rattle.pdw_syntax.specs.declared.query.Query.{Query, out-Query}
use Rattle.pdw_syntax.specs.declared.query.Select.{Select}
use Rattle.pdw_syntax.specs.declared.query.SqlCond.{SqlCond}
use Rattle.pdw_syntax.specs.declared.query.TableRef.{TableRef}
use Rattle.pdw_catalog.specs.Catalog.{Tables}
use Rattle.pdw_expr.specs.declared.agg.Agg.{Agg}
use Rattle.pdw_expr.specs.declared.cond.Cond.{Cond}
use Rattle.pdw_walk.specs.Conds.{Condition, QueryWalk, cond_step, tested}
use Rattle.pdw_walk.specs.Conjuncts.{Around, is_correlated, place_in, where_walk}
use Rattle.pdw_walk.specs.Froms.{ElementWalk, JoinWalk, finished, join_step, Sources, no_sources, primary_step, source, table_ref_step}
use Rattle.pdw_walk.specs.Items.{items_walk, refuse_repeated, repeated_name}
use Rattle.pdw_walk.specs.Lookup.{Place, Scope, column}
use Rattle.pdw_walk.specs.Names.{is_grouped}
use Rattle.pdw_walk.specs.Walk.{Walk, Outcome, done, refused, Step, ◌>>=◌, ◌>>◌, ◌<$>◌, pure, refuse, over, each, count_query, with_aggs, with_taken}
use Rattle.pdw_walk.specs.declared.entry.Column.{Column}
use Rattle.pdw_walk.specs.declared.entry.Conjuncts.{Conjuncts}
use Rattle.pdw_walk.specs.declared.entry.Draft.{Draft}
use Rattle.pdw_walk.specs.declared.entry.Met.{Met}
use Rattle.pdw_walk.specs.declared.entry.Outputs.{Outputs}
use Rattle.pdw_walk.specs.declared.entry.Role.TheVariants as role
use Rattle.pdw_walk.specs.declared.entry.Role.{Role}
use Rattle.pdw_walk.specs.declared.entry.Slot.{Slot}
use Rattle.pdw_walk.specs.declared.entry.Walked.{Walked}
use Rattle.pdw_walk.specs.declared.fault.JudgeFault.TheVariants.{Ambiguous, UnknownColumn}
use Rattle.pdw_form.specs.declared.judged.JFrom.{JFrom}
use Rattle.pdw_form.specs.declared.judged.JGroup.{JGroup}
use Rattle.pdw_form.specs.declared.judged.JudgedQuery.{roll-JudgedQuery}
use Rattle.pdw_form.specs.declared.judged.JudgedSelect.{JudgedSelect}

-- ---- GROUP BY and HAVING

unfoldable pub keys_walk : Place → List ColRef → Step (List Met)
keys_walk place refs = each (column place) refs

-- the grouping columns, where the query is grouped
abbrev pub keys_if : Bool → List Met → Option (List Slot)
keys_if grouped mets = if grouped then Some (map (λ met. met.column.slot) mets) else None

abbrev pub group_place : List Scope → Scope → Option (List Slot) → Place
group_place outers own keys = record { own = own; outers = outers; reaches = false; keys = keys }

-- ---- a query

abbrev pub group_of : Bool → List Met → List Agg → List Cond → Option JGroup
group_of grouped keys aggs having = if grouped then Some (record { keys = map (λ met. met.column.number) keys; aggs = aggs; having = having }) else None

-- what the walk gives, when all used columns and aggregates are known
abbrev pub walked_query : Bool → List JFrom → Conjuncts → Option JGroup → Outputs → Walked
walked_query distinct from filters group outputs = record {
  query = roll-JudgedQuery (record {
    from = from;
    plain = filters.plain;
    outer = filters.outer;
    subs = filters.subs;
    group = group;
    items = outputs.items;
    distinct = distinct;
  });
  outputs = outputs.columns;
}

-- the query's aggregates are taken out of the walk
unfoldable pub finish : Bool → Bool → List Draft → Conjuncts → List Met → List Cond → Outputs → Step Walked
finish distinct grouped drafts filters keys having outputs w =
    done (walked_query distinct (map (finished w.numbers) drafts) filters (group_of grouped keys w.aggs having) outputs) (with_aggs [] w)

-- a query has aliases and aggregates of its own; those of the enclosing query are as before when it ends
abbrev pub restored : {A : Type 0} → Walk → Outcome A → Outcome A
restored before (done a w) = done a (with_taken before.taken (with_aggs before.aggs w))
restored before (refused fault) = refused fault

abbrev pub apart : {A : Type 0} → Step A → Step A
apart step = λ w. restored w (step (with_taken [] (with_aggs [] w)))

-- the parts of a query's text, with the walks of those that lead back to queries
abbrev pub Text : Type 0
Text = Query-F ElementWalk Condition JoinWalk QueryWalk ElementWalk

abbrev pub grouped : Text → Bool
grouped q = is_grouped q.group (is_some q.having) q.items

abbrev pub around_of : Text → Tables → Role → List Scope → Scope → Around
around_of q tables role outers own = record { tables = tables; own = own; outers = outers; correlated = is_correlated role (grouped q) }

module _ (q : Text) (role : Role) (outers : List Scope) (own : Scope) (is_group : Bool) where
  unfoldable pub after_items : List Draft → Conjuncts → List Met → List Cond → Outputs → Step Walked
  after_items drafts filters keys having outputs =
      refuse_repeated (repeated_name role outputs.columns) >> finish q.distinct is_group drafts filters keys having outputs

  unfoldable pub after_having : List Draft → Conjuncts → List Met → List Cond → Step Walked
  after_having drafts filters keys having =
      items_walk role (group_place outers own (keys_if is_group keys)) q.items >>= after_items drafts filters keys having

  unfoldable pub after_keys : List Draft → Conjuncts → List Met → Step Walked
  after_keys drafts filters keys =
      tested (group_place outers own (keys_if is_group keys)) q.having >>= after_having drafts filters keys

  unfoldable pub after_where : List Draft → Conjuncts → Step Walked
  after_where drafts filters = keys_walk (place_in outers own) q.group >>= after_keys drafts filters

module _ (q : Text) (tables : Tables) (role : Role) (outers : List Scope) where
  unfoldable pub after_from : Sources → Step Walked
  after_from sources =
      where_walk (around_of q tables role outers sources.own) q.filter >>= after_where q role outers sources.own (grouped q) sources.drafts

  unfoldable pub parts_walk : Step Walked
  parts_walk = over (source tables outers) no_sources q.from >>= after_from

unfoldable pub query_step : Text → QueryWalk
query_step q tables role outers = count_query >> apart (parts_walk q tables role outers)

-- ---- the walks of what can be nested

abbrev pub element : Primary → ElementWalk
element = fold-Primary ElementWalk Condition JoinWalk QueryWalk ElementWalk primary_step cond_step join_step query_step table_ref_step

abbrev pub condition : SqlCond → Condition
condition = fold-SqlCond ElementWalk Condition JoinWalk QueryWalk ElementWalk primary_step cond_step join_step query_step table_ref_step

abbrev pub join : JoinPart → JoinWalk
join = fold-JoinPart ElementWalk Condition JoinWalk QueryWalk ElementWalk primary_step cond_step join_step query_step table_ref_step

abbrev pub query_walk : Query → QueryWalk
query_walk = fold-Query ElementWalk Condition JoinWalk QueryWalk ElementWalk primary_step cond_step join_step query_step table_ref_step

abbrev pub table_ref : TableRef → ElementWalk
table_ref = fold-TableRef ElementWalk Condition JoinWalk QueryWalk ElementWalk primary_step cond_step join_step query_step table_ref_step

abbrev pub query : Tables → Query → Role → List Scope → Step Walked
query tables q = query_walk q tables

-- a query's text
abbrev pub text : Query → Text
text q = record {
  distinct = (out-Query q).distinct;
  items = (out-Query q).items;
  from = map table_ref (out-Query q).from;
  filter = option_map condition (out-Query q).filter;
  group = (out-Query q).group;
  having = option_map condition (out-Query q).having;
}

-- ---- ORDER BY

-- the name of an output column
abbrev pub name_of : Column → List ℕ
name_of output = output.name

-- whether an output column has this name
abbrev pub has_name : List ℕ → Column → Bool
has_name name output = bytes_eq name output.name

-- the same of its place and its name
abbrev pub place_has_name : List ℕ → (ℕ × List ℕ) → Bool
place_has_name name column = bytes_eq name column.1

-- the places of the output columns of a name, from 0
abbrev pub places : List ℕ → List (List ℕ) → List (ℕ × List ℕ)
places name names = filter (place_has_name name) (enumerate_from 0 names)

abbrev pub named_place : List ℕ → List (ℕ × List ℕ) → Step ℕ
named_place name [] = refuse (UnknownColumn name)
named_place name (place ∷ []) = pure place.0
named_place name (place ∷ others) = refuse (Ambiguous name)

-- a position from 1
abbrev pub place_at : ℤ → ℕ → Step ℕ
place_at (pos position) count = if leb 1 position && leb position count then pure (position - 1) else refuse (UnknownColumn (signed_decimal (pos position)))
place_at (negsuc n) count = refuse (UnknownColumn (signed_decimal (negsuc n)))

abbrev pub order_place : List (List ℕ) → OrderName → Step ℕ
order_place names (Name name) = named_place name (places name names)
order_place names (Position position) = place_at position (length names)

unfoldable pub order_key : List (List ℕ) → OrderKey → Step (ℕ × Bool)
order_key names key = (λ place. (place, key.descending)) <$> order_place names key.name

-- the query, then the order keys
abbrev pub ordered : List OrderKey → Walked → Step JudgedSelect
ordered order walked = (λ keys. record { query = walked.query; order = keys }) <$> each (order_key (map name_of walked.outputs)) order

unfoldable pub select : Tables → Select → Step JudgedSelect
select tables s = query tables s.query role.Statement [] >>= ordered s.order
