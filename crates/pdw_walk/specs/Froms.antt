-- FROM (SQL-92, 6.3 and 7.5): its elements from left to right, and the columns that they give.
use Rattle.std.specs.Prelude.{ℕ, ◌==◌, false, List, [], ◌∷◌, ◌++◌, map, Option, Some, None, if◌then◌else◌}
use Rattle.std.specs.List.{enumerate_from, flat_map}
use Rattle.pdw_syntax.specs.declared.query.JoinWord.{JoinWord}
use Rattle.pdw_syntax.specs.declared.query.Primary.TheOpen.{Primary-F, JoinPart-F, TableRef-F}
use Rattle.pdw_base.specs.declared.schema.ColId.{ColId}
use Rattle.pdw_catalog.specs.Catalog.{Tables, table_named}
use Rattle.pdw_catalog.specs.declared.table.Column.{Column as TableColumn}
use Rattle.pdw_catalog.specs.declared.table.Table.{Table}
use Rattle.pdw_expr.specs.declared.cond.Cond.{Cond}
use Rattle.pdw_walk.specs.Conds.{Condition, QueryWalk, tested}
use Rattle.pdw_walk.specs.Lookup.{Place, Scope}
use Rattle.pdw_walk.specs.Walk.{Step, ◌>>=◌, ◌>>◌, ◌<$>◌, pure, refuse, over, col_id, count_reference, take_alias}
use Rattle.pdw_walk.specs.declared.entry.Column.{Column}
use Rattle.pdw_walk.specs.declared.entry.Draft.{Draft}
use Rattle.pdw_walk.specs.declared.entry.Draft.TheOpen.{Draft-F}
use Rattle.pdw_walk.specs.declared.entry.Draft.TheFolds.{fold-Draft}
use Rattle.pdw_walk.specs.declared.entry.Draft.TheVariants as draft
use Rattle.pdw_walk.specs.declared.entry.Element.{Element}
use Rattle.pdw_walk.specs.declared.entry.Entry.{Entry}
use Rattle.pdw_walk.specs.declared.entry.Role.TheVariants.{DerivedTable}
use Rattle.pdw_walk.specs.declared.entry.Slot.{Slot}
use Rattle.pdw_walk.specs.declared.entry.Slot.TheVariants.{Base, Made}
use Rattle.pdw_walk.specs.declared.entry.Walked.{Walked}
use Rattle.pdw_walk.specs.declared.fault.JudgeFault.TheVariants.{UnknownTable}
use Rattle.pdw_form.specs.declared.judged.JFrom.{JFrom}
use Rattle.pdw_form.specs.declared.judged.JFrom.TheVariants as from

-- the walk of an element of FROM over the tables that there are, within the scopes that enclose the query
abbrev pub ElementWalk : Type 0
ElementWalk = Tables → List Scope → Step Element

-- the walk of a join, with what stands on its left
abbrev pub JoinWalk : Type 0
JoinWalk = Tables → List Scope → Element → Step Element

-- ---- tables

abbrev pub called : List ℕ → Option (List ℕ) → List ℕ
called table None = table
called table (Some alias) = alias

abbrev pub table_entry : List ℕ → ℕ → (ℕ × TableColumn) → Entry
table_entry alias reference column = record { alias = alias; column = column.1.name; kind = column.1.kind; slot = Base reference column.0 }

abbrev pub table_entries : List ℕ → ℕ → List TableColumn → List Entry
table_entries alias reference columns = map (table_entry alias reference) (enumerate_from 0 columns)

abbrev pub table_element : List ℕ → List ℕ → List TableColumn → ℕ → Element
table_element name alias columns reference = record { draft = draft.Table name alias reference; entries = table_entries alias reference columns }

-- one reference too many, then an alias that is taken
unfoldable pub known_table_walk : List ℕ → List ℕ → List TableColumn → Step Element
known_table_walk name alias columns = do
  reference ← count_reference
  take_alias alias
  pure (table_element name alias columns reference)

-- an unknown table before these
abbrev pub table_walk : List ℕ → List ℕ → Option Table → Step Element
table_walk name alias None = refuse (UnknownTable name)
table_walk name alias (Some table) = known_table_walk name alias table.columns

-- ---- derived tables

abbrev pub derived_entry : List ℕ → Column → Entry
derived_entry alias output = record { alias = alias; column = output.name; kind = output.kind; slot = output.slot }

abbrev pub derived_element : List ℕ → Walked → Element
derived_element alias walked = record { draft = draft.Derived walked.query; entries = map (derived_entry alias) walked.outputs }

unfoldable pub derived_walk : List ℕ → Walked → Step Element
derived_walk alias walked = take_alias alias >> pure (derived_element alias walked)

-- ---- joins

abbrev pub joined : JoinWord → Element → Element → List Cond → Element
joined word left right on = record { draft = draft.Join word left.draft right.draft on; entries = left.entries ++ right.entries }

-- ON sees the two sides of its join, and then what encloses the query
abbrev pub on_place : List Scope → Scope → Place
on_place outers own = record { own = own; outers = outers; reaches = false; keys = None }

unfoldable pub joined_walk : List Scope → JoinWord → Option Condition → Element → Element → Step Element
joined_walk outers word on left right = joined word left right <$> tested (on_place outers (left.entries ++ right.entries)) on

-- a derived table, whose query is walked first
abbrev pub derived_table : QueryWalk → List ℕ → Tables → List Scope → Step Element
derived_table query alias tables outers = query tables DerivedTable outers >>= derived_walk alias

abbrev pub primary_step : Primary-F ElementWalk Condition JoinWalk QueryWalk ElementWalk → ElementWalk
primary_step (Primary-F.Named table alias) tables outers = table_walk table (called table alias) (table_named table tables)
primary_step (Primary-F.Derived query alias) tables outers = derived_table query alias tables outers
primary_step (Primary-F.«Primary::Paren» element) tables outers = element tables outers

abbrev pub join_step : JoinPart-F ElementWalk Condition JoinWalk QueryWalk ElementWalk → JoinWalk
join_step join tables outers left = join.right tables outers >>= joined_walk outers join.word join.on left

abbrev pub join_after : Tables → List Scope → Element → JoinWalk → Step Element
join_after tables outers left join = join tables outers left

abbrev pub table_ref_step : TableRef-F ElementWalk Condition JoinWalk QueryWalk ElementWalk → ElementWalk
table_ref_step table tables outers = table.first tables outers >>= (λ first. over (join_after tables outers) first table.joins)

-- ---- the elements of FROM together

pub record Sources : Type 0 where
  -- the columns that they give
  pub own : Scope
  pub drafts : List Draft

abbrev pub no_sources : Sources
no_sources = record { own = []; drafts = [] }

-- the columns and the draft of an element after those before it
abbrev pub with_element : Sources → Element → Sources
with_element before element = record { own = before.own ++ element.entries; drafts = before.drafts ++ element.draft ∷ [] }

abbrev pub source : Tables → List Scope → Sources → ElementWalk → Step Sources
source tables outers before element = with_element before <$> element tables outers

-- ---- the used columns, when all are known

-- a number that stands for a column of this reference
abbrev pub used_at : ℕ → ℕ × Slot → List (ColId × ℕ)
used_at reference (number, Base other column) = if reference == other then (col_id number, column) ∷ [] else []
used_at reference (number, Made made) = []

-- by rising numbers
abbrev pub used_columns : List Slot → ℕ → List (ColId × ℕ)
used_columns numbers reference = flat_map (used_at reference) (enumerate_from 0 numbers)

abbrev pub finished_step : List Slot → Draft-F JFrom → JFrom
finished_step numbers (Draft-F.Table table alias reference) = from.Table table alias (used_columns numbers reference)
finished_step numbers (Draft-F.Derived query) = from.Derived query
finished_step numbers (Draft-F.Join word left right on) = from.Join word left right on

abbrev pub finished : List Slot → Draft → JFrom
finished numbers = fold-Draft JFrom (finished_step numbers)
