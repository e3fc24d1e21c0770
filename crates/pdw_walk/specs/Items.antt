-- What a query selects (SQL-92, 7.9): its items from left to right, and the output columns that they make.
use Rattle.std.specs.Prelude.{ℕ, ◌+◌, ◌==◌, List, [], ◌∷◌, ◌++◌, length, map, Option, Some, None, codes, if◌then◌else◌}
use Rattle.std.specs.Str.{bytes_eq}
use Rattle.pdw_syntax.specs.declared.expr.SqlExpr.{SqlExpr}
use Rattle.pdw_syntax.specs.declared.query.Item.TheVariants as item
use Rattle.pdw_syntax.specs.declared.query.Item.{Item}
use Rattle.pdw_syntax.specs.declared.query.Items.TheVariants.{Star, List as Listed}
use Rattle.pdw_syntax.specs.declared.query.Items.{Items}
use Rattle.pdw_base.specs.declared.value.Kind.{Kind}
use Rattle.pdw_expr.specs.declared.scalar.Scalar.{Scalar}
use Rattle.pdw_walk.specs.Exprs.{expr}
use Rattle.pdw_walk.specs.Lookup.{Place, column, own_column, qualified}
use Rattle.pdw_walk.specs.Names.{item_name}
use Rattle.pdw_walk.specs.Walk.{refused, Step, ◌>>=◌, ◌>>◌, ◌<$>◌, pure, refuse, refuse_if, over, is_among, made_number}
use Rattle.pdw_walk.specs.declared.entry.Column.{Column}
use Rattle.pdw_walk.specs.declared.entry.Entry.{Entry}
use Rattle.pdw_walk.specs.declared.entry.Numbered.{Numbered}
use Rattle.pdw_walk.specs.declared.entry.Outputs.{Outputs}
use Rattle.pdw_walk.specs.declared.entry.Role.TheVariants as role
use Rattle.pdw_walk.specs.declared.entry.Role.{Role}
use Rattle.pdw_walk.specs.declared.entry.Slot.{Slot}
use Rattle.pdw_walk.specs.declared.entry.Typed.{Typed}
use Rattle.pdw_walk.specs.declared.fault.JudgeFault.TheVariants.{DuplicateName, Limit, UnknownColumn}
use Rattle.pdw_walk.specs.declared.fault.LimitName.TheVariants as limit
use Rattle.pdw_walk.specs.declared.fault.TheConstants.{MOST_ITEMS}

abbrev pub no_outputs : Outputs
no_outputs = record { items = []; columns = [] }

-- one output column more
abbrev pub with_output : Outputs → List ℕ → Kind → Numbered → Option Scalar → Outputs
with_output before name kind column make = record {
  items = before.items ++ record { name = name; out = column.number; make = make } ∷ [];
  columns = before.columns ++ record { name = name; kind = kind; slot = column.slot } ∷ [];
}

-- if there is room
abbrev pub room_for_output : Outputs → Step (Unit {0})
room_for_output before = refuse_if (length before.items == MOST_ITEMS) (Limit limit.Items MOST_ITEMS)

-- a column of `*` or `a.*`, with the name by which a fault names it
unfoldable pub star_column : Option (List Slot) → Option (List ℕ) → Outputs → Entry → Step Outputs
star_column keys alias before entry = do
  room_for_output before
  met ← own_column keys (qualified alias entry.column) entry
  pure (with_output before entry.column met.kind met.column None)

-- a bare column or aggregate is passed through; anything else gets the next number
abbrev pub made_output : Outputs → List ℕ → Typed → Option Numbered → Step Outputs
made_output before name x (Some column) = pure (with_output before name x.kind column None)
made_output before name x None = (λ column. with_output before name x.kind column (Some x.scalar)) <$> made_number

unfoldable pub made_item : Place → Outputs → SqlExpr → List ℕ → Step Outputs
made_item place before value name = do
  room_for_output before
  x ← expr value place
  made_output before name x x.bare

-- a column that is one of `alias.*`, or another one
abbrev pub alias_column : Option (List Slot) → List ℕ → Outputs → Entry → Step Outputs
alias_column keys alias before entry = if bytes_eq alias entry.alias then star_column keys (Some alias) before entry else pure before

-- the columns of an element of this query's own FROM
unfoldable pub alias_star : Place → List ℕ → Outputs → Step Outputs
alias_star place alias before = λ w.
    if is_among alias w.taken
    then over (alias_column place.keys alias) before place.own w
    else refused (UnknownColumn (alias ++ codes ".*"))

abbrev pub item_walk : Place → Outputs → Item → Step Outputs
item_walk place before (item.AliasStar alias) = alias_star place alias before
item_walk place before (item.Made x name) = made_item place before x (item_name x name (length before.items + 1))

-- `*` directly in a subquery of EXISTS uses no column and gives none
abbrev pub all_columns : Role → Place → Step Outputs
all_columns role.Exists place = pure no_outputs
all_columns _ place = over (star_column place.keys None) no_outputs place.own

abbrev pub items_walk : Role → Place → Items → Step Outputs
items_walk role place Star = all_columns role place
items_walk role place (Listed items) = over (item_walk place) no_outputs items

-- ---- the names of a derived table

-- the first name that an earlier one is
abbrev pub repeated : List (List ℕ) → List (List ℕ) → Option (List ℕ)
repeated before [] = None
repeated before (name ∷ names) = if is_among name before then Some name else repeated (before ++ name ∷ []) names

-- the output names of a derived table differ
abbrev pub repeated_name : Role → List Column → Option (List ℕ)
repeated_name role.DerivedTable columns = repeated [] (map (λ column. column.name) columns)
repeated_name _ columns = None

abbrev pub refuse_repeated : Option (List ℕ) → Step (Unit {0})
refuse_repeated None = pure tt
refuse_repeated (Some name) = refuse (DuplicateName name)
