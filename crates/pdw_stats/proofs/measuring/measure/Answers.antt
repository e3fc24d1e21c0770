use Rattle.std.proofs.Common.{◌≡◌, ℕ, List, Option, Some, Bor, sym, ap, ap₂, ◌∙◌, subst, map}
use Rattle.std.specs.List.{enumerate_from}
use Rattle.std.specs.Option.{option_copied}
use Rattle.pdw_catalog.specs.Appliance.{Contents}
use Rattle.pdw_catalog.specs.Catalog.{Tables, table_named}
use Rattle.pdw_catalog.specs.declared.table.Table.{Table}
use Rattle.pdw_stats.specs.Known.{AreFewBytes}
use Rattle.pdw_stats.specs.Measured.{column_at, measured_column}
use Rattle.pdw_stats.specs.Stats.{IsInRange}
use Rattle.pdw_stats.specs.declared.stats.Stats.{Stats}
use Rattle.pdw_stats.proofs.MeasuredLemmas.{AreFewBytes-whole_of, IsInRange-whole_of}
use Rattle.pdw_stats.proofs.measuring.measure.Goals as goal

there : (name : List ℕ) (held tables : Tables) (found : Option (Bor Table)) (table : Bor Table) → held ≡ tables → option_copied found ≡ table_named name held → found ≡ Some table
    → table_named name tables ≡ Some table.now
there name held tables found table same look_up is = ap (table_named name) (sym same) ∙ sym look_up ∙ ap option_copied is

pub measure_columns-requires-clause-few : goal.measure_columns-requires-clause-few
measure_columns-requires-clause-few c =
    let contents : Contents = c.args.app.now in
    let name = c.args.table.now in
    let found = there name c.catalog.result.now contents.tables c.table.result c.unwrap.result c.catalog.ensures.tables c.table.ensures c.unwrap.ensures in
    subst AreFewBytes (sym c.parts.ensures) (AreFewBytes-whole_of contents name c.unwrap.result.now c.catalog.ensures.sound found)

pub returns-clause-range : goal.returns-clause-range
returns-clause-range c =
    let contents : Contents = c.args.app.now in
    let name = c.args.table.now in
    let found = there name c.catalog.result.now contents.tables c.table.result c.unwrap.result c.catalog.ensures.tables c.table.ensures c.unwrap.ensures in
    let cols = c.in_ok-cols.ensures
    ∙ ap₂ (λ columns rows. map (λ numbered. measured_column numbered.1.kind (column_at numbered.0 rows)) (enumerate_from 0 columns)) c.as_slice-columns.ensures c.parts.ensures in
    subst IsInRange (ap₂ {C = Stats} (λ count columns. record { rows = count; cols = columns }) (sym c.row_count-rows.ensures) (sym cols))
    (IsInRange-whole_of contents name c.unwrap.result.now c.catalog.ensures.sound found)
