use Rattle.std.proofs.Common.{[], sym, ◌∙◌}
use Rattle.pdw_exec.proofs.TempLemmas.{if_ok-both, index-some, nothing-gives, schema-gives, table-gives}
use Rattle.pdw_exec.proofs.temps.table_at.Goals as goal

pub returns-in-Some-at : goal.returns-in-Some-at
returns-in-Some-at c =
    if_ok-both _ _ _
    (λ found columns rows. table-gives c.args.temps.now c.args.schemas.now c.args.node c.args.place c.in-Some-at.placed.now c.in-Some.schema.now found (sym c.in-Some-at.ensures) (sym c.in-Some.ensures) columns rows)
    c.placed_rows.result c.placed_rows.ensures.columns c.placed_rows.ensures.rows

pub returns-in-None-at : goal.returns-in-None-at
returns-in-None-at c =
    let schemas = c.args.schemas.now in
    let place = c.args.place in
    if_ok-both _ _ _
    (λ found columns rows. schema-gives c.args.temps.now schemas c.args.node place found (sym c.in-None-at.ensures) (columns ∙ sym (index-some schemas place [] c.in-Some.schema.now (sym c.in-Some.ensures))) rows)
    c.no_rows.result c.no_rows.ensures.columns c.no_rows.ensures.rows

pub returns-in-None : goal.returns-in-None
returns-in-None c =
    if_ok-both _ _ _
    (λ found columns rows. nothing-gives c.args.temps.now c.args.schemas.now c.args.node c.args.place found (sym c.in-None.ensures) columns rows)
    c.nothing.result c.nothing.ensures.columns c.nothing.ensures.rows
