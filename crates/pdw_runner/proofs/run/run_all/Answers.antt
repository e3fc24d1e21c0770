use Rattle.std.proofs.Common.{List, [], map, ap, ◌∙◌, subst}
use Rattle.std.specs.List.{flat_map}
use Rattle.pdw_base.proofs.SameBagLaws.{SameBag-trans}
use Rattle.pdw_base.specs.SameBag.{SameBag}
use Rattle.pdw_base.specs.Schema.{Columns, cell}
use Rattle.pdw_dsql.specs.Follows.{brought_by, rows_of_tree, taken_in_turn, temporaries_of}
use Rattle.pdw_dsql.specs.Sites.{rows_from}
use Rattle.pdw_dsql.specs.Typed.{schemas_of}
use Rattle.pdw_dsql.specs.declared.steps.Step.{Step}
use Rattle.pdw_exec.specs.Shapes.{local_schema}
use Rattle.pdw_runner.proofs.Returning.{rows_from-same}
use Rattle.pdw_runner.proofs.Tabled.{tree-over}
use Rattle.pdw_runner.proofs.run.run_all.Goals as goal
use Rattle.pdw_runner.specs.Tables.{Hold, rows_over}

pub returns-clause-rows : goal.returns-clause-rows
returns-clause-rows g c =
    let contents = c.args.appliance.now in
    let steps = c.args.steps.now in
    let temps = c.in_ok-temps.field-0.temps in
    let tables = temporaries_of contents steps in
    let hold : Hold contents.nodes temps tables =
    subst (λ (moves : List Step). Hold contents.nodes temps (map (brought_by contents) (taken_in_turn contents [] moves))) c.as_slice.ensures c.in_ok-temps.ensures.tables in
    SameBag-trans
    (subst (λ (schemas : List Columns). SameBag (map (cell (local_schema contents.tables schemas steps.last)) (flat_map (λ bag. bag) c.in_ok-rows.rows)) (rows_from contents.nodes steps.last_site (rows_over contents temps steps.last)))
    (c.in_ok-temps.ensures.schemas ∙ ap schemas_of c.as_slice.ensures) c.in_ok-rows.ensures)
    (rows_from-same contents.nodes steps.last_site (rows_over contents temps steps.last) (rows_of_tree contents tables steps.last) c.requires.sound.nodes.0
    (λ place there. tree-over contents temps tables hold steps.last place there))
