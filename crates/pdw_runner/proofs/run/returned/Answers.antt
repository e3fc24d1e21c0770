use Rattle.std.proofs.Common.{List, sym, subst, map}
use Rattle.std.specs.List.{flat_map}
use Rattle.pdw_base.specs.SameBag.{SameBag}
use Rattle.pdw_base.specs.Schema.{cell}
use Rattle.pdw_dsql.specs.Sites.{rows_from}
use Rattle.pdw_move.specs.Placed.{Row}
use Rattle.pdw_runner.proofs.Returning.{returned-bags}
use Rattle.pdw_runner.proofs.run.returned.Goals as goal
use Rattle.pdw_runner.specs.Tables.{columns_over, rows_over}

pub returns : goal.returns
returns c =
    let n = c.args.appliance.now.nodes in
    let columns = columns_over c.args.appliance.now c.args.temps.now c.args.tree.now in
    let rows = rows_over c.args.appliance.now c.args.temps.now c.args.tree.now in
    subst (λ (bags : List (List Row)). SameBag (map (cell columns) (flat_map (λ bag. bag) bags)) (rows_from n c.args.site rows)) (sym c.in_ok-push.ensures.ok)
    (returned-bags n c.args.site columns c.in_ok-nodes.field-0 rows c.requires.nodes.0 c.in_ok-nodes.ensures.nodes c.in_ok-nodes.ensures.rows)
