use Rattle.std.proofs.Common.{◌≡◌, ◌+◌, List, sym, subst, arith}
use Rattle.pdw_dsql.specs.Sites.{made_within}
use Rattle.pdw_move.specs.Placed.{Row}
use Rattle.pdw_runner.proofs.Making.{AreMade, made-all, made-more}
use Rattle.pdw_runner.proofs.made.made.Goals as goal
use Rattle.pdw_runner.specs.Tables.{columns_over, rows_over}

pub loop-number-preserved : goal.loop-number-preserved
loop-number-preserved c =
    let columns = columns_over c.args.appliance.now c.args.temps.now c.args.tree.now in
    let rows = made_within c.args.site (rows_over c.args.appliance.now c.args.temps.now c.args.tree.now) in
    subst (λ (bags : List (List Row)). AreMade columns rows bags (c.loop-number.number + 1)) (sym c.in_ok-push.ensures.ok)
    (made-more columns rows c.loop-number.nodes c.loop-number.number c.in_ok-made_at.field-0 c.loop-number.invariant c.in_ok-made_at.ensures)

pub returns-clause-nodes : goal.returns-clause-nodes
returns-clause-nodes c = omega (arith, c.loop-number.invariant.long, c.get-number-end.ensures.value, c.nodes.ensures)

pub returns-clause-rows : goal.returns-clause-rows
returns-clause-rows c =
    let columns = columns_over c.args.appliance.now c.args.temps.now c.args.tree.now in
    let rows = made_within c.args.site (rows_over c.args.appliance.now c.args.temps.now c.args.tree.now) in
    let all : c.loop-number.number ≡ c.args.appliance.now.nodes = omega (arith, c.get-number-end.ensures.value, c.nodes.ensures) in
    made-all columns rows c.args.appliance.now.nodes (record { nodes = c.loop-number.nodes; control = c.in_ok-control.control })
    (subst (AreMade columns rows c.loop-number.nodes) all c.loop-number.invariant) c.in_ok-control.ensures
