use Rattle.std.proofs.Common.{◌∙◌, subst}
use Rattle.pdw_base.specs.Schema.{Columns}
use Rattle.pdw_runner.proofs.Bringing.{drive-brings, first_held}
use Rattle.pdw_runner.proofs.steps.run_step.Goals as goal
use Rattle.pdw_runner.specs.Starts.{ArePlaced}
use Rattle.pdw_runner.specs.Tables.{taken_over}

pub returns : goal.returns
returns g c =
    let n = c.args.appliance.now.nodes in
    let taken = taken_over c.args.appliance.now c.args.temps.now c.args.step.now in
    let start = c.in_ok-start.start in
    let done = c.in_ok-moved.ensures in
    drive-brings n taken start c.rows_are_moved.ensures
    (subst (λ (columns : Columns). ArePlaced n columns start taken.rows) c.requires c.in_ok-start.ensures.rows)
    c.in_ok-moved.field-0.moved c.in_ok-moved.field-0.sent c.len.result c.in_ok-moved.field-0.events
    (g.P.Picker.told c.args.picker.now) (g.P.Picker.told c.drive.new.picker) c.in_ok-transfer.transfer
    (c.in_ok-transfer.ensures ∙ (λ i. first_held (c.nodes.ensures i) (record { move = taken.move; schema = c.in_ok-schema.ensures i; rows = taken.rows }) start))
    done.moved done.sent done.counts done.run c.len.ensures
