use Rattle.std.proofs.Common.{List, [], map, subst}
use Rattle.std.proofs.lemmas.Result.{IfOk-weaker}
use Rattle.std.specs.List.{flat_map}
use Rattle.pdw_base.specs.SameBag.{SameBag}
use Rattle.pdw_base.specs.Schema.{cell}
use Rattle.pdw_dms.specs.Picker.{Tells}
use Rattle.pdw_dsql.specs.Follows.{Taken, returned_of, taken_in_turn}
use Rattle.pdw_dsql.specs.Typed.{schemas_of}
use Rattle.pdw_exec.specs.Shapes.{local_schema}
use Rattle.pdw_runner.proofs.Asking.{all-asked, tells-map}
use Rattle.pdw_runner.proofs.Executing.{executed, steps-are-typed, takes-of}
use Rattle.pdw_runner.proofs.run.run_plan.Goals as goal
use Rattle.pdw_runner.specs.Asks.{AsksAll, AsksEach}
use Rattle.pdw_runner.specs.Counts.{AreCounted}
use Rattle.pdw_runner.specs.Executed.{IsExecuted, takes_of}
use Rattle.pdw_runner.specs.declared.run.Run.{Run}

pub run_all-requires-clause-typed : goal.run_all-requires-clause-typed
run_all-requires-clause-typed g c =
    steps-are-typed c.args.memo.now c.args.appliance.now c.args.plan.now c.soundness.ensures c.requires.memo c.requires.plan c.in_ok-steps.steps c.in_ok-steps.ensures

pub returns-clause-rows : goal.returns-clause-rows
returns-clause-rows g c =
    let memo = c.args.memo.now in
    let appliance = c.args.appliance.now in
    let plan = c.args.plan.now in
    let steps = c.in_ok-steps.steps in
    IfOk-weaker c.run_all.result
    (λ (run : Run). SameBag (map (cell (local_schema appliance.tables (schemas_of steps.moves) steps.last)) (flat_map (λ bag. bag) run.rows)) (returned_of appliance steps))
    (λ (run : Run). IsExecuted memo.groups appliance plan (flat_map (λ bag. bag) run.rows))
    (λ run same. executed memo appliance plan c.soundness.ensures c.requires.memo c.requires.plan steps c.in_ok-steps.ensures (flat_map (λ bag. bag) run.rows) same)
    c.run_all.ensures.rows

pub returns-clause-counts : goal.returns-clause-counts
returns-clause-counts g c =
    let memo = c.args.memo.now in
    let appliance = c.args.appliance.now in
    let plan = c.args.plan.now in
    let steps = c.in_ok-steps.steps in
    IfOk-weaker c.run_all.result
    (λ (run : Run). AreCounted appliance.nodes (taken_in_turn appliance [] steps.moves) run.counts)
    (λ (run : Run). AreCounted appliance.nodes (takes_of memo.groups appliance plan) run.counts)
    (λ run counted. subst (λ (taken : List Taken). AreCounted appliance.nodes taken run.counts)
    (takes-of memo appliance plan c.soundness.ensures c.requires.memo c.requires.plan steps c.in_ok-steps.ensures) counted)
    c.run_all.ensures.counts

pub returns-clause-each : goal.returns-clause-each
returns-clause-each g c =
    let memo = c.args.memo.now in
    let appliance = c.args.appliance.now in
    let plan = c.args.plan.now in
    let steps = c.in_ok-steps.steps in
    let before = g.P.Picker.told c.args.picker.now in
    let after = g.P.Picker.told c.run_all.new.picker in
    IfOk-weaker c.run_all.result
    (λ (run : Run). Tells before after (AsksEach appliance.nodes (taken_in_turn appliance [] steps.moves) run.counts))
    (λ (run : Run). Tells before after (AsksEach appliance.nodes (takes_of memo.groups appliance plan) run.counts))
    (λ run told. subst (λ (taken : List Taken). Tells before after (AsksEach appliance.nodes taken run.counts))
    (takes-of memo appliance plan c.soundness.ensures c.requires.memo c.requires.plan steps c.in_ok-steps.ensures) told)
    c.run_all.ensures.asked

pub returns-clause-asked : goal.returns-clause-asked
returns-clause-asked g c =
    let appliance = c.args.appliance.now in
    let takes = takes_of c.args.memo.now.groups appliance c.args.plan.now in
    let before = g.P.Picker.told c.args.picker.now in
    let after = g.P.Picker.told c.run_all.new.picker in
    IfOk-weaker c.run_all.result
    (λ (run : Run). Tells before after (AsksEach appliance.nodes takes run.counts))
    (λ (run : Run). Tells before after (AsksAll appliance.nodes takes))
    (λ run told. tells-map before after (AsksEach appliance.nodes takes run.counts) (AsksAll appliance.nodes takes) (all-asked appliance.nodes takes run.counts) told)
    (returns-clause-each g c)
