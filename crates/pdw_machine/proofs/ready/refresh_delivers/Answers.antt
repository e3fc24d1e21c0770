use Rattle.std.proofs.Common.{◌∙◌, sym, arith, Bool}
use Rattle.std.proofs.lemmas.List.{length-map, get_or-map}
use Rattle.pdw_machine.specs.Machine.{Source, can_deliver, lane_at, no_source, target_at}
use Rattle.pdw_machine.specs.Ready.{deliver_column}
use Rattle.pdw_machine.proofs.GridLemmas.{column_more}
use Rattle.pdw_machine.proofs.ready.refresh_delivers.Goals as goal

pub loop-from-preserved : goal.loop-from-preserved
loop-from-preserved c =
    let state = c.args.state.now in
    let test : Source → Bool = λ source. can_deliver (lane_at c.args.to source.lanes) (target_at c.args.to state) in
    let long = length-map state.sources test in
    let item = get_or-map test state.sources c.loop-from.from no_source c.can_deliver.result (omega (arith, c.requires.shaped.sources)) in
    c.set.ensures
    ∙ column_more c.args.to (deliver_column c.args.to state) c.args.delivers.now c.loop-from.delivers c.loop-from.from c.can_deliver.result
    (omega (arith, c.requires.shaped.sources)) (c.can_deliver.ensures ∙ sym item) c.loop-from.invariant
