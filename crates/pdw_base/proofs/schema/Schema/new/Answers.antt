use Rattle.std.proofs.Common.{ap, arith, ◌<◌, ◌-◌, length}
use Rattle.std.proofs.lemmas.List.{get_or_read}
use Rattle.pdw_base.specs.declared.schema.ColId.{ColId}
use Rattle.pdw_base.specs.declared.value.Kind.{Kind}
use Rattle.pdw_base.proofs.SchemaLemmas.{RisesBelow-more}
use Rattle.pdw_base.proofs.schema.Schema.new.Goals as goal

pub loop-at-preserved : goal.loop-at-preserved
loop-at-preserved c =
    let columns = c.args.cols.items in
    let within : c.loop-at.at < length columns = omega arith in
    let before : c.loop-at.at - 1 < length columns = omega arith in
    RisesBelow-more (λ column. column.0.0) columns c.loop-at.at c.loop-at.auto.at c.loop-at.invariant
    (λ d.
    let low = ap (λ (column : ColId × Kind). column.0.0) (get_or_read columns (c.loop-at.at - 1) c.index.result.now before c.index.ensures d) in
    let high = ap (λ (column : ColId × Kind). column.0.0) (get_or_read columns c.loop-at.at c.index-in-loop-at.result.now within c.index-in-loop-at.ensures d) in
    omega arith)
