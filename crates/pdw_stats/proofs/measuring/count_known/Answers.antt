use Rattle.std.proofs.Common.{[], ap, sym, subst, take, ◌∙◌}
use Rattle.std.proofs.lemmas.List.{map-append, take_all}
use Rattle.pdw_base.proofs.Steps.{flat_map-one_more}
use Rattle.pdw_catalog.specs.Table.{value_at}
use Rattle.pdw_stats.specs.Known.{Sees}
use Rattle.pdw_stats.specs.Measured.{column_at}
use Rattle.pdw_stats.proofs.ColumnLemmas.{all_rows}
use Rattle.pdw_stats.proofs.DistinctLemmas.{Sees-append, length-seen}
use Rattle.pdw_stats.proofs.measuring.count_known.Goals as goal

pub loop-part-preserved : goal.loop-part-preserved
loop-part-preserved c =
    let place = c.args.place in
    let parts = c.args.parts.now in
    let part = c.part-item.result in
    let before = all_rows (take c.loop-part.part-index parts) in
    let now = c.see_values.new.seen.keys in
    let more = ap (column_at place) (flat_map-one_more parts c.loop-part.part-index part c.loop-part-test.true c.part-item.is (λ p. p)) ∙ map-append (value_at place) before part in
    subst (Sees [] now) (sym more)
    (Sees-append [] c.loop-part.seen.keys now (column_at place before) (column_at place part) c.loop-part.invariant
    (subst (λ rows. Sees c.loop-part.seen.keys now (column_at place rows)) c.rows.ensures c.in_ok-see_values.ensures))

pub returns : goal.returns
returns c =
    let place = c.args.place in
    let all = take_all c.loop-part.part-index c.args.parts.now c.loop-part-test.false in
    c.len.ensures.len
    ∙ length-seen c.loop-part.seen.keys (column_at place (all_rows c.args.parts.now)) c.len.ensures.ordered
    (subst (λ parts. Sees [] c.loop-part.seen.keys (column_at place (all_rows parts))) all c.loop-part.invariant)
