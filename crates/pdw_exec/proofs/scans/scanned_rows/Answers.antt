use Rattle.std.proofs.Common.{sym, ◌∙◌}
use Rattle.pdw_exec.proofs.StepLemmas.{made-kept, made-passed}
use Rattle.pdw_exec.proofs.scans.scanned_rows.Goals.{then-meets+in_ok-push, else-meets}
use Rattle.pdw_exec.specs.Relation.{meets_over}
use Rattle.pdw_keys.specs.Places.{key_at}
use Rattle.pdw_exec.proofs.scans.scanned_rows.Goals as goal

pub loop-row-preserved : goal.loop-row-preserved
loop-row-preserved c =
    let of_row = key_at c.args.places.now in
    let test = meets_over c.args.columns.now c.args.conds.now in
    let row = c.row-item.result in
    elim c.if-meets.branch [
      | then-meets+in_ok-push w ↦
          w.kept-is ∙ made-kept of_row test c.args.rows.now c.loop-row.row-index row c.loop-row-test.true c.row-item.is c.loop-row.kept c.loop-row.invariant
          _ c.in_ok-scanned.scanned c.in_ok-scanned.ensures w.in_ok-push.ensures.ok (sym c.meets.ensures ∙ w.if-meets.true)
      | else-meets w ↦
          w.kept-is ∙ made-passed of_row test c.args.rows.now c.loop-row.row-index row c.loop-row-test.true c.row-item.is c.loop-row.kept c.loop-row.invariant
          c.in_ok-scanned.scanned c.in_ok-scanned.ensures (sym c.meets.ensures ∙ w.if-meets.false)
    ]
