use Rattle.std.proofs.Common.{sym, eq-eqb, ne_eqb}
use Rattle.pdw_sizes.proofs.LoopLaws.{lookup-here, lookup-past}
use Rattle.pdw_sizes.specs.Estimate.{is_number}
use Rattle.pdw_sizes.proofs.made.place_of.Goals as goal

pub returns-then-col-c : goal.returns-then-col-c
returns-then-col-c c = sym (lookup-here (is_number c.args.c) c.args.cols.now c.loop-col.col-index (record { 0 = 0 }, 0) c.loop-col-test.true c.loop-col.invariant (eq-eqb _ _ c.if-col-c.true))

pub loop-col-preserved : goal.loop-col-preserved
loop-col-preserved c = lookup-past (is_number c.args.c) c.args.cols.now c.loop-col.col-index (record { 0 = 0 }, 0) c.loop-col-test.true c.loop-col.invariant (ne_eqb _ _ c.if-col-c.false)
