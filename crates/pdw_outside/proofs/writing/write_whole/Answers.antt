use Rattle.std.proofs.Common.{arith, ◌∙◌, ℕ, length-take, length-drop}
use Rattle.pdw_outside.proofs.SinkLemmas.{adds_more}
use Rattle.pdw_outside.proofs.writing.write_whole.Goals as goal

pub loop-done-preserved : goal.loop-done-preserved
loop-done-preserved g c = record {
  written = adds_more _ _ _ c.args.bytes.now c.loop-done.done _ c.loop-done.invariant.written c.in_ok-count.ensures.ok;
  within = omega (arith, length-take {A = ℕ}, length-drop {A = ℕ}, c.in_ok-count.ensures.within);
  quiet = c.in_ok-count.ensures.quiet ∙ c.loop-done.invariant.quiet;
}
