use Rattle.std.proofs.Common.{drop}
use Rattle.pdw_runner.proofs.Standing.{Standing}
use Rattle.pdw_runner.proofs.steps.run_steps.Given as goal

abbrev pub invariant-loop-step : goal.invariant-loop-step
invariant-loop-step g l = Standing l.appliance l.steps (drop l.step-index l.steps) l.temps l.counts (g.P.Picker.told l.fn.picker) (g.P.Picker.told l.picker)
