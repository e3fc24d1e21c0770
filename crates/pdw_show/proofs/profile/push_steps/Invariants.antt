use Rattle.std.proofs.Common.{◌≡◌, ◌+◌, ◌++◌, drop}
use Rattle.pdw_show.specs.Profile as spec
use Rattle.pdw_show.proofs.profile.push_steps.Given as goal

abbrev pub invariant-loop-place : goal.invariant-loop-place
invariant-loop-place l = l.text.items ++ spec.steps_text (l.place + 1) (drop l.place l.steps) ≡ l.fn.text.items ++ spec.steps_text 1 l.steps
