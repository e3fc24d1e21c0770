use Rattle.std.proofs.Common.{◌≡◌, map}
use Rattle.pdw_walk.specs.Froms.{finished}
use Rattle.pdw_clauses.proofs.froms.all_finished.Given as goal

abbrev pub invariant-loop-draft : goal.invariant-loop-draft
invariant-loop-draft l = l.from ≡ map (finished l.numbers) l.yielded
