use Rattle.std.proofs.Common.{◌≡◌, drop}
use Rattle.pdw_engine.specs.Statistics as spec
use Rattle.pdw_engine.proofs.statistics.handed_column.Given as goal

-- none of the numbers so far is for the place
abbrev pub invariant-loop-given : goal.invariant-loop-given
invariant-loop-given l = spec.handed_column (drop l.given-index l.numbers) l.place l.had ≡ spec.handed_column l.numbers l.place l.had
