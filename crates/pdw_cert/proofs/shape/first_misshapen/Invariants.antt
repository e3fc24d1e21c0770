use Rattle.pdw_cert.proofs.ShapeLemmas.{TellsFrom}
use Rattle.pdw_cert.proofs.shape.first_misshapen.Given as goal

-- the lists so far fit their groups
abbrev pub invariant-loop-place : goal.invariant-loop-place
invariant-loop-place l = TellsFrom l.groups l.lists l.place
