use Rattle.std.proofs.Common.{ℕ, ◌<◌, get_or}
use Rattle.pdw_base.specs.declared.schema.ColId.{ColId}
use Rattle.pdw_base.specs.declared.value.Kind.{Kind}
use Rattle.pdw_base.proofs.schema.Schema.new.Given as goal

-- the columns before this place rise
abbrev pub invariant-loop-at : goal.invariant-loop-at
invariant-loop-at l = (i j : ℕ) (d : ColId × Kind) → i < j → j < l.at → (get_or l.cols.items i d).0.0 < (get_or l.cols.items j d).0.0
