use Rattle.std.proofs.Common.{◌≡◌, take}
use Rattle.std.specs.List.{filter}
use Rattle.pdw_parts.specs.Part.{is_inside}
use Rattle.pdw_parts.proofs.inside.conds_inside.Given as goal

abbrev pub invariant-loop-conjunct : goal.invariant-loop-conjunct
invariant-loop-conjunct l = l.inside ≡ filter (is_inside l.columns) (take l.conjunct-index l.conds)
