use Rattle.std.proofs.Common.{◌≡◌, map, take}
use Rattle.pdw_parts.specs.Part.{is_inside}
use Rattle.pdw_parts.proofs.inside.inside_flags.Given as goal

abbrev pub invariant-loop-conjunct : goal.invariant-loop-conjunct
invariant-loop-conjunct l = l.flags ≡ map (is_inside l.columns) (take l.conjunct-index l.conds)
