use Rattle.std.proofs.Common.{◌≡◌, true, take}
use Rattle.std.specs.List.{list_all}
use Rattle.pdw_parts.specs.Part.{is_inside}
use Rattle.pdw_parts.proofs.inside.+conds.Given as goal

abbrev pub invariant-parts_inside-loop-part : goal.invariant-parts_inside-loop-part
invariant-parts_inside-loop-part l = list_all (is_inside l.columns) (take l.part-index l.parts) ≡ true
