use Rattle.std.proofs.Common.{◌≡◌, ◌++◌, take}
use Rattle.pdw_groups.specs.Columns.{equated}
use Rattle.pdw_groups.proofs.columns.add_equalities.Given as goal

abbrev pub invariant-loop-conjunct : goal.invariant-loop-conjunct
invariant-loop-conjunct l = l.useful.items ≡ l.initial.useful.items ++ equated (take l.conjunct-index l.conds)
