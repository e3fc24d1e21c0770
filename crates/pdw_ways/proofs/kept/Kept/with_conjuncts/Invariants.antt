use Rattle.std.proofs.Common.{◌≡◌, fold, take}
use Rattle.pdw_ways.specs.Bounds.{bound_in}
use Rattle.pdw_ways.specs.Search.{with_conjunct}
use Rattle.pdw_ways.proofs.kept.Kept.with_conjuncts.Given as goal

-- the conjuncts so far are tried
abbrev pub invariant-loop-conjunct : goal.invariant-loop-conjunct
invariant-loop-conjunct l = l.found ≡ fold (with_conjunct (bound_in l.self.groups.now l.self.lists.now) l.sides.left l.sides.right l.sides.wanted l.kind) l.fn.best (take l.conjunct-index l.conds)
