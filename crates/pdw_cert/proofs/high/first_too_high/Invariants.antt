use Rattle.pdw_memo.specs.Memo.{IsMemo}
use Rattle.pdw_plan.specs.Cost.{costs_in}
use Rattle.pdw_ways.specs.Bounds.{bound_in}
use Rattle.pdw_cert.specs.TooHigh.{all_made}
use Rattle.pdw_cert.proofs.Searches.{FoundFrom, LeftFrom}
use Rattle.pdw_cert.proofs.high.first_too_high.Given as goal

-- what is found from here on is the first of all
abbrev pub invariant-loop-place : goal.invariant-loop-place
invariant-loop-place l = (is : IsMemo l.p.memo.now) →
    let costs = costs_in l.p.memo.now is l.p.book.now l.p.n l.p.constants.now in
    let bounds = bound_in l.kept.groups.now l.kept.lists.now in
    FoundFrom l.kept.groups.now costs bounds (LeftFrom l.kept.groups.now costs bounds l.place) (all_made l.kept.groups.now)
