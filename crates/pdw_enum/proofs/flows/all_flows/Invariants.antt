use Rattle.std.proofs.Common.{◌≡◌, take}
use Rattle.pdw_memo.specs.Memo.{IsMemo}
use Rattle.pdw_enum.specs.Flows.{flows_in}
use Rattle.pdw_enum.proofs.flows.all_flows.Given as goal

-- the flows of the groups so far
abbrev pub invariant-loop-number : goal.invariant-loop-number
invariant-loop-number l = (is : IsMemo l.p.memo.now) → l.flows ≡ take l.number (flows_in l.p.memo.now is l.p.book.now l.p.n)
