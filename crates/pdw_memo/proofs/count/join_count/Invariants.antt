use Rattle.std.proofs.Common.{◌≡◌, ◌≤◌, ◌*◌, take}
use Rattle.pdw_memo.specs.Memo.{join_count}
use Rattle.pdw_memo.proofs.count.join_count.Given as goal

abbrev pub invariant-loop-group : goal.invariant-loop-group
invariant-loop-group l = record {
  count : l.joins ≡ join_count l.block (take l.group-index l.groups);
  most : l.joins ≤ 1024 * l.group-index;
}
