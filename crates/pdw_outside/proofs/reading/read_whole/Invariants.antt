use Rattle.std.proofs.Common.{◌≡◌, ◌+◌, ◌-◌, ◌≤◌, ◌<◌, vec_len}
use Rattle.pdw_outside.specs.Whole.{IsStart}
use Rattle.pdw_outside.proofs.reading.read_whole.Given as goal

abbrev pub invariant-loop-taken : goal.invariant-loop-taken
invariant-loop-taken g l = record {
  start : IsStart (g.F.Files.bytes l.fn.files l.fn.name) l.taken.items;
  within : vec_len l.taken ≤ l.limit + 1;
  piece : 0 < vec_len l.piece;
  bytes : g.F.Files.bytes l.files ≡ g.F.Files.bytes l.fn.files;
  quiet : g.F.Files.faults l.files ≡ g.F.Files.faults l.fn.files;
}

abbrev pub decreases-loop-taken : goal.decreases-loop-taken
decreases-loop-taken g l = l.limit + 1 - vec_len l.taken
