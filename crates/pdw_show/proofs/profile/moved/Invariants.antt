use Rattle.std.proofs.Common.{◌≡◌, ◌*◌, ◌≤◌, ◌^◌, take}
use Rattle.pdw_show.specs.Profile as spec
use Rattle.pdw_show.proofs.profile.moved.Given as goal

-- no pair has as many rows as 2^64
abbrev pub invariant-loop-pair : goal.invariant-loop-pair
invariant-loop-pair l = record {
  sum : l.rows ≡ spec.moved (take l.pair-index l.sent);
  most : l.rows ≤ l.pair-index * 2 ^ 64;
}
