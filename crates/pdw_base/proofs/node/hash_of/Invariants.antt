use Rattle.std.proofs.Common.{◌≡◌, take}
use Rattle.pdw_base.specs.Hash.{hash_bytes}
use Rattle.pdw_base.proofs.node.hash_of.Given as goal

abbrev pub invariant-loop-byte : goal.invariant-loop-byte
invariant-loop-byte l = l.hash ≡ hash_bytes (take l.byte-index l.byte-items)
