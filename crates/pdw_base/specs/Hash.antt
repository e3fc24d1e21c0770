-- Where the row of a hash-distributed table stands.
use Rattle.std.specs.Prelude.{ℕ, ◌+◌, ◌*◌, ◌%◌, ◌^◌, List, pos, unsigned_abs, fold}
use Rattle.std.specs.Int.{int_rem_euclid}
use Rattle.pdw_base.specs.declared.value.Value.{Value}
use Rattle.pdw_base.specs.declared.value.Value.TheVariants.{Null, Int, Text, Wide}

-- the fold of a text: from 7, each byte makes h * 31 + byte of h, modulo 2^64
abbrev pub hash_bytes : List ℕ → ℕ
hash_bytes = fold (λ hash byte. (hash * 31 + byte) % 2 ^ 64) 7

-- the node of a value among n: 0 for NULL, for a number its least non-negative remainder, for a text that of its fold
abbrev pub node_for : ℕ → Value → ℕ
node_for n Null = 0
node_for n (Int number) = unsigned_abs (int_rem_euclid number (pos n))
node_for n (Text bytes) = hash_bytes bytes % n
node_for n (Wide number) = unsigned_abs (int_rem_euclid number (pos n))
