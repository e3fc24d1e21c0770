-- Each part of a move costs at most 16 million times the bytes: 16 nodes, and two constants of at most 1,000.
use Rattle.std.proofs.Common.{ℕ, ◌*◌, ◌<◌, ◌≤◌, ◌^◌, arith}
use Rattle.std.specs.Int.{div_ceil}
use Rattle.std.proofs.lemmas.Grind.{common_steps}
use Rattle.std.proofs.lemmas.Nat.{mul-le}
use Rattle.pdw_move.specs.Cost.{AreInRange, bytes_of, cost_of_move, greatest, parts_of, share_of}
use Rattle.pdw_move.specs.declared.kinds.Move.{Move}
use Rattle.pdw_move.specs.declared.kinds.Move.TheVariants.{Shuffle, ToSingle, ToControl, Broadcast, Trim, FromControl, FromSingle}
use Rattle.pdw_move.specs.declared.cost.Constants.{Constants}
use Rattle.pdw_move.specs.declared.cost.Flow.{Flow}
use Rattle.pdw_move.specs.declared.cost.Parts.{Parts}

record AreSmall (all : ℕ) (parts : Parts) : Type 0 where
  pub reader : parts.reader ≤ all * 16000000
  pub network : parts.network ≤ all * 16000000
  pub writer : parts.writer ≤ all * 16000000
  pub bulk : parts.bulk ≤ all * 16000000

share-le : (all n : ℕ) → 1 ≤ n → div_ceil all n ≤ all
share-le all n some = grind (arith, common_steps)

-- an amount times a constant, or times a number of nodes
module _ (amount all most : ℕ) (within : amount ≤ all * most) where
  once : (k : ℕ) → k ≤ 1000 → amount * k ≤ all * most * 1000
  once k small = mul-le amount k (all * most) 1000 within small

  spread : (n : ℕ) → n ≤ 16 → amount * n ≤ all * most * 16
  spread n few = mul-le amount n (all * most) 16 within few

AreSmall-parts_of : (n : ℕ) (k : Constants) (mv : Move) (all share : ℕ) → n ≤ 16 → share ≤ all → AreInRange k → AreSmall all (parts_of n k mv all share)
AreSmall-parts_of n k (Shuffle c) all share few part set = record {
  reader = omega (arith, once share all 1 (omega arith) k.hash_reader set.hash_reader.1);
  network = omega (arith, once share all 1 (omega arith) k.network set.network.1);
  writer = omega (arith, once share all 1 (omega arith) k.writer set.writer.1);
  bulk = omega (arith, once share all 1 (omega arith) k.bulk set.bulk.1);
}
AreSmall-parts_of n k ToSingle all share few part set = record {
  reader = omega (arith, once share all 1 (omega arith) k.reader set.reader.1);
  network = omega (arith, once share all 1 (omega arith) k.network set.network.1);
  writer = omega (arith, once all all 1 (omega arith) k.writer set.writer.1);
  bulk = omega (arith, once all all 1 (omega arith) k.bulk set.bulk.1);
}
AreSmall-parts_of n k ToControl all share few part set = record {
  reader = omega (arith, once share all 1 (omega arith) k.reader set.reader.1);
  network = omega (arith, once share all 1 (omega arith) k.network set.network.1);
  writer = let written = once all all 1 (omega arith) k.writer set.writer.1 in omega (arith, once (all * k.writer) all 1000 (omega arith) k.control set.control.1);
  bulk = let copied = once all all 1 (omega arith) k.bulk set.bulk.1 in omega (arith, once (all * k.bulk) all 1000 (omega arith) k.control set.control.1);
}
AreSmall-parts_of n k Broadcast all share few part set = record {
  reader = omega (arith, once share all 1 (omega arith) k.reader set.reader.1);
  network = let sent = spread share all 1 (omega arith) n few in omega (arith, once (share * n) all 16 (omega arith) k.network set.network.1);
  writer = omega (arith, once all all 1 (omega arith) k.writer set.writer.1);
  bulk = omega (arith, once all all 1 (omega arith) k.bulk set.bulk.1);
}
AreSmall-parts_of n k (Trim c) all share few part set = record {
  reader = omega (arith, once all all 1 (omega arith) k.hash_reader set.hash_reader.1);
  network = omega arith;
  writer = omega (arith, once share all 1 (omega arith) k.writer set.writer.1);
  bulk = omega (arith, once share all 1 (omega arith) k.bulk set.bulk.1);
}
AreSmall-parts_of n k FromSingle all share few part set = record {
  reader = omega (arith, once all all 1 (omega arith) k.reader set.reader.1);
  network = let sent = spread all all 1 (omega arith) n few in omega (arith, once (all * n) all 16 (omega arith) k.network set.network.1);
  writer = omega (arith, once all all 1 (omega arith) k.writer set.writer.1);
  bulk = omega (arith, once all all 1 (omega arith) k.bulk set.bulk.1);
}
AreSmall-parts_of n k FromControl all share few part set = record {
  reader = let read = once all all 1 (omega arith) k.reader set.reader.1 in omega (arith, once (all * k.reader) all 1000 (omega arith) k.control set.control.1);
  network =
      let sent = spread all all 1 (omega arith) n few in
      let charged = once (all * n) all 16 (omega arith) k.network set.network.1 in
      omega (arith, once (all * n * k.network) all 16000 (omega arith) k.control set.control.1);
  writer = omega (arith, once all all 1 (omega arith) k.writer set.writer.1);
  bulk = omega (arith, once all all 1 (omega arith) k.bulk set.bulk.1);
}

greatest-le : (all : ℕ) (parts : Parts) → AreSmall all parts → greatest parts ≤ all * 16000000
greatest-le all parts small = omega arith

pub cost_of_move-lt : (n : ℕ) (k : Constants) (mv : Move) (f : Flow) → 1 ≤ n → n ≤ 16 → AreInRange k
    → f.rows ≤ 1000000000000 → f.width ≤ 128000 → cost_of_move n k mv f < 10 ^ 25
cost_of_move-lt n k mv f some few set rows width =
    let all = bytes_of f in
    let share = share_of n f in
    let most : all ≤ 1000000000000 * 128000 = mul-le f.rows f.width 1000000000000 128000 rows width in
    let cost = greatest-le all (parts_of n k mv all share) (AreSmall-parts_of n k mv all share few (share-le all n some) set) in
    omega arith
