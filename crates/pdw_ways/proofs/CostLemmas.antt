-- A move of at most 10^12 rows costs less than 2^97, whatever their width.
use Rattle.std.proofs.Common.{◌≡◌, ℕ, max, ◌*◌, ◌<◌, ◌≤◌, ◌^◌, Option, Some, None, List, refl, arith}
use Rattle.std.specs.Int.{div_ceil}
use Rattle.std.specs.List.{slice_get}
use Rattle.std.proofs.lemmas.Grind.{common_steps}
use Rattle.std.proofs.lemmas.Nat.{mul-le}
use Rattle.pdw_groups.specs.declared.key.GroupId.{GroupId}
use Rattle.pdw_move.specs.Cost.{AreInRange, bytes_of, cost_of_move, greatest, parts_of, share_of}
use Rattle.pdw_move.specs.declared.cost.Constants.{Constants}
use Rattle.pdw_move.specs.declared.cost.Flow.{Flow}
use Rattle.pdw_move.specs.declared.kinds.Move.{Move}
use Rattle.pdw_move.specs.declared.kinds.Move.TheVariants.{Shuffle, ToSingle, ToControl, Broadcast, Trim, FromControl, FromSingle}
use Rattle.pdw_ways.specs.Costing.{AreReckoned, costs_by, flow_or_none, most_of_a_move}

share-le : (all n : ℕ) → 1 ≤ n → div_ceil all n ≤ all
share-le all n some = grind (arith, common_steps)

module _ (n : ℕ) (few : n ≤ 16) (all share : ℕ) (part : share ≤ all) where
  -- a part by a constant, by the number of nodes, by the control node's factor
  by-one : (amount k : ℕ) → amount ≤ all → k ≤ 1000 → amount * k ≤ all * 1000
  by-one amount k within small = mul-le amount k all 1000 within small

  by-nodes : (amount k : ℕ) → amount ≤ all → k ≤ 1000 → amount * n * k ≤ all * 16 * 1000
  by-nodes amount k within small = mul-le (amount * n) k (all * 16) 1000 (mul-le amount n all 16 within few) small

  by-two : (amount k m : ℕ) → amount ≤ all → k ≤ 1000 → m ≤ 1000 → amount * k * m ≤ all * 1000 * 1000
  by-two amount k m within small also = mul-le (amount * k) m (all * 1000) 1000 (by-one amount k within small) also

  by-all : (k m : ℕ) → k ≤ 1000 → m ≤ 1000 → all * n * k * m ≤ all * 16 * 1000 * 1000
  by-all k m small also = mul-le (all * n * k) m (all * 16 * 1000) 1000 (by-nodes all k (omega arith) small) also

  -- the greatest of four, each of which is at most a part of the limit
  within : (reader network writer bulk : ℕ) → reader ≤ all * 16000000 → network ≤ all * 16000000 → writer ≤ all * 16000000 → bulk ≤ all * 16000000 → max (max (max reader network) writer) bulk ≤ all * 16000000
  within reader network writer bulk first second third fourth = omega arith

  pub parts-small : (k : Constants) (mv : Move) → AreInRange k → greatest (parts_of n k mv all share) ≤ all * 16000000
  parts-small k (Shuffle c) set = within (share * k.hash_reader) (share * k.network) (share * k.writer) (share * k.bulk)
      (omega (arith, by-one share k.hash_reader part set.hash_reader.1)) (omega (arith, by-one share k.network part set.network.1))
      (omega (arith, by-one share k.writer part set.writer.1)) (omega (arith, by-one share k.bulk part set.bulk.1))
  parts-small k ToSingle set = within (share * k.reader) (share * k.network) (all * k.writer) (all * k.bulk)
      (omega (arith, by-one share k.reader part set.reader.1)) (omega (arith, by-one share k.network part set.network.1))
      (omega (arith, by-one all k.writer (omega arith) set.writer.1)) (omega (arith, by-one all k.bulk (omega arith) set.bulk.1))
  parts-small k ToControl set = within (share * k.reader) (share * k.network) (all * k.writer * k.control) (all * k.bulk * k.control)
      (omega (arith, by-one share k.reader part set.reader.1)) (omega (arith, by-one share k.network part set.network.1))
      (omega (arith, by-two all k.writer k.control (omega arith) set.writer.1 set.control.1)) (omega (arith, by-two all k.bulk k.control (omega arith) set.bulk.1 set.control.1))
  parts-small k Broadcast set = within (share * k.reader) (share * n * k.network) (all * k.writer) (all * k.bulk)
      (omega (arith, by-one share k.reader part set.reader.1)) (omega (arith, by-nodes share k.network part set.network.1))
      (omega (arith, by-one all k.writer (omega arith) set.writer.1)) (omega (arith, by-one all k.bulk (omega arith) set.bulk.1))
  parts-small k (Trim c) set = within (all * k.hash_reader) 0 (share * k.writer) (share * k.bulk)
      (omega (arith, by-one all k.hash_reader (omega arith) set.hash_reader.1)) (omega arith)
      (omega (arith, by-one share k.writer part set.writer.1)) (omega (arith, by-one share k.bulk part set.bulk.1))
  parts-small k FromSingle set = within (all * k.reader) (all * n * k.network) (all * k.writer) (all * k.bulk)
      (omega (arith, by-one all k.reader (omega arith) set.reader.1)) (omega (arith, by-nodes all k.network (omega arith) set.network.1))
      (omega (arith, by-one all k.writer (omega arith) set.writer.1)) (omega (arith, by-one all k.bulk (omega arith) set.bulk.1))
  parts-small k FromControl set = within (all * k.reader * k.control) (all * n * k.network * k.control) (all * k.writer) (all * k.bulk)
      (omega (arith, by-two all k.reader k.control (omega arith) set.reader.1 set.control.1)) (omega (arith, by-all k.network k.control set.network.1 set.control.1))
      (omega (arith, by-one all k.writer (omega arith) set.writer.1)) (omega (arith, by-one all k.bulk (omega arith) set.bulk.1))

pub move_small : (n : ℕ) (k : Constants) (mv : Move) (f : Flow) → 1 ≤ n → n ≤ 16 → AreInRange k → f.rows ≤ 1000000000000 → f.width < 2 ^ 32 → cost_of_move n k mv f < most_of_a_move
move_small n k mv f some few set rows width =
    let all = bytes_of f in
    let most : all ≤ 1000000000000 * 4294967296 = mul-le f.rows f.width 1000000000000 4294967296 rows (omega arith) in
    let cost = parts-small n few all (share_of n f) (share-le all n some) k mv set in
    omega arith

-- so does each move of reckoned flows
pub flows-small : (n : ℕ) (k : Constants) (flows : List Flow) → 1 ≤ n → n ≤ 16 → AreInRange k → AreReckoned flows → (group : GroupId) (mv : Move) → costs_by n k flows group mv < most_of_a_move
flows-small n k flows some few set reckoned group mv = by (slice_get flows group.0) refl
  where
    by : (flow : Option Flow) → slice_get flows group.0 ≡ flow → cost_of_move n k mv (flow_or_none flow) < most_of_a_move
    by None none = move_small n k mv (record { rows = 0; width = 0 }) some few set (omega arith) (omega arith)
    by (Some flow) there = let within = reckoned group.0 flow there in move_small n k mv flow some few set within.0 within.1
