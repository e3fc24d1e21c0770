-- Each move of a group of a memo costs at most 10^12 rows of the greatest width, times 16 nodes and two constants of 1,000.
use Rattle.std.proofs.Common.{◌≡◌, ◌≤◌, ◌<◌, ◌*◌, ◌^◌, ℕ, Option, Some, None, refl, subst, arith}
use Rattle.std.specs.Int.{div_ceil}
use Rattle.std.specs.List.{slice_get}
use Rattle.std.proofs.lemmas.Grind.{common_steps}
use Rattle.std.proofs.lemmas.Nat.{mul-le}
use Rattle.pdw_enum.proofs.FlowCosts.{costs-same, flows-reckoned}
use Rattle.pdw_enum.specs.Flows.{flows_in}
use Rattle.pdw_groups.specs.Memo.{Contents}
use Rattle.pdw_groups.specs.declared.key.GroupId.{GroupId}
use Rattle.pdw_memo.specs.Memo.{IsMemo}
use Rattle.pdw_move.specs.Cost.{AreInRange, bytes_of, cost_of_move, share_of}
use Rattle.pdw_move.specs.declared.cost.Constants.{Constants}
use Rattle.pdw_move.specs.declared.cost.Flow.{Flow}
use Rattle.pdw_move.specs.declared.kinds.Move.{Move}
use Rattle.pdw_move.specs.declared.kinds.Move.TheVariants.{FromControl}
use Rattle.pdw_plan.specs.Cost.{costs_in}
use Rattle.pdw_stats.specs.Book as book
use Rattle.pdw_stats.specs.Book.{Book}
use Rattle.pdw_ways.proofs.CostLemmas.{parts-small}
use Rattle.pdw_ways.specs.Costing.{flow_or_none}
use Rattle.pdw_ways.specs.Ways.{Costs}

-- 10^12 rows of 2^32 - 1 bytes, each at 16 nodes by constants of 1,000
abbrev pub most_of_one : ℕ
most_of_one = 1000000000000 * 4294967295 * 16000000

-- moves cost at most this
abbrev pub AreWithinOne : Costs → Type 0
AreWithinOne costs = (group : GroupId) (mv : Move) → costs group mv ≤ most_of_one

share-within : (all n : ℕ) → 1 ≤ n → div_ceil all n ≤ all
share-within all n some = grind (arith, common_steps)

move-within : (n : ℕ) (k : Constants) (mv : Move) (f : Flow) → 1 ≤ n → n ≤ 16 → AreInRange k → f.rows ≤ 1000000000000 → f.width < 2 ^ 32 → cost_of_move n k mv f ≤ most_of_one
move-within n k mv f some few set rows width =
    let all = bytes_of f in
    let most : all ≤ 1000000000000 * 4294967295 = mul-le f.rows f.width 1000000000000 4294967295 rows (omega arith) in
    let cost = parts-small n few all (share_of n f) (share-within all n some) k mv set in
    omega arith

pub costs-within : (memo : Contents) (is : IsMemo memo) (statistics : Book) (n : ℕ) (k : Constants) → 1 ≤ n → n ≤ 16 → book.AreInRange statistics → AreInRange k → AreWithinOne (costs_in memo is statistics n k)
costs-within memo is statistics n k some few range set = subst AreWithinOne (costs-same memo is statistics n k) (λ group mv. by mv group.0 (slice_get (flows_in memo is statistics n) group.0) refl)
  where
    by : (mv : Move) (number : ℕ) (flow : Option Flow) → slice_get (flows_in memo is statistics n) number ≡ flow → cost_of_move n k mv (flow_or_none flow) ≤ most_of_one
    by mv number None none = move-within n k mv (record { rows = 0; width = 0 }) some few set (omega arith) (omega arith)
    by mv number (Some flow) there = let within = flows-reckoned memo is statistics n range few number flow there in move-within n k mv flow some few set within.0 within.1

-- a move from the control node costs that, at the greatest of all
most-attained : cost_of_move 16 (record { reader = 1000; hash_reader = 1000; network = 1000; writer = 1000; bulk = 1000; control = 1000 }) FromControl (record { rows = 1000000000000; width = 4294967295 }) ≡ most_of_one
most-attained = refl

-- three moves for each of 485 operators stay below the limit of plan files
pub most-stays : 3 * most_of_one * 485 < 10 ^ 32
most-stays = omega arith
