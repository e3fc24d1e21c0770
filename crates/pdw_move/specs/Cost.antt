-- What a move costs.
use Rattle.std.specs.Prelude.{ℕ, ◌*◌, ◌≤◌, max}
use Rattle.std.specs.Int.{div_ceil}
use Rattle.pdw_move.specs.declared.kinds.Move.{Move}
use Rattle.pdw_move.specs.declared.kinds.Move.TheVariants.{Shuffle, ToSingle, ToControl, Broadcast, Trim, FromControl, FromSingle}
use Rattle.pdw_move.specs.declared.cost.Constants.{Constants}
use Rattle.pdw_move.specs.declared.cost.Flow.{Flow}
use Rattle.pdw_move.specs.declared.cost.Parts.{Parts}

-- each constant is 1 to 1,000
pub record AreInRange (k : Constants) : Type 0 where
  pub reader : (1 ≤ k.reader) × (k.reader ≤ 1000)
  pub hash_reader : (1 ≤ k.hash_reader) × (k.hash_reader ≤ 1000)
  pub network : (1 ≤ k.network) × (k.network ≤ 1000)
  pub writer : (1 ≤ k.writer) × (k.writer ≤ 1000)
  pub bulk : (1 ≤ k.bulk) × (k.bulk ≤ 1000)
  pub control : (1 ≤ k.control) × (k.control ≤ 1000)

-- the bytes that a move moves
abbrev pub bytes_of : Flow → ℕ
bytes_of f = f.rows * f.width

-- what one of n nodes has of them where they are spread, rounded up
abbrev pub share_of : ℕ → Flow → ℕ
share_of n f = div_ceil (bytes_of f) n

-- the four parts of a move of all these bytes, of which each of n nodes has a share: who takes the share, who takes
-- all, and n times what goes to every node. The control node takes so many times as much.
abbrev pub parts_of : ℕ → Constants → Move → ℕ → ℕ → Parts
parts_of n k (Shuffle c) all share = record { reader = share * k.hash_reader; network = share * k.network; writer = share * k.writer; bulk = share * k.bulk }
parts_of n k ToSingle all share = record { reader = share * k.reader; network = share * k.network; writer = all * k.writer; bulk = all * k.bulk }
parts_of n k ToControl all share = record { reader = share * k.reader; network = share * k.network; writer = all * k.writer * k.control; bulk = all * k.bulk * k.control }
parts_of n k Broadcast all share = record { reader = share * k.reader; network = share * n * k.network; writer = all * k.writer; bulk = all * k.bulk }
parts_of n k (Trim c) all share = record { reader = all * k.hash_reader; network = 0; writer = share * k.writer; bulk = share * k.bulk }
parts_of n k FromSingle all share = record { reader = all * k.reader; network = all * n * k.network; writer = all * k.writer; bulk = all * k.bulk }
parts_of n k FromControl all share = record { reader = all * k.reader * k.control; network = all * n * k.network * k.control; writer = all * k.writer; bulk = all * k.bulk }

-- the parts run side by side, so the slowest counts
abbrev pub greatest : Parts → ℕ
greatest parts = max (max (max parts.reader parts.network) parts.writer) parts.bulk

-- what a move costs of a flow among n compute nodes
abbrev pub cost_of_move : ℕ → Constants → Move → Flow → ℕ
cost_of_move n k mv f = greatest (parts_of n k mv (bytes_of f) (share_of n f))
