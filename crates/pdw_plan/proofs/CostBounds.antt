-- No move costs as much as 2^96: it is at most 16 million times its bytes, by the nodes and two constants.
use Rattle.std.proofs.Common.{◌≡◌, ℕ, ◌*◌, ◌<◌, ◌≤◌, ◌^◌, Some, arith, sym, ap, ◌∙◌}
use Rattle.std.specs.Int.{div_ceil}
use Rattle.std.specs.List.{slice_get}
use Rattle.std.proofs.lemmas.Grind.{common_steps}
use Rattle.std.proofs.lemmas.Nat.{mul-le}
use Rattle.pdw_groups.specs.Memo.{Contents}
use Rattle.pdw_groups.specs.declared.key.GroupId.{GroupId}
use Rattle.pdw_memo.proofs.EachGroup.{all-at}
use Rattle.pdw_memo.specs.Laws.{meanings_in}
use Rattle.pdw_memo.specs.Memo.{IsMemo}
use Rattle.pdw_move.specs.Cost.{AreInRange, bytes_of, cost_of_move, greatest, parts_of, share_of}
use Rattle.pdw_move.specs.declared.cost.Constants.{Constants}
use Rattle.pdw_move.specs.declared.cost.Flow.{Flow}
use Rattle.pdw_move.specs.declared.kinds.Move.{Move}
use Rattle.pdw_move.specs.declared.kinds.Move.TheVariants.{Shuffle, ToSingle, ToControl, Broadcast, Trim, FromControl, FromSingle}
use Rattle.pdw_plan.specs.Cost.{costs_in, flow_of}
use Rattle.pdw_sizes.proofs.RowsLemmas.{sizes-in}
use Rattle.pdw_sizes.specs.Sizes.{IsSizeInRange, sizes_in}
use Rattle.pdw_sizes.specs.declared.size.Size.{Size}
use Rattle.pdw_stats.specs.Book.{Book, AreInRange as HasRanges}

module _ (n : ℕ) (k : Constants) (few : n ≤ 16) (set : AreInRange k) (all : ℕ) where
  abbrev most : ℕ
  most = all * 16000000

  -- an amount, the nodes and two constants
  product : (amount nodes one other : ℕ) → amount ≤ all → nodes ≤ 16 → one ≤ 1000 → other ≤ 1000 → amount * nodes * one * other ≤ most
  product amount nodes one other within less first second =
      let a = mul-le amount nodes all 16 within less in
      let b = mul-le (amount * nodes) one (all * 16) 1000 a first in
      let c = mul-le (amount * nodes * one) other (all * 16 * 1000) 1000 b second in
      omega (arith, c)

  one-constant : (amount one : ℕ) → amount ≤ all → one ≤ 1000 → amount * one ≤ most
  one-constant amount one within first = let p = product amount 1 one 1 within (omega arith) first (omega arith) in omega (arith, p)

  two-constants : (amount one other : ℕ) → amount ≤ all → one ≤ 1000 → other ≤ 1000 → amount * one * other ≤ most
  two-constants amount one other within first second = let p = product amount 1 one other within (omega arith) first second in omega (arith, p)

  to-each : (amount one : ℕ) → amount ≤ all → one ≤ 1000 → amount * n * one ≤ most
  to-each amount one within first = let p = product amount n one 1 within few first (omega arith) in omega (arith, p)

  to-each-dear : (amount one other : ℕ) → amount ≤ all → one ≤ 1000 → other ≤ 1000 → amount * n * one * other ≤ most
  to-each-dear amount one other within first second = product amount n one other within few first second

  the-greatest : (a b c d : ℕ) → a ≤ most → b ≤ most → c ≤ most → d ≤ most → greatest (record { reader = a; network = b; writer = c; bulk = d }) ≤ most
  the-greatest a b c d first second third fourth = omega (arith, first, second, third, fourth)

  parts-most : (mv : Move) (share : ℕ) → share ≤ all → greatest (parts_of n k mv all share) ≤ most
  parts-most (Shuffle c) share part =
      the-greatest _ _ _ _ (one-constant share k.hash_reader part set.hash_reader.1) (one-constant share k.network part set.network.1) (one-constant share k.writer part set.writer.1) (one-constant share k.bulk part set.bulk.1)
  parts-most ToSingle share part =
      the-greatest _ _ _ _ (one-constant share k.reader part set.reader.1) (one-constant share k.network part set.network.1) (one-constant all k.writer (omega arith) set.writer.1) (one-constant all k.bulk (omega arith) set.bulk.1)
  parts-most ToControl share part =
      the-greatest _ _ _ _ (one-constant share k.reader part set.reader.1) (one-constant share k.network part set.network.1) (two-constants all k.writer k.control (omega arith) set.writer.1 set.control.1)
      (two-constants all k.bulk k.control (omega arith) set.bulk.1 set.control.1)
  parts-most Broadcast share part =
      the-greatest _ _ _ _ (one-constant share k.reader part set.reader.1) (to-each share k.network part set.network.1) (one-constant all k.writer (omega arith) set.writer.1) (one-constant all k.bulk (omega arith) set.bulk.1)
  parts-most (Trim c) share part =
      the-greatest _ _ _ _ (one-constant all k.hash_reader (omega arith) set.hash_reader.1) (omega arith) (one-constant share k.writer part set.writer.1) (one-constant share k.bulk part set.bulk.1)
  parts-most FromSingle share part =
      the-greatest _ _ _ _ (one-constant all k.reader (omega arith) set.reader.1) (to-each all k.network (omega arith) set.network.1) (one-constant all k.writer (omega arith) set.writer.1) (one-constant all k.bulk (omega arith) set.bulk.1)
  parts-most FromControl share part =
      the-greatest _ _ _ _ (two-constants all k.reader k.control (omega arith) set.reader.1 set.control.1) (to-each-dear all k.network k.control (omega arith) set.network.1 set.control.1)
      (one-constant all k.writer (omega arith) set.writer.1) (one-constant all k.bulk (omega arith) set.bulk.1)

share-part : (all n : ℕ) → 1 ≤ n → div_ceil all n ≤ all
share-part all n some = grind (arith, common_steps)

pub move-fits : (n : ℕ) (k : Constants) (mv : Move) (f : Flow) → 1 ≤ n → n ≤ 16 → AreInRange k → f.rows ≤ 1000000000000 → f.width ≤ 4294967295 → cost_of_move n k mv f < 2 ^ 96
move-fits n k mv f some few set rows width =
    let all : bytes_of f ≤ 1000000000000 * 4294967295 = mul-le f.rows f.width 1000000000000 4294967295 rows width in
    let cost = parts-most n k few set (bytes_of f) mv (share_of n f) (share-part (bytes_of f) n some) in
    omega (arith, all, cost)

-- ---- of a group of a memo

module _ (memo : Contents) (is : IsMemo memo) (book : Book) (range : HasRanges book) (n : ℕ) (few : n ≤ 16) (group : GroupId) (size : Size) (at : slice_get (sizes_in memo is book n) group.0 ≡ Some size) where
  in-range : IsSizeInRange size
  in-range = all-at IsSizeInRange (sizes_in memo is book n) (sizes-in book n is.tables range few (meanings_in memo is)) group.0 size at

  pub rows-in : size.rows ≤ 1000000000000
  rows-in = in-range.rows

  pub width-in : size.width ≤ 4294967295
  width-in = in-range.most_width

  pub cost-is : (k : Constants) (mv : Move) (cost : ℕ) → cost ≡ cost_of_move n k mv (record { rows = size.rows; width = size.width }) → cost ≡ costs_in memo is book n k group mv
  cost-is k mv cost same = same ∙ ap (λ some. cost_of_move n k mv (flow_of some)) (sym at)

  pub cost-fits : (k : Constants) (mv : Move) (cost : ℕ) → 1 ≤ n → AreInRange k → cost ≡ cost_of_move n k mv (record { rows = size.rows; width = size.width }) → cost < 2 ^ 96
  cost-fits k mv cost some set same = let fits = move-fits n k mv (record { rows = size.rows; width = size.width }) some few set rows-in width-in in omega (arith, same, fits)
