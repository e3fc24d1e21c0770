-- What the search for least plans needs of a memo: children have smaller numbers, and groups weigh little.
use Rattle.std.proofs.Common.{◌≤◌, ◌<◌, ◌^◌, ℕ, suc, List, [], ◌∷◌, length, min, arith}
use Rattle.std.specs.List.{AllByRecursion, sum_by}
use Rattle.std.proofs.lemmas.List.Sums.{sum_by-cons}
use Rattle.std.proofs.lemmas.Option.{slice_get_within}
use Rattle.pdw_algebra.proofs.AllLaws.{all-map}
use Rattle.pdw_catalog.specs.Database.{Database}
use Rattle.pdw_groups.specs.Memo.{Contents, ExprStands}
use Rattle.pdw_groups.specs.declared.group.Expr.{Expr}
use Rattle.pdw_groups.specs.declared.key.GroupId.{GroupId}
use Rattle.pdw_least.specs.Premises.{AreLight, AreOrdered, ArePremises}
use Rattle.pdw_memo.proofs.MemoMeans.{memo-stands}
use Rattle.pdw_memo.proofs.MemoSizes as sizes
use Rattle.pdw_memo.proofs.MemoWeights.{memo-light}
use Rattle.pdw_memo.specs.Laws.{meanings_in}
use Rattle.pdw_memo.specs.Memo.{IsMemo}
use Rattle.pdw_move.specs.Cost.{AreInRange}
use Rattle.pdw_ways.specs.Costing.{AreReckoned}
use Rattle.pdw_ways.specs.declared.costing.Costing.{Costing}

-- no tables
nothing : Database
nothing = record { tables = []; rows = λ name. [] }

pub memo-ordered : (contents : Contents) → IsMemo contents → AreOrdered contents.groups
memo-ordered contents memo number group there =
    all-map (ExprStands nothing (meanings_in contents memo) number) (λ (expr : Expr). AllByRecursion (λ (child : GroupId). child.0 < number) expr.children) (λ expr stands. stands.smaller) group.exprs
    (memo-stands contents memo nothing number group there)

-- ---- weights

-- a weight, of at most 2^20 also where there is no group
abbrev most : (ℕ → ℕ) → ℕ → ℕ
most weight number = min (weight number) (2 ^ 20)

sums-most : (weight : ℕ → ℕ) (children : List GroupId) → sum_by (λ (child : GroupId). most weight child.0) children ≤ sum_by (λ (child : GroupId). weight child.0) children
sums-most weight [] = omega arith
sums-most weight (child ∷ children) =
    let rest = sums-most weight children in
    let first = sum_by-cons (λ (child : GroupId). most weight child.0) child children in
    let second = sum_by-cons (λ (child : GroupId). weight child.0) child children in
    omega (arith, rest, first, second)

pub memo-weighs : (contents : Contents) → IsMemo contents → AreLight contents.groups
memo-weighs contents memo =
    let light = memo-light contents memo in
    record {
      weight = most light.weight;
      most = λ number. omega arith;
      over = λ number group there.
          let few = light.few number (slice_get_within contents.groups number group there) in
          all-map (λ (expr : Expr). suc (sum_by (λ (child : GroupId). light.weight child.0) expr.children) ≤ light.weight number)
          (λ (expr : Expr). suc (sum_by (λ (child : GroupId). most light.weight child.0) expr.children) ≤ most light.weight number)
          (λ expr heavy. let sums = sums-most light.weight expr.children in omega (arith, few, heavy, sums)) group.exprs (light.each number group there);
    }

-- ---- all together

pub memo-few : (contents : Contents) → IsMemo contents → length contents.groups ≤ 2 ^ 32
memo-few contents memo = let few = (sizes.memo-few contents memo).0 in omega (arith, few)

pub memo-premises : (contents : Contents) → IsMemo contents → (costing : Costing) → AreReckoned costing.flows.now → AreInRange costing.constants.now → ArePremises contents.groups costing
memo-premises contents memo costing reckoned set = record {
  few = memo-few contents memo;
  ordered = memo-ordered contents memo;
  light = memo-weighs contents memo;
  rows = reckoned;
  constants = set;
}
