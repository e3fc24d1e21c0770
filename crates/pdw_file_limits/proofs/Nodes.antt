-- A plan's list has its nodes, and none of its ways from the root to a leaf has more.
use Rattle.std.proofs.Common.{◌≡◌, ◌≤◌, ◌+◌, ℕ, List, [], ◌∷◌, map, sum, ap, arith}
use Rattle.std.specs.List.{AllByRecursion}
use Rattle.pdw_plan.proofs.WalkLemmas.{sum-cons}
use Rattle.pdw_plan.specs.Count.{count_step, node_count}
use Rattle.pdw_planjson.specs.Limits.{height, height_step, highest}
use Rattle.pdw_planjson.specs.Written.{Listing, count_of_all, listing, listing_step}
use Rattle.pdw_ways.proofs.PlanFolds.{Inductive, by_plans, fold-free, fold-moved, fold-op, fold-scan}
use Rattle.pdw_ways.specs.declared.plan.Plan.{Plan}

-- ---- the list of a plan

abbrev before_of : Listing → ℕ
before_of l = l.before

abbrev IsListed : Plan → Type 0
IsListed p = (listing p).before + 1 ≡ node_count p

each-listed : (children : List Plan) → AllByRecursion IsListed children → count_of_all (map listing children) ≡ sum (map node_count children)
each-listed [] all = omega arith
each-listed (child ∷ children) all =
    let first = all.0 in
    let rest = each-listed children all.1 in
    let total = sum-cons (node_count child) (map node_count children) in
    omega (arith, first, rest, total)

listed-cases : Inductive IsListed
listed-cases = record {
  scan = λ group prop. let is = ap before_of (fold-scan listing_step group prop) in let count = fold-scan count_step group prop in omega (arith, is, count);
  op = λ group prop children all.
      let is = ap before_of (fold-op listing_step group prop children) in
      let count = fold-op count_step group prop children in
      let each = each-listed children all in
      omega (arith, is, count, each);
  moved = λ mv child listed.
      let is = ap before_of (fold-moved listing_step mv child) in let count = fold-moved count_step mv child in omega (arith, is, count, listed);
  free = λ to child listed. let is = ap before_of (fold-free listing_step to child) in let count = fold-free count_step to child in omega (arith, is, count, listed);
}

pub listed-nodes : (p : Plan) → (listing p).before + 1 ≡ node_count p
listed-nodes = by_plans IsListed listed-cases

-- ---- its height

abbrev IsLow : Plan → Type 0
IsLow p = height p ≤ node_count p

each-low : (children : List Plan) → AllByRecursion IsLow children → highest (map height children) ≤ sum (map node_count children)
each-low [] all = omega arith
each-low (child ∷ children) all =
    let first = all.0 in
    let rest = each-low children all.1 in
    let total = sum-cons (node_count child) (map node_count children) in
    omega (arith, first, rest, total)

low-cases : Inductive IsLow
low-cases = record {
  scan = λ group prop. let is = fold-scan height_step group prop in let count = fold-scan count_step group prop in omega (arith, is, count);
  op = λ group prop children all.
      let is = fold-op height_step group prop children in
      let count = fold-op count_step group prop children in
      let each = each-low children all in
      omega (arith, is, count, each);
  moved = λ mv child low. let is = fold-moved height_step mv child in let count = fold-moved count_step mv child in omega (arith, is, count, low);
  free = λ to child low. let is = fold-free height_step to child in let count = fold-free count_step to child in omega (arith, is, count, low);
}

pub low-height : (p : Plan) → height p ≤ node_count p
low-height = by_plans IsLow low-cases
