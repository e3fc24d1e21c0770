-- How many nodes plans have that are made by hand.
use Rattle.std.proofs.Common.{◌≡◌, suc, ◌+◌, List, [], ◌∷◌, ◌++◌, sum, refl, ap, ◌∙◌, arith}
use Rattle.pdw_groups.specs.declared.key.GroupId.{GroupId}
use Rattle.pdw_move.specs.declared.kinds.Move.{Move}
use Rattle.pdw_move.specs.declared.kinds.Prop.{Prop}
use Rattle.pdw_plan.specs.Count.{count_step, node_count}
use Rattle.pdw_ways.proofs.PlanFolds.{fold-free, fold-moved, fold-op, fold-scan}
use Rattle.pdw_ways.specs.declared.plan.Plan.{Plan}
use Rattle.pdw_ways.specs.declared.plan.Plan.TheVariants as plan

pub scan-count : (group : GroupId) (prop : Prop) → node_count (plan.Scan group prop) ≡ 1
scan-count group prop = fold-scan count_step group prop

pub one-count : (group : GroupId) (prop : Prop) (children : List Plan) (child : Plan) → children ≡ [] ++ child ∷ [] → node_count (plan.Op group prop children) ≡ suc (node_count child)
one-count group prop children child is =
    let all : node_count (plan.Op group prop children) ≡ suc (sum (node_count child ∷ [])) = ap (λ some. node_count (plan.Op group prop some)) is ∙ fold-op count_step group prop (child ∷ []) in
    let sums : sum (node_count child ∷ []) ≡ 0 + node_count child = refl in
    omega (arith, all, sums)

pub two-count : (group : GroupId) (prop : Prop) (children : List Plan) (left right : Plan) → children ≡ ([] ++ left ∷ []) ++ right ∷ []
    → node_count (plan.Op group prop children) ≡ suc (node_count left + node_count right)
two-count group prop children left right is =
    let all : node_count (plan.Op group prop children) ≡ suc (sum (node_count left ∷ node_count right ∷ [])) = ap (λ some. node_count (plan.Op group prop some)) is ∙ fold-op count_step group prop (left ∷ right ∷ []) in
    let sums : sum (node_count left ∷ node_count right ∷ []) ≡ (0 + node_count left) + node_count right = refl in
    omega (arith, all, sums)

pub moved-count : (mv : Move) (boxed child : Plan) → boxed ≡ child → node_count (plan.Moved mv boxed) ≡ suc (node_count child)
moved-count mv boxed child is = ap (λ p. node_count (plan.Moved mv p)) is ∙ fold-moved count_step mv child

pub free-count : (to : Prop) (boxed child : Plan) → boxed ≡ child → node_count (plan.Free to boxed) ≡ suc (node_count child)
free-count to boxed child is = ap (λ p. node_count (plan.Free to p)) is ∙ fold-free count_step to child
