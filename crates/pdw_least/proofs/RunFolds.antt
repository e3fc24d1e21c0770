-- The runs of a node, by those of its children.
use Rattle.std.proofs.Common.{◌≡◌, false, List, [], ◌∷◌, ◌++◌, flat_map, map, sym, subst}
use Rattle.std.specs.List.{AllByRecursion, IsDistinct}
use Rattle.pdw_groups.specs.declared.key.GroupId.{GroupId}
use Rattle.pdw_move.specs.Move.{property_after}
use Rattle.pdw_move.specs.declared.kinds.Move.{Move}
use Rattle.pdw_move.specs.declared.kinds.Prop.{Prop}
use Rattle.pdw_rules.specs.Rules.{is_same}
use Rattle.pdw_ways.proofs.PlanFolds.{fold-free, fold-moved, fold-op, fold-scan}
use Rattle.pdw_ways.specs.declared.plan.Plan.{Plan}
use Rattle.pdw_ways.specs.declared.plan.Plan.TheOpen.{Plan-F}
use Rattle.pdw_ways.specs.declared.plan.Plan.TheVariants as plan
use Rattle.pdw_least.specs.Runs.{HasShortRuns, Runs, each_run, runs_in, runs_step}

pub all-append : {X : Type 0} (P : X → Type 0) (xs ys : List X) → AllByRecursion P xs → AllByRecursion P ys → AllByRecursion P (xs ++ ys)
all-append P [] ys first second = second
all-append P (x ∷ xs) ys first second = (first.0, all-append P xs ys first.1 second)

pub all-parts : {X : Type 0} (P : X → Type 0) (xs ys : List X) → AllByRecursion P (xs ++ ys) → AllByRecursion P xs × AllByRecursion P ys
all-parts P [] ys all = (tt, all)
all-parts P (x ∷ xs) ys all =
    let rest = all-parts P xs ys all.1 in
    ((all.0, rest.0), rest.1)

-- ---- the runs of each kind of node

pub runs-scan : (group : GroupId) (prop : Prop) → runs_in (plan.Scan group prop) ≡ runs_step (Plan-F.Scan group prop)
runs-scan group prop = fold-scan runs_step group prop

pub runs-op : (group : GroupId) (prop : Prop) (children : List Plan) → runs_in (plan.Op group prop children) ≡ runs_step (Plan-F.Op group prop (map runs_in children))
runs-op group prop children = fold-op runs_step group prop children

pub runs-moved : (mv : Move) (child : Plan) → runs_in (plan.Moved mv child) ≡ runs_step (Plan-F.Moved mv (runs_in child))
runs-moved mv child = fold-moved runs_step mv child

pub runs-free : (to : Prop) (child : Plan) → runs_in (plan.Free to child) ≡ runs_step (Plan-F.Free to (runs_in child))
runs-free to child = fold-free runs_step to child

-- ---- short runs

abbrev pub AreDistinct : Runs → Type 0
AreDistinct runs = AllByRecursion (IsDistinct is_same) (each_run runs)

one-distinct : (p : Prop) → IsDistinct is_same (p ∷ [])
unfolding IsDistinct
one-distinct p = (tt, tt)

more-distinct : (p : Prop) (run : List Prop) → AllByRecursion (λ (q : Prop). is_same p q ≡ false) run → IsDistinct is_same run → IsDistinct is_same (p ∷ run)
unfolding IsDistinct
more-distinct p run other distinct = (other, distinct)

pub short-scan : (group : GroupId) (prop : Prop) → HasShortRuns (plan.Scan group prop)
short-scan group prop = subst AreDistinct (sym (runs-scan group prop)) (one-distinct prop, tt)

children-distinct : (children : List Plan) → AllByRecursion HasShortRuns children → AllByRecursion (IsDistinct is_same) (flat_map each_run (map runs_in children))
children-distinct [] all = tt
children-distinct (child ∷ children) all = all-append (IsDistinct is_same) (each_run (runs_in child)) (flat_map each_run (map runs_in children)) all.0 (children-distinct children all.1)

pub short-op : (group : GroupId) (prop : Prop) (children : List Plan) → AllByRecursion HasShortRuns children → HasShortRuns (plan.Op group prop children)
short-op group prop children all = subst AreDistinct (sym (runs-op group prop children)) (one-distinct prop, children-distinct children all)

pub short-moved : (mv : Move) (child : Plan) → HasShortRuns child → AllByRecursion (λ (q : Prop). is_same (property_after mv) q ≡ false) (runs_in child).top → HasShortRuns (plan.Moved mv child)
short-moved mv child short other = subst AreDistinct (sym (runs-moved mv child)) (more-distinct (property_after mv) (runs_in child).top other short.0, short.1)

pub short-free : (to : Prop) (child : Plan) → HasShortRuns child → AllByRecursion (λ (q : Prop). is_same to q ≡ false) (runs_in child).top → HasShortRuns (plan.Free to child)
short-free to child short other = subst AreDistinct (sym (runs-free to child)) (more-distinct to (runs_in child).top other short.0, short.1)
