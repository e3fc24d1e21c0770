-- The walk over a plan answers what the plan's shape says.
use Rattle.std.proofs.Common.{◌≡◌, ℕ, suc, ◌+◌, ◌&&◌, ◌||◌, Bool, true, false, true≢false, List, [], ◌∷◌, ◌++◌, map, sum, Option, Some, None, Result, Ok, Err, refl, sym, ap, ap₂, ◌∙◌, arith, append_assoc, append-nil, if◌then◌else◌}
use Rattle.std.specs.List.{AllByRecursion, list_any, slice_get}
use Rattle.std.specs.Option.{option_map, option_or}
use Rattle.std.proofs.lemmas.List.Sums.{sum_by-cons}
use Rattle.pdw_groups.specs.declared.group.Group.{Group}
use Rattle.pdw_groups.specs.declared.key.GroupId.{GroupId}
use Rattle.pdw_move.specs.declared.kinds.Prop.{Prop}
use Rattle.pdw_plan.specs.Count.{count_step, node_count}
use Rattle.pdw_plan.specs.Walk.{all_walked, children_of, operated, unless, walked, with_child}
use Rattle.pdw_plan.specs.declared.node.Children.{Children}
use Rattle.pdw_plan.specs.declared.node.Children.TheVariants as children
use Rattle.pdw_plan.specs.declared.walk.Below.{Below}
use Rattle.pdw_plan.specs.declared.walk.Walked.{Walked}
use Rattle.pdw_rules.specs.Rules.{may_have}
use Rattle.pdw_ways.proofs.PlanFolds.{Inductive, by_plans, fold-free, fold-moved, fold-op, fold-scan}
use Rattle.pdw_ways.specs.Shape.{Shape, fault_after, fault_at, made_in, nodes_in, shape_of, shape_step}
use Rattle.pdw_ways.specs.Ways.{Costs, is_at, is_at_some, is_operated, operates}
use Rattle.pdw_ways.specs.declared.made.Made.{Made}
use Rattle.pdw_ways.specs.declared.plan.Plan.{Plan}
use Rattle.pdw_ways.specs.declared.plan.PlanFault.{PlanFault}

-- ---- nodes

pub sum-cons : (n : ℕ) (ns : List ℕ) → sum (n ∷ ns) ≡ n + sum ns
sum-cons n ns = sum_by-cons (λ x. x) n ns

pub nodes-cons : (shape : Shape) (shapes : List Shape) → nodes_in (shape ∷ shapes) ≡ shape.nodes + nodes_in shapes
nodes-cons shape shapes = sum_by-cons (λ (shape : Shape). shape.nodes) shape shapes

module _ (groups : List Group) (costs : Costs) where
  abbrev shape : Plan → Shape
  shape = shape_of groups costs

  abbrev Counted : Plan → Type 0
  Counted p = (shape p).nodes ≡ node_count p

  pub all-counted : (plans : List Plan) → AllByRecursion Counted plans → nodes_in (map shape plans) ≡ sum (map node_count plans)
  all-counted [] all = refl
  all-counted (p ∷ plans) all = nodes-cons (shape p) (map shape plans) ∙ ap₂ (λ a b. a + b) all.0 (all-counted plans all.1) ∙ sym (sum-cons (node_count p) (map node_count plans))

  counted-cases : Inductive Counted
  counted-cases = record {
    scan = λ group prop. ap (λ (s : Shape). s.nodes) (fold-scan (shape_step groups costs) group prop) ∙ sym (fold-scan count_step group prop);
    op = λ group prop children all. ap (λ (s : Shape). s.nodes) (fold-op (shape_step groups costs) group prop children) ∙ ap suc (all-counted children all) ∙ sym (fold-op count_step group prop children);
    moved = λ mv child holds. ap (λ (s : Shape). s.nodes) (fold-moved (shape_step groups costs) mv child) ∙ ap suc holds ∙ sym (fold-moved count_step mv child);
    free = λ to child holds. ap (λ (s : Shape). s.nodes) (fold-free (shape_step groups costs) to child) ∙ ap suc holds ∙ sym (fold-free count_step to child);
  }

  pub nodes-counted : (p : Plan) → (shape p).nodes ≡ node_count p
  nodes-counted = by_plans Counted counted-cases

  each-counted : (plans : List Plan) → AllByRecursion Counted plans
  each-counted [] = tt
  each-counted (p ∷ plans) = (nodes-counted p, each-counted plans)

  pub nodes-all : (plans : List Plan) → nodes_in (map shape plans) ≡ sum (map node_count plans)
  nodes-all plans = all-counted plans (each-counted plans)

-- ---- answers

abbrev is_done : {X : Type 0} → Result X PlanFault → Bool
is_done (Ok x) = true
is_done (Err e) = false

pub not-both : {X : Type 0} {Y : Type 0} (x : X) (e : PlanFault) → Err e ≡ Ok x → Y
not-both x e same = absurd (true≢false (sym (ap is_done same)))

ok-same : {X : Type 0} (x y : X) → ◌≡◌ {A = Result X PlanFault} (Ok x) (Ok y) → x ≡ y
ok-same x y same = cc

pub err-same : (X : Type 0) (e f : PlanFault) → ◌≡◌ {A = Result X PlanFault} (Err e) (Err f) → e ≡ f
err-same X e f same = cc

-- an answer that is no fault
pub ok-walked : (before : ℕ) (s : Shape) (w : Walked) → Ok w ≡ walked before s → (s.fault ≡ None) × (w ≡ record { made = s.made; next = before + s.nodes })
ok-walked before s w is = by s.fault refl is
  where
    by : (fault : Option ℕ) → s.fault ≡ fault → Ok w ≡ unless (option_map (λ node. before + node) fault) (Ok (record { made = s.made; next = before + s.nodes })) → (s.fault ≡ None) × (w ≡ record { made = s.made; next = before + s.nodes })
    by None at is = (at, ok-same w _ is)
    by (Some node) at is = not-both w (record { node = before + node }) (sym is)

-- a fault that comes first
pub fault-first : {X : Type 0} {Y : Type 0} (before : ℕ) (fault later : Option ℕ) (x : X) (answer : Result Y PlanFault) (e : PlanFault) → Err e ≡ unless (option_map (λ node. before + node) fault) (Ok x)
    → Err e ≡ unless (option_map (λ node. before + node) (option_or fault later)) answer
fault-first before None later x answer e is = not-both x e is
fault-first {X} before (Some node) later x answer e is = ap Err (err-same X e (record { node = before + node }) is)

-- ---- a node after its children

module _ (before : ℕ) (below : List Shape) (is_way : Bool) (made : Made) (nodes cost : ℕ) where
  abbrev of_node : Shape
  of_node = record { made = made; nodes = suc nodes; fault = fault_at below is_way; cost = cost }

  pub node-walked : (next : ℕ) → fault_after 0 below ≡ None → nodes ≡ nodes_in below → next ≡ before + nodes → (result : Result Walked PlanFault)
      → result ≡ unless (if is_way then None else Some next) (Ok (record { made = made; next = suc next })) → result ≡ walked before of_node
  node-walked next none count at result is = is ∙ by is_way refl ∙ ap (λ fault. unless {X = Walked} (option_map (λ node. before + node) (option_or fault (if is_way then None else Some (nodes_in below)))) (Ok (record { made = made; next = before + suc nodes }))) (sym none)
    where
      by : (way : Bool) → is_way ≡ way → unless {X = Walked} (if way then None else Some next) (Ok (record { made = made; next = suc next }))
          ≡ unless {X = Walked} (option_map (λ node. before + node) (if way then None else Some (nodes_in below))) (Ok (record { made = made; next = before + suc nodes }))
      by true is = let after : suc next ≡ before + suc nodes = omega (arith, at) in ap (λ n. Ok (record { made = made; next = n })) after
      by false is = let here : next ≡ before + nodes_in below = at ∙ ap (λ n. before + n) count in ap (λ n. Err (record { node = n })) here

-- ---- children

with-more : (mades : List Made) (made : Made) → with_child (children_of mades) made ≡ children_of (mades ++ made ∷ [])
with-more [] made = refl
with-more (first ∷ []) made = refl
with-more (first ∷ second ∷ []) made = refl
with-more (first ∷ second ∷ third ∷ rest) made = refl

abbrev after_all : ℕ → List Made → ℕ → Option ℕ → List Made → ℕ → Result Below PlanFault
after_all base mades n fault more nodes = unless (option_map (λ node. base + node) fault) (Ok (record { children = children_of (mades ++ more); next = base + (n + nodes) }))

all-from : (shapes : List Shape) (mades : List Made) (base n : ℕ) → all_walked (record { children = children_of mades; next = base + n }) shapes ≡ after_all base mades n (fault_after n shapes) (made_in shapes) (nodes_in shapes)
all-from [] mades base n =
    let same : n ≡ n + 0 = omega arith in
    let answer : List Made → ℕ → Result Below PlanFault = λ some next. Ok (record { children = children_of some; next = base + next }) in
    ap₂ answer (sym (append-nil mades)) same
all-from (s ∷ shapes) mades base n = by s.fault (all-from shapes (mades ++ s.made ∷ []) base (n + s.nodes))
  where
    by : (fault : Option ℕ)
        → all_walked (record { children = children_of (mades ++ s.made ∷ []); next = base + (n + s.nodes) }) shapes ≡ after_all base (mades ++ s.made ∷ []) (n + s.nodes) (fault_after (n + s.nodes) shapes) (made_in shapes) (nodes_in shapes)
        → unless (option_map (λ node. (base + n) + node) fault) (all_walked (record { children = with_child (children_of mades) s.made; next = (base + n) + s.nodes }) shapes)
        ≡ after_all base mades n (option_or (option_map (λ node. n + node) fault) (fault_after (n + s.nodes) shapes)) (s.made ∷ made_in shapes) (nodes_in (s ∷ shapes))
    by None rest =
        let next : (base + n) + s.nodes ≡ base + (n + s.nodes) = omega arith in
        let last : (n + s.nodes) + nodes_in shapes ≡ n + nodes_in (s ∷ shapes) = let all = nodes-cons s shapes in omega (arith, all) in
        let start : Children → ℕ → Result Below PlanFault = λ some next. all_walked (record { children = some; next = next }) shapes in
        let answer : List Made → ℕ → Result Below PlanFault = λ some next. unless (option_map (λ node. base + node) (fault_after (n + s.nodes) shapes)) (Ok (record { children = children_of some; next = base + next })) in
        ap₂ start (with-more mades s.made) next ∙ rest ∙ ap₂ answer (append_assoc mades (s.made ∷ []) (made_in shapes)) last
    by (Some node) rest =
        let same : (base + n) + node ≡ base + (n + node) = omega arith in
        let answer : ℕ → Result Below PlanFault = λ k. Err (record { node = k }) in
        ap answer same

abbrev pub all_answer : ℕ → List Shape → Result Below PlanFault
all_answer before shapes = unless (option_map (λ node. before + node) (fault_after 0 shapes)) (Ok (record { children = children_of (made_in shapes); next = before + nodes_in shapes }))

pub all-of : (before : ℕ) (shapes : List Shape) → all_walked (record { children = children.Nothing; next = before }) shapes ≡ all_answer before shapes
all-of before shapes =
    let start : before ≡ before + 0 = omega arith in
    let end : 0 + nodes_in shapes ≡ nodes_in shapes = omega arith in
    let from : ℕ → Result Below PlanFault = λ next. all_walked (record { children = children.Nothing; next = next }) shapes in
    let answer : ℕ → Result Below PlanFault = λ nodes. unless (option_map (λ node. before + node) (fault_after 0 shapes)) (Ok (record { children = children_of (made_in shapes); next = before + nodes })) in
    ap from start ∙ all-from shapes [] before 0 ∙ ap answer end

pub ok-all : (before : ℕ) (shapes : List Shape) (below : Below) → Ok below ≡ all_walked (record { children = children.Nothing; next = before }) shapes
    → (fault_after 0 shapes ≡ None) × (below ≡ record { children = children_of (made_in shapes); next = before + nodes_in shapes })
ok-all before shapes below is = by (fault_after 0 shapes) refl (is ∙ all-of before shapes)
  where
    by : (fault : Option ℕ) → fault_after 0 shapes ≡ fault
        → Ok below ≡ unless (option_map (λ node. before + node) fault) (Ok (record { children = children_of (made_in shapes); next = before + nodes_in shapes }))
        → (fault_after 0 shapes ≡ None) × (below ≡ record { children = children_of (made_in shapes); next = before + nodes_in shapes })
    by None at is = (at, ok-same below _ is)
    by (Some node) at is = not-both below (record { node = before + node }) (sym is)

-- ---- operators over children

and-false : (b : Bool) → (b && false) ≡ false
and-false true = refl
and-false false = refl

none-any : {X : Type 0} (test : X → Bool) → ((x : X) → test x ≡ false) → (xs : List X) → list_any test xs ≡ false
none-any test none [] = refl
none-any test none (x ∷ xs) = ap (λ b. b || list_any test xs) (none x) ∙ none-any test none xs

operated-as : (mades : List Made) (result : Prop) (group : Group) → operated (children_of mades) result group ≡ is_operated group mades result
operated-as [] result group = sym (ap (λ any. may_have group.interesting result && any) (none-any (operates [] result) (λ expr. refl) group.exprs) ∙ and-false (may_have group.interesting result))
operated-as (first ∷ []) result group = refl
operated-as (first ∷ second ∷ []) result group = refl
operated-as (first ∷ second ∷ third ∷ rest) result group =
    sym (ap (λ any. may_have group.interesting result && any) (none-any (operates (first ∷ second ∷ third ∷ rest) result) (λ expr. and-false _) group.exprs) ∙ and-false (may_have group.interesting result))

at-same : (some : Option Group) (f g : Group → Bool) → ((group : Group) → f group ≡ g group) → is_at_some some f ≡ is_at_some some g
at-same None f g same = refl
at-same (Some group) f g same = same group

pub operated-at : (groups : List Group) (number : GroupId) (mades : List Made) (result : Prop) → is_at groups number (operated (children_of mades) result) ≡ is_at groups number (λ of. is_operated of mades result)
operated-at groups number mades result = at-same (slice_get groups number.0) (operated (children_of mades) result) (λ of. is_operated of mades result) (operated-as mades result)
