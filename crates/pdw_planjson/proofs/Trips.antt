-- Reading the nodes of a plan puts that plan on the stack, whatever stands behind them and under it.
use Rattle.std.proofs.Common.{◌≡◌, ℕ, ◌<◌, ◌≤◌, ◌+◌, ◌&&◌, List, [], ◌∷◌, ◌++◌, map, max, cond, Bool, true, false, true≢false, Option, Some, None, refl, sym, ap, subst, ◌∙◌, arith, append-nil, append_assoc}
use Rattle.std.specs.List.{AllByRecursion, list_all}
use Rattle.std.proofs.lemmas.Bool.{and_parts, eq-eqb}
use Rattle.serde_json.specs.Data.{Data}
use Rattle.pdw_groups.specs.declared.key.GroupId.{GroupId}
use Rattle.pdw_move.specs.declared.kinds.Move.{Move}
use Rattle.pdw_move.specs.declared.kinds.Prop.{Prop}
use Rattle.pdw_planjson.proofs.NodesBack.{IsNode, leaf-added, one-added, run-one, two-added}
use Rattle.pdw_planjson.specs.Limits.{has_column, has_kinds, has_numbers, height, height_step, is_freed, is_group, kinds_step, numbers_step}
use Rattle.pdw_planjson.specs.Stack.{added, leaf_plan, on_top, plan_over_one, plan_over_two, run}
use Rattle.pdw_planjson.specs.Written.{Listing, listed_over, listing, listing_step, node_data, prop_of, whole}
use Rattle.pdw_planjson.specs.declared.line.Task.{Task}
use Rattle.pdw_planjson.specs.declared.line.Task.TheVariants as task
use Rattle.pdw_planjson.specs.declared.stack.Entry.{Entry}
use Rattle.pdw_ways.proofs.PlanFolds.{Inductive, by_plans, fold-free, fold-moved, fold-op, fold-scan}
use Rattle.pdw_ways.specs.declared.plan.Plan.{Plan}
use Rattle.pdw_ways.specs.declared.plan.Plan.TheVariants as plan

abbrev entry : ℕ → GroupId → ℕ → Plan → Entry
entry number group high p = record { number = number; group = group; height = high; plan = p }

abbrev pub Reaches : Listing → ℕ → Plan → Type 0
Reaches listed high p = (start : ℕ) (rest : List Data) (stack : List Entry) → run added start (listed.nodes start ++ rest) stack ≡ run added (start + listed.before + 1) rest (entry (start + listed.before) listed.group high p ∷ stack)

-- ---- a node over children that were read

module _ (group : GroupId) (t : Task) (of : IsNode group t) (p : Plan) where
  over-none : leaf_plan group t ≡ Some p → Reaches (listed_over [] group t) 1 p
  over-none is start rest stack =
      let same : start ≡ start + 0 = omega arith in
      run-one added start (node_data [] group t) rest stack (on_top start group 1 stack p) (leaf-added start group t of stack p is)
      ∙ ap (λ n. run added (n + 1) rest (on_top n group 1 stack p)) same

  over-one : (l : Listing) (high : ℕ) (child : Plan) → Reaches l high child → high < 4096 → plan_over_one group t l.group child ≡ Some p → Reaches (listed_over (l ∷ []) group t) (high + 1) p
  over-one l high child reads low is start rest stack =
      let at = start + l.before + 1 in
      let node = node_data (whole (start + l.before) ∷ []) group t in
      let below = entry (start + l.before) l.group high child in
      let same : at ≡ start + (l.before + 1 + 0) = omega arith in
      let split : ((l.nodes start ++ []) ++ node ∷ []) ++ rest ≡ l.nodes start ++ node ∷ rest = ap (λ ds. (ds ++ node ∷ []) ++ rest) (append-nil (l.nodes start)) ∙ append_assoc (l.nodes start) (node ∷ []) rest in
      ap (λ ds. run added start ds stack) split
      ∙ reads start (node ∷ rest) stack
      ∙ run-one added at node rest (below ∷ stack) (on_top at group (high + 1) stack p) (one-added at group t of stack p below low is)
      ∙ ap (λ n. run added (n + 1) rest (on_top n group (high + 1) stack p)) same

  over-two : (l r : Listing) (hl hr : ℕ) (left right : Plan) → Reaches l hl left → Reaches r hr right → max hl hr < 4096 → plan_over_two group t left right ≡ Some p → Reaches (listed_over (l ∷ r ∷ []) group t) (max hl hr + 1) p
  over-two l r hl hr left right reads_left reads_right low is start rest stack =
      let middle = start + l.before + 1 in
      let at = middle + r.before + 1 in
      let node = node_data (whole (start + l.before) ∷ whole (middle + r.before) ∷ []) group t in
      let first = entry (start + l.before) l.group hl left in
      let second = entry (middle + r.before) r.group hr right in
      let same : at ≡ start + (l.before + 1 + (r.before + 1 + 0)) = omega arith in
      let split : ((l.nodes start ++ (r.nodes middle ++ [])) ++ node ∷ []) ++ rest ≡ l.nodes start ++ (r.nodes middle ++ node ∷ rest) =
      ap (λ ds. ((l.nodes start ++ ds) ++ node ∷ []) ++ rest) (append-nil (r.nodes middle))
      ∙ append_assoc (l.nodes start ++ r.nodes middle) (node ∷ []) rest
      ∙ append_assoc (l.nodes start) (r.nodes middle) (node ∷ rest) in
      ap (λ ds. run added start ds stack) split
      ∙ reads_left start (r.nodes middle ++ node ∷ rest) stack
      ∙ reads_right middle (node ∷ rest) (first ∷ stack)
      ∙ run-one added at node rest (second ∷ first ∷ stack) (on_top at group (max hl hr + 1) stack p) (two-added at group t of stack p first second low is)
      ∙ ap (λ n. run added (n + 1) rest (on_top n group (max hl hr + 1) stack p)) same

-- ---- plans

pub record Trip (p : Plan) : Type 0 where
  pub group : is_group (listing p).group ≡ true
  pub reaches : Reaches (listing p) (height p) p

abbrev Trips : Plan → Type 0
Trips p = has_numbers p ≡ true → has_kinds p ≡ true → height p ≤ 4096 → Trip p

-- by what the folds give of a plan
made : (p : Plan) (l : Listing) (high : ℕ) → listing p ≡ l → height p ≡ high → is_group l.group ≡ true → Reaches l high p → Trip p
made p l high listed highs group reaches = record {
  group = ap (λ (l : Listing). is_group l.group) listed ∙ group;
  reaches = subst (λ (l : Listing). Reaches l (height p) p) (sym listed) (subst (λ h. Reaches l h p) (sym highs) reaches);
}

trips-scan : (group : GroupId) (prop : Prop) → Trips (plan.Scan group prop)
trips-scan group prop numbers kinds low =
    let p = plan.Scan group prop in
    let both = and_parts (is_group group) (has_column prop) (sym (fold-scan numbers_step group prop) ∙ numbers) in
    let of : IsNode group (task.Scan prop) = record { known = both.0; column = both.1; lawful = refl } in
    made p (listed_over [] group (task.Scan prop)) 1 (fold-scan listing_step group prop) (fold-scan height_step group prop) both.0 (over-none group (task.Scan prop) of p refl)

trips-moved : (mv : Move) (child : Plan) → Trips child → Trips (plan.Moved mv child)
trips-moved mv child below numbers kinds low =
    let p = plan.Moved mv child in
    let t = task.Move mv in
    let l = listing child in
    let both = and_parts (has_column (prop_of t)) (has_numbers child) (sym (fold-moved numbers_step mv child) ∙ numbers) in
    let highs = fold-moved height_step mv child in
    let trip = below both.1 (sym (fold-moved kinds_step mv child) ∙ kinds) (omega (arith, highs, low)) in
    let of : IsNode l.group t = record { known = trip.group; column = both.0; lawful = refl } in
    let is : plan_over_one l.group t l.group child ≡ Some p = ap (λ (same : Bool). cond same (Some p) None) (eq-eqb l.group.0 l.group.0 refl) in
    made p (listed_over (l ∷ []) l.group t) (height child + 1) (fold-moved listing_step mv child) highs trip.group (over-one l.group t of p l (height child) child trip.reaches (omega (arith, highs, low)) is)

trips-free : (to : Prop) (child : Plan) → Trips child → Trips (plan.Free to child)
trips-free to child below numbers kinds low =
    let p = plan.Free to child in
    let t = task.Free to in
    let l = listing child in
    let both = and_parts (has_column to) (has_numbers child) (sym (fold-free numbers_step to child) ∙ numbers) in
    let kind = and_parts (is_freed to) (has_kinds child) (sym (fold-free kinds_step to child) ∙ kinds) in
    let highs = fold-free height_step to child in
    let trip = below both.1 kind.1 (omega (arith, highs, low)) in
    let of : IsNode l.group t = record { known = trip.group; column = both.0; lawful = kind.0 } in
    let is : plan_over_one l.group t l.group child ≡ Some p = ap (λ (same : Bool). cond same (Some p) None) (eq-eqb l.group.0 l.group.0 refl) in
    made p (listed_over (l ∷ []) l.group t) (height child + 1) (fold-free listing_step to child) highs trip.group (over-one l.group t of p l (height child) child trip.reaches (omega (arith, highs, low)) is)

-- operators have one or two children
trips-op : (group : GroupId) (prop : Prop) (children : List Plan) → AllByRecursion Trips children → Trips (plan.Op group prop children)
trips-op group prop [] all numbers kinds low = absurd (true≢false (sym kinds ∙ fold-op kinds_step group prop []))
trips-op group prop (only ∷ []) all numbers kinds low =
    let p = plan.Op group prop (only ∷ []) in
    let t = task.Op prop in
    let l = listing only in
    let parts = and_parts (is_group group && has_column prop) (has_numbers only && true) (sym (fold-op numbers_step group prop (only ∷ [])) ∙ numbers) in
    let both = and_parts (is_group group) (has_column prop) parts.0 in
    let below = and_parts (has_numbers only) true parts.1 in
    let flat : max (height only) 0 + 1 ≡ height only + 1 = omega arith in
    let highs = fold-op height_step group prop (only ∷ []) ∙ flat in
    let trip = all.0 below.0 (sym (fold-op kinds_step group prop (only ∷ [])) ∙ kinds) (omega (arith, highs, low)) in
    let of : IsNode group t = record { known = both.0; column = both.1; lawful = refl } in
    made p (listed_over (l ∷ []) group t) (height only + 1) (fold-op listing_step group prop (only ∷ [])) highs both.0 (over-one group t of p l (height only) only trip.reaches (omega (arith, highs, low)) refl)
trips-op group prop (left ∷ right ∷ []) all numbers kinds low =
    let p = plan.Op group prop (left ∷ right ∷ []) in
    let t = task.Op prop in
    let l = listing left in
    let r = listing right in
    let parts = and_parts (is_group group && has_column prop) (has_numbers left && (has_numbers right && true)) (sym (fold-op numbers_step group prop (left ∷ right ∷ [])) ∙ numbers) in
    let both = and_parts (is_group group) (has_column prop) parts.0 in
    let first = and_parts (has_numbers left) (has_numbers right && true) parts.1 in
    let second = and_parts (has_numbers right) true first.1 in
    let kind = and_parts (has_kinds left) (has_kinds right) (sym (fold-op kinds_step group prop (left ∷ right ∷ [])) ∙ kinds) in
    let flat : max (height left) (max (height right) 0) + 1 ≡ max (height left) (height right) + 1 = omega arith in
    let highs = fold-op height_step group prop (left ∷ right ∷ []) ∙ flat in
    let of_left = all.0 first.0 kind.0 (omega (arith, highs, low)) in
    let of_right = all.1.0 second.0 kind.1 (omega (arith, highs, low)) in
    let of : IsNode group t = record { known = both.0; column = both.1; lawful = refl } in
    made p (listed_over (l ∷ r ∷ []) group t) (max (height left) (height right) + 1) (fold-op listing_step group prop (left ∷ right ∷ [])) highs both.0
    (over-two group t of p l r (height left) (height right) left right of_left.reaches of_right.reaches (omega (arith, highs, low)) refl)
trips-op group prop (left ∷ right ∷ third ∷ more) all numbers kinds low = absurd (true≢false (sym kinds ∙ fold-op kinds_step group prop (left ∷ right ∷ third ∷ more)))

pub trips : (p : Plan) → Trips p
trips = by_plans Trips (record { scan = trips-scan; op = trips-op; moved = trips-moved; free = trips-free })
