-- Which nodes are ways, and what is made, is no matter of what moves cost.
use Rattle.std.proofs.Common.{◌≡◌, ◌≢◌, ℕ, suc, ◌+◌, ◌-◌, ◌≤◌, Bool, true, false, List, [], ◌∷◌, length, map, Option, Some, None, Ok, Err, refl, sym, ap, ap₂, ◌∙◌, arith, eq-eqb, ne_eqb, if◌then◌else◌}
use Rattle.std.specs.List.{AllByRecursion}
use Rattle.std.specs.Option.{option_map, option_or}
use Rattle.pdw_groups.specs.declared.group.Group.{Group}
use Rattle.pdw_groups.specs.declared.key.GroupId.{GroupId}
use Rattle.pdw_move.specs.Move.{property_after}
use Rattle.pdw_plan.proofs.WalkLemmas.{err-same, nodes-cons, nodes-counted, not-both, ok-walked}
use Rattle.pdw_plan.specs.Count.{count_step, node_count}
use Rattle.pdw_plan.specs.Walk.{no_costs, unless, walked}
use Rattle.pdw_plan.specs.declared.walk.Walked.{Walked}
use Rattle.pdw_ways.proofs.PlanFolds.{Inductive, by_plans, fold-free, fold-moved, fold-op, fold-scan}
use Rattle.pdw_ways.specs.Shape.{Shape, fault_after, fault_at, is_root, made_in, nodes_in, query_fault, shape_of, shape_step}
use Rattle.pdw_ways.specs.Ways.{Costs, is_at, is_freed, is_moved, is_operated}
use Rattle.pdw_ways.specs.declared.made.Made.{Made}
use Rattle.pdw_ways.specs.declared.plan.Plan.{Plan}
use Rattle.pdw_ways.specs.declared.plan.PlanFault.{PlanFault}

-- shapes that differ in cost alone
pub record IsAlike (s t : Shape) : Type 0 where
  pub made : s.made ≡ t.made
  pub nodes : s.nodes ≡ t.nodes
  pub fault : s.fault ≡ t.fault

record AreAlike (ss ts : List Shape) : Type 0 where
  pub made : made_in ss ≡ made_in ts
  pub nodes : nodes_in ss ≡ nodes_in ts
  pub fault : (n : ℕ) → fault_after n ss ≡ fault_after n ts

module _ (groups : List Group) (costs others : Costs) where
  abbrev first : Plan → Shape
  first = shape_of groups costs

  abbrev second : Plan → Shape
  second = shape_of groups others

  abbrev Alike : Plan → Type 0
  Alike p = IsAlike (first p) (second p)

  all-alike : (plans : List Plan) → AllByRecursion Alike plans → AreAlike (map first plans) (map second plans)
  all-alike [] all = record { made = refl; nodes = refl; fault = λ n. refl }
  all-alike (p ∷ plans) all =
      let rest = all-alike plans all.1 in
      record {
        made = ap₂ (λ a b. a ∷ b) all.0.made rest.made;
        nodes = nodes-cons (first p) (map first plans) ∙ ap₂ (λ a b. a + b) all.0.nodes rest.nodes ∙ sym (nodes-cons (second p) (map second plans));
        fault = λ n.
            ap₂ (λ a b. option_or (option_map (λ node. n + node) a) (fault_after (n + b) (map first plans))) all.0.fault all.0.nodes
            ∙ ap (option_or (option_map (λ node. n + node) (second p).fault)) (rest.fault (n + (second p).nodes));
      }

  faults-alike : (ss ts : List Shape) → AreAlike ss ts → (a b : Bool) → a ≡ b → fault_at ss a ≡ fault_at ts b
  faults-alike ss ts alike a b same = ap₂ option_or (alike.fault 0) (ap₂ (λ way nodes. if way then None else Some nodes) same alike.nodes)

  one-alike : (s t : Shape) → IsAlike s t → AreAlike (s ∷ []) (t ∷ [])
  one-alike s t alike = record {
    made = ap (λ made. made ∷ []) alike.made;
    nodes = nodes-cons s [] ∙ ap (λ n. n + 0) alike.nodes ∙ sym (nodes-cons t []);
    fault = λ n. ap (λ fault. option_or (option_map (λ node. n + node) fault) None) alike.fault;
  }

  from_layer : (p : Plan) (s t : Shape) → first p ≡ s → second p ≡ t → IsAlike s t → Alike p
  from_layer p s t is_first is_second alike = record {
    made = ap (λ (s : Shape). s.made) is_first ∙ alike.made ∙ ap (λ (s : Shape). s.made) (sym is_second);
    nodes = ap (λ (s : Shape). s.nodes) is_first ∙ alike.nodes ∙ ap (λ (s : Shape). s.nodes) (sym is_second);
    fault = ap (λ (s : Shape). s.fault) is_first ∙ alike.fault ∙ ap (λ (s : Shape). s.fault) (sym is_second);
  }

  cases : Inductive Alike
  cases = record {
    scan = λ group prop. from_layer _ _ _ (fold-scan (shape_step groups costs) group prop) (fold-scan (shape_step groups others) group prop) (record { made = refl; nodes = refl; fault = refl });
    op = λ group prop children all.
        let below = all-alike children all in
        from_layer _ _ _ (fold-op (shape_step groups costs) group prop children) (fold-op (shape_step groups others) group prop children)
        (record {
          made = refl;
          nodes = ap suc below.nodes;
          fault = faults-alike (map first children) (map second children) below _ _ (ap (λ mades. is_at groups group (λ of. is_operated of mades prop)) below.made);
        });
    moved = λ mv child holds.
        from_layer _ _ _ (fold-moved (shape_step groups costs) mv child) (fold-moved (shape_step groups others) mv child)
        (record {
          made = ap (λ (made : Made). record { group = made.group; prop = property_after mv }) holds.made;
          nodes = ap suc holds.nodes;
          fault = faults-alike (first child ∷ []) (second child ∷ []) (one-alike (first child) (second child) holds) _ _ (ap (λ (made : Made). is_at groups made.group (λ of. is_moved of mv made.prop)) holds.made);
        });
    free = λ to child holds.
        from_layer _ _ _ (fold-free (shape_step groups costs) to child) (fold-free (shape_step groups others) to child)
        (record {
          made = ap (λ (made : Made). record { group = made.group; prop = to }) holds.made;
          nodes = ap suc holds.nodes;
          fault = faults-alike (first child ∷ []) (second child ∷ []) (one-alike (first child) (second child) holds) _ _ (ap (λ (made : Made). is_at groups made.group (λ of. is_freed of made.prop to)) holds.made);
        });
  }

  pub plans-alike : (p : Plan) → IsAlike (first p) (second p)
  plans-alike = by_plans Alike cases

-- ---- plans for the query

-- a fault that comes first, by its number
err-node : (before : ℕ) (fault later : Option ℕ) (w : Walked) (e : PlanFault) → Err e ≡ unless (option_map (λ node. before + node) fault) (Ok w) → option_or (option_map (λ node. before + node) fault) later ≡ Some e.node
err-node before None later w e is = not-both w e is
err-node before (Some node) later w e is = ap (λ (e : PlanFault). Some e.node) (sym (err-same Walked e (record { node = before + node }) is))

module _ (groups : List Group) (costs : Costs) (p : Plan) where
  abbrev plain : Shape
  plain = shape_of groups no_costs p

  abbrev dear : Shape
  dear = shape_of groups costs p

  same-fault : query_fault groups plain ≡ query_fault groups dear
  same-fault =
      let alike = plans-alike groups no_costs costs p in
      ap₂ option_or alike.fault (ap₂ (λ (made : Made) (nodes : ℕ). if is_root groups made.group then None else Some (nodes - 1)) alike.made alike.nodes)

  pub query-fault : (e : PlanFault) → Err e ≡ walked 0 plain → query_fault groups dear ≡ Some e.node
  query-fault e is =
      let later : Option ℕ = if is_root groups plain.made.group then None else Some (plain.nodes - 1) in
      sym same-fault ∙ ap (λ fault. option_or fault later) (from-zero plain.fault) ∙ err-node 0 plain.fault later _ e is
    where
      from-zero : (fault : Option ℕ) → fault ≡ option_map (λ node. 0 + node) fault
      from-zero None = refl
      from-zero (Some node) = let same : node ≡ 0 + node = omega arith in ap (λ n. Some n) same

  module _ (w : Walked) (ok : Ok w ≡ walked 0 plain) where
    done : (plain.fault ≡ None) × (w ≡ record { made = plain.made; next = 0 + plain.nodes })
    done = ok-walked 0 plain w ok

    at-last : (root : Bool) → is_root groups w.made.group ≡ root → query_fault groups dear ≡ (if root then None else Some (w.next - 1))
    at-last root is =
        let nodes : plain.nodes ≡ w.next = let next : w.next ≡ 0 + plain.nodes = ap (λ (w : Walked). w.next) done.1 in omega (arith, next) in
        sym same-fault
        ∙ ap (λ fault. option_or fault (if is_root groups plain.made.group then None else Some (plain.nodes - 1))) done.0
        ∙ ap₂ (λ (made : Made) (nodes : ℕ). if is_root groups made.group then None else Some (nodes - 1)) (ap (λ (w : Walked). w.made) (sym done.1)) nodes
        ∙ ap (λ root. if root then None else Some (w.next - 1)) is

    pub query-made : dear.made ≡ w.made
    query-made = sym (plans-alike groups no_costs costs p).made ∙ ap (λ (w : Walked). w.made) (sym done.1)

    pub query-root : is_root groups w.made.group ≡ true → query_fault groups dear ≡ None
    query-root is = at-last true is

    pub query-other : is_root groups w.made.group ≡ false → query_fault groups dear ≡ Some (w.next - 1)
    query-other is = at-last false is

-- a plan has a node
pub some-nodes : (p : Plan) → 1 ≤ node_count p
some-nodes = by_plans (λ p. 1 ≤ node_count p) (record {
  scan = λ group prop. let is = fold-scan count_step group prop in omega (arith, is);
  op = λ group prop children all. let is = fold-op count_step group prop children in omega (arith, is);
  moved = λ mv child holds. let is = fold-moved count_step mv child in omega (arith, is);
  free = λ to child holds. let is = fold-free count_step to child in omega (arith, is);
})

pub walked-some : (groups : List Group) (p : Plan) (w : Walked) → Ok w ≡ walked 0 (shape_of groups no_costs p) → 1 ≤ w.next
walked-some groups p w ok =
    let next : w.next ≡ 0 + (shape_of groups no_costs p).nodes = ap (λ (w : Walked). w.next) (ok-walked 0 (shape_of groups no_costs p) w ok).1 in
    let nodes = nodes-counted groups no_costs p in
    let some = some-nodes p in
    omega (arith, next, nodes, some)

-- ---- as the code tests it

root-true : (groups : List Group) (number : GroupId) → number.0 + 1 ≡ length groups → is_root groups number ≡ true
root-true groups number is = let same : suc number.0 ≡ length groups = omega (arith, is) in eq-eqb (suc number.0) (length groups) same

root-false : (groups : List Group) (number : GroupId) → number.0 + 1 ≢ length groups → is_root groups number ≡ false
root-false groups number other = ne_eqb (suc number.0) (length groups) (λ same. other (let is : number.0 + 1 ≡ length groups = omega (arith, same) in is))

module _ (groups : List Group) (p : Plan) (w : Walked) (ok : Ok w ≡ walked 0 (shape_of groups no_costs p)) where
  pub walked-root : w.made.group.0 + 1 ≡ length groups → (costs : Costs)
      → (query_fault groups (shape_of groups costs p) ≡ None) × ((shape_of groups costs p).made ≡ record { group = w.made.group; prop = w.made.prop })
  walked-root is costs = (query-root groups costs p w ok (root-true groups w.made.group is), query-made groups costs p w ok)

  pub walked-other : w.made.group.0 + 1 ≢ length groups → (costs : Costs) → query_fault groups (shape_of groups costs p) ≡ Some (w.next - 1)
  walked-other is costs = query-other groups costs p w ok (root-false groups w.made.group is)
