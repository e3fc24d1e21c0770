-- A plan of the root's cheapest property is a least plan for the query.
use Rattle.std.proofs.Common.{◌≡◌, ◌≤◌, ◌-◌, ℕ, zero, suc, Bool, true, List, [], ◌∷◌, length, get_or, Option, Some, None, refl, sym, ap, ap₂, subst, ◌∙◌, arith, eq-eqb, if◌then◌else◌}
use Rattle.std.specs.List.{AllByRecursion, slice_get}
use Rattle.std.specs.Option.{IsSome, option_and_then, option_or}
use Rattle.std.proofs.lemmas.Option.{slice_get-get_or, slice_get_read, slice_get_within}
use Rattle.pdw_enum.proofs.Places.{least-reached}
use Rattle.pdw_enum.specs.Least.{IsLeastPlan, IsShort}
use Rattle.pdw_enum.specs.Root.{AreDifferent, IsCheapest, IsRooted, least_of_root, root_of}
use Rattle.pdw_groups.specs.declared.group.Group.{Group}
use Rattle.pdw_groups.specs.declared.key.GroupId.{GroupId}
use Rattle.pdw_least.proofs.Tables.{all-small}
use Rattle.pdw_least.specs.Built.{IsBuilt}
use Rattle.pdw_least.specs.Log.{bounds_after}
use Rattle.pdw_least.specs.Premises.{AreLight}
use Rattle.pdw_least.specs.Reached.{IsReached}
use Rattle.pdw_least.specs.Runs.{HasFewNodes, HasShortRuns, IsWithinFour, operators, runs_of}
use Rattle.pdw_least.specs.Table.{IsLeastTable}
use Rattle.pdw_least.specs.declared.entry.Entry.{Entry}
use Rattle.pdw_move.specs.declared.kinds.Prop.{Prop}
use Rattle.pdw_move.specs.declared.kinds.Prop.TheVariants as prop
use Rattle.pdw_plan.proofs.Costless.{plans-alike}
use Rattle.pdw_plan.proofs.WalkLemmas.{nodes-counted}
use Rattle.pdw_rules.specs.Rules.{properties_of}
use Rattle.pdw_ways.specs.Bounds.{AreValid, HaveShape, NoneCheaper, bound_among, bound_by, bound_in, cost_of_plan, least_in}
use Rattle.pdw_ways.specs.Shape.{IsPlan, is_root, query_fault, shape_of}
use Rattle.pdw_ways.specs.Ways.{Costs}
use Rattle.pdw_ways.specs.declared.made.Made.{Made}
use Rattle.pdw_ways.specs.declared.plan.Plan.{Plan}

abbrev Lists : Type 0
Lists = List (List (Option ℕ))

-- ---- the root

pub some-groups : (groups : List Group) → IsRooted groups → 1 ≤ length groups
some-groups groups rooted = omega (arith, slice_get_within groups (length groups - 1) rooted.root rooted.there)

pub shape-count : (groups : List Group) (lists : Lists) → HaveShape groups lists → length lists ≡ length groups
shape-count [] [] shape = refl
shape-count [] (list ∷ lists) shape = absurd shape
shape-count (group ∷ groups) [] shape = absurd shape
shape-count (group ∷ groups) (list ∷ lists) shape = ap suc (shape-count groups lists shape.1)

some-same : {X : Type 0} (a b : X) → Some a ≡ Some b → a ≡ b
some-same a b same = cc

pub shape-at : (groups : List Group) (lists : Lists) → HaveShape groups lists → (number : ℕ) (group : Group) (list : List (Option ℕ)) → slice_get groups number ≡ Some group → slice_get lists number ≡ Some list
    → length list ≡ length (properties_of group.interesting)
shape-at [] lists shape number group list is there = absurd (omega (arith, slice_get_within [] number group is))
shape-at (first ∷ groups) [] shape number group list is there = absurd shape
shape-at (first ∷ groups) (bounds ∷ lists) shape zero group list is there =
    subst (λ (g : Group). length list ≡ length (properties_of g.interesting)) (some-same first group is) (subst (λ (l : List (Option ℕ)). length l ≡ length (properties_of first.interesting)) (some-same bounds list there) shape.0)
shape-at (first ∷ groups) (bounds ∷ lists) shape (suc number) group list is there = shape-at groups lists shape.1 number group list is there

module _ (groups : List Group) (lists : Lists) (number : GroupId) (group : Group) (list : List (Option ℕ)) (is : slice_get groups number.0 ≡ Some group) (there : slice_get lists number.0 ≡ Some list) where
  pub bound-of : (p : Prop) → bound_in groups lists (record { group = number; prop = p }) ≡ bound_by group.interesting list p
  bound-of p = ap₂ (bound_among p) is there

  -- a bound of a group is reached whose rows can be brought to one node
  pub some-bound : IsReached (bound_in groups lists) number → IsSome (least_in list)
  some-bound reached = least-reached group.interesting list prop.Single (subst IsSome (bound-of prop.Single) reached.single)

  pub cheapest-is : number ≡ root_of groups → (p : Prop) → bound_by group.interesting list p ≡ least_in list → IsSome (least_in list) → IsCheapest groups lists (record { group = number; prop = p })
  cheapest-is root p least some = record {
    root = root;
    least = bound-of p ∙ least ∙ sym (ap (option_and_then least_in) (ap (slice_get lists) (ap (λ (g : GroupId). g.0) (sym root)) ∙ there));
    reached = subst IsSome (sym (bound-of p ∙ least)) some;
  }

-- the root, where any group stands for what is not there, and its list
module _ (groups : List Group) (lists : Lists) (shape : HaveShape groups lists) (rooted : IsRooted groups) (any : Group) (list : List (Option ℕ)) (is : list ≡ get_or lists (length groups - 1) list) where
  abbrev root : Group
  root = get_or groups (length groups - 1) any

  pub root-there : slice_get groups (length groups - 1) ≡ Some root
  root-there = let some = some-groups groups rooted in slice_get-get_or groups (length groups - 1) any (omega (arith, some))

  list-there : slice_get lists (length groups - 1) ≡ Some list
  list-there =
      let some = some-groups groups rooted in
      slice_get_read lists (length groups) (length groups - 1) list (sym (shape-count groups lists shape)) (omega (arith, some)) is

  pub root-size : length list ≡ length (properties_of root.interesting)
  root-size = shape-at groups lists shape (length groups - 1) root list root-there list-there

  pub root-different : AreDifferent root.interesting
  root-different = subst (λ (g : Group). AreDifferent g.interesting) (some-same rooted.root root (sym rooted.there ∙ root-there)) rooted.different

  pub root-some : IsReached (bound_in groups lists) (root_of groups) → IsSome (least_in list)
  root-some reached = some-bound groups lists (root_of groups) root list root-there list-there reached

  pub root-cheapest : (p : Prop) → bound_by root.interesting list p ≡ least_in list → IsSome (least_in list) → IsCheapest groups lists (record { group = record { 0 = length groups - 1 }; prop = p })
  root-cheapest p least some = cheapest-is groups lists (root_of groups) root list root-there list-there refl p least some

-- ---- plans for the query

module _ (groups : List Group) (p : Plan) where
  abbrev fault_of : Option ℕ → Bool → ℕ → Option ℕ
  fault_of fault root nodes = option_or fault (if root then None else Some (nodes - 1))

  pub plan-query : (costs : Costs) (made : Made) → 1 ≤ length groups → made.group ≡ root_of groups → IsPlan groups costs p made → query_fault groups (shape_of groups costs p) ≡ None
  plan-query costs made some root is =
      let last : suc (length groups - 1) ≡ length groups = omega (arith, some) in
      let same : is_root groups (shape_of groups costs p).made.group ≡ true =
      ap (λ (m : Made). is_root groups m.group) is.makes ∙ ap (is_root groups) root ∙ eq-eqb (suc (length groups - 1)) (length groups) last in
      ap₂ (λ (fault : Option ℕ) (root : Bool). fault_of fault root (shape_of groups costs p).nodes) is.allowed same

  -- whatever moves cost
  pub query-same : (costs others : Costs) → query_fault groups (shape_of groups costs p) ≡ None → query_fault groups (shape_of groups others p) ≡ None
  query-same costs others none =
      let alike = plans-alike groups others costs p in
      ap₂ option_or alike.fault (ap₂ (λ (made : Made) (nodes : ℕ). if is_root groups made.group then None else Some (nodes - 1)) alike.made alike.nodes) ∙ none

-- ---- least plans

built-parts : (groups : List Group) (costs : Costs) (p : Plan) (made : Made) (bound : Option ℕ) → IsBuilt groups costs p made bound → IsPlan groups costs p made × (bound ≡ Some (cost_of_plan groups costs p))
built-parts groups costs p made None built = absurd built
built-parts groups costs p made (Some cost) built = (built.0, ap (λ (n : ℕ). Some n) (sym built.1))

least-list : (lists : Lists) (number cost : ℕ) → option_and_then least_in (slice_get lists number) ≡ Some cost → (list : List (Option ℕ)) × (slice_get lists number ≡ Some list) × (least_in list ≡ Some cost)
least-list lists number cost is = by (slice_get lists number) refl is
  where
    by : (found : Option (List (Option ℕ))) → slice_get lists number ≡ found → option_and_then least_in found ≡ Some cost → (list : List (Option ℕ)) × (slice_get lists number ≡ Some list) × (least_in list ≡ Some cost)
    by None there is = absurd (cc)
    by (Some list) there is = (list, there, is)

-- tight bounds of a group leave no plan of it cheaper
abbrev pub TightLaw : List Group → Costs → Lists → Type 0
TightLaw groups costs lists = AreValid groups costs (bound_in groups lists) → (number : GroupId) (list : List (Option ℕ)) (cost : ℕ) → slice_get lists number.0 ≡ Some list → least_in list ≡ Some cost → NoneCheaper groups costs number cost

module _ (groups : List Group) (costs : Costs) (lists : Lists) (log : List Entry) (table : IsLeastTable groups costs lists log) (made : Made) (cheapest : IsCheapest groups lists made) where
  -- the log reaches it
  pub log-reached : IsSome (bounds_after log made)
  log-reached = subst IsSome (table.kept made) cheapest.reached

  module _ (p : Plan) (built : IsBuilt groups costs p made (bounds_after log made)) where
    abbrev parts : IsPlan groups costs p made × (bounds_after log made ≡ Some (cost_of_plan groups costs p))
    parts = built-parts groups costs p made (bounds_after log made) built

    pub built-query : 1 ≤ length groups → query_fault groups (shape_of groups costs p) ≡ None
    built-query some = plan-query groups p costs made some cheapest.root parts.0

    pub built-least : AreLight groups → TightLaw groups costs lists → IsLeastPlan groups costs p lists
    built-least light law =
        let tight : least_of_root groups lists ≡ Some (cost_of_plan groups costs p) = sym cheapest.least ∙ table.kept made ∙ parts.1 in
        let root = least-list lists (root_of groups).0 (cost_of_plan groups costs p) tight in
        record {
          shape = table.shape;
          valid = table.valid;
          least = table.least;
          tight = tight;
          none_cheaper = law table.valid (root_of groups) root.0 (cost_of_plan groups costs p) root.1 root.2;
          small = all-small groups light (bound_in groups lists) table.within;
        }

    pub built-short : (light : AreLight groups) → ((other : Plan) (of : Made) → IsPlan groups costs other of → operators other ≤ light.weight of.group.0) → HasShortRuns p → AllByRecursion IsWithinFour (runs_of p) → HasFewNodes groups costs p → IsShort p
    built-short light law runs steps few = record {
      runs = runs;
      steps = steps;
      few = let count = nodes-counted groups costs p in omega (arith, count, few);
      some = let weighs = law p made parts.0 in let most = light.most made.group.0 in omega (arith, weighs, most);
    }
