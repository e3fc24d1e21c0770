-- The data of a plan file describes that file.
use Rattle.std.proofs.Common.{◌≡◌, ℕ, ◌<◌, ◌≤◌, ◌+◌, ◌&&◌, List, [], ◌∷◌, ◌++◌, codes, decimal, map, cond, length, length-append, nat_le, nat_lt, Bool, true, Option, Some, None, Result, Ok, Err, option_map, option_and_then, refl, sym, ap, ap₂, subst, ◌∙◌, arith, append-nil, append_assoc}
use Rattle.std.specs.List.{AllByRecursion}
use Rattle.std.proofs.lemmas.Bool.{and_from, le-leb, lt-ltb}
use Rattle.serde_json.specs.Data.{Data}
use Rattle.serde_json.specs.View.{items_of}
use Rattle.pdw_groups.specs.declared.key.GroupId.{GroupId}
use Rattle.pdw_move.specs.declared.kinds.Move.{Move}
use Rattle.pdw_move.specs.declared.kinds.Prop.{Prop}
use Rattle.pdw_planjson.proofs.KeyLaws.{list_of_items}
use Rattle.pdw_planjson.proofs.NodesBack.{run-one}
use Rattle.pdw_planjson.proofs.ReadBack.{bound-back, number-back}
use Rattle.pdw_planjson.proofs.Trips.{trips}
use Rattle.pdw_planjson.specs.Bounds.{bounds_in, bounds_or_place, if_ended, list_in, with_bound, with_list}
use Rattle.pdw_planjson.specs.File.{described, described_parts, is_number_of_nodes, plan_in, root_or_place, with_bounds, with_plan}
use Rattle.pdw_planjson.specs.Keys.{list_of}
use Rattle.pdw_planjson.specs.Limits.{IsBound, IsFile, has_numbers}
use Rattle.pdw_planjson.specs.Numerals.{number_in}
use Rattle.pdw_planjson.specs.Stack.{added, run}
use Rattle.pdw_planjson.specs.Written.{Listing, bound_data, count_of_all, file_data, list_data, listed_over, listing, listing_step, node_data, nodes_of_all, roots}
use Rattle.pdw_planjson.specs.declared.file.Place.TheVariants.{Top}
use Rattle.pdw_planjson.specs.declared.file.PlanFile.{PlanFile}
use Rattle.pdw_planjson.specs.declared.line.Task.{Task}
use Rattle.pdw_planjson.specs.declared.line.Task.TheVariants as task
use Rattle.pdw_ways.proofs.PlanFolds.{by_plans, fold-free, fold-moved, fold-op, fold-scan}
use Rattle.pdw_ways.specs.declared.plan.Plan.{Plan}
use Rattle.pdw_ways.specs.declared.plan.Plan.TheVariants as plan

-- ---- as many nodes as are counted

abbrev IsSized : Listing → Type 0
IsSized l = (start : ℕ) → length (l.nodes start) ≡ l.before + 1

all-sized : (ls : List Listing) → AllByRecursion IsSized ls → (start : ℕ) → length (nodes_of_all start ls) ≡ count_of_all ls
all-sized [] sized start = refl
all-sized (l ∷ more) sized start =
    let later = start + l.before + 1 in
    omega (arith, length-append (l.nodes start) (nodes_of_all later more), sized.0 start, all-sized more sized.1 later)

sized-over : (ls : List Listing) (group : GroupId) (t : Task) → AllByRecursion IsSized ls → IsSized (listed_over ls group t)
sized-over ls group t sized start = omega (arith, length-append (nodes_of_all start ls) (node_data (roots start ls) group t ∷ []), all-sized ls sized start)

all-listed : (children : List Plan) → AllByRecursion (λ p. IsSized (listing p)) children → AllByRecursion IsSized (map listing children)
all-listed [] all = tt
all-listed (child ∷ more) all = (all.0, all-listed more all.1)

sized : (p : Plan) → IsSized (listing p)
sized = by_plans (λ p. IsSized (listing p)) (record {
  scan = λ group prop. subst IsSized (sym (fold-scan listing_step group prop)) (sized-over [] group (task.Scan prop) tt);
  op = λ group prop children all. subst IsSized (sym (fold-op listing_step group prop children)) (sized-over (map listing children) group (task.Op prop) (all-listed children all));
  moved = λ mv child below. subst IsSized (sym (fold-moved listing_step mv child)) (sized-over (listing child ∷ []) (listing child).group (task.Move mv) (below, tt));
  free = λ to child below. subst IsSized (sym (fold-free listing_step to child)) (sized-over (listing child ∷ []) (listing child).group (task.Free to) (below, tt));
})

-- ---- the plan

plan-back : (file : PlanFile) → IsFile file → has_numbers file.plan ≡ true → plan_in ((listing file.plan).nodes 0) ≡ Ok file.plan
plan-back file is numbers =
    let ds = (listing file.plan).nodes 0 in
    let count = length ds in
    ap (λ all. root_or_place count (run added 0 all [])) (sym (append-nil ds))
    ∙ ap (root_or_place count) ((trips file.plan numbers is.kinds is.height).reaches 0 [] [])

-- ---- the bounds

bounds-run : (n : ℕ) (bounds done : List (Option ℕ)) → AllByRecursion IsBound bounds → run (λ place. with_bound) n (map bound_data bounds) done ≡ Ok (done ++ bounds)
bounds-run n [] done fit = ap (λ list. Ok list) (sym (append-nil done))
bounds-run n (bound ∷ more) done fit =
    run-one (λ place. with_bound) n (bound_data bound) (map bound_data more) done (done ++ bound ∷ []) (ap (option_map (λ bound. done ++ bound ∷ [])) (bound-back bound fit.0))
    ∙ bounds-run (n + 1) more (done ++ bound ∷ []) fit.1
    ∙ ap (λ list. Ok list) (append_assoc done (bound ∷ []) more)

list-back : (bounds : List (Option ℕ)) → AllByRecursion IsBound bounds → list_in (list_of (items_of (map bound_data bounds))) ≡ Some bounds
list-back bounds fit = ap list_in (list_of_items (map bound_data bounds)) ∙ ap if_ended (bounds-run 0 bounds [] fit)

lists-run : (n : ℕ) (lists done : List (List (Option ℕ))) → AllByRecursion (AllByRecursion IsBound) lists → run (λ group. with_list) n (map list_data lists) done ≡ Ok (done ++ lists)
lists-run n [] done fit = ap (λ all. Ok all) (sym (append-nil done))
lists-run n (list ∷ more) done fit =
    run-one (λ group. with_list) n (list_data list) (map list_data more) done (done ++ list ∷ []) (ap (option_map (λ list. done ++ list ∷ [])) (list-back list fit.0))
    ∙ lists-run (n + 1) more (done ++ list ∷ []) fit.1
    ∙ ap (λ all. Ok all) (append_assoc done (list ∷ []) more)

lists-back : (lists : List (List (Option ℕ))) → AllByRecursion (AllByRecursion IsBound) lists → bounds_in (map list_data lists) ≡ Ok (record { lists = lists })
lists-back lists fit = ap bounds_or_place (lists-run 0 lists [] fit)

-- ---- the whole

read-parts : (file : PlanFile) → described (file_data file) ≡ described_parts (number_in (decimal file.cost)) (Some ((listing file.plan).nodes 0)) (Some (map list_data file.bounds.lists))
read-parts file =
    ap₂ (λ nodes bounds. described_parts (number_in (decimal file.cost)) (Some nodes) (Some bounds)) (list_of_items ((listing file.plan).nodes 0)) (list_of_items (map list_data file.bounds.lists))

pub file-back : (file : PlanFile) → IsFile file → has_numbers file.plan ≡ true → described (file_data file) ≡ Ok file
file-back file is numbers =
    let nodes = (listing file.plan).nodes 0 in
    let lists = map list_data file.bounds.lists in
    let count = sized file.plan 0 in
    let fits : is_number_of_nodes (length nodes) ≡ true =
    and_from (nat_lt 0 (length nodes)) (nat_le (length nodes) 16384) (lt-ltb 0 (length nodes) (omega (arith, count))) (le-leb (length nodes) 16384 (omega (arith, count, is.nodes))) in
    read-parts file
    ∙ ap (λ cost. described_parts cost (Some nodes) (Some lists)) (number-back file.cost is.cost)
    ∙ ap (λ (test : Bool). cond test (with_plan file.cost lists (plan_in nodes)) (Err Top)) fits
    ∙ ap (with_plan file.cost lists) (plan-back file is numbers)
    ∙ ap (with_bounds file.cost file.plan) (lists-back file.bounds.lists is.bounds)
