-- The data of a plan file has no float, and nests four deep at most.
use Rattle.std.proofs.Common.{◌≡◌, ℕ, suc, ◌≤◌, ◌+◌, ◌||◌, List, [], ◌∷◌, ◌++◌, map, max, Bool, false, Option, refl, sym, ap, subst, ◌∙◌, arith}
use Rattle.std.specs.List.{AllByRecursion}
use Rattle.serde_json.specs.Data.{Data, depth, items_depth}
use Rattle.serde_json.specs.View.{items_of}
use Rattle.serde_json.specs.Written.{has_float, items_have_float}
use Rattle.pdw_groups.specs.declared.key.GroupId.{GroupId}
use Rattle.pdw_planjson.specs.Written.{Listing, bound_data, file_data, list_data, listed_over, listing, listing_step, node_data, nodes_of_all, roots}
use Rattle.pdw_planjson.specs.declared.file.PlanFile.{PlanFile}
use Rattle.pdw_planjson.specs.declared.line.Task.{Task}
use Rattle.pdw_planjson.specs.declared.line.Task.TheVariants as task
use Rattle.pdw_ways.proofs.PlanFolds.{by_plans, fold-free, fold-moved, fold-op, fold-scan}
use Rattle.pdw_ways.specs.declared.plan.Plan.{Plan}

-- no float, and no deeper than this
record Plain (n : ℕ) (d : Data) : Type 0 where
  whole : has_float d ≡ false
  flat : depth d ≤ n

record PlainItems (n : ℕ) (ds : List Data) : Type 0 where
  whole : items_have_float (items_of ds) ≡ false
  flat : items_depth (items_of ds) ≤ n

no-or : (a b : Bool) → a ≡ false → b ≡ false → (a || b) ≡ false
no-or a b no_a no_b = ap (λ (x : Bool). x || b) no_a ∙ no_b

plain-items : (n : ℕ) (ds : List Data) → AllByRecursion (Plain n) ds → PlainItems n ds
plain-items n [] all = record { whole = refl; flat = omega arith }
plain-items n (d ∷ ds) all =
    let rest = plain-items n ds all.1 in
    let first = all.0 in
    record { whole = no-or (has_float d) (items_have_float (items_of ds)) first.whole rest.whole; flat = omega (arith, first.flat, rest.flat) }

all-append : (P : Data → Type 0) (xs ys : List Data) → AllByRecursion P xs → AllByRecursion P ys → AllByRecursion P (xs ++ ys)
all-append P [] ys first second = second
all-append P (x ∷ xs) ys first second = (first.0, all-append P xs ys first.1 second)

-- ---- nodes

plain-roots : (start : ℕ) (ls : List Listing) → AllByRecursion (Plain 0) (roots start ls)
plain-roots start [] = tt
plain-roots start (l ∷ more) = (record { whole = refl; flat = omega arith }, plain-roots (start + l.before + 1) more)

plain-node : (kids : List Data) (group : GroupId) (t : Task) → AllByRecursion (Plain 0) kids → Plain 2 (node_data kids group t)
plain-node kids group t all =
    let items = plain-items 0 kids all in
    record { whole = no-or (items_have_float (items_of kids)) false items.whole refl; flat = omega (arith, items.flat) }

abbrev IsPlain : Listing → Type 0
IsPlain l = (start : ℕ) → AllByRecursion (Plain 2) (l.nodes start)

plain-all : (ls : List Listing) → AllByRecursion IsPlain ls → (start : ℕ) → AllByRecursion (Plain 2) (nodes_of_all start ls)
plain-all [] all start = tt
plain-all (l ∷ more) all start =
    let later = start + l.before + 1 in
    all-append (Plain 2) (l.nodes start) (nodes_of_all later more) (all.0 start) (plain-all more all.1 later)

plain-over : (ls : List Listing) (group : GroupId) (t : Task) → AllByRecursion IsPlain ls → IsPlain (listed_over ls group t)
plain-over ls group t all start =
    all-append (Plain 2) (nodes_of_all start ls) (node_data (roots start ls) group t ∷ []) (plain-all ls all start) (plain-node (roots start ls) group t (plain-roots start ls), tt)

plain-children : (children : List Plan) → AllByRecursion (λ p. IsPlain (listing p)) children → AllByRecursion IsPlain (map listing children)
plain-children [] all = tt
plain-children (child ∷ more) all = (all.0, plain-children more all.1)

plain-plan : (p : Plan) → IsPlain (listing p)
plain-plan = by_plans (λ p. IsPlain (listing p)) (record {
  scan = λ group prop. subst IsPlain (sym (fold-scan listing_step group prop)) (plain-over [] group (task.Scan prop) tt);
  op = λ group prop children all. subst IsPlain (sym (fold-op listing_step group prop children)) (plain-over (map listing children) group (task.Op prop) (plain-children children all));
  moved = λ mv child below. subst IsPlain (sym (fold-moved listing_step mv child)) (plain-over (listing child ∷ []) (listing child).group (task.Move mv) (below, tt));
  free = λ to child below. subst IsPlain (sym (fold-free listing_step to child)) (plain-over (listing child ∷ []) (listing child).group (task.Free to) (below, tt));
})

-- ---- bounds

plain-bounds : (bounds : List (Option ℕ)) → AllByRecursion (Plain 0) (map bound_data bounds)
plain-bounds [] = tt
plain-bounds (bound ∷ more) = (record { whole = refl; flat = omega arith }, plain-bounds more)

plain-lists : (lists : List (List (Option ℕ))) → AllByRecursion (Plain 1) (map list_data lists)
plain-lists [] = tt
plain-lists (list ∷ more) =
    let items = plain-items 0 (map bound_data list) (plain-bounds list) in
    (record { whole = items.whole; flat = omega (arith, items.flat) }, plain-lists more)

-- ---- the whole

plain-file : (file : PlanFile) → Plain 4 (file_data file)
plain-file file =
    let ds = (listing file.plan).nodes 0 in
    let lists = map list_data file.bounds.lists in
    let nodes = plain-items 2 ds (plain-plan file.plan 0) in
    let bounds = plain-items 1 lists (plain-lists file.bounds.lists) in
    record {
      whole = no-or (items_have_float (items_of lists)) (items_have_float (items_of ds) || false) bounds.whole (no-or (items_have_float (items_of ds)) false nodes.whole refl);
      flat = omega (arith, nodes.flat, bounds.flat);
    }

pub no-float : (file : PlanFile) → has_float (file_data file) ≡ false
no-float file = (plain-file file).whole

pub shallow : (file : PlanFile) → depth (file_data file) ≤ 4
shallow file = (plain-file file).flat
