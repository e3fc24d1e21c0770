-- What a file describes is within the bounds of the checker: its plan has at most 16,384 nodes, and its numbers have at most 32
-- digits.
use Rattle.std.proofs.Common.{◌≡◌, ◌≤◌, ◌<◌, ◌+◌, ◌^◌, ◌&&◌, ◌==◌, ℕ, suc, max, Bool, true, false, List, [], ◌∷◌, ◌++◌, length, sum, nat_le, nat_lt, Option, Some, None, Result, Ok, Err, bytes_eq, codes, refl, sym, ap, subst, ◌∙◌, arith, if◌then◌else◌}
use Rattle.std.proofs.Math.Nat.{pow-le-pow_right}
use Rattle.std.proofs.lemmas.Bool.{and_parts, leb-true}
use Rattle.std.proofs.lemmas.Int.Digits.{digits_value-lt}
use Rattle.std.proofs.lemmas.Str.{digit_value_digit}
use Rattle.std.specs.List.{AllByRecursion, list_all}
use Rattle.std.specs.Option.{option_and_then, option_map}
use Rattle.std.specs.Str.Parse.{AllDigits, digits_value}
use Rattle.serde_json.specs.Data.{Data}
use Rattle.serde_json.specs.Find.{as_str}
use Rattle.pdw_cert.proofs.Searches.{all-append}
use Rattle.pdw_cert.specs.Shape.{AreSmallNumbers}
use Rattle.pdw_groups.specs.declared.key.GroupId.{GroupId}
use Rattle.pdw_plan.proofs.WalkLemmas.{sum-cons}
use Rattle.pdw_plan.specs.Count.{count_step, node_count}
use Rattle.pdw_planjson.proofs.NumeralLaws.{no-numeral, numeral-is, of-digit, of-numeral}
use Rattle.pdw_planjson.specs.Bounds.{bound_in, bound_of, bounds_in, bounds_or_place, if_ended, list_in, with_bound, with_list}
use Rattle.pdw_planjson.specs.File.{cost_at, described, described_parts, has_head, is_number_of_nodes, plan_in, root_of, root_or_place, with_bounds, with_plan}
use Rattle.pdw_planjson.specs.Keys.{elements_of, list_at}
use Rattle.pdw_planjson.specs.Node.{line_in}
use Rattle.pdw_planjson.specs.Numerals.{is_digit, is_numeral, number_in}
use Rattle.pdw_planjson.specs.Stack.{added, leaf_plan, on_top, or_fault, placed, placed_by, plan_over_one, plan_over_two, run}
use Rattle.pdw_planjson.specs.declared.file.Place.{Place}
use Rattle.pdw_planjson.specs.declared.file.Place.TheVariants.{Top}
use Rattle.pdw_planjson.specs.declared.file.PlanFile.{PlanFile}
use Rattle.pdw_planjson.specs.declared.line.Kids.{Kids}
use Rattle.pdw_planjson.specs.declared.line.Kids.TheVariants as kids
use Rattle.pdw_planjson.specs.declared.line.Line.{Line}
use Rattle.pdw_planjson.specs.declared.line.Task.{Task}
use Rattle.pdw_planjson.specs.declared.line.Task.TheVariants as task
use Rattle.pdw_planjson.specs.declared.stack.Entry.{Entry}
use Rattle.pdw_ways.proofs.PlanFolds.{fold-free, fold-moved, fold-op, fold-scan}
use Rattle.pdw_ways.specs.Bounds.{IsSmall}
use Rattle.pdw_ways.specs.declared.plan.Bounds.{Bounds}
use Rattle.pdw_ways.specs.declared.plan.Plan.{Plan}
use Rattle.pdw_ways.specs.declared.plan.Plan.TheVariants as plan

-- ---- parts of what is there

some-same : {X : Type 0} (a b : X) → Some a ≡ Some b → a ≡ b
some-same a b same = cc

some-map : {A B : Type 0} (f : A → B) (o : Option A) (y : B) → option_map f o ≡ Some y → (x : A) × ((o ≡ Some x) × (f x ≡ y))
some-map f None y is = absurd (cc)
some-map f (Some x) y is = (x, (refl, some-same (f x) y is))

some-then : {A B : Type 0} (f : A → Option B) (o : Option A) (y : B) → option_and_then f o ≡ Some y → (x : A) × ((o ≡ Some x) × (f x ≡ Some y))
some-then f None y is = absurd (cc)
some-then f (Some x) y is = (x, (refl, is))

-- ---- what holds after each step holds after all

module _ {S : Type 0} (step : ℕ → Data → S → Option S) (P : ℕ → S → Type 0) (keeps : (number : ℕ) (d : Data) (state new : S) → P number state → step number d state ≡ Some new → P (number + 1) new) where
  run-keeps : (number : ℕ) (ds : List Data) (state last : S) → P number state → run step number ds state ≡ Ok last → P (number + length ds) last
  run-keeps number [] state last p is = let same : state ≡ last = cc in subst (λ (n : ℕ). P n last) (omega arith) (subst (P number) same p)
  run-keeps number (d ∷ ds) state last p is = by (step number d state) refl (run-keeps (number + 1) ds) is
    where
      by : (next : Option S) → step number d state ≡ next → ((new last : S) → P (number + 1) new → run step (number + 1) ds new ≡ Ok last → P (number + 1 + length ds) last)
          → or_fault number next (λ new. run step (number + 1) ds new) ≡ Ok last → P (number + length (d ∷ ds)) last
      by None none more wrong = absurd (cc)
      by (Some new) made more rest = subst (λ (n : ℕ). P n last) (omega arith) (more new last (keeps number d state new p made) rest)

-- ---- numbers

all-digits : (text : List ℕ) → list_all is_digit text ≡ true → AllDigits 10 text
all-digits [] all = tt
all-digits (c ∷ text) all =
    let parts = and_parts (is_digit c) (list_all is_digit text) all in
    let range = of-digit c parts.0 in
    (omega (arith, digit_value_digit c range, range.1), all-digits text parts.1)

small-number : (text : List ℕ) (n : ℕ) → number_in text ≡ Some n → n < 2 ^ 126
small-number text n is = by (is_numeral text) refl
  where
    by : (test : Bool) → is_numeral text ≡ test → n < 2 ^ 126
    by true numeral =
        let of = of-numeral text numeral in
        let same : digits_value 10 text ≡ n = some-same (digits_value 10 text) n (numeral-is text numeral ∙ is) in
        let most : 10 ^ length text ≤ 10 ^ 32 = pow-le-pow_right {n = 10} (omega arith) {i = length text} {j = 32} of.few in
        let computed : 10 ^ 32 < 2 ^ 126 = omega arith in
        let below = digits_value-lt 10 text (all-digits text of.digits) in
        omega (arith, below, most, computed, same)
    by false none = let wrong : None ≡ Some n = no-numeral text none ∙ is in absurd (cc)

-- ---- bounds

small-bound : (text : List ℕ) (bound : Option ℕ) → bound_in text ≡ Some bound → IsSmall bound
unfolding bound_in
small-bound text bound is = by (bytes_eq text (codes "none")) is
  where
    unreachable : Option ℕ
    unreachable = None

    by : (test : Bool) → (if test then Some None else option_map Some (number_in text)) ≡ Some bound → IsSmall bound
    by true none = subst IsSmall (some-same None bound none) tt
    by false some = let found = some-map Some (number_in text) bound some in subst IsSmall found.1.1 (small-number text found.0 found.1.0)

with-bound-small : (number : ℕ) (d : Data) (list new : List (Option ℕ)) → AllByRecursion IsSmall list → with_bound d list ≡ Some new → AllByRecursion IsSmall new
with-bound-small number d list new small is =
    let found = some-map (λ (bound : Option ℕ). list ++ bound ∷ []) (bound_of d) new is in
    let text = some-then bound_in (as_str d) found.0 found.1.0 in
    subst (AllByRecursion IsSmall) found.1.1 (all-append IsSmall list (found.0 ∷ []) small (small-bound text.0 found.0 text.1.1, tt))

list-small : (ds : List Data) (list : List (Option ℕ)) → list_in ds ≡ Some list → AllByRecursion IsSmall list
list-small ds list is = by (run (λ place. with_bound) 0 ds []) refl is
  where
    by : (ran : Result (List (Option ℕ)) ℕ) → run (λ place. with_bound) 0 ds [] ≡ ran → if_ended ran ≡ Some list → AllByRecursion IsSmall list
    by (Ok state) ran ended = subst (AllByRecursion IsSmall) (some-same state list ended) (run-keeps (λ place. with_bound) (λ number. AllByRecursion IsSmall) with-bound-small 0 ds [] state tt ran)
    by (Err number) ran wrong = absurd (cc)

with-list-small : (number : ℕ) (d : Data) (lists new : List (List (Option ℕ))) → AreSmallNumbers lists → with_list d lists ≡ Some new → AreSmallNumbers new
with-list-small number d lists new small is =
    let found = some-map (λ (list : List (Option ℕ)). lists ++ list ∷ []) (option_and_then list_in (elements_of d)) new is in
    let elements = some-then list_in (elements_of d) found.0 found.1.0 in
    subst AreSmallNumbers found.1.1 (all-append (AllByRecursion IsSmall) lists (found.0 ∷ []) small (list-small elements.0 found.0 elements.1.1, tt))

bounds-small : (ds : List Data) (bounds : Bounds) → bounds_in ds ≡ Ok bounds → AreSmallNumbers bounds.lists
bounds-small ds bounds is = by (run (λ group. with_list) 0 ds []) refl is
  where
    by : (ran : Result (List (List (Option ℕ))) ℕ) → run (λ group. with_list) 0 ds [] ≡ ran → bounds_or_place ran ≡ Ok bounds → AreSmallNumbers bounds.lists
    by (Ok lists) ran ended =
        let same : record { lists = lists } ≡ bounds = cc in
        subst (λ (b : Bounds). AreSmallNumbers b.lists) same (run-keeps (λ group. with_list) (λ number. AreSmallNumbers) with-list-small 0 ds [] lists tt ran)
    by (Err number) ran wrong = absurd (cc)

-- ---- nodes

-- of all plans of a stack
abbrev total : List Entry → ℕ
total [] = 0
total (top ∷ rest) = node_count top.plan + total rest

leaf-count : (group : GroupId) (t : Task) (p : Plan) → leaf_plan group t ≡ Some p → node_count p ≡ 1
leaf-count group (task.Scan prop) p is = ap node_count (sym (some-same (plan.Scan group prop) p is)) ∙ fold-scan count_step group prop
leaf-count group (task.Op prop) p wrong = absurd (cc)
leaf-count group (task.Free to) p wrong = absurd (cc)
leaf-count group (task.Move mv) p wrong = absurd (cc)

only-sum : (n : ℕ) → sum (n ∷ []) ≡ n
only-sum n = let is = sum-cons n [] in omega (arith, is)

both-sum : (m n : ℕ) → sum (m ∷ n ∷ []) ≡ m + n
both-sum m n = let is = sum-cons m (n ∷ []) in let only = only-sum n in omega (arith, is, only)

some-if : {X : Type 0} (test : Bool) (x y : X) → (if test then Some x else None) ≡ Some y → x ≡ y
some-if true x y is = some-same x y is
some-if false x y wrong = absurd (cc)

one-count : (group : GroupId) (t : Task) (of : GroupId) (child p : Plan) → plan_over_one group t of child ≡ Some p → node_count p ≡ suc (node_count child)
one-count group (task.Scan prop) of child p wrong = absurd (cc)
one-count group (task.Op prop) of child p is = ap node_count (sym (some-same (plan.Op group prop (child ∷ [])) p is)) ∙ fold-op count_step group prop (child ∷ []) ∙ ap suc (only-sum (node_count child))
one-count group (task.Free to) of child p is = ap node_count (sym (some-if (group.0 == of.0) (plan.Free to child) p is)) ∙ fold-free count_step to child
one-count group (task.Move mv) of child p is = ap node_count (sym (some-if (group.0 == of.0) (plan.Moved mv child) p is)) ∙ fold-moved count_step mv child

two-count : (group : GroupId) (t : Task) (left right p : Plan) → plan_over_two group t left right ≡ Some p → node_count p ≡ suc (node_count left + node_count right)
two-count group (task.Scan prop) left right p wrong = absurd (cc)
two-count group (task.Op prop) left right p is =
    ap node_count (sym (some-same (plan.Op group prop (left ∷ right ∷ [])) p is)) ∙ fold-op count_step group prop (left ∷ right ∷ []) ∙ ap suc (both-sum (node_count left) (node_count right))
two-count group (task.Free to) left right p wrong = absurd (cc)
two-count group (task.Move mv) left right p wrong = absurd (cc)

some-where : {X : Type 0} (test : Bool) (o : Option X) (y : X) → (if test then o else None) ≡ Some y → o ≡ Some y
some-where true o y is = is
some-where false o y wrong = absurd (cc)

placed-count : (k : Kids) (number : ℕ) (line : Line) (stack new : List Entry) → total stack ≤ number → placed_by k number line stack ≡ Some new → total new ≤ number + 1
placed-count kids.Nobody number line stack new few is =
    let found = some-map (on_top number line.group 1 stack) (leaf_plan line.group line.task) new is in
    let one = leaf-count line.group line.task found.0 found.1.0 in
    subst (λ (s : List Entry). total s ≤ number + 1) found.1.1 (omega (arith, one, few))
placed-count (kids.One only) number line [] new few wrong = absurd (cc)
placed-count (kids.One only) number line (child ∷ rest) new few is =
    let made = some-where ((child.number == only) && nat_lt child.height 4096) (option_map (on_top number line.group (child.height + 1) rest) (plan_over_one line.group line.task child.group child.plan)) new is in
    let found = some-map (on_top number line.group (child.height + 1) rest) (plan_over_one line.group line.task child.group child.plan) new made in
    let count = one-count line.group line.task child.group child.plan found.0 found.1.0 in
    subst (λ (s : List Entry). total s ≤ number + 1) found.1.1 (omega (arith, count, few))
placed-count (kids.Two first second) number line [] new few wrong = absurd (cc)
placed-count (kids.Two first second) number line (right ∷ []) new few wrong = absurd (cc)
placed-count (kids.Two first second) number line (right ∷ left ∷ rest) new few is =
    let top = on_top number line.group (max left.height right.height + 1) rest in
    let over = plan_over_two line.group line.task left.plan right.plan in
    let made = some-where ((left.number == first) && (right.number == second) && nat_lt (max left.height right.height) 4096) (option_map top over) new is in
    let found = some-map top over new made in
    let count = two-count line.group line.task left.plan right.plan found.0 found.1.0 in
    subst (λ (s : List Entry). total s ≤ number + 1) found.1.1 (omega (arith, count, few))

added-count : (number : ℕ) (d : Data) (stack new : List Entry) → total stack ≤ number → added number d stack ≡ Some new → total new ≤ number + 1
added-count number d stack new few is = let found = some-then (λ (line : Line). placed number line stack) (line_in d) new is in placed-count found.0.kids number found.0 stack new few found.1.1

root-count : (nodes : ℕ) (stack : List Entry) (p : Plan) → root_of nodes stack ≡ Ok p → node_count p ≤ total stack
root-count nodes [] p wrong = absurd (cc)
root-count nodes (root ∷ []) p is = let same : root.plan ≡ p = cc in subst (λ (q : Plan). node_count q ≤ total (root ∷ [])) same (omega arith)
root-count nodes (top ∷ next ∷ more) p wrong = absurd (cc)

plan-count : (ds : List Data) (p : Plan) → plan_in ds ≡ Ok p → node_count p ≤ length ds
plan-count ds p is = by (run added 0 ds []) refl is
  where
    by : (ran : Result (List Entry) ℕ) → run added 0 ds [] ≡ ran → root_or_place (length ds) ran ≡ Ok p → node_count p ≤ length ds
    by (Ok stack) ran root =
        let few = run-keeps added (λ number stack. total stack ≤ number) added-count 0 ds [] stack (omega arith) ran in
        let count = root-count (length ds) stack p root in
        omega (arith, few, count)
    by (Err number) ran wrong = absurd (cc)

-- ---- the whole

pub record Fits (file : PlanFile) : Type 0 where
  pub few : node_count file.plan ≤ 16384
  pub small : AreSmallNumbers file.bounds.lists

module _ (file : PlanFile) where
  bounds-fit : (cost : ℕ) (ds : List Data) (p : Plan) → node_count p ≤ 16384 → with_bounds cost p (bounds_in ds) ≡ Ok file → Fits file
  bounds-fit cost ds p few is = by (bounds_in ds) refl is
    where
      by : (bounds : Result Bounds Place) → bounds_in ds ≡ bounds → with_bounds cost p bounds ≡ Ok file → Fits file
      by (Ok bounds) found made =
          let same : record { plan = p; bounds = bounds; cost = cost } ≡ file = cc in
          subst Fits same (record { few = few; small = bounds-small ds bounds found })
      by (Err place) found wrong = absurd (cc)

  plan-fits : (cost : ℕ) (nodes bounds : List Data) → length nodes ≤ 16384 → with_plan cost bounds (plan_in nodes) ≡ Ok file → Fits file
  plan-fits cost nodes bounds few is = by (plan_in nodes) refl is
    where
      by : (p : Result Plan Place) → plan_in nodes ≡ p → with_plan cost bounds p ≡ Ok file → Fits file
      by (Ok p) found made = let count = plan-count nodes p found in bounds-fit cost bounds p (omega (arith, count, few)) made
      by (Err place) found wrong = absurd (cc)

  parts-fit : (cost : Option ℕ) (nodes bounds : Option (List Data)) → described_parts cost nodes bounds ≡ Ok file → Fits file
  parts-fit None nodes bounds wrong = absurd (cc)
  parts-fit (Some cost) None bounds wrong = absurd (cc)
  parts-fit (Some cost) (Some nodes) None wrong = absurd (cc)
  parts-fit (Some cost) (Some nodes) (Some bounds) is = by (is_number_of_nodes (length nodes)) refl is
    where
      by : (test : Bool) → is_number_of_nodes (length nodes) ≡ test → (if test then with_plan cost bounds (plan_in nodes) else Err Top) ≡ Ok file → Fits file
      by true fits made = plan-fits cost nodes bounds (leb-true (length nodes) 16384 (and_parts (nat_lt 0 (length nodes)) (nat_le (length nodes) 16384) fits).1) made
      by false fits wrong = absurd (cc)

  pub described-fits : (d : Data) → described d ≡ Ok file → Fits file
  described-fits d is = by (has_head d) is
    where
      by : (test : Bool) → (if test then described_parts (cost_at d) (list_at (codes "nodes") d) (list_at (codes "bounds") d) else Err Top) ≡ Ok file → Fits file
      by true made = parts-fit (cost_at d) (list_at (codes "nodes") d) (list_at (codes "bounds") d) made
      by false wrong = absurd (cc)
