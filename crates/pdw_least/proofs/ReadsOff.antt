-- A plan that is read off a log has short runs: an entry costs less than the log before it says of what it makes, so what is
-- read off there does not make the same.
use Rattle.std.proofs.Common.{◌≡◌, ◌≤◌, ◌+◌, ℕ, Bool, true, false, List, [], ◌∷◌, take, Option, Some, None, Result, IfOk, refl, sym, ap, subst, ◌∙◌, arith}
use Rattle.std.proofs.lemmas.Bool.{and_parts}
use Rattle.std.proofs.lemmas.Result.{IfOk-weaker}
use Rattle.std.specs.List.{AllByRecursion}
use Rattle.pdw_groups.specs.declared.group.Group.{Group}
use Rattle.pdw_groups.specs.declared.key.GroupId.{GroupId}
use Rattle.pdw_move.specs.Move.{property_after, property_before}
use Rattle.pdw_move.specs.declared.kinds.Move.{Move}
use Rattle.pdw_move.specs.declared.kinds.Prop.{Prop}
use Rattle.pdw_rules.specs.Rules.{is_same}
use Rattle.pdw_ways.proofs.Numbers.{at_most-trans}
use Rattle.pdw_ways.proofs.Same.{same-alike}
use Rattle.pdw_ways.specs.Bounds.{AtMost, Bound, cost_of_plan, plus}
use Rattle.pdw_ways.specs.Ways.{Costs, is_moved}
use Rattle.pdw_ways.specs.declared.made.Made.{Made}
use Rattle.pdw_ways.specs.declared.plan.Plan.{Plan}
use Rattle.pdw_ways.specs.declared.plan.Plan.TheVariants as plan
use Rattle.pdw_ways.specs.declared.way.Way.{Way}
use Rattle.pdw_ways.specs.declared.way.Way.TheVariants as way
use Rattle.pdw_least.proofs.Builds.{built-freed, built-moved, built-one, built-scan, built-two}
use Rattle.pdw_least.proofs.Logs.{one-part}
use Rattle.pdw_least.proofs.RunFolds.{runs-free, runs-moved, runs-op, runs-scan, short-free, short-moved, short-op, short-scan}
use Rattle.pdw_least.proofs.Steps.{here}
use Rattle.pdw_least.specs.Built.{IsBuilt, IsLast, IsReadOff}
use Rattle.pdw_least.specs.Log.{IsBelow, bounds_after}
use Rattle.pdw_least.specs.Runs.{Runs, runs_in}
use Rattle.pdw_least.specs.declared.entry.Entry.{Entry}

abbrev pub IsRunUnder : Bound → GroupId → ℕ → List Prop → Type 0
IsRunUnder bound group cost run = AllByRecursion (λ (p : Prop). AtMost (bound (here group p)) (Some cost)) run

-- where the bounds fall and the cost rises, they are still at most the cost
run-rises : (old new : Bound) (group : GroupId) (cost more : ℕ) → ((other : Made) → AtMost (new other) (old other)) → cost ≤ more → (run : List Prop) → IsRunUnder old group cost run → IsRunUnder new group more run
run-rises old new group cost more falls rises [] under = tt
run-rises old new group cost more falls rises (p ∷ run) under =
    (at_most-trans (new (here group p)) (old (here group p)) (Some more) (falls (here group p)) (higher (old (here group p)) under.0), run-rises old new group cost more falls rises run under.1)
  where
    higher : (bound : Option ℕ) → AtMost bound (Some cost) → AtMost bound (Some more)
    higher None under = absurd under
    higher (Some b) under = omega arith

-- what costs more than a bound is not below it
not-below : (cost more : ℕ) (bound : Option ℕ) → cost ≤ more → AtMost bound (Some cost) → IsBelow more bound → ⊥
not-below cost more None rises under below = under
not-below cost more (Some bound) rises under below = omega arith

-- so a property that is below what the log says of it is not in the run
run-other : (bound : Bound) (group : GroupId) (cost more : ℕ) (p : Prop) → cost ≤ more → IsBelow more (bound (here group p)) → (run : List Prop) → IsRunUnder bound group cost run → AllByRecursion (λ (q : Prop). is_same p q ≡ false) run
run-other bound group cost more p rises below [] under = tt
run-other bound group cost more p rises below (q ∷ run) under = (by (is_same p q) refl, run-other bound group cost more p rises below run under.1)
  where
    by : (test : Bool) → is_same p q ≡ test → test ≡ false
    by true same = absurd (not-below cost more (bound (here group q)) rises under.0 (subst (λ (r : Prop). IsBelow more (bound (here group r))) (same-alike p q same) below))
    by false other = refl

module _ (groups : List Group) (costs : Costs) (log : List Entry) (made : Made) (number : ℕ) where
  abbrev front : List Entry
  front = take number log

  abbrev Last : Way → Type 0
  Last = IsLast groups costs log made number

  abbrev total_of : Plan → ℕ
  total_of = cost_of_plan groups costs

  abbrev ReadOff : List Entry → Plan → Made → Type 0
  ReadOff = IsReadOff groups costs

  built-under : (tree : Plan) (m : Made) (bound : Option ℕ) → IsBuilt groups costs tree m bound → AtMost bound (Some (total_of tree))
  built-under tree m None built = absurd built
  built-under tree m (Some cost) built = omega (arith, built.1)

  built-total : (tree : Plan) (m : Made) (bound : Option ℕ) (cost : ℕ) → bound ≡ Some cost → IsBuilt groups costs tree m bound → total_of tree ≡ cost
  built-total tree m bound cost is built = (let there : IsBuilt groups costs tree m (Some cost) = subst (IsBuilt groups costs tree m) is built in there.1)

  -- an operator starts a run
  alone : (tree : Plan) → IsBuilt groups costs tree made (bounds_after log made) → (runs : Runs) → runs_in tree ≡ runs → runs.top ≡ made.prop ∷ [] → IsRunUnder (bounds_after log) made.group (total_of tree) (runs_in tree).top
  alone tree built runs is top =
      subst (IsRunUnder (bounds_after log) made.group (total_of tree)) (sym (ap (λ (r : Runs). r.top) is ∙ top)) (built-under tree made (bounds_after log made) built, tt)

  pub read-scan : Last way.Scan → ReadOff log (plan.Scan made.group made.prop) made
  read-scan last =
      let built = built-scan groups costs log made number last in
      record {
        built = built;
        runs = short-scan made.group made.prop;
        under = alone (plan.Scan made.group made.prop) built _ (runs-scan made.group made.prop) refl;
      }

  pub read-one : (child : Made) → Last (way.One child) → (tree : Plan) → ReadOff front tree child → ReadOff log (plan.Op made.group made.prop (tree ∷ [])) made
  read-one child last tree read =
      let built = built-one groups costs log made number child last tree read.built in
      record {
        built = built;
        runs = short-op made.group made.prop (tree ∷ []) (read.runs, tt);
        under = alone (plan.Op made.group made.prop (tree ∷ [])) built _ (runs-op made.group made.prop (tree ∷ [])) refl;
      }

  pub read-two : (left right : Made) → Last (way.Two left right) → (first second : Plan) → ReadOff front first left → ReadOff front second right → ReadOff log (plan.Op made.group made.prop (first ∷ second ∷ [])) made
  read-two left right last first second read also =
      let built = built-two groups costs log made number left right last first second read.built also.built in
      record {
        built = built;
        runs = short-op made.group made.prop (first ∷ second ∷ []) (read.runs, (also.runs, tt));
        under = alone (plan.Op made.group made.prop (first ∷ second ∷ [])) built _ (runs-op made.group made.prop (first ∷ second ∷ [])) refl;
      }

  -- what a node within the group stands on costs no more than it
  inner-total : (p : Prop) (adds cost : ℕ) → plus (plus (bounds_after front (here made.group p)) (Some 0)) (Some adds) ≡ Some cost
      → (tree : Plan) → IsBuilt groups costs tree (here made.group p) (bounds_after front (here made.group p)) → total_of tree ≤ cost
  inner-total p adds cost sum tree built =
      let from = here made.group p in
      let part = one-part (bounds_after front from) adds cost sum in
      let total : total_of tree ≡ part.0 = built-total tree from (bounds_after front from) part.0 part.1.0 built in
      let adds_up : part.0 + adds ≡ cost = part.1.1 in
      omega arith

  -- a run that goes on
  grown : (tree node : Plan) (p : Prop) (rest : List Prop) → total_of tree ≤ total_of node → IsRunUnder (bounds_after front) made.group (total_of tree) rest → ((other : Made) → AtMost (bounds_after log other) (bounds_after front other))
      → p ≡ made.prop → IsBuilt groups costs node made (bounds_after log made) → (runs : Runs) → runs_in node ≡ runs → runs.top ≡ p ∷ rest → IsRunUnder (bounds_after log) made.group (total_of node) (runs_in node).top
  grown tree node p rest rises under falls same built runs is top =
      subst (IsRunUnder (bounds_after log) made.group (total_of node)) (sym (ap (λ (r : Runs). r.top) is ∙ top)) (
        subst (λ (q : Prop). AtMost (bounds_after log (here made.group q)) (Some (total_of node))) (sym same) (built-under node made (bounds_after log made) built),
        run-rises (bounds_after front) (bounds_after log) made.group (total_of tree) (total_of node) falls rises rest under,
      )

  pub read-moved : (mv : Move) → Last (way.Moved mv) → (tree : Plan) → ReadOff front tree (here made.group (property_before mv)) → ReadOff log (plan.Moved mv tree) made
  read-moved mv last tree read =
      let built = built-moved groups costs log made number mv last tree read.built in
      let total : total_of (plan.Moved mv tree) ≡ last.cost = built-total (plan.Moved mv tree) made (bounds_after log made) last.cost last.found built in
      let less = inner-total (property_before mv) (costs made.group mv) last.cost last.entry.total tree read.built in
      let rises : total_of tree ≤ total_of (plan.Moved mv tree) = omega arith in
      let after : property_after mv ≡ made.prop = same-alike (property_after mv) made.prop ((and_parts (is_same (property_after mv) made.prop) (is_moved last.entry.group mv (property_before mv)) last.entry.allowed).0) in
      let below : IsBelow last.cost (bounds_after front (here made.group (property_after mv))) = subst (λ (q : Prop). IsBelow last.cost (bounds_after front (here made.group q))) (sym after) last.below in
      record {
        built = built;
        runs = short-moved mv tree read.runs (run-other (bounds_after front) made.group (total_of tree) last.cost (property_after mv) less below (runs_in tree).top read.under);
        under = grown tree (plan.Moved mv tree) (property_after mv) (runs_in tree).top rises read.under last.falls after built _ (runs-moved mv tree) refl;
      }

  pub read-freed : (before : Prop) → Last (way.Free before) → (tree : Plan) → ReadOff front tree (here made.group before) → ReadOff log (plan.Free made.prop tree) made
  read-freed before last tree read =
      let built = built-freed groups costs log made number before last tree read.built in
      let total : total_of (plan.Free made.prop tree) ≡ last.cost = built-total (plan.Free made.prop tree) made (bounds_after log made) last.cost last.found built in
      let less = inner-total before 0 last.cost last.entry.total tree read.built in
      let rises : total_of tree ≤ total_of (plan.Free made.prop tree) = omega arith in
      record {
        built = built;
        runs = short-free made.prop tree read.runs (run-other (bounds_after front) made.group (total_of tree) last.cost made.prop less last.below (runs_in tree).top read.under);
        under = grown tree (plan.Free made.prop tree) made.prop (runs_in tree).top rises read.under last.falls refl built _ (runs-free made.prop tree) refl;
      }

-- what a call gives is such a plan, where it is that tree
pub read-as : {E : Type 0} (groups : List Group) (costs : Costs) (log : List Entry) (made : Made) (tree : Plan) → IsReadOff groups costs log tree made → (result : Result Plan E) → IfOk result (λ (p : Plan). p ≡ tree) → IfOk result (λ (p : Plan). IsReadOff groups costs log p made)
read-as groups costs log made tree read result is =
    IfOk-weaker result (λ (p : Plan). p ≡ tree) (λ (p : Plan). IsReadOff groups costs log p made) (λ p same. subst (λ (q : Plan). IsReadOff groups costs log q made) (sym same) read) is
