-- Each bound of a log is what a plan costs: the plan is read off entry by entry.
use Rattle.std.proofs.Common.{◌≡◌, ◌==◌, ◌+◌, ℕ, Bool, true, false, List, [], ◌∷◌, ◌++◌, Option, Some, None, refl, sym, ap, subst, ◌∙◌, arith, if◌then◌else◌}
use Rattle.std.proofs.lemmas.Bool.{and_parts}
use Rattle.std.proofs.lemmas.List.Sums.{fold-append}
use Rattle.pdw_groups.specs.declared.group.Group.{Group}
use Rattle.pdw_groups.specs.declared.key.GroupId.{GroupId}
use Rattle.pdw_move.specs.Move.{property_before}
use Rattle.pdw_move.specs.declared.kinds.Prop.{Prop}
use Rattle.pdw_rules.specs.Rules.{is_same}
use Rattle.pdw_ways.proofs.Numbers.{at_most-refl, at_most-trans}
use Rattle.pdw_ways.proofs.Same.{group-alike, same-alike}
use Rattle.pdw_ways.specs.Bounds.{AtMost, Bound, plus}
use Rattle.pdw_ways.specs.Shape.{HasPlan}
use Rattle.pdw_ways.specs.Ways.{Costs}
use Rattle.pdw_ways.specs.declared.made.Made.{Made}
use Rattle.pdw_ways.specs.declared.plan.Plan.{Plan}
use Rattle.pdw_ways.specs.declared.plan.Plan.TheVariants as plan
use Rattle.pdw_ways.specs.declared.way.Way.{Way}
use Rattle.pdw_ways.specs.declared.way.Way.TheVariants as way
use Rattle.pdw_least.proofs.Nodes.{Makes, freed-makes, moved-makes, one-makes, scan-makes, two-makes}
use Rattle.pdw_least.specs.Log.{IsBelow, IsEntry, IsLog, IsLogFrom, bounds_after, bounds_from, is_same_made, none_before, put}
use Rattle.pdw_least.specs.declared.entry.Entry.{Entry}

pub made-alike : (first second : Made) → is_same_made first second ≡ true → first ≡ second
made-alike first second is =
    let parts = and_parts (first.group.0 == second.group.0) (is_same first.prop second.prop) is in
    ap (λ (g : GroupId). let m : Made = record { group = g; prop = first.prop } in m) (group-alike first.group second.group parts.0)
    ∙ ap (λ (p : Prop). let m : Made = record { group = second.group; prop = p } in m) (same-alike first.prop second.prop parts.1)

-- ---- sums, taken apart

pub one-part : (b : Option ℕ) (adds cost : ℕ) → plus (plus b (Some 0)) (Some adds) ≡ Some cost → (n : ℕ) × ((b ≡ Some n) × (n + adds ≡ cost))
one-part None adds cost is = absurd (cc)
one-part (Some b) adds cost is = (b, (refl, (let same : b + 0 + adds ≡ cost = cc in omega arith)))

pub two-parts : (b c : Option ℕ) (cost : ℕ) → plus (plus b (plus c (Some 0))) (Some 0) ≡ Some cost → (n : ℕ) × (m : ℕ) × ((b ≡ Some n) × (c ≡ Some m) × (n + m ≡ cost))
two-parts None c cost is = absurd (cc)
two-parts (Some b) None cost is = absurd (cc)
two-parts (Some b) (Some c) cost is = (b, c, (refl, refl, (let same : b + (c + 0) + 0 ≡ cost = cc in omega arith)))

module _ (groups : List Group) (costs : Costs) where
  abbrev pub HavePlans : Bound → Type 0
  HavePlans bound = (made : Made) (cost : ℕ) → bound made ≡ Some cost → HasPlan groups costs made cost

  makes-of : (made : Made) (cost : ℕ) (has : HasPlan groups costs made cost) → Makes groups costs has.tree made cost
  makes-of made cost has = record { is = has.is; total = has.total }

  has-of : (tree : Plan) (made : Made) (cost other : ℕ) → cost ≡ other → Makes groups costs tree made cost → HasPlan groups costs made other
  has-of tree made cost other same makes = record { tree = tree; is = makes.is; total = makes.total ∙ same }

  -- an entry has a plan where the bounds before it have
  entry-plan : (bound : Bound) → HavePlans bound → (made : Made) (w : Way) (cost : ℕ) (is : IsEntry groups costs bound (record { made = made; way = w; cost = cost })) → HasPlan groups costs made cost
  entry-plan bound plans made way.Scan cost is =
      let same : 0 + 0 ≡ cost = (let total : Some (0 + 0) ≡ Some cost = is.total in cc) in
      has-of (plan.Scan made.group made.prop) made 0 cost (omega arith) (scan-makes groups costs made.group is.group is.there made.prop is.allowed)
  entry-plan bound plans made (way.One child) cost is =
      let part = one-part (bound child) 0 cost is.total in
      let below = plans child part.0 part.1.0 in
      let same : part.0 + 0 ≡ cost = part.1.1 in
      has-of (plan.Op made.group made.prop (below.tree ∷ [])) made part.0 cost (omega arith) (one-makes groups costs made.group is.group is.there made.prop child below.tree part.0 is.allowed (makes-of child part.0 below))
  entry-plan bound plans made (way.Two left right) cost is =
      let parts = two-parts (bound left) (bound right) cost is.total in
      let below = plans left parts.0 parts.2.0 in
      let beside = plans right parts.1 parts.2.1 in
      has-of (plan.Op made.group made.prop (below.tree ∷ beside.tree ∷ [])) made (parts.0 + parts.1) cost parts.2.2
      (two-makes groups costs made.group is.group is.there made.prop left right below.tree beside.tree parts.0 parts.1 is.allowed (makes-of left parts.0 below) (makes-of right parts.1 beside))
  entry-plan bound plans made (way.Moved mv) cost is =
      let from : Made = record { group = made.group; prop = property_before mv } in
      let part = one-part (bound from) (costs made.group mv) cost is.total in
      let below = plans from part.0 part.1.0 in
      has-of (plan.Moved mv below.tree) made (part.0 + costs made.group mv) cost part.1.1 (moved-makes groups costs made.group is.group is.there made.prop mv below.tree part.0 is.allowed (makes-of from part.0 below))
  entry-plan bound plans made (way.Free before) cost is =
      let from : Made = record { group = made.group; prop = before } in
      let part = one-part (bound from) 0 cost is.total in
      let below = plans from part.0 part.1.0 in
      let same : part.0 + 0 ≡ cost = part.1.1 in
      has-of (plan.Free made.prop below.tree) made part.0 cost (omega arith) (freed-makes groups costs made.group is.group is.there made.prop before below.tree part.0 is.allowed (makes-of from part.0 below))

  put-plans : (bound : Bound) (entry : Entry) → HavePlans bound → IsEntry groups costs bound entry → HavePlans (put bound entry)
  put-plans bound entry plans is made cost there = by (is_same_made entry.made made) refl there
    where
      by : (test : Bool) → is_same_made entry.made made ≡ test → (if test then Some entry.cost else bound made) ≡ Some cost → HasPlan groups costs made cost
      by true same there =
          let costs_it : entry.cost ≡ cost = cc in
          subst (λ (m : Made). HasPlan groups costs m cost) (made-alike entry.made made same) (subst (λ (n : ℕ). HasPlan groups costs entry.made n) costs_it (entry-plan bound plans entry.made entry.way entry.cost is))
      by false other there = plans made cost there

  plans-from : (bound : Bound) (log : List Entry) → HavePlans bound → IsLogFrom groups costs bound log → HavePlans (bounds_from bound log)
  plans-from bound [] plans is = plans
  plans-from bound (entry ∷ log) plans is = plans-from (put bound entry) log (put-plans bound entry plans is.0) is.2

  pub log-plans : (log : List Entry) → IsLog groups costs log → HavePlans (bounds_after log)
  log-plans log is = plans-from none_before log (λ made cost none. absurd (cc)) is

  -- ---- one more entry

  pub log-more : (bound : Bound) (log : List Entry) (entry : Entry) → IsLogFrom groups costs bound log → IsEntry groups costs (bounds_from bound log) entry → IsBelow entry.cost (bounds_from bound log entry.made) → IsLogFrom groups costs bound (log ++ entry ∷ [])
  log-more bound [] entry is next below = (next, below, tt)
  log-more bound (first ∷ log) entry is next below = (is.0, is.1, log-more (put bound first) log entry is.2 next below)

  -- the part of a log before an entry, and the entry
  pub log-front : (bound : Bound) (front back : List Entry) → IsLogFrom groups costs bound (front ++ back) → IsLogFrom groups costs bound front × IsLogFrom groups costs (bounds_from bound front) back
  log-front bound [] back is = (tt, is)
  log-front bound (entry ∷ front) back is =
      let rest = log-front (put bound entry) front back is.2 in
      ((is.0, is.1, rest.0), rest.1)

-- ---- bounds only fall

below-at_most : (cost : ℕ) (bound : Option ℕ) → IsBelow cost bound → AtMost (Some cost) bound
below-at_most cost None below = tt
below-at_most cost (Some bound) below = omega arith

put-at_most : (bound : Bound) (entry : Entry) → IsBelow entry.cost (bound entry.made) → (made : Made) → AtMost (put bound entry made) (bound made)
put-at_most bound entry below made = by (is_same_made entry.made made) refl
  where
    by : (test : Bool) → is_same_made entry.made made ≡ test → AtMost (if test then Some entry.cost else bound made) (bound made)
    by true same = subst (λ (m : Made). AtMost (Some entry.cost) (bound m)) (made-alike entry.made made same) (below-at_most entry.cost (bound entry.made) below)
    by false other = at_most-refl (bound made)

module _ (groups : List Group) (costs : Costs) where
  bounds-fall : (bound : Bound) (log : List Entry) → IsLogFrom groups costs bound log → (made : Made) → AtMost (bounds_from bound log made) (bound made)
  bounds-fall bound [] is made = at_most-refl (bound made)
  bounds-fall bound (entry ∷ log) is made =
      at_most-trans (bounds_from (put bound entry) log made) (put bound entry made) (bound made) (bounds-fall (put bound entry) log is.2 made) (put-at_most bound entry is.1 made)

  -- bounds after a log are at most those after its front
  pub bounds-longer : (front back : List Entry) → IsLog groups costs (front ++ back) → (made : Made) → AtMost (bounds_after (front ++ back) made) (bounds_after front made)
  bounds-longer front back is made =
      subst (λ (bound : Bound). AtMost (bound made) (bounds_after front made)) (sym (fold-append put none_before front back))
      (bounds-fall (bounds_after front) back (log-front groups costs none_before front back is).1 made)
