-- What operators make costs at most their limit, by the weights of groups; moves and free changes go a little beyond.
use Rattle.std.proofs.Common.{◌≡◌, ◌==◌, ◌≤◌, ◌<◌, ◌+◌, ◌*◌, ℕ, suc, Bool, true, false, true≢false, ◌⊎◌, inl, inr, List, [], ◌∷◌, fold, Option, Some, None, refl, sym, ap, ap₂, subst, ◌∙◌, arith, if◌then◌else◌}
use Rattle.std.proofs.lemmas.Bool.{and_parts, or_cases, ltb-true, ne_eqb}
use Rattle.std.specs.List.{AllByRecursion, list_any, slice_get, sum_by}
use Rattle.pdw_groups.specs.declared.group.Expr.{Expr}
use Rattle.pdw_groups.specs.declared.group.Group.{Group}
use Rattle.pdw_groups.specs.declared.key.GroupId.{GroupId}
use Rattle.pdw_move.specs.Move.{property_before}
use Rattle.pdw_move.specs.declared.kinds.Move.{Move}
use Rattle.pdw_move.specs.declared.kinds.Move.TheVariants as move
use Rattle.pdw_move.specs.declared.kinds.Prop.{Prop}
use Rattle.pdw_move.specs.declared.kinds.Prop.TheVariants as prop
use Rattle.pdw_rules.specs.Rules.{is_free, is_same, may_have}
use Rattle.pdw_ways.proofs.Same.{group-alike, never, same-alike}
use Rattle.pdw_ways.specs.Bounds.{Bound, plus, sum_of}
use Rattle.pdw_ways.specs.Costing.{most_of_a_move}
use Rattle.pdw_ways.specs.Offers.{IsInnerWay, IsLocalWay}
use Rattle.pdw_ways.specs.Ways.{Costs, are_groups_of, operates}
use Rattle.pdw_ways.specs.declared.made.Made.{Made}
use Rattle.pdw_ways.specs.declared.way.Way.{Way}
use Rattle.pdw_ways.specs.declared.way.Way.TheVariants as way
use Rattle.pdw_least.proofs.Logs.{one-part, two-parts}
use Rattle.pdw_least.specs.Premises.{AreLight, AreOrdered, AreWithin, IsWithin, limit_of, limit_of_operators}
use Rattle.pdw_least.specs.States.{HasRoom, beyond, is_lower, one, reached}

-- a group of a smaller number is another
pub smaller-other : (m : Made) (number : GroupId) → m.group.0 < number.0 → (m.group.0 == number.0) ≡ false
smaller-other m number small = ne_eqb m.group.0 number.0 (λ same. absurd (let wrong : m.group.0 < m.group.0 = subst (λ (n : ℕ). m.group.0 < n) (sym same) small in omega arith))

-- ---- children of an expression

groups-smaller : (limit : ℕ) (below : List Made) (children : List GroupId) → are_groups_of below children ≡ true → AllByRecursion (λ (child : GroupId). child.0 < limit) children → AllByRecursion (λ (m : Made). m.group.0 < limit) below
groups-smaller limit [] children is small = tt
groups-smaller limit (m ∷ below) [] is small = never is
groups-smaller limit (m ∷ below) (child ∷ children) is small =
    let parts = and_parts (m.group.0 == child.0) (are_groups_of below children) is in
    (subst (λ (g : GroupId). g.0 < limit) (sym (group-alike m.group child parts.0)) small.0, groups-smaller limit below children parts.1 small.1)

groups-weigh : (weight : ℕ → ℕ) (start : ℕ) (below : List Made) (children : List GroupId) → are_groups_of below children ≡ true
    → fold (λ a (child : GroupId). a + weight child.0) start children ≡ fold (λ a (m : Made). a + weight m.group.0) start below
groups-weigh weight start [] [] is = refl
groups-weigh weight start [] (child ∷ children) is = never is
groups-weigh weight start (m ∷ below) [] is = never is
groups-weigh weight start (m ∷ below) (child ∷ children) is =
    let parts = and_parts (m.group.0 == child.0) (are_groups_of below children) is in
    groups-weigh weight (start + weight child.0) below children parts.1
    ∙ ap (λ (n : ℕ). fold (λ a (m : Made). a + weight m.group.0) (start + n) below) (ap (λ (g : GroupId). weight g.0) (sym (group-alike m.group child parts.0)))

-- what holds of each expression holds of the one that operates
operating : (P : Expr → Type 0) (first : Made) (below : List Made) (p : Prop) (exprs : List Expr) → AllByRecursion P exprs → list_any (operates (first ∷ below) p) exprs ≡ true → (expr : Expr) × ((are_groups_of (first ∷ below) expr.children ≡ true) × P expr)
operating P first below p [] all is = never is
operating P first below p (expr ∷ exprs) all is = by (or_cases (operates (first ∷ below) p expr) (list_any (operates (first ∷ below) p) exprs) is) (operating P first below p exprs all.1)
  where
    by : ((operates (first ∷ below) p expr ≡ true) ⊎ (list_any (operates (first ∷ below) p) exprs ≡ true)) → (list_any (operates (first ∷ below) p) exprs ≡ true → (expr : Expr) × ((are_groups_of (first ∷ below) expr.children ≡ true) × P expr)) → (expr : Expr) × ((are_groups_of (first ∷ below) expr.children ≡ true) × P expr)
    by (inl here) rest = (expr, ((and_parts (are_groups_of (first ∷ below) expr.children) _ here).0, all.0))
    by (inr there) rest = rest there

module _ (groups : List Group) (costs : Costs) (number : GroupId) (group : Group) (there : slice_get groups number.0 ≡ Some group) (p : Prop) where
  children-smaller : AreOrdered groups → (first : Made) (below : List Made) → list_any (operates (first ∷ below) p) group.exprs ≡ true → AllByRecursion (λ (m : Made). m.group.0 < number.0) (first ∷ below)
  children-smaller ordered first below is =
      let found = operating (λ (expr : Expr). AllByRecursion (λ (child : GroupId). child.0 < number.0) expr.children) first below p group.exprs (ordered number.0 group there) is in
      groups-smaller number.0 (first ∷ below) found.0.children found.1.0 found.1.1

  pub children-lighter : (light : AreLight groups) (first : Made) (below : List Made) → list_any (operates (first ∷ below) p) group.exprs ≡ true → suc (sum_by (λ (m : Made). light.weight m.group.0) (first ∷ below)) ≤ light.weight number.0
  children-lighter light first below is =
      let found = operating (λ (expr : Expr). suc (sum_by (λ (child : GroupId). light.weight child.0) expr.children) ≤ light.weight number.0) first below p group.exprs (light.over number.0 group there) is in
      subst (λ (n : ℕ). suc n ≤ light.weight number.0) (groups-weigh light.weight 0 (first ∷ below) found.0.children found.1.0) found.1.1

  -- operators have the same sum by bounds that agree on the groups before
  pub local-sums : AreOrdered groups → (bound after : Bound) → ((made : Made) → made.group.0 < number.0 → bound made ≡ after made) → (w : Way) → IsLocalWay group p w → sum_of costs bound number w ≡ sum_of costs after number w
  local-sums ordered bound after same way.Scan is = refl
  local-sums ordered bound after same (way.One child) is =
      let small = children-smaller ordered child [] ((and_parts (may_have group.interesting p) _ is.1).1) in
      ap (λ (b : Option ℕ). plus (plus b (Some 0)) (Some 0)) (same child small.0)
  local-sums ordered bound after same (way.Two left right) is =
      let small = children-smaller ordered left (right ∷ []) ((and_parts (may_have group.interesting p) _ is.1).1) in
      ap₂ (λ (b c : Option ℕ). plus (plus b (plus c (Some 0))) (Some 0)) (same left small.0) (same right small.1.0)
  local-sums ordered bound after same (way.Moved mv) is = never is.0
  local-sums ordered bound after same (way.Free before) is = never is.0

  within-of : (limit : ℕ) (bound : Option ℕ) (n : ℕ) → bound ≡ Some n → IsWithin limit bound → n ≤ limit
  within-of limit bound n is within = let inside : IsWithin limit (Some n) = subst (IsWithin limit) is within in inside

  pub local-limit : (light : AreLight groups) (bound : Bound) → AreWithin groups bound → (w : Way) (cost : ℕ) → IsLocalWay group p w → sum_of costs bound number w ≡ Some cost → cost ≤ limit_of_operators (light.weight number.0)
  local-limit light bound within way.Scan cost is total = let same : 0 + 0 ≡ cost = (let sum : Some (0 + 0) ≡ Some cost = total in cc) in omega arith
  local-limit light bound within (way.One child) cost is total =
      let lighter : suc (0 + light.weight child.group.0) ≤ light.weight number.0 = children-lighter light child [] ((and_parts (may_have group.interesting p) _ is.1).1) in
      let part = one-part (bound child) 0 cost total in
      let below : part.0 ≤ limit_of (light.weight child.group.0) = within-of (limit_of (light.weight child.group.0)) (bound child) part.0 part.1.0 (within light child) in
      let same : part.0 + 0 ≡ cost = part.1.1 in
      omega arith
  local-limit light bound within (way.Two left right) cost is total =
      let lighter : suc (0 + light.weight left.group.0 + light.weight right.group.0) ≤ light.weight number.0 = children-lighter light left (right ∷ []) ((and_parts (may_have group.interesting p) _ is.1).1) in
      let parts = two-parts (bound left) (bound right) cost total in
      let first : parts.0 ≤ limit_of (light.weight left.group.0) = within-of (limit_of (light.weight left.group.0)) (bound left) parts.0 parts.2.0 (within light left) in
      let second : parts.1 ≤ limit_of (light.weight right.group.0) = within-of (limit_of (light.weight right.group.0)) (bound right) parts.1 parts.2.1 (within light right) in
      let same : parts.0 + parts.1 ≡ cost = parts.2.2 in
      omega arith
  local-limit light bound within (way.Moved mv) cost is total = never is.0
  local-limit light bound within (way.Free before) cost is total = never is.0

-- ---- moves and free changes

-- where rows come from: moves start from a property that is counted, and a free change from a hash gives one that is
pub record IsFrom (v : Prop → Option ℕ) (p : Prop) (cost : ℕ) : Type 0 where
  pub source : Prop
  pub bound : ℕ
  pub found : v source ≡ Some bound
  pub over : ((beyond source ≡ 0) × (cost ≤ bound + most_of_a_move)) ⊎ ((beyond p ≡ 0) × ((beyond source ≤ 1) × (cost ≡ bound)))

from-counted : (mv : Move) → beyond (property_before mv) ≡ 0
from-counted (move.Shuffle c) = refl
from-counted move.ToSingle = refl
from-counted move.ToControl = refl
from-counted move.Broadcast = refl
from-counted (move.Trim c) = refl
from-counted move.FromControl = refl
from-counted move.FromSingle = refl

free-counted : (before p : Prop) → is_free before p ≡ true → (beyond p ≡ 0) × (beyond before ≤ 1)
free-counted (prop.Hash c) prop.Spread is = (refl, omega arith)
free-counted prop.Replicated prop.Single is = (refl, omega arith)
free-counted _ _ is = never is

pub inner-from : (costs : Costs) → ((g : GroupId) (mv : Move) → costs g mv < most_of_a_move) → (bound : Bound) (number : GroupId) (group : Group) (p : Prop) (w : Way) (cost : ℕ) → IsInnerWay group p w → sum_of costs bound number w ≡ Some cost
    → IsFrom (λ q. bound (record { group = number; prop = q })) p cost
inner-from costs cheap bound number group p way.Scan cost is total = absurd (true≢false is.0)
inner-from costs cheap bound number group p (way.One child) cost is total = absurd (true≢false is.0)
inner-from costs cheap bound number group p (way.Two left right) cost is total = absurd (true≢false is.0)
inner-from costs cheap bound number group p (way.Moved mv) cost is total =
    let part = one-part (bound (record { group = number; prop = property_before mv })) (costs number mv) cost total in
    let same : part.0 + costs number mv ≡ cost = part.1.1 in
    let less : costs number mv < most_of_a_move = cheap number mv in
    record { source = property_before mv; bound = part.0; found = part.1.0; over = inl (from-counted mv, omega arith) }
inner-from costs cheap bound number group p (way.Free before) cost is total =
    let part = one-part (bound (record { group = number; prop = before })) 0 cost total in
    let same : part.0 + 0 ≡ cost = part.1.1 in
    let counted = free-counted before p ((and_parts (is_free before p) (may_have group.interesting p) is.1).0) in
    record { source = before; bound = part.0; found = part.1.0; over = inr (counted.0, (counted.1, omega arith)) }

pub one-most : (bound : Option ℕ) → one bound ≤ 1
one-most None = omega arith
one-most (Some bound) = omega arith

-- ---- one more is reachable, or one falls

abbrev IsPut : (Prop → Option ℕ) → (Prop → Option ℕ) → Prop → ℕ → Type 0
IsPut v after p cost = (q : Prop) → after q ≡ (if is_same p q then Some cost else v q)

reached-more : (v after : Prop → Option ℕ) (p : Prop) (cost : ℕ) → IsPut v after p cost → (reached v ≤ reached after) × (v p ≡ None → beyond p ≡ 0 → reached v + 1 ≤ reached after)
reached-more v after prop.Spread cost put =
    let first : one (after prop.Spread) ≡ 1 = ap one (put prop.Spread) in
    let second : one (after prop.Replicated) ≡ one (v prop.Replicated) = ap one (put prop.Replicated) in
    let third : one (after prop.Single) ≡ one (v prop.Single) = ap one (put prop.Single) in
    let fourth : one (after prop.Control) ≡ one (v prop.Control) = ap one (put prop.Control) in
    let most = one-most (v prop.Spread) in
    (omega arith, λ none counted. let zero : one (v prop.Spread) ≡ 0 = ap one none in omega arith)
reached-more v after (prop.Hash c) cost put =
    let first : one (after prop.Spread) ≡ one (v prop.Spread) = ap one (put prop.Spread) in
    let second : one (after prop.Replicated) ≡ one (v prop.Replicated) = ap one (put prop.Replicated) in
    let third : one (after prop.Single) ≡ one (v prop.Single) = ap one (put prop.Single) in
    let fourth : one (after prop.Control) ≡ one (v prop.Control) = ap one (put prop.Control) in
    (omega arith, λ none counted. absurd (let wrong : 1 ≡ 0 = counted in omega arith))
reached-more v after prop.Replicated cost put =
    let first : one (after prop.Spread) ≡ one (v prop.Spread) = ap one (put prop.Spread) in
    let second : one (after prop.Replicated) ≡ 1 = ap one (put prop.Replicated) in
    let third : one (after prop.Single) ≡ one (v prop.Single) = ap one (put prop.Single) in
    let fourth : one (after prop.Control) ≡ one (v prop.Control) = ap one (put prop.Control) in
    let most = one-most (v prop.Replicated) in
    (omega arith, λ none counted. let zero : one (v prop.Replicated) ≡ 0 = ap one none in omega arith)
reached-more v after prop.Single cost put =
    let first : one (after prop.Spread) ≡ one (v prop.Spread) = ap one (put prop.Spread) in
    let second : one (after prop.Replicated) ≡ one (v prop.Replicated) = ap one (put prop.Replicated) in
    let third : one (after prop.Single) ≡ 1 = ap one (put prop.Single) in
    let fourth : one (after prop.Control) ≡ one (v prop.Control) = ap one (put prop.Control) in
    let most = one-most (v prop.Single) in
    (omega arith, λ none counted. let zero : one (v prop.Single) ≡ 0 = ap one none in omega arith)
reached-more v after prop.Control cost put =
    let first : one (after prop.Spread) ≡ one (v prop.Spread) = ap one (put prop.Spread) in
    let second : one (after prop.Replicated) ≡ one (v prop.Replicated) = ap one (put prop.Replicated) in
    let third : one (after prop.Single) ≡ one (v prop.Single) = ap one (put prop.Single) in
    let fourth : one (after prop.Control) ≡ 1 = ap one (put prop.Control) in
    let most = one-most (v prop.Control) in
    (omega arith, λ none counted. let zero : one (v prop.Control) ≡ 0 = ap one none in omega arith)

pub beyond-either : (p : Prop) → (beyond p ≡ 0) ⊎ (beyond p ≡ 1)
beyond-either prop.Spread = inl refl
beyond-either (prop.Hash c) = inr refl
beyond-either prop.Replicated = inl refl
beyond-either prop.Single = inl refl
beyond-either prop.Control = inl refl

pub within-more : (low high : ℕ) (bound : Option ℕ) → low ≤ high → IsWithin low bound → IsWithin high bound
within-more low high None more within = tt
within-more low high (Some bound) more within = omega arith

pub within-cost : (limit : ℕ) (bound : Option ℕ) (n : ℕ) → bound ≡ Some n → IsWithin limit bound → n ≤ limit
within-cost limit bound n is within = let inside : IsWithin limit (Some n) = subst (IsWithin limit) is within in inside

module _ (limit : ℕ) (v after : Prop → Option ℕ) (p : Prop) (cost : ℕ) (put : IsPut v after p cost) (room : HasRoom limit v) (lower : is_lower cost (v p) ≡ true) (from : IsFrom v p cost) where
  room-here : cost ≤ limit + most_of_a_move * (reached after + beyond p)
  room-here = by (v p) refl lower (room p)
    where
      more : (reached v ≤ reached after) × (v p ≡ None → beyond p ≡ 0 → reached v + 1 ≤ reached after)
      more = reached-more v after p cost put

      source : from.bound ≤ limit + most_of_a_move * (reached v + beyond from.source)
      source = within-cost (limit + most_of_a_move * (reached v + beyond from.source)) (v from.source) from.bound from.found (room from.source)

      new : v p ≡ None → ((beyond from.source ≡ 0) × (cost ≤ from.bound + most_of_a_move)) ⊎ ((beyond p ≡ 0) × ((beyond from.source ≤ 1) × (cost ≡ from.bound))) → ((beyond p ≡ 0) ⊎ (beyond p ≡ 1)) → cost ≤ limit + most_of_a_move * (reached after + beyond p)
      new none (inl (counted, most)) (inl zero) = (let add = more.1 none zero in let old = source in omega arith)
      new none (inl (counted, most)) (inr hash) = (let add = more.0 in let old = source in omega arith)
      new none (inr (zero, (most, same))) either = (let add = more.1 none zero in let old = source in omega arith)

      by : (bound : Option ℕ) → v p ≡ bound → is_lower cost bound ≡ true → IsWithin (limit + most_of_a_move * (reached v + beyond p)) bound → cost ≤ limit + most_of_a_move * (reached after + beyond p)
      by None none is within = new none from.over (beyond-either p)
      by (Some old) some is within = (let less = ltb-true cost old is in let add = more.0 in omega arith)

  pub room-step : HasRoom limit after
  room-step q = by (is_same p q) refl
    where
      by : (test : Bool) → is_same p q ≡ test → IsWithin (limit + most_of_a_move * (reached after + beyond q)) (after q)
      by true same =
          subst (IsWithin (limit + most_of_a_move * (reached after + beyond q))) (sym (put q ∙ ap (λ (test : Bool). if test then Some cost else v q) same))
          (subst (λ (x : Prop). cost ≤ limit + most_of_a_move * (reached after + beyond x)) (same-alike p q same) room-here)
      by false other =
          subst (IsWithin (limit + most_of_a_move * (reached after + beyond q))) (sym (put q ∙ ap (λ (test : Bool). if test then Some cost else v q) other))
          (within-more (limit + most_of_a_move * (reached v + beyond q)) (limit + most_of_a_move * (reached after + beyond q)) (v q) (let add = (reached-more v after p cost put).0 in omega arith) (room q))
