-- The ways of expressions that are tried are all of them that a sum allows.
use Rattle.std.proofs.Common.{◌≡◌, ◌==◌, ℕ, Bool, true, false, ◌&&◌, ◌||◌, ◌⊎◌, inl, inr, List, [], ◌∷◌, zip, fold, cond, Option, Some, None, refl, sym, ap, subst, ◌∙◌, arith}
use Rattle.std.proofs.lemmas.Bool.{and_parts}
use Rattle.std.specs.List.{list_any, slice_get}
use Rattle.std.specs.Map.{lookup}
use Rattle.std.specs.Option.{option_and_then}
use Rattle.pdw_base.specs.declared.schema.ColId.{ColId}
use Rattle.pdw_groups.specs.declared.group.Expr.{Expr}
use Rattle.pdw_groups.specs.declared.group.Group.{Group}
use Rattle.pdw_groups.specs.declared.key.GroupId.{GroupId}
use Rattle.pdw_groups.specs.declared.op.Op.{Op}
use Rattle.pdw_groups.specs.declared.op.Op.TheVariants as op
use Rattle.pdw_move.specs.declared.kinds.Prop.{Prop}
use Rattle.pdw_move.specs.declared.kinds.Prop.TheVariants as prop
use Rattle.pdw_rules.proofs.Listed.{listed}
use Rattle.pdw_rules.specs.Rules.{binary_rule, is_same, leaf_rule, local_rule, may_have, properties_of, unary_rule}
use Rattle.pdw_ways.proofs.Improves.{Among, Improves, any-among, among-any, best-from-none, improves-both, improves-fold, improves-if, improves-like, improves-nothing, improves-way}
use Rattle.pdw_ways.proofs.JoinWays.{IsJoin, and-both, joins-improve}
use Rattle.pdw_ways.proofs.Same.{column-alike, group-alike, group-itself, never}
use Rattle.pdw_ways.specs.Bounds.{Bound, bound_among, bound_by, bound_in, plus, sum_of}
use Rattle.pdw_ways.specs.Offers.{Best, IsLocalWay}
use Rattle.pdw_ways.specs.Search.{interesting_at, interesting_of, with_child, with_children, with_expr, with_leaf, with_pair, with_under}
use Rattle.pdw_ways.specs.Ways.{Costs, are_groups_of, operates}
use Rattle.pdw_ways.specs.declared.made.Made.{Made}
use Rattle.pdw_ways.specs.declared.offer.Offer.{Offer}
use Rattle.pdw_ways.specs.declared.way.Way.{Way}
use Rattle.pdw_ways.specs.declared.way.Way.TheVariants as way

-- ---- properties that a group may not have have no bound

lookup-none : {K X : Type 0} (test : K → Bool) (keys : List K) (list : List X) → list_any test keys ≡ false → lookup test (zip keys list) ≡ None
lookup-none test [] list none = refl
lookup-none test (key ∷ keys) [] none = refl
lookup-none {X = X} test (key ∷ keys) (x ∷ list) none = by (test key) none (lookup-none test keys list)
  where
    by : (passes : Bool) → (passes || list_any test keys) ≡ false → (list_any test keys ≡ false → lookup test (zip keys list) ≡ None) → cond passes (Some x) (lookup test (zip keys list)) ≡ None
    by true wrong behind = never (sym wrong)
    by false none behind = behind none

pub no-bound : (interesting : List ColId) (list : List (Option ℕ)) (p : Prop) → may_have interesting p ≡ false → bound_by interesting list p ≡ None
no-bound interesting list p none = ap (option_and_then (λ (bound : Option ℕ). bound)) (lookup-none (is_same p) (properties_of interesting) list (listed interesting p ∙ none))

pub no-bound-in : (groups : List Group) (lists : List (List (Option ℕ))) (child : GroupId) (c : ColId) → list_any (λ (i : ColId). i.0 == c.0) (interesting_at groups child) ≡ false → bound_in groups lists (record { group = child; prop = prop.Hash c }) ≡ None
no-bound-in groups lists child c none = by (slice_get groups child.0) (slice_get lists child.0) none
  where
    by : (group : Option Group) (list : Option (List (Option ℕ))) → list_any (λ (i : ColId). i.0 == c.0) (interesting_of group) ≡ false → bound_among (prop.Hash c) group list ≡ None
    by None list none = refl
    by (Some group) None none = refl
    by (Some group) (Some list) none = no-bound group.interesting list (prop.Hash c) none

-- ---- sums of operators

pub sum-one : (costs : Costs) (bound : Bound) (number : GroupId) (child : Made) → sum_of costs bound number (way.One child) ≡ bound child
sum-one costs bound number child = by (bound child)
  where
    by : (b : Option ℕ) → plus (plus b (Some 0)) (Some 0) ≡ b
    by None = refl
    by (Some b) = ap (λ (n : ℕ). Some n) (omega arith)

pub sum-two : (costs : Costs) (bound : Bound) (number : GroupId) (left right : Made) → sum_of costs bound number (way.Two left right) ≡ plus (bound left) (bound right)
sum-two costs bound number left right = by (bound left) (bound right)
  where
    by : (b c : Option ℕ) → plus (plus b (plus c (Some 0))) (Some 0) ≡ plus b c
    by None c = refl
    by (Some b) None = refl
    by (Some b) (Some c) = ap (λ (n : ℕ). Some n) (omega arith)

-- ---- ways of an expression

module _ (made : Prop) where
  abbrev IsUnder : Op → GroupId → Prop → Way → Type 0
  IsUnder operator child p w = (unary_rule operator p made ≡ true) × (w ≡ way.One (record { group = child; prop = p }))

  -- an operator over one group, as its rule allows
  pub record IsChild (operator : Op) (child : GroupId) (w : Way) : Type 0 where
    pub below : Prop
    pub is : w ≡ way.One (record { group = child; prop = below })
    pub rule : unary_rule operator below made ≡ true

  abbrev IsTried : List ColId → Op → GroupId → Way → Type 0
  IsTried interesting operator child w =
      (((IsUnder operator child prop.Spread w ⊎ Among (λ (c : ColId). IsUnder operator child (prop.Hash c)) interesting w) ⊎ IsUnder operator child prop.Replicated w) ⊎ IsUnder operator child prop.Single w) ⊎ IsUnder operator child prop.Control w

  abbrev IsPair : Op → GroupId → GroupId → Way → Type 0
  IsPair (op.Join kind conds) left right w = IsJoin left right made kind conds w
  IsPair (op.Scan table alias cols hash replicated) left right w = ⊥
  IsPair (op.Filter conds) left right w = ⊥
  IsPair (op.Project items) left right w = ⊥
  IsPair (op.GroupBy keys aggs) left right w = ⊥
  IsPair (op.Partial keys aggs) left right w = ⊥
  IsPair (op.Final keys aggs) left right w = ⊥

  abbrev IsOver : Op → List GroupId → Way → Type 0
  IsOver operator [] w = ⊥
  IsOver operator (child ∷ []) w = IsChild operator child w
  IsOver operator (left ∷ right ∷ []) w = IsPair operator left right w
  IsOver operator (first ∷ second ∷ third ∷ more) w = ⊥

  abbrev IsLeaf : Op → Way → Type 0
  IsLeaf operator w = (leaf_rule operator made ≡ true) × (w ≡ way.Scan)

  -- a way by an expression
  abbrev pub IsBy : Expr → Way → Type 0
  IsBy expr way.Scan = leaf_rule expr.op made ≡ true
  IsBy expr (way.One child) = operates (child ∷ []) made expr ≡ true
  IsBy expr (way.Two left right) = operates (left ∷ right ∷ []) made expr ≡ true
  IsBy expr (way.Moved move) = ⊥
  IsBy expr (way.Free before) = ⊥

  -- ---- what is allowed is tried

  one-over : (operator : Op) (children : List GroupId) (child : Made) → (are_groups_of (child ∷ []) children && unary_rule operator child.prop made) ≡ true → IsOver operator children (way.One child)
  one-over operator [] child is = never is
  one-over operator (number ∷ []) child is =
      let parts = and_parts ((child.group.0 == number.0) && true) (unary_rule operator child.prop made) is in
      let same = group-alike child.group number (and_parts (child.group.0 == number.0) true parts.0).0 in
      record { below = child.prop; is = ap (λ (g : GroupId). let m : Made = record { group = g; prop = child.prop } in way.One m) same; rule = parts.1 }
  one-over operator (number ∷ next ∷ more) child is =
      let parts = and_parts ((child.group.0 == number.0) && false) (unary_rule operator child.prop made) is in
      never ((and_parts (child.group.0 == number.0) false parts.0).1)

  pair-of : (operator : Op) (left right : Made) → binary_rule operator left.prop right.prop made ≡ true → IsPair operator left.group right.group (way.Two left right)
  pair-of (op.Join kind conds) left right is = record { left_prop = left.prop; right_prop = right.prop; is = refl; rule = is }
  pair-of (op.Scan table alias cols hash replicated) left right is = never is
  pair-of (op.Filter conds) left right is = never is
  pair-of (op.Project items) left right is = never is
  pair-of (op.GroupBy keys aggs) left right is = never is
  pair-of (op.Partial keys aggs) left right is = never is
  pair-of (op.Final keys aggs) left right is = never is

  two-over : (operator : Op) (children : List GroupId) (left right : Made) → (are_groups_of (left ∷ right ∷ []) children && binary_rule operator left.prop right.prop made) ≡ true → IsOver operator children (way.Two left right)
  two-over operator [] left right is = never is
  two-over operator (first ∷ []) left right is =
      let parts = and_parts ((left.group.0 == first.0) && false) (binary_rule operator left.prop right.prop made) is in
      never ((and_parts (left.group.0 == first.0) false parts.0).1)
  two-over operator (first ∷ second ∷ []) left right is =
      let parts = and_parts ((left.group.0 == first.0) && ((right.group.0 == second.0) && true)) (binary_rule operator left.prop right.prop made) is in
      let numbers = and_parts (left.group.0 == first.0) ((right.group.0 == second.0) && true) parts.0 in
      subst (λ (g : GroupId). IsPair operator g second (way.Two left right)) (group-alike left.group first numbers.0)
      (subst (λ (g : GroupId). IsPair operator left.group g (way.Two left right)) (group-alike right.group second (and_parts (right.group.0 == second.0) true numbers.1).0) (pair-of operator left right parts.1))
  two-over operator (first ∷ second ∷ third ∷ more) left right is =
      let parts = and_parts ((left.group.0 == first.0) && ((right.group.0 == second.0) && false)) (binary_rule operator left.prop right.prop made) is in
      let numbers = and_parts (left.group.0 == first.0) ((right.group.0 == second.0) && false) parts.0 in
      never ((and_parts (right.group.0 == second.0) false numbers.1).1)

  by-tried : (expr : Expr) (w : Way) → IsBy expr w → IsLeaf expr.op w ⊎ IsOver expr.op expr.children w
  by-tried expr way.Scan is = inl (is, refl)
  by-tried expr (way.One child) is = inr (one-over expr.op expr.children child is)
  by-tried expr (way.Two left right) is = inr (two-over expr.op expr.children left right is)
  by-tried expr (way.Moved move) is = absurd is
  by-tried expr (way.Free before) is = absurd is

  -- ---- what is tried is allowed

  pair-rule : (operator : Op) (expr : Expr) (left right : GroupId) → expr.op ≡ operator → expr.children ≡ left ∷ right ∷ [] → (w : Way) → IsPair operator left right w → IsBy expr w
  pair-rule (op.Join kind conds) expr left right same over w join =
      subst (IsBy expr) (sym join.is) (
      let below : List Made = record { group = left; prop = join.left_prop } ∷ record { group = right; prop = join.right_prop } ∷ [] in
      and-both (are_groups_of below expr.children) (local_rule expr.op (join.left_prop ∷ join.right_prop ∷ []) made)
      (subst (λ (children : List GroupId). are_groups_of below children ≡ true) (sym over) (and-both (left.0 == left.0) ((right.0 == right.0) && true) (group-itself left) (and-both (right.0 == right.0) true (group-itself right) refl)))
      (subst (λ (operator : Op). binary_rule operator join.left_prop join.right_prop made ≡ true) (sym same) join.rule))
  pair-rule (op.Scan table alias cols hash replicated) expr left right same over w is = absurd is
  pair-rule (op.Filter conds) expr left right same over w is = absurd is
  pair-rule (op.Project items) expr left right same over w is = absurd is
  pair-rule (op.GroupBy keys aggs) expr left right same over w is = absurd is
  pair-rule (op.Partial keys aggs) expr left right same over w is = absurd is
  pair-rule (op.Final keys aggs) expr left right same over w is = absurd is

  over-rule : (expr : Expr) (children : List GroupId) → expr.children ≡ children → (w : Way) → IsOver expr.op children w → IsBy expr w
  over-rule expr [] over w is = absurd is
  over-rule expr (child ∷ []) over w is =
      subst (IsBy expr) (sym is.is) (
      let below : List Made = record { group = child; prop = is.below } ∷ [] in
      and-both (are_groups_of below expr.children) (local_rule expr.op (is.below ∷ []) made)
      (subst (λ (children : List GroupId). are_groups_of below children ≡ true) (sym over) (and-both (child.0 == child.0) true (group-itself child) refl)) is.rule)
  over-rule expr (left ∷ right ∷ []) over w is = pair-rule expr.op expr left right refl over w is
  over-rule expr (first ∷ second ∷ third ∷ more) over w is = absurd is

  tried-by : (expr : Expr) (w : Way) → IsLeaf expr.op w ⊎ IsOver expr.op expr.children w → IsBy expr w
  tried-by expr w (inl is) = subst (IsBy expr) (sym is.1) is.0
  tried-by expr w (inr is) = over-rule expr expr.children refl w is

-- ---- the tries

-- bounds of groups, with the sums of operators over them
pub record AreSums (groups : List Group) (bound : Bound) (sum : Way → Option ℕ) : Type 0 where
  pub scan : sum way.Scan ≡ Some 0
  pub one : (child : Made) → sum (way.One child) ≡ bound child
  pub two : (left right : Made) → sum (way.Two left right) ≡ plus (bound left) (bound right)
  pub absent : (child : GroupId) (c : ColId) → list_any (λ (i : ColId). i.0 == c.0) (interesting_at groups child) ≡ false → bound (record { group = child; prop = prop.Hash c }) ≡ None

module _ (groups : List Group) (bound : Bound) (sum : Way → Option ℕ) (sums : AreSums groups bound sum) (made : Prop) where
  under-improves : (operator : Op) (child : GroupId) (best : Option Offer) (p : Prop) → Improves sum (IsUnder made operator child p) best (with_under bound made operator child best p)
  under-improves operator child best p = improves-if sum (unary_rule operator p made) (λ is. improves-way sum best (way.One (record { group = child; prop = p })) _ (sums.one _))

  child-tried : (operator : Op) (child : GroupId) (p : Prop) → unary_rule operator p made ≡ true → IsTried made (interesting_at groups child) operator child (way.One (record { group = child; prop = p })) ⊎ (sum (way.One (record { group = child; prop = p })) ≡ None)
  child-tried operator child prop.Spread rule = inl (inl (inl (inl (inl (rule, refl)))))
  child-tried operator child (prop.Hash c) rule = by (list_any (λ (i : ColId). i.0 == c.0) (interesting_at groups child)) refl
    where
      by : (test : Bool) → list_any (λ (i : ColId). i.0 == c.0) (interesting_at groups child) ≡ test → IsTried made (interesting_at groups child) operator child (way.One (record { group = child; prop = prop.Hash c })) ⊎ (sum (way.One (record { group = child; prop = prop.Hash c })) ≡ None)
      by true is = inl (inl (inl (inl (inr (any-among (λ (i : ColId). i.0 == c.0) (λ (i : ColId). IsUnder made operator child (prop.Hash i)) (way.One (record { group = child; prop = prop.Hash c }))
          (λ i same. subst (λ (x : ColId). IsUnder made operator child (prop.Hash x) (way.One (record { group = child; prop = prop.Hash c }))) (sym (column-alike i c same)) (rule, refl)) (interesting_at groups child) is)))))
      by false is = inr (sums.one _ ∙ sums.absent child c is)
  child-tried operator child prop.Replicated rule = inl (inl (inl (inr (rule, refl))))
  child-tried operator child prop.Single rule = inl (inl (inr (rule, refl)))
  child-tried operator child prop.Control rule = inl (inr (rule, refl))

  hashed-allowed : (operator : Op) (child : GroupId) (interesting : List ColId) (w : Way) → Among (λ (c : ColId). IsUnder made operator child (prop.Hash c)) interesting w → IsChild made operator child w
  hashed-allowed operator child [] w none = absurd none
  hashed-allowed operator child (c ∷ interesting) w (inl is) = record { below = prop.Hash c; is = is.1; rule = is.0 }
  hashed-allowed operator child (c ∷ interesting) w (inr is) = hashed-allowed operator child interesting w is

  child-allowed : (interesting : List ColId) (operator : Op) (child : GroupId) (w : Way) → IsTried made interesting operator child w → IsChild made operator child w
  child-allowed interesting operator child w (inl (inl (inl (inl is)))) = record { below = prop.Spread; is = is.1; rule = is.0 }
  child-allowed interesting operator child w (inl (inl (inl (inr is)))) = hashed-allowed operator child interesting w is
  child-allowed interesting operator child w (inl (inl (inr is))) = record { below = prop.Replicated; is = is.1; rule = is.0 }
  child-allowed interesting operator child w (inl (inr is)) = record { below = prop.Single; is = is.1; rule = is.0 }
  child-allowed interesting operator child w (inr is) = record { below = prop.Control; is = is.1; rule = is.0 }

  tries-improve : (operator : Op) (child : GroupId) (best : Option Offer) → Improves sum (IsTried made (interesting_at groups child) operator child) best (with_child bound made (interesting_at groups child) operator child best)
  tries-improve operator child best =
      improves-both sum (improves-both sum (improves-both sum (improves-both sum
      (under-improves operator child best prop.Spread)
      (improves-fold sum (λ (c : ColId). IsUnder made operator child (prop.Hash c)) (λ best c. with_under bound made operator child best (prop.Hash c)) (λ best c. under-improves operator child best (prop.Hash c)) _ (interesting_at groups child)))
      (under-improves operator child _ prop.Replicated)) (under-improves operator child _ prop.Single)) (under-improves operator child _ prop.Control)

  child-improves : (operator : Op) (child : GroupId) (best : Option Offer) → Improves sum (IsChild made operator child) best (with_child bound made (interesting_at groups child) operator child best)
  child-improves operator child best = improves-like sum
      (λ w is. subst (λ (v : Way). IsTried made (interesting_at groups child) operator child v ⊎ (sum v ≡ None)) (sym is.is) (child-tried operator child is.below is.rule))
      (child-allowed (interesting_at groups child) operator child) (tries-improve operator child best)

  pair-improves : (operator : Op) (left right : GroupId) (best : Option Offer) → Improves sum (IsPair made operator left right) best (with_pair bound left right made operator best)
  pair-improves (op.Join kind conds) left right best = joins-improve left right made sum bound sums.two kind conds best
  pair-improves (op.Scan table alias cols hash replicated) left right best = improves-nothing sum (λ w. ⊥) (λ w none. none) best
  pair-improves (op.Filter conds) left right best = improves-nothing sum (λ w. ⊥) (λ w none. none) best
  pair-improves (op.Project items) left right best = improves-nothing sum (λ w. ⊥) (λ w none. none) best
  pair-improves (op.GroupBy keys aggs) left right best = improves-nothing sum (λ w. ⊥) (λ w none. none) best
  pair-improves (op.Partial keys aggs) left right best = improves-nothing sum (λ w. ⊥) (λ w none. none) best
  pair-improves (op.Final keys aggs) left right best = improves-nothing sum (λ w. ⊥) (λ w none. none) best

  over-improves : (operator : Op) (children : List GroupId) (best : Option Offer) → Improves sum (IsOver made operator children) best (with_children bound groups made operator children best)
  over-improves operator [] best = improves-nothing sum (λ w. ⊥) (λ w none. none) best
  over-improves operator (child ∷ []) best = child-improves operator child best
  over-improves operator (left ∷ right ∷ []) best = pair-improves operator left right best
  over-improves operator (first ∷ second ∷ third ∷ more) best = improves-nothing sum (λ w. ⊥) (λ w none. none) best

  expr-improves : (best : Option Offer) (expr : Expr) → Improves sum (IsBy made expr) best (with_expr bound groups made best expr)
  expr-improves best expr = improves-like sum (λ w is. inl (by-tried made expr w is)) (tried-by made expr)
      (improves-both sum (improves-if sum (leaf_rule expr.op made) (λ is. improves-way sum best way.Scan (Some 0) sums.scan)) (over-improves expr.op expr.children (with_leaf made expr.op best)))

  -- ---- the ways of a group

  local-by : (group : Group) (w : Way) → IsLocalWay group made w → Among (IsBy made) group.exprs w
  local-by group way.Scan is = any-among (λ (expr : Expr). leaf_rule expr.op made) (IsBy made) way.Scan (λ expr rule. rule) group.exprs ((and_parts (may_have group.interesting made) _ is.1).1)
  local-by group (way.One child) is = any-among (operates (child ∷ []) made) (IsBy made) (way.One child) (λ expr rule. rule) group.exprs ((and_parts (may_have group.interesting made) _ is.1).1)
  local-by group (way.Two left right) is = any-among (operates (left ∷ right ∷ []) made) (IsBy made) (way.Two left right) (λ expr rule. rule) group.exprs ((and_parts (may_have group.interesting made) _ is.1).1)
  local-by group (way.Moved move) is = never is.0
  local-by group (way.Free before) is = never is.0

  by-local : (group : Group) → may_have group.interesting made ≡ true → (w : Way) → Among (IsBy made) group.exprs w → IsLocalWay group made w
  by-local group has way.Scan among = (refl, and-both (may_have group.interesting made) _ has (among-any (λ (expr : Expr). leaf_rule expr.op made) (IsBy made) way.Scan (λ expr rule. rule) group.exprs among))
  by-local group has (way.One child) among = (refl, and-both (may_have group.interesting made) _ has (among-any (operates (child ∷ []) made) (IsBy made) (way.One child) (λ expr rule. rule) group.exprs among))
  by-local group has (way.Two left right) among = (refl, and-both (may_have group.interesting made) _ has (among-any (operates (left ∷ right ∷ []) made) (IsBy made) (way.Two left right) (λ expr rule. rule) group.exprs among))
  by-local group has (way.Moved move) among = absurd (nowhere group.exprs among)
    where
      nowhere : (exprs : List Expr) → Among (IsBy made) exprs (way.Moved move) → ⊥
      nowhere [] none = none
      nowhere (expr ∷ exprs) (inl none) = none
      nowhere (expr ∷ exprs) (inr there) = nowhere exprs there
  by-local group has (way.Free before) among = absurd (nowhere group.exprs among)
    where
      nowhere : (exprs : List Expr) → Among (IsBy made) exprs (way.Free before) → ⊥
      nowhere [] none = none
      nowhere (expr ∷ exprs) (inl none) = none
      nowhere (expr ∷ exprs) (inr there) = nowhere exprs there

  pub exprs-best : (group : Group) → may_have group.interesting made ≡ true → Best (IsLocalWay group made) sum (fold (with_expr bound groups made) None group.exprs)
  exprs-best group has = best-from-none sum _ (improves-like sum (λ w is. inl (local-by group w is)) (by-local group has)
      (improves-fold sum (IsBy made) (with_expr bound groups made) expr-improves None group.exprs))
