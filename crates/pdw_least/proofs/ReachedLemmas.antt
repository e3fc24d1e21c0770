-- By valid bounds the rows of each group of a complete memo can be brought to one node: by induction over its groups.
use Rattle.std.proofs.Common.{◌≡◌, ◌==◌, ◌&&◌, ◌<◌, ℕ, zero, suc, Bool, true, false, List, [], ◌∷◌, get_or, Option, Some, None, refl, sym, subst, arith}
use Rattle.std.proofs.lemmas.Option.{slice_get-get_or, slice_get_within}
use Rattle.std.specs.List.{AllByRecursion, list_any, slice_get}
use Rattle.std.specs.Option.{IsSome}
use Rattle.pdw_base.specs.declared.schema.ColId.{ColId}
use Rattle.pdw_groups.specs.declared.group.Expr.{Expr}
use Rattle.pdw_groups.specs.declared.group.Group.{Group}
use Rattle.pdw_groups.specs.declared.key.GroupId.{GroupId}
use Rattle.pdw_groups.specs.declared.op.Op.{Op}
use Rattle.pdw_groups.specs.declared.op.Op.TheVariants as op
use Rattle.pdw_move.specs.declared.kinds.Move.TheVariants as move
use Rattle.pdw_move.specs.declared.kinds.Prop.{Prop}
use Rattle.pdw_move.specs.declared.kinds.Prop.TheVariants as prop
use Rattle.pdw_rules.specs.Rules.{binary_rule, hashes_rule, leaf_rule, may_have, replicated_left_rule, replicated_right_rule, scan_property, unary_rule}
use Rattle.pdw_ways.proofs.Improves.{or-left, or-right}
use Rattle.pdw_ways.proofs.JoinWays.{and-both}
use Rattle.pdw_ways.proofs.Same.{group-itself, never, same-itself}
use Rattle.pdw_ways.specs.Bounds.{AreValid, AtMost, Bound, plus, sum_of}
use Rattle.pdw_ways.specs.Ways.{Costs, are_groups_of, is_way, operates}
use Rattle.pdw_ways.specs.declared.way.Way.{Way}
use Rattle.pdw_ways.specs.declared.way.Way.TheVariants as way
use Rattle.pdw_least.proofs.Steps.{here}
use Rattle.pdw_least.specs.Premises.{AreOrdered}
use Rattle.pdw_least.specs.Reached.{AreMade, IsComplete, IsMade, IsReached}

reach : (bound sum : Option ℕ) → IsSome sum → AtMost bound sum → IsSome bound
reach None None some under = some
reach None (Some limit) some under = absurd under
reach (Some bound) sum some under = refl

some-one : (b : Option ℕ) (adds : ℕ) → IsSome b → IsSome (plus (plus b (Some 0)) (Some adds))
some-one None adds some = never some
some-one (Some b) adds some = refl

some-two : (b c : Option ℕ) → IsSome b → IsSome c → IsSome (plus (plus b (plus c (Some 0))) (Some 0))
some-two None c first second = never first
some-two (Some b) None first second = never second
some-two (Some b) (Some c) first second = refl

not-control : (hash : Option ColId) (replicated : Bool) → scan_property hash replicated ≡ prop.Control → ⊥
not-control hash true same = cc
not-control None false same = cc
not-control (Some c) false same = cc

module _ (groups : List Group) (costs : Costs) (bound : Bound) (valid : AreValid groups costs bound) (ordered : AreOrdered groups) (made : AreMade groups) where
  abbrev at : GroupId → Prop → Option ℕ
  at number p = bound (here number p)

  module _ (number : GroupId) (group : Group) (there : slice_get groups number.0 ≡ Some group) where
    by-way : (p : Prop) (w : Way) → is_way group p w ≡ true → IsSome (sum_of costs bound number w) → IsSome (at number p)
    by-way p w is some = reach (at number p) (sum_of costs bound number w) some (valid (here number p) group w there is)

    single-replicated : IsSome (at number prop.Single) → IsSome (at number prop.Replicated)
    single-replicated some = by-way prop.Replicated (way.Moved move.FromSingle) refl (some-one (at number prop.Single) (costs number move.FromSingle) some)

    spread-single : IsSome (at number prop.Spread) → IsSome (at number prop.Single)
    spread-single some = by-way prop.Single (way.Moved move.ToSingle) refl (some-one (at number prop.Spread) (costs number move.ToSingle) some)

    placed-single : (p : Prop) → IsSome (at number p) → (p ≡ prop.Control → ⊥) → IsSome (at number prop.Single)
    placed-single prop.Spread some other = spread-single some
    placed-single (prop.Hash c) some other = spread-single (by-way prop.Spread (way.Free (prop.Hash c)) refl (some-one (at number (prop.Hash c)) 0 some))
    placed-single prop.Replicated some other = by-way prop.Single (way.Free prop.Replicated) refl (some-one (at number prop.Replicated) 0 some)
    placed-single prop.Single some other = some
    placed-single prop.Control some other = absurd (other refl)

    module _ (expr : Expr) (rest : List Expr) (first : group.exprs ≡ expr ∷ rest) where
      any-first : (test : Expr → Bool) → test expr ≡ true → list_any test group.exprs ≡ true
      any-first test is = subst (λ (exprs : List Expr). list_any test exprs ≡ true) (sym first) (or-left (test expr) (list_any test rest) is)

      scan-reached : (hash : Option ColId) (replicated : Bool) → may_have group.interesting (scan_property hash replicated) ≡ true → leaf_rule expr.op (scan_property hash replicated) ≡ true → IsSome (at number prop.Single)
      scan-reached hash replicated has leaf =
          placed-single (scan_property hash replicated)
          (by-way (scan_property hash replicated) way.Scan (and-both (may_have group.interesting (scan_property hash replicated)) _ has (any-first (λ (e : Expr). leaf_rule e.op (scan_property hash replicated)) leaf)) refl)
          (not-control hash replicated)

      one-reached : (child : GroupId) → expr.children ≡ child ∷ [] → unary_rule expr.op prop.Single prop.Single ≡ true → IsSome (at child prop.Single) → IsSome (at number prop.Single)
      one-reached child over rule some =
          by-way prop.Single (way.One (here child prop.Single))
          (any-first (operates (here child prop.Single ∷ []) prop.Single) (and-both (are_groups_of (here child prop.Single ∷ []) expr.children) _
          (subst (λ (children : List GroupId). are_groups_of (here child prop.Single ∷ []) children ≡ true) (sym over) (and-both (child.0 == child.0) true (group-itself child) refl)) rule))
          (some-one (at child prop.Single) 0 some)

      two-reached : (left right : GroupId) → expr.children ≡ left ∷ right ∷ [] → binary_rule expr.op prop.Single prop.Single prop.Single ≡ true → IsSome (at left prop.Single) → IsSome (at right prop.Single) → IsSome (at number prop.Single)
      two-reached left right over rule some also =
          by-way prop.Single (way.Two (here left prop.Single) (here right prop.Single))
          (any-first (operates (here left prop.Single ∷ here right prop.Single ∷ []) prop.Single) (and-both (are_groups_of (here left prop.Single ∷ here right prop.Single ∷ []) expr.children) _
          (subst (λ (children : List GroupId). are_groups_of (here left prop.Single ∷ here right prop.Single ∷ []) children ≡ true) (sym over)
          (and-both (left.0 == left.0) ((right.0 == right.0) && true) (group-itself left) (and-both (right.0 == right.0) true (group-itself right) refl))) rule))
          (some-two (at left prop.Single) (at right prop.Single) some also)

      by-op : (operator : Op) → expr.op ≡ operator → (children : List GroupId) → expr.children ≡ children → IsComplete group.interesting operator children → AllByRecursion (λ (child : GroupId). IsSome (at child prop.Single)) children → IsSome (at number prop.Single)
      by-op (op.Scan table alias cols hash replicated) same children over complete below =
          scan-reached hash replicated complete (subst (λ (o : Op). leaf_rule o (scan_property hash replicated) ≡ true) (sym same) (same-itself (scan_property hash replicated)))
      by-op (op.Filter conds) same (child ∷ []) over complete below = one-reached child over (subst (λ (o : Op). unary_rule o prop.Single prop.Single ≡ true) (sym same) refl) below.0
      by-op (op.Project items) same (child ∷ []) over complete below = one-reached child over (subst (λ (o : Op). unary_rule o prop.Single prop.Single ≡ true) (sym same) refl) below.0
      by-op (op.GroupBy keys aggs) same (child ∷ []) over complete below = one-reached child over (subst (λ (o : Op). unary_rule o prop.Single prop.Single ≡ true) (sym same) refl) below.0
      by-op (op.Partial keys aggs) same (child ∷ []) over complete below = one-reached child over (subst (λ (o : Op). unary_rule o prop.Single prop.Single ≡ true) (sym same) refl) below.0
      by-op (op.Final keys aggs) same (child ∷ []) over complete below = one-reached child over (subst (λ (o : Op). unary_rule o prop.Single prop.Single ≡ true) (sym same) refl) below.0
      by-op (op.Join kind conds) same (left ∷ right ∷ []) over complete below = two-reached left right over
          (subst (λ (o : Op). binary_rule o prop.Single prop.Single prop.Single ≡ true) (sym same)
          (or-right (hashes_rule kind conds prop.Single prop.Single prop.Single) _ (or-right (replicated_right_rule kind prop.Single prop.Single prop.Single) _ (or-right (replicated_left_rule kind prop.Single prop.Single prop.Single) _ refl))))
          below.0 below.1.0
      by-op _ same _ over complete below = absurd complete

    below-reached : ((child : GroupId) → child.0 < number.0 → IsSome (at child prop.Single)) → (children : List GroupId) → AllByRecursion (λ (child : GroupId). child.0 < number.0) children → AllByRecursion (λ (child : GroupId). IsSome (at child prop.Single)) children
    below-reached reached [] small = tt
    below-reached reached (child ∷ children) small = (reached child small.0, below-reached reached children small.1)

    by-exprs : (exprs : List Expr) → group.exprs ≡ exprs → IsMade group.interesting exprs → AllByRecursion (λ (expr : Expr). AllByRecursion (λ (child : GroupId). child.0 < number.0) expr.children) exprs → ((child : GroupId) → child.0 < number.0 → IsSome (at child prop.Single)) → IsSome (at number prop.Single)
    by-exprs [] same made small reached = absurd made
    by-exprs (expr ∷ rest) same made small reached = by-op expr rest same expr.op refl expr.children refl made (below-reached reached expr.children small.0)

  all-reached : (n : ℕ) (number : GroupId) (group : Group) → slice_get groups number.0 ≡ Some group → number.0 < n → IsSome (at number prop.Single)
  all-reached zero number group there less = absurd (omega arith)
  all-reached (suc n) number group there less = by-exprs number group there group.exprs refl (made number.0 group there) (ordered number.0 group there)
      (λ child small.
      let inside = slice_get_within groups number.0 group there in
      all-reached n child (get_or groups child.0 group) (slice_get-get_or groups child.0 group (omega arith)) (omega arith))

  pub each-reached : (number : GroupId) (group : Group) → slice_get groups number.0 ≡ Some group → IsReached bound number
  each-reached number group there =
      let single = all-reached (suc number.0) number group there (omega arith) in
      record { single = single; replicated = single-replicated number group there single }
