-- The cheapest way to make rows under a property, found by the rules read backwards: only ways that can give the property are tried.
use Rattle.std.specs.Prelude.{◌&&◌, nat_lt, ℕ, not, List, [], ◌∷◌, fold, Option, Some, None, if◌then◌else◌}
use Rattle.std.specs.List.{slice_get}
use Rattle.std.specs.Option.{option_map}
use Rattle.pdw_base.specs.declared.schema.ColId.{ColId}
use Rattle.pdw_expr.specs.declared.agg.JoinKind.{JoinKind}
use Rattle.pdw_expr.specs.declared.cond.Cond.{Cond}
use Rattle.pdw_groups.specs.Columns.{equality_columns}
use Rattle.pdw_groups.specs.declared.group.Expr.{Expr}
use Rattle.pdw_groups.specs.declared.group.Group.{Group}
use Rattle.pdw_groups.specs.declared.key.GroupId.{GroupId}
use Rattle.pdw_groups.specs.declared.op.Op.{Op}
use Rattle.pdw_groups.specs.declared.op.Op.TheVariants as op
use Rattle.pdw_move.specs.Move.{property_before}
use Rattle.pdw_move.specs.declared.kinds.Move.{Move}
use Rattle.pdw_move.specs.declared.kinds.Move.TheVariants as move
use Rattle.pdw_move.specs.declared.kinds.Prop.{Prop}
use Rattle.pdw_move.specs.declared.kinds.Prop.TheVariants as prop
use Rattle.pdw_rules.specs.Rules.{is_divided, is_full, is_inner, is_whole, leaf_rule, matched_rule, may_have, unary_rule}
use Rattle.pdw_ways.specs.Bounds.{Bound, bound_by, plus}
use Rattle.pdw_ways.specs.declared.made.Made.{Made}
use Rattle.pdw_ways.specs.declared.offer.Offer.{Offer}
use Rattle.pdw_ways.specs.declared.way.Way.{Way}
use Rattle.pdw_ways.specs.declared.way.Way.TheVariants as way

-- ---- the cheapest so far and one more

abbrev pub cheaper : Option Offer → Option Offer → Option Offer
cheaper first None = first
cheaper None (Some second) = Some second
cheaper (Some first) (Some second) = if nat_lt second.cost first.cost then Some second else Some first

abbrev pub offered : Way → Option ℕ → Option Offer
offered way sum = option_map (λ (cost : ℕ). let offer : Offer = record { way = way; cost = cost } in offer) sum

abbrev pub with_way : Option Offer → Way → Option ℕ → Option Offer
with_way best way sum = cheaper best (offered way sum)

-- ---- operators

module _ (bound : Bound) where
  abbrev pub with_one : Option Offer → Made → Option Offer
  with_one best child = with_way best (way.One child) (bound child)

  abbrev pub with_two : Option Offer → Made → Made → Option Offer
  with_two best left right = with_way best (way.Two left right) (plus (bound left) (bound right))

  -- rows of two groups joined to this property
  module _ (left right : GroupId) (made : Prop) where
    abbrev pub with_sides : Option Offer → Prop → Prop → Option Offer
    with_sides best p q = with_two best (record { group = left; prop = p }) (record { group = right; prop = q })

    abbrev pub with_hashes : JoinKind → Option Offer → ColId → ColId → Option Offer
    with_hashes kind best a b = if matched_rule kind a b made then with_sides best (prop.Hash a) (prop.Hash b) else best

    -- the columns that a conjunct compares, in either order
    abbrev pub with_columns : JoinKind → Option Offer → List ColId → Option Offer
    with_columns kind best [] = best
    with_columns kind best (a ∷ []) = best
    with_columns kind best (a ∷ b ∷ rest) = with_hashes kind (with_hashes kind best a b) b a

    abbrev pub with_conjunct : JoinKind → Option Offer → Cond → Option Offer
    with_conjunct kind best conjunct = with_columns kind best (equality_columns conjunct)

    abbrev pub with_right_replicated : JoinKind → Option Offer → Option Offer
    with_right_replicated kind best = if not (is_full kind) && is_divided made then with_sides best made prop.Replicated else best

    abbrev pub with_left_replicated : JoinKind → Option Offer → Option Offer
    with_left_replicated kind best = if is_inner kind && is_divided made then with_sides best prop.Replicated made else best

    abbrev pub with_one_site : Option Offer → Option Offer
    with_one_site best = if is_whole made then with_sides best made made else best

    abbrev pub with_join : JoinKind → List Cond → Option Offer → Option Offer
    with_join kind conds best = with_one_site (with_left_replicated kind (with_right_replicated kind (fold (with_conjunct kind) best conds)))

    abbrev pub with_pair : Op → Option Offer → Option Offer
    with_pair (op.Join kind conds) best = with_join kind conds best
    with_pair (op.Scan table alias cols hash replicated) best = best
    with_pair (op.Filter conds) best = best
    with_pair (op.Project items) best = best
    with_pair (op.GroupBy keys aggs) best = best
    with_pair (op.Partial keys aggs) best = best
    with_pair (op.Final keys aggs) best = best

  module _ (made : Prop) where
    -- an operator over the rows of one group, under a property of these
    abbrev pub with_under : Op → GroupId → Option Offer → Prop → Option Offer
    with_under operator child best p = if unary_rule operator p made then with_one best (record { group = child; prop = p }) else best

    abbrev pub with_hashed : Op → GroupId → Option Offer → List ColId → Option Offer
    with_hashed operator child best interesting = fold (λ best c. with_under operator child best (prop.Hash c)) best interesting

    -- under each property of a group with these interesting columns
    abbrev pub with_child : List ColId → Op → GroupId → Option Offer → Option Offer
    with_child interesting operator child best =
        with_under operator child (with_under operator child (with_under operator child (with_hashed operator child (with_under operator child best prop.Spread) interesting) prop.Replicated) prop.Single) prop.Control

abbrev pub interesting_of : Option Group → List ColId
interesting_of None = []
interesting_of (Some group) = group.interesting

abbrev pub interesting_at : List Group → GroupId → List ColId
interesting_at groups child = interesting_of (slice_get groups child.0)

abbrev pub with_leaf : Prop → Op → Option Offer → Option Offer
with_leaf made operator best = if leaf_rule operator made then with_way best way.Scan (Some 0) else best

module _ (bound : Bound) (groups : List Group) (made : Prop) where
  abbrev pub with_children : Op → List GroupId → Option Offer → Option Offer
  with_children operator [] best = best
  with_children operator (child ∷ []) best = with_child bound made (interesting_at groups child) operator child best
  with_children operator (left ∷ right ∷ []) best = with_pair bound left right made operator best
  with_children operator (first ∷ second ∷ third ∷ more) best = best

  abbrev pub with_expr : Option Offer → Expr → Option Offer
  with_expr best expr = with_children expr.op expr.children (with_leaf made expr.op best)

-- the cheapest scan or operator of a group, where it may have the property
abbrev pub local_within : Bound → List Group → Group → Prop → Option Offer
local_within bound groups group made = if may_have group.interesting made then fold (with_expr bound groups made) None group.exprs else None

-- ---- moves and free changes

module _ (bound : Prop → Option ℕ) where
  abbrev pub with_free : Option Offer → Prop → Option Offer
  with_free best before = with_way best (way.Free before) (bound before)

  -- by what moves of the group's rows cost
  module _ (adds : Move → ℕ) where
    abbrev pub with_move : Option Offer → Move → Option Offer
    with_move best mv = with_way best (way.Moved mv) (plus (bound (property_before mv)) (Some (adds mv)))

    abbrev pub inner_to : List ColId → Prop → Option Offer
    inner_to interesting prop.Spread = fold (λ best c. with_free best (prop.Hash c)) None interesting
    inner_to interesting (prop.Hash c) = with_move (with_move None (move.Shuffle c)) (move.Trim c)
    inner_to interesting prop.Replicated = with_move (with_move (with_move None move.Broadcast) move.FromControl) move.FromSingle
    inner_to interesting prop.Single = with_free (with_move None move.ToSingle) prop.Replicated
    inner_to interesting prop.Control = with_move None move.ToControl

-- the cheapest move or free change of a group, where it may have the property
abbrev pub inner_within : Group → List (Option ℕ) → (Move → ℕ) → Prop → Option Offer
inner_within group bounds adds made = if may_have group.interesting made then inner_to (bound_by group.interesting bounds) adds group.interesting made else None
