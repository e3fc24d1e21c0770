-- The moves and free changes that are tried are all of them that a sum allows.
use Rattle.std.proofs.Common.{◌≡◌, ◌==◌, ℕ, Bool, true, false, true≢false, ◌⊎◌, inl, inr, List, [], ◌∷◌, Option, Some, None, refl, sym, ap, subst, ◌∙◌, arith}
use Rattle.std.proofs.lemmas.Bool.{and_parts}
use Rattle.std.specs.List.{list_any}
use Rattle.pdw_base.specs.declared.schema.ColId.{ColId}
use Rattle.pdw_groups.specs.declared.group.Group.{Group}
use Rattle.pdw_groups.specs.declared.key.GroupId.{GroupId}
use Rattle.pdw_move.specs.Move.{property_after, property_before}
use Rattle.pdw_move.specs.declared.kinds.Move.{Move}
use Rattle.pdw_move.specs.declared.kinds.Move.TheVariants as move
use Rattle.pdw_move.specs.declared.kinds.Prop.{Prop}
use Rattle.pdw_move.specs.declared.kinds.Prop.TheVariants as prop
use Rattle.pdw_rules.specs.Rules.{is_free, is_same, may_have}
use Rattle.pdw_ways.proofs.ExprWays.{no-bound}
use Rattle.pdw_ways.proofs.Improves.{Among, Improves, any-among, best-from-none, improves-both, improves-fold, improves-like, improves-way}
use Rattle.pdw_ways.proofs.JoinWays.{and-both}
use Rattle.pdw_ways.proofs.Same.{column-alike, never, same-alike, same-itself}
use Rattle.pdw_ways.specs.Bounds.{bound_by, plus, row_bound, sum_of}
use Rattle.pdw_ways.specs.Costing.{AgreeAt}
use Rattle.pdw_ways.specs.Offers.{Best, IsInnerWay}
use Rattle.pdw_ways.specs.Search.{inner_to, with_free, with_move}
use Rattle.pdw_ways.specs.Ways.{Costs, is_moved}
use Rattle.pdw_ways.specs.declared.offer.Offer.{Offer}
use Rattle.pdw_ways.specs.declared.way.Way.{Way}
use Rattle.pdw_ways.specs.declared.way.Way.TheVariants as way

never-local : {A : Type 0} → true ≡ false → A
never-local wrong = absurd (true≢false wrong)

-- ---- the tries, by what is made

abbrev IsTried : List ColId → Prop → Way → Type 0
IsTried interesting prop.Spread w = Among (λ (c : ColId) (w : Way). w ≡ way.Free (prop.Hash c)) interesting w
IsTried interesting (prop.Hash c) w = (w ≡ way.Moved (move.Shuffle c)) ⊎ (w ≡ way.Moved (move.Trim c))
IsTried interesting prop.Replicated w = ((w ≡ way.Moved move.Broadcast) ⊎ (w ≡ way.Moved move.FromControl)) ⊎ (w ≡ way.Moved move.FromSingle)
IsTried interesting prop.Single w = (w ≡ way.Moved move.ToSingle) ⊎ (w ≡ way.Free prop.Replicated)
IsTried interesting prop.Control w = w ≡ way.Moved move.ToControl

-- a move is tried where what it makes is wanted
moved-tried : (interesting : List ColId) (mv : Move) → IsTried interesting (property_after mv) (way.Moved mv)
moved-tried interesting (move.Shuffle c) = inl refl
moved-tried interesting move.ToSingle = inl refl
moved-tried interesting move.ToControl = refl
moved-tried interesting move.Broadcast = inl (inl refl)
moved-tried interesting (move.Trim c) = inr refl
moved-tried interesting move.FromControl = inl (inr refl)
moved-tried interesting move.FromSingle = inr refl

module _ (group : Group) (bounds : List (Option ℕ)) (adds : Move → ℕ) (costs : Costs) (number : GroupId) (agree : AgreeAt costs number adds) where
  abbrev sum : Way → Option ℕ
  sum = sum_of costs (row_bound group.interesting bounds) number

  abbrev bound : Prop → Option ℕ
  bound = bound_by group.interesting bounds

  sum-free : (p : Prop) → sum (way.Free p) ≡ bound p
  sum-free p = by (bound p)
    where
      by : (b : Option ℕ) → plus (plus b (Some 0)) (Some 0) ≡ b
      by None = refl
      by (Some b) = ap (λ (n : ℕ). Some n) (omega arith)

  sum-moved : (mv : Move) → sum (way.Moved mv) ≡ plus (bound (property_before mv)) (Some (adds mv))
  sum-moved mv = by (bound (property_before mv)) ∙ ap (λ (added : ℕ). plus (bound (property_before mv)) (Some added)) (agree mv)
    where
      by : (b : Option ℕ) → plus (plus b (Some 0)) (Some (costs number mv)) ≡ plus b (Some (costs number mv))
      by None = refl
      by (Some b) = ap (λ (n : ℕ). Some n) (omega arith)

  -- ---- what is allowed is tried

  free-tried : (before made : Prop) → is_free before made ≡ true → IsTried group.interesting made (way.Free before) ⊎ (sum (way.Free before) ≡ None)
  free-tried (prop.Hash c) prop.Spread is = by (list_any (λ (i : ColId). i.0 == c.0) group.interesting) refl
    where
      by : (test : Bool) → list_any (λ (i : ColId). i.0 == c.0) group.interesting ≡ test → IsTried group.interesting prop.Spread (way.Free (prop.Hash c)) ⊎ (sum (way.Free (prop.Hash c)) ≡ None)
      by true there = inl (any-among (λ (i : ColId). i.0 == c.0) (λ (i : ColId) (w : Way). w ≡ way.Free (prop.Hash i)) (way.Free (prop.Hash c)) (λ i same. ap (λ (x : ColId). way.Free (prop.Hash x)) (sym (column-alike i c same))) group.interesting there)
      by false none = inr (sum-free (prop.Hash c) ∙ no-bound group.interesting bounds (prop.Hash c) none)
  free-tried prop.Replicated prop.Single is = inl (inr refl)
  free-tried _ _ is = never is

  inner-tried : (made : Prop) (w : Way) → IsInnerWay group made w → IsTried group.interesting made w ⊎ (sum w ≡ None)
  inner-tried made way.Scan is = never-local is.0
  inner-tried made (way.One child) is = never-local is.0
  inner-tried made (way.Two left right) is = never-local is.0
  inner-tried made (way.Moved mv) is = inl (subst (λ (p : Prop). IsTried group.interesting p (way.Moved mv)) (same-alike (property_after mv) made (and_parts (is_same (property_after mv) made) (is_moved group mv (property_before mv)) is.1).0) (moved-tried group.interesting mv))
  inner-tried made (way.Free before) is = free-tried before made ((and_parts (is_free before made) (may_have group.interesting made) is.1).0)

  -- ---- what is tried is allowed

  moved-allowed : (mv : Move) → may_have group.interesting (property_after mv) ≡ true → IsInnerWay group (property_after mv) (way.Moved mv)
  moved-allowed mv has = (refl, and-both (is_same (property_after mv) (property_after mv)) _ (same-itself (property_after mv)) (and-both (is_same (property_before mv) (property_before mv)) _ (same-itself (property_before mv)) has))

  freed-allowed : (interesting : List ColId) (w : Way) → Among (λ (c : ColId) (w : Way). w ≡ way.Free (prop.Hash c)) interesting w → IsInnerWay group prop.Spread w
  freed-allowed [] w none = absurd none
  freed-allowed (c ∷ interesting) w (inl is) = subst (IsInnerWay group prop.Spread) (sym is) (refl, refl)
  freed-allowed (c ∷ interesting) w (inr is) = freed-allowed interesting w is

  tried-inner : (made : Prop) → may_have group.interesting made ≡ true → (w : Way) → IsTried group.interesting made w → IsInnerWay group made w
  tried-inner prop.Spread has w is = freed-allowed group.interesting w is
  tried-inner (prop.Hash c) has w (inl is) = subst (IsInnerWay group (prop.Hash c)) (sym is) (moved-allowed (move.Shuffle c) has)
  tried-inner (prop.Hash c) has w (inr is) = subst (IsInnerWay group (prop.Hash c)) (sym is) (moved-allowed (move.Trim c) has)
  tried-inner prop.Replicated has w (inl (inl is)) = subst (IsInnerWay group prop.Replicated) (sym is) (moved-allowed move.Broadcast has)
  tried-inner prop.Replicated has w (inl (inr is)) = subst (IsInnerWay group prop.Replicated) (sym is) (moved-allowed move.FromControl has)
  tried-inner prop.Replicated has w (inr is) = subst (IsInnerWay group prop.Replicated) (sym is) (moved-allowed move.FromSingle has)
  tried-inner prop.Single has w (inl is) = subst (IsInnerWay group prop.Single) (sym is) (moved-allowed move.ToSingle has)
  tried-inner prop.Single has w (inr is) = subst (IsInnerWay group prop.Single) (sym is) (refl, refl)
  tried-inner prop.Control has w is = subst (IsInnerWay group prop.Control) (sym is) (moved-allowed move.ToControl has)

  -- ---- the tries

  move-improves : (best : Option Offer) (mv : Move) → Improves sum (λ w. w ≡ way.Moved mv) best (with_move bound adds best mv)
  move-improves best mv = improves-way sum best (way.Moved mv) _ (sum-moved mv)

  free-improves : (best : Option Offer) (p : Prop) → Improves sum (λ w. w ≡ way.Free p) best (with_free bound best p)
  free-improves best p = improves-way sum best (way.Free p) _ (sum-free p)

  inner-improves : (made : Prop) → Improves sum (IsTried group.interesting made) None (inner_to bound adds group.interesting made)
  inner-improves prop.Spread = improves-fold sum (λ (c : ColId) (w : Way). w ≡ way.Free (prop.Hash c)) (λ best c. with_free bound best (prop.Hash c)) (λ best c. free-improves best (prop.Hash c)) None group.interesting
  inner-improves (prop.Hash c) = improves-both sum (move-improves None (move.Shuffle c)) (move-improves _ (move.Trim c))
  inner-improves prop.Replicated = improves-both sum (improves-both sum (move-improves None move.Broadcast) (move-improves _ move.FromControl)) (move-improves _ move.FromSingle)
  inner-improves prop.Single = improves-both sum (move-improves None move.ToSingle) (free-improves _ prop.Replicated)
  inner-improves prop.Control = move-improves None move.ToControl

  pub inner-best : (made : Prop) → may_have group.interesting made ≡ true → Best (IsInnerWay group made) sum (inner_to bound adds group.interesting made)
  inner-best made has = best-from-none sum _ (improves-like sum (inner-tried made) (tried-inner made has) (inner-improves made))
