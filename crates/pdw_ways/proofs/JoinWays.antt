-- The joins that are tried are those that the rule allows.
use Rattle.std.proofs.Common.{◌≡◌, ◌==◌, ℕ, Bool, true, false, not, ◌&&◌, ◌||◌, ◌⊎◌, inl, inr, List, [], ◌∷◌, fold, Option, refl, sym, ap₂, subst, ◌∙◌}
use Rattle.std.proofs.lemmas.Bool.{and_parts, or_cases}
use Rattle.pdw_base.specs.declared.schema.ColId.{ColId}
use Rattle.pdw_expr.specs.declared.agg.JoinKind.{JoinKind}
use Rattle.pdw_expr.specs.declared.cond.Cond.{Cond}
use Rattle.pdw_groups.specs.Columns.{equality_columns}
use Rattle.pdw_groups.specs.declared.key.GroupId.{GroupId}
use Rattle.pdw_move.specs.declared.kinds.Prop.{Prop}
use Rattle.pdw_move.specs.declared.kinds.Prop.TheVariants as prop
use Rattle.pdw_rules.specs.Rules.{equates, hashes_rule, is_divided, is_full, is_inner, is_pair, is_same, is_whole, join_rule, matched_rule, matches_on, one_site_rule, replicated_left_rule, replicated_right_rule}
use Rattle.pdw_ways.proofs.Improves.{Among, Improves, any-among, improves-both, improves-fold, improves-if, improves-like, improves-nothing, improves-way, or-left, or-right}
use Rattle.pdw_ways.proofs.Same.{column-alike, column-itself, never, same-alike, same-itself}
use Rattle.pdw_ways.specs.Bounds.{Bound, plus}
use Rattle.pdw_ways.specs.Search.{with_columns, with_conjunct, with_hashes, with_join, with_left_replicated, with_right_replicated}
use Rattle.pdw_ways.specs.declared.made.Made.{Made}
use Rattle.pdw_ways.specs.declared.offer.Offer.{Offer}
use Rattle.pdw_ways.specs.declared.way.Way.{Way}
use Rattle.pdw_ways.specs.declared.way.Way.TheVariants as way

pub and-both : (a b : Bool) → a ≡ true → b ≡ true → (a && b) ≡ true
and-both true b first second = second
and-both false b first second = never first

-- ---- two columns, compared in either order

pair-either : (a b c d : ColId) → is_pair a b (c ∷ d ∷ []) ≡ true → ((c ≡ a) × (d ≡ b)) ⊎ ((c ≡ b) × (d ≡ a))
pair-either a b c d is = elim (or_cases ((c.0 == a.0) && (d.0 == b.0)) ((c.0 == b.0) && (d.0 == a.0)) is) [
  | inl there ↦ (let parts = and_parts (c.0 == a.0) (d.0 == b.0) there in inl (column-alike c a parts.0, column-alike d b parts.1))
  | inr turned ↦ (let parts = and_parts (c.0 == b.0) (d.0 == a.0) turned in inr (column-alike c b parts.0, column-alike d a parts.1))
]

pair-there : (a b : ColId) → is_pair a b (a ∷ b ∷ []) ≡ true
pair-there a b = or-left ((a.0 == a.0) && (b.0 == b.0)) ((a.0 == b.0) && (b.0 == a.0)) (and-both (a.0 == a.0) (b.0 == b.0) (column-itself a) (column-itself b))

pair-turned : (a b : ColId) → is_pair a b (b ∷ a ∷ []) ≡ true
pair-turned a b = or-right ((b.0 == a.0) && (a.0 == b.0)) ((b.0 == b.0) && (a.0 == a.0)) (and-both (b.0 == b.0) (a.0 == a.0) (column-itself b) (column-itself a))

-- ---- ways of a join

module _ (left right : GroupId) (made : Prop) where
  abbrev pub sides : Prop → Prop → Way
  sides p q = let first : Made = record { group = left; prop = p } in let second : Made = record { group = right; prop = q } in way.Two first second

  abbrev IsHashed : JoinKind → ColId → ColId → Way → Type 0
  IsHashed kind a b w = (matched_rule kind a b made ≡ true) × (w ≡ sides (prop.Hash a) (prop.Hash b))

  abbrev IsByColumns : JoinKind → List ColId → Way → Type 0
  IsByColumns kind [] w = ⊥
  IsByColumns kind (a ∷ []) w = ⊥
  IsByColumns kind (a ∷ b ∷ rest) w = IsHashed kind a b w ⊎ IsHashed kind b a w

  abbrev IsByConjunct : JoinKind → Cond → Way → Type 0
  IsByConjunct kind conjunct w = IsByColumns kind (equality_columns conjunct) w

  abbrev IsTried : JoinKind → List Cond → Way → Type 0
  IsTried kind conds w =
      ((Among (IsByConjunct kind) conds w ⊎ (((not (is_full kind) && is_divided made) ≡ true) × (w ≡ sides made prop.Replicated)))
      ⊎ (((is_inner kind && is_divided made) ≡ true) × (w ≡ sides prop.Replicated made)))
      ⊎ ((is_whole made ≡ true) × (w ≡ sides made made))

  -- a join that its rule allows
  pub record IsJoin (kind : JoinKind) (conds : List Cond) (w : Way) : Type 0 where
    pub left_prop : Prop
    pub right_prop : Prop
    pub is : w ≡ sides left_prop right_prop
    pub rule : join_rule kind conds left_prop right_prop made ≡ true

  -- ---- what is allowed is tried

  columns-tried : (kind : JoinKind) (a b : ColId) → matched_rule kind a b made ≡ true → (columns : List ColId) → is_pair a b columns ≡ true → IsByColumns kind columns (sides (prop.Hash a) (prop.Hash b))
  columns-tried kind a b matched [] is = never is
  columns-tried kind a b matched (c ∷ []) is = never is
  columns-tried kind a b matched (c ∷ d ∷ rest) is = elim (pair-either a b c d is) [
    | inl (first, second) ↦ subst (λ (x : ColId). IsHashed kind x d (sides (prop.Hash a) (prop.Hash b)) ⊎ IsHashed kind d x (sides (prop.Hash a) (prop.Hash b))) (sym first)
        (subst (λ (y : ColId). IsHashed kind a y (sides (prop.Hash a) (prop.Hash b)) ⊎ IsHashed kind y a (sides (prop.Hash a) (prop.Hash b))) (sym second) (inl (matched, refl)))
    | inr (first, second) ↦ subst (λ (x : ColId). IsHashed kind x d (sides (prop.Hash a) (prop.Hash b)) ⊎ IsHashed kind d x (sides (prop.Hash a) (prop.Hash b))) (sym first)
        (subst (λ (y : ColId). IsHashed kind b y (sides (prop.Hash a) (prop.Hash b)) ⊎ IsHashed kind y b (sides (prop.Hash a) (prop.Hash b))) (sym second) (inr (matched, refl)))
  ]

  hashes-tried : (kind : JoinKind) (conds : List Cond) (p q : Prop) → hashes_rule kind conds p q made ≡ true → IsTried kind conds (sides p q)
  hashes-tried kind conds (prop.Hash a) (prop.Hash b) is =
      let parts = and_parts (matches_on conds a b) (matched_rule kind a b made) is in
      inl (inl (inl (any-among (equates a b) (IsByConjunct kind) (sides (prop.Hash a) (prop.Hash b)) (λ conjunct there. columns-tried kind a b parts.1 (equality_columns conjunct) there) conds parts.0)))
  hashes-tried kind conds _ _ is = never is

  right-tried : (kind : JoinKind) (conds : List Cond) (p q : Prop) → replicated_right_rule kind p q made ≡ true → IsTried kind conds (sides p q)
  right-tried kind conds p q is =
      let first = and_parts (not (is_full kind)) (is_divided p && (is_same q prop.Replicated && is_same p made)) is in
      let second = and_parts (is_divided p) (is_same q prop.Replicated && is_same p made) first.1 in
      let third = and_parts (is_same q prop.Replicated) (is_same p made) second.1 in
      let same = same-alike p made third.1 in
      inl (inl (inr (and-both (not (is_full kind)) (is_divided made) first.0 (subst (λ (x : Prop). is_divided x ≡ true) same second.0), ap₂ sides same (same-alike q prop.Replicated third.0))))

  left-tried : (kind : JoinKind) (conds : List Cond) (p q : Prop) → replicated_left_rule kind p q made ≡ true → IsTried kind conds (sides p q)
  left-tried kind conds p q is =
      let first = and_parts (is_inner kind) (is_same p prop.Replicated && (is_divided q && is_same q made)) is in
      let second = and_parts (is_same p prop.Replicated) (is_divided q && is_same q made) first.1 in
      let third = and_parts (is_divided q) (is_same q made) second.1 in
      let same = same-alike q made third.1 in
      inl (inr (and-both (is_inner kind) (is_divided made) first.0 (subst (λ (x : Prop). is_divided x ≡ true) same third.0), ap₂ sides (same-alike p prop.Replicated second.0) same))

  site-tried : (kind : JoinKind) (conds : List Cond) (p q : Prop) → one_site_rule p q made ≡ true → IsTried kind conds (sides p q)
  site-tried kind conds p q is =
      let first = and_parts (is_whole p) (is_same p q && is_same p made) is in
      let second = and_parts (is_same p q) (is_same p made) first.1 in
      let same = same-alike p made second.1 in
      inr (subst (λ (x : Prop). is_whole x ≡ true) same first.0, ap₂ sides same (sym (same-alike p q second.0) ∙ same))

  rule-tried : (kind : JoinKind) (conds : List Cond) (p q : Prop) → join_rule kind conds p q made ≡ true → IsTried kind conds (sides p q)
  rule-tried kind conds p q rule = by (or_cases (hashes_rule kind conds p q made) (replicated_right_rule kind p q made || (replicated_left_rule kind p q made || one_site_rule p q made)) rule)
    where
      last : ((replicated_left_rule kind p q made ≡ true) ⊎ (one_site_rule p q made ≡ true)) → IsTried kind conds (sides p q)
      last (inl is) = left-tried kind conds p q is
      last (inr is) = site-tried kind conds p q is

      middle : ((replicated_right_rule kind p q made ≡ true) ⊎ ((replicated_left_rule kind p q made || one_site_rule p q made) ≡ true)) → IsTried kind conds (sides p q)
      middle (inl is) = right-tried kind conds p q is
      middle (inr is) = last (or_cases (replicated_left_rule kind p q made) (one_site_rule p q made) is)

      by : ((hashes_rule kind conds p q made ≡ true) ⊎ ((replicated_right_rule kind p q made || (replicated_left_rule kind p q made || one_site_rule p q made)) ≡ true)) → IsTried kind conds (sides p q)
      by (inl is) = hashes-tried kind conds p q is
      by (inr is) = middle (or_cases (replicated_right_rule kind p q made) (replicated_left_rule kind p q made || one_site_rule p q made) is)

  pub join-tried : (kind : JoinKind) (conds : List Cond) (w : Way) → IsJoin kind conds w → IsTried kind conds w
  join-tried kind conds w join = subst (IsTried kind conds) (sym join.is) (rule-tried kind conds join.left_prop join.right_prop join.rule)

  -- ---- what is tried is allowed

  -- the hashes that are tried of a way are those of columns that a conjunct compares
  record ByHashes (kind : JoinKind) (test : ColId → ColId → Bool) (w : Way) : Type 0 where
    pub a : ColId
    pub b : ColId
    pub matched : matched_rule kind a b made ≡ true
    pub is : w ≡ sides (prop.Hash a) (prop.Hash b)
    pub there : test a b ≡ true

  columns-allowed : (kind : JoinKind) (columns : List ColId) (w : Way) → IsByColumns kind columns w → ByHashes kind (λ a b. is_pair a b columns) w
  columns-allowed kind [] w none = absurd none
  columns-allowed kind (c ∷ []) w none = absurd none
  columns-allowed kind (a ∷ b ∷ rest) w (inl is) = record { a = a; b = b; matched = is.0; is = is.1; there = pair-there a b }
  columns-allowed kind (a ∷ b ∷ rest) w (inr is) = record { a = b; b = a; matched = is.0; is = is.1; there = pair-turned b a }

  among-allowed : (kind : JoinKind) (conds : List Cond) (w : Way) → Among (IsByConjunct kind) conds w → ByHashes kind (matches_on conds) w
  among-allowed kind [] w none = absurd none
  among-allowed kind (conjunct ∷ conds) w (inl here) =
      let by = columns-allowed kind (equality_columns conjunct) w here in
      record { a = by.a; b = by.b; matched = by.matched; is = by.is; there = or-left (equates by.a by.b conjunct) (matches_on conds by.a by.b) by.there }
  among-allowed kind (conjunct ∷ conds) w (inr there) =
      let by = among-allowed kind conds w there in
      record { a = by.a; b = by.b; matched = by.matched; is = by.is; there = or-right (equates by.a by.b conjunct) (matches_on conds by.a by.b) by.there }

  pub tried-allowed : (kind : JoinKind) (conds : List Cond) (w : Way) → IsTried kind conds w → IsJoin kind conds w
  tried-allowed kind conds w (inl (inl (inl among))) =
      let by = among-allowed kind conds w among in
      record { left_prop = prop.Hash by.a; right_prop = prop.Hash by.b; is = by.is; rule = or-left (matches_on conds by.a by.b && matched_rule kind by.a by.b made) _ (and-both (matches_on conds by.a by.b) (matched_rule kind by.a by.b made) by.there by.matched) }
  tried-allowed kind conds w (inl (inl (inr is))) =
      let parts = and_parts (not (is_full kind)) (is_divided made) is.0 in
      record {
        left_prop = made;
        right_prop = prop.Replicated;
        is = is.1;
        rule = or-right (hashes_rule kind conds made prop.Replicated made) _ (or-left (replicated_right_rule kind made prop.Replicated made) _
            (and-both (not (is_full kind)) _ parts.0 (and-both (is_divided made) _ parts.1 (same-itself made))));
      }
  tried-allowed kind conds w (inl (inr is)) =
      let parts = and_parts (is_inner kind) (is_divided made) is.0 in
      record {
        left_prop = prop.Replicated;
        right_prop = made;
        is = is.1;
        rule = or-right (hashes_rule kind conds prop.Replicated made made) _ (or-right (replicated_right_rule kind prop.Replicated made made) _ (or-left (replicated_left_rule kind prop.Replicated made made) _
            (and-both (is_inner kind) _ parts.0 (and-both (is_divided made) (is_same made made) parts.1 (same-itself made)))));
      }
  tried-allowed kind conds w (inr is) = record {
    left_prop = made;
    right_prop = made;
    is = is.1;
    rule = or-right (hashes_rule kind conds made made made) _ (or-right (replicated_right_rule kind made made made) _ (or-right (replicated_left_rule kind made made made) _
        (and-both (is_whole made) _ is.0 (and-both (is_same made made) (is_same made made) (same-itself made) (same-itself made)))));
  }

  -- ---- the tries

  module _ (sum : Way → Option ℕ) (bound : Bound) (sums : (first second : Made) → sum (way.Two first second) ≡ plus (bound first) (bound second)) where
    hashes-improve : (kind : JoinKind) (best : Option Offer) (a b : ColId) → Improves sum (IsHashed kind a b) best (with_hashes bound left right made kind best a b)
    hashes-improve kind best a b = improves-if sum (matched_rule kind a b made) (λ is. improves-way sum best (sides (prop.Hash a) (prop.Hash b)) _ (sums _ _))

    columns-improve : (kind : JoinKind) (best : Option Offer) (columns : List ColId) → Improves sum (IsByColumns kind columns) best (with_columns bound left right made kind best columns)
    columns-improve kind best [] = improves-nothing sum (IsByColumns kind []) (λ w none. none) best
    columns-improve kind best (a ∷ []) = improves-nothing sum (IsByColumns kind (a ∷ [])) (λ w none. none) best
    columns-improve kind best (a ∷ b ∷ rest) = improves-both sum (hashes-improve kind best a b) (hashes-improve kind (with_hashes bound left right made kind best a b) b a)

    tries-improve : (kind : JoinKind) (conds : List Cond) (best : Option Offer) → Improves sum (IsTried kind conds) best (with_join bound left right made kind conds best)
    tries-improve kind conds best =
        let hashed = fold (with_conjunct bound left right made kind) best conds in
        let right_replicated = with_right_replicated bound left right made kind hashed in
        let left_replicated = with_left_replicated bound left right made kind right_replicated in
        improves-both sum (improves-both sum (improves-both sum
        (improves-fold sum (IsByConjunct kind) (with_conjunct bound left right made kind) (λ best conjunct. columns-improve kind best (equality_columns conjunct)) best conds)
        (improves-if sum (not (is_full kind) && is_divided made) (λ is. improves-way sum hashed (sides made prop.Replicated) _ (sums _ _))))
        (improves-if sum (is_inner kind && is_divided made) (λ is. improves-way sum right_replicated (sides prop.Replicated made) _ (sums _ _))))
        (improves-if sum (is_whole made) (λ is. improves-way sum left_replicated (sides made made) _ (sums _ _)))

    pub joins-improve : (kind : JoinKind) (conds : List Cond) (best : Option Offer) → Improves sum (IsJoin kind conds) best (with_join bound left right made kind conds best)
    joins-improve kind conds best = improves-like sum (λ w is. inl (join-tried kind conds w is)) (tried-allowed kind conds) (tries-improve kind conds best)
