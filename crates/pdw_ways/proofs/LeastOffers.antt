-- The offers that are found are the cheapest.
use Rattle.std.proofs.Common.{◌≡◌, ℕ, Bool, true, false, true≢false, ◌⊎◌, inl, inr, List, fold, Option, Some, None, refl, sym, ap, ap₂, subst, ◌∙◌, if◌then◌else◌}
use Rattle.std.proofs.lemmas.Bool.{and_parts}
use Rattle.std.specs.List.{slice_get}
use Rattle.pdw_groups.specs.declared.group.Group.{Group}
use Rattle.pdw_groups.specs.declared.key.GroupId.{GroupId}
use Rattle.pdw_move.specs.Move.{property_after, property_before}
use Rattle.pdw_move.specs.declared.kinds.Move.{Move}
use Rattle.pdw_move.specs.declared.kinds.Prop.{Prop}
use Rattle.pdw_rules.specs.Rules.{is_free, is_same, may_have}
use Rattle.pdw_ways.proofs.ExprWays.{AreSums, exprs-best, no-bound-in, sum-one, sum-two}
use Rattle.pdw_ways.proofs.Improves.{best-like, best-of-two}
use Rattle.pdw_ways.proofs.InnerWays.{inner-best}
use Rattle.pdw_ways.proofs.Same.{same-alike}
use Rattle.pdw_ways.specs.Bounds.{AreSmall, AtMost, IsSmall, bound_by, bound_in, plus, row_bound, sum_of}
use Rattle.pdw_ways.specs.Costing.{AgreeAt}
use Rattle.pdw_ways.specs.Offers.{Best, IsInnerWay, IsLocalWay, IsWay, is_local}
use Rattle.pdw_ways.specs.Search.{cheaper, inner_to, inner_within, local_within, with_expr}
use Rattle.pdw_ways.specs.Ways.{Costs, is_moved}
use Rattle.pdw_ways.specs.declared.offer.Offer.{Offer}
use Rattle.pdw_ways.specs.declared.way.Way.{Way}
use Rattle.pdw_ways.specs.declared.way.Way.TheVariants as way

-- nothing is made under a property that a group may not have
pub no-way : (group : Group) (made : Prop) → may_have group.interesting made ≡ false → (w : Way) → IsWay group made w → ⊥
no-way group made none way.Scan is = true≢false (sym ((and_parts (may_have group.interesting made) _ is).0) ∙ none)
no-way group made none (way.One child) is = true≢false (sym ((and_parts (may_have group.interesting made) _ is).0) ∙ none)
no-way group made none (way.Two left right) is = true≢false (sym ((and_parts (may_have group.interesting made) _ is).0) ∙ none)
no-way group made none (way.Moved mv) is =
    let parts = and_parts (is_same (property_after mv) made) (is_moved group mv (property_before mv)) is in
    let has = and_parts (is_same (property_before mv) (property_before mv)) (may_have group.interesting (property_after mv)) parts.1 in
    true≢false (sym (subst (λ (p : Prop). may_have group.interesting p ≡ true) (same-alike (property_after mv) made parts.0) has.1) ∙ none)
no-way group made none (way.Free before) is = true≢false (sym ((and_parts (is_free before made) (may_have group.interesting made) is).1) ∙ none)

best-of-none : (Is : Way → Type 0) (sum : Way → Option ℕ) → ((w : Way) → Is w → ⊥) → Best Is sum None
best-of-none Is sum none = record { under = λ w is. absurd (none w is); attained = tt }

pub local-best : (groups : List Group) (lists : List (List (Option ℕ))) (group : Group) (made : Prop) (costs : Costs) (number : GroupId) → Best (IsLocalWay group made) (sum_of costs (bound_in groups lists) number) (local_within (bound_in groups lists) groups group made)
local-best groups lists group made costs number = by (may_have group.interesting made) refl
  where
    sums : AreSums groups (bound_in groups lists) (sum_of costs (bound_in groups lists) number)
    sums = record { scan = refl; one = sum-one costs (bound_in groups lists) number; two = sum-two costs (bound_in groups lists) number; absent = no-bound-in groups lists }

    by : (test : Bool) → may_have group.interesting made ≡ test → Best (IsLocalWay group made) (sum_of costs (bound_in groups lists) number) (if test then fold (with_expr (bound_in groups lists) groups made) None group.exprs else None)
    by true has = exprs-best groups (bound_in groups lists) (sum_of costs (bound_in groups lists) number) sums made group has
    by false none = best-of-none _ _ (λ w is. no-way group made none w is.1)

pub inner-best-of : (group : Group) (bounds : List (Option ℕ)) (made : Prop) (adds : Move → ℕ) (costs : Costs) (number : GroupId) → AgreeAt costs number adds → Best (IsInnerWay group made) (sum_of costs (row_bound group.interesting bounds) number) (inner_within group bounds adds made)
inner-best-of group bounds made adds costs number agree = by (may_have group.interesting made) refl
  where
    by : (test : Bool) → may_have group.interesting made ≡ test → Best (IsInnerWay group made) (sum_of costs (row_bound group.interesting bounds) number) (if test then inner_to (bound_by group.interesting bounds) adds group.interesting made else None)
    by true has = inner-best group bounds adds costs number agree made has
    by false none = best-of-none _ _ (λ w is. no-way group made none w is.1)

-- ---- all ways of a group

either-kind : (group : Group) (made : Prop) (w : Way) → IsWay group made w → IsLocalWay group made w ⊎ IsInnerWay group made w
either-kind group made w is = by (is_local w) refl
  where
    by : (test : Bool) → is_local w ≡ test → IsLocalWay group made w ⊎ IsInnerWay group made w
    by true kind = inl (kind, is)
    by false kind = inr (kind, is)

some-kind : (group : Group) (made : Prop) (w : Way) → IsLocalWay group made w ⊎ IsInnerWay group made w → IsWay group made w
some-kind group made w (inl is) = is.1
some-kind group made w (inr is) = is.1

-- bounds of a row, as they are among those of all groups
pub same-row : (groups : List Group) (lists : List (List (Option ℕ))) (number : GroupId) (group : Group) (list : List (Option ℕ)) → slice_get groups number.0 ≡ Some group → slice_get lists number.0 ≡ Some list → (p : Prop) → bound_in groups lists (record { group = number; prop = p }) ≡ bound_by group.interesting list p
same-row groups lists number group list there kept p = rw (there, kept) refl

pub small-row : (groups : List Group) (lists : List (List (Option ℕ))) → AreSmall (bound_in groups lists) → (number : GroupId) (group : Group) (list : List (Option ℕ)) → slice_get groups number.0 ≡ Some group → slice_get lists number.0 ≡ Some list → (p : Prop) → IsSmall (bound_by group.interesting list p)
small-row groups lists small number group list there kept p = subst IsSmall (same-row groups lists number group list there kept p) (small (record { group = number; prop = p }))

module _ (groups : List Group) (lists : List (List (Option ℕ))) (costs : Costs) (number : GroupId) (group : Group) (there : slice_get groups number.0 ≡ Some group) (made : Prop) where
  abbrev sum : Way → Option ℕ
  sum = sum_of costs (bound_in groups lists) number

  abbrev local : Option Offer
  local = local_within (bound_in groups lists) groups group made

  inner-alike : (list : List (Option ℕ)) → slice_get lists number.0 ≡ Some list → (w : Way) → is_local w ≡ false → sum_of costs (row_bound group.interesting list) number w ≡ sum w
  inner-alike list kept way.Scan wrong = absurd (true≢false wrong)
  inner-alike list kept (way.One child) wrong = absurd (true≢false wrong)
  inner-alike list kept (way.Two left right) wrong = absurd (true≢false wrong)
  inner-alike list kept (way.Moved mv) kind = ap (λ (b : Option ℕ). plus (plus b (Some 0)) (Some (costs number mv))) (sym (same-row groups lists number group list there kept (property_before mv)))
  inner-alike list kept (way.Free before) kind = ap (λ (b : Option ℕ). plus (plus b (Some 0)) (Some 0)) (sym (same-row groups lists number group list there kept before))

  alike-best : (list : List (Option ℕ)) → slice_get lists number.0 ≡ Some list → (offer : Option Offer) → Best (IsInnerWay group made) (sum_of costs (row_bound group.interesting list) number) offer → Best (IsInnerWay group made) sum offer
  alike-best list kept None best = record {
    under = λ w is. subst (λ limit. AtMost None limit) (inner-alike list kept w is.0) (best.under w is);
    attained = tt;
  }
  alike-best list kept (Some offer) best = record {
    under = λ w is. subst (λ limit. AtMost (Some offer.cost) limit) (inner-alike list kept w is.0) (best.under w is);
    attained = (best.attained.0, sym (inner-alike list kept offer.way best.attained.0.0) ∙ best.attained.1);
  }

  pub least-with : (adds : Move → ℕ) → AgreeAt costs number adds → (list : List (Option ℕ)) → slice_get lists number.0 ≡ Some list → Best (IsWay group made) sum (cheaper local (inner_within group list adds made))
  least-with adds agree list kept = best-like sum _ (either-kind-or list) (some-kind group made)
      (best-of-two sum local (inner_within group list adds made) (local-best groups lists group made costs number) (alike-best list kept _ (inner-best-of group list made adds costs number agree)))
    where
      either-kind-or : (list : List (Option ℕ)) (w : Way) → IsWay group made w → (IsLocalWay group made w ⊎ IsInnerWay group made w) ⊎ (sum w ≡ None)
      either-kind-or list w is = inl (either-kind group made w is)

  pub least-without : slice_get lists number.0 ≡ None → Best (IsWay group made) sum local
  least-without none = best-like sum local back (λ w is. is.1) (local-best groups lists group made costs number)
    where
      unreached : (p : Prop) → bound_in groups lists (record { group = number; prop = p }) ≡ None
      unreached p = rw (there, none) refl

      by : (w : Way) → is_local w ≡ false → sum w ≡ None
      by way.Scan wrong = absurd (true≢false wrong)
      by (way.One child) wrong = absurd (true≢false wrong)
      by (way.Two left right) wrong = absurd (true≢false wrong)
      by (way.Moved mv) kind = ap (λ (b : Option ℕ). plus (plus b (Some 0)) (Some (costs number mv))) (unreached (property_before mv))
      by (way.Free before) kind = ap (λ (b : Option ℕ). plus (plus b (Some 0)) (Some 0)) (unreached before)

      back : (w : Way) → IsWay group made w → IsLocalWay group made w ⊎ (sum w ≡ None)
      back w is = elim (either-kind group made w is) [ inl local ↦ inl local | inr inner ↦ inr (by w inner.0) ]

-- ---- as the code finds them

module _ (groups : List Group) (lists : List (List (Option ℕ))) (costs : Costs) (number : GroupId) (made : Prop) (group found : Group) (there : slice_get groups number.0 ≡ Some group) (at : Some found ≡ slice_get groups number.0) where
  same-group : found ≡ group
  same-group = let both : Some found ≡ Some group = at ∙ there in cc

  pub least-found : (adds : Move → ℕ) → AgreeAt costs number adds → (list bounds : List (Option ℕ)) (local inner result : Option Offer) → Some list ≡ slice_get lists number.0 → bounds ≡ list → local ≡ local_within (bound_in groups lists) groups found made → inner ≡ inner_within found bounds adds made
      → result ≡ cheaper local inner → Best (IsWay group made) (sum_of costs (bound_in groups lists) number) result
  least-found adds agree list bounds local inner result kept same one two is =
      let first : local ≡ local_within (bound_in groups lists) groups group made = one ∙ ap (λ (g : Group). local_within (bound_in groups lists) groups g made) same-group in
      let second : inner ≡ inner_within group list adds made = two ∙ ap (λ (g : Group). inner_within g bounds adds made) same-group ∙ ap (λ (b : List (Option ℕ)). inner_within group b adds made) same in
      subst (Best (IsWay group made) (sum_of costs (bound_in groups lists) number)) (sym (is ∙ ap₂ cheaper first second)) (least-with groups lists costs number group there made adds agree list (sym kept))

  pub least-missing : (local : Option Offer) → None ≡ slice_get lists number.0 → local ≡ local_within (bound_in groups lists) groups found made → Best (IsWay group made) (sum_of costs (bound_in groups lists) number) local
  least-missing local none one =
      subst (Best (IsWay group made) (sum_of costs (bound_in groups lists) number)) (sym (one ∙ ap (λ (g : Group). local_within (bound_in groups lists) groups g made) same-group)) (least-without groups lists costs number group there made (sym none))
