-- A fall keeps what is known of the group at hand.
use Rattle.std.proofs.Common.{◌≡◌, ◌==◌, ◌&&◌, ℕ, suc, Bool, true, false, ◌||◌, true≢false, List, [], ◌∷◌, ◌++◌, Option, Some, None, refl, sym, ap, subst, ◌∙◌, arith, if◌then◌else◌}
use Rattle.std.proofs.lemmas.Bool.{and_parts, eqb-false, ltb-true, ltb-false, ne_eqb}
use Rattle.std.proofs.lemmas.List.Sums.{fold-append}
use Rattle.std.specs.List.{list_any}
use Rattle.std.specs.Option.{IfSome, option_map}
use Rattle.pdw_groups.specs.declared.group.Group.{Group}
use Rattle.pdw_groups.specs.declared.key.GroupId.{GroupId}
use Rattle.pdw_move.specs.Move.{property_after, property_before}
use Rattle.pdw_move.specs.declared.kinds.Prop.{Prop}
use Rattle.pdw_rules.proofs.Listed.{listed}
use Rattle.pdw_rules.specs.Rules.{is_free, is_same, may_have, properties_of}
use Rattle.pdw_ways.proofs.Numbers.{at_most-refl}
use Rattle.pdw_ways.proofs.Same.{group-itself, never, same-alike, same-itself}
use Rattle.pdw_ways.specs.Bounds.{AtMost, Bound, bound_by, place_among}
use Rattle.pdw_ways.specs.Offers.{cost_of_offer}
use Rattle.pdw_ways.specs.Ways.{Costs, is_moved, is_way}
use Rattle.pdw_ways.specs.declared.made.Made.{Made}
use Rattle.pdw_ways.specs.declared.offer.Offer.{Offer}
use Rattle.pdw_ways.specs.declared.way.Way.{Way}
use Rattle.pdw_ways.specs.declared.way.Way.TheVariants as way
use Rattle.pdw_least.proofs.Logs.{log-more, made-alike}
use Rattle.pdw_least.proofs.Rows.{bound-set, put-size}
use Rattle.pdw_least.specs.Log.{IsBelow, IsEntry, bounds_after, is_same_made, none_before, put}
use Rattle.pdw_least.specs.States.{IsWorking, bound_here, is_lower, lowered_log, lowered_row, put_at}
use Rattle.pdw_least.specs.declared.entry.Entry.{Entry}

pub after-more : (log : List Entry) (entry : Entry) → bounds_after (log ++ entry ∷ []) ≡ put (bounds_after log) entry
after-more log entry = fold-append put none_before log (entry ∷ [])

-- whatever has a way may be had
pub has-way : (group : Group) (p : Prop) (w : Way) → is_way group p w ≡ true → may_have group.interesting p ≡ true
has-way group p way.Scan is = (and_parts (may_have group.interesting p) _ is).0
has-way group p (way.One child) is = (and_parts (may_have group.interesting p) _ is).0
has-way group p (way.Two left right) is = (and_parts (may_have group.interesting p) _ is).0
has-way group p (way.Moved mv) is =
    let parts = and_parts (is_same (property_after mv) p) (is_moved group mv (property_before mv)) is in
    subst (λ (q : Prop). may_have group.interesting q ≡ true) (same-alike (property_after mv) p parts.0) ((and_parts (is_same (property_before mv) (property_before mv)) (may_have group.interesting (property_after mv)) parts.1).1)
has-way group p (way.Free before) is = (and_parts (is_free before p) (may_have group.interesting p) is).1

pub listed-way : (group : Group) (p : Prop) (w : Way) → is_way group p w ≡ true → list_any (is_same p) (properties_of group.interesting) ≡ true
listed-way group p w is = listed group.interesting p ∙ has-way group p w is

placed : {K : Type 0} (test : K → Bool) (keys : List K) → list_any test keys ≡ true → (place : ℕ) × (place_among test keys ≡ Some place)
placed test [] is = never is
placed test (key ∷ keys) is = by (test key) is (placed test keys)
  where
    by : (passes : Bool) → (passes || list_any test keys) ≡ true → (list_any test keys ≡ true → (place : ℕ) × (place_among test keys ≡ Some place)) → (place : ℕ) × ((if passes then Some 0 else option_map suc (place_among test keys)) ≡ Some place)
    by true is rest = (0, refl)
    by false is rest = (let found = rest is in (suc found.0, ap (option_map suc) found.1))

lower-below : (cost : ℕ) (bound : Option ℕ) → is_lower cost bound ≡ true → IsBelow cost bound
lower-below cost None is = tt
lower-below cost (Some bound) is = ltb-true cost bound is

-- ---- what an entry changes

abbrev pub here : GroupId → Prop → Made
here number p = record { group = number; prop = p }

abbrev pub entry : GroupId → Prop → Way → ℕ → Entry
entry number p w cost = record { made = here number p; way = w; cost = cost }

same-group : (number : GroupId) (test : Bool) → ((number.0 == number.0) && test) ≡ test
same-group number test = ap (λ (same : Bool). same && test) (group-itself number)

module _ (bound : Bound) (number : GroupId) (p : Prop) (w : Way) (cost : ℕ) where
  pub put-mine : (q : Prop) → put bound (entry number p w cost) (here number q) ≡ (if is_same p q then Some cost else bound (here number q))
  put-mine q = ap (λ (test : Bool). if test then Some cost else bound (here number q)) (same-group number (is_same p q))

  pub put-elsewhere : (made : Made) → (number.0 == made.group.0) ≡ false → put bound (entry number p w cost) made ≡ bound made
  put-elsewhere made other = ap (λ (test : Bool). if test && is_same p made.prop then Some cost else bound made) other

  pub put-falls : is_lower cost (bound (here number p)) ≡ true → (made : Made) → AtMost (put bound (entry number p w cost) made) (bound made)
  put-falls lower made = by (is_same_made (here number p) made) refl
    where
      less : (b : Option ℕ) → is_lower cost b ≡ true → AtMost (Some cost) b
      less None is = tt
      less (Some b) is = omega (arith, ltb-true cost b is)

      by : (test : Bool) → is_same_made (here number p) made ≡ test → AtMost (if test then Some cost else bound made) (bound made)
      by true same = subst (λ (m : Made). AtMost (Some cost) (bound m)) (made-alike (here number p) made same) (less (bound (here number p)) lower)
      by false other = at_most-refl (bound made)

turned-false : (a b : ℕ) → (a == b) ≡ false → (b == a) ≡ false
turned-false a b other = ne_eqb b a (λ same. eqb-false a b other (sym same))

module _ (groups : List Group) (costs : Costs) (lists : List (List (Option ℕ))) (number : GroupId) (group : Group) where
  abbrev Working : List (Option ℕ) → List Entry → Type 0
  Working = IsWorking groups costs lists number group

  working-more : (row : List (Option ℕ)) (log : List Entry) → Working row log → (p : Prop) (w : Way) (cost : ℕ) → IsEntry groups costs (bounds_after log) (entry number p w cost) → IsBelow cost (bounds_after log (here number p))
      → list_any (is_same p) (properties_of group.interesting) ≡ true
      → Working (put_at (place_among (is_same p) (properties_of group.interesting)) cost row) (log ++ entry number p w cost ∷ [])
  working-more row log working p w cost is below there =
      let found = placed (is_same p) (properties_of group.interesting) there in
      subst (λ (place : Option ℕ). Working (put_at place cost row) (log ++ entry number p w cost ∷ [])) (sym found.1) (record {
        is_log = log-more groups costs none_before log (entry number p w cost) working.is_log is below;
        mine = λ q. bound-set group.interesting row working.size p found.0 cost found.1 q
            ∙ ap (λ (b : Option ℕ). if is_same p q then Some cost else b) (working.mine q)
            ∙ sym (put-mine (bounds_after log) number p w cost q)
            ∙ ap (λ (bound : Bound). bound (here number q)) (sym (after-more log (entry number p w cost)));
        elsewhere = λ made other. working.elsewhere made other
            ∙ sym (put-elsewhere (bounds_after log) number p w cost made (turned-false made.group.0 number.0 other))
            ∙ ap (λ (bound : Bound). bound made) (sym (after-more log (entry number p w cost)));
        size = put-size (Some found.0) cost row ∙ working.size;
      })

  -- ---- after an offer is looked at

  module _ (row : List (Option ℕ)) (log : List Entry) (working : Working row log) (p : Prop) where
    -- what an offer must be, to be put into the log
    abbrev pub IsFit : Option Offer → Type 0
    IsFit offer = IfSome offer (λ (o : Offer). IsEntry groups costs (bounds_after log) (entry number p o.way o.cost) × (list_any (is_same p) (properties_of group.interesting) ≡ true))

    abbrev bound_row : Option ℕ
    bound_row = bound_by group.interesting row p

    abbrev new_log : Option Offer → List Entry
    new_log offer = lowered_log (here number p) offer bound_row log

    abbrev after : Option Offer → Prop → Option ℕ
    after offer = bound_here groups costs lists number group (new_log offer)

    abbrev before : Prop → Option ℕ
    before = bound_here groups costs lists number group log

    pub lower-here : (cost : ℕ) (test : Bool) → is_lower cost bound_row ≡ test → is_lower cost (before p) ≡ test
    lower-here cost test is = ap (is_lower cost) (sym (working.mine p)) ∙ is

    pub lowered-working : (offer : Option Offer) → IsFit offer → Working (lowered_row group.interesting p offer row) (new_log offer)
    lowered-working None fit = working
    lowered-working (Some o) fit = by (is_lower o.cost bound_row) refl
      where
        by : (test : Bool) → is_lower o.cost bound_row ≡ test → Working (if test then put_at (place_among (is_same p) (properties_of group.interesting)) o.cost row else row) (if test then log ++ entry number p o.way o.cost ∷ [] else log)
        by true lower = working-more row log working p o.way o.cost fit.0 (lower-below o.cost (before p) (lower-here o.cost true lower)) fit.1
        by false other = working

    pub lowered-falls : (offer : Option Offer) (made : Made) → AtMost (bounds_after (new_log offer) made) (bounds_after log made)
    lowered-falls None made = at_most-refl (bounds_after log made)
    lowered-falls (Some o) made = by (is_lower o.cost bound_row) refl
      where
        by : (test : Bool) → is_lower o.cost bound_row ≡ test → AtMost (bounds_after (if test then log ++ entry number p o.way o.cost ∷ [] else log) made) (bounds_after log made)
        by true lower = subst (λ (bound : Bound). AtMost (bound made) (bounds_after log made)) (sym (after-more log (entry number p o.way o.cost))) (put-falls (bounds_after log) number p o.way o.cost (lower-here o.cost true lower) made)
        by false other = at_most-refl (bounds_after log made)

    -- what is found afterwards: the offer's cost where it was lower, or what was found before
    pub lowered-bound : (o : Offer) (q : Prop) → after (Some o) q ≡ (if is_lower o.cost (before p) then (if is_same p q then Some o.cost else before q) else before q)
    lowered-bound o q = by (is_lower o.cost bound_row) refl
      where
        by : (test : Bool) → is_lower o.cost bound_row ≡ test → bounds_after (if test then log ++ entry number p o.way o.cost ∷ [] else log) (here number q) ≡ (if is_lower o.cost (before p) then (if is_same p q then Some o.cost else before q) else before q)
        by true lower = rw (lower-here o.cost true lower) (ap (λ (bound : Bound). bound (here number q)) (after-more log (entry number p o.way o.cost)) ∙ put-mine (bounds_after log) number p o.way o.cost q)
        by false other = rw (lower-here o.cost false other) refl

    not-lower : (cost : ℕ) (bound : Option ℕ) → is_lower cost bound ≡ false → AtMost bound (Some cost)
    not-lower cost None is = absurd (true≢false is)
    not-lower cost (Some bound) is = ltb-false cost bound is

    pub lowered-under : (offer : Option Offer) → AtMost (after offer p) (cost_of_offer offer)
    lowered-under None = tt
    lowered-under (Some o) = subst (λ (bound : Option ℕ). AtMost bound (Some o.cost)) (sym (lowered-bound o p)) (by (is_lower o.cost (before p)) refl)
      where
        by : (test : Bool) → is_lower o.cost (before p) ≡ test → AtMost (if test then (if is_same p p then Some o.cost else before p) else before p) (Some o.cost)
        by true lower = rw (same-itself p) (at_most-refl (Some o.cost))
        by false other = not-lower o.cost (before p) other
