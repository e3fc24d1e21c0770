-- The table of the groups that are done: at first, after one more group, and at the end.
use Rattle.std.proofs.Common.{◌≡◌, ◌==◌, ◌≤◌, ◌<◌, ◌+◌, ◌*◌, ◌^◌, ℕ, zero, suc, cond, Bool, true, false, true≢false, ◌⊎◌, inl, inr, List, [], ◌∷◌, ◌++◌, length, take, zip, Option, Some, None, refl, sym, ap, ap₂, subst, ◌∙◌, arith}
use Rattle.std.proofs.lemmas.Bool.{eqb-false, ne_eqb, or_cases}
use Rattle.std.proofs.lemmas.Option.{slice_get_past, slice_get_within}
use Rattle.std.specs.List.{AllByRecursion, list_any, slice_get}
use Rattle.std.specs.Map.{lookup}
use Rattle.std.specs.Option.{IfSome, option_and_then}
use Rattle.pdw_groups.specs.declared.group.Group.{Group}
use Rattle.pdw_groups.specs.declared.key.GroupId.{GroupId}
use Rattle.pdw_move.specs.Move.{property_before}
use Rattle.pdw_move.specs.declared.kinds.Prop.{Prop}
use Rattle.pdw_move.specs.declared.kinds.Prop.TheVariants.{Spread, Replicated, Single, Control}
use Rattle.pdw_rules.specs.Rules.{is_same, properties_of}
use Rattle.pdw_ways.proofs.LeastCosts.{least-costs}
use Rattle.pdw_ways.proofs.Same.{group-alike, never, same-alike}
use Rattle.pdw_ways.specs.Bounds.{AreLeast, AreSmall, AreValid, AtMost, Bound, HaveShape, IsSmall, bound_among, bound_by, bound_in, plus, sum_of}
use Rattle.pdw_ways.specs.Costing.{most_of_a_move}
use Rattle.pdw_ways.specs.Offers.{IsInnerWay, IsLocalWay, is_local}
use Rattle.pdw_ways.specs.Shape.{HasPlan}
use Rattle.pdw_ways.specs.Ways.{Costs, is_way}
use Rattle.pdw_ways.specs.declared.made.Made.{Made}
use Rattle.pdw_ways.specs.declared.way.Way.{Way}
use Rattle.pdw_ways.specs.declared.way.Way.TheVariants as way
use Rattle.pdw_least.proofs.Limits.{beyond-either, local-sums, one-most, within-more}
use Rattle.pdw_least.proofs.Logs.{log-plans}
use Rattle.pdw_least.proofs.Steps.{here, listed-way}
use Rattle.pdw_least.specs.Log.{bounds_after}
use Rattle.pdw_least.specs.Premises.{AreLight, AreOrdered, AreWithin, IsWithin, limit_of, limit_of_operators}
use Rattle.pdw_least.specs.States.{AreUnderInner, HasRoom, IsInnerGoing, IsLocalDone, IsTable, IsUnderWays, beyond, blank_row, bound_here, reached}
use Rattle.pdw_least.specs.declared.entry.Entry.{Entry}

-- ---- bounds that fit

beyond-most : (p : Prop) → beyond p ≤ 1
beyond-most p = by (beyond p) (beyond-either p)
  where
    by : (n : ℕ) → (n ≡ 0) ⊎ (n ≡ 1) → n ≤ 1
    by n (inl is) = omega arith
    by n (inr is) = omega arith

pub room-within : (weight : ℕ) (v : Prop → Option ℕ) → HasRoom (limit_of_operators weight) v → (p : Prop) → IsWithin (limit_of weight) (v p)
room-within weight v room p =
    within-more (limit_of_operators weight + most_of_a_move * (reached v + beyond p)) (limit_of weight) (v p)
    (let few = beyond-most p in
    let first = one-most (v (Spread)) in let second = one-most (v (Replicated)) in let third = one-most (v (Single)) in let fourth = one-most (v (Control)) in omega arith)
    (room p)

within-small : (weight : ℕ) (bound : Option ℕ) → weight ≤ 2 ^ 20 → IsWithin (limit_of weight) bound → IsSmall bound
within-small weight None most within = tt
within-small weight (Some bound) most within = omega arith

pub all-small : (groups : List Group) (light : AreLight groups) (bound : Bound) → AreWithin groups bound → AreSmall bound
all-small groups light bound within made = within-small (light.weight made.group.0) (bound made) (light.most made.group.0) (within light made)

pub row-small : (groups : List Group) (costs : Costs) (lists : List (List (Option ℕ))) (number : GroupId) (group : Group) (light : AreLight groups) (props : List Prop) (row : List (Option ℕ)) (log : List Entry) → IsInnerGoing groups costs lists number group props row log → (p : Prop) → IsSmall (bound_by group.interesting row p)
row-small groups costs lists number group light props row log going p =
    within-small (light.weight number.0) (bound_by group.interesting row p) (light.most number.0)
    (subst (IsWithin (limit_of (light.weight number.0))) (sym (going.working.mine p)) (room-within (light.weight number.0) (bound_here groups costs lists number group log) (going.room light) p))

-- ---- a blank row

blank-found : (test : Prop → Bool) (keys props : List Prop) → option_and_then (λ (b : Option ℕ). b) (lookup test (zip keys (blank_row props))) ≡ None
blank-found test [] props = refl
blank-found test (key ∷ keys) [] = refl
blank-found test (key ∷ keys) (p ∷ props) = by (test key) (blank-found test keys props)
  where
    by : (passes : Bool) → option_and_then (λ (b : Option ℕ). b) (lookup test (zip keys (blank_row props))) ≡ None → option_and_then (λ (b : Option ℕ). b) (cond passes (Some None) (lookup test (zip keys (blank_row props)))) ≡ None
    by true rest = refl
    by false rest = rest

blank-size : (props : List Prop) → length (blank_row props) ≡ length props
blank-size [] = refl
blank-size (p ∷ props) = ap suc (blank-size props)

-- ---- lists with one more

get-last : {X : Type 0} (xs : List X) (x : X) → slice_get (xs ++ x ∷ []) (length xs) ≡ Some x
get-last [] x = refl
get-last (first ∷ xs) x = get-last xs x

more-size : {X : Type 0} (xs : List X) (x : X) → length (xs ++ x ∷ []) ≡ suc (length xs)
more-size [] x = refl
more-size (first ∷ xs) x = ap suc (more-size xs x)

get-other : {X : Type 0} (xs : List X) (x : X) (k : ℕ) → (k ≡ length xs → ⊥) → slice_get (xs ++ x ∷ []) k ≡ slice_get xs k
get-other [] x zero other = absurd (other refl)
get-other [] x (suc k) other = refl
get-other (first ∷ xs) x zero other = refl
get-other (first ∷ xs) x (suc k) other = get-other xs x k (λ same. other (ap suc same))

shape-more : (groups : List Group) (lists : List (List (Option ℕ))) (row : List (Option ℕ)) (group : Group) → slice_get groups (length lists) ≡ Some group → length row ≡ length (properties_of group.interesting)
    → HaveShape (take (length lists) groups) lists → HaveShape (take (length (lists ++ row ∷ [])) groups) (lists ++ row ∷ [])
shape-more [] [] row group there size shape = absurd (cc)
shape-more [] (list ∷ lists) row group there size shape = absurd (cc)
shape-more (first ∷ groups) [] row group there size shape = (size ∙ ap (λ (g : Group). length (properties_of g.interesting)) (let same : first ≡ group = cc in sym same), shape-none groups)
  where
    shape-none : (groups : List Group) → HaveShape (take 0 groups) []
    shape-none [] = tt
    shape-none (g ∷ groups) = tt
shape-more (first ∷ groups) (list ∷ lists) row group there size shape = (shape.0, shape-more groups lists row group there size shape.1)

shape-all : (groups : List Group) (lists : List (List (Option ℕ))) → length lists ≡ length groups → HaveShape (take (length lists) groups) lists → HaveShape groups lists
shape-all [] [] size shape = tt
shape-all [] (list ∷ lists) size shape = absurd (omega arith)
shape-all (group ∷ groups) [] size shape = absurd (omega arith)
shape-all (group ∷ groups) (list ∷ lists) size shape = (shape.0, shape-all groups lists (omega arith) shape.1)

-- ---- sums by equal bounds

sums-alike : (costs : Costs) (bound after : Bound) → ((made : Made) → bound made ≡ after made) → (number : GroupId) (w : Way) → sum_of costs bound number w ≡ sum_of costs after number w
sums-alike costs bound after same number way.Scan = refl
sums-alike costs bound after same number (way.One child) = ap (λ (b : Option ℕ). plus (plus b (Some 0)) (Some 0)) (same child)
sums-alike costs bound after same number (way.Two left right) = ap₂ (λ (b c : Option ℕ). plus (plus b (plus c (Some 0))) (Some 0)) (same left) (same right)
sums-alike costs bound after same number (way.Moved mv) = ap (λ (b : Option ℕ). plus (plus b (Some 0)) (Some (costs number mv))) (same (here number (property_before mv)))
sums-alike costs bound after same number (way.Free before) = ap (λ (b : Option ℕ). plus (plus b (Some 0)) (Some 0)) (same (here number before))

inner-alike : (costs : Costs) (bound after : Bound) (number : GroupId) → ((p : Prop) → bound (here number p) ≡ after (here number p)) → (w : Way) → is_local w ≡ false → sum_of costs bound number w ≡ sum_of costs after number w
inner-alike costs bound after number same way.Scan kind = absurd (true≢false kind)
inner-alike costs bound after number same (way.One child) kind = absurd (true≢false kind)
inner-alike costs bound after number same (way.Two left right) kind = absurd (true≢false kind)
inner-alike costs bound after number same (way.Moved mv) kind = ap (λ (b : Option ℕ). plus (plus b (Some 0)) (Some (costs number mv))) (same (property_before mv))
inner-alike costs bound after number same (way.Free before) kind = ap (λ (b : Option ℕ). plus (plus b (Some 0)) (Some 0)) (same before)

pick : (P : Prop → Type 0) (props : List Prop) → AllByRecursion P props → (p : Prop) → list_any (is_same p) props ≡ true → P p
pick P [] all p is = never is
pick P (first ∷ props) all p is = by (or_cases (is_same p first) (list_any (is_same p) props) is) (pick P props all.1 p)
  where
    by : ((is_same p first ≡ true) ⊎ (list_any (is_same p) props ≡ true)) → (list_any (is_same p) props ≡ true → P p) → P p
    by (inl same) rest = subst P (sym (same-alike p first same)) all.0
    by (inr there) rest = rest there

module _ (groups : List Group) (costs : Costs) where
  -- ---- at first

  unreached : (made : Made) (group : Option Group) → bound_among made.prop group None ≡ None
  unreached made None = refl
  unreached made (Some group) = refl

  pub table-none : IsTable groups costs [] []
  table-none = record {
    is_log = tt;
    kept = λ made. unreached made (slice_get groups made.group.0);
    shape = none groups;
    valid = λ made wrong. absurd (omega arith);
    within = λ light made. subst (IsWithin (limit_of (light.weight made.group.0))) (sym (unreached made (slice_get groups made.group.0))) tt;
  }
    where
      none : (groups : List Group) → HaveShape (take 0 groups) []
      none [] = tt
      none (g ∷ groups) = tt

  -- ---- a group comes to hand

  module _ (lists : List (List (Option ℕ))) (number : GroupId) (is_next : number.0 ≡ length lists) (group : Group) (there : slice_get groups number.0 ≡ Some group) where
    no-list : slice_get lists number.0 ≡ None
    no-list = slice_get_past lists number.0 (omega arith)

    pub row-start : (log : List Entry) → IsTable groups costs lists log → IsLocalDone groups costs lists number group [] (blank_row (properties_of group.interesting)) log
    row-start log table = record {
      working = record {
        is_log = table.is_log;
        mine = λ p. blank-found (is_same p) (properties_of group.interesting) (properties_of group.interesting) ∙ sym (nothing p);
        elsewhere = λ made other. table.kept made;
        size = blank-size (properties_of group.interesting);
      };
      room = λ light p. subst (IsWithin (limit_of_operators (light.weight number.0))) (sym (nothing p)) tt;
      under = tt;
    }
      where
        nothing : (p : Prop) → bounds_after log (here number p) ≡ None
        nothing p = sym (table.kept (here number p)) ∙ ap (λ (list : Option (List (Option ℕ))). bound_among p (slice_get groups number.0) list) no-list ∙ unreached (here number p) (slice_get groups number.0)

    -- ---- and is done

    module _ (ordered : AreOrdered groups) (before log : List Entry) (row : List (Option ℕ)) (table : IsTable groups costs lists before)
        (going : IsInnerGoing groups costs lists number group (properties_of group.interesting) row log) (settled : AreUnderInner groups costs lists number group (properties_of group.interesting) log) where
      abbrev more : List (List (Option ℕ))
      more = lists ++ row ∷ []

      mine : (p : Prop) → bound_in groups more (here number p) ≡ bounds_after log (here number p)
      mine p =
          ap (λ (of : Option Group). bound_among p of (slice_get more number.0)) there
          ∙ ap (λ (list : Option (List (Option ℕ))). bound_among p (Some group) list) (ap (slice_get more) is_next ∙ get-last lists row)
          ∙ going.working.mine p

      others : (made : Made) → (made.group.0 == number.0) ≡ false → bound_in groups more made ≡ bound_in groups lists made
      others made other = ap (λ (list : Option (List (Option ℕ))). bound_among made.prop (slice_get groups made.group.0) list)
          (get-other lists row made.group.0 (λ same. eqb-false made.group.0 number.0 other (same ∙ sym is_next)))

      kept : (made : Made) → bound_in groups more made ≡ bounds_after log made
      kept made = by (made.group.0 == number.0) refl
        where
          by : (test : Bool) → (made.group.0 == number.0) ≡ test → bound_in groups more made ≡ bounds_after log made
          by true same = subst (λ (g : GroupId). bound_in groups more (here g made.prop) ≡ bounds_after log (here g made.prop)) (sym (group-alike made.group number same)) (mine made.prop)
          by false other = others made other ∙ going.working.elsewhere made other

      agree-below : (limit : ℕ) → limit ≤ number.0 → (made : Made) → made.group.0 < limit → bound_in groups lists made ≡ bounds_after log made
      agree-below limit low made small = going.working.elsewhere made (ne_eqb made.group.0 number.0 (λ same. absurd (omega arith)))

      -- the ways of the group at hand
      valid-here : (p : Prop) (w : Way) → is_way group p w ≡ true → AtMost (bounds_after log (here number p)) (sum_of costs (bounds_after log) number w)
      valid-here p w is = by (is_local w) refl
        where
          by : (test : Bool) → is_local w ≡ test → AtMost (bounds_after log (here number p)) (sum_of costs (bounds_after log) number w)
          by true kind =
              subst (AtMost (bounds_after log (here number p))) (local-sums groups costs number group there p ordered (bound_in groups lists) (bounds_after log) (agree-below number.0 (omega arith)) w (kind, is))
              (pick (λ (q : Prop). IsUnderWays (IsLocalWay group q) (sum_of costs (bound_in groups lists) number) (bounds_after log (here number q))) (properties_of group.interesting) going.under p (listed-way group p w is) w (kind, is))
          by false kind = pick (λ (q : Prop). IsUnderWays (IsInnerWay group q) (sum_of costs (bounds_after log) number) (bounds_after log (here number q))) (properties_of group.interesting) settled p (listed-way group p w is) w (kind, is)

      -- those of a group before it
      valid-before : (made : Made) → made.group.0 < number.0 → (of : Group) → slice_get groups made.group.0 ≡ Some of → (w : Way) → is_way of made.prop w ≡ true → AtMost (bounds_after log made) (sum_of costs (bounds_after log) made.group w)
      valid-before made small of at w is =
          subst (λ (b : Option ℕ). AtMost b (sum_of costs (bounds_after log) made.group w)) (going.working.elsewhere made (not-here made.prop))
          (subst (AtMost (bound_in groups lists made)) (by (is_local w) refl) (table.valid made (omega arith) of w at is))
        where
          not-here : (p : Prop) → (made.group.0 == number.0) ≡ false
          not-here p = ne_eqb made.group.0 number.0 (λ same. absurd (omega arith))

          by : (test : Bool) → is_local w ≡ test → sum_of costs (bound_in groups lists) made.group w ≡ sum_of costs (bounds_after log) made.group w
          by true kind = local-sums groups costs made.group of at made.prop ordered (bound_in groups lists) (bounds_after log) (agree-below made.group.0 (omega arith)) w (kind, is)
          by false kind = inner-alike costs (bound_in groups lists) (bounds_after log) made.group (λ p. going.working.elsewhere (here made.group p) (not-here p)) w kind

      valid-log : (made : Made) → made.group.0 < length more → (of : Group) (w : Way) → slice_get groups made.group.0 ≡ Some of → is_way of made.prop w ≡ true → AtMost (bounds_after log made) (sum_of costs (bounds_after log) made.group w)
      valid-log made small of w at is = by (made.group.0 == number.0) refl
        where
          by : (test : Bool) → (made.group.0 == number.0) ≡ test → AtMost (bounds_after log made) (sum_of costs (bounds_after log) made.group w)
          by true same =
              let number_is : made.group ≡ number = group-alike made.group number same in
              let group_is : of ≡ group = (let both : Some of ≡ Some group = sym at ∙ ap (λ (g : GroupId). slice_get groups g.0) number_is ∙ there in cc) in
              subst (λ (g : GroupId). AtMost (bounds_after log (here g made.prop)) (sum_of costs (bounds_after log) g w)) (sym number_is)
              (valid-here made.prop w (subst (λ (g : Group). is_way g made.prop w ≡ true) group_is is))
          by false other = valid-before made (let differ : made.group.0 ≡ number.0 → ⊥ = eqb-false made.group.0 number.0 other in let size : length more ≡ suc (length lists) = more-size lists row in omega (arith, differ)) of at w is

      within-log : AreWithin groups (bounds_after log)
      within-log light made = by (made.group.0 == number.0) refl
        where
          by : (test : Bool) → (made.group.0 == number.0) ≡ test → IsWithin (limit_of (light.weight made.group.0)) (bounds_after log made)
          by true same = subst (λ (g : GroupId). IsWithin (limit_of (light.weight g.0)) (bounds_after log (here g made.prop))) (sym (group-alike made.group number same)) (room-within (light.weight number.0) (bound_here groups costs lists number group log) (going.room light) made.prop)
          by false other = subst (IsWithin (limit_of (light.weight made.group.0))) (going.working.elsewhere made other) (table.within light made)

      pub table-more : IsTable groups costs (lists ++ row ∷ []) log
      table-more = record {
        is_log = going.working.is_log;
        kept = kept;
        shape = shape-more groups lists row group (ap (slice_get groups) (sym is_next) ∙ there) going.working.size table.shape;
        valid = λ made small of w at is. subst (λ (b : Option ℕ). AtMost b (sum_of costs (bound_in groups more) made.group w)) (sym (kept made))
            (subst (AtMost (bounds_after log made)) (sym (sums-alike costs (bound_in groups more) (bounds_after log) kept made.group w)) (valid-log made small of w at is));
        within = λ light made. subst (IsWithin (limit_of (light.weight made.group.0))) (sym (kept made)) (within-log light made);
      }

  -- ---- at the end

  module _ (lists : List (List (Option ℕ))) (log : List Entry) (table : IsTable groups costs lists log) (all : length lists ≡ length groups) where
    pub table-valid : AreValid groups costs (bound_in groups lists)
    table-valid made of w at is = table.valid made (let inside = slice_get_within groups made.group.0 of at in omega arith) of w at is

    plans-there : (made : Made) (bound : Option ℕ) → bounds_after log made ≡ bound → IfSome bound (HasPlan groups costs made)
    plans-there made None is = tt
    plans-there made (Some cost) is = log-plans groups costs log table.is_log made cost is

    pub table-least : AreLeast groups costs (bound_in groups lists)
    table-least = least-costs groups costs (bound_in groups lists) table-valid (λ made. plans-there made (bound_in groups lists made) (sym (table.kept made)))

    pub table-shape : HaveShape groups lists
    table-shape = shape-all groups lists all table.shape
