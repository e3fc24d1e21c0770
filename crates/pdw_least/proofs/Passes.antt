-- A step of each pass over the properties of the group at hand.
use Rattle.std.proofs.Common.{◌≡◌, ◌≤◌, ◌<◌, ◌^◌, ℕ, Bool, true, false, true≢false, ◌||◌, List, [], ◌∷◌, ◌++◌, Option, Some, None, refl, sym, ap, subst, ◌∙◌, arith, if◌then◌else◌}
use Rattle.std.specs.List.{AllByRecursion, list_any, slice_get}
use Rattle.std.specs.Option.{IfSome}
use Rattle.pdw_groups.specs.declared.group.Group.{Group}
use Rattle.pdw_groups.specs.declared.key.GroupId.{GroupId}
use Rattle.pdw_move.specs.Move.{property_before}
use Rattle.pdw_move.specs.declared.kinds.Move.{Move}
use Rattle.pdw_move.specs.declared.kinds.Prop.{Prop}
use Rattle.pdw_rules.specs.Rules.{is_same, properties_of}
use Rattle.pdw_ways.proofs.Numbers.{at_most-trans}
use Rattle.pdw_ways.specs.Bounds.{AtMost, Bound, bound_by, bound_in, plus, row_bound, sum_of}
use Rattle.pdw_ways.specs.Costing.{most_of_a_move}
use Rattle.pdw_ways.specs.Offers.{Best, IsInnerWay, IsLocalWay, cost_of_offer}
use Rattle.pdw_ways.specs.Ways.{Costs}
use Rattle.pdw_ways.specs.declared.made.Made.{Made}
use Rattle.pdw_ways.specs.declared.offer.Offer.{Offer}
use Rattle.pdw_ways.specs.declared.way.Way.{Way}
use Rattle.pdw_ways.specs.declared.way.Way.TheVariants as way
use Rattle.pdw_least.proofs.Limits.{inner-from, local-limit, local-sums, room-step, smaller-other, within-more}
use Rattle.pdw_least.proofs.Rows.{lowered-worth}
use Rattle.pdw_least.proofs.Steps.{IsFit, after-more, entry, here, listed-way, lower-here, lowered-bound, lowered-falls, lowered-under, lowered-working, put-mine}
use Rattle.pdw_least.specs.Log.{IsEntry, bounds_after}
use Rattle.pdw_least.specs.Premises.{AreLight, AreOrdered, AreWithin, IsWithin, limit_of_operators}
use Rattle.pdw_least.specs.States.{AreUnderInner, HasRoom, IsInnerGoing, IsLess, IsLocalDone, IsPassing, IsUnderWays, IsWorking, bound_here, falls, is_lower, lowered_log, lowered_row, worth}
use Rattle.pdw_least.specs.declared.entry.Entry.{Entry}

pub all-push : {X : Type 0} (P : X → Type 0) (xs : List X) (x : X) → AllByRecursion P xs → P x → AllByRecursion P (xs ++ x ∷ [])
all-push P [] x all last = (last, tt)
all-push P (first ∷ xs) x all last = (all.0, all-push P xs x all.1 last)

all-like : {X : Type 0} (P Q : X → Type 0) → ((x : X) → P x → Q x) → (xs : List X) → AllByRecursion P xs → AllByRecursion Q xs
all-like P Q gives [] all = tt
all-like P Q gives (x ∷ xs) all = (gives x all.0, all-like P Q gives xs all.1)

either-within : (lower same : Bool) (limit cost : ℕ) (bound : Option ℕ) → cost ≤ limit → IsWithin limit bound → IsWithin limit (if lower then (if same then Some cost else bound) else bound)
either-within true true limit cost bound small within = small
either-within true false limit cost bound small within = within
either-within false same limit cost bound small within = within

module _ (groups : List Group) (costs : Costs) (lists : List (List (Option ℕ))) (number : GroupId) (group : Group) (there : slice_get groups number.0 ≡ Some group) where
  abbrev Working : List (Option ℕ) → List Entry → Type 0
  Working = IsWorking groups costs lists number group

  abbrev local_sum : Way → Option ℕ
  local_sum = sum_of costs (bound_in groups lists) number

  abbrev log_sum : List Entry → Way → Option ℕ
  log_sum log = sum_of costs (bounds_after log) number

  abbrev row_sum : List (Option ℕ) → Way → Option ℕ
  row_sum row = sum_of costs (row_bound group.interesting row) number

  abbrev at : List Entry → Prop → Option ℕ
  at = bound_here groups costs lists number group

  abbrev new_log : List (Option ℕ) → List Entry → Prop → Option Offer → List Entry
  new_log row log p offer = lowered_log (here number p) offer (bound_by group.interesting row p) log

  abbrev new_row : List (Option ℕ) → Prop → Option Offer → List (Option ℕ)
  new_row row p offer = lowered_row group.interesting p offer row

  -- bounds that fell are still under the same sums
  under-falls : (Is : Prop → Way → Type 0) (sum : Way → Option ℕ) (old new : List Entry) → ((made : Made) → AtMost (bounds_after new made) (bounds_after old made)) → (props : List Prop)
      → AllByRecursion (λ (p : Prop). IsUnderWays (Is p) sum (at old p)) props → AllByRecursion (λ (p : Prop). IsUnderWays (Is p) sum (at new p)) props
  under-falls Is sum old new falling props all = all-like (λ (p : Prop). IsUnderWays (Is p) sum (at old p)) (λ (p : Prop). IsUnderWays (Is p) sum (at new p))
      (λ p under w is. at_most-trans (at new p) (at old p) (sum w) (falling (here number p)) (under w is)) props all

  -- ---- operators

  local-fit : AreOrdered groups → (row : List (Option ℕ)) (log : List Entry) (working : Working row log) (p : Prop) (offer : Option Offer) → Best (IsLocalWay group p) local_sum offer → IsFit groups costs lists number group row log working p offer
  local-fit ordered row log working p None best = tt
  local-fit ordered row log working p (Some o) best = (
    record {
      group = group;
      there = there;
      allowed = best.attained.0.1;
      total = sym (local-sums groups costs number group there p ordered (bound_in groups lists) (bounds_after log) (λ made small. working.elsewhere made (smaller-other made number small)) o.way best.attained.0) ∙ best.attained.1;
    },
    listed-way group p o.way best.attained.0.1,
  )

  local-room : (row : List (Option ℕ)) (log : List Entry) (working : Working row log) (p : Prop) (offer : Option Offer) → Best (IsLocalWay group p) local_sum offer → AreWithin groups (bound_in groups lists) → (light : AreLight groups)
      → ((q : Prop) → IsWithin (limit_of_operators (light.weight number.0)) (at log q)) → (q : Prop) → IsWithin (limit_of_operators (light.weight number.0)) (at (new_log row log p offer) q)
  local-room row log working p None best within light room q = room q
  local-room row log working p (Some o) best within light room q =
      subst (IsWithin (limit_of_operators (light.weight number.0))) (sym (lowered-bound groups costs lists number group row log working p o q))
      (either-within (is_lower o.cost (at log p)) (is_same p q) (limit_of_operators (light.weight number.0)) o.cost (at log q)
      (local-limit groups costs number group there p light (bound_in groups lists) within o.way o.cost best.attained.0 best.attained.1) (room q))

  pub local-step : AreOrdered groups → AreWithin groups (bound_in groups lists) → (done : List Prop) (row : List (Option ℕ)) (log : List Entry) → IsLocalDone groups costs lists number group done row log
      → (p : Prop) (offer : Option Offer) → Best (IsLocalWay group p) local_sum offer → IsLocalDone groups costs lists number group (done ++ p ∷ []) (new_row row p offer) (new_log row log p offer)
  local-step ordered within done row log is p offer best =
      let working = is.working in
      let fit = local-fit ordered row log working p offer best in
      record {
        working = lowered-working groups costs lists number group row log working p offer fit;
        room = λ light. local-room row log working p offer best within light (is.room light);
        under = all-push (λ (q : Prop). IsUnderWays (IsLocalWay group q) local_sum (at (new_log row log p offer) q)) done p
            (under-falls (IsLocalWay group) local_sum log (new_log row log p offer) (lowered-falls groups costs lists number group row log working p offer) done is.under)
            (λ w way. at_most-trans (at (new_log row log p offer) p) (cost_of_offer offer) (local_sum w) (lowered-under groups costs lists number group row log working p offer) (best.under w way));
      }

  -- the same of what the code leaves
  pub local-after : AreOrdered groups → AreWithin groups (bound_in groups lists) → (row after : List (Option ℕ)) (log later : List Entry) (p : Prop) (offer : Option Offer) → Best (IsLocalWay group p) local_sum offer
      → after ≡ new_row row p offer → later ≡ new_log row log p offer → (done : List Prop) → IsLocalDone groups costs lists number group done row log → IsLocalDone groups costs lists number group (done ++ p ∷ []) after later
  local-after ordered within row after log later p offer best row_is log_is done is =
      subst (λ (r : List (Option ℕ)). IsLocalDone groups costs lists number group (done ++ p ∷ []) r later) (sym row_is)
      (subst (IsLocalDone groups costs lists number group (done ++ p ∷ []) (new_row row p offer)) (sym log_is) (local-step ordered within done row log is p offer best))

  pub local-going : (props : List Prop) (row : List (Option ℕ)) (log : List Entry) → IsLocalDone groups costs lists number group props row log → IsInnerGoing groups costs lists number group props row log
  local-going props row log is = record {
    working = is.working;
    room = λ light p. within-more (limit_of_operators (light.weight number.0)) _ (at log p) (omega arith) (is.room light p);
    under = is.under;
  }

  -- ---- moves and free changes

  inner-sums : (row : List (Option ℕ)) (log : List Entry) → Working row log → (p : Prop) (w : Way) → IsInnerWay group p w → row_sum row w ≡ log_sum log w
  inner-sums row log working p way.Scan is = absurd (true≢false is.0)
  inner-sums row log working p (way.One child) is = absurd (true≢false is.0)
  inner-sums row log working p (way.Two left right) is = absurd (true≢false is.0)
  inner-sums row log working p (way.Moved mv) is = ap (λ (b : Option ℕ). plus (plus b (Some 0)) (Some (costs number mv))) (working.mine (property_before mv))
  inner-sums row log working p (way.Free before) is = ap (λ (b : Option ℕ). plus (plus b (Some 0)) (Some 0)) (working.mine before)

  module _ (cheap : (g : GroupId) (mv : Move) → costs g mv < most_of_a_move) (row : List (Option ℕ)) (log : List Entry) (working : Working row log) (p : Prop) where
    inner-entry : (o : Offer) → Best (IsInnerWay group p) (row_sum row) (Some o) → IsEntry groups costs (bounds_after log) (entry number p o.way o.cost)
    inner-entry o best = record {
      group = group;
      there = there;
      allowed = best.attained.0.1;
      total = sym (inner-sums row log working p o.way best.attained.0) ∙ best.attained.1;
    }

    inner-fit : (offer : Option Offer) → Best (IsInnerWay group p) (row_sum row) offer → IsFit groups costs lists number group row log working p offer
    inner-fit None best = tt
    inner-fit (Some o) best = (inner-entry o best, listed-way group p o.way best.attained.0.1)

    inner-room : (offer : Option Offer) → Best (IsInnerWay group p) (row_sum row) offer → (limit : ℕ) → HasRoom limit (at log) → HasRoom limit (at (new_log row log p offer))
    inner-room None best limit room = room
    inner-room (Some o) best limit room = by (is_lower o.cost (bound_by group.interesting row p)) refl
      where
        by : (test : Bool) → is_lower o.cost (bound_by group.interesting row p) ≡ test → HasRoom limit (at (if test then log ++ entry number p o.way o.cost ∷ [] else log))
        by true lower = room-step limit (at log) (at (log ++ entry number p o.way o.cost ∷ [])) p o.cost
            (λ q. ap (λ (bound : Bound). bound (here number q)) (after-more log (entry number p o.way o.cost)) ∙ put-mine (bounds_after log) number p o.way o.cost q)
            room (lower-here groups costs lists number group row log working p o.cost true lower)
            (inner-from costs cheap (bounds_after log) number group p o.way o.cost best.attained.0 (inner-entry o best).total)
        by false other = room

    pub inner-going : (props : List Prop) → IsInnerGoing groups costs lists number group props row log → (offer : Option Offer) → Best (IsInnerWay group p) (row_sum row) offer → IsInnerGoing groups costs lists number group props (new_row row p offer) (new_log row log p offer)
    inner-going props is offer best = record {
      working = lowered-working groups costs lists number group row log working p offer (inner-fit offer best);
      room = λ light. inner-room offer best (limit_of_operators (light.weight number.0)) (is.room light);
      under = under-falls (IsLocalWay group) local_sum log (new_log row log p offer) (lowered-falls groups costs lists number group row log working p offer) props is.under;
    }

    -- where nothing falls, the bound is under all moves and free changes
    still-log : (offer : Option Offer) → falls offer (bound_by group.interesting row p) ≡ false → new_log row log p offer ≡ log
    still-log None still = refl
    still-log (Some o) still = ap (λ (test : Bool). if test then log ++ entry number p o.way o.cost ∷ [] else log) still

    still-under : (offer : Option Offer) → Best (IsInnerWay group p) (row_sum row) offer → falls offer (bound_by group.interesting row p) ≡ false → IsUnderWays (IsInnerWay group p) (log_sum log) (at log p)
    still-under offer best still w is =
        at_most-trans (at log p) (cost_of_offer offer) (log_sum log w)
        (subst (λ (l : List Entry). AtMost (at l p) (cost_of_offer offer)) (still-log offer still) (lowered-under groups costs lists number group row log working p offer))
        (subst (λ (limit : Option ℕ). AtMost (cost_of_offer offer) limit) (inner-sums row log working p w is) (best.under w is))

  -- ---- a step of a pass

  or-parts : (a b : Bool) → (a || b) ≡ false → (a ≡ false) × (b ≡ false)
  or-parts true b is = absurd (true≢false is)
  or-parts false b is = (refl, is)

  less-step : (fell more : Bool) (new middle old : ℕ) → IsLess fell middle old → IsLess more new middle → IsLess (fell || more) new old
  less-step true true new middle old first second = omega arith
  less-step true false new middle old first second = omega arith
  less-step false true new middle old first second = omega arith
  less-step false false new middle old first second = omega arith

  listed-offer : (row : List (Option ℕ)) (p : Prop) (offer : Option Offer) → Best (IsInnerWay group p) (row_sum row) offer → IfSome offer (λ (o : Offer). o.cost < 2 ^ 128) → IfSome offer (λ (o : Offer). (o.cost < 2 ^ 128) × (list_any (is_same p) (properties_of group.interesting) ≡ true))
  listed-offer row p None best small = tt
  listed-offer row p (Some o) best small = (small, listed-way group p o.way best.attained.0.1)

  pub pass-step : ((g : GroupId) (mv : Move) → costs g mv < most_of_a_move) → (props : List Prop) (start : List Entry) (before : List (Option ℕ)) (done : List Prop) (fell : Bool) (row : List (Option ℕ)) (log : List Entry)
      → IsPassing groups costs lists number group props start before done fell row log
      → (p : Prop) (offer : Option Offer) → Best (IsInnerWay group p) (row_sum row) offer → IfSome offer (λ (o : Offer). o.cost < 2 ^ 128)
      → IsPassing groups costs lists number group props start before (done ++ p ∷ []) (fell || falls offer (bound_by group.interesting row p)) (new_row row p offer) (new_log row log p offer)
  pass-step cheap props start before done fell row log is p offer best small =
      let working = is.going.working in
      record {
        going = inner-going cheap row log working p props is.going offer best;
        still = λ none.
            let parts = or-parts fell (falls offer (bound_by group.interesting row p)) none in
            let same = still-log cheap row log working p offer parts.1 in
            let old = is.still parts.0 in (
              same ∙ old.0,
              subst (AreUnderInner groups costs lists number group (done ++ p ∷ [])) (sym same)
                  (all-push (λ (q : Prop). IsUnderWays (IsInnerWay group q) (log_sum log) (at log q)) done p old.1 (still-under cheap row log working p offer best parts.1)),
            );
        less = less-step fell (falls offer (bound_by group.interesting row p)) (worth (new_row row p offer)) (worth row) (worth before) is.less
            (lowered-worth group.interesting row working.size p offer (listed-offer row p offer best small));
      }

  pub pass-after : ((g : GroupId) (mv : Move) → costs g mv < most_of_a_move) → (row after : List (Option ℕ)) (log later : List Entry) (p : Prop) (offer : Option Offer) (more : Bool) → Best (IsInnerWay group p) (row_sum row) offer → IfSome offer (λ (o : Offer). o.cost < 2 ^ 128)
      → after ≡ new_row row p offer → later ≡ new_log row log p offer → more ≡ falls offer (bound_by group.interesting row p)
      → (props : List Prop) (start : List Entry) (before : List (Option ℕ)) (done : List Prop) (fell : Bool) → IsPassing groups costs lists number group props start before done fell row log
      → IsPassing groups costs lists number group props start before (done ++ p ∷ []) (fell || more) after later
  pass-after cheap row after log later p offer more best small row_is log_is more_is props start before done fell is =
      subst (λ (m : Bool). IsPassing groups costs lists number group props start before (done ++ p ∷ []) (fell || m) after later) (sym more_is)
      (subst (λ (r : List (Option ℕ)). IsPassing groups costs lists number group props start before (done ++ p ∷ []) (fell || falls offer (bound_by group.interesting row p)) r later) (sym row_is)
      (subst (IsPassing groups costs lists number group props start before (done ++ p ∷ []) (fell || falls offer (bound_by group.interesting row p)) (new_row row p offer)) (sym log_is)
      (pass-step cheap props start before done fell row log is p offer best small)))

  pub pass-start : (props : List Prop) (row : List (Option ℕ)) (log : List Entry) → IsInnerGoing groups costs lists number group props row log → IsPassing groups costs lists number group props log row [] false row log
  pass-start props row log going = record { going = going; still = λ none. (refl, tt); less = omega arith }
