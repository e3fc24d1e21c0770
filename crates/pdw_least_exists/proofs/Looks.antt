-- The group at hand: its operators are looked at for each property, and its moves and free changes until no bound falls.
use Rattle.std.proofs.Common.{◌≡◌, ◌≤◌, ◌<◌, ◌+◌, ◌^◌, ◌||◌, ℕ, zero, suc, Bool, true, false, ◌⊎◌, inl, inr, List, [], ◌∷◌, ◌++◌, Option, Some, None, refl, sym, subst, ◌∙◌, append_assoc, arith}
use Rattle.std.proofs.lemmas.List.{append-nil}
use Rattle.std.specs.List.{slice_get}
use Rattle.std.specs.Option.{IfSome}
use Rattle.pdw_groups.specs.declared.group.Group.{Group}
use Rattle.pdw_groups.specs.declared.key.GroupId.{GroupId}
use Rattle.pdw_least.proofs.Limits.{inner-from}
use Rattle.pdw_least.proofs.Passes.{local-step, pass-start, pass-step}
use Rattle.pdw_least.proofs.Steps.{here}
use Rattle.pdw_least.proofs.Tables.{row-small}
use Rattle.pdw_least.specs.Premises.{AreLight, AreOrdered, AreWithin}
use Rattle.pdw_least.specs.States.{AreUnderInner, IsInnerGoing, IsLess, IsLocalDone, IsPassing, falls, lowered_log, lowered_row, worth}
use Rattle.pdw_least.specs.declared.entry.Entry.{Entry}
use Rattle.pdw_least_exists.specs.Exists.{AreCheap}
use Rattle.pdw_move.specs.declared.kinds.Prop.{Prop}
use Rattle.pdw_ways.proofs.LeastOffers.{inner-best-of, local-best}
use Rattle.pdw_ways.specs.Bounds.{IsSmall, bound_by, bound_in, row_bound, sum_of}
use Rattle.pdw_ways.specs.Costing.{most_of_a_move}
use Rattle.pdw_ways.specs.Offers.{Best, IsInnerWay}
use Rattle.pdw_ways.specs.Search.{inner_within, local_within}
use Rattle.pdw_ways.specs.Ways.{Costs}
use Rattle.pdw_ways.specs.declared.offer.Offer.{Offer}

-- ---- offers of moves and free changes fit in 128 bits

either-small : (A B C : Type 0) (bound cost : ℕ) → (A × (cost ≤ bound + most_of_a_move)) ⊎ (B × (C × (cost ≡ bound))) → bound < 2 ^ 126 → cost < 2 ^ 128
either-small A B C bound cost (inl is) small = let most : cost ≤ bound + most_of_a_move = is.1 in omega arith
either-small A B C bound cost (inr is) small = let same : cost ≡ bound = is.1.1 in omega arith

small-of : (found : Option ℕ) (bound : ℕ) → found ≡ Some bound → IsSmall found → bound < 2 ^ 126
small-of found bound is small = let known : IsSmall (Some bound) = subst IsSmall is small in known

offer-small : (costs : Costs) → AreCheap costs → (number : GroupId) (group : Group) (row : List (Option ℕ)) → ((p : Prop) → IsSmall (bound_by group.interesting row p)) → (p : Prop) (offer : Option Offer)
    → Best (IsInnerWay group p) (sum_of costs (row_bound group.interesting row) number) offer → IfSome offer (λ (o : Offer). o.cost < 2 ^ 128)
offer-small costs cheap number group row small p None best = tt
offer-small costs cheap number group row small p (Some o) best =
    let from = inner-from costs cheap (row_bound group.interesting row) number group p o.way o.cost best.attained.0 best.attained.1 in
    either-small _ _ _ from.bound o.cost from.over (small-of (bound_by group.interesting row from.source) from.bound from.found (small from.source))

module _ (groups : List Group) (costs : Costs) (lists : List (List (Option ℕ))) (number : GroupId) (group : Group) where
  -- a row and a log after operators are looked at for these properties
  pub record HasLooked (props : List Prop) : Type 0 where
    pub row : List (Option ℕ)
    pub log : List Entry
    pub is : IsLocalDone groups costs lists number group props row log

  -- after a pass
  pub record HasPassed (props : List Prop) (start : List Entry) (before : List (Option ℕ)) : Type 0 where
    pub fell : Bool
    pub row : List (Option ℕ)
    pub log : List Entry
    pub is : IsPassing groups costs lists number group props start before props fell row log

  -- after passes until no bound fell
  pub record HasSettled (props : List Prop) : Type 0 where
    pub row : List (Option ℕ)
    pub log : List Entry
    pub going : IsInnerGoing groups costs lists number group props row log
    pub settled : AreUnderInner groups costs lists number group props log

  module _ (there : slice_get groups number.0 ≡ Some group) where
    pub look : AreOrdered groups → AreWithin groups (bound_in groups lists) → (props todo done : List Prop) → done ++ todo ≡ props → (row : List (Option ℕ)) (log : List Entry) → IsLocalDone groups costs lists number group done row log → HasLooked props
    look ordered within props [] done all row log is = record {
      row = row;
      log = log;
      is = subst (λ (looked : List Prop). IsLocalDone groups costs lists number group looked row log) (sym (append-nil done) ∙ all) is;
    }
    look ordered within props (p ∷ todo) done all row log is =
        let offer : Option Offer = local_within (bound_in groups lists) groups group p in
        look ordered within props todo (done ++ p ∷ []) (append_assoc done (p ∷ []) todo ∙ all)
        (lowered_row group.interesting p offer row) (lowered_log (here number p) offer (bound_by group.interesting row p) log)
        (local-step groups costs lists number group there ordered within done row log is p offer (local-best groups lists group p costs number))

    module _ (light : AreLight groups) (cheap : AreCheap costs) (props : List Prop) where
      pass : (start : List Entry) (before : List (Option ℕ)) (todo done : List Prop) → done ++ todo ≡ props → (fell : Bool) (row : List (Option ℕ)) (log : List Entry)
          → IsPassing groups costs lists number group props start before done fell row log → HasPassed props start before
      pass start before [] done all fell row log is = record {
        fell = fell;
        row = row;
        log = log;
        is = subst (λ (looked : List Prop). IsPassing groups costs lists number group props start before looked fell row log) (sym (append-nil done) ∙ all) is;
      }
      pass start before (p ∷ todo) done all fell row log is =
          let offer : Option Offer = inner_within group row (costs number) p in
          let best : Best (IsInnerWay group p) (sum_of costs (row_bound group.interesting row) number) offer = inner-best-of group row p (costs number) costs number (λ move. refl) in
          pass start before todo (done ++ p ∷ []) (append_assoc done (p ∷ []) todo ∙ all) (fell || falls offer (bound_by group.interesting row p))
          (lowered_row group.interesting p offer row) (lowered_log (here number p) offer (bound_by group.interesting row p) log)
          (pass-step groups costs lists number group there cheap props start before done fell row log is p offer best
          (offer-small costs cheap number group row (row-small groups costs lists number group light props row log is.going) p offer best))

      -- each pass but the last lowers what the row is worth
      pub settle : (limit : ℕ) (row : List (Option ℕ)) (log : List Entry) → worth row < limit → IsInnerGoing groups costs lists number group props row log → HasSettled props
      settle zero row log small going = absurd (omega arith)
      settle (suc limit) row log small going =
          let passed = pass log row props [] refl false row log (pass-start groups costs lists number group there props row log going) in
          by passed (λ lower. settle limit passed.row passed.log (omega (arith, small, lower)) passed.is.going) passed.fell refl
        where
          by : (passed : HasPassed props log row) → (worth passed.row < worth row → HasSettled props) → (fell : Bool) → passed.fell ≡ fell → HasSettled props
          by passed next true fell = next (subst (λ (f : Bool). IsLess f (worth passed.row) (worth row)) fell passed.is.less)
          by passed next false still = record { row = passed.row; log = passed.log; going = passed.is.going; settled = (passed.is.still still).1 }
