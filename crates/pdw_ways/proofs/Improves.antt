-- The cheapest so far and some more ways: what tries of ways, one after another, come to.
use Rattle.std.proofs.Common.{◌≡◌, ℕ, Bool, true, false, true≢false, ◌||◌, ◌⊎◌, inl, inr, List, [], ◌∷◌, fold, nat_lt, Option, Some, None, refl, sym, ap, subst, ◌∙◌, arith, if◌then◌else◌}
use Rattle.std.proofs.lemmas.Bool.{ltb-true, ltb-false, or_cases}
use Rattle.std.specs.List.{list_any}
use Rattle.std.specs.Option.{IfSome}
use Rattle.pdw_ways.proofs.Numbers.{at_most-refl, at_most-trans}
use Rattle.pdw_ways.specs.Bounds.{AtMost}
use Rattle.pdw_ways.specs.Offers.{Best, cost_of_offer}
use Rattle.pdw_ways.specs.Search.{cheaper, offered, with_way}
use Rattle.pdw_ways.specs.declared.offer.Offer.{Offer}
use Rattle.pdw_ways.specs.declared.way.Way.{Way}

-- ---- the cheaper of two

cheaper-first : (first second : Option Offer) → AtMost (cost_of_offer (cheaper first second)) (cost_of_offer first)
cheaper-first first None = at_most-refl (cost_of_offer first)
cheaper-first None (Some second) = tt
cheaper-first (Some first) (Some second) = by (nat_lt second.cost first.cost) refl
  where
    by : (test : Bool) → nat_lt second.cost first.cost ≡ test → AtMost (cost_of_offer (if test then Some second else Some first)) (Some first.cost)
    by true is = omega (arith, ltb-true second.cost first.cost is)
    by false is = omega arith

cheaper-second : (first second : Option Offer) → AtMost (cost_of_offer (cheaper first second)) (cost_of_offer second)
cheaper-second first None = tt
cheaper-second None (Some second) = omega arith
cheaper-second (Some first) (Some second) = by (nat_lt second.cost first.cost) refl
  where
    by : (test : Bool) → nat_lt second.cost first.cost ≡ test → AtMost (cost_of_offer (if test then Some second else Some first)) (Some second.cost)
    by true is = omega arith
    by false is = omega (arith, ltb-false second.cost first.cost is)

cheaper-either : (first second : Option Offer) → (cheaper first second ≡ first) ⊎ (cheaper first second ≡ second)
cheaper-either first None = inl refl
cheaper-either None (Some second) = inr refl
cheaper-either (Some first) (Some second) = by (nat_lt second.cost first.cost)
  where
    by : (test : Bool) → ((if test then Some second else Some first) ≡ Some first) ⊎ ((if test then Some second else Some first) ≡ Some second)
    by true = inr refl
    by false = inl refl

-- ---- lists of ways

-- a way by one of these
abbrev pub Among : {X : Type 0} → (X → Way → Type 0) → List X → Way → Type 0
Among F [] way = ⊥
Among F (x ∷ xs) way = F x way ⊎ Among F xs way

pub any-among : {X : Type 0} (test : X → Bool) (F : X → Way → Type 0) (way : Way) → ((x : X) → test x ≡ true → F x way) → (xs : List X) → list_any test xs ≡ true → Among F xs way
any-among test F way gives [] is = absurd (true≢false (sym is))
any-among test F way gives (x ∷ xs) is = elim (or_cases (test x) (list_any test xs) is) [ inl here ↦ inl (gives x here) | inr there ↦ inr (any-among test F way gives xs there) ]

pub or-left : (a b : Bool) → a ≡ true → (a || b) ≡ true
or-left true b is = refl
or-left false b is = absurd (true≢false (sym is))

pub or-right : (a b : Bool) → b ≡ true → (a || b) ≡ true
or-right true b is = refl
or-right false b is = is

pub among-any : {X : Type 0} (test : X → Bool) (F : X → Way → Type 0) (way : Way) → ((x : X) → F x way → test x ≡ true) → (xs : List X) → Among F xs way → list_any test xs ≡ true
among-any test F way gives [] none = absurd none
among-any test F way gives (x ∷ xs) (inl here) = or-left (test x) (list_any test xs) (gives x here)
among-any test F way gives (x ∷ xs) (inr there) = or-right (test x) (list_any test xs) (among-any test F way gives xs there)

-- ---- tries

module _ (sum : Way → Option ℕ) where
  abbrev pub IsOf : (Way → Type 0) → Offer → Type 0
  IsOf Is offer = Is offer.way × (sum offer.way ≡ Some offer.cost)

  -- the result is what was best, or one of these ways, and neither is below it
  pub record Improves (Is : Way → Type 0) (best result : Option Offer) : Type 0 where
    pub kept : AtMost (cost_of_offer result) (cost_of_offer best)
    pub under : (way : Way) → Is way → AtMost (cost_of_offer result) (sum way)
    pub from : (result ≡ best) ⊎ IfSome result (IsOf Is)

  like-of : {A B : Way → Type 0} → ((way : Way) → A way → B way) → (offer : Option Offer) → IfSome offer (IsOf A) → IfSome offer (IsOf B)
  like-of gives None is = tt
  like-of gives (Some offer) is = (gives offer.way is.0, is.1)

  pub improves-nothing : (Is : Way → Type 0) → ((way : Way) → Is way → ⊥) → (best : Option Offer) → Improves Is best best
  improves-nothing Is none best = record { kept = at_most-refl (cost_of_offer best); under = λ way is. absurd (none way is); from = inl refl }

  pub improves-both : {A B : Way → Type 0} {first second third : Option Offer} → Improves A first second → Improves B second third → Improves (λ way. A way ⊎ B way) first third
  improves-both {A} {B} {first} {second} {third} one two = record {
    kept = at_most-trans (cost_of_offer third) (cost_of_offer second) (cost_of_offer first) two.kept one.kept;
    under = λ way is. elim is [ inl a ↦ at_most-trans (cost_of_offer third) (cost_of_offer second) (sum way) two.kept (one.under way a) | inr b ↦ two.under way b ];
    from = elim two.from [
      | inl same ↦ subst (λ offer. (offer ≡ first) ⊎ IfSome offer (IsOf (λ way. A way ⊎ B way))) (sym same) (elim one.from [ inl is ↦ inl is | inr is ↦ inr (like-of (λ way a. inl a) second is) ])
      | inr is ↦ inr (like-of (λ way b. inr b) third is)
    ];
  }

  pub improves-like : {A B : Way → Type 0} {best result : Option Offer} → ((way : Way) → B way → A way ⊎ (sum way ≡ None)) → ((way : Way) → A way → B way) → Improves A best result → Improves B best result
  improves-like {A} {B} {best} {result} back gives one = record {
    kept = one.kept;
    under = λ way is. elim (back way is) [ inl a ↦ one.under way a | inr none ↦ subst (λ limit. AtMost (cost_of_offer result) limit) (sym none) tt ];
    from = elim one.from [ inl same ↦ inl same | inr is ↦ inr (like-of gives result is) ];
  }

  offered-cost : (way : Way) (bound : Option ℕ) → cost_of_offer (offered way bound) ≡ bound
  offered-cost way None = refl
  offered-cost way (Some bound) = refl

  pub improves-way : (best : Option Offer) (way : Way) (bound : Option ℕ) → sum way ≡ bound → Improves (λ other. other ≡ way) best (with_way best way bound)
  improves-way best way bound is = record {
    kept = cheaper-first best (offered way bound);
    under = λ other same. subst (λ limit. AtMost (cost_of_offer (with_way best way bound)) limit) (offered-cost way bound ∙ sym is ∙ ap sum (sym same)) (cheaper-second best (offered way bound));
    from = elim (cheaper-either best (offered way bound)) [ inl first ↦ inl first | inr second ↦ inr (subst (λ offer. IfSome offer (IsOf (λ other. other ≡ way))) (sym second) (mine bound is)) ];
  }
    where
      mine : (bound : Option ℕ) → sum way ≡ bound → IfSome (offered way bound) (IsOf (λ other. other ≡ way))
      mine None none = tt
      mine (Some cost) some = (refl, some)

  pub improves-if : {Is : Way → Type 0} {best result : Option Offer} (test : Bool) → (test ≡ true → Improves Is best result) → Improves (λ way. (test ≡ true) × Is way) best (if test then result else best)
  improves-if {Is} {best} {result} true one = improves-like (λ way is. inl is.1) (λ way is. (refl, is)) (one refl)
  improves-if {Is} {best} {result} false one = improves-nothing (λ way. (false ≡ true) × Is way) (λ way is. absurd (true≢false (sym is.0))) best

  pub improves-fold : {X : Type 0} (F : X → Way → Type 0) (step : Option Offer → X → Option Offer) → ((best : Option Offer) (x : X) → Improves (F x) best (step best x)) → (best : Option Offer) (xs : List X) → Improves (Among F xs) best (fold step best xs)
  improves-fold F step each best [] = improves-nothing (Among F []) (λ way none. none) best
  improves-fold F step each best (x ∷ xs) = improves-both (each best x) (improves-fold F step each (step best x) xs)

  pub best-from-none : {Is : Way → Type 0} (result : Option Offer) → Improves Is None result → Best Is sum result
  best-from-none {Is} result one = record {
    under = one.under;
    attained = elim one.from [ inl none ↦ subst (λ offer. IfSome offer (IsOf Is)) (sym none) tt | inr is ↦ is ];
  }

  -- the best of two kinds of ways
  pub best-of-two : {A B : Way → Type 0} (first second : Option Offer) → Best A sum first → Best B sum second → Best (λ way. A way ⊎ B way) sum (cheaper first second)
  best-of-two {A} {B} first second one two = record {
    under = λ way is. elim is [
      | inl a ↦ at_most-trans (cost_of_offer (cheaper first second)) (cost_of_offer first) (sum way) (cheaper-first first second) (one.under way a)
      | inr b ↦ at_most-trans (cost_of_offer (cheaper first second)) (cost_of_offer second) (sum way) (cheaper-second first second) (two.under way b)
    ];
    attained = elim (cheaper-either first second) [
      | inl same ↦ subst (λ offer. IfSome offer (IsOf (λ way. A way ⊎ B way))) (sym same) (like-of (λ way a. inl a) first one.attained)
      | inr same ↦ subst (λ offer. IfSome offer (IsOf (λ way. A way ⊎ B way))) (sym same) (like-of (λ way b. inr b) second two.attained)
    ];
  }

  pub best-like : {A B : Way → Type 0} (offer : Option Offer) → ((way : Way) → B way → A way ⊎ (sum way ≡ None)) → ((way : Way) → A way → B way) → Best A sum offer → Best B sum offer
  best-like {A} {B} offer back gives one = record {
    under = λ way is. elim (back way is) [ inl a ↦ one.under way a | inr none ↦ subst (λ limit. AtMost (cost_of_offer offer) limit) (sym none) tt ];
    attained = like-of gives offer one.attained;
  }
