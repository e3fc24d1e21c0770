-- A search for the first bound that is too high goes on where the bounds so far are fine.
use Rattle.std.proofs.Common.{◌≡◌, ◌+◌, ◌<◌, ◌≤◌, ℕ, zero, suc, List, [], ◌∷◌, ◌++◌, length, drop, Option, Some, None, refl, sym, ap, subst, ◌∙◌, append_assoc, arith}
use Rattle.std.proofs.lemmas.List.{length-map}
use Rattle.std.proofs.lemmas.Option.{slice_get-map}
use Rattle.std.specs.List.{AllByRecursion, slice_get}
use Rattle.std.specs.Option.{option_map}
use Rattle.pdw_cert.proofs.ShapeLemmas.{drop-all, drop-there}
use Rattle.pdw_cert.specs.TooHigh.{Exceeds, IsFine, IsSearched, made_after, made_at}
use Rattle.pdw_cert.specs.declared.high.TooHigh.{TooHigh}
use Rattle.pdw_groups.specs.declared.group.Group.{Group}
use Rattle.pdw_groups.specs.declared.key.GroupId.{GroupId}
use Rattle.pdw_move.specs.declared.kinds.Prop.{Prop}
use Rattle.pdw_rules.specs.Rules.{properties_of}
use Rattle.pdw_ways.proofs.Numbers.{at_most-trans}
use Rattle.pdw_ways.specs.Bounds.{AtMost, Bound, sum_of}
use Rattle.pdw_ways.specs.Offers.{Best, IsWay}
use Rattle.pdw_ways.specs.Ways.{Costs}
use Rattle.pdw_ways.specs.declared.made.Made.{Made}
use Rattle.pdw_ways.specs.declared.offer.Offer.{Offer}

pub all-append : {X : Type 0} (P : X → Type 0) (xs ys : List X) → AllByRecursion P xs → AllByRecursion P ys → AllByRecursion P (xs ++ ys)
all-append P [] ys first second = second
all-append P (x ∷ xs) ys first second = (first.0, all-append P xs ys first.1 second)

there-is : {X : Type 0} (xs : List X) (place : ℕ) → place < length xs → (x : X) × (slice_get xs place ≡ Some x)
there-is [] place within = absurd (omega arith)
there-is (x ∷ xs) zero within = (x, refl)
there-is (x ∷ xs) (suc place) within = there-is xs place (omega arith)

module _ (groups : List Group) (costs : Costs) (bound : Bound) where
  abbrev Searched : List Made → Option TooHigh → Type 0
  Searched = IsSearched groups costs bound

  pub searched-here : (xs ys : List Made) (high : TooHigh) → Searched xs (Some high) → Searched (xs ++ ys) (Some high)
  searched-here xs ys high is = record {
    before = is.before;
    after = is.after ++ ys;
    order = ap (λ (zs : List Made). zs ++ ys) is.order ∙ append_assoc is.before (high.made ∷ is.after) ys;
    fine = is.fine;
    bound = is.bound;
    limit = is.limit;
    exceeds = is.exceeds;
  }

  pub searched-behind : (xs ys : List Made) → Searched xs None → (found : Option TooHigh) → Searched ys found → Searched (xs ++ ys) found
  searched-behind xs ys fine None is = all-append (IsFine groups costs bound) xs ys fine is
  searched-behind xs ys fine (Some high) is = record {
    before = xs ++ is.before;
    after = is.after;
    order = ap (λ (zs : List Made). xs ++ zs) is.order ∙ sym (append_assoc xs is.before (high.made ∷ is.after));
    fine = all-append (IsFine groups costs bound) xs is.before fine is.fine;
    bound = is.bound;
    limit = is.limit;
    exceeds = is.exceeds;
  }

  -- ---- one bound, by the cheapest way

  module _ (made : Made) where
    abbrev IsCheapest : Option Offer → Type 0
    IsCheapest offer = (group : Group) → slice_get groups made.group.0 ≡ Some group → Best (IsWay group made.prop) (sum_of costs bound made.group) offer

    pub searched-never : IsCheapest None → Searched (made ∷ []) None
    searched-never best = ((λ group way there is. at_most-trans (bound made) None (sum_of costs bound made.group way) tt ((best group there).under way is)), tt)

    module _ (offer : Offer) (best : IsCheapest (Some offer)) (b : Option ℕ) (is : b ≡ bound made) where
      pub searched-fine : AtMost b (Some offer.cost) → Searched (made ∷ []) None
      searched-fine within = ((λ group way there allowed. at_most-trans (bound made) (Some offer.cost) (sum_of costs bound made.group way) (subst (λ low. AtMost low (Some offer.cost)) is within) ((best group there).under way allowed)), tt)

      pub searched-high : made.group.0 < length groups → Exceeds b offer.cost → Searched (made ∷ []) (Some (record { made = made; bound = b; limit = offer.cost }))
      searched-high known exceeds =
          let there = there-is groups made.group.0 known in
          let one = best there.0 there.1 in
          record {
            before = [];
            after = [];
            order = refl;
            fine = tt;
            bound = sym is;
            limit = record { group = there.0; there = there.1; way = offer.way; allowed = one.attained.0; sum = one.attained.1; least = λ group way at allowed. (best group at).under way allowed };
            exceeds = exceeds;
          }

  -- ---- from a place on

  -- what is found from a place on is found in all
  abbrev pub FoundFrom : List Made → List Made → Type 0
  FoundFrom left all = (found : Option TooHigh) → Searched left found → Searched all found

  module _ (number : GroupId) (group : Group) where
    abbrev at : Prop → Made
    at prop = record { group = number; prop = prop }

    left-in-group : (place : ℕ) (prop : Prop) → slice_get (properties_of group.interesting) place ≡ Some prop → drop place (made_at number group) ≡ at prop ∷ drop (suc place) (made_at number group)
    left-in-group place prop is = drop-there (made_at number group) place (at prop) (slice_get-map at (properties_of group.interesting) place ∙ ap (option_map at) is)

    module _ (place : ℕ) (prop : Prop) (is : slice_get (properties_of group.interesting) place ≡ Some prop) (from : FoundFrom (drop place (made_at number group)) (made_at number group)) where
      pub high-in-group : (high : TooHigh) → Searched (at prop ∷ []) (Some high) → Searched (made_at number group) (Some high)
      high-in-group high one = from (Some high) (subst (λ left. Searched left (Some high)) (sym (left-in-group place prop is)) (searched-here (at prop ∷ []) (drop (suc place) (made_at number group)) high one))

      pub next-in-group : Searched (at prop ∷ []) None → FoundFrom (drop (place + 1) (made_at number group)) (made_at number group)
      next-in-group fine found rest =
          let same : place + 1 ≡ suc place = omega arith in
          from found (subst (λ left. Searched left found) (sym (left-in-group place prop is)) (searched-behind (at prop ∷ []) (drop (suc place) (made_at number group)) fine found
          (subst (λ next. Searched (drop next (made_at number group)) found) same rest)))

    pub none-in-group : (place : ℕ) → length (properties_of group.interesting) ≤ place → FoundFrom (drop place (made_at number group)) (made_at number group) → Searched (made_at number group) None
    none-in-group place past from =
        let size : length (made_at number group) ≡ length (properties_of group.interesting) = length-map (properties_of group.interesting) at in
        from None (subst (λ left. Searched left None) (sym (drop-all (made_at number group) place (omega (arith, size, past)))) tt)

  abbrev pub LeftFrom : ℕ → List Made
  LeftFrom place = made_after place (drop place groups)

  module _ (place : ℕ) (group : Group) (there : slice_get groups place ≡ Some group) (all : List Made) (from : FoundFrom (LeftFrom place) all) where
    left-in-groups : LeftFrom place ≡ made_at (record { 0 = place }) group ++ made_after (suc place) (drop (suc place) groups)
    left-in-groups = ap (made_after place) (drop-there groups place group there)

    pub high-in-groups : (high : TooHigh) → Searched (made_at (record { 0 = place }) group) (Some high) → Searched all (Some high)
    high-in-groups high one = from (Some high) (subst (λ left. Searched left (Some high)) (sym left-in-groups) (searched-here (made_at (record { 0 = place }) group) (made_after (suc place) (drop (suc place) groups)) high one))

    pub next-in-groups : Searched (made_at (record { 0 = place }) group) None → FoundFrom (LeftFrom (place + 1)) all
    next-in-groups fine found rest =
        let same : place + 1 ≡ suc place = omega arith in
        from found (subst (λ left. Searched left found) (sym left-in-groups) (searched-behind (made_at (record { 0 = place }) group) (made_after (suc place) (drop (suc place) groups)) fine found
        (subst (λ next. Searched (made_after next (drop next groups)) found) same rest)))

  pub none-in-groups : (place : ℕ) (all : List Made) → length groups ≤ place → FoundFrom (LeftFrom place) all → Searched all None
  none-in-groups place all past from = from None (subst (λ (left : List Group). Searched (made_after place left) None) (sym (drop-all groups place past)) tt)
