-- A bound that is put to its place in a row is found there, and the others are as before.
use Rattle.std.proofs.Common.{◌≡◌, ◌<◌, ◌^◌, ℕ, zero, suc, cond, Bool, true, false, ◌||◌, true≢false, List, [], ◌∷◌, length, zip, get_or, Option, Some, None, refl, sym, ap, subst, ◌∙◌, arith, if◌then◌else◌}
use Rattle.std.proofs.lemmas.Bool.{ltb-true}
use Rattle.std.proofs.lemmas.List.{length-set}
use Rattle.std.proofs.lemmas.List.Sums.{sum_by-set}
use Rattle.std.proofs.lemmas.Option.{slice_get-get_or}
use Rattle.std.specs.List.{list_any, slice_get, slice_set}
use Rattle.std.specs.Map.{lookup}
use Rattle.std.specs.Option.{IfSome, option_and_then, option_map}
use Rattle.pdw_base.specs.declared.schema.ColId.{ColId}
use Rattle.pdw_move.specs.declared.kinds.Prop.{Prop}
use Rattle.pdw_rules.specs.Rules.{is_same, properties_of}
use Rattle.pdw_ways.proofs.Places.{lookup_place, place-within}
use Rattle.pdw_ways.proofs.Same.{never, same-alike, same-itself}
use Rattle.pdw_ways.specs.Bounds.{bound_by, place_among}
use Rattle.pdw_ways.specs.declared.offer.Offer.{Offer}
use Rattle.pdw_least.specs.States.{IsLess, falls, is_lower, lowered_row, put_at, worth, worth_of}

pub same-turned : (p q : Prop) → is_same p q ≡ true → is_same q p ≡ true
same-turned p q is = subst (λ (x : Prop). is_same q x ≡ true) (sym (same-alike p q is)) (same-itself q)

other-turned : (p q : Prop) → is_same p q ≡ false → is_same q p ≡ false
other-turned p q other = by (is_same q p) refl
  where
    by : (test : Bool) → is_same q p ≡ test → is_same q p ≡ false
    by true is = absurd (true≢false (sym (same-turned q p is) ∙ other))
    by false is = is

-- ---- what is found after a bound is put

-- the first key is the place
found-here : (p q key : Prop) (value : ℕ) (bound rest : Option (Option ℕ)) → p ≡ key → cond (is_same q key) (Some (Some value)) rest ≡ (if is_same p q then Some (Some value) else cond (is_same q key) bound rest)
found-here p q key value bound rest same = subst (λ (x : Prop). cond (is_same q x) (Some (Some value)) rest ≡ (if is_same p q then Some (Some value) else cond (is_same q x) bound rest)) same (by (is_same p q) refl)
  where
    by : (test : Bool) → is_same p q ≡ test → cond (is_same q p) (Some (Some value)) rest ≡ (if test then Some (Some value) else cond (is_same q p) bound rest)
    by true is = rw (same-turned p q is) refl
    by false other = rw (other-turned p q other) refl

-- it is another
found-behind : (p q key : Prop) (value : ℕ) (bound before after : Option (Option ℕ)) → is_same p key ≡ false → after ≡ (if is_same p q then Some (Some value) else before)
    → cond (is_same q key) bound after ≡ (if is_same p q then Some (Some value) else cond (is_same q key) bound before)
found-behind p q key value bound before after other behind = by (is_same q key) refl
  where
    here : (test : Bool) → is_same p q ≡ test → is_same q key ≡ true → bound ≡ (if test then Some (Some value) else bound)
    here true is same = never (sym other ∙ subst (λ (x : Prop). is_same p x ≡ true) (same-alike q key same) is)
    here false is same = refl

    by : (test : Bool) → is_same q key ≡ test → cond test bound after ≡ (if is_same p q then Some (Some value) else cond test bound before)
    by true same = here (is_same p q) refl same
    by false is = behind

first-passes : (test : Bool) (behind : Option ℕ) → (if test then Some 0 else option_map suc behind) ≡ Some 0 → test ≡ true
first-passes true behind is = refl
first-passes false None is = absurd (cc)
first-passes false (Some place) is = absurd (let wrong : suc place ≡ 0 = cc in omega arith)

later-passes : (test : Bool) (behind : Option ℕ) (place : ℕ) → (if test then Some 0 else option_map suc behind) ≡ Some (suc place) → (test ≡ false) × (behind ≡ Some place)
later-passes true behind place is = absurd (let wrong : 0 ≡ suc place = cc in omega arith)
later-passes false None place is = absurd (cc)
later-passes false (Some k) place is = (refl, ap (λ (n : ℕ). Some n) (let same : suc k ≡ suc place = cc in omega arith))

nowhere : {K : Type 0} (test : K → Bool) (keys : List K) → place_among test keys ≡ None → list_any test keys ≡ false
nowhere test [] none = refl
nowhere test (key ∷ keys) none = by (test key) (place_among test keys) (nowhere test keys) none
  where
    by : (passes : Bool) (behind : Option ℕ) → (behind ≡ None → list_any test keys ≡ false) → (if passes then Some 0 else option_map suc behind) ≡ None → (passes || list_any test keys) ≡ false
    by true behind rest none = absurd (cc)
    by false None rest none = rest refl
    by false (Some place) rest none = absurd (cc)

lookup-set : (p q : Prop) (keys : List Prop) (row : List (Option ℕ)) (place : ℕ) (value : ℕ) → place_among (is_same p) keys ≡ Some place → length row ≡ length keys
    → lookup (is_same q) (zip keys (slice_set row place (Some value))) ≡ (if is_same p q then Some (Some value) else lookup (is_same q) (zip keys row))
lookup-set p q [] row place value there size = absurd (cc)
lookup-set p q (key ∷ keys) [] place value there size = absurd (omega arith)
lookup-set p q (key ∷ keys) (bound ∷ row) zero value there size = found-here p q key value (Some bound) (lookup (is_same q) (zip keys row)) (same-alike p key (first-passes (is_same p key) (place_among (is_same p) keys) there))
lookup-set p q (key ∷ keys) (bound ∷ row) (suc place) value there size =
    let parts = later-passes (is_same p key) (place_among (is_same p) keys) place there in
    found-behind p q key value (Some bound) (lookup (is_same q) (zip keys row)) (lookup (is_same q) (zip keys (slice_set row place (Some value)))) parts.0
    (lookup-set p q keys row place value parts.1 (omega arith))

option-under : (test : Bool) (value : ℕ) (found : Option (Option ℕ)) → option_and_then (λ (b : Option ℕ). b) (if test then Some (Some value) else found) ≡ (if test then Some value else option_and_then (λ (b : Option ℕ). b) found)
option-under true value found = refl
option-under false value found = refl

module _ (interesting : List ColId) (row : List (Option ℕ)) (size : length row ≡ length (properties_of interesting)) (p : Prop) where
  pub bound-set : (place value : ℕ) → place_among (is_same p) (properties_of interesting) ≡ Some place → (q : Prop) → bound_by interesting (slice_set row place (Some value)) q ≡ (if is_same p q then Some value else bound_by interesting row q)
  bound-set place value there q =
      ap (option_and_then (λ (b : Option ℕ). b)) (lookup-set p q (properties_of interesting) row place value there size)
      ∙ option-under (is_same p q) value (lookup (is_same q) (zip (properties_of interesting) row))

  -- the bound before is what stands at the place
  bound-there : (place : ℕ) → place_among (is_same p) (properties_of interesting) ≡ Some place → place < length row → bound_by interesting row p ≡ get_or row place None
  bound-there place there within =
      lookup_place interesting row p ∙ ap (λ found. option_and_then (λ (b : Option ℕ). b) (option_and_then (slice_get row) found)) there
      ∙ ap (option_and_then (λ (b : Option ℕ). b)) (slice_get-get_or row place None within)

  below-worth : (cost : ℕ) (bound : Option ℕ) → cost < 2 ^ 128 → is_lower cost bound ≡ true → cost < worth_of bound
  below-worth cost None small is = small
  below-worth cost (Some bound) small is = ltb-true cost bound is

  put-worth : (place : Option ℕ) (cost : ℕ) → place_among (is_same p) (properties_of interesting) ≡ place → list_any (is_same p) (properties_of interesting) ≡ true → cost < 2 ^ 128 → is_lower cost (bound_by interesting row p) ≡ true → worth (put_at place cost row) < worth row
  put-worth None cost none listed small is = absurd (true≢false (sym listed ∙ nowhere (is_same p) (properties_of interesting) none))
  put-worth (Some place) cost there listed small is =
      let within : place < length row = (let inside = place-within (is_same p) (properties_of interesting) place there in omega arith) in
      let sums = sum_by-set worth_of row place (Some cost) None within in
      let fell : cost < worth_of (get_or row place None) = subst (λ (b : Option ℕ). cost < worth_of b) (bound-there place there within) (below-worth cost (bound_by interesting row p) small is) in
      omega arith

pub lowered-worth : (interesting : List ColId) (row : List (Option ℕ)) → length row ≡ length (properties_of interesting) → (p : Prop) (offer : Option Offer) → IfSome offer (λ (o : Offer). (o.cost < 2 ^ 128) × (list_any (is_same p) (properties_of interesting) ≡ true))
    → IsLess (falls offer (bound_by interesting row p)) (worth (lowered_row interesting p offer row)) (worth row)
lowered-worth interesting row size p None is = omega arith
lowered-worth interesting row size p (Some offer) is = by (is_lower offer.cost (bound_by interesting row p)) refl
  where
    by : (test : Bool) → is_lower offer.cost (bound_by interesting row p) ≡ test → IsLess test (worth (if test then put_at (place_among (is_same p) (properties_of interesting)) offer.cost row else row)) (worth row)
    by true lower = put-worth interesting row size p (place_among (is_same p) (properties_of interesting)) offer.cost refl is.1 is.0 lower
    by false other = omega arith

pub put-size : (place : Option ℕ) (cost : ℕ) (row : List (Option ℕ)) → length (put_at place cost row) ≡ length row
put-size None cost row = refl
put-size (Some place) cost row = length-set row place (Some cost)
