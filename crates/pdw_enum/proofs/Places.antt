-- Each property of a group stands once among its properties, so the bound at its place is the bound of the property.
use Rattle.std.proofs.Common.{◌≡◌, ◌==◌, ◌<◌, ℕ, zero, suc, cond, Bool, true, false, List, [], ◌∷◌, ◌++◌, map, zip, fold, length, get_or, Option, Some, None, refl, sym, ap, subst, arith}
use Rattle.std.specs.List.{AllByRecursion, slice_get}
use Rattle.std.specs.Map.{lookup}
use Rattle.std.specs.Option.{IsSome, option_and_then}
use Rattle.std.proofs.lemmas.Option.{slice_get-get_or, slice_get_within}
use Rattle.pdw_base.specs.declared.schema.ColId.{ColId}
use Rattle.pdw_enum.specs.Root.{AreDifferent}
use Rattle.pdw_memo.proofs.EachGroup.{all-at, some-same}
use Rattle.pdw_move.specs.declared.kinds.Prop.{Prop}
use Rattle.pdw_move.specs.declared.kinds.Prop.TheVariants.{Spread, Hash, Replicated, Single, Control}
use Rattle.pdw_rules.specs.Rules.{is_same, properties_of}
use Rattle.pdw_ways.proofs.Same.{never, same-itself}
use Rattle.pdw_ways.specs.Bounds.{bound_by, least_in, lesser}

-- ---- properties that stand once

-- no later one is the same
abbrev Apart : List Prop → Type 0
Apart [] = Unit {0}
Apart (key ∷ keys) = AllByRecursion (λ (later : Prop). is_same later key ≡ false) keys × Apart keys

abbrev last : List Prop
last = Replicated ∷ Single ∷ Control ∷ []

spread-apart : (columns : List ColId) → AllByRecursion (λ (later : Prop). is_same later Spread ≡ false) (map Hash columns ++ last)
spread-apart [] = (refl, (refl, (refl, tt)))
spread-apart (c ∷ columns) = (refl, spread-apart columns)

hash-apart : (c : ColId) (columns : List ColId) → AllByRecursion (λ (later : ColId). (later.0 == c.0) ≡ false) columns → AllByRecursion (λ (later : Prop). is_same later (Hash c) ≡ false) (map Hash columns ++ last)
hash-apart c [] all = (refl, (refl, (refl, tt)))
hash-apart c (d ∷ columns) all = (all.0, hash-apart c columns all.1)

hashes-apart : (columns : List ColId) → AreDifferent columns → Apart (map Hash columns ++ last)
hashes-apart [] different = ((refl, (refl, tt)), ((refl, tt), (tt, tt)))
hashes-apart (c ∷ columns) different = (hash-apart c columns different.0, hashes-apart columns different.1)

-- ---- what is found under a property

found-there : (p key : Prop) (bound value : Option ℕ) (rest : Option (Option ℕ)) → key ≡ p → bound ≡ value → cond (is_same p key) (Some bound) rest ≡ Some value
found-there p key bound value rest same is = subst (λ (x : Prop). cond (is_same p x) (Some bound) rest ≡ Some value) (sym same) (rw (same-itself p) (ap (λ (b : Option ℕ). Some b) is))

lookup-there : (p : Prop) (value : Option ℕ) (keys : List Prop) (bounds : List (Option ℕ)) (place : ℕ) → Apart keys → slice_get keys place ≡ Some p → slice_get bounds place ≡ Some value → lookup (is_same p) (zip keys bounds) ≡ Some value
lookup-there p value [] bounds place apart is there = absurd (omega (arith, slice_get_within [] place p is))
lookup-there p value (key ∷ keys) [] place apart is there = absurd (omega (arith, slice_get_within [] place value there))
lookup-there p value (key ∷ keys) (bound ∷ bounds) zero apart is there = found-there p key bound value _ (some-same key p is) (some-same bound value there)
lookup-there p value (key ∷ keys) (bound ∷ bounds) (suc place) apart is there = rw (all-at (λ (later : Prop). is_same later key ≡ false) keys apart.0 place p is) (lookup-there p value keys bounds place apart.1 is there)

pub bound-there : (interesting : List ColId) → AreDifferent interesting → (bounds : List (Option ℕ)) (place : ℕ) (p : Prop) (value : Option ℕ) → slice_get (properties_of interesting) place ≡ Some p
    → slice_get bounds place ≡ Some value → bound_by interesting bounds p ≡ value
bound-there interesting different bounds place p value is there =
    ap (option_and_then (λ (b : Option ℕ). b)) (lookup-there p value (properties_of interesting) bounds place (spread-apart interesting, hashes-apart interesting different) is there)

-- the property at the place of a bound has this bound
pub cheapest-there : (interesting : List ColId) → AreDifferent interesting → (bounds : List (Option ℕ)) → length bounds ≡ length (properties_of interesting) → (place : ℕ) (any : Prop) (cost : ℕ) → slice_get bounds place ≡ Some (Some cost)
    → bound_by interesting bounds (get_or (properties_of interesting) place any) ≡ Some cost
cheapest-there interesting different bounds size place any cost there =
    let within : place < length (properties_of interesting) = (let inside = slice_get_within bounds place (Some cost) there in omega (arith, inside, size)) in
    bound-there interesting different bounds place (get_or (properties_of interesting) place any) (Some cost) (slice_get-get_or (properties_of interesting) place any within) there

-- ---- the least of a list

some-lesser : (first second : Option ℕ) → IsSome first → IsSome (lesser first second)
some-lesser None second some = never some
some-lesser (Some first) None some = refl
some-lesser (Some first) (Some second) some = by _
  where
    by : (test : Bool) → IsSome (cond test (Some second) (Some first))
    by true = refl
    by false = refl

some-second : (first second : Option ℕ) → IsSome second → IsSome (lesser first second)
some-second first None some = never some
some-second None (Some second) some = refl
some-second (Some first) (Some second) some = some-lesser (Some first) (Some second) refl

some-fold : (start : Option ℕ) (bounds : List (Option ℕ)) → IsSome start → IsSome (fold lesser start bounds)
some-fold start [] some = some
some-fold start (bound ∷ bounds) some = some-fold (lesser start bound) bounds (some-lesser start bound some)

some-least : (test : Prop → Bool) (keys : List Prop) (start : Option ℕ) (bounds : List (Option ℕ)) → IsSome (option_and_then (λ (b : Option ℕ). b) (lookup test (zip keys bounds))) → IsSome (fold lesser start bounds)
some-least test [] start bounds some = never some
some-least test (key ∷ keys) start [] some = never some
some-least test (key ∷ keys) start (bound ∷ bounds) some = by (test key) (some-least test keys (lesser start bound) bounds) some
  where
    by : (passes : Bool) → (IsSome (option_and_then (λ (b : Option ℕ). b) (lookup test (zip keys bounds))) → IsSome (fold lesser (lesser start bound) bounds))
        → IsSome (option_and_then (λ (b : Option ℕ). b) (cond passes (Some bound) (lookup test (zip keys bounds)))) → IsSome (fold lesser (lesser start bound) bounds)
    by true rest some = some-fold (lesser start bound) bounds (some-second start bound some)
    by false rest some = rest some

-- some bound is reached where that of a property is
pub least-reached : (interesting : List ColId) (bounds : List (Option ℕ)) (p : Prop) → IsSome (bound_by interesting bounds p) → IsSome (least_in bounds)
least-reached interesting bounds p some = some-least (is_same p) (properties_of interesting) None bounds some
