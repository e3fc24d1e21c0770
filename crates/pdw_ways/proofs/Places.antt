-- Where a property stands among those of a group, and the bound that is found there.
use Rattle.std.proofs.Common.{◌≡◌, ◌==◌, ◌<◌, ◌+◌, ℕ, suc, cond, not, Bool, true, false, inl, inr, List, [], ◌∷◌, ◌++◌, length, map, zip, Option, Some, None, refl, sym, ap, ◌∙◌, arith, nat_lt, if◌then◌else◌}
use Rattle.std.proofs.lemmas.Bool.{cases_lt, le-ltb, lt-ltb}
use Rattle.std.specs.List.{position, position_or_len, slice_get}
use Rattle.std.specs.Map.{lookup}
use Rattle.std.specs.Option.{IfSome, option_and_then, option_map}
use Rattle.pdw_base.specs.declared.schema.ColId.{ColId}
use Rattle.pdw_move.specs.declared.kinds.Prop.TheVariants.{Spread, Hash, Replicated, Single, Control}
use Rattle.pdw_move.specs.declared.kinds.Prop.{Prop}
use Rattle.pdw_rules.specs.Rules.{is_same, properties_of}
use Rattle.pdw_ways.specs.Bounds.{bound_by, place_among}

-- ---- the place of the first that passes

shifted : (place size : ℕ) → cond (nat_lt (1 + place) (suc size)) (Some (1 + place)) None ≡ option_map suc (cond (nat_lt place size) (Some place) None)
shifted place size = elim (cases_lt place size) [
  | inl below ↦ rw (lt-ltb place size below, lt-ltb (1 + place) (suc size) (omega arith)) (ap (λ (n : ℕ). Some n) (omega arith))
  | inr past ↦ rw (le-ltb place size past, le-ltb (1 + place) (suc size) (omega arith)) refl
]

pub position_place : {K : Type 0} (test : K → Bool) (keys : List K) → position test keys ≡ place_among test keys
position_place test [] = refl
position_place test (key ∷ keys) = by (test key) (position_place test keys)
  where
    by : (passes : Bool) → position test keys ≡ place_among test keys
        → cond (nat_lt (cond (not passes) (1 + position_or_len test keys) 0) (suc (length keys))) (Some (cond (not passes) (1 + position_or_len test keys) 0)) None ≡ (if passes then Some 0 else option_map suc (place_among test keys))
    by true behind = rw (lt-ltb 0 (suc (length keys)) (omega arith)) refl
    by false behind = shifted (position_or_len test keys) (length keys) ∙ ap (option_map suc) behind

-- ---- what stands at that place

behind-place : {X : Type 0} (bound : X) (bounds : List X) (place : Option ℕ) → option_and_then (slice_get (bound ∷ bounds)) (option_map suc place) ≡ option_and_then (slice_get bounds) place
behind-place bound bounds None = refl
behind-place bound bounds (Some place) = refl

nothing-there : {X : Type 0} (place : Option ℕ) → option_and_then (slice_get {X = X} []) place ≡ None
nothing-there None = refl
nothing-there (Some place) = refl

lookup-among : {K X : Type 0} (test : K → Bool) (keys : List K) (list : List X) → lookup test (zip keys list) ≡ option_and_then (slice_get list) (place_among test keys)
lookup-among test [] list = refl
lookup-among {X = X} test (key ∷ keys) [] = sym (nothing-there {X = X} (place_among test (key ∷ keys)))
lookup-among {X = X} test (key ∷ keys) (bound ∷ bounds) = by (test key) (lookup-among test keys bounds)
  where
    by : (passes : Bool) → lookup test (zip keys bounds) ≡ option_and_then (slice_get bounds) (place_among test keys)
        → cond passes (Some bound) (lookup test (zip keys bounds)) ≡ option_and_then (slice_get (bound ∷ bounds)) (if passes then Some 0 else option_map suc (place_among test keys))
    by true rest = refl
    by false rest = rest ∙ sym (behind-place bound bounds (place_among test keys))

pub lookup_place : (interesting : List ColId) (list : List (Option ℕ)) (p : Prop) → bound_by interesting list p ≡ option_and_then (λ bound. bound) (option_and_then (slice_get list) (place_among (is_same p) (properties_of interesting)))
lookup_place interesting list p = ap (option_and_then (λ (bound : Option ℕ). bound)) (lookup-among (is_same p) (properties_of interesting) list)

module _ (interesting : List ColId) (list : List (Option ℕ)) (p : Prop) where
  abbrev taken : Option ℕ → Option ℕ
  taken place = option_and_then (λ (b : Option ℕ). b) (option_and_then (slice_get list) place)

  pub bound_found : (place : ℕ) (bound : Option ℕ) → Some place ≡ place_among (is_same p) (properties_of interesting) → Some bound ≡ slice_get list place → bound ≡ bound_by interesting list p
  bound_found place bound there is = ap (option_and_then (λ (b : Option ℕ). b)) is ∙ ap taken there ∙ sym (lookup_place interesting list p)

  pub bound_missing : (place : ℕ) → Some place ≡ place_among (is_same p) (properties_of interesting) → None ≡ slice_get list place → None ≡ bound_by interesting list p
  bound_missing place there none = ap (option_and_then (λ (b : Option ℕ). b)) none ∙ ap taken there ∙ sym (lookup_place interesting list p)

  pub bound_nowhere : None ≡ place_among (is_same p) (properties_of interesting) → None ≡ bound_by interesting list p
  bound_nowhere none = ap taken none ∙ sym (lookup_place interesting list p)

-- ---- the places of the properties

abbrev last : List Prop
last = Replicated ∷ Single ∷ Control ∷ []

hash-place : (c : ColId) (columns : List ColId) → place_among (is_same (Hash c)) (map Hash columns ++ last) ≡ place_among (λ (i : ColId). c.0 == i.0) columns
hash-place c [] = refl
hash-place c (i ∷ columns) = ap (λ place. if c.0 == i.0 then Some 0 else option_map suc place) (hash-place c columns)

behind-hashes : (p : Prop) → ((c : ColId) → is_same p (Hash c) ≡ false) → (k : ℕ) → place_among (is_same p) last ≡ Some k → (columns : List ColId) → place_among (is_same p) (map Hash columns ++ last) ≡ Some (length columns + k)
behind-hashes p other k there [] = there ∙ ap (λ (n : ℕ). Some n) (omega arith)
behind-hashes p other k there (c ∷ columns) = rw (other c) (ap (option_map suc) (behind-hashes p other k there columns) ∙ ap (λ (n : ℕ). Some n) (omega arith))

-- where each property stands, as the code finds it
abbrev pub place_by_kind : List ColId → Prop → Option ℕ
place_by_kind interesting Spread = Some 0
place_by_kind interesting (Hash c) = option_map suc (place_among (λ (i : ColId). c.0 == i.0) interesting)
place_by_kind interesting Replicated = Some (length interesting + 1)
place_by_kind interesting Single = Some (length interesting + 2)
place_by_kind interesting Control = Some (length interesting + 3)

pub places : (interesting : List ColId) (p : Prop) → place_among (is_same p) (properties_of interesting) ≡ place_by_kind interesting p
places interesting Spread = refl
places interesting (Hash c) = ap (option_map suc) (hash-place c interesting)
places interesting Replicated = ap (option_map suc) (behind-hashes Replicated (λ c. refl) 0 refl interesting) ∙ ap (λ (n : ℕ). Some n) (omega arith)
places interesting Single = ap (option_map suc) (behind-hashes Single (λ c. refl) 1 refl interesting) ∙ ap (λ (n : ℕ). Some n) (omega arith)
places interesting Control = ap (option_map suc) (behind-hashes Control (λ c. refl) 2 refl interesting) ∙ ap (λ (n : ℕ). Some n) (omega arith)

pub place-within : {K : Type 0} (test : K → Bool) (keys : List K) (place : ℕ) → place_among test keys ≡ Some place → place < length keys
place-within test [] place is = absurd (cc)
place-within test (key ∷ keys) place is = by (test key) (place_among test keys) (λ k. place-within test keys k) is
  where
    by : (passes : Bool) (behind : Option ℕ) → ((k : ℕ) → behind ≡ Some k → k < length keys) → (if passes then Some 0 else option_map suc behind) ≡ Some place → place < suc (length keys)
    by true behind within is = let zero : 0 ≡ place = cc in omega arith
    by false None within is = absurd (cc)
    by false (Some k) within is = let next : suc k ≡ place = cc in let before = within k refl in omega arith

pub found-within : {K : Type 0} (test : K → Bool) (keys : List K) (found : Option ℕ) → found ≡ place_among test keys → IfSome found (λ place. place < length keys)
found-within test keys None is = tt
found-within test keys (Some place) is = place-within test keys place (sym is)
