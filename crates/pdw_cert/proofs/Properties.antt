-- The properties of a group by their places: spread, by the hash of each column, and the three others.
use Rattle.std.proofs.Common.{◌≡◌, ◌≢◌, ◌-◌, ◌+◌, ◌≤◌, ℕ, zero, suc, List, [], ◌∷◌, ◌++◌, length, map, Some, None, refl, ap, ◌∙◌, arith}
use Rattle.std.specs.List.{slice_get}
use Rattle.pdw_base.specs.declared.schema.ColId.{ColId}
use Rattle.pdw_move.specs.declared.kinds.Prop.{Prop}
use Rattle.pdw_move.specs.declared.kinds.Prop.TheVariants.{Hash, Replicated, Single, Control}
use Rattle.pdw_rules.specs.Rules.{properties_of}

abbrev last : List Prop
last = Replicated ∷ Single ∷ Control ∷ []

hash-there : (interesting : List ColId) (place : ℕ) (c : ColId) → slice_get interesting place ≡ Some c → slice_get (map Hash interesting ++ last) place ≡ Some (Hash c)
hash-there [] place c none = absurd (cc)
hash-there (first ∷ interesting) zero c is = let same : first ≡ c = cc in ap (λ (x : ColId). Some (Hash x)) same
hash-there (first ∷ interesting) (suc place) c is = hash-there interesting place c is

behind-hashes : (interesting : List ColId) (place : ℕ) → slice_get interesting place ≡ None → slice_get (map Hash interesting ++ last) place ≡ slice_get last (place - length interesting)
behind-hashes [] place none = ap (slice_get last) (omega arith)
behind-hashes (first ∷ interesting) zero none = absurd (cc)
behind-hashes (first ∷ interesting) (suc place) none = behind-hashes interesting place none ∙ ap (slice_get last) (omega arith)

pub hashed : (interesting : List ColId) (place : ℕ) (c : ColId) → place ≢ 0 → slice_get interesting (place - 1) ≡ Some c → slice_get (properties_of interesting) place ≡ Some (Hash c)
hashed interesting zero c some is = absurd (some refl)
hashed interesting (suc place) c some is = hash-there interesting place c (ap (slice_get interesting) (omega arith) ∙ is)

pub whole : (interesting : List ColId) (place : ℕ) (prop : Prop) → place ≢ 0 → slice_get interesting (place - 1) ≡ None → slice_get last (place - 1 - length interesting) ≡ Some prop → slice_get (properties_of interesting) place ≡ Some prop
whole interesting zero prop some none is = absurd (some refl)
whole interesting (suc place) prop some none is = behind-hashes interesting place (ap (slice_get interesting) (omega arith) ∙ none) ∙ ap (slice_get last) (omega arith) ∙ is

pub past-hashes : (interesting : List ColId) (place : ℕ) → slice_get interesting place ≡ None → length interesting ≤ place
past-hashes [] place none = omega arith
past-hashes (first ∷ interesting) zero none = absurd (cc)
past-hashes (first ∷ interesting) (suc place) none = let rest = past-hashes interesting place none in omega (arith, rest)

pub property-count : (interesting : List ColId) → length (properties_of interesting) ≡ length interesting + 4
property-count interesting = ap suc (by interesting) ∙ omega arith
  where
    by : (columns : List ColId) → length (map Hash columns ++ last) ≡ length columns + 3
    by [] = refl
    by (c ∷ columns) = let rest = by columns in omega (arith, rest)
