-- The properties of a group are those that it may have.
use Rattle.std.proofs.Common.{◌≡◌, ◌==◌, false, ◌||◌, List, [], ◌∷◌, ◌++◌, map, refl, ap, ap₂, ◌∙◌}
use Rattle.std.proofs.Math.Bool.{or-false}
use Rattle.std.proofs.lemmas.List.Folds.{list_any-append}
use Rattle.std.specs.List.{list_any}
use Rattle.pdw_base.specs.declared.schema.ColId.{ColId}
use Rattle.pdw_move.specs.declared.kinds.Prop.TheVariants.{Spread, Hash, Replicated, Single, Control}
use Rattle.pdw_move.specs.declared.kinds.Prop.{Prop}
use Rattle.pdw_rules.proofs.Filters.{eqb-turned}
use Rattle.pdw_rules.specs.Rules.{is_same, may_have, properties_of}

abbrev last : List Prop
last = Replicated ∷ Single ∷ Control ∷ []

-- no property by a hash is one of these
no-hash : (p : Prop) → ((c : ColId) → is_same p (Hash c) ≡ false) → (columns : List ColId) → list_any (is_same p) (map Hash columns) ≡ false
no-hash p other [] = refl
no-hash p other (c ∷ columns) = ap₂ (λ a b. a || b) (other c) (no-hash p other columns)

hashed : (c : ColId) (columns : List ColId) → list_any (is_same (Hash c)) (map Hash columns) ≡ list_any (λ i. i.0 == c.0) columns
hashed c [] = refl
hashed c (i ∷ columns) = ap₂ (λ a b. a || b) (eqb-turned c.0 i.0) (hashed c columns)

behind : (p : Prop) → ((c : ColId) → is_same p (Hash c) ≡ false) → (columns : List ColId) → list_any (is_same p) (map Hash columns ++ last) ≡ list_any (is_same p) last
behind p other columns = list_any-append (is_same p) (map Hash columns) last ∙ ap (λ is. is || list_any (is_same p) last) (no-hash p other columns)

pub listed : (interesting : List ColId) (p : Prop) → list_any (is_same p) (properties_of interesting) ≡ may_have interesting p
listed interesting Spread = refl
listed interesting (Hash c) = list_any-append (is_same (Hash c)) (map Hash interesting) last ∙ or-false (list_any (is_same (Hash c)) (map Hash interesting)) ∙ hashed c interesting
listed interesting Replicated = behind Replicated (λ c. refl) interesting
listed interesting Single = behind Single (λ c. refl) interesting
listed interesting Control = behind Control (λ c. refl) interesting
