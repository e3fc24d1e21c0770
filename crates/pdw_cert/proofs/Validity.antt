-- Bounds are valid exactly where none of those that there are is too high: of any other rows there is no way.
use Rattle.std.proofs.Common.{◌≡◌, ◌+◌, ℕ, zero, suc, Bool, true, false, List, [], ◌∷◌, ◌++◌, map, Some, inl, inr, refl, sym, subst, ◌∙◌, arith}
use Rattle.std.proofs.lemmas.Bool.{or_cases}
use Rattle.std.specs.List.{AllByRecursion, list_any, slice_get}
use Rattle.pdw_cert.specs.TooHigh.{IsFine, all_made, made_after, made_at}
use Rattle.pdw_groups.specs.declared.group.Group.{Group}
use Rattle.pdw_groups.specs.declared.key.GroupId.{GroupId}
use Rattle.pdw_move.specs.declared.kinds.Prop.{Prop}
use Rattle.pdw_rules.proofs.Listed.{listed}
use Rattle.pdw_rules.specs.Rules.{is_same, may_have, properties_of}
use Rattle.pdw_ways.proofs.LeastOffers.{no-way}
use Rattle.pdw_ways.proofs.Same.{never, same-alike}
use Rattle.pdw_ways.specs.Bounds.{AreValid, AtMost, Bound, sum_of}
use Rattle.pdw_ways.specs.Ways.{Costs}
use Rattle.pdw_ways.specs.declared.made.Made.{Made}

pub all-first : {X : Type 0} (P : X → Type 0) (xs ys : List X) → AllByRecursion P (xs ++ ys) → AllByRecursion P xs
all-first P [] ys all = tt
all-first P (x ∷ xs) ys all = (all.0, all-first P xs ys all.1)

all-last : {X : Type 0} (P : X → Type 0) (xs ys : List X) → AllByRecursion P (xs ++ ys) → AllByRecursion P ys
all-last P [] ys all = all
all-last P (x ∷ xs) ys all = all-last P xs ys all.1

pub all-of : {X : Type 0} (P : X → Type 0) → ((x : X) → P x) → (xs : List X) → AllByRecursion P xs
all-of P each [] = tt
all-of P each (x ∷ xs) = (each x, all-of P each xs)

module _ (P : Made → Type 0) where
  under-property : (number : GroupId) (prop : Prop) (props : List Prop) → AllByRecursion P (map (λ (p : Prop). let made : Made = record { group = number; prop = p } in made) props) → list_any (is_same prop) props ≡ true → P (record { group = number; prop = prop })
  under-property number prop [] all none = never none
  under-property number prop (p ∷ props) all is = elim (or_cases (is_same prop p) (list_any (is_same prop) props) is) [
    | inl here ↦ subst (λ (p : Prop). P (record { group = number; prop = p })) (sym (same-alike prop p here)) all.0
    | inr there ↦ under-property number prop props all.1 there
  ]

  of-group : (before : ℕ) (groups : List Group) → AllByRecursion P (made_after before groups) → (place : ℕ) (group : Group) → slice_get groups place ≡ Some group → AllByRecursion P (made_at (record { 0 = before + place }) group)
  of-group before [] all place group none = absurd (cc)
  of-group before (first ∷ groups) all zero group is =
      let same : first ≡ group = cc in
      subst (λ (g : Group). AllByRecursion P (made_at (record { 0 = before + 0 }) g)) same (subst (λ (n : ℕ). AllByRecursion P (made_at (record { 0 = n }) first)) (omega arith) (all-first P (made_at (record { 0 = before }) first) (made_after (suc before) groups) all))
  of-group before (first ∷ groups) all (suc place) group is =
      subst (λ (n : ℕ). AllByRecursion P (made_at (record { 0 = n }) group)) (omega arith) (of-group (suc before) groups (all-last P (made_at (record { 0 = before }) first) (made_after (suc before) groups) all) place group is)

module _ (groups : List Group) (costs : Costs) (bound : Bound) where
  pub valid-of-fine : AllByRecursion (IsFine groups costs bound) (all_made groups) → AreValid groups costs bound
  valid-of-fine all made group way there is = by (may_have group.interesting made.prop) refl
    where
      fine : AllByRecursion (IsFine groups costs bound) (made_at (record { 0 = 0 + made.group.0 }) group)
      fine = of-group (IsFine groups costs bound) 0 groups all made.group.0 group there

      by : (test : Bool) → may_have group.interesting made.prop ≡ test → AtMost (bound made) (sum_of costs bound made.group way)
      by true has = under-property (IsFine groups costs bound) made.group made.prop (properties_of group.interesting) (subst (λ (n : ℕ). AllByRecursion (IsFine groups costs bound) (made_at (record { 0 = n }) group)) (omega arith) fine) (listed group.interesting made.prop ∙ has) group way there is
      by false none = absurd (no-way group made.prop none way is)
