-- The first list that does not fit its group, looked for list by list.
use Rattle.std.proofs.Common.{◌≡◌, ◌==◌, ◌+◌, ◌<◌, ◌≤◌, ℕ, zero, suc, Bool, true, false, List, [], ◌∷◌, length, drop, Option, Some, None, refl, ap, ◌∙◌, arith, if◌then◌else◌, eq-eqb}
use Rattle.std.proofs.lemmas.Bool.{eqb-true}
use Rattle.std.specs.List.{slice_get}
use Rattle.std.specs.Option.{option_map}
use Rattle.pdw_cert.specs.Shape.{first_misshapen}
use Rattle.pdw_groups.specs.declared.group.Group.{Group}
use Rattle.pdw_rules.specs.Rules.{properties_of}
use Rattle.pdw_ways.specs.Bounds.{HaveShape}

-- ---- what is left of a list from a place on

pub drop-there : {X : Type 0} (xs : List X) (place : ℕ) (x : X) → slice_get xs place ≡ Some x → drop place xs ≡ x ∷ drop (suc place) xs
drop-there [] place x none = absurd (cc)
drop-there (x ∷ xs) zero y is = let same : x ≡ y = cc in ap (λ z. z ∷ xs) same
drop-there (x ∷ xs) (suc place) y is = drop-there xs place y is

pub drop-past : {X : Type 0} (xs : List X) (place : ℕ) → slice_get xs place ≡ None → drop place xs ≡ []
drop-past [] zero none = refl
drop-past [] (suc place) none = refl
drop-past (x ∷ xs) zero none = absurd (cc)
drop-past (x ∷ xs) (suc place) none = drop-past xs place none

drop-some : {X : Type 0} (xs : List X) (place : ℕ) → place < length xs → (x : X) × (drop place xs ≡ x ∷ drop (suc place) xs)
drop-some [] place within = absurd (omega arith)
drop-some (x ∷ xs) zero within = (x, refl)
drop-some (x ∷ xs) (suc place) within = drop-some xs place (omega arith)

pub drop-all : {X : Type 0} (xs : List X) (place : ℕ) → length xs ≤ place → drop place xs ≡ []
drop-all [] zero past = refl
drop-all [] (suc place) past = refl
drop-all (x ∷ xs) zero past = absurd (omega arith)
drop-all (x ∷ xs) (suc place) past = drop-all xs place (omega arith)

-- ---- the shape

pub shape-of-none : (groups : List Group) (lists : List (List (Option ℕ))) → first_misshapen groups lists ≡ None → HaveShape groups lists
shape-of-none [] [] none = tt
shape-of-none [] (list ∷ lists) none = absurd (cc)
shape-of-none (group ∷ groups) [] none = absurd (cc)
shape-of-none (group ∷ groups) (list ∷ lists) none = by (length list == length (properties_of group.interesting)) refl (first_misshapen groups lists) (shape-of-none groups lists) none
  where
    by : (test : Bool) → (length list == length (properties_of group.interesting)) ≡ test → (rest : Option ℕ) → (rest ≡ None → HaveShape groups lists) → (if test then option_map suc rest else Some 0) ≡ None → HaveShape (group ∷ groups) (list ∷ lists)
    by true is None behind none = (eqb-true (length list) (length (properties_of group.interesting)) is, behind refl)
    by true is (Some place) behind none = absurd (cc)
    by false is rest behind none = absurd (cc)

pub none-of-shape : (groups : List Group) (lists : List (List (Option ℕ))) → HaveShape groups lists → first_misshapen groups lists ≡ None
none-of-shape [] [] shape = refl
none-of-shape [] (list ∷ lists) shape = absurd shape
none-of-shape (group ∷ groups) [] shape = absurd shape
none-of-shape (group ∷ groups) (list ∷ lists) shape = rw (eq-eqb (length list) (length (properties_of group.interesting)) shape.0, none-of-shape groups lists shape.1) refl

-- ---- list by list

module _ (groups : List Group) (lists : List (List (Option ℕ))) where
  -- so far the lists fit, and what is left tells
  abbrev pub TellsFrom : ℕ → Type 0
  TellsFrom place = first_misshapen groups lists ≡ option_map (λ (n : ℕ). place + n) (first_misshapen (drop place groups) (drop place lists))

  pub tells-first : TellsFrom 0
  tells-first = by (first_misshapen groups lists)
    where
      by : (first : Option ℕ) → first ≡ option_map (λ (n : ℕ). 0 + n) first
      by None = refl
      by (Some n) = ap (λ (n : ℕ). Some n) (omega arith)

  module _ (place : ℕ) (tells : TellsFrom place) where
    module _ (group : Group) (there : slice_get groups place ≡ Some group) where
      pub missing : slice_get lists place ≡ None → first_misshapen groups lists ≡ Some place
      missing none = tells ∙ rw (drop-there groups place group there, drop-past lists place none) (ap (λ (n : ℕ). Some n) (omega arith))

      module _ (list : List (Option ℕ)) (kept : slice_get lists place ≡ Some list) where
        pub unfit : (length list == length (properties_of group.interesting)) ≡ false → first_misshapen groups lists ≡ Some place
        unfit test = tells ∙ rw (drop-there groups place group there, drop-there lists place list kept, test) (ap (λ (n : ℕ). Some n) (omega arith))

        pub fit : (length list == length (properties_of group.interesting)) ≡ true → TellsFrom (place + 1)
        fit test =
            let next : suc place ≡ place + 1 = omega arith in
            tells ∙ rw (drop-there groups place group there, drop-there lists place list kept, test) (by (first_misshapen (drop (suc place) groups) (drop (suc place) lists)) ∙ ap (λ (next : ℕ). option_map (λ (n : ℕ). next + n) (first_misshapen (drop next groups) (drop next lists))) next)
          where
            by : (rest : Option ℕ) → option_map (λ (n : ℕ). place + n) (option_map suc rest) ≡ option_map (λ (n : ℕ). suc place + n) rest
            by None = refl
            by (Some n) = ap (λ (n : ℕ). Some n) (omega arith)

    module _ (all : length groups ≤ place) where
      pub surplus : place < length lists → first_misshapen groups lists ≡ Some place
      surplus more = let left = drop-some lists place more in tells ∙ rw (drop-all groups place all, left.1) (ap (λ (n : ℕ). Some n) (omega arith))

      pub none-left : length lists ≤ place → first_misshapen groups lists ≡ None
      none-left few = tells ∙ rw (drop-all groups place all, drop-all lists place few) refl
