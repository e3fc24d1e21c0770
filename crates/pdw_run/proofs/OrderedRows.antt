-- Any rows can be put into an order that the keys allow.
use Rattle.std.proofs.Common.{◌≡◌, ◌≢◌, ℕ, zero, suc, Bool, List, [], ◌∷◌, get_or, AllPairs, refl, sym, ap, ◌∙◌, arith}
use Rattle.std.specs.Cmp.{IsTotalOrder}
use Rattle.std.specs.List.{All}
use Rattle.std.specs.List.Sorted.{IsPermutation}
use Rattle.std.specs.Ordering.{ordering_reverse}
use Rattle.std.specs.declared.cmp.Ordering.{Ordering}
use Rattle.std.specs.declared.cmp.Ordering.TheVariants.{Less, Equal, Greater}
use Rattle.std.proofs.lemmas.List.Elements.{All-cons, All-nil}
use Rattle.std.proofs.lemmas.List.Kept.{AllPairs-cons}
use Rattle.std.proofs.lemmas.List.Sorted.{All-permutation, IsPermutation-cons, IsPermutation-middle, IsPermutation-refl, IsPermutation-trans}
use Rattle.pdw_catalog.specs.Table.{Row}
use Rattle.pdw_engine.proofs.OrderLaws.{keys_total}
use Rattle.pdw_semantics.specs.Answer.{IsOrdered, keys_cmp}

-- ---- any total order

module _ {X : Type 0} (R : X → X → Ordering) (o : IsTotalOrder R) where
  -- the first may stand before the second
  abbrev MayLead : X → X → Type 0
  MayLead earlier later = R later earlier ≢ Less

  abbrev Ordered : List X → Type 0
  Ordered = AllPairs MayLead

  greater_back : (x y : X) → R x y ≡ Greater → R y x ≡ Less
  greater_back x y e = o.antisymm y x ∙ ap ordering_reverse e

  MayLead-trans : (x y z : X) → MayLead x y → MayLead y z → MayLead x z
  MayLead-trans x y z first second less = by (R y x) refl
    where
      by : (c : Ordering) → R y x ≡ c → ⊥
      by Less is = first is
      by Equal is = second (greater_back y z (o.congr y x z is ∙ o.antisymm x z ∙ ap ordering_reverse less))
      by Greater is = second (o.trans z x y less (greater_back y x is))

  leads_all : (y : X) (ys : List X) → Ordered (y ∷ ys) → All (MayLead y) ys
  leads_all y ys ordered k d within = ordered zero (suc k) d (omega arith) (omega arith)

  rest_ordered : (y : X) (ys : List X) → Ordered (y ∷ ys) → Ordered ys
  rest_ordered y ys ordered i j d below within = ordered (suc i) (suc j) d (omega arith) (omega arith)

  -- a list in order, with one more item at its place
  abbrev Placed : X → List X → Type 0
  Placed x ys = (zs : List X) × IsPermutation (x ∷ ys) zs × Ordered zs

  less_once : (x y : X) → R x y ≡ Less → R y x ≡ Less → ⊥
  less_once x y first second = let turned : Less ≡ Greater = sym first ∙ o.antisymm x y ∙ ap ordering_reverse second in cc

  front : (x y : X) (ys : List X) → MayLead x y → Ordered (y ∷ ys) → Placed x (y ∷ ys)
  front x y ys here ordered = (
    x ∷ y ∷ ys,
    IsPermutation-refl (x ∷ y ∷ ys),
    AllPairs-cons MayLead x (y ∷ ys) (All-cons (MayLead x) y ys here (λ k d within. MayLead-trans x y (get_or ys k d) here (leads_all y ys ordered k d within))) ordered,
  )

  -- the item goes behind the first, or else to the front
  place_by : (x y : X) (ys : List X) → Ordered (y ∷ ys) → Placed x ys → (c : Ordering) → R y x ≡ c → Placed x (y ∷ ys)
  place_by x y ys ordered (zs, rearranged, placed) Less is = (
    y ∷ zs,
    IsPermutation-trans (x ∷ y ∷ ys) (y ∷ x ∷ ys) (y ∷ zs) (IsPermutation-middle (x ∷ []) y ys) (IsPermutation-cons y (x ∷ ys) zs rearranged),
    AllPairs-cons MayLead y zs (All-permutation (MayLead y) (x ∷ ys) zs rearranged (All-cons (MayLead y) x ys (less_once y x is) (leads_all y ys ordered))) placed,
  )
  place_by x y ys ordered rest Equal is = front x y ys (λ less. cc) ordered
  place_by x y ys ordered rest Greater is = front x y ys (λ less. cc) ordered

  place : (x : X) (ys : List X) → Ordered ys → Placed x ys
  place x [] ordered = (x ∷ [], IsPermutation-refl (x ∷ []), AllPairs-cons MayLead x [] (All-nil (MayLead x)) ordered)
  place x (y ∷ ys) ordered = place_by x y ys ordered (place x ys (rest_ordered y ys ordered)) (R y x) refl

  pub some_order : (xs : List X) → (ys : List X) × IsPermutation xs ys × Ordered ys
  some_order [] = ([], IsPermutation-refl [], λ i j d below within. absurd (omega arith))
  some_order (x ∷ xs) =
      let rest = some_order xs in
      let placed = place x rest.0 rest.2 in
      (placed.0, IsPermutation-trans (x ∷ xs) (x ∷ rest.0) placed.0 (IsPermutation-cons x xs rest.0 rest.1) placed.1, placed.2)

-- ---- rows and order keys

-- rows in an order that these keys allow
pub some_ordered : (keys : List (ℕ × Bool)) (rows : List Row) → (sorted : List Row) × IsPermutation rows sorted × IsOrdered keys sorted
some_ordered keys rows = some_order (keys_cmp keys) (keys_total keys) rows
