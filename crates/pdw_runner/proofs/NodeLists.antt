-- Lists over the nodes of an appliance, by what they say of the nodes that are there.
use Rattle.std.proofs.Common.{◌≡◌, ℕ, zero, suc, ◌+◌, ◌≤◌, List, [], ◌∷◌, ◌++◌, map, refl, ap₂, arith}
use Rattle.std.specs.List.{AllByRecursion, flat_map}
use Rattle.pdw_algebra.proofs.AllLaws.{all-append}
use Rattle.pdw_base.proofs.SameBagLaws.{SameBag-append, SameBag-refl}
use Rattle.pdw_base.specs.SameBag.{SameBag, weigh}
use Rattle.pdw_base.specs.declared.node.Node.{Node}
use Rattle.pdw_base.specs.declared.node.Node.TheVariants as node
use Rattle.pdw_dms.specs.Moved.{IsThere}
use Rattle.pdw_move.specs.Placed.{all_nodes, compute_nodes}

compute-there : (n m : ℕ) → m ≤ n → AllByRecursion (IsThere n) (compute_nodes m)
compute-there n zero within = tt
compute-there n (suc m) within = all-append (IsThere n) (compute_nodes m) (node.Compute m ∷ []) (compute-there n m (omega (arith, within))) (omega (arith, within), tt)

all-there : (n : ℕ) → AllByRecursion (IsThere n) (all_nodes n)
all-there n = all-append (IsThere n) (compute_nodes n) (node.Control ∷ []) (compute-there n n (omega arith)) (tt, tt)

module _ {X Y : Type 0} (P : X → Type 0) where
  map-where : (f g : X → Y) → ((x : X) → P x → f x ≡ g x) → (xs : List X) → AllByRecursion P xs → map f xs ≡ map g xs
  map-where f g same [] all = refl
  map-where f g same (x ∷ xs) all = ap₂ (λ y ys. y ∷ ys) (same x all.0) (map-where f g same xs all.1)

  lists-where : (f g : X → List Y) → ((x : X) → P x → f x ≡ g x) → (xs : List X) → AllByRecursion P xs → flat_map f xs ≡ flat_map g xs
  lists-where f g same [] all = refl
  lists-where f g same (x ∷ xs) all = ap₂ (λ ys zs. ys ++ zs) (same x all.0) (lists-where f g same xs all.1)

  bags-where : (f g : X → List Y) → ((x : X) → P x → SameBag (f x) (g x)) → (xs : List X) → AllByRecursion P xs → SameBag (flat_map f xs) (flat_map g xs)
  bags-where f g same [] all = SameBag-refl []
  bags-where f g same (x ∷ xs) all = SameBag-append (same x all.0) (bags-where f g same xs all.1)

sum-where : {X : Type 0} (P : X → Type 0) (f g : X → ℕ) → ((x : X) → P x → f x ≡ g x) → (xs : List X) → AllByRecursion P xs → weigh f xs ≡ weigh g xs
sum-where P f g same [] all = refl
sum-where P f g same (x ∷ xs) all = ap₂ (λ m k. m + k) (same x all.0) (sum-where P f g same xs all.1)

-- ---- node by node

module _ (n : ℕ) where
  pub nodes-map : {Y : Type 0} (f g : Node → Y) → ((place : Node) → IsThere n place → f place ≡ g place) → map f (all_nodes n) ≡ map g (all_nodes n)
  nodes-map f g same = map-where (IsThere n) f g same (all_nodes n) (all-there n)

  pub nodes-lists : {Y : Type 0} (f g : Node → List Y) → ((place : Node) → IsThere n place → f place ≡ g place) → flat_map f (all_nodes n) ≡ flat_map g (all_nodes n)
  nodes-lists f g same = lists-where (IsThere n) f g same (all_nodes n) (all-there n)

  pub nodes-bags : {Y : Type 0} (f g : Node → List Y) → ((place : Node) → IsThere n place → SameBag (f place) (g place)) → SameBag (flat_map f (all_nodes n)) (flat_map g (all_nodes n))
  nodes-bags f g same = bags-where (IsThere n) f g same (all_nodes n) (all-there n)

  pub nodes-sum : (f g : Node → ℕ) → ((place : Node) → IsThere n place → f place ≡ g place) → weigh f (all_nodes n) ≡ weigh g (all_nodes n)
  nodes-sum f g same = sum-where (IsThere n) f g same (all_nodes n) (all-there n)
