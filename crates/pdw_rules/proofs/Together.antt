-- The rows of all compute nodes.
use Rattle.std.proofs.Common.{◌≡◌, ◌≢◌, ℕ, zero, suc, ◌+◌, ◌<◌, ◌==◌, Bool, true, false, List, [], ◌∷◌, ◌++◌, refl, sym, ap, ap₂, ◌∙◌, subst, append-nil, arith, eqb-true}
use Rattle.std.proofs.lemmas.Bool.{eqb-false}
use Rattle.std.proofs.lemmas.Grind.{flat_map-append}
use Rattle.std.specs.List.{AllByRecursion, flat_map}
use Rattle.pdw_algebra.proofs.AllLaws.{all-append}
use Rattle.pdw_base.proofs.SameBagLaws.{SameBag-append, SameBag-refl, weigh-append}
use Rattle.pdw_base.specs.SameBag.{SameBag, weigh}
use Rattle.pdw_base.specs.declared.node.Node.{Node}
use Rattle.pdw_base.specs.declared.node.Node.TheVariants as node
use Rattle.pdw_move.specs.Placed.{compute_nodes}

module _ {X : Type 0} where
  -- what one compute node more adds
  pub together-more : (n : ℕ) (f : Node → List X) → flat_map f (compute_nodes (suc n)) ≡ flat_map f (compute_nodes n) ++ f (node.Compute n)
  together-more n f = flat_map-append f (compute_nodes n) (node.Compute n ∷ []) ∙ ap (λ xs. flat_map f (compute_nodes n) ++ xs) (append-nil (f (node.Compute n)))

  -- node by node an equal bag
  pub together-bags : (n : ℕ) (f g : Node → List X) → ((k : ℕ) → k < n → SameBag (f (node.Compute k)) (g (node.Compute k)))
      → SameBag (flat_map f (compute_nodes n)) (flat_map g (compute_nodes n))
  together-bags zero f g same = SameBag-refl []
  together-bags (suc n) f g same =
      subst (λ xs. SameBag xs (flat_map g (compute_nodes (suc n)))) (sym (together-more n f))
      (subst (λ ys. SameBag (flat_map f (compute_nodes n) ++ f (node.Compute n)) ys) (sym (together-more n g))
      (SameBag-append (together-bags n f g (λ k less. same k (omega (arith, less)))) (same n (omega arith))))

  -- node by node the same list
  pub together-lists : (n : ℕ) (f g : Node → List X) → ((k : ℕ) → k < n → f (node.Compute k) ≡ g (node.Compute k))
      → flat_map f (compute_nodes n) ≡ flat_map g (compute_nodes n)
  together-lists zero f g same = refl
  together-lists (suc n) f g same =
      together-more n f ∙ ap₂ (λ xs ys. xs ++ ys) (together-lists n f g (λ k less. same k (omega (arith, less)))) (same n (omega arith)) ∙ sym (together-more n g)

  pub together-none : (n : ℕ) (f : Node → List X) → ((k : ℕ) → k < n → f (node.Compute k) ≡ []) → flat_map f (compute_nodes n) ≡ []
  together-none zero f none = refl
  together-none (suc n) f none =
      together-more n f ∙ ap₂ (λ xs ys. xs ++ ys) (together-none n f (λ k less. none k (omega (arith, less)))) (none n (omega arith))

  -- where all others have nothing, what one has
  pub together-only : (n i : ℕ) (f : Node → List X) → i < n → ((k : ℕ) → k < n → k ≢ i → f (node.Compute k) ≡ []) → flat_map f (compute_nodes n) ≡ f (node.Compute i)
  together-only zero i f there none = absurd (omega arith)
  together-only (suc n) i f there none = together-more n f ∙ by (n == i) refl (λ less. together-only n i f less (λ k below. none k (omega (arith, below))))
    where
      by : (is : Bool) → (n == i) ≡ is → (i < n → flat_map f (compute_nodes n) ≡ f (node.Compute i)) → flat_map f (compute_nodes n) ++ f (node.Compute n) ≡ f (node.Compute i)
      by true is rest =
          let same : n ≡ i = eqb-true n i is in
          ap (λ xs. xs ++ f (node.Compute n)) (together-none n f (λ k less. none k (omega (arith, less)) (λ e. absurd (omega (arith, less, e)))))
          ∙ ap (λ k. f (node.Compute k)) same
      by false is rest =
          let other : n ≢ i = eqb-false n i is in
          ap₂ (λ xs ys. xs ++ ys) (rest (omega (arith, there, other))) (none n (omega arith) other)
          ∙ append-nil (f (node.Compute i))

  -- what holds of each row at each compute node
  pub together-all : (P : X → Type 0) (n : ℕ) (f : Node → List X) → ((k : ℕ) → k < n → AllByRecursion P (f (node.Compute k))) → AllByRecursion P (flat_map f (compute_nodes n))
  together-all P zero f all = tt
  together-all P (suc n) f all =
      subst (AllByRecursion P) (sym (together-more n f))
      (all-append P (flat_map f (compute_nodes n)) (f (node.Compute n)) (together-all P n f (λ k less. all k (omega (arith, less)))) (all n (omega arith)))

module _ {X Y : Type 0} where
  -- what is made of lists part by part is made of the rows of all nodes node by node
  pub together-made : (make : List X → List Y) → make [] ≡ [] → ((xs ys : List X) → make (xs ++ ys) ≡ make xs ++ make ys)
      → (f : Node → List X) (nodes : List Node) → make (flat_map f nodes) ≡ flat_map (λ place. make (f place)) nodes
  together-made make none parts f [] = none
  together-made make none parts f (place ∷ nodes) =
      parts (f place) (flat_map f nodes) ∙ ap (λ ys. make (f place) ++ ys) (together-made make none parts f nodes)

  both-weigh : (weight : Y → ℕ) (f g : X → List Y) (xs : List X) → weigh weight (flat_map (λ x. f x ++ g x) xs) ≡ weigh weight (flat_map f xs) + weigh weight (flat_map g xs)
  both-weigh weight f g [] = omega arith
  both-weigh weight f g (x ∷ xs) =
      let all = weigh-append weight (f x ++ g x) (flat_map (λ x. f x ++ g x) xs) in
      let here = weigh-append weight (f x) (g x) in
      let left = weigh-append weight (f x) (flat_map f xs) in
      let right = weigh-append weight (g x) (flat_map g xs) in
      let rest = both-weigh weight f g xs in
      omega arith

  -- two lists for each item
  pub SameBag-flat_map_both : (f g : X → List Y) (xs : List X) → SameBag (flat_map (λ x. f x ++ g x) xs) (flat_map f xs ++ flat_map g xs)
  SameBag-flat_map_both f g xs = record {
    weighs = λ weight.
        let sum = weigh-append weight (flat_map f xs) (flat_map g xs) in
        let both = both-weigh weight f g xs in
        omega arith;
  }
