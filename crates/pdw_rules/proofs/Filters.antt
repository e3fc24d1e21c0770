-- Filters by tests that agree, and by numbers.
use Rattle.std.proofs.Common.{◌≡◌, ℕ, ◌<◌, ◌==◌, Bool, true, false, cond, List, [], ◌∷◌, ◌++◌, filter, refl, sym, ap, ◌∙◌, eqb-true, eq-eqb, ne_eqb, if◌then◌else◌}
use Rattle.std.proofs.lemmas.Bool.{eqb-false}
use Rattle.std.specs.List.{AllByRecursion, flat_map}
use Rattle.pdw_base.proofs.SameBagLaws.{SameBag-append, SameBag-trans, SameBag-≡}
use Rattle.pdw_base.specs.SameBag.{SameBag}
use Rattle.pdw_base.specs.declared.node.Node.{Node}
use Rattle.pdw_base.specs.declared.node.Node.TheVariants as node
use Rattle.pdw_move.specs.Placed.{compute_nodes}
use Rattle.pdw_rules.proofs.Together.{SameBag-flat_map_both, together-lists, together-none, together-only}

pub eqb-turned : (a b : ℕ) → (a == b) ≡ (b == a)
eqb-turned a b = by (a == b) refl
  where
    by : (is : Bool) → (a == b) ≡ is → (a == b) ≡ (b == a)
    by true is = is ∙ sym (eq-eqb b a (sym (eqb-true a b is)))
    by false is = is ∙ sym (ne_eqb b a (λ e. eqb-false a b is (sym e)))

module _ {X : Type 0} where
  pub filter-alike : (test other : X → Bool) → ((x : X) → test x ≡ other x) → (xs : List X) → filter test xs ≡ filter other xs
  filter-alike test other same xs = ap (λ (t : X → Bool). filter t xs) (λ i x. same x i)

  pub filter-all : (test : X → Bool) → ((x : X) → test x ≡ true) → (xs : List X) → filter test xs ≡ xs
  filter-all test all [] = refl
  filter-all test all (x ∷ xs) = ap (λ is. cond is (x ∷ filter test xs) (filter test xs)) (all x) ∙ ap (λ rest. x ∷ rest) (filter-all test all xs)

  pub filter-none : (test : X → Bool) → ((x : X) → test x ≡ false) → (xs : List X) → filter test xs ≡ []
  filter-none test none [] = refl
  filter-none test none (x ∷ xs) = ap (λ is. cond is (x ∷ filter test xs) (filter test xs)) (none x) ∙ filter-none test none xs

module _ {X : Type 0} (number : X → ℕ) where
  -- the items of a node's number
  abbrev pub numbered : List X → Node → List X
  numbered xs (node.Compute k) = filter (λ x. number x == k) xs
  numbered xs node.Control = []

  -- they have this number
  pub numbered-all : (k : ℕ) (xs : List X) → AllByRecursion (λ x. number x ≡ k) (filter (λ x. number x == k) xs)
  numbered-all k [] = tt
  numbered-all k (x ∷ xs) = by (number x == k) refl (numbered-all k xs)
    where
      by : (is : Bool) → (number x == k) ≡ is → AllByRecursion (λ x. number x ≡ k) (filter (λ x. number x == k) xs)
          → AllByRecursion (λ x. number x ≡ k) (cond is (x ∷ filter (λ x. number x == k) xs) (filter (λ x. number x == k) xs))
      by true is rest = (eqb-true (number x) k is, rest)
      by false is rest = rest

  abbrev one_numbered : X → Node → List X
  one_numbered x (node.Compute k) = if number x == k then x ∷ [] else []
  one_numbered x node.Control = []

  numbered-cons : (x : X) (xs : List X) (k : ℕ) → numbered (x ∷ xs) (node.Compute k) ≡ one_numbered x (node.Compute k) ++ numbered xs (node.Compute k)
  numbered-cons x xs k = by (number x == k)
    where
      by : (is : Bool) → cond is (x ∷ filter (λ x. number x == k) xs) (filter (λ x. number x == k) xs) ≡ (if is then x ∷ [] else []) ++ filter (λ x. number x == k) xs
      by true = refl
      by false = refl

  one-together : (n : ℕ) (x : X) → number x < n → flat_map (one_numbered x) (compute_nodes n) ≡ x ∷ []
  one-together n x less =
      together-only n (number x) (one_numbered x) less (λ k below other. ap (λ is. if is then x ∷ [] else []) (ne_eqb (number x) k (λ e. other (sym e))))
      ∙ ap (λ is. if is then x ∷ [] else []) (eq-eqb (number x) (number x) refl)

  -- where all numbers are below n, the items of each number below n are all items
  pub numbers-together : (n : ℕ) (xs : List X) → AllByRecursion (λ x. number x < n) xs → SameBag (flat_map (numbered xs) (compute_nodes n)) xs
  numbers-together n [] all = SameBag-≡ (together-none n (numbered []) (λ k less. refl))
  numbers-together n (x ∷ xs) all =
      SameBag-trans (SameBag-≡ (together-lists n (numbered (x ∷ xs)) (λ place. one_numbered x place ++ numbered xs place) (λ k less. numbered-cons x xs k)))
      (SameBag-trans (SameBag-flat_map_both (one_numbered x) (numbered xs) (compute_nodes n))
      (SameBag-append (SameBag-≡ (one-together n x all.0)) (numbers-together n xs all.1)))
