-- The flags, place by place, are those of the events in their order; so they count and number the enabled events.
use Rattle.std.proofs.Common.{◌≡◌, ℕ, zero, suc, ◌+◌, ◌-◌, ◌<◌, ◌≤◌, nat_lt, Bool, true, false, cond, if◌then◌else◌, List, [], ◌∷◌, ◌++◌, length, map, filter, get_or, refl, sym, ap, ◌∙◌, arith, ltb-false}
use Rattle.std.proofs.lemmas.Bool.{ltb-true, lt-ltb}
use Rattle.std.specs.List.{flat_map}
use Rattle.std.proofs.lemmas.List.{length-append, map-append, get_or_append_left, get_or-append_right}
use Rattle.std.proofs.lemmas.List.Elements.{filter-append}
use Rattle.pdw_base.specs.declared.node.Node.TheVariants as node
use Rattle.pdw_move.specs.Placed.{all_nodes, compute_nodes}
use Rattle.pdw_machine.specs.Flags.{grid_count, grid_place, grid_row, up_count, up_place}
use Rattle.pdw_machine.specs.Machine.{place}

-- ---- the nodes by their places

module _ {Y : Type 0} where
  -- the first values of a function of places
  abbrev pub first_values : (ℕ → Y) → ℕ → List Y
  first_values f zero = []
  first_values f (suc n) = f 0 ∷ first_values (λ k. f (suc k)) n

  first_values-last : (f : ℕ → Y) (n : ℕ) → first_values f n ++ f n ∷ [] ≡ first_values f (suc n)
  first_values-last f zero = refl
  first_values-last f (suc n) = ap (λ ys. f 0 ∷ ys) (first_values-last (λ k. f (suc k)) n)

  map-compute_nodes : (n m : ℕ) → m ≤ n → (f : ℕ → Y) → map (λ i. f (place n i)) (compute_nodes m) ≡ first_values f m
  map-compute_nodes n zero within f = refl
  map-compute_nodes n (suc m) within f =
      map-append (λ i. f (place n i)) (compute_nodes m) (node.Compute m ∷ [])
      ∙ ap (λ ys. ys ++ f (place n (node.Compute m)) ∷ []) (map-compute_nodes n m (omega arith) f)
      ∙ ap (λ b. first_values f m ++ f (if b then m else suc m) ∷ []) (lt-ltb m n (omega arith))
      ∙ first_values-last f m

  pub map-all_nodes : (n : ℕ) (f : ℕ → Y) → map (λ i. f (place n i)) (all_nodes n) ≡ first_values f (suc n)
  map-all_nodes n f =
      map-append (λ i. f (place n i)) (compute_nodes n) (node.Control ∷ [])
      ∙ ap (λ ys. ys ++ f n ∷ []) (map-compute_nodes n n (omega arith) f)
      ∙ first_values-last f n

  pub first_values-map : {X : Type 0} (g : X → Y) (xs : List X) (d : X) → map g xs ≡ first_values (λ k. g (get_or xs k d)) (length xs)
  first_values-map g [] d = refl
  first_values-map g (x ∷ xs) d = ap (λ ys. g x ∷ ys) (first_values-map g xs d)

  -- a function of what stands at the places of the nodes
  pub map-by_place : {X : Type 0} (n : ℕ) (xs : List X) (d : X) (g : X → Y) → length xs ≡ suc n → map (λ i. g (get_or xs (place n i) d)) (all_nodes n) ≡ map g xs
  map-by_place n xs d g long =
      map-all_nodes n (λ k. g (get_or xs k d))
      ∙ ap (first_values (λ k. g (get_or xs k d))) (sym long)
      ∙ sym (first_values-map g xs d)

-- ---- counts and numbers

module _ {X : Type 0} (test : X → Bool) where
  pub length-filter : (xs : List X) → length (filter test xs) ≡ up_count (map test xs)
  length-filter [] = refl
  length-filter (x ∷ xs) = by (test x) (length-filter xs)
    where
      by : (b : Bool) → length (filter test xs) ≡ up_count (map test xs) → length (cond b (x ∷ filter test xs) (filter test xs)) ≡ up_count (b ∷ map test xs)
      by true rest = ap suc rest
      by false rest = rest

  pub get_or-filter : (xs : List X) (k : ℕ) (d : X) → k < up_count (map test xs) → get_or (filter test xs) k d ≡ get_or xs (up_place (map test xs) k) d
  get_or-filter [] k d within = absurd (omega arith)
  get_or-filter (x ∷ xs) k d within = by (test x) k within (λ m. get_or-filter xs m d)
    where
      by : (b : Bool) (m : ℕ) → m < up_count (b ∷ map test xs) → ((j : ℕ) → j < up_count (map test xs) → get_or (filter test xs) j d ≡ get_or xs (up_place (map test xs) j) d)
          → get_or (cond b (x ∷ filter test xs) (filter test xs)) m d ≡ get_or (x ∷ xs) (up_place (b ∷ map test xs) m) d
      by true zero less rest = refl
      by true (suc m) less rest = rest m (omega arith)
      by false m less rest = rest m less

  module _ {I : Type 0} (row : I → List X) where
    pub length-filter_rows : (is : List I) → length (filter test (flat_map row is)) ≡ grid_count (map (λ i. map test (row i)) is)
    length-filter_rows [] = refl
    length-filter_rows (i ∷ is) =
        ap length (filter-append test (row i) (flat_map row is))
        ∙ length-append (filter test (row i)) (filter test (flat_map row is))
        ∙ (λ j. length-filter (row i) j + length-filter_rows is j)

    pub get_or-filter_rows : (is : List I) (k : ℕ) (d : X) (e : I) → k < grid_count (map (λ i. map test (row i)) is)
        → get_or (filter test (flat_map row is)) k d
        ≡ get_or (row (get_or is (grid_row (map (λ i. map test (row i)) is) k) e)) (grid_place (map (λ i. map test (row i)) is) k) d
    get_or-filter_rows [] k d e within = absurd (omega arith)
    get_or-filter_rows (i ∷ is) k d e within =
        ap (λ xs. get_or xs k d) (filter-append test (row i) (flat_map row is))
        ∙ by (nat_lt k (up_count (map test (row i)))) refl (λ m. get_or-filter_rows is m d e)
      where
        by : (b : Bool) → nat_lt k (up_count (map test (row i))) ≡ b
            → ((m : ℕ) → m < grid_count (map (λ i. map test (row i)) is) → get_or (filter test (flat_map row is)) m d
            ≡ get_or (row (get_or is (grid_row (map (λ i. map test (row i)) is) m) e)) (grid_place (map (λ i. map test (row i)) is) m) d)
            → get_or (filter test (row i) ++ filter test (flat_map row is)) k d
            ≡ get_or (row (get_or (i ∷ is) (if b then 0 else suc (grid_row (map (λ i. map test (row i)) is) (k - up_count (map test (row i))))) e))
            (if b then up_place (map test (row i)) k else grid_place (map (λ i. map test (row i)) is) (k - up_count (map test (row i)))) d
        by true first rest =
            let inside : k < up_count (map test (row i)) = ltb-true _ _ first in
            let long = length-filter (row i) in
            get_or_append_left (filter test (row i)) (filter test (flat_map row is)) d k (omega arith) ∙ get_or-filter (row i) k d inside
        by false later rest =
            let outside : up_count (map test (row i)) ≤ k = ltb-false _ _ later in
            get_or-append_right (filter test (row i)) (filter test (flat_map row is)) (up_count (map test (row i))) k d (length-filter (row i)) outside
            ∙ rest (k - up_count (map test (row i))) (omega (arith, within))
