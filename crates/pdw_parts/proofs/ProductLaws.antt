-- The rows of leaves side by side: those of two disjoint sets, crossed, are those of both sets together.
use Rattle.std.proofs.Common.{◌≡◌, suc, Bool, true, false, ◌&&◌, ◌||◌, List, [], ◌∷◌, ◌++◌, map, refl, sym, ap, ap₂, subst, ◌∙◌, true≢false, if◌then◌else◌}
use Rattle.std.specs.List.{AllByRecursion, flat_map}
use Rattle.pdw_algebra.proofs.Products.{crossed-assoc, products-cons, within-crossed}
use Rattle.pdw_algebra.proofs.WithinLaws.{union-swapped}
use Rattle.pdw_algebra.specs.Shape.{all_apart, are_apart}
use Rattle.pdw_algebra.specs.Within.{AllWithin, IsWithin}
use Rattle.pdw_base.proofs.SameBagLaws.{SameBag-flat_map, SameBag-flat_map_inner, SameBag-map, SameBag-swap, SameBag-trans, SameBag-≡}
use Rattle.pdw_base.specs.SameBag.{SameBag}
use Rattle.pdw_base.specs.Schema.{Columns, Env}
use Rattle.pdw_expr.specs.Env.{union}
use Rattle.pdw_expr.specs.Join.{crossed}
use Rattle.pdw_expr.specs.Rows.{products}
use Rattle.pdw_parts.proofs.ChosenLaws.{are_apart-from, first-apart, later, later-apart}
use Rattle.pdw_parts.specs.Part.{AreDisjoint, Leaf, LeafSet, chosen, columns_in, either, leaf_columns, leaf_rows}

-- ---- crossed rows

pub crossed-left : {ls ms : List Env} (rs : List Env) → SameBag ls ms → SameBag (crossed union ls rs) (crossed union ms rs)
crossed-left rs same = SameBag-flat_map (λ l. map (union l) rs) same

pub crossed-right : (ls : List Env) {rs us : List Env} → SameBag rs us → SameBag (crossed union ls rs) (crossed union ls us)
crossed-right ls {rs} {us} same = SameBag-flat_map_inner (λ l. map (union l) rs) (λ l. map (union l) us) (λ l. SameBag-map (union l) same) ls

map-singles : {X Y : Type 0} (f : X → Y) (xs : List X) → map f xs ≡ flat_map (λ x. f x ∷ []) xs
map-singles f [] = refl
map-singles f (x ∷ xs) = ap (λ rest. f x ∷ rest) (map-singles f xs)

flat_map-same : {X Y : Type 0} (f g : X → List Y) → ((x : X) → f x ≡ g x) → (xs : List X) → flat_map f xs ≡ flat_map g xs
flat_map-same f g same [] = refl
flat_map-same f g same (x ∷ xs) = ap₂ (λ a b. a ++ b) (same x) (flat_map-same f g same xs)

module _ (left right : Columns) (apart : are_apart left right ≡ true) where
  row-swapped : (l : Env) → IsWithin left l → (rs : List Env) → AllWithin right rs → map (λ r. union r l) rs ≡ map (union l) rs
  row-swapped l of [] all = refl
  row-swapped l of (r ∷ rs) all = ap₂ (λ a b. a ∷ b) (union-swapped left right apart l r of all.0) (row-swapped l of rs all.1)

  rows-swapped : (ls rs : List Env) → AllWithin left ls → AllWithin right rs → flat_map (λ l. map (λ r. union r l) rs) ls ≡ crossed union ls rs
  rows-swapped [] rs first second = refl
  rows-swapped (l ∷ ls) rs first second = ap₂ (λ a b. a ++ b) (row-swapped l first.0 rs second) (rows-swapped ls rs first.1 second)

  -- either side may stand first
  pub crossed-swap : (ls rs : List Env) → AllWithin left ls → AllWithin right rs → SameBag (crossed union rs ls) (crossed union ls rs)
  crossed-swap ls rs first second =
      SameBag-trans (SameBag-≡ (flat_map-same (λ r. map (union r) ls) (λ r. flat_map (λ l. union r l ∷ []) ls) (λ r. map-singles (union r) ls) rs))
      (SameBag-trans (SameBag-swap (λ r l. union r l ∷ []) rs ls)
      (SameBag-≡ (flat_map-same (λ l. flat_map (λ r. union r l ∷ []) rs) (λ l. map (λ r. union r l) rs) (λ l. sym (map-singles (λ r. union r l) rs)) ls ∙ rows-swapped ls rs first second)))

-- ---- the leaves of a set

abbrev pub AllLeaves : List Leaf → Type 0
AllLeaves leaves = AllByRecursion (λ leaf. AllWithin leaf.columns leaf.rows) leaves

pub within-products : (set : LeafSet) (leaves : List Leaf) → AllLeaves leaves → AllWithin (columns_in set (leaf_columns leaves)) (products (chosen set (leaf_rows leaves)))
within-products set [] all = (record { elsewhere = λ c absent. refl }, tt)
within-products set (leaf ∷ leaves) all = by (set 0) (within-products (later set) leaves all.1)
  where
    by : (b : Bool) → AllWithin (columns_in (later set) (leaf_columns leaves)) (products (chosen (later set) (leaf_rows leaves)))
        → AllWithin (flat_map (λ columns. columns) (if b then leaf.columns ∷ chosen (later set) (leaf_columns leaves) else chosen (later set) (leaf_columns leaves)))
        (products (if b then leaf.rows ∷ chosen (later set) (leaf_rows leaves) else chosen (later set) (leaf_rows leaves)))
    by true rest = subst (AllWithin (leaf.columns ++ columns_in (later set) (leaf_columns leaves))) (sym (products-cons leaf.rows (chosen (later set) (leaf_rows leaves))))
        (within-crossed leaf.columns (columns_in (later set) (leaf_columns leaves)) leaf.rows (products (chosen (later set) (leaf_rows leaves))) all.0 rest)
    by false rest = rest

-- ---- two disjoint sets

module _ (rows : List Env) (left right both : List (List Env)) (same : SameBag (crossed union (products left) (products right)) (products both)) where
  -- the rows belong to the left set
  first-left : SameBag (crossed union (products (rows ∷ left)) (products right)) (products (rows ∷ both))
  first-left =
      SameBag-trans (SameBag-≡ (ap (λ first. crossed union first (products right)) (products-cons rows left) ∙ crossed-assoc rows (products left) (products right)))
      (SameBag-trans (crossed-right rows same) (SameBag-≡ (sym (products-cons rows both))))

  -- the rows belong to the right set
  first-right : SameBag (crossed union (products left) rows) (crossed union rows (products left))
      → SameBag (crossed union (products left) (products (rows ∷ right))) (products (rows ∷ both))
  first-right swapped =
      SameBag-trans (SameBag-≡ (ap (crossed union (products left)) (products-cons rows right) ∙ sym (crossed-assoc (products left) rows (products right))))
      (SameBag-trans (crossed-left (products right) swapped)
      (SameBag-trans (SameBag-≡ (crossed-assoc rows (products left) (products right)))
      (SameBag-trans (crossed-right rows same) (SameBag-≡ (sym (products-cons rows both))))))

pub products-both : (leaves : List Leaf) → AllLeaves leaves → all_apart (leaf_columns leaves) ≡ true → (left right : LeafSet) → AreDisjoint left right
    → SameBag (crossed union (products (chosen left (leaf_rows leaves))) (products (chosen right (leaf_rows leaves)))) (products (chosen (either left right) (leaf_rows leaves)))
products-both [] all apart left right disjoint = SameBag-≡ (ap (λ row. row ∷ []) refl)
products-both (leaf ∷ leaves) all apart left right disjoint =
    by (left 0) (right 0) (disjoint 0) (products-both leaves all.1 (later-apart leaf.columns (leaf_columns leaves) apart) (later left) (later right) (λ i. disjoint (suc i)))
  where
    swapped : SameBag (crossed union (products (chosen (later left) (leaf_rows leaves))) leaf.rows) (crossed union leaf.rows (products (chosen (later left) (leaf_rows leaves))))
    swapped = crossed-swap leaf.columns (columns_in (later left) (leaf_columns leaves))
        (are_apart-from leaf.columns (columns_in (later left) (leaf_columns leaves)) (first-apart leaf.columns (leaf_columns leaves) apart (later left)))
        leaf.rows (products (chosen (later left) (leaf_rows leaves))) all.0 (within-products (later left) leaves all.1)

    by : (l r : Bool) → (l && r) ≡ false
        → SameBag (crossed union (products (chosen (later left) (leaf_rows leaves))) (products (chosen (later right) (leaf_rows leaves)))) (products (chosen (either (later left) (later right)) (leaf_rows leaves)))
        → SameBag (crossed union (products (if l then leaf.rows ∷ chosen (later left) (leaf_rows leaves) else chosen (later left) (leaf_rows leaves)))
        (products (if r then leaf.rows ∷ chosen (later right) (leaf_rows leaves) else chosen (later right) (leaf_rows leaves))))
        (products (if l || r then leaf.rows ∷ chosen (either (later left) (later right)) (leaf_rows leaves) else chosen (either (later left) (later right)) (leaf_rows leaves)))
    by true true not_both rest = absurd (true≢false not_both)
    by true false not_both rest = first-left leaf.rows (chosen (later left) (leaf_rows leaves)) (chosen (later right) (leaf_rows leaves)) (chosen (either (later left) (later right)) (leaf_rows leaves)) rest
    by false true not_both rest = first-right leaf.rows (chosen (later left) (leaf_rows leaves)) (chosen (later right) (leaf_rows leaves)) (chosen (either (later left) (later right)) (leaf_rows leaves)) rest swapped
    by false false not_both rest = rest
