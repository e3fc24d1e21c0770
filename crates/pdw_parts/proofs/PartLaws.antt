-- The laws of parts: the join of two, the part of all leaves, and the part of one.
use Rattle.std.proofs.Common.{◌≡◌, ℕ, zero, suc, ◌==◌, Bool, true, false, cond, List, map, [], ◌∷◌, filter, append-nil, is_some, Some, refl, sym, ap, ap₂, ◌∙◌, true≢false, if◌then◌else◌}
use Rattle.std.proofs.Math.Dec.{eqb-suc-suc, eqb-suc-zero, eqb-zero-suc}
use Rattle.std.specs.List.{flat_map, list_all, slice_get}
use Rattle.std.proofs.lemmas.Bool.{and_parts}
use Rattle.pdw_algebra.proofs.Products.{block-filter, inner-crossed, products-one}
use Rattle.pdw_base.proofs.SameBagLaws.{SameBag-filter, SameBag-trans, SameBag-≡}
use Rattle.pdw_base.specs.SameBag.{SameBag}
use Rattle.pdw_base.specs.Schema.{Columns, Env}
use Rattle.pdw_expr.specs.Env.{union}
use Rattle.pdw_expr.specs.Join.{crossed}
use Rattle.pdw_expr.specs.Rows.{filtered, joined, meets, products}
use Rattle.pdw_expr.specs.declared.agg.JoinKind.TheVariants as kind
use Rattle.pdw_expr.specs.declared.cond.Cond.{Cond}
use Rattle.pdw_parts.proofs.ChosenLaws.{are_apart-from, disjoint-apart}
use Rattle.pdw_parts.proofs.ConjunctLaws.{inside-use, meets-both}
use Rattle.pdw_parts.proofs.ProductLaws.{crossed-left, crossed-right, products-both, within-products}
use Rattle.pdw_parts.specs.Part.{AreDisjoint, AreLeaves, Leaf, LeafSet, between, chosen, columns_in, either, every, inside, is_inside, leaf_columns, leaf_rows, only, part_rows}

-- ---- the join of two parts

module _ (leaves : List Leaf) (sound : AreLeaves leaves) (conds : List Cond) (left right : LeafSet) (disjoint : AreDisjoint left right) where
  abbrev columns : List Columns
  columns = leaf_columns leaves

  abbrev on : List Cond
  on = between left right columns conds

  abbrev left_rows : List Env
  left_rows = products (chosen left (leaf_rows leaves))

  abbrev right_rows : List Env
  right_rows = products (chosen right (leaf_rows leaves))

  -- the rows of both parts, each filtered by the conjuncts inside it, and then by those between them
  parts-joined : filtered on (crossed union (part_rows left leaves conds) (part_rows right leaves conds))
      ≡ filtered (inside (either left right) columns conds) (crossed union left_rows right_rows)
  parts-joined =
      block-filter (columns_in left columns) (columns_in right columns)
      (are_apart-from (columns_in left columns) (columns_in right columns) (disjoint-apart columns sound.apart left right disjoint))
      (inside left columns conds) (inside right columns conds) on
      (inside-use (columns_in left columns) conds) (inside-use (columns_in right columns) conds)
      left_rows right_rows (within-products left leaves sound.each) (within-products right leaves sound.each)
      ∙ ap (λ p. filter p (crossed union left_rows right_rows)) (λ i row. meets-both left right columns row conds i)

  pub part-join : (ls rs : List Env) → SameBag ls (part_rows left leaves conds) → SameBag rs (part_rows right leaves conds)
      → SameBag (joined kind.Inner on ls rs) (part_rows (either left right) leaves conds)
  part-join ls rs is_left is_right =
      SameBag-trans (SameBag-≡ (inner-crossed (meets on) ls rs))
      (SameBag-trans (SameBag-filter (meets on) (SameBag-trans (crossed-left rs is_left) (crossed-right (part_rows left leaves conds) is_right)))
      (SameBag-trans (SameBag-≡ parts-joined)
      (SameBag-filter (meets (inside (either left right) columns conds)) (products-both leaves sound.each sound.apart left right disjoint))))

-- ---- all leaves

pub chosen-every : {X : Type 0} (xs : List X) → chosen every xs ≡ xs
chosen-every [] = refl
chosen-every (x ∷ xs) = ap (λ rest. x ∷ rest) (chosen-every xs)

filter-passes : {X : Type 0} (p : X → Bool) (xs : List X) → list_all p xs ≡ true → filter p xs ≡ xs
filter-passes p [] all = refl
filter-passes p (x ∷ xs) all =
    let parts = and_parts (p x) (list_all p xs) all in
    ap (λ b. cond b (x ∷ filter p xs) (filter p xs)) parts.0 ∙ ap (λ rest. x ∷ rest) (filter-passes p xs parts.1)

-- a block whose conjuncts use its leaves' columns alone
pub inside-every : (leaves : List Columns) (conds : List Cond) → list_all (is_inside (flat_map (λ columns. columns) leaves)) conds ≡ true → inside every leaves conds ≡ conds
inside-every leaves conds all =
    ap (λ some. filter (is_inside (flat_map (λ columns. columns) some)) conds) (chosen-every leaves)
    ∙ filter-passes (is_inside (flat_map (λ columns. columns) leaves)) conds all

pub part-every : (leaves : List Leaf) (conds : List Cond) → list_all (is_inside (flat_map (λ columns. columns) (leaf_columns leaves))) conds ≡ true
    → part_rows every leaves conds ≡ filtered conds (products (leaf_rows leaves))
part-every leaves conds all = ap₂ (λ kept rows. filtered kept (products rows)) (inside-every (leaf_columns leaves) conds all) (chosen-every (leaf_rows leaves))

-- ---- one leaf

chosen-none : {X : Type 0} (xs : List X) → chosen (λ i. false) xs ≡ []
chosen-none [] = refl
chosen-none (x ∷ xs) = chosen-none xs

some-same : {X : Type 0} (a b : X) → Some a ≡ Some b → a ≡ b
some-same a b same = cc

pub chosen-only : {X : Type 0} (xs : List X) (n : ℕ) (x : X) → slice_get xs n ≡ Some x → chosen (only n) xs ≡ x ∷ []
chosen-only [] n x there = absurd (true≢false (ap is_some (sym there)))
chosen-only (y ∷ xs) zero x there =
    ap (λ (set : LeafSet). y ∷ chosen set xs) (λ i k. eqb-suc-zero k i) ∙ ap₂ (λ first rest. first ∷ rest) (some-same y x there) (chosen-none xs)
chosen-only (y ∷ xs) (suc n) x there =
    ap (λ (b : Bool). if b then y ∷ chosen (λ k. suc k == suc n) xs else chosen (λ k. suc k == suc n) xs) (eqb-zero-suc n)
    ∙ ap (λ (set : LeafSet). chosen set xs) (λ i k. eqb-suc-suc k n i)
    ∙ chosen-only xs n x there

pub chosen-map : {X Y : Type 0} (f : X → Y) (set : LeafSet) (xs : List X) → chosen set (map f xs) ≡ map f (chosen set xs)
chosen-map f set [] = refl
chosen-map f set (x ∷ xs) = by (set 0) (chosen-map f (λ i. set (suc i)) xs)
  where
    by : (b : Bool) → chosen (λ i. set (suc i)) (map f xs) ≡ map f (chosen (λ i. set (suc i)) xs)
        → (if b then f x ∷ chosen (λ i. set (suc i)) (map f xs) else chosen (λ i. set (suc i)) (map f xs))
        ≡ map f (if b then x ∷ chosen (λ i. set (suc i)) xs else chosen (λ i. set (suc i)) xs)
    by true rest = ap (λ others. f x ∷ others) rest
    by false rest = rest

-- the columns of one leaf
pub columns-only : (leaves : List Columns) (n : ℕ) (columns : Columns) → slice_get leaves n ≡ Some columns → columns_in (only n) leaves ≡ columns
columns-only leaves n columns there = ap (flat_map (λ columns. columns)) (chosen-only leaves n columns there) ∙ append-nil columns

pub part-only : (leaves : List Leaf) (conds : List Cond) (n : ℕ) (leaf : Leaf) → slice_get leaves n ≡ Some leaf
    → part_rows (only n) leaves conds ≡ filtered (filter (is_inside leaf.columns) conds) leaf.rows
part-only leaves conds n leaf there =
    ap₂ (λ columns rows. filtered (filter (is_inside (flat_map (λ columns. columns) columns)) conds) (products rows))
    (chosen-map (λ leaf. leaf.columns) (only n) leaves ∙ ap leaf_columns (chosen-only leaves n leaf there))
    (chosen-map (λ leaf. leaf.rows) (only n) leaves ∙ ap leaf_rows (chosen-only leaves n leaf there))
    ∙ ap₂ (λ columns rows. filtered (filter (is_inside columns) conds) rows) (append-nil leaf.columns) (products-one leaf.rows)
