-- The columns of sets of leaves: of both sets together, and of disjoint sets.
use Rattle.std.proofs.Common.{◌≡◌, ℕ, suc, ◌==◌, Bool, true, false, not, ◌&&◌, ◌||◌, List, [], ◌∷◌, refl, sym, ap, ◌∙◌, true≢false, arith, tests, if◌then◌else◌}
use Rattle.std.specs.List.{flat_map}
use Rattle.std.proofs.lemmas.Bool.{and_parts}
use Rattle.pdw_algebra.proofs.Used.{has_number-append}
use Rattle.pdw_algebra.proofs.WithinLaws.{not_right}
use Rattle.pdw_algebra.specs.Shape.{all_apart, are_apart, has_number}
use Rattle.pdw_base.specs.Schema.{Columns}
use Rattle.pdw_base.specs.declared.schema.ColId.{ColId}
use Rattle.pdw_parts.specs.Part.{AreDisjoint, LeafSet, chosen, columns_in, either}

-- the set of the leaves after the first
abbrev pub later : LeafSet → LeafSet
later set i = set (suc i)

-- ---- columns that lie apart

abbrev pub Apart : Columns → Columns → Type 0
Apart left right = (c : ColId) → has_number c left ≡ true → has_number c right ≡ false

here_or_later : (a b : Bool) → b ≡ true → (a || b) ≡ true
here_or_later true b there = refl
here_or_later false b there = there

equal-itself : (n : ℕ) → (n == n) ≡ true
equal-itself n = grind (arith, tests)

pub are_apart-from : (left right : Columns) → Apart left right → are_apart left right ≡ true
are_apart-from [] right apart = refl
are_apart-from (column ∷ left) right apart =
    ap (λ absent. not absent && are_apart left right) (apart column.0 (ap (λ same. same || has_number column.0 left) (equal-itself column.0.0)))
    ∙ are_apart-from left right (λ c there. apart c (here_or_later (column.0.0 == c.0) (has_number c left) there))

-- ---- columns of a set

has-chosen : (c : ColId) (set : LeafSet) (leaf : Columns) (leaves : List Columns)
    → has_number c (columns_in set (leaf ∷ leaves)) ≡ ((set 0 && has_number c leaf) || has_number c (columns_in (later set) leaves))
has-chosen c set leaf leaves = by (set 0)
  where
    by : (b : Bool) → has_number c (flat_map (λ columns. columns) (if b then leaf ∷ chosen (later set) leaves else chosen (later set) leaves))
        ≡ ((b && has_number c leaf) || has_number c (columns_in (later set) leaves))
    by true = has_number-append leaf (columns_in (later set) leaves) c
    by false = refl

either_table : (l r a p q : Bool) → (((l || r) && a) || (p || q)) ≡ (((l && a) || p) || ((r && a) || q))
either_table true true true p q = refl
either_table true true false p q = refl
either_table true false true p q = refl
either_table true false false p q = refl
either_table false true true true q = refl
either_table false true true false q = refl
either_table false true false p q = refl
either_table false false a p q = refl

-- both sets together have the columns of each
pub has-either : (c : ColId) (left right : LeafSet) (leaves : List Columns)
    → has_number c (columns_in (either left right) leaves) ≡ (has_number c (columns_in left leaves) || has_number c (columns_in right leaves))
has-either c left right [] = refl
has-either c left right (leaf ∷ leaves) =
    has-chosen c (either left right) leaf leaves
    ∙ ap (λ rest. ((left 0 || right 0) && has_number c leaf) || rest) (has-either c (later left) (later right) leaves)
    ∙ either_table (left 0) (right 0) (has_number c leaf) (has_number c (columns_in (later left) leaves)) (has_number c (columns_in (later right) leaves))
    ∙ sym (λ i. has-chosen c left leaf leaves i || has-chosen c right leaf leaves i)

-- the columns of all leaves
abbrev others : List Columns → Columns
others leaves = flat_map (λ columns. columns) leaves

-- no set has a column that no leaf has
absent-chosen : (c : ColId) (leaves : List Columns) → has_number c (others leaves) ≡ false
    → (set : LeafSet) → has_number c (columns_in set leaves) ≡ false
absent-chosen c [] absent set = refl
absent-chosen c (leaf ∷ leaves) absent set =
    has-chosen c set leaf leaves ∙ by (set 0) (has_number c leaf) (has_number c (others leaves)) (sym (has_number-append leaf (others leaves) c) ∙ absent) (λ none. absent-chosen c leaves none (later set))
  where
    by : (b here rest : Bool) → (here || rest) ≡ false → (rest ≡ false → has_number c (columns_in (later set) leaves) ≡ false)
        → ((b && here) || has_number c (columns_in (later set) leaves)) ≡ false
    by b true rest none more = absurd (true≢false none)
    by true false rest none more = more none
    by false false rest none more = more none

disjoint_table : (l r a p q : Bool) → ((l && a) || p) ≡ true → (l && r) ≡ false → (p ≡ true → q ≡ false) → (a ≡ true → (p ≡ false) × (q ≡ false)) → ((r && a) || q) ≡ false
disjoint_table l r true true q there disjoint rest alone = absurd (true≢false (alone refl).0)
disjoint_table l r true false true there disjoint rest alone = absurd (true≢false (alone refl).1)
disjoint_table true true true false false there disjoint rest alone = absurd (true≢false disjoint)
disjoint_table true false true false false there disjoint rest alone = refl
disjoint_table false r true false false there disjoint rest alone = absurd (true≢false (sym there))
disjoint_table true r false false q there disjoint rest alone = absurd (true≢false (sym there))
disjoint_table false r false false q there disjoint rest alone = absurd (true≢false (sym there))
disjoint_table l true false true q there disjoint rest alone = rest refl
disjoint_table l false false true q there disjoint rest alone = rest refl

-- disjoint sets of leaves have no column in common
pub disjoint-apart : (leaves : List Columns) → all_apart leaves ≡ true → (left right : LeafSet) → AreDisjoint left right
    → Apart (columns_in left leaves) (columns_in right leaves)
disjoint-apart [] apart left right disjoint c there = refl
disjoint-apart (leaf ∷ leaves) apart left right disjoint c there =
    has-chosen c right leaf leaves
    ∙ disjoint_table (left 0) (right 0) (has_number c leaf) (has_number c (columns_in (later left) leaves)) (has_number c (columns_in (later right) leaves))
    (sym (has-chosen c left leaf leaves) ∙ there) (disjoint 0)
    (disjoint-apart leaves parts.1 (later left) (later right) (λ i. disjoint (suc i)) c) alone
  where
    parts : (are_apart leaf (others leaves) ≡ true) × (all_apart leaves ≡ true)
    parts = and_parts (are_apart leaf (others leaves)) (all_apart leaves) apart

    alone : has_number c leaf ≡ true → (has_number c (columns_in (later left) leaves) ≡ false) × (has_number c (columns_in (later right) leaves) ≡ false)
    alone here =
        let none = not_right (others leaves) c leaf parts.0 here in
        (absent-chosen c leaves none (later left), absent-chosen c leaves none (later right))

-- a leaf has no column in common with any set of the leaves after it
pub first-apart : (leaf : Columns) (leaves : List Columns) → all_apart (leaf ∷ leaves) ≡ true → (set : LeafSet) → Apart leaf (columns_in set leaves)
first-apart leaf leaves apart set c here =
    absent-chosen c leaves (not_right (others leaves) c leaf (and_parts (are_apart leaf (others leaves)) (all_apart leaves) apart).0 here) set

pub later-apart : (leaf : Columns) (leaves : List Columns) → all_apart (leaf ∷ leaves) ≡ true → all_apart leaves ≡ true
later-apart leaf leaves apart = (and_parts (are_apart leaf (others leaves)) (all_apart leaves) apart).1
