-- Two disjoint sets of leaves have the columns of both together, as schemas.
use Rattle.std.proofs.Common.{◌≡◌, suc, ◌&&◌, ◌||◌, Bool, true, false, true≢false, List, [], ◌∷◌, ◌++◌, Option, Some, None, is_some, refl, sym, ap, ap₂, ◌∙◌, if◌then◌else◌}
use Rattle.std.specs.List.{flat_map}
use Rattle.std.specs.Option.{option_or}
use Rattle.pdw_algebra.proofs.Used.{kind-there}
use Rattle.pdw_algebra.specs.Schema.{kind_at, rising}
use Rattle.pdw_algebra.specs.Shape.{all_apart, has_number}
use Rattle.pdw_base.specs.Schema.{Columns}
use Rattle.pdw_base.specs.declared.schema.ColId.{ColId}
use Rattle.pdw_base.specs.declared.value.Kind.{Kind}
use Rattle.pdw_dsql.proofs.SameKinds.{kind-append, rising-both, rising-same}
use Rattle.pdw_parts.proofs.ChosenLaws.{first-apart, later, later-apart}
use Rattle.pdw_parts.specs.Part.{AreDisjoint, LeafSet, chosen, columns_in, either}

-- a kind, where it is wanted
abbrev where_in : Bool → Option Kind → Option Kind
where_in b o = if b then o else None

chosen-kinds : (c : ColId) (set : LeafSet) (leaf : Columns) (leaves : List Columns)
    → kind_at (columns_in set (leaf ∷ leaves)) c ≡ option_or (where_in (set 0) (kind_at leaf c)) (kind_at (columns_in (later set) leaves) c)
chosen-kinds c set leaf leaves = by (set 0)
  where
    by : (b : Bool) → kind_at (flat_map (λ columns. columns) (if b then leaf ∷ chosen (later set) leaves else chosen (later set) leaves)) c
        ≡ option_or (where_in b (kind_at leaf c)) (kind_at (columns_in (later set) leaves) c)
    by true = kind-append c leaf (columns_in (later set) leaves)
    by false = refl

-- a column that is not there has no kind
absent-none : (c : ColId) (columns : Columns) → has_number c columns ≡ false → kind_at columns c ≡ None
absent-none c columns absent = by (kind_at columns c) refl
  where
    by : (o : Option Kind) → kind_at columns c ≡ o → o ≡ None
    by None is = refl
    by (Some k) is = absurd (true≢false (sym (kind-there columns c (ap is_some is)) ∙ absent))

union_table : (l r : Bool) (a p q : Option Kind) → (l && r) ≡ false → (is_some a ≡ true → p ≡ None)
    → option_or (option_or (where_in l a) p) (option_or (where_in r a) q) ≡ option_or (where_in (l || r) a) (option_or p q)
union_table true true a p q disjoint alone = absurd (true≢false disjoint)
union_table true false None p q disjoint alone = refl
union_table true false (Some k) p q disjoint alone = refl
union_table false true None p q disjoint alone = refl
union_table false true (Some k) p q disjoint alone = ap (λ p. option_or p (Some k)) (alone refl)
union_table false false a p q disjoint alone = refl

union-kinds : (leaves : List Columns) → all_apart leaves ≡ true → (left right : LeafSet) → AreDisjoint left right → (c : ColId)
    → kind_at (columns_in left leaves ++ columns_in right leaves) c ≡ kind_at (columns_in (either left right) leaves) c
union-kinds [] apart left right disjoint c = refl
union-kinds (leaf ∷ leaves) apart left right disjoint c =
    kind-append c (columns_in left (leaf ∷ leaves)) (columns_in right (leaf ∷ leaves))
    ∙ ap₂ option_or (chosen-kinds c left leaf leaves) (chosen-kinds c right leaf leaves)
    ∙ union_table (left 0) (right 0) (kind_at leaf c) (kind_at (columns_in (later left) leaves) c) (kind_at (columns_in (later right) leaves) c) (disjoint 0)
    (λ here. absent-none c (columns_in (later left) leaves) (first-apart leaf leaves apart (later left) c (kind-there leaf c here)))
    ∙ ap (λ o. option_or (where_in (left 0 || right 0) (kind_at leaf c)) o)
    (sym (kind-append c (columns_in (later left) leaves) (columns_in (later right) leaves)) ∙ union-kinds leaves (later-apart leaf leaves apart) (later left) (later right) (λ i. disjoint (suc i)) c)
    ∙ sym (chosen-kinds c (either left right) leaf leaves)

pub union-schema : (leaves : List Columns) → all_apart leaves ≡ true → (left right : LeafSet) → AreDisjoint left right
    → rising (rising (columns_in left leaves) ++ rising (columns_in right leaves)) ≡ rising (columns_in (either left right) leaves)
union-schema leaves apart left right disjoint =
    rising-both (columns_in left leaves) (columns_in right leaves)
    ∙ rising-same (columns_in left leaves ++ columns_in right leaves) (columns_in (either left right) leaves) (union-kinds leaves apart left right disjoint)
