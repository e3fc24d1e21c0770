-- Groups of equal bags are one list, and so are their rows each once.
use Rattle.std.proofs.Common.{◌≡◌, ◌==◌, Bool, true, false, cond, ◌||◌, List, [], ◌∷◌, map, refl, sym, ap, ap₂, ◌∙◌, if◌then◌else◌, subst, eqb-true, true≢false}
use Rattle.std.specs.List.{list_any}
use Rattle.std.specs.Ordering.{eq_by_cmp}
use Rattle.pdw_bag_laws.proofs.Aggregates.{SameBag-aggregated}
use Rattle.pdw_bag_laws.proofs.Keys.{each_once-same, occurs, part_of, parts-alike, same_row-sym, same_row-≡}
use Rattle.pdw_bag_laws.proofs.Occurrence.{SameBag-list_any}
use Rattle.pdw_base.proofs.SameBagLaws.{SameBag-filter, SameBag-map}
use Rattle.pdw_base.specs.SameBag.{SameBag}
use Rattle.pdw_base.specs.Schema.{Env}
use Rattle.pdw_base.specs.declared.schema.ColId.{ColId}
use Rattle.pdw_base.specs.declared.value.Value.TheVariants.{Null}
use Rattle.pdw_base.specs.declared.value.Value.{Value}
use Rattle.pdw_expr.specs.Env.{union}
use Rattle.pdw_expr.specs.Parts.{each_once, groups, parts, row_cmp, same_row}
use Rattle.pdw_expr.specs.Rows.{aggregate_cells, argument, first_row, group_row, grouped, key_cells, key_of}
use Rattle.pdw_expr.specs.declared.agg.Agg.{Agg}

-- ---- rows of a key

pub SameBag-occurs : {X : Type 0} (key : X → List Value) {xs ys : List X} → SameBag xs ys → (k : List Value) → occurs k (map key xs) ≡ occurs k (map key ys)
SameBag-occurs key same k = SameBag-list_any (eq_by_cmp row_cmp k) (SameBag-map key same)

-- the first row of the rows of a key that occurs has that key
pub first-key : (key : Env → List Value) (rows : List Env) (k : List Value) → occurs k (map key rows) ≡ true → key (first_row (part_of key rows k)) ≡ k
first-key key [] k there = absurd (true≢false (sym there))
first-key key (row ∷ rows) k there = by (same_row (key row) k) refl there (first-key key rows k)
  where
    by : (is : Bool) → same_row (key row) k ≡ is → (same_row k (key row) || occurs k (map key rows)) ≡ true
        → (occurs k (map key rows) ≡ true → key (first_row (part_of key rows k)) ≡ k)
        → key (first_row (cond is (row ∷ part_of key rows k) (part_of key rows k))) ≡ k
    by true is _ _ = same_row-≡ (key row) k is
    by false is there rest = rest (ap (λ same. same || occurs k (map key rows)) (sym (same_row-sym k (key row) ∙ is)) ∙ there)

-- a key that does not occur has no rows
pub none-of_key : {X : Type 0} (key : X → List Value) (rows : List X) (k : List Value) → occurs k (map key rows) ≡ false → part_of key rows k ≡ []
none-of_key key [] k none = refl
none-of_key key (row ∷ rows) k none = by (same_row (key row) k) (occurs k (map key rows)) refl (ap (λ is. is || occurs k (map key rows)) (same_row-sym (key row) k) ∙ none) (none-of_key key rows k)
  where
    by : (is later : Bool) → same_row (key row) k ≡ is → (is || later) ≡ false → (later ≡ false → part_of key rows k ≡ []) → cond is (row ∷ part_of key rows k) (part_of key rows k) ≡ []
    by true later is none rest = absurd (true≢false none)
    by false later is none rest = rest none

pub column-≡ : (a b : ColId) → (a.0 == b.0) ≡ true → a ≡ b
column-≡ a b same = ap (λ n. record { 0 = n }) (eqb-true a.0 b.0 same)

same-at : (keys : List ColId) (a b : Env) → key_of keys a ≡ key_of keys b → (c : ColId) → list_any (λ key. key.0 == c.0) keys ≡ true → a c ≡ b c
same-at [] a b same c among = absurd (true≢false (sym among))
same-at (key ∷ keys) a b same c among =
    let here : a key ≡ b key = cc in
    let later : key_of keys a ≡ key_of keys b = cc in
    by (key.0 == c.0) refl among here (same-at keys a b later c)
  where
    by : (is : Bool) → (key.0 == c.0) ≡ is → (is || list_any (λ key. key.0 == c.0) keys) ≡ true → a key ≡ b key
        → (list_any (λ key. key.0 == c.0) keys ≡ true → a c ≡ b c) → a c ≡ b c
    by true is _ here later = subst (λ d. a d ≡ b d) (column-≡ key c is) here
    by false is among here later = later among

-- rows of one key have the same cells of keys
pub key_cells-same : (keys : List ColId) (a b : Env) → key_of keys a ≡ key_of keys b → key_cells keys a ≡ key_cells keys b
key_cells-same keys a b same = λ i c. cell c (list_any (λ key. key.0 == c.0) keys) refl i
  where
    cell : (c : ColId) (among : Bool) → list_any (λ key. key.0 == c.0) keys ≡ among → (if among then a c else Null) ≡ (if among then b c else Null)
    cell c true among = same-at keys a b same c among
    cell c false among = refl

-- ---- groups

aggregate_cells-same : (aggs : List Agg) (xs ys : List Env) → SameBag xs ys → (c : ColId) → aggregate_cells aggs xs c ≡ aggregate_cells aggs ys c
aggregate_cells-same [] xs ys same c = refl
aggregate_cells-same (agg ∷ aggs) xs ys same c =
    ap₂ (λ here more. if agg.out.0 == c.0 then here else more)
    (SameBag-aggregated agg.kind (map (argument agg.arg) xs) (map (argument agg.arg) ys) (SameBag-map (argument agg.arg) same))
    (aggregate_cells-same aggs xs ys same c)

group_row-same : (keys : List ColId) (aggs : List Agg) (xs ys : List Env) → key_of keys (first_row xs) ≡ key_of keys (first_row ys) → SameBag xs ys
    → group_row keys aggs xs ≡ group_row keys aggs ys
group_row-same keys aggs xs ys key same =
    ap₂ union (key_cells-same keys (first_row xs) (first_row ys) key) (λ i c. aggregate_cells-same aggs xs ys same c i)

-- what is made of the parts of equal bags is one list, where it is the same for equal bags of one key
pub SameBag-parts : {O : Type 0} (key : Env → List Value) (make : List Env → O)
    → ((xs ys : List Env) → key (first_row xs) ≡ key (first_row ys) → SameBag xs ys → make xs ≡ make ys)
    → (xs ys : List Env) → SameBag xs ys → map make (parts key xs) ≡ map make (parts key ys)
SameBag-parts key make each xs ys same =
    parts-alike key key make make xs ys (SameBag-occurs key same) (λ k there.
    each (part_of key xs k) (part_of key ys k)
    (first-key key xs k there ∙ sym (first-key key ys k (sym (SameBag-occurs key same k) ∙ there)))
    (SameBag-filter (λ row. same_row (key row) k) same))

-- and of their groups, with keys and without
pub SameBag-groups : {O : Type 0} (keys : List ColId) (make : List Env → O)
    → ((xs ys : List Env) → key_of keys (first_row xs) ≡ key_of keys (first_row ys) → SameBag xs ys → make xs ≡ make ys)
    → (xs ys : List Env) → SameBag xs ys → map make (groups keys (key_of keys) xs) ≡ map make (groups keys (key_of keys) ys)
SameBag-groups [] make each xs ys same = ap (λ made. made ∷ []) (each xs ys refl same)
SameBag-groups (first ∷ rest) make each xs ys same = SameBag-parts (key_of (first ∷ rest)) make each xs ys same

pub SameBag-grouped : (keys : List ColId) (aggs : List Agg) (xs ys : List Env) → SameBag xs ys → grouped keys aggs xs ≡ grouped keys aggs ys
SameBag-grouped keys aggs = SameBag-groups keys (group_row keys aggs) (group_row-same keys aggs)

-- rows of the same values in some columns, once
pub SameBag-distinct : (outs : List ColId) (xs ys : List Env) → SameBag xs ys → map (group_row outs []) (parts (key_of outs) xs) ≡ map (group_row outs []) (parts (key_of outs) ys)
SameBag-distinct outs = SameBag-parts (key_of outs) (group_row outs []) (group_row-same outs [])

pub SameBag-each_once : (rows others : List (List Value)) → SameBag rows others → each_once rows ≡ each_once others
SameBag-each_once rows others same = each_once-same rows others (λ row. SameBag-list_any (eq_by_cmp row_cmp row) same)
