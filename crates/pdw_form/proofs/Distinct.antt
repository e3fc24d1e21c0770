-- Rows without their duplicates, and groups of rows by their keys.
use Rattle.std.proofs.Common.{◌≡◌, ◌≢◌, ◌==◌, Bool, true, false, cond, ◌||◌, List, [], ◌∷◌, map, filter, refl, sym, ap, subst, ◌∙◌, if◌then◌else◌, arith, eq-eqb, tests, true≢false}
use Rattle.std.specs.Cmp.{IsTotalOrder, Equal-is, tied_itself}
use Rattle.std.specs.Cmp.Lexicographic.{lists_total}
use Rattle.std.specs.FinMap.{slice_cmp-IsAntisymmetric}
use Rattle.std.specs.List.{AllByRecursion, list_any}
use Rattle.std.specs.Ordering.{eq_by_cmp, is_eq}
use Rattle.pdw_base.proofs.ComparisonLemmas.{value_cmp-total, value_cmp-Equal}
use Rattle.pdw_base.specs.Schema.{Env}
use Rattle.pdw_base.specs.declared.schema.ColId.{ColId}
use Rattle.pdw_base.specs.declared.value.Value.{Value}
use Rattle.pdw_base.specs.declared.value.Value.TheVariants.{Null}
use Rattle.pdw_expr.proofs.EnvLaws.{union-nulls}
use Rattle.pdw_expr.specs.Env.{or_else}
use Rattle.pdw_expr.specs.Parts.{each_once, parts, row_cmp, same_row}
use Rattle.pdw_expr.specs.Rows.{first_row, group_row, key_of}
use Rattle.pdw_form.proofs.Related as related
use Rattle.pdw_form.proofs.Related.{Related}
use Rattle.pdw_expr.specs.Predicates.{has_rows}
use Rattle.pdw_form.specs.Numbered.{distinct_rows}
use Rattle.pdw_expr.specs.Predicates.{distinct_if}

-- ---- rows that are the same

pub tied : (a b : List Value) → same_row a b ≡ true → a ≡ b
tied a b e = slice_cmp-IsAntisymmetric value_cmp-Equal a b ((Equal-is (row_cmp a b)).0 e)

pub row_cmp-total : IsTotalOrder row_cmp
row_cmp-total = lists_total value_cmp-total

itself : (a : List Value) → same_row a a ≡ true
itself a = ap is_eq (tied_itself row_cmp-total a)

turned : (a b : List Value) → same_row a b ≡ true → same_row b a ≡ true
turned a b e = subst (λ c. same_row c a ≡ true) (tied a b e) (itself a)

-- ---- the rows of a list without duplicates are rows of the list

or_right : (a b : Bool) → b ≡ true → (a || b) ≡ true
or_right true b e = refl
or_right false b e = e

or_left : (a b : Bool) → a ≡ true → (a || b) ≡ true
or_left a b e = ap (λ a. a || b) e

all_members : (P : List Value → Type 0) (ks : List (List Value)) → ((k : List Value) → list_any (eq_by_cmp row_cmp k) ks ≡ true → P k) → AllByRecursion P ks
all_members P [] f = tt
all_members P (k ∷ ks) f = (f k (or_left (same_row k k) _ (itself k)), all_members P ks (λ x e. f x (or_right (same_row x k) _ e)))

-- each of the rows without duplicates is one of the rows, and each row is one of them
abbrev pub OnceIs : Type 0
OnceIs = (rows : List (List Value)) (k : List Value) → list_any (eq_by_cmp row_cmp k) (each_once rows) ≡ list_any (eq_by_cmp row_cmp k) rows

-- a list of rows that begins with one of this key
pub data Headed {X : Type 0} (key : X → List Value) (k : List Value) : List X → Type 0 where
  headed : (x : X) (xs : List X) → key x ≡ k → Headed key k (x ∷ xs)

module _ {X : Type 0} (key : X → List Value) (k : List Value) where
  headed-unless : (b : Bool) (x : X) (xs : List X) → same_row (key x) k ≡ b → ((same_row k (key x) || list_any (eq_by_cmp row_cmp k) (map key xs)) ≡ true)
      → (list_any (eq_by_cmp row_cmp k) (map key xs) ≡ true → Headed key k (filter (λ x. same_row (key x) k) xs))
      → Headed key k (cond b (x ∷ filter (λ x. same_row (key x) k) xs) (filter (λ x. same_row (key x) k) xs))
  headed-unless true x xs is e rest = headed x (filter (λ x. same_row (key x) k) xs) (tied (key x) k is)
  headed-unless false x xs is e rest = rest (other (same_row k (key x)) refl e)
    where
      other : (c : Bool) → same_row k (key x) ≡ c → (c || list_any (eq_by_cmp row_cmp k) (map key xs)) ≡ true → list_any (eq_by_cmp row_cmp k) (map key xs) ≡ true
      other true so e = absurd (true≢false (sym (turned k (key x) so) ∙ is))
      other false so e = e

  filter-headed : (xs : List X) → list_any (eq_by_cmp row_cmp k) (map key xs) ≡ true → Headed key k (filter (λ x. same_row (key x) k) xs)
  filter-headed [] e = absurd (true≢false (sym e))
  filter-headed (x ∷ xs) e = headed-unless (same_row (key x) k) x xs refl e (filter-headed xs)

related-of_all : {P : List Value → Type 0} {Y : Type 0} {S : List Value → Y → Type 0} (f : List Value → Y) → ((k : List Value) → P k → S k (f k)) → (ks : List (List Value)) → AllByRecursion P ks → Related S ks (map f ks)
related-of_all f each [] all = related.none
related-of_all f each (k ∷ ks) all = related.more (each k all.0) (related-of_all f each ks all.1)

module _ (once : OnceIs) where
  -- each part begins with a row of its key
  pub parts-headed : {X : Type 0} (key : X → List Value) (rows : List X) → Related (Headed key) (each_once (map key rows)) (parts key rows)
  parts-headed key rows =
      related-of_all (λ k. filter (λ x. same_row (key x) k) rows) (λ k e. filter-headed key k rows e) (each_once (map key rows))
      (all_members (λ k. list_any (eq_by_cmp row_cmp k) (map key rows) ≡ true) (each_once (map key rows)) (λ k e. sym (once (map key rows) k) ∙ e))

-- ---- the columns of a row

pub numbers-same : (a c : ColId) → (a.0 == c.0) ≡ true → a ≡ c
numbers-same a c e = let n : a.0 ≡ c.0 = grind (arith, tests) in ap (λ n. record { 0 = n }) n

others : (b e : Bool) → b ≡ false → e ≡ false → (b || e) ≡ false
others b e x y = ap (λ b. b || e) x ∙ y

pub differ : (a c : ColId) (b : Bool) → a ≢ c → (a.0 == c.0) ≡ b → (a.0 == c.0) ≡ false
differ a c true not is = absurd (not (numbers-same a c is))
differ a c false not is = is

pub not_among : (some : List ColId) (c : ColId) → AllByRecursion (λ out. out ≢ c) some → list_any (λ key. key.0 == c.0) some ≡ false
not_among [] c all = refl
not_among (a ∷ some) c all = others (a.0 == c.0) _ (differ a c (a.0 == c.0) all.0 refl) (not_among some c all.1)

module _ (outs : List ColId) where
  -- a row that keeps these columns alone has the same values in them
  kept-value : (part : List Env) (c : ColId) → list_any (λ key. key.0 == c.0) outs ≡ true → group_row outs [] part c ≡ first_row part c
  kept-value part c e = ap (λ b. or_else (if b then first_row part c else Null) Null) e ∙ ap (λ m. m c) (union-nulls (first_row part))

  kept-values : (part : List Env) (some : List ColId) → ((c : ColId) → list_any (λ key. key.0 == c.0) some ≡ true → list_any (λ key. key.0 == c.0) outs ≡ true) → map (group_row outs [] part) some ≡ map (first_row part) some
  kept-values part [] among = refl
  kept-values part (c ∷ cs) among = λ i.
      kept-value part c (among c (or_left (c.0 == c.0) _ (eq-eqb c.0 c.0 refl))) i
      ∷ kept-values part cs (λ d e. among d (or_right (c.0 == d.0) _ e)) i

  first-values : (part : List Env) → key_of outs (group_row outs [] part) ≡ key_of outs (first_row part)
  first-values part = kept-values part outs (λ c e. e)

  headed-values : {ks : List (List Value)} {ps : List (List Env)} → Related (Headed (key_of outs)) ks ps → map (key_of outs) (map (group_row outs []) ps) ≡ ks
  headed-values related.none = refl
  headed-values (related.more {x = k} {y = part} (headed row rows is) rest) = λ i. (first-values (row ∷ rows) ∙ is) i ∷ headed-values rest i

  pub distinct-values : OnceIs → (distinct : Bool) (rows : List Env) → map (key_of outs) (distinct_rows distinct outs rows) ≡ distinct_if distinct (map (key_of outs) rows)
  distinct-values once true rows = headed-values (parts-headed once (key_of outs) rows)
  distinct-values once false rows = refl

  -- a row has nothing but some columns
  abbrev pub Only : Env → Type 0
  Only m = (c : ColId) → AllByRecursion (λ out. out ≢ c) outs → m c ≡ Null

  group-only : (part : List Env) → Only (group_row outs [] part)
  group-only part c all = ap (λ b. or_else (if b then first_row part c else Null) Null) (not_among outs c all)

  groups-only : (ps : List (List Env)) → AllByRecursion Only (map (group_row outs []) ps)
  groups-only [] = tt
  groups-only (part ∷ ps) = (group-only part, groups-only ps)

  pub distinct-only : (distinct : Bool) (rows : List Env) → AllByRecursion Only rows → AllByRecursion Only (distinct_rows distinct outs rows)
  distinct-only true rows all = groups-only (parts (key_of outs) rows)
  distinct-only false rows all = all

-- ---- whether there are rows

pub has_rows-distinct : OnceIs → (distinct : Bool) (rows : List (List Value)) → has_rows (distinct_if distinct rows) ≡ has_rows rows
has_rows-distinct once false rows = refl
has_rows-distinct once true rows = some-once (each_once rows) rows (once rows)
  where
    some-once : (xs ys : List (List Value)) → ((k : List Value) → list_any (eq_by_cmp row_cmp k) xs ≡ list_any (eq_by_cmp row_cmp k) ys) → has_rows xs ≡ has_rows ys
    some-once [] [] same = refl
    some-once [] (y ∷ ys) same = absurd (true≢false (sym (same y ∙ or_left (same_row y y) _ (itself y))))
    some-once (x ∷ xs) [] same = absurd (true≢false (sym (or_left (same_row x x) _ (itself x)) ∙ same x))
    some-once (x ∷ xs) (y ∷ ys) same = refl
