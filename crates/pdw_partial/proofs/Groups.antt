-- The final rows of partial rows are the groups of what these were made of.
use Rattle.std.proofs.Common.{◌≡◌, Bool, true, false, cond, ◌||◌, List, [], ◌∷◌, ◌++◌, map, filter, refl, sym, ap, ap₂, subst, ◌∙◌}
use Rattle.std.proofs.lemmas.List.Elements.{filter-append}
use Rattle.std.proofs.lemmas.List.Folds.{list_any-append}
use Rattle.std.proofs.lemmas.List.{map-append}
use Rattle.std.specs.List.{AllByRecursion, flat_map}
use Rattle.std.specs.Ordering.{eq_by_cmp}
use Rattle.pdw_bag_laws.proofs.Groups.{SameBag-grouped, SameBag-groups, first-key, key_cells-same, none-of_key}
use Rattle.pdw_bag_laws.proofs.Keys.{all-each_once, occurs, occurs-each_once, one-each_once, one_or_none, part_of, parts-alike}
use Rattle.pdw_base.specs.SameBag.{SameBag}
use Rattle.pdw_base.specs.Schema.{Env}
use Rattle.pdw_base.specs.declared.schema.ColId.{ColId}
use Rattle.pdw_base.specs.declared.value.Value.{Value}
use Rattle.pdw_expr.specs.Env.{union}
use Rattle.pdw_expr.specs.Parts.{each_once, row_cmp, same_row}
use Rattle.pdw_expr.specs.Rows.{first_row, group_row, grouped, key_of}
use Rattle.pdw_expr.specs.declared.agg.Agg.{Agg}
use Rattle.pdw_partial.proofs.Cells as cells
use Rattle.pdw_partial.proofs.Cells.{Pieces, final_row-same, partial-key, partial_row-same, pieces-cells}
use Rattle.pdw_partial.specs.Partial.{IsPartial, KeysApart, final_row, final_rows, partial_row, partial_rows, together}

-- ---- equal bags

pub SameBag-partial_rows : (keys : List ColId) (aggs : List Agg) (xs ys : List Env) → SameBag xs ys → partial_rows keys aggs xs ≡ partial_rows keys aggs ys
SameBag-partial_rows keys aggs = SameBag-groups keys (partial_row keys aggs) (partial_row-same keys aggs)

pub SameBag-final_rows : (keys : List ColId) (aggs : List Agg) (xs ys : List Env) → SameBag xs ys → final_rows keys aggs xs ≡ final_rows keys aggs ys
SameBag-final_rows keys aggs = SameBag-groups keys (final_row keys aggs) (final_row-same keys aggs)

-- ---- one group

finished : (keys : List ColId) (aggs : List Agg) → KeysApart keys aggs → {partials rows : List Env} → Pieces keys aggs partials rows
    → key_of keys (first_row partials) ≡ key_of keys (first_row rows) → final_row keys aggs partials ≡ group_row keys aggs rows
finished keys aggs apart {partials} {rows} pieces key =
    ap₂ union (key_cells-same keys (first_row partials) (first_row rows) key) (pieces-cells keys aggs apart pieces)

-- without keys each part gives one piece
pieces-all : (aggs : List Agg) (parts : List (List Env)) → Pieces [] aggs (flat_map (partial_rows [] aggs) parts) (together parts)
pieces-all aggs [] = cells.none
pieces-all aggs (part ∷ parts) = cells.piece part (pieces-all aggs parts)

-- ---- groups by keys

filter-map : {X Y : Type 0} (test : Y → Bool) (f : X → Y) (other : X → Bool) (xs : List X) → AllByRecursion (λ x. test (f x) ≡ other x) xs
    → filter test (map f xs) ≡ map f (filter other xs)
filter-map test f other [] all = refl
filter-map test f other (x ∷ xs) all =
    ap (λ is. cond is (f x ∷ filter test (map f xs)) (filter test (map f xs))) all.0
    ∙ by (other x) (filter-map test f other xs all.1)
  where
    by : (is : Bool) → filter test (map f xs) ≡ map f (filter other xs)
        → cond is (f x ∷ filter test (map f xs)) (filter test (map f xs)) ≡ map f (cond is (x ∷ filter other xs) (filter other xs))
    by true rest = ap (λ ys. f x ∷ ys) rest
    by false rest = rest

module _ (first : ColId) (others : List ColId) (aggs : List Agg) (apart : KeysApart (first ∷ others) aggs) where
  abbrev keys : List ColId
  keys = first ∷ others

  abbrev key : Env → List Value
  key = key_of keys

  abbrev made : List Env → List Value → Env
  made rows k = partial_row keys aggs (part_of key rows k)

  made-key : (rows : List Env) → AllByRecursion (λ k. key (made rows k) ≡ k) (each_once (map key rows))
  made-key rows = all-each_once (λ k. key (made rows k) ≡ k) (map key rows) (λ k there. partial-key keys aggs apart (part_of key rows k) ∙ first-key key rows k there)

  -- the keys of the partial rows are those of the rows
  keys-once : (rows : List Env) → map key (partial_rows keys aggs rows) ≡ each_once (map key rows)
  keys-once rows = each (each_once (map key rows)) (made-key rows)
    where
      each : (ks : List (List Value)) → AllByRecursion (λ k. key (made rows k) ≡ k) ks → map key (map (partial_row keys aggs) (map (part_of key rows) ks)) ≡ ks
      each [] all = refl
      each (k ∷ ks) all = ap₂ (λ here more. here ∷ more) all.0 (each ks all.1)

  occurs-together : (parts : List (List Env)) (k : List Value) → occurs k (map key (flat_map (partial_rows keys aggs) parts)) ≡ occurs k (map key (together parts))
  occurs-together [] k = refl
  occurs-together (part ∷ parts) k =
      ap (occurs k) (map-append key (partial_rows keys aggs part) (flat_map (partial_rows keys aggs) parts))
      ∙ list_any-append (eq_by_cmp row_cmp k) (map key (partial_rows keys aggs part)) (map key (flat_map (partial_rows keys aggs) parts))
      ∙ ap₂ (λ here later. here || later) (ap (occurs k) (keys-once part) ∙ occurs-each_once (map key part) k) (occurs-together parts k)
      ∙ sym (list_any-append (eq_by_cmp row_cmp k) (map key part) (map key (together parts)))
      ∙ sym (ap (occurs k) (map-append key part (together parts)))

  -- of the partial rows of a part one has a key that occurs
  one-partial : (rows : List Env) (k : List Value) → part_of key (partial_rows keys aggs rows) k ≡ map (made rows) (one_or_none (occurs k (map key rows)) k)
  one-partial rows k =
      ap (filter (λ row. same_row (key row) k)) (map-made (each_once (map key rows)))
      ∙ filter-map (λ row. same_row (key row) k) (made rows) (λ other. same_row other k) (each_once (map key rows)) (each (each_once (map key rows)) (made-key rows))
      ∙ ap (map (made rows)) (one-each_once (map key rows) k)
    where
      map-made : (ks : List (List Value)) → map (partial_row keys aggs) (map (part_of key rows) ks) ≡ map (made rows) ks
      map-made [] = refl
      map-made (k ∷ ks) = ap (λ more. made rows k ∷ more) (map-made ks)

      each : (ks : List (List Value)) → AllByRecursion (λ other. key (made rows other) ≡ other) ks → AllByRecursion (λ other. same_row (key (made rows other)) k ≡ same_row other k) ks
      each [] all = tt
      each (other ∷ ks) all = (ap (λ same. same_row same k) all.0, each ks all.1)

  pieces-of_key : (parts : List (List Env)) (k : List Value) → Pieces keys aggs (part_of key (flat_map (partial_rows keys aggs) parts) k) (part_of key (together parts) k)
  pieces-of_key [] k = cells.none
  pieces-of_key (part ∷ parts) k =
      subst (λ partials. Pieces keys aggs partials (part_of key (together (part ∷ parts)) k))
      (sym (filter-append (λ row. same_row (key row) k) (partial_rows keys aggs part) (flat_map (partial_rows keys aggs) parts)
      ∙ ap (λ here. here ++ part_of key (flat_map (partial_rows keys aggs) parts) k) (one-partial part k)))
      (subst (Pieces keys aggs (map (made part) (one_or_none (occurs k (map key part)) k) ++ part_of key (flat_map (partial_rows keys aggs) parts) k))
      (sym (filter-append (λ row. same_row (key row) k) part (together parts)))
      (by (occurs k (map key part)) refl (pieces-of_key parts k)))
    where
      by : (there : Bool) → occurs k (map key part) ≡ there
          → Pieces keys aggs (part_of key (flat_map (partial_rows keys aggs) parts) k) (part_of key (together parts) k)
          → Pieces keys aggs (map (made part) (one_or_none there k) ++ part_of key (flat_map (partial_rows keys aggs) parts) k) (part_of key part k ++ part_of key (together parts) k)
      by true is rest = cells.piece (part_of key part k) rest
      by false none rest =
          subst (λ here. Pieces keys aggs (part_of key (flat_map (partial_rows keys aggs) parts) k) (here ++ part_of key (together parts) k)) (sym (none-of_key key part k none)) rest

  finished-groups : (parts : List (List Env)) → final_rows keys aggs (flat_map (partial_rows keys aggs) parts) ≡ grouped keys aggs (together parts)
  finished-groups parts =
      let partials = flat_map (partial_rows keys aggs) parts in
      let rows = together parts in
      parts-alike key key (final_row keys aggs) (group_row keys aggs) partials rows (occurs-together parts) (λ k there.
      finished keys aggs apart (pieces-of_key parts k)
      (first-key key partials k there ∙ sym (first-key key rows k (sym (occurs-together parts k) ∙ there))))

-- ---- the law

final-groups : (keys : List ColId) (aggs : List Agg) → KeysApart keys aggs → (parts : List (List Env))
    → final_rows keys aggs (flat_map (partial_rows keys aggs) parts) ≡ grouped keys aggs (together parts)
final-groups [] aggs apart parts = ap (λ row. row ∷ []) (finished [] aggs apart (pieces-all aggs parts) refl)
final-groups (first ∷ others) aggs apart parts = finished-groups first others aggs apart parts

pub final-partials : (keys : List ColId) (aggs : List Agg) → KeysApart keys aggs → (input partials : List Env) → IsPartial keys aggs input partials
    → final_rows keys aggs partials ≡ grouped keys aggs input
final-partials keys aggs apart input partials of =
    SameBag-final_rows keys aggs partials (flat_map (partial_rows keys aggs) of.parts) of.rows
    ∙ final-groups keys aggs apart of.parts
    ∙ SameBag-grouped keys aggs (together of.parts) input of.whole
