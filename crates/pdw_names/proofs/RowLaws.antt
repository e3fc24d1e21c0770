-- The rows that a query gives, by names and by numbers.
use Rattle.std.proofs.Common.{◌≡◌, ◌≢◌, ◌==◌, Bool, true, false, List, [], ◌∷◌, map, filter, Option, None, refl, sym, ap, subst, ◌∙◌, true≢false, if◌then◌else◌}
use Rattle.std.specs.List.{AllByRecursion}
use Rattle.pdw_syntax.specs.declared.expr.ColRef.{ColRef}
use Rattle.pdw_syntax.specs.declared.query.Items.{Items}
use Rattle.pdw_base.specs.Schema.{Env}
use Rattle.pdw_base.specs.declared.schema.ColId.{ColId}
use Rattle.pdw_base.specs.declared.truth.Truth.{Truth}
use Rattle.pdw_base.specs.declared.value.Value.{Value}
use Rattle.pdw_base.specs.declared.value.Value.TheVariants.{Null}
use Rattle.pdw_catalog.specs.Database.{Database}
use Rattle.pdw_expr.specs.Rows.{filtered, key_of, meets, projected}
use Rattle.pdw_expr.specs.Rows as rows
use Rattle.pdw_expr.specs.declared.agg.Agg.{Agg}
use Rattle.pdw_expr.specs.declared.cond.Cond.{Cond}
use Rattle.pdw_form.proofs.Distinct.{Only, OnceIs, differ, distinct-only, distinct-values, has_rows-distinct}
use Rattle.pdw_names.proofs.GroupLaws.{After, KeyOf, groups-stand, rows-stand}
use Rattle.pdw_names.proofs.KeptLaws.{filter-all, filter-same}
use Rattle.pdw_form.proofs.Related as related
use Rattle.pdw_form.proofs.Related.{Related, related-filter, related-same}
use Rattle.pdw_names.proofs.Relations.{BeginsWith, Every, Fits, Numbering, SameRows, Shows, Stands}
use Rattle.pdw_names.proofs.TestedLaws.{TestedGives}
use Rattle.pdw_expr.specs.Predicates.{has_rows}
use Rattle.pdw_semantics.specs.Conds.{passes}
use Rattle.pdw_semantics.specs.Environment.{Environment, Group, Scope, alone}
use Rattle.pdw_form.specs.Numbered.{distinct_rows, group_rows, items_of, outs_of}
use Rattle.pdw_expr.specs.Predicates.{distinct_if}
use Rattle.pdw_semantics.specs.Queries.{all_groups, values_of}
use Rattle.pdw_walk.specs.Lookup as lookup
use Rattle.pdw_walk.specs.Queries.{group_of, group_place, keys_if}
use Rattle.pdw_walk.specs.Walk.{Walk}
use Rattle.pdw_walk.specs.declared.entry.Met.{Met}
use Rattle.pdw_walk.specs.declared.entry.Role.{Role}
use Rattle.pdw_walk.specs.declared.entry.Role.TheVariants as role
use Rattle.pdw_form.specs.declared.judged.JItem.{JItem}

-- ---- the groups that HAVING keeps

module _ (once : OnceIs) (outers : List lookup.Scope) (own : lookup.Scope) {wk : Walk} {refs : List ColRef} {mets : List Met} (keys : Related (KeyOf own wk) refs mets)
    (N : Numbering) (fits : Fits N wk.numbers) (aggs : List Agg) (having : Option (Group → Truth)) (conds : List Cond) (wh : Walk) (fits_having : Fits N wh.numbers) (begins : BeginsWith wh.aggs aggs) where
  abbrev pub StandsFor : Bool → Group → Env → Type 0
  StandsFor group g m = (met : Bool) → Stands N (group_place outers own (keys_if group mets)) met g m aggs

  pub kept-groups : (group : Bool) → (group ≡ true → After once outers own keys N fits aggs) → TestedGives (group_place outers own (keys_if group mets)) having wk conds wh → (group ≡ false → having ≡ None)
      → (env : Environment) {named : List Scope} {numbered : List Env} → Related (λ row v. Shows N v Every own row) named numbered
      → Related (StandsFor group) (filter (passes having) (all_groups group refs env named)) (group_rows (group_of group mets aggs conds) numbered)
  kept-groups true after tested none env shown =
      related-filter (passes having) (meets conds) (λ g m stands. tested.holds N fits_having aggs begins g m (stands wh.outer)) (groups-stand once outers own keys N fits aggs (after refl) env shown)
  kept-groups false after tested none env {named = named} {numbered = numbered} shown =
      subst (λ kept. Related (StandsFor false) kept numbered)
      (sym (filter-same (passes having) (λ g. true) (λ g. ap (λ h. passes h g) (none refl)) (map (alone env) named) ∙ filter-all (map (alone env) named)))
      (rows-stand outers own N aggs env shown)

-- ---- the rows by the items

map-map : {A B C : Type 0} (g : B → C) (f : A → B) (xs : List A) → map g (map f xs) ≡ map (λ x. g (f x)) xs
map-map g f [] = refl
map-map g f (x ∷ xs) = ap (λ ys. g (f x) ∷ ys) (map-map g f xs)

projected-none : (items : List JItem) (row : Env) (c : ColId) → AllByRecursion (λ out. out ≢ c) (outs_of items) → projected (items_of items) row c ≡ Null
projected-none [] row c all = refl
projected-none (item ∷ items) row c all =
    ap (λ b. if b then rows.item_value row item.out item.make else projected (items_of items) row c) (differ item.out c (item.out.0 == c.0) all.0 refl) ∙ projected-none items row c all.1

projected-only : (items : List JItem) (maps : List Env) → AllByRecursion (Only (outs_of items)) (map (projected (items_of items)) maps)
projected-only items [] = tt
projected-only items (m ∷ maps) = (λ c all. projected-none items m c all, projected-only items maps)

-- a row has nothing but the output columns
pub outputs-only : (distinct : Bool) (items : List JItem) (maps : List Env) → AllByRecursion (Only (outs_of items)) (distinct_rows distinct (outs_of items) (map (projected (items_of items)) maps))
outputs-only distinct items maps = distinct-only (outs_of items) distinct (map (projected (items_of items)) maps) (projected-only items maps)

-- the rows as lists
listed-rows : (once : OnceIs) (distinct : Bool) (items : List JItem) (maps : List Env)
    → map (key_of (outs_of items)) (distinct_rows distinct (outs_of items) (map (projected (items_of items)) maps)) ≡ distinct_if distinct (map (λ m. key_of (outs_of items) (projected (items_of items) m)) maps)
listed-rows once distinct items maps =
    distinct-values (outs_of items) once distinct (map (projected (items_of items)) maps)
    ∙ ap (distinct_if distinct) (map-map (key_of (outs_of items)) (projected (items_of items)) maps)

some-rows : {X Y : Type 0} {R : X → Y → Type 0} (f : X → List Value) (g : Y → List Value) {xs : List X} {ys : List Y} → Related R xs ys → has_rows (map f xs) ≡ has_rows (map g ys)
some-rows f g related.none = refl
some-rows f g (related.more r rest) = refl

module _ (database : Database) (once : OnceIs) (distinct : Bool) (items : Items) (outs : List JItem) {R : Group → Env → Type 0} {kept : List Group} {maps : List Env} (both : Related R kept maps) where
  abbrev by_names : List (List Value)
  by_names = distinct_if distinct (map (values_of items) kept)

  abbrev by_numbers : List (List Value)
  by_numbers = map (key_of (outs_of outs)) (distinct_rows distinct (outs_of outs) (map (projected (items_of outs)) maps))

  same-values : ((g : Group) (m : Env) → R g m → values_of items g ≡ key_of (outs_of outs) (projected (items_of outs) m)) → by_names ≡ by_numbers
  same-values values =
      ap (distinct_if distinct) (related-same (values_of items) (λ m. key_of (outs_of outs) (projected (items_of outs) m)) values both)
      ∙ sym (listed-rows once distinct outs maps)

  same-some : has_rows by_names ≡ has_rows by_numbers
  same-some =
      has_rows-distinct once distinct (map (values_of items) kept)
      ∙ some-rows (values_of items) (λ m. key_of (outs_of outs) (projected (items_of outs) m)) both
      ∙ sym (has_rows-distinct once distinct (map (λ m. key_of (outs_of outs) (projected (items_of outs) m)) maps))
      ∙ ap has_rows (sym (listed-rows once distinct outs maps))

  is_exists : Role → Bool
  is_exists role.Statement = false
  is_exists role.DerivedTable = false
  is_exists role.In = false
  is_exists role.Exists = true

  pub same-rows : (part : Role) → (part ≢ role.Exists → (g : Group) (m : Env) → R g m → values_of items g ≡ key_of (outs_of outs) (projected (items_of outs) m)) → SameRows database part by_names by_numbers
  unfolding is_exists
  same-rows role.Statement values = same-values (values (λ e. true≢false (sym (ap is_exists e))))
  same-rows role.DerivedTable values = same-values (values (λ e. true≢false (sym (ap is_exists e))))
  same-rows role.In values = same-values (values (λ e. true≢false (sym (ap is_exists e))))
  same-rows role.Exists values = same-some
