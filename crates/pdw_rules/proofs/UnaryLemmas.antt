-- Filters and projections, node by node.
use Rattle.std.proofs.Common.{◌≡◌, ℕ, ◌==◌, Bool, true, false, true≢false, None, Some, Option, is_none, List, [], ◌∷◌, map, refl, sym, ap, ◌∙◌, if◌then◌else◌}
use Rattle.std.proofs.lemmas.List.Elements.{filter-append}
use Rattle.std.proofs.lemmas.List.{map-append}
use Rattle.std.specs.List.{AllByRecursion}
use Rattle.pdw_algebra.proofs.AllLaws.{numbers-same}
use Rattle.pdw_algebra.proofs.Products.{all-filter}
use Rattle.pdw_base.proofs.SameBagLaws.{SameBag-filter, SameBag-map}
use Rattle.pdw_base.specs.Hash.{node_for}
use Rattle.pdw_base.specs.SameBag.{SameBag}
use Rattle.pdw_base.specs.Schema.{Env}
use Rattle.pdw_base.specs.declared.node.Node.TheVariants as node
use Rattle.pdw_base.specs.declared.schema.ColId.{ColId}
use Rattle.pdw_expr.specs.Rows.{filtered, item_value, meets, projected}
use Rattle.pdw_expr.specs.declared.cond.Cond.{Cond}
use Rattle.pdw_expr.specs.declared.scalar.Scalar.{Scalar}
use Rattle.pdw_move.specs.declared.kinds.Prop.TheVariants.{Spread, Hash, Replicated, Single, Control}
use Rattle.pdw_move.specs.declared.kinds.Prop.{Prop}
use Rattle.pdw_rules.proofs.SiteLemmas.{at-hash, at-spread, together-stands, under-result, whole-stands}
use Rattle.pdw_rules.specs.Rules.{filter_rule, passes, project_rule, projected_property}
use Rattle.pdw_rules.specs.Stands.{PlacedRows, StandsFor, made_at, together}

module _ (n : ℕ) where
  -- ---- filters

  module _ (conds : List Cond) where
    abbrev kept : PlacedRows → PlacedRows
    kept rows place = filtered conds (rows place)

    filtered-same : (xs ys : List Env) → SameBag xs ys → SameBag (filtered conds xs) (filtered conds ys)
    filtered-same xs ys = SameBag-filter (meets conds)

    filtered-together : (rows : PlacedRows) (bag : List Env) → SameBag (together n rows) bag → SameBag (together n (kept rows)) (filtered conds bag)
    filtered-together = together-stands n (filtered conds) filtered-same refl (filter-append (meets conds))

    filter-keeps : (p : Prop) (rows : PlacedRows) (bag : List Env) → StandsFor n p rows bag → StandsFor n p (made_at p (kept rows)) (filtered conds bag)
    filter-keeps Spread rows bag stands = at-spread n (kept rows) (filtered conds bag) (filtered-together rows bag stands)
    filter-keeps (Hash c) rows bag stands =
        at-hash n c (kept rows) (filtered conds bag) (filtered-together rows bag stands.0)
        (λ k less. all-filter (λ (row : Env). node_for n (row c) ≡ k) (meets conds) (rows (node.Compute k)) (stands.1 k less))
    filter-keeps Replicated rows bag stands = whole-stands n (filtered conds) filtered-same Replicated refl rows bag stands
    filter-keeps Single rows bag stands = whole-stands n (filtered conds) filtered-same Single refl rows bag stands
    filter-keeps Control rows bag stands = whole-stands n (filtered conds) filtered-same Control refl rows bag stands

    pub filter-stands : (p result : Prop) → filter_rule p result ≡ true → (rows : PlacedRows) (bag : List Env) → StandsFor n p rows bag
        → StandsFor n result (made_at result (λ place. filtered conds (rows place))) (filtered conds bag)
    filter-stands p result rule rows bag stands = under-result n p result (kept rows) (filtered conds bag) rule (filter-keeps p rows bag stands)

  -- ---- projections

  module _ (items : List (ColId × Option Scalar)) where
    abbrev shown : PlacedRows → PlacedRows
    shown rows place = map (projected items) (rows place)

    projected-same : (xs ys : List Env) → SameBag xs ys → SameBag (map (projected items) xs) (map (projected items) ys)
    projected-same xs ys = SameBag-map (projected items)

  -- a column that is passed through has its value
  passes-cell : (items : List (ColId × Option Scalar)) (c : ColId) → passes items c ≡ true → (row : Env) → projected items row c ≡ row c
  passes-cell [] c passed row = absurd (true≢false (sym passed))
  passes-cell ((d, made) ∷ items) c passed row = by (d.0 == c.0) refl made passed (λ later. passes-cell items c later row)
    where
      by : (is : Bool) → (d.0 == c.0) ≡ is → (made : Option Scalar) → (if is then is_none made else passes items c) ≡ true → (passes items c ≡ true → projected items row c ≡ row c)
          → (if is then item_value row d made else projected items row c) ≡ row c
      by true is None passed rest = ap row (numbers-same d c is)
      by true is (Some x) passed rest = absurd (true≢false (sym passed))
      by false is made passed rest = rest passed

  module _ (items : List (ColId × Option Scalar)) where
    projected-all : (c : ColId) → passes items c ≡ true → (k : ℕ) (xs : List Env) → AllByRecursion (λ (row : Env). node_for n (row c) ≡ k) xs
        → AllByRecursion (λ (row : Env). node_for n (row c) ≡ k) (map (projected items) xs)
    projected-all c passed k [] all = tt
    projected-all c passed k (row ∷ rows) all = (ap (node_for n) (passes-cell items c passed row) ∙ all.0, projected-all c passed k rows all.1)

    shown-together : (rows : PlacedRows) (bag : List Env) → SameBag (together n rows) bag → SameBag (together n (shown items rows)) (map (projected items) bag)
    shown-together = together-stands n (map (projected items)) (projected-same items) refl (map-append (projected items))

    project-keeps : (p : Prop) (rows : PlacedRows) (bag : List Env) → StandsFor n p rows bag
        → StandsFor n (projected_property items p) (made_at (projected_property items p) (shown items rows)) (map (projected items) bag)
    project-keeps Spread rows bag stands = at-spread n (shown items rows) (map (projected items) bag) (shown-together rows bag stands)
    project-keeps (Hash c) rows bag stands = by (passes items c) refl
      where
        by : (is : Bool) → passes items c ≡ is
            → StandsFor n (if is then Hash c else Spread) (made_at (if is then Hash c else Spread) (shown items rows)) (map (projected items) bag)
        by true passed =
            at-hash n c (shown items rows) (map (projected items) bag) (shown-together rows bag stands.0)
            (λ k less. projected-all c passed k (rows (node.Compute k)) (stands.1 k less))
        by false computed = at-spread n (shown items rows) (map (projected items) bag) (shown-together rows bag stands.0)
    project-keeps Replicated rows bag stands = whole-stands n (map (projected items)) (projected-same items) Replicated refl rows bag stands
    project-keeps Single rows bag stands = whole-stands n (map (projected items)) (projected-same items) Single refl rows bag stands
    project-keeps Control rows bag stands = whole-stands n (map (projected items)) (projected-same items) Control refl rows bag stands

    pub project-stands : (p result : Prop) → project_rule items p result ≡ true → (rows : PlacedRows) (bag : List Env) → StandsFor n p rows bag
        → StandsFor n result (made_at result (λ place. map (projected items) (rows place))) (map (projected items) bag)
    project-stands p result rule rows bag stands =
        under-result n (projected_property items p) result (shown items rows) (map (projected items) bag) rule (project-keeps p rows bag stands)
