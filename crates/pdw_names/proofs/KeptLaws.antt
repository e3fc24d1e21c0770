-- The rows of a query: those that WHERE keeps, and those that HAVING keeps.
use Rattle.std.proofs.Common.{◌≡◌, ◌&&◌, Bool, true, false, cond, List, [], ◌∷◌, map, filter, refl, sym, ap, ap₂, subst, ◌∙◌, true≢false}
use Rattle.std.specs.Bool.{⊤}
use Rattle.std.specs.List.{AllByRecursion, list_all}
use Rattle.pdw_base.specs.Schema.{Env}
use Rattle.pdw_catalog.specs.Database.{Database}
use Rattle.pdw_expr.specs.Env.{union}
use Rattle.pdw_expr.specs.Rows.{filtered, meets}
use Rattle.pdw_form.proofs.Related as related
use Rattle.pdw_form.proofs.Related.{Related, related-filter, related-map, related-same}
use Rattle.pdw_names.proofs.Relations.{Apart, Encloses, Every, Exact, Fits, Grows, NearShows, Numbering, OnlyIn, Outside, RowOf, Shows, Within}
use Rattle.pdw_names.proofs.JoinMeaningLaws.{range_ends}
use Rattle.pdw_names.proofs.TestedLaws.{list_all_map}
use Rattle.pdw_names.proofs.SideBySide.{shows-again, union-left, union-right}
use Rattle.pdw_names.proofs.WalkLaws.{all-map}
use Rattle.pdw_names.proofs.WhereLaws.{Holds, Situated, sub_holds}
use Rattle.pdw_semantics.specs.Environment.{Environment, Scope}
use Rattle.pdw_walk.specs.Conjuncts.{is_correlated}
use Rattle.pdw_walk.specs.Lookup as lookup
use Rattle.pdw_walk.specs.Walk.{Walk}
use Rattle.pdw_walk.specs.declared.entry.Conjuncts.{Conjuncts}
use Rattle.pdw_walk.specs.declared.entry.Entry.{Entry}
use Rattle.pdw_walk.specs.declared.entry.Role.{Role}
use Rattle.pdw_walk.specs.declared.entry.Role.TheVariants as role

-- ---- filters in turn

filter-kept : {X : Type 0} (q : X → Bool) (a : Bool) (x : X) (xs : List X) → filter q (cond a (x ∷ xs) xs) ≡ cond (a && q x) (x ∷ filter q xs) (filter q xs)
filter-kept q true x xs = refl
filter-kept q false x xs = refl

pub filter-filter : {X : Type 0} (p q : X → Bool) (xs : List X) → filter q (filter p xs) ≡ filter (λ x. p x && q x) xs
filter-filter p q [] = refl
filter-filter p q (x ∷ xs) = filter-kept q (p x) x (filter p xs) ∙ ap (λ ys. cond (p x && q x) (x ∷ ys) ys) (filter-filter p q xs)

pub filter-all : {X : Type 0} (xs : List X) → filter (λ x. true) xs ≡ xs
filter-all [] = refl
filter-all (x ∷ xs) = ap (λ ys. x ∷ ys) (filter-all xs)

pub filter-same : {X : Type 0} (p q : X → Bool) → ((x : X) → p x ≡ q x) → (xs : List X) → filter p xs ≡ filter q xs
filter-same p q same [] = refl
filter-same p q same (x ∷ xs) = ap₂ (λ b ys. cond b (x ∷ ys) ys) (same x) (filter-same p q same xs)

module _ (database : Database) where
  -- the rows that the conjuncts of the three kinds keep, in turn or at once
  pub kept-at_once : (k : Conjuncts) (outer : Env) (rows : List Env)
      → filter (λ row. meets k.outer (union row outer)) (filter (λ row. list_all (λ holds. holds row) (map (sub_holds database) k.subs)) (filtered k.plain rows)) ≡ filter (λ row. Holds database k row outer) rows
  kept-at_once k outer rows =
      ap (filter (λ row. meets k.outer (union row outer))) (filter-filter (meets k.plain) (λ row. list_all (λ holds. holds row) (map (sub_holds database) k.subs)) rows)
      ∙ filter-filter (λ row. meets k.plain row && list_all (λ holds. holds row) (map (sub_holds database) k.subs)) (λ row. meets k.outer (union row outer)) rows
      ∙ filter-same (λ row. (meets k.plain row && list_all (λ holds. holds row) (map (sub_holds database) k.subs)) && meets k.outer (union row outer)) (λ row. Holds database k row outer)
      (λ row. ap (λ b. (meets k.plain row && b) && meets k.outer (union row outer)) (list_all_map (λ holds. holds row) (sub_holds database) k.subs)) rows

  module _ (part : Role) (group : Bool) (outers : List lookup.Scope) (own : lookup.Scope) (w0 wf end : Walk) (within : AllByRecursion (λ entry. Within w0 wf entry.slot) own) (later : Grows wf end) where
    -- the columns of the nearest of these scopes are none of the query's
    abbrev Free : List lookup.Scope → Type 0
    Free [] = ⊤
    Free (scope ∷ scopes) = AllByRecursion (λ entry. Within w0 end entry.slot → ⊥) scope

    all-of-wider : AllByRecursion (λ entry. Within w0 end entry.slot) own
    all-of-wider = all-map (λ (entry : Entry). Within w0 wf entry.slot) (λ (entry : Entry). Within w0 end entry.slot) (λ entry at. range_ends w0 later entry.slot at) own within

    near-both : (N : Numbering) (outer m : Env) → OnlyIn N w0 wf m → (scopes : List lookup.Scope) (env : Environment) → Free scopes → NearShows N outer scopes env → NearShows N (union m outer) scopes env
    near-both N outer m only [] env free shows = tt
    near-both N outer m only (scope ∷ scopes) [] free shows = shows
    near-both N outer m only (scope ∷ scopes) (row ∷ rows) free shows =
        shows-again N (λ slot. Within w0 end slot → ⊥) (λ slot c outside _ number. (tt, union-right m outer c (only c (λ at. outside (subst (Within w0 end) (N.forth slot c number) (range_ends w0 later (N.slot_at c) at)))))) free shows

    correlated-near : (part : Role) → is_correlated part group ≡ true → (N : Numbering) (outer : Env) (env : Environment) → Encloses database part N outer outers env → NearShows N outer outers env
    correlated-near role.Statement is N outer env encloses = absurd (true≢false (sym is))
    correlated-near role.DerivedTable is N outer env encloses = absurd (true≢false (sym is))
    correlated-near role.In is N outer env encloses = encloses
    correlated-near role.Exists is N outer env encloses = encloses

    correlated-free : (part : Role) → is_correlated part group ≡ true → (scopes : List lookup.Scope) → Outside database part w0 end scopes → Free scopes
    correlated-free role.Statement is scopes outside = absurd (true≢false (sym is))
    correlated-free role.DerivedTable is scopes outside = absurd (true≢false (sym is))
    correlated-free role.In is [] outside = tt
    correlated-free role.In is (scope ∷ scopes) outside = outside
    correlated-free role.Exists is [] outside = tt
    correlated-free role.Exists is (scope ∷ scopes) outside = outside

    module _ (N : Numbering) (exact : Exact N end.numbers) (fits : Fits N end.numbers) (env : Environment) (outer : Env)
        (encloses : Encloses database part N outer outers env) (outside : Outside database part w0 end outers) (apart : Apart database N w0 end outer) where
      pub situated : (row : Scope) (m : Env) → RowOf database N w0 wf own row m → Situated database outers own (is_correlated part group) w0 wf N end env outer row m
      situated row m at = record {
        exact = exact;
        fits = fits;
        shown = at.0;
        only = at.1;
        both = shows-again N (Within w0 end) (λ slot c inside _ number. (tt, union-left m outer c (apart c (subst (Within w0 end) (sym (N.forth slot c number)) inside)))) all-of-wider at.0;
        near = λ is. near-both N outer m at.1 outers env (correlated-free part is outers outside) (correlated-near part is N outer env encloses);
      }

      -- the rows that WHERE keeps
      pub where-rows : (k : Conjuncts) (truth : Scope → Bool) → ((row : Scope) (m : Env) → Situated database outers own (is_correlated part group) w0 wf N end env outer row m → Holds database k m outer ≡ truth row)
          → {named : List Scope} {numbered : List Env} → Related (RowOf database N w0 wf own) named numbered
          → Related (λ row v. Shows N v Every own row) (filter truth named)
          (filter (λ row. meets k.outer (union row outer)) (filter (λ row. list_all (λ holds. holds row) (map (sub_holds database) k.subs)) (filtered k.plain numbered)))
      where-rows k truth holds {named = named} {numbered = numbered} rows =
          subst (λ kept. Related (λ row v. Shows N v Every own row) (filter truth named) kept) (sym (kept-at_once k outer numbered))
          (related-shown (related-filter truth (λ row. Holds database k row outer) (λ row m at. sym (holds row m (situated row m at))) rows))
        where
          related-shown : {named : List Scope} {numbered : List Env} → Related (RowOf database N w0 wf own) named numbered → Related (λ row v. Shows N v Every own row) named numbered
          related-shown related.none = related.none
          related-shown (related.more at rest) = related.more at.0 (related-shown rest)
