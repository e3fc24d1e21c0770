-- WHERE: plain conjuncts are typed over FROM's columns, the others with the enclosing query's columns beside them, and each
-- subquery is sound within FROM's columns.
use Rattle.std.proofs.Common.{◌≡◌, ◌≢◌, ℕ, ◌≤◌, ◌&&◌, ◌⊎◌, Bool, true, false, not, List, [], ◌∷◌, ◌++◌, Option, Some, None, position, refl, sym, ap, ap₂, subst, subst₂, ◌∙◌, inl, inr, le_refl, le_trans, append_assoc, append-nil, true≢false}
use Rattle.std.specs.List.{AllByRecursion, flat_map, list_all}
use Rattle.std.proofs.lemmas.Bool.{and_from}
use Rattle.std.proofs.lemmas.Grind.{flat_map-append}
use Rattle.pdw_algebra.specs.Shape.{all_typed}
use Rattle.pdw_algebra.specs.Types.{is_typed, same_kinds}
use Rattle.pdw_base.specs.Schema.{Columns}
use Rattle.pdw_base.specs.declared.schema.ColId.{ColId}
use Rattle.pdw_base.specs.declared.value.Kind.{Kind}
use Rattle.pdw_base.specs.declared.value.Kind.TheVariants as kind
use Rattle.pdw_sound.proofs.Added.{adds-all, adds-map, adds-same, adds-trans, among-all, new-ends, new-begins, old-later, old-new, old_in-later, old_in-within}
use Rattle.pdw_sound.proofs.Ranges.{apart-ranges, distinct-ranges}
use Rattle.pdw_sound.proofs.SoundColumns.{apart-left, apart-pairs, pairs-apart, pairs-none}
use Rattle.pdw_sound.proofs.SoundLater.{Later, all-kinds, either, kinds-before, later-grows, later-itself, near-before, ranged-at, ranged-wider}
use Rattle.pdw_sound.proofs.SoundRelations.{Adds, Among, AmongNear, Behind, CondSoundIf, ConjunctSound, Distinct, Elsewhere, KeepsLimit, KindsOf, LeftSound, NearKinds, New, Old, OldIn, OuterKinds, QueryFits, QuerySound, Ranged, RangedColumns, RangedNumbers, Sees, SubquerySoundIf, TestKinds, TestSound, Used, UsedBy, first_kind}
use Rattle.pdw_form.specs.Sound.{ElementShape, QueryShape, SubqueryShape, element_shape, element_step, group_made, items_made, left_fits, made_by_rows, query_shape, query_step, subquery_columns, subquery_made, subquery_shape, subquery_sound, subquery_step}
use Rattle.pdw_catalog.specs.Catalog.{Tables}
use Rattle.pdw_catalog.specs.Database.{Database}
use Rattle.pdw_expr.specs.declared.cond.Cond.{Cond}
use Rattle.pdw_expr.specs.declared.scalar.Scalar.{Scalar}
use Rattle.pdw_names.proofs.JoinMeaningLaws.{range_begins, ranges_apart}
use Rattle.pdw_walk.proofs.Loops.{Turns, again, over-turns, turned}
use Rattle.pdw_walk.proofs.Outcomes.{done_value, done_walk, in_turn}
use Rattle.pdw_names.proofs.Relations.{Grows, Proper, SettledAll, SettledAt, SettledIn}
use Rattle.pdw_names.proofs.WalkLaws.{all-append, all-left, all-map, begins-itself, grows-refl, grows-same, grows-trans, mapped, not-false, refuse_if-then, settled_all-grows, settled_in-grows}
use Rattle.pdw_names.proofs.WhereLaws.{Scoped, all-push}
use Rattle.pdw_walk.specs.Conds.{Condition, Conjunct, QueryWalk, Subquery}
use Rattle.pdw_walk.specs.Conjuncts.{Around, condition_walk, conjunct_by, conjunct_walk, exists_walk, in_subquery, in_walk, is_one_column, judged_subquery, no_conjuncts, place_in, subquery_walk, where_place, where_walk, with_condition, with_subquery}
use Rattle.pdw_walk.specs.Exprs.{same_kind}
use Rattle.pdw_walk.specs.Lookup.{Place, Scope}
use Rattle.pdw_walk.specs.Slot.{same_slot}
use Rattle.pdw_walk.specs.Walk.{Step, Walk, and_then, done, forget_outer, pure, with_outer}
use Rattle.pdw_walk.specs.declared.entry.Column.{Column}
use Rattle.pdw_walk.specs.declared.entry.Conjuncts.{Conjuncts}
use Rattle.pdw_walk.specs.declared.entry.Role.{Role}
use Rattle.pdw_walk.specs.declared.entry.Role.TheVariants as role
use Rattle.pdw_walk.specs.declared.entry.Slot.{Slot}
use Rattle.pdw_walk.specs.declared.entry.Slot.TheVariants.{Base, Made}
use Rattle.pdw_walk.specs.declared.entry.Typed.{Typed}
use Rattle.pdw_walk.specs.declared.entry.Walked.{Walked}
use Rattle.pdw_walk.specs.declared.fault.JudgeFault.TheVariants.{TypeMismatch}
use Rattle.pdw_walk.specs.declared.fault.TheConstants.{MOST_REFERENCES}
use Rattle.pdw_form.specs.declared.judged.JFrom.TheFolds.{fold-roll-JSub, fold_out-JudgedQuery, map-JudgedQuery}
use Rattle.pdw_form.specs.declared.judged.JFrom.TheOpen.{JudgedQuery-F}
use Rattle.pdw_form.specs.declared.judged.JFrom.{JFrom}
use Rattle.pdw_form.specs.declared.judged.JSub.{JSub}
use Rattle.pdw_form.specs.declared.judged.JudgedQuery.{JudgedQuery, out-JudgedQuery}

-- ---- kinds

and-left : (a b : Bool) → (a && b) ≡ true → a ≡ true
and-left true b e = refl
and-left false b e = e

same_kinds-of : (a b : Kind) → same_kind a b ≡ true → same_kinds (Some a) (Some b) ≡ true
same_kinds-of kind.Int kind.Int same = refl
same_kinds-of kind.Text kind.Text same = refl
same_kinds-of kind.Wide kind.Wide same = refl
same_kinds-of kind.Int kind.Text same = same
same_kinds-of kind.Int kind.Wide same = same
same_kinds-of kind.Text kind.Int same = same
same_kinds-of kind.Text kind.Wide same = same
same_kinds-of kind.Wide kind.Int same = same
same_kinds-of kind.Wide kind.Text same = same

-- a subquery of IN has one output column, of the kind of the left side
one-kind : (k : Kind) (outputs : List Column) (database : Database) → is_one_column k outputs ≡ true → same_kinds (Some k) (first_kind database outputs) ≡ true
one-kind k [] database is = absurd (true≢false (sym is))
one-kind k (output ∷ []) database is = same_kinds-of k output.kind is
one-kind k (output ∷ other ∷ others) database is = absurd (true≢false (sym is))

-- ---- shapes

step-begins : (shape : QueryShape) (q : JudgedQuery-F ElementShape SubqueryShape QueryShape) → shape ≡ query_step q → (rest : List ColId) × (shape.columns_made ≡ shape.rows_made ++ rest)
step-begins shape q is = subst (λ (shape : QueryShape). (rest : List ColId) × (shape.columns_made ≡ shape.rows_made ++ rest)) (sym is)
    (group_made q.group ++ items_made q.items, append_assoc (made_by_rows q) (group_made q.group) (items_made q.items))

module _ (tables : Tables) where
  pub sub-shape : (negated : Bool) (left : Option Scalar) (query : JudgedQuery)
      → subquery_shape tables (judged_subquery negated left query) ≡ subquery_step (record { negated = negated; left = left; query = query_shape tables query })
  sub-shape negated left query = fold-roll-JSub ElementShape SubqueryShape QueryShape (element_step tables) subquery_step query_step (record { negated = negated; left = left; query = query })

  -- the numbers that FROM and WHERE make come first
  pub made-begins : (q : JudgedQuery) → (rest : List ColId) × ((query_shape tables q).columns_made ≡ (query_shape tables q).rows_made ++ rest)
  made-begins q =
      step-begins (query_shape tables q) (map-JudgedQuery JFrom JSub JudgedQuery ElementShape SubqueryShape QueryShape (element_shape tables) (subquery_shape tables) (query_shape tables) (out-JudgedQuery q))
      (fold_out-JudgedQuery ElementShape SubqueryShape QueryShape (element_step tables) subquery_step query_step q)

module _ (database : Database) where
  abbrev pub sub_shape : JSub → SubqueryShape
  sub_shape = subquery_shape database.tables

  -- the numbers that subqueries make
  abbrev pub subs_made : List JSub → List ColId
  subs_made subs = flat_map (λ sub. (sub_shape sub).made) subs

  module _ (outers : List Scope) (own : Scope) (correlated : Bool) (w0 wf : Walk) where
    abbrev around : Around
    around = record { tables = database.tables; own = own; outers = outers; correlated = correlated }

    -- what gets a number since FROM: a column of FROM, of the enclosing query, or of a table reference that began since then
    abbrev pub Since : Walk → Slot → Type 0
    Since w slot = Among own slot ⊎ (((correlated ≡ true) × AmongNear outers slot) ⊎ New wf w slot)

    -- what a step says that begins no table reference
    pub record Steps (w w' : Walk) : Type 0 where
      pub grows : Grows w w'
      pub kept : w'.aggs ≡ w.aggs
      pub taken : w'.taken ≡ w.taken
      pub references : w'.references ≡ w.references
      pub uses : Adds (Since w') w w'

    -- the conjuncts so far
    pub record WhereFits (k : Conjuncts) (w : Walk) : Type 0 where
      pub grows : Grows wf w
      pub kept : w.aggs ≡ wf.aggs
      pub taken : w.taken ≡ wf.taken
      pub limit : KeepsLimit wf w
      pub uses : Adds (Since w) wf w
      pub made : RangedNumbers w.numbers wf w (subs_made k.subs)
      pub distinct : Distinct (subs_made k.subs)
      pub no_outer : correlated ≡ false → k.outer ≡ []
      pub plain : (numbers : List Slot) → Later w numbers → (rows : Columns) → KindsOf numbers rows own → all_typed rows k.plain ≡ true
      pub outer : (numbers : List Slot) → Later w numbers → (both : Columns) → KindsOf numbers both own → NearKinds numbers both outers → all_typed both k.outer ≡ true
      pub subs : (numbers : List Slot) → Later w numbers → (rows : Columns) → KindsOf numbers rows own → RangedColumns numbers w0 wf rows → w.references ≤ MOST_REFERENCES
          → list_all (λ sub. (sub_shape sub).sound_in rows) k.subs ≡ true

    pub fits-none : WhereFits no_conjuncts wf
    fits-none = record {
      grows = grows-refl wf;
      kept = refl;
      taken = refl;
      limit = λ fine. fine;
      uses = adds-same (Since wf) refl;
      made = tt;
      distinct = pairs-none (λ (a b : ColId). a.0 ≢ b.0);
      no_outer = λ _. refl;
      plain = λ numbers later rows kinds. refl;
      outer = λ numbers later both kinds near. refl;
      subs = λ numbers later rows kinds ranged fine. refl;
    }

    since-later : {w w' : Walk} → Grows w w' → (slot : Slot) → Since w slot → Since w' slot
    since-later grows slot (inl among) = inl among
    since-later grows slot (inr (inl near)) = inr (inl near)
    since-later grows slot (inr (inr new)) = inr (inr (new-ends wf grows slot new))

    adds-more : {w w' : Walk} → Adds (Since w) wf w → Grows w w' → Adds (Since w') w w' → Adds (Since w') wf w'
    adds-more {w} {w'} first grows second = adds-trans (Since w') (adds-map (Since w) (Since w') (since-later grows) first) second

    made-later : {w w' : Walk} → Grows w w' → (made : List ColId) → RangedNumbers w.numbers wf w made → RangedNumbers w'.numbers wf w' made
    made-later {w} {w'} grows =
        all-map (Ranged w.numbers wf w) (Ranged w'.numbers wf w') (λ x r. ranged-wider (grows-refl wf) grows x (ranged-at (later-grows grows (later-itself w')) wf w x r))

    few : {n m : ℕ} → n ≡ m → n ≤ MOST_REFERENCES → m ≤ MOST_REFERENCES
    few same fine = subst (λ k. k ≤ MOST_REFERENCES) same fine

    -- after such a step
    pub fits-step : {k : Conjuncts} {w w' : Walk} → WhereFits k w → Steps w w' → WhereFits k w'
    fits-step {k} {w} {w'} fits step = record {
      grows = grows-trans fits.grows step.grows;
      kept = step.kept ∙ fits.kept;
      taken = step.taken ∙ fits.taken;
      limit = λ fine. few (sym step.references) (fits.limit fine);
      uses = adds-more fits.uses step.grows step.uses;
      made = made-later step.grows (subs_made k.subs) fits.made;
      distinct = fits.distinct;
      no_outer = fits.no_outer;
      plain = λ numbers later. fits.plain numbers (later-grows step.grows later);
      outer = λ numbers later. fits.outer numbers (later-grows step.grows later);
      subs = λ numbers later rows kinds ranged fine. fits.subs numbers (later-grows step.grows later) rows kinds ranged (few step.references fine);
    }

    used-since : (w : Walk) (place : Place) → place.own ≡ own → place.outers ≡ outers → (place.reaches ≡ true → correlated ≡ true) → (slot : Slot) → Used place slot → Since w slot
    used-since w place mine theirs reached (Base reference column) (inl among) = inl (subst (λ scope. Among scope (Base reference column)) mine among)
    used-since w place mine theirs reached (Base reference column) (inr near) = inr (inl (reached near.0, subst (λ scopes. AmongNear scopes (Base reference column)) theirs near.1))
    used-since w place mine theirs reached (Made n) used = inr (inr tt)

    -- ---- one conjunct more

    module _ (nested : Bool) (k : Conjuncts) (c : Cond) (w w' : Walk) (kinds : TestKinds (where_place around nested) (with_outer false w) c w') where
      -- a condition with a column of the enclosing query
      fits-met : w'.outer ≡ true → WhereFits k w' → WhereFits (with_condition k c true) w'
      fits-met met so_far = record {
        grows = so_far.grows;
        kept = so_far.kept;
        taken = so_far.taken;
        limit = so_far.limit;
        uses = so_far.uses;
        made = so_far.made;
        distinct = so_far.distinct;
        no_outer = λ alone. absurd (true≢false (sym met ∙ kinds.unmet (ap (λ b. b && not nested) alone)));
        plain = so_far.plain;
        outer = λ numbers later both own_kinds near.
            let sees : Sees w'.numbers w'.aggs w'.outer (where_place around nested) both =
            record { own = all-kinds None w'.numbers both own (kinds-before later both own own_kinds); near = λ _ _. near-before later both outers near; grouped = tt } in
            all-push (is_typed both) k.outer c ∙ and_from _ _ (so_far.outer numbers later both own_kinds near) (kinds.typed w'.aggs (begins-itself w'.aggs) both sees);
        subs = so_far.subs;
      }

      -- a condition without one
      fits-unmet : w'.outer ≡ false → WhereFits k w' → WhereFits (with_condition k c false) w'
      fits-unmet unmet so_far = record {
        grows = so_far.grows;
        kept = so_far.kept;
        taken = so_far.taken;
        limit = so_far.limit;
        uses = so_far.uses;
        made = so_far.made;
        distinct = so_far.distinct;
        no_outer = so_far.no_outer;
        plain = λ numbers later rows own_kinds.
            let sees : Sees w'.numbers w'.aggs w'.outer (where_place around nested) rows =
            record { own = all-kinds None w'.numbers rows own (kinds-before later rows own own_kinds); near = λ _ there. absurd (true≢false (sym there ∙ unmet)); grouped = tt } in
            all-push (is_typed rows) k.plain c ∙ and_from _ _ (so_far.plain numbers later rows own_kinds) (kinds.typed w'.aggs (begins-itself w'.aggs) rows sees);
        outer = so_far.outer;
        subs = so_far.subs;
      }

      fits-condition : WhereFits k w' → WhereFits (with_condition k c w'.outer) w'
      fits-condition so_far = by w'.outer refl
        where
          by : (met : Bool) → w'.outer ≡ met → WhereFits (with_condition k c met) w'
          by true met = fits-met met so_far
          by false unmet = fits-unmet unmet so_far

    -- a subquery, whose left side fits it
    module _ (part : Role) (encloses : (numbers : List Slot) (rows : Columns) → KindsOf numbers rows own → OuterKinds database part numbers rows (own ∷ outers))
        (used_by : (v v' : Walk) (slot : Slot) → UsedBy part (own ∷ outers) v v' slot → New v v' slot ⊎ Among own slot)
        (negated : Bool) (left : Option Scalar) (k : Conjuncts) (v : Walk) (fits : WhereFits k v) (walked : Walked) (w' : Walk) (grows : Grows v w') (kept : w'.aggs ≡ v.aggs) (query : QueryFits database part (own ∷ outers) v walked w')
        (left_fit : (numbers : List Slot) → Later w' numbers → (rows : Columns) → KindsOf numbers rows own → left_fits left (query_shape database.tables walked.query) rows ≡ true) where
      abbrev shape : QueryShape
      shape = query_shape database.tables walked.query

      rows_made-all : RangedNumbers w'.numbers v w' shape.rows_made
      rows_made-all =
          let begins = made-begins database.tables walked.query in
          all-left (Ranged w'.numbers v w') shape.rows_made begins.0 (subst (RangedNumbers w'.numbers v w') begins.1 query.made)

      rows_made-distinct : Distinct shape.rows_made
      rows_made-distinct =
          let begins = made-begins database.tables walked.query in
          pairs-apart (λ (a b : ColId). a.0 ≢ b.0) shape.rows_made
          (apart-left (λ (a b : ColId). a.0 ≢ b.0) shape.rows_made begins.0 (apart-pairs (λ (a b : ColId). a.0 ≢ b.0) (shape.rows_made ++ begins.0) (subst Distinct begins.1 query.distinct)))

      sub_made : RangedNumbers w'.numbers wf w' (subquery_made shape)
      sub_made =
          all-map (Ranged w'.numbers v w') (Ranged w'.numbers wf w') (λ x r. ranged-wider fits.grows (grows-refl w') x r) (subquery_made shape)
          (either (RangedNumbers w'.numbers v w') shape.is_grouped shape.columns_made shape.rows_made query.made rows_made-all)

      sub_distinct : Distinct (subquery_made shape)
      sub_distinct = either Distinct shape.is_grouped shape.columns_made shape.rows_made query.distinct rows_made-distinct

      sub_columns : (numbers : List Slot) → Later w' numbers → RangedColumns numbers wf w' (subquery_columns shape)
      sub_columns numbers later =
          all-map (λ (column : ColId × Kind). Ranged w'.numbers v w' column.0) (λ (column : ColId × Kind). Ranged numbers wf w' column.0)
          (λ column r. ranged-wider fits.grows (grows-refl w') column.0 (ranged-at later v w' column.0 r)) (subquery_columns shape)
          (either (RangedColumns w'.numbers v w') shape.is_grouped shape.columns shape.rows query.columns query.rows)

      sub_sound : (numbers : List Slot) → Later w' numbers → (rows : Columns) → KindsOf numbers rows own → RangedColumns numbers w0 wf rows → w'.references ≤ MOST_REFERENCES
          → subquery_sound left shape rows ≡ true
      sub_sound numbers later rows kinds ranged fine =
          and_from _ _ (query.sound later.more rows (encloses (w'.numbers ++ later.more) rows (subst (λ ns. KindsOf ns rows own) later.is kinds))
          (all-map (λ (column : ColId × Kind). Ranged numbers w0 wf column.0) (λ (column : ColId × Kind). Elsewhere (w'.numbers ++ later.more) v w' column.0)
          (λ column r. record { slot = r.slot; at = subst (λ ns. position (same_slot r.slot) ns ≡ Some column.0.0) later.is r.at; outside = λ inside. ranges_apart w0 wf w' r.slot r.within (range_begins w' fits.grows r.slot inside) }) rows ranged) fine)
          (and_from _ _ (apart-ranges numbers w0 wf w' rows (subquery_columns shape) ranged (sub_columns numbers later))
          (and_from _ _ (left_fit numbers later rows kinds) (ap not query.ungrouped)))

      shape_is : sub_shape (judged_subquery negated left walked.query) ≡ subquery_step (record { negated = negated; left = left; query = shape })
      shape_is = sub-shape database.tables negated left walked.query

      all_made : subs_made (k.subs ++ judged_subquery negated left walked.query ∷ []) ≡ subs_made k.subs ++ subquery_made shape
      all_made =
          flat_map-append (λ sub. (sub_shape sub).made) k.subs (judged_subquery negated left walked.query ∷ [])
          ∙ ap (λ rest. subs_made k.subs ++ rest) (append-nil (sub_shape (judged_subquery negated left walked.query)).made ∙ ap (λ (s : SubqueryShape). s.made) shape_is)

      fits-subquery : WhereFits (with_subquery k (judged_subquery negated left walked.query)) w'
      fits-subquery = record {
        grows = grows-trans fits.grows grows;
        kept = kept ∙ fits.kept;
        taken = query.taken ∙ fits.taken;
        limit = λ fine. query.limit (fits.limit fine);
        uses = adds-more fits.uses grows (adds-map (UsedBy part (own ∷ outers) v w') (Since w') (λ slot used. by slot (used_by v w' slot used)) query.uses);
        made = subst (RangedNumbers w'.numbers wf w') (sym all_made)
            (all-append (Ranged w'.numbers wf w') (subs_made k.subs) (subquery_made shape) (made-later grows (subs_made k.subs) fits.made) sub_made);
        distinct = subst Distinct (sym all_made)
            (distinct-ranges w'.numbers wf v w' (subs_made k.subs) (subquery_made shape)
            (all-map (Ranged v.numbers wf v) (Ranged w'.numbers wf v) (λ x r. ranged-at (later-grows grows (later-itself w')) wf v x r) (subs_made k.subs) fits.made)
            (either (RangedNumbers w'.numbers v w') shape.is_grouped shape.columns_made shape.rows_made query.made rows_made-all) fits.distinct sub_distinct);
        no_outer = fits.no_outer;
        plain = λ numbers later. fits.plain numbers (later-grows grows later);
        outer = λ numbers later. fits.outer numbers (later-grows grows later);
        subs = λ numbers later rows kinds ranged fine.
            all-push (λ sub. (sub_shape sub).sound_in rows) k.subs (judged_subquery negated left walked.query)
            ∙ and_from _ _ (fits.subs numbers (later-grows grows later) rows kinds ranged (le_trans grows.references fine))
            (ap (λ (s : SubqueryShape). s.sound_in rows) shape_is ∙ sub_sound numbers later rows kinds ranged fine);
      }
        where
          by : (slot : Slot) → New v w' slot ⊎ Among own slot → Since w' slot
          by slot (inl new) = inr (inr (new-begins w' fits.grows slot new))
          by slot (inr among) = inl among

    -- ---- the walk

    module _ (scoped : Scoped database outers own correlated w0 wf) (behind : Behind wf outers) where
      settled_at : {w : Walk} (place : Place) → place.own ≡ own → place.outers ≡ outers → Grows wf w → SettledAt w.numbers place
      settled_at {w} place mine theirs since =
          (subst (SettledIn w.numbers) (sym mine) (settled_in-grows since own scoped.settled), subst (SettledAll w.numbers) (sym theirs) (settled_all-grows since outers scoped.enclosing))

      settled_all : {w : Walk} → Grows wf w → SettledAll w.numbers (own ∷ outers)
      settled_all since = (settled_in-grows since own scoped.settled, settled_all-grows since outers scoped.enclosing)

      own_old : {w : Walk} → Grows wf w → OldIn w own
      own_old {w} since = old_in-later wf w since.references own (old_in-within w0 wf own scoped.within)

      near_old : (w : Walk) (scopes : List Scope) → AllByRecursion (OldIn w) scopes → (slot : Slot) → AmongNear scopes slot → Old w slot
      near_old w [] old slot among = absurd among
      near_old w (outer ∷ scopes) old slot among = among-all (Old w) outer slot old.0 among

      since_old : {w : Walk} → Grows wf w → (slot : Slot) → Since w slot → Old w slot
      since_old {w} since slot (inl among) = among-all (Old w) own slot (own_old since) among
      since_old {w} since slot (inr (inl near)) = old-later wf w since.references slot (near_old wf outers behind.scopes slot near.1)
      since_old {w} since slot (inr (inr new)) = old-new wf w slot new

      -- what a subquery begins behind
      behind_at : {w : Walk} → Grows wf w → Adds (Since w) wf w → Behind w (own ∷ outers)
      behind_at {w} since uses = record {
        numbers = adds-all (Old w) (all-map (Old wf) (Old w) (old-later wf w since.references) wf.numbers behind.numbers) (adds-map (Since w) (Old w) (since_old since) uses);
        scopes = (own_old since, all-map (OldIn wf) (OldIn w) (old_in-later wf w since.references) outers behind.scopes);
      }

      -- a conjunct without a subquery
      condition_fits : (c : Conjunct) → TestSound c.test → (k : Conjuncts) (w : Walk) (after : Conjuncts) (w' : Walk) → WhereFits k w → Proper w.numbers
          → condition_walk (where_place around c.nested) c.test k w ≡ done after w' → WhereFits after w'
      unfolding condition_walk forget_outer
      condition_fits c test k w after w' fits proper e =
          let place = where_place around c.nested in
          let start = with_outer false w in
          let begun = grows-same {w = w} {w' = start} refl (le_refl w.references) refl in
          let turn = in_turn (c.test place start) (λ c w. done (with_condition k c w.outer) w) after w' e in
          let settled = settled_at place refl refl (grows-trans fits.grows begun) in
          let gives = (test.means).gives place start turn.value turn.middle proper settled turn.begun in
          let kinds = test.kinds place start turn.value turn.middle proper settled turn.begun in
          let step : Steps w turn.middle = record {
            grows = grows-trans begun gives.grows;
            kept = gives.plain refl;
            taken = kinds.taken;
            references = kinds.references;
            uses = adds-trans (Since turn.middle) (adds-same (Since turn.middle) refl) (adds-map (Used place) (Since turn.middle) (used-since turn.middle place refl refl (λ reaches. and-left correlated (not c.nested) reaches)) kinds.uses);
          } in
          subst₂ WhereFits (done_value turn.ended) (done_walk turn.ended) (fits-condition c.nested k turn.value w turn.middle kinds (fits-step fits step))

      in_subquery-done : (negated : Bool) (left : Typed) (walked : Walked) (w : Walk) (sub : JSub) (w' : Walk) → in_subquery negated left walked w ≡ done sub w'
          → (is_one_column left.kind walked.outputs ≡ true) × ((judged_subquery negated (Some left.scalar) walked.query ≡ sub) × (w ≡ w'))
      unfolding in_subquery
      in_subquery-done negated left walked w sub w' e =
          let rest = refuse_if-then (not (is_one_column left.kind walked.outputs)) TypeMismatch (pure (judged_subquery negated (Some left.scalar) walked.query)) w sub w' e in
          (not-false (is_one_column left.kind walked.outputs) rest.0, (done_value rest.1, done_walk rest.1))

      -- the left side of IN, and then the subquery
      subquery_fits : (left : Option (Place → Step Typed)) (negated : Bool) (walk : QueryWalk) → LeftSound database left → QuerySound database walk
          → (k : Conjuncts) (w : Walk) (sub : JSub) (w' : Walk) → WhereFits k w → Proper w.numbers → subquery_walk around left negated walk w ≡ done sub w' → WhereFits (with_subquery k sub) w'
      unfolding exists_walk in_walk
      subquery_fits None negated walk none query k w sub w' fits proper e =
          let m = mapped (walk database.tables role.Exists (own ∷ outers) w) (λ walked. judged_subquery negated None walked.query) sub w' e in
          let settled = settled_all fits.grows in
          let gives = (query.means).gives role.Exists (own ∷ outers) w m.given w' proper settled m.begins in
          let here = query.gives role.Exists (own ∷ outers) w m.given w' proper settled (behind_at fits.grows fits.uses) m.begins in
          subst (λ s. WhereFits (with_subquery k s) w') (sym m.makes)
          (fits-subquery role.Exists (λ numbers rows kinds. kinds) (λ v v' slot used. used) negated None k w fits m.given w' gives.grows gives.kept here (λ numbers later rows kinds. refl))
      subquery_fits (Some x) negated walk left query k w sub w' fits proper e =
          let place = place_in outers own in
          let first = in_turn (x place w) (λ left w. and_then (walk database.tables role.In (own ∷ outers) w) (in_subquery negated left)) sub w' e in
          let second = in_turn (walk database.tables role.In (own ∷ outers) first.middle) (in_subquery negated first.value) sub w' first.ended in
          let last = in_subquery-done negated first.value second.value second.middle sub w' second.ended in
          let settled = settled_at place refl refl fits.grows in
          let means = (left.means).gives place w first.value first.middle proper settled first.begun in
          let kinds = left.kinds place w first.value first.middle proper settled first.begun in
          let step : Steps w first.middle = record {
            grows = means.grows;
            kept = means.plain refl;
            taken = kinds.taken;
            references = kinds.references;
            uses = adds-map (Used place) (Since first.middle) (used-since first.middle place refl refl (λ reaches. absurd (true≢false (sym reaches)))) kinds.uses;
          } in
          let fit = fits-step fits step in
          let fine = (means.grows).proper proper in
          let gives = (query.means).gives role.In (own ∷ outers) first.middle second.value second.middle fine (settled_all fit.grows) second.begun in
          let here = query.gives role.In (own ∷ outers) first.middle second.value second.middle fine (settled_all fit.grows) (behind_at fit.grows fit.uses) second.begun in
          subst₂ (λ s v. WhereFits (with_subquery k s) v) (last.1).0 (last.1).1
          (fits-subquery role.In (λ numbers rows kinds. kinds) (λ v v' slot used. used) negated (Some first.value.scalar) k first.middle fit second.value second.middle gives.grows gives.kept here
          (λ numbers later rows own_kinds.
          let sees : Sees first.middle.numbers first.middle.aggs first.middle.outer place rows =
          record { own = all-kinds None first.middle.numbers rows own (kinds-before (later-grows gives.grows later) rows own own_kinds); near = λ reaches _. absurd (true≢false (sym reaches)); grouped = tt } in
          ap₂ same_kinds (kinds.typed first.middle.aggs (begins-itself first.middle.aggs) rows sees) here.first ∙ one-kind first.value.kind second.value.outputs database last.0))

      -- any conjunct
      conjunct_fits : (c : Conjunct) → ConjunctSound database c → (k : Conjuncts) (w : Walk) (after : Conjuncts) (w' : Walk) → WhereFits k w → Proper w.numbers → conjunct_walk around k c w ≡ done after w' → WhereFits after w'
      conjunct_fits c sound k w after w' fits proper e = by c.subquery sound.subquery e
        where
          by : (s : Option Subquery) → SubquerySoundIf database s → conjunct_by around k c.nested c.test s w ≡ done after w' → WhereFits after w'
          by None none e = condition_fits c sound.test k w after w' fits proper e
          by (Some sub) sub_sound e =
              let m = mapped (subquery_walk around sub.left sub.negated sub.query w) (with_subquery k) after w' e in
              subst (λ all. WhereFits all w') (sym m.makes) (subquery_fits sub.left sub.negated sub.query sub_sound.left sub_sound.query k w m.given w' fits proper m.begins)

      turns_fit : (proper : Proper wf.numbers) (cs : List Conjunct) → AllByRecursion (ConjunctSound database) cs → {k after : Conjuncts} {w w' : Walk} → WhereFits k w → Turns (conjunct_walk around) k cs w after w' → WhereFits after w'
      turns_fit proper [] sound fits turned = fits
      turns_fit proper (c ∷ cs) sound {k = k} {w = w} fits (again {more = more} {middle = middle} walked turns) =
          turns_fit proper cs sound.1 (conjunct_fits c sound.0 k w more middle fits ((fits.grows).proper proper) walked) turns

      pub where_fits : Proper wf.numbers → (condition : Option Condition) → CondSoundIf database condition → (after : Conjuncts) (w' : Walk) → where_walk around condition wf ≡ done after w' → WhereFits after w'
      where_fits proper None sound after w' e = subst₂ WhereFits (done_value e) (done_walk e) fits-none
      where_fits proper (Some condition) sound after w' e = turns_fit proper condition.conjuncts sound.conjuncts fits-none (over-turns (conjunct_walk around) no_conjuncts condition.conjuncts wf after w' e)
