-- A query that the walk accepts has a sound numbered form, where its elements and its conditions have.
use Rattle.std.proofs.Common.{◌≡◌, ◌≢◌, ℕ, ◌≤◌, ◌<◌, ◌&&◌, ◌⊎◌, Bool, true, false, not, List, [], ◌∷◌, ◌++◌, length, map, Option, Some, None, is_some, AllPairs, position, refl, sym, ap, subst, ◌∙◌, inl, inr, le_refl, le_trans, true≢false, arith}
use Rattle.std.specs.List.{AllByRecursion, flat_map, list_any}
use Rattle.std.proofs.lemmas.Bool.{and_from}
use Rattle.std.proofs.lemmas.List.Folds.{flat_map-map, list_all-map}
use Rattle.std.proofs.lemmas.List.Quantifiers.{position-Some}
use Rattle.pdw_algebra.specs.Schema.{kind_at}
use Rattle.pdw_algebra.specs.Shape.{all_typed, is_empty}
use Rattle.pdw_base.specs.Schema.{Columns}
use Rattle.pdw_base.specs.declared.schema.ColId.{ColId}
use Rattle.pdw_base.specs.declared.truth.Truth.{Truth}
use Rattle.pdw_base.specs.declared.value.Kind.{Kind}
use Rattle.pdw_sound.proofs.Added.{adds-grows, adds-map, adds-trans, among-all, behind-new, new-begins, new-ends, new-within, old-later, old_in-later}
use Rattle.pdw_sound.proofs.Ranges.{distinct-by, distinct-ranges, one-slot}
use Rattle.pdw_sound.proofs.SoundColumns.{apart-image, apart-pairs, every-both, every-image, every-turned, kind-left, kind-right, pairs-apart, pairs-none}
use Rattle.pdw_sound.proofs.SoundConds.{tested_sound}
use Rattle.pdw_sound.proofs.SoundExprs.{expr_sound}
use Rattle.pdw_sound.proofs.SoundFrom.{from_turns_fit}
use Rattle.pdw_sound.proofs.SoundGroups.{KeysFit, group_sees, groups_sound, keys-fit}
use Rattle.pdw_sound.proofs.SoundItems.{ItemKind, ItemsFit, MadeHere, TakenHere, items_fit, items_some}
use Rattle.pdw_sound.proofs.SoundLater.{all-kinds, kinds-before, later-append, later-grows, later-itself, near-before, ranged-at, ranged-wider, sees-before}
use Rattle.pdw_sound.proofs.SoundOutputs.{first_typed, fold-made, items_made-all, items_made-apart, items_typed, output_kinds, outputs-all}
use Rattle.pdw_sound.proofs.SoundRelations.{Adds, AggsMade, AggsTyped, Alone, Among, AmongNear, Behind, CondSoundIf, Covered, Distinct, ElementSound, Elsewhere, FromFits, FromFitsAt, KeepsLimit, KindAt, KindsOf, NearKinds, New, Old, OldIn, OuterKinds, QueryFits, QuerySound, Ranged, RangedColumns, RangedNumbers, Sees, TestedKinds, Used, UsedBy, first_kind, shapes_of}
use Rattle.pdw_sound.proofs.SoundWhere.{Since, WhereFits, sub_shape, subs_made, where_fits}
use Rattle.pdw_form.specs.Sound.{ElementShape, QueryShape, SubqueryShape, element_shape, element_step, from_columns, from_sound, group_columns, group_made, group_sound, items_made, made_by_rows, query_shape, subquery_step, where_sound}
use Rattle.pdw_form.specs.Sound as sound
use Rattle.pdw_syntax.specs.Written.{items_written}
use Rattle.pdw_catalog.specs.Database.{Database}
use Rattle.pdw_expr.specs.declared.agg.Agg.{Agg}
use Rattle.pdw_names.proofs.ExprMeaningLaws.{expr-means}
use Rattle.pdw_names.proofs.ItemLaws.{ItemsGive, items_give}
use Rattle.pdw_names.proofs.JoinMeaningLaws.{range_ends}
use Rattle.pdw_form.proofs.Once.{once}
use Rattle.pdw_names.proofs.QueryMeaningLaws.{query_layer}
use Rattle.pdw_names.proofs.QueryParts.{Parted, end, parted, start}
use Rattle.pdw_form.proofs.Related as related
use Rattle.pdw_form.proofs.Related.{Related}
use Rattle.pdw_names.proofs.Relations.{CondIf, ElementMeans, GivenAt, Grows, Proper, SettledAll, SettledAt, Within}
use Rattle.pdw_names.proofs.SideBySide.{Sided, from-sided, rows_of}
use Rattle.pdw_names.proofs.TestedLaws.{TestedGives, tested_gives}
use Rattle.pdw_names.proofs.WalkLaws.{all-append, all-map, begins-itself, grows-length, grows-refl, grows-trans, position-append, settled_all-grows, settled_in-grows}
use Rattle.pdw_names.proofs.WhereLaws.{Scoped}
use Rattle.pdw_semantics.specs.Environment.{Group}
use Rattle.pdw_semantics.specs.Froms.{ElementMeaning}
use Rattle.pdw_form.specs.Numbered.{outs_of}
use Rattle.pdw_semantics.specs.Queries as named
use Rattle.pdw_semantics.specs.Queries.{all_labels}
use Rattle.pdw_walk.specs.Conds.{Condition}
use Rattle.pdw_walk.specs.Conjuncts.{is_correlated}
use Rattle.pdw_walk.specs.Froms.{ElementWalk, finished}
use Rattle.pdw_walk.specs.Lookup.{Place, Scope}
use Rattle.pdw_walk.specs.Queries.{Text, group_of, group_place, grouped, keys_if, query_step, walked_query}
use Rattle.pdw_walk.specs.Slot.{same_slot}
use Rattle.pdw_walk.specs.Walk.{Walk, col_id, is_among}
use Rattle.pdw_walk.specs.declared.entry.Column.{Column}
use Rattle.pdw_walk.specs.declared.entry.Draft.{Draft}
use Rattle.pdw_walk.specs.declared.entry.Entry.{Entry}
use Rattle.pdw_walk.specs.declared.entry.Role.{Role}
use Rattle.pdw_walk.specs.declared.entry.Role.TheVariants as role
use Rattle.pdw_walk.specs.declared.entry.Slot.{Slot}
use Rattle.pdw_walk.specs.declared.entry.Slot.TheVariants.{Base, Made}
use Rattle.pdw_walk.specs.declared.entry.Walked.{Walked}
use Rattle.pdw_walk.specs.declared.fault.TheConstants.{MOST_REFERENCES}
use Rattle.pdw_form.specs.declared.judged.JFrom.TheFolds.{fold-roll-JudgedQuery}
use Rattle.pdw_form.specs.declared.judged.JFrom.TheOpen.{JudgedQuery-F}
use Rattle.pdw_form.specs.declared.judged.JFrom.TheViews.{out-roll-JudgedQuery}
use Rattle.pdw_form.specs.declared.judged.JFrom.{JFrom}
use Rattle.pdw_form.specs.declared.judged.JItem.{JItem}
use Rattle.pdw_form.specs.declared.judged.JSub.{JSub}
use Rattle.pdw_form.specs.declared.judged.JudgedQuery.{JudgedQuery, out-JudgedQuery}

-- ---- roles

not-correlated : (part : Role) → is_correlated part true ≡ false
not-correlated role.Statement = refl
not-correlated role.DerivedTable = refl
not-correlated role.In = refl
not-correlated role.Exists = refl

new-used : (part : Role) (outers : List Scope) (w w' : Walk) (slot : Slot) → New w w' slot → UsedBy part outers w w' slot
new-used role.Statement outers w w' slot new = new
new-used role.DerivedTable outers w w' slot new = new
new-used role.In outers w w' slot new = inl new
new-used role.Exists outers w w' slot new = inl new

near-used : (part : Role) (is_group : Bool) (outers : List Scope) (w w' : Walk) (slot : Slot) → is_correlated part is_group ≡ true → AmongNear outers slot → UsedBy part outers w w' slot
near-used role.Statement is_group outers w w' slot correlated near = absurd (true≢false (sym correlated))
near-used role.DerivedTable is_group outers w w' slot correlated near = absurd (true≢false (sym correlated))
near-used role.In is_group outers w w' slot correlated near = inr near
near-used role.Exists is_group outers w w' slot correlated near = inr near

outer-near : (database : Database) (part : Role) (is_group : Bool) (numbers : List Slot) (outer : Columns) (outers : List Scope) → is_correlated part is_group ≡ true → OuterKinds database part numbers outer outers → NearKinds numbers outer outers
outer-near database role.Statement is_group numbers outer outers correlated kinds = absurd (true≢false (sym correlated))
outer-near database role.DerivedTable is_group numbers outer outers correlated kinds = absurd (true≢false (sym correlated))
outer-near database role.In is_group numbers outer outers correlated kinds = kinds
outer-near database role.Exists is_group numbers outer outers correlated kinds = kinds

is-alone : (database : Database) (part : Role) (is_group : Bool) (shape : QueryShape) → (is_correlated part is_group ≡ false → shape.reaches ≡ false) → (part ≢ role.Exists → shape.has_items ≡ true) → Alone database part shape
is-alone database role.Statement is_group shape reaches some = (reaches refl, some (λ same. absurd cc))
is-alone database role.DerivedTable is_group shape reaches some = (reaches refl, some (λ same. absurd cc))
is-alone database role.In is_group shape reaches some = tt
is-alone database role.Exists is_group shape reaches some = tt

-- ---- walks

-- between the query's parts there is what is between its begin and its end
new-whole : (w v : Walk) (slot : Slot) → New (start w) v slot → New w (end w v) slot
new-whole w v (Base reference column) new = new
new-whole w v (Made n) new = tt

within-whole : (w v : Walk) (slot : Slot) → Within (start w) v slot → Within w (end w v) slot
within-whole w v (Base reference column) inside = inside
within-whole w v (Made n) inside = inside

ranged-whole : (numbers : List Slot) (w v : Walk) (c : ColId) → Ranged numbers (start w) v c → Ranged numbers w (end w v) c
ranged-whole numbers w v c r = record { slot = r.slot; at = r.at; within = within-whole w v r.slot r.within }

near_old : (w : Walk) (outers : List Scope) → AllByRecursion (OldIn w) outers → (slot : Slot) → AmongNear outers slot → Old w slot
near_old w [] old slot among = absurd among
near_old w (outer ∷ outers) old slot among = among-all (Old w) outer slot old.0 among

any-entry : (scope : Scope) → 0 < length scope → list_any (λ (entry : Entry). true) scope ≡ true
any-entry [] long = absurd (omega (arith, long))
any-entry (entry ∷ scope) long = refl

-- ---- the parts of a query

module _ (database : Database) where
  abbrev element_meanings : (walks : List ElementWalk) → AllByRecursion (ElementSound database) walks → List ElementMeaning
  element_meanings [] all = []
  element_meanings (walk ∷ walks) all = (all.0).meaning ∷ element_meanings walks all.1

  elements_mean : (walks : List ElementWalk) (all : AllByRecursion (ElementSound database) walks) → Related (ElementMeans database) walks (element_meanings walks all)
  elements_mean [] all = related.none
  elements_mean (walk ∷ walks) all = related.more (all.0).means (elements_mean walks all.1)

  abbrev cond_meaning : (c : Option Condition) → CondSoundIf database c → Option (Group → Truth)
  cond_meaning None sound = None
  cond_meaning (Some c) sound = Some sound.meaning

  cond_means : (c : Option Condition) (sound : CondSoundIf database c) → CondIf database c (cond_meaning c sound)
  cond_means None sound = tt
  cond_means (Some c) sound = sound.means

  shapes_same : (numbers : List Slot) (drafts : List Draft) → map (element_shape database.tables) (map (finished numbers) drafts) ≡ shapes_of database numbers drafts
  shapes_same numbers [] = refl
  shapes_same numbers (draft ∷ drafts) = ap (λ rest. element_shape database.tables (finished numbers draft) ∷ rest) (shapes_same numbers drafts)

  module _ (q : Text) (elements : AllByRecursion (ElementSound database) q.from) (some : 0 < length q.from) (filter : CondSoundIf database q.filter) (having : CondSoundIf database q.having) (written : items_written q.items ≡ true) where
    module _ (part : Role) (outers : List Scope) (w : Walk) (proper : Proper w.numbers) (settled : SettledAll w.numbers outers) (behind : Behind w outers) (walked : Walked) (w' : Walk) (p : Parted q database.tables part outers w walked w') where
      abbrev own : Scope
      own = (p.sources).own

      abbrev correlated : Bool
      correlated = is_correlated part (grouped q)

      abbrev place : Place
      place = group_place outers own (keys_if (grouped q) p.keys)

      abbrev meanings : List ElementMeaning
      meanings = element_meanings q.from elements

      -- ---- FROM

      sided : Sided database (start w) (all_labels meanings) (named.side_by_side meanings) own (rows_of database (start w) (p.sources).drafts) p.from_walk
      sided = from-sided database (start w) (elements_mean q.from elements) outers proper settled p.from

      behind_start : Behind (start w) outers
      behind_start = record {
        numbers = all-map (Old w) (Old (start w)) (old-later w (start w) (le_refl w.references)) w.numbers behind.numbers;
        scopes = all-map (OldIn w) (OldIn (start w)) (old_in-later w (start w) (le_refl w.references)) outers behind.scopes;
      }

      from : FromFits database (start w) p.sources p.from_walk
      from = from_turns_fit database (start w) q.from elements some outers p.sources p.from_walk proper settled behind_start p.from

      from_proper : Proper (p.from_walk).numbers
      from_proper = (sided.grows).proper proper

      behind_from : Behind p.from_walk outers
      behind_from = behind-new sided.grows behind_start from.uses

      scoped : Scoped database outers own correlated (start w) p.from_walk
      scoped = record { within = sided.within; settled = sided.settled; enclosing = settled_all-grows sided.grows outers settled }

      -- ---- WHERE, keys, HAVING and the items

      conjuncts : WhereFits database outers own correlated (start w) p.from_walk p.filters p.where_end
      conjuncts = where_fits database outers own correlated (start w) p.from_walk scoped behind_from from_proper q.filter filter p.filters p.where_end p.filter

      settled_by : {v : Walk} (keys : Option (List Slot)) → Grows p.from_walk v → SettledAt v.numbers (group_place outers own keys)
      settled_by keys since = (settled_in-grows since own sided.settled, settled_all-grows (grows-trans sided.grows since) outers settled)

      keyed : KeysFit outers own p.where_end p.keys p.keys_end
      keyed = keys-fit outers own q.group p.where_end p.keys p.keys_end (settled_by None conjuncts.grows) p.group

      to_keys : Grows p.from_walk p.keys_end
      to_keys = grows-trans conjuncts.grows keyed.grows

      had_gives : TestedGives place (cond_meaning q.having having) p.keys_end p.conds p.having_end
      had_gives = tested_gives database place q.having (cond_meaning q.having having) (cond_means q.having having) p.keys_end p.conds p.having_end (to_keys.proper from_proper) (settled_by (keys_if (grouped q) p.keys) to_keys) p.having

      had : TestedKinds place p.keys_end p.conds p.having_end
      had = tested_sound database place q.having having p.keys_end p.conds p.having_end (to_keys.proper from_proper) (settled_by (keys_if (grouped q) p.keys) to_keys) p.having

      to_having : Grows p.from_walk p.having_end
      to_having = grows-trans to_keys had_gives.grows

      -- FROM, WHERE and the keys make no aggregate
      no_aggs : (p.keys_end).aggs ≡ []
      no_aggs = keyed.kept ∙ (conjuncts.kept ∙ sided.kept)

      having_made : AggsMade (p.having_end).numbers (p.having_end).aggs
      having_made = had.made (subst (AggsMade (p.keys_end).numbers) (sym no_aggs) tt)

      items : ItemsFit place refl p.having_end p.outputs p.last
      items = items_fit place refl p.having_end (start w) p.from_walk to_having sided.within (to_having.proper from_proper) (settled_by (keys_if (grouped q) p.keys) to_having) expr_sound having_made part q.items written p.outputs p.last p.items

      itemed : ItemsGive database part place (all_labels meanings) q.items (start w) p.having_end p.outputs p.last
      itemed = items_give database expr-means part place (all_labels meanings) q.items (start w) p.from_walk p.having_end p.outputs p.last (to_having.proper from_proper) (settled_by (keys_if (grouped q) p.keys) to_having) refl
          sided.grows to_having sided.within sided.labels_are p.items

      after_having : Grows p.having_end p.last
      after_having = (items.step).grows

      since_keys : Grows p.keys_end p.last
      since_keys = grows-trans had_gives.grows after_having

      since_where : Grows p.where_end p.last
      since_where = grows-trans keyed.grows since_keys

      to_last : Grows p.from_walk p.last
      to_last = grows-trans to_having after_having

      all : Grows (start w) p.last
      all = grows-trans sided.grows to_last

      last_proper : Proper (p.last).numbers
      last_proper = all.proper proper

      -- ---- what gets a number

      abbrev SinceFrom : Slot → Type 0
      SinceFrom = Since database outers own correlated (start w) p.from_walk p.last

      used_since : (keys : Option (List Slot)) (slot : Slot) → Used (group_place outers own keys) slot → SinceFrom slot
      used_since keys (Base reference column) (inl among) = inl among
      used_since keys (Base reference column) (inr near) = absurd (true≢false (sym near.0))
      used_since keys (Made n) used = inr (inr tt)

      where_since : (slot : Slot) → Since database outers own correlated (start w) p.from_walk p.where_end slot → SinceFrom slot
      where_since slot (inl among) = inl among
      where_since slot (inr (inl near)) = inr (inl near)
      where_since slot (inr (inr new)) = inr (inr (new-ends p.from_walk since_where slot new))

      uses_since : Adds SinceFrom p.from_walk p.last
      uses_since =
          adds-trans SinceFrom (adds-map (Since database outers own correlated (start w) p.from_walk p.where_end) SinceFrom where_since conjuncts.uses)
          (adds-trans SinceFrom (adds-map (Used (group_place outers own None)) SinceFrom (used_since None) keyed.uses)
          (adds-trans SinceFrom (adds-map (Used place) SinceFrom (used_since (keys_if (grouped q) p.keys)) had.uses)
          (adds-map (Used place) SinceFrom (used_since (keys_if (grouped q) p.keys)) (items.step).uses)))

      covers_base : (reference column : ℕ) → SinceFrom (Base reference column) → Within (start w) p.from_walk (Base reference column) → Among own (Base reference column)
      covers_base reference column (inl among) inside = among
      covers_base reference column (inr (inl near)) inside =
          let old : reference < w.references = near_old w outers behind.scopes (Base reference column) near.1 in
          let begins = inside.0 in
          absurd (omega (arith, old, begins))
      covers_base reference column (inr (inr new)) inside =
          let begins = new.0 in
          let ends = inside.1 in
          absurd (omega (arith, begins, ends))

      covers : (slot : Slot) → SinceFrom slot → Covered (start w) p.from_walk own slot
      covers (Base reference column) since = covers_base reference column since
      covers (Made n) since = tt

      uses_all : Adds (UsedBy part outers w (end w p.last)) (start w) p.last
      uses_all =
          adds-trans (UsedBy part outers w (end w p.last))
          (adds-map (New (start w) p.from_walk) (UsedBy part outers w (end w p.last)) (λ slot new. used slot (new-ends (start w) to_last slot new)) from.uses)
          (adds-map SinceFrom (UsedBy part outers w (end w p.last)) by uses_since)
        where
          used : (slot : Slot) → New (start w) p.last slot → UsedBy part outers w (end w p.last) slot
          used slot new = new-used part outers w (end w p.last) slot (new-whole w p.last slot new)

          own_new : AllByRecursion (λ (entry : Entry). New (start w) p.last entry.slot) own
          own_new = all-map (λ (entry : Entry). Within (start w) p.from_walk entry.slot) (λ (entry : Entry). New (start w) p.last entry.slot)
              (λ entry inside. new-ends (start w) to_last entry.slot (new-within (start w) p.from_walk entry.slot inside)) own sided.within

          by : (slot : Slot) → SinceFrom slot → UsedBy part outers w (end w p.last) slot
          by slot (inl among) = used slot (among-all (New (start w) p.last) own slot own_new among)
          by slot (inr (inl near)) = near-used part (grouped q) outers w (end w p.last) slot near.0 near.1
          by slot (inr (inr new)) = used slot (new-begins p.last sided.grows slot new)

      -- ---- FROM at the query's end

      abbrev shapes : List ElementShape
      shapes = map (element_shape database.tables) (map (finished (p.last).numbers) (p.sources).drafts)

      abbrev rows : Columns
      rows = from_columns shapes

      end_proper : Proper ((p.from_walk).numbers ++ to_last.added)
      end_proper = subst Proper to_last.numbers last_proper

      from_at : FromFitsAt database (p.last).numbers (start w) own shapes p.from_walk
      from_at =
          subst (λ ss. FromFitsAt database (p.last).numbers (start w) own ss p.from_walk) (sym (shapes_same (p.last).numbers (p.sources).drafts))
          (subst (λ ns. FromFitsAt database ns (start w) own (shapes_of database ns (p.sources).drafts) p.from_walk) (sym to_last.numbers) (from.shape to_last.added end_proper))

      from_is_sound : (p.last).references ≤ MOST_REFERENCES → from_sound shapes ≡ true
      from_is_sound few =
          ap from_sound (shapes_same (p.last).numbers (p.sources).drafts)
          ∙ subst (λ ns. from_sound (shapes_of database ns (p.sources).drafts) ≡ true) (sym to_last.numbers)
          (from.sound to_last.added end_proper (all-map SinceFrom (Covered (start w) p.from_walk own) covers to_last.added (adds-grows SinceFrom uses_since to_last)) (le_trans to_last.references few))

      -- ---- aggregates

      new_aggs : (p.last).aggs ≡ since_keys.new_aggs
      new_aggs = since_keys.aggs ∙ ap (λ aggs. aggs ++ since_keys.new_aggs) no_aggs

      aggs_low : AllByRecursion (λ (agg : Agg). length (p.keys_end).numbers ≤ agg.out.0) (p.last).aggs
      aggs_low = subst (AllByRecursion (λ (agg : Agg). length (p.keys_end).numbers ≤ agg.out.0)) (sym new_aggs) (since_keys.made).low

      aggs_rising : AllPairs (λ (a b : Agg). a.out.0 < b.out.0) (p.last).aggs
      aggs_rising = subst (AllPairs (λ (a b : Agg). a.out.0 < b.out.0)) (sym new_aggs) (since_keys.made).rising

      aggs_typed : AggsTyped rows (p.last).aggs
      aggs_typed =
          (items.step).aggs rows from_at.kinds
          (had.aggs refl rows (kinds-before (later-grows after_having (later-itself p.last)) rows own from_at.kinds) (subst (AggsTyped rows) (sym no_aggs) tt))

      -- ---- the columns that items and HAVING may use

      abbrev columns_by : Bool → Columns
      columns_by is_group = group_columns (group_of is_group p.keys (p.last).aggs p.conds) rows

      sees_by : (is_group : Bool) (met : Bool) → Sees (p.last).numbers (p.last).aggs met (group_place outers own (keys_if is_group p.keys)) (columns_by is_group)
      sees_by false met = record { own = all-kinds None (p.last).numbers rows own from_at.kinds; near = λ reaches _. absurd (true≢false (sym reaches)); grouped = tt }
      sees_by true met = group_sees outers own p.keys_end p.keys keyed.keys (p.last).numbers (later-grows since_keys (later-itself p.last)) rows from_at.kinds (p.last).aggs aggs_typed aggs_low aggs_rising met

      group_by : (is_group : Bool) → all_typed (columns_by is_group) p.conds ≡ true → group_sound (group_of is_group p.keys (p.last).aggs p.conds) rows ≡ true
      group_by false typed = refl
      group_by true typed = groups_sound outers own p.keys_end p.keys keyed.keys (p.last).numbers (later-grows since_keys (later-itself p.last)) rows from_at.kinds (p.last).aggs aggs_typed aggs_low aggs_rising p.conds typed

      having_typed : all_typed (columns_by (grouped q)) p.conds ≡ true
      having_typed = had.typed (p.last).aggs (after_having.new_aggs, after_having.aggs) (columns_by (grouped q))
          (sees-before after_having place refl (p.last).aggs (columns_by (grouped q)) (p.having_end).outer (p.last).outer (sees_by (grouped q) (p.last).outer))

      item_kinds : Related (ItemKind (columns_by (grouped q))) (p.outputs).columns (p.outputs).items
      item_kinds = items.kinds (p.last).aggs (begins-itself (p.last).aggs) (p.last).outer (columns_by (grouped q)) (sees_by (grouped q) (p.last).outer)

      -- ---- the numbered form

      abbrev form : JudgedQuery-F ElementShape SubqueryShape QueryShape
      form = record {
        from = shapes;
        plain = (p.filters).plain;
        outer = (p.filters).outer;
        subs = map (sub_shape database) (p.filters).subs;
        group = group_of (grouped q) p.keys (p.last).aggs p.conds;
        items = (p.outputs).items;
        distinct = q.distinct;
      }

      abbrev shape : QueryShape
      shape = sound.query_step form

      abbrev judged : Walked
      judged = walked_query q.distinct (map (finished (p.last).numbers) (p.sources).drafts) p.filters (group_of (grouped q) p.keys (p.last).aggs p.conds) p.outputs

      shape_is : query_shape database.tables judged.query ≡ shape
      shape_is = fold-roll-JudgedQuery ElementShape SubqueryShape QueryShape (element_step database.tables) subquery_step sound.query_step (record {
        from = map (finished (p.last).numbers) (p.sources).drafts;
        plain = (p.filters).plain;
        outer = (p.filters).outer;
        subs = (p.filters).subs;
        group = group_of (grouped q) p.keys (p.last).aggs p.conds;
        items = (p.outputs).items;
        distinct = q.distinct;
      })

      items_are : (out-JudgedQuery judged.query).items ≡ (p.outputs).items
      items_are = ap (λ (f : JudgedQuery-F JFrom JSub JudgedQuery). f.items) (out-roll-JudgedQuery _)

      -- ---- the numbers that FROM and WHERE make

      abbrev from_made : List ColId
      from_made = flat_map (λ (s : ElementShape). s.made) shapes

      abbrev where_made : List ColId
      where_made = subs_made database (p.filters).subs

      rows_made_is : made_by_rows form ≡ from_made ++ where_made
      rows_made_is = fold-made from_made (map (sub_shape database) (p.filters).subs) ∙ ap (λ rest. from_made ++ rest) (flat_map-map (λ (s : SubqueryShape). s.made) (sub_shape database) (p.filters).subs)

      where_ranged : RangedNumbers (p.last).numbers p.from_walk p.where_end where_made
      where_ranged = all-map (Ranged (p.where_end).numbers p.from_walk p.where_end) (Ranged (p.last).numbers p.from_walk p.where_end)
          (λ x r. ranged-at (later-grows since_where (later-itself p.last)) p.from_walk p.where_end x r) where_made conjuncts.made

      rows_ranged : RangedNumbers (p.last).numbers (start w) p.where_end (made_by_rows form)
      rows_ranged = subst (RangedNumbers (p.last).numbers (start w) p.where_end) (sym rows_made_is)
          (all-append (Ranged (p.last).numbers (start w) p.where_end) from_made where_made
          (all-map (Ranged (p.last).numbers (start w) p.from_walk) (Ranged (p.last).numbers (start w) p.where_end) (λ x r. ranged-wider (grows-refl (start w)) conjuncts.grows x r) from_made from_at.made)
          (all-map (Ranged (p.last).numbers p.from_walk p.where_end) (Ranged (p.last).numbers (start w) p.where_end) (λ x r. ranged-wider sided.grows (grows-refl p.where_end) x r) where_made where_ranged))

      rows_distinct : Distinct (made_by_rows form)
      rows_distinct = subst Distinct (sym rows_made_is) (distinct-ranges (p.last).numbers (start w) p.from_walk p.where_end from_made where_made from_at.made where_ranged from_at.distinct conjuncts.distinct)

      -- ---- the numbers of aggregates and items, which come after those

      abbrev Fresh : ColId → Type 0
      Fresh c = (length (p.where_end).numbers ≤ c.0) × (position (same_slot (Made c.0)) (p.last).numbers ≡ Some c.0)

      rows_differ : (x y : ColId) → Ranged (p.last).numbers (start w) p.where_end x → Fresh y → x.0 ≢ y.0
      rows_differ x y r fresh same =
          let is : r.slot ≡ Made y.0 = one-slot (p.last).numbers r.slot (Made y.0) y.0 (r.at ∙ ap Some same) fresh.1 in
          let inside : Within (start w) p.where_end (Made y.0) = subst (Within (start w) p.where_end) is r.within in
          let below = inside.1 in
          let low = fresh.0 in
          absurd (omega (arith, below, low))

      fresh_ranged : (c : ColId) → Fresh c → Ranged (p.last).numbers (start w) p.last c
      fresh_ranged c fresh =
          let inside = (position-Some (same_slot (Made c.0)) (p.last).numbers c.0 (Made c.0) fresh.1).0 in
          let low = fresh.0 in
          let begins = grows-length (grows-trans sided.grows conjuncts.grows) in
          record { slot = Made c.0; at = fresh.1; within = (omega (arith, low, begins), inside) }

      aggs_fresh : AllByRecursion (λ (agg : Agg). Fresh agg.out) (p.last).aggs
      aggs_fresh = every-both (λ (agg : Agg). length (p.keys_end).numbers ≤ agg.out.0) (λ (agg : Agg). position (same_slot (Made agg.out.0)) (p.last).numbers ≡ Some agg.out.0) (λ (agg : Agg). Fresh agg.out)
          (λ agg low at. let longer = grows-length keyed.grows in (omega (arith, low, longer), at)) (p.last).aggs aggs_low items.aggs

      abbrev ItemMade : ColId → Type 0
      ItemMade = MadeHere place refl p.having_end p.last

      item_fresh : (c : ColId) → ItemMade c → Fresh c
      item_fresh c here = let low = here.low in let longer = grows-length (grows-trans keyed.grows had_gives.grows) in (omega (arith, low, longer), here.at)

      items_all_made : AllByRecursion ItemMade (items_made (p.outputs).items)
      items_all_made = items_made-all ItemMade (p.outputs).items
          (all-map (λ (i : JItem). i.make ≡ items.make i.out) (λ (i : JItem). is_some i.make ≡ true → ItemMade i.out) (λ i is made. by i is made (items.made_at i.out)) (p.outputs).items items.makes)
        where
          by : (i : JItem) → i.make ≡ items.make i.out → is_some i.make ≡ true → (items.make i.out ≡ None) ⊎ ItemMade i.out → ItemMade i.out
          by i is made (inl nothing) = absurd (true≢false (sym made ∙ ap is_some (is ∙ nothing)))
          by i is made (inr here) = here

      -- of the aggregates of a grouped query
      group_all : (P : ColId → Type 0) → AllByRecursion (λ (agg : Agg). P agg.out) (p.last).aggs → (is_group : Bool) → AllByRecursion P (group_made (group_of is_group p.keys (p.last).aggs p.conds))
      group_all P each false = tt
      group_all P each true = every-image (λ (agg : Agg). agg.out) P (p.last).aggs each

      group_distinct : (is_group : Bool) → Distinct (group_made (group_of is_group p.keys (p.last).aggs p.conds))
      group_distinct false = pairs-none (λ (a b : ColId). a.0 ≢ b.0)
      group_distinct true = pairs-apart (λ (a b : ColId). a.0 ≢ b.0) (map (λ (agg : Agg). agg.out) (p.last).aggs)
          (apart-image (λ (a b : ColId). a.0 ≢ b.0) (λ (agg : Agg). agg.out) (p.last).aggs
          (apart-pairs (λ (a b : Agg). a.out.0 ≢ b.out.0) (p.last).aggs (λ i j d before within same. let h = aggs_rising i j d before within in absurd (omega (arith, h, same)))))

      abbrev grouped_made : List ColId
      grouped_made = group_made (group_of (grouped q) p.keys (p.last).aggs p.conds)

      -- it is none of the items' numbers
      abbrev NoItem : ColId → Type 0
      NoItem c = (x : ColId) → ItemMade x → c.0 ≢ x.0

      before_items : AllByRecursion NoItem (made_by_rows form ++ grouped_made)
      before_items = all-append NoItem (made_by_rows form) grouped_made
          (all-map (Ranged (p.last).numbers (start w) p.where_end) NoItem (λ x r y here. rows_differ x y r (item_fresh y here)) (made_by_rows form) rows_ranged)
          (group_all NoItem (every-turned ItemMade (λ (agg : Agg) (x : ColId). agg.out.0 ≢ x.0) (p.last).aggs (λ x here. here.apart)) (grouped q))

      made_distinct : Distinct ((made_by_rows form ++ grouped_made) ++ items_made (p.outputs).items)
      made_distinct =
          distinct-by NoItem ItemMade (λ x y none here. none y here) (made_by_rows form ++ grouped_made) (items_made (p.outputs).items) before_items items_all_made
          (distinct-by (Ranged (p.last).numbers (start w) p.where_end) Fresh rows_differ (made_by_rows form) grouped_made rows_ranged (group_all Fresh aggs_fresh (grouped q)) rows_distinct (group_distinct (grouped q)))
          (pairs-apart (λ (a b : ColId). a.0 ≢ b.0) (items_made (p.outputs).items) (items_made-apart (p.outputs).items))

      made_ranged : RangedNumbers (p.last).numbers (start w) p.last ((made_by_rows form ++ grouped_made) ++ items_made (p.outputs).items)
      made_ranged =
          all-append (Ranged (p.last).numbers (start w) p.last) (made_by_rows form ++ grouped_made) (items_made (p.outputs).items)
          (all-append (Ranged (p.last).numbers (start w) p.last) (made_by_rows form) grouped_made
          (all-map (Ranged (p.last).numbers (start w) p.where_end) (Ranged (p.last).numbers (start w) p.last) (λ x r. ranged-wider (grows-refl (start w)) since_where x r) (made_by_rows form) rows_ranged)
          (all-map Fresh (Ranged (p.last).numbers (start w) p.last) fresh_ranged grouped_made (group_all Fresh aggs_fresh (grouped q))))
          (all-map ItemMade (Ranged (p.last).numbers (start w) p.last) (λ c here. fresh_ranged c (item_fresh c here)) (items_made (p.outputs).items) items_all_made)

      -- ---- the ranges of its columns

      outs_ranged : {columns : List Column} {outs : List ColId} → Related (GivenAt database (start w) p.last) columns outs → AllByRecursion (Ranged (p.last).numbers (start w) p.last) outs
      outs_ranged related.none = tt
      outs_ranged (related.more {x = column} given rest) = (record { slot = column.slot; at = given.0; within = given.1 }, outs_ranged rest)

      columns_ranged : RangedColumns (p.last).numbers w (end w p.last) shape.columns
      columns_ranged = outputs-all (Ranged (p.last).numbers w (end w p.last)) (columns_by (grouped q)) (p.outputs).items
          (all-map (Ranged (p.last).numbers (start w) p.last) (Ranged (p.last).numbers w (end w p.last)) (ranged-whole (p.last).numbers w p.last) (outs_of (p.outputs).items) (outs_ranged itemed.outputs))

      rows_columns_ranged : RangedColumns (p.last).numbers w (end w p.last) shape.rows
      rows_columns_ranged =
          all-map (λ (column : ColId × Kind). Ranged (p.last).numbers (start w) p.from_walk column.0) (λ (column : ColId × Kind). Ranged (p.last).numbers w (end w p.last) column.0)
          (λ column r. ranged-whole (p.last).numbers w p.last column.0 (ranged-wider (grows-refl (start w)) to_last column.0 r)) rows from_at.columns

      -- ---- within the enclosing query's columns

      module _ (later : List Slot) (outer : Columns) (kinds : OuterKinds database part ((p.last).numbers ++ later) outer outers)
          (elsewhere : AllByRecursion (λ (column : ColId × Kind). Elsewhere ((p.last).numbers ++ later) w (end w p.last) column.0) outer) where
        others : (entry : Entry) → Within (start w) p.from_walk entry.slot → (number : ℕ) → position (same_slot entry.slot) (p.last).numbers ≡ Some number → AllByRecursion (λ (x : ColId × Kind). x.0.0 ≢ number) outer
        others entry inside number found =
            all-map (λ (column : ColId × Kind). Elsewhere ((p.last).numbers ++ later) w (end w p.last) column.0) (λ (x : ColId × Kind). x.0.0 ≢ number)
            (λ column other same.
            let is : other.slot ≡ entry.slot = one-slot ((p.last).numbers ++ later) other.slot entry.slot number (other.at ∙ ap Some same) (position-append (same_slot entry.slot) (p.last).numbers later number found) in
            other.outside (subst (Within w (end w p.last)) (sym is) (within-whole w p.last entry.slot (range_ends (start w) to_last entry.slot inside)))) outer elsewhere

        both_kinds : KindsOf (p.last).numbers (outer ++ rows) own
        both_kinds = every-both (λ (entry : Entry). Within (start w) p.from_walk entry.slot) (KindAt (p.last).numbers rows) (KindAt (p.last).numbers (outer ++ rows))
            (λ entry inside kind number found. kind-right outer rows (col_id number) (others entry inside number found) ∙ kind number found) own sided.within from_at.kinds

        near_both : (scopes : List Scope) → NearKinds (p.last).numbers outer scopes → NearKinds (p.last).numbers (outer ++ rows) scopes
        near_both [] near = tt
        near_both (scope ∷ scopes) near = all-map (KindAt (p.last).numbers outer) (KindAt (p.last).numbers (outer ++ rows)) (λ entry kind number found. kind-left outer rows (col_id number) entry.kind (kind number found)) scope near

        outer_typed : all_typed (outer ++ rows) (p.filters).outer ≡ true
        outer_typed = by correlated refl
          where
            by : (b : Bool) → correlated ≡ b → all_typed (outer ++ rows) (p.filters).outer ≡ true
            by true is = conjuncts.outer (p.last).numbers (later-grows since_where (later-itself p.last)) (outer ++ rows) both_kinds
                (near_both outers (near-before (later-append p.last later) outer outers (outer-near database part (grouped q) ((p.last).numbers ++ later) outer outers is kinds)))
            by false is = ap (all_typed (outer ++ rows)) (conjuncts.no_outer is)

        whole_sound : (p.last).references ≤ MOST_REFERENCES → shape.sound_in outer ≡ true
        whole_sound few =
            let at_last = later-grows since_where (later-itself p.last) in
            and_from _ _ (from_is_sound few)
            (and_from _ _
            (and_from _ _ (conjuncts.plain (p.last).numbers at_last rows from_at.kinds)
            (and_from _ _ outer_typed
            (list_all-map (λ (s : SubqueryShape). s.sound_in rows) (sub_shape database) (p.filters).subs
            ∙ conjuncts.subs (p.last).numbers at_last rows from_at.kinds from_at.columns (le_trans since_where.references few))))
            (and_from _ _ (group_by (grouped q) having_typed) (items_typed (columns_by (grouped q)) item_kinds)))

      -- ---- all that is said of a query

      ungrouped : ((is_some (group_of (grouped q) p.keys (p.last).aggs p.conds)) && not (is_empty (p.filters).outer)) ≡ false
      ungrouped = by (grouped q) refl
        where
          by : (b : Bool) → grouped q ≡ b → (is_some (group_of b p.keys (p.last).aggs p.conds) && not (is_empty (p.filters).outer)) ≡ false
          by false is = refl
          by true is = ap (λ conds. not (is_empty conds)) (conjuncts.no_outer (ap (is_correlated part) is ∙ not-correlated part))

      taken_here : TakenHere place p.having_end
      taken_here alias among = from.aliases alias (subst (λ taken. is_among alias taken ≡ true) (had.taken ∙ (keyed.taken ∙ conjuncts.taken)) among) refl

      alone : Alone database part shape
      alone = is-alone database part (grouped q) shape (λ is. ap (λ conds. not (is_empty conds)) (conjuncts.no_outer is))
          (λ other. items_some place p.having_end taken_here (any-entry own from.some) part other q.items written p.outputs p.last p.items)

      limit : KeepsLimit w (end w p.last)
      limit few = subst (λ n. n ≤ MOST_REFERENCES) (sym ((items.step).references ∙ (had.references ∙ keyed.references))) (conjuncts.limit (from.limit few))

      fits : QueryFits database part outers w judged (end w p.last)
      fits = record {
        taken = refl;
        uses = record { added = uses_all.added; numbers = uses_all.numbers; all = uses_all.all };
        references = let begins = from.references in let rest = to_last.references in omega (arith, begins, rest);
        limit = limit;
        kinds = subst (λ (s : QueryShape). Related (λ column out. kind_at s.columns out ≡ Some column.kind) judged.outputs (outs_of (out-JudgedQuery judged.query).items)) (sym shape_is)
            (subst (λ (is : List JItem). Related (λ column out. kind_at shape.columns out ≡ Some column.kind) judged.outputs (outs_of is)) (sym items_are) (output_kinds (columns_by (grouped q)) items.make (p.outputs).items items.makes item_kinds));
        first = subst (λ (s : QueryShape). s.first_kind ≡ first_kind database judged.outputs) (sym shape_is) (first_typed database (columns_by (grouped q)) item_kinds);
        columns = subst (λ (s : QueryShape). RangedColumns (p.last).numbers w (end w p.last) s.columns) (sym shape_is) columns_ranged;
        rows = subst (λ (s : QueryShape). RangedColumns (p.last).numbers w (end w p.last) s.rows) (sym shape_is) rows_columns_ranged;
        made = subst (λ (s : QueryShape). RangedNumbers (p.last).numbers w (end w p.last) s.columns_made) (sym shape_is)
            (all-map (Ranged (p.last).numbers (start w) p.last) (Ranged (p.last).numbers w (end w p.last)) (ranged-whole (p.last).numbers w p.last) shape.columns_made made_ranged);
        distinct = subst (λ (s : QueryShape). Distinct s.columns_made) (sym shape_is) made_distinct;
        ungrouped = subst (λ (s : QueryShape). (s.is_grouped && s.reaches) ≡ false) (sym shape_is) ungrouped;
        alone = subst (Alone database part) (sym shape_is) alone;
        sound = λ later outer kinds elsewhere few. subst (λ (s : QueryShape). s.sound_in outer ≡ true) (sym shape_is) (whole_sound later outer kinds elsewhere few);
      }

    abbrev named_text : named.Text
    named_text = record { distinct = q.distinct; items = q.items; from = element_meanings q.from elements; filter = cond_meaning q.filter filter; group = q.group; having = cond_meaning q.having having }

    -- what the walk of a query accepts has a sound numbered form
    pub query_sound : QuerySound database (query_step q)
    query_sound = record {
      meaning = named.query_step named_text;
      means = query_layer database once expr-means q named_text refl refl refl (elements_mean q.from elements) (cond_means q.filter filter) (cond_means q.having having);
      gives = λ part outers w walked w' proper settled behind e.
          let p = parted q database.tables part outers w walked w' e in
          subst (λ v. QueryFits database part outers w walked v) p.ends
          (subst (λ walked. QueryFits database part outers w walked (end w p.last)) p.is (fits part outers w proper settled behind walked w' p));
    }
