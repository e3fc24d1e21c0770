-- Groups: grouping columns and aggregates have their kinds, and the columns that HAVING and the items may use have theirs.
use Rattle.std.proofs.Common.{◌≡◌, ◌≢◌, ℕ, ◌≤◌, ◌<◌, ◌==◌, ◌||◌, Bool, true, false, List, [], ◌∷◌, ◌++◌, length, map, Some, None, is_some, AllPairs, position, refl, sym, ap, subst, ◌∙◌, true≢false, arith}
use Rattle.std.specs.List.{AllByRecursion, list_all, list_any}
use Rattle.std.proofs.lemmas.Bool.{and_from}
use Rattle.std.proofs.lemmas.List.Quantifiers.{position-Some}
use Rattle.pdw_algebra.specs.Schema.{kind_at}
use Rattle.pdw_algebra.specs.Shape.{aggregate_column, all_typed, has_number, key_column, kind_or_int}
use Rattle.pdw_algebra.specs.Types.{aggregate_kind}
use Rattle.pdw_syntax.specs.declared.expr.ColRef.{ColRef}
use Rattle.pdw_base.specs.Schema.{Columns}
use Rattle.pdw_base.specs.declared.schema.ColId.{ColId}
use Rattle.pdw_sound.proofs.Added.{adds-same, adds-trans}
use Rattle.pdw_sound.proofs.SoundColumns.{Apart, aggregate-kinds, apart-pairs, every-image, every-map, every-passes, key-kind, kind-left, kind-number, kind-right, once-all, once-has}
use Rattle.pdw_sound.proofs.SoundExprs.{column_kinds}
use Rattle.pdw_sound.proofs.SoundLater.{Later, all-kinds, kinds-before, later-at, later-grows}
use Rattle.pdw_sound.proofs.SoundRelations.{Adds, AggsTyped, KindAt, KindsAllowed, KindsOf, Sees, Used}
use Rattle.pdw_form.specs.Columns.{each_number_once}
use Rattle.pdw_form.specs.Sound.{group_sound}
use Rattle.pdw_expr.specs.declared.agg.Agg.{Agg}
use Rattle.pdw_expr.specs.declared.cond.Cond.{Cond}
use Rattle.pdw_names.proofs.GroupLaws.{key_numbers, key_slots}
use Rattle.pdw_names.proofs.LookupLaws.{column-gives}
use Rattle.pdw_names.proofs.Relations.{Allowed, Grows, SettledAt}
use Rattle.pdw_names.proofs.WalkLaws.{Chain, Takes, all-map, each-chain, ends, grows-refl, grows-trans, next, position-grows, same_slot-is, settled_at-grows, some-is}
use Rattle.pdw_walk.specs.Conjuncts.{place_in}
use Rattle.pdw_walk.specs.Lookup.{Scope, column, is_key}
use Rattle.pdw_walk.specs.Queries.{group_place, keys_walk}
use Rattle.pdw_walk.specs.Slot.{same_slot}
use Rattle.pdw_walk.specs.Walk.{Walk, col_id, done}
use Rattle.pdw_walk.specs.declared.entry.Entry.{Entry}
use Rattle.pdw_walk.specs.declared.entry.Met.{Met}
use Rattle.pdw_walk.specs.declared.entry.Slot.{Slot}

-- ---- GROUP BY

-- a grouping column has its number, and its kind over FROM's columns
pub record KeyFits (own : Scope) (w : Walk) (met : Met) : Type 0 where
  pub number : position (same_slot met.column.slot) w.numbers ≡ Some met.column.number.0
  pub kind : (numbers : List Slot) → Later w numbers → (rows : Columns) → KindsOf numbers rows own → kind_at rows met.column.number ≡ Some met.kind

pub record KeysFit (outers : List Scope) (own : Scope) (w : Walk) (mets : List Met) (w' : Walk) : Type 0 where
  pub grows : Grows w w'
  pub kept : w'.aggs ≡ w.aggs
  pub taken : w'.taken ≡ w.taken
  pub references : w'.references ≡ w.references
  pub uses : Adds (Used (place_in outers own)) w w'
  pub keys : AllByRecursion (KeyFits own w') mets

module _ (outers : List Scope) (own : Scope) where
  key-later : {w w' : Walk} → Grows w w' → (met : Met) → KeyFits own w met → KeyFits own w' met
  key-later grows met key = record {
    number = position-grows grows met.column.slot met.column.number.0 key.number;
    kind = λ numbers later rows kinds. key.kind numbers (later-grows grows later) rows kinds;
  }

  one-key : (ref : ColRef) (w : Walk) (met : Met) (w' : Walk) → SettledAt w.numbers (place_in outers own) → column (place_in outers own) ref w ≡ done met w' → KeyFits own w' met
  one-key ref w met w' settled walked =
      let gives = column-gives (place_in outers own) ref w met w' settled walked in
      let kinds = column_kinds (place_in outers own) ref w met w' settled walked in
      record {
        number = gives.number;
        kind = λ numbers later rows known.
            let sees : Sees w'.numbers [] w'.outer (place_in outers own) rows =
            record { own = all-kinds None w'.numbers rows own (kinds-before later rows own known); near = λ reaches _. absurd (true≢false (sym reaches)); grouped = tt } in
            kinds.typed [] rows sees;
      }

  keys-chain : {refs : List ColRef} {w : Walk} {mets : List Met} {w' : Walk} → SettledAt w.numbers (place_in outers own) → Chain (Takes (column (place_in outers own))) refs w mets w' → KeysFit outers own w mets w'
  keys-chain settled (ends {w = w}) = record { grows = grows-refl w; kept = refl; taken = refl; references = refl; uses = adds-same (Used (place_in outers own)) refl; keys = tt }
  keys-chain settled (next {x = ref} {b = met} {w = w} {v = middle} walked chain) =
      let gives = column-gives (place_in outers own) ref w met middle settled walked in
      let kinds = column_kinds (place_in outers own) ref w met middle settled walked in
      let rest = keys-chain (settled_at-grows gives.grows (place_in outers own) settled) chain in
      record {
        grows = grows-trans gives.grows rest.grows;
        kept = rest.kept ∙ gives.kept;
        taken = rest.taken ∙ kinds.taken;
        references = rest.references ∙ kinds.references;
        uses = adds-trans (Used (place_in outers own)) kinds.uses rest.uses;
        keys = (key-later rest.grows met (one-key ref w met middle settled walked), rest.keys);
      }

  pub keys-fit : (refs : List ColRef) (w : Walk) (mets : List Met) (w' : Walk) → SettledAt w.numbers (place_in outers own) → keys_walk (place_in outers own) refs w ≡ done mets w' → KeysFit outers own w mets w'
  unfolding keys_walk
  keys-fit refs w mets w' settled e = keys-chain settled (each-chain (column (place_in outers own)) refs w mets w' e)

-- ---- the columns of groups

abbrev number_of_id : ColId → ℕ
number_of_id c = c.0

-- the number of a grouping column is among the keys
key-among : (own : Scope) (w : Walk) (numbers : List Slot) → Later w numbers → (slot : Slot) (place : ℕ) → position (same_slot slot) numbers ≡ Some place → (all : List ColId) (mets : List Met) → AllByRecursion (KeyFits own w) mets
    → AllByRecursion (λ (c : ColId). list_any (λ (key : ColId). key.0 == c.0) all ≡ true) (key_numbers mets) → is_key (key_slots mets) slot ≡ true → list_any (λ (key : ColId). key.0 == place) all ≡ true
key-among own w numbers later slot place found all [] keys among is = absurd (true≢false (sym is))
key-among own w numbers later slot place found all (met ∷ mets) keys among is = by (same_slot slot met.column.slot) refl is (key-among own w numbers later slot place found all mets keys.1 among.1)
  where
    by : (b : Bool) → same_slot slot met.column.slot ≡ b → (b || is_key (key_slots mets) slot) ≡ true → (is_key (key_slots mets) slot ≡ true → list_any (λ (key : ColId). key.0 == place) all ≡ true)
        → list_any (λ (key : ColId). key.0 == place) all ≡ true
    by true same is rest =
        let at : position (same_slot slot) numbers ≡ Some met.column.number.0 =
        ap (λ s. position (same_slot s) numbers) (same_slot-is slot met.column.slot same) ∙ later-at later met.column.slot met.column.number.0 (keys.0).number in
        subst (λ n. list_any (λ (key : ColId). key.0 == n) all ≡ true) (some-is (sym at ∙ found)) among.0
    by false same is rest = rest is

module _ (outers : List Scope) (own : Scope) (wk : Walk) (mets : List Met) (keys : AllByRecursion (KeyFits own wk) mets) (numbers : List Slot) (later : Later wk numbers) (rows : Columns) (kinds : KindsOf numbers rows own) where
  keys_below : (some : List Met) → AllByRecursion (KeyFits own wk) some → AllByRecursion (λ (c : ColId). c.0 < length wk.numbers) (key_numbers some)
  keys_below [] fit = tt
  keys_below (met ∷ some) fit = ((position-Some (same_slot met.column.slot) wk.numbers met.column.number.0 met.column.slot (fit.0).number).0, keys_below some fit.1)

  -- FROM's columns have the keys
  pub keys_there : (some : List Met) → AllByRecursion (KeyFits own wk) some → list_all (λ key. has_number key rows) (key_numbers some) ≡ true
  keys_there [] fit = refl
  keys_there (met ∷ some) fit = and_from _ _ (kind-number rows met.column.number met.kind ((fit.0).kind numbers later rows kinds)) (keys_there some fit.1)

  module _ (aggs : List Agg) (typed : AggsTyped rows aggs) (low : AllByRecursion (λ agg. length wk.numbers ≤ agg.out.0) aggs) (rising : AllPairs (λ a b. a.out.0 < b.out.0) aggs) where
    abbrev once : List ColId
    once = each_number_once (key_numbers mets)

    -- the columns that items and HAVING may use
    abbrev pub grouped_columns : Columns
    grouped_columns = map (key_column rows) once ++ map (aggregate_column rows) aggs

    own_kinds : KindsAllowed (Some (key_slots mets)) numbers grouped_columns own
    own_kinds = all-map (KindAt numbers rows) (λ (entry : Entry). Allowed (Some (key_slots mets)) entry.slot → KindAt numbers grouped_columns entry)
        (λ entry kind allowed place found.
        let among = key-among own wk numbers later entry.slot place found once mets keys (once-has number_of_id [] (key_numbers mets)) allowed in
        kind-left (map (key_column rows) once) (map (aggregate_column rows) aggs) (col_id place) entry.kind
        (key-kind rows once (col_id place) among ∙ ap (λ k. Some (kind_or_int k)) (kind place found))) own kinds

    once_below : AllByRecursion (λ (c : ColId). c.0 < length wk.numbers) once
    once_below = once-all number_of_id (λ (c : ColId). c.0 < length wk.numbers) [] (key_numbers mets) tt (keys_below mets keys)

    -- aggregates' numbers are none of the keys'
    keys_other : (agg : Agg) → length wk.numbers ≤ agg.out.0 → AllByRecursion (λ column. column.0.0 ≢ agg.out.0) (map (key_column rows) once)
    keys_other agg above =
        every-image (key_column rows) (λ column. column.0.0 ≢ agg.out.0) once
        (every-map (λ (c : ColId). c.0 < length wk.numbers) (λ (c : ColId). c.0 ≢ agg.out.0) (λ c below same. absurd (omega (arith, below, above, same))) once once_below)

    agg_kinds : (some : List Agg) → AllByRecursion (λ agg. length wk.numbers ≤ agg.out.0) some → AllByRecursion (λ agg. kind_at (map (aggregate_column rows) aggs) agg.out ≡ aggregate_kind rows agg) some
        → AllByRecursion (λ agg. kind_at grouped_columns agg.out ≡ aggregate_kind rows agg) some
    agg_kinds [] above all = tt
    agg_kinds (agg ∷ some) above all = (kind-right (map (key_column rows) once) (map (aggregate_column rows) aggs) agg.out (keys_other agg above.0) ∙ all.0, agg_kinds some above.1 all.1)

    aggs_apart : Apart (λ (a b : Agg). a.out.0 ≢ b.out.0) aggs
    aggs_apart = apart-pairs (λ (a b : Agg). a.out.0 ≢ b.out.0) aggs (λ i j d before within same. let h = rising i j d before within in absurd (omega (arith, h, same)))

    -- what may be used has its kind
    pub group_sees : (met : Bool) → Sees numbers aggs met (group_place outers own (Some (key_slots mets))) grouped_columns
    group_sees met = record {
      own = own_kinds;
      near = λ reaches _. absurd (true≢false (sym reaches));
      grouped = record { unreached = refl; rows = rows; own = kinds; aggregates = agg_kinds aggs low (aggregate-kinds rows aggs aggs_apart typed) };
    }

    pub groups_sound : (having : List Cond) → all_typed grouped_columns having ≡ true → group_sound (Some (record { keys = key_numbers mets; aggs = aggs; having = having })) rows ≡ true
    groups_sound having is =
        and_from _ _ (keys_there mets keys) (and_from _ _ (every-passes (λ (agg : Agg). is_some (aggregate_kind rows agg)) aggs typed) is)
