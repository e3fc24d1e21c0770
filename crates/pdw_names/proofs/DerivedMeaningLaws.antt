-- A query in FROM: its rows, read again under its alias.
use Rattle.std.proofs.Common.{◌≡◌, ◌≢◌, ℕ, ◌++◌, Bool, true, false, List, [], ◌∷◌, map, Some, refl, sym, ap, subst, subst₂, le_refl, ◌∙◌, position}
use Rattle.std.specs.List.{AllByRecursion}
use Rattle.std.proofs.lemmas.Option.{same_Some}
use Rattle.pdw_base.specs.Schema.{Env}
use Rattle.pdw_base.specs.declared.schema.ColId.{ColId}
use Rattle.pdw_base.specs.declared.value.Value.TheVariants.{Null}
use Rattle.pdw_catalog.specs.Database.{Database}
use Rattle.pdw_expr.specs.Env.{nulls}
use Rattle.pdw_expr.specs.Rows.{key_of}
use Rattle.pdw_walk.proofs.Outcomes.{in_turn, done_value, done_walk}
use Rattle.pdw_form.proofs.Related.{Related, none as no_rows, more as one_more}
use Rattle.pdw_names.proofs.Relations.{ElementGives, ElementMeans, Every, Fits, GivenAt, Numbering, Proper, QueryGives, QueryMeans, RowOf, Settled, SettledIn, Shows, none, more, Within}
use Rattle.pdw_names.proofs.TableMeaningLaws.{taken_alias}
use Rattle.pdw_names.proofs.WalkLaws.{fits-append, grows-same, grows-trans}
use Rattle.pdw_semantics.specs.Conds.{QueryMeaning}
use Rattle.pdw_semantics.specs.Environment.{Environment, labelled}
use Rattle.pdw_semantics.specs.Froms.{derived_meaning, label_of}
use Rattle.pdw_form.specs.Numbered.{NumberedMeaning, from_rows, from_step, numbered, query_step, sub_step}
use Rattle.pdw_walk.specs.Conds.{QueryWalk}
use Rattle.pdw_walk.specs.Froms.{derived_element, derived_entry, derived_table, derived_walk, finished, finished_step}
use Rattle.pdw_walk.specs.Lookup as lookup
use Rattle.pdw_walk.specs.Slot.{same_slot}
use Rattle.pdw_walk.specs.Walk.{Walk, pure, take_alias, with_taken}
use Rattle.pdw_walk.specs.declared.entry.Column.{Column}
use Rattle.pdw_walk.specs.declared.entry.Draft.TheOpen.{Draft-F}
use Rattle.pdw_walk.specs.declared.entry.Draft.TheFolds.{fold-roll-Draft}
use Rattle.pdw_walk.specs.declared.entry.Draft.TheVariants as draft
use Rattle.pdw_walk.specs.declared.entry.Role.{Role}
use Rattle.pdw_walk.specs.declared.entry.Role.TheVariants as role
use Rattle.pdw_walk.specs.declared.entry.Slot.{Slot}
use Rattle.pdw_walk.specs.declared.entry.Slot.TheVariants.{Base, Made}
use Rattle.pdw_walk.specs.declared.entry.Walked.{Walked}
use Rattle.pdw_form.specs.declared.judged.JFrom.{JFrom}
use Rattle.pdw_form.specs.declared.judged.JFrom.TheOpen.{JFrom-F}
use Rattle.pdw_form.specs.declared.judged.JFrom.TheFolds.{fold-roll-JFrom}
use Rattle.pdw_form.specs.declared.judged.JFrom.TheVariants as from
use Rattle.pdw_form.specs.declared.judged.JudgedQuery.{JudgedQuery}

pub finished_derived : (numbers : List Slot) (query : JudgedQuery) → finished numbers (draft.Derived query) ≡ from.Derived query
finished_derived numbers query = ap (finished numbers) (sym (draft.rolls-Derived query)) ∙ fold-roll-Draft JFrom (finished_step numbers) (Draft-F.Derived query)

is_exists : Role → Bool
is_exists role.Exists = true
is_exists _ = false

derived_not_exists : role.DerivedTable ≢ role.Exists
unfolding is_exists
derived_not_exists e = absurd (let h : false ≡ true = ap is_exists e in cc)

module _ (database : Database) where
  pub rows_of_derived : (query : JudgedQuery) → from_rows database (from.Derived query) ≡ (numbered database query).rows nulls
  unfolding from_rows numbered
  rows_of_derived query = ap (from_rows database) (sym (from.rolls-Derived query)) ∙ fold-roll-JFrom (List Env) (Env → Bool) NumberedMeaning (from_step database) (sub_step database) (query_step database) (JFrom-F.Derived query)

  module _ (w w' : Walk) (alias : List ℕ) where
    derived_within : {columns : List Column} {outs : List ColId} → Related (GivenAt database w w') columns outs → AllByRecursion (λ entry. Within w w' entry.slot) (map (derived_entry alias) columns)
    derived_within no_rows = tt
    derived_within (one_more given rest) = (given.1, derived_within rest)

    slot_settled : (slot : Slot) (place : ℕ) → Proper w'.numbers → position (same_slot slot) w'.numbers ≡ Some place → Settled w'.numbers slot
    slot_settled (Base reference column) place proper at = tt
    slot_settled (Made n) place proper at = at ∙ ap Some (proper.made n place at)

    derived_settled : Proper w'.numbers → {columns : List Column} {outs : List ColId} → Related (GivenAt database w w') columns outs → SettledIn w'.numbers (map (derived_entry alias) columns)
    derived_settled proper no_rows = tt
    derived_settled proper (one_more {x = column} {y = out} given rest) = (slot_settled column.slot out.0 proper given.0, derived_settled proper rest)

    module _ (N : Numbering) (fits : Fits N w'.numbers) (m : Env) where
      derived_shown : {columns : List Column} {outs : List ColId} → Related (GivenAt database w w') columns outs
          → Shows N m Every (map (derived_entry alias) columns) (labelled (map (label_of alias) (map (λ column. column.name) columns)) (map m outs))
      derived_shown no_rows = none
      derived_shown (one_more {x = column} {y = out} given rest) =
          more refl refl (λ c every at. ap m (same_Some out c (sym (fits column.slot out.0 given.0) ∙ at))) (derived_shown rest)

      not_given : (c : ColId) → (Within w w' (N.slot_at c) → ⊥) → {columns : List Column} {outs : List ColId} → Related (GivenAt database w w') columns outs → AllByRecursion (λ out. out ≢ c) outs
      not_given c out no_rows = tt
      not_given c out (one_more {x = column} {y = o} given rest) = (
        (λ e. out (subst (Within w w') (sym (N.forth column.slot c (fits column.slot o.0 given.0 ∙ ap Some e))) given.1)),
        not_given c out rest,
      )

    module _ (N : Numbering) (fits : Fits N w'.numbers) (columns : List Column) (outs : List ColId) (given : Related (GivenAt database w w') columns outs) where
      derived_rows : (rows : List Env) → AllByRecursion (λ m. (c : ColId) → AllByRecursion (λ out. out ≢ c) outs → m c ≡ Null) rows
          → Related (RowOf database N w w' (map (derived_entry alias) columns)) (map (labelled (map (label_of alias) (map (λ column. column.name) columns))) (map (key_of outs) rows)) rows
      derived_rows [] alone = no_rows
      derived_rows (m ∷ rows) alone = one_more (derived_shown N fits m given, λ c out. alone.0 c (not_given N fits m c out given)) (derived_rows rows alone.1)

  derived_labels : (alias : List ℕ) (columns : List Column) → map (λ entry. label_of entry.alias entry.column) (map (derived_entry alias) columns) ≡ map (label_of alias) (map (λ column. column.name) columns)
  derived_labels alias [] = refl
  derived_labels alias (column ∷ columns) = ap (λ rest. label_of alias column.name ∷ rest) (derived_labels alias columns)

  module _ (alias : List ℕ) (outers : List lookup.Scope) (meaning : QueryMeaning) (w : Walk) (walked : Walked) (w1 : Walk) (taken : List (List ℕ))
      (proper : Proper w.numbers) (gives : QueryGives database role.DerivedTable outers meaning w walked w1) where
    abbrev after : Walk
    after = with_taken taken w1

    same_names : map (λ column. column.name) walked.outputs ≡ meaning.names
    same_names = gives.names derived_not_exists

    derived_related : (env : Environment) (N : Numbering) → Fits N w1.numbers
        → Related (RowOf database N w after (map (derived_entry alias) walked.outputs)) (map (labelled (map (label_of alias) meaning.names)) (meaning.rows env)) ((numbered database walked.query).rows nulls)
    derived_related env N fits =
        subst₂ (λ names rows. Related (RowOf database N w after (map (derived_entry alias) walked.outputs)) (map (labelled (map (label_of alias) names)) rows) ((numbered database walked.query).rows nulls))
        same_names (sym (gives.rows env nulls (λ N exact fits. tt) tt (λ N exact fits c within. refl)))
        (derived_rows w w1 alias N fits walked.outputs (numbered database walked.query).outs gives.outputs ((numbered database walked.query).rows nulls) (gives.alone nulls))

    derived_gives : ElementGives database (derived_meaning alias meaning) w (derived_element alias walked) after
    derived_gives = record {
      grows = grows-trans gives.grows (grows-same refl (le_refl w1.references) refl);
      kept = gives.kept;
      labels = derived_labels alias walked.outputs ∙ ap (map (label_of alias)) same_names;
      within = derived_within w w1 alias gives.outputs;
      settled = derived_settled w w1 alias (gives.grows.proper proper) gives.outputs;
      rows = λ env later N exact fits.
          subst (λ rows. Related (RowOf database N w after (map (derived_entry alias) walked.outputs)) (map (labelled (map (label_of alias) meaning.names)) (meaning.rows env)) rows)
          (sym (ap (from_rows database) (finished_derived (w1.numbers ++ later) walked.query) ∙ rows_of_derived walked.query))
          (derived_related env N (fits-append N w1.numbers later fits));
    }

  pub derived_means : (alias : List ℕ) (walk : QueryWalk) (meaning : QueryMeaning) → QueryMeans database walk meaning → ElementMeans database (derived_table walk alias) (derived_meaning alias meaning)
  unfolding derived_walk
  derived_means alias walk meaning means = record {
    gives = λ outers w e w' proper settled done_so.
        let first = in_turn (walk database.tables role.DerivedTable outers w) (derived_walk alias) e w' done_so in
        let second = in_turn (take_alias alias first.middle) (λ u. pure (derived_element alias first.value)) e w' first.ended in
        subst₂ (λ e w'. ElementGives database (derived_meaning alias meaning) w e w')
        (done_value second.ended)
        (taken_alias alias first.middle second.value second.middle second.begun ∙ done_walk second.ended)
        (derived_gives alias outers meaning w first.value first.middle ((first.middle).taken ++ alias ∷ []) proper (means.gives role.DerivedTable outers w first.value first.middle proper settled first.begun));
  }
