-- WHERE: the conjuncts of the three kinds hold where the condition by names is True.
use Rattle.std.proofs.Common.{◌≡◌, ℕ, ◌<◌, ◌&&◌, Bool, true, false, not, List, [], ◌∷◌, ◌++◌, length, map, Option, Some, None, slice_index_or, refl, sym, ap, ap₂, subst, ◌∙◌, le_refl, true≢false, arith, inl, inr}
use Rattle.std.proofs.lemmas.Bool.{cases_lt}
use Rattle.std.specs.List.{AllByRecursion, list_all}
use Rattle.pdw_base.specs.Schema.{Env}
use Rattle.pdw_base.specs.declared.schema.ColId.{ColId}
use Rattle.pdw_base.specs.declared.truth.Truth.{Truth}
use Rattle.pdw_base.specs.declared.truth.Truth.TheVariants.{True}
use Rattle.pdw_catalog.specs.Database.{Database}
use Rattle.pdw_expr.specs.Cond.{truth_of}
use Rattle.pdw_expr.specs.Env.{union}
use Rattle.pdw_expr.specs.Logic.{decided, is_truth}
use Rattle.pdw_expr.specs.Rows.{meets}
use Rattle.pdw_expr.specs.declared.cond.Cond.{Cond}
use Rattle.pdw_expr.specs.declared.scalar.Scalar.{Scalar}
use Rattle.pdw_names.proofs.JoinMeaningLaws.{range_begins, ranges_apart}
use Rattle.pdw_walk.proofs.Loops.{Turns, again, over-turns, turned}
use Rattle.pdw_walk.proofs.Outcomes.{done_value, done_walk, in_turn}
use Rattle.pdw_form.proofs.Related as related
use Rattle.pdw_form.proofs.Related.{Related}
use Rattle.pdw_names.proofs.Relations as rel
use Rattle.pdw_names.proofs.Relations.{Allowed, Apart, CondIf, CondMeans, ConjunctMeans, Encloses, Every, Exact, ExprGives, ExprMeans, Fits, Grows, LeftMeans, NearShows, Numbering, OnlyIn, Outside, Proper, QueryGives, QueryMeans, Settled, SettledAll, SettledAt, SettledIn, Shows, Stands, SubqueryIf, SubqueryMeans, TestGives, TestMeans, Within}
use Rattle.pdw_names.proofs.TestedLaws.{all_true_each, and_assoc, list_all_map}
use Rattle.pdw_names.proofs.WalkLaws.{all-map, begins-itself, fits-grows, grows-refl, grows-same, grows-trans, mapped, refuse_if-then, settled_all-grows, settled_in-grows}
use Rattle.pdw_expr.specs.Predicates.{first_column, is_one_of, negated_if}
use Rattle.pdw_semantics.specs.Conds.{QueryMeaning, passes}
use Rattle.pdw_semantics.specs.Environment.{Environment, Group, Scope, alone}
use Rattle.pdw_form.specs.Numbered.{NumberedMeaning, from_step, numbered, query_step, sub_step, subquery_holds}
use Rattle.pdw_form.specs.declared.judged.JFrom.TheFolds.{fold-JSub, fold-roll-JSub}
use Rattle.pdw_form.specs.declared.judged.JSub.{JSub}
use Rattle.pdw_form.specs.declared.judged.JudgedQuery.{JudgedQuery}
use Rattle.pdw_walk.specs.Conjuncts.{Around, condition_walk, conjunct_by, conjunct_walk, exists_walk, in_subquery, in_walk, is_one_column, judged_subquery, no_conjuncts, place_in, subquery_walk, where_place, where_walk, with_condition, with_subquery}
use Rattle.pdw_walk.specs.Conds.{Condition, Conjunct, QueryWalk, Subquery}
use Rattle.pdw_walk.specs.Lookup as lookup
use Rattle.pdw_walk.specs.Lookup.{Place}
use Rattle.pdw_walk.specs.Walk.{Step, Walk, and_then, done, forget_outer, pure, with_outer}
use Rattle.pdw_walk.specs.declared.entry.Conjuncts.{Conjuncts}
use Rattle.pdw_walk.specs.declared.entry.Entry.{Entry}
use Rattle.pdw_walk.specs.declared.entry.Role.TheVariants as role
use Rattle.pdw_walk.specs.declared.entry.Slot.{Slot}
use Rattle.pdw_walk.specs.declared.entry.Typed.{Typed}
use Rattle.pdw_walk.specs.declared.entry.Walked.{Walked}
use Rattle.pdw_walk.specs.declared.fault.JudgeFault.TheVariants.{TypeMismatch}
use Rattle.pdw_walk.specs.declared.entry.Slot.TheVariants.{Base, Made}

-- ---- the conjuncts of a list

and_true : (a : Bool) → (a && true) ≡ a
and_true true = refl
and_true false = refl

and-left : (a b : Bool) → (a && b) ≡ true → a ≡ true
and-left true b e = refl
and-left false b e = e

pub all-push : {A : Type 0} (p : A → Bool) (xs : List A) (x : A) → list_all p (xs ++ x ∷ []) ≡ (list_all p xs && p x)
all-push p [] x = and_true (p x)
all-push p (y ∷ ys) x = ap (λ b. p y && b) (all-push p ys x) ∙ sym (and_assoc (p y) (list_all p ys) (p x))

pub meets-all : (conds : List Cond) (m : Env) → meets conds m ≡ list_all (λ c. is_truth (truth_of c m) True) conds
meets-all conds m = all_true_each (map (λ c. truth_of c m) conds) ∙ list_all_map (λ t. is_truth t True) (λ c. truth_of c m) conds

pub meets-push : (conds : List Cond) (c : Cond) (m : Env) → meets (conds ++ c ∷ []) m ≡ (meets conds m && is_truth (truth_of c m) True)
meets-push conds c m =
    meets-all (conds ++ c ∷ []) m ∙ all-push (λ c. is_truth (truth_of c m) True) conds c ∙ ap (λ b. b && is_truth (truth_of c m) True) (sym (meets-all conds m))

-- ---- a numbering that is exact at an earlier moment

beyond-base : {reference column n : ℕ} {B : Type 0} → Made n ≡ Base reference column → B
beyond-base e = absurd (cc)

module _ (N₁ N : Numbering) (numbers : List Slot) (exact : Exact N₁ numbers) (proper : Proper numbers) (fits₁ : Fits N₁ numbers) (fits : Fits N numbers) where
  -- what it has at a number that was given, any numbering that fits has
  pub slot-same : (c : ColId) → c.0 < length numbers → N.slot_at c ≡ N₁.slot_at c
  slot-same c within =
      let at = slice_index_or numbers c.0 (Made c.0) in
      N.forth at c (fits at c.0 (proper.once c.0 within)) ∙ sym (exact.inside c.0 within)

  pub number-same : (slot : Slot) (c : ColId) → Settled numbers slot → N₁.number_of slot ≡ Some c → N.number_of slot ≡ Some c
  number-same (Made n) c settled is = fits (Made n) n settled ∙ sym (fits₁ (Made n) n settled) ∙ is
  number-same (Base reference column) c settled is =
      let slot = Base reference column in
      elim (cases_lt c.0 (length numbers)) [
        | inl inside ↦ ap N.number_of (sym (slot-same c inside ∙ N₁.forth slot c is)) ∙ N.back c
        | inr past ↦ beyond-base (sym (exact.outside c.0 past) ∙ N₁.forth slot c is)
      ]

-- a row that shows a map by one numbering shows it by another that numbers the same
pub shows-numbered : (N N₁ : Numbering) {m : Env} {P : Slot → Type 0} (Z : Slot → Type 0) → ((slot : Slot) (c : ColId) → Z slot → N₁.number_of slot ≡ Some c → N.number_of slot ≡ Some c)
    → {entries : List Entry} {cells : Scope} → AllByRecursion (λ entry. Z entry.slot) entries → Shows N m P entries cells → Shows N₁ m P entries cells
shows-numbered N N₁ Z give all rel.none = rel.none
shows-numbered N N₁ Z give all (rel.more {entry = entry} alias column value rest) =
    rel.more alias column (λ c p number. value c p (give entry.slot c all.0 number)) (shows-numbered N N₁ Z give all.1 rest)

-- ---- the walk of a subquery of IN

in_subquery-done : (negated : Bool) (left : Typed) (walked : Walked) (w : Walk) (sub : JSub) (w' : Walk) → in_subquery negated left walked w ≡ done sub w'
    → (sub ≡ judged_subquery negated (Some left.scalar) walked.query) × (w ≡ w')
unfolding in_subquery
in_subquery-done negated left walked w sub w' e =
    let rest = refuse_if-then (not (is_one_column left.kind walked.outputs)) TypeMismatch (pure (judged_subquery negated (Some left.scalar) walked.query)) w sub w' e in
    (sym (done_value rest.1), done_walk rest.1)

-- ---- subqueries by their numbers

module _ (database : Database) where
  abbrev pub sub_holds : JSub → Env → Bool
  sub_holds = fold-JSub (List Env) (Env → Bool) NumberedMeaning (from_step database) (sub_step database) (query_step database)

  pub sub_holds-is : (negated : Bool) (left : Option Scalar) (query : JudgedQuery) (m : Env) → sub_holds (judged_subquery negated left query) m ≡ subquery_holds negated left (numbered database query) m
  unfolding numbered
  sub_holds-is negated left query m =
      ap (λ f. f m) (fold-roll-JSub (List Env) (Env → Bool) NumberedMeaning (from_step database) (sub_step database) (query_step database) (record { negated = negated; left = left; query = query }))

  -- whether a row meets the conjuncts of the three kinds
  abbrev pub Holds : Conjuncts → Env → Env → Bool
  Holds k m outer = (meets k.plain m && list_all (λ sub. sub_holds sub m) k.subs) && meets k.outer (union m outer)

  holds-plain : (a b c t : Bool) → (((a && t) && b) && c) ≡ (((a && b) && c) && t)
  holds-plain true true c true = sym (and_true c)
  holds-plain true true true false = refl
  holds-plain true true false false = refl
  holds-plain true false c true = refl
  holds-plain true false c false = refl
  holds-plain false b c t = refl

  holds-sub : (a b c t : Bool) → ((a && (b && t)) && c) ≡ (((a && b) && c) && t)
  holds-sub true true true t = and_true t
  holds-sub true true false true = refl
  holds-sub true true false false = refl
  holds-sub true false c t = refl
  holds-sub false b c t = refl

  module _ (outers : List lookup.Scope) (own : lookup.Scope) (correlated : Bool) (w0 wf : Walk) where
    abbrev pub around_here : Around
    around_here = record { tables = database.tables; own = own; outers = outers; correlated = correlated }

    -- a row of FROM, at the numbers of the query's end
    pub record Situated (N : Numbering) (end : Walk) (env : Environment) (outer : Env) (row : Scope) (m : Env) : Type 0 where
      pub exact : Exact N end.numbers
      pub fits : Fits N end.numbers
      pub shown : Shows N m Every own row
      pub only : OnlyIn N w0 wf m
      pub both : Shows N (union m outer) Every own row
      pub near : correlated ≡ true → NearShows N (union m outer) outers env

    -- what is known of the scopes
    pub record Scoped : Type 0 where
      pub within : AllByRecursion (λ entry. Within w0 wf entry.slot) own
      pub settled : SettledIn wf.numbers own
      pub enclosing : SettledAll wf.numbers outers

    -- what a conjunct adds to those before it
    pub record ConjunctGives (before after : Conjuncts) (truth : Environment → Scope → Bool) (w w' : Walk) : Type 0 where
      pub grows : Grows w w'
      pub kept : w'.aggs ≡ w.aggs
      pub holds : (N : Numbering) (end : Walk) (env : Environment) (outer : Env) (row : Scope) (m : Env) → Grows w' end → Situated N end env outer row m
          → Holds after m outer ≡ (Holds before m outer && truth env row)

    module _ (around : Scoped) where
      settled-at : {w : Walk} (place : Place) → place.own ≡ own → place.outers ≡ outers → Grows wf w → SettledAt w.numbers place
      settled-at {w} place mine theirs since =
          (subst (SettledIn w.numbers) (sym mine) (settled_in-grows since own around.settled), subst (SettledAll w.numbers) (sym theirs) (settled_all-grows since outers around.enclosing))

      is_true : Truth → Bool
      is_true t = is_truth t True

      -- a condition with a column of the enclosing query, or without one
      condition-holds : (met nested : Bool) (before : Conjuncts) (c : Cond) (truth : Group → Truth) (w w' : Walk)
          → TestGives (where_place around_here nested) truth w c w' → w'.outer ≡ met
          → (N : Numbering) (end : Walk) (env : Environment) (outer : Env) (row : Scope) (m : Env) → Grows w' end → Situated N end env outer row m
          → Holds (with_condition before c met) m outer ≡ (Holds before m outer && is_truth (truth (alone env row)) True)
      condition-holds true nested before c truth w w' gives met N end env outer row m grows at =
          let reached : correlated && not nested ≡ true → correlated ≡ true = λ e. and-left correlated (not nested) e in
          let stands : Stands N (where_place around_here nested) w'.outer (alone env row) (union m outer) w'.aggs =
          record { own = at.both; near = λ reaches _. at.near (reached reaches); grouped = tt } in
          let is = gives.means N (fits-grows N at.fits grows) w'.aggs (begins-itself w'.aggs) (alone env row) (union m outer) stands in
          ap (λ b. (meets before.plain m && list_all (λ sub. sub_holds sub m) before.subs) && b) (meets-push before.outer c (union m outer))
          ∙ sym (and_assoc (meets before.plain m && list_all (λ sub. sub_holds sub m) before.subs) (meets before.outer (union m outer)) (is_truth (truth_of c (union m outer)) True))
          ∙ ap (λ t. Holds before m outer && is_truth t True) (sym is)
      condition-holds false nested before c truth w w' gives met N end env outer row m grows at =
          let stands : Stands N (where_place around_here nested) w'.outer (alone env row) m w'.aggs =
          record { own = at.shown; near = λ reaches there. absurd (true≢false (sym there ∙ met)); grouped = tt } in
          let is = gives.means N (fits-grows N at.fits grows) w'.aggs (begins-itself w'.aggs) (alone env row) m stands in
          ap (λ b. (b && list_all (λ sub. sub_holds sub m) before.subs) && meets before.outer (union m outer)) (meets-push before.plain c m)
          ∙ holds-plain (meets before.plain m) (list_all (λ sub. sub_holds sub m) before.subs) (meets before.outer (union m outer)) (is_truth (truth_of c m) True)
          ∙ ap (λ t. Holds before m outer && is_truth t True) (sym is)

      -- the walk of a subquery sees the row of FROM
      sub-row : (N : Numbering) (end : Walk) (env : Environment) (outer : Env) (row : Scope) (m : Env) (w w' : Walk) → Grows wf w → Grows w w' → Proper w.numbers → Grows w' end
          → Situated N end env outer row m → (N₁ : Numbering) → Exact N₁ w'.numbers → Fits N₁ w'.numbers → Shows N₁ m Every own row
      sub-row N end env outer row m w w' since grows proper later at N₁ exact fits =
          shows-numbered N N₁ (Settled w'.numbers)
          (λ slot c settled is. number-same N₁ N w'.numbers exact (grows.proper proper) fits (fits-grows N at.fits later) slot c settled is)
          (settled_in-grows (grows-trans since grows) own around.settled) at.shown

      sub-apart : (N : Numbering) (end : Walk) (env : Environment) (outer : Env) (row : Scope) (m : Env) (w w' : Walk) → Grows wf w → Grows w w' → Proper w.numbers → Grows w' end
          → Situated N end env outer row m → (N₁ : Numbering) → Exact N₁ w'.numbers → Fits N₁ w'.numbers → Apart database N₁ w w' m
      sub-apart N end env outer row m w w' since grows proper later at N₁ exact fits c within =
          at.only c (λ own_range. elim (cases_lt c.0 (length w'.numbers)) [
            | inl inside ↦
                let same = slot-same N₁ N w'.numbers exact (grows.proper proper) fits (fits-grows N at.fits later) c inside in
                ranges_apart w0 wf w' (N₁.slot_at c) (subst (Within w0 wf) same own_range) (range_begins w' since (N₁.slot_at c) within)
            | inr past ↦
                let made : Within w w' (Made c.0) = subst (Within w w') (exact.outside c.0 past) within in
                let below = made.1 in absurd (omega arith)
          ])

      sub-outside : (w w' : Walk) → Grows wf w → AllByRecursion (λ entry. Within w w' entry.slot → ⊥) own
      sub-outside w w' since =
          all-map (λ (entry : Entry). Within w0 wf entry.slot) (λ (entry : Entry). Within w w' entry.slot → ⊥)
          (λ entry at there. ranges_apart w0 wf w' entry.slot at (range_begins w' since entry.slot there)) own around.within

      subquery-gives : (left : Option (Place → Step Typed)) (negated : Bool) (walk : QueryWalk) (query : QueryMeaning) (truth : Group → Truth)
          → QueryMeans database walk query → LeftMeans database left negated query truth
          → (before : Conjuncts) (w : Walk) (sub : JSub) (w' : Walk) → Grows wf w → Proper w.numbers → subquery_walk around_here left negated walk w ≡ done sub w'
          → ConjunctGives before (with_subquery before sub) (λ env row. is_truth (truth (alone env row)) True) w w'
      unfolding exists_walk in_walk
      subquery-gives None negated walk query truth means is before w sub w' since proper e =
          let m = mapped (walk database.tables role.Exists (own ∷ outers) w) (λ walked. judged_subquery negated None walked.query) sub w' e in
          let gives = means.gives role.Exists (own ∷ outers) w m.given w' proper (settled_in-grows since own around.settled, settled_all-grows since outers around.enclosing) m.begins in
          record {
            grows = gives.grows;
            kept = gives.kept;
            holds = λ N end env outer row v later at.
                let rows = gives.rows (row ∷ env) v (λ N₁ exact fits. sub-row N end env outer row v w w' since gives.grows proper later at N₁ exact fits) (sub-outside w w' since) (λ N₁ exact fits. sub-apart N end env outer row v w w' since gives.grows proper later at N₁ exact fits) in
                let one : sub_holds sub v ≡ is_truth (truth (alone env row)) True =
                ap (λ sub. sub_holds sub v) m.makes ∙ sub_holds-is negated None m.given.query v
                ∙ ap (λ b. is_truth (negated_if negated (decided b)) True) (sym rows) ∙ ap (λ t. is_truth t True) (sym (is (alone env row))) in
                ap (λ b. (meets before.plain v && b) && meets before.outer (union v outer)) (all-push (λ sub. sub_holds sub v) before.subs sub)
                ∙ holds-sub (meets before.plain v) (list_all (λ sub. sub_holds sub v) before.subs) (meets before.outer (union v outer)) (sub_holds sub v)
                ∙ ap (λ b. Holds before v outer && b) one;
          }
      subquery-gives (Some x) negated walk query truth means is before w sub w' since proper e =
          let first = in_turn (x (place_in outers own) w) (λ left w. and_then (walk database.tables role.In (own ∷ outers) w) (in_subquery negated left)) sub w' e in
          let second = in_turn (walk database.tables role.In (own ∷ outers) first.middle) (in_subquery negated first.value) sub w' first.ended in
          let last = in_subquery-done negated first.value second.value second.middle sub w' second.ended in
          let left = is.1.gives (place_in outers own) w first.value first.middle proper (settled-at (place_in outers own) refl refl since) first.begun in
          let on = grows-trans since left.grows in
          let fine = left.grows.proper proper in
          let gives : QueryGives database role.In (own ∷ outers) query first.middle second.value w' =
          subst (λ v. QueryGives database role.In (own ∷ outers) query first.middle second.value v) last.1
          (means.gives role.In (own ∷ outers) first.middle second.value second.middle fine (settled_in-grows on own around.settled, settled_all-grows on outers around.enclosing) second.begun) in
          record {
            grows = grows-trans left.grows gives.grows;
            kept = gives.kept ∙ left.plain refl;
            holds = λ N end env outer row v later at.
                let stands : Stands N (place_in outers own) first.middle.outer (alone env row) v first.middle.aggs =
                record { own = at.shown; near = λ reaches _. absurd (true≢false (sym reaches)); grouped = tt } in
                let value = left.means N (fits-grows N at.fits (grows-trans gives.grows later)) first.middle.aggs (begins-itself first.middle.aggs) (alone env row) v stands in
                let rows = gives.rows (row ∷ env) v (λ N₁ exact fits. sub-row N end env outer row v first.middle w' on gives.grows fine later at N₁ exact fits) (sub-outside first.middle w' on) (λ N₁ exact fits. sub-apart N end env outer row v first.middle w' on gives.grows fine later at N₁ exact fits) in
                let one : sub_holds sub v ≡ is_truth (truth (alone env row)) True =
                ap (λ sub. sub_holds sub v) last.0 ∙ sub_holds-is negated (Some first.value.scalar) second.value.query v
                ∙ ap₂ (λ left rows. is_truth (negated_if negated (is_one_of left (map first_column rows))) True) (sym value) (sym rows) ∙ ap (λ t. is_truth t True) (sym (is.2 (alone env row))) in
                ap (λ b. (meets before.plain v && b) && meets before.outer (union v outer)) (all-push (λ sub. sub_holds sub v) before.subs sub)
                ∙ holds-sub (meets before.plain v) (list_all (λ sub. sub_holds sub v) before.subs) (meets before.outer (union v outer)) (sub_holds sub v)
                ∙ ap (λ b. Holds before v outer && b) one;
          }

      -- a conjunct without a subquery
      condition-gives : (c : Conjunct) (truth : Group → Truth) → TestMeans c.test truth → (before : Conjuncts) (w : Walk) (after : Conjuncts) (w' : Walk) → Grows wf w → Proper w.numbers
          → condition_walk (where_place around_here c.nested) c.test before w ≡ done after w' → ConjunctGives before after (λ env row. is_truth (truth (alone env row)) True) w w'
      unfolding condition_walk forget_outer
      condition-gives c truth means before w after w' since proper e =
          let place = where_place around_here c.nested in
          let start = with_outer false w in
          let begun = grows-same {w = w} {w' = start} refl (le_refl w.references) refl in
          let turn = in_turn (c.test place start) (λ c w. done (with_condition before c w.outer) w) after w' e in
          let gives = means.gives place start turn.value turn.middle proper (settled-at place refl refl (grows-trans since begun)) turn.begun in
          subst (λ v. ConjunctGives before after (λ env row. is_truth (truth (alone env row)) True) w v) (done_walk turn.ended)
          (subst (λ k. ConjunctGives before k (λ env row. is_truth (truth (alone env row)) True) w turn.middle) (done_value turn.ended)
          (record {
            grows = grows-trans begun gives.grows;
            kept = gives.plain refl;
            holds = condition-holds turn.middle.outer c.nested before turn.value truth start turn.middle gives refl;
          }))

      -- any conjunct
      conjunct-gives : (c : Conjunct) (truth : Group → Truth) → ConjunctMeans database c truth → (before : Conjuncts) (w : Walk) (after : Conjuncts) (w' : Walk) → Grows wf w → Proper w.numbers
          → conjunct_walk around_here before c w ≡ done after w' → ConjunctGives before after (λ env row. is_truth (truth (alone env row)) True) w w'
      conjunct-gives c truth means before w after w' since proper e = by c.subquery means.subquery e
        where
          by : (s : Option Subquery) → SubqueryIf database s truth → conjunct_by around_here before c.nested c.test s w ≡ done after w' → ConjunctGives before after (λ env row. is_truth (truth (alone env row)) True) w w'
          by None none e = condition-gives c truth means.test before w after w' since proper e
          by (Some sub) sub_means e =
              let m = mapped (subquery_walk around_here sub.left sub.negated sub.query w) (with_subquery before) after w' e in
              subst (λ k. ConjunctGives before k (λ env row. is_truth (truth (alone env row)) True) w w') (sym m.makes)
              (subquery-gives sub.left sub.negated sub.query sub_means.query truth sub_means.walk sub_means.left before w m.given w' since proper m.begins)

      -- all of WHERE
      where-turns : {cs : List Conjunct} {truths : List (Group → Truth)} → Related (ConjunctMeans database) cs truths → {before after : Conjuncts} {w w' : Walk} → Grows wf w → Proper w.numbers
          → Turns (conjunct_walk around_here) before cs w after w' → ConjunctGives before after (λ env row. list_all (λ t. is_truth (t (alone env row)) True) truths) w w'
      where-turns related.none {before = before} {w = w} since proper turned =
          record { grows = grows-refl w; kept = refl; holds = λ N end env outer row m later at. sym (and_true (Holds before m outer)) }
      where-turns (related.more {x = c} {y = truth} {ys = truths} means others) {before = before} {after = last} {w = w} {w' = w'} since proper (again {more = more} {middle = middle} walked turns) =
          let first = conjunct-gives c truth means before w more middle since proper walked in
          let rest = where-turns others (grows-trans since first.grows) (first.grows.proper proper) turns in
          record {
            grows = grows-trans first.grows rest.grows;
            kept = rest.kept ∙ first.kept;
            holds = λ N end env outer row m later at.
                rest.holds N end env outer row m later at
                ∙ ap (λ b. b && list_all (λ t. is_truth (t (alone env row)) True) truths) (first.holds N end env outer row m (grows-trans rest.grows later) at)
                ∙ and_assoc (Holds before m outer) (is_truth (truth (alone env row)) True) (list_all (λ t. is_truth (t (alone env row)) True) truths);
          }

      pub where-gives : (condition : Option Condition) (truth : Option (Group → Truth)) → CondIf database condition truth → (w : Walk) (after : Conjuncts) (w' : Walk) → Grows wf w → Proper w.numbers
          → where_walk around_here condition w ≡ done after w' → ConjunctGives no_conjuncts after (λ env row. passes truth (alone env row)) w w'
      where-gives None None none w after w' since proper e =
          subst (λ k. ConjunctGives no_conjuncts k (λ env row. true) w w') (done_value e)
          (subst (λ v. ConjunctGives no_conjuncts no_conjuncts (λ env row. true) w v) (done_walk e)
          (record { grows = grows-refl w; kept = refl; holds = λ N end env outer row m later at. refl }))
      where-gives None (Some truth) none w after w' since proper e = absurd none
      where-gives (Some condition) None none w after w' since proper e = absurd none
      where-gives (Some condition) (Some truth) means w after w' since proper e =
          let all = where-turns means.conjuncts since proper (over-turns (conjunct_walk around_here) no_conjuncts condition.conjuncts w after w' e) in
          record {
            grows = all.grows;
            kept = all.kept;
            holds = λ N end env outer row m later at. all.holds N end env outer row m later at ∙ ap (λ b. Holds no_conjuncts m outer && b) (sym (means.splits (alone env row)));
          }
