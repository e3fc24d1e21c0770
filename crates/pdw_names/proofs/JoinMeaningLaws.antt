-- Joined tables: their rows, named and numbered.
use Rattle.std.proofs.Common.{◌≡◌, Bool, true, false, List, [], ◌∷◌, ◌++◌, map, Option, refl, sym, ap, ap₂, subst, subst₂, append_assoc, ◌∙◌, arith}
use Rattle.std.specs.List.{AllByRecursion}
use Rattle.pdw_syntax.specs.declared.query.JoinWord.{JoinWord}
use Rattle.pdw_syntax.specs.declared.query.JoinWord.TheVariants as word
use Rattle.pdw_base.specs.Schema.{Env}
use Rattle.pdw_base.specs.declared.schema.ColId.{ColId}
use Rattle.pdw_base.specs.declared.truth.Truth.{Truth}
use Rattle.pdw_base.specs.declared.value.Value.{Value}
use Rattle.pdw_base.specs.declared.value.Value.TheVariants.{Null, Int, Text, Wide}
use Rattle.pdw_catalog.specs.Database.{Database}
use Rattle.pdw_expr.specs.Env.{or_else, union}
use Rattle.pdw_expr.specs.Rows.{itself, meets}
use Rattle.pdw_expr.specs.declared.cond.Cond.{Cond}
use Rattle.pdw_walk.proofs.Outcomes.{in_turn, done_value, done_walk}
use Rattle.pdw_form.proofs.Related.{Related, related-inner, related-left, related-full}
use Rattle.pdw_names.proofs.Relations.{CondIf, ElementGives, ElementMeans, Every, Exact, Fits, Grows, JoinMeans, Numbering, RowOf, Settled, Shows, none, more, Within}
use Rattle.pdw_names.proofs.TestedLaws.{TestedGives, tested_gives}
use Rattle.pdw_names.proofs.WalkLaws.{all-append, all-map, begins-itself, fits-append, grows-length, grows-trans, settled_all-grows, settled_in-grows}
use Rattle.pdw_semantics.specs.Conds.{passes}
use Rattle.pdw_semantics.specs.Environment.{Environment, Group, Scope, all_null, alone}
use Rattle.pdw_semantics.specs.Froms.{ElementMeaning, JoinMeaning, beside, joined_scopes, label_of, turned, without_left, without_right}
use Rattle.pdw_semantics.specs.Froms as meaning
use Rattle.pdw_form.specs.Numbered.{NumberedMeaning, from_rows, from_step, joined_rows, query_step, sub_step}
use Rattle.pdw_semantics.specs.declared.labels.Label.{Label}
use Rattle.pdw_walk.specs.Conds.{Condition, tested}
use Rattle.pdw_walk.specs.Froms.{ElementWalk, finished, finished_step, joined, joined_walk, on_place}
use Rattle.pdw_walk.specs.Lookup as lookup
use Rattle.pdw_walk.specs.Walk.{Walk, ◌>>=◌, pure}
use Rattle.pdw_walk.specs.declared.entry.Draft.{Draft}
use Rattle.pdw_walk.specs.declared.entry.Draft.TheOpen.{Draft-F}
use Rattle.pdw_walk.specs.declared.entry.Draft.TheFolds.{fold-roll-Draft}
use Rattle.pdw_walk.specs.declared.entry.Draft.TheVariants as draft
use Rattle.pdw_walk.specs.declared.entry.Element.{Element}
use Rattle.pdw_walk.specs.declared.entry.Entry.{Entry}
use Rattle.pdw_walk.specs.declared.entry.Slot.{Slot}
use Rattle.pdw_walk.specs.declared.entry.Slot.TheVariants.{Base, Made}
use Rattle.pdw_form.specs.declared.judged.JFrom.{JFrom}
use Rattle.pdw_form.specs.declared.judged.JFrom.TheOpen.{JFrom-F}
use Rattle.pdw_form.specs.declared.judged.JFrom.TheFolds.{fold-roll-JFrom}
use Rattle.pdw_form.specs.declared.judged.JFrom.TheVariants as from

pub finished_join : (numbers : List Slot) (word : JoinWord) (left right : Draft) (on : List Cond) → finished numbers (draft.Join word left right on) ≡ from.Join word (finished numbers left) (finished numbers right) on
finished_join numbers word left right on = ap (finished numbers) (sym (draft.rolls-Join word left right on)) ∙ fold-roll-Draft JFrom (finished_step numbers) (Draft-F.Join word left right on)

-- ---- ranges

pub ranges_apart : (a b c : Walk) (slot : Slot) → Within a b slot → Within b c slot → ⊥
ranges_apart a b c (Base reference column) first second = absurd (omega (arith, first.1, second.0))
ranges_apart a b c (Made n) first second = absurd (omega (arith, first.1, second.0))

pub range_begins : {a b : Walk} (c : Walk) → Grows a b → (slot : Slot) → Within b c slot → Within a c slot
range_begins c grows (Base reference column) inside = (omega (arith, grows.references, inside.0), inside.1)
range_begins c grows (Made n) inside = (omega (arith, grows-length grows, inside.0), inside.1)

pub range_ends : (a : Walk) {b c : Walk} → Grows b c → (slot : Slot) → Within a b slot → Within a c slot
range_ends a grows (Base reference column) inside = (inside.0, omega (arith, grows.references, inside.1))
range_ends a grows (Made n) inside = (inside.0, omega (arith, grows-length grows, inside.1))

-- ---- rows side by side

module _ (N : Numbering) where
  pub shows_append : {m : Env} {first second : List Entry} {row other : Scope} → Shows N m Every first row → Shows N m Every second other → Shows N m Every (first ++ second) (row ++ other)
  shows_append none others = others
  shows_append (more alias column value rest) others = more alias column value (shows_append rest others)

  -- the same of another numbered row
  pub shows_of : (Q : Slot → Type 0) (m m' : Env) → ((c : ColId) → Q (N.slot_at c) → m c ≡ m' c) → {entries : List Entry} {row : Scope}
      → AllByRecursion (λ entry. Q entry.slot) entries → Shows N m Every entries row → Shows N m' Every entries row
  shows_of Q m m' same all none = none
  shows_of Q m m' same all (more {entry = entry} alias column value rest) =
      more alias column (λ c every given. value c every given ∙ same c (subst Q (sym (N.forth entry.slot c given)) all.0)) (shows_of Q m m' same all.1 rest)

  -- a row of NULLs shows what has nothing of its columns
  pub shows_nulls : (Q : Slot → Type 0) (m : Env) → ((c : ColId) → Q (N.slot_at c) → m c ≡ Null) → (entries : List Entry)
      → AllByRecursion (λ entry. Q entry.slot) entries → Shows N m Every entries (all_null (map (λ entry. label_of entry.alias entry.column) entries))
  shows_nulls Q m nothing [] all = none
  shows_nulls Q m nothing (entry ∷ entries) all =
      more refl refl (λ c every given. sym (nothing c (subst Q (sym (N.forth entry.slot c given)) all.0))) (shows_nulls Q m nothing entries all.1)

or_else_null : (a : Value) → or_else a Null ≡ a
or_else_null Null = refl
or_else_null (Int n) = refl
or_else_null (Text t) = refl
or_else_null (Wide n) = refl

module _ (database : Database) where
  pub rows_of_join : (word : JoinWord) (left right : JFrom) (on : List Cond) → from_rows database (from.Join word left right on) ≡ joined_rows word on (from_rows database left) (from_rows database right)
  unfolding from_rows
  rows_of_join word left right on = ap (from_rows database) (sym (from.rolls-Join word left right on)) ∙ fold-roll-JFrom (List Env) (Env → Bool) NumberedMeaning (from_step database) (sub_step database) (query_step database) (JFrom-F.Join word left right on)

  -- ---- rows of two sides

  module _ (N : Numbering) (w0 w w1 w' : Walk) (first : Grows w0 w) (second : Grows w w1) (third : Grows w1 w') (les res : List Entry)
      (left_in : AllByRecursion (λ entry. Within w0 w entry.slot) les) (right_in : AllByRecursion (λ entry. Within w w1 entry.slot) res) where
    abbrev Left : Scope → Env → Type 0
    Left = RowOf database N w0 w les

    abbrev Right : Scope → Env → Type 0
    Right = RowOf database N w w1 res

    abbrev Out : Scope → Env → Type 0
    Out = RowOf database N w0 w' (les ++ res)

    left_free : (row : Scope) (m : Env) → Left row m → (c : ColId) → Within w w1 (N.slot_at c) → m c ≡ Null
    left_free row m at c inside = at.1 c (λ other. ranges_apart w0 w w1 (N.slot_at c) other inside)

    right_free : (row : Scope) (m : Env) → Right row m → (c : ColId) → Within w0 w (N.slot_at c) → m c ≡ Null
    right_free row m at c inside = at.1 c (λ other. ranges_apart w0 w w1 (N.slot_at c) inside other)

    left_out : (row : Scope) (m : Env) → Left row m → (c : ColId) → (Within w0 w' (N.slot_at c) → ⊥) → m c ≡ Null
    left_out row m at c out = at.1 c (λ inside. out (range_ends w0 (grows-trans second third) (N.slot_at c) inside))

    right_out : (row : Scope) (m : Env) → Right row m → (c : ColId) → (Within w0 w' (N.slot_at c) → ⊥) → m c ≡ Null
    right_out row m at c out = at.1 c (λ inside. out (range_begins w' first (N.slot_at c) (range_ends w third (N.slot_at c) inside)))

    both_shown : (l r m : Env) (row other : Scope) → Left row l → Right other r
        → ((c : ColId) → r c ≡ Null → l c ≡ m c) → ((c : ColId) → l c ≡ Null → r c ≡ m c) → ((c : ColId) → l c ≡ Null → r c ≡ Null → m c ≡ Null) → Out (row ++ other) m
    both_shown l r m row other left right of_left of_right of_none = (
      shows_append N (shows_of N (Within w0 w) l m (λ c inside. of_left c (right_free other r right c inside)) left_in left.0)
          (shows_of N (Within w w1) r m (λ c inside. of_right c (left_free row l left c inside)) right_in right.0),
      λ c out. of_none c (left_out row l left c out) (right_out other r right c out),
    )

    pub beside_rows : (row : Scope) (l : Env) (other : Scope) (r : Env) → Left row l → Right other r → Out (beside row other) (union l r)
    beside_rows row l other r left right = both_shown l r (union l r) row other left right
        (λ c none. sym (or_else_null (l c)) ∙ ap (or_else (l c)) (sym none)) (λ c none. ap (λ v. or_else v (r c)) (sym none)) (λ c none nothing. ap₂ or_else none nothing)

    turned_rows : (other : Scope) (r : Env) (row : Scope) (l : Env) → Right other r → Left row l → Out (turned other row) (union r l)
    turned_rows other r row l right left = both_shown l r (union r l) row other left right
        (λ c none. ap (λ v. or_else v (l c)) (sym none)) (λ c none. sym (or_else_null (r c)) ∙ ap (or_else (r c)) (sym none)) (λ c none nothing. ap₂ or_else nothing none)

    left_alone : (labels : List Label) → map (λ entry. label_of entry.alias entry.column) res ≡ labels → (row : Scope) (l : Env) → Left row l → Out (without_right labels row) (itself l)
    left_alone labels same row l left = subst (λ labels. Out (without_right labels row) (itself l)) same
        (shows_append N left.0 (shows_nulls N (Within w w1) l (left_free row l left) res right_in), left_out row l left)

    right_alone : (labels : List Label) → map (λ entry. label_of entry.alias entry.column) les ≡ labels → (row : Scope) (r : Env) → Right row r → Out (without_left labels row) (itself r)
    right_alone labels same row r right = subst (λ labels. Out (without_left labels row) (itself r)) same
        (shows_append N (shows_nulls N (Within w0 w) r (right_free row r right) les left_in) right.0, right_out row r right)

    -- the rows of the join, where ON holds on both sides alike
    module _ (on : Option (Group → Truth)) (conds : List Cond) (left right : ElementMeaning) (env : Environment)
        (left_labels : map (λ entry. label_of entry.alias entry.column) les ≡ left.labels) (right_labels : map (λ entry. label_of entry.alias entry.column) res ≡ right.labels)
        (same : (row : Scope) (m : Env) → Out row m → passes on (alone env row) ≡ meets conds m) where
      pub join_rows : (word : JoinWord) {ls rs : List Env} → Related Left (left.scopes env) ls → Related Right (right.scopes env) rs → Related Out (joined_scopes word on left right env) (joined_rows word conds ls rs)
      join_rows word.Cross ls rs = related-inner beside union beside_rows (λ row. passes on (alone env row)) (meets conds) same ls rs
      join_rows word.Inner ls rs = related-inner beside union beside_rows (λ row. passes on (alone env row)) (meets conds) same ls rs
      join_rows word.Left ls rs = related-left beside union beside_rows (λ row. passes on (alone env row)) (meets conds) same (without_right right.labels) itself (left_alone right.labels right_labels) ls rs
      join_rows word.Right ls rs = related-left turned union turned_rows (λ row. passes on (alone env row)) (meets conds) same (without_left left.labels) itself (right_alone left.labels left_labels) rs ls
      join_rows word.Full ls rs = related-full beside union beside_rows (λ row. passes on (alone env row)) (meets conds) same
          (without_right right.labels) itself (left_alone right.labels right_labels) (without_left left.labels) itself (right_alone left.labels left_labels) ls rs

  -- ---- what a join gives

  module _ (outers : List lookup.Scope) (before : ElementMeaning) (left : Element) (w0 w : Walk) (before_gives : ElementGives database before w0 left w)
      (after : ElementMeaning) (right : Element) (w1 : Walk) (after_gives : ElementGives database after w right w1)
      (word : JoinWord) (on : Option (Group → Truth)) (conds : List Cond) (w' : Walk) (tests : TestedGives (on_place outers (left.entries ++ right.entries)) on w1 conds w') where
    abbrev whole : Element
    whole = joined word left right conds

    abbrev added : List Slot
    added = (grows-trans after_gives.grows tests.grows).added

    -- the numbers of the query's end, from those after each side
    from_left : (later : List Slot) → w'.numbers ++ later ≡ w.numbers ++ (added ++ later)
    from_left later = ap (λ numbers. numbers ++ later) (grows-trans after_gives.grows tests.grows).numbers ∙ append_assoc w.numbers added later

    from_right : (later : List Slot) → w'.numbers ++ later ≡ w1.numbers ++ ((tests.grows).added ++ later)
    from_right later = ap (λ numbers. numbers ++ later) (tests.grows).numbers ∙ append_assoc w1.numbers (tests.grows).added later

    on_holds : (env : Environment) (N : Numbering) → Fits N w'.numbers → (row : Scope) (m : Env) → RowOf database N w0 w' whole.entries row m → passes on (alone env row) ≡ meets conds m
    on_holds env N fits row m shown = tests.holds N fits w'.aggs (begins-itself w'.aggs) (alone env row) m
        (record { own = shown.0; near = λ reaches met. absurd (let h : false ≡ true = reaches in cc); grouped = tt })

    module _ (env : Environment) (later : List Slot) (N : Numbering) (exact : Exact N (w'.numbers ++ later)) (fits : Fits N (w'.numbers ++ later)) where
      left_rows : Related (RowOf database N w0 w left.entries) (before.scopes env) (from_rows database (finished (w'.numbers ++ later) left.draft))
      left_rows = subst (λ numbers. Related (RowOf database N w0 w left.entries) (before.scopes env) (from_rows database (finished numbers left.draft))) (sym (from_left later))
          (before_gives.rows env (added ++ later) N (subst (Exact N) (from_left later) exact) (subst (Fits N) (from_left later) fits))

      right_rows : Related (RowOf database N w w1 right.entries) (after.scopes env) (from_rows database (finished (w'.numbers ++ later) right.draft))
      right_rows = subst (λ numbers. Related (RowOf database N w w1 right.entries) (after.scopes env) (from_rows database (finished numbers right.draft))) (sym (from_right later))
          (after_gives.rows env ((tests.grows).added ++ later) N (subst (Exact N) (from_right later) exact) (subst (Fits N) (from_right later) fits))

      whole_rows : Related (RowOf database N w0 w' whole.entries) (joined_scopes word on before after env) (from_rows database (finished (w'.numbers ++ later) whole.draft))
      whole_rows =
          subst (λ rows. Related (RowOf database N w0 w' whole.entries) (joined_scopes word on before after env) rows)
          (sym (ap (from_rows database) (finished_join (w'.numbers ++ later) word left.draft right.draft conds)
          ∙ rows_of_join word (finished (w'.numbers ++ later) left.draft) (finished (w'.numbers ++ later) right.draft) conds))
          (join_rows N w0 w w1 w' before_gives.grows after_gives.grows tests.grows left.entries right.entries before_gives.within after_gives.within
          on conds before after env before_gives.labels after_gives.labels (on_holds env N (fits-append N w'.numbers later fits)) word left_rows right_rows)

    labels_append : (first second : List Entry) → map (λ entry. label_of entry.alias entry.column) (first ++ second) ≡ map (λ entry. label_of entry.alias entry.column) first ++ map (λ entry. label_of entry.alias entry.column) second
    labels_append [] second = refl
    labels_append (entry ∷ first) second = ap (λ rest. label_of entry.alias entry.column ∷ rest) (labels_append first second)

    pub join_gives : ElementGives database (meaning.joined word on before after) w0 whole w'
    join_gives = record {
      grows = grows-trans before_gives.grows (grows-trans after_gives.grows tests.grows);
      kept = tests.plain refl ∙ (after_gives.kept ∙ before_gives.kept);
      labels = labels_append left.entries right.entries ∙ ap₂ (λ first second. first ++ second) before_gives.labels after_gives.labels;
      within = all-append (λ (entry : Entry). Within w0 w' entry.slot) left.entries right.entries
          (all-map (λ (entry : Entry). Within w0 w entry.slot) (λ (entry : Entry). Within w0 w' entry.slot) (λ entry inside. range_ends w0 (grows-trans after_gives.grows tests.grows) entry.slot inside) left.entries before_gives.within)
          (all-map (λ (entry : Entry). Within w w1 entry.slot) (λ (entry : Entry). Within w0 w' entry.slot)
          (λ entry inside. range_begins w' before_gives.grows entry.slot (range_ends w tests.grows entry.slot inside)) right.entries after_gives.within);
      settled = settled_in-grows tests.grows (left.entries ++ right.entries)
          (all-append (λ (entry : Entry). Settled w1.numbers entry.slot) left.entries right.entries (settled_in-grows after_gives.grows left.entries before_gives.settled) after_gives.settled);
      rows = whole_rows;
    }

  pub join_means : (right : ElementWalk) (after : ElementMeaning) (word : JoinWord) (on : Option Condition) (truth : Option (Group → Truth))
      → ElementMeans database right after → CondIf database on truth
      → JoinMeans database (λ tables outers left. right tables outers >>= joined_walk outers word on left) (λ before. meaning.joined word truth before after)
  unfolding joined_walk
  join_means right after word on truth right_means on_means = record {
    gives = λ outers before left w0 w e w' proper settled before_gives walked.
        let first = in_turn (right database.tables outers w) (joined_walk outers word on left) e w' walked in
        let after_gives = right_means.gives outers w first.value first.middle proper settled first.begun in
        let place = on_place outers (left.entries ++ (first.value).entries) in
        let second = in_turn (tested place on first.middle) (λ conds. pure (joined word left first.value conds)) e w' first.ended in
        let own = all-append (λ (entry : Entry). Settled (first.middle).numbers entry.slot) left.entries (first.value).entries (settled_in-grows after_gives.grows left.entries before_gives.settled) after_gives.settled in
        let tests = tested_gives database place on truth on_means first.middle second.value second.middle ((after_gives.grows).proper proper) (own, settled_all-grows after_gives.grows outers settled) second.begun in
        subst₂ (λ e w'. ElementGives database (meaning.joined word truth before after) w0 e w') (done_value second.ended) (done_walk second.ended)
        (join_gives outers before left w0 w before_gives after first.value first.middle after_gives word truth second.value second.middle tests);
  }
