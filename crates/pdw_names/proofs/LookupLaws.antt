-- Column references: the column that the walk meets has the value that the names mean.
use Rattle.std.proofs.Common.{◌≡◌, ℕ, Bool, true, false, not, cond, ◌&&◌, List, [], ◌∷◌, ◌++◌, filter, Option, Some, None, position, refl, sym, ap, ap₂, subst, ◌∙◌, bytes_eq}
use Rattle.pdw_syntax.specs.declared.expr.ColRef.{ColRef}
use Rattle.pdw_base.specs.Schema.{Env}
use Rattle.pdw_base.specs.declared.schema.ColId.{ColId}
use Rattle.pdw_base.specs.declared.value.Value.{Value}
use Rattle.pdw_expr.specs.declared.agg.Agg.{Agg}
use Rattle.pdw_names.proofs.Relations.{Allowed, Fits, Grows, NearShows, Numbering, Owns, Settled, SettledAll, SettledAt, SettledIn, Shows, Source, Stands, none, more, own, near}
use Rattle.pdw_names.proofs.WalkLaws.{Numbers, all-right, grows-trans, mapped, meet_outer-done, meet_outer-grows, not-false, number_of-done, refuse_if-then, refused-done, settled_all-grows, turn}
use Rattle.pdw_semantics.specs.Environment as named
use Rattle.pdw_semantics.specs.Environment.{Environment, Group, environment, first_row, first_value, looked_up}
use Rattle.pdw_semantics.specs.declared.labels.Cell.{Cell}
use Rattle.pdw_walk.specs.Lookup.{Place, Scope, column, fits, found_of, has_alias, is_key, near_column, near_match, own_column, own_match, reached, use_column, written}
use Rattle.pdw_walk.specs.Slot.{same_slot}
use Rattle.pdw_walk.specs.Walk.{Walk, done, meet_outer, number_of}
use Rattle.pdw_walk.specs.declared.entry.Entry.{Entry}
use Rattle.pdw_walk.specs.declared.entry.Met.{Met}
use Rattle.pdw_walk.specs.declared.entry.Slot.{Slot}
use Rattle.pdw_walk.specs.declared.fault.JudgeFault.TheVariants.{NotGrouped}

-- ---- entries and cells that a reference fits

has_alias-same : (alias : Option (List ℕ)) (entry : Entry) (cell : Cell) → entry.alias ≡ cell.alias → has_alias alias entry ≡ named.has_alias alias cell
has_alias-same None entry cell same = refl
has_alias-same (Some alias) entry cell same = ap (bytes_eq alias) same

fits-same : (ref : ColRef) (entry : Entry) (cell : Cell) → entry.alias ≡ cell.alias → entry.column ≡ cell.column → fits ref entry ≡ named.fits ref cell
fits-same ref entry cell alias column = ap₂ (λ a b. a && b) (ap (bytes_eq ref.column) column) (has_alias-same ref.alias entry cell alias)

module _ {N : Numbering} {m : Env} {P : Slot → Type 0} where
  kept-shown : (b : Bool) (entry : Entry) (cell : Cell) {entries : List Entry} {cells : List Cell} → entry.alias ≡ cell.alias → entry.column ≡ cell.column
      → ((c : ColId) → P entry.slot → N.number_of entry.slot ≡ Some c → cell.value ≡ m c)
      → Shows N m P entries cells → Shows N m P (cond b (entry ∷ entries) entries) (cond b (cell ∷ cells) cells)
  kept-shown true entry cell alias column value rest = more alias column value rest
  kept-shown false entry cell alias column value rest = rest

  -- the columns that a reference fits are shown by the cells that it fits
  pub shows-filter : (ref : ColRef) {entries : List Entry} {cells : List Cell} → Shows N m P entries cells → Shows N m P (filter (fits ref) entries) (filter (named.fits ref) cells)
  shows-filter ref none = none
  shows-filter ref (more {entry = entry} {cell = cell} {entries = entries} {cells = cells} alias column value rest) =
      subst (λ b. Shows N m P (cond b (entry ∷ filter (fits ref) entries) (filter (fits ref) entries)) (cond (named.fits ref cell) (cell ∷ filter (named.fits ref) cells) (filter (named.fits ref) cells)))
      (sym (fits-same ref entry cell alias column))
      (kept-shown (named.fits ref cell) entry cell alias column value (shows-filter ref rest))

  first-none : (otherwise : Value) {entries : List Entry} {cells : List Cell} → Shows N m P entries cells → entries ≡ [] → first_value otherwise cells ≡ otherwise
  first-none otherwise none empty = refl
  first-none otherwise (more alias column value rest) empty = absurd cc

  first-one : (otherwise : Value) (entry : Entry) (c : ColId) {entries : List Entry} {cells : List Cell} → Shows N m P entries cells → entries ≡ entry ∷ []
      → P entry.slot → N.number_of entry.slot ≡ Some c → first_value otherwise cells ≡ m c
  first-one otherwise entry c none single allowed number = absurd cc
  first-one otherwise entry c (more {entry = here} alias column value rest) single allowed number =
      let same : entry ≡ here = sym (ap (head here) single) in
      value c (subst (λ (e : Entry). P e.slot) same allowed) (subst (λ (e : Entry). N.number_of e.slot ≡ Some c) same number)
    where
      head : Entry → List Entry → Entry
      head other [] = other
      head other (e ∷ es) = e

  -- a row without the column leaves the look-up to the enclosing rows, and one with it ends it
  pub looked_up-none : (ref : ColRef) (outers : Environment) {entries : List Entry} {row : named.Scope} → Shows N m P entries row → filter (fits ref) entries ≡ []
      → looked_up ref (row ∷ outers) ≡ looked_up ref outers
  looked_up-none ref outers shows empty = first-none (looked_up ref outers) (shows-filter ref shows) empty

  pub looked_up-one : (ref : ColRef) (outers : Environment) (entry : Entry) (c : ColId) {entries : List Entry} {row : named.Scope} → Shows N m P entries row → filter (fits ref) entries ≡ entry ∷ []
      → P entry.slot → N.number_of entry.slot ≡ Some c → looked_up ref (row ∷ outers) ≡ m c
  looked_up-one ref outers entry c shows single allowed number = first-one (looked_up ref outers) entry c (shows-filter ref shows) single allowed number

-- what a filter keeps stands in the list
pub filter-member : {X : Type 0} (p : X → Bool) (xs : List X) (x : X) (rest : List X) → filter p xs ≡ x ∷ rest → (before : List X) × (after : List X) × (xs ≡ before ++ x ∷ after)
filter-member p [] x rest same = absurd cc
filter-member {X} p (y ∷ ys) x rest same = by (p y) (λ h. filter-member p ys x rest h) same
  where
    by : (b : Bool) → (filter p ys ≡ x ∷ rest → (before : List X) × (after : List X) × (ys ≡ before ++ x ∷ after)) → cond b (y ∷ filter p ys) (filter p ys) ≡ x ∷ rest
        → (before : List X) × (after : List X) × (y ∷ ys ≡ before ++ x ∷ after)
    by true later same = ([], ys, ap (λ z. z ∷ ys) (ap (head y) same))
      where
        head : X → List X → X
        head other [] = other
        head other (e ∷ es) = e
    by false later same = let r = later same in (y ∷ r.0, r.1, ap (λ zs. y ∷ zs) r.2)

-- ---- steps

-- a column is used
pub record Uses (entry : Entry) (w : Walk) (met : Met) (w' : Walk) : Type 0 where
  pub kind : met.kind ≡ entry.kind
  pub slot : met.column.slot ≡ entry.slot
  pub numbers : Numbers entry.slot w met.column.number w'

pub use_column-done : (entry : Entry) (w : Walk) (met : Met) (w' : Walk) → Settled w.numbers entry.slot → use_column entry w ≡ done met w' → Uses entry w met w'
unfolding use_column
use_column-done entry w met w' settled same =
    let made = mapped (number_of entry.slot w) _ met w' same in
    record {
      kind = ap (λ (m : Met). m.kind) made.makes;
      slot = ap (λ (m : Met). m.column.slot) made.makes;
      numbers = subst (λ c. Numbers entry.slot w c w') (sym (ap (λ (m : Met). m.column.number) made.makes)) (number_of-done entry.slot w made.given w' settled made.begins);
    }

pub own_column-done : (keys : Option (List Slot)) (name : List ℕ) (entry : Entry) (w : Walk) (met : Met) (w' : Walk) → own_column keys name entry w ≡ done met w'
    → Allowed keys entry.slot × (use_column entry w ≡ done met w')
own_column-done None name entry w met w' same = (tt, same)
own_column-done (Some keys) name entry w met w' same =
    let r = refuse_if-then (not (is_key keys entry.slot)) (NotGrouped name) (use_column entry) w met w' same in
    (not-false (is_key keys entry.slot) r.0, r.1)

-- ---- the column that a reference means

-- where a column comes from: the query's own scope, or the innermost enclosing one, which is then known to be met
pub data Comes (place : Place) (w' : Walk) : Slot → Type 0 where
  from_own : (before after : List Entry) (entry : Entry) → place.own ≡ before ++ entry ∷ after → Allowed place.keys entry.slot → Comes place w' entry.slot
  from_near : (outer : Scope) (scopes : List Scope) (before after : List Entry) (entry : Entry) → place.outers ≡ outer ∷ scopes → outer ≡ before ++ entry ∷ after
      → place.reaches ≡ true → w'.outer ≡ true → Comes place w' entry.slot

pub record ColumnGives (place : Place) (ref : ColRef) (w : Walk) (met : Met) (w' : Walk) : Type 0 where
  pub grows : Grows w w'
  pub kept : w'.aggs ≡ w.aggs
  pub outer : w.outer ≡ true → w'.outer ≡ true
  pub number : position (same_slot met.column.slot) w'.numbers ≡ Some met.column.number.0
  pub source : Source place w w' met.column.slot
  pub comes : Comes place w' met.column.slot
  pub means : (N : Numbering) → Fits N w'.numbers → (aggs : List Agg) (group : Group) (m : Env) → Stands N place w'.outer group m aggs → looked_up ref (environment group) ≡ m met.column.number

uses-number : {entry : Entry} {w : Walk} {met : Met} {w' : Walk} → Uses entry w met w' → position (same_slot met.column.slot) w'.numbers ≡ Some met.column.number.0
uses-number {w' = w'} uses = ap (λ s. position (same_slot s) w'.numbers) uses.slot ∙ uses.numbers.number

uses-fits : (N : Numbering) {entry : Entry} {w : Walk} {met : Met} {w' : Walk} → Fits N w'.numbers → Uses entry w met w' → N.number_of entry.slot ≡ Some met.column.number
uses-fits N {entry} {met = met} fits uses = fits entry.slot met.column.number.0 uses.numbers.number

owns-one : (N : Numbering) (m : Env) (keys : Option (List Slot)) (entries : List Entry) (ref : ColRef) (entry : Entry) (c : ColId) (rows : List named.Scope) (outers : Environment)
    → Owns N m keys entries rows → filter (fits ref) entries ≡ entry ∷ [] → Allowed keys entry.slot → N.number_of entry.slot ≡ Some c → looked_up ref (first_row rows ∷ outers) ≡ m c
owns-one N m keys entries ref entry c [] outers owns single allowed number = absurd (owns entry.slot allowed)
owns-one N m keys entries ref entry c (row ∷ rows) outers owns single allowed number = looked_up-one ref outers entry c owns single allowed number

owns-none : (N : Numbering) (m : Env) (keys : Option (List Slot)) (entries : List Entry) (ref : ColRef) (rows : List named.Scope) (outers : Environment)
    → Owns N m keys entries rows → filter (fits ref) entries ≡ [] → looked_up ref (first_row rows ∷ outers) ≡ looked_up ref outers
owns-none N m keys entries ref [] outers owns empty = refl
owns-none N m keys entries ref (row ∷ rows) outers owns empty = looked_up-none ref outers owns empty

near-one : (N : Numbering) (m : Env) (outer : Scope) (scopes : List Scope) (ref : ColRef) (entry : Entry) (c : ColId) (env : Environment)
    → NearShows N m (outer ∷ scopes) env → filter (fits ref) outer ≡ entry ∷ [] → N.number_of entry.slot ≡ Some c → looked_up ref env ≡ m c
near-one N m outer scopes ref entry c [] shows single number = absurd shows
near-one N m outer scopes ref entry c (row ∷ rows) shows single number = looked_up-one ref rows entry c shows single tt number

settled-member : (numbers : List Slot) (scope : Scope) (ref : ColRef) (entry : Entry) (rest : List Entry) → SettledIn numbers scope → filter (fits ref) scope ≡ entry ∷ rest → Settled numbers entry.slot
settled-member numbers scope ref entry rest settled single =
    let at = filter-member (fits ref) scope entry rest single in
    (all-right (λ (e : Entry). Settled numbers e.slot) at.0 (entry ∷ at.1) (subst (SettledIn numbers) at.2 settled)).0

-- ---- its own scope has the column

own-gives : (place : Place) (ref : ColRef) (entry : Entry) (w : Walk) (met : Met) (w' : Walk) → SettledAt w.numbers place → filter (fits ref) place.own ≡ entry ∷ []
    → own_column place.keys (written ref) entry w ≡ done met w' → ColumnGives place ref w met w'
own-gives place ref entry w met w' settled single same =
    let r = own_column-done place.keys (written ref) entry w met w' same in
    let uses = use_column-done entry w met w' (settled-member w.numbers place.own ref entry [] settled.0 single) r.1 in
    let at = filter-member (fits ref) place.own entry [] single in
    record {
      grows = uses.numbers.grows;
      kept = sym (ap (λ (v : Walk). v.aggs) uses.numbers.only);
      outer = λ met. sym (ap (λ (v : Walk). v.outer) uses.numbers.only) ∙ met;
      number = uses-number uses;
      source = subst (Source place w w') (sym uses.slot) (own at.0 at.1 entry at.2);
      comes = subst (Comes place w') (sym uses.slot) (from_own at.0 at.1 entry at.2 r.0);
      means = λ N fit aggs group m stands.
          owns-one N m place.keys place.own ref entry met.column.number group.rows group.outers stands.own single r.0 (uses-fits N fit uses);
    }

-- ---- the enclosing scope has it

reached-gives : (place : Place) (ref : ColRef) (outer : Scope) (scopes : List Scope) (entry : Entry) (w : Walk) (met : Met) (w' : Walk) → SettledAll w.numbers place.outers
    → place.outers ≡ outer ∷ scopes → filter (fits ref) place.own ≡ [] → filter (fits ref) outer ≡ entry ∷ []
    → (reaches : Bool) → place.reaches ≡ reaches → reached reaches ref entry w ≡ done met w' → ColumnGives place ref w met w'
reached-gives place ref outer scopes entry w met w' settled outers empty single false reaches same = refused-done same
reached-gives place ref outer scopes entry w met w' settled outers empty single true reaches same =
    let t = turn (meet_outer w) (λ u. use_column entry) met w' same in
    let walk = meet_outer-done w t.given t.between t.begins in
    let grows = meet_outer-grows w t.given t.between t.begins in
    let all = settled_all-grows grows place.outers settled in
    let here : SettledIn (t.between).numbers outer = (subst (SettledAll (t.between).numbers) outers all).0 in
    let uses = use_column-done entry t.between met w' (settled-member (t.between).numbers outer ref entry [] here single) t.goes_on in
    let at = filter-member (fits ref) outer entry [] single in
    let met_it : w'.outer ≡ true = sym (ap (λ (v : Walk). v.outer) uses.numbers.only) ∙ sym (ap (λ (v : Walk). v.outer) walk) in
    record {
      grows = grows-trans grows uses.numbers.grows;
      kept = sym (ap (λ (v : Walk). v.aggs) uses.numbers.only) ∙ sym (ap (λ (v : Walk). v.aggs) walk);
      outer = λ h. met_it;
      number = uses-number uses;
      source = near reaches;
      comes = subst (Comes place w') (sym uses.slot) (from_near outer scopes at.0 at.1 entry outers at.2 reaches met_it);
      means = λ N fit aggs group m stands.
          owns-none N m place.keys place.own ref group.rows group.outers stands.own empty
          ∙ near-one N m outer scopes ref entry met.column.number group.outers (subst (λ os. NearShows N m os group.outers) outers (stands.near reaches met_it)) single (uses-fits N fit uses);
    }

near-gives : (place : Place) (ref : ColRef) (w : Walk) (met : Met) (w' : Walk) → SettledAll w.numbers place.outers → filter (fits ref) place.own ≡ []
    → (scopes : List Scope) → place.outers ≡ scopes → near_column place.reaches ref scopes w ≡ done met w' → ColumnGives place ref w met w'
near-gives place ref w met w' settled empty [] outers same = refused-done same
near-gives place ref w met w' settled empty (outer ∷ scopes) outers same = by (filter (fits ref) outer) refl same
  where
    by : (entries : List Entry) → filter (fits ref) outer ≡ entries → near_match place.reaches ref scopes (found_of entries) w ≡ done met w' → ColumnGives place ref w met w'
    by [] found same = refused-done same
    by (entry ∷ []) found same = reached-gives place ref outer scopes entry w met w' settled outers empty found place.reaches refl same
    by (entry ∷ other ∷ others) found same = refused-done same

-- ---- any column

pub column-gives : (place : Place) (ref : ColRef) (w : Walk) (met : Met) (w' : Walk) → SettledAt w.numbers place → column place ref w ≡ done met w' → ColumnGives place ref w met w'
unfolding column
column-gives place ref w met w' settled same = by (filter (fits ref) place.own) refl same
  where
    by : (entries : List Entry) → filter (fits ref) place.own ≡ entries → own_match place ref (found_of entries) w ≡ done met w' → ColumnGives place ref w met w'
    by [] found same = near-gives place ref w met w' settled.1 found place.outers refl same
    by (entry ∷ []) found same = own-gives place ref entry w met w' settled found same
    by (entry ∷ other ∷ others) found same = refused-done same
