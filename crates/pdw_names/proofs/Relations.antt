-- What the law of names and numbers says of each part of a statement: of its walk and of its meaning.
use Rattle.std.proofs.Common.{◌≡◌, ◌≢◌, ℕ, ◌≤◌, ◌<◌, Bool, true, false, List, [], ◌∷◌, ◌++◌, length, map, Option, Some, None, position, slice_index_or, AllPairs}
use Rattle.std.specs.Bool.{⊤}
use Rattle.std.specs.List.{AllByRecursion, list_all}
use Rattle.pdw_base.specs.Schema.{Env}
use Rattle.pdw_base.specs.declared.schema.ColId.{ColId}
use Rattle.pdw_base.specs.declared.truth.Truth.{Truth}
use Rattle.pdw_base.specs.declared.truth.Truth.TheVariants.{True}
use Rattle.pdw_base.specs.declared.value.Value.{Value}
use Rattle.pdw_base.specs.declared.value.Value.TheVariants.{Null}
use Rattle.pdw_catalog.specs.Database.{Database}
use Rattle.pdw_expr.specs.Aggregate.{aggregated}
use Rattle.pdw_expr.specs.Cond.{truth_of}
use Rattle.pdw_expr.specs.Logic.{decided, is_truth, negation}
use Rattle.pdw_expr.specs.Rows.{argument}
use Rattle.pdw_expr.specs.Scalar.{value_of}
use Rattle.pdw_expr.specs.declared.agg.Agg.{Agg}
use Rattle.pdw_expr.specs.declared.cond.Cond.{Cond}
use Rattle.pdw_expr.specs.declared.scalar.Scalar.TheVariants.{Col}
use Rattle.pdw_form.proofs.Related.{Related}
use Rattle.pdw_expr.specs.Predicates.{first_column, has_rows, is_one_of, negated_if}
use Rattle.pdw_semantics.specs.Conds.{QueryMeaning}
use Rattle.pdw_semantics.specs.Environment.{Environment, Group, Scope, environment}
use Rattle.pdw_semantics.specs.Froms.{ElementMeaning, JoinMeaning, label_of}
use Rattle.pdw_form.specs.Numbered.{from_rows, numbered, row_values}
use Rattle.pdw_walk.specs.Conds.{Condition, Conjunct, QueryWalk, Subquery}
use Rattle.pdw_walk.specs.Froms.{ElementWalk, JoinWalk, finished}
use Rattle.pdw_walk.specs.Lookup.{Place, is_key}
use Rattle.pdw_walk.specs.Lookup as lookup
use Rattle.pdw_walk.specs.Slot.{same_slot}
use Rattle.pdw_walk.specs.Walk.{Step, Walk, col_id, done}
use Rattle.pdw_walk.specs.declared.entry.Column.{Column}
use Rattle.pdw_walk.specs.declared.entry.Element.{Element}
use Rattle.pdw_walk.specs.declared.entry.Entry.{Entry}
use Rattle.pdw_walk.specs.declared.entry.Numbered.{Numbered}
use Rattle.pdw_walk.specs.declared.entry.Role.{Role}
use Rattle.pdw_walk.specs.declared.entry.Role.TheVariants as role
use Rattle.pdw_walk.specs.declared.entry.Slot.{Slot}
use Rattle.pdw_walk.specs.declared.entry.Slot.TheVariants.{Base, Made}
use Rattle.pdw_walk.specs.declared.entry.Typed.{Typed}
use Rattle.pdw_walk.specs.declared.entry.Walked.{Walked}
use Rattle.pdw_semantics.specs.declared.labels.Cell.{Cell}

-- ---- numberings

-- which slot each number stands for, and back
pub record Numbering : Type 0 where
  pub slot_at : ColId → Slot
  pub number_of : Slot → Option ColId
  pub back : (c : ColId) → number_of (slot_at c) ≡ Some c
  pub forth : (slot : Slot) (c : ColId) → number_of slot ≡ Some c → slot_at c ≡ slot

-- it has the numbers that were given so far
abbrev pub Fits : Numbering → List Slot → Type 0
Fits N numbers = (slot : Slot) (place : ℕ) → position (same_slot slot) numbers ≡ Some place → N.number_of slot ≡ Some (col_id place)

-- beyond these numbers it has none of tables' columns
pub record Exact (N : Numbering) (numbers : List Slot) : Type 0 where
  pub inside : (i : ℕ) → i < length numbers → N.slot_at (col_id i) ≡ slice_index_or numbers i (Made i)
  pub outside : (i : ℕ) → length numbers ≤ i → N.slot_at (col_id i) ≡ Made i

-- each slot stands once, and what is made stands at its own number
pub record Proper (numbers : List Slot) : Type 0 where
  pub once : (i : ℕ) → i < length numbers → position (same_slot (slice_index_or numbers i (Made i))) numbers ≡ Some i
  pub made : (n place : ℕ) → position (same_slot (Made n)) numbers ≡ Some place → place ≡ n

-- ---- what scopes hold

-- what is made has its number since it was made
abbrev pub Settled : List Slot → Slot → Type 0
Settled numbers (Base reference column) = ⊤
Settled numbers (Made n) = position (same_slot (Made n)) numbers ≡ Some n

abbrev pub SettledIn : List Slot → lookup.Scope → Type 0
SettledIn numbers scope = AllByRecursion (λ entry. Settled numbers entry.slot) scope

abbrev pub SettledAll : List Slot → List lookup.Scope → Type 0
SettledAll numbers scopes = AllByRecursion (SettledIn numbers) scopes

-- the columns that a place sees
abbrev pub SettledAt : List Slot → Place → Type 0
SettledAt numbers place = SettledIn numbers place.own × SettledAll numbers place.outers

-- ---- what a walk adds

-- aggregates that were made in turn, from one number to another
pub record MadeFrom (from to : ℕ) (aggs : List Agg) : Type 0 where
  pub low : AllByRecursion (λ agg. from ≤ agg.out.0) aggs
  pub high : AllByRecursion (λ agg. agg.out.0 < to) aggs
  pub rising : AllPairs (λ a b. a.out.0 < b.out.0) aggs

pub record Grows (w w' : Walk) : Type 0 where
  pub added : List Slot
  pub numbers : w'.numbers ≡ w.numbers ++ added
  pub references : w.references ≤ w'.references
  pub proper : Proper w.numbers → Proper w'.numbers
  pub new_aggs : List Agg
  pub aggs : w'.aggs ≡ w.aggs ++ new_aggs
  pub made : MadeFrom (length w.numbers) (length w'.numbers) new_aggs

-- columns of the table references, and what was made, between two moments of the walk
abbrev pub Within : Walk → Walk → Slot → Type 0
Within from to (Base reference column) = (from.references ≤ reference) × (reference < to.references)
Within from to (Made n) = (length from.numbers ≤ n) × (n < length to.numbers)

-- a row that has nothing else
abbrev pub OnlyIn : Numbering → Walk → Walk → Env → Type 0
OnlyIn N from to m = (c : ColId) → (Within from to (N.slot_at c) → ⊥) → m c ≡ Null

-- ---- rows

abbrev pub Every : Slot → Type 0
Every slot = ⊤

-- a named row shows a numbered one: the values of its columns are those at their numbers, where they have one
pub data Shows (N : Numbering) (m : Env) (P : Slot → Type 0) : List Entry → Scope → Type 0 where
  none : Shows N m P [] []
  more : {entry : Entry} {cell : Cell} {entries : List Entry} {cells : Scope}
      → entry.alias ≡ cell.alias → entry.column ≡ cell.column
      → ((c : ColId) → P entry.slot → N.number_of entry.slot ≡ Some c → cell.value ≡ m c)
      → Shows N m P entries cells → Shows N m P (entry ∷ entries) (cell ∷ cells)

-- the columns that may stand outside an aggregate: all, or the grouping columns
abbrev pub Allowed : Option (List Slot) → Slot → Type 0
Allowed None slot = ⊤
Allowed (Some keys) slot = is_key keys slot ≡ true

-- the first row of a group; of a group without rows no column may be asked
abbrev pub Owns : Numbering → Env → Option (List Slot) → List Entry → List Scope → Type 0
Owns N m keys own [] = (slot : Slot) → Allowed keys slot → ⊥
Owns N m keys own (row ∷ rows) = Shows N m (Allowed keys) own row

-- the row of the innermost enclosing query
abbrev pub NearShows : Numbering → Env → List lookup.Scope → Environment → Type 0
NearShows N m [] env = ⊤
NearShows N m (outer ∷ outers) [] = ⊥
NearShows N m (outer ∷ outers) (row ∷ rows) = Shows N m Every outer row

-- the rows of a group with its aggregates
pub record GroupOf (N : Numbering) (place : Place) (group : Group) (m : Env) (aggs : List Agg) : Type 0 where
  pub unreached : place.reaches ≡ false
  pub maps : List Env
  pub rows : Related (λ row v. Shows N v Every place.own row) group.rows maps
  pub values : AllByRecursion (λ agg. m agg.out ≡ aggregated agg.kind (map (argument agg.arg) maps)) aggs

abbrev pub GroupedIn : Numbering → Place → Group → Env → List Agg → Option (List Slot) → Type 0
GroupedIn N place group m aggs None = ⊤
GroupedIn N place group m aggs (Some keys) = GroupOf N place group m aggs

-- a named group and the numbered row over which the same expressions are computed; `met` says whether a column of an
-- enclosing query was met
pub record Stands (N : Numbering) (place : Place) (met : Bool) (group : Group) (m : Env) (aggs : List Agg) : Type 0 where
  pub own : Owns N m place.keys place.own group.rows
  pub near : place.reaches ≡ true → met ≡ true → NearShows N m place.outers group.outers
  pub grouped : GroupedIn N place group m aggs place.keys

abbrev pub BeginsWith : List Agg → List Agg → Type 0
BeginsWith first all = (rest : List Agg) × (all ≡ first ++ rest)

-- ---- expressions

-- where a bare column comes from: an own column, an aggregate that was made, or an enclosing query
pub data Source (place : Place) (w w' : Walk) : Slot → Type 0 where
  own : (before after : List Entry) (entry : Entry) → place.own ≡ before ++ entry ∷ after → Source place w w' entry.slot
  made : (n : ℕ) → length w.numbers ≤ n → n < length w'.numbers → Source place w w' (Made n)
  near : {slot : Slot} → place.reaches ≡ true → Source place w w' slot

pub record BareAt (place : Place) (w w' : Walk) (x : Typed) (column : Numbered) : Type 0 where
  pub scalar : x.scalar ≡ Col column.number
  pub number : position (same_slot column.slot) w'.numbers ≡ Some column.number.0
  pub source : Source place w w' column.slot

pub record ExprGives (place : Place) (meaning : Group → Value) (w : Walk) (x : Typed) (w' : Walk) : Type 0 where
  pub grows : Grows w w'
  pub met : w.outer ≡ true → w'.outer ≡ true
  -- where no aggregate may stand none is made
  pub plain : place.keys ≡ None → w'.aggs ≡ w.aggs
  pub bare : (column : Numbered) → x.bare ≡ Some column → BareAt place w w' x column
  pub means : (N : Numbering) → Fits N w'.numbers → (aggs : List Agg) → BeginsWith w'.aggs aggs → (group : Group) (m : Env) → Stands N place w'.outer group m aggs → meaning group ≡ value_of x.scalar m

pub record ExprMeans (walk : Place → Step Typed) (meaning : Group → Value) : Type 0 where
  pub gives : (place : Place) (w : Walk) (x : Typed) (w' : Walk) → Proper w.numbers → SettledAt w.numbers place → walk place w ≡ done x w' → ExprGives place meaning w x w'

-- ---- conditions

pub record TestGives (place : Place) (meaning : Group → Truth) (w : Walk) (c : Cond) (w' : Walk) : Type 0 where
  pub grows : Grows w w'
  pub met : w.outer ≡ true → w'.outer ≡ true
  -- where no aggregate may stand none is made
  pub plain : place.keys ≡ None → w'.aggs ≡ w.aggs
  pub means : (N : Numbering) → Fits N w'.numbers → (aggs : List Agg) → BeginsWith w'.aggs aggs → (group : Group) (m : Env) → Stands N place w'.outer group m aggs → meaning group ≡ truth_of c m

pub record TestMeans (walk : Place → Step Cond) (meaning : Group → Truth) : Type 0 where
  pub gives : (place : Place) (w : Walk) (c : Cond) (w' : Walk) → Proper w.numbers → SettledAt w.numbers place → walk place w ≡ done c w' → TestGives place meaning w c w'

module _ (database : Database) where
  -- ---- queries

  -- under EXISTS only whether there are rows counts
  abbrev pub SameRows : Role → List (List Value) → List (List Value) → Type 0
  SameRows role.Exists named numbered = has_rows named ≡ has_rows numbered
  SameRows _ named numbered = named ≡ numbered

  -- the row of the enclosing query, for a subquery
  abbrev pub Encloses : Role → Numbering → Env → List lookup.Scope → Environment → Type 0
  Encloses role.In N outer outers env = NearShows N outer outers env
  Encloses role.Exists N outer outers env = NearShows N outer outers env
  Encloses _ N outer outers env = ⊤

  -- the columns of the enclosing query are none of the subquery's
  abbrev pub Outside : Role → Walk → Walk → List lookup.Scope → Type 0
  Outside role.In from to (outer ∷ outers) = AllByRecursion (λ entry. Within from to entry.slot → ⊥) outer
  Outside role.Exists from to (outer ∷ outers) = AllByRecursion (λ entry. Within from to entry.slot → ⊥) outer
  Outside _ from to _ = ⊤

  -- the row of the enclosing query has nothing of the subquery's columns
  abbrev pub Apart : Numbering → Walk → Walk → Env → Type 0
  Apart N from to outer = (c : ColId) → Within from to (N.slot_at c) → outer c ≡ Null

  abbrev pub GivenAt : Walk → Walk → Column → ColId → Type 0
  GivenAt w w' column out = (position (same_slot column.slot) w'.numbers ≡ Some out.0) × Within w w' column.slot

  pub record QueryGives (part : Role) (outers : List lookup.Scope) (meaning : QueryMeaning) (w : Walk) (walked : Walked) (w' : Walk) : Type 0 where
    pub grows : Grows w w'
    pub kept : w'.aggs ≡ w.aggs
    pub names : part ≢ role.Exists → map (λ column. column.name) walked.outputs ≡ meaning.names
    pub outputs : Related (GivenAt w w') walked.outputs (numbered database walked.query).outs
    pub rows : (env : Environment) (outer : Env)
        → ((N : Numbering) → Exact N w'.numbers → Fits N w'.numbers → Encloses part N outer outers env)
        → Outside part w w' outers
        → ((N : Numbering) → Exact N w'.numbers → Fits N w'.numbers → Apart N w w' outer)
        → SameRows part (meaning.rows env) (row_values (numbered database walked.query) outer)
    -- a row has nothing but the output columns
    pub alone : (outer : Env) → AllByRecursion (λ m. (c : ColId) → AllByRecursion (λ out. out ≢ c) (numbered database walked.query).outs → m c ≡ Null) ((numbered database walked.query).rows outer)

  pub record QueryMeans (walk : QueryWalk) (meaning : QueryMeaning) : Type 0 where
    pub gives : (part : Role) (outers : List lookup.Scope) (w : Walk) (walked : Walked) (w' : Walk) → Proper w.numbers → SettledAll w.numbers outers → walk database.tables part outers w ≡ done walked w' → QueryGives part outers meaning w walked w'

  -- ---- conjuncts

  abbrev pub LeftMeans : Option (Place → Step Typed) → Bool → QueryMeaning → (Group → Truth) → Type 0
  LeftMeans None negated query truth = (group : Group) → truth group ≡ negated_if negated (decided (has_rows (query.rows (environment group))))
  LeftMeans (Some x) negated query truth =
      (value : Group → Value) × ExprMeans x value × ((group : Group) → truth group ≡ negated_if negated (is_one_of (value group) (map first_column (query.rows (environment group)))))

  -- what a subquery conjunct says, of the query's rows within the environment of the row
  pub record SubqueryMeans (sub : Subquery) (truth : Group → Truth) : Type 0 where
    pub query : QueryMeaning
    pub walk : QueryMeans sub.query query
    pub left : LeftMeans sub.left sub.negated query truth

  abbrev pub SubqueryIf : Option Subquery → (Group → Truth) → Type 0
  SubqueryIf None truth = ⊤
  SubqueryIf (Some sub) truth = SubqueryMeans sub truth

  pub record ConjunctMeans (c : Conjunct) (truth : Group → Truth) : Type 0 where
    pub test : TestMeans c.test truth
    pub subquery : SubqueryIf c.subquery truth

  pub record CondMeans (c : Condition) (truth : Group → Truth) : Type 0 where
    pub test : TestMeans c.test truth
    pub truths : List (Group → Truth)
    pub conjuncts : Related ConjunctMeans c.conjuncts truths
    -- the condition is True where all its conjuncts are
    pub splits : (group : Group) → is_truth (truth group) True ≡ list_all (λ t. is_truth (t group) True) truths
    pub negation : SubqueryIf c.negation (λ group. negation (truth group))

  abbrev pub CondIf : Option Condition → Option (Group → Truth) → Type 0
  CondIf None None = ⊤
  CondIf (Some c) (Some truth) = CondMeans c truth
  CondIf _ _ = ⊥

  -- ---- FROM

  abbrev pub RowOf : Numbering → Walk → Walk → List Entry → Scope → Env → Type 0
  RowOf N w w' entries row m = Shows N m Every entries row × OnlyIn N w w' m

  pub record ElementGives (meaning : ElementMeaning) (w : Walk) (e : Element) (w' : Walk) : Type 0 where
    pub grows : Grows w w'
    pub kept : w'.aggs ≡ w.aggs
    pub labels : map (λ entry. label_of entry.alias entry.column) e.entries ≡ meaning.labels
    pub within : AllByRecursion (λ entry. Within w w' entry.slot) e.entries
    pub settled : SettledIn w'.numbers e.entries
    -- by the numbers of the end of its query, whatever encloses the query
    pub rows : (env : Environment) (later : List Slot) (N : Numbering) → Exact N (w'.numbers ++ later) → Fits N (w'.numbers ++ later)
        → Related (RowOf N w w' e.entries) (meaning.scopes env) (from_rows database (finished (w'.numbers ++ later) e.draft))

  pub record ElementMeans (walk : ElementWalk) (meaning : ElementMeaning) : Type 0 where
    pub gives : (outers : List lookup.Scope) (w : Walk) (e : Element) (w' : Walk) → Proper w.numbers → SettledAll w.numbers outers → walk database.tables outers w ≡ done e w' → ElementGives meaning w e w'

  -- a join, after what stands on its left was walked from w0 to w
  pub record JoinMeans (walk : JoinWalk) (meaning : JoinMeaning) : Type 0 where
    pub gives : (outers : List lookup.Scope) (before : ElementMeaning) (left : Element) (w0 w : Walk) (e : Element) (w' : Walk)
        → Proper w.numbers → SettledAll w.numbers outers → ElementGives before w0 left w → walk database.tables outers left w ≡ done e w' → ElementGives (meaning before) w0 e w'
