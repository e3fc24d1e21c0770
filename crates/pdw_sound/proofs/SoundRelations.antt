-- What the judgement's walk says of the kinds, the ranges and the limits of each part of a statement.
use Rattle.std.proofs.Common.{◌≡◌, ◌≢◌, ℕ, ◌+◌, ◌≤◌, ◌<◌, ◌&&◌, ◌⊎◌, Bool, true, false, List, [], ◌∷◌, ◌++◌, length, map, Option, Some, None, is_some, position, AllPairs}
use Rattle.std.specs.Bool.{⊤}
use Rattle.std.specs.List.{AllByRecursion, flat_map, list_any}
use Rattle.std.specs.Str.{bytes_eq}
use Rattle.pdw_algebra.specs.Schema.{kind_at}
use Rattle.pdw_algebra.specs.Shape.{all_typed}
use Rattle.pdw_algebra.specs.Types.{aggregate_kind, is_typed, scalar_kind}
use Rattle.pdw_base.specs.Schema.{Columns}
use Rattle.pdw_base.specs.declared.schema.ColId.{ColId}
use Rattle.pdw_base.specs.declared.truth.Truth.{Truth}
use Rattle.pdw_base.specs.declared.value.Kind.{Kind}
use Rattle.pdw_base.specs.declared.value.Value.{Value}
use Rattle.pdw_form.specs.Sound.{ElementShape, QueryShape, element_shape, from_columns, from_sound, query_shape}
use Rattle.pdw_catalog.specs.Database.{Database}
use Rattle.pdw_expr.specs.declared.agg.Agg.{Agg}
use Rattle.pdw_expr.specs.declared.cond.Cond.{Cond}
use Rattle.pdw_form.proofs.Related.{Related}
use Rattle.pdw_names.proofs.Relations.{Allowed, BeginsWith, CondMeans, ElementGives, ElementMeans, ExprMeans, JoinMeans, Proper, QueryMeans, SettledAll, SettledAt, TestMeans, Within}
use Rattle.pdw_semantics.specs.Conds.{QueryMeaning}
use Rattle.pdw_semantics.specs.Environment.{Group}
use Rattle.pdw_semantics.specs.Froms.{ElementMeaning, JoinMeaning}
use Rattle.pdw_form.specs.Numbered.{outs_of}
use Rattle.pdw_walk.specs.Conds.{Condition, Conjunct, QueryWalk, Subquery}
use Rattle.pdw_walk.specs.Froms.{ElementWalk, JoinWalk, Sources, finished}
use Rattle.pdw_walk.specs.Lookup.{Place, Scope}
use Rattle.pdw_walk.specs.Slot.{same_slot}
use Rattle.pdw_walk.specs.Walk.{Step, Walk, col_id, done}
use Rattle.pdw_walk.specs.declared.entry.Column.{Column}
use Rattle.pdw_walk.specs.declared.entry.Draft.{Draft}
use Rattle.pdw_walk.specs.declared.entry.Element.{Element}
use Rattle.pdw_walk.specs.declared.entry.Entry.{Entry}
use Rattle.pdw_walk.specs.declared.entry.Role.{Role}
use Rattle.pdw_walk.specs.declared.entry.Role.TheVariants as role
use Rattle.pdw_walk.specs.declared.entry.Slot.{Slot}
use Rattle.pdw_walk.specs.declared.entry.Slot.TheVariants.{Base, Made}
use Rattle.pdw_walk.specs.declared.entry.Typed.{Typed}
use Rattle.pdw_walk.specs.declared.entry.Walked.{Walked}
use Rattle.pdw_walk.specs.declared.fault.TheConstants.{MOST_REFERENCES}
use Rattle.pdw_form.specs.declared.judged.JudgedQuery.{out-JudgedQuery}

-- ---- kinds

-- columns have an entry's kind at its number, where it has one
abbrev pub KindAt : List Slot → Columns → Entry → Type 0
KindAt numbers columns entry = (place : ℕ) → position (same_slot entry.slot) numbers ≡ Some place → kind_at columns (col_id place) ≡ Some entry.kind

abbrev pub KindsOf : List Slot → Columns → Scope → Type 0
KindsOf numbers columns scope = AllByRecursion (KindAt numbers columns) scope

-- the same of the columns that may stand outside an aggregate: all, or the grouping columns
abbrev pub KindsAllowed : Option (List Slot) → List Slot → Columns → Scope → Type 0
KindsAllowed keys numbers columns scope = AllByRecursion (λ entry. Allowed keys entry.slot → KindAt numbers columns entry) scope

-- the columns of the innermost enclosing query
abbrev pub NearKinds : List Slot → Columns → List Scope → Type 0
NearKinds numbers columns [] = ⊤
NearKinds numbers columns (outer ∷ outers) = KindsOf numbers columns outer

-- every aggregate has a kind over the columns of FROM
abbrev pub AggsTyped : Columns → List Agg → Type 0
AggsTyped rows aggs = AllByRecursion (λ agg. is_some (aggregate_kind rows agg) ≡ true) aggs

-- every aggregate has its own number
abbrev pub AggsMade : List Slot → List Agg → Type 0
AggsMade numbers aggs = AllByRecursion (λ agg. position (same_slot (Made agg.out.0)) numbers ≡ Some agg.out.0) aggs

-- columns of a grouped query: each aggregate stands there with its kind over the columns of FROM
pub record GroupKinds (numbers : List Slot) (place : Place) (columns : Columns) (aggs : List Agg) : Type 0 where
  pub unreached : place.reaches ≡ false
  pub rows : Columns
  pub own : KindsOf numbers rows place.own
  pub aggregates : AllByRecursion (λ agg. kind_at columns agg.out ≡ aggregate_kind rows agg) aggs

abbrev pub GroupKindsIn : List Slot → Place → Columns → List Agg → Option (List Slot) → Type 0
GroupKindsIn numbers place columns aggs None = ⊤
GroupKindsIn numbers place columns aggs (Some keys) = GroupKinds numbers place columns aggs

-- columns that have what may be used at a place; `met` says whether a column of an enclosing query was met
pub record Sees (numbers : List Slot) (aggs : List Agg) (met : Bool) (place : Place) (columns : Columns) : Type 0 where
  pub own : KindsAllowed place.keys numbers columns place.own
  pub near : place.reaches ≡ true → met ≡ true → NearKinds numbers columns place.outers
  pub grouped : GroupKindsIn numbers place columns aggs place.keys

-- ---- what gets a number

-- what was added to the numbers between two moments
pub record Adds (P : Slot → Type 0) (w w' : Walk) : Type 0 where
  pub added : List Slot
  pub numbers : w'.numbers ≡ w.numbers ++ added
  pub all : AllByRecursion P added

-- a column of a scope
abbrev pub Among : Scope → Slot → Type 0
Among scope slot = list_any (λ entry. same_slot slot entry.slot) scope ≡ true

-- a column of the innermost enclosing query
abbrev pub AmongNear : List Scope → Slot → Type 0
AmongNear [] slot = ⊥
AmongNear (outer ∷ outers) slot = Among outer slot

-- at a place: a column that is seen there, or what is made
abbrev pub Used : Place → Slot → Type 0
Used place (Base reference column) = Among place.own (Base reference column) ⊎ ((place.reaches ≡ true) × AmongNear place.outers (Base reference column))
Used place (Made n) = ⊤

-- a column of a table reference between two moments, or what is made
abbrev pub New : Walk → Walk → Slot → Type 0
New w w' (Base reference column) = Within w w' (Base reference column)
New w w' (Made n) = ⊤

-- in a query: a column of its own, for a subquery one of the enclosing query, or what is made
abbrev pub UsedBy : Role → List Scope → Walk → Walk → Slot → Type 0
UsedBy role.In outers w w' slot = New w w' slot ⊎ AmongNear outers slot
UsedBy role.Exists outers w w' slot = New w w' slot ⊎ AmongNear outers slot
UsedBy _ outers w w' slot = New w w' slot

-- a column of a table reference that was begun before, or what is made
abbrev pub Old : Walk → Slot → Type 0
Old w (Base reference column) = reference < w.references
Old w (Made n) = ⊤

abbrev pub OldIn : Walk → Scope → Type 0
OldIn w scope = AllByRecursion (λ entry. Old w entry.slot) scope

-- what has a number and what the enclosing queries give was begun before
pub record Behind (w : Walk) (outers : List Scope) : Type 0 where
  pub numbers : AllByRecursion (Old w) w.numbers
  pub scopes : AllByRecursion (OldIn w) outers

-- numbers of the columns of the table references between two moments are those of these entries' columns
abbrev pub Covered : Walk → Walk → Scope → Slot → Type 0
Covered w w' entries (Base reference column) = Within w w' (Base reference column) → Among entries (Base reference column)
Covered w w' entries (Made n) = ⊤

-- ---- expressions and conditions

-- an expression has its kind over such columns, and the aggregates that were made have kinds
pub record ExprKinds (place : Place) (w : Walk) (x : Typed) (w' : Walk) : Type 0 where
  pub typed : (aggs : List Agg) → BeginsWith w'.aggs aggs → (columns : Columns) → Sees w'.numbers aggs w'.outer place columns → scalar_kind columns x.scalar ≡ Some x.kind
  pub aggs : place.reaches ≡ false → (rows : Columns) → KindsOf w'.numbers rows place.own → AggsTyped rows w.aggs → AggsTyped rows w'.aggs
  pub made : AggsMade w.numbers w.aggs → AggsMade w'.numbers w'.aggs
  -- no column of an enclosing query is met where none is reached
  pub unmet : place.reaches ≡ false → w'.outer ≡ w.outer
  -- expressions begin no table reference and take no alias
  pub references : w'.references ≡ w.references
  pub taken : w'.taken ≡ w.taken
  pub uses : Adds (Used place) w w'

pub record ExprSound (walk : Place → Step Typed) : Type 0 where
  pub meaning : Group → Value
  pub means : ExprMeans walk meaning
  pub kinds : (place : Place) (w : Walk) (x : Typed) (w' : Walk) → Proper w.numbers → SettledAt w.numbers place → walk place w ≡ done x w' → ExprKinds place w x w'

pub record TestKinds (place : Place) (w : Walk) (c : Cond) (w' : Walk) : Type 0 where
  pub typed : (aggs : List Agg) → BeginsWith w'.aggs aggs → (columns : Columns) → Sees w'.numbers aggs w'.outer place columns → is_typed columns c ≡ true
  pub aggs : place.reaches ≡ false → (rows : Columns) → KindsOf w'.numbers rows place.own → AggsTyped rows w.aggs → AggsTyped rows w'.aggs
  pub made : AggsMade w.numbers w.aggs → AggsMade w'.numbers w'.aggs
  -- no column of an enclosing query is met where none is reached
  pub unmet : place.reaches ≡ false → w'.outer ≡ w.outer
  pub references : w'.references ≡ w.references
  pub taken : w'.taken ≡ w.taken
  pub uses : Adds (Used place) w w'

pub record TestSound (walk : Place → Step Cond) : Type 0 where
  pub meaning : Group → Truth
  pub means : TestMeans walk meaning
  pub kinds : (place : Place) (w : Walk) (c : Cond) (w' : Walk) → Proper w.numbers → SettledAt w.numbers place → walk place w ≡ done c w' → TestKinds place w c w'

-- the conjuncts of ON and of HAVING
pub record TestedKinds (place : Place) (w : Walk) (conds : List Cond) (w' : Walk) : Type 0 where
  pub typed : (aggs : List Agg) → BeginsWith w'.aggs aggs → (columns : Columns) → Sees w'.numbers aggs w'.outer place columns → all_typed columns conds ≡ true
  pub aggs : place.reaches ≡ false → (rows : Columns) → KindsOf w'.numbers rows place.own → AggsTyped rows w.aggs → AggsTyped rows w'.aggs
  pub made : AggsMade w.numbers w.aggs → AggsMade w'.numbers w'.aggs
  -- no column of an enclosing query is met where none is reached
  pub unmet : place.reaches ≡ false → w'.outer ≡ w.outer
  pub references : w'.references ≡ w.references
  pub taken : w'.taken ≡ w.taken
  pub uses : Adds (Used place) w w'

-- ---- ranges of numbers

-- a number of a column of the table references, or of what was made, between two moments of the walk
pub record Ranged (numbers : List Slot) (from to : Walk) (c : ColId) : Type 0 where
  pub slot : Slot
  pub at : position (same_slot slot) numbers ≡ Some c.0
  pub within : Within from to slot

-- a number of something else
pub record Elsewhere (numbers : List Slot) (from to : Walk) (c : ColId) : Type 0 where
  pub slot : Slot
  pub at : position (same_slot slot) numbers ≡ Some c.0
  pub outside : Within from to slot → ⊥

abbrev pub RangedColumns : List Slot → Walk → Walk → Columns → Type 0
RangedColumns numbers from to columns = AllByRecursion (λ column. Ranged numbers from to column.0) columns

abbrev pub RangedNumbers : List Slot → Walk → Walk → List ColId → Type 0
RangedNumbers numbers from to made = AllByRecursion (Ranged numbers from to) made

abbrev pub Distinct : List ColId → Type 0
Distinct made = AllPairs (λ a b. a.0 ≢ b.0) made

-- so many table references at most
abbrev pub KeepsLimit : Walk → Walk → Type 0
KeepsLimit w w' = w.references ≤ MOST_REFERENCES → w'.references ≤ MOST_REFERENCES

module _ (database : Database) where
  -- ---- queries

  -- the enclosing query's columns, for a subquery
  abbrev pub OuterKinds : Role → List Slot → Columns → List Scope → Type 0
  OuterKinds role.In numbers columns outers = NearKinds numbers columns outers
  OuterKinds role.Exists numbers columns outers = NearKinds numbers columns outers
  OuterKinds _ numbers columns outers = ⊤

  -- a query that is no subquery stands alone
  abbrev pub Alone : Role → QueryShape → Type 0
  Alone role.In shape = ⊤
  Alone role.Exists shape = ⊤
  Alone _ shape = (shape.reaches ≡ false) × (shape.has_items ≡ true)

  abbrev pub first_kind : List Column → Option Kind
  first_kind [] = None
  first_kind (column ∷ columns) = Some column.kind

  pub record QueryFits (part : Role) (outers : List Scope) (w : Walk) (walked : Walked) (w' : Walk) : Type 0 where
    pub taken : w'.taken ≡ w.taken
    pub uses : Adds (UsedBy part outers w w') w w'
    pub references : w.references < w'.references
    pub limit : KeepsLimit w w'
    pub kinds : Related (λ column out. kind_at (query_shape database.tables walked.query).columns out ≡ Some column.kind) walked.outputs (outs_of (out-JudgedQuery walked.query).items)
    pub first : (query_shape database.tables walked.query).first_kind ≡ first_kind walked.outputs
    pub columns : RangedColumns w'.numbers w w' (query_shape database.tables walked.query).columns
    pub rows : RangedColumns w'.numbers w w' (query_shape database.tables walked.query).rows
    pub made : RangedNumbers w'.numbers w w' (query_shape database.tables walked.query).columns_made
    pub distinct : Distinct (query_shape database.tables walked.query).columns_made
    pub ungrouped : ((query_shape database.tables walked.query).is_grouped && (query_shape database.tables walked.query).reaches) ≡ false
    pub alone : Alone part (query_shape database.tables walked.query)
    -- within columns of the enclosing query that are none of this one's
    pub sound : (later : List Slot) (outer : Columns) → OuterKinds part (w'.numbers ++ later) outer outers
        → AllByRecursion (λ column. Elsewhere (w'.numbers ++ later) w w' column.0) outer → w'.references ≤ MOST_REFERENCES → (query_shape database.tables walked.query).sound_in outer ≡ true

  pub record QuerySound (walk : QueryWalk) : Type 0 where
    pub meaning : QueryMeaning
    pub means : QueryMeans database walk meaning
    pub gives : (part : Role) (outers : List Scope) (w : Walk) (walked : Walked) (w' : Walk) → Proper w.numbers → SettledAll w.numbers outers → Behind w outers → walk database.tables part outers w ≡ done walked w' → QueryFits part outers w walked w'

  -- ---- conditions with their conjuncts

  abbrev pub LeftSound : Option (Place → Step Typed) → Type 0
  LeftSound None = ⊤
  LeftSound (Some x) = ExprSound x

  pub record SubquerySound (sub : Subquery) : Type 0 where
    pub query : QuerySound sub.query
    pub left : LeftSound sub.left

  abbrev pub SubquerySoundIf : Option Subquery → Type 0
  SubquerySoundIf None = ⊤
  SubquerySoundIf (Some sub) = SubquerySound sub

  pub record ConjunctSound (c : Conjunct) : Type 0 where
    pub test : TestSound c.test
    pub subquery : SubquerySoundIf c.subquery

  pub record CondSound (c : Condition) : Type 0 where
    pub meaning : Group → Truth
    pub means : CondMeans database c meaning
    pub test : TestSound c.test
    pub conjuncts : AllByRecursion ConjunctSound c.conjuncts
    pub negation : SubquerySoundIf c.negation

  abbrev pub CondSoundIf : Option Condition → Type 0
  CondSoundIf None = ⊤
  CondSoundIf (Some c) = CondSound c

  -- ---- FROM

  -- an alias that was taken between two moments stands in the scope
  abbrev pub TakenIn : Walk → Walk → Scope → Type 0
  TakenIn w w' scope = (alias : List ℕ) → list_any (λ other. bytes_eq alias other) w'.taken ≡ true → list_any (λ other. bytes_eq alias other) w.taken ≡ false → list_any (λ entry. bytes_eq alias entry.alias) scope ≡ true

  -- an element by the numbers of the end of its query
  pub record ElementFitsAt (numbers : List Slot) (w : Walk) (entries : Scope) (shape : ElementShape) (w' : Walk) : Type 0 where
    pub kinds : KindsOf numbers shape.columns entries
    pub columns : RangedColumns numbers w w' shape.columns
    pub made : RangedNumbers numbers w w' shape.made
    pub distinct : Distinct shape.made
    pub some : 1 ≤ shape.leaves
    pub leaves : w.references + shape.leaves ≤ w'.references

  pub record ElementFits (w : Walk) (e : Element) (w' : Walk) : Type 0 where
    pub limit : KeepsLimit w w'
    pub some : 0 < length e.entries
    pub aliases : TakenIn w w' e.entries
    pub taken : (alias : List ℕ) → list_any (λ other. bytes_eq alias other) w.taken ≡ true → list_any (λ other. bytes_eq alias other) w'.taken ≡ true
    pub uses : Adds (New w w') w w'
    pub shape : (later : List Slot) → Proper (w'.numbers ++ later) → ElementFitsAt (w'.numbers ++ later) w e.entries (element_shape database.tables (finished (w'.numbers ++ later) e.draft)) w'
    -- where the numbers that come later stand for columns that it gives
    pub sound : (later : List Slot) → Proper (w'.numbers ++ later) → AllByRecursion (Covered w w' e.entries) later → w'.references ≤ MOST_REFERENCES
        → (element_shape database.tables (finished (w'.numbers ++ later) e.draft)).sound ≡ true

  pub record ElementSound (walk : ElementWalk) : Type 0 where
    pub meaning : ElementMeaning
    pub means : ElementMeans database walk meaning
    pub gives : (outers : List Scope) (w : Walk) (e : Element) (w' : Walk) → Proper w.numbers → SettledAll w.numbers outers → Behind w outers → walk database.tables outers w ≡ done e w' → ElementFits w e w'

  -- a join, after what stands on its left was walked from w0 to w
  pub record JoinSound (walk : JoinWalk) : Type 0 where
    pub meaning : JoinMeaning
    pub means : JoinMeans database walk meaning
    pub gives : (outers : List Scope) (left : Element) (w0 w : Walk) (e : Element) (w' : Walk)
        → Proper w.numbers → SettledAll w.numbers outers → Behind w outers → ((first : ElementMeaning) × ElementGives database first w0 left w) → ElementFits w0 left w → walk database.tables outers left w ≡ done e w' → ElementFits w0 e w'

  -- ---- all elements of FROM

  abbrev pub shapes_of : List Slot → List Draft → List ElementShape
  shapes_of numbers drafts = map (λ draft. element_shape database.tables (finished numbers draft)) drafts

  pub record FromFitsAt (numbers : List Slot) (w : Walk) (own : Scope) (shapes : List ElementShape) (w' : Walk) : Type 0 where
    pub kinds : KindsOf numbers (from_columns shapes) own
    pub columns : RangedColumns numbers w w' (from_columns shapes)
    pub made : RangedNumbers numbers w w' (flat_map (λ shape. shape.made) shapes)
    pub distinct : Distinct (flat_map (λ shape. shape.made) shapes)

  pub record FromFits (w : Walk) (sources : Sources) (w' : Walk) : Type 0 where
    pub limit : KeepsLimit w w'
    pub references : w.references < w'.references
    pub some : 0 < length sources.own
    pub aliases : TakenIn w w' sources.own
    pub uses : Adds (New w w') w w'
    pub shape : (later : List Slot) → Proper (w'.numbers ++ later) → FromFitsAt (w'.numbers ++ later) w sources.own (shapes_of (w'.numbers ++ later) sources.drafts) w'
    -- where the numbers that come later stand for columns that FROM gives
    pub sound : (later : List Slot) → Proper (w'.numbers ++ later) → AllByRecursion (Covered w w' sources.own) later → w'.references ≤ MOST_REFERENCES
        → from_sound (shapes_of (w'.numbers ++ later) sources.drafts) ≡ true
