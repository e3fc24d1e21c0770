-- The walk through a statement: what it keeps, and the steps that it is made of.
use Rattle.std.specs.Prelude.{◌≡◌, ◌≢◌, ℕ, ◌+◌, ◌==◌, Bool, true, false, List, [], ◌∷◌, ◌++◌, length, position, Option, Some, None, Result, Ok, Err, if◌then◌else◌}
use Rattle.std.specs.Global.{Vec}
use Rattle.std.specs.List.{list_any}
use Rattle.std.specs.Str.{bytes_eq}
use Rattle.pdw_base.specs.declared.schema.ColId.{ColId}
use Rattle.pdw_expr.specs.declared.agg.Agg.{Agg}
use Rattle.pdw_walk.specs.Slot.{same_slot}
use Rattle.pdw_walk.specs.declared.entry.Numbered.{Numbered}
use Rattle.pdw_walk.specs.declared.entry.Slot.{Slot}
use Rattle.pdw_walk.specs.declared.entry.Slot.TheVariants.{Made}
use Rattle.pdw_walk.specs.declared.fault.JudgeFault.{JudgeFault}
use Rattle.pdw_walk.specs.declared.fault.JudgeFault.TheVariants.{Memory, Limit, DuplicateName}
use Rattle.pdw_walk.specs.declared.fault.LimitName.TheVariants as limit
use Rattle.pdw_walk.specs.declared.fault.TheConstants.{MOST_REFERENCES, MOST_USED, MOST_QUERIES}

pub record Walk : Type 0 where
  -- the queries and the table references that were begun
  pub queries : ℕ
  pub references : ℕ
  -- what each number stands for, from 0
  pub numbers : List Slot
  -- of the query that is walked: the aliases of its FROM and its aggregates, as far as they were met
  pub taken : List (List ℕ)
  pub aggs : List Agg
  -- whether a column of an enclosing query was met in the conjunct that is walked
  pub outer : Bool

-- where a statement's walk begins
abbrev pub beginning : Walk
beginning = record { queries = 0; references = 0; numbers = []; taken = []; aggs = []; outer = false }

-- ---- steps: each gives something and goes on, or has the first fault

pub data Outcome (A : Type 0) : Type 0 where
  done : A → Walk → Outcome A
  refused : JudgeFault → Outcome A

abbrev pub Step : Type 0 → Type 0
Step A = Walk → Outcome A

abbrev pub and_then : {A B : Type 0} → Outcome A → (A → Step B) → Outcome B
and_then (done a w) next = next a w
and_then (refused fault) next = refused fault

infixl 10 ◌>>=◌
abbrev pub ◌>>=◌ : {A B : Type 0} → Step A → (A → Step B) → Step B
step >>= next = λ w. and_then (step w) next

infixl 10 ◌>>◌
abbrev pub ◌>>◌ : {A B : Type 0} → Step A → Step B → Step B
step >> next = step >>= (λ _. next)

abbrev pub pure : {A : Type 0} → A → Step A
pure a = λ w. done a w

infixr 11 ◌<$>◌
abbrev pub ◌<$>◌ : {A B : Type 0} → (A → B) → Step A → Step B
f <$> step = step >>= (λ a. pure (f a))

abbrev pub refuse : {A : Type 0} → JudgeFault → Step A
refuse fault = λ w. refused fault

abbrev pub refuse_if : Bool → JudgeFault → Step (Unit {0})
refuse_if true fault = refuse fault
refuse_if false fault = pure tt

-- one step for each, from left to right, over what was gathered so far
abbrev pub over : {A B : Type 0} → (B → A → Step B) → B → List A → Step B
over step gathered [] = pure gathered
over step gathered (x ∷ xs) = step gathered x >>= (λ more. over step more xs)

abbrev pub gathering : {A B : Type 0} → (A → Step B) → List B → A → Step (List B)
gathering step found x = (λ b. found ++ b ∷ []) <$> step x

-- one step for each, from left to right, and what each gives
abbrev pub each : {A B : Type 0} → (A → Step B) → List A → Step (List B)
each step = over (gathering step) []

-- ---- limits and numbers

abbrev pub col_id : ℕ → ColId
col_id number = record { 0 = number }

abbrev pub with_queries : ℕ → Walk → Walk
with_queries queries w = record { queries = queries; references = w.references; numbers = w.numbers; taken = w.taken; aggs = w.aggs; outer = w.outer }

abbrev pub with_references : ℕ → Walk → Walk
with_references references w = record { queries = w.queries; references = references; numbers = w.numbers; taken = w.taken; aggs = w.aggs; outer = w.outer }

abbrev pub with_numbers : List Slot → Walk → Walk
with_numbers numbers w = record { queries = w.queries; references = w.references; numbers = numbers; taken = w.taken; aggs = w.aggs; outer = w.outer }

abbrev pub with_taken : List (List ℕ) → Walk → Walk
with_taken taken w = record { queries = w.queries; references = w.references; numbers = w.numbers; taken = taken; aggs = w.aggs; outer = w.outer }

abbrev pub with_aggs : List Agg → Walk → Walk
with_aggs aggs w = record { queries = w.queries; references = w.references; numbers = w.numbers; taken = w.taken; aggs = aggs; outer = w.outer }

abbrev pub with_outer : Bool → Walk → Walk
with_outer outer w = record { queries = w.queries; references = w.references; numbers = w.numbers; taken = w.taken; aggs = w.aggs; outer = outer }

-- a query begins
unfoldable pub count_query : Step (Unit {0})
count_query w = if w.queries == MOST_QUERIES then refused (Limit limit.Queries MOST_QUERIES) else done tt (with_queries (w.queries + 1) w)

-- a table reference begins, which gets its number
unfoldable pub count_reference : Step ℕ
count_reference w = if w.references == MOST_REFERENCES then refused (Limit limit.References MOST_REFERENCES) else done w.references (with_references (w.references + 1) w)

-- the next number, for this
abbrev pub next_number : Slot → Step ColId
next_number slot w = if length w.numbers == MOST_USED then refused (Limit limit.Used MOST_USED) else done (col_id (length w.numbers)) (with_numbers (w.numbers ++ slot ∷ []) w)

abbrev pub number_at : Slot → Option ℕ → Step ColId
number_at slot (Some place) = pure (col_id place)
number_at slot None = next_number slot

-- the number of a column, which gets the next one at its first use
unfoldable pub number_of : Slot → Step ColId
number_of slot w = number_at slot (position (same_slot slot) w.numbers) w

-- the number of a computed item or an aggregate: the next one
unfoldable pub made_number : Step Numbered
made_number w = ((λ number. record { number = number; slot = Made (length w.numbers) }) <$> next_number (Made (length w.numbers))) w

-- ---- aliases, aggregates and columns of enclosing queries

abbrev pub is_among : List ℕ → List (List ℕ) → Bool
is_among name names = list_any (λ other. bytes_eq name other) names

-- an alias is taken once in a FROM
unfoldable pub take_alias : List ℕ → Step (Unit {0})
take_alias alias w = if is_among alias w.taken then refused (DuplicateName alias) else done tt (with_taken (w.taken ++ alias ∷ []) w)

unfoldable pub add_aggregate : Agg → Step (Unit {0})
add_aggregate agg w = done tt (with_aggs (w.aggs ++ agg ∷ []) w)

unfoldable pub meet_outer : Step (Unit {0})
meet_outer w = done tt (with_outer true w)

unfoldable pub forget_outer : Step (Unit {0})
forget_outer w = done tt (with_outer false w)

abbrev pub met_outer : Step Bool
met_outer w = done w.outer w

-- ---- what a function of the walk ensures: the outcome, unless memory is wanted

abbrev pub Walks : {A : Type 0} → Outcome A → Result A JudgeFault → Walk → Type 0
Walks outcome (Ok a) after = outcome ≡ done a after
Walks outcome (Err fault) after = fault ≢ Memory → outcome ≡ refused fault

-- the same of a step that leaves the walk as it is
abbrev pub Gives : {A : Type 0} → Step A → Result A JudgeFault → Type 0
Gives step result = (w : Walk) → Walks (step w) result w

-- a result that holds its list in a vector
abbrev pub listed : {A : Type 0} → Result (Vec A) JudgeFault → Result (List A) JudgeFault
listed (Ok items) = Ok items.items
listed (Err fault) = Err fault
