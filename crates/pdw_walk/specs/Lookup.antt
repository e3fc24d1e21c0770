-- Column references (SQL-92, 6.4): the columns that a place sees, and the one that a reference means.
use Rattle.std.specs.Prelude.{ℕ, ◌&&◌, Bool, true, not, List, [], ◌∷◌, ◌++◌, Option, Some, None, codes, if◌then◌else◌}
use Rattle.std.specs.List.{filter, list_any}
use Rattle.std.specs.Str.{bytes_eq}
use Rattle.pdw_syntax.specs.declared.expr.ColRef.{ColRef}
use Rattle.pdw_walk.specs.Slot.{same_slot}
use Rattle.pdw_walk.specs.Walk.{Step, ◌>>◌, ◌<$>◌, pure, refuse, refuse_if, number_of, meet_outer}
use Rattle.pdw_walk.specs.declared.entry.Entry.{Entry}
use Rattle.pdw_walk.specs.declared.entry.Met.{Met}
use Rattle.pdw_walk.specs.declared.entry.Slot.{Slot}
use Rattle.pdw_walk.specs.declared.fault.JudgeFault.{JudgeFault}
use Rattle.pdw_walk.specs.declared.fault.JudgeFault.TheVariants.{UnknownColumn, Ambiguous, NotGrouped, OuterReference}

abbrev pub Scope : Type 0
Scope = List Entry

-- where an expression or a condition stands
pub record Place : Type 0 where
  -- the columns of the query's own FROM that are seen
  pub own : Scope
  -- those of the enclosing queries, the innermost first
  pub outers : List Scope
  -- whether a column of the innermost enclosing query may stand here
  pub reaches : Bool
  -- in the items and HAVING of a grouped query, its grouping columns; elsewhere no aggregate may stand
  pub keys : Option (List Slot)

-- ---- names

-- a name, after its alias and a dot where that is written
abbrev pub qualified : Option (List ℕ) → List ℕ → List ℕ
qualified None column = column
qualified (Some alias) column = alias ++ (codes "." ++ column)

abbrev pub written : ColRef → List ℕ
written ref = qualified ref.alias ref.column

-- ---- matches

abbrev pub has_alias : Option (List ℕ) → Entry → Bool
has_alias None entry = true
has_alias (Some alias) entry = bytes_eq alias entry.alias

-- a reference fits a column as the pair of alias and name
abbrev pub fits : ColRef → Entry → Bool
fits ref entry = bytes_eq ref.column entry.column && has_alias ref.alias entry

-- no column, the one, or several
pub data Found : Type 0 where
  nothing : Found
  one : Entry → Found
  several : Found

abbrev pub found_of : List Entry → Found
found_of [] = nothing
found_of (entry ∷ []) = one entry
found_of (entry ∷ other ∷ others) = several

-- the columns of a scope that a reference fits
abbrev pub matches : ColRef → Scope → Found
matches ref scope = found_of (filter (fits ref) scope)

-- ---- the column that a reference means

abbrev pub is_key : List Slot → Slot → Bool
is_key keys slot = list_any (same_slot slot) keys

-- in a grouped query it has to be a grouping column
abbrev pub has_to_be_key : Option (List Slot) → List ℕ → Entry → Step (Unit {0})
has_to_be_key None name entry = pure tt
has_to_be_key (Some keys) name entry = refuse_if (not (is_key keys entry.slot)) (NotGrouped name)

-- a column is used
unfoldable pub use_column : Entry → Step Met
use_column entry = (λ number. record { kind = entry.kind; column = record { number = number; slot = entry.slot } }) <$> number_of entry.slot

-- two scopes out and further no column may be meant
abbrev pub far_match : ColRef → JudgeFault → Found → JudgeFault
far_match ref further nothing = further
far_match ref further (one entry) = OuterReference (written ref)
far_match ref further several = Ambiguous (written ref)

abbrev pub far_fault : ColRef → List Scope → JudgeFault
far_fault ref [] = UnknownColumn (written ref)
far_fault ref (scope ∷ scopes) = far_match ref (far_fault ref scopes) (matches ref scope)

-- one scope out a column may be meant where the place reaches it
abbrev pub reached : Bool → ColRef → Entry → Step Met
reached reaches ref entry = if reaches then meet_outer >> use_column entry else refuse (OuterReference (written ref))

abbrev pub near_match : Bool → ColRef → List Scope → Found → Step Met
near_match reaches ref scopes nothing = refuse (far_fault ref scopes)
near_match reaches ref scopes (one entry) = reached reaches ref entry
near_match reaches ref scopes several = refuse (Ambiguous (written ref))

abbrev pub near_column : Bool → ColRef → List Scope → Step Met
near_column reaches ref [] = refuse (UnknownColumn (written ref))
near_column reaches ref (scope ∷ scopes) = near_match reaches ref scopes (matches ref scope)

abbrev pub own_column : Option (List Slot) → List ℕ → Entry → Step Met
own_column keys name entry = has_to_be_key keys name entry >> use_column entry

abbrev pub own_match : Place → ColRef → Found → Step Met
own_match place ref nothing = near_column place.reaches ref place.outers
own_match place ref (one entry) = own_column place.keys (written ref) entry
own_match place ref several = refuse (Ambiguous (written ref))

-- a reference means the one match in the first scope that has a match, from the inside out
unfoldable pub column : Place → ColRef → Step Met
column place ref = own_match place ref (matches ref place.own)
