-- Environments side by side. An environment gives each column a value, and NULL to each that it does not have.
use Rattle.std.specs.Prelude.{◌≡◌, List, All}
use Rattle.pdw_base.specs.Schema.{Env}
use Rattle.pdw_base.specs.declared.schema.ColId.{ColId}
use Rattle.pdw_base.specs.declared.value.Value.{Value}
use Rattle.pdw_base.specs.declared.value.Value.TheVariants.{Null, Int, Text, Wide}

-- the environment that has no column: what pads a row that has no partner
abbrev pub nulls : Env
nulls c = Null

-- a value, or another where it is NULL
abbrev pub or_else : Value → Value → Value
or_else Null b = b
or_else (Int n) b = Int n
or_else (Text t) b = Text t
or_else (Wide n) b = Wide n

-- the columns of two environments in one
abbrev pub union : Env → Env → Env
union a b c = or_else (a c) (b c)

-- two environments give each of some columns the same value
abbrev pub Agree : List ColId → Env → Env → Type 0
Agree columns a b = All (λ c. a c ≡ b c) columns
