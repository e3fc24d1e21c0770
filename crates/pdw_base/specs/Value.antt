-- A value is NULL, a whole number or a text. One that borrows its text is the value that it borrows.
use Rattle.std.specs.Prelude.{◌≡◌, ⊤}
use Rattle.pdw_base.specs.declared.value.Kind.{Kind}
use Rattle.pdw_base.specs.declared.value.Kind.TheVariants as kind
use Rattle.pdw_base.specs.declared.value.Value.{Value}
use Rattle.pdw_base.specs.declared.value.Value.TheVariants.{Null, Int, Text, Wide}
use Rattle.pdw_base.specs.declared.value.ValueRef.{ValueRef}
use Rattle.pdw_base.specs.declared.value.ValueRef.TheVariants as lent

abbrev pub owned : ValueRef → Value
owned lent.Null = Null
owned (lent.Int n) = Int n
owned (lent.Text t) = Text t.now
owned (lent.Wide n) = Wide n

-- a value may stand in a column of a kind: it is NULL or of that kind
abbrev pub IsOfKind : Kind → Value → Type 0
IsOfKind k Null = ⊤
IsOfKind k (Int n) = k ≡ kind.Int
IsOfKind k (Text t) = k ≡ kind.Text
IsOfKind k (Wide n) = k ≡ kind.Wide
