-- Numeric value expressions (SQL-92, 6.12), over whole numbers of 64 bits.
use Rattle.std.specs.Prelude.{◌^◌, ℤ, pos, negsuc, ◌+ℤ◌, ◌-ℤ◌, ◌*ℤ◌, neg_ℤ, int_div, int_rem, Bool, nat_lt, if◌then◌else◌}
use Rattle.std.specs.Ordering.{int_eq}
use Rattle.pdw_base.specs.declared.value.Value.{Value}
use Rattle.pdw_base.specs.declared.value.Value.TheVariants.{Null, Int}
use Rattle.pdw_expr.specs.declared.scalar.Arith.{Arith}
use Rattle.pdw_expr.specs.declared.scalar.Arith.TheVariants.{Add, Sub, Mul, Div, Rem}

-- a number lies in 64 bits, signed
abbrev pub in_range : ℤ → Bool
in_range (pos n) = nat_lt n (2 ^ 63)
in_range (negsuc n) = nat_lt n (2 ^ 63)

-- the exact number where it lies in range, else NULL
abbrev pub fitted : ℤ → Value
fitted z = if in_range z then Int z else Null

-- a zero divisor gives NULL
abbrev pub unless_zero : ℤ → Value → Value
unless_zero divisor value = if int_eq divisor (pos 0) then Null else value

-- `/` truncates toward zero, and `%` leaves what `/` leaves: its sign is that of the dividend
abbrev pub on_numbers : Arith → ℤ → ℤ → Value
on_numbers Add a b = fitted (a +ℤ b)
on_numbers Sub a b = fitted (a -ℤ b)
on_numbers Mul a b = fitted (a *ℤ b)
on_numbers Div a b = unless_zero b (fitted (int_div a b))
on_numbers Rem a b = unless_zero b (fitted (int_rem a b))

-- an operand that is NULL or no number gives NULL
abbrev pub computed : Arith → Value → Value → Value
computed op (Int a) (Int b) = on_numbers op a b
computed op _ _ = Null

-- the sign `-`
abbrev pub negated : Value → Value
negated (Int a) = fitted (neg_ℤ a)
negated _ = Null
