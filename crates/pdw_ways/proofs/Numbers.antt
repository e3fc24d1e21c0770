-- The order of numbers and unreachable, and sums in it.
use Rattle.std.proofs.Common.{ℕ, Option, Some, None, arith}
use Rattle.pdw_ways.specs.Bounds.{AtMost, plus}

pub at_most-refl : (bound : Option ℕ) → AtMost bound bound
at_most-refl None = tt
at_most-refl (Some bound) = omega arith

pub at_most-trans : (low middle high : Option ℕ) → AtMost low middle → AtMost middle high → AtMost low high
at_most-trans low middle None first second = tt
at_most-trans low None (Some high) first second = absurd second
at_most-trans None (Some middle) (Some high) first second = absurd first
at_most-trans (Some low) (Some middle) (Some high) first second = omega arith

pub at_most-plus : (low other high more : Option ℕ) → AtMost low high → AtMost other more → AtMost (plus low other) (plus high more)
at_most-plus low other None more first second = tt
at_most-plus low other (Some high) None first second = tt
at_most-plus None other (Some high) (Some more) first second = absurd first
at_most-plus (Some low) None (Some high) (Some more) first second = absurd second
at_most-plus (Some low) (Some other) (Some high) (Some more) first second = omega arith
