-- What a write adds to a text, and when it counts as a fault.
use Rattle.std.specs.Prelude.{◌≡◌, ℕ, zero, suc, List, [], ◌∷◌, ◌++◌, Option, Some, None, Result, Ok, Err}
use Rattle.pdw_outside.specs.Faults.{Rose}
use Rattle.pdw_outside.specs.declared.failed.Failed.{Failed}

-- bytes that are told after the call were told before it, and these were appended
abbrev pub Adds : Option (List ℕ) → Option (List ℕ) → List ℕ → Type 0
Adds before None piece = Unit {0}
Adds None (Some now) piece = ⊥
Adds (Some before) (Some now) piece = now ≡ before ++ piece

-- a write that fails, or takes nothing of a piece that is not empty, comes with a fault; any other leaves the count as it was
abbrev pub CountsWrite : ℕ → ℕ → List ℕ → Result ℕ Failed → Type 0
CountsWrite before now piece (Err e) = Rose before now
CountsWrite before now [] (Ok count) = now ≡ before
CountsWrite before now (byte ∷ piece) (Ok zero) = Rose before now
CountsWrite before now (byte ∷ piece) (Ok (suc count)) = now ≡ before
