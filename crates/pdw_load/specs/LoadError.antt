-- Which fault a file is refused for.
use Rattle.std.specs.Prelude.{◌≡◌, ◌⊎◌, ◌∷◌, List}
use Rattle.pdw_load.specs.declared.load_error.LoadError.{LoadError}
use Rattle.pdw_load.specs.declared.load_error.LoadError.TheVariants.{Memory}

-- the error says want of memory, or it is the first of these faults
abbrev pub IsFirstFault : LoadError → List LoadError → Type 0
IsFirstFault e faults = (e ≡ Memory) ⊎ ((rest : List LoadError) × (faults ≡ e ∷ rest))
