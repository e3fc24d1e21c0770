-- The three-valued logic of search conditions (SQL-92, 8.12).
use Rattle.std.specs.Prelude.{List, Bool, true, false, fold}
use Rattle.pdw_base.specs.declared.truth.Truth.{Truth}
use Rattle.pdw_base.specs.declared.truth.Truth.TheVariants.{True, False, Unknown}

-- the truth of a fact that is decided
abbrev pub decided : Bool → Truth
decided true = True
decided false = False

-- NOT
abbrev pub negation : Truth → Truth
negation True = False
negation False = True
negation Unknown = Unknown

-- AND
abbrev pub conjunction : Truth → Truth → Truth
conjunction True b = b
conjunction False b = False
conjunction Unknown True = Unknown
conjunction Unknown False = False
conjunction Unknown Unknown = Unknown

-- OR
abbrev pub disjunction : Truth → Truth → Truth
disjunction True b = True
disjunction False b = b
disjunction Unknown True = True
disjunction Unknown False = Unknown
disjunction Unknown Unknown = Unknown

-- AND of all, True where there are none
abbrev pub all_of : List Truth → Truth
all_of = fold conjunction True

-- OR of all, False where there are none
abbrev pub any_of : List Truth → Truth
any_of = fold disjunction False

-- IS TRUE, IS FALSE and IS UNKNOWN: the first truth is the second
abbrev pub is_truth : Truth → Truth → Bool
is_truth True True = true
is_truth False False = true
is_truth Unknown Unknown = true
is_truth _ _ = false
