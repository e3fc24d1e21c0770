-- What SET changes.
use Rattle.std.specs.Prelude.{ℕ, ◌≤◌}
use Rattle.pdw_engine.specs.declared.settings.Settings.{Settings}
use Rattle.pdw_move.specs.Cost.{AreInRange}
use Rattle.pdw_move.specs.declared.cost.Constants.{Constants}
use Rattle.pdw_syntax.specs.declared.statement.CostPart.{CostPart}
use Rattle.pdw_syntax.specs.declared.statement.CostPart.TheVariants as part

-- where nothing was set
abbrev pub usual_settings : Settings
usual_settings = record {
  budget = 20000;
  constants = record { reader = 1; hash_reader = 2; network = 4; writer = 1; bulk = 3; control = 2 };
}

-- the budget is 1 to 100,000, and each constant 1 to 1,000
pub record AreAllowed (settings : Settings) : Type 0 where
  pub budget : (1 ≤ settings.budget) × (settings.budget ≤ 100000)
  pub constants : AreInRange settings.constants

-- with another budget
abbrev pub with_budget : ℕ → Settings → Settings
with_budget amount settings = record settings { budget = amount }

-- one constant is another
abbrev pub constants_with : CostPart → ℕ → Constants → Constants
constants_with part.Reader amount constants = record constants { reader = amount }
constants_with part.HashReader amount constants = record constants { hash_reader = amount }
constants_with part.Network amount constants = record constants { network = amount }
constants_with part.Writer amount constants = record constants { writer = amount }
constants_with part.Bulk amount constants = record constants { bulk = amount }
constants_with part.Control amount constants = record constants { control = amount }

abbrev pub with_constant : CostPart → ℕ → Settings → Settings
with_constant part amount settings = record settings { constants = constants_with part amount settings.constants }
