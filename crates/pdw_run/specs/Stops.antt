-- Why a statement gives no text.
use Rattle.std.specs.Prelude.{◌≡◌, ℕ, List, Option, Some}
use Rattle.pdw_syntax.specs.declared.statement.Statement.{Statement}
use Rattle.pdw_engine.specs.Executes.{StopsWork}
use Rattle.pdw_engine.specs.Plain.{Plain}
use Rattle.pdw_engine.specs.declared.stop.Stop.{Stop as EngineStop}
use Rattle.pdw_engine.specs.declared.stop.Stop.TheVariants as engine
use Rattle.pdw_base.specs.declared.limits.TheConstants.{MOST_FILE_BYTES}
use Rattle.pdw_form.specs.declared.judged.Judged.{Judged}
use Rattle.pdw_outside.specs.Faults.{Rose}
use Rattle.pdw_outside.specs.Whole.{IsLongerThan}
use Rattle.pdw_run.specs.declared.stop.Stop.{Stop}
use Rattle.pdw_run.specs.declared.stop.Stop.TheVariants.{Refused, TooLong, Unread, Memory}
use Rattle.pdw_run.specs.Output.{Held, Refuses, Wants}
use Rattle.pdw_run.specs.Refusal.{long_file_line}
use Rattle.pdw_run.specs.RefusalLine.{refusal_line}

-- what the engine says, in the words of a script
abbrev pub stop_of : EngineStop → Stop
stop_of (engine.Refused fault) = Refused fault
stop_of engine.Memory = Memory

-- what was judged is not done with the file that it wants: it is refused, or memory was wanted
abbrev pub StopsAs : Plain → Judged → Option (List ℕ) → Stop → Type 0
StopsAs old work file stop = (told : EngineStop) × StopsWork old work file told × (stop ≡ stop_of told)

-- the file that is wanted is not used: it is too long, or it was not read and its count rose, or memory was wanted
abbrev pub StopsFile : Held → (List ℕ → ℕ) → (List ℕ → ℕ) → Option (List ℕ) → Stop → Type 0
StopsFile held before after wanted (Refused fault) = ⊥
StopsFile held before after wanted TooLong = (file : List ℕ) × (wanted ≡ Some file) × IsLongerThan MOST_FILE_BYTES (held file) × (after ≡ before)
StopsFile held before after wanted Unread = (file : List ℕ) × (wanted ≡ Some file) × Rose (before file) (after file)
StopsFile held before after wanted Memory = after ≡ before

-- it is refused, as whatever statement it is; or its file is too long; or that was not read, and its count rose; or memory was wanted
abbrev pub Stops : Held → (List ℕ → ℕ) → (List ℕ → ℕ) → Plain → Statement → Stop → Type 0
Stops held before after old statement (Refused fault) = ((k : ℕ) → Refuses held k old statement (refusal_line k fault)) × (after ≡ before)
Stops held before after old statement TooLong = ((k : ℕ) → Refuses held k old statement (long_file_line k)) × (after ≡ before)
Stops held before after old statement Unread = (file : List ℕ) × Wants old statement file × Rose (before file) (after file)
Stops held before after old statement Memory = after ≡ before
