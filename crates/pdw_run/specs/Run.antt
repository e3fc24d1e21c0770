-- What the parts of a run leave: the end that their status tells, what was written, and the counts of faults.
use Rattle.std.specs.Prelude.{◌≡◌, ℕ, List, take, Option}
use Rattle.pdw_syntax.specs.declared.statement.Statement.{Statement}
use Rattle.pdw_outside.specs.Faults.{Rose}
use Rattle.pdw_outside.specs.Sink.{Adds}
use Rattle.pdw_run.specs.declared.status.Status.{Status}
use Rattle.pdw_run.specs.declared.status.Status.TheVariants as status
use Rattle.pdw_run.specs.Output.{End, EndsIn, Gives, Held, Tells}
use Rattle.pdw_engine.specs.Plain.{Plain}
use Rattle.pdw_run.specs.Trace.{Trace}

-- the line of a refusal was written, or cut where the sink failed
abbrev pub EndsRefused : Status → Option (List ℕ) → Option (List ℕ) → ℕ → ℕ → List ℕ → Type 0
EndsRefused status.Done old new before after line = ⊥
EndsRefused status.Refused old new before after line = Adds old new line × (after ≡ before)
EndsRefused status.BadWords old new before after line = ⊥
EndsRefused status.ReadFault old new before after line = ⊥
EndsRefused status.WriteFault old new before after line = (count : ℕ) × Adds old new (take count line) × Rose before after
EndsRefused status.Memory old new before after line = ⊥

-- this was written, and the script ends so
abbrev pub EndsBy : Status → (List ℕ → ℕ) → (List ℕ → ℕ) → (End → Trace → Type 0) → Option (List ℕ) → Option (List ℕ) → Type 0
EndsBy state before after writes old new = (end : End) × (trace : Trace) × Tells state before after end × writes end trace × Adds old new trace.text

-- statement k gave its text, which was written, or the script ends at it
abbrev pub Steps : Held → ℕ → Plain → Statement → Plain → (List ℕ → ℕ) → (List ℕ → ℕ) → Option (List ℕ) → Option (List ℕ) → Status → Type 0
Steps held k state statement next before after old new status.Done = (trace : Trace) × Gives held state statement trace next × Adds old new trace.text
Steps held k state statement next before after old new status.Refused = EndsBy status.Refused before after (EndsIn held k state statement) old new
Steps held k state statement next before after old new status.BadWords = EndsBy status.BadWords before after (EndsIn held k state statement) old new
Steps held k state statement next before after old new status.ReadFault = EndsBy status.ReadFault before after (EndsIn held k state statement) old new
Steps held k state statement next before after old new status.WriteFault = EndsBy status.WriteFault before after (EndsIn held k state statement) old new
Steps held k state statement next before after old new status.Memory = EndsBy status.Memory before after (EndsIn held k state statement) old new
