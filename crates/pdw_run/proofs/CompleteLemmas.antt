-- A run that meets no fault is done, or wants memory; one that cannot be done is refused, or wants memory.
use Rattle.std.proofs.Common.{◌≡◌, ◌⊎◌, ℕ, List, refl, inl, inr, subst}
use Rattle.pdw_outside.specs.Faults.{Rose}
use Rattle.pdw_run.specs.declared.status.Status.{Status}
use Rattle.pdw_run.specs.declared.status.Status.TheVariants as status
use Rattle.pdw_run.specs.Output.{CountsWriting, End, Held, IsRefusedOnly, MeetsNoFault, Outputs, Tells}
use Rattle.pdw_run.specs.Trace.{Trace}
use Rattle.pdw_run.specs.Words.{AskRun}

-- where the words ask for a run that ends as its status tells
pub Done-or-Memory : (held : Held) (before after : List ℕ → ℕ) (words : List (List ℕ)) (nodes : ℕ) (script : List ℕ) (trace : Trace) (end : End) (earlier later : ℕ) (now : Status)
    → AskRun words nodes script → Tells now before after end → Outputs held nodes script end trace → CountsWriting now earlier later
    → MeetsNoFault held before after words → ¬ (Rose earlier later) → (now ≡ status.Done) ⊎ (now ≡ status.Memory)
Done-or-Memory held before after words nodes script trace end earlier later status.Done asks tells outputs counts none quiet = inl refl
Done-or-Memory held before after words nodes script trace end earlier later status.Refused asks tells outputs counts none quiet =
    absurd ((none nodes script asks).0 trace (subst (λ (e : End). Outputs held nodes script e trace) tells outputs))
Done-or-Memory held before after words nodes script trace end earlier later status.BadWords asks tells outputs counts none quiet = absurd tells
Done-or-Memory held before after words nodes script trace end earlier later status.ReadFault asks tells outputs counts none quiet =
    absurd ((none nodes script asks).1 tells.0 (trace, subst (λ (e : End). Outputs held nodes script e trace) tells.1 outputs) tells.2)
Done-or-Memory held before after words nodes script trace end earlier later status.WriteFault asks tells outputs counts none quiet = absurd (quiet counts)
Done-or-Memory held before after words nodes script trace end earlier later status.Memory asks tells outputs counts none quiet = inr refl

-- where no lawful output is finished
pub Refused-or-Memory : (held : Held) (before after : List ℕ → ℕ) (words : List (List ℕ)) (nodes : ℕ) (script : List ℕ) (trace : Trace) (end : End) (earlier later : ℕ) (now : Status)
    → AskRun words nodes script → Tells now before after end → Outputs held nodes script end trace → CountsWriting now earlier later
    → IsRefusedOnly held before after words → ¬ (Rose earlier later) → (now ≡ status.Refused) ⊎ (now ≡ status.Memory)
Refused-or-Memory held before after words nodes script trace end earlier later status.Done asks tells outputs counts none quiet =
    absurd ((none nodes script asks).0 trace (subst (λ (e : End). Outputs held nodes script e trace) tells outputs))
Refused-or-Memory held before after words nodes script trace end earlier later status.Refused asks tells outputs counts none quiet = inl refl
Refused-or-Memory held before after words nodes script trace end earlier later status.BadWords asks tells outputs counts none quiet = absurd tells
Refused-or-Memory held before after words nodes script trace end earlier later status.ReadFault asks tells outputs counts none quiet =
    absurd ((none nodes script asks).1 tells.0 (trace, subst (λ (e : End). Outputs held nodes script e trace) tells.1 outputs) tells.2)
Refused-or-Memory held before after words nodes script trace end earlier later status.WriteFault asks tells outputs counts none quiet = absurd (quiet counts)
Refused-or-Memory held before after words nodes script trace end earlier later status.Memory asks tells outputs counts none quiet = inr refl
