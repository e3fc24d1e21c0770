-- The events in their order: reads, flushes, deliveries, copies, each by its first and second node.
use Rattle.std.specs.Prelude.{◌≡◌, ⊤, ℕ, true, List, [], ◌∷◌, ◌++◌, filter, map}
use Rattle.std.specs.List.{flat_map}
use Rattle.pdw_move.specs.Placed.{all_nodes}
use Rattle.pdw_machine.specs.declared.event.Event.{Event}
use Rattle.pdw_machine.specs.declared.event.Event.TheVariants.{Read, Flush, Deliver, Copy}
use Rattle.pdw_machine.specs.Machine.{Job, State, is_enabled, step}

abbrev pub all_events : ℕ → List Event
all_events n =
    map (λ from. Read from) (all_nodes n)
    ++ (flat_map (λ from. map (λ to. Flush from to) (all_nodes n)) (all_nodes n)
    ++ (flat_map (λ from. map (λ to. Deliver from to) (all_nodes n)) (all_nodes n)
    ++ map (λ to. Copy to) (all_nodes n)))

abbrev pub enabled_events : Job → State → List Event
enabled_events job s = filter (is_enabled job s) (all_events job.nodes)

-- the state after these events
abbrev pub replay : Job → List Event → State → State
replay job [] s = s
replay job (event ∷ events) s = replay job events (step job event s)

-- each event is enabled in the state that the earlier ones leave
abbrev pub IsRun : Job → State → List Event → Type 0
IsRun job s [] = ⊤
IsRun job s (event ∷ events) = (is_enabled job s event ≡ true) × IsRun job (step job event s) events
