-- What a number stands for.
use Rattle.std.specs.Prelude.{◌==◌, ◌&&◌, Bool, false}
use Rattle.pdw_walk.specs.declared.entry.Slot.{Slot}
use Rattle.pdw_walk.specs.declared.entry.Slot.TheVariants.{Base, Made}

abbrev pub same_slot : Slot → Slot → Bool
same_slot (Base reference column) (Base other place) = (reference == other) && (column == place)
same_slot (Made number) (Made other) = number == other
same_slot _ _ = false
