-- What the code holds of the columns that a reference fits.
use Rattle.pdw_walk.specs.Lookup.{Found, nothing, one, several}
use Rattle.pdw_walk.specs.declared.entry.Entry.{Entry}
use Rattle.pdw_resolve.specs.declared.lookup.Found.{Found as Held}
use Rattle.pdw_resolve.specs.declared.lookup.Found.TheVariants as held

abbrev pub seen : Held → Found
seen held.None = nothing
seen (held.One entry) = one entry.now
seen held.Several = several

-- with one more that fits
abbrev pub and_one : Found → Entry → Found
and_one nothing entry = one entry
and_one (one other) entry = several
and_one several entry = several
