use Rattle.std.proofs.Common.{◌≡◌, drop}
use Rattle.pdw_outside.specs.Entries.{entries, content_at}
use Rattle.pdw_outside.proofs.content.find_content.Given as goal

abbrev pub invariant-loop-file : goal.invariant-loop-file
invariant-loop-file l = content_at (entries (drop l.file-index l.files)) l.name ≡ content_at (entries l.files) l.name
