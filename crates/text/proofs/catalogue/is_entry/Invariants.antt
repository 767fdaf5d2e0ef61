use mathlib.Core.Path.{◌≡◌}
use Rattle.line_bytes.specs.Bytes.{equal}
use Rattle.text.specs.Catalogue.{entry_name}
use Rattle.text.proofs.EntryLaws.{same_from}
use Rattle.text.proofs.catalogue.is_entry.Given as goal

abbrev pub invariant-loop-j : goal.invariant-loop-j
invariant-loop-j l = equal (entry_name l.listed l.k) l.name ≡ same_from l.listed l.name l.k l.j
