use mathlib.Core.Path.{refl}
use borrow.Author.Tests.{eq-eqb, ne_eqb}
use Rattle.headers.proofs.HeaderLaws.{kind_is}
use Rattle.headers.proofs.header_kind.Goals as goal

pub returns-then-kind-eq-MEASURED : goal.returns-then-kind-eq-MEASURED
returns-then-kind-eq-MEASURED c = kind_is _ c.kind_of-kind.result _ _ _ (rw (eq-eqb _ 0 c.if-kind-eq-MEASURED.true) refl) c.kind_of-kind.ensures c.catalogue_names-listed.ensures c.catalogue_kinds-of.ensures

pub returns-else-kind-eq-MEASURED : goal.returns-else-kind-eq-MEASURED
returns-else-kind-eq-MEASURED c = kind_is _ c.kind_of-kind.result _ _ _ (rw (ne_eqb _ 0 c.if-kind-eq-MEASURED.false) refl) c.kind_of-kind.ensures c.catalogue_names-listed.ensures c.catalogue_kinds-of.ensures
