use Rattle.std.proofs.Common.{◌≡◌, Some, length, refl, sym, ap, ◌∙◌}
use Rattle.std.specs.Prelude.{slice_get}
use Rattle.std.proofs.lemmas.Option.{slice_get_read}
use Rattle.abr_c.proofs.Flat.{found_here, looked_on}
use Rattle.abr_c.proofs.due_changes.change_at.Goals as goal

pub returns-in-Some-get : goal.returns-in-Some-get
returns-in-Some-get c =
    let metrics = c.in-Some.metrics.now in
    let left = c.loop-place.left in
    let change = c.in-Some-get.change.now in
    let stands = c.in-Some-get.ensures.lookup.3 in
    let there : slice_get metrics left ≡ Some change = slice_get_read metrics (length metrics) left change refl stands.0 (stands.1 change) in
    ap (λ x. Some x) c.change_of.ensures
    ∙ found_here c.args.changes.now c.args.n c.loop-place.left c.loop-place.place c.in-Some.area c.in-Some.metrics.now (sym c.in-Some.ensures) c.loop-place.invariant change there

pub loop-place-preserved : goal.loop-place-preserved
loop-place-preserved c =
    looked_on c.args.changes.now c.args.n c.loop-place.left c.loop-place.place c.in-Some.area c.in-Some.metrics.now (sym c.in-Some.ensures) c.loop-place.invariant c.in_default-get.ensures.lookup.3
