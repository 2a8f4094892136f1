use Rattle.std.proofs.Common.{refl}
use Rattle.recording.proofs.Pieces.{lsas_none, lsas_item, lsas_all}
use Rattle.recording.proofs.printing.append_has_lsas.Goals as goal

pub loop-scope-init : goal.loop-scope-init
loop-scope-init c = lsas_none _ _

pub loop-scope-preserved : goal.loop-scope-preserved
loop-scope-preserved c =
    let line = c.in_ok-append_has_lsa.ensures in
    lsas_item _ _ _ _ _ c.loop-scope-item.result c.loop-scope-test.true c.loop-scope-item.is c.loop-scope.invariant line.text line.form line.lsa

pub returns : goal.returns
returns c =
    let all = lsas_all _ _ c.args.lsas.now _ _ refl c.loop-scope-test.false c.loop-scope.invariant in
    record { text = all.0.text; forms = all.0.legal; lsas = all.1 }
