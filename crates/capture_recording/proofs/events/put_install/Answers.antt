use Rattle.std.proofs.Common.{◌≡◌, Bool, true, rules, string_bytes, subst, sym}
use Rattle.capture_recording.specs.Events.{AreAppended, install_events}
use Rattle.capture_recording.proofs.Gained.{appended_purge}
use Rattle.capture_recording.proofs.events.put_install.Goals as goal

pub returns : goal.returns
returns c =
    let purges : c.args.purges ≡ true = search rules in
    let both =
    appended_purge _ _ _ c.args.scope c.args.lsa c.key-key.result c.key-key.ensures.value c.key-key.ensures.legal c.in_ok-put_installed.ensures c.in_ok-put_purged.ensures in
    subst (λ (p : Bool). AreAppended (string_bytes c.args.text.now) (string_bytes c.put_purged.new.text) (install_events c.args.scope c.args.lsa p)) (sym purges) both
