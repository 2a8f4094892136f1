use Rattle.std.proofs.Common.{◌≡◌, ◌++◌, ℕ, List, OnOk, string_bytes, subst}
use Rattle.change_log.proofs.Texts.{refusal_line}
use Rattle.change_log.proofs.lines.put_refused.Goals as goal

pub returns : goal.returns
returns c =
    subst (λ (line : List ℕ). OnOk c.put_refused.result (string_bytes c.put_refused.new.text ≡ string_bytes c.args.text.now ++ line))
    (refusal_line c.args.at.now.wanted.format c.args.at.now.number c.args.refusal) c.put_refused.ensures
