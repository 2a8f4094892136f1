use Rattle.std.proofs.Common.{[], ◌∷◌, false, refl, sym, subst}
use Rattle.recording.specs.declared.header.Setting.{Setting}
use Rattle.recording.specs.declared.version.Version.TheVariants.{One}
use Rattle.recording.specs.Forms.{VersionLine, RouterLine}
use Rattle.recording.specs.Left.{HasSettingAt, HasReadAt}
use Rattle.recording.proofs.Beginning.{spelled_alone}
use Rattle.recording.proofs.parsing.read_setting.Goals as goal

pub returns-in-One-clause-read : goal.returns-in-One-clause-read
returns-in-One-clause-read c =
    let setting : Setting = record { router = c.args.router; compat = false; serial = 0 } in
    let read : HasReadAt One c.args.lines (VersionLine One ∷ RouterLine c.args.router ∷ []) = subst (λ v. HasReadAt v c.args.lines (VersionLine v ∷ RouterLine c.args.router ∷ [])) c.in-One.is c.requires in
    subst (λ v. HasSettingAt v c.args.lines setting) (sym c.in-One.is) (read, spelled_alone One setting (λ _. refl) (λ _. refl))
