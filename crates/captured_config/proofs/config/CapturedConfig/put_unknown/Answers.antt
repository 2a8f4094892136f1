use Rattle.std.proofs.Common.{◌≡◌, ◌∙◌, ◌++◌, List, ℕ, OnOk, ap, string_bytes, subst}
use Rattle.captured_config.specs.Areas.{ascending}
use Rattle.captured_config.specs.Facts.{Facts, facts_of}
use Rattle.captured_config.specs.Unknown.{unknown_by, unknown_text}
use Rattle.captured_config.proofs.KeptFacts.{same_unknown}
use Rattle.captured_config.proofs.config.CapturedConfig.put_unknown.Goals as goal

pub returns : goal.returns
returns c = λ captured are.
    let ids = c.deref.result.now in
    let areas = c.args.areas.now in
    let same : unknown_by c.args.self.now ids ≡ unknown_text captured areas =
    ap (λ (f : Facts). unknown_by f ids) are ∙ ap (unknown_by (facts_of captured)) (c.deref.ensures.value ∙ c.in_ok-ids.ensures) ∙ same_unknown captured (ascending areas) in
    subst (λ (u : List ℕ). OnOk c.put_unknown_of.result (string_bytes c.put_unknown_of.new.text ≡ string_bytes c.args.text.now ++ u)) same c.put_unknown_of.ensures
