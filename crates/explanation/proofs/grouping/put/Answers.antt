use Rattle.std.proofs.Common.{◌≡◌, [], ◌∷◌, ◌++◌, get_or, refl, ap, ◌∙◌}
use Rattle.std.proofs.lemmas.List.{get_or_default}
use Rattle.explanation.specs.declared.grouping.Group.{Group}
use Rattle.explanation.proofs.grouping.put.Goals as goal

pub returns : goal.returns
returns c =
    let groups = c.args.groups.now in
    let old = c.index-groups-place.result in (
      record { network = (get_or groups c.args.place old).network; offers = c.push.new.self },
      refl,
      λ d.
          let same : get_or groups c.args.place old ≡ get_or groups c.args.place d = get_or_default groups c.args.place old d c.requires in (
            ap (λ (g : Group). g.network) same,
            c.in_ok-push.ensures.items ∙ ap (λ (g : Group). g.offers.items ++ c.args.offer.now ∷ []) same,
          ),
    )
