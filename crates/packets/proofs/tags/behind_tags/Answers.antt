use Rattle.std.proofs.Common.{List, ℕ, rules}
use Rattle.packets.specs.Frames.{IsBehindTag}
use Rattle.packets.proofs.Chained.{not_found}
use Rattle.packets.proofs.TagsOff.{tag_on, tag_off, no_tags, empty_tags, shorter}
use Rattle.packets.proofs.tags.behind_tags.Goals as goal

pub loop-more-smaller : goal.loop-more-smaller
loop-more-smaller c =
    let one : IsBehindTag c.loop-more.rest.now c.in-Some.more.now = (c.behind_tag.ensures c.in-Some.more.now).0 (search rules) in
    shorter c.loop-more.rest.now c.in-Some.more.now one

pub loop-more-preserved : goal.loop-more-preserved
loop-more-preserved c = λ packet.
    let one : IsBehindTag c.loop-more.rest.now c.in-Some.more.now = (c.behind_tag.ensures c.in-Some.more.now).0 (search rules) in (
      λ h. (c.loop-more.invariant packet).0 (tag_on _ _ packet one h),
      λ h. tag_off _ _ packet one ((c.loop-more.invariant packet).1 h),
    )

pub returns : goal.returns
returns c = λ packet.
    let missing : (rest : List ℕ) → IsBehindTag c.loop-more.rest.now rest → ⊥ =
    λ rest one. not_found c.behind_tag.result rest (search rules) ((c.behind_tag.ensures rest).1 one) in (
      λ e. (c.loop-more.invariant packet).0 (empty_tags _ packet ((c.behind_type.ensures packet).0 e)),
      λ h. (c.behind_type.ensures packet).1 (no_tags _ packet missing ((c.loop-more.invariant packet).1 h)),
    )
