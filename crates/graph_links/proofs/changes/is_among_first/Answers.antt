use Rattle.std.proofs.Common.{◌≡◌, ⊎_elim, List, sym, subst}
use Rattle.std.specs.Prelude.{Contains}
use Rattle.std.proofs.lemmas.List.{take_all}
use Rattle.std.proofs.lemmas.Bool.{false≢true}
use Rattle.ospf_types.proofs.Elements.{no_element}
use Rattle.graph_links.specs.declared.link.GraphLink.{GraphLink}
use Rattle.graph_links.proofs.ByCost.{none_behind}
use Rattle.graph_links.proofs.Growing.{more}
use Rattle.graph_links.proofs.changes.is_among_first.Goals as goal

pub loop-other-init : goal.loop-other-init
loop-other-init c = no_element c.args.link.now

pub loop-other-preserved : goal.loop-other-preserved
loop-other-preserved c h =
    ⊎_elim c.loop-other.invariant (λ (e : c.args.link.now ≡ c.other-item.result). false≢true (c.if-is_same.ensures.1 e))
    ((more c.args.others.now c.loop-other.other-index c.other-item.result c.loop-other-test.true (sym c.other-item.is) c.args.link.now).0 h)

pub returns-then-link-other : goal.returns-then-link-other
returns-then-link-other c = (
  λ t. absurd (false≢true t),
  λ h. absurd (none_behind c.args.others.now c.loop-other.other-index c.other-item.result c.args.link.now c.requires c.loop-other-test.true c.other-item.is c.if-link-other.true c.loop-other.invariant h),
)

pub returns : goal.returns
returns c = (
  λ t. absurd (false≢true t),
  λ h. absurd (c.loop-other.invariant (subst (λ (ls : List GraphLink). Contains ls c.args.link.now) (sym (take_all c.loop-other.other-index c.args.others.now c.loop-other-test.false)) h)),
)
