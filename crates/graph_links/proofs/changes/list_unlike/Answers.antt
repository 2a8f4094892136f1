use Rattle.std.proofs.Common.{◌≡◌, ◌++◌, List, [], sym, subst, ◌∙◌}
use Rattle.std.specs.Prelude.{◌↔◌, ◌⊎◌, Contains}
use Rattle.std.specs.Vec.Iter.{into_iter_items}
use Rattle.std.proofs.lemmas.List.{nil_from_length}
use Rattle.graph_links.specs.declared.link.GraphLink.{GraphLink}
use Rattle.graph_links.specs.Pairs.{AreApart}
use Rattle.graph_links.proofs.Apart.{apart_given, apart_end}
use Rattle.graph_links.proofs.Linking.{unlike_more, unlike_all}
use Rattle.graph_links.proofs.changes.list_unlike.Goals as goal

pub loop-link-init : goal.loop-link-init
loop-link-init c =
    let gives = c.into_iter-link-iterator.ensures.into_iter_gives.0 in
    let old = c.args.links.now.items in
    record {
      unlike = subst
          (λ (ls : List GraphLink). (k : GraphLink) → (Contains old k ⊎ (Contains ls k × (Contains c.args.others.now k → ⊥))) ↔ (Contains old k ⊎ (Contains c.args.has.items k × (Contains c.args.others.now k → ⊥))))
          (sym gives) (λ k. (λ h. h, λ h. h));
      apart = λ apart. subst (λ (ls : List GraphLink). AreApart (old ++ ls)) (sym gives) apart;
    }

pub loop-link-preserved : goal.loop-link-preserved
loop-link-preserved c = record {
  unlike =
      unlike_more c.args.others.now c.args.links.now.items c.args.has.items (into_iter_items c.next.new.self) c.loop-link.links.items c.list_unless.new.links.items (into_iter_items c.loop-link.link-iterator) c.in-Some.link
      c.in-Some.ensures.steps.0 c.loop-link.invariant.unlike c.in_ok-list_unless.ensures.unlike;
  apart = λ apart. apart_given c.loop-link.links.items c.list_unless.new.links.items (into_iter_items c.next.new.self) (into_iter_items c.loop-link.link-iterator) c.in-Some.link
      c.in-Some.ensures.steps.0 c.in_ok-list_unless.ensures.once (c.loop-link.invariant.apart apart);
}

pub returns-clause-unlike : goal.returns-clause-unlike
returns-clause-unlike c =
    let rest = into_iter_items c.loop-link.link-iterator in
    let done : rest ≡ [] = nil_from_length rest (sym c.loop-link.link-iterator.rest.ok.0 ∙ c.in-None.ensures.steps.0) in
    unlike_all c.args.others.now c.args.links.now.items c.args.has.items rest c.loop-link.links.items done c.loop-link.invariant.unlike

pub returns-clause-apart : goal.returns-clause-apart
returns-clause-apart c apart =
    let rest = into_iter_items c.loop-link.link-iterator in
    let done : rest ≡ [] = nil_from_length rest (sym c.loop-link.link-iterator.rest.ok.0 ∙ c.in-None.ensures.steps.0) in
    apart_end c.loop-link.links.items rest done (c.loop-link.invariant.apart apart)
