use Rattle.std.proofs.Common.{◌≡◌, ◌<◌, ◌+◌, ◌⊎◌, ◌∷◌, List, drop, length, sym, ap, subst, ◌∙◌}
use Rattle.std.specs.Prelude.{◌↔◌, Contains}
use Rattle.std.proofs.lemmas.List.{drop_all, drop_more}
use Rattle.std.proofs.lemmas.Result.{on_ok_weaker}
use Rattle.graph_links.specs.declared.link.GraphLink.{GraphLink}
use Rattle.graph_links.proofs.Apart.{apart_given, apart_end}
use Rattle.graph_links.proofs.ByCost.{unlike_others}
use Rattle.graph_links.proofs.Taking.{missing_all, missing_more, missing_none}
use Rattle.graph_links.proofs.changes.list_missing.Goals as goal

pub returns-then-others-gt-FEW-clause-missing : goal.returns-then-others-gt-FEW-clause-missing
returns-then-others-gt-FEW-clause-missing c =
    let old = c.args.links.now.items in
    let new = c.list_unlike.new.links.items in
    let has = c.in_ok-copies-2.field-0.items in
    let sorted = c.by_cost-others.result.items in
    let others = c.in_ok-copies.field-0.items in
    on_ok_weaker c.list_unlike.result
    (λ (grown : (l : GraphLink) → Contains new l ↔ (Contains old l ⊎ (Contains has l × (Contains c.as_slice.result.now l → ⊥)))).
    let are = unlike_others old has new sorted others c.by_cost-others.ensures.same (subst (λ (ls : List GraphLink). (l : GraphLink) → Contains new l ↔ (Contains old l ⊎ (Contains has l × (Contains ls l → ⊥)))) c.as_slice.ensures.value grown) in
    subst (λ (p : List GraphLink × List GraphLink). (l : GraphLink) → Contains new l ↔ (Contains old l ⊎ (Contains p.0 l × (Contains p.1 l → ⊥)))) (λ k. (c.in_ok-copies-2.ensures k, c.in_ok-copies.ensures k)) are)
    c.list_unlike.ensures.unlike

pub loop-link-init : goal.loop-link-init
loop-link-init c = record {
  missing = missing_none c.args.others.now c.args.links.now.items c.args.has.now;
  apart = λ apart. apart;
}

pub loop-link-preserved : goal.loop-link-preserved
loop-link-preserved c =
    let has : List GraphLink = c.args.has.now in
    let others : List GraphLink = c.args.others.now in
    let i = c.loop-link.link-index in
    let x : GraphLink = c.link-item.result in
    let lt : i < length has = c.loop-link-test.true in
    let mid : List GraphLink = c.loop-link.links.items in
    let new : List GraphLink = c.list_unless_same.new.links.items in
    let steps : drop i has ≡ x ∷ drop (i + 1) has = drop_more has i x lt ∙ ap (λ (l : GraphLink). l ∷ drop (i + 1) has) (sym c.link-item.is) in
    record {
      missing = missing_more others c.args.links.now.items has i x mid new lt c.loop-link.invariant.missing
          (subst (λ (k : GraphLink). (l : GraphLink) → Contains new l ↔ (Contains mid l ⊎ ((l ≡ k) × (Contains others l → ⊥)))) c.link-item.is c.in_ok-list_unless_same.ensures.unlike);
      apart = λ apart. apart_given mid new (drop (i + 1) has) (drop i has) x steps c.in_ok-list_unless_same.ensures.once (c.loop-link.invariant.apart apart);
    }

pub returns-clause-missing : goal.returns-clause-missing
returns-clause-missing c = missing_all c.args.others.now c.args.links.now.items c.args.has.now c.loop-link.link-index c.loop-link.links.items c.loop-link-test.false c.loop-link.invariant.missing

pub returns-clause-apart : goal.returns-clause-apart
returns-clause-apart c apart =
    let rest : List GraphLink = drop c.loop-link.link-index c.args.has.now in
    apart_end c.loop-link.links.items rest (drop_all c.loop-link.link-index c.args.has.now c.loop-link-test.false) (c.loop-link.invariant.apart apart)
