use Rattle.std.proofs.Common.{◌+◌, Vec, Global, ℕ, List, take, refl, sym, ap, subst, inr}
use Rattle.std.specs.Prelude.{option_copied}
use Rattle.ospf_types.proofs.Elements.{contains_at}
use Rattle.ospf_types.specs.declared.prefix.Prefix.{Prefix}
use Rattle.explanation.specs.declared.offer.Offer.{Offer}
use Rattle.explanation.specs.declared.trace.Trace.{Trace}
use Rattle.explanation.specs.Giving.{AreOfEach}
use Rattle.explanation.specs.Groups.{AreOfNetwork}
use Rattle.explanation.specs.Networks.{IsTakenAmong, all_offers}
use Rattle.explanation.specs.Outside.{GivesTaken}
use Rattle.explanation.proofs.Forwarding.{gives_taken}
use Rattle.explanation.proofs.OfNetwork.{just_those}
use Rattle.explanation.proofs.OneFate.{one_fate, taken_among}
use Rattle.explanation.proofs.TraceLists.{adds_none, all_each, more_each, none_each}
use Rattle.explanation.proofs.layers.Layers.network_traces.Goals as goal
use Rattle.explanation.proofs.layers.Layers.network_traces.Goals.{then-is_taken+in_ok-push_route, else-is_taken}

pub loop-by-init : goal.loop-by-init
loop-by-init c = subst (λ (ts : List Trace). AreOfEach (GivesTaken c.args.self) (take 0 c.args.offers.now) ts) (sym c.new-traces.ensures.items) (none_each (GivesTaken c.args.self) c.args.offers.now)

pub loop-by-preserved : goal.loop-by-preserved
loop-by-preserved c =
    let w = c.args.self in
    let p = c.args.network in
    let all = all_offers w p.address in
    let offers = c.args.offers.now in
    let i = c.loop-by.by-index in
    let by = c.by-item.result in
    let r = c.rivals-rivals.result in
    let judged = c.judge-judged.result in
    let of = subst (AreOfNetwork p all) (sym c.requires.all) (just_those p all) in
    let is = (of by).0 (contains_at offers i by c.loop-by-test.true c.by-item.is) in
    elim c.if-is_taken.branch [
      | then-is_taken+in_ok-push_route v ↦
          let there = taken_among w c.requires.areas by p is.1 all offers of (option_copied r.internal) r.greatest r.least c.rivals-rivals.ensures judged c.judge-judged.ensures (c.is_taken.ensures.0 v.if-is_taken.true) in
          let taken = subst (λ (address : ℕ). IsTakenAmong w (all_offers w address) by) (sym (ap (λ (q : Prefix). q.address) is.1)) there in
          subst (λ (v : Vec Trace Global). AreOfEach (GivesTaken w) (take (i + 1) offers) v.items) (sym v.traces-is)
          (more_each (GivesTaken w) offers i by c.loop-by.traces.items v.push_route.new.traces.items c.loop-by-test.true c.by-item.is c.loop-by.invariant
          (gives_taken w by taken c.loop-by.traces.items v.push_route.new.traces.items v.in_ok-push_route.ensures))
      | else-is_taken v ↦
          subst (λ (v : Vec Trace Global). AreOfEach (GivesTaken w) (take (i + 1) offers) v.items) (sym v.traces-is)
          (more_each (GivesTaken w) offers i by c.loop-by.traces.items c.loop-by.traces.items c.loop-by-test.true c.by-item.is c.loop-by.invariant
          (adds_none (GivesTaken w by) c.loop-by.traces.items (inr (
            λ area e route taken.
                let there = subst (λ (address : ℕ). IsTakenAmong w (all_offers w address) by) (ap (λ (q : Prefix). q.address) is.1) taken in
                let t = c.is_taken.ensures.1 (one_fate w c.requires.areas by p is.1 all offers of (option_copied r.internal) r.greatest r.least c.rivals-rivals.ensures judged c.judge-judged.ensures area e route there) in
                let n = v.if-is_taken.false in
                absurd cc,
            refl,
          ))))
    ]

pub returns : goal.returns
returns c =
    subst (λ (os : List Offer). AreOfEach (GivesTaken c.args.self) os c.loop-by.traces.items) c.requires.all
    (all_each (GivesTaken c.args.self) c.args.offers.now c.loop-by.by-index c.loop-by.traces.items c.loop-by-test.false c.loop-by.invariant)
