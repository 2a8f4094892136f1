-- The offers of the vertex are pushed.
use Rattle.std.proofs.Common.{◌≡◌, List, ap, sym, subst, ◌∙◌}
use Rattle.std.specs.List.{Contains}
use Rattle.std.specs.FinMap.{get}
use Rattle.ospf_types.specs.declared.entry.Vertex.{Vertex}
use Rattle.intra.specs.declared.offered.OfferedPrefix.{OfferedPrefix}
use Rattle.intra.specs.Intras.{AreaIntraValue}
use Rattle.intra.specs.Indexes.{offers_of}
use Rattle.intra.proofs.area.AreaIntra.name_prefixes.Goals as goal

pub returns-in_ok-push_prefixes-in-Some-clause-offered : goal.returns-in_ok-push_prefixes-in-Some-clause-offered
returns-in_ok-push_prefixes-in-Some-clause-offered c =
    let here : c.offers.result.now ≡ offers_of (get c.args.self.now.index.offered c.args.vertex) =
    c.offers.ensures.value ∙ ap offers_of (c.in-Some.ensures ∙ ap (λ (a : AreaIntraValue). get a.index.offered c.args.vertex) c.self.view_is) in
    record {
      kept = c.in_ok-push_prefixes-in-Some.ensures.kept;
      offered = λ v e p metric d.
          c.in_ok-push_prefixes-in-Some.ensures.offered p metric (subst (λ (os : List OfferedPrefix). Contains os (record { prefix = p; metric = metric }))
          (ap (λ (w : Vertex). offers_of (get c.args.self.now.index.offered w)) e ∙ sym here) d);
    }
