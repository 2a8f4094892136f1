use Rattle.std.proofs.Common.{◌++◌, [], ◌∷◌, List, take, sym, ap, ◌∙◌, append_assoc}
use Rattle.std.proofs.lemmas.List.{append-nil}
use Rattle.ospf_types.specs.declared.key.Dest.{Dest}
use Rattle.ospf_types.specs.declared.key.Dest.TheVariants.{Router}
use Rattle.calculation.specs.Followed.{routers_in}
use Rattle.calculation.proofs.Networks.{one_router_more}
use Rattle.calculation.proofs.calculation.push_routers.Goals.{in-Router+in_ok-push, in_default}
use Rattle.calculation.proofs.calculation.push_routers.Goals as goal

pub loop-dest-preserved : goal.loop-dest-preserved
loop-dest-preserved c =
    let i = c.loop-dest.dest-index in
    let d : Dest = c.dest-item.result in
    let before : List Dest = c.args.dests.now.items in
    let so_far : List Dest = routers_in (take i c.args.among.now) in
    let more = one_router_more c.args.among.now i d c.loop-dest-test.true c.dest-item.is in
    elim c.match-dest.branch [
      | in-Router+in_ok-push w ↦
          ap (λ v. v.items) w.dests-is ∙ w.in_ok-push.ensures.items ∙ ap (λ (ds : List Dest). ds ++ Router w.in-Router.router ∷ []) c.loop-dest.invariant
          ∙ append_assoc before so_far (Router w.in-Router.router ∷ [])
          ∙ ap (λ (e : Dest). before ++ (so_far ++ routers_in (e ∷ []))) (sym w.in-Router.is) ∙ ap (λ (ds : List Dest). before ++ ds) (sym more)
      | in_default w ↦
          ap (λ v. v.items) w.dests-is ∙ c.loop-dest.invariant
          ∙ ap (λ (ds : List Dest). before ++ ds) (sym (append-nil so_far) ∙ ap (λ (e : Dest). so_far ++ routers_in (e ∷ [])) (sym w.in_default.is) ∙ sym more)
    ]
