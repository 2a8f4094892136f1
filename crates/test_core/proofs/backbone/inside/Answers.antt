-- The one area's tree belongs to its database.
use Rattle.std.proofs.Common.{[], ◌∷◌, sym, subst}
use Rattle.ospf_types.proofs.InOrder.{only_item}
use Rattle.vertex_graph.specs.Up.{Up}
use Rattle.area_trees.specs.Areas.{IsAreaTree}
use Rattle.intra.specs.Inputs.{AreaValue}
use Rattle.test_core.proofs.backbone.inside.Goals as goal

pub build-requires-2 : goal.build-requires-2
build-requires-2 c = λ a there.
    let up : Up = record { id = 1; address = c.args.address } in
    (up ∷ [], subst (λ (x : AreaValue). IsAreaTree 167772161 x.lsas (up ∷ []) x.tree) (sym (only_item _ a there)) c.in_ok-tree.ensures.right)
