-- The router is reported, or the same is kept of it as before.
use Rattle.std.proofs.Common.{ℕ, Option, ap, inl, inr, refl, sym, ◌∙◌}
use Rattle.std.specs.FinMap.{get}
use Rattle.ospf_types.specs.declared.entry.Vertex.TheVariants.{Router}
use Rattle.intra.specs.Inputs.{distance_at, hops_at}
use Rattle.intra.specs.Intras.{AreaIntraValue}
use Rattle.intra.specs.ReachedRouter.{reached_by}
use Rattle.intra.proofs.Following.{updated_one}
use Rattle.intra.proofs.area.AreaIntra.update_router.Goals as goal

pub returns-then-not-branch : goal.returns-then-not-branch
returns-then-not-branch c =
    let a = c.args.rooted.now.area.now in
    let router = c.args.router in
    let by = λ (flags : Option ℕ). reached_by c.args.rooted.now.root router flags (distance_at a (Router router)) (hops_at a (Router router)) in
    let was = λ (r : ℕ). ap (λ (w : AreaIntraValue). get w.reached r) c.self.view_is in
    let put = c.in_ok-update.ensures in
    updated_one c.args.rooted.now.root a router c.args.self.now _ c.args.routers.now.items c.args.routers.now.items (ap (λ (w : AreaIntraValue). w.id) c.self.view_is) (ap (λ (w : AreaIntraValue). w.index) c.self.view_is)
    (put.here ∙ c.in_ok-fresh.ensures ∙ ap by c.requires) (λ r other. put.others r other ∙ was r) (inl (refl, put.stays c.if-not-branch.true ∙ was router))

pub returns : goal.returns
returns c =
    let a = c.args.rooted.now.area.now in
    let router = c.args.router in
    let by = λ (flags : Option ℕ). reached_by c.args.rooted.now.root router flags (distance_at a (Router router)) (hops_at a (Router router)) in
    let was = λ (r : ℕ). ap (λ (w : AreaIntraValue). get w.reached r) c.self.view_is in
    let put = c.in_ok-update.ensures in
    updated_one c.args.rooted.now.root a router c.args.self.now _ c.args.routers.now.items c.push.new.self.items (ap (λ (w : AreaIntraValue). w.id) c.self.view_is) (ap (λ (w : AreaIntraValue). w.index) c.self.view_is)
    (put.here ∙ c.in_ok-fresh.ensures ∙ ap by c.requires) (λ r other. put.others r other ∙ was r) (inr (c.in_ok-push.ensures.items, λ same. put.differs.0 c.if-not-branch.false (was router ∙ sym same)))
