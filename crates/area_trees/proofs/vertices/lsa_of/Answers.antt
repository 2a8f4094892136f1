use Rattle.std.proofs.Common.{Bor, Option, sym, subst}
use Rattle.std.proofs.lemmas.Option.{IfSome_then}
use Rattle.std.specs.Prelude.{IfSome, option_map}
use Rattle.lsa_codec.specs.declared.checked.Checked.{Checked}
use Rattle.ospf_types.specs.declared.entry.Vertex.{Vertex}
use Rattle.ospf_types.specs.declared.entry.Vertex.TheVariants.{Network}
use Rattle.area_trees.specs.Areas.{IsStanding, IsStandingKey}
use Rattle.ospf_types.specs.Lsa.{key_of}
use Rattle.area_trees.proofs.Handed.{none_stands, greatest_of, greatest_stands}
use Rattle.area_trees.proofs.vertices.lsa_of.Goals as goal

pub returns-in_err-router-in-Network-clause-body : goal.returns-in_err-router-in-Network-clause-body
returns-in_err-router-in-Network-clause-body c =
    let d = c.args.database.now.lsas in
    subst (λ (v : Vertex). IsStanding d v (option_map (λ (l : Bor Checked). l.now.body) c.from_residual.result)) (sym c.in-Network.is)
    (subst (λ (o : Option (Bor Checked)). IsStanding d (Network c.in-Network.id) (option_map (λ (l : Bor Checked). l.now.body) o)) (sym c.from_residual.ensures)
    (none_stands d c.args.networks.now c.requires c.in-Network.id c.in_err-router-in-Network.ensures.none))

pub returns-in_ok-router-in-Network-clause-body : goal.returns-in_ok-router-in-Network-clause-body
returns-in_ok-router-in-Network-clause-body c =
    let d = c.args.database.now.lsas in
    let found = c.usable-in-Network in
    subst (λ (v : Vertex). IsStanding d v (option_map (λ (l : Bor Checked). l.now.body) found.result)) (sym c.in-Network.is)
    (greatest_stands d c.args.networks.now c.requires c.in-Network.id c.in_ok-router-in-Network.router _ c.in_ok-router-in-Network.ensures.some found.ensures.body)

pub returns-in_ok-router-in-Network-clause-key : goal.returns-in_ok-router-in-Network-clause-key
returns-in_ok-router-in-Network-clause-key c =
    let d = c.args.database.now.lsas in
    let found = c.usable-in-Network in
    let greatest = greatest_of d c.args.networks.now c.requires c.in-Network.id c.in_ok-router-in-Network.router c.in_ok-router-in-Network.ensures.some in
    subst (λ (v : Vertex). IfSome found.result (λ (l : Bor Checked). IsStandingKey d v (key_of l.now))) (sym c.in-Network.is)
    (IfSome_then found.result found.ensures.own (λ l is. (c.in_ok-router-in-Network.router, greatest, is)))
