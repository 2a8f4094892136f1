use Rattle.std.proofs.Common.{◌≡◌, true, false, refl}
use Rattle.advertised_index.specs.declared.index_key.IndexKey.TheVariants.{To}
use Rattle.advertised_index.proofs.Covering.{none_among}
use Rattle.advertised_index.proofs.NotedGroups.{noted_just}
use Rattle.advertised_index.proofs.lsas_by_key.LsasByKey.has_dest.Goals as goal

pub returns : goal.returns
returns c =
    let just = noted_just c.self.inside.members.keys c.args.self.now c.self.inside.noted c.self.invariant.1 c.self.view_is (To c.args.dest) tt in
    (λ yes. just.0 (c.has_dest.ensures.0 yes), λ has. c.has_dest.ensures.1 (just.1 has))

pub returns-then-not-may_have_dest : goal.returns-then-not-may_have_dest
returns-then-not-may_have_dest c = (
  λ wrong. absurd (let e : false ≡ true = wrong in cc),
  λ has. absurd (none_among c.self.inside.members.keys c.args.self.now c.self.inside.coarse (To c.args.dest) c.self.invariant.2 c.self.view_is (c.if-not-may_have_dest.ensures refl) has),
)
