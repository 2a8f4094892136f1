use Rattle.std.proofs.Common.{◌≡◌, true, false, sym, subst}
use Rattle.std.specs.Prelude.{◌↔◌, IsTrue, Contains}
use Rattle.route_choice.proofs.DestOrder.{dests_equal}
use Rattle.advertised_index.proofs.NotedGroups.{none_in}
use Rattle.advertised_index.proofs.Sets.{dests_exact, dests_laws, found}
use Rattle.advertised_index.proofs.known_keys.KnownKeys.has_dest.Goals as goal

pub returns : goal.returns
returns c =
    subst (λ b. IsTrue b ↔ Contains c.args.self.now.dests.keys c.args.dest) (sym c.contains.ensures) (found dests_equal dests_exact dests_laws c.args.self.now.dests.keys c.args.dest)

pub returns-then-is_empty : goal.returns-then-is_empty
returns-then-is_empty c = (
  λ wrong. absurd (let e : false ≡ true = wrong in cc),
  λ there. absurd (none_in c.args.self.now.dests.keys (c.is_empty.ensures.0 c.if-is_empty.true) c.args.dest there),
)
