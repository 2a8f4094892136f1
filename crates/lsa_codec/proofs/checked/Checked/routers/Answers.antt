use Rattle.std.proofs.Common.{◌≡◌, ◌-◌, ℕ, List, length, take, drop, sym, ap, ◌∙◌}
use Rattle.lsa_codec.proofs.Checksums.{from_place}
use Rattle.lsa_codec.proofs.Left.{kept_routers, other_routers}
use Rattle.lsa_codec.proofs.checked.Checked.routers.Goals as goal
use Rattle.lsa_codec.proofs.checked.Checked.routers.Goals.{then-kind-eq-NETWORK_LSA, else-kind-eq-NETWORK_LSA}

pub returns : goal.returns
returns c =
    let start : ℕ = c.if-kind-eq-NETWORK_LSA.start in
    let all : List ℕ = take (length c.deref.result.now - start) (drop start c.deref.result.now) in
    let behind : all ≡ drop start c.self.inside.bytes.items = from_place start c.deref.result.now ∙ ap (drop start) c.deref.ensures.value in
    elim c.if-kind-eq-NETWORK_LSA.branch [
      | then-kind-eq-NETWORK_LSA w ↦ kept_routers c.self.inside.bytes.items all c.args.self.now start c.self.view_is c.self.invariant (sym c.kind.ensures ∙ w.if-kind-eq-NETWORK_LSA.true) w.start-is behind
      | else-kind-eq-NETWORK_LSA w ↦ other_routers c.self.inside.bytes.items all c.args.self.now.body start (λ e. w.if-kind-eq-NETWORK_LSA.false (c.kind.ensures ∙ e)) (w.start-is ∙ w.len-start.ensures ∙ sym c.deref.ensures.len ∙ ap length c.deref.ensures.value) behind
    ]
