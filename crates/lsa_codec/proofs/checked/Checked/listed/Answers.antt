use Rattle.std.proofs.Common.{◌≡◌, ◌-◌, ◌*◌, ℕ, List, Some, length, take, drop, sym, ap, ◌∙◌}
use Rattle.byteorder.specs.Endian.{big_number}
use Rattle.lsa_codec.proofs.Checksums.{from_place}
use Rattle.lsa_codec.proofs.Kept.{listed_past, listed_there}
use Rattle.lsa_codec.proofs.checked.Checked.listed.Goals as goal

pub returns-then-n-routers : goal.returns-then-n-routers
returns-then-n-routers c =
    let all : List ℕ = take (length c.deref.result.now - 24) (drop 24 c.deref.result.now) in
    let behind : all ≡ drop 24 c.self.inside.bytes.items = from_place 24 c.deref.result.now ∙ ap (drop 24) c.deref.ensures.value in
    listed_past c.self.inside.bytes.items all c.args.self.now c.args.n c.self.view_is c.self.invariant (sym c.kind.ensures ∙ c.if-kind-ne-NETWORK_LSA.false) behind c.if-n-routers.true

pub returns : goal.returns
returns c =
    let all : List ℕ = take (length c.deref.result.now - 24) (drop 24 c.deref.result.now) in
    let behind : all ≡ drop 24 c.self.inside.bytes.items = from_place 24 c.deref.result.now ∙ ap (drop 24) c.deref.ensures.value in
    ap (λ (r : ℕ). Some r) (c.read_u32.ensures ∙ ap (λ (b : List ℕ). big_number 4 b) (from_place (4 * c.args.n) all))
    ∙ listed_there c.self.inside.bytes.items all c.args.self.now c.args.n c.self.view_is c.self.invariant (sym c.kind.ensures ∙ c.if-kind-ne-NETWORK_LSA.false) behind c.if-n-routers.false
