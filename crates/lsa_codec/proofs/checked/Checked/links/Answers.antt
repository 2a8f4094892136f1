use Rattle.std.proofs.Common.{◌≡◌, ◌-◌, ℕ, List, length, take, drop, ap, ◌∙◌}
use Rattle.lsa_codec.proofs.Checksums.{from_place}
use Rattle.lsa_codec.proofs.Left.{kept_links}
use Rattle.lsa_codec.proofs.checked.Checked.links.Goals as goal

pub invariant_of-result : goal.invariant_of-result
invariant_of-result c =
    let all : List ℕ = take (length c.deref.result.now - 24) (drop 24 c.deref.result.now) in
    let behind : all ≡ drop 24 c.self.inside.bytes.items = from_place 24 c.deref.result.now ∙ ap (drop 24) c.deref.ensures.value in
    (kept_links c.self.inside.bytes.items all c.args.self.now c.link_count.result c.self.view_is c.self.invariant c.link_count.ensures behind).there

pub returns : goal.returns
returns c =
    let all : List ℕ = take (length c.deref.result.now - 24) (drop 24 c.deref.result.now) in
    let behind : all ≡ drop 24 c.self.inside.bytes.items = from_place 24 c.deref.result.now ∙ ap (drop 24) c.deref.ensures.value in
    (kept_links c.self.inside.bytes.items all c.args.self.now c.link_count.result c.self.view_is c.self.invariant c.link_count.ensures behind).same
