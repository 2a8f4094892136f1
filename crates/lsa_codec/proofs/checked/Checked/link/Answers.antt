use Rattle.std.proofs.Common.{◌≡◌, ◌-◌, ◌*◌, ◌<◌, ℕ, List, Bor, length, take, drop, ap, ◌∙◌, arith}
use Rattle.std.specs.List.{flat_map}
use Rattle.ospf_types.specs.Lsa.{RouterLink}
use Rattle.lsa_codec.specs.Spelling.{link_bytes}
use Rattle.lsa_codec.specs.Readers.{links_of}
use Rattle.lsa_codec.proofs.Checksums.{from_place}
use Rattle.lsa_codec.proofs.Kept.{kept_router, router_of_links}
use Rattle.lsa_codec.proofs.Places.{StartsWith, from_fixed, from_walk, shown, starts_long}
use Rattle.lsa_codec.proofs.checked.Checked.link.Goals as goal
use Rattle.lsa_codec.proofs.checked.Checked.link.Goals.{then-links-count, else-links-count}

pub front_link-requires : goal.front_link-requires
front_link-requires c =
    let links : List RouterLink = links_of c.args.self.now.body in
    let within : c.args.n < length links = omega (arith, c.if-n-count.false, c.link_count-count.ensures) in
    let router = kept_router c.self.inside.bytes.items c.args.self.now c.self.view_is c.self.invariant (router_of_links c.args.self.now.body c.args.n within) in
    let all : List ℕ = take (length c.deref.result.now - 24) (drop 24 c.deref.result.now) in
    let text : all ≡ flat_map link_bytes links = from_place 24 c.deref.result.now ∙ ap (drop 24) c.deref.ensures.value ∙ router.text in
    let at : StartsWith c.if-links-count.front.now links c.args.n = elim c.if-links-count.branch [
      | then-links-count w ↦ from_fixed c.if-links-count.front.now all links c.args.n c.link_count-count.result text router.legal c.link_count-count.ensures w.if-links-count.true c.if-n-count.false (ap (λ (f : Bor (List ℕ)). f.now) w.front-is ∙ from_place (12 * c.args.n) all)
      | else-links-count w ↦ from_walk c.if-links-count.front.now all links c.args.n c.link_count-count.result text router.legal c.link_count-count.ensures c.if-n-count.false (ap (λ (f : Bor (List ℕ)). f.now) w.front-is ∙ w.after_links-front.ensures)
    ] in
    starts_long c.if-links-count.front.now links c.args.n at

pub returns : goal.returns
returns c =
    let links : List RouterLink = links_of c.args.self.now.body in
    let within : c.args.n < length links = omega (arith, c.if-n-count.false, c.link_count-count.ensures) in
    let router = kept_router c.self.inside.bytes.items c.args.self.now c.self.view_is c.self.invariant (router_of_links c.args.self.now.body c.args.n within) in
    let all : List ℕ = take (length c.deref.result.now - 24) (drop 24 c.deref.result.now) in
    let text : all ≡ flat_map link_bytes links = from_place 24 c.deref.result.now ∙ ap (drop 24) c.deref.ensures.value ∙ router.text in
    let at : StartsWith c.if-links-count.front.now links c.args.n = elim c.if-links-count.branch [
      | then-links-count w ↦ from_fixed c.if-links-count.front.now all links c.args.n c.link_count-count.result text router.legal c.link_count-count.ensures w.if-links-count.true c.if-n-count.false (ap (λ (f : Bor (List ℕ)). f.now) w.front-is ∙ from_place (12 * c.args.n) all)
      | else-links-count w ↦ from_walk c.if-links-count.front.now all links c.args.n c.link_count-count.result text router.legal c.link_count-count.ensures c.if-n-count.false (ap (λ (f : Bor (List ℕ)). f.now) w.front-is ∙ w.after_links-front.ensures)
    ] in
    shown c.if-links-count.front.now links c.args.n c.front_link.result at c.front_link.ensures
