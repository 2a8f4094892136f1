-- The router is returned over a next hop just where it has the bit and some next hop.
use Rattle.std.proofs.Common.{◌==◌, List, [], ◌∷◌, length, Option, true≢false, not, refl, sym, ap, subst, ◌∙◌}
use Rattle.std.specs.Prelude.{IsTrue}
use Rattle.std.proofs.Math.Dec.{eqb-suc-zero}
use Rattle.std.specs.List.{Contains}
use Rattle.ospf_types.specs.declared.hop.NextHop.{NextHop}
use Rattle.ospf_types.specs.Intra.{E}
use Rattle.ospf_types.proofs.Elements.{no_element, first_element}
use Rattle.intra.specs.ReachedRouter.{ReachedValue, HandsOut}
use Rattle.inter.proofs.choose.is_asbr.Goals as goal

some_hop : (hops : List NextHop) → IsTrue (not (length hops == 0)) → (h : NextHop) × Contains hops h
some_hop [] some = absurd (true≢false (sym some))
some_hop (h ∷ hops) some = (h, first_element h hops)

not_empty : (hops : List NextHop) (h : NextHop) → Contains hops h → IsTrue (not (length hops == 0))
not_empty [] h c = absurd (no_element h c)
not_empty (x ∷ hops) h c = ap not (eqb-suc-zero (length hops))

pub returns-then-is_asbr : goal.returns-then-is_asbr
returns-then-is_asbr c =
    let r = c.in-Some.reached.now in
    let empty = c.is_empty.ensures ∙ ap (λ (hops : List NextHop). length hops == 0) c.hops.ensures in
    let kept = sym c.in-Some.ensures in (
      λ t.
          let some = some_hop r.hops (subst (λ b. IsTrue (not b)) empty t) in
          (r.distance, some.0, subst (λ (o : Option ReachedValue). HandsOut E o r.distance some.0) (sym kept) (c.is_asbr.ensures.0 c.if-is_asbr.true, refl, some.1)),
      λ h.
          let hands = subst (λ (o : Option ReachedValue). HandsOut E o h.0 h.1) kept h.2 in
          subst (λ b. IsTrue (not b)) (sym empty) (not_empty r.hops h.1 hands.2),
    )
