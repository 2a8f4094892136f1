-- Numbers and next hops are equal just where the values are.
use Rattle.std.proofs.Common.{◌≡◌, ap, sym, ◌∙◌}
use Rattle.std.proofs.lemmas.Slice.Eq.{slice_eq-Decides}
use Rattle.ospf_types.proofs.Paths.{hop_eq-Decides}
use Rattle.external.specs.Forwards.{WayValue}
use Rattle.external.proofs.forward.ForwardingPathSame.is_same.Goals as goal

pub returns-then-has_numbers_of : goal.returns-then-has_numbers_of
returns-then-has_numbers_of c =
    let decided = slice_eq-Decides hop_eq-Decides c.self.inside.hops.items c.other.inside.hops.items c.eq.result c.eq.ensures in
    let one = ap (λ (w : WayValue). w.hops) c.self.view_is in
    let two = ap (λ (w : WayValue). w.hops) c.other.view_is in
    let numbers = c.has_numbers_of.ensures.0 c.if-has_numbers_of.true in (
      λ t.
          let hops : c.args.self.now.hops ≡ c.args.other.now.hops = sym one ∙ decided.0 t ∙ two in
          λ i. record { class = numbers.0 i; cost = numbers.1 i; hops = hops i },
      λ same. decided.1 (one ∙ ap (λ (w : WayValue). w.hops) same ∙ sym two),
    )
