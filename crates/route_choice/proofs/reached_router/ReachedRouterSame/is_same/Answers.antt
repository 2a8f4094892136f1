-- Numbers and next hops are equal just where the values are.
use Rattle.std.proofs.Common.{◌≡◌, ap, sym, ◌∙◌}
use Rattle.std.proofs.lemmas.Slice.Eq.{slice_eq-Decides}
use Rattle.ospf_types.proofs.Paths.{hop_eq-Decides}
use Rattle.route_choice.specs.ReachedRouter.{ReachedValue}
use Rattle.route_choice.proofs.reached_router.ReachedRouterSame.is_same.Goals as goal

pub returns-then-has_numbers_of : goal.returns-then-has_numbers_of
returns-then-has_numbers_of c =
    let decided = slice_eq-Decides hop_eq-Decides c.self.inside.hops.items c.other.inside.hops.items c.eq.result c.eq.ensures in
    let one : record { flags = c.self.inside.flags; distance = c.self.inside.distance; hops = c.self.inside.hops.items } ≡ c.args.self.now = c.self.view_is in
    let two : record { flags = c.other.inside.flags; distance = c.other.inside.distance; hops = c.other.inside.hops.items } ≡ c.args.other.now = c.other.view_is in
    let numbers = c.has_numbers_of.ensures.0 c.if-has_numbers_of.true in (
      λ t.
          let hops : c.args.self.now.hops ≡ c.args.other.now.hops = sym (ap (λ (r : ReachedValue). r.hops) one) ∙ decided.0 t ∙ ap (λ (r : ReachedValue). r.hops) two in
          λ i. record { flags = numbers.0 i; distance = numbers.1 i; hops = hops i },
      λ same. decided.1 (ap (λ (r : ReachedValue). r.hops) (one ∙ same ∙ sym two)),
    )
