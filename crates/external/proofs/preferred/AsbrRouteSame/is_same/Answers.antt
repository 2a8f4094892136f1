-- Preferences and next hops are equal just where the values are.
use Rattle.std.proofs.Common.{◌≡◌, ap, sym, ◌∙◌}
use Rattle.std.proofs.lemmas.Slice.Eq.{slice_eq-Decides}
use Rattle.ospf_types.proofs.Paths.{hop_eq-Decides}
use Rattle.external.specs.AsbrRoute.{PreferredValue}
use Rattle.external.proofs.preferred.AsbrRouteSame.is_same.Goals as goal

pub returns-then-has_preference_of : goal.returns-then-has_preference_of
returns-then-has_preference_of c =
    let decided = slice_eq-Decides hop_eq-Decides c.self.inside.hops.items c.other.inside.hops.items c.eq.result c.eq.ensures in
    let one = ap (λ (w : PreferredValue). w.hops) c.self.view_is in
    let two = ap (λ (w : PreferredValue). w.hops) c.other.view_is in
    let preference : c.args.self.now.preference ≡ c.args.other.now.preference = c.has_preference_of.ensures.0 c.if-has_preference_of.true in (
      λ t.
          let hops : c.args.self.now.hops ≡ c.args.other.now.hops = sym one ∙ decided.0 t ∙ two in
          λ i. record { preference = preference i; hops = hops i },
      λ same. decided.1 (one ∙ ap (λ (w : PreferredValue). w.hops) same ∙ sym two),
    )
