-- The index belonged to the LSAs of this area.
use Rattle.std.proofs.Common.{◌≡◌, ℕ, Option, Some, sym, ap, subst, ◌∙◌}
use Rattle.inter.specs.Following.{IsIndexSince}
use Rattle.inter.specs.Inputs.{ExaminedValue, InterInputsValue}
use Rattle.inter.proofs.inputs.InterInputs.follow_named.Goals as goal

pub follow-requires : goal.follow-requires
follow-requires c =
    let x : ExaminedValue = record { area = c.examined.inside.area; lsas = c.examined.inside.database.now.lsas } in
    let same : c.args.self.now.examined ≡ Some x = sym (ap (λ (v : InterInputsValue). v.examined) c.self.view_is) ∙ c.in-Some.is ∙ ap Some (sym c.examined.view_is) in
    record {
      before =
          subst (λ (root : ℕ). IsIndexSince root c.args.keys.now (Some x) c.args.index.now) (sym (ap (λ (v : InterInputsValue). v.root) c.self.view_is))
          (subst (λ (y : Option ExaminedValue). IsIndexSince c.args.self.now.root c.args.keys.now y c.args.index.now) same c.requires);
    }
