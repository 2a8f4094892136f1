use Rattle.std.proofs.Common.{rules, ◌≡◌, List, take, get_or, sym, ap, subst, ◌∙◌, ◌+◌}
use Rattle.std.proofs.lemmas.List.{take_all}
use Rattle.ospf_types.specs.declared.key.Key.{Key}
use Rattle.ospf_types.specs.declared.key.Scope.{Scope}
use Rattle.ospf_types.specs.declared.key.Scope.TheVariants.{Area}
use Rattle.route_layers.proofs.Keys.{AreKeysOf, one_taken, one_skipped}
use Rattle.route_layers.proofs.trees.keys_of.Goals.{then-is_area+in_ok-push, else-is_area}
use Rattle.route_layers.proofs.trees.keys_of.Goals as goal

pub loop-scope-preserved : goal.loop-scope-preserved
loop-scope-preserved c =
    let i = c.loop-scope.scope-index in
    let e : Scope × Key = get_or c.args.keys.now i (Area 0, record { kind = 0; id = 0; router = 0 }) in
    let here : e ≡ get_or c.args.keys.now i e = search rules in
    elim c.if-is_area.branch [
      | then-is_area+in_ok-push w ↦
          subst (λ (v : List Key). AreKeysOf c.args.area (take (i + 1) c.args.keys.now) v) (sym (ap (λ v. v.items) w.found-is ∙ w.in_ok-push.ensures.items))
          (one_taken c.args.area c.args.keys.now c.loop-scope.found.items i e c.loop-scope-test.true here c.loop-scope.invariant (c.is_area.ensures.0 w.if-is_area.true))
      | else-is_area w ↦
          subst (λ (v : List Key). AreKeysOf c.args.area (take (i + 1) c.args.keys.now) v) (sym (ap (λ v. v.items) w.found-is))
          (one_skipped c.args.area c.args.keys.now c.loop-scope.found.items i e c.loop-scope-test.true here c.loop-scope.invariant (λ is. let t = c.is_area.ensures.1 is in let f = w.if-is_area.false in absurd cc))
    ]

pub returns : goal.returns
returns c = subst (λ (list : List (Scope × Key)). AreKeysOf c.args.area list c.loop-scope.found.items) (take_all c.loop-scope.scope-index c.args.keys.now c.loop-scope-test.false) c.loop-scope.invariant
