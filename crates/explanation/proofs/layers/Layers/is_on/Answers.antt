use Rattle.std.proofs.Common.{ℕ, List, refl, subst, sym, ◌∙◌}
use Rattle.std.specs.FinMap.{entries}
use Rattle.ospf_types.specs.declared.config.Interface.{Interface}
use Rattle.explanation.specs.Offered.{IsOn}
use Rattle.explanation.proofs.Interfaces.{IsLeft, all_left, none_on, one_left, one_on}
use Rattle.explanation.proofs.layers.Layers.is_on.Goals as goal

pub loop-interface-init : goal.loop-interface-init
loop-interface-init c =
    let all : List (ℕ × Interface) = entries c.args.self.state.now.interfaces in
    subst (λ (list : List (ℕ × Interface)). IsLeft (λ (x : ℕ × Interface). IsOn c.args.area c.args.network x.1) all list) (sym (c.into_iter-interface-iterator.ensures.into_iter_gives ∙ c.interfaces-interface-items.ensures)) (all_left (λ (x : ℕ × Interface). IsOn c.args.area c.args.network x.1) all)

pub loop-interface-preserved : goal.loop-interface-preserved
loop-interface-preserved c =
    let e : ℕ × Interface = (c.in-Some.field-0-0.now, c.in-Some.interface.now) in
    one_left (λ (x : ℕ × Interface). IsOn c.args.area c.args.network x.1) (entries c.args.self.state.now.interfaces) c.loop-interface.interface-iterator c.next.new.self e c.in-Some.ensures.steps c.loop-interface.invariant
    (λ on. let t = c.is_on.ensures.1 on in let f = c.if-is_on.false in absurd cc)

pub returns-then-is_on : goal.returns-then-is_on
returns-then-is_on c =
    let e : ℕ × Interface = (c.in-Some.field-0-0.now, c.in-Some.interface.now) in
    let among = one_on (λ (x : ℕ × Interface). IsOn c.args.area c.args.network x.1) (entries c.args.self.state.now.interfaces) c.loop-interface.interface-iterator c.next.new.self e c.in-Some.ensures.steps c.loop-interface.invariant in
    (λ t. (e, among, c.is_on.ensures.0 c.if-is_on.true), λ h. refl)

pub returns : goal.returns
returns c = (
  λ t. absurd cc,
  λ h. absurd (none_on (λ (x : ℕ × Interface). IsOn c.args.area c.args.network x.1) (entries c.args.self.state.now.interfaces) c.loop-interface.interface-iterator c.in-None.ensures.steps.0 c.loop-interface.invariant h.0 h.1 h.2),
)
