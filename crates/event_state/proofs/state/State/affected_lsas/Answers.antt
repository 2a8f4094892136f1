use Rattle.std.proofs.Common.{◌≡◌, refl, sym, subst, inl, inr}
use Rattle.ospf_types.specs.RangeChanges.{set_range, drop_range}
use Rattle.event_state.specs.declared.event.Event.{Event}
use Rattle.event_state.specs.declared.event.Event.TheVariants as event
use Rattle.event_state.specs.States.{usable_at}
use Rattle.event_state.specs.Steps.{range_with, step}
use Rattle.event_state.proofs.Naming.{if_names, install_named, flush_named, purge_named, ranges_named, second_named}
use Rattle.event_state.proofs.state.State.affected_lsas.Goals as goal

pub returns-in-Install : goal.returns-in-Install
returns-in-Install c =
    if_names c.args.self.now c.args.event.now (event.Install c.in-Install.scope c.in-Install.lsa) c.one.result (λ v. v.items) c.in-Install.is
    (λ v is. install_named c.args.self.now c.in-Install.scope c.in-Install.lsa c.key.result v.items c.key.ensures.value is) c.one.ensures

pub returns-in-Flush : goal.returns-in-Flush
returns-in-Flush c = elim c.in-Flush.is [
  | inl is ↦
      if_names c.args.self.now c.args.event.now (event.Flush c.in-Flush.scope c.in-Flush.key) c.one-in-Flush.result (λ v. v.items) is
      (λ v one. flush_named c.args.self.now c.in-Flush.scope c.in-Flush.key v.items one) c.one-in-Flush.ensures
  | inr is ↦
      if_names c.args.self.now c.args.event.now (event.Purge c.in-Flush.scope c.in-Flush.key) c.one-in-Flush.result (λ v. v.items) is
      (λ v one. purge_named c.args.self.now c.in-Flush.scope c.in-Flush.key v.items one) c.one-in-Flush.ensures
]

pub returns-in-Second : goal.returns-in-Second
returns-in-Second c =
    if_names c.args.self.now c.args.event.now event.Second c.coming.result (λ v. v.items) c.in-Second.is (λ v all. second_named c.args.self.now v.items all) c.coming.ensures

pub returns-in-Interface : goal.returns-in-Interface
returns-in-Interface c at key absent =
    let s = c.args.self.now in
    elim c.in-Interface.is [
      | inl is ↦ subst (λ (e : Event). usable_at (step s e) at key ≡ usable_at s at key) (sym is.5) refl
      | inr ranges ↦ elim ranges [
        | inl is ↦ subst (λ (e : Event). usable_at (step s e) at key ≡ usable_at s at key) (sym is.3) (ranges_named s is.0 (set_range (range_with is.1 is.2)) at key)
        | inr is ↦ subst (λ (e : Event). usable_at (step s e) at key ≡ usable_at s at key) (sym is.2) (ranges_named s is.0 (drop_range is.1) at key)
      ]
    ]
