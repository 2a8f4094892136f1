use Rattle.std.proofs.Common.{ℕ, ◌≡◌, ◌⊎◌, List, ◌++◌, false, Some, OnOk, IfErr, sym, ap, subst, ◌∙◌, inl, inr}
use Rattle.std.specs.Option.{option_to_list}
use Rattle.std.proofs.lemmas.Result.{on_ok_weaker, IfErr-weaker}
use Rattle.ospf_types.specs.declared.config.AreaConfig.{AreaConfig}
use Rattle.event_state.specs.declared.base.Base.{Base}
use Rattle.ospf_types.specs.declared.config.Range.{Range}
use Rattle.recording.specs.contracts.header.RecordingHeader.{the_view}
use Rattle.recording.specs.declared.fault.Fault.{Fault}
use Rattle.recording.specs.declared.fault.Fault.TheVariants as fault
use Rattle.recording.specs.Forms.{RangeLine}
use Rattle.recording.specs.Places.{last_of, is_next_range, with_range}
use Rattle.recording.specs.Progress.{IsRefusal, headed_base, with_areas}
use Rattle.recording.proofs.Areas.{no_range, last_is, range_added}
use Rattle.recording.proofs.header.RecordingHeader.add_range.Goals as goal
use Rattle.recording.proofs.header.RecordingHeader.add_range.Goals.{in-None, in-Some}

pub returns-clause-new : goal.returns-clause-new
returns-clause-new c =
    let inside = c.self.inside in
    let more : Base → Base = λ k. with_areas k (with_range k.config.areas c.args.range) in
    let G : Type 0 = the_view c.match-self.self-inside ≡ more c.args.self.now in
    elim c.match-self.branch [
      | in-None w ↦ subst (λ r. OnOk r G) (sym w.result-is) tt
      | in-Some w ↦
          subst (λ r. OnOk r G) (sym w.result-is) (on_ok_weaker w.add_range_to.result (λ new. ap the_view w.self-inside-is ∙ ap (headed_base inside.setting) (range_added inside.areas inside.last w.in-Some.last w.add_range_to.new.last c.args.range w.in-Some.is new) ∙ ap more c.self.view_is) w.add_range_to.ensures.new)
    ]

refusal : (now : Base) (a : AreaConfig) (area : ℕ) (range : Range) (f : Fault) → last_of now.config.areas ≡ Some a → (f ≡ fault.Memory) ⊎ ((f ≡ fault.Order) × (is_next_range (Some a) area range ≡ false)) → IsRefusal now.config.areas (RangeLine area range) f
refusal now a area range f is h =
    elim h [
      | inl memory ↦ subst (IsRefusal now.config.areas (RangeLine area range)) (sym memory) tt
      | inr order ↦ subst (IsRefusal now.config.areas (RangeLine area range)) (sym order.0) (ap (λ o. is_next_range o area range) is ∙ order.1)
    ]

pub returns-clause-fault : goal.returns-clause-fault
returns-clause-fault c =
    let inside = c.self.inside in
    let P : Fault → Type 0 = IsRefusal c.args.self.now.config.areas (RangeLine c.args.area c.args.range) in
    let none : (areas : List AreaConfig) → Type 0 = λ areas. is_next_range (last_of areas) c.args.area c.args.range ≡ false in
    let areas : inside.areas ++ option_to_list inside.last ≡ c.args.self.now.config.areas = ap (λ (k : Base). k.config.areas) c.self.view_is in
    elim c.match-self.branch [
      | in-None w ↦ subst (λ r. IfErr r P) (sym w.result-is) (subst none areas (no_range inside.areas inside.last c.self.invariant w.in-None.is c.args.area c.args.range))
      | in-Some w ↦
          let is : last_of c.args.self.now.config.areas ≡ Some w.in-Some.last = ap last_of (sym areas) ∙ last_is inside.areas inside.last w.in-Some.last w.in-Some.is in
          subst (λ r. IfErr r P) (sym w.result-is) (IfErr-weaker w.add_range_to.result (λ f. (f ≡ fault.Memory) ⊎ ((f ≡ fault.Order) × (is_next_range (Some w.in-Some.last) c.args.area c.args.range ≡ false))) P (λ f h. refusal c.args.self.now w.in-Some.last c.args.area c.args.range f is h) w.add_range_to.ensures.fault)
    ]
