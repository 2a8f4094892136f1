use Rattle.std.proofs.Common.{ℕ, List, [], ◌∷◌, ◌++◌, rules, subst, sym}
use Rattle.recording.specs.Forms.{IsScope}
use Rattle.capture_recording.specs.declared.kept_events.KeptEvent.{KeptEvent}
use Rattle.capture_recording.specs.declared.kept_events.KeptEvent.TheVariants.{Install}
use Rattle.capture_recording.specs.Events.{AreAppended, install_events}
use Rattle.capture_recording.specs.Kept.{text_of, AreKeptWithin, IsLsaAt}
use Rattle.capture_recording.proofs.Keeping.{lsa_kept, one_within}
use Rattle.capture_recording.proofs.kept_events.KeptEvents.push_install.Goals as goal

pub invariant_of-self-2 : goal.invariant_of-self-2
invariant_of-self-2 c =
    let inside = c.self.inside in
    let gains = c.append_lsa.ensures.gains in
    let place = c.in_ok-start in
    let at = subst (λ (b : List ℕ). IsLsaAt b place.start place.size c.args.lsa.now) gains.is place.ensures.place in
    let all = one_within inside.bytes.items gains.more inside.events.items (Install c.args.scope place.start place.size c.args.purges) c.self.invariant at.within in
    subst (λ (es : List KeptEvent). AreKeptWithin c.append_lsa.new.bytes.items es) (sym c.in_ok-push.ensures.items)
    (subst (λ (b : List ℕ). AreKeptWithin b (inside.events.items ++ Install c.args.scope place.start place.size c.args.purges ∷ [])) (sym gains.is) all)

pub returns : goal.returns
returns c =
    let inside = c.self.inside in
    let gains = c.append_lsa.ensures.gains in
    let place = c.in_ok-start in
    let events = install_events c.args.scope c.args.lsa.now c.args.purges in
    let at = subst (λ (b : List ℕ). IsLsaAt b place.start place.size c.args.lsa.now) gains.is place.ensures.place in
    let is_scope : IsScope c.args.scope = search rules in
    let kept = lsa_kept c.args.scope c.args.lsa.now is_scope place.ensures.bytes place.ensures.sound inside.bytes.items gains.more inside.events.items place.start place.size c.args.purges c.self.invariant at in
    subst (λ (old : List ℕ). AreAppended old (text_of c.append_lsa.new.bytes.items c.push.new.self.items) events) c.self.view_is
    (subst (λ (b : List ℕ). AreAppended (text_of inside.bytes.items inside.events.items) (text_of b c.push.new.self.items) events) (sym gains.is)
    (subst (λ (es : List KeptEvent). AreAppended (text_of inside.bytes.items inside.events.items) (text_of (inside.bytes.items ++ gains.more) es) events) (sym c.in_ok-push.ensures.items) kept))
