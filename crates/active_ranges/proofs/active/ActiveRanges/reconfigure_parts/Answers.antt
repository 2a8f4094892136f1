-- The range has members: they stay, or are dropped.
use Rattle.std.proofs.Common.{◌≡◌, true, false, sym, subst, ◌∙◌}
use Rattle.std.specs.Prelude.{IsTrue}
use Rattle.active_ranges.specs.Active.{AreRangesOf, IsConfigured}
use Rattle.active_ranges.proofs.Lists.{first_of}
use Rattle.active_ranges.proofs.Reconfigured.{ranges_set, ranges_dropped}
use Rattle.active_ranges.proofs.Standing.{all_within, none_but, stood_followed}
use Rattle.active_ranges.proofs.Taken.{gone_followed}
use Rattle.active_ranges.proofs.active.ActiveRanges.reconfigure_parts.Goals as goal
use Rattle.active_ranges.proofs.active.ActiveRanges.reconfigure_parts.Goals.{then-not-is_configured, else-not-is_configured}

pub returns-clause-kept : goal.returns-clause-kept
returns-clause-kept c =
    let b = c.requires.before in
    let areas = c.args.areas.now in
    let area = c.args.named.0 in
    let range = c.args.named.1 in
    let entries = c.args.intra.now.entries in
    let old = c.args.self.now in
    let had = c.in_ok-had.had in
    let first = first_of had (sym c.is_empty.ensures ∙ c.if-is_empty.false) in
    let all = all_within b.0 entries old area range b.1 had.items c.in_ok-had.ensures first.0 first.1 in
    elim c.if-not-is_configured.branch [
      | then-not-is_configured w ↦
          let new = w.leave.new.self in
          let absent : IsConfigured areas area range → ⊥ = λ configured. let wrong : IsTrue c.is_configured.result = c.is_configured.ensures.1 configured in let e : true ≡ false = sym wrong ∙ w.if-not-is_configured.true in cc in
          let followed = gone_followed area range old new had.items w.leave.ensures (λ m c. let is = (all m).0 c in (is.1, is.0)) (none_but old area range had.items c.in_ok-had.ensures) in
          subst (AreRangesOf areas entries) (sym w.self-is) (ranges_dropped b.0 areas area range b.2 entries old new b.1 had.items all absent followed)
      | else-not-is_configured w ↦
          let configured = c.is_configured.ensures.0 w.if-not-is_configured.false in
          subst (AreRangesOf areas entries) (sym w.self-is) (ranges_set b.0 areas area range b.2 entries old old b.1 had.items all configured (stood_followed b.0 entries old area range b.1 had.items c.in_ok-had.ensures first.0 first.1))
    ]

pub returns-clause-exact : goal.returns-clause-exact
returns-clause-exact c =
    let b = c.requires.before in
    let had = c.in_ok-had.had in
    let first = first_of had (sym c.is_empty.ensures ∙ c.if-is_empty.false) in
    all_within b.0 c.args.intra.now.entries c.args.self.now c.args.named.0 c.args.named.1 b.1 had.items c.in_ok-had.ensures first.0 first.1
