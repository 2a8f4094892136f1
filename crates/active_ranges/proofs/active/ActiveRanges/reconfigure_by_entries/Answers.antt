-- The members were taken in, or dropped.
use Rattle.std.proofs.Common.{◌≡◌, List, map, sym, ap, subst, ◌∙◌, true, false}
use Rattle.std.specs.Prelude.{◌↔◌, ℕ, Contains, IsTrue}
use Rattle.active_ranges.specs.Active.{AreRangesOf, IsConfigured, IsMemberWithin}
use Rattle.active_ranges.specs.Following.{AreTakenIn}
use Rattle.active_ranges.specs.declared.member.RangeMember.{RangeMember}
use Rattle.active_ranges.proofs.Reconfigured.{ranges_set, ranges_dropped}
use Rattle.active_ranges.proofs.Taken.{members_exact, taken_followed, left_followed}
use Rattle.active_ranges.proofs.active.ActiveRanges.reconfigure_by_entries.Goals as goal
use Rattle.active_ranges.proofs.active.ActiveRanges.reconfigure_by_entries.Goals.{then-is_configured+in_ok-take_in, else-is_configured}

pub take_in-requires : goal.take_in-requires
take_in-requires c = record {
  within = λ m cost there.
      let is = ((c.in_ok-costs.ensures (m, cost)).0 (subst (λ (xs : List (RangeMember × ℕ)). Contains xs (m, cost)) c.as_slice.ensures.value there)).0 in
      (is.1, is.0);
}

pub returns-clause-kept : goal.returns-clause-kept
returns-clause-kept c =
    let b = c.requires.before in
    let areas = c.args.areas.now in
    let area = c.args.named.0 in
    let range = c.args.named.1 in
    let entries = c.args.intra.now.entries in
    let old = c.args.self.now in
    let costs = c.in_ok-costs.costs.items in
    let members = map (λ (x : RangeMember × ℕ). x.0) costs in
    let exact = members_exact entries area range costs c.in_ok-costs.ensures in
    elim c.if-is_configured.branch [
      | then-is_configured+in_ok-take_in w ↦
          let new = w.take_in.new.self in
          let taken = subst (λ (xs : List (RangeMember × ℕ)). AreTakenIn area range xs old new) w.as_slice.ensures.value w.in_ok-take_in.ensures in
          subst (AreRangesOf areas entries) (sym w.self-is) (ranges_set b.0 areas area range b.2 entries old new b.1 members exact (c.is_configured.ensures.0 w.if-is_configured.true) (taken_followed entries area range costs c.in_ok-costs.ensures old new b.0 b.1 taken))
      | else-is_configured w ↦
          let new = w.leave.new.self in
          let absent : IsConfigured areas area range → ⊥ = λ configured. let wrong : IsTrue c.is_configured.result = c.is_configured.ensures.1 configured in let e : true ≡ false = sym wrong ∙ w.if-is_configured.false in cc in
          subst (AreRangesOf areas entries) (sym w.self-is)
          (ranges_dropped b.0 areas area range b.2 entries old new b.1 members exact absent (left_followed entries area range costs c.in_ok-costs.ensures old new b.0 b.1 w.leave.ensures))
    ]

pub returns-clause-exact : goal.returns-clause-exact
returns-clause-exact c = λ m.
    let entries = c.args.intra.now.entries in
    let area = c.args.named.0 in
    let range = c.args.named.1 in
    let is = c.in_ok-members.ensures ∙ ap (λ (xs : List (RangeMember × ℕ)). map (λ (x : RangeMember × ℕ). x.0) xs) c.as_slice-2.ensures.value in
    subst (λ (ms : List RangeMember). Contains ms m ↔ IsMemberWithin entries area range m) (sym is) (members_exact entries area range c.in_ok-costs.costs.items c.in_ok-costs.ensures m)
