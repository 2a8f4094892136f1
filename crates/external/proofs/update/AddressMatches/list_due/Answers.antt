-- One destination more.
use Rattle.std.proofs.Common.{true≢false, sym, ◌∙◌, inl, inr}
use Rattle.route_choice.proofs.Adding.{gains_first, gains_next, gains_all}
use Rattle.external.specs.Forwards.{forwards_in}
use Rattle.ospf_types.specs.declared.key.Dest.TheVariants.{Net}
use Rattle.external.specs.Updating.{IsDueInDest}
use Rattle.external.proofs.update.AddressMatches.list_due.Goals as goal

pub loop-dest-init : goal.loop-dest-init
loop-dest-init c = gains_first (IsDueInDest c.args.self.now.index.now (forwards_in c.args.self.now.forwards.now)) c.args.addresses.items

pub loop-dest-preserved : goal.loop-dest-preserved
loop-dest-preserved c =
    gains_next (IsDueInDest c.args.self.now.index.now (forwards_in c.args.self.now.forwards.now)) c.args.named.now c.loop-dest.dest-index c.dest-item.result c.args.addresses.items c.loop-dest.due.items c.list_due_at.new.due.items
    c.loop-dest-test.true c.dest-item.is c.loop-dest.invariant c.in_ok-list_due_at.ensures

pub returns : goal.returns
returns c = λ a due.
    gains_all (IsDueInDest c.args.self.now.index.now (forwards_in c.args.self.now.forwards.now)) c.args.named.now c.loop-dest.dest-index c.args.addresses.items c.loop-dest.due.items c.loop-dest-test.false c.loop-dest.invariant a
    (elim due [ inl there ↦ inl there | inr w ↦ inr (Net w.0, w.1, w.2) ])

-- where there is no forwarding address, none lies in a network
pub returns-then-not-has_addresses : goal.returns-then-not-has_addresses
returns-then-not-has_addresses c = λ a due. elim due [
  | inl there ↦ there
  | inr w ↦ absurd (true≢false (sym (c.has_addresses.ensures.1 (a, w.2.0.0)) ∙ c.if-not-has_addresses.true))
]
