use Rattle.std.proofs.Common.{◌≡◌, ℕ, ◌+◌, ◌-◌, ◌%◌, ◌^◌, sym, subst, ◌∙◌, true≢false, arith}
use Rattle.ospf_types.proofs.KeyOrders.{prefixes_decided}
use Rattle.prefix_index.specs.Slots.{HasNetwork}
use Rattle.prefix_index.proofs.Lookups.{has_at, has_within, named_at}
use Rattle.prefix_index.proofs.Numbers.{place_back}
use Rattle.prefix_index.proofs.slots.named.Goals as goal
use Rattle.prefix_index.proofs.slots.named.Goals.{else-place-entries-via-then-place-entries+else-eq, else-place-entries-via-else-place-entries}

pub returns-then-eq-clause-found : goal.returns-then-eq-clause-found
returns-then-eq-clause-found g c =
    let place : ℕ = (c.args.number + (2 ^ 64 - c.args.base)) % 2 ^ 64 in
    has_at c.args.entries.now place c.args.network c.index-entries-place.result c.if-place-entries.true
    ((prefixes_decided _ c.args.network).0 (sym c.eq.ensures ∙ c.if-eq.true))

pub returns-clause-missing : goal.returns-clause-missing
returns-clause-missing g c = λ none i has is.
    let place : ℕ = (c.args.number + (2 ^ 64 - c.args.base)) % 2 ^ 64 in
    let same : place ≡ i = place_back c.args.number c.args.base i (omega (arith, c.ranges.number)) is in
    elim c.else-place-entries.branch [
      | else-place-entries-via-then-place-entries+else-eq w ↦ true≢false (sym ((prefixes_decided _ c.args.network).1
          (named_at c.args.entries.now place c.args.network w.index-entries-place.result (subst (λ (j : ℕ). HasNetwork c.args.entries.now j c.args.network) (sym same) has))) ∙ sym w.eq.ensures ∙ w.if-eq.false)
      | else-place-entries-via-else-place-entries w ↦
          let within = has_within c.args.entries.now i c.args.network has in
          omega (arith, within, same, w.if-place-entries.false)
    ]
