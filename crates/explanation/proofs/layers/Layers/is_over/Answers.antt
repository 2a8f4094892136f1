use Rattle.std.proofs.Common.{◌≡◌, ℕ, List, ap, refl, sym, subst, ◌∙◌}
use Rattle.std.specs.FinMap.{entries}
use Rattle.ospf_types.specs.declared.config.Interface.{Interface}
use Rattle.ospf_types.specs.declared.hop.NextHop.{NextHop}
use Rattle.ospf_types.specs.declared.hop.NextHop.TheVariants.{Direct, Peer, Router}
use Rattle.ospf_types.specs.declared.prefix.Prefix.{Prefix}
use Rattle.explanation.specs.Offered.{IsOn}
use Rattle.explanation.proofs.Interfaces.{IsLeft, all_left, none_on, one_left, one_on}
use Rattle.explanation.proofs.layers.Layers.is_over.Goals as goal
use Rattle.explanation.proofs.layers.Layers.is_over.Goals.{else-id-wanted-via-then-id-wanted+else-is_on, else-id-wanted-via-else-id-wanted}

-- the interface with this identifier, if it lies on the network
abbrev IsWanted : ℕ → ℕ → Prefix → ℕ × Interface → Type 0
IsWanted wanted area p e = (e.0 ≡ wanted) × IsOn area p e.1

one_direct : (a b : ℕ) → Direct a ≡ Direct b → a ≡ b
one_direct a b same = ap id_of same
  where
    id_of : NextHop → ℕ
    id_of (Direct id) = id
    id_of (Peer id) = id
    id_of (Router id address) = id

pub loop-id-init : goal.loop-id-init
loop-id-init c =
    let all : List (ℕ × Interface) = entries c.args.self.state.now.interfaces in
    let Is : ℕ × Interface → Type 0 = IsWanted c.in-Direct.wanted c.args.area c.args.offer.now.network in
    subst (IsLeft Is all) (sym (c.into_iter-id-iterator.ensures.into_iter_gives ∙ c.interfaces-id-items.ensures)) (all_left Is all)

pub loop-id-preserved : goal.loop-id-preserved
loop-id-preserved c =
    let e : ℕ × Interface = (c.in-Some.id.now, c.in-Some.interface.now) in
    one_left (IsWanted c.in-Direct.wanted c.args.area c.args.offer.now.network) (entries c.args.self.state.now.interfaces) c.loop-id.id-iterator c.next.new.self e c.in-Some.ensures.steps c.loop-id.invariant
    (λ is. elim c.else-id-wanted.branch [
      | else-id-wanted-via-then-id-wanted+else-is_on w ↦ let t = w.is_on.ensures.1 is.1 in let f = w.if-is_on.false in absurd cc
      | else-id-wanted-via-else-id-wanted w ↦ absurd (w.if-id-wanted.false is.0)
    ])

pub returns-then-is_on : goal.returns-then-is_on
returns-then-is_on c =
    let e : ℕ × Interface = (c.in-Some.id.now, c.in-Some.interface.now) in
    let among = one_on (IsWanted c.in-Direct.wanted c.args.area c.args.offer.now.network) (entries c.args.self.state.now.interfaces) c.loop-id.id-iterator c.next.new.self e c.in-Some.ensures.steps c.loop-id.invariant in
    (λ t. (c.in-Some.id.now, c.in-Some.interface.now, c.in-Direct.is ∙ ap Direct (sym c.if-id-wanted.true), among, c.is_on.ensures.0 c.if-is_on.true), λ h. refl)

pub returns : goal.returns
returns c = (
  λ t. absurd cc,
  λ h.
      let is = one_direct h.0 c.in-Direct.wanted (sym h.2 ∙ c.in-Direct.is) in
      absurd (none_on (IsWanted c.in-Direct.wanted c.args.area c.args.offer.now.network) (entries c.args.self.state.now.interfaces) c.loop-id.id-iterator c.in-None.ensures.steps.0 c.loop-id.invariant (h.0, h.1) h.3 (is, h.4)),
)
