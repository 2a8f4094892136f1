use Rattle.std.proofs.Common.{◌≡◌, ℕ, ◌+◌, None, List, [], ◌∷◌, ◌++◌, length, sym, ap, subst, ◌∙◌}
use Rattle.std.specs.FinMap.{FinMap, get, insert}
use Rattle.ospf_types.specs.Network.{Network, network_cmp}
use Rattle.prefix_index.specs.Slots.{AreSlotted, IsSlotPlaced, HasFreeSlot, AreSlotsRight, home_of, base_of}
use Rattle.prefix_index.proofs.Adding.{more_slotted}
use Rattle.prefix_index.proofs.Standing.{map_of}
use Rattle.prefix_index.proofs.Whole.{pushed, pushed_map}
use Rattle.prefix_index.proofs.map.NetworkMap.add.Goals as goal

pub invariant_of-self-in_err-reserve : goal.invariant_of-self-in_err-reserve
invariant_of-self-in_err-reserve g c =
    let s = c.self.inside in
    subst (λ (es : List (Network × g.row.V.Denot)). AreSlotsRight s.hashing es c.make_room.new.slots) (sym c.reserve.ensures.items) (record {
      once = c.self.invariant.once;
      slotted = subst (λ (es : List (Network × g.row.V.Denot)). AreSlotted s.hashing es c.make_room.new.slots) c.as_slice.ensures.value c.make_room.ensures.slotted;
    })

pub invariant_of-self-in_err-add : goal.invariant_of-self-in_err-add
invariant_of-self-in_err-add g c =
    let s = c.self.inside in
    let slotted = subst (λ (es : List (Network × g.row.V.Denot)). AreSlotted s.hashing es c.make_room.new.slots) c.as_slice.ensures.value c.make_room.ensures.slotted in
    subst (λ (es : List (Network × g.row.V.Denot)). AreSlotsRight s.hashing es c.add.new.self) (sym c.reserve.ensures.items) (record {
      once = c.self.invariant.once;
      slotted = more_slotted slotted c.in_ok-make_room.ensures.ready.spare c.add.ensures.more;
    })

pub invariant_of-self-2 : goal.invariant_of-self-2
invariant_of-self-2 g c =
    let s = c.self.inside in
    let es = s.entries.items in
    let none : get (map_of es) c.args.network ≡ None = ap (λ (m : FinMap network_cmp g.row.V.Denot). get m c.args.network) c.self.view_is ∙ c.requires in
    let slotted = subst (λ (fs : List (Network × g.row.V.Denot)). AreSlotted s.hashing fs c.make_room.new.slots) c.as_slice.ensures.value c.make_room.ensures.slotted in
    let ready = subst (λ (fs : List (Network × g.row.V.Denot)). HasFreeSlot c.make_room.new.slots (length fs)) c.as_slice.ensures.value c.in_ok-make_room.ensures.ready in
    let place : c.len.result ≡ length es = c.len.ensures ∙ c.reserve.new.self.ok.0 ∙ ap length c.reserve.ensures.items in
    let placed = subst (λ (n : ℕ). IsSlotPlaced c.add.new.self.numbers.items (home_of s.hashing c.add.new.self.bits c.args.network) (base_of s.hashing c.add.new.self.bits c.args.network + n)) place c.in_ok-add.ensures.placed in
    let items : c.push.new.self.items ≡ es ++ (c.args.network, c.args.value) ∷ [] = c.in_ok-push.ensures.items ∙ ap (λ (fs : List (Network × g.row.V.Denot)). fs ++ (c.args.network, c.args.value) ∷ []) c.reserve.ensures.items in
    subst (λ (fs : List (Network × g.row.V.Denot)). AreSlotsRight s.hashing fs c.add.new.self) (sym items)
    (pushed es c.self.invariant.once c.args.network none c.args.value s.hashing c.make_room.new.slots c.add.new.self slotted ready c.add.ensures.more placed)

pub returns-clause-ok : goal.returns-clause-ok
returns-clause-ok g c =
    let es = c.self.inside.entries.items in
    let none : get (map_of es) c.args.network ≡ None = ap (λ (m : FinMap network_cmp g.row.V.Denot). get m c.args.network) c.self.view_is ∙ c.requires in
    let items : c.push.new.self.items ≡ es ++ (c.args.network, c.args.value) ∷ [] = c.in_ok-push.ensures.items ∙ ap (λ (fs : List (Network × g.row.V.Denot)). fs ++ (c.args.network, c.args.value) ∷ []) c.reserve.ensures.items in
    ap map_of items ∙ pushed_map es c.self.invariant.once c.args.network none c.args.value ∙ ap (λ (m : FinMap network_cmp g.row.V.Denot). insert m c.args.network c.args.value) c.self.view_is
