-- The cost that is put belongs to the entry.
use Rattle.std.proofs.Common.{◌≡◌, ℕ, Option, Some, sym, subst}
use Rattle.std.specs.Prelude.{◌↔◌, option_copied}
use Rattle.std.specs.FinMap.{get}
use Rattle.std.proofs.lemmas.Result.{on_ok_weaker}
use Rattle.ospf_types.specs.declared.entry.Entry.{Entry}
use Rattle.active_ranges.specs.Following.{IsCostIn}
use Rattle.active_ranges.proofs.active.ActiveRanges.follow_member.Goals as goal

pub returns-clause-here : goal.returns-clause-here
returns-clause-here c =
    let m = c.args.member in
    let now = get c.put.new.self.members m in
    on_ok_weaker c.put.result (λ (here : now ≡ c.cost_in-cost.result) cost.
    let by = subst (λ (o : Option ℕ). (o ≡ Some cost) ↔ IsCostIn (option_copied c.get.result) m.area cost) (sym here) (c.cost_in-cost.ensures cost) in
    subst (λ (o : Option Entry). (now ≡ Some cost) ↔ IsCostIn o m.area cost) c.get.ensures.value by) c.put.ensures.here
