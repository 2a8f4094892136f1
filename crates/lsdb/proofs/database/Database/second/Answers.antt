use Rattle.std.proofs.Common.{◌≡◌, ◌≤◌, List, ℕ, length, map, count_by, sym, ◌∙◌, ap, subst}
use Rattle.std.specs.Prelude.{All}
use Rattle.std.proofs.lemmas.List.{with_items_is, length-map}
use Rattle.std.specs.Global.{Vec}
use Rattle.std.specs.Vec.{with_items}
use Rattle.std.specs.FinMap.{values}
use Rattle.lanes.specs.Ages as lane
use Rattle.lsdb.specs.Columns.{present, AreColumns}
use Rattle.lsdb.specs.Databases.{DatabaseValue, all_aged, comes_to_max_age}
use Rattle.lsdb.proofs.Seconds.{all_young, later_columns, map_later, count_came}
use Rattle.lsdb.proofs.Stored.{map_of}
use Rattle.lsdb.proofs.database.Database.second.Goals as goal

later_items : (ages : Vec ℕ) (new : List ℕ) → new ≡ map lane.next_age ages.items → (with_items ages new).items ≡ map lane.next_age ages.items
later_items ages new e = with_items_is ages new (ap length e ∙ length-map ages.items lane.next_age ∙ sym ages.ok.0) ∙ e

pub second-requires : goal.second-requires
second-requires c = subst (All (λ age. age ≤ lane.MaxAge)) (sym c.as_mut_slice-ages.ensures.value) (all_young c.self.invariant)

pub invariant_of-self : goal.invariant_of-self
invariant_of-self c =
    let i = c.self.inside in
    subst (λ (ages : List ℕ). AreColumns i.rows.entries ages i.kinds.items i.routers.items i.limit)
    (sym (later_items i.ages c.second.new.ages (c.second.ensures.aged ∙ ap (map lane.next_age) c.as_mut_slice-ages.ensures.value))) (later_columns c.self.invariant)

pub returns-clause-aged : goal.returns-clause-aged
returns-clause-aged c =
    let i = c.self.inside in
    ap (λ (ages : List ℕ). map_of (present i.rows.entries ages)) (later_items i.ages c.second.new.ages (c.second.ensures.aged ∙ ap (map lane.next_age) c.as_mut_slice-ages.ensures.value))
    ∙ map_later c.self.invariant ∙ ap (λ (d : DatabaseValue). all_aged d.lsas) c.self.view_is

pub returns-clause-came : goal.returns-clause-came
returns-clause-came c =
    c.second.ensures.came ∙ ap (count_by lane.comes_to_max_age) c.as_mut_slice-ages.ensures.value ∙ count_came c.self.invariant ∙ ap (λ (d : DatabaseValue). count_by comes_to_max_age (values d.lsas)) c.self.view_is
