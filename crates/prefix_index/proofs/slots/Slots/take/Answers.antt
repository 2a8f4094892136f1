use Rattle.std.proofs.Common.{◌<◌, ◌-◌, get_or, length, refl, sym, ◌∙◌, arith}
use Rattle.prefix_index.proofs.Lookups.{has_at}
use Rattle.prefix_index.proofs.Taking.{others_found, last_gone, last_moved}
use Rattle.prefix_index.proofs.slots.Slots.take.Goals as goal

pub remove-requires-clause-placed : goal.remove-requires-clause-placed
remove-requires-clause-placed g c =
    let e = c.index-entries-place.result in
    c.requires.slotted.placed c.args.place (get_or c.args.entries.now c.args.place e).0 (has_at c.args.entries.now c.args.place (get_or c.args.entries.now c.args.place e).0 e c.requires.within refl)

pub returns-then-place-last : goal.returns-then-place-last
returns-then-place-last g c =
    let k = (get_or c.args.entries.now c.args.place c.index-entries-place.result).0 in
    last_gone c.args.hashing c.args.entries.now c.args.self.now c.requires.slotted c.args.place c.requires.within k c.remove.new.self c.remove.ensures.bits c.remove.ensures.others
    c.if-place-last.true c.remove.ensures.used c.remove.ensures.length

pub relocate-requires-clause-placed : goal.relocate-requires-clause-placed
relocate-requires-clause-placed g c =
    let es = c.args.entries.now in
    let k = (get_or es c.args.place c.index-entries-place.result).0 in
    let e = c.index-entries-last.result in
    let within = c.requires.within in
    let inside : length es - 1 < length es = omega arith in
    others_found c.args.hashing es c.args.self.now c.requires.slotted c.args.place c.requires.within k c.remove.new.self c.remove.ensures.bits c.remove.ensures.others
    (length es - 1) (get_or es (length es - 1) e).0 (λ same. c.if-place-last.false (sym same)) (has_at es (length es - 1) (get_or es (length es - 1) e).0 e inside refl)

pub returns : goal.returns
returns g c =
    let k = (get_or c.args.entries.now c.args.place c.index-entries-place.result).0 in
    last_moved c.args.hashing c.args.entries.now c.args.self.now c.requires.slotted c.args.place c.requires.within k c.remove.new.self c.remove.ensures.bits c.remove.ensures.others
    c.index-entries-last.result c.relocate.new.self c.relocate.ensures.bits c.relocate.ensures.others c.relocate.ensures.placed
    (c.relocate.ensures.used ∙ c.remove.ensures.used) (c.relocate.ensures.length ∙ c.remove.ensures.length)
