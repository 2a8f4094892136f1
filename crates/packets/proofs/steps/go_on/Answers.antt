use Rattle.std.proofs.Common.{◌≡◌, ℕ, List, Some, None, set, ap, sym, ◌∙◌}
use Rattle.std.specs.List.{remove}
use Rattle.packets.specs.Parts.{part_of}
use Rattle.packets.specs.Kept.{contradicts, with_part, is_whole, payload_of}
use Rattle.std.proofs.lemmas.List.{get_or-set_same}
use Rattle.packets.proofs.Choices.{either_left, either_right, neither, not_first, not_second, both}
use Rattle.packets.proofs.Places.{stands, remove_set}
use Rattle.packets.proofs.steps.go_on.Goals as goal

pub returns-then-is_contradicted_by-clause-kept : goal.returns-then-is_contradicted_by-clause-kept
returns-then-is_contradicted_by-clause-kept c = λ before stood.
    let p = part_of c.args.fragment.now in
    let items = c.args.partials.now.items in
    let place = c.args.place in
    let now = c.index_mut-partial.result.now in
    let same : now ≡ before = stands items place now before stood c.index_mut-partial.ensures.value in
    c.remove.ensures.items ∙ remove_set items place now
    ∙ either_left (contradicts p before) (is_whole (with_part p before)) (remove items place) (set items place (with_part p before)) (ap (contradicts p) (sym same) ∙ sym c.is_contradicted_by.ensures ∙ c.if-is_contradicted_by.true)

pub returns-then-is_contradicted_by-clause-answer : goal.returns-then-is_contradicted_by-clause-answer
returns-then-is_contradicted_by-clause-answer c = λ before stood.
    let p = part_of c.args.fragment.now in
    let same : c.index_mut-partial.result.now ≡ before = stands c.args.partials.now.items c.args.place _ before stood c.index_mut-partial.ensures.value in
    not_first (contradicts p before) (is_whole (with_part p before)) (Some (payload_of (with_part p before))) None (ap (contradicts p) (sym same) ∙ sym c.is_contradicted_by.ensures ∙ c.if-is_contradicted_by.true)

pub returns-then-not-is_whole-clause-kept : goal.returns-then-not-is_whole-clause-kept
returns-then-not-is_whole-clause-kept c = λ before stood.
    let p = part_of c.args.fragment.now in
    let items = c.args.partials.now.items in
    let place = c.args.place in
    let same : c.index_mut-partial.result.now ≡ before = stands items place _ before stood c.index_mut-partial.ensures.value in
    let new : c.add.new.self ≡ with_part p before = c.in_ok-add.ensures.added ∙ ap (with_part p) same in
    ap (set items place) new
    ∙ neither (contradicts p before) (is_whole (with_part p before)) (remove items place) (set items place (with_part p before))
    (ap (contradicts p) (sym same) ∙ sym c.is_contradicted_by.ensures ∙ c.if-is_contradicted_by.false)
    (ap is_whole (sym new) ∙ sym c.is_whole.ensures ∙ c.if-not-is_whole.true)

pub returns-then-not-is_whole-clause-answer : goal.returns-then-not-is_whole-clause-answer
returns-then-not-is_whole-clause-answer c = λ before stood.
    let p = part_of c.args.fragment.now in
    let same : c.index_mut-partial.result.now ≡ before = stands c.args.partials.now.items c.args.place _ before stood c.index_mut-partial.ensures.value in
    let new : c.add.new.self ≡ with_part p before = c.in_ok-add.ensures.added ∙ ap (with_part p) same in
    not_second (contradicts p before) (is_whole (with_part p before)) (Some (payload_of (with_part p before))) None (ap is_whole (sym new) ∙ sym c.is_whole.ensures ∙ c.if-not-is_whole.true)

pub returns-clause-kept : goal.returns-clause-kept
returns-clause-kept c = λ before stood.
    let p = part_of c.args.fragment.now in
    let items = c.args.partials.now.items in
    let place = c.args.place in
    let same : c.index_mut-partial.result.now ≡ before = stands items place _ before stood c.index_mut-partial.ensures.value in
    let new : c.add.new.self ≡ with_part p before = c.in_ok-add.ensures.added ∙ ap (with_part p) same in
    c.remove-2.ensures.items ∙ remove_set items place c.add.new.self
    ∙ either_right (contradicts p before) (is_whole (with_part p before)) (remove items place) (set items place (with_part p before)) (ap is_whole (sym new) ∙ sym c.is_whole.ensures ∙ c.if-not-is_whole.false)

pub returns-clause-answer : goal.returns-clause-answer
returns-clause-answer c = λ before stood.
    let p = part_of c.args.fragment.now in
    let items = c.args.partials.now.items in
    let place = c.args.place in
    let same : c.index_mut-partial.result.now ≡ before = stands items place _ before stood c.index_mut-partial.ensures.value in
    let new : c.add.new.self ≡ with_part p before = c.in_ok-add.ensures.added ∙ ap (with_part p) same in
    let taken : c.remove-2.result ≡ c.add.new.self = c.remove-2.ensures.value ∙ get_or-set_same items place c.add.new.self c.remove-2.result c.requires in
    ap (λ (bytes : List ℕ). Some bytes) (c.into_payload.ensures ∙ ap payload_of (taken ∙ new))
    ∙ both (contradicts p before) (is_whole (with_part p before)) (Some (payload_of (with_part p before))) None
    (ap (contradicts p) (sym same) ∙ sym c.is_contradicted_by.ensures ∙ c.if-is_contradicted_by.false)
    (ap is_whole (sym new) ∙ sym c.is_whole.ensures ∙ c.if-not-is_whole.false)
