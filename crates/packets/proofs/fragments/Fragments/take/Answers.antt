use Rattle.std.proofs.Common.{◌≡◌, List, OnOk, ap, sym, subst, ◌∙◌}
use Rattle.std.specs.List.{position}
use Rattle.std.proofs.lemmas.Result.{on_ok_weaker}
use Rattle.packets.specs.declared.key.FragmentKey.{FragmentKey}
use Rattle.packets.specs.Parts.{part_of}
use Rattle.packets.specs.Kept.{Kept, key_of, with_part}
use Rattle.packets.specs.Keeping.{AreKeysApart, has_key, kept_of, kept_after, whole_with, begun, whole_at_once, IsPayloadAnswer}
use Rattle.packets.proofs.AllTaken.{taken_from}
use Rattle.packets.proofs.ByKey.{stands_at, is_missing}
use Rattle.packets.proofs.Stepping.{went_on, still_kept, began, begun_still, whole_is, same_answer}
use Rattle.packets.proofs.fragments.Fragments.take.Goals as goal

pub invariant_of-self : goal.invariant_of-self
invariant_of-self c =
    let all = c.self.inside.partials.items in
    let stands = stands_at c.of-key.result all c.in-Some.place (ap (position (has_key c.of-key.result)) c.self.view_is ∙ sym c.place_of.ensures ∙ c.in-Some.is) c.self.invariant.1 in
    still_kept c.go_on.result c.of-key.result (part_of c.args.fragment.now) all c.go_on.new.partials.items c.in-Some.place c.args.fragment.now.fits stands (c.go_on.ensures.kept _ stands.here) c.go_on.ensures.unchanged c.self.invariant

pub invariant_of-self-in-None : goal.invariant_of-self-in-None
invariant_of-self-in-None c =
    let all = c.self.inside.partials.items in
    let p = part_of c.args.fragment.now in
    let missing = is_missing c.of-key.result all (ap (position (has_key c.of-key.result)) c.self.view_is ∙ sym c.place_of.ensures ∙ c.in-None.is) in
    let kept = subst (λ (k : Kept). OnOk c.begin.result (c.begin.new.partials.items ≡ begun (with_part p k) all)) c.new.ensures c.begin.ensures.kept in
    begun_still c.begin.result c.of-key.result p all c.begin.new.partials.items c.args.fragment.now.fits missing kept c.begin.ensures.unchanged c.self.invariant

pub returns-in-Some-clause-kept : goal.returns-in-Some-clause-kept
returns-in-Some-clause-kept c =
    let all = c.self.inside.partials.items in
    let new = c.go_on.new.partials.items in
    let p = part_of c.args.fragment.now in
    let stands = stands_at c.of-key.result all c.in-Some.place (ap (position (has_key c.of-key.result)) c.self.view_is ∙ sym c.place_of.ensures ∙ c.in-Some.is) c.self.invariant.1 in
    let after = went_on c.go_on.result c.of-key.result p all new c.in-Some.place stands (c.go_on.ensures.kept _ stands.here) in
    on_ok_weaker c.go_on.result (λ e. e ∙ ap (λ (k : FragmentKey). kept_after k p all) c.of-key.ensures ∙ ap (kept_after (key_of c.args.fragment.now) p) c.self.view_is) after

pub returns-in-Some-clause-answer : goal.returns-in-Some-clause-answer
returns-in-Some-clause-answer c =
    let all = c.self.inside.partials.items in
    let p = part_of c.args.fragment.now in
    let stands = stands_at c.of-key.result all c.in-Some.place (ap (position (has_key c.of-key.result)) c.self.view_is ∙ sym c.place_of.ensures ∙ c.in-Some.is) c.self.invariant.1 in
    same_answer c.go_on.result _ _
    (ap (λ (k : FragmentKey). whole_with p (kept_of k all)) c.of-key.ensures ∙ ap (λ (l : List Kept). whole_with p (kept_of (key_of c.args.fragment.now) l)) c.self.view_is)
    (c.go_on.ensures.answer _ stands.here)

pub returns-in-None-clause-kept : goal.returns-in-None-clause-kept
returns-in-None-clause-kept c =
    let all = c.self.inside.partials.items in
    let p = part_of c.args.fragment.now in
    let missing = is_missing c.of-key.result all (ap (position (has_key c.of-key.result)) c.self.view_is ∙ sym c.place_of.ensures ∙ c.in-None.is) in
    let kept = subst (λ (k : Kept). OnOk c.begin.result (c.begin.new.partials.items ≡ begun (with_part p k) all)) c.new.ensures c.begin.ensures.kept in
    let after = began c.begin.result c.of-key.result p all c.begin.new.partials.items missing kept in
    on_ok_weaker c.begin.result (λ e. e ∙ ap (λ (k : FragmentKey). kept_after k p all) c.of-key.ensures ∙ ap (kept_after (key_of c.args.fragment.now) p) c.self.view_is) after

pub returns-in-None-clause-answer : goal.returns-in-None-clause-answer
returns-in-None-clause-answer c =
    let all = c.self.inside.partials.items in
    let p = part_of c.args.fragment.now in
    let missing = is_missing c.of-key.result all (ap (position (has_key c.of-key.result)) c.self.view_is ∙ sym c.place_of.ensures ∙ c.in-None.is) in
    let answer = subst (λ (k : Kept). IsPayloadAnswer c.begin.result (whole_at_once (with_part p k))) c.new.ensures c.begin.ensures.answer in
    same_answer c.begin.result _ _
    (whole_is c.of-key.result p all missing
    ∙ ap (λ (k : FragmentKey). whole_with p (kept_of k all)) c.of-key.ensures ∙ ap (λ (l : List Kept). whole_with p (kept_of (key_of c.args.fragment.now) l)) c.self.view_is)
    answer

pub returns-in-Some-clause-taken : goal.returns-in-Some-clause-taken
returns-in-Some-clause-taken c =
    taken_from c.go_on.result (key_of c.args.fragment.now) (part_of c.args.fragment.now) c.args.self.now c.go_on.new.partials.items (subst AreKeysApart c.self.view_is c.self.invariant.1)
    (returns-in-Some-clause-kept c) (returns-in-Some-clause-answer c)

pub returns-in-None-clause-taken : goal.returns-in-None-clause-taken
returns-in-None-clause-taken c =
    taken_from c.begin.result (key_of c.args.fragment.now) (part_of c.args.fragment.now) c.args.self.now c.begin.new.partials.items (subst AreKeysApart c.self.view_is c.self.invariant.1)
    (returns-in-None-clause-kept c) (returns-in-None-clause-answer c)
