use Rattle.std.proofs.Common.{List, sym, ap, ◌∙◌}
use Rattle.ospf_types.specs.declared.config.AreaConfig.{AreaConfig}
use Rattle.ospf_types.specs.declared.key.Scope.{Scope}
use Rattle.ospf_types.specs.Lsa.{Lsa}
use Rattle.recording.specs.Left.{row_at}
use Rattle.recording.specs.Places.{last_of, is_past_place, unfit_under}
use Rattle.recording.specs.Reading.{bytes_of}
use Rattle.recording.proofs.BaseSteps.{IsReadAs, key_refused, key_taken, lsa_taken, read_sound, unfit_told}
use Rattle.recording.proofs.Rows.{row_more}
use Rattle.recording.proofs.base_lines.BaseLines.add_lsa.Goals as goal

pub returns-then-not-is_past_place-clause-fault : goal.returns-then-not-is_past_place-clause-fault
returns-then-not-is_past_place-clause-fault c =
    let read : IsReadAs (bytes_of c.args.digits.now) c.in_ok-lsa.lsa c.key-key.result = record { spelled = c.in_ok-lsa.ensures.spelled; whole = c.in_ok-lsa.ensures.whole; keyed = c.key-key.ensures.value } in
    let told = c.is_past_place.ensures ∙ ap (λ (t : List (Scope × Lsa)). is_past_place (last_of t) (c.args.scope, c.key-key.result)) c.as_slice.ensures in
    key_refused read (last_of c.args.self.now.base.lsas) c.args.scope c.is_past_place.result told c.if-not-is_past_place.true

pub returns-in-Some-unfit_under-clause-fault : goal.returns-in-Some-unfit_under-clause-fault
returns-in-Some-unfit_under-clause-fault c =
    let read : IsReadAs (bytes_of c.args.digits.now) c.in_ok-lsa.lsa c.key-key.result = record { spelled = c.in_ok-lsa.ensures.spelled; whole = c.in_ok-lsa.ensures.whole; keyed = c.key-key.ensures.value } in
    let b = c.args.self.now.base in
    let told = c.is_past_place.ensures ∙ ap (λ (t : List (Scope × Lsa)). is_past_place (last_of t) (c.args.scope, c.key-key.result)) c.as_slice.ensures in
    let row = c.in-Some.ensures in
    let unfit = unfit_told read b.config.areas b.lsas c.args.scope c.in-Some.row c.unfit_under.result row.1 (c.unfit_under.ensures ∙ ap (λ (areas : List AreaConfig). unfit_under areas c.args.scope c.key-key.result.kind c.in-Some.row) c.as_slice-2.ensures) in
    (key_taken read (last_of b.lsas) c.args.scope c.is_past_place.result row.0 told c.if-not-is_past_place.false, read_sound read, unfit ∙ c.in-Some-unfit_under.is)

pub returns-clause-taken : goal.returns-clause-taken
returns-clause-taken c =
    let read : IsReadAs (bytes_of c.args.digits.now) c.in_ok-lsa.lsa c.key-key.result = record { spelled = c.in_ok-lsa.ensures.spelled; whole = c.in_ok-lsa.ensures.whole; keyed = c.key-key.ensures.value } in
    let b = c.args.self.now.base in
    let told = c.is_past_place.ensures ∙ ap (λ (t : List (Scope × Lsa)). is_past_place (last_of t) (c.args.scope, c.key-key.result)) c.as_slice.ensures in
    let row = c.in-Some.ensures in
    let unfit = unfit_told read b.config.areas b.lsas c.args.scope c.in-Some.row c.unfit_under.result row.1 (c.unfit_under.ensures ∙ ap (λ (areas : List AreaConfig). unfit_under areas c.args.scope c.key-key.result.kind c.in-Some.row) c.as_slice-2.ensures) in
    lsa_taken read b c.args.scope (key_taken read (last_of b.lsas) c.args.scope c.is_past_place.result row.0 told c.if-not-is_past_place.false) (unfit ∙ c.in_default-unfit_under.is)

pub returns-clause-counted : goal.returns-clause-counted
returns-clause-counted c =
    row_more c.args.self.now.base.lsas (c.args.scope, c.in_ok-lsa.lsa) c.in-Some.row c.in-Some.ensures.1
    ∙ ap (λ (t : List (Scope × Lsa)). row_at t (last_of t)) (sym c.in_ok-add_to.ensures.added)
