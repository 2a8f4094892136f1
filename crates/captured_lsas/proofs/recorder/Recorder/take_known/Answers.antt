use Rattle.std.proofs.Common.{◌∙◌, refl, sym, ap}
use Rattle.captured_lsas.specs.Recording.{instance_in, is_repeated, with_noted}
use Rattle.captured_lsas.proofs.ReadLsas.{read_instance, read_age}
use Rattle.captured_lsas.proofs.Discarding.{repeated, not_repeated}
use Rattle.captured_lsas.proofs.recorder.Recorder.take_known.Goals as goal

pub returns-then-branch-clause-recorded : goal.returns-then-branch-clause-recorded
returns-then-branch-clause-recorded c =
    let same = read_instance c.args.area c.args.bytes.now c.args.lsa c.requires c.scope_of-scope.result c.key-key.result c.header-header.result c.scope_of-scope.ensures c.key-key.ensures.value c.header-header.ensures.value in
    repeated c.args.self.now (instance_in c.args.area c.args.bytes.now) (ap (is_repeated c.args.self.now) (sym same) ∙ sym c.in_ok-note.ensures.answer ∙ c.if-branch.true)

pub returns-then-branch-clause-noted : goal.returns-then-branch-clause-noted
returns-then-branch-clause-noted c =
    let same = read_instance c.args.area c.args.bytes.now c.args.lsa c.requires c.scope_of-scope.result c.key-key.result c.header-header.result c.scope_of-scope.ensures c.key-key.ensures.value c.header-header.ensures.value in
    c.in_ok-note.ensures.noted ∙ ap (with_noted c.args.self.now) same

pub returns-clause-recorded : goal.returns-clause-recorded
returns-clause-recorded c =
    let same = read_instance c.args.area c.args.bytes.now c.args.lsa c.requires c.scope_of-scope.result c.key-key.result c.header-header.result c.scope_of-scope.ensures c.key-key.ensures.value c.header-header.ensures.value in (
      not_repeated c.args.self.now (instance_in c.args.area c.args.bytes.now) (ap (is_repeated c.args.self.now) (sym same) ∙ sym c.in_ok-note.ensures.answer ∙ c.if-branch.false),
      c.scope_of-scope.ensures,
      refl,
      read_age c.args.bytes.now c.args.lsa c.requires c.header-header.result c.header-header.ensures.value c.is_max_age-purges.result c.is_max_age-purges.ensures,
    )

pub returns-clause-noted : goal.returns-clause-noted
returns-clause-noted c =
    let same = read_instance c.args.area c.args.bytes.now c.args.lsa c.requires c.scope_of-scope.result c.key-key.result c.header-header.result c.scope_of-scope.ensures c.key-key.ensures.value c.header-header.ensures.value in
    c.in_ok-note.ensures.noted ∙ ap (with_noted c.args.self.now) same
