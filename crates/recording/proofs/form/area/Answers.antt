use Rattle.std.proofs.Common.{[], ◌∙◌, sym, append-nil}
use Rattle.recording.specs.Forms.{stub_words}
use Rattle.recording.proofs.Saying.{area_words, same_rest}
use Rattle.recording.proofs.form.area.Goals as goal

pub returns-in_err-id : goal.returns-in_err-id
returns-in_err-id c = rw c.from_residual.ensures (λ form said. let w = area_words _ form said in c.in_err-id.ensures w.id (stub_words w.stub) w.address w.spelled)

pub returns-in_err-stub : goal.returns-in_err-stub
returns-in_err-stub c =
    rw c.from_residual-in_err-stub.ensures
    (λ form said.
    let w = area_words _ form said in
    c.in_err-stub.ensures w.stub [] w.legal (same_rest c.in_ok-id.ensures.1 w.spelled ∙ sym (append-nil (stub_words w.stub))))
