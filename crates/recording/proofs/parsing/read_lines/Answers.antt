use Rattle.std.proofs.Common.{IfErr, ℕ, ◌≡◌, ◌+◌, List, [], ◌∷◌, refl, sym, ap, subst, ◌∙◌}
use Rattle.std.proofs.lemmas.Result.{err_from_is_err_and}
use Rattle.recording.specs.declared.fault.Fault.TheVariants as fault
use Rattle.recording.specs.declared.fault.LineFault.{LineFault}
use Rattle.recording.specs.declared.line.Line.{Line}
use Rattle.recording.specs.Faults.{IsFaultOf}
use Rattle.recording.specs.Left.{left_in, parts_left}
use Rattle.recording.specs.Progress.{HasLines}
use Rattle.recording.specs.Recordings.{RecordingValue, IsText}
use Rattle.recording.proofs.Beginning.{at_place}
use Rattle.recording.proofs.LineSteps.{fault_behind, cut_behind, line_step, pushed_lines, whole_text}
use Rattle.recording.proofs.Parts.{parts_full}
use Rattle.recording.proofs.parsing.read_lines.Goals as goal

-- a fault under another name of the text and of the fault
named : (text text' : List ℕ) (l l' : LineFault) → text ≡ text' → l' ≡ l → IsFaultOf text l → IsFaultOf text' l'
named text text' l l' t e h = subst (λ (x : List ℕ). IsFaultOf x l') t (subst (IsFaultOf text) (sym e) h)

pub returns-in-Err-clause-fault : goal.returns-in-Err-clause-fault
returns-in-Err-clause-fault c =
    let at = c.loop-line.invariant in
    let left = c.loop-line.left in
    named left.text.now c.args.lines.text.now (record { line = left.taken + 1; fault = c.in-Err.fault }) c.fault.result at.text c.fault.ensures (fault_behind at.read c.in-Some.line.now (parts_left c.in-Some.after) c.in-Some.ensures.line (parts_full (left_in c.in-Some.after)) at.end c.in-Err.fault c.in-Err.ensures.fault)

pub loop-line-preserved : goal.loop-line-preserved
loop-line-preserved c =
    let at = c.loop-line.invariant in
    let left = c.loop-line.left in
    let added = c.in_default-add_line.ensures.added in
    let r : List Line → RecordingValue = λ lines. record { version = c.args.version; base = c.args.base; lines = lines } in
    let next = line_step at.read c.in-Some.line.now (parts_left c.in-Some.after) c.in-Some.ensures.line (parts_full (left_in c.in-Some.after)) added.0 added.1 in
    let lines = subst (λ (ls : List Line). HasLines left.text.now (left.taken + 1) (parts_left c.in-Some.after) (r ls)) (sym added.2) next in record {
      read = at_place (λ text taken. HasLines text taken (parts_left c.in-Some.after) (r c.add_line.new.lines.items)) left.text.now c.in-Some.after.text.now (left.taken + 1) c.in-Some.after.taken c.in-Some.ensures.text c.in-Some.ensures.taken lines;
      end = λ none. absurd (pushed_lines c.loop-line.found.items added.0 (sym added.2 ∙ none));
      text = c.in-Some.ensures.text ∙ at.text;
    }

pub returns-clause-text : goal.returns-clause-text
returns-clause-text c =
    let at = c.loop-line.invariant in
    let left = c.loop-line.left in
    let parts : parts_left left ≡ [] ∷ [] = c.in_default.ensures.none refl ∙ ap (λ (t : List ℕ). t ∷ []) c.in_ok-end.ensures.ok in
    let whole = whole_text at.read parts in
    subst (λ (t : List ℕ). IsText t c.of_tested.result) at.text (subst (IsText left.text.now) (sym c.of_tested.ensures) whole)

pub returns-in_err-end-clause-fault : goal.returns-in_err-end-clause-fault
returns-in_err-end-clause-fault c =
    let p = err_from_is_err_and c.from_residual.result c.from_residual.ensures.1 in
    let P : LineFault → Type 0 = IsFaultOf c.args.lines.text.now in
    let at = c.loop-line.invariant in
    let left = c.loop-line.left in
    let cut = cut_behind at.read (left_in left) (c.in_default.ensures.none refl) c.in_err-end.ensures.cut in
    subst (λ r. IfErr r P) (sym p.1) (named left.text.now c.args.lines.text.now (record { line = left.taken + 1; fault = fault.Truncated }) p.0 at.text (p.2 ∙ c.in_err-end.ensures.fault) cut)
