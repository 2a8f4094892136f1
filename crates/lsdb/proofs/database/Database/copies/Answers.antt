use Rattle.std.proofs.Common.{[], sym, ap, ◌∙◌, arith}
use Rattle.std.specs.FinMap.{get}
use Rattle.ospf_types.specs.declared.key.Key.{Key}
use Rattle.lsdb.proofs.Finding.{found_more, one_found, none_found}
use Rattle.lsdb.proofs.database.Database.copies.Goals as goal
use Rattle.lsdb.proofs.database.Database.copies.Goals.{in-Some+in_ok-push, in_default}

pub loop-key-preserved : goal.loop-key-preserved
loop-key-preserved c =
    let none : Key = record { kind = 0; id = 0; router = 0 } in
    let before = c.loop-key.lsas.items in
    found_more (get c.args.self.now.lsas) c.args.keys.now c.loop-key.key-index none [] before c.match-branch-3.lsas.items (omega arith) c.loop-key.invariant
    (elim c.match-branch-3.branch [
      | in-Some+in_ok-push w ↦ ap (λ v. v.items) w.lsas-is ∙ w.in_ok-push.ensures.items ∙ one_found _ w.in-Some.lsa before (sym c.in_ok-lsa.ensures ∙ w.in-Some.is)
      | in_default w ↦ ap (λ v. v.items) w.lsas-is ∙ none_found _ before (sym c.in_ok-lsa.ensures ∙ w.in_default.is)
    ])
