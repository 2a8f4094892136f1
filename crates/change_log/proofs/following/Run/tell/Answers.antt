use Rattle.std.proofs.Common.{refl}
use Rattle.std.proofs.lemmas.Result.{IfOk-from_err}
use Rattle.replay.proofs.Written.{err_as}
use Rattle.change_log.specs.Runs.{Comes, Fails}
use Rattle.change_log.proofs.Cores.{current_taken}
use Rattle.change_log.proofs.FollowSteps.{fault_stops, fault_tells, read_as, skipped, stops_at, stops_before}
use Rattle.change_log.proofs.following.Run.tell.Goals as goal

pub returns-in-Err-Memory-clause-err : goal.returns-in-Err-Memory-clause-err
returns-in-Err-Memory-clause-err g c = λ whole. stops_before c.args.self.now _ whole

pub returns-in_err-tell_next-clause-err : goal.returns-in_err-tell_next-clause-err
returns-in_err-tell_next-clause-err g c =
    let reads = read_as _ _ _ (Comes c.in-Ok.line) c.as_slice.ensures.value c.in-Ok.ensures.says in
    λ whole. err_as _ c.from_residual-in_err-tell_next.result c.in_err-tell_next.field-0.0 c.from_residual-in_err-tell_next.ensures.1
    (stops_at _ c.args.self.now (Comes c.in-Ok.line) _ _ _ reads (λ no. tt) whole (c.in_err-tell_next.ensures.err whole))

pub returns-clause-ok : goal.returns-clause-ok
returns-clause-ok g c = (
  record {
    same = record { version = refl; skips_faults = refl; progress = refl; wanted = refl; answers = refl };
    taken = Comes c.in-Ok.line;
    reads = read_as _ _ _ (Comes c.in-Ok.line) c.as_slice.ensures.value c.in-Ok.ensures.says;
    said = λ no. tt;
    told = c.in_ok-tell_next.ensures.ok;
    core = c.in_ok-tell_next.ensures.kept;
    current = current_taken c.args.self.now.at.answers c.in_ok-tell_next.ensures.ok.told c.args.self.now.core c.tell_next.new.core (Comes c.in-Ok.line) c.requires.current c.in_ok-tell_next.ensures.ok.tells;
  },
  refl,
)

pub returns-in_err-tell_fault-in-Err : goal.returns-in_err-tell_fault-in-Err
returns-in_err-tell_fault-in-Err g c =
    let reads = read_as _ _ _ (Fails c.in-Err.fault) c.as_slice.ensures.value c.in-Err.ensures.fails in
    record {
      ok = IfOk-from_err _ _ c.from_residual.ensures.0;
      err = λ whole.
          err_as _ c.from_residual.result c.in_err-tell_fault-in-Err.field-0.0 c.from_residual.ensures.1
          (stops_at _ c.args.self.now (Fails c.in-Err.fault) c.args.self.now.core _ _ reads (λ no. absurd (skipped _ c.if-not-self.false no)) whole
          (fault_stops _ c.args.self.now c.in-Err.fault _ _ (c.in_err-tell_fault-in-Err.ensures.err whole)));
    }

pub returns-in-Err : goal.returns-in-Err
returns-in-Err g c = record {
  ok = (
    record {
      same = record { version = refl; skips_faults = refl; progress = refl; wanted = refl; answers = refl };
      taken = Fails c.in-Err.fault;
      reads = read_as _ _ _ (Fails c.in-Err.fault) c.as_slice.ensures.value c.in-Err.ensures.fails;
      said = λ no. absurd (skipped _ c.if-not-self.false no);
      told = fault_tells c.args.self.now c.in-Err.fault _ _ _ c.in_ok-tell_fault-in-Err.ensures.ok;
      core = c.requires.kept;
      current = c.requires.current;
    },
    refl,
  );
  err = λ whole. tt;
}
