use Rattle.std.proofs.Common.{length-take, ◌≡◌, ◌-◌, ◌≤◌, length, take, arith}
use Rattle.std.proofs.lemmas.Result.{err_from_is_err_and}
use Rattle.captures.proofs.Windows.{grown_in, kept_in}
use Rattle.captures.proofs.window.Window.read_behind.Goals as goal

pub returns-in_err-count-clause-kept : goal.returns-in_err-count-clause-kept
returns-in_err-count-clause-kept g c =
    let w = c.args.self.now in
    let all = c.deref_mut.result.now in
    let within : w.end ≤ length all = omega (arith, c.deref_mut.ensures.len) in
    let long : length c.read_once.new.buffer ≡ length all - w.end = omega (arith, c.read_once.auto.buffer) in
    let p = err_from_is_err_and c.from_residual.result c.from_residual.ensures.1 in
    rw p.1 (kept_in w.bytes all c.read_once.new.buffer w.start w.end c.deref_mut.ensures.value w.ordered within long, c.in_err-count.ensures.kept)

pub returns-clause-bytes : goal.returns-clause-bytes
returns-clause-bytes g c =
    let w = c.args.self.now in
    let all = c.deref_mut.result.now in
    let n = c.in_ok-count.count in
    let within : w.end ≤ length all = omega (arith, c.deref_mut.ensures.len) in
    let long : length c.read_once.new.buffer ≡ length all - w.end = omega (arith, c.read_once.auto.buffer) in
    let bound = c.in_ok-count.ensures.bound in
    let count : length (take n c.read_once.new.buffer) ≡ n = omega (arith, length-take n c.read_once.new.buffer) in
    (take n c.read_once.new.buffer, count, grown_in w.bytes all c.read_once.new.buffer w.start w.end n c.deref_mut.ensures.value w.ordered within long bound, c.in_ok-count.ensures.bytes)
