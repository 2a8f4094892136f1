use Rattle.std.proofs.Common.{◌≡◌, ◌-◌, length}
use Rattle.captures.specs.Options.{with_options, timing_of}
use Rattle.captures.proofs.options.timing_in.Given as goal

-- the timing of the options that are left completes the timing of all
abbrev pub invariant-loop : goal.invariant-loop
invariant-loop l = with_options l.order (length l.options - l.counter) l.rest l.timing ≡ timing_of l.order l.options
