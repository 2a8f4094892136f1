use Rattle.std.proofs.Common.{◌≡◌, Some, None, sym, ◌∙◌, rules}
use Rattle.std.specs.Cmp.{nat_cmp_total}
use Rattle.std.specs.FinMap.{get}
use Rattle.std.proofs.lemmas.Map.Lookups.{exact_unsigned}
use Rattle.event_state.specs.States.{interfaces_of}
use Rattle.ospf_types.proofs.Maps.{from_entries-insert, get-lookup}
use Rattle.event_state.proofs.interfaces.put_interface.Goals as goal

pub returns-in-None-clause-done : goal.returns-in-None-clause-done
returns-in-None-clause-done c = from_entries-insert nat_cmp_total exact_unsigned c.args.interfaces.now.entries c.insert.new.self.entries c.args.id c.args.interface c.in_ok-insert.ensures.updates.0

pub returns-in-Some-clause-done : goal.returns-in-Some-clause-done
returns-in-Some-clause-done c = from_entries-insert nat_cmp_total exact_unsigned c.args.interfaces.now.entries c.insert.new.self.entries c.args.id c.args.interface c.in_ok-insert.ensures.updates.0

pub returns-in-None-clause-changed : goal.returns-in-None-clause-changed
returns-in-None-clause-changed c =
    let held : get (interfaces_of c.args.interfaces.now) c.args.id ≡ None = get-lookup nat_cmp_total c.args.interfaces.now.entries c.args.id ∙ sym c.in_ok-insert.ensures.old ∙ c.in-None.is in
    (λ e. absurd cc, λ e. absurd cc)

pub returns-in-Some-clause-changed : goal.returns-in-Some-clause-changed
returns-in-Some-clause-changed c =
    let held : get (interfaces_of c.args.interfaces.now) c.args.id ≡ Some c.in-Some.before = get-lookup nat_cmp_total c.args.interfaces.now.entries c.args.id ∙ sym c.in_ok-insert.ensures.old ∙ c.in-Some.is in
    rw held (search rules)
