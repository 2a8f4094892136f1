use Rattle.std.proofs.Common.{◌≡◌, ◌∙◌, ℕ, sym, ap, arith, string_bytes}
use Rattle.ospf_types.specs.Text.{address_text}
use Rattle.cli_queries.specs.One.{lookup_line}
use Rattle.cli_queries.proofs.Answering.{line_printed}
use Rattle.cli_queries.proofs.one_lookup.line_of.Goals as goal

pub returns-clause-line : goal.returns-clause-line
returns-clause-line c =
    let seen = c.args.seen.now in
    let found = c.found-found.result in
    let right = c.found-found.ensures.right in
    let two : c.serial-serial.result ≡ 2 = omega (arith, c.if-serial-ne2.false) in
    let printed : string_bytes c.in_ok-format.field-0 ≡ lookup_line (address_text c.args.address) seen.table found = line_printed _ (address_text c.args.address) c.serial-serial.result seen.table found
    c.in_ok-format.ensures.ok c.serial-serial.ensures.table in
    record {
      both = omega (arith, two, c.serial-serial.ensures.value, c.requires.first);
      right = right;
      found = found;
      matched = c.found-found.ensures.found;
      printed = printed ∙ ap (λ (a : ℕ). lookup_line (address_text a) seen.table found) (sym c.requires.address);
    }
