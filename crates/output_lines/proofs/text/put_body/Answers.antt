use Rattle.std.proofs.Common.{sym, rules}
use Rattle.output_lines.proofs.Bodies.{body_of_lsa, router_body, body_printed, boundary_printed, external_printed}
use Rattle.output_lines.proofs.text.put_body.Goals as goal

pub put_router-requires : goal.put_router-requires
put_router-requires c =
    router_body c.args.lsa.now _ _ (body_of_lsa _ _ _ c.header-header.ensures.legal c.header-header.ensures.value c.body-body.ensures) c.in-1.is

pub returns-in-1 : goal.returns-in-1
returns-in-1 c =
    body_printed c.args.lsa.now _ 1 _ _ _ _ (body_of_lsa _ _ _ c.header-header.ensures.legal c.header-header.ensures.value c.body-body.ensures) (sym c.in-1.is) c.put_router.ensures

pub returns-in-2 : goal.returns-in-2
returns-in-2 c =
    body_printed c.args.lsa.now _ 2 _ _ _ _ (body_of_lsa _ _ _ c.header-header.ensures.legal c.header-header.ensures.value c.body-body.ensures) (sym c.in-2.is) c.put_network.ensures

pub returns-in-3 : goal.returns-in-3
returns-in-3 c =
    body_printed c.args.lsa.now _ 3 _ _ _ _ (body_of_lsa _ _ _ c.header-header.ensures.legal c.header-header.ensures.value c.body-body.ensures) (sym c.in-3.is) c.put_summary.ensures

pub returns-in-4 : goal.returns-in-4
returns-in-4 c =
    boundary_printed c.args.lsa.now _ _ _ _ _ (body_of_lsa _ _ _ c.header-header.ensures.legal c.header-header.ensures.value c.body-body.ensures) c.in-4.is c.put_summary-in-4.ensures

pub returns-in_default : goal.returns-in_default
returns-in_default c =
    external_printed c.args.lsa.now _ _ _ _ _ (body_of_lsa _ _ _ c.header-header.ensures.legal c.header-header.ensures.value c.body-body.ensures) (search rules) (search rules) (search rules) (search rules) c.put_external.ensures
