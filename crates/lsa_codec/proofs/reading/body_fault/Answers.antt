use Rattle.std.proofs.Common.{ap, ◌∙◌}
use Rattle.lsa_codec.specs.declared.findings.Findings.{Findings}
use Rattle.lsa_codec.proofs.Tables.{is_reserved, is_mask, is_routerid, is_linktype, is_shape, is_none_of_body}
use Rattle.lsa_codec.proofs.HeaderTests.{own_is, found_is}
use Rattle.lsa_codec.proofs.reading.body_fault.Goals as goal

pub returns-then-found : goal.returns-then-found
returns-then-found c =
    let found = found_is c.args.bytes.now c.header_in-header.result c.body_findings-found.result c.header_in-header.ensures c.body_findings-found.ensures in
    is_reserved c.args.bytes.now (ap (λ (f : Findings). f.reserved) found ∙ c.if-found.true)

pub returns-then-found-2 : goal.returns-then-found-2
returns-then-found-2 c =
    let found = found_is c.args.bytes.now c.header_in-header.result c.body_findings-found.result c.header_in-header.ensures c.body_findings-found.ensures in
    is_mask c.args.bytes.now (ap (λ (f : Findings). f.reserved) found ∙ c.if-found.false) (ap (λ (f : Findings). f.mask) found ∙ c.if-found-2.true)

pub returns-then-is_other_router : goal.returns-then-is_other_router
returns-then-is_other_router c =
    let found = found_is c.args.bytes.now c.header_in-header.result c.body_findings-found.result c.header_in-header.ensures c.body_findings-found.ensures in
    is_routerid c.args.bytes.now (ap (λ (f : Findings). f.reserved) found ∙ c.if-found.false) (ap (λ (f : Findings). f.mask) found ∙ c.if-found-2.false) (own_is c.args.bytes.now c.header_in-header.result c.is_other_router.result c.header_in-header.ensures c.is_other_router.ensures ∙ c.if-is_other_router.true)

pub returns-then-found-3 : goal.returns-then-found-3
returns-then-found-3 c =
    let found = found_is c.args.bytes.now c.header_in-header.result c.body_findings-found.result c.header_in-header.ensures c.body_findings-found.ensures in
    is_linktype c.args.bytes.now (ap (λ (f : Findings). f.reserved) found ∙ c.if-found.false) (ap (λ (f : Findings). f.mask) found ∙ c.if-found-2.false) (own_is c.args.bytes.now c.header_in-header.result c.is_other_router.result c.header_in-header.ensures c.is_other_router.ensures ∙ c.if-is_other_router.false) (ap (λ (f : Findings). f.link_type) found ∙ c.if-found-3.true)

pub returns-then-found-4 : goal.returns-then-found-4
returns-then-found-4 c =
    let found = found_is c.args.bytes.now c.header_in-header.result c.body_findings-found.result c.header_in-header.ensures c.body_findings-found.ensures in
    is_shape c.args.bytes.now (ap (λ (f : Findings). f.reserved) found ∙ c.if-found.false) (ap (λ (f : Findings). f.mask) found ∙ c.if-found-2.false) (own_is c.args.bytes.now c.header_in-header.result c.is_other_router.result c.header_in-header.ensures c.is_other_router.ensures ∙ c.if-is_other_router.false) (ap (λ (f : Findings). f.link_type) found ∙ c.if-found-3.false) (ap (λ (f : Findings). f.shape) found ∙ c.if-found-4.true)

pub returns : goal.returns
returns c =
    let found = found_is c.args.bytes.now c.header_in-header.result c.body_findings-found.result c.header_in-header.ensures c.body_findings-found.ensures in
    is_none_of_body c.args.bytes.now (ap (λ (f : Findings). f.reserved) found ∙ c.if-found.false) (ap (λ (f : Findings). f.mask) found ∙ c.if-found-2.false) (own_is c.args.bytes.now c.header_in-header.result c.is_other_router.result c.header_in-header.ensures c.is_other_router.ensures ∙ c.if-is_other_router.false) (ap (λ (f : Findings). f.link_type) found ∙ c.if-found-3.false) (ap (λ (f : Findings). f.shape) found ∙ c.if-found-4.false)
