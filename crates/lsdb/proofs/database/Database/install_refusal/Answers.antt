use Rattle.std.proofs.Common.{true, false, option_map, ap, ◌∙◌}
use Rattle.std.specs.FinMap.{get}
use Rattle.ospf_types.specs.declared.lsa.Newer.TheVariants as newer
use Rattle.lsdb.proofs.Refusing.{refused_held, refused_new}
use Rattle.lsdb.proofs.database.Database.install_refusal.Goals as goal

pub returns-in-First : goal.returns-in-First
returns-in-First c =
    let d = c.args.self.now in
    refused_held d.lsas d.limit c.args.lsa.now c.in-Some.held c.header.result newer.First (c.in-Some.ensures ∙ ap (λ k. option_map (λ l. l.header) (get d.lsas k)) c.key.ensures.value) c.header.ensures.value c.in-First.ensures.value

pub returns-in-Same : goal.returns-in-Same
returns-in-Same c =
    let d = c.args.self.now in
    refused_held d.lsas d.limit c.args.lsa.now c.in-Some.held c.header.result newer.Same (c.in-Some.ensures ∙ ap (λ k. option_map (λ l. l.header) (get d.lsas k)) c.key.ensures.value) c.header.ensures.value c.in-Same.ensures.value

pub returns-in-Second : goal.returns-in-Second
returns-in-Second c =
    let d = c.args.self.now in
    refused_held d.lsas d.limit c.args.lsa.now c.in-Some.held c.header.result newer.Second (c.in-Some.ensures ∙ ap (λ k. option_map (λ l. l.header) (get d.lsas k)) c.key.ensures.value) c.header.ensures.value c.in-Second.ensures.value

pub returns-in-None : goal.returns-in-None
returns-in-None c =
    let d = c.args.self.now in
    refused_new d.lsas d.limit c.args.lsa.now true (c.in-None.ensures ∙ ap (λ k. option_map (λ l. l.header) (get d.lsas k)) c.key.ensures.value) c.if-is_full.ensures

pub returns-in-None-2 : goal.returns-in-None-2
returns-in-None-2 c =
    let d = c.args.self.now in
    refused_new d.lsas d.limit c.args.lsa.now false (c.in-None.ensures ∙ ap (λ k. option_map (λ l. l.header) (get d.lsas k)) c.key.ensures.value) c.if-is_full.ensures
