-- All that the router's summaries lead to was added.
use Rattle.std.proofs.Common.{◌≡◌, ℕ, sym, subst, ◌∙◌, inl, inr}
use Rattle.std.proofs.lemmas.Result.{on_ok_weaker}
use Rattle.ospf_types.specs.declared.key.Dest.TheVariants.{Router}
use Rattle.advertised_index.specs.Indexes.{GroupLeadsTo}
use Rattle.advertised_index.specs.declared.index_key.IndexKey.TheVariants.{By}
use Rattle.inter.proofs.follow.push_behind.Goals as goal

pub returns-in-Router-clause-kept : goal.returns-in-Router-clause-kept
returns-in-Router-clause-kept c = on_ok_weaker c.list_dests.result (λ pushed d there. (pushed d).1 (inl there)) c.list_dests.ensures

pub returns-in-Router-clause-behind : goal.returns-in-Router-clause-behind
returns-in-Router-clause-behind c =
    on_ok_weaker c.list_dests.result
    (λ pushed router d is leads.
    let same : Router router ≡ Router c.in-Router.router = sym is ∙ c.in-Router.is in
    let one : router ≡ c.in-Router.router = cc in
    (pushed d).1 (inr (subst (λ (r : ℕ). GroupLeadsTo c.args.index.now (By r) d) one leads)))
    c.list_dests.ensures
