use Rattle.std.proofs.Common.{◌≡◌, false, ap, subst, ◌∙◌}
use Rattle.std.specs.Prelude.{◌↔◌, Option, is_some, option_and_then}
use Rattle.std.specs.FinMap.{get}
use Rattle.ospf_types.specs.Lsa.{Lsa}
use Rattle.lsdb.specs.Contents.{contents_of}
use Rattle.lsdb.proofs.database.Database.compared.Goals as goal

pub returns-in-Some-clause-found : goal.returns-in-Some-clause-found
returns-in-Some-clause-found c = ap is_some (c.in-Some.ensures.value ∙ ap (get c.args.self.now.lsas) c.key.ensures.value)

pub returns-in-Some-clause-changed : goal.returns-in-Some-clause-changed
returns-in-Some-clause-changed c =
    subst (λ (o : Option Lsa). (c.is_used_otherwise.result ≡ false) ↔ (option_and_then contents_of o ≡ contents_of c.args.lsa.now)) (c.in-Some.ensures.value ∙ ap (get c.args.self.now.lsas) c.key.ensures.value) c.is_used_otherwise.ensures

pub returns-in-None-clause-found : goal.returns-in-None-clause-found
returns-in-None-clause-found c = ap is_some (c.in-None.ensures.value ∙ ap (get c.args.self.now.lsas) c.key.ensures.value)

pub returns-in-None-clause-changed : goal.returns-in-None-clause-changed
returns-in-None-clause-changed c =
    subst (λ (o : Option Lsa). (c.is_used_otherwise-in-None.result ≡ false) ↔ (option_and_then contents_of o ≡ contents_of c.args.lsa.now)) (c.in-None.ensures.value ∙ ap (get c.args.self.now.lsas) c.key.ensures.value) c.is_used_otherwise-in-None.ensures
