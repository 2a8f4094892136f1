use Rattle.std.proofs.Common.{List, ℕ, sym, ap, subst, ◌∙◌, arith}
use Rattle.lsa_codec.specs.Spelling.{Spells}
use Rattle.lsa_codec.specs.Decoding.{lsa_of}
use Rattle.lsa_codec.specs.Kept.{IsKept}
use Rattle.lsa_codec.proofs.Bodies.{takes_all}
use Rattle.lsa_codec.proofs.Again.{spelled_none, spelled_same, unshared}
use Rattle.lsa_codec.proofs.reading.read.Goals as goal

pub returns-in-Some-clause-only : goal.returns-in-Some-clause-only
returns-in-Some-clause-only c = λ l sound spells.
    let none = spelled_none c.args.bytes.now l sound spells in
    cc

pub invariant_of-result : goal.invariant_of-result
invariant_of-result c =
    let kept = takes_all c.args.bytes.now (λ i. omega (arith, c.type_inv.bytes i)) (sym c.fault.ensures ∙ c.in-None.is) in
    subst IsKept (sym c.in_ok-from_slice-in-None.ensures.items) kept

pub returns-in_ok-from_slice-in-None-clause-sound : goal.returns-in_ok-from_slice-in-None-clause-sound
returns-in_ok-from_slice-in-None-clause-sound c =
    let kept = takes_all c.args.bytes.now (λ i. omega (arith, c.type_inv.bytes i)) (sym c.fault.ensures ∙ c.in-None.is) in
    kept.sound

pub returns-in_ok-from_slice-in-None-clause-found : goal.returns-in_ok-from_slice-in-None-clause-found
returns-in_ok-from_slice-in-None-clause-found c =
    let kept = takes_all c.args.bytes.now (λ i. omega (arith, c.type_inv.bytes i)) (sym c.fault.ensures ∙ c.in-None.is) in
    subst (λ (b : List ℕ). Spells c.args.bytes.now (lsa_of b)) (sym c.in_ok-from_slice-in-None.ensures.items) kept.spells

pub returns-in_ok-from_slice-in-None-clause-only : goal.returns-in_ok-from_slice-in-None-clause-only
returns-in_ok-from_slice-in-None-clause-only c = λ l sound spells.
    ap lsa_of c.in_ok-from_slice-in-None.ensures.items ∙ spelled_same c.args.bytes.now l spells

pub returns-in_err-from_slice-in-None-clause-unshared : goal.returns-in_err-from_slice-in-None-clause-unshared
returns-in_err-from_slice-in-None-clause-unshared c = unshared c.args.bytes.now

pub returns-in-Some-clause-unshared : goal.returns-in-Some-clause-unshared
returns-in-Some-clause-unshared c = unshared c.args.bytes.now

pub returns-in_ok-from_slice-in-None-clause-unshared : goal.returns-in_ok-from_slice-in-None-clause-unshared
returns-in_ok-from_slice-in-None-clause-unshared c = unshared c.args.bytes.now
